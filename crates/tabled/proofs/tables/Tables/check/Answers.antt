use borrow.Author.Rules.{rules}
use Rattle.tabled.proofs.Answering.{answers_named}
use Rattle.tabled.proofs.tables.Tables.check.Goals as goal

pub returns-clause-answer : goal.returns-clause-answer
returns-clause-answer c =
    answers_named _ _ _ (record {
      theory = record {
        sorts = search rules;
        symbols = search rules;
        inputs = search rules;
        rules = search rules;
        rule_vars = search rules;
        patterns = search rules;
      };
      working = record { vars = search rules; index = search rules; words = search rules; defs = search rules; goals = search rules; lists = search rules };
      missing = search rules;
      facts = search rules;
    }) c.check.ensures.0
