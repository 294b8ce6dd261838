use mathlib.Core.Path.{ap, ◌∙◌}
use native.Mathlib.Omega.{arith}
use lib.ListN.{length}
use Rattle.kernel.proofs.Handed.{handed}
use Rattle.kernel.proofs.Words.{meeting, named_from, variable_too_short, variable_unmet, variable_written, variable_full}
use Rattle.kernel.proofs.patterns.RuleReader.variable.Goals as goal

pub returns-then-name-start-lt2-clause-read : goal.returns-then-name-start-lt2-clause-read
returns-then-name-start-lt2-clause-read c = λ R h.
    variable_too_short c.args.self.now.known.text.now c.args.start c.args.sort c.atom_span-name.ensures R _ c.if-name-start-lt2.true

pub met_or_new-requires : goal.met_or_new-requires
met_or_new-requires c = meeting c.requires c.atom_span-name.ensures

pub returns-in_err-i-clause-read : goal.returns-in_err-i-clause-read
returns-in_err-i-clause-read c = λ R h. rw (handed c.from_residual.result c.from_residual.ensures)
    (variable_unmet c.args.self.now.known.text.now c.args.start c.args.sort c.atom_span-name.ensures R c.if-name-start-lt2.false _ _ _
    (c.in_err-i.ensures.met R _ h.held (named_from c.requires.inside c.atom_span-name.ensures)) c.in_err-i.ensures.same_words.patterns)

pub overflow_add-i : goal.overflow_add-i
overflow_add-i c = omega (
  arith,
  (c.in_ok-i.ensures.met (record { vars = c.requires.vs; words = 0 }) _ c.requires.held (named_from c.requires.inside c.atom_span-name.ensures)).small,
)

pub word-requires : goal.word-requires
word-requires c = record {
  long = ap length c.in_ok-i.ensures.same_words.patterns ∙ c.requires.long;
  small =
      omega (
        arith,
        (c.in_ok-i.ensures.met (record { vars = c.requires.vs; words = 0 }) _ c.requires.held (named_from c.requires.inside c.atom_span-name.ensures)).small,
      );
}

pub returns-in_err-word-clause-read : goal.returns-in_err-word-clause-read
returns-in_err-word-clause-read c = λ R h. rw (handed c.from_residual-in_err-word.result c.from_residual-in_err-word.ensures)
    (variable_full c.args.self.now.known.text.now c.args.start c.args.sort c.atom_span-name.ensures R c.if-name-start-lt2.false _ _
    (c.in_ok-i.ensures.met R _ h.held (named_from c.requires.inside c.atom_span-name.ensures)) _ _ c.word.new.self.used h.words
    (rw (← c.in_ok-i.ensures.same_words.patterns, ← c.in_ok-i.ensures.same_words.used) c.in_err-word.ensures.put))

pub returns-clause-read : goal.returns-clause-read
returns-clause-read c = λ R h.
    rw (c.in_ok-word.ensures.same_vars.vars, c.in_ok-word.ensures.same_vars.count)
    (variable_written c.args.self.now.known.text.now c.args.start c.args.sort c.atom_span-name.ensures R c.if-name-start-lt2.false _ _
    (c.in_ok-i.ensures.met R _ h.held (named_from c.requires.inside c.atom_span-name.ensures)) _ _ h.words c.requires.long
    (rw (← c.in_ok-i.ensures.same_words.patterns, ← c.in_ok-i.ensures.same_words.used) c.in_ok-word.ensures.put))
