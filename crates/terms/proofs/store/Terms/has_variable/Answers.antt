use Rattle.std.proofs.Common.{rules, tests, true, false, ◌∙◌}
use Rattle.std.proofs.lemmas.Iterator.{cases_from_any, YieldsList-from_slice}
use Rattle.std.proofs.lemmas.Iterator.Adapters.{serves_from_places}
use Rattle.std.proofs.lemmas.Grind.{get_or_default_zero}
use Rattle.terms.specs.Node.{OpenIs}
use Rattle.terms.specs.Laws.Tables.{shaped_some}
use Rattle.terms.proofs.Nodes.{open_var, arg_held, args_decide}
use Rattle.terms.proofs.store.Terms.has_variable.Goals as goal

pub returns-in-Variable : goal.returns-in-Variable
returns-in-Variable c = open_var _ _ (shaped_some _ c.requires.shaped) c.in-Variable.ensures.1

pub any-requires-clause-callable : goal.any-requires-clause-callable
any-requires-clause-callable c =
    serves_from_places (YieldsList-from_slice _ c.iter.ensures.rest) (λ x q r. search (rules, tests))
    (λ x k h e a b d f i j. rw (e ∙ get_or_default_zero _ k x.now h)
    (arg_held c.args.self.now.index.now c.args.self.now.words.now c.args.self.now.mark c.requires.good c.args.node.now c.requires.shaped c.in_default.ensures.1 k h))

pub returns : goal.returns
returns c =
    args_decide c.args.self.now.index.now c.args.self.now.words.now c.args.self.now.mark c.requires.good c.args.node.now c.requires.shaped c.in_default.ensures.1
    (cases_from_any _ _ _ (λ id. OpenIs c.args.self.now.index.now id true) (λ id. OpenIs c.args.self.now.index.now id false) c.any.ensures.ran
    (YieldsList-from_slice _ c.iter.ensures.rest) (λ x q k. search (rules, tests)) (λ x q k. search (rules, tests)))
