use native.Mathlib.Omega.{arith}
use Rattle.std.proofs.Common.{rules, tests, true, false, ◌∙◌}
use Rattle.std.proofs.lemmas.List.{get_or_default}
use Rattle.std.proofs.lemmas.Iterator.{YieldsList-from_slice, cases_from_all}
use Rattle.std.proofs.lemmas.Iterator.Consumers.{YieldsList-from_enumerate}
use Rattle.std.proofs.lemmas.Iterator.Adapters.{serves_from_places}
use Rattle.state.specs.VarLaws.{vars_long}
use Rattle.casework.specs.Laws.Loops.{suit_none}
use Rattle.inversion.proofs.InvertNames.{known_var}
use Rattle.inversion.proofs.InvertSuits.{place_of, Says, suit_is}
use borrow.Author.Tests.{ne_eqb}
use Rattle.inversion.proofs.inverting.RuleVars.suits.Goals as goal

pub all-requires-clause-callable : goal.all-requires-clause-callable
all-requires-clause-callable c =
    serves_from_places (YieldsList-from_enumerate (YieldsList-from_slice c.args.list.now cc) cc) (λ x q r. search (rules, tests))
    (λ x k l e.
    let p = place_of c.args.list.now (x.0, x.1.now) k l e in (
      λ a b d f i j m n o. (vars_long c.requires.1.2, rw (p.1 ∙ get_or_default c.args.list.now x.0 x.1.now 0 p.0) (c.requires.2 x.0 p.0)),
      λ a b d f i j m n o s t. known_var c.requires.0 (omega (arith, p.0, c.if-list-self.true)),
    ))

pub returns-then-list-self : goal.returns-then-list-self
returns-then-list-self c = λ g vs count h.
    suit_is c.args.self.now.rules g h c.args.list.now c.if-list-self.true c.all.result
    (cases_from_all _ _ _ (Says c.args.self.now.rules c.args.vars.now c.args.self.now.rule true) (Says c.args.self.now.rules c.args.vars.now c.args.self.now.rule false) c.all.ensures.ran
    (YieldsList-from_enumerate (YieldsList-from_slice c.args.list.now cc) cc) (λ x q k. (search (rules, tests), search (rules, tests)))
    (λ x q k. search (rules, tests)))

pub returns-else-list-self : goal.returns-else-list-self
returns-else-list-self c = λ g vs count h. ne_eqb _ _ c.if-list-self.false ∙ suit_none vs _ _ g.many c.if-list-self.false
