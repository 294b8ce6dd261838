use Rattle.std.proofs.Common.{refl, subst, rules, tests}
use Rattle.casework.specs.Cases.{CaseFound}
use Rattle.casework.proofs.Finding.{stands_start, serves_cases, first_case}
use Rattle.casework.proofs.cases.find_case.Goals as goal

pub find-requires-clause-callable : goal.find-requires-clause-callable
find-requires-clause-callable c = serves_cases c.requires (stands_start c.requires c.all.ensures.0 c.all.ensures.1) (λ x q r. search (rules, tests)) (λ x h y e a b d f i k l m n. rw e h)

pub returns : goal.returns
returns c = λ g.
    let (xs, j, (t, gives, ends), says, last) = c.find.ensures.ran in
    let e =
    first_case g _ c.args.name.now xs t _ j c.find.result (stands_start g c.all.ensures.0 c.all.ensures.1) refl gives ends says last
    (λ x b q k. (search (rules, tests), (k.shown.now, k.shows, λ h. search (rules, tests, h)))) in
    subst (λ r. CaseFound g.vs c.args.text.now c.args.cells.now g.cs c.args.name.now r) (search (rules, tests)) e
