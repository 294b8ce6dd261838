use native.Mathlib.Omega.{arith}
use Rattle.std.specs.Prelude.{refl, ◌≡◌, ◌+◌, ◌<◌, ℕ, eqb, ◌||◌, length}
use Rattle.std.proofs.Common.{ap, ◌∙◌, rules, tests}
use Rattle.std.proofs.lemmas.List.FromFn.{length-enumerate_from, get_or-enumerate_from}
use Rattle.std.proofs.lemmas.Iterator.{YieldsList-from_slice}
use Rattle.std.proofs.lemmas.Iterator.Adapters.{serves_from_places}
use Rattle.std.proofs.lemmas.Iterator.Consumers.{YieldsList-from_enumerate}
use Rattle.std.proofs.lemmas.Iterator.Search.{all_from_yields_List}
use Rattle.terms.specs.Sets.{holds}
use Rattle.derivation.proofs.RuleFacts.{general_small, general_all}
use Rattle.derivation.proofs.apply.Rule.binds_general.Goals as goal

pub insert_all-requires : goal.insert_all-requires
insert_all-requires c = general_small c.general.ensures c.requires

pub all-requires-clause-callable : goal.all-requires-clause-callable
all-requires-clause-callable c =
    let xs = c.args.self.now.bound.now in
    serves_from_places (YieldsList-from_enumerate (YieldsList-from_slice xs cc) cc) (λ x q r. search (rules, tests))
    (λ x k l e.
    let inside : k < length xs = omega (arith, l, length-enumerate_from 0 xs) in
    let place : x.0 ≡ 0 + k = ap (λ (p : ℕ × ℕ). p.0) (e ∙ get_or-enumerate_from 0 xs k (x.0, x.1.now) inside) in
    λ a b d f i j m n o. omega (arith, place, inside))

pub returns : goal.returns
returns c = λ g M. general_all c.general.ensures g c.args.self.now.bound.now c.insert_all.new.set refl c.insert_all.ensures M
    (all_from_yields_List (λ p. eqb p.1 0 || holds c.insert_all.new.set p.0) _ _ _ c.all.ensures.ran
    (YieldsList-from_enumerate (YieldsList-from_slice c.args.self.now.bound.now cc) cc) (λ x b q k. search (rules, tests)))
