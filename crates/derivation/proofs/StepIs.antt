-- The definition of a step, cut where the code is cut: by the rule that it names, then by its references. Assumes nothing.
use mathlib.Core.Path.{◌≡◌, sym, ◌∙◌}
use mathlib.Core.List.{List}
use Prim.Native.Nat.{ℕ}
use lib.Dec.{eqb}
use lib.ListN.{length}
use Rattle.rules.specs.Out.{Out, ok, then, ask, found}
use Rattle.rules.specs.Find.{Set, union, rising}
use Rattle.rules.specs.Sexp.{Sexps, count, item, rest, name, items}
use Rattle.rules.specs.Tree.{Tree, Trees, variables_of, count_trees}
use Rattle.rules.specs.Store.{Made}
use Rattle.rules.specs.Theory.{Rule, rule, rule_named}
use Rattle.rules.specs.State.{State}
use Rattle.rules.specs.Match.{match_all}
use Rattle.rules.specs.Reference.{scoped}
use Rattle.rules.specs.Step.{Items, references, no_items, read_items, match_stated, conclude, step}
use Rattle.rules.specs.Laws.Out.{then_then}
use Rattle.derivation.specs.Stepping.{concluded, from_items, in_scope, by_rule}
use Rattle.derivation.proofs.StepJoins.{then_other}

-- Behind the references ----------------------------------------------------------------------------------------------------------------

module _ {A : Type 0} (S : State) (R : Rule) (ts : Trees) (hs : List ℕ) (xs : Sexps) (G : Tree → Made → Out Made A) where
  abbrev used : Items → Set
  used it = union (variables_of ts) (variables_of it.values)

  -- what the items give
  abbrev paired : Items → Tree → Made → Out Made (Set × Tree)
  paired it j s = ok (used it, j) s

  -- question 39, over that
  abbrev within : Set × Tree → Made → Out Made Tree
  within u s = then (scoped S u.0 u.1 hs s) (λ _ s. ok u.1 s)

  abbrev asked : Set → Tree → Made → Out Made A
  asked u j s = then (scoped S u j hs s) (λ _ s. G j s)

  asked_is : (u : Set) (j : Tree) (s : Made) → then (then (scoped S u j hs s) (λ _ s. ok j s)) G ≡ asked u j s
  unfolding then
  asked_is u j s = then_then (scoped S u j hs s) (λ _ s. ok j s) G

  -- question 38
  abbrev matched : Items → (Tree → Made → Out Made A) → Made → Out Made A
  matched it D s =
      then (found 38 (match_stated R.conclusion it.stated it.bound) s)
      (λ b s. then (found 38 (match_all R.premises ts b) s) (λ c s. then (conclude R.conclusion it.stated c s) D))

  matched_is : (it : Items) (D : Tree → Made → Out Made A) (s : Made) → then (concluded R ts it.stated it.bound s) D ≡ matched it D s
  unfolding concluded
  matched_is it D s =
      then_then (found 38 (match_stated R.conclusion it.stated it.bound) s)
      (λ b s. then (found 38 (match_all R.premises ts b) s) (λ c s. conclude R.conclusion it.stated c s)) D
      ∙ then_other (found 38 (match_stated R.conclusion it.stated it.bound) s) _ _
      (λ b s. then_then (found 38 (match_all R.premises ts b) s) (λ c s. conclude R.conclusion it.stated c s) D)

  -- matching, then question 39
  both_is : (it : Items) (s : Made) → then (then (concluded R ts it.stated it.bound s) (paired it)) (λ u s. then (within u s) G) ≡ matched it (asked (used it)) s
  unfolding then
  both_is it s =
      then_then (concluded R ts it.stated it.bound s) (paired it) (λ u s. then (within u s) G)
      ∙ then_other (concluded R ts it.stated it.bound s) _ _ (λ j s. asked_is (used it) j s)
      ∙ matched_is it (asked (used it)) s

  pub scope_is : (M : Made) → then (in_scope S R ts hs xs M) G ≡ then (read_items S R xs no_items M) (λ it s. matched it (asked (used it)) s)
  unfolding in_scope from_items
  scope_is M =
      then_then (from_items S R ts xs M) within G
      ∙ then_then (read_items S R xs no_items M) (λ it s. then (concluded R ts it.stated it.bound s) (paired it)) (λ u s. then (within u s) G)
      ∙ then_other (read_items S R xs no_items M) _ _ (λ it s. both_is it s)

-- The form -----------------------------------------------------------------------------------------------------------------------------

pub step_is : (S : State) (xs : Sexps) (M : Made) →
    step S xs M ≡ then (name 33 (item xs 2) M) (λ n s. then (found 33 (rule_named S.theory n.bytes) s) (λ r s. by_rule S r xs s))
unfolding step by_rule
step_is S xs M =
    then_other (name 33 (item xs 2) M) _ _ (λ n s.
    then_other (found 33 (rule_named S.theory n.bytes) s) _ _ (λ r s.
    then_other (items 37 (item xs 3) s) _ _ (λ ys s.
    then_other (ask 37 (eqb (count ys) (count_trees (rule S.theory r).premises)) s) _ _ (λ _ s.
    then_other (references S ys s) _ _ (λ rs s.
    sym (scope_is S (rule S.theory r) rs.judgments (rising (length S.facts) rs.hyps) (rest xs 4) _ s))))))
