-- Terms visited one after the other for their variables. Assumes nothing.
use mathlib.Core.Path.{◌≡◌, sym, ap, ◌∙◌}
use mathlib.Core.List.{List, ◌∷◌}
use Prim.Native.Nat.{ℕ, ◌+◌, ◌≤◌, ◌<◌}
use native.Mathlib.Numerals.{add-one}
use lib.ListN.{length, get_or, drop, drop_of_length-le}
use lib.Seq.{drop-cons}
use Rattle.rules.specs.Find.{Set, union}
use Rattle.rules.specs.Tree.{var, none, more, variables, variables_of}
use Rattle.rules.specs.Store.{Made}
use Rattle.rules.specs.Laws.Set.{union_assoc, union_empty}
use Rattle.rules.specs.Laws.Tree.{variables_none, variables_more}
use Rattle.terms.specs.declared.store.Mark.{Mark}
use Rattle.terms.specs.Sets.{holds}
use Rattle.terms.specs.Table.{args_of, made, tree}
use Rattle.terms.specs.Collect.{Seen, Visited}
use Rattle.referring.specs.Referral.{Gathered}

next : (M : Made) (ids : List ℕ) (k : ℕ) → k < length ids → args_of M (drop k ids) ≡ more (get_or M (get_or ids k 0) (var 0)) (args_of M (drop (k + 1) ids))
unfolding args_of
next M ids k h = ap (args_of M) (drop-cons ids k 0 h ∙ ap (λ (j : ℕ). get_or ids k 0 ∷ drop j ids) (sym (add-one k)))

last : (M : Made) (ids : List ℕ) (k : ℕ) → length ids ≤ k → args_of M (drop k ids) ≡ none
unfolding args_of
last M ids k h = ap (args_of M) (drop_of_length-le ids h)

-- what is left of the terms decides
pub record Visiting (I W : List ℕ) (m : Mark) (ids seen₀ set₀ seen set : List ℕ) (k : ℕ) : Type 0 where
  pub left : union (holds set) (variables_of (args_of (made I W m) (drop k ids))) ≡ union (holds set₀) (variables_of (args_of (made I W m) ids))
  pub visits : Seen I W m (holds seen) (holds set)

module _ {I W : List ℕ} {m : Mark} {ids seen₀ set₀ seen set : List ℕ} {k : ℕ} (v : Visiting I W m ids seen₀ set₀ seen set k) where
  pub visiting_on : {seen' set' : List ℕ} → k < length ids → Visited I W m (get_or ids k 0) (holds seen) (holds set) (holds seen') (holds set') → Visiting I W m ids seen₀ set₀ seen' set' (k + 1)
  visiting_on h c =
      let rest = args_of (made I W m) (drop (k + 1) ids) in
      record {
        left = ap (λ (a : Set). union a (variables_of rest)) c.set
            ∙ union_assoc (holds set) (variables (tree I W m (get_or ids k 0))) (variables_of rest)
            ∙ ap (union (holds set)) (sym (ap variables_of (next (made I W m) ids k h) ∙ variables_more _ _)) ∙ v.left;
        visits = c.visits;
      }

  pub visiting_ends : length ids ≤ k → Gathered I W m (variables_of (args_of (made I W m) ids)) (holds set₀) (holds seen) (holds set)
  visiting_ends h =
      record {
        set = sym (union_empty (holds set)) ∙ ap (union (holds set)) (sym (ap variables_of (last (made I W m) ids k h) ∙ variables_none)) ∙ v.left;
        visits = v.visits;
      }
