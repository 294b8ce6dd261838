-- Question 39, as a step asks it: what `outside` answers decides. Assumes nothing.
use Rattle.std.specs.Prelude.{◌≡◌, refl, Bool, true, false, List, ℕ, zero, suc, ◌+◌, ◌≤◌, length}
use Rattle.std.proofs.Common.{sym, ◌∙◌, arith}
use Rattle.std.proofs.Math.Path.{ap}
use Rattle.rules.specs.Out.{ok, refuse}
use Rattle.rules.specs.Find.{Set, union, minus, least_from, least}
use Rattle.rules.specs.Tree.{Tree, variables}
use Rattle.rules.specs.State.{State, hyp_vars}
use Rattle.rules.specs.Reference.{outside, scoped}

-- the number that is looked for, counted from 1
abbrev pub lowest_outside : State → Set → Tree → List ℕ → ℕ
lowest_outside S used j hs = least (length S.vars) (minus used (union (variables j) (hyp_vars S.facts hs)))

-- it is one of so many
pub least_most : (n : ℕ) (a : Set) → least n a ≤ n
unfolding least least_from
least_most n a = omega (arith, go 0 n)
  where
    go : (k n : ℕ) → least_from k n a ≤ k + n
    go k zero = omega arith
    go k (suc n) = by (a k) (go (suc k) n)
      where
        by : (b : Bool) → least_from (suc k) n a ≤ suc k + n → elim b [ true ↦ suc k | false ↦ least_from (suc k) n a ] ≤ k + suc n
        by true h = omega arith
        by false h = omega (arith, h)

out_other : {T : Type 0} (r : ℕ) (M : T) → (r ≡ 0 → ⊥) → outside r M ≡ refuse 39 r M
unfolding outside
out_other zero M n = absurd (n refl)
out_other (suc v) M n = refl

module _ {T : Type 0} (S : State) (used : Set) (j : Tree) (hs : List ℕ) (M : T) {r : ℕ} (e : r ≡ lowest_outside S used j hs) where
  pub scoped_yes : r ≡ 0 → scoped S used j hs M ≡ ok tt M
  unfolding scoped outside
  scoped_yes z = ap (λ (k : ℕ). outside k M) (sym e ∙ z)

  pub scoped_not : (r ≡ 0 → ⊥) → scoped S used j hs M ≡ refuse 39 r M
  unfolding scoped
  scoped_not z = ap (λ (k : ℕ). outside k M) (sym e) ∙ out_other r M z

  pub scoped_no : {v : ℕ} → r ≡ suc v → scoped S used j hs M ≡ refuse 39 r M
  unfolding scoped outside
  scoped_no z = ap (λ (k : ℕ). outside k M) (sym e ∙ z) ∙ ap (λ (k : ℕ). refuse 39 k M) (sym z)
