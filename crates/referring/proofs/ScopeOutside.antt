-- Question 39: the lowest variable that is outside, up to the number of variables. Assumes nothing.
use mathlib.Core.Path.{◌≡◌, refl, sym, ap, ◌∙◌}
use mathlib.Core.Bool.{Bool, true, false}
use mathlib.Core.List.{List}
use Prim.Native.Nat.{ℕ, zero, suc, ◌+◌, ◌-◌, ◌*◌, ◌≤◌, ◌<◌}
use native.Mathlib.Omega.{arith}
use lib.Dec.{ltb}
use lib.ListN.{length, replicate}
use borrow.Author.Tests.{ltb-true, ltb-false}
use Rattle.std.specs.Prelude.{Option, Some as some, None as nothing, MatchOption}
use Rattle.std.specs.Bool.{then_some}
use Rattle.rules.specs.Limits.{VARIABLEWORDS}
use Rattle.rules.specs.Find.{Set, union, minus, rising, least_from, least}
use Rattle.rules.specs.Tree.{variables}
use Rattle.rules.specs.State.{hyp_vars}
use Rattle.terms.specs.declared.store.Mark.{Mark}
use Rattle.terms.specs.Sets.{holds, counted_from_1}
use Rattle.terms.specs.Table.{tree}
use Rattle.terms.specs.Collect.{Visited}
use Rattle.state.specs.declared.sizes.Sizes.{Sizes}
use Rattle.referring.specs.Recall.{Recalls}
use Rattle.referring.specs.Laws.ScopeFree.{from_zeros}

-- The least member up to a lower number -----------------------------------------------------------------------------------------------

from_low : (k n : ℕ) (a : Set) → least_from k n a ≤ k → least_from k n a ≡ 0
unfolding least_from
from_low k zero a l = refl
from_low k (suc n) a l = go (from_low (suc k) n a) (a k) l
  where
    go : (least_from (suc k) n a ≤ suc k → least_from (suc k) n a ≡ 0) → (b : Bool) → elim b [ true ↦ suc k | false ↦ least_from (suc k) n a ] ≤ k → ◌≡◌ {A = ℕ} (elim b [ true ↦ suc k | false ↦ least_from (suc k) n a ]) 0
    go ih true h = absurd (omega arith)
    go ih false h = ih (omega arith)

from_within : (k d n : ℕ) (a : Set) → least_from k (n + d) a ≤ k + n → least_from k (n + d) a ≡ least_from k n a
unfolding least_from
from_within k d zero a l = let e : 0 + d ≡ d = omega arith in let z = ap (λ (j : ℕ). least_from k j a) e in z ∙ from_low k d a (omega (arith, z))
from_within k d (suc n) a l = let e : suc n + d ≡ suc (n + d) = omega arith in let z = ap (λ (j : ℕ). least_from k j a) e in z ∙ go (from_within (suc k) d n a) (a k) (omega (arith, z))
  where
    go : (least_from (suc k) (n + d) a ≤ suc k + n → least_from (suc k) (n + d) a ≡ least_from (suc k) n a) → (b : Bool) → elim b [ true ↦ suc k | false ↦ least_from (suc k) (n + d) a ] ≤ k + suc n
        → ◌≡◌ {A = ℕ} (elim b [ true ↦ suc k | false ↦ least_from (suc k) (n + d) a ]) (elim b [ true ↦ suc k | false ↦ least_from (suc k) n a ])
    go ih true h = refl
    go ih false h = ih (omega arith)

from_beyond : (k d n : ℕ) (a : Set) → k + n < least_from k (n + d) a → least_from k n a ≡ 0
unfolding least_from
from_beyond k d zero a l = refl
from_beyond k d (suc n) a l = let e : suc n + d ≡ suc (n + d) = omega arith in let z = ap (λ (j : ℕ). least_from k j a) e in go (from_beyond (suc k) d n a) (a k) (omega (arith, z))
  where
    go : (suc k + n < least_from (suc k) (n + d) a → least_from (suc k) n a ≡ 0) → (b : Bool) → k + suc n < elim b [ true ↦ suc k | false ↦ least_from (suc k) (n + d) a ] → ◌≡◌ {A = ℕ} (elim b [ true ↦ suc k | false ↦ least_from (suc k) n a ]) 0
    go ih true h = absurd (omega arith)
    go ih false h = ih (omega arith)

pub least_within : (m n : ℕ) (a : Set) → n ≤ m → least m a ≤ n → least m a ≡ least n a
unfolding least
least_within m n a l h =
    let e : m ≡ n + (m - n) = omega arith in
    let z = ap (λ (j : ℕ). least_from 0 j a) e in
    z ∙ from_within 0 (m - n) n a (omega (arith, z))

pub least_beyond : (m n : ℕ) (a : Set) → n ≤ m → n < least m a → least n a ≡ 0
unfolding least
least_beyond m n a l h =
    let e : m ≡ n + (m - n) = omega arith in
    let z = ap (λ (j : ℕ). least_from 0 j a) e in
    from_beyond 0 (m - n) n a (omega (arith, z))

-- Outside -----------------------------------------------------------------------------------------------------------------------------

module _ {facts lists : List ℕ} {n : Sizes} {I W : List ℕ} {m : Mark} (used hyps : List ℕ) {j : ℕ} {seen seen' a b : Set} {r : ℕ}
    (f : length used ≡ VARIABLEWORDS)
    (v : Visited I W m j seen (holds (replicate VARIABLEWORDS 0)) seen' a)
    (w : (g : Recalls facts lists n I W m) → b ≡ union a (hyp_vars g.S.facts (rising n.facts (holds hyps))))
    (e : r ≡ least (64 * length used) (minus (holds used) b)) (g : Recalls facts lists n I W m) where
  abbrev beyond : Set
  beyond = minus (holds used) (union (variables (tree I W m j)) (hyp_vars g.S.facts (rising (length g.S.facts) (holds hyps))))

  is : r ≡ least (64 * length used) beyond
  is =
      e
      ∙ ap (λ (c : Set). least (64 * length used) (minus (holds used) c))
      (w g ∙ (λ i. union (from_zeros VARIABLEWORDS a (variables (tree I W m j)) v.set i) (hyp_vars g.S.facts (rising (g.recorded.many i) (holds hyps)))))

  fewer : length g.S.vars ≤ 64 * length used
  fewer = omega (arith, g.recorded.rows.row7)

  outside_none : n.vars < r → 0 ≡ least (length g.S.vars) beyond
  outside_none h = sym (least_beyond (64 * length used) (length g.S.vars) beyond fewer (omega (arith, is, g.many)))

  outside_some : r ≤ n.vars → r ≡ least (length g.S.vars) beyond
  outside_some h = is ∙ least_within (64 * length used) (length g.S.vars) beyond fewer (omega (arith, is, g.many))

  -- of the lowest of all, that which is a variable stays
  module _ (P : ℕ → Bool → Type 0) (tells : (v : ℕ) (t : Bool) → P v t → t ≡ ltb v n.vars) where
    tested : (v : ℕ) (t : Bool) → counted_from_1 (some v) ≡ r → t ≡ ltb v n.vars → counted_from_1 (then_some t v) ≡ least (length g.S.vars) beyond
    tested v true q h = q ∙ outside_some (omega (arith, q, ltb-true v n.vars (sym h)))
    tested v false q h = outside_none (omega (arith, q, ltb-false v n.vars (sym h)))

    pub outside_kept : (o p : Option ℕ) → counted_from_1 o ≡ r → MatchOption o (p ≡ nothing) (λ v. (t : Bool) × P v t × (p ≡ then_some t v)) →
        counted_from_1 p ≡ least (length g.S.vars) beyond
    outside_kept nothing p q k = ap counted_from_1 k ∙ q ∙ outside_some (omega (arith, q))
    outside_kept (some v) p q k = ap counted_from_1 k.2 ∙ tested v k.0 q (tells v k.0 k.1)
