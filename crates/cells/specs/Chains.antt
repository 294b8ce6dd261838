-- Laws for chains over the cells of a slice: what a closure that is called with each of them may be asked, and what `all` answers. Assumes nothing.
use Prim.Native.Nat.{ℕ, suc, ◌<◌}
use Rattle.std.proofs.Common.{Iter, Bor, sym, ◌∙◌, arith}
use Rattle.std.proofs.Math.Path.{◌≡◌, refl, ap}
use mathlib.Core.Path.{subst}
use Rattle.std.proofs.iter.Yields.{fronts}
use Rattle.std.specs.Iterator.{Yields, CallableAtEachTurn}
use Rattle.std.proofs.lemmas.Fn.{serves_by}
use Rattle.std.specs.Prelude.{length, ◌&&◌}
use Rattle.std.proofs.Math.ListN.{get_or}
use mathlib.Core.List.{List, [], ◌∷◌}
use mathlib.Core.Bool.{Bool, true, false}
use Rattle.std.specs.Bool.{MatchBool}
use Rattle.std.specs.List.{AllWithin, HoldsAt, list_all}
use Rattle.std.proofs.lemmas.List.Sums.{list_all-from_AllPass}
use Rattle.std.proofs.lemmas.List.Elements.{All-from_get_or}
use Rattle.std.proofs.lemmas.List.Folds.{list_all_at}
use Rattle.rules.specs.Find.{all}

-- What the closure may be asked -----------------------------------------------------------------------------------------------------------

-- the cell that a walk has come to
came : (xs : List (Bor ℕ)) (s t : Iter ℕ) (v : ℕ) (vs : List ℕ) → Yields fronts s xs t → t.rest.now ≡ v ∷ vs → (length xs < length s.rest.now) × (get_or s.rest.now (length xs) 0 ≡ v)
came [] s t v vs e h =
    let i : s.rest.now ≡ v ∷ vs = ap (λ (k : Iter ℕ). k.rest.now) e ∙ h in
    (omega (arith, ap length i), ap (λ (l : List ℕ). get_or l 0 0) i)
came (x ∷ xs) s t v vs (j, st, y) h =
    let r = came xs j t v vs y h in
    (omega (arith, ap length st, r.0), ap (λ (l : List ℕ). get_or l (suc (length xs)) 0) st ∙ r.1)

-- it is asked what is known of each cell, where a call leaves it as it was
pub serves_from_slice : {P : Type 0} {R : P → Bor ℕ → P → Type 0} {Q : P → Bor ℕ → Type 0} {s : Iter ℕ} {p : P} →
    ((x : Bor ℕ) (q : P) → R p x q → q ≡ p) →
    ((x : Bor ℕ) (k : ℕ) → k < length s.rest.now → get_or s.rest.now k 0 ≡ x.now → Q p x) → CallableAtEachTurn fronts R Q s p
serves_from_slice {P} {R} {Q} {s} {p} same asks =
    serves_by R (λ xs (q : P). q ≡ p) (λ xs q x v j r. same x v (subst (λ (k : P). R k x v) j r)) fronts Q s p refl
    (λ xs t q x u y e j. let r = came xs s t x.now u.rest.now y e in subst (λ (k : P). Q k x) (sym j) (asks x (length xs) r.0 r.1))

-- What `all` answers ------------------------------------------------------------------------------------------------------------------------

-- the library's `all` is the definition's
pub all_elements : {A : Type 0} (p : A → Bool) (xs : List A) → list_all p xs ≡ all p xs
unfolding all
all_elements p [] = refl
all_elements p (x ∷ xs) = go (p x) (all_elements p xs)
  where
    go : (b : Bool) → list_all p xs ≡ all p xs → (b && list_all p xs) ≡ elim b [ true ↦ all p xs | false ↦ false ]
    go true h = h
    go false h = refl

pub all_is : (p : ℕ → Bool) (xs : List ℕ) (r : Bool) →
    MatchBool r (AllWithin (λ v. p v ≡ true) xs 0 (length xs)) ((k : ℕ) × (k < length xs) × HoldsAt (λ v. p v ≡ false) xs k) → r ≡ all p xs
all_is p xs true h = sym (list_all-from_AllPass p xs (All-from_get_or (λ v. p v ≡ true) xs 0 (λ k l. h k 0 (omega arith) l))) ∙ all_elements p xs
all_is p xs false (k, l, e) = sym (list_all_at p xs k 0 l (e 0)) ∙ all_elements p xs
