-- The names of a rule's variables in `invert`: those of its case, or variables that are made. Assumes nothing.
use Rattle.std.specs.Prelude.{ℕ, zero, suc, ◌+◌, ◌<◌, ◌≡◌, refl, true, false, List, [], ◌∷◌, ◌++◌, eqb, ltb, length, get_or}
use Rattle.std.proofs.Common.{arith, sym, ◌∙◌, ap, subst, inl, inr, append_assoc, append-nil, eqb-true}
use Rattle.rules.specs.Limits.{VARIABLES}
use Rattle.rules.specs.Store.{Made}
use Rattle.rules.specs.Theory.{RuleVar, no_name}
use Rattle.rules.specs.State.{Var, sort_of_var}
use Rattle.rules.specs.Invert.{suit, make_vars, up_from}
use Rattle.meaning.specs.Trees.Tree.{In}
use Rattle.meaning.specs.Trees.Tests.{true_false, and_true}
use Rattle.meaning.specs.Unification.Acts.{Ok, done, ok_then}
use Rattle.meaning.specs.Trees.Replace.{Distinct}
use Rattle.meaning.specs.Bridge.Asked.{ok_space, ok_map}

-- Lists of variables ----------------------------------------------------------------------------------------------------------------

pub get_in : (xs : List ℕ) (i : ℕ) → i < length xs → In (get_or xs i 0) xs
unfolding In
get_in [] i l = absurd (let z : ⊥ = omega arith in z)
get_in (x ∷ xs) zero l = inl refl
get_in (x ∷ xs) (suc i) l = inr (get_in xs i (omega arith))

pub get_distinct : (xs : List ℕ) → Distinct xs → (i j : ℕ) → i < length xs → j < length xs → get_or xs i 0 ≡ get_or xs j 0 → i ≡ j
unfolding Distinct
get_distinct [] d i j l m e = absurd (let z : ⊥ = omega arith in z)
get_distinct (x ∷ xs) d zero zero l m e = refl
get_distinct (x ∷ xs) d zero (suc j) l m e = absurd (d.0 (subst (λ z. In z xs) (sym e) (get_in xs j (omega arith))))
get_distinct (x ∷ xs) d (suc i) zero l m e = absurd (d.0 (subst (λ z. In z xs) e (get_in xs i (omega arith))))
get_distinct (x ∷ xs) d (suc i) (suc j) l m e = ap suc (get_distinct xs d.1 i j (omega arith) (omega arith) e)

-- as many variables as the rule has, each of its sort
pub suit_sorts : (xs : List Var) (ys : List ℕ) (rs : List RuleVar) (d : RuleVar) → suit xs ys rs ≡ true
    → (length ys ≡ length rs) × ((i : ℕ) → i < length rs → sort_of_var xs (get_or ys i 0) ≡ (get_or rs i d).sort)
unfolding suit
suit_sorts xs [] [] d e = (refl, λ i l. absurd (let z : ⊥ = omega arith in z))
suit_sorts xs [] (r ∷ rs) d e = absurd (true_false false e refl)
suit_sorts xs (y ∷ ys) [] d e = absurd (true_false false e refl)
suit_sorts xs (y ∷ ys) (r ∷ rs) d e =
    let b = and_true (eqb (sort_of_var xs y) r.sort) (suit xs ys rs) e in
    let h = suit_sorts xs ys rs d b.1 in
    (ap suc h.0, at (eqb-true (sort_of_var xs y) r.sort b.0) h.1)
  where
    at : sort_of_var xs y ≡ r.sort → ((i : ℕ) → i < length rs → sort_of_var xs (get_or ys i 0) ≡ (get_or rs i d).sort)
        → (i : ℕ) → i < length (r ∷ rs) → sort_of_var xs (get_or (y ∷ ys) i 0) ≡ (get_or (r ∷ rs) i d).sort
    at p h zero l = p
    at p h (suc i) l = h i (omega arith)

pub get_up : (k n i : ℕ) → i < n → get_or (up_from k n) i 0 ≡ k + i
unfolding up_from
get_up k zero i l = absurd (let z : ⊥ = omega arith in z)
get_up k (suc n) zero l = omega arith
get_up k (suc n) (suc i) l = let h = get_up (suc k) n i (omega arith) in omega arith

-- Made variables --------------------------------------------------------------------------------------------------------------------

-- one without a name for each of the rule's
unfoldable pub made_for : List RuleVar → List Var
made_for [] = []
made_for (r ∷ rs) = record { sort = r.sort; text = 0; name = no_name } ∷ made_for rs

pub make_vars_ok : (rs : List RuleVar) (xs : List Var) (m : Made) → Ok (λ ys. ys ≡ xs ++ made_for rs) (make_vars rs xs m)
unfolding make_vars made_for
make_vars_ok [] xs m = done (sym (append-nil xs))
make_vars_ok (r ∷ rs) xs m =
    ok_then (ok_space 7 (ltb (length xs) VARIABLES) m) (λ _ m₁ _.
    ok_map (λ ys e. e ∙ append_assoc xs (record { sort = r.sort; text = 0; name = no_name } ∷ []) (made_for rs))
    (make_vars_ok rs (xs ++ (record { sort = r.sort; text = 0; name = no_name } ∷ [])) m₁))

pub made_length : (xs : List Var) (rs : List RuleVar) → length (xs ++ made_for rs) ≡ length xs + length rs
unfolding made_for
made_length [] [] = refl
made_length [] (r ∷ rs) = let h = made_length [] rs in omega arith
made_length (x ∷ xs) rs = let h = made_length xs rs in omega arith

pub made_sort : (xs : List Var) (rs : List RuleVar) (d : RuleVar) (i : ℕ) → i < length rs → sort_of_var (xs ++ made_for rs) (length xs + i) ≡ (get_or rs i d).sort
unfolding sort_of_var made_for
made_sort [] [] d i l = absurd (let z : ⊥ = omega arith in z)
made_sort [] (r ∷ rs) d zero l = refl
made_sort [] (r ∷ rs) d (suc i) l =
    subst (λ k. sort_of_var (made_for (r ∷ rs)) k ≡ (get_or rs i d).sort) (let z : suc (0 + i) ≡ 0 + suc i = omega arith in z) (made_sort [] rs d i (omega arith))
made_sort (x ∷ xs) rs d i l =
    subst (λ k. sort_of_var ((x ∷ xs) ++ made_for rs) k ≡ (get_or rs i d).sort) (let z : suc (length xs + i) ≡ suc (length xs) + i = omega arith in z)
    (made_sort xs rs d i l)
