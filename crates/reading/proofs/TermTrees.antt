-- Trees read one after the other, by their numbers: one more behind those that there are, and whether they fit the sorts of a symbol. Assumes nothing.
use mathlib.Core.Path.{◌≡◌, refl, sym, ap, ◌∙◌}
use mathlib.Core.Bool.{Bool, true, false, ◌&&◌, true≢false}
use mathlib.Core.List.{List, [], ◌∷◌, ◌++◌}
use Prim.Native.Nat.{ℕ, suc}
use native.Mathlib.Omega.{arith}
use native.Mathlib.Decide.{ℕ_discrete}
use lib.Dec.{eqb}
use lib.ListN.{length, get_or}
use Rattle.rules.specs.Tree.{Trees, var, none, more, count_trees}
use Rattle.rules.specs.Store.{Made}
use Rattle.rules.specs.Theory.{Theory}
use Rattle.rules.specs.State.{Var, sort_of, fit}
use Rattle.terms.specs.Table.{args_of}
use Rattle.terms.specs.Laws.Patterns.{before}

-- Trees before others ------------------------------------------------------------------------------------------------------------

pub before_args : (M : Made) (xs : List ℕ) (x : ℕ) (us : Trees) → before (args_of M (xs ++ (x ∷ []))) us ≡ before (args_of M xs) (more (get_or M x (var 0)) us)
unfolding before args_of
before_args M [] x us = refl
before_args M (y ∷ xs) x us = ap (more (get_or M y (var 0))) (before_args M xs x us)

-- Sorts --------------------------------------------------------------------------------------------------------------------------

as_it_is : (b : Bool) → elim b [ true ↦ true | false ↦ false ] ≡ b
as_it_is true = refl
as_it_is false = refl

-- one tree and one sort more
pub fit_snoc : (T : Theory) (vs : List Var) (M : Made) (xs ss : List ℕ) (x s : ℕ) → length xs ≡ length ss →
    fit T vs (args_of M (xs ++ (x ∷ []))) (ss ++ (s ∷ [])) ≡ fit T vs (args_of M xs) ss && eqb (sort_of T vs (get_or M x (var 0))) s
unfolding fit args_of
fit_snoc T vs M [] [] x s e = as_it_is (eqb (sort_of T vs (get_or M x (var 0))) s)
fit_snoc T vs M [] (z ∷ ss) x s e = absurd (omega arith)
fit_snoc T vs M (y ∷ xs) [] x s e = absurd (omega arith)
fit_snoc T vs M (y ∷ xs) (z ∷ ss) x s e = go (eqb (sort_of T vs (get_or M y (var 0))) z) (fit_snoc T vs M xs ss x s (omega arith))
  where
    go : (b : Bool) → fit T vs (args_of M (xs ++ (x ∷ []))) (ss ++ (s ∷ [])) ≡ fit T vs (args_of M xs) ss && eqb (sort_of T vs (get_or M x (var 0))) s →
        elim b [ true ↦ fit T vs (args_of M (xs ++ (x ∷ []))) (ss ++ (s ∷ [])) | false ↦ false ]
        ≡ elim b [ true ↦ fit T vs (args_of M xs) ss | false ↦ false ] && eqb (sort_of T vs (get_or M x (var 0))) s
    go true h = h
    go false h = refl

-- another number of trees than of sorts
pub fit_count : (T : Theory) (vs : List Var) (ts : Trees) (ss : List ℕ) → (count_trees ts ≡ length ss → ⊥) → fit T vs ts ss ≡ false
unfolding fit count_trees
fit_count T vs none [] n = absurd (n refl)
fit_count T vs none (s ∷ ss) n = refl
fit_count T vs (more t ts) [] n = refl
fit_count T vs (more t ts) (s ∷ ss) n = go (eqb (sort_of T vs t) s) (fit_count T vs ts ss (λ e. n (ap suc e)))
  where
    go : (b : Bool) → fit T vs ts ss ≡ false → elim b [ true ↦ fit T vs ts ss | false ↦ false ] ≡ false
    go true h = h
    go false h = refl

pub fit_many : (T : Theory) (vs : List Var) (ts : Trees) (ss : List ℕ) → fit T vs ts ss ≡ true → count_trees ts ≡ length ss
fit_many T vs ts ss h = elim (ℕ_discrete (count_trees ts) (length ss)) [
  | yes e ↦ e
  | no n ↦ absurd (true≢false (sym h ∙ fit_count T vs ts ss n))
]
