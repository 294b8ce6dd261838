-- Room for a unification: it adds made trees at the end, and its refusals are question 60, in the store's rows or in the row of the
-- waiting pairs. Of all trees, whatever their variables. Assumes nothing.
use Rattle.std.specs.Prelude.{◌≡◌, refl, ◌⊎◌, List, [], ◌∷◌, ℕ, zero, suc, ◌+◌, leb, length, Option}
use Rattle.std.proofs.Common.{inl, inr}
use Rattle.rules.specs.Limits.{PAIRS}
use Rattle.rules.specs.Out.{Act}
use Rattle.rules.specs.Tree.{Tree, count_trees}
use Rattle.rules.specs.Store.{Made}
use Rattle.rules.specs.Unify.{Binding, along, insert, Pair, Look, agree, clash, binds, parts, look, push, Found, finished, clashed, bound}
use Rattle.rules.specs.Unify.{onward, peel, weight, outcome, solve, unify}
use Rattle.meaning.specs.Unification.Acts.{Grows, grows_pure, grows_then, grows_rows, grows_room, StoreRow, substitute_grows}
use Rattle.meaning.specs.Unification.List.{replace_grows}

-- the rows that unification puts
unfoldable pub UnifyRow : ℕ → Type 0
UnifyRow d = (d ≡ 8) ⊎ ((d ≡ 9) ⊎ (d ≡ 14))

store_row : (d : ℕ) → StoreRow d → UnifyRow d
unfolding StoreRow UnifyRow
store_row d (inl p) = inl p
store_row d (inr p) = inr (inl p)

onward_grows : (go : List Pair → Act Made Found) → ((v : List Pair) (m : Made) → Grows UnifyRow m (go v m)) → (w : List Pair) (l : Look) (m : Made)
    → Grows UnifyRow m (onward go w l m)
unfolding onward UnifyRow
onward_grows go h w agree m = h w m
onward_grows go h w clash m = grows_pure
onward_grows go h w (binds x u) m = grows_pure
onward_grows go h w (parts ts us) m =
    grows_then (grows_room 14 (leb (length w + count_trees ts) PAIRS) (inr (inr refl))) (λ _ m'. h (push ts us w) m')

peel_grows : (k : ℕ) (θ : List Binding) (w : List Pair) (m : Made) → Grows UnifyRow m (peel k θ w m)
unfolding peel
peel_grows zero θ w m = grows_pure
peel_grows (suc k) θ [] m = grows_pure
peel_grows (suc k) θ (p ∷ w) m =
    grows_then (grows_rows store_row (substitute_grows (along θ) p.left m)) (λ s m'.
    grows_then (grows_rows store_row (substitute_grows (along θ) p.right m')) (λ t m''.
    onward_grows (λ v. peel k θ v) (λ v m₁. peel_grows k θ v m₁) w (look s t) m''))

outcome_grows : (go : List Binding → List Pair → Act Made (Option (List Binding)))
    → ((ζ : List Binding) (v : List Pair) (m : Made) → Grows UnifyRow m (go ζ v m)) → (θ : List Binding) (f : Found) (m : Made)
    → Grows UnifyRow m (outcome go θ f m)
unfolding outcome
outcome_grows go h θ finished m = grows_pure
outcome_grows go h θ clashed m = grows_pure
outcome_grows go h θ (bound x u w) m =
    grows_then (grows_rows store_row (replace_grows x u θ m)) (λ ζ m'. h (insert (record { variable = x; value = u }) ζ) w m')

solve_grows : (n : ℕ) (θ : List Binding) (w : List Pair) (m : Made) → Grows UnifyRow m (solve n θ w m)
unfolding solve
solve_grows zero θ w m = grows_pure
solve_grows (suc n) θ w m =
    grows_then (peel_grows (suc (weight θ w)) θ w m) (λ f m'. outcome_grows (λ ζ v. solve n ζ v) (λ ζ v m''. solve_grows n ζ v m'') θ f m')

pub unify_grows : (n : ℕ) (s t : Tree) (m : Made) → Grows UnifyRow m (unify n s t m)
unfolding unify
unify_grows n s t m = solve_grows (suc n) [] (record { left = s; right = t } ∷ []) m
