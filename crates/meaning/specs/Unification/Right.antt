-- Unification does what its name says. The theorems of the definition's `unify`, for a reader who wants no more than these:
--     unify_complete     `nothing` is answered only where no replacement makes the two trees equal, if their variables are below n; they are
--                        in every inversion that a check comes to (`inversions_complete` of Theorems)
--     unify_general      what is answered makes them equal, and is a most general such replacement
--     unify_sorted       trees of one sort give bindings of the right sorts
--     unify_refuses      no question but 60 is put, in row 8, 9 or 14
-- Assumes nothing.
use Rattle.std.specs.Prelude.{◌≡◌, refl, ◌⊎◌, List, [], ◌∷◌, ℕ, suc, ◌<◌, Option, Some as some, None as nothing}
use Rattle.std.proofs.Common.{inl, inr, arith}
use Rattle.rules.specs.Out.{ok, refuse}
use Rattle.rules.specs.Tree.{Tree, var, sub}
use Rattle.rules.specs.Store.{Made}
use Rattle.rules.specs.Unify.{Binding, along, unify}
use Rattle.meaning.specs.Trees.Tree.{Occ, Sig, Sorted}
use Rattle.meaning.specs.Unification.Acts.{Ok, of_ok, Grown, of_grows_ok, of_grows_refuse}
use Rattle.meaning.specs.Unification.List.{Bound, Each, Rises, Settled, settled_still, each_map}
use Rattle.meaning.specs.Unification.Pairs.{Unifies, SortedPairs, Within, WithinPairs}
use Rattle.meaning.specs.Unification.Peel.{sorts_after}
use Rattle.meaning.specs.Unification.Solve.{Answers, solve_ok}
use Rattle.meaning.specs.Unification.Room.{UnifyRow, unify_grows}

-- Right answers -------------------------------------------------------------------------------------------------------------------

-- v occurs in s or in t
abbrev pub Either : Tree → Tree → ℕ → Type 0
Either s t v = Occ v s ⊎ Occ v t

-- all that is proved of an answer; what follows are its parts
unify_ok : (n : ℕ) (s t : Tree) (m : Made) → Ok (Answers (Either s t) n [] (record { left = s; right = t } ∷ [])) (unify n s t m)
unfolding unify Rises Settled Each WithinPairs
unify_ok n s t m =
    solve_ok (Either s t) n (suc n) [] (record { left = s; right = t } ∷ []) (record { rises = tt; settled = tt; own = tt })
    (λ v o. inl o, λ v o. inr o, tt) (λ l. omega arith) m

-- Where `unify` finds nothing there is nothing. This rules out that `invert` passes over a rule whose conclusion could be the judgment:
-- by a wrong occurs check, by heads or counts compared wrongly, by a lost pair, or because the steps ran out.
pub unify_complete : (n : ℕ) (s t : Tree) (m m' : Made) → ((v : ℕ) → Occ v s ⊎ Occ v t → v < n) → unify n s t m ≡ ok nothing m'
    → (σ : ℕ → Tree) → sub σ s ≡ sub σ t → ⊥
unfolding Answers Unifies along sub
unify_complete n s t m m' l e σ q = of_ok (unify_ok n s t m) e l σ (λ v. refl) (q, tt)

-- the other way round
pub unify_finds : (n : ℕ) (s t : Tree) (m m' : Made) (r : Option (List Binding)) → ((v : ℕ) → Occ v s ⊎ Occ v t → v < n)
    → unify n s t m ≡ ok r m' → (σ : ℕ → Tree) → sub σ s ≡ sub σ t → (θ : List Binding) × (r ≡ some θ)
unify_finds n s t m m' (some θ) l e σ q = (θ, refl)
unify_finds n s t m m' nothing l e σ q = absurd (unify_complete n s t m m' l e σ q)

-- θ is a most general unifier of s and t
--     equal         it makes them equal
--     general       every σ that makes them equal is θ and then σ, so θ replaces nothing that need not be replaced
--     idempotent    applied twice it does what it does once; `settled` says why: no value has a bound variable
--     rises         the variables rise, so none is bound twice
--     within        a binding speaks of variables of s and t alone
pub record Unifier (s t : Tree) (θ : List Binding) : Type 0 where
  pub equal : sub (along θ) s ≡ sub (along θ) t
  pub general : (σ : ℕ → Tree) → sub σ s ≡ sub σ t → (v : ℕ) → sub σ (along θ v) ≡ σ v
  pub idempotent : (r : Tree) → sub (along θ) (sub (along θ) r) ≡ sub (along θ) r
  pub settled : Each (λ v u. (w : ℕ) → Occ w u → ¬ (Bound w θ)) θ
  pub rises : Rises 0 θ
  pub within : Each (λ v u. (Occ v s ⊎ Occ v t) × ((w : ℕ) → Occ w u → Occ w s ⊎ Occ w t)) θ

-- This rules out that a case of `invert` is more special than the trees ask for, so that the cases would not cover every derivation,
-- and that trees are called equal which are not.
pub unify_general : (n : ℕ) (s t : Tree) (m m' : Made) (θ : List Binding) → unify n s t m ≡ ok (some θ) m' → Unifier s t θ
unfolding Answers Unifies along sub Settled
unify_general n s t m m' θ e =
    let g = of_ok (unify_ok n s t m) e in
    record {
      equal = (g.from (along θ) (λ v. settled_still θ g.proper.settled (var v))).1.0;
      general = λ σ q. g.general σ (λ v. refl) (q, tt);
      idempotent = λ r. settled_still θ g.proper.settled r;
      settled = g.proper.settled;
      rises = g.proper.rises;
      within = g.proper.own;
    }

-- what is bound is below n where the trees' variables are
pub unify_below : (n : ℕ) (s t : Tree) (m m' : Made) (θ : List Binding) → ((v : ℕ) → Occ v s ⊎ Occ v t → v < n)
    → unify n s t m ≡ ok (some θ) m' → Each (λ v u. (v < n) × ((w : ℕ) → Occ w u → w < n)) θ
unify_below n s t m m' θ l e =
    each_map (λ v u. Either s t v × Within (Either s t) u) (λ v u. (v < n) × ((w : ℕ) → Occ w u → w < n)) θ
    (λ v u h. (l v h.0, λ w o. l w (h.1 w o))) (unify_general n s t m m' θ e).within

-- Each binding's value has its variable's sort, where s and t have one sort. This rules out that unification puts a term where one of
-- another sort stands.
pub unify_sorted : (S : Sig) (vs : ℕ → ℕ) (n : ℕ) (s t : Tree) (k : ℕ) (m m' : Made) (θ : List Binding)
    → Sorted S vs s k → Sorted S vs t k → unify n s t m ≡ ok (some θ) m' → Each (λ v u. Sorted S vs u (vs v)) θ
unfolding Answers SortedPairs Each
unify_sorted S vs n s t k m m' θ a b e = (of_ok (unify_ok n s t m) e).sorts S vs tt ((k, a, b), tt)

-- the same of `along`
pub unify_sorts : (S : Sig) (vs : ℕ → ℕ) (n : ℕ) (s t : Tree) (k : ℕ) (m m' : Made) (θ : List Binding)
    → Sorted S vs s k → Sorted S vs t k → unify n s t m ≡ ok (some θ) m' → (v : ℕ) → Sorted S vs (along θ v) (vs v)
unify_sorts S vs n s t k m m' θ a b e v = sorts_after S vs θ (unify_sorted S vs n s t k m m' θ a b e) v

-- Refusals ------------------------------------------------------------------------------------------------------------------------

-- A refusal is question 60, in row 8, 9 or 14, and what was made before is still there. This rules out that unification refuses trees
-- for what they are: only for want of room.
pub unify_refuses : (n : ℕ) (s t : Tree) (k d : ℕ) (m m' : Made) → unify n s t m ≡ refuse k d m'
    → (k ≡ 60) × ((d ≡ 8) ⊎ ((d ≡ 9) ⊎ (d ≡ 14))) × Grown m m'
unfolding UnifyRow
unify_refuses n s t k d m m' e = of_grows_refuse (unify_grows n s t m) e

-- what was made before keeps its place, where there is an answer too
pub unify_makes : (n : ℕ) (s t : Tree) (m m' : Made) (r : Option (List Binding)) → unify n s t m ≡ ok r m' → Grown m m'
unify_makes n s t m m' r e = of_grows_ok (unify_grows n s t m) e
