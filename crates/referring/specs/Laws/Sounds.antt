-- Tables that are well formed hold a sound store: so tables that have grown stand for made trees that have grown. Assumes nothing.
use Rattle.std.specs.Prelude.{◌≡◌, refl, List, [], ◌∷◌, ℕ, zero, suc, ◌<◌, ◌≤◌, length, get_or, drop}
use Rattle.std.proofs.Common.{sym, subst, inl, inr, arith}
use Rattle.rules.specs.Tree.{Tree, var}
use Rattle.rules.specs.Store.{Made}
use Rattle.rules.specs.Laws.Keeping.{Each, Arguments, Grows}
use Rattle.rules.specs.Laws.Sound.{In, Distinct, ClosedBehind, Closed, sound, closed_snoc}
use Rattle.rules.specs.Laws.Store.{Apart}
use Rattle.terms.specs.declared.store.Mark.{Mark}
use Rattle.terms.specs.Table.{trees, made, tree_at, args_of, node_at, Shaped, is_var, is_app, Good, Grown}
use Rattle.terms.specs.Laws.Tables.{length_trees, tree_app, tree_var, made_words}
use Rattle.terms.specs.Laws.Growth.{made_length, grown_made}

in_at : (M : Made) (i : ℕ) → i < length M → In (get_or M i (var 0)) M
unfolding In
in_at [] i l = absurd (omega arith)
in_at (u ∷ M) zero l = inl refl
in_at (u ∷ M) (suc i) l = inr (in_at M i (omega arith))

record Place (M : Made) (t : Tree) : Type 0 where
  at : ℕ
  inside : at < length M
  is : get_or M at (var 0) ≡ t

in_place : (M : Made) (t : Tree) → In t M → Place M t
unfolding In
in_place [] t i = absurd i
in_place (u ∷ M) t (inl e) = record { at = 0; inside = omega arith; is = sym e }
in_place (u ∷ M) t (inr i) = let p = in_place M t i in record { at = suc p.at; inside = omega (arith, p.inside); is = p.is }

apart_distinct : (M : Made) → Apart M → Distinct M
unfolding Apart Distinct
apart_distinct [] a = tt
apart_distinct (u ∷ M) a = (
  λ i. let p = in_place M u i in let z : 0 ≡ suc p.at = a 0 (suc p.at) (omega arith) (omega (arith, p.inside)) (sym p.is) in omega arith,
  apart_distinct M (λ i j h k e. let z : suc i ≡ suc j = a (suc i) (suc j) (omega arith) (omega arith) e in omega arith),
)

args_each : (M : Made) (xs : List ℕ) → ((k : ℕ) → k < length xs → get_or xs k 0 < length M) → Each (λ u. In u M) (args_of M xs)
unfolding args_of Each
args_each M [] b = tt
args_each M (x ∷ xs) b = (in_at M x (b 0 (omega arith)), args_each M xs (λ k l. b (suc k) (omega arith)))

node_arguments : (M : Made) {n : ℕ} {w : List ℕ} → n ≡ length M → Shaped n w → Arguments (λ u. In u M) (tree_at M w)
unfolding Arguments
node_arguments M e (is_var {h = h} p u) = subst (Arguments (λ u. In u M)) (sym (tree_var M h [] p)) tt
node_arguments M e (is_app {h = h} {xs = xs} p b) = subst (Arguments (λ u. In u M)) (sym (tree_app M h xs p)) (args_each M xs (λ k l. omega (arith, b k l, e)))

trees_closed : (I W : List ℕ) (m : Mark) → Good I W m → (n : ℕ) → n ≤ m.terms → Closed (trees I W n)
unfolding trees ClosedBehind
trees_closed I W m g zero l = tt
trees_closed I W m g (suc n) l =
    closed_snoc [] (trees I W n) (tree_at (trees I W n) (node_at I W n)) (trees_closed I W m g n (omega arith))
    (node_arguments (trees I W n) (sym (length_trees I W n)) (g.shaped n l))

pub good_sound : {I W : List ℕ} {m : Mark} → Good I W m → sound.Good (made I W m)
unfolding sound
good_sound {I} {W} {m} g =
    record {
      distinct = apart_distinct (made I W m) g.apart;
      closed = trees_closed I W m g m.terms (omega arith);
      row8 = omega (arith, made_length I W m, g.room);
      row9 = omega (arith, made_words I W m g, g.within);
    }

pub grown_grows : {I W J X : List ℕ} {old new : Mark} → Grown I W J X old new → Grows sound (made I W old) (made J X new)
grown_grows {J = J} {X} {old} {new} w = record { new = drop old.terms (made J X new); is = grown_made w; good = good_sound w.good }
