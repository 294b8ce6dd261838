-- A term's number in the tables is its tree's place among the trees made. The trees are distinct, so to compare numbers is to compare
-- trees; with a tree its arguments are there, so making one again changes nothing. Assumes nothing.
use Rattle.std.specs.Prelude.{◌≡◌, true, false, ℕ, suc, ◌≤◌, ◌<◌, length, get_or, eqb}
use Rattle.std.proofs.Math.Path.{refl}
use Rattle.std.proofs.Common.{sym, ap, ◌∙◌, subst, true≢false, suc-le-suc, zero-lt-suc, eq-eqb, ne_eqb}
use mathlib.Core.List.{List, [], ◌∷◌}
use native.Mathlib.Omega.{arith}
use Rattle.std.proofs.Math.Decide.{dec_lt, ℕ_discrete}
use Rattle.rules.specs.Out.{Out, ok}
use Rattle.rules.specs.Tree.{Tree, Trees, var, app, same_tree, same_trees}
use Rattle.rules.specs.Store.{Made, stored, number, make}
use Rattle.rules.specs.StateTables.{numbers}
use Rattle.rules.specs.Laws.Tree.{same_self, not_same}
use Rattle.rules.specs.Laws.Store.{Apart, Closed, Ins, number_le, number_is, number_of_lem, stored_true, stored_false, make_old}
use Rattle.terms.specs.declared.store.Mark.{Mark}
use Rattle.terms.specs.Table.{args_of, tree_at, made, Shaped, is_var, is_app, Good, Grown, Stored, tree}
use Rattle.terms.specs.Node.{same_words}
use Rattle.terms.specs.Laws.Tables.{length_trees, tree_here, tree_app, tree_var, not_var_app}
use Rattle.terms.specs.Laws.Growth.{made_length, grown_refl, grown_tree}

-- Distinct trees ---------------------------------------------------------------------------------------------------------------------

number_there : (M : Made) → Apart M → (i : ℕ) → i < length M → (t : Tree) → get_or M i (var 0) ≡ t → number M t < length M
number_there M a i h t e = let z = number_of_lem M a i h t e in omega arith

pub numbers_args : (M : Made) → Apart M → (xs : List ℕ) → ((k : ℕ) → k < length xs → get_or xs k 0 < length M) → numbers M (args_of M xs) ≡ xs
unfolding numbers args_of
numbers_args M a [] b = refl
numbers_args M a (x ∷ xs) b =
    λ i. number_of_lem M a x (b 0 (zero-lt-suc (length xs))) (get_or M x (var 0)) refl i ∷ numbers_args M a xs (λ k l. b (suc k) (suc-le-suc l)) i

ins_args : (M : Made) → Apart M → (xs : List ℕ) → ((k : ℕ) → k < length xs → get_or xs k 0 < length M) → Ins M (args_of M xs)
unfolding args_of
ins_args M a [] b = tt
ins_args M a (x ∷ xs) b = (number_there M a x (b 0 (zero-lt-suc (length xs))) _ refl, ins_args M a xs (λ k l. b (suc k) (suc-le-suc l)))

args_in : (M : Made) → Apart M → (k : ℕ) → k ≤ length M → {w : List ℕ} → Shaped k w → (f : ℕ) (ts : Trees) → tree_at M w ≡ app f ts → Ins M ts
args_in M a k l (is_var {h = h} p u) f ts e = absurd (not_var_app _ _ _ (sym (tree_var M h [] p) ∙ e))
args_in M a k l (is_app {h = h} {xs = xs} p b) f ts e =
    let d : app h (args_of M xs) ≡ app f ts = sym (tree_app M h xs p) ∙ e in
    let z : args_of M xs ≡ ts = cc in
    subst (Ins M) z (ins_args M a xs (λ j q. let y = b j q in omega arith))

same_at : (M : Made) → Apart M → (i j : ℕ) → i < length M → j < length M → same_tree (get_or M i (var 0)) (get_or M j (var 0)) ≡ eqb i j
unfolding Apart
same_at M a i j h k = elim (ℕ_discrete i j) [
  | yes e ↦ ap (λ (n : ℕ). same_tree (get_or M i (var 0)) (get_or M n (var 0))) (sym e) ∙ same_self (get_or M i (var 0)) ∙ sym (eq-eqb i j e)
  | no n ↦ not_same (get_or M i (var 0)) (get_or M j (var 0)) (λ e. n (a i j h k e)) ∙ sym (ne_eqb i j n)
]

same_all : (M : Made) → Apart M → (xs ys : List ℕ) → ((k : ℕ) → k < length xs → get_or xs k 0 < length M) → ((k : ℕ) → k < length ys → get_or ys k 0 < length M)
    → same_trees (args_of M xs) (args_of M ys) ≡ same_words xs ys
unfolding args_of same_tree same_words
same_all M a [] [] b d = refl
same_all M a [] (y ∷ ys) b d = refl
same_all M a (x ∷ xs) [] b d = refl
same_all M a (x ∷ xs) (y ∷ ys) b d =
    let p = same_at M a x y (b 0 (zero-lt-suc (length xs))) (d 0 (zero-lt-suc (length ys))) in
    let q = same_all M a xs ys (λ k l. b (suc k) (suc-le-suc l)) (λ k l. d (suc k) (suc-le-suc l)) in
    λ i. elim (p i) [ true ↦ q i | false ↦ false ]

-- a tree that is stored has a number, and stands there
stored_at : (M : Made) (t : Tree) → stored M t ≡ true → (number M t < length M) × (get_or M (number M t) (var 0) ≡ t)
stored_at M t e = elim (dec_lt (number M t) (length M)) [
  | yes p ↦ (p, number_is M t p)
  | no q ↦ (let l = number_le M t in let z : number M t ≡ length M = omega arith in absurd (true≢false (sym e ∙ stored_false M t z)))
]

-- Good tables ------------------------------------------------------------------------------------------------------------------------

-- a stored tree's number is a term's, and that term's tree
pub number_tree : (I W : List ℕ) (m : Mark) (t : Tree) → stored (made I W m) t ≡ true → (number (made I W m) t < m.terms) × (tree I W m (number (made I W m) t) ≡ t)
number_tree I W m t e = let a = stored_at (made I W m) t e in let b = a.0 in let l = made_length I W m in (omega arith, a.1)

module _ {I W : List ℕ} {m : Mark} (g : Good I W m) where
  -- a term's number is the number of its tree
  pub tree_number : (i : ℕ) → i < m.terms → number (made I W m) (tree I W m i) ≡ i
  tree_number i h = let l = made_length I W m in number_of_lem (made I W m) g.apart i (omega arith) (tree I W m i) refl

  pub tree_stored : (i : ℕ) → i < m.terms → stored (made I W m) (tree I W m i) ≡ true
  tree_stored i h = let l = made_length I W m in let e = tree_number i h in stored_true (made I W m) (tree I W m i) (omega arith)

  -- the same of many
  pub trees_numbers : (xs : List ℕ) → ((k : ℕ) → k < length xs → get_or xs k 0 < m.terms) → numbers (made I W m) (args_of (made I W m) xs) ≡ xs
  trees_numbers xs b = let l = made_length I W m in numbers_args (made I W m) g.apart xs (λ k h. let z = b k h in omega arith)

  -- to compare numbers is to compare trees
  pub same_number : (i j : ℕ) → i < m.terms → j < m.terms → same_tree (tree I W m i) (tree I W m j) ≡ eqb i j
  same_number i j h k = let l = made_length I W m in same_at (made I W m) g.apart i j (omega arith) (omega arith)

  pub same_numbers : (xs ys : List ℕ) → ((k : ℕ) → k < length xs → get_or xs k 0 < m.terms) → ((k : ℕ) → k < length ys → get_or ys k 0 < m.terms)
      → same_trees (args_of (made I W m) xs) (args_of (made I W m) ys) ≡ same_words xs ys
  same_numbers xs ys b d =
      let l = made_length I W m in
      same_all (made I W m) g.apart xs ys (λ k h. let z = b k h in omega arith) (λ k h. let z = d k h in omega arith)

  -- one tree, one number
  pub tree_once : (i j : ℕ) → i < m.terms → j < m.terms → tree I W m i ≡ tree I W m j → i ≡ j
  tree_once i j h k e = sym (tree_number i h) ∙ ap (number (made I W m)) e ∙ tree_number j k

  pub made_closed : Closed (made I W m)
  unfolding Closed
  made_closed f ts h =
      let z = length_trees I W m.terms in
      let p : number (made I W m) (app f ts) < m.terms = omega arith in
      args_in (made I W m) g.apart (number (made I W m) (app f ts)) (omega arith) (g.shaped _ p) f ts (sym (tree_here I W m g _ p) ∙ number_is (made I W m) (app f ts) h)

  -- a tree that is there is made again without a change
  pub made_again : (i : ℕ) → i < m.terms → make (tree I W m i) (made I W m) ≡ ok (tree I W m i) (made I W m)
  made_again i h =
      let z = length_trees I W m.terms in
      make_old (made I W m) made_closed (tree I W m i) (number_there (made I W m) g.apart i (omega arith) (tree I W m i) refl)

  -- the tree t stands at i already
  pub there_stored : (i : ℕ) → i < m.terms → (t : Tree) → tree I W m i ≡ t → Stored I W I W m t (make t (made I W m)) i m
  there_stored i h t e =
      record {
        grown = grown_refl g;
        makes = subst (λ (u : Tree). make u (made I W m) ≡ ok u (made I W m)) e (made_again i h);
        numbered = sym (tree_number i h) ∙ ap (number (made I W m)) e;
        there = h;
      }

-- the tree that was stored stands at its number
pub stored_is : {I W J X : List ℕ} {old new : Mark} {t : Tree} {K : Out Made Tree} {n : ℕ} → Stored I W J X old t K n new → tree J X new n ≡ t
stored_is {J = J} {X = X} {new = new} {t = t} s =
    let l = made_length J X new in
    let h = s.there in
    let e = s.numbered in
    ap (λ (i : ℕ). tree J X new i) e ∙ number_is (made J X new) t (omega arith)

-- Growth -----------------------------------------------------------------------------------------------------------------------------

module _ {I W J X : List ℕ} {old new : Mark} (w : Grown I W J X old new) where
  grown_at : (t : Tree) → stored (made I W old) t ≡ true → (number (made I W old) t < new.terms) × (tree J X new (number (made I W old) t) ≡ t)
  grown_at t e =
      let a = number_tree I W old t e in
      let b = a.0 in
      let l = w.more in
      (omega arith, grown_tree w (number (made I W old) t) a.0 ∙ a.1)

  -- a stored tree stays, and keeps its number
  pub grown_stored : (t : Tree) → stored (made I W old) t ≡ true → stored (made J X new) t ≡ true
  grown_stored t e = let a = grown_at t e in subst (λ (u : Tree). stored (made J X new) u ≡ true) a.1 (tree_stored w.good (number (made I W old) t) a.0)

  pub grown_number : (t : Tree) → stored (made I W old) t ≡ true → number (made J X new) t ≡ number (made I W old) t
  grown_number t e =
      let a = grown_at t e in
      sym (ap (number (made J X new)) a.1) ∙ tree_number w.good (number (made I W old) t) a.0

  -- an old term's tree still has its number
  pub grown_tree_number : (i : ℕ) → i < old.terms → number (made J X new) (tree I W old i) ≡ i
  grown_tree_number i h = grown_number (tree I W old i) (tree_stored w.was i h) ∙ tree_number w.was i h

  -- so do many
  pub grown_numbers : (xs : List ℕ) → ((k : ℕ) → k < length xs → get_or xs k 0 < old.terms) → numbers (made J X new) (args_of (made I W old) xs) ≡ numbers (made I W old) (args_of (made I W old) xs)
  unfolding numbers args_of
  grown_numbers [] b = refl
  grown_numbers (x ∷ xs) b =
      let p = grown_number (tree I W old x) (tree_stored w.was x (b 0 (zero-lt-suc (length xs)))) in
      let q = grown_numbers xs (λ k l. b (suc k) (suc-le-suc l)) in
      λ i. p i ∷ q i
