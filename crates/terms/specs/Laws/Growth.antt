-- Tables that grow: up to the old mark they are as they were, so that every term keeps its number and its tree. Assumes nothing.
use Rattle.std.specs.Prelude.{◌≡◌, length, get_or, take, drop}
use Rattle.std.proofs.Math.Path.{refl}
use Rattle.std.proofs.Common.{sym, ap, ◌∙◌, arith, zero-lt-suc, take-append-drop, ext_get_or, length-take-le, get_or-take}
use mathlib.Core.List.{List, [], ◌∷◌, ◌++◌}
use Prim.Native.Nat.{ℕ, zero, suc, ◌-◌, ◌≤◌, ◌<◌, suc-le-suc}
use Rattle.rules.specs.Tree.{var, more}
use Rattle.rules.specs.Store.{Made}
use Rattle.terms.specs.declared.store.Mark.{Mark}
use Rattle.terms.specs.Table.{start, node_at, args_of, made, Good, Same, Grown, tree}
use Rattle.terms.specs.Laws.Runs.{run_same}
use Rattle.terms.specs.Laws.Tables.{end_within, get_d_trees, length_trees, trees_same}

-- as many trees as terms
pub made_length : (I W : List ℕ) (m : Mark) → length (made I W m) ≡ m.terms
made_length I W m = length_trees I W m.terms

-- The same up to a mark ---------------------------------------------------------------------------------------------------------------

pub same_self : (I W : List ℕ) (m : Mark) → Same I W I W m
same_self I W m = record { ends = λ i h. refl; words = λ i h. refl; long_index = refl; long_words = refl }

pub same_then : {I W J X Y Z : List ℕ} {m n : Mark} → Same I W J X m → Same J X Y Z n → m.terms ≤ n.terms → m.words ≤ n.words → Same I W Y Z m
same_then a b h k =
    record {
      ends = λ i p. b.ends i (omega arith) ∙ a.ends i p;
      words = λ i p. b.words i (omega arith) ∙ a.words i p;
      long_index = b.long_index ∙ a.long_index;
      long_words = b.long_words ∙ a.long_words;
    }

module _ {I W J X : List ℕ} {m : Mark} (g : Good I W m) (s : Same I W J X m) where
  pub start_same : (i : ℕ) → i ≤ m.terms → start J i ≡ start I i
  unfolding start
  start_same zero h = refl
  start_same (suc i) h = s.ends i h

  pub node_same : (i : ℕ) → i < m.terms → node_at J X i ≡ node_at I W i
  unfolding node_at
  node_same i h =
      let a = end_within I W m g i h in
      let b = g.rise i h in
      let d = g.within in
      let e = g.words in
      rw (start_same i (omega arith), s.ends i h) (run_same W X m.words (start I i) (get_or I i 0 - start I i) s.words s.long_words (omega arith) (omega arith))

  pub made_same : made J X m ≡ made I W m
  made_same = trees_same J X I W m.terms node_same

-- Growth -----------------------------------------------------------------------------------------------------------------------------

pub grown_refl : {I W : List ℕ} {m : Mark} → Good I W m → Grown I W I W m m
grown_refl {I} {W} {m} g = record { was = g; good = g; more = omega arith; longer = omega arith; same = same_self I W m }

pub grown_trans : {I W J X Y Z : List ℕ} {a b c : Mark} → Grown I W J X a b → Grown J X Y Z b c → Grown I W Y Z a c
grown_trans p q =
    let c = p.more in
    let d = q.more in
    let e = p.longer in
    let f = q.longer in
    record { was = p.was; good = q.good; more = omega arith; longer = omega arith; same = same_then p.same q.same c e }

module _ {I W J X : List ℕ} {old new : Mark} (w : Grown I W J X old new) where
  -- a term keeps its tree
  pub grown_tree : (i : ℕ) → i < old.terms → tree J X new i ≡ tree I W old i
  grown_tree i h =
      let l = w.more in
      get_d_trees J X new.terms i (omega arith) ∙ sym (get_d_trees J X old.terms i h) ∙ ap (λ (M : Made). get_or M i (var 0)) (made_same w.was w.same)

  -- a term that was there is there
  pub grown_there : (i : ℕ) → i < old.terms → i < new.terms
  grown_there i h = let l = w.more in omega arith

  pub grown_args : (xs : List ℕ) → ((k : ℕ) → k < length xs → get_or xs k 0 < old.terms) → args_of (made J X new) xs ≡ args_of (made I W old) xs
  unfolding args_of
  grown_args [] b = refl
  grown_args (x ∷ xs) b = λ i. more (grown_tree x (b 0 (zero-lt-suc (length xs))) i) (grown_args xs (λ k l. b (suc k) (suc-le-suc l)) i)

  -- the trees made before are the first of those made now
  pub grown_take : take old.terms (made J X new) ≡ made I W old
  grown_take =
      let a = made_length I W old in
      let b = made_length J X new in
      let l = w.more in
      let c = length-take-le old.terms (made J X new) (omega arith) in
      ext_get_or (var 0) (take old.terms (made J X new)) (made I W old) (omega arith)
      (λ i h. get_or-take old.terms (made J X new) i (var 0) (omega arith) ∙ grown_tree i (omega arith))

  pub grown_made : made J X new ≡ made I W old ++ drop old.terms (made J X new)
  grown_made = sym (take-append-drop old.terms (made J X new)) ∙ ap (λ (M : Made). M ++ drop old.terms (made J X new)) grown_take
