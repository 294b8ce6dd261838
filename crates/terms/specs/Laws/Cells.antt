-- Good tables hold, cell by cell, what the definition lays out for the trees made: the trees determine the words and the ends.
-- Assumes nothing.
use Rattle.std.specs.Prelude.{◌≡◌, List, [], ◌∷◌, ◌++◌, length, drop, replicate}
use Rattle.std.proofs.Math.Path.{refl, sym, ap}
use Rattle.std.proofs.Common.{◌∙◌, append-nil, append_assoc, length-drop, take-append-drop, take-suc, take-take, length-take-le, ext_get_or, get_or-drop, get_or-take}
use Prim.Native.Nat.{ℕ, zero, suc, ◌+◌, ◌-◌, ◌≤◌, ◌<◌, ◌*◌}
use native.Mathlib.Omega.{arith}
use Rattle.std.proofs.Math.ListN.{get_or, take}
use Rattle.std.proofs.lemmas.List.{length-replicate, get_or-replicate, replicate-append-replicate}
use Rattle.std.proofs.Math.Seq.{take-add}
use Rattle.rules.specs.Limits.{SYMBOLS, TERMS, WORDS}
use Rattle.rules.specs.Tree.{Tree, node}
use Rattle.rules.specs.Store.{Made, words}
use Rattle.rules.specs.Laws.Store.{Apart, words_more}
use Rattle.rules.specs.TheoryTables.{filled}
use Rattle.rules.specs.StateTables.{node_cells, word_cells, end_cells}
use Rattle.rules.specs.Laws.Row.{filled_fits}
use Rattle.terms.specs.declared.store.Mark.{Mark}
use Rattle.terms.specs.Table.{start, node_at, tree_at, trees, made, Shaped, is_var, is_app, Good, settled}
use Rattle.terms.specs.Laws.Tables.{length_trees, get_d_trees, tree_here, tree_app, tree_var, tree_node, node_length}
use Rattle.terms.specs.Laws.Numbers.{numbers_args}

-- A node's words -----------------------------------------------------------------------------------------------------------------------

node_cells_lem : (M : Made) → Apart M → (k : ℕ) → k ≤ length M → {w : List ℕ} → Shaped k w → node_cells M (tree_at M w) ≡ w
unfolding node_cells
node_cells_lem M a k l (is_var {h = h} p u) = let e : SYMBOLS + (h - SYMBOLS) ≡ h = omega arith in ap (node_cells M) (tree_var M h [] p) ∙ ap (λ (j : ℕ). j ∷ []) e
node_cells_lem M a k l (is_app {h = h} {xs = xs} p b) =
    ap (node_cells M) (tree_app M h xs p) ∙ ap (λ (r : List ℕ). h ∷ r) (numbers_args M a xs (λ j q. let z = b j q in omega arith))

-- One tree more ------------------------------------------------------------------------------------------------------------------------

words_snoc : (M N : Made) (t : Tree) → word_cells M (N ++ (t ∷ [])) ≡ word_cells M N ++ node_cells M t
unfolding word_cells
words_snoc M [] t = append-nil (node_cells M t)
words_snoc M (u ∷ us) t = ap (λ (r : List ℕ). node_cells M u ++ r) (words_snoc M us t) ∙ sym (append_assoc (node_cells M u) (word_cells M us) (node_cells M t))

ends_snoc : (k : ℕ) (N : Made) (t : Tree) → end_cells k (N ++ (t ∷ [])) ≡ end_cells k N ++ ((k + words N + node t) ∷ [])
unfolding end_cells words
ends_snoc k [] t = let e : k + node t ≡ k + 0 + node t = omega arith in ap (λ (j : ℕ). j ∷ []) e
ends_snoc k (u ∷ us) t =
    let e : k + node u + words us + node t ≡ k + (node u + words us) + node t = omega arith in
    ap (λ (r : List ℕ). (k + node u) ∷ r) (ends_snoc (k + node u) us t ∙ ap (λ (j : ℕ). end_cells (k + node u) us ++ (j ∷ [])) e)

-- The tables -----------------------------------------------------------------------------------------------------------------------------

-- cells that are zero from n on
zeros_from : (l : List ℕ) (n : ℕ) → n ≤ length l → ((i : ℕ) → n ≤ i → i < length l → get_or l i 0 ≡ 0) → l ≡ take n l ++ replicate (length l - n) 0
zeros_from l n h z =
    let a = length-drop n l in
    let b = length-replicate {A = ℕ} (length l - n) 0 in
    sym (take-append-drop n l)
    ∙ ap (λ (r : List ℕ). take n l ++ r)
    (ext_get_or 0 (drop n l) (replicate (length l - n) 0) (omega arith)
    (λ i p. get_or-drop n l i 0 ∙ z (n + i) (omega arith) (omega arith) ∙ sym (get_or-replicate (length l - n) i 0 0 (omega arith))))

module _ {I W : List ℕ} {m : Mark} (g : Good I W m) where
  node_of : (i : ℕ) → i < m.terms → node_cells (made I W m) (tree_at (trees I W i) (node_at I W i)) ≡ node_at I W i
  node_of i h =
      ap (node_cells (made I W m)) (sym (get_d_trees I W m.terms i h) ∙ tree_here I W m g i h)
      ∙ node_cells_lem (made I W m) g.apart i (let z = length_trees I W m.terms in omega arith) (g.shaped i h)

  words_to : (n : ℕ) → n ≤ m.terms → take (start I n) W ≡ word_cells (made I W m) (trees I W n)
  unfolding trees start node_at word_cells
  words_to zero h = refl
  words_to (suc n) h =
      let r = g.rise n h in
      let e : get_or I n 0 ≡ start I n + (get_or I n 0 - start I n) = omega arith in
      ap (λ (j : ℕ). take j W) e ∙ take-add (start I n) (get_or I n 0 - start I n) W
      ∙ (λ i. words_to n (omega arith) i ++ sym (node_of n h) i)
      ∙ sym (words_snoc (made I W m) (trees I W n) (tree_at (trees I W n) (node_at I W n)))

  -- the words are those of the trees, and zero behind
  pub words_are : W ≡ filled WORDS (word_cells (made I W m) (made I W m))
  words_are =
      let a = g.words in
      let b = g.within in
      let c : take m.words W ≡ word_cells (made I W m) (made I W m) = ap (λ (j : ℕ). take j W) g.ends ∙ words_to m.terms (omega arith) in
      let d = length-take-le m.words W (omega arith) in
      let e : length (word_cells (made I W m) (made I W m)) ≡ m.words = sym (ap length c) ∙ d in
      let f : length W - m.words ≡ WORDS - length (word_cells (made I W m) (made I W m)) = omega arith in
      zeros_from W m.words (omega arith) (λ i p q. g.no_words i p)
      ∙ (λ i. c i ++ replicate (f i) 0)
      ∙ sym (filled_fits WORDS (word_cells (made I W m) (made I W m)) (omega arith))

  ends_to : (n : ℕ) → n ≤ m.terms → (take n I ≡ end_cells 0 (trees I W n)) × (words (trees I W n) ≡ start I n)
  unfolding trees start end_cells words
  ends_to zero h = (refl, refl)
  ends_to (suc n) h =
      let ih = ends_to n (omega arith) in
      let w = ih.1 in
      let t = tree_at (trees I W n) (node_at I W n) in
      let a = tree_node (trees I W n) n (g.shaped n h) in
      let b = node_length I W m g n h in
      let r = g.rise n h in
      let x = words_more (trees I W n) t in
      let c = g.room in
      let d = g.index in
      let e : get_or I n 0 ≡ 0 + words (trees I W n) + node t = omega arith in
      (take-suc I n 0 (omega arith) ∙ (λ i. ih.0 i ++ (e i ∷ [])) ∙ sym (ends_snoc 0 (trees I W n) t), omega arith)

  ends_length : length (end_cells 0 (made I W m)) ≡ m.terms
  ends_length =
      let a = g.index in
      let b = g.room in
      sym (ap length (ends_to m.terms (omega arith)).0) ∙ length-take-le m.terms I (omega arith)

  -- the ends are those of the trees, and zero behind
  pub ends_are : take TERMS I ≡ filled TERMS (end_cells 0 (made I W m))
  ends_are =
      let a = g.index in
      let b = g.room in
      let l = length-take-le TERMS I (omega arith) in
      let c : take m.terms (take TERMS I) ≡ end_cells 0 (made I W m) = take-take m.terms TERMS I (omega arith) ∙ (ends_to m.terms (omega arith)).0 in
      let d = length-take-le m.terms (take TERMS I) (omega arith) in
      let e : length (end_cells 0 (made I W m)) ≡ m.terms = sym (ap length c) ∙ d in
      let f : length (take TERMS I) - m.terms ≡ TERMS - length (end_cells 0 (made I W m)) = omega arith in
      zeros_from (take TERMS I) m.terms (omega arith) (λ i p q. get_or-take TERMS I i 0 (omega arith) ∙ g.no_ends i p (omega arith))
      ∙ (λ i. c i ++ replicate (f i) 0)
      ∙ sym (filled_fits TERMS (end_cells 0 (made I W m)) (omega arith))

-- zeros behind a table that is filled up already
fill_more : (k n : ℕ) (xs : List ℕ) → length xs ≤ k → filled k xs ++ replicate n 0 ≡ filled (k + n) xs
fill_more k n xs h =
    let e : k - length xs + n ≡ k + n - length xs = omega arith in
    ap (λ (r : List ℕ). r ++ replicate n 0) (filled_fits k xs h) ∙ append_assoc xs (replicate (k - length xs) 0) (replicate n 0)
    ∙ ap (λ (r : List ℕ). xs ++ r) (replicate-append-replicate (k - length xs) n 0 ∙ ap (λ (j : ℕ). replicate j 0) e)
    ∙ sym (filled_fits (k + n) xs (omega arith))

-- the index without its look-up part is the table that is left after a check
pub settled_is : {I W : List ℕ} {m : Mark} → Good I W m → settled I ≡ filled (4 * TERMS) (end_cells 0 (made I W m))
settled_is {I} {W} {m} g =
    let l = ends_length g in
    let r = g.room in
    ap (λ (x : List ℕ). x ++ replicate (3 * TERMS) 0) (ends_are g) ∙ fill_more TERMS (3 * TERMS) (end_cells 0 (made I W m)) (omega arith)
