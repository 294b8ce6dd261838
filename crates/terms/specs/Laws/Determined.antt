-- The trees made determine every cell of good tables, and the bindings every cell of theirs. So tables that went back to an old mark are
-- the tables that were. Assumes nothing.
use Rattle.std.specs.Prelude.{◌≡◌}
use Rattle.std.proofs.Math.Path.{refl, sym, ap}
use Rattle.std.proofs.Common.{◌∙◌, subst, ext_get_or}
use mathlib.Core.List.{List}
use Prim.Native.Nat.{ℕ, zero, suc, ◌+◌, ◌-◌, ◌≤◌, ◌<◌}
use native.Mathlib.Omega.{arith}
use Rattle.std.proofs.Math.Decide.{dec_lt}
use Rattle.std.proofs.Math.ListN.{length, get_or}
use Rattle.rules.specs.Limits.{TERMS}
use Rattle.rules.specs.Tree.{var, is_open}
use Rattle.rules.specs.Store.{Made}
use Rattle.rules.specs.Laws.Store.{Apart}
use Rattle.rules.specs.Match.{Bound}
use Rattle.terms.specs.declared.store.Mark.{Mark}
use Rattle.terms.specs.Table.{CHAINS, FLAGS, HEADS, INDEX, BUCKETS, start, node_at, tree_at, made, hash, bucket, latest, flag, Shaped, Good}
use Rattle.terms.specs.Table.{Same, Grown, Part, Back}
use Rattle.terms.specs.Patterns.{tree_in, bound_of, Cells}
use Rattle.terms.specs.Laws.Runs.{run_at}
use Rattle.terms.specs.Laws.Chains.{latest_agree}
use Rattle.terms.specs.Laws.Tables.{length_trees, tree_here, tree_one, wide, node_length}
use Rattle.terms.specs.Laws.Growth.{start_same, node_same, made_same, same_then}

-- The same nodes -----------------------------------------------------------------------------------------------------------------

module _ {I W J X : List ℕ} {m : Mark} (g : Good I W m) (h : Good J X m) (s : Same I W J X m) where
  keys : (i : ℕ) → i < m.terms → bucket J X i ≡ bucket I W i
  keys i l = ap hash (node_same g s i l)

  ends_cell : (i : ℕ) → i < TERMS → get_or J i 0 ≡ get_or I i 0
  ends_cell i l = elim (dec_lt i m.terms) [ yes p ↦ s.ends i p | no q ↦ h.no_ends i (omega arith) l ∙ sym (g.no_ends i (omega arith) l) ]

  chains_cell : (i : ℕ) → i < TERMS → get_or J (CHAINS + i) 0 ≡ get_or I (CHAINS + i) 0
  chains_cell i l = elim (dec_lt i m.terms) [
    | yes p ↦ h.chains i p ∙ ap (λ (b : ℕ). latest (bucket J X) b i) (keys i p) ∙ latest_agree (bucket J X) (bucket I W) (bucket I W i) i (λ j k. keys j (omega arith)) ∙ sym (g.chains i p)
    | no q ↦ h.no_chains i (omega arith) l ∙ sym (g.no_chains i (omega arith) l)
  ]

  flags_cell : (i : ℕ) → i < TERMS → get_or J (FLAGS + i) 0 ≡ get_or I (FLAGS + i) 0
  flags_cell i l = elim (dec_lt i m.terms) [
    | yes p ↦ h.flags i p ∙ ap (λ (M : Made). flag (is_open (get_or M i (var 0)))) (made_same g s) ∙ sym (g.flags i p)
    | no q ↦ h.no_flags i (omega arith) l ∙ sym (g.no_flags i (omega arith) l)
  ]

  heads_cell : (b : ℕ) → b < BUCKETS → get_or J (HEADS + b) 0 ≡ get_or I (HEADS + b) 0
  heads_cell b l = h.heads b l ∙ latest_agree (bucket J X) (bucket I W) b m.terms keys ∙ sym (g.heads b l)

  -- the same cell, by its part
  by_part : (o i : ℕ) → o ≤ i → get_or J (o + (i - o)) 0 ≡ get_or I (o + (i - o)) 0 → get_or J i 0 ≡ get_or I i 0
  by_part o i l e = let z : o + (i - o) ≡ i = omega arith in subst (λ (k : ℕ). get_or J k 0 ≡ get_or I k 0) z e

  index_cell : (i : ℕ) → i < INDEX → get_or J i 0 ≡ get_or I i 0
  index_cell i l = elim (dec_lt i CHAINS) [
    | yes p ↦ ends_cell i p
    | no p ↦ elim (dec_lt i FLAGS) [
      | yes q ↦ by_part CHAINS i (omega arith) (chains_cell (i - CHAINS) (omega arith))
      | no q ↦ elim (dec_lt i HEADS) [
        | yes r ↦ by_part FLAGS i (omega arith) (flags_cell (i - FLAGS) (omega arith))
        | no r ↦ by_part HEADS i (omega arith) (heads_cell (i - HEADS) (omega arith))
      ]
    ]
  ]

  words_cell : (i : ℕ) → get_or X i 0 ≡ get_or W i 0
  words_cell i = elim (dec_lt i m.words) [ yes p ↦ s.words i p | no q ↦ h.no_words i (omega arith) ∙ sym (g.no_words i (omega arith)) ]

  pub tables_same : (J ≡ I) × (X ≡ W)
  tables_same =
      let a = h.index in (
        ext_get_or 0 J I s.long_index (λ i l. index_cell i (omega arith)),
        ext_get_or 0 X W s.long_words (λ i l. words_cell i),
      )

-- The same trees -----------------------------------------------------------------------------------------------------------------

module _ {I W J X : List ℕ} {m k : Mark} (g : Good I W m) (h : Good J X k) (e : made I W m ≡ made J X k) where
  terms_one : m.terms ≡ k.terms
  terms_one = sym (length_trees I W m.terms) ∙ ap length e ∙ length_trees J X k.terms

  node_one : (i : ℕ) → i < m.terms → node_at I W i ≡ node_at J X i
  node_one i l =
      let t = terms_one in
      tree_one (made I W m) g.apart (wide I W m g i l)
      (subst (λ (M : Made). Shaped (length M) (node_at J X i)) (sym e) (wide J X k h i (omega arith)))
      (sym (tree_here I W m g i l) ∙ ap (λ (M : Made). get_or M i (var 0)) e ∙ tree_here J X k h i (omega arith) ∙ ap (λ (M : Made). tree_at M (node_at J X i)) (sym e))

  start_one : (i : ℕ) → i ≤ m.terms → start J i ≡ start I i
  unfolding start
  start_one zero l = refl
  start_one (suc i) l =
      let t = terms_one in
      let ih = start_one i (omega arith) in
      let a = node_length I W m g i (omega arith) in
      let b = node_length J X k h i (omega arith) in
      let c = ap length (node_one i (omega arith)) in
      let r = g.rise i (omega arith) in
      let s = h.rise i (omega arith) in
      omega arith

  word_one : (i : ℕ) → i < m.terms → (j : ℕ) → start I i ≤ j → j < get_or I i 0 → get_or X j 0 ≡ get_or W j 0
  unfolding node_at start
  word_one i l j f u =
      let a = start_one i (omega arith) in
      let b = start_one (suc i) (omega arith) in
      let z : start I i + (j - start I i) ≡ j = omega arith in
      let y : start J i + (j - start I i) ≡ j = omega arith in
      sym (ap (λ (x : ℕ). get_or X x 0) y) ∙ sym (run_at X (start J i) (get_or J i 0 - start J i) (j - start I i) (omega arith))
      ∙ ap (λ (w : List ℕ). get_or w (j - start I i) 0) (sym (node_one i l))
      ∙ run_at W (start I i) (get_or I i 0 - start I i) (j - start I i) (omega arith) ∙ ap (λ (x : ℕ). get_or W x 0) z

  words_one : (i : ℕ) → i ≤ m.terms → (j : ℕ) → j < start I i → get_or X j 0 ≡ get_or W j 0
  unfolding start
  words_one zero l j u = absurd (omega arith)
  words_one (suc i) l j u = elim (dec_lt j (start I i)) [ yes p ↦ words_one i (omega arith) j p | no q ↦ word_one i (omega arith) j (omega arith) u ]

  mark_one : k ≡ m
  mark_one =
      let t = terms_one in
      let w : k.words ≡ m.words = h.ends ∙ ap (start J) (sym t) ∙ start_one m.terms (omega arith) ∙ sym g.ends in
      λ i. record { terms = sym t i; words = w i }

  same_one : Same I W J X m
  unfolding start
  same_one =
      let z = g.ends in
      record {
        ends = λ i l. start_one (suc i) l;
        words = λ i l. words_one m.terms (omega arith) i (omega arith);
        long_index = h.index ∙ sym g.index;
        long_words = h.words ∙ sym g.words;
      }

  -- every cell, and the mark
  pub tables_one : (J ≡ I) × (X ≡ W) × (k ≡ m)
  tables_one = let t = tables_same g (subst (Good J X) mark_one h) same_one in (t.0, t.1, mark_one)

-- Back to an old mark --------------------------------------------------------------------------------------------------------------

module _ {I W J X : List ℕ} {old m : Mark} (h : Grown I W J X old m) where
  pub part_grown : Part J X m old
  part_grown = record { good = h.good; fewer = h.more; ends = h.was.ends ∙ sym (start_same h.was h.same old.terms (omega arith)) }

  -- the tables are those that were
  pub back_same : {K Y : List ℕ} → Back J X K Y old → (K ≡ I) × (Y ≡ W)
  back_same b = tables_same h.was b.good (same_then h.same b.same (omega arith) (omega arith))

-- Bindings -------------------------------------------------------------------------------------------------------------------------

cell_one : (M : Made) → Apart M → (x y : ℕ) → x ≤ length M → y ≤ length M → tree_in M x ≡ tree_in M y → x ≡ y
unfolding tree_in Apart
cell_one M a zero zero l k e = refl
cell_one M a zero (suc y) l k e = absurd (let z : ◌≡◌ {A = ℕ} 0 1 = cc in omega arith)
cell_one M a (suc x) zero l k e = absurd (let z : ◌≡◌ {A = ℕ} 0 1 = cc in omega arith)
cell_one M a (suc x) (suc y) l k e = let z : get_or M x (var 0) ≡ get_or M y (var 0) = cc in ap suc (a x y l k z)

-- two lists of cells that bind alike are one
pub cells_one : (M : Made) → Apart M → (B C : List ℕ) → Cells (length M) B → Cells (length M) C → bound_of M B ≡ bound_of M C → B ≡ C
unfolding bound_of
cells_one M a B C b c e =
    ext_get_or 0 B C (b.long ∙ sym c.long) (λ v l. cell_one M a (get_or B v 0) (get_or C v 0) (b.within v) (c.within v) (ap (λ (f : Bound). f v) e))
