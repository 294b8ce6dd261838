-- What `keep` leaves, in each of its four answers. Assumes nothing.
use mathlib.Core.Path.{◌≡◌, refl, sym, ap, ◌∙◌, subst}
use mathlib.Core.List.{List, [], ◌∷◌, ◌++◌}
use mathlib.Core.Logic.{⊎_elim}
use Prim.Native.Nat.{ℕ, ◌+◌, ◌-◌, ◌≤◌, ◌<◌}
use native.Mathlib.Omega.{arith}
use native.Mathlib.Decide.{ℕ_discrete}
use native.Mathlib.Numerals.{add-one}
use lib.ListN.{length, get_or, take, drop, length-append, length-drop, get_or-append}
use lib.Seq.{length-take-le, take_at, drop_at, drop-drop, get_or-take, get_or-drop, get_or-append-add}
use Rattle.rules.specs.Limits.{TERMS, WORDS, NODE}
use Rattle.rules.specs.Out.{ok}
use Rattle.rules.specs.Tree.{Tree, var, is_open}
use Rattle.rules.specs.Store.{Made, number, keep}
use Rattle.rules.specs.Laws.Store.{Apart, get_d_last, apart_more, number_of_lem, keep_old, keep_8, keep_9, keep_new}
use Rattle.terms.specs.declared.store.Mark.{Mark}
use Rattle.terms.specs.Table.{CHAINS, FLAGS, HEADS, INDEX, BUCKETS, run, start, node_at, tree_at, trees, made, hash, bucket, latest, flag}
use Rattle.terms.specs.Table.{Shaped, Node, Good, Same, Stored, Refused}
use borrow.Rule.Slice.PartMut.{put_mid}
use Rattle.std.proofs.Common.{Bool, Some as some, None as nothing}
use Rattle.terms.specs.Node.{seek, Linked}
use Rattle.terms.specs.Laws.Chains.{hash_small, latest_agree, latest_here, latest_other}
use Rattle.terms.specs.Laws.Tables.{last_or, start_next, length_trees, tree_node, shaped_some, made_words}
use Rattle.terms.specs.Laws.Growth.{grown_refl, start_same, node_same, made_same}
use Rattle.terms.proofs.Finds.{seek_number, seek_nowhere}

-- The words with a node written behind the used ones ----------------------------------------------------------------------------------

pub record Written (W X : List ℕ) (used : ℕ) (w : List ℕ) : Type 0 where
  pub long : length X ≡ length W
  pub before : (i : ℕ) → i < used → get_or X i 0 ≡ get_or W i 0
  pub here : run X used (length w) ≡ w
  pub behind : (i : ℕ) → used + length w ≤ i → get_or X i 0 ≡ get_or W i 0

module _ (W w : List ℕ) (used : ℕ) (h : used + length w ≤ length W) where
  laid : Written W (take used W ++ (w ++ drop (used + length w) W)) used w
  laid =
      let A : List ℕ = take used W in
      let D : List ℕ = drop (used + length w) W in
      let la : length (take used W) ≡ used = length-take-le used W (omega arith) in
      record {
        long = length-append A (w ++ D) ∙ rw (length-append w D, la, length-drop (used + length w) W) (omega arith);
        before = λ i l. get_or-append A (w ++ D) 0 i (omega arith) ∙ get_or-take used W i 0 l;
        here = ap (take (length w)) (drop_at A (w ++ D) used la) ∙ take_at w D (length w) refl;
        behind = λ i l.
            let e : i ≡ length (take used W) + (length w + (i - used - length w)) = omega arith in
            let f : used + length w + (i - used - length w) ≡ i = omega arith in
            ap (λ (k : ℕ). get_or (A ++ (w ++ D)) k 0) e ∙ get_or-append-add A (w ++ D) (length w + (i - used - length w)) 0 ∙ get_or-append-add w D (i - used - length w) 0
            ∙ get_or-drop (used + length w) W (i - used - length w) 0 ∙ ap (λ (k : ℕ). get_or W k 0) f;
      }

  pub written : (ys : List ℕ) → ys ≡ w → Written W (take used W ++ (ys ++ drop (used + length w - used) (drop used W))) used w
  written ys e =
      let z : used + length w - used ≡ length w = omega arith in
      subst (λ (r : List ℕ). Written W (take used W ++ r) used w)
      (sym ((λ i. e i ++ drop (z i) (drop used W)) ∙ ap (λ (r : List ℕ). w ++ r) (drop-drop (length w) used W))) laid

-- A term that is there, and no room ---------------------------------------------------------------------------------------------------

module _ (I W : List ℕ) (m : Mark) (w : List ℕ) (g : Good I W m) (c : Node m.terms w) where
  pub keep_there : (i : ℕ) → some i ≡ seek (made I W m) (tree_at (made I W m) w) → Stored I W I W m (tree_at (made I W m) w) (keep (tree_at (made I W m) w) (made I W m)) i m
  keep_there i f =
      let p = seek_number (made I W m) (tree_at (made I W m) w) i f in
      let z = length_trees I W m.terms in
      let l = p.1 in
      let e = p.0 in
      record { grown = grown_refl g; makes = keep_old (made I W m) _ l; numbered = sym e; there = omega arith }

  module _ (f : nothing ≡ seek (made I W m) (tree_at (made I W m) w)) where
    pub keep_row_8 : TERMS ≤ m.terms → Refused Tree I W I W m (keep (tree_at (made I W m) w) (made I W m)) 8 m
    keep_row_8 h =
        let z = length_trees I W m.terms in
        record { grown = grown_refl g; makes = keep_8 (made I W m) _ (seek_nowhere (made I W m) _ f) (omega arith) }

    pub keep_row_9 : m.terms < TERMS → length W < m.words + length w → Refused Tree I W I W m (keep (tree_at (made I W m) w) (made I W m)) 9 m
    keep_row_9 h l =
        let z = length_trees I W m.terms in
        let a = made_words I W m g in
        let b = tree_node (made I W m) m.terms c.shaped in
        let d = g.words in
        record { grown = grown_refl g; makes = keep_9 (made I W m) _ (seek_nowhere (made I W m) _ f) (omega arith) (omega arith) }

-- A new term --------------------------------------------------------------------------------------------------------------------------

module _ (I W : List ℕ) (m : Mark) (w : List ℕ) (g : Good I W m) (c : Node m.terms w)
    (absent : number (made I W m) (tree_at (made I W m) w) ≡ length (made I W m)) (room : m.terms < TERMS) (fits : m.words + length w ≤ length W)
    (J X : List ℕ) (k : Linked I J m.terms (hash w) (m.words + length w) (flag (is_open (tree_at (made I W m) w)))) (x : Written W X m.words w) where
  abbrev t : Tree
  t = tree_at (made I W m) w

  abbrev new : Mark
  new = record { terms = m.terms + 1; words = m.words + length w }

  same : Same I W J X m
  same =
      record {
        ends = λ i h. k.other i (λ e. omega arith) (λ e. omega arith) (λ e. omega arith) (λ e. omega arith);
        words = x.before;
        long_index = k.long;
        long_words = x.long;
      }

  node_old : (i : ℕ) → i < m.terms → node_at J X i ≡ node_at I W i
  node_old = node_same g same

  start_new : start J m.terms ≡ m.words
  start_new = start_same g same m.terms (omega arith) ∙ sym g.ends

  node_new : node_at J X m.terms ≡ w
  unfolding node_at
  node_new =
      let d : m.words + length w - m.words ≡ length w = omega arith in
      ap (λ (a : ℕ). run X a (get_or J m.terms 0 - a)) start_new
      ∙ ap (λ (e : ℕ). run X m.words (e - m.words)) k.end
      ∙ ap (run X m.words) d ∙ x.here

  made_new : made J X new ≡ made I W m ++ (t ∷ [])
  unfolding trees
  made_new =
      ap (trees J X) (add-one m.terms)
      ∙ (λ i. made_same g same i ++ (tree_at (made_same g same i) (node_new i) ∷ []))

  old_at : (i : ℕ) → i < m.terms → get_or (made J X new) i (var 0) ≡ get_or (made I W m) i (var 0)
  old_at i h = ap (λ (M : Made). get_or M i (var 0)) made_new ∙ get_or-append (made I W m) (t ∷ []) (var 0) i (let z = length_trees I W m.terms in omega arith)

  new_at_lem : get_or (made J X new) m.terms (var 0) ≡ t
  new_at_lem = ap (λ (M : Made). get_or M m.terms (var 0)) made_new ∙ get_d_last (made I W m) t m.terms (length_trees I W m.terms)

  keys : (i : ℕ) → i < m.terms → bucket I W i ≡ bucket J X i
  keys i h = ap hash (sym (node_old i h))

  chains_new : (i : ℕ) → i < m.terms + 1 → get_or J (CHAINS + i) 0 ≡ latest (bucket J X) (bucket J X i) i
  chains_new i h = ⊎_elim
      (λ p. k.other (CHAINS + i) (λ e. omega arith) (λ e. omega arith) (λ e. omega arith) (λ e. omega arith)
      ∙ g.chains i p ∙ ap (λ (b : ℕ). latest (bucket I W) b i) (keys i p) ∙ latest_agree (bucket I W) (bucket J X) (bucket J X i) i (λ j l. keys j (omega arith)))
      (λ e. subst (λ (j : ℕ). get_or J (CHAINS + j) 0 ≡ latest (bucket J X) (bucket J X j) j) (sym e)
      (k.chain ∙ g.heads (hash w) (hash_small w) ∙ ap (λ (b : ℕ). latest (bucket I W) b m.terms) (sym (ap hash node_new)) ∙ latest_agree (bucket I W) (bucket J X) (bucket J X m.terms) m.terms keys))
      (last_or i m.terms (omega arith))

  flags_new : (i : ℕ) → i < m.terms + 1 → get_or J (FLAGS + i) 0 ≡ flag (is_open (get_or (made J X new) i (var 0)))
  flags_new i h = ⊎_elim
      (λ p. k.other (FLAGS + i) (λ e. omega arith) (λ e. omega arith) (λ e. omega arith) (λ e. let b = hash_small w in omega arith)
      ∙ g.flags i p ∙ ap (λ (u : Tree). flag (is_open u)) (sym (old_at i p)))
      (λ e. subst (λ (j : ℕ). get_or J (FLAGS + j) 0 ≡ flag (is_open (get_or (made J X new) j (var 0)))) (sym e)
      (k.flag ∙ ap (λ (u : Tree). flag (is_open u)) (sym new_at_lem)))
      (last_or i m.terms (omega arith))

  heads_new : (b : ℕ) → b < BUCKETS → get_or J (HEADS + b) 0 ≡ latest (bucket J X) b (m.terms + 1)
  heads_new b h = elim (ℕ_discrete b (hash w)) [
    | yes e ↦ ap (λ (a : ℕ). get_or J (HEADS + a) 0) e ∙ k.head ∙ sym (latest_here (bucket J X) b m.terms (ap hash node_new ∙ sym e)) ∙ ap (latest (bucket J X) b) (sym (add-one m.terms))
    | no q ↦
        k.other (HEADS + b) (λ e. omega arith) (λ e. omega arith) (λ e. omega arith) (λ e. q (omega arith))
        ∙ g.heads b h ∙ latest_agree (bucket I W) (bucket J X) b m.terms keys
        ∙ sym (latest_other (bucket J X) b m.terms (λ e. q (sym e ∙ ap hash node_new))) ∙ ap (latest (bucket J X) b) (sym (add-one m.terms))
  ]

  nowhere : (i : ℕ) → i < length (made I W m) → get_or (made I W m) i (var 0) ≡ t → ⊥
  nowhere i h e = let z = number_of_lem (made I W m) g.apart i h t e in omega arith

  good_new : Good J X new
  good_new =
      let some = shaped_some m.terms c.shaped in
      let small = hash_small w in
      let words_long = g.words in
      let narrow-w = c.narrow in
      record {
        index = k.long ∙ g.index;
        words = x.long ∙ g.words;
        room = omega arith;
        ends = sym k.end ∙ start_next J m.terms;
        within = omega arith;
        rise = λ i l. ⊎_elim
            (λ p. let a = start_same g same i (omega arith) in let b = same.ends i p in let d = g.rise i p in omega arith)
            (λ e. subst (λ (j : ℕ). start J j < get_or J j 0) (sym e) (let a = start_new in let b = k.end in omega arith))
            (last_or i m.terms (omega arith));
        narrow = λ i l. ⊎_elim
            (λ p. let a = start_same g same i (omega arith) in let b = same.ends i p in let d = g.narrow i p in omega arith)
            (λ e. subst (λ (j : ℕ). get_or J j 0 ≤ start J j + NODE) (sym e) (let a = start_new in let b = k.end in omega arith))
            (last_or i m.terms (omega arith));
        shaped = λ i l. ⊎_elim
            (λ p. subst (Shaped i) (sym (node_old i p)) (g.shaped i p))
            (λ e. subst (λ (j : ℕ). Shaped j (node_at J X j)) (sym e) (subst (Shaped m.terms) (sym node_new) c.shaped))
            (last_or i m.terms (omega arith));
        apart = subst Apart (sym made_new) (apart_more (made I W m) t g.apart nowhere);
        chains = chains_new;
        flags = flags_new;
        heads = heads_new;
        no_ends = λ i l h. k.other i (λ e. omega arith) (λ e. omega arith) (λ e. omega arith) (λ e. omega arith) ∙ g.no_ends i (omega arith) h;
        no_chains = λ i l h. k.other (CHAINS + i) (λ e. omega arith) (λ e. omega arith) (λ e. omega arith) (λ e. omega arith) ∙ g.no_chains i (omega arith) h;
        no_flags = λ i l h. k.other (FLAGS + i) (λ e. omega arith) (λ e. omega arith) (λ e. omega arith) (λ e. omega arith) ∙ g.no_flags i (omega arith) h;
        no_words = λ i l. x.behind i l ∙ g.no_words i (omega arith);
      }

  pub keep_fresh : Stored I W J X m t (keep t (made I W m)) m.terms new
  keep_fresh =
      let z = length_trees I W m.terms in
      let y = length_trees J X (m.terms + 1) in
      let a = made_words I W m g in
      let b = tree_node (made I W m) m.terms c.shaped in
      let d = g.words in
      record {
        grown = record { was = g; good = good_new; more = omega arith; longer = omega arith; same = same };
        makes = keep_new (made I W m) t absent (omega arith) (omega arith) ∙ ap (ok t) (sym made_new);
        numbered = sym (number_of_lem (made J X new) good_new.apart m.terms (omega arith) t new_at_lem);
        there = omega arith;
      }

-- the same, from the calls' answers
pub keep_made : (I W : List ℕ) (m : Mark) (w : List ℕ) → Good I W m → Node m.terms w → (b : ℕ) → b ≡ hash w → nothing ≡ seek (made I W m) (tree_at (made I W m) w)
    → m.terms < TERMS → m.words + length w ≤ length W → (o : Bool) → o ≡ is_open (tree_at (made I W m) w)
    → (J : List ℕ) → Linked I J m.terms b (m.words + length w) (flag o) → (ys : List ℕ) → ys ≡ w
    → Stored I W J (put_mid m.words (m.words + length w - m.words) W ys) m (tree_at (made I W m) w) (keep (tree_at (made I W m) w) (made I W m)) m.terms (record { terms = m.terms + 1; words = m.words + length w })
keep_made I W m w g c b eb f h l o eo J k ys ey =
    keep_fresh I W m w g c (seek_nowhere (made I W m) _ f) h l J _
    (subst (λ (b : ℕ). Linked I J m.terms b (m.words + length w) (flag (is_open (tree_at (made I W m) w)))) eb
    (subst (λ (o : Bool). Linked I J m.terms b (m.words + length w) (flag o)) eo k))
    (written W w m.words l ys ey)

pub keep_links : (I W : List ℕ) (m : Mark) (w : List ℕ) → Good I W m → (b : ℕ) → b ≡ hash w → m.terms < TERMS → m.words + length w ≤ length W
    → (length I ≡ INDEX) × (m.terms < TERMS) × (b < BUCKETS) × (m.words + length w ≤ WORDS)
keep_links I W m w g b e h l =
    let a = hash_small w in
    let d = g.words in
    (g.index, h, omega arith, omega arith)
