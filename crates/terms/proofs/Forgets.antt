-- Going back to an old mark: one term less, then down to the mark; and good tables at one mark with the same words are the same tables,
-- cell by cell. Assumes nothing.
use mathlib.Core.Path.{◌≡◌, refl, sym, ap, ◌∙◌, subst}
use mathlib.Core.List.{List, ◌++◌}
use Prim.Native.Nat.{ℕ, zero, suc, ◌+◌, ◌-◌, ◌≤◌, ◌<◌}
use native.Mathlib.Omega.{arith}
use native.Mathlib.Decide.{ℕ_discrete, dec_lt}
use lib.ListN.{length, get_or, take, drop, replicate, length-append, length-drop, length-replicate, get_or-append}
use lib.Seq.{get_or-take, get_or-drop, get_or-append-add, length-take-le}
use Rattle.rules.specs.Limits.{TERMS}
use Rattle.rules.specs.Tree.{Tree, var, is_open}
use Rattle.rules.specs.Store.{Made}
use Rattle.rules.specs.Laws.Store.{Apart}
use Rattle.terms.specs.declared.store.Mark.{Mark}
use Rattle.terms.specs.Table.{CHAINS, FLAGS, HEADS, INDEX, BUCKETS, run, start, node_at, trees, hash, bucket, latest, flag, Shaped, Good, Same}
use Rattle.terms.specs.Table.{Back}
use Rattle.terms.specs.Node.{Unlinked}
use borrow.Rule.Slice.PartMut.{put_mid}
use Rattle.terms.specs.Laws.Runs.{run_same, run_length}
use Rattle.terms.specs.Laws.Chains.{hash_small, latest_agree, latest_other}
use Rattle.terms.specs.Laws.Zeros.{get_d_zeros}
use Rattle.terms.specs.Laws.Tables.{rising, length_trees, get_d_trees, trees_same}

-- The words ------------------------------------------------------------------------------------------------------------------------

-- the words from s to e became zero
pub record Wiped (W X : List ℕ) (s e : ℕ) : Type 0 where
  pub long : length X ≡ length W
  pub before : (i : ℕ) → i < s → get_or X i 0 ≡ get_or W i 0
  pub here : (i : ℕ) → s ≤ i → i < e → get_or X i 0 ≡ 0
  pub behind : (i : ℕ) → e ≤ i → get_or X i 0 ≡ get_or W i 0

pub wiped : (W : List ℕ) (s e : ℕ) → s ≤ e → e ≤ length W → (ys : List ℕ) → ys ≡ replicate (length (run W s (e - s))) 0
    → Wiped W (take s W ++ (ys ++ drop (e - s) (drop s W))) s e
wiped W s e h l ys q =
    let A : List ℕ = take s W in
    let D : List ℕ = drop (e - s) (drop s W) in
    let la : length (take s W) ≡ s = length-take-le s W (omega arith) in
    let lr : length (run W s (e - s)) ≡ e - s = run_length W s (e - s) (omega arith) in
    let ly : length ys ≡ e - s = ap length q ∙ length-replicate {A = ℕ} (length (run W s (e - s))) 0 ∙ lr in
    let ld : length (drop (e - s) (drop s W)) ≡ length W - e = length-drop (e - s) (drop s W) ∙ (let z = length-drop s W in omega arith) in
    record {
      long = length-append A (ys ++ D) ∙ (let z = length-append ys D in omega arith);
      before = λ i p. get_or-append A (ys ++ D) 0 i (omega arith) ∙ get_or-take s W i 0 p;
      here = λ i p r.
          let z : i ≡ length (take s W) + (i - s) = omega arith in
          ap (λ (k : ℕ). get_or (A ++ (ys ++ D)) k 0) z ∙ get_or-append-add A (ys ++ D) (i - s) 0 ∙ get_or-append ys D 0 (i - s) (omega arith)
          ∙ ap (λ (t : List ℕ). get_or t (i - s) 0) q ∙ get_d_zeros (length (run W s (e - s))) (i - s);
      behind = λ i p.
          let z : i ≡ length (take s W) + (length ys + (i - e)) = omega arith in
          let y : s + ((e - s) + (i - e)) ≡ i = omega arith in
          ap (λ (k : ℕ). get_or (A ++ (ys ++ D)) k 0) z ∙ get_or-append-add A (ys ++ D) (length ys + (i - e)) 0 ∙ get_or-append-add ys D (i - e) 0
          ∙ get_or-drop (e - s) (drop s W) (i - e) 0 ∙ get_or-drop s W ((e - s) + (i - e)) 0 ∙ ap (λ (k : ℕ). get_or W k 0) y;
    }

-- One term less ----------------------------------------------------------------------------------------------------------------------

module _ (I W : List ℕ) (m : Mark) (g : Good I W m) (n s b : ℕ) (last : m.terms ≡ suc n) (es : s ≡ start I n) (eb : b ≡ hash (run W s (get_or I n 0 - s)))
    (J X : List ℕ) (u : Unlinked I J n b) (x : Wiped W X s (get_or I n 0)) where
  abbrev less : Mark
  less = record { terms = n; words = s }

  end_is : get_or I n 0 ≡ m.words
  unfolding start
  end_is = sym (g.ends ∙ ap (start I) last)

  small_b : b < BUCKETS
  small_b = subst (λ (k : ℕ). k < BUCKETS) (sym eb) (hash_small (run W s (get_or I n 0 - s)))

  index_old : (i : ℕ) → i < n → get_or J i 0 ≡ get_or I i 0
  index_old i h = let z = g.room in u.other i (λ e. omega arith) (λ e. omega arith) (λ e. omega arith) (λ e. omega arith)

  same : Same I W J X less
  same = record { ends = index_old; words = x.before; long_index = u.long; long_words = x.long }

  start_old : (i : ℕ) → i ≤ n → start J i ≡ start I i
  unfolding start
  start_old zero h = refl
  start_old (suc i) h = index_old i h

  node_old : (i : ℕ) → i < n → node_at J X i ≡ node_at I W i
  unfolding node_at
  node_old i h =
      let a = rising I i n (λ j k. g.rise j (omega arith)) h in
      let r = g.rise i (omega arith) in
      let d = g.within in
      let f = g.words in
      let t = g.rise n (omega arith) in
      let v = end_is in
      rw (start_old i (omega arith), index_old i h) (run_same W X s (start I i) (get_or I i 0 - start I i) x.before x.long (omega arith) (omega arith))

  trees_old : trees J X n ≡ trees I W n
  trees_old = trees_same J X I W n node_old

  tree_old : (i : ℕ) → i < n → get_or (trees J X n) i (var 0) ≡ get_or (trees I W m.terms) i (var 0)
  tree_old i h = ap (λ (M : Made). get_or M i (var 0)) trees_old ∙ get_d_trees I W n i h ∙ sym (get_d_trees I W m.terms i (omega arith))

  apart_old : Apart (trees J X n)
  unfolding Apart
  apart_old i j hi hj e =
      let a = length_trees J X n in
      let c = length_trees I W m.terms in
      g.apart i j (omega arith) (omega arith) (sym (tree_old i (omega arith)) ∙ e ∙ tree_old j (omega arith))

  keys : (i : ℕ) → i < n → bucket I W i ≡ bucket J X i
  keys i h = ap hash (sym (node_old i h))

  key_last : bucket I W n ≡ b
  unfolding node_at
  key_last = ap (λ (k : ℕ). hash (run W k (get_or I n 0 - k))) (sym es) ∙ sym eb

  heads_old : (c : ℕ) → c < BUCKETS → get_or J (HEADS + c) 0 ≡ latest (bucket J X) c n
  heads_old c h =
      let z = g.room in
      let y = small_b in
      elim (ℕ_discrete c b) [
        | yes e ↦
            ap (λ (k : ℕ). get_or J (HEADS + k) 0) e ∙ u.head ∙ g.chains n (omega arith) ∙ ap (λ (k : ℕ). latest (bucket I W) k n) (key_last ∙ sym e) ∙ latest_agree (bucket I W) (bucket J X) c n keys
        | no q ↦
            u.other (HEADS + c) (λ e. omega arith) (λ e. omega arith) (λ e. omega arith) (λ e. q (omega arith))
            ∙ g.heads c h ∙ ap (latest (bucket I W) c) last ∙ latest_other (bucket I W) c n (λ e. q (sym e ∙ key_last)) ∙ latest_agree (bucket I W) (bucket J X) c n keys
      ]

  -- from n on it is zero: at n it was made so, above n it was so
  behind : (o : ℕ → ℕ) → (get_or J (o n) 0 ≡ 0) → ((i : ℕ) → n < i → i < TERMS → get_or J (o i) 0 ≡ 0) → (i : ℕ) → n ≤ i → i < TERMS → get_or J (o i) 0 ≡ 0
  behind o e f i l h = elim (ℕ_discrete i n) [
    | yes q ↦ ap (λ (k : ℕ). get_or J (o k) 0) q ∙ e
    | no q ↦ f i (omega arith) h
  ]

  good_less : Good J X less
  good_less =
      let z = g.room in
      let y = small_b in
      let t = g.rise n (omega arith) in
      let v = end_is in
      let d = g.within in
      record {
        index = u.long ∙ g.index;
        words = x.long ∙ g.words;
        room = omega arith;
        ends = es ∙ sym (start_old n (omega arith));
        within = omega arith;
        rise = λ i h. let a = start_old i (omega arith) in let c = index_old i h in let r = g.rise i (omega arith) in omega arith;
        narrow = λ i h. let a = start_old i (omega arith) in let c = index_old i h in let r = g.narrow i (omega arith) in omega arith;
        shaped = λ i h. subst (Shaped i) (sym (node_old i h)) (g.shaped i (omega arith));
        apart = apart_old;
        chains = λ i h. u.other (CHAINS + i) (λ e. omega arith) (λ e. omega arith) (λ e. omega arith) (λ e. omega arith)
            ∙ g.chains i (omega arith) ∙ ap (λ (k : ℕ). latest (bucket I W) k i) (keys i h) ∙ latest_agree (bucket I W) (bucket J X) (bucket J X i) i (λ j l. keys j (omega arith));
        flags = λ i h. u.other (FLAGS + i) (λ e. omega arith) (λ e. omega arith) (λ e. omega arith) (λ e. omega arith)
            ∙ g.flags i (omega arith) ∙ ap (λ (t : Tree). flag (is_open t)) (sym (tree_old i h));
        heads = heads_old;
        no_ends = behind (λ i. i) u.end (λ j p q. u.other j (λ e. omega arith) (λ e. omega arith) (λ e. omega arith) (λ e. omega arith) ∙ g.no_ends j (omega arith) q);
        no_chains = behind (λ i. CHAINS + i) u.chain (λ j p q. u.other (CHAINS + j) (λ e. omega arith) (λ e. omega arith) (λ e. omega arith) (λ e. omega arith) ∙ g.no_chains j (omega arith) q);
        no_flags = behind (λ i. FLAGS + i) u.flag (λ j p q. u.other (FLAGS + j) (λ e. omega arith) (λ e. omega arith) (λ e. omega arith) (λ e. omega arith) ∙ g.no_flags j (omega arith) q);
        no_words = λ i l. elim (dec_lt i (get_or I n 0)) [ yes p ↦ x.here i l p | no q ↦ x.behind i (omega arith) ∙ g.no_words i (omega arith) ];
      }

  pub back_one : Back I W J X less
  back_one = record { good = good_less; same = same }

-- what the last term's words are
module _ (I W : List ℕ) (m : Mark) (g : Good I W m × (0 < m.terms)) where
  last_end : get_or I (m.terms - 1) 0 ≡ m.words
  unfolding start
  last_end = let h = g.1 in let e : m.terms ≡ suc (m.terms - 1) = omega arith in sym (g.0.ends ∙ ap (start I) e)

  pub last_unlinks : (b : ℕ) → b ≡ hash (node_at I W (m.terms - 1)) → (length I ≡ INDEX) × (m.terms - 1 < TERMS) × (b < BUCKETS)
  last_unlinks b e =
      let z = hash_small (node_at I W (m.terms - 1)) in
      let f = g.0.room in
      let h = g.1 in
      (g.0.index, omega arith, omega arith)

  module _ (s : ℕ) (es : s ≡ start I (m.terms - 1)) where
    pub last_fits : (s < m.words) × (m.words ≤ length W)
    last_fits =
        let h = g.1 in
        let a = g.0.rise (m.terms - 1) (omega arith) in
        let b = last_end in
        let c = g.0.within in
        let d = g.0.words in
        (omega arith, omega arith)

    pub last_gone : (b : ℕ) → b ≡ hash (node_at I W (m.terms - 1)) → (J : List ℕ) → Unlinked I J (m.terms - 1) b
        → (ys : List ℕ) → ys ≡ replicate (length (run W s (m.words - s))) 0
        → Back I W J (put_mid s (m.words - s) W ys) (record { terms = m.terms - 1; words = s })
    unfolding node_at
    last_gone b e J u ys q =
        let h = g.1 in
        let f = last_fits in
        let f0 = f.0 in
        let d = last_end in
        let P : ℕ → Type 0 = λ (k : ℕ). Back I W J (put_mid s (k - s) W ys) (record { terms = m.terms - 1; words = s }) in
        subst P last_end
        (back_one I W m g.0 (m.terms - 1) s b (omega arith) es (e ∙ ap (λ (k : ℕ). hash (run W k (get_or I (m.terms - 1) 0 - k))) (sym es)) J _ u
        (wiped W s (get_or I (m.terms - 1) 0) (omega arith) (omega arith) ys (q ∙ ap (λ (k : ℕ). replicate (length (run W s (k - s))) 0) (sym last_end))))

-- Down to the mark ---------------------------------------------------------------------------------------------------------------------

pub record Going (I W : List ℕ) (least : ℕ) (J X : List ℕ) (k : Mark) : Type 0 where
  pub good : Good J X k
  pub same : Same I W J X k
  pub from : least ≤ k.terms

module _ (I W : List ℕ) (least : ℕ) (J X : List ℕ) (k : Mark) (q : Going I W least J X k) where
  start_there : (i : ℕ) → i ≤ k.terms → start J i ≡ start I i
  unfolding start
  start_there zero h = refl
  start_there (suc i) h = q.same.ends i h

  module _ (h : k.terms ≤ least) (old : Mark) (e : least ≡ old.terms) (w : old.words ≡ start I old.terms) where
    pub going_there : k ≡ old
    going_there =
        let f = q.from in
        let t : k.terms ≡ old.terms = omega arith in
        let s : k.words ≡ old.words = q.good.ends ∙ ap (start J) t ∙ start_there old.terms (omega arith) ∙ sym w in
        λ i. record { terms = t i; words = s i }

    pub going_ends : Back I W J X old
    going_ends = subst (Back I W J X) going_there (record { good = q.good; same = q.same })
