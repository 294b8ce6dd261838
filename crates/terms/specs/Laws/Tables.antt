-- Laws of the tables as trees. Assumes nothing.
use Rattle.std.specs.Prelude.{◌≡◌, Bool, true, false, List, [], ◌∷◌, ◌⊎◌, length, get_or}
use Rattle.std.proofs.Math.Path.{refl}
use Rattle.std.proofs.Common.{sym, ap, ◌∙◌, ⊎_elim, inl, inr, add-one, not-suc-le-zero, zero-lt-suc, lt-ltb, le-ltb}
use Prim.Native.Nat.{ℕ, zero, suc, ◌+◌, ◌-◌, ◌≤◌, ◌<◌, suc-le-suc}
use native.Mathlib.Omega.{arith}
use Rattle.std.proofs.Math.Decide.{dec_lt}
use Rattle.std.proofs.Math.ListN.{get_or-append}
use Rattle.rules.specs.Limits.{SYMBOLS}
use Rattle.rules.specs.Tree.{Trees, var, app, more, count_trees, node}
use Rattle.rules.specs.Store.{Made, number, words}
use Rattle.rules.specs.Laws.Store.{Apart, length_snoc, get_d_last, number_none, number_of_lem, words_more}
use Rattle.terms.specs.declared.store.Mark.{Mark}
use Rattle.terms.specs.Table.{start, node_at, args_of, tree_at, trees, made, Shaped, is_var, is_app, Good}
use Rattle.terms.specs.Laws.Runs.{run_length}

-- i is below n + 1: below n, or n
pub last_or : (i n : ℕ) → i < suc n → (i < n) ⊎ (i ≡ n)
last_or i n h = elim (dec_lt i n) [ yes p ↦ inl p | no q ↦ inr (omega arith) ]

-- Starts -------------------------------------------------------------------------------------------------------------------------

pub start_next : (I : List ℕ) (i : ℕ) → get_or I i 0 ≡ start I (i + 1)
unfolding start
start_next I i = rw (add-one i)

pub start_first : (I : List ℕ) (i : ℕ) → i ≡ 0 → 0 ≡ start I i
unfolding start
start_first I i e = rw e

pub start_later : (I : List ℕ) (i : ℕ) → (i ≡ 0 → ⊥) → get_or I (i - 1) 0 ≡ start I i
start_later I i n = let e : i - 1 + 1 ≡ i = omega arith in start_next I (i - 1) ∙ ap (start I) e

-- The trees of the tables ----------------------------------------------------------------------------------------------------------

pub length_trees : (I W : List ℕ) (n : ℕ) → length (trees I W n) ≡ n
unfolding trees
length_trees I W zero = refl
length_trees I W (suc n) = length_snoc (trees I W n) (tree_at (trees I W n) (node_at I W n)) ∙ ap suc (length_trees I W n)

pub get_d_trees : (I W : List ℕ) (n i : ℕ) → i < n → get_or (trees I W n) i (var 0) ≡ tree_at (trees I W i) (node_at I W i)
unfolding trees
get_d_trees I W zero i h = absurd (not-suc-le-zero h)
get_d_trees I W (suc n) i h = ⊎_elim
    (λ p. get_or-append (trees I W n) (tree_at (trees I W n) (node_at I W n) ∷ []) (var 0) i (rw (length_trees I W n) p) ∙ get_d_trees I W n i p)
    (λ e. rw e (get_d_last (trees I W n) (tree_at (trees I W n) (node_at I W n)) n (length_trees I W n)))
    (last_or i n h)

-- the nodes decide the trees
pub trees_same : (I W J X : List ℕ) (n : ℕ) → ((i : ℕ) → i < n → node_at I W i ≡ node_at J X i) → trees I W n ≡ trees J X n
unfolding trees
trees_same I W J X zero h = refl
trees_same I W J X (suc n) h =
    let ih : trees I W n ≡ trees J X n = trees_same I W J X n (λ i l. h i (omega arith)) in
    let e : node_at I W n ≡ node_at J X n = h n (omega arith) in
    rw (ih, e)

-- Nodes and trees --------------------------------------------------------------------------------------------------------------------

pub tree_app : (M : Made) (h : ℕ) (xs : List ℕ) → h < SYMBOLS → tree_at M (h ∷ xs) ≡ app h (args_of M xs)
unfolding tree_at
tree_app M h xs p = ap (λ (b : Bool). elim b [ true ↦ app h (args_of M xs) | false ↦ var (h - SYMBOLS) ]) (lt-ltb h SYMBOLS p)

pub tree_var : (M : Made) (h : ℕ) (xs : List ℕ) → SYMBOLS ≤ h → tree_at M (h ∷ xs) ≡ var (h - SYMBOLS)
unfolding tree_at
tree_var M h xs p = ap (λ (b : Bool). elim b [ true ↦ app h (args_of M xs) | false ↦ var (h - SYMBOLS) ]) (le-ltb h SYMBOLS p)

-- what a node stands for goes by its arguments alone
args_agree : (M N : Made) (k : ℕ) (xs : List ℕ) → ((j : ℕ) → j < length xs → get_or xs j 0 < k) → ((i : ℕ) → i < k → get_or M i (var 0) ≡ get_or N i (var 0)) → args_of M xs ≡ args_of N xs
unfolding args_of
args_agree M N k [] b e = refl
args_agree M N k (x ∷ xs) b e = λ i. more (e x (b 0 (zero-lt-suc (length xs))) i) (args_agree M N k xs (λ j l. b (suc j) (suc-le-suc l)) e i)

pub tree_agree : (M N : Made) (k : ℕ) {w : List ℕ} → Shaped k w → ((i : ℕ) → i < k → get_or M i (var 0) ≡ get_or N i (var 0)) → tree_at M w ≡ tree_at N w
tree_agree M N k (is_var {h = h} p u) e = tree_var M h [] p ∙ sym (tree_var N h [] p)
tree_agree M N k (is_app {h = h} {xs = xs} p b) e = tree_app M h xs p ∙ ap (app h) (args_agree M N k xs b e) ∙ sym (tree_app N h xs p)

pub wider : (k n : ℕ) {w : List ℕ} → k ≤ n → Shaped k w → Shaped n w
wider k n l (is_var p u) = is_var p u
wider k n l (is_app {xs = xs} p b) = is_app {xs = xs} p (λ j m. let z = b j m in omega arith)

pub shaped_some : (k : ℕ) {w : List ℕ} → Shaped k w → 0 < length w
shaped_some k (is_var p u) = zero-lt-suc 0
shaped_some k (is_app {xs = xs} p b) = zero-lt-suc (length xs)

-- two nodes that stand for one tree are one
args_one : (M : Made) (xs ys : List ℕ) → Apart M → ((j : ℕ) → j < length xs → get_or xs j 0 < length M) → ((j : ℕ) → j < length ys → get_or ys j 0 < length M) → args_of M xs ≡ args_of M ys → xs ≡ ys
unfolding args_of Apart
args_one M [] [] a b d e = refl
args_one M [] (y ∷ ys) a b d e = absurd (let z : ◌≡◌ {A = ℕ} 0 1 = cc in omega arith)
args_one M (x ∷ xs) [] a b d e = absurd (let z : ◌≡◌ {A = ℕ} 0 1 = cc in omega arith)
args_one M (x ∷ xs) (y ∷ ys) a b d e =
    let p : get_or M x (var 0) ≡ get_or M y (var 0) = cc in
    let q : args_of M xs ≡ args_of M ys = cc in
    let r : x ≡ y = a x y (b 0 (zero-lt-suc (length xs))) (d 0 (zero-lt-suc (length ys))) p in
    let s : xs ≡ ys = args_one M xs ys a (λ j l. b (suc j) (suc-le-suc l)) (λ j l. d (suc j) (suc-le-suc l)) q in
    λ i. r i ∷ s i

pub not_var_app : (v c : ℕ) (ts : Trees) → var v ≡ app c ts → ⊥
not_var_app v c ts e = let z : ◌≡◌ {A = ℕ} 0 1 = cc in omega arith

pub tree_one : (M : Made) {v w : List ℕ} → Apart M → Shaped (length M) v → Shaped (length M) w → tree_at M v ≡ tree_at M w → v ≡ w
tree_one M a (is_var {h = h} p u) (is_var {h = g} q o) e =
    let d : var (h - SYMBOLS) ≡ var (g - SYMBOLS) = sym (tree_var M h [] p) ∙ e ∙ tree_var M g [] q in
    let z : h - SYMBOLS ≡ g - SYMBOLS = cc in
    let y : h ≡ g = omega arith in
    ap (λ (k : ℕ). k ∷ []) y
tree_one M a (is_var {h = h} p u) (is_app {h = g} {xs = ys} q d) e = absurd (not_var_app _ _ _ (sym (tree_var M h [] p) ∙ e ∙ tree_app M g ys q))
tree_one M a (is_app {h = h} {xs = xs} p b) (is_var {h = g} q o) e = absurd (not_var_app _ _ _ (sym (tree_var M g [] q) ∙ sym e ∙ tree_app M h xs p))
tree_one M a (is_app {h = h} {xs = xs} p b) (is_app {h = g} {xs = ys} q d) e =
    let f : app h (args_of M xs) ≡ app g (args_of M ys) = sym (tree_app M h xs p) ∙ e ∙ tree_app M g ys q in
    let y : h ≡ g = cc in
    let z : args_of M xs ≡ args_of M ys = cc in
    let r : xs ≡ ys = args_one M xs ys a b d z in
    λ i. y i ∷ r i

pub args_count : (M : Made) (xs : List ℕ) → count_trees (args_of M xs) ≡ length xs
unfolding count_trees args_of
args_count M [] = refl
args_count M (x ∷ xs) = ap suc (args_count M xs)

pub tree_node : (M : Made) (k : ℕ) {w : List ℕ} → Shaped k w → node (tree_at M w) ≡ length w
unfolding node
tree_node M k (is_var {h = h} p u) = ap node (tree_var M h [] p)
tree_node M k (is_app {h = h} {xs = xs} p b) = ap node (tree_app M h xs p) ∙ ap suc (args_count M xs)

-- Tables that are good -----------------------------------------------------------------------------------------------------------------

pub rising : (I : List ℕ) (i n : ℕ) → ((j : ℕ) → j < n → start I j < get_or I j 0) → i < n → get_or I i 0 ≤ start I n
unfolding start
rising I i zero r l = absurd (not-suc-le-zero l)
rising I i (suc n) r l = ⊎_elim (λ p. let z = rising I i n (λ j k. r j (omega arith)) p in let y = r n (omega arith) in omega arith) (λ e. rw e (omega arith)) (last_or i n l)

module _ (I W : List ℕ) (m : Mark) (g : Good I W m) where
  -- the tree at i, by the whole list
  pub tree_here : (i : ℕ) → i < m.terms → get_or (trees I W m.terms) i (var 0) ≡ tree_at (trees I W m.terms) (node_at I W i)
  tree_here i h = get_d_trees I W m.terms i h ∙ tree_agree (trees I W i) (trees I W m.terms) i (g.shaped i h) (λ j l. get_d_trees I W i j l ∙ sym (get_d_trees I W m.terms j (omega arith)))

  pub wide : (i : ℕ) → i < m.terms → Shaped (length (trees I W m.terms)) (node_at I W i)
  wide i h = wider i (length (trees I W m.terms)) (let z = length_trees I W m.terms in omega arith) (g.shaped i h)

  -- a node that no term has stands for no term's tree
  none_there : (w : List ℕ) → Shaped m.terms w → ((k : ℕ) → k < m.terms → node_at I W k ≡ w → ⊥) → (k : ℕ) → k < m.terms → get_or (trees I W m.terms) k (var 0) ≡ tree_at (trees I W m.terms) w → ⊥
  none_there w s n k h e =
      n k h (tree_one (trees I W m.terms) g.apart (wide k h) (wider m.terms _ (let z = length_trees I W m.terms in omega arith) s) (sym (tree_here k h) ∙ e))

  pub number_here : (w : List ℕ) (i : ℕ) → i < m.terms → node_at I W i ≡ w → number (trees I W m.terms) (tree_at (trees I W m.terms) w) ≡ i
  number_here w i l e =
      number_of_lem (trees I W m.terms) g.apart i (let z = length_trees I W m.terms in omega arith) _ (tree_here i l ∙ ap (tree_at (trees I W m.terms)) e)

  pub number_nowhere : (w : List ℕ) → Shaped m.terms w → ((k : ℕ) → k < m.terms → node_at I W k ≡ w → ⊥) → number (trees I W m.terms) (tree_at (trees I W m.terms) w) ≡ m.terms
  number_nowhere w s n =
      number_none (trees I W m.terms) _ (λ k l. none_there w s n k (let z = length_trees I W m.terms in omega arith)) ∙ length_trees I W m.terms

  pub end_within : (i : ℕ) → i < m.terms → get_or I i 0 ≤ m.words
  end_within i h = rw g.ends (rising I i m.terms g.rise h)

  pub node_length : (i : ℕ) → i < m.terms → length (node_at I W i) ≡ get_or I i 0 - start I i
  unfolding node_at
  node_length i h =
      let z = end_within i h in
      let y = g.rise i h in
      let x = g.within in
      let v = g.words in
      run_length W (start I i) (get_or I i 0 - start I i) (omega arith)

  words_up_to : (n : ℕ) → n ≤ m.terms → words (trees I W n) ≡ start I n
  unfolding words trees start
  words_up_to zero h = refl
  words_up_to (suc n) h =
      let ih = words_up_to n (omega arith) in
      let a = tree_node (trees I W n) n (g.shaped n h) in
      let b = node_length n h in
      let r = g.rise n h in
      words_more (trees I W n) (tree_at (trees I W n) (node_at I W n)) ∙ omega arith

  pub made_words : words (made I W m) ≡ m.words
  made_words = words_up_to m.terms (omega arith) ∙ sym g.ends
