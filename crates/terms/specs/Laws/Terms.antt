-- One term of good tables: its node, its head and its arguments. Assumes nothing.
use Rattle.std.specs.Prelude.{◌≡◌, refl, Bool, true, false, List, ◌∷◌, [], ℕ, ◌+◌, ◌-◌, ◌≤◌, ◌<◌, zero, suc, length, get_or}
use Rattle.std.proofs.Common.{sym, ◌∙◌, subst, suc-le-suc, arith, not-suc-le-zero, zero-lt-suc, eqb-true}
use Rattle.std.proofs.Math.Path.{ap}
use Rattle.std.proofs.lemmas.Bool.{false≢true}
use Rattle.std.proofs.Math.Decide.{dec_lt}
use Rattle.rules.specs.Limits.{SYMBOLS, VARIABLES, NODE}
use Rattle.rules.specs.Tree.{var, app, none, more, is_open, Tree, variables, variables_of}
use Rattle.rules.specs.Store.{Made}
use Rattle.rules.specs.Find.{Set}
use Rattle.rules.specs.Laws.Tree.{variables_var, variables_app}
use Rattle.terms.specs.declared.store.Mark.{Mark}
use Rattle.terms.specs.Table.{FLAGS, run, start, node_at, args_of, tree_at, made, flag, Shaped, is_var, is_app, Good}
use Rattle.terms.specs.Node.{head_of}
use Rattle.terms.specs.Laws.Runs.{run_length, run_at, run_more, run_none}
use Rattle.terms.specs.Laws.Tables.{tree_here, tree_app, tree_var, end_within}

-- Flags --------------------------------------------------------------------------------------------------------------

pub flag_small : (b : Bool) → flag b ≤ 1
unfolding flag
flag_small true = omega arith
flag_small false = omega arith

pub flag_open : (b : Bool) (n : ℕ) → n ≡ flag b → (n ≡ 0 → ⊥) → b ≡ true
unfolding flag
flag_open true n e h = refl
flag_open false n e h = absurd (h e)

pub flag_closed : (b : Bool) (n : ℕ) → n ≡ flag b → n ≡ 0 → b ≡ false
unfolding flag
flag_closed true n e h = absurd (omega arith)
flag_closed false n e h = refl

-- Terms --------------------------------------------------------------------------------------------------------------

pub args_more : (M : Made) (W : List ℕ) (at e : ℕ) → at < e → e ≤ length W → args_of M (run W at (e - at)) ≡ more (get_or M (get_or W at 0) (var 0)) (args_of M (run W (at + 1) (e - (at + 1))))
unfolding args_of
args_more M W at e h k = ap (args_of M) (run_more W at e h k)

pub args_none : (M : Made) (W : List ℕ) (at e : ℕ) → e ≤ at → args_of M (run W at (e - at)) ≡ none
unfolding args_of
args_none M W at e h = ap (args_of M) (run_none W at e h)

module _ (I W : List ℕ) (m : Mark) (g : Good I W m) (id : ℕ) (h : id < m.terms) where
  pub flag_in : FLAGS + id < length I
  flag_in = let a = g.room in let b = g.index in omega arith

  pub end_in : id < length I
  end_in = let a = g.room in let b = g.index in omega arith

  pub no_variable : get_or I (FLAGS + id) 0 ≡ 0 → is_open (get_or (made I W m) id (var 0)) ≡ false
  no_variable e = flag_closed _ _ (g.flags id h) e

  module _ (s : ℕ) (b : s ≡ start I id) where
    pub node_rise : s < get_or I id 0
    node_rise = let a = g.rise id h in omega arith

    pub node_narrow : get_or I id 0 ≤ s + NODE
    node_narrow = let a = g.narrow id h in omega arith

    pub node_within : get_or I id 0 ≤ m.words
    node_within = end_within I W m g id h

    pub node_inside : get_or I id 0 ≤ length W
    node_inside = let a = node_within in let d = g.within in let e = g.words in omega arith

    pub start_in : s < length W
    start_in = let a = node_rise in let d = node_inside in omega arith

    node_split : node_at I W id ≡ get_or W s 0 ∷ run W (s + 1) (get_or I id 0 - (s + 1))
    unfolding node_at
    node_split = ap (λ (k : ℕ). run W k (get_or I id 0 - k)) (sym b) ∙ run_more W s (get_or I id 0) node_rise node_inside

    pub term_app : get_or W s 0 < SYMBOLS → get_or (made I W m) id (var 0) ≡ app (get_or W s 0) (args_of (made I W m) (run W (s + 1) (get_or I id 0 - (s + 1))))
    term_app q = tree_here I W m g id h ∙ ap (tree_at (made I W m)) node_split ∙ tree_app (made I W m) _ _ q

    pub term_var : SYMBOLS ≤ get_or W s 0 → get_or (made I W m) id (var 0) ≡ var (get_or W s 0 - SYMBOLS)
    term_var q = tree_here I W m g id h ∙ ap (tree_at (made I W m)) node_split ∙ tree_var (made I W m) _ _ q

    small_head : {w : List ℕ} → Shaped id w → (x : ℕ) (xs : List ℕ) → w ≡ x ∷ xs → SYMBOLS ≤ x → x - SYMBOLS < VARIABLES
    small_head (is_var {h = y} p u) x xs e q = let z : y ≡ x = cc in omega arith
    small_head (is_app {h = y} {xs = ys} p d) x xs e q = let z : y ≡ x = cc in absurd (omega arith)

    -- a variable is one that there can be
    pub variable_small : SYMBOLS ≤ get_or W s 0 → get_or W s 0 - SYMBOLS < VARIABLES
    variable_small q = small_head (g.shaped id h) _ _ node_split q

    small_args : {w : List ℕ} → Shaped id w → (x : ℕ) (xs : List ℕ) → w ≡ x ∷ xs → x < SYMBOLS → (k : ℕ) → k < length xs → get_or xs k 0 < id
    small_args (is_var {h = y} p u) x xs e q k l = let z : y ≡ x = cc in absurd (omega arith)
    small_args (is_app {h = y} {xs = ys} p d) x xs e q k l = let z : ys ≡ xs = cc in subst (λ (zs : List ℕ). (j : ℕ) → j < length zs → get_or zs j 0 < id) z d k l

    -- an application's arguments are below it
    pub args_below : get_or W s 0 < SYMBOLS → (at : ℕ) → s < at → at < get_or I id 0 → get_or W at 0 < id
    args_below q at l u =
        let a = node_rise in
        let d = node_inside in
        let n = run_length W (s + 1) (get_or I id 0 - (s + 1)) (omega arith) in
        let e : s + 1 + (at - (s + 1)) ≡ at = omega arith in
        let z = small_args (g.shaped id h) _ _ node_split q (at - (s + 1)) (omega arith) in
        subst (λ (y : ℕ). y < id) (run_at W (s + 1) (get_or I id 0 - (s + 1)) (at - (s + 1)) (omega arith) ∙ ap (λ (k : ℕ). get_or W k 0) e) z

-- the first word is the tree's head
pub head_tree : (I W : List ℕ) (m : Mark) → Good I W m → (id : ℕ) → id < m.terms → (s : ℕ) → s ≡ start I id → get_or W s 0 ≡ head_of (get_or (made I W m) id (var 0))
unfolding head_of
head_tree I W m g id h s b = elim (dec_lt (get_or W s 0) SYMBOLS) [
  | yes q ↦ sym (ap head_of (term_app I W m g id h s b q))
  | no q ↦ (let z : get_or W s 0 ≡ SYMBOLS + (get_or W s 0 - SYMBOLS) = omega arith in z ∙ sym (ap head_of (term_var I W m g id h s b (omega arith))))
]

-- Variables -------------------------------------------------------------------------------------------------------------------------

-- a variable of the arguments is one of some argument
among_args : (M : Made) (k n v : ℕ) (xs : List ℕ) → ((j : ℕ) → j < length xs → get_or xs j 0 < k) → ((i : ℕ) → i < k → variables (get_or M i (var 0)) v ≡ true → v < n)
    → variables_of (args_of M xs) v ≡ true → v < n
unfolding args_of variables
among_args M k n v [] b f e = absurd (false≢true e)
among_args M k n v (x ∷ xs) b f e = go (variables (get_or M x (var 0)) v) refl (among_args M k n v xs (λ j l. b (suc j) (suc-le-suc l)) f) e
  where
    go : (c : Bool) → variables (get_or M x (var 0)) v ≡ c → (variables_of (args_of M xs) v ≡ true → v < n) → elim c [ true ↦ true | false ↦ variables_of (args_of M xs) v ] ≡ true → v < n
    go true q ih z = f x (b 0 (zero-lt-suc (length xs))) q
    go false q ih z = ih z

module _ (I W : List ℕ) (m : Mark) (g : Good I W m) where
  node_few : (i v : ℕ) → ((j : ℕ) → j < i → variables (get_or (made I W m) j (var 0)) v ≡ true → v < VARIABLES) → {w : List ℕ} → Shaped i w
      → variables (tree_at (made I W m) w) v ≡ true → v < VARIABLES
  node_few i v f (is_var {h = h} p u) e =
      let z : v ≡ h - SYMBOLS = eqb-true v (h - SYMBOLS) (sym (variables_var (h - SYMBOLS) v) ∙ ap (λ (t : Tree). variables t v) (sym (tree_var (made I W m) h [] p)) ∙ e) in
      omega arith
  node_few i v f (is_app {h = h} {xs = xs} p b) e =
      among_args (made I W m) i VARIABLES v xs b f
      (ap (λ (a : Set). a v) (sym (variables_app h (args_of (made I W m) xs))) ∙ ap (λ (t : Tree). variables t v) (sym (tree_app (made I W m) h xs p)) ∙ e)

  few_below : (n i v : ℕ) → i < n → i < m.terms → variables (get_or (made I W m) i (var 0)) v ≡ true → v < VARIABLES
  few_below zero i v l h e = absurd (not-suc-le-zero l)
  few_below (suc n) i v l h e =
      node_few i v (λ j k. few_below n j v (omega arith) (omega arith)) (g.shaped i h) (ap (λ (t : Tree). variables t v) (sym (tree_here I W m g i h)) ∙ e)

  -- every variable of a stored term is one that there can be
  pub variables_few : (i : ℕ) → i < m.terms → (v : ℕ) → variables (get_or (made I W m) i (var 0)) v ≡ true → v < VARIABLES
  variables_few i h v e = few_below (suc i) i v (omega arith) h e
