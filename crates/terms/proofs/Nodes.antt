-- A new node: its flag, and its place in the index. Assumes nothing.
use mathlib.Core.Path.{◌≡◌, refl, sym, ap, ◌∙◌}
use mathlib.Core.Bool.{Bool, true, false, not}
use mathlib.Core.List.{List, [], ◌∷◌, ◌++◌, append-nil}
use Prim.Native.Nat.{ℕ, zero, suc, ◌+◌, ◌≤◌, ◌<◌, ◌-◌, ◌*◌}
use native.Mathlib.Omega.{arith}
use native.Mathlib.Numerals.{add-one}
use lib.ListN.{length, get_or, set, drop, length-set, drop_of_length-le, take, replicate, length-drop}
use lib.Seq.{get_or-set_same, get_or-set_other, get_or-drop, take_all}
use borrow.Rule.Slice.PartMut.{put_mid}
use Rattle.std.specs.Int.{from_bool}
use Rattle.std.specs.Bool.{MatchBool}
use Rattle.std.specs.List.{AllWithin, HoldsAt}
use lib.Dec.{eqb}
use Rattle.rules.specs.Limits.{SYMBOLS, TERMS, WORDS}
use Rattle.rules.specs.Tree.{var, is_open, are_open}
use Rattle.rules.specs.Store.{Made}
use Rattle.terms.specs.declared.store.Mark.{Mark}
use Rattle.terms.specs.Table.{CHAINS, FLAGS, HEADS, INDEX, BUCKETS, args_of, tree_at, made, flag, Shaped, is_var, is_app, Good, start, run, node_at}
use Rattle.terms.specs.Table.{settled}
use Rattle.terms.specs.Node.{Linked, Held, HeldIn, HeadIs, OpenIs}
use Rattle.terms.specs.Laws.Tables.{tree_app, tree_var, end_within}
use Rattle.terms.specs.Laws.Terms.{start_in, head_tree}
use Rattle.terms.specs.Laws.Runs.{run_length}

-- Flags ----------------------------------------------------------------------------------------------------------------------------

open_app : (M : Made) (h : ℕ) (xs : List ℕ) → h < SYMBOLS → is_open (tree_at M (h ∷ xs)) ≡ are_open (args_of M xs)
unfolding is_open
open_app M h xs p = ap is_open (tree_app M h xs p)

pub open_var : (M : Made) (w : List ℕ) → 0 < length w → SYMBOLS ≤ get_or w 0 0 → true ≡ is_open (tree_at M w)
unfolding is_open
open_var M [] s h = absurd (omega arith)
open_var M (x ∷ xs) s h = sym (ap is_open (tree_var M x xs h))

arg_in : (n : ℕ) {w : List ℕ} (i : ℕ) → Shaped n w → get_or w 0 0 < SYMBOLS → 1 ≤ i → i < length w → get_or w i 0 < n
arg_in n i (is_var {h = h} p u) l f b = absurd (omega arith)
arg_in n zero (is_app {xs = xs} p b) l f k = absurd (omega arith)
arg_in n (suc i) (is_app {xs = xs} p b) l f k = b i (omega arith)

pub behind_head : (w : List ℕ) → take (length w - 1) (drop 1 w) ≡ drop 1 w
behind_head w = take_all (length w - 1) (drop 1 w) (let l = length-drop 1 w in omega arith)

-- the arguments of a symbol decide
open_args : (M : Made) (w : List ℕ) → 0 < length w → get_or w 0 0 < SYMBOLS → is_open (tree_at M w) ≡ are_open (args_of M (take (length w - 1) (drop 1 w)))
open_args M [] l h = absurd (omega arith)
open_args M (x ∷ xs) l h = open_app M x xs h ∙ ap (λ (l : List ℕ). are_open (args_of M l)) (sym (behind_head (x ∷ xs)))

module _ (M : Made) where
  one_open : (xs : List ℕ) (k : ℕ) → k < length xs → is_open (get_or M (get_or xs k 0) (var 0)) ≡ true → are_open (args_of M xs) ≡ true
  unfolding args_of is_open
  one_open [] k h e = absurd (omega arith)
  one_open (x ∷ xs) zero h e = ap (λ (b : Bool). elim b [ true ↦ true | false ↦ are_open (args_of M xs) ]) e
  one_open (x ∷ xs) (suc k) h e = go (is_open (get_or M x (var 0))) (one_open xs k (omega arith) e)
    where
      go : (b : Bool) → are_open (args_of M xs) ≡ true → elim b [ true ↦ true | false ↦ are_open (args_of M xs) ] ≡ true
      go true r = refl
      go false r = r

  none_open : (xs : List ℕ) → ((k : ℕ) → k < length xs → is_open (get_or M (get_or xs k 0) (var 0)) ≡ false) → are_open (args_of M xs) ≡ false
  unfolding args_of is_open
  none_open [] f = refl
  none_open (x ∷ xs) f =
      ap (λ (b : Bool). elim b [ true ↦ true | false ↦ are_open (args_of M xs) ]) (f 0 (omega arith)) ∙ none_open xs (λ k h. f (suc k) (omega arith))

module _ (I W : List ℕ) (m : Mark) (g : Good I W m) (w : List ℕ) (s : Shaped m.terms w) (small : get_or w 0 0 < SYMBOLS) where
  abbrev args : List ℕ
  args = take (length w - 1) (drop 1 w)

  module _ (i : ℕ) (h : i < length args) where
    pub arg_below : get_or args i 0 < m.terms
    arg_below =
        let l : length args ≡ length w - 1 = ap length (behind_head w) ∙ length-drop 1 w in
        let e : get_or args i 0 ≡ get_or w (1 + i) 0 = ap (λ (l : List ℕ). get_or l i 0) (behind_head w) ∙ get_or-drop 1 w i 0 in
        let a = arg_in m.terms (1 + i) s small (omega arith) (omega arith) in
        omega arith

    pub arg_held : HeldIn I (get_or args i 0)
    arg_held = record { words = W; held = record { mark = m; good = g; there = arg_below } }

  -- what is known of the arguments where one was found, or none
  pub args_decide : {r : Bool} → MatchBool r ((k : ℕ) × (k < length args) × HoldsAt (λ id. OpenIs I id true) args k) (AllWithin (λ id. OpenIs I id false) args 0 (length args))
      → r ≡ is_open (tree_at (made I W m) w)
  args_decide {r} d = go r d ∙ sym (open_args (made I W m) w (some_word s) small)
    where
      some_word : {v : List ℕ} → Shaped m.terms v → 0 < length v
      some_word (is_var p u) = omega arith
      some_word (is_app p b) = omega arith

      go : (r : Bool) → MatchBool r ((k : ℕ) × (k < length args) × HoldsAt (λ id. OpenIs I id true) args k) (AllWithin (λ id. OpenIs I id false) args 0 (length args))
          → r ≡ are_open (args_of (made I W m) args)
      go true (k, h, o) = sym (one_open (made I W m) args k h (sym (o 0 W m g (arg_below k h))))
      go false f = sym (none_open (made I W m) args (λ k h. sym (f k 0 (omega arith) h W m g (arg_below k h))))

pub flag_byte : (b : Bool) → from_bool b ≡ flag b
unfolding flag
flag_byte true = refl
flag_byte false = refl

-- The index ------------------------------------------------------------------------------------------------------------------------

module _ (I : List ℕ) (n b e o : ℕ) (h : (length I ≡ INDEX) × (n < TERMS) × (b < BUCKETS) × (e ≤ WORDS)) where
  abbrev one : List ℕ
  one = set I (CHAINS + n) (get_or I (HEADS + b) 0)

  abbrev two : List ℕ
  two = set one (FLAGS + n) o

  abbrev three : List ℕ
  three = set two (HEADS + b) (n + 1)

  pub long_one : length one ≡ INDEX
  long_one = length-set I (CHAINS + n) (get_or I (HEADS + b) 0) ∙ h.0

  pub long_two : length two ≡ INDEX
  long_two = length-set one (FLAGS + n) o ∙ long_one

  pub long_three : length three ≡ INDEX
  long_three = length-set two (HEADS + b) (n + 1) ∙ long_two

  pub linked : Linked I (set three n e) n b e o
  linked =
      let a = long_one in
      let c = long_two in
      let d = long_three in
      record {
        long = length-set three n e ∙ long_three ∙ sym h.0;
        end = get_or-set_same three n e 0 (omega arith);
        chain = get_or-set_other three n (CHAINS + n) e 0 (λ q. omega arith) ∙ get_or-set_other two (HEADS + b) (CHAINS + n) (n + 1) 0 (λ q. omega arith)
            ∙ get_or-set_other one (FLAGS + n) (CHAINS + n) o 0 (λ q. omega arith) ∙ get_or-set_same I (CHAINS + n) (get_or I (HEADS + b) 0) 0 (omega arith);
        flag = get_or-set_other three n (FLAGS + n) e 0 (λ q. omega arith) ∙ get_or-set_other two (HEADS + b) (FLAGS + n) (n + 1) 0 (λ q. omega arith)
            ∙ get_or-set_same one (FLAGS + n) o 0 (omega arith);
        head = get_or-set_other three n (HEADS + b) e 0 (λ q. omega arith) ∙ get_or-set_same two (HEADS + b) (n + 1) 0 (omega arith) ∙ add-one n;
        other = λ j p q r s. get_or-set_other three n j e 0 p ∙ get_or-set_other two (HEADS + b) j (n + 1) 0 s ∙ get_or-set_other one (FLAGS + n) j o 0 r ∙ get_or-set_other I (CHAINS + n) j (get_or I (HEADS + b) 0) 0 q;
      }

-- One term -------------------------------------------------------------------------------------------------------------------------

-- a flag that is not zero
pub open_flag : (b : Bool) (n : ℕ) → n ≡ flag b → not (eqb n 0) ≡ b
unfolding flag
open_flag true n e = ap (λ (k : ℕ). not (eqb k 0)) e
open_flag false n e = ap (λ (k : ℕ). not (eqb k 0)) e

module _ (I : List ℕ) (id : ℕ) (h : HeldIn I id) where
  pub open_is : OpenIs I id (not (eqb (get_or I (FLAGS + id) 0) 0))
  open_is W m g l = open_flag (is_open (get_or (made I W m) id (var 0))) (get_or I (FLAGS + id) 0) (g.flags id l)

module _ (I W : List ℕ) (id : ℕ) (h : Held I W id) (s : ℕ) (b : s ≡ start I id) where
  pub held_start : s < length W
  held_start = start_in I W h.mark h.good id h.there s b

  pub head_is_lem : HeadIs I W id (get_or W s 0)
  head_is_lem m g l = head_tree I W m g id l s b

  pub node_fits : (s ≤ get_or I id 0) × (get_or I id 0 ≤ length W)
  node_fits =
      let r = h.good.rise id h.there in
      let e = end_within I W h.mark h.good id h.there in
      let w = h.good.within in
      let l = h.good.words in
      (omega arith, omega arith)

pub node_is : (I W : List ℕ) (id s : ℕ) → s ≡ start I id → run W s (get_or I id 0 - s) ≡ node_at I W id
unfolding node_at
node_is I W id s e = λ i. run W (e i) (get_or I id 0 - e i)

-- the look-up part is cleared
pub settling : (I ys : List ℕ) → length I ≡ INDEX → ys ≡ replicate (length (run I CHAINS (length I - CHAINS))) 0 → put_mid CHAINS (length I - CHAINS) I ys ≡ settled I
settling I ys l e =
    let a = run_length I CHAINS (length I - CHAINS) (omega arith) in
    let b : length (run I CHAINS (length I - CHAINS)) ≡ 3 * TERMS = omega arith in
    let c = length-drop CHAINS I in
    let d : drop (length I - CHAINS) (drop CHAINS I) ≡ [] = drop_of_length-le (drop CHAINS I) {i = length I - CHAINS} (omega arith) in
    ap (λ (r : List ℕ). take CHAINS I ++ r) ((λ i. (e ∙ ap (λ (k : ℕ). replicate k 0) b) i ++ d i) ∙ append-nil (replicate (3 * TERMS) 0))
