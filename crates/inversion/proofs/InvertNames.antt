-- The variables of a rule in their table, and variables that are made. Assumes nothing.
use mathlib.Core.Path.{◌≡◌, refl, sym, ap, ◌∙◌, subst}
use mathlib.Core.Bool.{Bool}
use mathlib.Core.List.{List, [], ◌∷◌, ◌++◌, append-nil, append_assoc}
use Prim.Native.Nat.{ℕ, zero, suc, ◌+◌, ◌-◌, ◌*◌, ◌^◌, ◌<◌, ◌≤◌}
use native.Mathlib.Omega.{arith}
use native.Mathlib.Numerals.{add-one}
use lib.ListN.{length, get_or, set, take, drop, length-append, length-drop, drop_of_length-le}
use lib.Seq.{sets, drop-cons, length-take-le, get_or-set_other}
use borrow.Author.Tests.{lt-ltb, le-ltb}
use Rattle.rules.specs.Limits.{VARIABLES}
use Rattle.rules.specs.Out.{refuse, room}
use Rattle.rules.specs.Store.{Made}
use Rattle.rules.specs.State.{Var}
use Rattle.rules.specs.Invert.{make_vars, up_from}
use Rattle.rules.specs.Laws.Store.{then_ok, then_refuse}
use Rattle.rules.specs.Laws.Theory.{all_at}
use Rattle.rules.specs.Theory.{Theory, RuleVar, no_name, rule}
use Rattle.state.specs.Held.{VarsHeld}
use Rattle.state.specs.VarLaws.{vars_made}
use Rattle.rules.specs.Declare.{no_rule_var}
use Rattle.kernel.specs.HeldRules.{RulesHeld}
use Rattle.kernel.specs.Readers.{KnownVar}
use Rattle.inversion.specs.InvertRules.{RuleVarsGiven, nameless, vars_with, Unmade, VarsMade}

module _ {rulevars : List ℕ} {r need : ℕ} (g : RuleVarsGiven rulevars r need) where
  -- what `variable_sort` asks
  pub known_var : {k : ℕ} → k < need → KnownVar rulevars r k
  unfolding rule
  known_var l =
      record {
        text = g.text;
        rules = g.rules;
        patterns = g.patterns;
        count = g.known;
        words = g.words;
        held = (g.T.rules, g.held);
        known = g.there;
        there = omega (arith, l, g.many);
      }

  pub rule_sort_lem : {k a : ℕ} → k < need →
      ((T : Theory) (text rules patterns : List ℕ) (count words : ℕ) → RulesHeld text rules rulevars patterns count words T.rules → r < count →
      k < length (rule T r).vars → a ≡ (get_or (rule T r).vars k no_rule_var).sort) → a ≡ (get_or (rule g.T r).vars k no_rule_var).sort
  rule_sort_lem l f = f g.T g.text g.rules g.patterns g.known g.words g.held g.there (omega (arith, l, g.many))

  pub sort_small : {k a : ℕ} → k < need → a ≡ (get_or (rule g.T r).vars k no_rule_var).sort → a < 2 ^ 32
  sort_small {k} l e = omega (arith, e, all_at (rule g.T r).vars k no_rule_var g.small (omega (arith, l, g.many)))

-- Made variables -------------------------------------------------------------------------------------------------------------------------------

abbrev made_var : ℕ → Var
made_var s = record { sort = s; text = 0; name = no_name }

nameless_snoc : (ss : List ℕ) (s : ℕ) → nameless (ss ++ (s ∷ [])) ≡ nameless ss ++ (made_var s ∷ [])
unfolding nameless
nameless_snoc [] s = refl
nameless_snoc (x ∷ ss) s = ap (λ (l : List Var). made_var x ∷ l) (nameless_snoc ss s)

pub nameless_length : (ss : List ℕ) → length (nameless ss) ≡ length ss
unfolding nameless
nameless_length [] = refl
nameless_length (s ∷ ss) = ap suc (nameless_length ss)

pub put_next : (xs : List ℕ) (j v : ℕ) → j < length xs → take (j + 1) (set xs j v) ≡ take j xs ++ (v ∷ [])
put_next [] j v q = absurd (omega arith)
put_next (x ∷ xs) zero v q = refl
put_next (x ∷ xs) (suc j) v q =
    let z : suc j + 1 ≡ suc (j + 1) = omega arith in
    ap (λ (k : ℕ). take k (x ∷ set xs j v)) z ∙ ap (λ (l : List ℕ). x ∷ l) (put_next xs j v (omega arith))

-- from a place on, up to the one that is set
part_set : (xs : List ℕ) (n v s : ℕ) → n ≤ v → v < length xs → take (v + 1 - n) (drop n (set xs v s)) ≡ take (v - n) (drop n xs) ++ (s ∷ [])
part_set [] n v s l m = absurd (omega arith)
part_set (x ∷ xs) zero v s l m =
    let a : v + 1 - 0 ≡ v + 1 = omega arith in
    let b : v - 0 ≡ v = omega arith in
    ap (λ (k : ℕ). take k (set (x ∷ xs) v s)) a ∙ put_next (x ∷ xs) v s m ∙ ap (λ (k : ℕ). take k (x ∷ xs) ++ (s ∷ [])) (sym b)
part_set (x ∷ xs) (suc n) zero s l m = absurd (omega arith)
part_set (x ∷ xs) (suc n) (suc v) s l m =
    let a : suc v + 1 - suc n ≡ v + 1 - n = omega arith in
    let b : suc v - suc n ≡ v - n = omega arith in
    ap (λ (k : ℕ). take k (drop n (set xs v s))) a ∙ part_set xs n v s (omega arith) (omega arith) ∙ ap (λ (k : ℕ). take k (drop n xs) ++ (s ∷ [])) (sym b)

part_more : (xs : List ℕ) (n v : ℕ) → n ≤ v → v < length xs → take (v + 1 - n) (drop n xs) ≡ take (v - n) (drop n xs) ++ (get_or xs v 0 ∷ [])
part_more [] n v l m = absurd (omega arith)
part_more (x ∷ xs) zero zero l m = refl
part_more (x ∷ xs) zero (suc v) l m =
    let a : suc v + 1 - 0 ≡ suc (v + 1 - 0) = omega arith in
    let b : suc v - 0 ≡ suc (v - 0) = omega arith in
    ap (λ (k : ℕ). take k (x ∷ xs)) a ∙ ap (λ (l : List ℕ). x ∷ l) (part_more xs zero v (omega arith) (omega arith))
    ∙ ap (λ (k : ℕ). take k (x ∷ xs) ++ (get_or xs v 0 ∷ [])) (sym b)
part_more (x ∷ xs) (suc n) zero l m = absurd (omega arith)
part_more (x ∷ xs) (suc n) (suc v) l m =
    let a : suc v + 1 - suc n ≡ v + 1 - n = omega arith in
    let b : suc v - suc n ≡ v - n = omega arith in
    ap (λ (k : ℕ). take k (drop n xs)) a ∙ part_more xs n v (omega arith) (omega arith) ∙ ap (λ (k : ℕ). take k (drop n xs) ++ (get_or xs v 0 ∷ [])) (sym b)

module _ (vs : List Var) where
  pub with_set : (sorts : List ℕ) (v s : ℕ) → length vs ≤ v → v < length sorts → vars_with vs (set sorts v s) (v + 1) ≡ vars_with vs sorts v ++ (made_var s ∷ [])
  with_set sorts v s l m =
      ap (λ (ss : List ℕ). vs ++ nameless ss) (part_set sorts (length vs) v s l m)
      ∙ ap (λ (ws : List Var). vs ++ ws) (nameless_snoc (take (v - length vs) (drop (length vs) sorts)) s)
      ∙ sym (append_assoc vs (nameless (take (v - length vs) (drop (length vs) sorts))) (made_var s ∷ []))

  pub with_more : (sorts : List ℕ) (v : ℕ) → length vs ≤ v → v < length sorts → vars_with vs sorts (v + 1) ≡ vars_with vs sorts v ++ (made_var (get_or sorts v 0) ∷ [])
  with_more sorts v l m =
      ap (λ (ss : List ℕ). vs ++ nameless ss) (part_more sorts (length vs) v l m)
      ∙ ap (λ (ws : List Var). vs ++ ws) (nameless_snoc (take (v - length vs) (drop (length vs) sorts)) (get_or sorts v 0))
      ∙ sym (append_assoc vs (nameless (take (v - length vs) (drop (length vs) sorts))) (made_var (get_or sorts v 0) ∷ []))

  pub with_none : (sorts : List ℕ) (v : ℕ) → v ≡ length vs → vars_with vs sorts v ≡ vs
  unfolding nameless
  with_none sorts v e =
      let z : v - length vs ≡ 0 = omega arith in
      ap (λ (k : ℕ). vs ++ nameless (take k (drop (length vs) sorts))) z ∙ append-nil vs

  pub with_length : (sorts : List ℕ) (v : ℕ) → length vs ≤ v → v ≤ length sorts → length (vars_with vs sorts v) ≡ v
  with_length sorts v l m =
      let a = length-append vs (nameless (take (v - length vs) (drop (length vs) sorts))) in
      let b = nameless_length (take (v - length vs) (drop (length vs) sorts)) in
      let c = length-take-le (v - length vs) (drop (length vs) sorts) (omega (arith, length-drop (length vs) sorts, m)) in
      omega (arith, a, b, c, l)

-- The loop that makes them -----------------------------------------------------------------------------------------------------------------------

up_snoc : (a k : ℕ) → up_from a (suc k) ≡ up_from a k ++ ((a + k) ∷ [])
unfolding up_from
up_snoc a zero = let e : a ≡ a + 0 = omega arith in ap (λ (n : ℕ). n ∷ []) e
up_snoc a (suc k) = let e : suc a + k ≡ a + suc k = omega arith in ap (λ (l : List ℕ). a ∷ l) (up_snoc (suc a) k ∙ ap (λ (n : ℕ). up_from (suc a) k ++ (n ∷ [])) e)

pub record Making (vs : List Var) (rs : List RuleVar) (first sorts : List ℕ) (count : ℕ) (list : List ℕ) (v k : ℕ) : Type 0 where
  pub makes : (M : Made) → make_vars rs (vars_with vs first count) M ≡ make_vars (drop k rs) (vars_with vs sorts v) M
  pub numbers : take k list ≡ up_from count k
  pub others : (base : ℕ) → base ≤ count → Unmade base count first → Unmade base v sorts

pub making_start : (vs : List Var) (rs : List RuleVar) (first : List ℕ) (count : ℕ) (list : List ℕ) → Making vs rs first first count list (count + 0) 0
unfolding up_from
making_start vs rs first count list =
    let z : count ≡ count + 0 = omega arith in
    record {
      makes = λ M. ap (λ (w : ℕ). make_vars rs (vars_with vs first w) M) z;
      numbers = refl;
      others = λ base l u. record { before = u.before; behind = λ w q. u.behind w (omega (arith, q)) };
    }

-- one cell more is a made variable's
unmade_set : (base v : ℕ) (sorts : List ℕ) (s : ℕ) → base ≤ v → v < length sorts → Unmade base v sorts → Unmade base (v + 1) (set sorts v s)
unmade_set base v sorts s l m u =
    record {
      before = λ w q. get_or-set_other sorts v w s 0 (omega (arith, l, q)) ∙ u.before w q;
      behind = λ w q. get_or-set_other sorts v w s 0 (omega (arith, q)) ∙ u.behind w (omega (arith, q));
    }

module _ {vs : List Var} {rs : List RuleVar} {first sorts : List ℕ} {count : ℕ} {list : List ℕ} {v k : ℕ} (h : Making vs rs first sorts count list v k)
    (lv : length vs ≤ v) (ls : length sorts ≡ VARIABLES) (e : v ≡ count + k) where
  pub making_over : length rs ≤ k → k ≤ length rs → v ≤ VARIABLES → {w : ℕ} → w ≡ v → VarsMade vs rs first sorts count list w
  unfolding make_vars
  making_over l m f q =
      let z : k ≡ length rs = omega arith in
      subst (λ (w : ℕ). VarsMade vs rs first sorts count list w) (sym q)
      record {
        makes = λ M. h.makes M ∙ ap (λ (ss : List RuleVar). make_vars ss (vars_with vs sorts v) M) (drop_of_length-le rs l);
        many = omega arith;
        few = f;
        numbers = ap (λ (j : ℕ). take j list) (sym z) ∙ h.numbers ∙ ap (up_from count) z;
        long = ls;
        others = h.others;
      }

  module _ (l : k < length rs) where
    opened : (M : Made) → make_vars rs (vars_with vs first count) M ≡ make_vars (get_or rs k no_rule_var ∷ drop (k + 1) rs) (vars_with vs sorts v) M
    opened M =
        h.makes M ∙ ap (λ (ss : List RuleVar). make_vars ss (vars_with vs sorts v) M)
        (drop-cons rs k no_rule_var l ∙ ap (λ (j : ℕ). get_or rs k no_rule_var ∷ drop j rs) (sym (add-one k)))

    pub making_full : VARIABLES ≤ v → v ≤ VARIABLES → (M : Made) → make_vars rs (vars_with vs first count) M ≡ refuse 60 7 M
    unfolding make_vars
    making_full f w M =
        opened M ∙ then_refuse _ 60 7 M _ (ap (λ (b : Bool). room 7 b M) (le-ltb (length (vars_with vs sorts v)) VARIABLES (omega (arith, with_length vs sorts v lv (omega (arith, ls, w)), f))))

    pub making_more : {s : ℕ} → v < VARIABLES → k < length list → s ≡ (get_or rs k no_rule_var).sort → {u : ℕ} → u ≡ v + 1 → Making vs rs first (set sorts v s) count (set list k v) u (k + 1)
    unfolding make_vars
    making_more {s} f w q z =
        record {
          makes = λ M. opened M
              ∙ then_ok _ tt M _ (ap (λ (b : Bool). room 7 b M) (lt-ltb (length (vars_with vs sorts v)) VARIABLES (omega (arith, with_length vs sorts v lv (omega (arith, ls, f)), f))))
              ∙ ap (λ (us : List Var). make_vars (drop (k + 1) rs) us M)
              (ap (λ (a : ℕ). vars_with vs sorts v ++ (made_var a ∷ [])) (sym q) ∙ sym (with_set vs sorts v s lv (omega (arith, ls, f))))
              ∙ ap (λ (a : ℕ). make_vars (drop (k + 1) rs) (vars_with vs (set sorts v s) a) M) (sym z);
          numbers = put_next list k v w ∙ (λ i. h.numbers i ++ (e i ∷ [])) ∙ sym (up_snoc count k) ∙ ap (up_from count) (sym (add-one k));
          others = λ base l t. subst (λ (u : ℕ). Unmade base u (set sorts v s)) (sym z)
              (unmade_set base v sorts s (omega (arith, l, e)) (omega (arith, ls, f)) (h.others base l t));
        }

-- The rows that are written at the end -------------------------------------------------------------------------------------------------------------

pub rows_more : {goals text vars : List ℕ} (vs : List Var) (sorts : List ℕ) (v : ℕ) → length vs ≤ v → v < length sorts → v < VARIABLES →
    VarsHeld goals text vars v (vars_with vs sorts v) → VarsHeld goals text (sets vars (4 * v) (get_or sorts v 0 ∷ 0 ∷ 0 ∷ 0 ∷ [])) (v + 1) (vars_with vs sorts (v + 1))
rows_more {goals} {text} {vars} vs sorts v l m f h =
    subst (λ (us : List Var). VarsHeld goals text (sets vars (4 * v) (get_or sorts v 0 ∷ 0 ∷ 0 ∷ 0 ∷ [])) (v + 1) us) (sym (with_more vs sorts v l m)) (vars_made (get_or sorts v 0) h f)

pub rows_start : {goals text vars : List ℕ} {count : ℕ} {vs : List Var} (sorts : List ℕ) → VarsHeld goals text vars count vs → VarsHeld goals text vars count (vars_with vs sorts count)
rows_start {goals} {text} {vars} {count} {vs} sorts h = subst (λ (us : List Var). VarsHeld goals text vars count us) (sym (with_none vs sorts count (sym h.stand.many))) h

pub rows_end : {goals text vars put : List ℕ} {v : ℕ} {us : List Var} → put ≡ vars → VarsHeld goals text vars v us → VarsHeld goals text put v us
rows_end {goals} {text} {v = v} {us} e h = subst (λ (ws : List ℕ). VarsHeld goals text ws v us) (sym e) h
