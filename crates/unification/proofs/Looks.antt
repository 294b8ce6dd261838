-- What two terms ask for is done: nothing, or their arguments come onto the pairs that wait. Assumes nothing.
use mathlib.Core.Path.{◌≡◌, refl, sym, ap, ◌∙◌, subst}
use mathlib.Core.Bool.{Bool}
use mathlib.Core.List.{List}
use Prim.Native.Nat.{ℕ, zero, suc, ◌+◌, ◌*◌, ◌≤◌, ◌<◌}
use native.Mathlib.Omega.{arith}
use native.Mathlib.Decide.{ℕ_discrete}
use lib.ListN.{length, get_or, set, length-set}
use Rattle.std.proofs.Common.{Bor}
use lib.Seq.{take_all, get_or-set_same, get_or-set_other}
use lib.Dec.{leb}
use borrow.Author.Tests.{le-leb, lt-leb}
use Rattle.rules.specs.Limits.{PAIRS}
use Rattle.rules.specs.Out.{Out, ok, refuse, then, Act, room}
use Rattle.rules.specs.Tree.{Tree, Trees, count_trees}
use Rattle.rules.specs.Store.{Made}
use Rattle.rules.specs.Unify.{Pair, Look, agree, clash, binds, parts, push, Found, clashed, bound, onward}
use Rattle.terms.specs.declared.store.Mark.{Mark}
use Rattle.unification.specs.declared.pairs.Asks.{Asks}
use Rattle.unification.specs.declared.pairs.Asks.TheVariants.{Parts}
use Rattle.terms.specs.Table.{args_of, made}
use Rattle.unification.specs.Pairs.{PartsAre, Answered, waits, piled}
use Rattle.unification.specs.Peel.{Lookable, more, OntoPairs, Crowded}
use Rattle.terms.specs.Laws.Tables.{args_count}
use Rattle.unification.proofs.Waits.{waits_piled, length_piled}

-- The definition by cases ------------------------------------------------------------------------------------------------------------

pub length_waits : (M : Made) (P : List ℕ) (n : ℕ) → length (waits M P n) ≡ n
unfolding waits
length_waits M P zero = refl
length_waits M P (suc n) = ap suc (length_waits M P n)

module _ (go : List Pair → Act Made Found) (w : List Pair) (L : Look) (M : Made) where
  pub onward_agree : L ≡ agree → onward go w L M ≡ go w M
  unfolding onward
  onward_agree e = ap (λ (l : Look). onward go w l M) e

  pub onward_clash : L ≡ clash → onward go w L M ≡ ok clashed M
  unfolding onward
  onward_clash e = ap (λ (l : Look). onward go w l M) e

  pub onward_binds : (x : ℕ) (u : Tree) → L ≡ binds x u → onward go w L M ≡ ok (bound x u w) M
  unfolding onward
  onward_binds x u e = ap (λ (l : Look). onward go w l M) e

  module _ (ts us : Trees) (e : L ≡ parts ts us) where
    abbrev asked : Bool → Out Made Found
    asked b = then (room 14 b M) (λ _ m. go (push ts us w) m)

    onward_asks : onward go w L M ≡ asked (leb (length w + count_trees ts) PAIRS)
    unfolding onward
    onward_asks = ap (λ (l : Look). onward go w l M) e

    pub onward_parts : length w + count_trees ts ≤ PAIRS → onward go w L M ≡ go (push ts us w) M
    unfolding then
    onward_parts h = onward_asks ∙ ap (λ (b : Bool). asked b) (le-leb (length w + count_trees ts) PAIRS h)

    pub onward_crowd : PAIRS < length w + count_trees ts → onward go w L M ≡ refuse 60 14 M
    unfolding then
    onward_crowd h = onward_asks ∙ ap (λ (b : Bool). asked b) (lt-leb (length w + count_trees ts) PAIRS h)

-- The cells --------------------------------------------------------------------------------------------------------------------------

-- the cells of all pairs have terms that are there
piled_below : (xs ys P : List ℕ) (w n l : ℕ) → 2 * (w + n) ≤ length P → ((k : ℕ) → k < 2 * w → get_or P k 0 < l) → ((k : ℕ) → k < n → get_or xs k 0 < l)
    → ((k : ℕ) → k < n → get_or ys k 0 < l) → (i : ℕ) → i < 2 * (w + n) → get_or (piled xs ys P w n) i 0 < l
unfolding piled
piled_below xs ys P w zero l h p f g i q = p i (omega arith)
piled_below xs ys P w (suc n) l h p f g i q =
    let Q = piled xs ys P w n in
    let x = get_or xs n 0 in
    let y = get_or ys n 0 in
    let R = set Q (2 * (w + n)) x in
    let long : length Q ≡ length P = length_piled xs ys P w n in
    let long' : length R ≡ length Q = length-set Q (2 * (w + n)) x in
    let left = f n (omega arith) in
    let right = g n (omega arith) in
    elim (ℕ_discrete i (2 * (w + n) + 1)) [
      | yes e ↦ (let z : get_or (set R (2 * (w + n) + 1) y) i 0 ≡ y = ap (λ (k : ℕ). get_or (set R (2 * (w + n) + 1) y) k 0) e ∙ get_or-set_same R (2 * (w + n) + 1) y 0 (omega arith) in omega arith)
      | no m ↦ (let z : get_or (set R (2 * (w + n) + 1) y) i 0 ≡ get_or R i 0 = get_or-set_other R (2 * (w + n) + 1) i y 0 m in
          elim (ℕ_discrete i (2 * (w + n))) [
            | yes e ↦ (let u : get_or R i 0 ≡ x = ap (λ (k : ℕ). get_or R k 0) e ∙ get_or-set_same Q (2 * (w + n)) x 0 (omega arith) in omega arith)
            | no o ↦ (let u : get_or R i 0 ≡ get_or Q i 0 = get_or-set_other Q (2 * (w + n)) i x 0 o in
                let ih = piled_below xs ys P w n l (omega arith) p (λ k r. f k (omega arith)) (λ k r. g k (omega arith)) i (omega arith) in
                omega arith)
          ])
    ]

-- The answers ------------------------------------------------------------------------------------------------------------------------

module _ (I W : List ℕ) (m : Mark) (P seen : List ℕ) (w s t : ℕ) (q : Lookable I W m P seen w s t) (L : Look) (r : Asks) (d : Answered I W m L r) where
  module _ (a b : Bor (List ℕ)) (e : r ≡ Parts a b) where
    abbrev xs : List ℕ
    xs = a.now

    abbrev ys : List ℕ
    ys = b.now

    asks : PartsAre I W m L xs ys
    asks = subst (Answered I W m L) e d

    count : count_trees (args_of (made I W m) xs) ≡ length xs
    count = args_count (made I W m) xs

    pub look_crowd : PAIRS < w + length xs → Crowded w L
    look_crowd h = let z = count in record { lefts = _; rights = _; asks = asks.asks; full = omega arith }

    module _ (h : w + length xs ≤ PAIRS) where
      onto : waits (made I W m) (piled xs ys P w (length xs)) (w + length xs) ≡ push (args_of (made I W m) xs) (args_of (made I W m) ys) (waits (made I W m) P w)
      onto =
          let z = q.many in
          let e = asks.even in
          waits_piled (made I W m) xs ys P w (length xs) (omega arith) (omega arith) (omega arith)
          ∙ (λ i. push (args_of (made I W m) (take_all (length xs) xs (omega arith) i)) (args_of (made I W m) (take_all (length xs) ys (omega (arith, e)) i)) (waits (made I W m) P w))

      pub look_more : (P' : List ℕ) → P' ≡ piled xs ys P w (length xs) → OntoPairs I W m P P' w (w + length xs) L
      look_more P' f =
          let z = q.many in
          let y = count in
          let e = asks.even in
          subst (λ (p : List ℕ). OntoPairs I W m P p w (w + length xs) L) (sym f)
          record {
            onto = more (args_of (made I W m) xs) (args_of (made I W m) ys) asks.asks (omega arith) onto;
            few = h;
            there = piled_below xs ys P w (length xs) m.terms (omega arith) q.there asks.lefts (λ k l. asks.rights k (omega arith));
          }
