-- The loop over bindings: what is left of the items, from the map and the store as they are now, gives what all of them give from the start.
-- Assumes nothing.
use mathlib.Core.Path.{◌≡◌, sym, ap, ◌∙◌, subst}
use mathlib.Core.Bool.{not}
use mathlib.Core.List.{List, []}
use Prim.Native.Nat.{ℕ, ◌+◌, ◌^◌, ◌<◌, ◌≤◌}
use native.Mathlib.Omega.{arith}
use native.Mathlib.Numerals.{add-one}
use native.Mathlib.Decide.{ℕ_discrete}
use lib.ListN.{length, get_or, set, replicate, length-replicate, length-set}
use lib.Seq.{get_or-set_same, get_or-set_other}
use borrow.Author.Tests.{eq-eqb, ne_eqb}
use Rattle.rules.specs.Limits.{VARIABLES}
use Rattle.rules.specs.Sexp.{Sexps, cons}
use Rattle.rules.specs.Unify.{Binding, insert}
use Rattle.rules.specs.State.{State}
use Rattle.rules.specs.Reference.{binding, bindings}
use Rattle.sexp.specs.Items.{Holds}
use Rattle.sexp.specs.Each.{Here}
use Rattle.sexp.specs.declared.items.Each.{Each}
use Rattle.sexp.specs.WalkLaws.{Walk, walk_start, walk_over}
use Rattle.terms.specs.declared.store.Mark.{Mark}
use Rattle.terms.specs.Table.{made, tree}
use Rattle.terms.specs.Theta.{Theta, bindings as in_cells}
use Rattle.terms.specs.On.{On, Stopped, on_start, on_is, on_ok, on_no, on_done, on_ask_yes, on_ask_no}
use Rattle.terms.specs.Laws.Zeros.{get_d_zeros}
use Rattle.terms.specs.Laws.Theta.{bindings_none, bindings_bound, bindings_set, bindings_grown, theta_grown}
use Rattle.state.specs.declared.sizes.Sizes.{Sizes}
use Rattle.state.specs.Held.{Names}
use Rattle.reading.specs.Given.{Reads, ReadsItem, ReadsItems}
use Rattle.cells.specs.Cleared.{ClearedBy}
use Rattle.reading.specs.Answers.{PairRead, PairBy, BindingsRead, BindingsBy}
use Rattle.reading.specs.Laws.Reading.{reads_binding}
use Rattle.reading.specs.declared.bindings.Pair.{Pair}
use Rattle.std.specs.Prelude.{Result, Ok, Err}
use Rattle.questions.specs.Numbers.{number_of, detail_of}
use Rattle.questions.specs.declared.Question.{Question}
use Rattle.reading.specs.Laws.Walks.{Here as Item, here, walk_next}
use Rattle.reading.proofs.Filling.{cleared}

-- zs are left in the cells from a place on
pub record Left (K : Names) (n : Sizes) (I W : List ℕ) (old : Mark) (cells : List ℕ) (S : State) (xs : Sexps) (J X : List ℕ) (now : Mark) (map : List ℕ) (at : ℕ) : Type 0 where
  pub zs : Sexps
  pub walk : Walk K.text cells at zs
  pub reads : Reads K n J X now S
  pub on : On I W old (bindings S xs [] (made I W old)) J X now (bindings S zs (in_cells (made J X now) map 0) (made J X now))
  pub theta : Theta now map

-- of whatever state and items the tables and cells stand for
abbrev pub Binds : Names → Sizes → List ℕ → List ℕ → Mark → List ℕ → List ℕ → List ℕ → Mark → List ℕ → ℕ → Type 0
Binds K n I W old cells J X now map at = (g : ReadsItems K n I W old cells) → Left K n I W old cells g.S g.xs J X now map at

-- no cell is bound
no_cells : (m : Mark) (map : List ℕ) → map ≡ replicate VARIABLES 0 → Theta m map
no_cells m map e =
    record {
      long = ap length e ∙ length-replicate {A = ℕ} VARIABLES 0;
      bound = λ v. let z : get_or map v 0 ≡ 0 = ap (λ (l : List ℕ). get_or l v 0) e ∙ get_d_zeros VARIABLES v in omega arith;
    }

pub binds_start : {K : Names} {n : Sizes} {I W : List ℕ} {m : Mark} {cells map : List ℕ} → map ≡ replicate VARIABLES 0 → Binds K n I W m cells I W m map 0
binds_start {I = I} {W} {m} {map = map} e g =
    record {
      zs = g.xs;
      walk = walk_start g.holds;
      reads = g.reads;
      on = on_is (on_start g.reads.good) (ap (λ (bs : List Binding). bindings g.S g.xs bs (made I W m))
          (sym (ap (λ (l : List ℕ). in_cells (made I W m) l 0) e ∙ bindings_none (made I W m) VARIABLES 0)));
      theta = no_cells m map e;
    }

-- a cell more
theta_set : {m : Mark} {map : List ℕ} (v id : ℕ) → Theta m map → v < VARIABLES → id < m.terms → Theta m (set map v (id + 1))
theta_set {m} {map} v id t l k =
    record {
      long = length-set map v (id + 1) ∙ t.long;
      bound = λ w. elim (ℕ_discrete v w) [
        | yes e ↦ let z : get_or (set map v (id + 1)) w 0 ≡ id + 1 = ap (λ (u : ℕ). get_or (set map v (id + 1)) u 0) (sym e) ∙ get_or-set_same map v (id + 1) 0 (omega (arith, t.long)) in omega arith
        | no e ↦ let z : get_or (set map v (id + 1)) w 0 ≡ get_or map w 0 = get_or-set_other map v w (id + 1) 0 (λ q. e (sym q)) in omega (arith, t.bound w)
      ];
    }

module _ {K : Names} {n : Sizes} {I W : List ℕ} {old : Mark} {cells : List ℕ} {S : State} {xs : Sexps} {J X : List ℕ} {now : Mark} {map : List ℕ} {at : ℕ}
    (l : Left K n I W old cells S xs J X now map at) where
  -- nothing is left
  pub left_done : length cells ≤ at → BindingsRead I W J X old (bindings S xs [] (made I W old)) map now
  unfolding bindings
  left_done h =
      record {
        went = on_done (on_is l.on (ap (λ (z : Sexps). bindings S z (in_cells (made J X now) map 0) (made J X now)) (walk_over l.walk h)));
        cells = l.theta;
      }

  -- One binding ------------------------------------------------------------------------------------------------------------------------

  module _ {part : List ℕ} {next : Each} (w : Here cells part at next) where
    pub one : Item K.text cells at l.zs
    one = here l.walk w.inside

    abbrev pub left_given : ReadsItem K n J X now part
    left_given = record { S = S; x = one.x; ys = one.ys; reads = l.reads; holds = subst (λ z. Holds K.text z (cons one.x one.ys)) (sym w.is) one.holds }

    on_one : On I W old (bindings S xs [] (made I W old)) J X now (bindings S (cons one.x one.ys) (in_cells (made J X now) map 0) (made J X now))
    on_one = on_is l.on (ap (λ (z : Sexps). bindings S z (in_cells (made J X now) map 0) (made J X now)) one.is)

    module _ (Y Z : List ℕ) (new : Mark) {r : Result Pair Question} (p : (h : ReadsItem K n J X now part) → PairBy J X Y Z now new (binding h.S h.x (made J X now)) r) where
      pub left_refused : {q : Question} → r ≡ Err q → Stopped I W Y Z old (bindings S xs [] (made I W old)) (number_of q) (detail_of q) new
      unfolding bindings
      left_refused e = on_no _ on_one (subst (λ z. PairBy J X Y Z now new (binding S one.x (made J X now)) z) e (p left_given))

      module _ {pair : Pair} (e : r ≡ Ok pair) where
        pub left_pair : PairRead J X Y Z now (binding S one.x (made J X now)) pair.variable pair.term new
        left_pair = subst (λ z. PairBy J X Y Z now new (binding S one.x (made J X now)) z) e (p left_given)

        pub left_small : pair.variable < length map
        left_small = omega (arith, left_pair.small, l.theta.long)

        pub left_fits : pair.term + 1 < 2 ^ 32
        left_fits = omega (arith, left_pair.there, left_pair.went.grown.good.room)

        -- bound already
        pub left_twice : (get_or map pair.variable 0 ≡ 0 → ⊥) → Stopped I W Y Z old (bindings S xs [] (made I W old)) 36 0 new
        unfolding bindings
        left_twice q =
            on_ask_no _ 36 (on_ok _ on_one left_pair.went)
            (ap not (bindings_bound (made J X now) map pair.variable ∙ ap not (ne_eqb (get_or map pair.variable 0) 0 q)))

        module _ (q : get_or map pair.variable 0 ≡ 0) where
          -- the bindings with this one
          one_more_lem : insert (record { variable = pair.variable; value = tree Y Z new pair.term }) (in_cells (made J X now) map 0) ≡ in_cells (made Y Z new) (set map pair.variable (pair.term + 1)) 0
          one_more_lem =
              ap (insert (record { variable = pair.variable; value = tree Y Z new pair.term })) (sym (bindings_grown left_pair.went.grown l.theta))
              ∙ sym (bindings_set (made Y Z new) map pair.variable (pair.term + 1) pair.term left_small q (add-one pair.term))

          on_more : On I W old (bindings S xs [] (made I W old)) Y Z new (bindings S one.ys (in_cells (made Y Z new) (set map pair.variable (pair.term + 1)) 0) (made Y Z new))
          unfolding bindings
          on_more =
              on_is
              (on_ask_yes _ 36 (on_ok _ on_one left_pair.went) (ap not (bindings_bound (made J X now) map pair.variable ∙ ap not (eq-eqb (get_or map pair.variable 0) 0 q))))
              (ap (λ (bs : List Binding). bindings S one.ys bs (made Y Z new)) one_more_lem)

          pub left_again : Left K n I W old cells S xs Y Z new (set map pair.variable (pair.term + 1)) next.at
          left_again =
              record {
                zs = one.ys;
                walk = walk_next one.walk w.behind;
                reads = reads_binding l.reads one.x left_pair.went;
                on = on_more;
                theta = theta_set pair.variable pair.term (theta_grown left_pair.went.grown l.theta) left_pair.small left_pair.there;
              }

-- All of them are read, or one is refused: then the map, which was zero before, is cleared
module _ {K : Names} {n : Sizes} {I W : List ℕ} {m : Mark} {cells : List ℕ} (J X map : List ℕ) (new : Mark) (r : Result (Unit {0}) Question)
    (g : ReadsItems K n I W m cells)
    (h : (k : ReadsItems K n I W m cells) → BindingsBy I W J X m new (bindings k.S k.xs [] (made I W m)) map map r) where
  pub bindings_read : {before : List ℕ} (last : List ℕ) → before ≡ replicate VARIABLES 0 → length map ≡ length before → ClearedBy 0 r map last →
      BindingsBy I W J X m new (bindings g.S g.xs [] (made I W m)) before last r
  bindings_read {before} last o s c = go r (h g) c
    where
      go : (z : Result (Unit {0}) Question) → BindingsBy I W J X m new (bindings g.S g.xs [] (made I W m)) map map z → ClearedBy 0 z map last →
          BindingsBy I W J X m new (bindings g.S g.xs [] (made I W m)) before last z
      go (Ok _) k f = rw f k
      go (Err q) k f = (k.0, cleared map o (s ∙ ap length o ∙ length-replicate {A = ℕ} VARIABLES 0) f)
