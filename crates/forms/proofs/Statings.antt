-- What a form lists and states, item by item. Assumes nothing.
use mathlib.Core.Path.{◌≡◌, sym, ap, ◌∙◌}
use mathlib.Core.List.{List}
use Prim.Native.Nat.{ℕ}
use native.Mathlib.Omega.{arith}
use lib.ListN.{length, drop}
use Rattle.rules.specs.Out.{Out, then}
use Rattle.rules.specs.Sexp.{Sexps, item}
use Rattle.rules.specs.Tree.{Tree, Trees}
use Rattle.rules.specs.State.{State}
use Rattle.rules.specs.Read.{judgment, judgments}
use Rattle.rules.specs.Forms.{with_made, making}
use Rattle.rules.specs.TheoryTables.{filled}
use Rattle.rules.specs.Laws.Keeping.{Each, Grows, each_on}
use Rattle.rules.specs.Laws.Sound.{sound}
use Rattle.rules.proofs.Laws.ReadWalk.{judgment_keeps, judgments_keeps}
use Rattle.sexp.specs.Encode.{encodes}
use Rattle.sexp.specs.Items.{place}
use Rattle.terms.specs.declared.store.Mark.{Mark}
use Rattle.terms.specs.Table.{made}
use Rattle.terms.specs.On.{Stopped}
use Rattle.state.specs.declared.sizes.Sizes.{Sizes}
use Rattle.state.specs.Held.{Names}
use Rattle.state.specs.Growth.{grows_ok}
use Rattle.state.specs.Numbered.{numbers_on}
use Rattle.reading.specs.Given.{Reads, ReadsItem}
use Rattle.reading.specs.Answers.{TermRead, JudgmentsRead}
use Rattle.reading.specs.Laws.Reading.{reads_ready, reads_judgments, reads_item}
use Rattle.forms.specs.Halted.{ReadsForm, Halts}
use Rattle.forms.specs.Stating.{stating, StatedRead}
use Rattle.forms.specs.Laws.Making.{Reached, reached_start, reached_went, reached_stopped, item_holds}

module _ {K : Names} {n : Sizes} {I W : List ℕ} {m : Mark} {cells : List ℕ} (g : ReadsForm K n I W m cells 4) {behind : List ℕ}
    (a : (ys : Sexps) → cells ≡ encodes ys → behind ≡ drop (place ys 2) cells) where
  -- what those that are listed are read from
  abbrev pub listed_given : ReadsItem K n I W m behind
  listed_given = reads_item g.reads (item_holds g.holds 2 (omega (arith, g.many)) a)

  -- next: what the definition does with them
  module _ (next : Trees → Tree → State → Out State (Unit {0})) where
    abbrev stated_next : Trees → State → Out State (Unit {0})
    stated_next hs U = then (making (judgment g.S (item g.xs 3)) U) (next hs)

    listed_starts : Reached I W m g.S (stating g.xs g.S next) I W m (then (making (judgments g.S (item g.xs 2)) (with_made g.S (made I W m))) stated_next)
    listed_starts = reached_start g.reads.good (reads_ready g.reads) g.store (λ T. then (making (judgments g.S (item g.xs 2)) T) stated_next)

    pub listed_stop : {J X before out : List ℕ} {k : Mark} {q d : ℕ} →
        ((h : ReadsItem K n I W m behind) → Stopped I W J X m (judgments h.S h.x (made I W m)) q d k × (out ≡ before)) →
        Halts I W J X m g.S (stating g.xs g.S next) q d k × (out ≡ before)
    listed_stop b =
        let s = b listed_given in
        (reached_stopped (judgments g.S (item g.xs 2)) stated_next listed_starts (judgments_keeps g.S (item g.xs 2) (made I W m) (reads_ready g.reads)) s.0, s.1)

  module _ {J X out : List ℕ} {k : Mark} {many : ℕ}
      (b : (h : ReadsItem K n I W m behind) → JudgmentsRead I W J X m (judgments h.S h.x (made I W m)) out many k) where
    listed_read : JudgmentsRead I W J X m (judgments g.S (item g.xs 2) (made I W m)) out many k
    listed_read = b listed_given

    pub listed_on : Reads K n J X k g.S
    listed_on = reads_judgments g.reads (item g.xs 2) listed_read.went

    listed_known : Each (sound.Has (made J X k)) listed_read.trees
    listed_known = (grows_ok (judgments_keeps g.S (item g.xs 2) (made I W m) (reads_ready g.reads)) listed_read.went.makes).1

    listed_reached : (next : Trees → Tree → State → Out State (Unit {0})) →
        Reached I W m g.S (stating g.xs g.S next) J X k (stated_next next listed_read.trees (with_made g.S (made J X k)))
    listed_reached next =
        reached_went (judgments g.S (item g.xs 2)) (stated_next next) (listed_starts next)
        (judgments_keeps g.S (item g.xs 2) (made I W m) (reads_ready g.reads)) listed_read.went

    module _ {last : List ℕ} (f : (ys : Sexps) → cells ≡ encodes ys → last ≡ drop (place ys 3) cells) where
      -- what the judgment behind them is read from
      abbrev pub stated_given : ReadsItem K n J X k last
      stated_given = reads_item listed_on (item_holds g.holds 3 (omega (arith, g.many)) f)

      module _ (next : Trees → Tree → State → Out State (Unit {0})) {Y Z : List ℕ} {new : Mark} where
        pub stated_stops : {q d : ℕ} →
            ((h : ReadsItem K n J X k last) → Stopped J X Y Z k (judgment h.S h.x (made J X k)) q d new) →
            Halts I W Y Z m g.S (stating g.xs g.S next) q d new
        stated_stops c =
            reached_stopped (judgment g.S (item g.xs 3)) (next listed_read.trees) (listed_reached next)
            (judgment_keeps g.S (item g.xs 3) (made J X k) (reads_ready listed_on)) (c stated_given)

        pub stated_read : {j : ℕ} →
            ((h : ReadsItem K n J X k last) → TermRead J X Y Z k (judgment h.S h.x (made J X k)) j new) →
            StatedRead I W Y Z m g.S (stating g.xs g.S next) next out (record { judgment = j; listed = many }) new
        stated_read {j} c =
            let read : TermRead J X Y Z k (judgment g.S (item g.xs 3) (made J X k)) j new = c stated_given in
            let keeps = judgment_keeps g.S (item g.xs 3) (made J X k) (reads_ready listed_on) in
            let o = reached_went (judgment g.S (item g.xs 3)) (next listed_read.trees) (listed_reached next) keeps read.went in
            let w : Grows sound (made J X k) (made Y Z new) = (grows_ok keeps read.went.makes).0 in
            record {
              makes = o.makes;
              trees = listed_read.trees;
              is = o.here;
              there = read.there;
              known = each_on listed_read.trees w listed_known;
              count = listed_read.count;
              cells_are = listed_read.cells_are ∙ ap (λ (z : List ℕ). filled (length out) z) (sym (numbers_on w listed_read.trees listed_known));
            }
