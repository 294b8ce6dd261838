use mathlib.Core.Path.{refl}
use native.Mathlib.Omega.{arith}
use Rattle.std.proofs.Common.{length-take-le}
use Rattle.cells.specs.Cleared.{front_cleared}
use Rattle.questions.specs.declared.Question.TheVariants.{Brackets, Depth}
use Rattle.sexp.proofs.Comings.{came, none_came}
use Rattle.sexp.proofs.States as states
use Rattle.sexp.proofs.sexp.read_list.Goals as goal

pub loop-token-init : goal.loop-token-init
loop-token-init c = record { text = refl; state = λ from g. states.opened c.requires.legible g; inside = λ e. omega arith }

pub slice_bounds-clear-end : goal.slice_bounds-clear-end
slice_bounds-clear-end c =
    let now = c.loop-token.invariant in
    let here = now.state c.requires.behind_bracket.0 c.requires.behind_bracket.1 in
    (states.used_most here).1

pub returns-then-depth-eq-DEPTH : goal.returns-then-depth-eq-DEPTH
returns-then-depth-eq-DEPTH c = λ from g.
    let now = c.loop-token.invariant in
    let next = came now.text c.in-Some.ensures.steps c.in-Open.is in
    let here = now.state from g in
    states.refused here Depth (record { number = refl; detail = refl }) (states.too_deep here next.gives c.if-depth-eq-DEPTH.true) _
    (front_cleared 0 _ _ (states.used_most here).1 c.clear.ensures)

pub put-requires : goal.put-requires
put-requires c =
    let now = c.loop-token.invariant in
    let here = now.state c.requires.behind_bracket.0 c.requires.behind_bracket.1 in
    let next = came now.text c.in-Some.ensures.steps c.in-Open.is in
    states.room_open here next.gives.2

pub overflow_add-cells : goal.overflow_add-cells
overflow_add-cells c =
    let now = c.loop-token.invariant in
    let here = now.state c.requires.behind_bracket.0 c.requires.behind_bracket.1 in
    omega (arith, (states.used_most here).0)

pub overflow_add-depth : goal.overflow_add-depth
overflow_add-depth c =
    let now = c.loop-token.invariant in
    let here = now.state c.requires.behind_bracket.0 c.requires.behind_bracket.1 in
    omega (arith, here.most)

pub loop-token-preserved-in-Open : goal.loop-token-preserved-in-Open
loop-token-preserved-in-Open c =
    let now = c.loop-token.invariant in
    let next = came now.text c.in-Some.ensures.steps c.in-Open.is in
    record {
      text = next.same;
      state = λ from g. rw c.put.ensures (states.opens_on (now.state from g) next.gives c.if-depth-eq-DEPTH.false);
      inside = λ e. omega arith;
    }

pub overflow_sub-cells : goal.overflow_sub-cells
overflow_sub-cells c =
    let now = c.loop-token.invariant in
    let here = now.state c.requires.behind_bracket.0 c.requires.behind_bracket.1 in
    omega (arith, states.head_used here now.inside)

pub overflow_sub-cells-in-Close : goal.overflow_sub-cells-in-Close
overflow_sub-cells-in-Close c =
    let now = c.loop-token.invariant in
    let here = now.state c.requires.behind_bracket.0 c.requires.behind_bracket.1 in
    omega (arith, states.head_used here now.inside)

pub close_list-open-requires : goal.close_list-open-requires
close_list-open-requires c =
    let now = c.loop-token.invariant in
    let here = now.state c.requires.behind_bracket.0 c.requires.behind_bracket.1 in
    states.room_close here now.inside

pub returns-then-depth-eq0 : goal.returns-then-depth-eq0
returns-then-depth-eq0 c = λ from g.
    let now = c.loop-token.invariant in
    let next = came now.text c.in-Some.ensures.steps c.in-Close.is in
    rw c.close_list-open.ensures.1 (states.closes_last (now.state from g) next.gives now.inside c.if-depth-eq0.true)

pub loop-token-preserved-else-depth-eq0 : goal.loop-token-preserved-else-depth-eq0
loop-token-preserved-else-depth-eq0 c =
    let now = c.loop-token.invariant in
    let next = came now.text c.in-Some.ensures.steps c.in-Close.is in
    record {
      text = next.same;
      state = λ from g.
          rw (c.close_list-open.ensures.0, c.close_list-open.ensures.1) (states.closes_on (now.state from g) next.gives now.inside c.if-depth-eq0.false);
      inside = c.if-depth-eq0.false;
    }

pub put-requires-in-Atom : goal.put-requires-in-Atom
put-requires-in-Atom c =
    let now = c.loop-token.invariant in
    let here = now.state c.requires.behind_bracket.0 c.requires.behind_bracket.1 in
    let next = came now.text c.in-Some.ensures.steps c.in-Atom.is in
    states.room_word here next.gives.1

pub overflow_add-cells-in-Atom : goal.overflow_add-cells-in-Atom
overflow_add-cells-in-Atom c =
    let now = c.loop-token.invariant in
    let here = now.state c.requires.behind_bracket.0 c.requires.behind_bracket.1 in
    omega (arith, (states.used_most here).0)

pub loop-token-preserved : goal.loop-token-preserved
loop-token-preserved c =
    let now = c.loop-token.invariant in
    let next = came now.text c.in-Some.ensures.steps c.in-Atom.is in
    record {
      text = next.same;
      state = λ from g. rw c.put-in-Atom.ensures (states.word_on (now.state from g) next.gives now.inside);
      inside = now.inside;
    }

pub slice_bounds-clear-end-2 : goal.slice_bounds-clear-end-2
slice_bounds-clear-end-2 c =
    let now = c.loop-token.invariant in
    let here = now.state c.requires.behind_bracket.0 c.requires.behind_bracket.1 in
    (states.used_most here).1

pub returns : goal.returns
returns c = λ from g.
    let now = c.loop-token.invariant in
    let here = now.state from g in
    states.refused here Brackets states.brackets (states.unclosed here (none_came _ now.text c.in_default.ensures.steps) now.inside) _
    (front_cleared 0 _ _ (states.used_most here).1 c.clear-2.ensures)

pub slice_bounds-clear-end-then-depth-eq-DEPTH : goal.slice_bounds-clear-end-then-depth-eq-DEPTH
slice_bounds-clear-end-then-depth-eq-DEPTH c =
    let now = c.loop-token.invariant in
    let here = now.state c.requires.behind_bracket.0 c.requires.behind_bracket.1 in
    omega (arith, length-take-le c.loop-token.cells c.loop-token.words (states.used_most here).1)

pub slice_bounds-clear-end-3 : goal.slice_bounds-clear-end-3
slice_bounds-clear-end-3 c =
    let now = c.loop-token.invariant in
    let here = now.state c.requires.behind_bracket.0 c.requires.behind_bracket.1 in
    omega (arith, length-take-le c.loop-token.cells c.loop-token.words (states.used_most here).1)
