use mathlib.Core.Path.{refl}
use Rattle.sexp.proofs.Comings.{came, none_came}
use Rattle.sexp.proofs.Turns as turns
use Rattle.sexp.proofs.sexp.read_all.Goals as goal

pub loop-token-init : goal.loop-token-init
loop-token-init c = rw c.into_iter-token-iterator.ensures.into_iter_gives (record { text = refl; turning = turns.begin _ })

pub returns-then-depth-eq-DEPTH : goal.returns-then-depth-eq-DEPTH
returns-then-depth-eq-DEPTH c =
    let now = c.loop-token.invariant in
    let next = came now.text c.in-Some.ensures.steps c.in-Open.is in
    rw c.behind.ensures (turns.too_deep now.turning next.gives c.if-depth-eq-DEPTH.true)

pub loop-token-preserved-in-Open : goal.loop-token-preserved-in-Open
loop-token-preserved-in-Open c =
    let now = c.loop-token.invariant in
    let next = came now.text c.in-Some.ensures.steps c.in-Open.is in
    record { text = next.same; turning = turns.opens now.turning next.gives c.if-depth-eq-DEPTH.false }

pub returns-then-depth-eq0 : goal.returns-then-depth-eq0
returns-then-depth-eq0 c =
    let now = c.loop-token.invariant in
    let next = came now.text c.in-Some.ensures.steps c.in-Close.is in
    rw c.behind-then-depth-eq0.ensures (turns.stray now.turning next.gives c.if-depth-eq0.true)

pub loop-token-preserved-then-depth-eq0-2 : goal.loop-token-preserved-then-depth-eq0-2
loop-token-preserved-then-depth-eq0-2 c =
    let now = c.loop-token.invariant in
    let next = came now.text c.in-Some.ensures.steps c.in-Close.is in
    record { text = next.same; turning = turns.closes_last now.turning next.gives c.if-depth-eq0.false c.if-depth-eq0-2.true }

pub loop-token-preserved-else-depth-eq0-2 : goal.loop-token-preserved-else-depth-eq0-2
loop-token-preserved-else-depth-eq0-2 c =
    let now = c.loop-token.invariant in
    let next = came now.text c.in-Some.ensures.steps c.in-Close.is in
    record { text = next.same; turning = turns.closes now.turning next.gives c.if-depth-eq0.false c.if-depth-eq0-2.false }

pub loop-token-preserved : goal.loop-token-preserved
loop-token-preserved c =
    let now = c.loop-token.invariant in
    let next = came now.text c.in-Some.ensures.steps c.in-Atom.is in
    record { text = next.same; turning = turns.words now.turning next.gives }

pub returns-then-depth-ne0 : goal.returns-then-depth-ne0
returns-then-depth-ne0 c =
    let now = c.loop-token.invariant in
    rw c.behind-then-depth-ne0.ensures (turns.unclosed now.turning (none_came _ now.text c.in-None.ensures.steps) c.if-depth-ne0.true)

pub returns : goal.returns
returns c =
    let now = c.loop-token.invariant in
    turns.ended now.turning (none_came _ now.text c.in-None.ensures.steps) c.if-depth-ne0.false
