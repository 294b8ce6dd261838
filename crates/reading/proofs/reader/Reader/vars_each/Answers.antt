use mathlib.Core.Path.{refl, ◌∙◌}
use native.Mathlib.Omega.{arith}
use lib.ListN.{length-set}
use Rattle.rules.specs.Limits.{VARIABLES}
use Rattle.sexp.specs.Each.{here, over}
use Rattle.reading.proofs.Variables.{varing_start, varing_first, varing_none, varing_below, varing_twice, varing_room, varing_more, varing_over, vars_few, named}
use Rattle.terms.specs.Laws.Zeros.{zeros_long}
use Rattle.reading.proofs.reader.Reader.vars_each.Goals as goal

pub loop-k-init : goal.loop-k-init
loop-k-init c = rw (c.into_iter-k-iterator.ensures.into_iter_gives, c.enumerate-k-items.ensures.source, c.enumerate-k-items.ensures.count, c.all.ensures.0, c.all.ensures.1) record { cells = refl; long = zeros_long VARIABLES c.requires.1; wide = refl; varing = λ g. varing_start g.S.vars g.holds c.requires.1 refl }

pub variable-requires : goal.variable-requires
variable-requires c = rw (here c.loop-k.invariant.cells c.in-Some.ensures.steps.0).is ((varing_first (c.loop-k.invariant.varing c.requires.0) (here c.loop-k.invariant.cells c.in-Some.ensures.steps.0).inside, (_, c.requires.0.vars_are)))

pub returns-in_err-v : goal.returns-in_err-v
returns-in_err-v c = λ g. rw c.from_residual.ensures (
  varing_none (c.loop-k.invariant.varing g) (here c.loop-k.invariant.cells c.in-Some.ensures.steps.0).inside (named g c.loop-k.k-iterator.iter.at (rw (here c.loop-k.invariant.cells c.in-Some.ensures.steps.0).is at c.variable.ensures)) c.in_err-v.was,
  refl,
)

pub has-requires : goal.has-requires
has-requires c = omega (
  arith,
  varing_below (c.loop-k.invariant.varing c.requires.0) (here c.loop-k.invariant.cells c.in-Some.ensures.steps.0).inside (named c.requires.0 c.loop-k.k-iterator.iter.at (rw (here c.loop-k.invariant.cells c.in-Some.ensures.steps.0).is at c.variable.ensures)) c.in_ok-v.was,
  vars_few c.requires.0,
  c.loop-k.invariant.wide,
)

pub returns-then-has : goal.returns-then-has
returns-then-has c = λ g. (
  varing_twice (c.loop-k.invariant.varing g) (here c.loop-k.invariant.cells c.in-Some.ensures.steps.0).inside (named g c.loop-k.k-iterator.iter.at (rw (here c.loop-k.invariant.cells c.in-Some.ensures.steps.0).is at c.variable.ensures)) c.in_ok-v.was c.has.ensures
      c.if-has.true,
  refl,
)

pub insert-requires : goal.insert-requires
insert-requires c = omega (
  arith,
  varing_below (c.loop-k.invariant.varing c.requires.0) (here c.loop-k.invariant.cells c.in-Some.ensures.steps.0).inside (named c.requires.0 c.loop-k.k-iterator.iter.at (rw (here c.loop-k.invariant.cells c.in-Some.ensures.steps.0).is at c.variable.ensures)) c.in_ok-v.was,
  vars_few c.requires.0,
  c.loop-k.invariant.wide,
)

pub overflow_cast-out : goal.overflow_cast-out
overflow_cast-out c = omega (
  arith,
  varing_below (c.loop-k.invariant.varing c.requires.0) (here c.loop-k.invariant.cells c.in-Some.ensures.steps.0).inside (named c.requires.0 c.loop-k.k-iterator.iter.at (rw (here c.loop-k.invariant.cells c.in-Some.ensures.steps.0).is at c.variable.ensures)) c.in_ok-v.was,
  vars_few c.requires.0,
)

pub offset_bounds-out-k : goal.offset_bounds-out-k
offset_bounds-out-k c = omega (
  arith,
  varing_room (c.loop-k.invariant.varing c.requires.0) (here c.loop-k.invariant.cells c.in-Some.ensures.steps.0).inside (named c.requires.0 c.loop-k.k-iterator.iter.at (rw (here c.loop-k.invariant.cells c.in-Some.ensures.steps.0).is at c.variable.ensures)) c.in_ok-v.was
      c.has.ensures c.if-has.false (vars_few c.requires.0),
  c.in-Some.ensures.steps.1,
)

pub bounds-out-k : goal.bounds-out-k
bounds-out-k c = omega (
  arith,
  varing_room (c.loop-k.invariant.varing c.requires.0) (here c.loop-k.invariant.cells c.in-Some.ensures.steps.0).inside (named c.requires.0 c.loop-k.k-iterator.iter.at (rw (here c.loop-k.invariant.cells c.in-Some.ensures.steps.0).is at c.variable.ensures)) c.in_ok-v.was
      c.has.ensures c.if-has.false (vars_few c.requires.0),
  c.in-Some.ensures.steps.1,
  c.loop-k.invariant.long,
)

pub loop-k-preserved : goal.loop-k-preserved
loop-k-preserved c = rw (c.in-Some.ensures.steps.2, c.in-Some.ensures.steps.1) record {
  cells = (here c.loop-k.invariant.cells c.in-Some.ensures.steps.0).same;
  long = length-set c.loop-k.out c.loop-k.k-iterator.count c.in_ok-v.v ∙ c.loop-k.invariant.long;
  wide = c.insert.auto.set ∙ c.loop-k.invariant.wide;
  varing = λ g. varing_more (c.loop-k.invariant.varing g)
      (here c.loop-k.invariant.cells c.in-Some.ensures.steps.0).inside (named g c.loop-k.k-iterator.iter.at (rw (here c.loop-k.invariant.cells c.in-Some.ensures.steps.0).is at c.variable.ensures)) c.in_ok-v.was c.has.ensures c.if-has.false c.insert.ensures
      (here c.loop-k.invariant.cells c.in-Some.ensures.steps.0).behind;
}

pub count-requires : goal.count-requires
count-requires c = omega (arith, c.loop-k.invariant.wide)

pub returns : goal.returns
returns c = λ g. varing_over (c.loop-k.invariant.varing g) (over c.loop-k.invariant.cells c.in-None.ensures.steps.0) c.loop-k.invariant.wide (vars_few g) c.count.ensures
