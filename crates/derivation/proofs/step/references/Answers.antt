use mathlib.Core.Path.{refl, ap, ◌∙◌}
use native.Mathlib.Omega.{arith}
use lib.ListN.{length-set}
use Rattle.std.specs.Iterator.Adapters.{enumerate_source, enumerate_count}
use Rattle.sexp.specs.declared.items.Each.{Each}
use Rattle.sexp.specs.Each.{here, over}
use Rattle.kernel.proofs.Handed.{handed}
use Rattle.derivation.proofs.StepRefs.{instances_are, instances_few, refs_start, left_given, left_room, left_refused, left_fits, left_fact, left_again, left_done}
use Rattle.derivation.proofs.step.references.Goals as goal

pub loop-k-init : goal.loop-k-init
loop-k-init c =
    let i = c.into_iter-k-iterator.ensures.into_iter_gives in
    let e = c.enumerate-k-items.ensures in
    let s = ap enumerate_source i ∙ e.source in
    record {
      cells = ap (λ (k : Each). k.cells.now) s ∙ c.all.ensures.0;
      tables = (refl, refl);
      refs = refs_start refl refl (ap enumerate_count i ∙ e.count) (ap (λ (k : Each). k.at) s ∙ c.all.ensures.1);
      few = omega arith;
      memo = refl;
      long = refl;
    }

pub reference-requires-clause-reads : goal.reference-requires-clause-reads
reference-requires-clause-reads c =
    let h = here c.loop-k.invariant.cells c.in-Some.ensures.steps.0 in
    rw h.is (left_given (c.loop-k.invariant.refs c.requires.reads) h.inside)

pub returns-in_err-referred-clause-refs_as : goal.returns-in_err-referred-clause-refs_as
returns-in_err-referred-clause-refs_as c = λ g.
    let h = here c.loop-k.invariant.cells c.in-Some.ensures.steps.0 in
    rw (handed c.from_residual.result c.from_residual.ensures)
    (left_refused (c.loop-k.invariant.refs g) h.inside (rw h.is at c.in_err-referred.ensures.referred_as))

pub overflow_cast-ids : goal.overflow_cast-ids
overflow_cast-ids c =
    let h = here c.loop-k.invariant.cells c.in-Some.ensures.steps.0 in
    omega (arith, left_fits (c.loop-k.invariant.refs c.requires.reads) h.inside (rw h.is at c.in_ok-referred.ensures.referred_as))

pub offset_bounds-ids-k : goal.offset_bounds-ids-k
offset_bounds-ids-k c =
    let h = here c.loop-k.invariant.cells c.in-Some.ensures.steps.0 in
    omega (
      arith,
      left_room (c.loop-k.invariant.refs c.requires.reads) h.inside c.requires.few_items c.requires.reads.holds.cells,
      c.in-Some.ensures.steps.1,
      c.loop-k.invariant.long,
      c.well_formed,
    )

pub bounds-ids-k : goal.bounds-ids-k
bounds-ids-k c =
    let h = here c.loop-k.invariant.cells c.in-Some.ensures.steps.0 in
    omega (
      arith,
      left_room (c.loop-k.invariant.refs c.requires.reads) h.inside c.requires.few_items c.requires.reads.holds.cells,
      c.in-Some.ensures.steps.1,
      c.loop-k.invariant.long,
    )

pub join-requires : goal.join-requires
join-requires c =
    let h = here c.loop-k.invariant.cells c.in-Some.ensures.steps.0 in
    rw c.facts-facts.ensures (left_fact (c.loop-k.invariant.refs c.requires.reads) h.inside (rw h.is at c.in_ok-referred.ensures.referred_as))

pub loop-k-preserved : goal.loop-k-preserved
loop-k-preserved c =
    let h = here c.loop-k.invariant.cells c.in-Some.ensures.steps.0 in
    let r = rw h.is at c.in_ok-referred.ensures.referred_as in
    record {
      cells = h.same;
      tables = (c.reference.ensures.same_tables.0 ∙ c.loop-k.invariant.tables.0, c.reference.ensures.same_tables.1 ∙ c.loop-k.invariant.tables.1);
      refs = λ g. left_again (c.loop-k.invariant.refs g) h.inside r _ _ (rw c.facts-facts.ensures at c.join.ensures)
          (omega (arith, left_room (c.loop-k.invariant.refs c.requires.reads) h.inside c.requires.few_items c.requires.reads.holds.cells, c.loop-k.invariant.long))
          (c.from-instances.ensures ∙ instances_are c.in_ok-referred.referred.bare) c.in-Some.ensures.steps.1 c.in-Some.ensures.steps.2 h.behind;
      few = omega (arith, c.loop-k.invariant.few, c.from-instances.ensures, instances_few c.in_ok-referred.referred.bare, c.in-Some.ensures.steps.2);
      memo = c.reference.ensures.memo_unchanged ∙ c.loop-k.invariant.memo;
      long = length-set _ _ _ ∙ c.loop-k.invariant.long;
    }

pub returns-clause-refs_as : goal.returns-clause-refs_as
returns-clause-refs_as c = λ g. left_done (c.loop-k.invariant.refs g) (over c.loop-k.invariant.cells c.in-None.ensures.steps.0)
