use mathlib.Core.Path.{refl, ◌∙◌}
use Rattle.kernel.proofs.Handed.{handed}
use Rattle.casework.specs.Laws.Facts.{contexting_start, recalls_grown, given_grown, contexting_over, contexting_stops, contexting_more}
use Rattle.casework.proofs.context.Grounds.context_facts.Goals as goal

pub loop-h-init : goal.loop-h-init
loop-h-init c = record { tables = (refl, refl); memo_same = refl; ids_same = refl; own_same = refl; contexting = λ g. contexting_start g.good g.S _ _ _ _ _ }

pub context_fact-requires : goal.context_fact-requires
context_fact-requires c = rw c.loop-h.invariant.own_same (
  given_grown c.requires.0 (c.loop-h.invariant.contexting c.requires.0.recalls).on.grown c.loop-h.invariant.memo_same,
  c.requires.1 c.loop-h.h-index c.loop-h-test.true,
  c.loop-h.invariant.ids_same ∙ c.requires.2,
)

pub returns-in_err-context_fact-clause-context_as : goal.returns-in_err-context_fact-clause-context_as
returns-in_err-context_fact-clause-context_as c = λ g.
    let i = c.loop-h.invariant.contexting g in
    rw (handed c.from_residual.result c.from_residual.ensures)
    (contexting_stops i g refl c.requires.0.cells c.loop-h-test.true (c.requires.1 c.loop-h.h-index c.loop-h-test.true) (c.in_err-context_fact.ensures.context_as (recalls_grown i.on.grown g)))

pub loop-h-preserved : goal.loop-h-preserved
loop-h-preserved c =
    let i = c.loop-h.invariant in
    record {
      tables = (c.context_fact.ensures.same_tables.0 ∙ i.tables.0, c.context_fact.ensures.same_tables.1 ∙ i.tables.1);
      memo_same = c.context_fact.ensures.memo_unchanged.0 ∙ i.memo_same;
      ids_same = c.context_fact.ensures.memo_unchanged.1 ∙ i.ids_same;
      own_same = (c.in_ok-context_fact.ensures.context_as (recalls_grown (i.contexting c.requires.0.recalls).on.grown c.requires.0.recalls)).1 ∙ i.own_same;
      contexting = λ g.
          let a = c.in_ok-context_fact.ensures.context_as (recalls_grown (i.contexting g).on.grown g) in
          contexting_more (i.contexting g) g refl c.requires.0.cells c.loop-h-test.true (c.requires.1 c.loop-h.h-index c.loop-h-test.true) (rw i.own_same at a.0);
    }

pub returns-clause-context_as : goal.returns-clause-context_as
returns-clause-context_as c = λ g. (contexting_over (c.loop-h.invariant.contexting g) c.loop-h-test.false, c.loop-h.invariant.own_same)
