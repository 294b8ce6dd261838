use Rattle.std.proofs.Common.{◌∙◌}
use Rattle.unification.proofs.Peels.{peeling_on, peeling_ends}
use Rattle.unification.proofs.peel.peel.Goals as goal

pub loop-scratch-preserved : goal.loop-scratch-preserved
loop-scratch-preserved c =
    let i = c.loop-scratch.invariant in
    let e = c.take_pair.ensures in
    let s = e.same_cells.0 in
    record {
      tables = (e.same_tables.0 ∙ i.tables.0, e.same_tables.1 ∙ i.tables.1);
      cells = (
        (s.0 ∙ i.cells.0.0, s.1 ∙ i.cells.0.1, s.2 ∙ i.cells.0.2, s.3 ∙ i.cells.0.3),
        e.same_cells.1 ∙ i.cells.1,
        e.same_cells.2 ∙ i.cells.2,
      );
      map = e.unchanged.0 ∙ i.map;
      peeling = peeling_on _ _ _ _ _ _ _ _ _ _ _ _ _ _ _ c.loop-scratch.invariant.peeling _ _ _ _ _ _ (rw c.in-Done.is at c.in_ok-step.ensures.turned) _ e.unchanged.1 e.same_cells.1 e.same_cells.2;
    }

pub returns-clause-peeled_as : goal.returns-clause-peeled_as
returns-clause-peeled_as c = peeling_ends _ _ _ _ _ _ _ _ _ _ _ _ _ _ _ c.loop-scratch.invariant.peeling c.loop-scratch-test.false
