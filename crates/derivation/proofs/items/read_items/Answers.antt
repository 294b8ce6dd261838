use mathlib.Core.Path.{refl, ap, ◌∙◌}
use Rattle.sexp.specs.declared.items.Each.{Each}
use Rattle.sexp.specs.Each.{here, over}
use Rattle.kernel.proofs.Handed.{handed}
use Rattle.derivation.proofs.AllItems.{itemed_start, left_given, left_refused, left_again, left_done}
use Rattle.derivation.proofs.items.read_items.Goals as goal

pub loop-item-init : goal.loop-item-init
loop-item-init c =
    let i = c.into_iter-item-iterator.ensures.into_iter_gives in
    record {
      cells = ap (λ (e : Each). e.cells.now) i ∙ c.all-item-items.ensures.0;
      tables = (refl, refl);
      items = itemed_start refl (ap (λ (e : Each). e.at) i ∙ c.all-item-items.ensures.1);
    }

pub read_item-requires : goal.read_item-requires
read_item-requires c =
    let h = here c.loop-item.invariant.cells c.in-Some.ensures.steps in
    rw h.is (left_given (c.loop-item.invariant.items c.requires) h.inside c.requires.ruled c.requires.known)

pub returns-in_err-read_item-clause-items_as : goal.returns-in_err-read_item-clause-items_as
returns-in_err-read_item-clause-items_as c = λ g.
    let h = here c.loop-item.invariant.cells c.in-Some.ensures.steps in
    rw (handed c.from_residual.result c.from_residual.ensures)
    (left_refused (c.loop-item.invariant.items g) h.inside g.ruled g.known (λ k. let e = rw h.is at c.in_err-read_item.ensures.item_as in (e k).0))

pub loop-item-preserved : goal.loop-item-preserved
loop-item-preserved c =
    let h = here c.loop-item.invariant.cells c.in-Some.ensures.steps in
    record {
      cells = h.same;
      tables = (c.read_item.ensures.same_tables.0 ∙ c.loop-item.invariant.tables.0, c.read_item.ensures.same_tables.1 ∙ c.loop-item.invariant.tables.1);
      items = λ g. left_again (c.loop-item.invariant.items g) h.inside g.ruled g.known (rw h.is at c.in_ok-read_item.ensures.item_as) h.behind;
    }

pub returns-clause-items_as : goal.returns-clause-items_as
returns-clause-items_as c = λ g. left_done (c.loop-item.invariant.items g) (over c.loop-item.invariant.cells c.in-None.ensures.steps)
