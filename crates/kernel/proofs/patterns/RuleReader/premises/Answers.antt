use mathlib.Core.Path.{refl, ap, ◌∙◌}
use Rattle.std.specs.Prelude.{Err}
use Rattle.sexp.specs.Each.{here, over}
use Rattle.kernel.proofs.Handed.{handed}
use Rattle.kernel.proofs.Lists.{list_is, list_not}
use Rattle.kernel.proofs.Missing.{question_is}
use Rattle.kernel.proofs.Premised.{running_start, judging, going_atom, going_over, running_stops, running_on, same_on}
use Rattle.kernel.proofs.patterns.RuleReader.premises.Goals as goal

pub loop-item-init : goal.loop-item-init
loop-item-init c = rw (c.into_iter-item-iterator.ensures.into_iter_gives, c.all-item-items.ensures.0, c.all-item-items.ensures.1)
    record { cells = refl; way = record { same = record { known = refl; vars = refl; patterns = refl }; running = running_start _ _ _ _ _ _ _ _ _ } }

pub returns-in_err-inner-clause-read : goal.returns-in_err-inner-clause-read
returns-in_err-inner-clause-read c = λ T R zs h r k.
    rw (handed c.from_residual.result c.from_residual.ensures ∙ ap Err (question_is _ _ c.ok_or.ensures.ok_part c.ok_or.ensures.value c.in_err-inner.was))
    (going_atom (c.loop-item.invariant.way.running.goes T R zs h r k) (here c.loop-item.invariant.cells c.in-Some.ensures.steps)
    (list_not c.list.ensures c.ok_or.ensures.ok_part c.in_err-inner.was))

pub judgment-requires : goal.judgment-requires
judgment-requires c =
    let now = c.loop-item.invariant in
    rw now.way.same.known (judging now.way.running c.requires (here now.cells c.in-Some.ensures.steps) (list_is c.list.ensures c.ok_or.ensures.ok_part c.in_ok-inner.was))

pub returns-in_err-judgment-clause-read : goal.returns-in_err-judgment-clause-read
returns-in_err-judgment-clause-read c = λ T R zs h r k.
    let now = c.loop-item.invariant in
    let known = now.way.same.known in
    rw (handed c.from_residual-in_err-judgment.result c.from_residual-in_err-judgment.ensures)
    (running_stops now.way.running c.requires (here now.cells c.in-Some.ensures.steps) (list_is c.list.ensures c.ok_or.ensures.ok_part c.in_ok-inner.was) _ _
    (λ T R zs h r k. c.in_err-judgment.ensures.read T R zs (rw known h) (rw known r) (rw known k)) T R zs h r k)

pub loop-item-preserved : goal.loop-item-preserved
loop-item-preserved c =
    let now = c.loop-item.invariant in
    let known = now.way.same.known in
    let next = here now.cells c.in-Some.ensures.steps in
    record {
      cells = next.same;
      way = record {
        same = same_on now.way.same c.in_ok-judgment.ensures.same_tables;
        running = running_on now.way.running c.requires next (list_is c.list.ensures c.ok_or.ensures.ok_part c.in_ok-inner.was)
            (λ T R zs h r k. rw known at (c.in_ok-judgment.ensures.read T R zs (rw known h) (rw known r) (rw known k)));
      };
    }

pub returns-clause-read : goal.returns-clause-read
returns-clause-read c = λ T R zs h r k. going_over (c.loop-item.invariant.way.running.goes T R zs h r k) (over c.loop-item.invariant.cells c.in-None.ensures.steps)
