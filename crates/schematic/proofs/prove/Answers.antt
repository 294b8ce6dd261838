use Rattle.std.specs.Prelude.{◌≡◌, Ok}
use Rattle.std.proofs.Common.{sym, ap, ◌∙◌, arith, rules}
use Rattle.kernel.proofs.Handed.{handed}
use Rattle.beginning.proofs.Turns.{boards_then, stores_then}
use Rattle.schematic.proofs.Turning.{in_proof, ready, fitting, next, ran, left, stops, answered, scratch_then}
use Rattle.schematic.proofs.prove.Goals as goal

pub returns-in_err-next-clause-ran : goal.returns-in_err-next-clause-ran
returns-in_err-next-clause-ran c =
    let x = c.loop-next.invariant.0 in
    let r : c.map_err.result ≡ in_proof c.loop-next.forms c.next_form.result = search rules in
    rw (handed c.from_residual.result c.from_residual.ensures)
    (left x c.next_form.new.board c.next_form.new.store
    (stops x c.next_form.new.board c.next_form.new.store _ (c.next_form.ensures.advanced (ready x)) (sym r ∙ c.in_err-next.was)))

pub returns-in_default-clause-ran : goal.returns-in_default-clause-ran
returns-in_default-clause-ran c =
    let x = c.loop-next.invariant.0 in
    let r : c.map_err.result ≡ in_proof c.loop-next.forms c.next_form.result = search rules in
    let o = answered x c.next_form.new.board c.next_form.new.store _ (c.next_form.ensures.advanced (ready x)) (sym r ∙ c.in_ok-next.was ∙ ap Ok c.in_default.is) in
    ran x c.next_form.new.board c.next_form.new.store o.0

pub add_assign-requires : goal.add_assign-requires
add_assign-requires c =
    let x = c.loop-next.invariant.0 in
    let r : c.map_err.result ≡ in_proof c.loop-next.forms c.next_form.result = search rules in
    let e = answered x c.next_form.new.board c.next_form.new.store _ (c.next_form.ensures.advanced (ready x)) (sym r ∙ c.in_ok-next.was ∙ ap Ok c.in-Some.is) in
    fitting x c.next_form.new.board c.next_form.new.store e

pub loop-next-smaller : goal.loop-next-smaller
loop-next-smaller c =
    let x = c.loop-next.invariant.0 in
    let r : c.map_err.result ≡ in_proof c.loop-next.forms c.next_form.result = search rules in
    let e = answered x c.next_form.new.board c.next_form.new.store _ (c.next_form.ensures.advanced (ready x)) (sym r ∙ c.in_ok-next.was ∙ ap Ok c.in-Some.is) in
    omega (arith, e.sooner, e.underway.high)

pub loop-next-preserved : goal.loop-next-preserved
loop-next-preserved c =
    let x = c.loop-next.invariant.0 in
    let r : c.map_err.result ≡ in_proof c.loop-next.forms c.next_form.result = search rules in
    let e = answered x c.next_form.new.board c.next_form.new.store _ (c.next_form.ensures.advanced (ready x)) (sym r ∙ c.in_ok-next.was ∙ ap Ok c.in-Some.is) in (
      next x c.next_form.new.board c.next_form.new.store e c.add_assign.ensures.after,
      c.next_form.ensures.idle_again,
      boards_then c.args.board.now c.loop-next.board c.next_form.new.board c.loop-next.invariant.2 c.next_form.ensures.same_tables.0,
      stores_then c.args.store.now c.loop-next.store c.next_form.new.store c.loop-next.invariant.3 c.next_form.ensures.same_tables.1,
      scratch_then c.args.scratch.now c.loop-next.scratch c.next_form.new.scratch c.loop-next.invariant.4 c.next_form.ensures.same_tables.2,
    )
