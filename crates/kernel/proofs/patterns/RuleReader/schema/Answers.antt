use mathlib.Core.Path.{ap, ◌∙◌}
use native.Mathlib.Omega.{arith}
use Rattle.std.specs.Prelude.{Err}
use Rattle.kernel.proofs.Handed.{handed}
use Rattle.kernel.proofs.Lists.{list_is, list_not}
use Rattle.kernel.proofs.Missing.{question_is}
use Rattle.kernel.proofs.Trees.{symbolic}
use Rattle.kernel.proofs.Schemas.{premising, concluding, schema_atom, schema_stops, schema_open, schema_read, schema_cut}
use Rattle.kernel.proofs.patterns.RuleReader.schema.Goals as goal

pub returns-in_err-premises-clause-read : goal.returns-in_err-premises-clause-read
returns-in_err-premises-clause-read c = λ T R xs h r k n.
    rw (handed c.from_residual.result c.from_residual.ensures ∙ ap Err (question_is _ _ c.ok_or.ensures.ok_part c.ok_or.ensures.value c.in_err-premises.was))
    (schema_atom T R xs (list_not c.list.ensures c.ok_or.ensures.ok_part c.in_err-premises.was _ xs k (omega (arith, n))).1)

pub premises-requires : goal.premises-requires
premises-requires c = premising c.args.self.now.patterns.now c.requires (list_is c.list.ensures c.ok_or.ensures.ok_part c.in_ok-premises.was _ c.requires.form.xs c.requires.form.holds (omega (arith, c.requires.form.many)))

pub returns-in_err-premises-2-clause-read : goal.returns-in_err-premises-2-clause-read
returns-in_err-premises-2-clause-read c = λ T R xs h r k n.
    let list = list_is c.list.ensures c.ok_or.ensures.ok_part c.in_ok-premises.was _ xs k (omega (arith, n)) in
    rw (handed c.from_residual-in_err-premises-2.result c.from_residual-in_err-premises-2.ensures)
    (schema_stops T R xs list c.args.self.now.used c.args.self.now.patterns.now (c.in_err-premises-2.ensures.read T R _ h r list.holds))

pub returns-in_err-conclusion-clause-read : goal.returns-in_err-conclusion-clause-read
returns-in_err-conclusion-clause-read c = λ T R xs h r k n.
    let list = list_is c.list.ensures c.ok_or.ensures.ok_part c.in_ok-premises.was _ xs k (omega (arith, n)) in
    rw (handed c.from_residual-in_err-conclusion.result c.from_residual-in_err-conclusion.ensures
    ∙ ap Err (question_is _ _ c.ok_or-2.ensures.ok_part c.ok_or-2.ensures.value c.in_err-conclusion.was))
    (schema_open T R xs list c.args.self.now.used c.args.self.now.patterns.now r.room c.requires.long
    (c.in_ok-premises-2.ensures.read T R _ h r list.holds) (list_not c.list-2.ensures c.ok_or-2.ensures.ok_part c.in_err-conclusion.was _ xs k (omega (arith, n))).1)

pub judgment-requires : goal.judgment-requires
judgment-requires c =
    let form = c.requires.form in
    let list = list_is c.list.ensures c.ok_or.ensures.ok_part c.in_ok-premises.was _ form.xs form.holds (omega (arith, form.many)) in
    rw c.in_ok-premises-2.ensures.same_tables.known
    (concluding c.args.self.now.patterns.now c.requires (list_is c.list-2.ensures c.ok_or-2.ensures.ok_part c.in_ok-conclusion.was _ form.xs form.holds (omega (arith, form.many)))
    (c.in_ok-premises-2.ensures.read (symbolic c.requires.held.0) c.requires.so_far _ c.requires.held.1 c.requires.reads list.holds))

pub returns-in_err-judgment-clause-read : goal.returns-in_err-judgment-clause-read
returns-in_err-judgment-clause-read c = λ T R xs h r k n.
    let known = c.in_ok-premises-2.ensures.same_tables.known in
    let list = list_is c.list.ensures c.ok_or.ensures.ok_part c.in_ok-premises.was _ xs k (omega (arith, n)) in
    let list' = list_is c.list-2.ensures c.ok_or-2.ensures.ok_part c.in_ok-conclusion.was _ xs k (omega (arith, n)) in
    let written = c.in_ok-premises-2.ensures.read T R _ h r list.holds in
    rw (handed c.from_residual-in_err-judgment.result c.from_residual-in_err-judgment.ensures)
    (schema_cut T R xs list c.args.self.now.used c.args.self.now.patterns.now r.room c.requires.long written list'
    (c.in_err-judgment.ensures.read T written.now list'.items (rw known h) (rw known written.reads) (rw known list'.holds)))

pub count-requires : goal.count-requires
count-requires c = let list = list_is c.list.ensures c.ok_or.ensures.ok_part c.in_ok-premises.was _ c.requires.form.xs c.requires.form.holds (omega (arith, c.requires.form.many)) in (list.items, list.holds.cells)

pub returns-clause-read : goal.returns-clause-read
returns-clause-read c = λ T R xs h r k n.
    let known = c.in_ok-premises-2.ensures.same_tables.known in
    let list = list_is c.list.ensures c.ok_or.ensures.ok_part c.in_ok-premises.was _ xs k (omega (arith, n)) in
    let list' = list_is c.list-2.ensures c.ok_or-2.ensures.ok_part c.in_ok-conclusion.was _ xs k (omega (arith, n)) in
    let written = c.in_ok-premises-2.ensures.read T R _ h r list.holds in
    schema_read T R xs list c.args.self.now.used c.args.self.now.patterns.now r.room c.requires.long written list'
    (rw known at (c.in_ok-judgment.ensures.read T written.now list'.items (rw known h) (rw known written.reads) (rw known list'.holds)))
    (c.count.ensures list.items list.holds.cells)
