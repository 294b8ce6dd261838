use Rattle.std.proofs.Common.{refl, sym, ◌∙◌, add-zero, add_assoc, arith}
use Rattle.terms.proofs.Arguments.{word_head, word_count, word_arg}
use Rattle.terms.proofs.Visits.{closed_done, seen_done, var_done, looping_begins, arg_falls, arg_ready, looping_on, looping_ends}
use Rattle.terms.proofs.variables.+visit.Goals.{then-not-is_open-via-then-not-is_open, then-not-is_open-via-else-not-is_open+then-has}
use Rattle.terms.proofs.variables.+visit.Goals as goal

pub returns-then-not-is_open : goal.returns-then-not-is_open
returns-then-not-is_open t c = elim c.then-not-is_open.branch [
  | then-not-is_open-via-then-not-is_open w ↦ closed_done _ _ _ _ _ _ c.requires.seen (sym (c.is_open.ensures _ _ c.requires.readable.good c.requires.readable.there) ∙ w.if-not-is_open.true)
  | then-not-is_open-via-else-not-is_open+then-has w ↦ seen_done _ _ _ _ _ _ c.requires.seen (sym w.if-has.true ∙ w.has.ensures)
]

pub returns-in-Variable : goal.returns-in-Variable
returns-in-Variable t c =
    let w = word_head _ _ _ _ c.requires.readable.good c.requires.readable.there _ c.node-node.ensures in
    let h = c.in-Variable.ensures in
    var_done _ _ _ _ c.requires.readable.good c.requires.readable.there _ refl _ _ _ c.requires.seen (rw w at h.1) (rw (h.0, w) at c.insert.ensures)

pub loop-arg-init : goal.loop-arg-init
loop-arg-init t c =
    let w = word_head _ _ _ _ c.requires.readable.good c.requires.readable.there _ c.node-node.ensures in
    let h = c.in_default.ensures in
    rw add-zero
    (looping_begins _ _ _ _ _ _ _ c.requires.readable c.requires.seen (sym (c.is_open.ensures _ _ c.requires.readable.good c.requires.readable.there) ∙ c.if-not-is_open.false) refl (rw w at h.1))

pub visit-requires : goal.visit-requires
visit-requires t c =
    let a = word_arg _ _ _ _ c.requires.readable.good c.requires.readable.there _ c.node-node.ensures _ c.loop-arg-test.true in
    let n = word_count _ _ _ _ c.requires.readable.good c.requires.readable.there _ c.node-node.ensures in
    rw a (
      omega (arith, arg_falls _ _ _ _ _ _ _ _ _ _ _ c.loop-arg.invariant (omega arith)),
      (arg_ready _ _ _ _ _ _ _ _ _ _ _ c.loop-arg.invariant (omega arith), c.loop-arg.invariant.visits),
    )

pub loop-arg-preserved : goal.loop-arg-preserved
loop-arg-preserved t c =
    let a = word_arg _ _ _ _ c.requires.readable.good c.requires.readable.there _ c.node-node.ensures _ c.loop-arg-test.true in
    let n = word_count _ _ _ _ c.requires.readable.good c.requires.readable.there _ c.node-node.ensures in
    rw (← add_assoc)
    (looping_on _ _ _ _ _ _ _ _ _ _ _ c.loop-arg.invariant (omega arith) _ _ c.visit.auto.set c.visit.auto.seen (rw a at c.visit.ensures))

pub returns : goal.returns
returns t c =
    let n = word_count _ _ _ _ c.requires.readable.good c.requires.readable.there _ c.node-node.ensures in
    looping_ends _ _ _ _ _ _ _ _ _ _ _ c.loop-arg.invariant (omega arith) _ c.insert-2.ensures
