use mathlib.Core.Path.{ap, ◌∙◌}
use Rattle.std.specs.Prelude.{Err}
use Rattle.kernel.proofs.Handed.{handed}
use Rattle.kernel.proofs.Missing.{there, absent, question_is}
use Rattle.reading.proofs.TermHeads.{symbols_named, compound_nameless, compound_missing, compound_single, compound_opened}
use Rattle.reading.proofs.reader.Reader.constructor_first.Goals as goal

pub head-requires : goal.head-requires
head-requires c = (c.requires.xs, c.requires.holds)

pub returns-in_err-name : goal.returns-in_err-name
returns-in_err-name c = λ g.
    rw (handed c.from_residual.result c.from_residual.ensures ∙ ap Err (question_is _ _ c.ok_or.ensures.ok_part c.ok_or.ensures.value c.in_err-name.was))
    (compound_nameless g (rw (absent _ _ c.ok_or.ensures.ok_part c.in_err-name.was) at (c.head.ensures g.xs g.holds)).1)

pub constructor_named-requires : goal.constructor_named-requires
constructor_named-requires c = rw c.symbol_table-known.ensures (symbols_named c.requires)

pub returns-in_err-c : goal.returns-in_err-c
returns-in_err-c c = λ g.
    rw (handed c.from_residual-in_err-c.result c.from_residual-in_err-c.ensures ∙ ap Err (question_is _ _ c.ok_or-2.ensures.ok_part c.ok_or-2.ensures.value c.in_err-c.was))
    (compound_missing g (rw (there _ _ c.ok_or.ensures.ok_part c.in_ok-name.was) at (c.head.ensures g.xs g.holds)).1 (rw c.symbol_table-known.ensures at c.constructor_named.ensures) (absent _ _ c.ok_or-2.ensures.ok_part c.in_err-c.was))

pub returns-then-cells-eq1 : goal.returns-then-cells-eq1
returns-then-cells-eq1 c = λ g. compound_single g (rw (there _ _ c.ok_or.ensures.ok_part c.in_ok-name.was) at (c.head.ensures g.xs g.holds)).1 (rw c.symbol_table-known.ensures at c.constructor_named.ensures) (there _ _ c.ok_or-2.ensures.ok_part c.in_ok-c.was) c.if-cells-eq1.true

pub returns : goal.returns
returns c = λ g. compound_opened g (rw (there _ _ c.ok_or.ensures.ok_part c.in_ok-name.was) at (c.head.ensures g.xs g.holds)).1 (rw c.symbol_table-known.ensures at c.constructor_named.ensures) (there _ _ c.ok_or-2.ensures.ok_part c.in_ok-c.was) c.if-cells-eq1.false
