use mathlib.Core.Path.{ap, ◌∙◌}
use Rattle.std.specs.Prelude.{Err}
use Rattle.kernel.proofs.Handed.{handed}
use Rattle.kernel.proofs.Missing.{there, absent, question_is}
use Rattle.reading.proofs.TermHeads.{judgment_nameless, judgment_told}
use Rattle.reading.proofs.reader.Reader.predicate_first.Goals as goal

pub head-requires : goal.head-requires
head-requires c = (c.requires.xs, c.requires.holds)

pub returns-in_err-name : goal.returns-in_err-name
returns-in_err-name c = λ g.
    rw (handed c.from_residual.result c.from_residual.ensures ∙ ap Err (question_is _ _ c.ok_or.ensures.ok_part c.ok_or.ensures.value c.in_err-name.was))
    (judgment_nameless g (rw (absent _ _ c.ok_or.ensures.ok_part c.in_err-name.was) at (c.head.ensures g.xs g.holds)).1)

pub returns : goal.returns
returns c = λ g. judgment_told g (rw (there _ _ c.ok_or.ensures.ok_part c.in_ok-name.was) at (c.head.ensures g.xs g.holds)).1 (rw c.symbol_table.ensures at c.predicate_named.ensures) c.ok_or-2.ensures.value
