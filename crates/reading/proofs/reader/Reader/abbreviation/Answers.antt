use mathlib.Core.Path.{ap, ◌∙◌}
use Rattle.std.specs.Prelude.{Err}
use Rattle.kernel.proofs.Handed.{handed}
use Rattle.kernel.proofs.Missing.{there, absent, question_is}
use Rattle.reading.proofs.Leaves.{def_known, def_typed, def_none}
use Rattle.reading.proofs.reader.Reader.abbreviation.Goals as goal

pub returns-in_err-term : goal.returns-in_err-term
returns-in_err-term c = λ g.
    rw (handed c.from_residual.result c.from_residual.ensures ∙ ap Err (question_is _ _ c.ok_or.ensures.ok_part c.ok_or.ensures.value c.in_err-term.was))
    (def_none g c.args.name.now c.def_named-found.result (c.def_named-found.ensures _ _ g.defs_are) (absent _ _ c.ok_or.ensures.ok_part c.in_err-term.was))

pub sort_of-sort-requires : goal.sort_of-sort-requires
sort_of-sort-requires c = def_known c.requires c.args.name.now c.def_named-found.result (c.def_named-found.ensures _ _ c.requires.defs_are) (there _ _ c.ok_or.ensures.ok_part c.in_ok-term.was)

pub returns : goal.returns
returns c = λ g. let d = c.def_named-found.ensures _ _ g.defs_are in def_typed g c.args.name.now c.def_named-found.result d (there _ _ c.ok_or.ensures.ok_part c.in_ok-term.was)
    (c.sort_of-sort.ensures (def_known g c.args.name.now c.def_named-found.result d (there _ _ c.ok_or.ensures.ok_part c.in_ok-term.was)))
