use mathlib.Core.Path.{ap, ◌∙◌}
use native.Mathlib.Omega.{arith}
use Rattle.casework.specs.Laws.Loops.{rests_asked, rests_small, rests_plain, rests_none, rests_fine}
use mathlib.Core.Bool.{not}
use Rattle.casework.proofs.context.Grounds.rests_on.Goals as goal

pub is_plain-requires : goal.is_plain-requires
is_plain-requires c = rests_asked c.requires.0 c.requires.1

pub judgment-requires : goal.judgment-requires
judgment-requires c = rests_asked c.requires.0 c.requires.1

pub has-requires : goal.has-requires
has-requires c = omega (arith, rests_small c.requires.0 c.requires.1, c.judgment.ensures)

pub returns-then-is_plain : goal.returns-then-is_plain
returns-then-is_plain c = λ g. rests_plain g c.requires.1 _ _ c.is_plain.result c.has.result c.judgment.result c.is_plain.ensures c.if-is_plain.true
    c.judgment.ensures c.has.ensures

pub is_assumed-requires : goal.is_assumed-requires
is_assumed-requires c = rests_asked c.requires.0 c.requires.1

pub returns-then-is_assumed : goal.returns-then-is_assumed
returns-then-is_assumed c = λ g. rests_fine g c.requires.1 _ _ c.is_plain.result c.is_plain.ensures c.if-is_plain.false c.is_assumed.result c.is_assumed.ensures
    c.has-then-is_assumed.result (ap not c.if-is_assumed.true) c.has-then-is_assumed.ensures

pub returns-else-is_assumed : goal.returns-else-is_assumed
returns-else-is_assumed c = λ g. c.if-is_assumed.false ∙ rests_none g c.requires.1 _ _ c.is_plain.result c.is_plain.ensures c.if-is_plain.false c.is_assumed.result c.is_assumed.ensures
    (ap not c.if-is_assumed.false)
