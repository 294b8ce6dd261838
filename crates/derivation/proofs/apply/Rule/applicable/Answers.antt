use Rattle.derivation.proofs.RuleFacts.{rule_asks, assumed_is, usable_assumed, refused_assumed, usable_derived, refused_derived}
use mathlib.Core.Path.{sym, ◌∙◌}
use Rattle.derivation.proofs.apply.Rule.applicable.Goals as goal

pub is_assumed-requires : goal.is_assumed-requires
is_assumed-requires c = rule_asks c.requires

pub returns-then-binds_general : goal.returns-then-binds_general
returns-then-binds_general c = λ g M. usable_assumed g.S _ _ _ (assumed_is g c.is_assumed.ensures c.if-is_assumed.true)
    (sym c.if-binds_general.true ∙ c.binds_general.ensures g M)

pub returns-then-is_assumed : goal.returns-then-is_assumed
returns-then-is_assumed c = λ g M. refused_assumed g.S _ _ _ (assumed_is g c.is_assumed.ensures c.if-is_assumed.true)
    (sym c.if-binds_general.false ∙ c.binds_general.ensures g M)

pub returns-then-rests_on_plain : goal.returns-then-rests_on_plain
returns-then-rests_on_plain c = λ g M. usable_derived g.S _ _ _ (assumed_is g c.is_assumed.ensures c.if-is_assumed.false)
    (sym c.if-rests_on_plain.true ∙ c.rests_on_plain.ensures g)

pub returns : goal.returns
returns c = λ g M. refused_derived g.S _ _ _ (assumed_is g c.is_assumed.ensures c.if-is_assumed.false) (sym c.if-rests_on_plain.false ∙ c.rests_on_plain.ensures g)
