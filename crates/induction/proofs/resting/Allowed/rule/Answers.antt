use mathlib.Core.Path.{sym, ◌∙◌}
use mathlib.Core.Bool.{true≢false}
use Rattle.induction.proofs.Allowed.{rest_facts, rest_general, rule_proved, rule_bound, rule_rows}
use Rattle.induction.proofs.resting.Allowed.rule.Goals.{then-is_assumed, else-is_assumed}
use Rattle.induction.proofs.resting.Allowed.rule.Goals as goal

pub is_assumed-requires : goal.is_assumed-requires
is_assumed-requires c = rest_facts c.requires.0 c.requires.1

pub generalises-requires : goal.generalises-requires
generalises-requires c = rest_general c.requires.0 _ c.requires.1 c.general.ensures

pub judgment-requires : goal.judgment-requires
judgment-requires c = rest_facts c.requires.0 c.requires.1

pub returns-then-generalises : goal.returns-then-generalises
returns-then-generalises c = λ g. elim c.if-is_assumed.branch [
  | then-is_assumed w ↦ rule_rows g _ c.requires.1 c.is_assumed.result c.is_assumed.ensures w.if-is_assumed.true w.general.ensures w.generalises.result w.generalises.ensures
      (sym w.value-is ∙ c.if-generalises.true) c.premises.ensures c.judgment.result c.judgment.ensures c.has.result (c.has.ensures g.many g.filled)
  | else-is_assumed w ↦ absurd (true≢false (sym c.if-generalises.true ∙ w.value-is ∙ w.if-is_assumed.false))
]

pub returns-else-generalises : goal.returns-else-generalises
returns-else-generalises c = λ g. c.if-generalises.false ∙ elim c.if-is_assumed.branch [
  | then-is_assumed w ↦ rule_bound g _ c.requires.1 c.is_assumed.result c.is_assumed.ensures w.if-is_assumed.true w.general.ensures w.generalises.result w.generalises.ensures
      (sym w.value-is ∙ c.if-generalises.false)
  | else-is_assumed w ↦ rule_proved g _ c.requires.1 c.is_assumed.result c.is_assumed.ensures w.if-is_assumed.false
]
