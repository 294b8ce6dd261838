use mathlib.Core.Path.{◌≡◌}
use Rattle.rules.specs.Invert.{is_allowed}
use Rattle.terms.specs.Sets.{holds}
use Rattle.terms.specs.Table.{made}
use Rattle.referring.specs.Recall.{fact_of}
use Rattle.casework.specs.Context.{Comparing, allowed_as}
use Rattle.casework.specs.Laws.Rows.{Marks}
use Rattle.casework.proofs.context.Grounds.mark_rests.Given as goal

abbrev pub invariant-loop-h : goal.invariant-loop-h
invariant-loop-h l =
    (l.self.own ≡ l.initial.self.own) × (l.self.plain ≡ l.initial.self.plain) × ((g : Comparing l.facts l.allowing) →
    Marks (λ h. is_allowed (fact_of g.recalls.S h) (allowed_as (made g.index g.words g.mark) l.allowing)) l.initial.self.own.now (holds l.initial.self.fine) (holds l.self.fine) l.h-index)
