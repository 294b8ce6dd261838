use Rattle.std.proofs.Common.{rules, tests}
use mathlib.Core.Path.{ap, ◌∙◌}
use Rattle.std.specs.Prelude.{Err}
use Rattle.kernel.proofs.Missing.{there, absent, question_is}
use mathlib.Core.Bool.{not}
use Rattle.kernel.proofs.Handed.{handed}
use Rattle.forms.proofs.Resulting.{no_name, name_held, none_kept, goal_asks, goal_kept, aim_asks, ref_given, ref_stops, ref_covers, instance_listed, covered, not_covered, other_judgment_lem, result_comes}
use Rattle.forms.proofs.results.met.Goals.{else-found-via-then-found+else-not-covers, else-found-via-else-found}
use Rattle.forms.proofs.results.met.Goals as goal

pub head-requires : goal.head-requires
head-requires c = name_held c.requires.takes_result c.from.ensures

pub returns-in_err-name-clause-met_as : goal.returns-in_err-name-clause-met_as
returns-in_err-name-clause-met_as c = λ g.
    rw (handed c.from_residual.result c.from_residual.ensures ∙ ap Err (question_is _ _ c.ok_or.ensures.ok_part c.ok_or.ensures.value c.in_err-name.was))
    (no_name g c.from.ensures _ c.head.ensures (absent _ _ c.ok_or.ensures.ok_part c.in_err-name.was))

pub filter-requires : goal.filter-requires
filter-requires c = λ k e.
    let a = goal_asks c.requires.takes_result c.from.ensures _ c.head.ensures (there _ _ c.ok_or.ensures.ok_part c.in_ok-name.was) (rw c.goal_table.ensures at c.named.ensures) e in
    let w = c.well_formed in
    search rules

pub returns-in_err-k-clause-met_as : goal.returns-in_err-k-clause-met_as
returns-in_err-k-clause-met_as c = λ g.
    rw (handed c.from_residual-in_err-k.result c.from_residual-in_err-k.ensures
    ∙ ap Err (question_is _ _ c.ok_or-2.ensures.ok_part c.ok_or-2.ensures.value c.in_err-k.was))
    (none_kept g c.from.ensures _ c.head.ensures (there _ _ c.ok_or.ensures.ok_part c.in_ok-name.was) (rw c.goal_table.ensures at c.named.ensures) (λ k b q. search (rules, tests)) _
    c.filter.ensures (absent _ _ c.ok_or-2.ensures.ok_part c.in_err-k.was))

pub reference-requires-clause-reads : goal.reference-requires-clause-reads
reference-requires-clause-reads c = rw c.source_of-source.ensures (ref_given c.requires.takes_result c.from-2.ensures)

pub returns-in_err-found-clause-met_as : goal.returns-in_err-found-clause-met_as
returns-in_err-found-clause-met_as c = λ g.
    let r = rw c.source_of-source.ensures at c.in_err-found.ensures.referred_as in
    rw (handed c.from_residual-in_err-found.result c.from_residual-in_err-found.ensures) (ref_stops g c.from-2.ensures (goal_kept g c.from.ensures _ c.head.ensures (there _ _ c.ok_or.ensures.ok_part c.in_ok-name.was) (rw c.goal_table.ensures at c.named.ensures) (λ k b q. search (rules, tests)) _ c.filter.ensures (there _ _ c.ok_or-2.ensures.ok_part c.in_ok-k.was)) r)

pub covers-requires : goal.covers-requires
covers-requires c =
    let r = rw c.source_of-source.ensures at c.in_ok-found.ensures.referred_as in
    rw (c.facts-facts.ensures, c.source_of-source.ensures) (ref_covers c.requires.takes_result c.from-2.ensures (goal_kept c.requires.takes_result c.from.ensures _ c.head.ensures (there _ _ c.ok_or.ensures.ok_part c.in_ok-name.was) (rw c.goal_table.ensures at c.named.ensures) (λ k b q. search (rules, tests)) _ c.filter.ensures (there _ _ c.ok_or-2.ensures.ok_part c.in_ok-k.was)) r)

pub returns-then-not-covers-clause-met_as : goal.returns-then-not-covers-clause-met_as
returns-then-not-covers-clause-met_as c = λ g.
    let r = rw c.source_of-source.ensures at c.in_ok-found.ensures.referred_as in
    not_covered g c.from-2.ensures (goal_kept g c.from.ensures _ c.head.ensures (there _ _ c.ok_or.ensures.ok_part c.in_ok-name.was) (rw c.goal_table.ensures at c.named.ensures) (λ k b q. search (rules, tests)) _ c.filter.ensures (there _ _ c.ok_or-2.ensures.ok_part c.in_ok-k.was)) r c.if-found.true (rw (c.facts-facts.ensures, c.source_of-source.ensures) at c.covers.ensures) (ap not c.if-not-covers.true)

pub goal_judgment-requires : goal.goal_judgment-requires
goal_judgment-requires c = aim_asks c.requires.takes_result (goal_kept c.requires.takes_result c.from.ensures _ c.head.ensures (there _ _ c.ok_or.ensures.ok_part c.in_ok-name.was) (rw c.goal_table.ensures at c.named.ensures) (λ k b q. search (rules, tests)) _ c.filter.ensures (there _ _ c.ok_or-2.ensures.ok_part c.in_ok-k.was))

pub returns-then-found-goal_judgment-clause-met_as : goal.returns-then-found-goal_judgment-clause-met_as
returns-then-found-goal_judgment-clause-met_as c = λ g.
    let r = rw c.source_of-source.ensures at c.in_ok-found.ensures.referred_as in
    let o = goal_kept g c.from.ensures _ c.head.ensures (there _ _ c.ok_or.ensures.ok_part c.in_ok-name.was) (rw c.goal_table.ensures at c.named.ensures) (λ k b q. search (rules, tests)) _ c.filter.ensures (there _ _ c.ok_or-2.ensures.ok_part c.in_ok-k.was) in
    other_judgment_lem g c.from-2.ensures o r
    (elim c.else-found.branch [
      | else-found-via-then-found+else-not-covers w ↦ covered g c.from-2.ensures o r w.if-found.true (rw (c.facts-facts.ensures, c.source_of-source.ensures) at w.covers.ensures) (ap not w.if-not-covers.false)
      | else-found-via-else-found w ↦ instance_listed g c.from-2.ensures o r w.if-found.false
    ]) c.goal_judgment.ensures c.if-found-goal_judgment.true

pub returns-clause-met_as : goal.returns-clause-met_as
returns-clause-met_as c = λ g.
    let r = rw c.source_of-source.ensures at c.in_ok-found.ensures.referred_as in
    let o = goal_kept g c.from.ensures _ c.head.ensures (there _ _ c.ok_or.ensures.ok_part c.in_ok-name.was) (rw c.goal_table.ensures at c.named.ensures) (λ k b q. search (rules, tests)) _ c.filter.ensures (there _ _ c.ok_or-2.ensures.ok_part c.in_ok-k.was) in
    result_comes g c.from-2.ensures o r
    (elim c.else-found.branch [
      | else-found-via-then-found+else-not-covers w ↦ covered g c.from-2.ensures o r w.if-found.true (rw (c.facts-facts.ensures, c.source_of-source.ensures) at w.covers.ensures) (ap not w.if-not-covers.false)
      | else-found-via-else-found w ↦ instance_listed g c.from-2.ensures o r w.if-found.false
    ]) c.goal_judgment.ensures c.if-found-goal_judgment.false
