use mathlib.Core.Path.{refl, sym, ap, ◌∙◌}
use Rattle.std.specs.Prelude.{Err}
use Rattle.kernel.proofs.Handed.{handed}
use Rattle.kernel.proofs.Missing.{there, absent, question_is}
use native.Mathlib.Omega.{arith}
use Rattle.sexp.specs.Each.{here}
use Rattle.induction.proofs.CaseNames.{names_start, names_done, names_place, names_given, names_unknown, names_variable, names_sort_asks, names_used, names_seen, names_other, names_taken, names_twice, names_again}
use Rattle.induction.proofs.induct_cases.case_vars.Goals.{then-var_sort-sorts-via-then-var_sort-sorts, then-var_sort-sorts-via-else-var_sort-sorts+then-has, then-var_sort-sorts-via-else-var_sort-sorts+else-has+then-has-2}
use Rattle.induction.proofs.induct_cases.case_vars.Goals as goal

pub loop-k-init : goal.loop-k-init
loop-k-init c = rw (c.into_iter-k-iterator.ensures.into_iter_gives, c.enumerate-k-items.ensures.source, c.enumerate-k-items.ensures.count, c.all.ensures.0, c.all.ensures.1) record { walked = refl; names = names_start refl }

pub variable-requires : goal.variable-requires
variable-requires c = names_given c.requires c.loop-k.invariant c.in-Some.ensures.steps.0 c.in-Some.ensures.steps.1

pub returns-in_err-v : goal.returns-in_err-v
returns-in_err-v c = λ g.
    rw (handed c.from_residual.result c.from_residual.ensures ∙ ap Err (question_is _ _ c.ok_or.ensures.ok_part c.ok_or.ensures.value c.in_err-v.was))
    (names_unknown g c.loop-k.invariant c.in-Some.ensures.steps.0 c.in-Some.ensures.steps.1 c.variable.ensures (absent _ _ c.ok_or.ensures.ok_part c.in_err-v.was))

pub var_sort-requires : goal.var_sort-requires
var_sort-requires c = names_sort_asks c.requires c.loop-k.invariant c.in-Some.ensures.steps.0 c.in-Some.ensures.steps.1 c.variable.ensures (there _ _ c.ok_or.ensures.ok_part c.in_ok-v.was)

pub offset_bounds-sorts-k : goal.offset_bounds-sorts-k
offset_bounds-sorts-k c = omega (arith, names_place c.requires c.loop-k.invariant c.in-Some.ensures.steps.0 c.in-Some.ensures.steps.1, c.requires.few)

pub bounds-sorts-k : goal.bounds-sorts-k
bounds-sorts-k c = names_place c.requires c.loop-k.invariant c.in-Some.ensures.steps.0 c.in-Some.ensures.steps.1

pub returns-then-var_sort-sorts : goal.returns-then-var_sort-sorts
returns-then-var_sort-sorts c = λ g.
    let i = c.loop-k.invariant in
    let s = c.in-Some.ensures.steps in
    let v = there _ _ c.ok_or.ensures.ok_part c.in_ok-v.was in
    elim c.then-var_sort-sorts.branch [
      | then-var_sort-sorts-via-then-var_sort-sorts w ↦ names_other g i s.0 s.1 c.variable.ensures v c.var_sort.ensures w.if-var_sort-sorts.true
      | then-var_sort-sorts-via-else-var_sort-sorts+then-has w ↦ names_taken g i s.0 s.1 c.variable.ensures v c.var_sort.ensures w.if-var_sort-sorts.false w.has.ensures w.if-has.true
      | then-var_sort-sorts-via-else-var_sort-sorts+else-has+then-has-2 w ↦
          names_twice g i s.0 s.1 c.variable.ensures v c.var_sort.ensures w.if-var_sort-sorts.false w.has.ensures w.if-has.false w.has-else-has.ensures w.if-has-2.true
    ]

pub has-requires : goal.has-requires
has-requires c = names_used c.requires c.loop-k.invariant c.in-Some.ensures.steps.0 c.in-Some.ensures.steps.1 c.variable.ensures (there _ _ c.ok_or.ensures.ok_part c.in_ok-v.was) (omega arith)

pub has-requires-else-has : goal.has-requires-else-has
has-requires-else-has c = names_seen c.requires c.loop-k.invariant c.in-Some.ensures.steps.0 c.in-Some.ensures.steps.1 c.variable.ensures (there _ _ c.ok_or.ensures.ok_part c.in_ok-v.was)

pub insert-requires : goal.insert-requires
insert-requires c = names_seen c.requires c.loop-k.invariant c.in-Some.ensures.steps.0 c.in-Some.ensures.steps.1 c.variable.ensures (there _ _ c.ok_or.ensures.ok_part c.in_ok-v.was)

pub overflow_cast-own : goal.overflow_cast-own
overflow_cast-own c = omega (arith, names_variable c.requires c.loop-k.invariant c.in-Some.ensures.steps.0 c.in-Some.ensures.steps.1 c.variable.ensures (there _ _ c.ok_or.ensures.ok_part c.in_ok-v.was))

pub offset_bounds-own-k : goal.offset_bounds-own-k
offset_bounds-own-k c = omega (arith, names_place c.requires c.loop-k.invariant c.in-Some.ensures.steps.0 c.in-Some.ensures.steps.1, c.requires.few)

pub bounds-own-k : goal.bounds-own-k
bounds-own-k c = omega (arith, names_place c.requires c.loop-k.invariant c.in-Some.ensures.steps.0 c.in-Some.ensures.steps.1, c.requires.few)

pub loop-k-preserved : goal.loop-k-preserved
loop-k-preserved c =
    let s = c.in-Some.ensures.steps in
    rw (s.2, sym s.1) record {
      walked = (here c.loop-k.invariant.walked s.0).same;
      names = λ g. names_again g c.loop-k.invariant s.0 s.1 c.variable.ensures (there _ _ c.ok_or.ensures.ok_part c.in_ok-v.was) c.var_sort.ensures c.if-var_sort-sorts.false c.has.ensures c.if-has.false
          c.has-else-has.ensures c.if-has-2.false c.insert.auto.set c.insert.ensures;
    }

pub returns : goal.returns
returns c = λ g. names_done g c.loop-k.invariant c.in-None.ensures.steps.0
