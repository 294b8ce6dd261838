use mathlib.Core.Logic.{inl}
use mathlib.Core.Path.{sym, ◌∙◌}
use native.Mathlib.Omega.{arith}
use Rattle.std.proofs.Common.{rules, tests}
use Rattle.std.proofs.lemmas.Iterator.{serves_from_Range}
use Rattle.rules.specs.Limits.{GOALS}
use Rattle.state.specs.Filled.{filled_none}
use Rattle.running.proofs.Missing.{row_asked, long, turned, listed, listed_all}
use Rattle.running.proofs.finish.list_missing.Goals as goal

pub loop-entry-init : goal.loop-entry-init
loop-entry-init c = c.requires.1 ∙ sym (filled_none GOALS)

pub loop-entry-init-derived : goal.loop-entry-init-derived
loop-entry-init-derived c =
    let s = c.into_iter-entry-iterator.ensures.into_iter_gives in
    let e = c.enumerate-entry-items.ensures in
    let f = c.filter.ensures in (
      (
        (
          tt,
          tt,
          serves_from_Range (λ x q r. search (rules, tests))
              (λ x l h y o a b d g i j k m. rw (s, e.source, f.closure, o) (row_asked c.requires.0 x (rw (s, e.source, f.source) at h))),
        ),
        tt,
        inl (rw (s, e.source, f.source, e.count) (omega (arith, c.requires.0.held.few))),
      ),
      tt,
    )

pub overflow_add-missing : goal.overflow_add-missing
overflow_add-missing c =
    let t = turned c.args.goals.now.rows.now c.args.goals.now.count _ _ c.loop-entry.yielded c.loop-entry.yielded_by c.into_iter-entry-iterator.ensures.into_iter_gives c.enumerate-entry-items.ensures.source c.enumerate-entry-items.ensures.count
    c.filter.ensures.source c.filter.ensures.closure (λ x b q k. search (rules, tests)) _ _ _ c.in-Some.is c.next.ensures.steps in
    omega (arith, t.2, c.requires.0.held.few)

pub overflow_cast-missing : goal.overflow_cast-missing
overflow_cast-missing c =
    let t = turned c.args.goals.now.rows.now c.args.goals.now.count _ _ c.loop-entry.yielded c.loop-entry.yielded_by c.into_iter-entry-iterator.ensures.into_iter_gives c.enumerate-entry-items.ensures.source c.enumerate-entry-items.ensures.count
    c.filter.ensures.source c.filter.ensures.closure (λ x b q k. search (rules, tests)) _ _ _ c.in-Some.is c.next.ensures.steps in
    omega (arith, t.2, c.requires.0.held.few)

pub offset_bounds-missing-entry : goal.offset_bounds-missing-entry
offset_bounds-missing-entry c =
    let t = turned c.args.goals.now.rows.now c.args.goals.now.count _ _ c.loop-entry.yielded c.loop-entry.yielded_by c.into_iter-entry-iterator.ensures.into_iter_gives c.enumerate-entry-items.ensures.source c.enumerate-entry-items.ensures.count
    c.filter.ensures.source c.filter.ensures.closure (λ x b q k. search (rules, tests)) _ _ _ c.in-Some.is c.next.ensures.steps in
    omega (arith, t.1, c.requires.0.held.few)

pub bounds-missing-entry : goal.bounds-missing-entry
bounds-missing-entry c =
    let t = turned c.args.goals.now.rows.now c.args.goals.now.count _ _ c.loop-entry.yielded c.loop-entry.yielded_by c.into_iter-entry-iterator.ensures.into_iter_gives c.enumerate-entry-items.ensures.source c.enumerate-entry-items.ensures.count
    c.filter.ensures.source c.filter.ensures.closure (λ x b q k. search (rules, tests)) _ _ _ c.in-Some.is c.next.ensures.steps in
    omega (arith, t.1, c.requires.0.held.few, long _ _ c.loop-entry.invariant)

pub loop-entry-preserved : goal.loop-entry-preserved
loop-entry-preserved c =
    listed c.args.goals.now.rows.now c.args.goals.now.count _ _ c.loop-entry.yielded c.loop-entry.yielded_by c.into_iter-entry-iterator.ensures.into_iter_gives c.enumerate-entry-items.ensures.source c.enumerate-entry-items.ensures.count
    c.filter.ensures.source c.filter.ensures.closure (λ x b q k. search (rules, tests)) _ _ _ c.in-Some.is c.next.ensures.steps c.requires.0.held.few c.loop-entry.invariant

pub returns : goal.returns
returns c = λ g.
    listed_all c.args.goals.now.rows.now c.args.goals.now.count _ _ c.loop-entry.yielded c.loop-entry.yielded_by c.into_iter-entry-iterator.ensures.into_iter_gives c.enumerate-entry-items.ensures.source c.enumerate-entry-items.ensures.count
    c.filter.ensures.source c.filter.ensures.closure (λ x b q k. search (rules, tests)) _ _ c.in-None.is c.next.ensures.steps c.loop-entry.invariant g
