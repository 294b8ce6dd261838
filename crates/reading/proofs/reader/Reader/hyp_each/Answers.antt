use mathlib.Core.Path.{refl, sym, ap, ◌∙◌}
use native.Mathlib.Omega.{arith}
use Rattle.sexp.specs.Each.{here, over}
use Rattle.sexp.specs.WalkLaws.{walk_start}
use Rattle.reading.proofs.Hypotheses.{hyping_start, walking_first, walking_on, hyping_missing, hyping_fails, hyping_more, hyping_over, facts_long, facts_few, facts_many, stands}
use borrow.Author.Tests.{not-true, not-false}
use mathlib.Core.Bool.{not}
use Rattle.std.specs.Prelude.{Err}
use Rattle.kernel.proofs.Handed.{handed}
use Rattle.reading.proofs.reader.Reader.hyp_each.Goals as goal

pub loop-item-init : goal.loop-item-init
loop-item-init o c = rw (c.into_iter-item-iterator.ensures.into_iter_gives, c.all-item-items.ensures.0, c.all-item-items.ensures.1) record { cells = refl; walking = record { left = _; walk = walk_start c.requires.items.holds }; hyping = λ g p s. hyping_start p g.S g.holds refl }

pub earlier-requires : goal.earlier-requires
earlier-requires o c = rw (here c.loop-item.invariant.cells c.in-Some.ensures.steps).is (walking_first c.loop-item.invariant.walking (here c.loop-item.invariant.cells c.in-Some.ensures.steps).inside)

pub returns-in_err-i : goal.returns-in_err-i
returns-in_err-i o c = λ g p s. rw (handed c.from_residual.result c.from_residual.ensures ∙ ap Err c.in_err-i.ensures.0) (
  hyping_missing (c.loop-item.invariant.hyping g p s) (here c.loop-item.invariant.cells c.in-Some.ensures.steps).inside c.args.self.now.n (facts_many g) (rw (here c.loop-item.invariant.cells c.in-Some.ensures.steps).is at c.in_err-i.ensures.1),
  refl,
)

pub passes-requires : goal.passes-requires
passes-requires o c = c.requires.callable.may _ _ refl (facts_long c.requires.items) (omega (arith, facts_few c.requires.items, c.in_ok-i.ensures.1))

pub returns-then-not-passes : goal.returns-then-not-passes
returns-then-not-passes o c = λ g p s. let k = stands g c.in_ok-i.i c.in_ok-i.ensures.1 in (
  hyping_fails (c.loop-item.invariant.hyping g p s) (here c.loop-item.invariant.cells c.in-Some.ensures.steps).inside (rw (here c.loop-item.invariant.cells c.in-Some.ensures.steps).is at c.in_ok-i.ensures.0) k.is
      (sym (s.says _ _ _ k.fact refl k.early c.passes.ensures k.is) ∙ not-true c.passes.result (ap not c.if-not-passes.true)),
  refl,
)

pub insert-requires : goal.insert-requires
insert-requires o c = omega (arith, c.in_ok-i.ensures.1, facts_few c.requires.items)

pub loop-item-preserved : goal.loop-item-preserved
loop-item-preserved o c = record {
  walking = walking_on c.loop-item.invariant.walking (here c.loop-item.invariant.cells c.in-Some.ensures.steps).inside (here c.loop-item.invariant.cells c.in-Some.ensures.steps).behind;
  cells = (here c.loop-item.invariant.cells c.in-Some.ensures.steps).same;
  hyping = λ g p s. let k = stands g c.in_ok-i.i c.in_ok-i.ensures.1 in hyping_more
      (c.loop-item.invariant.hyping g p s) (here c.loop-item.invariant.cells c.in-Some.ensures.steps).inside (rw (here c.loop-item.invariant.cells c.in-Some.ensures.steps).is at c.in_ok-i.ensures.0) k.is
      (sym (s.says _ _ _ k.fact refl k.early c.passes.ensures k.is) ∙ not-false c.passes.result (ap not c.if-not-passes.false)) c.insert.ensures (here c.loop-item.invariant.cells c.in-Some.ensures.steps).behind;
}

pub returns : goal.returns
returns o c = λ g p s. hyping_over (c.loop-item.invariant.hyping g p s) (over c.loop-item.invariant.cells c.in-None.ensures.steps)
