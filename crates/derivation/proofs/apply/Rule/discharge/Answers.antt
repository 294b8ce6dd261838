use native.Mathlib.Omega.{arith}
use mathlib.Core.Path.{refl, ◌∙◌}
use Rattle.kernel.proofs.Handed.{handed}
use Rattle.sexp.specs.Each.{here, over}
use Rattle.derivation.proofs.PremiseTurn.{premise_at, left_done, left_inside, left_rule, left_given, left_theta, left_there, left_refused, left_join, left_visit, left_again}
use Rattle.derivation.proofs.Discharging.{left_start}
use Rattle.derivation.proofs.apply.Rule.discharge.Goals as goal

pub loop-k-init : goal.loop-k-init
loop-k-init c = rw (
  c.into_iter-k-iterator.ensures.into_iter_gives,
  c.enumerate-k-items.ensures.source,
  c.enumerate-k-items.ensures.count,
  c.all.ensures.0,
  c.all.ensures.1,
) record {
  cells = refl;
  tables = (refl, refl);
  memo = c.requires.memo_value;
  left = λ g. left_start refl g;
}

pub premise-p-requires : goal.premise-p-requires
premise-p-requires c =
    let e = c.in-Some.ensures.steps in
    let h = here c.loop-k.invariant.cells e.0 in
    let i = left_inside (c.loop-k.invariant.left c.requires.rule_use) h in
    rw c.facts-facts.ensures (left_rule (c.loop-k.invariant.left c.requires.rule_use) h, omega (arith, e.1, i))

pub met-requires : goal.met-requires
met-requires c =
    let e = c.in-Some.ensures.steps in
    let h = here c.loop-k.invariant.cells e.0 in
    let p = premise_at _ (rw c.facts-facts.ensures at c.premise-p.ensures) e.1 in
    record {
      reads = left_given (c.loop-k.invariant.left c.requires.rule_use) h;
      theta = (
        left_theta (c.loop-k.invariant.left c.requires.rule_use) h,
        left_there (c.loop-k.invariant.left c.requires.rule_use) h p,
        c.loop-k.invariant.memo,
      );
    }

pub returns-in_err-referred-clause-discharged_as : goal.returns-in_err-referred-clause-discharged_as
returns-in_err-referred-clause-discharged_as c = λ g.
    let e = c.in-Some.ensures.steps in
    let h = here c.loop-k.invariant.cells e.0 in
    let p = premise_at _ (rw c.facts-facts.ensures at c.premise-p.ensures) e.1 in
    rw (handed c.from_residual.result c.from_residual.ensures) (left_refused (c.loop-k.invariant.left g) h p _ _
    c.in_err-referred.ensures.referred_as)

pub join-requires : goal.join-requires
join-requires c =
    let e = c.in-Some.ensures.steps in
    let h = here c.loop-k.invariant.cells e.0 in
    let p = premise_at _ (rw c.facts-facts.ensures at c.premise-p.ensures) e.1 in
    rw c.facts-facts.ensures (left_join (c.loop-k.invariant.left c.requires.rule_use) h p _ _ c.in_ok-referred.ensures.referred_as)

pub visit-requires : goal.visit-requires
visit-requires c =
    let e = c.in-Some.ensures.steps in
    let h = here c.loop-k.invariant.cells e.0 in
    let p = premise_at _ (rw c.facts-facts.ensures at c.premise-p.ensures) e.1 in
    let v = left_visit (c.loop-k.invariant.left c.requires.rule_use) h p _ _ c.in_ok-referred.ensures.referred_as
    (omega arith) (omega arith) in
    rw c.terms.ensures record { readable = v.0; seen = v.1 }

pub loop-k-preserved : goal.loop-k-preserved
loop-k-preserved c =
    let e = c.in-Some.ensures.steps in
    let h = here c.loop-k.invariant.cells e.0 in
    let p = premise_at _ (rw c.facts-facts.ensures at c.premise-p.ensures) e.1 in
    record {
      cells = h.same;
      tables = (c.met.ensures.same_tables.0 ∙ c.loop-k.invariant.tables.0, c.met.ensures.same_tables.1 ∙ c.loop-k.invariant.tables.1);
      memo = c.met.ensures.memo_unchanged ∙ c.loop-k.invariant.memo;
      left = λ g. rw e.2 (left_again (c.loop-k.invariant.left g) h p _ _ c.in_ok-referred.ensures.referred_as c.join.new.self.hyps
          c.join.new.self.footing c.visit.new.set c.visit.new.seen
          ((rw c.facts-facts.ensures at c.join.ensures) (left_join (c.loop-k.invariant.left g) h p _ _
          c.in_ok-referred.ensures.referred_as)) (rw c.terms.ensures at c.visit.ensures));
    }

pub returns-clause-discharged_as : goal.returns-clause-discharged_as
returns-clause-discharged_as c = λ g. left_done (c.loop-k.invariant.left g) (over c.loop-k.invariant.cells c.in-None.ensures.steps.0)
