use mathlib.Core.Path.{◌≡◌, refl, ◌∙◌}
use Prim.Native.Nat.{ℕ, ◌-◌, ◌<◌}
use native.Mathlib.Omega.{arith}
use Rattle.kernel.proofs.Handed.{handed}
use Rattle.std.proofs.lemmas.Result.{err_from_is_err_and}
use Rattle.referring.specs.Laws.Substitutes.{memo_asked}
use Rattle.casework.proofs.Premises.{premising_start, premising_over, premising_first, premising_asks, premising_unbuilt, premising_there, premising_good, premising_replaces, premising_full, premising_more}
use Rattle.casework.proofs.context.Grounds.rule_premises.Goals as goal

none_yet : (many : ℕ) → many - 0 ≡ many
none_yet many = omega arith

more_left : {k many : ℕ} → k < many → many - k ≡ 0 → ⊥
more_left l e = omega arith

pub loop-init : goal.loop-init
loop-init c = record {
  tables = (refl, refl);
  memo_same = refl;
  own_same = refl;
  fine_same = refl;
  premising = λ n g.
      premising_start g (c.words-place.ensures g.T g.formed.text g.formed.vars _ n.rules g.formed.words g.formed.held g.known)
      (none_yet _ ∙ c.premises-end.ensures g.T g.formed.text g.formed.vars _ n.rules g.formed.words g.formed.held g.known) _ _;
}

pub build-requires : goal.build-requires
build-requires c = rw c.patterns.ensures (premising_asks c.requires.0.1 c.requires.1 (premising_first (c.loop.invariant.premising _ c.requires.0.1) (more_left c.loop-test.true)))

pub returns-in_err-premise-clause-premises_as : goal.returns-in_err-premise-clause-premises_as
returns-in_err-premise-clause-premises_as c = λ n g.
    rw (handed c.from_residual.result c.from_residual.ensures)
    (premising_unbuilt g c.requires.1 (premising_first (c.loop.invariant.premising n g) (more_left c.loop-test.true)) (rw c.patterns.ensures at c.in_err-premise.ensures.built))

pub substitute-requires-clause-replaceable : goal.substitute-requires-clause-replaceable
substitute-requires-clause-replaceable c =
    let h = premising_first (c.loop.invariant.premising _ c.requires.0.1) (more_left c.loop-test.true) in
    premising_replaces c.requires.0.1 c.requires.1 h (rw c.patterns.ensures at c.in_ok-premise.ensures.built)

pub substitute-requires-clause-id_in_bounds : goal.substitute-requires-clause-id_in_bounds
substitute-requires-clause-id_in_bounds c =
    let h = premising_first (c.loop.invariant.premising _ c.requires.0.1) (more_left c.loop-test.true) in
    memo_asked (premising_good c.requires.0.1 c.requires.1 h (rw c.patterns.ensures at c.in_ok-premise.ensures.built)) c.requires.2 c.loop.invariant.memo_same
    (premising_there c.requires.0.1 c.requires.1 h (rw c.patterns.ensures at c.in_ok-premise.ensures.built))

pub returns-in_err-t-clause-premises_as : goal.returns-in_err-t-clause-premises_as
returns-in_err-t-clause-premises_as c = λ n g.
    let p = err_from_is_err_and c.from_residual-in_err-t.result c.from_residual-in_err-t.ensures.1 in
    rw (p.1, p.2) (premising_full g c.requires.1 (premising_first (c.loop.invariant.premising n g) (more_left c.loop-test.true)) (rw c.patterns.ensures at c.in_ok-premise.ensures.built)
    c.substitute.ensures.kept c.in_err-t.was)

pub loop-preserved : goal.loop-preserved
loop-preserved c =
    let i = c.loop.invariant in
    record {
      tables = (
        c.substitute.ensures.same_tables.0 ∙ c.build.ensures.same_tables.0 ∙ i.tables.0,
        c.substitute.ensures.same_tables.1 ∙ c.build.ensures.same_tables.1 ∙ i.tables.1,
      );
      memo_same = c.substitute.ensures.memo_unchanged ∙ i.memo_same;
      own_same = i.own_same;
      fine_same = i.fine_same;
      premising = λ n g.
          premising_more g c.requires.1 (premising_first (i.premising n g) (more_left c.loop-test.true)) (rw c.patterns.ensures at c.in_ok-premise.ensures.built) c.substitute.ensures.kept
          c.in_ok-t.was c.insert.ensures (omega (arith, c.loop-test.true));
    }

pub returns-clause-premises_as : goal.returns-clause-premises_as
returns-clause-premises_as c = λ n g. (premising_over (c.loop.invariant.premising n g) (omega (arith, c.loop-test.false)), (c.loop.invariant.own_same, c.loop.invariant.fine_same))
