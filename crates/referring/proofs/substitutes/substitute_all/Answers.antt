use Rattle.std.proofs.Common.{refl, ◌∙◌}
use Rattle.std.proofs.lemmas.Result.{err_from_is_err_and}
use Rattle.referring.proofs.Replacing.{substituting_start, substituting_over, substituting_stops, substituting_more}
use Rattle.referring.specs.Laws.Substitutes.{memo_asked, under_went, under_there, under_stopped}
use Rattle.referring.proofs.substitutes.substitute_all.Goals as goal

pub loop-k-init : goal.loop-k-init
loop-k-init c = record { tables = (refl, refl); memo_same = refl; substituting = substituting_start c.requires }

pub substitute-requires-clause-id_in_bounds : goal.substitute-requires-clause-id_in_bounds
substitute-requires-clause-id_in_bounds c = memo_asked c.requires.good c.requires.empty c.loop-k.invariant.memo_same (c.requires.there c.loop-k.k c.loop-k-test.true)

pub returns-in_err-out-clause-replaced_as : goal.returns-in_err-out-clause-replaced_as
returns-in_err-out-clause-replaced_as c =
    let p = err_from_is_err_and c.from_residual.result c.from_residual.ensures.1 in
    rw (p.1, p.2) (substituting_stops c.loop-k.invariant.substituting c.loop-k-test.true
    (under_stopped c.loop-k.invariant.substituting.on.grown c.args.map.now c.requires.within (c.requires.there c.loop-k.k c.loop-k-test.true) c.substitute.ensures.kept c.in_err-out.was))

pub loop-k-preserved : goal.loop-k-preserved
loop-k-preserved c =
    let g = c.loop-k.invariant.substituting.on.grown in
    let l = c.requires.there c.loop-k.k c.loop-k-test.true in
    record {
      tables = (c.substitute.ensures.same_tables.0 ∙ c.loop-k.invariant.tables.0, c.substitute.ensures.same_tables.1 ∙ c.loop-k.invariant.tables.1);
      memo_same = c.substitute.ensures.memo_unchanged ∙ c.loop-k.invariant.memo_same;
      substituting = substituting_more c.loop-k.invariant.substituting c.loop-k-test.true
          (under_went g c.args.map.now c.requires.within l c.substitute.ensures.kept c.in_ok-out.was)
          (under_there g c.args.map.now c.requires.within l c.substitute.ensures.kept c.in_ok-out.was);
    }

pub returns-clause-replaced_as : goal.returns-clause-replaced_as
returns-clause-replaced_as c = substituting_over c.loop-k.invariant.substituting c.loop-k-test.false
