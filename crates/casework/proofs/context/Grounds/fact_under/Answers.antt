use mathlib.Core.Path.{◌∙◌}
use Rattle.std.proofs.lemmas.Result.{err_from_is_err_and}
use Rattle.referring.specs.Laws.Refers.{fact_asks}
use Rattle.referring.specs.Laws.Substitutes.{replaceable_now, memo_asked, under_went, under_there, under_stopped}
use Rattle.casework.specs.Laws.Rows.{general_is}
use Rattle.casework.proofs.Under.{premises_stop, judgment_stop, under_read, compared, under_asks, judgment_small}
use Rattle.casework.proofs.context.Grounds.fact_under.Goals as goal

pub substitute_all-requires : goal.substitute_all-requires
substitute_all-requires c = rw c.premises.ensures (under_asks c.requires.0 c.requires.1 c.requires.2)

pub returns-in_err-substitute_all-clause-under_as : goal.returns-in_err-substitute_all-clause-under_as
returns-in_err-substitute_all-clause-under_as c = λ g.
    let p = err_from_is_err_and c.from_residual.result c.from_residual.ensures.1 in
    rw (p.1, p.2) (premises_stop g c.requires.1 c.args.map.now (rw c.premises.ensures at c.in_err-substitute_all.ensures.replaced_as))

pub judgment-requires : goal.judgment-requires
judgment-requires c = fact_asks c.requires.0.recalls.recorded c.requires.1

pub substitute-requires-clause-replaceable : goal.substitute-requires-clause-replaceable
substitute-requires-clause-replaceable c =
    replaceable_now c.in_ok-substitute_all.ensures.replaced_as.went.grown c.args.map.now c.requires.0.cells.bound (judgment_small c.requires.0 c.requires.1 c.judgment.ensures)

pub substitute-requires-clause-id_in_bounds : goal.substitute-requires-clause-id_in_bounds
substitute-requires-clause-id_in_bounds c =
    memo_asked c.requires.0.recalls.good c.requires.0.empty c.substitute_all.ensures.memo_unchanged (judgment_small c.requires.0 c.requires.1 c.judgment.ensures)

pub returns-in_err-judgment-clause-under_as : goal.returns-in_err-judgment-clause-under_as
returns-in_err-judgment-clause-under_as c = λ g.
    let p = err_from_is_err_and c.from_residual-in_err-judgment.result c.from_residual-in_err-judgment.ensures.1 in
    let r = rw c.premises.ensures at c.in_ok-substitute_all.ensures.replaced_as in
    rw (p.1, p.2) (judgment_stop g c.requires.1 c.args.map.now r c.judgment.ensures
    (under_stopped r.went.grown c.args.map.now c.requires.0.cells.bound (judgment_small c.requires.0 c.requires.1 c.judgment.ensures) c.substitute.ensures.kept c.in_err-judgment.was))

pub allow-requires : goal.allow-requires
allow-requires c =
    let r = c.in_ok-substitute_all.ensures.replaced_as in
    let s = judgment_small c.requires.0 c.requires.1 c.judgment.ensures in
    let w = under_went r.went.grown c.args.map.now c.requires.0.cells.bound s c.substitute.ensures.kept c.in_ok-judgment.was in (
      compared _ c.requires.0.recalls r w.grown (under_there r.went.grown c.args.map.now c.requires.0.cells.bound s c.substitute.ensures.kept c.in_ok-judgment.was),
      c.requires.0.known,
    )

pub returns-clause-under_as : goal.returns-clause-under_as
returns-clause-under_as c = λ g.
    let r = rw c.premises.ensures at c.in_ok-substitute_all.ensures.replaced_as in
    let s = judgment_small c.requires.0 c.requires.1 c.judgment.ensures in
    let w = under_went r.went.grown c.args.map.now c.requires.0.cells.bound s c.substitute.ensures.kept c.in_ok-judgment.was in
    let t = under_there r.went.grown c.args.map.now c.requires.0.cells.bound s c.substitute.ensures.kept c.in_ok-judgment.was in (
      under_read g c.requires.1 c.args.map.now r c.judgment.ensures c.in_ok-judgment.judgment w (c.general.ensures ∙ general_is g c.requires.1) (c.allow.ensures.adds (compared _ g r w.grown t)),
      c.allow.ensures.own,
    )
