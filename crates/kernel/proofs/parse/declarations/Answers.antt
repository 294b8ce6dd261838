use mathlib.Core.Path.{◌≡◌, refl, sym, ap, ◌∙◌}
use Rattle.std.specs.Prelude.{Ok}
use Rattle.std.proofs.Common.{rules}
use Rattle.kernel.proofs.Handed.{handed, behind, behind_ok}
use Rattle.kernel.proofs.Runs.{underway_first, ended, failed, formed, declared_no, declared_ok, no_form, it}
use Rattle.cells.specs.Cleared.{front_cleared}
use Rattle.sexp.specs.Through.{going_room, going_cleared}
use Rattle.kernel.proofs.parse.declarations.Goals as goal

pub loop-next-init : goal.loop-next-init
loop-next-init c = (underway_first _ _ _ c.requires.exact _ c.requires.empty c.requires.legible, (refl, refl, refl, refl, refl, refl))

pub returns-in_err-next-clause-run : goal.returns-in_err-next-clause-run
returns-in_err-next-clause-run c =
    let e : c.map_err.result ≡ behind c.loop-next.forms c.read_form.result = search rules in
    rw (handed c.from_residual.result c.from_residual.ensures) (failed c.loop-next.invariant.0 c.read_form.ensures (sym e ∙ c.in_err-next.was))

pub returns-in_default-clause-run : goal.returns-in_default-clause-run
returns-in_default-clause-run c =
    let e : c.map_err.result ≡ behind c.loop-next.forms c.read_form.result = search rules in
    (ended c.loop-next.invariant.0 c.read_form.ensures (behind_ok _ _ (sym e ∙ c.in_ok-next.was) ∙ ap Ok (no_form _ c.in_default.not-Some))).0

pub returns-in_err-map_err-clause-run : goal.returns-in_err-map_err-clause-run
returns-in_err-map_err-clause-run c =
    let under = c.loop-next.invariant.0 in
    let e : c.map_err.result ≡ behind c.loop-next.forms c.read_form.result = search rules in
    let d : c.map_err-in-loop-next.result ≡ behind c.loop-next.forms c.declare-declared.result = search rules in
    let some = behind_ok _ _ (sym e ∙ c.in_ok-next.was) ∙ ap Ok c.in-Some.is in
    rw (handed c.from_residual-in_err-map_err.result c.from_residual-in_err-map_err.ensures)
    (declared_no under c.read_form.ensures some _ _ _
    (c.declare-declared.ensures.declared under.T (it under c.read_form.ensures some).form under.theory (formed under c.read_form.ensures some))
    (sym d ∙ c.in_err-map_err.was))

pub returns-in_err-map_err-clause-cells_unchanged : goal.returns-in_err-map_err-clause-cells_unchanged
returns-in_err-map_err-clause-cells_unchanged c =
    let going = c.loop-next.invariant.0.going in
    let e : c.map_err.result ≡ behind c.loop-next.forms c.read_form.result = search rules in
    let some = behind_ok _ _ (sym e ∙ c.in_ok-next.was) ∙ ap Ok c.in-Some.is in
    going_cleared going c.read_form.ensures some (front_cleared 0 _ _ (going_room going c.read_form.ensures some c.read_form.auto.words) c.clear.ensures)

pub loop-next-preserved : goal.loop-next-preserved
loop-next-preserved c =
    let under = c.loop-next.invariant.0 in
    let e : c.map_err.result ≡ behind c.loop-next.forms c.read_form.result = search rules in
    let d : c.map_err-in-loop-next.result ≡ behind c.loop-next.forms c.declare-declared.result = search rules in
    let some = behind_ok _ _ (sym e ∙ c.in_ok-next.was) ∙ ap Ok c.in-Some.is in (
      declared_ok under c.read_form.ensures some _ _ _
          (c.declare-declared.ensures.declared under.T (it under c.read_form.ensures some).form under.theory (formed under c.read_form.ensures some))
          (behind_ok _ _ (sym d ∙ c.in_ok-map_err.was)) (front_cleared 0 _ _ (going_room under.going c.read_form.ensures some c.read_form.auto.words) c.clear.ensures),
      (let a = c.declare-declared.ensures.same_tables in
          let b = c.loop-next.invariant.1 in (a.0 ∙ b.0, a.1 ∙ b.1, a.2 ∙ b.2, a.3 ∙ b.3, a.4 ∙ b.4, a.5 ∙ b.5)),
    )
