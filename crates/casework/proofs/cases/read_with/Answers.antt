use Rattle.std.proofs.Common.{refl, ap, ◌∙◌}
use Rattle.kernel.proofs.Handed.{handed}
use Rattle.sexp.specs.Each.{here, over}
use Rattle.casework.proofs.Finding.{casing_start, casing_over, casing_first, casing_no}
use Rattle.casework.proofs.Reading.{front_part, item_now, named_twice, named_new}
use Rattle.casework.proofs.cases.read_with.Goals as goal

pub loop-item-init : goal.loop-item-init
loop-item-init c = rw (c.into_iter-item-iterator.ensures.into_iter_gives, c.all-item-items.ensures.0, c.all-item-items.ensures.1)
    record { cells = refl; text = c.requires.1; casing = λ g. casing_start g.S g.xs g.holds c.requires.2 }

pub read_case-requires : goal.read_case-requires
read_case-requires c =
    let h = here c.loop-item.invariant.cells c.in-Some.ensures.steps in
    rw h.is (item_now c.requires.0 (c.loop-item.invariant.casing c.requires.0) h.inside)

pub returns-in_err-case : goal.returns-in_err-case
returns-in_err-case c = λ g.
    let h = here c.loop-item.invariant.cells c.in-Some.ensures.steps in
    let e = (rw h.is at c.in_err-case.ensures) (item_now g (c.loop-item.invariant.casing g) h.inside) in
    rw (handed c.from_residual.result c.from_residual.ensures) (casing_no (c.loop-item.invariant.casing g) h.inside _ _ e.0, e.1)

pub is_taken-requires : goal.is_taken-requires
is_taken-requires c =
    let h = here c.loop-item.invariant.cells c.in-Some.ensures.steps in
    let w = c.loop-item.invariant.casing c.requires.0 in
    let r = (rw h.is at c.in_ok-case.ensures) (item_now c.requires.0 w h.inside) in
    let s = ap (λ b. b.now) c.loop-item.invariant.text in (
      casing_first w c.requires.0.holds s (front_part _ _ _ h.is h.inside),
      r.low,
      rw s r.high,
    )

pub returns-then-is_taken : goal.returns-then-is_taken
returns-then-is_taken c = λ g.
    let h = here c.loop-item.invariant.cells c.in-Some.ensures.steps in
    let w = c.loop-item.invariant.casing g in
    let r = (rw h.is at c.in_ok-case.ensures) (item_now g w h.inside) in
    let s = ap (λ b. b.now) c.loop-item.invariant.text in
    (named_twice w g.holds s h.inside r (front_part _ _ _ h.is h.inside) c.is_taken.ensures.taken c.if-is_taken.true, refl)

pub loop-item-preserved : goal.loop-item-preserved
loop-item-preserved c =
    let h = here c.loop-item.invariant.cells c.in-Some.ensures.steps in
    record {
      cells = h.same;
      text = c.is_taken.ensures.same_text ∙ c.loop-item.invariant.text;
      casing = λ g.
          let w = c.loop-item.invariant.casing g in
          let r = (rw h.is at c.in_ok-case.ensures) (item_now g w h.inside) in
          let s = ap (λ b. b.now) c.loop-item.invariant.text in
          named_new w g.holds s h.inside r (front_part _ _ _ h.is h.inside) c.is_taken.ensures.taken c.if-is_taken.false h.behind;
    }

pub returns : goal.returns
returns c = λ g. casing_over (c.loop-item.invariant.casing g) (over c.loop-item.invariant.cells c.in-None.ensures.steps)
