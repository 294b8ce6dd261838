use mathlib.Core.Path.{refl, sym}
use Prim.Native.Nat.{ℕ}
use native.Mathlib.Omega.{arith}
use lib.ListN.{replicate, length-replicate}
use lib.Seq.{length-take-le}
use Rattle.std.proofs.lemmas.Result.{err_from_is_err_and}
use Rattle.rules.specs.Limits.{FACTS}
use Rattle.inversion.proofs.InvertForms.{form_naming, form_unnamed, form_fact, form_judgment, form_unjudged, form_on, form_refused, form_read, form_writes, form_few, form_front}
use Rattle.inversion.proofs.invert.invert.Goals as goal

pub hypothesis-requires : goal.hypothesis-requires
hypothesis-requires c = form_naming c.requires.inverts_form

pub returns-in_err-fact-clause-inverted_as : goal.returns-in_err-fact-clause-inverted_as
returns-in_err-fact-clause-inverted_as c = λ g. let p = err_from_is_err_and c.from_residual.result c.from_residual.ensures.1 in
    rw (p.1, p.2) (form_unnamed g c.in_err-fact.ensures)

pub judgment-requires : goal.judgment-requires
judgment-requires c = form_judgment c.requires.inverts_form c.in_ok-fact.ensures c.from.ensures

pub returns-in_err-judgment-clause-inverted_as : goal.returns-in_err-judgment-clause-inverted_as
returns-in_err-judgment-clause-inverted_as c = λ g. let p = err_from_is_err_and c.from_residual-in_err-judgment.result c.from_residual-in_err-judgment.ensures.1 in
    rw (p.1, p.2) (form_unjudged g c.in_ok-fact.ensures (c.in_err-judgment.ensures.read_as (form_judgment g c.in_ok-fact.ensures c.from.ensures)))

pub write_out-many-requires-clause-set_in_bounds : goal.write_out-many-requires-clause-set_in_bounds
write_out-many-requires-clause-set_in_bounds c =
    form_writes c.requires.inverts_form c.in_ok-fact.ensures (omega arith) (replicate FACTS 0) (length-replicate {A = ℕ} FACTS 0)

pub judgment-requires-2 : goal.judgment-requires-2
judgment-requires-2 c = form_fact c.requires.inverts_form c.in_ok-fact.ensures

pub slice_bounds-list-end : goal.slice_bounds-list-end
slice_bounds-list-end c =
    form_few c.requires.inverts_form c.in_ok-fact.ensures (omega arith) (replicate FACTS 0) (length-replicate {A = ℕ} FACTS 0) c.write_out-many.ensures

pub slice_bounds-inverting-end : goal.slice_bounds-inverting-end
slice_bounds-inverting-end c = sym (length-take-le _ _
    (form_few c.requires.inverts_form c.in_ok-fact.ensures (omega arith) (replicate FACTS 0) (length-replicate {A = ℕ} FACTS 0) c.write_out-many.ensures))

pub invert_on-requires-clause-inverts_on : goal.invert_on-requires-clause-inverts_on
invert_on-requires-clause-inverts_on c =
    let g = c.requires.inverts_form in
    let h = c.in_ok-fact.ensures in
    let j = c.in_ok-judgment.ensures.read_as (form_judgment g h c.from.ensures) in
    form_on g h j c.judgment-2.ensures (form_front g h (omega arith) (replicate FACTS 0) (length-replicate {A = ℕ} FACTS 0) c.write_out-many.ensures)

pub returns-in_err-invert_on-clause-inverted_as : goal.returns-in_err-invert_on-clause-inverted_as
returns-in_err-invert_on-clause-inverted_as c = λ g.
    let h = c.in_ok-fact.ensures in
    let j = c.in_ok-judgment.ensures.read_as (form_judgment g h c.from.ensures) in
    let e = form_front g h (omega arith) (replicate FACTS 0) (length-replicate {A = ℕ} FACTS 0) c.write_out-many.ensures in
    let z = c.in_err-invert_on.ensures.inverted_on_as (form_on g h j c.judgment-2.ensures e) in
    let p = err_from_is_err_and c.from_residual-in_err-invert_on.result c.from_residual-in_err-invert_on.ensures.1 in
    rw (p.1, p.2) (form_refused g h j c.judgment-2.ensures e z)

pub insert-requires : goal.insert-requires
insert-requires c = omega (arith, (form_fact c.requires.inverts_form c.in_ok-fact.ensures).1)

pub returns-clause-inverted_as : goal.returns-clause-inverted_as
returns-clause-inverted_as c = λ g.
    let h = c.in_ok-fact.ensures in
    let j = c.in_ok-judgment.ensures.read_as (form_judgment g h c.from.ensures) in
    let e = form_front g h (omega arith) (replicate FACTS 0) (length-replicate {A = ℕ} FACTS 0) c.write_out-many.ensures in
    let z = c.in_ok-invert_on.ensures.inverted_on_as (form_on g h j c.judgment-2.ensures e) in
    (form_read g h j c.judgment-2.ensures e z c.insert.ensures refl, refl)

pub write_out-many-requires-clause-set_len_bound : goal.write_out-many-requires-clause-set_len_bound
write_out-many-requires-clause-set_len_bound c = omega arith

pub slice_bounds-write_out-end : goal.slice_bounds-write_out-end
slice_bounds-write_out-end c = omega arith
