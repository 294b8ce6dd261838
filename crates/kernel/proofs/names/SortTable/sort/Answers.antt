use native.Mathlib.Omega.{arith}
use Rattle.std.proofs.Common.{rules}
use Rattle.kernel.proofs.Handed.{handed}
use Rattle.sexp.specs.FoundLaws.{found_inside}
use Rattle.kernel.proofs.Readings.{sort_mapped}
use Rattle.kernel.proofs.Spellings.{proper_found, proper_missing, sort_unnamed, sort_so, sorted}
use Rattle.kernel.proofs.names.SortTable.sort.Goals as goal

pub returns-in_err-name : goal.returns-in_err-name
returns-in_err-name c = λ x at e s ns k. rw (handed c.from_residual.result c.from_residual.ensures) (sort_unnamed ns x (proper_missing x _ (c.proper.ensures x at e s) c.in_err-name.was))

pub of-bytes-requires : goal.of-bytes-requires
of-bytes-requires c =
    let some = c.requires.some_item in
    let name = proper_found c.args.self.now.text.now some.0 _ _ some.3 (c.proper.ensures some.0 some.1 some.2 some.3) c.in_ok-name.was in
    (omega (arith, name.end), name.high)

pub map-requires : goal.map-requires
map-requires c = λ i e k l.
    let some = c.requires.some_names in
    omega (arith, found_inside _ some.0 _ _ (c.named-found.ensures some.0 some.1) e, some.1.many)

pub returns : goal.returns
returns c = λ x at e s ns k. sort_so c.args.self.now.text.now ns x _ _
    (proper_found c.args.self.now.text.now x _ _ s (c.proper.ensures x at e s) c.in_ok-name.was)
    (sort_mapped (sorted ns) k _ _ (rw c.of-bytes.ensures at c.named-found.ensures) _ c.map.ensures.cases (λ i j f p. search rules)) c.ok_or.ensures.value
