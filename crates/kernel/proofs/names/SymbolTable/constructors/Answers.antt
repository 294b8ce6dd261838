use Rattle.std.proofs.Common.{arith, rules, ◌≡◌, ◌∙◌, ap, List, ℕ, get_or}
use Rattle.std.specs.Prelude.{eqb, count_by}
use Rattle.kernel.proofs.Readings.{counted_small, counted_room, counted}
use Rattle.kernel.proofs.names.SymbolTable.constructors.Goals as goal

pub overflow_mul-self : goal.overflow_mul-self
overflow_mul-self c = omega (arith, counted_small c.requires.1.1.1)

pub slice_bounds-as_chunks-end : goal.slice_bounds-as_chunks-end
slice_bounds-as_chunks-end c = counted_room c.requires.1.1.1

pub returns : goal.returns
returns c = λ T text ins h.
    let e : c.count.result ≡ count_by (λ (row : List ℕ). eqb (get_or row 0 0) c.args.sort) c.as_chunks.result.0.now = search rules in
    omega (arith, e ∙ ap (count_by (λ (row : List ℕ). eqb (get_or row 0 0) c.args.sort)) c.as_chunks.ensures.front ∙ counted T h c.args.sort)
