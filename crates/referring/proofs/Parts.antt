-- The parts of the lists that the entries of a fact are. Assumes nothing.
use Rattle.std.specs.Prelude.{◌≡◌, List, ℕ, ◌≤◌, length}
use Rattle.std.proofs.Common.{arith}
use Rattle.std.proofs.Math.Path.{ap}
use Rattle.cells.specs.declared.Span.{Span}
use Rattle.state.specs.Rows.{general_span}
use Rattle.state.specs.FactLaws.{fact_row_lem, lists_long}
use Rattle.referring.specs.Recall.{RecallsFact}

-- the generalised variables stand last
module _ {facts footings lists : List ℕ} {i : ℕ} (g : RecallsFact facts footings lists i) {s t : Span} (e : s ≡ t) where
  pub part_lies : t.from ≤ t.end → t.end ≤ (general_span facts i).end → (s.from ≤ s.end) × (s.end ≤ length lists)
  part_lies k l = (
    omega (arith, ap (λ (p : Span). p.from) e, ap (λ (p : Span). p.end) e, k),
    omega (arith, ap (λ (p : Span). p.end) e, (fact_row_lem g.recorded i g.there).inside, lists_long g.recorded, l),
  )
