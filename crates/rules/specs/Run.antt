-- A check's answer as a line of numbers, for tools that compare. Assumes nothing.
use Rattle.std.specs.Prelude.{ℕ, List, [], ◌∷◌}
use Rattle.rules.specs.Check.{Answer, accepts, refuses, check, checking}

-- 1, then steps, goals, open goals, hypotheses, inductions, inversions, instances; or 0, then number, text, form, detail
unfoldable pub line_of : Answer → List ℕ
line_of (accepts r) = 1 ∷ r.steps ∷ r.goals ∷ r.open_goals ∷ r.hypotheses ∷ r.inductions ∷ r.inversions ∷ r.instances ∷ []
line_of (refuses r) = 0 ∷ r.number ∷ r.text ∷ r.form ∷ r.detail ∷ []

unfoldable pub line : (theory goals proof : List ℕ) → List ℕ
line t g f = line_of (check t g f).answer

-- `unfolding running` opens the whole definition, for a computation
unfoldable pub running : Unit {0}
unfolding checking line_of line
running = tt
