-- An answer as eight numbers: 1 and the seven counts of the report; or 0, then number, text, form and detail of the refusal, and zeros. And a call of a
-- check whose answer is told so. Assumes nothing.
use Rattle.std.specs.Prelude.{◌≡◌, ℕ, Bool, true, false, List, [], ◌∷◌, ◌++◌, ltb, length, drop, Result, Ok, Err}
use Rattle.running.specs.declared.finish.Report.{Report}
use Rattle.running.specs.declared.refusal.Refusal.{Refusal}
use Rattle.rules.specs.StateTables.{Tables}
use Rattle.running.specs.Finished.{answer_of}
use Rattle.running.specs.Refusals.{refusal_of}
use Rattle.running.specs.ReadBack.{Call}

abbrev pub eight : Result Report Refusal → List ℕ
eight (Ok r) = 1 ∷ r.steps ∷ r.goals ∷ r.open_goals ∷ r.counts.hypotheses ∷ r.counts.inductions ∷ r.counts.inversions ∷ r.counts.instances ∷ []
eight (Err r) = 0 ∷ (refusal_of r).number ∷ (refusal_of r).text ∷ (refusal_of r).form ∷ (refusal_of r).detail ∷ 0 ∷ 0 ∷ 0 ∷ []

-- the first eight numbers anew; a list that has fewer stays as it is
abbrev pub laid_eight : Bool → List ℕ → List ℕ → List ℕ
laid_eight true eights before = before
laid_eight false eights before = eights ++ drop 8 before

abbrev pub answered : Result Report Refusal → List ℕ → List ℕ
answered r before = laid_eight (ltb (length before) 8) (eight r) before

-- out, out': the numbers before and afterwards
pub record Told (theory goals proof : List ℕ) (before after : Tables) (out out' : List ℕ) : Type 0 where
  pub answer : Result Report Refusal
  pub call : Call theory goals proof before after (answer_of answer)
  pub told : out' ≡ answered answer out
