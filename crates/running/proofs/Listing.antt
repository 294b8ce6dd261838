-- The list of 53 is empty where the check has stopped by another question. Assumes nothing.
use Rattle.std.specs.Prelude.{◌≡◌, refl, true, false, List, [], ℕ, eqb, replicate}
use Rattle.std.proofs.Common.{sym, ap, ◌∙◌}
use Rattle.rules.specs.Limits.{GOALS}
use Rattle.rules.specs.TheoryTables.{filled}
use Rattle.questions.specs.declared.Question.{Question}
use Rattle.questions.specs.declared.Question.TheVariants as question
use Rattle.questions.specs.Numbers.{number_of}
use Rattle.state.specs.Filled.{filled_none}
use Rattle.running.specs.Finished.{ListedFor}

-- no other question has its number
others : (q : Question) → ((k : ℕ) → q ≡ question.MissingResults k → ⊥) → eqb (number_of q) 53 ≡ false
others question.Tables h = refl
others question.Length h = refl
others question.Bytes h = refl
others question.Brackets h = refl
others question.Depth h = refl
others question.Declaration h = refl
others question.Declared h = refl
others question.Signature h = refl
others question.GoalForm h = refl
others question.Variable h = refl
others question.Spelling h = refl
others question.Sorting h = refl
others question.GoalName h = refl
others question.NoGoal h = refl
others question.ProofForm h = refl
others question.Index h = refl
others question.NextIndex h = refl
others question.Defined h = refl
others question.Earlier h = refl
others question.Instance h = refl
others question.Binding h = refl
others question.Premises h = refl
others question.Matching h = refl
others (question.Scope k) h = refl
others question.Hypothesis h = refl
others question.Cases h = refl
others question.CaseVariables h = refl
others question.CaseJudgment h = refl
others question.CaseHypotheses h = refl
others question.InductionVariable h = refl
others question.CannotConclude h = refl
others question.MissingCase h = refl
others question.Captured h = refl
others question.ResultName h = refl
others question.ResultHypotheses h = refl
others question.ResultJudgment h = refl
others (question.MissingResults k) h = absurd (h k refl)
others (question.Room k) h = refl

pub listed_other : {q : Question} (xs : List ℕ) {list : List ℕ} → ((k : ℕ) → q ≡ question.MissingResults k → ⊥) → list ≡ replicate GOALS 0 → ListedFor q xs list
listed_other {q} xs h l = l ∙ sym (filled_none GOALS) ∙ ap (λ b. filled GOALS (elim b [ true ↦ xs | false ↦ [] ])) (sym (others q h))
