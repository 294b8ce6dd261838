-- The numbers of the texts, of the questions and of the rows of question 60, as the definition gives them. Assumes nothing.
use Rattle.std.specs.Prelude.{ℕ}
use Rattle.questions.specs.declared.Text.{Text}
use Rattle.questions.specs.declared.Text.TheVariants as text
use Rattle.questions.specs.declared.Row.{Row}
use Rattle.questions.specs.declared.Row.TheVariants as row
use Rattle.questions.specs.declared.Question.{Question}
use Rattle.questions.specs.declared.Question.TheVariants.{Tables, Length, Bytes, Brackets, Depth, Declaration, Declared, Signature, GoalForm, Variable, Spelling, Sorting, GoalName, NoGoal, ProofForm, Index, NextIndex, Defined, Earlier, Instance, Binding, Premises, Matching, Scope, Hypothesis, Cases, CaseVariables, CaseJudgment, CaseHypotheses, InductionVariable, CannotConclude, MissingCase, Captured, ResultName, ResultHypotheses, ResultJudgment, MissingResults, Room}

abbrev pub text_number : Text → ℕ
text_number text.Theory = 1
text_number text.Goals = 2
text_number text.Proof = 3

abbrev pub row_number : Row → ℕ
row_number row.Sorts = 1
row_number row.Symbols = 2
row_number row.Arguments = 3
row_number row.Rules = 4
row_number row.RuleVariables = 5
row_number row.PatternWords = 6
row_number row.Variables = 7
row_number row.Terms = 8
row_number row.TermWords = 9
row_number row.Abbreviations = 10
row_number row.Goals = 11
row_number row.Facts = 12
row_number row.Entries = 13
row_number row.Pairs = 14

abbrev pub number_of : Question → ℕ
number_of Tables = 1
number_of Length = 2
number_of Bytes = 3
number_of Brackets = 4
number_of Depth = 5
number_of Declaration = 10
number_of Declared = 11
number_of Signature = 12
number_of GoalForm = 20
number_of Variable = 21
number_of Spelling = 22
number_of Sorting = 23
number_of GoalName = 24
number_of NoGoal = 25
number_of ProofForm = 30
number_of Index = 31
number_of NextIndex = 32
number_of Defined = 33
number_of Earlier = 34
number_of Instance = 35
number_of Binding = 36
number_of Premises = 37
number_of Matching = 38
number_of (Scope variable) = 39
number_of Hypothesis = 40
number_of Cases = 41
number_of CaseVariables = 42
number_of CaseJudgment = 43
number_of CaseHypotheses = 44
number_of InductionVariable = 45
number_of CannotConclude = 46
number_of MissingCase = 47
number_of Captured = 48
number_of ResultName = 50
number_of ResultHypotheses = 51
number_of ResultJudgment = 52
number_of (MissingResults count) = 53
number_of (Room row) = 60

-- the detail: 0 where nothing is told
abbrev pub detail_of : Question → ℕ
detail_of Tables = 0
detail_of Length = 0
detail_of Bytes = 0
detail_of Brackets = 0
detail_of Depth = 0
detail_of Declaration = 0
detail_of Declared = 0
detail_of Signature = 0
detail_of GoalForm = 0
detail_of Variable = 0
detail_of Spelling = 0
detail_of Sorting = 0
detail_of GoalName = 0
detail_of NoGoal = 0
detail_of ProofForm = 0
detail_of Index = 0
detail_of NextIndex = 0
detail_of Defined = 0
detail_of Earlier = 0
detail_of Instance = 0
detail_of Binding = 0
detail_of Premises = 0
detail_of Matching = 0
detail_of (Scope variable) = variable
detail_of Hypothesis = 0
detail_of Cases = 0
detail_of CaseVariables = 0
detail_of CaseJudgment = 0
detail_of CaseHypotheses = 0
detail_of InductionVariable = 0
detail_of CannotConclude = 0
detail_of MissingCase = 0
detail_of Captured = 0
detail_of ResultName = 0
detail_of ResultHypotheses = 0
detail_of ResultJudgment = 0
detail_of (MissingResults count) = count
detail_of (Room row) = row_number row
