-- What the contracts of `tags` cite: the definition's three tables one behind the other, as rows of one table without their tags, and
-- the answers for the definition's tags. Assumes nothing.
use Rattle.std.specs.Prelude.{ℕ, true, false, List, [], ◌∷◌, Option, Some as some, None as nothing}
use Rattle.rules.specs.Tags.{Row, Tag, a_var, a_def, a_step, a_hyp, a_rule_hyp, an_induct, an_induct_with, an_apply, an_invert, a_result, Declaration, a_sort, a_ctor, a_pred, a_rule, GoalForm, a_variable, a_goal, a_goal_with, fits}
use Rattle.sexp.specs.declared.tags.Row.{Row as Listed}
use Rattle.sexp.specs.declared.tags.Tag.{Tag as TagAnswer}
use Rattle.sexp.specs.declared.tags.Tag.TheVariants.{Var, Def, Step, Hyp, RuleHyp, Induct, InductWith, Apply, Invert, Outcome}
use Rattle.sexp.specs.declared.tags.Declaration.{Declaration as DeclarationAnswer}
use Rattle.sexp.specs.declared.tags.Declaration.TheVariants.{Sort, Ctor, Pred, Rule}
use Rattle.sexp.specs.declared.tags.GoalForm.{GoalForm as GoalAnswer}
use Rattle.sexp.specs.declared.tags.GoalForm.TheVariants.{Variable, Goal, GoalWith}

-- the answers

abbrev pub tag_answer : Option Tag → Option TagAnswer
tag_answer nothing = nothing
tag_answer (some a_var) = some Var
tag_answer (some a_def) = some Def
tag_answer (some a_step) = some Step
tag_answer (some a_hyp) = some Hyp
tag_answer (some a_rule_hyp) = some RuleHyp
tag_answer (some an_induct) = some Induct
tag_answer (some an_induct_with) = some InductWith
tag_answer (some an_apply) = some Apply
tag_answer (some an_invert) = some Invert
tag_answer (some a_result) = some Outcome

abbrev pub declaration_answer : Option Declaration → Option DeclarationAnswer
declaration_answer nothing = nothing
declaration_answer (some a_sort) = some Sort
declaration_answer (some a_ctor) = some Ctor
declaration_answer (some a_pred) = some Pred
declaration_answer (some a_rule) = some Rule

abbrev pub goal_answer : Option GoalForm → Option GoalAnswer
goal_answer nothing = nothing
goal_answer (some a_variable) = some Variable
goal_answer (some a_goal) = some Goal
goal_answer (some a_goal_with) = some GoalWith

-- the rows

-- a row of the code, as one of the definition
abbrev pub row_of : {T : Type 0} → Listed T → Row T
row_of r = record { name = r.name.now; least = r.least; most = r.most; tag = r.tag; index = r.index }

-- the first row for that name and n items
unfoldable pub row_in : {T : Type 0} → List (Listed T) → List ℕ → ℕ → Option (Listed T)
row_in [] x n = nothing
row_in (r ∷ rs) x n = elim (fits (row_of r) x n) [ true ↦ some r | false ↦ row_in rs x n ]

-- the tag of a row, where there is one
abbrev pub tag_of_row : {T : Type 0} → Option (Listed T) → Option T
tag_of_row nothing = nothing
tag_of_row (some r) = some r.tag
