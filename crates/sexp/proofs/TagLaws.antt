-- The tables of the code are the definition's, and the first row that fits is the same. Assumes nothing.
use Rattle.std.proofs.Common.{◌≡◌, refl, sym, ap, ◌∙◌, ℕ, Bool, true, false, List, [], ◌∷◌}
use Rattle.std.specs.Prelude.{Option, Some as some, None as nothing, MatchOption, cond}
use Rattle.std.specs.List.{find}
use Rattle.std.specs.Option.{option_map}
use denote.Bor.{Bor}
use Rattle.rules.specs.Tags.{Row, Tag, a_var, a_def, a_step, a_hyp, a_rule_hyp, an_induct, an_induct_with, an_apply, an_invert, a_result, Declaration, a_sort, a_ctor, a_pred, a_rule, GoalForm, a_variable, a_goal, a_goal_with, proof_tags, theory_tags, goal_tags, fits, tag_in, proof_tag, declaration, goal_form, index_in, index_place}
use Rattle.sexp.specs.declared.tags.Row.{Row as Listed}
use Rattle.sexp.specs.declared.tags.Tag.{Tag as TagAnswer}
use Rattle.sexp.specs.declared.tags.Tag.TheVariants.{Var, Def, Step, Hyp, RuleHyp, Induct, InductWith, Apply, Invert, Outcome}
use Rattle.sexp.specs.declared.tags.Declaration.{Declaration as DeclarationAnswer}
use Rattle.sexp.specs.declared.tags.Declaration.TheVariants.{Sort, Ctor, Pred, Rule}
use Rattle.sexp.specs.declared.tags.GoalForm.{GoalForm as GoalAnswer}
use Rattle.sexp.specs.declared.tags.GoalForm.TheVariants.{Variable, Goal, GoalWith}
use Rattle.sexp.specs.Never.{never}
use Rattle.sexp.specs.TagTable.{row_of, row_in, tag_of_row, tag_answer, declaration_answer, goal_answer}

-- The search -------------------------------------------------------------------------------------------------------------------

module _ {T : Type 0} (x : List ℕ) (n : ℕ) where
  row_find : (rows : List (Listed T)) → row_in rows x n ≡ find (λ r. fits (row_of r) x n) rows
  unfolding row_in
  row_find [] = refl
  row_find (r ∷ rs) = go (fits (row_of r) x n) (row_find rs)
    where
      go : (b : Bool) → row_in rs x n ≡ find (λ r. fits (row_of r) x n) rs →
          elim b [ true ↦ some r | false ↦ row_in rs x n ] ≡ cond b (some r) (find (λ r. fits (row_of r) x n) rs)
      go true h = refl
      go false h = h

  pub row_found : (rows : List (Listed T)) (o : Option (Bor (Listed T))) → option_map (λ r. r.now) o ≡ find (λ r. fits (row_of r) x n) rows →
      MatchOption o (row_in rows x n ≡ nothing) (λ r. row_in rows x n ≡ some r.now)
  row_found rows nothing e = row_find rows ∙ sym e
  row_found rows (some r) e = row_find rows ∙ sym e

-- The tag of the row found -----------------------------------------------------------------------------------------------------

abbrev pub rows_of : {T : Type 0} → List (Listed T) → List (Row T)
rows_of [] = []
rows_of (r ∷ rs) = row_of r ∷ rows_of rs

abbrev retag : {A B : Type 0} → (A → B) → Row A → Row B
retag f r = record { name = r.name; least = r.least; most = r.most; tag = f r.tag; index = r.index }

abbrev pub retagged : {A B : Type 0} → (A → B) → List (Row A) → List (Row B)
retagged f [] = []
retagged f (r ∷ rs) = retag f r ∷ retagged f rs

abbrev pub index_of_row : {T : Type 0} → Option (Listed T) → Option ℕ
index_of_row nothing = nothing
index_of_row (some r) = r.index

abbrev via : {A B : Type 0} → (A → B) → Option A → Option B
via f nothing = nothing
via f (some a) = some (f a)

module _ (x : List ℕ) (n : ℕ) where
  pub tag_found : {T : Type 0} (rows : List (Listed T)) → tag_of_row (row_in rows x n) ≡ tag_in (rows_of rows) x n
  unfolding row_in tag_in
  tag_found [] = refl
  tag_found (r ∷ rs) = go (fits (row_of r) x n) (tag_found rs)
    where
      go : (b : Bool) → tag_of_row (row_in rs x n) ≡ tag_in (rows_of rs) x n →
          tag_of_row (elim b [ true ↦ some r | false ↦ row_in rs x n ]) ≡ elim b [ true ↦ some r.tag | false ↦ tag_in (rows_of rs) x n ]
      go true h = refl
      go false h = h

  pub tag_renamed : {A B : Type 0} (f : A → B) (rows : List (Row A)) → tag_in (retagged f rows) x n ≡ via f (tag_in rows x n)
  unfolding tag_in fits
  tag_renamed f [] = refl
  tag_renamed {A} {B} f (r ∷ rs) = go (fits r x n) (tag_renamed f rs)
    where
      go : (b : Bool) → tag_in (retagged f rs) x n ≡ via f (tag_in rs x n) →
          ◌≡◌ {A = Option B} (elim b [ true ↦ some (f r.tag) | false ↦ tag_in (retagged f rs) x n ]) (via f (elim b [ true ↦ some r.tag | false ↦ tag_in rs x n ]))
      go true h = refl
      go false h = h

  -- f: the code's tag for one of the definition
  tags_are : {A B : Type 0} (f : A → B) (rows : List (Listed B)) (table : List (Row A)) → rows_of rows ≡ retagged f table →
      tag_of_row (row_in rows x n) ≡ via f (tag_in table x n)
  tags_are {B = B} f rows table e = tag_found rows ∙ ap (λ (l : List (Row B)). tag_in l x n) e ∙ tag_renamed f table

  -- the same for the place of the index
  indexes_are : {B : Type 0} (f : Tag → B) (rows : List (Listed B)) (table : List (Row Tag)) → rows_of rows ≡ retagged f table →
      index_of_row (row_in rows x n) ≡ index_in table x n
  unfolding row_in index_in fits
  indexes_are f [] [] e = refl
  indexes_are f [] (t ∷ ts) e = never cc
  indexes_are f (r ∷ rs) [] e = never cc
  indexes_are {B} f (r ∷ rs) (t ∷ ts) e =
      let head : row_of r ≡ retag f t = cc in
      let tail : rows_of rs ≡ retagged f ts = cc in
      let same_fit : fits (row_of r) x n ≡ fits t x n = ap (λ (q : Row B). fits q x n) head in
      let same_index : r.index ≡ t.index = ap (λ (q : Row B). q.index) head in
      go (fits (row_of r) x n) (fits t x n) same_fit same_index (indexes_are f rs ts tail)
    where
      go : (b c : Bool) → b ≡ c → r.index ≡ t.index → index_of_row (row_in rs x n) ≡ index_in ts x n →
          index_of_row (elim b [ true ↦ some r | false ↦ row_in rs x n ]) ≡ elim c [ true ↦ t.index | false ↦ index_in ts x n ]
      go true true k i h = i
      go false false k i h = h
      go true false k i h = never cc
      go false true k i h = never cc

-- The three tables ---------------------------------------------------------------------------------------------------------------

abbrev pub code_tag : Tag → TagAnswer
code_tag a_var = Var
code_tag a_def = Def
code_tag a_step = Step
code_tag a_hyp = Hyp
code_tag a_rule_hyp = RuleHyp
code_tag an_induct = Induct
code_tag an_induct_with = InductWith
code_tag an_apply = Apply
code_tag an_invert = Invert
code_tag a_result = Outcome

abbrev pub code_declaration : Declaration → DeclarationAnswer
code_declaration a_sort = Sort
code_declaration a_ctor = Ctor
code_declaration a_pred = Pred
code_declaration a_rule = Rule

abbrev pub code_goal : GoalForm → GoalAnswer
code_goal a_variable = Variable
code_goal a_goal = Goal
code_goal a_goal_with = GoalWith

tag_via : (o : Option Tag) → via code_tag o ≡ tag_answer o
tag_via nothing = refl
tag_via (some a_var) = refl
tag_via (some a_def) = refl
tag_via (some a_step) = refl
tag_via (some a_hyp) = refl
tag_via (some a_rule_hyp) = refl
tag_via (some an_induct) = refl
tag_via (some an_induct_with) = refl
tag_via (some an_apply) = refl
tag_via (some an_invert) = refl
tag_via (some a_result) = refl

declaration_via : (o : Option Declaration) → via code_declaration o ≡ declaration_answer o
declaration_via nothing = refl
declaration_via (some a_sort) = refl
declaration_via (some a_ctor) = refl
declaration_via (some a_pred) = refl
declaration_via (some a_rule) = refl

goal_via : (o : Option GoalForm) → via code_goal o ≡ goal_answer o
goal_via nothing = refl
goal_via (some a_variable) = refl
goal_via (some a_goal) = refl
goal_via (some a_goal_with) = refl

pub proof_is : (rows : List (Listed TagAnswer)) (x : List ℕ) (n : ℕ) {o : Option (Listed TagAnswer)} → row_in rows x n ≡ o →
    rows_of rows ≡ retagged code_tag proof_tags → tag_of_row o ≡ tag_answer (proof_tag x n)
unfolding proof_tag
proof_is rows x n e k = ap tag_of_row (sym e) ∙ tags_are x n code_tag rows proof_tags k ∙ tag_via (tag_in proof_tags x n)

pub index_is : (rows : List (Listed TagAnswer)) (x : List ℕ) (n : ℕ) {o : Option (Listed TagAnswer)} → row_in rows x n ≡ o →
    rows_of rows ≡ retagged code_tag proof_tags → index_of_row o ≡ index_place x n
unfolding index_place
index_is rows x n e k = ap index_of_row (sym e) ∙ indexes_are x n code_tag rows proof_tags k

pub theory_is : (rows : List (Listed DeclarationAnswer)) (x : List ℕ) (n : ℕ) {o : Option (Listed DeclarationAnswer)} → row_in rows x n ≡ o →
    rows_of rows ≡ retagged code_declaration theory_tags → tag_of_row o ≡ declaration_answer (declaration x n)
unfolding declaration
theory_is rows x n e k = ap tag_of_row (sym e) ∙ tags_are x n code_declaration rows theory_tags k ∙ declaration_via (tag_in theory_tags x n)

pub goal_is : (rows : List (Listed GoalAnswer)) (x : List ℕ) (n : ℕ) {o : Option (Listed GoalAnswer)} → row_in rows x n ≡ o →
    rows_of rows ≡ retagged code_goal goal_tags → tag_of_row o ≡ goal_answer (goal_form x n)
unfolding goal_form
goal_is rows x n e k = ap tag_of_row (sym e) ∙ tags_are x n code_goal rows goal_tags k ∙ goal_via (tag_in goal_tags x n)
