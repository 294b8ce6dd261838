-- The tag of a form: how many items it asks for, what `tag_of` answers, and what the definition makes of a form by its tag. Assumes nothing.
use mathlib.Core.Path.{◌≡◌, refl, sym, ap, ◌∙◌}
use Prim.Native.Nat.{ℕ, ◌≤◌}
use mathlib.Core.Bool.{Bool, true, false, ◌&&◌}
use Rattle.std.specs.Prelude.{Option, Some as some, None as nothing}
use mathlib.Core.List.{List, [], ◌∷◌}
use native.Mathlib.Omega.{arith}
use lib.Dec.{leb}
use borrow.Author.Tests.{leb-true}
use Rattle.rules.specs.Out.{refuse, then, found}
use Rattle.rules.specs.Sexp.{Sexp, Sexps, atom, list, count, item, name, items}
use Rattle.rules.specs.Tags.{Tag, a_var, a_def, a_step, a_hyp, a_rule_hyp, an_induct, an_induct_with, an_apply, an_invert, a_result, GoalForm, a_variable, a_goal, a_goal_with, Row, proof_tags, goal_tags, within, fits, tag_in, proof_tag, goal_form}
use Rattle.rules.specs.Text.{same}
use Rattle.rules.specs.State.{State}
use Rattle.rules.specs.Forms.{goal, take_goal, perform, take_form}
use Rattle.sexp.specs.Never.{never}
use Rattle.sexp.specs.WalkLaws.{AtomIs}
use Rattle.sexp.specs.Each.{ListOf}
use Rattle.sexp.specs.TagTable.{goal_answer, tag_answer}
use Rattle.sexp.specs.declared.tags.Tag.{Tag as TagAnswer}
use Rattle.sexp.specs.declared.tags.Tag.TheVariants.{Var, Def, Step, Hyp, RuleHyp, Induct, InductWith, Apply, Invert, Outcome}
use Rattle.sexp.specs.declared.tags.GoalForm.{GoalForm as GoalAnswer}
use Rattle.sexp.specs.declared.tags.GoalForm.TheVariants.{Variable, Goal, GoalWith}
use Rattle.taking.specs.Tagged.{headed, tagged, chosen}

-- So many items --------------------------------------------------------------------------------------------------------------------

all_three : (a b c : Bool) → (a && (b && c)) ≡ true → b ≡ true
all_three true true true e = refl
all_three true true false e = never cc
all_three true false c e = never cc
all_three false b c e = never cc

module _ {A : Type 0} (least : A → ℕ) where
  -- every row wants the items of its tag
  abbrev Least : List (Row A) → Type 0
  Least [] = Unit {0}
  Least (r ∷ rs) = (r.least ≡ least r.tag) × Least rs

  row_least : (r : Row A) (x : List ℕ) (n : ℕ) → r.least ≡ least r.tag → fits r x n ≡ true → least r.tag ≤ n
  unfolding fits
  row_least r x n l e = omega (arith, l, leb-true r.least n (all_three (same r.name x) (leb r.least n) (within r.most n) e))

  tag_least : (rs : List (Row A)) → Least rs → (x : List ℕ) (n : ℕ) (t : A) → tag_in rs x n ≡ some t → least t ≤ n
  unfolding tag_in
  tag_least [] k x n t e = never cc
  tag_least (r ∷ rs) k x n t e = go (fits r x n) refl e (tag_least rs k.1 x n t)
    where
      go : (b : Bool) → fits r x n ≡ b → elim b [ true ↦ some r.tag | false ↦ tag_in rs x n ] ≡ some t → (tag_in rs x n ≡ some t → least t ≤ n) → least t ≤ n
      go true f g ih =
          let q : r.tag ≡ t = cc in
          omega (arith, row_least r x n k.0 f, ap least q)
      go false f g ih = ih g

-- the least number of items
abbrev pub least_of : Tag → ℕ
least_of a_var = 3
least_of a_def = 3
least_of a_step = 4
least_of a_hyp = 3
least_of a_rule_hyp = 5
least_of an_induct = 5
least_of an_induct_with = 6
least_of an_apply = 5
least_of an_invert = 6
least_of a_result = 3

abbrev pub least_goal : GoalForm → ℕ
least_goal a_variable = 3
least_goal a_goal = 3
least_goal a_goal_with = 4

form_least : (x : Sexp) (n : ℕ) (t : Tag) → headed proof_tag x n ≡ some t → least_of t ≤ n
unfolding headed proof_tag proof_tags
form_least (atom p bs) n t e =
    tag_least least_of proof_tags (refl, (refl, (refl, (refl, (refl, (refl, (refl, (refl, (refl, (refl, tt)))))))))) bs n t e
form_least (list xs) n t e = never cc

goal_least : (x : Sexp) (n : ℕ) (t : GoalForm) → headed goal_form x n ≡ some t → least_goal t ≤ n
unfolding headed goal_form goal_tags
goal_least (atom p bs) n t e = tag_least least_goal goal_tags (refl, (refl, (refl, tt))) bs n t e
goal_least (list xs) n t e = never cc

pub form_many : (xs : Sexps) (t : Tag) → tagged proof_tag xs ≡ some t → least_of t ≤ count xs
form_many xs t e = form_least (item xs 0) (count xs) t e

pub goal_many : (xs : Sexps) (t : GoalForm) → tagged goal_form xs ≡ some t → least_goal t ≤ count xs
goal_many xs t e = goal_least (item xs 0) (count xs) t e

-- What an answer says --------------------------------------------------------------------------------------------------------------

abbrev pub tag_told : TagAnswer → Tag
tag_told Var = a_var
tag_told Def = a_def
tag_told Step = a_step
tag_told Hyp = a_hyp
tag_told RuleHyp = a_rule_hyp
tag_told Induct = an_induct
tag_told InductWith = an_induct_with
tag_told Apply = an_apply
tag_told Invert = an_invert
tag_told Outcome = a_result

abbrev goal_told : GoalAnswer → GoalForm
goal_told Variable = a_variable
goal_told Goal = a_goal
goal_told GoalWith = a_goal_with

abbrev told_by : {A B : Type 0} → (B → A) → Option B → Option A
told_by f nothing = nothing
told_by f (some q) = some (f q)

tag_back : (o : Option Tag) → told_by tag_told (tag_answer o) ≡ o
tag_back nothing = refl
tag_back (some a_var) = refl
tag_back (some a_def) = refl
tag_back (some a_step) = refl
tag_back (some a_hyp) = refl
tag_back (some a_rule_hyp) = refl
tag_back (some an_induct) = refl
tag_back (some an_induct_with) = refl
tag_back (some an_apply) = refl
tag_back (some an_invert) = refl
tag_back (some a_result) = refl

goal_back : (o : Option GoalForm) → told_by goal_told (goal_answer o) ≡ o
goal_back nothing = refl
goal_back (some a_variable) = refl
goal_back (some a_goal) = refl
goal_back (some a_goal_with) = refl

pub told : {o : Option Tag} {r : TagAnswer} (q : TagAnswer) → some r ≡ tag_answer o → r ≡ q → o ≡ some (tag_told q)
told {o} q e f = sym (tag_back o) ∙ ap (told_by tag_told) (sym e ∙ ap (λ (x : TagAnswer). some x) f)

pub untold : {o : Option Tag} → nothing ≡ tag_answer o → o ≡ nothing
untold {o} e = sym (tag_back o) ∙ ap (told_by tag_told) (sym e)

pub told_goal : {o : Option GoalForm} {r : GoalAnswer} (q : GoalAnswer) → some r ≡ goal_answer o → r ≡ q → o ≡ some (goal_told q)
told_goal {o} q e f = sym (goal_back o) ∙ ap (told_by goal_told) (sym e ∙ ap (λ (x : GoalAnswer). some x) f)

pub untold_goal : {o : Option GoalForm} → nothing ≡ goal_answer o → o ≡ nothing
untold_goal {o} e = sym (goal_back o) ∙ ap (told_by goal_told) (sym e)

-- The definition, by the tag -------------------------------------------------------------------------------------------------------

pub take_goal_list : (xs : Sexps) (S : State) → take_goal (list xs) S ≡ chosen 20 goal (tagged goal_form xs) xs S
unfolding take_goal items name then headed
take_goal_list xs S = go (item xs 0)
  where
    by : (o : Option GoalForm) → then (found 20 o S) (λ t U. goal t xs U) ≡ chosen 20 goal o xs S
    by nothing = refl
    by (some t) = refl

    go : (x : Sexp) → then (name 20 x S) (λ t U. then (found 20 (goal_form t.bytes (count xs)) U) (λ g W. goal g xs W)) ≡ chosen 20 goal (headed goal_form x (count xs)) xs S
    go (atom p bs) = by (goal_form bs (count xs))
    go (list ys) = refl

pub take_form_list : (xs : Sexps) (S : State) → take_form (list xs) S ≡ chosen 30 perform (tagged proof_tag xs) xs S
unfolding take_form items name then headed
take_form_list xs S = go (item xs 0)
  where
    by : (o : Option Tag) → then (found 30 o S) (λ t U. perform t xs U) ≡ chosen 30 perform o xs S
    by nothing = refl
    by (some t) = refl

    go : (x : Sexp) → then (name 30 x S) (λ t U. then (found 30 (proof_tag t.bytes (count xs)) U) (λ g W. perform g xs W)) ≡ chosen 30 perform (headed proof_tag x (count xs)) xs S
    go (atom p bs) = by (proof_tag bs (count xs))
    go (list ys) = refl

take_goal_atom : (p : ℕ) (bs : List ℕ) (S : State) → take_goal (atom p bs) S ≡ refuse 20 0 S
unfolding take_goal items then
take_goal_atom p bs S = refl

take_form_atom : (p : ℕ) (bs : List ℕ) (S : State) → take_form (atom p bs) S ≡ refuse 30 0 S
unfolding take_form items then
take_form_atom p bs S = refl

-- The answers of `tag_of` ----------------------------------------------------------------------------------------------------------

-- f: the tag of a name; ans: the answer for a tag
module _ {A R : Type 0} (f : List ℕ → ℕ → Option A) (ans : Option A → R) (xs : Sexps) where
  pub tag_none : {ys : Sexps} → item xs 0 ≡ list ys → ans nothing ≡ ans (tagged f xs)
  unfolding headed
  tag_none e = sym (ap (λ x. ans (headed f x (count xs))) e)

  pub tag_found : {p : ℕ} {name : List ℕ} {k : ℕ} → item xs 0 ≡ atom p name → k ≡ count xs → ans (f name k) ≡ ans (tagged f xs)
  unfolding headed
  tag_found {name = name} e c = ap (λ m. ans (f name m)) c ∙ sym (ap (λ x. ans (headed f x (count xs))) e)

-- The cells of a form --------------------------------------------------------------------------------------------------------------

module _ {text : List ℕ} {x : Sexp} {p : ℕ} (a : AtomIs text x p) (S : State) where
  pub goal_atom_lem : take_goal x S ≡ refuse 20 0 S
  goal_atom_lem = ap (λ y. take_goal y S) a.is ∙ take_goal_atom p a.bytes S

  pub form_atom_lem : take_form x S ≡ refuse 30 0 S
  form_atom_lem = ap (λ y. take_form y S) a.is ∙ take_form_atom p a.bytes S

module _ {text cells part : List ℕ} {x : Sexp} (l : ListOf text cells x part) (S : State) where
  pub goal_takes : take_goal x S ≡ chosen 20 goal (tagged goal_form l.items) l.items S
  goal_takes = ap (λ y. take_goal y S) l.is ∙ take_goal_list l.items S

  pub form_takes : take_form x S ≡ chosen 30 perform (tagged proof_tag l.items) l.items S
  form_takes = ap (λ y. take_form y S) l.is ∙ take_form_list l.items S
