-- The tags of forms: by the name that a form begins with and its number of items, the name counted. One table each for the theory, the
-- goals and the proof; a proof's form whose tag has a place for it has the index of its fact there. Assumes nothing.
use Rattle.std.specs.Prelude.{ℕ, ◌≡◌, refl, Bool, true, false, ◌&&◌, List, [], ◌∷◌, leb, Option, Some as some, None as nothing}
use Rattle.rules.specs.Text.{bytes, same, texts}

-- a proof's forms
pub data Tag : Type 0 where
  a_var a_def a_step a_hyp a_rule_hyp an_induct an_induct_with an_apply an_invert a_result : Tag

-- a theory's
pub data Declaration : Type 0 where
  a_sort a_ctor a_pred a_rule : Declaration

-- the goals'
pub data GoalForm : Type 0 where
  a_variable a_goal a_goal_with : GoalForm

-- most: nothing where any number of items from the least on will do; index: the place of the index among the items, counted from 0
pub record Row (T : Type 0) : Type 0 where
  pub name : List ℕ
  pub least : ℕ
  pub most : Option ℕ
  pub tag : T
  pub index : Option ℕ

-- exactly so many items
abbrev exactly : {T : Type 0} → List ℕ → ℕ → T → Option ℕ → Row T
exactly x n t i = record { name = x; least = n; most = some n; tag = t; index = i }

abbrev at_least : {T : Type 0} → List ℕ → ℕ → T → Option ℕ → Row T
at_least x n t i = record { name = x; least = n; most = nothing; tag = t; index = i }

unfoldable pub proof_tags : List (Row Tag)
proof_tags =
    exactly (bytes "var") 3 a_var nothing ∷
    exactly (bytes "def") 3 a_def nothing ∷
    at_least (bytes "step") 4 a_step (some 1) ∷
    exactly (bytes "hyp") 3 a_hyp (some 1) ∷
    exactly (bytes "hyp") 5 a_rule_hyp (some 1) ∷
    exactly (bytes "induct") 5 an_induct (some 1) ∷
    exactly (bytes "induct") 6 an_induct_with (some 1) ∷
    exactly (bytes "apply") 5 an_apply (some 1) ∷
    exactly (bytes "invert") 6 an_invert (some 1) ∷
    exactly (bytes "result") 3 a_result nothing ∷ []

unfoldable pub theory_tags : List (Row Declaration)
theory_tags =
    exactly (bytes "sort") 2 a_sort nothing ∷
    exactly (bytes "ctor") 4 a_ctor nothing ∷
    exactly (bytes "pred") 3 a_pred nothing ∷
    exactly (bytes "rule") 4 a_rule nothing ∷ []

unfoldable pub goal_tags : List (Row GoalForm)
goal_tags =
    exactly (bytes "var") 3 a_variable nothing ∷
    exactly (bytes "goal") 3 a_goal nothing ∷
    exactly (bytes "goal") 4 a_goal_with nothing ∷ []

-- whether n items are not too many
unfoldable pub within : Option ℕ → ℕ → Bool
within (some m) n = leb n m
within nothing n = true

-- whether a row is for that name and n items
unfoldable pub fits : {T : Type 0} → Row T → List ℕ → ℕ → Bool
fits r x n = same r.name x && (leb r.least n && within r.most n)

-- the tag of the first row that fits
unfoldable pub tag_in : {T : Type 0} → List (Row T) → List ℕ → ℕ → Option T
tag_in [] x n = nothing
tag_in (r ∷ rs) x n = elim (fits r x n) [ true ↦ some r.tag | false ↦ tag_in rs x n ]

unfoldable pub proof_tag : List ℕ → ℕ → Option Tag
proof_tag x n = tag_in proof_tags x n

unfoldable pub declaration : List ℕ → ℕ → Option Declaration
declaration x n = tag_in theory_tags x n

unfoldable pub goal_form : List ℕ → ℕ → Option GoalForm
goal_form x n = tag_in goal_tags x n

-- where the index of a proof's form stands
unfoldable pub index_in : List (Row Tag) → List ℕ → ℕ → Option ℕ
index_in [] x n = nothing
index_in (r ∷ rs) x n = elim (fits r x n) [ true ↦ r.index | false ↦ index_in rs x n ]

unfoldable pub index_place : List ℕ → ℕ → Option ℕ
index_place x n = index_in proof_tags x n

-- `unfolding tagging` opens all of the above, for a computation
unfoldable pub tagging : Unit {0}
unfolding texts proof_tags theory_tags goal_tags within fits tag_in proof_tag declaration goal_form index_in index_place
tagging = tt

-- Checks -----------------------------------------------------------------------------------------------------------------------

step_long : proof_tag (bytes "step") 900 ≡ some a_step
unfolding tagging
step_long = refl

step_short : proof_tag (bytes "step") 3 ≡ nothing
unfolding tagging
step_short = refl

hyp_three : proof_tag (bytes "hyp") 3 ≡ some a_hyp
unfolding tagging
hyp_three = refl

hyp_four : proof_tag (bytes "hyp") 4 ≡ nothing
unfolding tagging
hyp_four = refl

hyp_five : proof_tag (bytes "hyp") 5 ≡ some a_rule_hyp
unfolding tagging
hyp_five = refl

induct_six : proof_tag (bytes "induct") 6 ≡ some an_induct_with
unfolding tagging
induct_six = refl

-- the second item, in every form that adds a fact and in no other
index_places :
    (index_place (bytes "step") 4 ≡ some 1)
    × (index_place (bytes "hyp") 3 ≡ some 1)
    × (index_place (bytes "hyp") 5 ≡ some 1)
    × (index_place (bytes "induct") 5 ≡ some 1)
    × (index_place (bytes "induct") 6 ≡ some 1)
    × (index_place (bytes "apply") 5 ≡ some 1)
    × (index_place (bytes "invert") 6 ≡ some 1)
    × (index_place (bytes "var") 3 ≡ nothing)
    × (index_place (bytes "def") 3 ≡ nothing)
    × (index_place (bytes "result") 3 ≡ nothing)
unfolding tagging
index_places = (refl, refl, refl, refl, refl, refl, refl, refl, refl, refl)

ctor_four : declaration (bytes "ctor") 4 ≡ some a_ctor
unfolding tagging
ctor_four = refl

goal_three : goal_form (bytes "goal") 3 ≡ some a_goal
unfolding tagging
goal_three = refl

goal_four : goal_form (bytes "goal") 4 ≡ some a_goal_with
unfolding tagging
goal_four = refl
