-- The premise of demand 3: which facts a form of the proof names by a reference or by a case, and that none of them is a rule hypothesis
-- with premises. "The first place of `apply`, the context list of `invert` and ignored cases do not count as references or cases."
-- Then what a `result` names. Definitions only.
use Rattle.std.specs.Prelude.{ℕ, ◌≡◌, ◌⊎◌, true, List, Option, Some as some, None as nothing}
use Rattle.rules.specs.Text.{same}
use Rattle.rules.specs.Sexp.{Sexp, Sexps, atom, list, nil, cons, count, item}
use Rattle.rules.specs.Index.{index_of}
use Rattle.rules.specs.Tags.{Tag, a_var, a_def, a_step, a_hyp, a_rule_hyp, an_induct, an_induct_with, an_apply, an_invert, a_result, proof_tag}
use Rattle.rules.specs.Tree.{none}
use Rattle.rules.specs.Theory.{rule, rules_of}
use Rattle.rules.specs.State.{State, Fact, Goal, goal_named}
use Rattle.rules.specs.Invert.{predicate_of}
use Rattle.meaning.specs.Trees.Tree.{In}
use Rattle.meaning.specs.Truth.{At}

-- Items ---------------------------------------------------------------------------------------------------------------------------

-- the atom reads as the index i
unfoldable pub Points : Sexp → ℕ → Type 0
Points (atom p bs) i = index_of bs ≡ some i
Points (list xs) i = ⊥

-- the atom spells the name
unfoldable pub Spells : Sexp → List ℕ → Type 0
Spells (atom p bs) n = same bs n ≡ true
Spells (list xs) n = ⊥

-- x is one of the items
unfoldable pub Item : Sexp → Sexps → Type 0
Item x nil = ⊥
Item x (cons y ys) = (x ≡ y) ⊎ Item x ys

-- x is an item of the list y
unfoldable pub ItemOf : Sexp → Sexp → Type 0
ItemOf x (atom p bs) = ⊥
ItemOf x (list ys) = Item x ys

-- References and cases --------------------------------------------------------------------------------------------------------------

-- a reference is an index, or a list that begins with one
unfoldable pub Refers : Sexp → ℕ → Type 0
Refers (atom p bs) i = Points (atom p bs) i
Refers (list xs) i = Points (item xs 0) i

-- a case of `induct` begins with an index
unfoldable pub Cases : Sexp → ℕ → Type 0
Cases (atom p bs) i = ⊥
Cases (list xs) i = Points (item xs 0) i

-- a case of `invert` for a rule of that name has an index behind it
unfoldable pub CasesFor : List ℕ → Sexp → ℕ → Type 0
CasesFor n (atom p bs) i = ⊥
CasesFor n (list xs) i = Spells (item xs 0) n × Points (item xs 1) i

-- some reference of the list names fact i
unfoldable pub SomeRefers : Sexp → ℕ → Type 0
SomeRefers y i = (x : Sexp) × ItemOf x y × Refers x i

unfoldable pub SomeCases : Sexp → ℕ → Type 0
SomeCases y i = (x : Sexp) × ItemOf x y × Cases x i

-- some case of the list y names fact i, for a rule of the predicate of the hypothesis k; others are ignored
unfoldable pub SomeInverts : State → Sexp → Sexp → ℕ → Type 0
SomeInverts S k y i =
    (h : ℕ) × (g : Fact) × (r : ℕ) × (x : Sexp)
    × Points k h × At S.facts h g × In r (rules_of S.theory (predicate_of g.judgment))
    × ItemOf x y × CasesFor (rule S.theory r).name.bytes x i

-- The premise -----------------------------------------------------------------------------------------------------------------------

unfoldable pub NamesAs : Tag → State → Sexps → ℕ → Type 0
NamesAs a_var S xs i = ⊥
NamesAs a_def S xs i = ⊥
NamesAs a_hyp S xs i = ⊥
NamesAs a_rule_hyp S xs i = ⊥
NamesAs a_step S xs i = SomeRefers (item xs 3) i
NamesAs an_apply S xs i = SomeRefers (item xs 4) i
NamesAs a_result S xs i = Refers (item xs 2) i
NamesAs an_induct S xs i = SomeCases (item xs 4) i
NamesAs an_induct_with S xs i = SomeCases (item xs 5) i
NamesAs an_invert S xs i = SomeInverts S (item xs 2) (item xs 5) i

unfoldable pub tag_of : Sexp → ℕ → Option Tag
tag_of (atom p bs) n = proof_tag bs n
tag_of (list xs) n = nothing

-- the form names fact i by a reference or a case
unfoldable pub Names : State → Sexp → ℕ → Type 0
Names S (atom p bs) i = ⊥
Names S (list xs) i = (t : Tag) × (tag_of (item xs 0) (count xs) ≡ some t) × NamesAs t S xs i

-- a rule hypothesis with premises
unfoldable pub RuleHyp : Fact → Type 0
RuleHyp f = (f.assumed ≡ true) × ¬ (f.premises ≡ none)

-- no reference and no case of the form names a rule hypothesis with premises
unfoldable pub Calm : State → Sexp → Type 0
Calm S x = (i : ℕ) (f : Fact) → Names S x i → At S.facts i f → ¬ (RuleHyp f)

-- Results ---------------------------------------------------------------------------------------------------------------------------

-- the atom is the name of goal k
unfoldable pub GoalAt : List Goal → Sexp → ℕ → Type 0
GoalAt gs (atom p bs) k = goal_named gs bs ≡ some k
GoalAt gs (list xs) k = ⊥

-- the result of goal k by fact i, bare or as an instance
unfoldable pub ResultAs : Tag → State → Sexps → ℕ → ℕ → Type 0
ResultAs a_result S xs k i = GoalAt S.goals (item xs 1) k × Refers (item xs 2) i
ResultAs a_var S xs k i = ⊥
ResultAs a_def S xs k i = ⊥
ResultAs a_hyp S xs k i = ⊥
ResultAs a_rule_hyp S xs k i = ⊥
ResultAs a_step S xs k i = ⊥
ResultAs an_apply S xs k i = ⊥
ResultAs an_induct S xs k i = ⊥
ResultAs an_induct_with S xs k i = ⊥
ResultAs an_invert S xs k i = ⊥

unfoldable pub ResultOf : State → Sexp → ℕ → ℕ → Type 0
ResultOf S (atom p bs) k i = ⊥
ResultOf S (list xs) k i = (t : Tag) × (tag_of (item xs 0) (count xs) ≡ some t) × ResultAs t S xs k i
