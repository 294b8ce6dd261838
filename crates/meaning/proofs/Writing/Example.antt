-- A written derivation of two nodes over the examples' theory, c0 under c1, in texts with comments and other spellings of the indices: its
-- judgment is derived, it is inside the limits, and it is accepted. The definitions of Written are met, and not for want of cases.
use Rattle.std.specs.Prelude.{ℕ, zero, suc, ◌<◌, ◌≡◌, refl, Bool, true, false, List, [], ◌∷◌}
use Rattle.std.proofs.Common.{arith}
use Rattle.rules.specs.Text.{bytes, plain}
use Rattle.rules.specs.Sexp.{read}
use Rattle.rules.specs.Tree.{Tree, app, none, more}
use Rattle.rules.specs.Theory.{Theory, no_theory, rule}
use Rattle.rules.specs.Declare.{declare}
use Rattle.rules.specs.Laws.Declare.{reached}
use Rattle.rules.specs.Loop.{whole}
use Rattle.rules.specs.Check.{accepts, check, checking}
use Rattle.rules.specs.Examples.{theory}
use Rattle.meaning.specs.Signature.{sig, Value, arity, rule_sort}
use Rattle.meaning.specs.Written.{marks, mark, spelling, Writes, shallow, symbol_name, rule_name, applied, term_form, judgment_form, Step, conclusion, conclusions, Names, NamesAll}
use Rattle.meaning.specs.Written.{Nodes, the_goal, goal_forms, atoms, step_form, result_form, proof_forms, Written, trees_of, once, gather, few, roomy, fits, inside, steps_alone}
use Rattle.meaning.proofs.Writing.Accepted.{inside_accepted}

unfoldable pub example_theory : Theory
example_theory = reached (whole declare (read theory) no_theory)

-- both spellings of its goal
unfoldable pub goals : Bool → List ℕ
goals false = bytes "; renewed once\n(goal renewed (Child (renew first)))"
goals true = bytes "(goal renewed ( ) ; nothing listed\n(Child (renew first)))"

abbrev proof : List ℕ
proof = bytes "(step 0 c0 () (Child first)) (step +1 c1 (00) (Child(renew first))) ; both\n(result renewed 1)"

-- the variable of c1 is `first`
abbrev by_first : ℕ → Tree
by_first v = app 0 none

abbrev two_steps : List Step
two_steps =
    record { rule = 0; replacement = by_first; index = bytes "0"; children = [] } ∷
    record { rule = 1; replacement = by_first; index = bytes "+1"; children = bytes "00" ∷ [] } ∷ []

-- c1 has one variable, of sort Pass
first_of_sort : (i : ℕ) → i < arity (rule example_theory 1) → Value (sig example_theory) (by_first i) (rule_sort (rule example_theory 1) i)
unfolding checking example_theory reached Value arity rule_sort sig
first_of_sort zero l = (omega arith, refl, tt)
first_of_sort (suc i) l = absurd (let z : ⊥ = omega arith in z)

pub two_nodes : Nodes example_theory [] two_steps
unfolding checking example_theory reached Nodes Names NamesAll conclusion Value arity rule_sort sig
two_nodes = (
  record { known = omega arith; grounded = λ i l. absurd (let z : ⊥ = omega arith in z); next = refl; children = tt },
  (record { known = omega arith; grounded = first_of_sort; next = refl; children = ((0, refl, refl), tt) }, tt),
)

abbrev renewed : Tree
renewed = app 2 (more (app 1 (more (app 0 none) none)) none)

pub goals_written : (b : Bool) → Writes (goals b) (goal_forms b example_theory (bytes "renewed") renewed) × (plain (goals b) ≡ true)
unfolding checking example_theory reached Writes marks mark spelling goals the_goal goal_forms judgment_form term_form applied symbol_name
goals_written false = (refl, refl)
goals_written true = (refl, refl)

unfoldable pub two_written : (b : Bool) → Written theory (goals b) proof
unfolding checking example_theory reached Nodes Names NamesAll conclusion conclusions Value arity rule_sort sig Writes marks mark spelling proof_forms step_form result_form judgment_form term_form applied symbol_name rule_name atoms
two_written b = record {
  theory = example_theory;
  forms = 13;
  taken = refl;
  steps = two_steps;
  nodes = two_nodes;
  root = bytes "1";
  judgment = renewed;
  concluded = (1, refl, refl);
  goal = bytes "renewed";
  listing = b;
  goals = (goals_written b).0;
  proof = refl;
  plains = (refl, (goals_written b).1, refl);
}

pub two_inside : (b : Bool) → inside (two_written b) ≡ true
unfolding checking example_theory reached two_written inside fits roomy shallow once gather few trees_of conclusion conclusions goals the_goal goal_forms proof_forms step_form result_form judgment_form term_form applied symbol_name rule_name atoms
two_inside false = refl
two_inside true = refl

-- by the theorem
pub two_accepted : (b : Bool) → (check theory (goals b) proof).answer ≡ accepts (steps_alone 2)
unfolding two_written
two_accepted b = inside_accepted (two_written b) (two_inside b)

-- and by computation
two_checked : (b : Bool) → (check theory (goals b) proof).answer ≡ accepts (steps_alone 2)
unfolding checking steps_alone goals
two_checked false = refl
two_checked true = refl
