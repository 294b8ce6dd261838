-- The words of what is claimed of the definition; the claims, proved, stand in proofs/Theorems. The other words are defined in Signature (ground
-- terms), Derivation, Truth, Named (the premise, and what a result names), Sets, Runs (a list of forms gone through) and Inversions.
use Rattle.std.specs.Prelude.{ℕ, ◌≡◌, ◌⊎◌, true, Some as some}
use Rattle.rules.specs.Sexp.{Text}
use Rattle.rules.specs.Find.{entry}
use Rattle.rules.specs.Tree.{Tree, sub}
use Rattle.rules.specs.Theory.{Theory}
use Rattle.rules.specs.State.{State, Fact, Goal, sort_of_var}
use Rattle.meaning.specs.Trees.Tree.{Occ, Occs, Among}
use Rattle.meaning.specs.Signature.{sig, Value}
use Rattle.meaning.specs.Derivation.{Der, RuleOf}
use Rattle.meaning.specs.Truth.{At, True}
use Rattle.meaning.specs.Named.{RuleHyp}
use Rattle.meaning.specs.Sets.{Sets}
use Rattle.meaning.specs.Runs.{after, Results}

-- the sorts of a state's variables
abbrev pub sorts_of : State → ℕ → ℕ
sorts_of S v = sort_of_var S.vars v

-- γ gives each variable of the goal, and of what it lists, a ground term of its sort
abbrev pub Grounds : Theory → State → Goal → (ℕ → Tree) → Type 0
Grounds T S g γ = (v : ℕ) → Occ v g.judgment ⊎ Occs v g.hyps → Value (sig T) (γ v) (sorts_of S v)

-- under each ground replacement under which the judgments that the goal lists are derivable, so is its own; R: the rules that may be used
abbrev pub Follows : Theory → (ℕ → Type 0) → State → Goal → Type 0
Follows T R S g = (γ : ℕ → Tree) → Grounds T S g γ → ((t : Tree) → Among t g.hyps → Der T R (sub γ t)) → Der T R (sub γ g.judgment)

-- the claim on the facts and goals of a state: every recorded fact other than a rule hypothesis with premises is true, and every goal with
-- its result taken is derivable
pub record Right (T : Theory) (S : State) : Type 0 where
  pub facts : (i : ℕ) (f : Fact) → At S.facts i f → ¬ (RuleHyp f) → True T (sorts_of S) (RuleOf T) S.facts f
  pub goals : (k : ℕ) (g : Goal) → entry S.goals k ≡ some g → g.taken ≡ true → Follows T (RuleOf T) S g

-- R has the rules on which fact i rests, and only such as it tolerates
pub record Suffices (K : Sets) (i : ℕ) (R : ℕ → Type 0) : Type 0 where
  pub mine : (r : ℕ) → K.part i r → R r
  pub theirs : (r : ℕ) → R r → K.known i r

-- the same behind a list of forms, with any rules that suffice for the fact; for a goal, for the fact that its result names, bare or as
-- an instance. Every goal that is taken has such a result in the list
pub record Firm (K : Sets) (T : Theory) (S : State) (forms : Text) : Type 1 where
  pub facts : (i : ℕ) (f : Fact) → At (after forms S).facts i f → ¬ (RuleHyp f) → (R : ℕ → Type 0) → Suffices K i R
      → True T (sorts_of (after forms S)) R (after forms S).facts f
  pub goals : (k : ℕ) (g : Goal) → entry (after forms S).goals k ≡ some g → (i : ℕ) → Results forms S k i → (R : ℕ → Type 0) → Suffices K i R
      → Follows T R (after forms S) g
  pub taken : (k : ℕ) (g : Goal) → entry (after forms S).goals k ≡ some g → g.taken ≡ true → (i : ℕ) × Results forms S k i
