-- A list of forms gone through, form by form, a refused one at the end included: the words of the theorems. "The list of forms starts
-- behind the goals, without a fact. Each form gets the tables and counts as the last one left them." Definitions only.
use Rattle.std.specs.Prelude.{ℕ, ◌≡◌, ◌⊎◌, List}
use Rattle.rules.specs.Out.{Out, ok, refuse, Act}
use Rattle.rules.specs.Sexp.{Sexp, Text, ends, fails, more, read}
use Rattle.rules.specs.Theory.{Theory, no_theory}
use Rattle.rules.specs.Declare.{declare}
use Rattle.rules.specs.Loop.{done, through, whole}
use Rattle.rules.specs.State.{State, begin}
use Rattle.rules.specs.Forms.{take_goal, take_form}
use Rattle.rules.specs.Laws.Reached.{end_of}
use Rattle.meaning.specs.Named.{Calm, ResultOf}
use Rattle.meaning.specs.Sets.{Sets, Respects}

-- a theory text and a goals text that are taken, and the state behind them
pub record Taken (theory goals : List ℕ) (T : Theory) (S : State) : Type 0 where
  pub theory_forms : ℕ
  pub theory_taken : whole declare (read theory) no_theory ≡ done theory_forms T
  pub goal_forms_lem : ℕ
  pub goals_taken : whole take_goal (read goals) (begin T) ≡ done goal_forms_lem S

-- the state behind the forms of a proof: behind the last of them, or before the first that is refused
unfoldable pub after : Text → State → State
after forms S = end_of (through take_form forms 0 S)

-- Every form ------------------------------------------------------------------------------------------------------------------------

-- C of a form that was taken, and K of the state behind it
unfoldable pub IfTaken : Type 0 → (State → Type 0) → Out State (Unit {0}) → Type 0
IfTaken C K (ok a u) = C × K u
IfTaken C K (refuse n d u) = Unit {0}

-- C of each form that is taken, and of the state that it met
unfoldable pub Throughout : (State → Sexp → Type 0) → (Sexp → Act State (Unit {0})) → Text → State → Type 0
Throughout C f ends S = Unit {0}
Throughout C f (fails n) S = Unit {0}
Throughout C f (more x p t) S = IfTaken (C S x) (λ u. Throughout C f t u) (f x S)

-- no reference and no case of a form that is taken names a rule hypothesis with premises
abbrev pub Calmly : Text → State → Type 0
Calmly forms S = Throughout Calm take_form forms S

-- the sets respect every form that is taken
abbrev pub Respectful : Sets → Text → State → Type 0
Respectful K forms S = Throughout (Respects K) take_form forms S

-- the premise, of three texts
unfoldable pub CalmTexts : List ℕ → List ℕ → List ℕ → Type 0
CalmTexts theory goals proof = (T : Theory) (S : State) → Taken theory goals T S → Calmly (read proof) S

-- Some form -------------------------------------------------------------------------------------------------------------------------

-- the form was taken, and C of it or K of the state behind it
unfoldable pub OrLater : Type 0 → (State → Type 0) → Out State (Unit {0}) → Type 0
OrLater C K (ok a u) = C ⊎ K u
OrLater C K (refuse n d u) = ⊥

-- C of some form that is taken, and of the state that it met
unfoldable pub Somewhere : (State → Sexp → Type 0) → (Sexp → Act State (Unit {0})) → Text → State → Type 0
Somewhere C f ends S = ⊥
Somewhere C f (fails n) S = ⊥
Somewhere C f (more x p t) S = OrLater (C S x) (λ u. Somewhere C f t u) (f x S)

-- a form that is taken is the result of goal k, and names fact i
abbrev pub Results : Text → State → ℕ → ℕ → Type 0
Results forms S k i = Somewhere (λ U x. ResultOf U x k i) take_form forms S
