-- The whole check of three texts: every question from 2 on in its order, the answer, and what stands when it is given. Question 1 is about the
-- lent tables; `Checked` of StateTables puts it before these. Assumes nothing.
use Rattle.std.specs.Prelude.{ℕ, zero, suc, Bool, true, false, not, List, [], ◌∷◌, eqb, length}
use Rattle.rules.specs.Text.{short, plain, texts}
use Rattle.rules.specs.Sexp.{read, reading}
use Rattle.rules.specs.Find.{every}
use Rattle.rules.specs.Tree.{is_open}
use Rattle.rules.specs.Theory.{Theory, no_theory}
use Rattle.rules.specs.Declare.{declare, declaring}
use Rattle.rules.specs.Loop.{Judged, done, refused, through, whole, judging}
use Rattle.rules.specs.State.{State, Goal, begin}
use Rattle.rules.specs.Forms.{take_goal, take_form, taking}

pub record Report : Type 0 where
  pub steps : ℕ
  pub goals : ℕ
  pub open_goals : ℕ
  pub hypotheses : ℕ
  pub inductions : ℕ
  pub inversions : ℕ
  pub instances : ℕ

-- number; text: 0 none, 1 theory, 2 goals, 3 proof; form: complete forms before it; detail
pub record Refusal : Type 0 where
  pub number : ℕ
  pub text : ℕ
  pub form : ℕ
  pub detail : ℕ

pub data Answer : Type 0 where
  accepts : Report → Answer
  refuses : Refusal → Answer

-- state: what the tables hold
pub record Outcome : Type 0 where
  pub answer : Answer
  pub state : State

unfoldable pub refused_in : ℕ → ℕ → ℕ → ℕ → State → Outcome
refused_in t n d k S = record { answer = refuses (record { number = n; text = t; form = k; detail = d }); state = S }

-- Reports -----------------------------------------------------------------------------------------------------------------------------

unfoldable pub count_open : List Goal → ℕ
count_open [] = 0
count_open (g ∷ gs) = elim (is_open g.judgment) [ true ↦ suc (count_open gs) | false ↦ count_open gs ]

unfoldable pub report : State → Report
report S = record {
  steps = length S.facts;
  goals = length S.goals;
  open_goals = count_open S.goals;
  hypotheses = S.counts.hypotheses;
  inductions = S.counts.inductions;
  inversions = S.counts.inversions;
  instances = S.counts.instances;
}

-- the goals without a result, numbered from 1
unfoldable pub missing : State → List ℕ
missing S = every (λ g. not g.taken) S.goals 1

-- The texts in turn ---------------------------------------------------------------------------------------------------------------------

-- question 53, k forms behind
unfoldable pub ended : ℕ → State → List ℕ → Outcome
ended k S [] = record { answer = accepts (report S); state = S }
ended k S (g ∷ gs) = refused_in 3 53 (length (g ∷ gs)) k S

unfoldable pub after_proof : Judged State → Outcome
after_proof (done k S) = ended k S (missing S)
after_proof (refused n d k S) = refused_in 3 n d k S

-- question 25, k forms behind; then the proof
unfoldable pub after_goals : List ℕ → Judged State → Outcome
after_goals proof (refused n d k S) = refused_in 2 n d k S
after_goals proof (done k S) =
    elim (eqb (length S.goals) 0) [
      | true ↦ refused_in 2 25 0 k S
      | false ↦ after_proof (through take_form (read proof) 0 S)
    ]

unfoldable pub after_theory : List ℕ → List ℕ → Judged Theory → Outcome
after_theory goals proof (refused n d k T) = refused_in 1 n d k (begin T)
after_theory goals proof (done k T) = after_goals proof (whole take_goal (read goals) (begin T))

-- the first of the three that fails a test, from 1
unfoldable pub first_failing : (List ℕ → Bool) → List ℕ → List ℕ → List ℕ → ℕ
first_failing p t g f = elim (p t) [ false ↦ 1 | true ↦ elim (p g) [ false ↦ 2 | true ↦ elim (p f) [ false ↦ 3 | true ↦ 0 ] ] ]

-- questions 3 and on
unfoldable pub readable : List ℕ → List ℕ → List ℕ → ℕ → Outcome
readable t g f zero = after_theory g f (whole declare (read t) no_theory)
readable t g f (suc k) = refused_in (suc k) 3 0 0 (begin no_theory)

-- questions 2 and on
unfoldable pub fitting : List ℕ → List ℕ → List ℕ → ℕ → Outcome
fitting t g f zero = readable t g f (first_failing plain t g f)
fitting t g f (suc k) = refused_in (suc k) 2 0 0 (begin no_theory)

-- theory, goals, proof
unfoldable pub check : List ℕ → List ℕ → List ℕ → Outcome
check t g f = fitting t g f (first_failing short t g f)

-- `unfolding checking` opens all of the above, for a computation
unfoldable pub checking : Unit {0}
unfolding texts reading declaring judging taking refused_in count_open report missing ended after_proof after_goals after_theory first_failing readable fitting check
checking = tt
