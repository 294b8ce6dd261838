-- The goals text of a written derivation, and what is asked of the three texts before they are read. Assumes nothing.
use Rattle.std.specs.Prelude.{ℕ, suc, ◌+◌, ◌≡◌, Bool, false, ◌&&◌, leb}
use native.Mathlib.Omega.{arith}
use Rattle.std.proofs.Math.Path.{refl, ap}
use Rattle.std.proofs.Common.{◌∙◌, ap₂, inl, inr}
use Rattle.std.proofs.Math.Bool.{true}
use mathlib.Core.List.{List, []}
use Rattle.std.proofs.Math.ListN.{length}
use Rattle.rules.specs.Limits.{FACTS}
use Rattle.rules.specs.Out.{Out, ok, refuse, Act}
use Rattle.rules.specs.Sexp.{Sexp, atom, list, Text, ends, fails, more as moreᵗ, read}
use Rattle.rules.specs.Tree.{Tree, more}
use Rattle.rules.specs.Store.{Made, make, makes}
use Rattle.rules.specs.Theory.{Theory}
use Rattle.rules.specs.Laws.Theory.{WellFormed}
use Rattle.rules.specs.Laws.Name.{Named}
use Rattle.rules.specs.State.{begin}
use Rattle.rules.specs.Forms.{take_goal}
use Rattle.rules.specs.Loop.{through, unread, whole}
use Rattle.rules.specs.Check.{refused_in, after_goals, first_failing}
use Rattle.meaning.specs.Written.{shallows, Step, conclusions, Names, Nodes, goal_forms, proof_forms, trees_of, roomy, Verdict}
use Rattle.meaning.specs.Writing.Gather.{answers, makes_few}
use Rattle.meaning.specs.Writing.Read.{Reads}
use Rattle.meaning.specs.Writing.Node.{Concludes, Recorded}
use Rattle.meaning.specs.Writing.Step.{and_false}
use Rattle.meaning.specs.Writing.Forms.{state_of, awaited, GoalTook, goal_taken}
use Rattle.meaning.specs.Writing.Run.{out, moved, through_ok, through_off, makes_on, makes_off, and_off, run}

-- The goals text ------------------------------------------------------------------------------------------------------------------

-- a text of one form is judged as it is read
whole_one : {S : Type 0} (f : Sexp → Act S (Unit {0})) (x : Sexp) (i : ℕ) (s : S) → whole f (moreᵗ x i ends) s ≡ through f (moreᵗ x i ends) 0 s
unfolding whole unread
whole_one f (atom p bs) i s = refl
whole_one f (list xs) i s = refl

module _ (listing : Bool) (T : Theory) (w : WellFormed T) (nm : Named T) (gn : List ℕ) (j : Tree) (c : Concludes T j) (r : List ℕ) (ss : List Step)
    (n : Nodes T [] ss) (a : Names (conclusions T ss) r j) (proof : List ℕ) (rp : Reads (proof_forms T ss gn r) (read proof)) where
  -- inside the limits, the texts' lengths apart
  abbrev within : Bool
  within = (shallows 0 (goal_forms listing T gn j) && shallows 0 (proof_forms T ss gn r)) && roomy T j ss

  -- behind the goal
  goal_behind : (q : ℕ) (x : Sexp) (i : ℕ) → shallows 0 (goal_forms listing T gn j) ≡ true → (o : Out Made Tree) → make j [] ≡ o
      → GoalTook T q gn j o (take_goal x (begin T))
      → Verdict within (length ss) (after_goals proof (whole take_goal (moreᵗ x i ends) (begin T))).answer
  unfolding GoalTook roomy after_goals through Recorded refused_in
  goal_behind q x i sh (ok b m) f took =
      let same : length ss ≡ 0 + length ss = omega arith in
      moved within _ (length ss) (0 + length ss) _ _
      (ap₂ (λ y z. (y && shallows 0 (proof_forms T ss gn r)) && (leb (length ss) FACTS && z)) sh
      (makes_few (more j (trees_of (conclusions T ss))) ∙ makes_on j (trees_of (conclusions T ss)) [] m b f)
      ∙ ap (λ k. shallows 0 (proof_forms T ss gn r) && (leb k FACTS && answers (makes (trees_of (conclusions T ss)) m))) same)
      same
      (ap (λ z. (after_goals proof z).answer) (whole_one take_goal x i (begin T) ∙ through_ok take_goal x i ends 0 (begin T) (state_of T m (awaited q gn j) []) took))
      (run T w nm q gn j c r ss (read proof) 0 m [] [] tt n a (omega arith) rp)
  goal_behind q x i sh (refuse k d m) f took =
      out within (length ss) _ (record { number = 60; text = 2; form = 0; detail = took.row })
      (and_off (shallows 0 (goal_forms listing T gn j) && shallows 0 (proof_forms T ss gn r)) _
      (and_off (leb (length ss) FACTS) _ (makes_few (more j (trees_of (conclusions T ss))) ∙ makes_off j (trees_of (conclusions T ss)) [] m k d f)))
      (ap (λ z. (after_goals proof z).answer) (whole_one take_goal x i (begin T) ∙ through_off take_goal x i ends 0 (begin T) 60 took.row took.state took.is))
      (inr (inr refl))

  pub goals_read : (text : Text) → Reads (goal_forms listing T gn j) text → Verdict within (length ss) (after_goals proof (whole take_goal text (begin T))).answer
  unfolding goal_forms Reads whole unread after_goals refused_in shallows
  goals_read ends rd = absurd rd
  goals_read (fails i) rd =
      out within (length ss) _ (record { number = i; text = 2; form = 0; detail = 0 })
      (and_false _ (roomy T j ss) (and_false _ (shallows 0 (proof_forms T ss gn r)) (and_false _ true rd.1))) refl (inr (inl rd.0))
  goals_read (moreᵗ x i ends) rd =
      let g = goal_taken T w nm gn j c listing x rd.0 in
      goal_behind g.0 x i (ap (λ b. b && true) rd.1) (make j []) refl g.1
  goals_read (moreᵗ x i (fails k)) rd = absurd rd.2
  goals_read (moreᵗ x i (moreᵗ y k t)) rd = absurd rd.2

-- Before reading ------------------------------------------------------------------------------------------------------------------

-- all three pass the test, or one is the first that does not
pub data Passed (p : List ℕ → Bool) (t g f : List ℕ) : Type 0 where
  passed : (p t && (p g && p f)) ≡ true → first_failing p t g f ≡ 0 → Passed p t g f
  failed : (k : ℕ) → (p t && (p g && p f)) ≡ false → first_failing p t g f ≡ suc k → Passed p t g f

-- by the three answers
abbrev pick : Bool → Bool → Bool → ℕ
pick a b c =
    elim a as (λ _. ℕ) [ false ↦ 1 | true ↦ elim b as (λ _. ℕ) [ false ↦ 2 | true ↦ elim c as (λ _. ℕ) [ false ↦ 3 | true ↦ 0 ] ] ]

module _ (p : List ℕ → Bool) (t g f : List ℕ) where
  picked : (a b c : Bool) → p t ≡ a → p g ≡ b → p f ≡ c → first_failing p t g f ≡ pick a b c
  unfolding first_failing
  picked a b c x y z = ap (λ e. pick e (p g) (p f)) x ∙ (ap (λ e. pick a e (p f)) y ∙ ap (pick a b) z)

  pub all_pass : p t ≡ true → p g ≡ true → p f ≡ true → first_failing p t g f ≡ 0
  all_pass x y z = picked true true true x y z

  pub passing : Passed p t g f
  passing = go (p t) (p g) (p f) refl refl refl
    where
      tested : (a b c : Bool) → p t ≡ a → p g ≡ b → p f ≡ c → (p t && (p g && p f)) ≡ (a && (b && c))
      tested a b c x y z = ap₂ ◌&&◌ x (ap₂ ◌&&◌ y z)

      go : (a b c : Bool) → p t ≡ a → p g ≡ b → p f ≡ c → Passed p t g f
      go true true true x y z = passed (tested true true true x y z) (picked true true true x y z)
      go true true false x y z = failed 2 (tested true true false x y z) (picked true true false x y z)
      go true false c x y z = failed 1 (tested true false c x y z) (picked true false c x y z)
      go false b c x y z = failed 0 (tested false b c x y z) (picked false b c x y z)
