-- Demand 3's last sentence: every written derivation is accepted exactly when it stays inside the limits. `derivation_accepted` is the
-- theorem; what it speaks of is defined in Written. Assumes nothing.
use Rattle.std.specs.Prelude.{ℕ, suc, ◌⊎◌, Bool, ◌&&◌, length}
use Rattle.std.proofs.Common.{arith, ◌∙◌, inl}
use Rattle.std.proofs.Math.Path.{◌≡◌, refl, ap, subst}
use Rattle.std.proofs.Math.Bool.{true, false}
use mathlib.Core.List.{List, []}
use Rattle.rules.specs.Text.{short, plain}
use Rattle.rules.specs.Sexp.{read}
use Rattle.rules.specs.Laws.Theory.{WellFormed}
use Rattle.rules.specs.Laws.Name.{Named, theory_named}
use Rattle.rules.specs.Laws.Declare.{reached, theory_formed}
use Rattle.rules.specs.State.{begin}
use Rattle.rules.specs.Forms.{take_goal}
use Rattle.rules.specs.Loop.{whole}
use Rattle.rules.specs.Check.{Report, Refusal, accepts, refuses, refused_in, after_goals, after_theory, first_failing, readable, fitting, check}
use Rattle.meaning.specs.Trees.Tests.{true_false}
use Rattle.meaning.specs.Written.{Names, goal_forms, proof_forms, Written, fits, inside, steps_alone, Verdict}
use Rattle.meaning.specs.Writing.Read.{text_read}
use Rattle.meaning.specs.Writing.Node.{Concludes}
use Rattle.meaning.specs.Writing.Step.{and_false}
use Rattle.meaning.specs.Writing.Run.{nodes_conclude, out, moved, and_on}
use Rattle.meaning.proofs.Writing.Texts.{goals_read, Passed, passed, failed, all_pass, passing}

-- question 2, whatever the texts
pub too_long : (t g p : List ℕ) → (short t && (short g && short p)) ≡ false → (r : Refusal) × ((check t g p).answer ≡ refuses r) × (r.number ≡ 2)
unfolding check fitting refused_in
too_long t g p e = go (passing short t g p)
  where
    go : Passed short t g p → (r : Refusal) × ((check t g p).answer ≡ refuses r) × (r.number ≡ 2)
    go (passed f q) = absurd (true_false (short t && (short g && short p)) f e)
    go (failed k f q) = (record { number = 2; text = suc k; form = 0; detail = 0 }, ap (λ n. (fitting t g p n).answer) q, refl)

module _ {t g p : List ℕ} (w : Written t g p) where
  formed : WellFormed w.theory
  unfolding reached
  formed = subst (λ z. WellFormed (reached z)) w.taken (theory_formed t)

  named : Named w.theory
  unfolding reached
  named = subst (λ z. Named (reached z)) w.taken (theory_named t)

  concludes : Concludes w.theory w.judgment
  unfolding Names
  concludes = nodes_conclude w.theory formed [] w.steps w.concluded.0 w.judgment w.nodes w.concluded.2

  -- the texts pass questions 2 and 3
  reads_on : first_failing short t g p ≡ 0 → check t g p ≡ after_goals p (whole take_goal (read g) (begin w.theory))
  unfolding check fitting readable after_theory
  reads_on e =
      ap (fitting t g p) e
      ∙ (ap (readable t g p) (all_pass plain t g p w.plains.0 w.plains.1 w.plains.2)
      ∙ ap (after_theory g p) w.taken)

  -- every written derivation is accepted exactly when it is inside the limits, and otherwise refused by 2, 5 or 60
  pub derivation_accepted : Verdict (inside w) (length w.steps) (check t g p).answer
  unfolding inside fits check fitting refused_in
  derivation_accepted = go (passing short t g p)
    where
      go : Passed short t g p → Verdict (inside w) (length w.steps) (check t g p).answer
      go (passed e q) =
          moved (inside w) _ (length w.steps) (length w.steps) (check t g p).answer _ (and_on (short t && (short g && short p)) _ e) refl (ap (λ o. o.answer) (reads_on q))
          (goals_read w.listing w.theory formed named w.goal w.judgment concludes w.root w.steps w.nodes w.concluded p
          (text_read p (proof_forms w.theory w.steps w.goal w.root) w.proof)
          (read g) (text_read g (goal_forms w.listing w.theory w.goal w.judgment) w.goals))
      go (failed k e q) =
          let r = too_long t g p e in
          out (inside w) (length w.steps) (check t g p).answer r.0 (and_false (short t && (short g && short p)) _ e) r.1 (inl r.2)

  -- The same in three sentences: what is inside is accepted, what is accepted is inside, and only 2, 5 and 60 refuse ------------------

  pub inside_accepted : inside w ≡ true → (check t g p).answer ≡ accepts (steps_alone (length w.steps))
  unfolding Verdict
  inside_accepted e = subst (λ b. Verdict b (length w.steps) (check t g p).answer) e derivation_accepted

  pub accepted_inside : (r : Report) → (check t g p).answer ≡ accepts r → inside w ≡ true
  unfolding Verdict
  accepted_inside r e = go (inside w) refl derivation_accepted
    where
      go : (b : Bool) → inside w ≡ b → Verdict b (length w.steps) (check t g p).answer → inside w ≡ true
      go true q v = q
      go false q v = let a = v.1 in let z : ◌≡◌ {A = ℕ} 0 1 = cc in absurd (omega arith)

  pub refused_outside : (r : Refusal) → (check t g p).answer ≡ refuses r → (inside w ≡ false) × ((r.number ≡ 2) ⊎ ((r.number ≡ 5) ⊎ (r.number ≡ 60)))
  unfolding Verdict
  refused_outside r e = go (inside w) refl derivation_accepted
    where
      go : (b : Bool) → inside w ≡ b → Verdict b (length w.steps) (check t g p).answer
          → (inside w ≡ false) × ((r.number ≡ 2) ⊎ ((r.number ≡ 5) ⊎ (r.number ≡ 60)))
      go true q v = let z : ◌≡◌ {A = ℕ} 0 1 = cc in absurd (omega arith)
      go false q v =
          let a = v.1 in
          (q, subst (λ (x : Refusal). (x.number ≡ 2) ⊎ ((x.number ≡ 5) ⊎ (x.number ≡ 60))) (let z : v.0 ≡ r = cc in z) v.2)
