-- The answer at the end of a check, from what stands when no form is left. Assumes nothing.
use Rattle.std.specs.Prelude.{◌≡◌, refl, List, [], ◌∷◌, ℕ, suc, length, replicate, Result, Ok, Err}
use Rattle.std.proofs.Common.{sym, ap, ◌∙◌, arith}
use Rattle.rules.specs.Limits.{GOALS}
use Rattle.rules.specs.Check.{accepts, refused_in, report, missing, ended, count_open, check}
use Rattle.rules.specs.StateTables.{missing_of}
use Rattle.rules.specs.TheoryTables.{filled}
use Rattle.questions.specs.declared.Question.TheVariants.{MissingResults}
use Rattle.questions.specs.declared.Text.TheVariants.{Proof}
use Rattle.rules.specs.Laws.Theory.{all_map}
use Rattle.terms.specs.declared.store.Mark.{Mark}
use Rattle.terms.specs.Table.{made}
use Rattle.state.specs.Filled.{filled_none}
use Rattle.state.specs.Numbered.{sound_in}
use Rattle.state.specs.declared.sizes.Sizes.{Sizes}
use Rattle.state.specs.Stands.{Board}
use Rattle.running.specs.declared.stopped.Stopped.{Stopped}
use Rattle.running.specs.declared.stopped.Proved.{Proved}
use Rattle.running.specs.declared.refusal.Refusal.{Refusal}
use Rattle.running.specs.declared.refusal.Refusal.TheVariants as refusal
use Rattle.running.specs.Finished.{unproved, GoalRows, OpenRows, ListedFor, FinishGiven, Finishes, answer_of}

module _ {e : Result Proved Stopped} {B : Board} {n : Sizes} {m : Mark} (g : FinishGiven e B n m) where
  abbrev pub goal_rows_given : GoalRows B.goals n.goals
  goal_rows_given =
      record { gs = g.S.goals; text = g.over.X.goals; trees = made B.index B.words m; held = g.over.stands.goals }

  abbrev pub open_rows_given : OpenRows B.goals B.index B.words m n.goals
  open_rows_given =
      record {
        gs = g.S.goals;
        text = g.over.X.goals;
        good = g.over.stands.good;
        held = g.over.stands.goals;
        there = all_map (λ x i. sound_in (made B.index B.words m) x.judgment i.judgment) g.over.stands.spelling.trees.goals;
      }

  -- what `count_missing` and `list_missing` say
  abbrev pub Counts : ℕ → Type 0
  Counts many = (h : GoalRows B.goals n.goals) → many ≡ length (unproved h.gs)

  abbrev pub Lists : List ℕ → Type 0
  Lists after = (h : GoalRows B.goals n.goals) → after ≡ filled GOALS (unproved h.gs)

-- the check has stopped
module _ {x : Stopped} {B : Board} {n : Sizes} {m : Mark} (g : FinishGiven (Err x) B n m) where
  pub carried : {r : Refusal} {after : List ℕ} → r ≡ refusal.Stopped x →
      ((h : GoalRows B.goals n.goals) → ListedFor x.refused.question (unproved h.gs) after) → Finishes g.theory g.goals g.proof (Err r) after
  unfolding refused_in missing_of missing
  carried w f =
      record {
        is = ap (λ k. answer_of (Err k)) w ∙ ap (λ O. O.answer) g.over.is;
        named = f (goal_rows_given g) ∙ ap (λ O. filled GOALS (missing_of O.answer O.state)) g.over.is;
      }

-- it has gone through the proof
module _ {p : Proved} {B : Board} {n : Sizes} {m : Mark} (g : FinishGiven (Ok p) B n m) where
  pub question_53 : {s : Stopped} {after : List ℕ} {many : ℕ} →
      s ≡ record { text = Proof; refused = record { question = MissingResults many; form = p.forms } } → Counts g many → Lists g after → (many ≡ 0 → ⊥) →
      Finishes g.theory g.goals g.proof (Err (refusal.Stopped s)) after
  unfolding missing ended refused_in missing_of
  question_53 {s} {after} {many} w f l q = go (missing g.S) refl
    where
      go : (xs : List ℕ) → missing g.S ≡ xs → Finishes g.theory g.goals g.proof (Err (refusal.Stopped s)) after
      go [] z = absurd (q (f (goal_rows_given g) ∙ ap length z))
      go (x ∷ xs) z =
          let y : refused_in 3 53 many p.forms g.S ≡ check g.theory g.goals g.proof =
          ap (λ d. refused_in 3 53 d p.forms g.S) (f (goal_rows_given g) ∙ ap length z) ∙ sym (ap (ended p.forms g.S) z) ∙ g.over.is in
          record {
            is = ap (λ v. answer_of (Err (refusal.Stopped v))) w ∙ ap (λ O. O.answer) y;
            named = l (goal_rows_given g) ∙ ap (λ O. filled GOALS (missing_of O.answer O.state)) y;
          }

  pub accepted : {after : List ℕ} {many opens : ℕ} → Counts g many → after ≡ replicate GOALS 0 → many ≡ 0 → opens ≡ count_open g.S.goals →
      Finishes g.theory g.goals g.proof (Ok (record { steps = n.facts; goals = n.goals; open_goals = opens; counts = p.counts })) after
  unfolding missing ended report missing_of
  accepted {after} {many} {opens} f l q o = go (missing g.S) refl
    where
      go : (xs : List ℕ) → missing g.S ≡ xs →
          Finishes g.theory g.goals g.proof (Ok (record { steps = n.facts; goals = n.goals; open_goals = opens; counts = p.counts })) after
      go [] z =
          let y = sym (ap (ended p.forms g.S) z) ∙ g.over.is in
          record {
            is = (λ i.
                accepts
                (record {
                  steps = g.over.stands.recorded.many i;
                  goals = sym g.over.stands.goals.many i;
                  open_goals = o i;
                  hypotheses = (sym g.counted i).hypotheses;
                  inductions = (sym g.counted i).inductions;
                  inversions = (sym g.counted i).inversions;
                  instances = (sym g.counted i).instances;
                }))
                ∙ ap (λ O. O.answer) y;
            named = l ∙ sym (filled_none GOALS) ∙ ap (λ O. filled GOALS (missing_of O.answer O.state)) y;
          }
      go (x ∷ xs) z = absurd (let v : length (unproved g.S.goals) ≡ suc (length xs) = ap length z in omega (arith, f (goal_rows_given g), q))
