-- What holds at the beginning and is kept by every form of goals and proof holds in every state that a check reaches: of the state that its
-- answer is given in, whatever the answer. The beginning is over a theory that was declared. Assumes nothing.
use Prim.Native.Nat.{ℕ, zero, suc}
use Rattle.std.specs.Prelude.{Bool, eqb, length, Option, Some as some, None as nothing}
use Rattle.std.proofs.Math.Bool.{true, false}
use mathlib.Core.List.{List, [], ◌∷◌}
use Rattle.rules.specs.Out.{Out, ok, refuse, Act}
use Rattle.rules.specs.Sexp.{Sexp, Text, ends, fails, more, read}
use Rattle.rules.specs.Text.{short, plain}
use Rattle.rules.specs.Theory.{Theory, no_theory}
use Rattle.rules.specs.Declare.{declare}
use Rattle.rules.specs.Loop.{Judged, done, refused, through, unread, whole}
use Rattle.rules.specs.State.{State, begin}
use Rattle.rules.specs.Forms.{take_goal, take_form}
use Rattle.rules.specs.Check.{Outcome, refused_in, missing, ended, after_proof, after_goals, after_theory, first_failing, readable, fitting, check}
use Rattle.rules.specs.Laws.Out.{Ok, fine, off}
use Rattle.rules.specs.Laws.Theory.{WellFormed}
use Rattle.rules.specs.Laws.Declare.{reached, theory_formed, nothing_formed}

-- the state that a text leads to
unfoldable pub end_of : {S : Type 0} → Judged S → S
end_of (done k s) = s
end_of (refused n d k s) = s

module _ {S : Type 0} (P : S → Type 0) (f : Sexp → Act S (Unit {0})) (keeps : (x : Sexp) (s : S) → P s → Ok (λ a u. P u) (f x s)) where
  pub through_reaches : (t : Text) (k : ℕ) (s : S) → P s → P (end_of (through f t k s))
  unfolding through end_of
  through_reaches ends k s p = p
  through_reaches (fails n) k s p = p
  through_reaches (more x q t) k s p = go (f x s) (keeps x s p) (λ u h. through_reaches t (suc k) u h)
    where
      go : (o : Out S (Unit {0})) → Ok (λ a u. P u) o → ((u : S) → P u → P (end_of (through f t (suc k) u))) →
          P (end_of (elim o [ ok a u ↦ through f t (suc k) u | refuse n d u ↦ refused n d k s ]))
      go (ok a u) (fine h) r = r u h
      go (refuse n d u) off r = p

  pub whole_reaches : (t : Text) (s : S) → P s → P (end_of (whole f t s))
  unfolding whole end_of
  whole_reaches t s p = go (unread t 0)
    where
      go : (o : Option (ℕ × ℕ)) → P (end_of (elim o [ nothing ↦ through f t 0 s | some r ↦ refused r.0 0 r.1 s ]))
      go nothing = through_reaches t 0 s p
      go (some r) = p

-- The whole check -----------------------------------------------------------------------------------------------------------------

module _ (P : State → Type 0) (starts : (T : Theory) → WellFormed T → P (begin T))
    (goals : (x : Sexp) (S : State) → P S → Ok (λ a U. P U) (take_goal x S)) (forms : (x : Sexp) (S : State) → P S → Ok (λ a U. P U) (take_form x S)) where
  ended_reaches : (k : ℕ) (S : State) (gs : List ℕ) → P S → P (ended k S gs).state
  unfolding ended refused_in
  ended_reaches k S [] p = p
  ended_reaches k S (g ∷ gs) p = p

  after_proof_reaches : (j : Judged State) → P (end_of j) → P (after_proof j).state
  unfolding after_proof refused_in end_of
  after_proof_reaches (done k S) p = ended_reaches k S (missing S) p
  after_proof_reaches (refused n d k S) p = p

  after_goals_reaches : (proof : List ℕ) (j : Judged State) → P (end_of j) → P (after_goals proof j).state
  unfolding after_goals refused_in end_of
  after_goals_reaches proof (refused n d k S) p = p
  after_goals_reaches proof (done k S) p = go (eqb (length S.goals) 0)
    where
      go : (b : Bool) → P (elim b as (λ (z : Bool). Outcome) [ true ↦ refused_in 2 25 0 k S | false ↦ after_proof (through take_form (read proof) 0 S) ]).state
      go true = p
      go false = after_proof_reaches (through take_form (read proof) 0 S) (through_reaches P take_form forms (read proof) 0 S p)

  after_theory_reaches : (goal proof : List ℕ) (j : Judged Theory) → WellFormed (reached j) → P (after_theory goal proof j).state
  unfolding after_theory refused_in reached
  after_theory_reaches goal proof (refused n d k T) w = starts T w
  after_theory_reaches goal proof (done k T) w =
      after_goals_reaches proof (whole take_goal (read goal) (begin T)) (whole_reaches P take_goal goals (read goal) (begin T) (starts T w))

  readable_reaches : (t g f : List ℕ) (k : ℕ) → P (readable t g f k).state
  unfolding readable refused_in
  readable_reaches t g f zero = after_theory_reaches g f (whole declare (read t) no_theory) (theory_formed t)
  readable_reaches t g f (suc k) = starts no_theory nothing_formed

  fitting_reaches : (t g f : List ℕ) (k : ℕ) → P (fitting t g f k).state
  unfolding fitting refused_in
  fitting_reaches t g f zero = readable_reaches t g f (first_failing plain t g f)
  fitting_reaches t g f (suc k) = starts no_theory nothing_formed

  pub check_reaches_formed : (t g f : List ℕ) → P (check t g f).state
  unfolding check
  check_reaches_formed t g f = fitting_reaches t g f (first_failing short t g f)

-- what holds at the beginning whatever the theory
pub check_reaches : (P : State → Type 0) → ((T : Theory) → P (begin T)) → ((x : Sexp) (S : State) → P S → Ok (λ a U. P U) (take_goal x S))
    → ((x : Sexp) (S : State) → P S → Ok (λ a U. P U) (take_form x S)) → (t g f : List ℕ) → P (check t g f).state
check_reaches P starts goals forms = check_reaches_formed P (λ T w. starts T) goals forms
