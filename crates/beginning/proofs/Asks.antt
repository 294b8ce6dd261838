-- The first text that fails a test, and what the definition answers by questions 2 and 3. Assumes nothing.
use mathlib.Core.Path.{◌≡◌, refl, sym, ap, ◌∙◌, subst}
use mathlib.Core.Bool.{Bool, true, false}
use mathlib.Core.List.{List, [], ◌∷◌}
use Prim.Native.Nat.{ℕ, zero, suc, ◌+◌, ◌<◌, ◌≤◌}
use native.Mathlib.Omega.{arith}
use borrow.Author.Tests.{leb-true}
use lib.ListN.{length}
use Rattle.std.proofs.Common.{Bor, slice_index_or}
use Rattle.rules.specs.Limits.{LENGTH}
use Rattle.rules.specs.Text.{short, plain}
use Rattle.rules.specs.Check.{first_failing, readable, fitting, check}
use Rattle.kernel.specs.Parsed.{verdict}
use Rattle.questions.specs.declared.Question.TheVariants as question
use Rattle.questions.specs.declared.Text.{Text}
use Rattle.questions.specs.declared.Text.TheVariants as text
use Rattle.running.specs.declared.stopped.Stopped.{Stopped}
use Rattle.questions.specs.Numbers.{text_number}
use Rattle.questions.specs.declared.Question.{Question}
use Rattle.questions.specs.declared.Refused.{Refused}
use Rattle.std.specs.Prelude.{Result, Ok, Err}
use Rattle.beginning.specs.Asking.{left_in, PutToEach, Plain, LeftIn, AskedAs}

-- The first that fails ---------------------------------------------------------------------------------------------------------------

abbrev first_of : Bool → Bool → Bool → ℕ
first_of x y z = elim x [ false ↦ 1 | true ↦ elim y [ false ↦ 2 | true ↦ elim z [ false ↦ 3 | true ↦ 0 ] ] ]

all_true : (x y z : Bool) → first_of x y z ≡ 0 → (x ≡ true) × (y ≡ true) × (z ≡ true)
all_true true true true e = (refl, refl, refl)
all_true true true false e = absurd (omega arith)
all_true true false z e = absurd (omega arith)
all_true false y z e = absurd (omega arith)

module _ (p : List ℕ → Bool) (t g f : List ℕ) where
  -- the first k of them pass
  pub record Pass (k : ℕ) : Type 0 where
    pub theory : 0 < k → p t ≡ true
    pub goals : 1 < k → p g ≡ true
    pub proof : 2 < k → p f ≡ true

  is_first : {x y z : Bool} → p t ≡ x → p g ≡ y → p f ≡ z → first_of x y z ≡ first_failing p t g f
  unfolding first_failing
  is_first a b c = λ i. first_of (sym a i) (sym b i) (sym c i)

  pub none_passed : Pass 0
  none_passed = record { theory = λ h. absurd (omega arith); goals = λ h. absurd (omega arith); proof = λ h. absurd (omega arith) }

  pub all_passed : {k : ℕ} → 3 ≤ k → Pass k → 0 ≡ first_failing p t g f
  all_passed n h = is_first (h.theory (omega arith)) (h.goals (omega arith)) (h.proof (omega arith))

  none_fails : first_failing p t g f ≡ 0 → (p t ≡ true) × (p g ≡ true) × (p f ≡ true)
  unfolding first_failing
  none_fails e = all_true (p t) (p g) (p f) e

module _ (p : List ℕ → Bool) (t g f : Bor (List ℕ)) (absent : Text × Bor (List ℕ)) where
  abbrev pub text_at : ℕ → Text × Bor (List ℕ)
  text_at k = slice_index_or ((text.Theory, t) ∷ (text.Goals, g) ∷ (text.Proof, f) ∷ []) k absent

  pub one_passed : (k : ℕ) → k < 3 → p (text_at k).1.now ≡ true → Pass p t.now g.now f.now k → Pass p t.now g.now f.now (k + 1)
  one_passed zero l e h = record { theory = λ _. e; goals = λ b. absurd (omega arith); proof = λ b. absurd (omega arith) }
  one_passed (suc zero) l e h = record { theory = λ _. h.theory (omega arith); goals = λ _. e; proof = λ b. absurd (omega arith) }
  one_passed (suc (suc zero)) l e h = record { theory = λ _. h.theory (omega arith); goals = λ _. h.goals (omega arith); proof = λ _. e }
  one_passed (suc (suc (suc k))) l e h = absurd (omega arith)

  pub one_fails : (k : ℕ) → k < 3 → p (text_at k).1.now ≡ false → Pass p t.now g.now f.now k → text_number (text_at k).0 ≡ first_failing p t.now g.now f.now
  one_fails zero l e h = is_first p t.now g.now f.now e refl refl
  one_fails (suc zero) l e h = is_first p t.now g.now f.now (h.theory (omega arith)) e refl
  one_fails (suc (suc zero)) l e h = is_first p t.now g.now f.now (h.theory (omega arith)) (h.goals (omega arith)) e
  one_fails (suc (suc (suc k))) l e h = absurd (omega arith)

-- the question is left in the text with that number
pub put_left : (x : Text) (q : Question) {n : ℕ} {r : Refused} {s : Stopped} → text_number x ≡ n → r ≡ record { question = q; form = 0 } →
    s ≡ record { text = x; refused = r } → PutToEach q n (Err s)
put_left x q {n} h e f =
    subst (λ (s : Stopped). (text_number s.text ≡ n) × (s ≡ left_in s.text q)) (sym (f ∙ ap (λ (r : Refused). record { text = x; refused = r }) e)) (h, refl)

-- Questions 2 and 3 ------------------------------------------------------------------------------------------------------------------

short_text : (text : List ℕ) → short text ≡ true → length text ≤ LENGTH
unfolding short
short_text text e = leb-true _ LENGTH e

module _ {t g f : List ℕ} where
  pub left_long : (x : Text) → text_number x ≡ first_failing short t g f → {s : Stopped} → s ≡ left_in x question.Length → LeftIn t g f s
  unfolding check fitting
  left_long text.Theory e w = subst (LeftIn t g f) (sym w) (record { is = ap (fitting t g f) e })
  left_long text.Goals e w = subst (LeftIn t g f) (sym w) (record { is = ap (fitting t g f) e })
  left_long text.Proof e w = subst (LeftIn t g f) (sym w) (record { is = ap (fitting t g f) e })

  module _ (e : 0 ≡ first_failing short t g f) where
    pub left_odd : (x : Text) → text_number x ≡ first_failing plain t g f → {s : Stopped} → s ≡ left_in x question.Bytes → LeftIn t g f s
    unfolding check fitting readable
    left_odd text.Theory a w = subst (LeftIn t g f) (sym w) (record { is = ap (readable t g f) a ∙ ap (fitting t g f) e })
    left_odd text.Goals a w = subst (LeftIn t g f) (sym w) (record { is = ap (readable t g f) a ∙ ap (fitting t g f) e })
    left_odd text.Proof a w = subst (LeftIn t g f) (sym w) (record { is = ap (readable t g f) a ∙ ap (fitting t g f) e })

    pub none_left : 0 ≡ first_failing plain t g f → Plain t g f
    unfolding check fitting readable verdict
    none_left a =
        let s = none_fails short t g f (sym e) in
        record {
          short_theory = short_text t s.0;
          short_goals = short_text g s.1;
          short_proof = short_text f s.2;
          is = ap (readable t g f) a ∙ ap (fitting t g f) e;
        }

-- what question 3 answers, asked of each text
pub asked : (t g f : List ℕ) → 0 ≡ first_failing short t g f → (r : Result (Unit {0}) Stopped) → PutToEach question.Bytes (first_failing plain t g f) r →
    AskedAs t g f r
asked t g f e (Ok u) h = none_left e h
asked t g f e (Err s) h = left_odd e s.text h.0 h.1
