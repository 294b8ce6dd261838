-- Where a check stands when a question is left before the proof, and where the proof begins. Assumes nothing.
use mathlib.Core.Path.{◌≡◌, refl, sym, ap, ◌∙◌, subst}
use Rattle.sexp.specs.Never.{never}
use mathlib.Core.Bool.{Bool, true, false}
use mathlib.Core.List.{List, []}
use Prim.Native.Nat.{ℕ, ◌≤◌}
use native.Mathlib.Omega.{arith}
use borrow.Author.Tests.{eq-eqb, ne_eqb}
use lib.ListN.{length, replicate, length-replicate}
use Rattle.rules.specs.Limits.{LENGTH}
use Rattle.rules.specs.Sexp.{read}
use Rattle.rules.specs.Theory.{no_theory}
use Rattle.rules.specs.Loop.{Judged, done, refused, through, whole}
use Rattle.rules.specs.State.{State, no_counts, begin}
use Rattle.rules.specs.Forms.{take_goal, take_form}
use Rattle.rules.specs.Check.{Outcome, refused_in, after_proof, after_goals, after_theory, check}
use Rattle.sexp.specs.ReadLaws.{read_first}
use Rattle.sexp.specs.Through.{Legible}
use Rattle.kernel.specs.Parsed.{TheoryLists, counts_of, JudgedAs, verdict, theory_tables, LaidHeld}
use Rattle.kernel.specs.Layout.{verdict_formed, judged_done, judged_refused}
use Rattle.kernel.specs.declared.tables.Counts.{Counts}
use Rattle.std.specs.Prelude.{Result, Ok, Err}
use Rattle.questions.specs.declared.Refused.{Refused}
use Rattle.questions.specs.declared.Text.{Text}
use Rattle.questions.specs.declared.Text.TheVariants as text
use Rattle.terms.specs.declared.store.Mark.{Mark}
use Rattle.state.specs.declared.sizes.Sizes.{Sizes}
use Rattle.state.specs.Stands.{Texts, texts, Board, Stands, stands_proof}
use Rattle.state.specs.Used.{theory_sizes}
use Rattle.running.specs.declared.stopped.Stopped.{Stopped}
use Rattle.running.specs.Course.{outcome_of}
use Rattle.beginning.specs.Asking.{Plain, LeftIn}
use Rattle.beginning.specs.Posed.{theory_in, Posing, Fresh, Posed}
use Rattle.beginning.specs.Opened.{Opening, Cleared, Opened}
use Rattle.beginning.proofs.Blank.{theory_stands, nothing_stands}

-- what follows question 25
abbrev outcome_by : List ℕ → ℕ → State → Bool → Outcome
outcome_by proof k S b = elim b [ true ↦ refused_in 2 25 0 k S | false ↦ after_proof (through take_form (read proof) 0 S) ]

-- a question that is handed on, with its text beside it
abbrev pub in_text : {A : Type 0} → Text → Result A Refused → Result A Stopped
in_text t (Ok x) = Ok x
in_text t (Err e) = Err (record { text = t; refused = e })

judged_ok : {A : Type 0} (t : Text) {x : A} (a : Result A Refused) → in_text t a ≡ Ok x → a ≡ Ok x
judged_ok t {x} (Ok y) e = let q : y ≡ x = cc in ap Ok q
judged_ok t (Err q) e = never cc

-- What the theory is given -------------------------------------------------------------------------------------------------------------

legible : {text cells : List ℕ} → length text ≤ LENGTH → cells ≡ replicate LENGTH 0 → Legible text cells
legible h z =
    let l = ap length z ∙ length-replicate {A = ℕ} LENGTH 0 in
    record { short = h; fits = omega (arith, l, h); clear = z ∙ ap (λ n. replicate n 0) (sym l) }

pub theory_given : {theory goals proof cells : List ℕ} {T : TheoryLists} {B : Board} → Opening T B cells → Plain theory goals proof → Legible theory cells
theory_given o p = legible p.short_theory o.cells_zero

-- A question is left -----------------------------------------------------------------------------------------------------------------

module _ {theory goals proof : List ℕ} {T : TheoryLists} {B : Board} {n : Sizes} {m : Mark} where
  stops : {X : Texts} {S : State} → Stands X T B n m S → S.counts ≡ no_counts → S.facts ≡ [] → {s : Stopped} →
      outcome_of (Err s) S ≡ check theory goals proof → Opened theory goals proof T B n m (Err s)
  stops {X} {S} h c f e =
      record { S = S; course = record { X = X; stands = h; is = e }; counts = c; facts = h.recorded.many ∙ ap length f }

  -- questions 2 and 3
  pub texts_left : {s : Stopped} → LeftIn theory goals proof s → T ≡ theory_tables no_theory → Cleared B n m → Opened theory goals proof T B n m (Err s)
  texts_left l e z = stops (nothing_stands e z) refl refl l.is

  -- those put to the theory
  module _ {D : Sizes} (z : Cleared B D m) (p : Plain theory goals proof) (a : Result ℕ Refused) (j : JudgedAs (verdict theory) a)
      {c : Counts} (k : c ≡ counts_of (theory_in theory)) (t : T ≡ theory_tables (theory_in theory)) (h : LaidHeld theory (theory_in theory))
      (s : n ≡ theory_sizes c) where
    stands : Stands (texts theory goals goals) T B n m (begin (theory_in theory))
    stands = theory_stands (verdict_formed theory) h p.short_goals t z.none z.mark s k

    theory_stops : {e : Refused} → a ≡ Err e → Opened theory goals proof T B n m (Err (record { text = text.Theory; refused = e }))
    unfolding after_theory
    theory_stops f = stops stands refl refl (ap (after_theory goals proof) (sym (judged_refused a (verdict theory) j f)) ∙ p.is)

    pub theory_left : {s : Stopped} → in_text text.Theory a ≡ Err s → Opened theory goals proof T B n m (Err s)
    theory_left {s} f = go a refl f
      where
        go : (r : Result ℕ Refused) → a ≡ r → in_text text.Theory r ≡ Err s → Opened theory goals proof T B n m (Err s)
        go (Ok x) i e = never cc
        go (Err q) i e = let z : record { text = text.Theory; refused = q } ≡ s = cc in subst (λ (t : Stopped). Opened theory goals proof T B n m (Err t)) z (theory_stops i)

    pub goals_given : {w : List ℕ} → w ≡ replicate LENGTH 0 → Posing (texts theory goals goals) T B n m w
    goals_given e = record { text = refl; stands = stands; legible = legible p.short_goals e }

    -- what the definition says of the goals decides
    pub goals_next : {i : ℕ} → in_text text.Theory a ≡ Ok i → after_goals proof (whole take_goal (read goals) (begin (theory_in theory))) ≡ check theory goals proof
    unfolding after_theory
    goals_next f = ap (after_theory goals proof) (sym (judged_done a (verdict theory) j (judged_ok _ a f))) ∙ p.is

  -- The goals ------------------------------------------------------------------------------------------------------------------------

  starts : {S : State} → Stands (texts theory goals goals) T B n m S → Fresh S → length proof ≤ LENGTH →
      after_proof (through take_form (read proof) 0 S) ≡ check theory goals proof → Opened theory goals proof T B n m (Ok tt)
  starts {S} h f l e =
      record {
        S = S;
        course = record {
          stands = stands_proof proof h f.vars f.defs l;
          bounded = f.checked;
          left = ap (λ t. after_proof (through take_form t 0 S)) (sym (read_first proof)) ∙ e;
          high = omega arith;
          few = omega arith;
        };
        counts = f.counts;
        facts = h.recorded.many ∙ ap length f.facts;
      }

  -- a question is left in the goals
  goals_left : (J : Judged State) {e : Refused} → Posed (texts theory goals goals) T B n m J (Err e) → after_goals proof J ≡ check theory goals proof →
      Opened theory goals proof T B n m (Err (record { text = text.Goals; refused = e }))
  unfolding after_goals
  goals_left (refused q d k S) p e =
      stops p.stands p.fresh.counts p.fresh.facts ((λ i. refused_in 2 (p.is.0 i) (p.is.1 i) (p.is.2 i) S) ∙ e)
  goals_left (done k S) p e =
      stops p.stands p.fresh.counts p.fresh.facts
      (ap (λ (r : Refused). outcome_of (Err (record { text = text.Goals; refused = r })) S) p.is.1
      ∙ sym (ap (outcome_by proof k S) (eq-eqb (length S.goals) 0 (p.stands.goals.many ∙ p.is.0))) ∙ e)

  -- none is
  goals_opened : (J : Judged State) → Posed (texts theory goals goals) T B n m J (Ok tt) → after_goals proof J ≡ check theory goals proof → length proof ≤ LENGTH →
      Opened theory goals proof T B n m (Ok tt)
  unfolding after_goals
  goals_opened (refused q d k S) p e l = absurd p.is
  goals_opened (done k S) p e l =
      starts p.stands p.fresh l (sym (ap (outcome_by proof k S) (ne_eqb (length S.goals) 0 (λ z. p.is (sym p.stands.goals.many ∙ z)))) ∙ e)

  pub goals_end : (J : Judged State) (r : Result (Unit {0}) Refused) → Posed (texts theory goals goals) T B n m J r → after_goals proof J ≡ check theory goals proof →
      length proof ≤ LENGTH → Opened theory goals proof T B n m (in_text text.Goals r)
  goals_end J (Ok x) p e l = goals_opened J p e l
  goals_end J (Err q) p e l = goals_left J p e
