-- What is held while the loop of `take_goals` goes through the goals (sexp/specs/Through), and what `read_all` says before. Assumes nothing.
use Rattle.std.specs.Prelude.{◌≡◌, refl, List, ◌++◌, ℕ, ◌+◌, take, drop, replicate, Option, Some as some, None as nothing, Result, Ok, Err}
use Rattle.std.proofs.Common.{sym, ap, ◌∙◌, subst, append-nil}
use Rattle.rules.specs.Sexp.{read}
use Rattle.rules.specs.State.{State, begin}
use Rattle.rules.specs.Forms.{take_goal}
use Rattle.rules.specs.Loop.{Judged, through, whole}
use Rattle.questions.specs.declared.Question.{Question}
use Rattle.questions.specs.declared.Question.TheVariants.{NoGoal}
use Rattle.questions.specs.declared.Refused.{Refused}
use Rattle.sexp.specs.Encode.{encode}
use Rattle.sexp.specs.Never.{never}
use Rattle.sexp.specs.Reads.{ReadRight}
use Rattle.sexp.specs.ReadLaws.{FormIs}
use Rattle.sexp.specs.Through.{Going, going_first, going_ends, going_fails, going_form, going_refused, going_taken, whole_refused, whole_forms}
use Rattle.sexp.specs.Whole.{EndsAs}
use Rattle.sexp.specs.declared.sexp.Form.{Form}
use Rattle.kernel.specs.Parsed.{Formed}
use Rattle.terms.specs.Lent.{SameTables}
use Rattle.terms.specs.declared.store.Store.{Store}
use Rattle.state.specs.declared.board.Given.{Given}
use Rattle.state.specs.declared.board.Board.{Board as Lent}
use Rattle.state.specs.Boards.{SameBoard}
use Rattle.state.specs.Stands.{tables_of}
use Rattle.forms.specs.Boards.{texts_of, theory_of, StandsIn}
use Rattle.taking.specs.Taking.{TakesGoalIn, GoalTakenIn}
use Rattle.beginning.specs.Posed.{theory_in, Posing, Fresh, Posed}
use Rattle.beginning.proofs.Posing.{fresh_first, fresh_on}

abbrev pub PosingIn : Given → Lent → Store → List ℕ → Type 0
PosingIn g b s cells = Posing (texts_of g) (theory_of g) (tables_of b s) b.n s.mark cells

abbrev pub PosedIn : Given → Lent → Store → Judged State → Result (Unit {0}) Refused → Type 0
PosedIn g b s J r = Posed (texts_of g) (theory_of g) (tables_of b s) b.n s.mark J r

-- the definition's answer
abbrev pub answer : Given → Judged State
answer g = through take_goal (read g.goals.now) 0 (begin (theory_in g.theory.now))

-- an answer, its question left behind so many forms
abbrev pub behind_in : {A : Type 0} → ℕ → Result A Question → Result A Refused
behind_in k (Ok x) = Ok x
behind_in k (Err q) = Err (record { question = q; form = k })

behind_ok : {A : Type 0} (k : ℕ) {x : A} (a : Result A Question) → behind_in k a ≡ Ok x → a ≡ Ok x
behind_ok k {x} (Ok y) e = let q : y ≡ x = cc in ap Ok q
behind_ok k (Err q) e = never cc

-- lent tables that are handed on twice
pub boards_then : (a b c : Lent) → SameBoard a b → SameBoard b c → SameBoard a c
boards_then a b c p q = (q.0 ∙ p.0, q.1 ∙ p.1, q.2 ∙ p.2, q.3 ∙ p.3, q.4 ∙ p.4)

pub stores_then : (a b c : Store) → SameTables a b → SameTables b c → SameTables a c
stores_then a b c p q = (q.0 ∙ p.0, q.1 ∙ p.1)

-- The loop -----------------------------------------------------------------------------------------------------------------------------

-- so many goals are taken
pub record Turn (g : Given) (w₀ w : List ℕ) (b : Lent) (s : Store) (forms at : ℕ) : Type 0 where
  pub text : g.text.now ≡ g.goals.now
  pub S : State
  pub stands : StandsIn g b s S
  pub fresh : Fresh S
  pub going : Going take_goal g.goals.now w₀ w (answer g) S forms at

pub turn_first : {g : Given} {b : Lent} {s : Store} {w : List ℕ} → PosingIn g b s w → Turn g w w b s 0 0
turn_first {g} p =
    record {
      text = p.text;
      S = begin (theory_in g.theory.now);
      stands = p.stands;
      fresh = fresh_first g.theory.now;
      going = going_first take_goal (begin (theory_in g.theory.now)) p.legible;
    }

module _ {g : Given} {w₀ w : List ℕ} {b : Lent} {s : Store} {forms at : ℕ} (t : Turn g w₀ w b s forms at)
    {v : List ℕ} {r : Result (Option Form) Question} (k : ReadRight g.goals.now at w v r) where
  posed : {J : Judged State} → answer g ≡ J → {z : Result (Unit {0}) Refused} → PosedIn g b s J z → PosedIn g b s (answer g) z
  posed e {z} p = subst (λ J. PosedIn g b s J z) (sym e) p

  -- question 25
  pub turn_no_goals : behind_in forms r ≡ Ok nothing → b.n.goals ≡ 0 → PosedIn g b s (answer g) (Err (record { question = NoGoal; form = forms })) × (v ≡ w₀)
  turn_no_goals e z = let a = going_ends t.going k (behind_ok forms r e) in (posed a.0 (record { is = (z, refl); stands = t.stands; fresh = t.fresh }), a.1)

  pub turn_ends : behind_in forms r ≡ Ok nothing → (b.n.goals ≡ 0 → ⊥) → PosedIn g b s (answer g) (Ok tt) × (v ≡ w₀)
  turn_ends e z = let a = going_ends t.going k (behind_ok forms r e) in (posed a.0 (record { is = z; stands = t.stands; fresh = t.fresh }), a.1)

  turn_stops : {q : Question} → r ≡ Err q → PosedIn g b s (answer g) (Err (record { question = q; form = forms })) × (v ≡ w₀)
  turn_stops e = let a = going_fails t.going k e in (posed a.0 (record { is = (refl, refl, refl); stands = t.stands; fresh = t.fresh }), a.1)

  pub turn_fails : {q : Refused} → behind_in forms r ≡ Err q → PosedIn g b s (answer g) (Err q) × (v ≡ w₀)
  turn_fails {q} f = go r refl f
    where
      go : (z : Result (Option Form) Question) → r ≡ z → behind_in forms z ≡ Err q → PosedIn g b s (answer g) (Err q) × (v ≡ w₀)
      go (Ok x) i e = never cc
      go (Err p) i e = let z : record { question = p; form = forms } ≡ q = cc in subst (λ (y : Refused). PosedIn g b s (answer g) (Err y) × (v ≡ w₀)) z (turn_stops i)

  module _ {f : Form} (j : behind_in forms r ≡ Ok (some f)) where
    pub form_read : r ≡ Ok (some f)
    form_read = behind_ok forms r j

    abbrev form : FormIs g.goals.now at w v f.end f.cells
    form = going_form t.going k form_read

    pub formed : Formed g.text.now (take f.cells v) form.form
    unfolding encode
    formed =
        subst (λ l. Formed l (take f.cells v) form.form) (sym t.text)
        (record { encoded = form.holds.cells ∙ append-nil (encode form.form); spelt = form.holds.spelt.0 })

    -- what `take_goal` asks
    abbrev pub turn_takes : TakesGoalIn g b s (take f.cells v)
    turn_takes =
        record {
          form = record { S = t.S; x = form.form; stands = t.stands; bounded = t.fresh.checked.bounded; formed = formed };
          none = t.fresh.facts;
          text = t.text;
        }

    -- and what it answers
    module _ (c : Lent) (u : Store) where
      abbrev pub Answers : Result (Unit {0}) Question → Type 0
      Answers y = GoalTakenIn g b c s u t.S (take_goal form.form t.S) y

      refused_as : (q : Question) → Answers (Err q) → PosedIn g c u (answer g) (Err (record { question = q; form = forms }))
      refused_as q a =
          subst (λ J. PosedIn g c u J (Err (record { question = q; form = forms }))) (sym (going_refused t.going k form_read a.0.is))
          (record { is = (refl, refl, refl); stands = a.1; fresh = t.fresh })

      pub turn_refused : (y : Result (Unit {0}) Question) {q : Refused} → Answers y → behind_in forms y ≡ Err q → PosedIn g c u (answer g) (Err q)
      turn_refused (Ok i) a n = never cc
      turn_refused (Err p) {q} a n = let z : record { question = p; form = forms } ≡ q = cc in subst (λ (x : Refused). PosedIn g c u (answer g) (Err x)) z (refused_as p a)

      taken_on : {i : Unit {0}} → Answers (Ok i) → {x : List ℕ} → x ≡ replicate f.cells 0 ++ drop f.cells v → Turn g w₀ x c u (forms + 1) f.end
      taken_on a z =
          record {
            text = t.text;
            S = a.after;
            stands = a.stands;
            fresh = fresh_on form.form t.S a.after a.is t.fresh;
            going = going_taken t.going k form_read a.is z;
          }

      pub turn_on : (y : Result (Unit {0}) Question) {i : Unit {0}} → Answers y → behind_in forms y ≡ Ok i → {x : List ℕ} →
          x ≡ replicate f.cells 0 ++ drop f.cells v → Turn g w₀ x c u (forms + 1) f.end
      turn_on (Ok i) a n z = taken_on a z
      turn_on (Err p) a n z = never cc

-- A text that is read whole --------------------------------------------------------------------------------------------------------------

module _ (g : Given) (r : Result ℕ Refused) (e : EndsAs (read g.goals.now) 0 r) where
  abbrev pub all : Judged State
  all = whole take_goal (read g.goals.now) (begin (theory_in g.theory.now))

  pub goals_unread : (b : Lent) (s : Store) {w : List ℕ} → PosingIn g b s w → {q : Refused} → r ≡ Err q → PosedIn g b s all (Err q)
  goals_unread b s p {q} f =
      subst (λ J. PosedIn g b s J (Err q)) (sym (whole_refused take_goal (begin (theory_in g.theory.now)) (read g.goals.now) r e f))
      (record { is = (refl, refl, refl); stands = p.stands; fresh = fresh_first g.theory.now })

  pub goals_read : {j : ℕ} → r ≡ Ok j → (c : Lent) (t : Store) (z : Result (Unit {0}) Refused) → PosedIn g c t (answer g) z → PosedIn g c t all z
  goals_read f c t z p =
      subst (λ J. PosedIn g c t J z) (sym (whole_forms take_goal (begin (theory_in g.theory.now)) (read g.goals.now) r e f)) p
