-- How a check goes on: behind the last form, at a form that is refused, and behind a form that is taken. Assumes nothing.
use mathlib.Core.Path.{◌≡◌, sym, ap, ◌∙◌}
use mathlib.Core.List.{List}
use Prim.Native.Nat.{ℕ, ◌+◌}
use native.Mathlib.Omega.{arith}
use Rattle.rules.specs.Out.{ok, refuse}
use Rattle.rules.specs.Sexp.{ends, fails, read_from}
use Rattle.rules.specs.Loop.{Judged, refused, through}
use Rattle.rules.specs.State.{State}
use Rattle.rules.specs.Forms.{take_form}
use Rattle.rules.specs.Check.{after_proof, check}
use Rattle.rules.specs.Laws.Out.{of_ok}
use Rattle.rules.proofs.Laws.Bounded.{take_form_checked}
use Rattle.sexp.specs.ReadLaws.{FormIs}
use Rattle.sexp.specs.Through.{through_ends, through_fails, through_taken, through_refused}
use Rattle.questions.specs.declared.Question.{Question}
use Rattle.questions.specs.Numbers.{number_of, detail_of}
use Rattle.std.specs.Prelude.{Ok, Err}
use Rattle.kernel.specs.Parsed.{TheoryLists}
use Rattle.terms.specs.declared.store.Mark.{Mark}
use Rattle.state.specs.declared.sizes.Sizes.{Sizes}
use Rattle.state.specs.Stands.{texts, Board, Stands}
use Rattle.running.specs.Course.{Underway, Over}
use Rattle.advancing.specs.Stepped.{left_in_proof}

module _ {theory goals proof : List ℕ} {T : TheoryLists} {B : Board} {n : Sizes} {m : Mark} {at forms : ℕ} {S : State}
    (u : Underway theory goals proof T B n m at forms S) where
  -- what the rest comes to
  judged : {J : Judged State} → through take_form (read_from proof at) forms S ≡ J → after_proof J ≡ check theory goals proof
  judged e = sym (ap after_proof e) ∙ u.left

  pub over_ended : read_from proof at ≡ ends → Over theory goals proof T B n m (Ok forms) S
  unfolding after_proof
  over_ended e =
      record {
        X = texts theory goals proof;
        stands = u.stands;
        is = judged (ap (λ t. through take_form t forms S) e ∙ through_ends take_form forms S);
      }

  over_refused : {D : Board} (q : Question) → Stands (texts theory goals proof) T D n m S →
      through take_form (read_from proof at) forms S ≡ refused (number_of q) (detail_of q) forms S → Over theory goals proof T D n m (Err (left_in_proof q forms)) S
  unfolding after_proof
  over_refused q h e = record { X = texts theory goals proof; stands = h; is = judged e }

  pub over_unread : (q : Question) → detail_of q ≡ 0 → read_from proof at ≡ fails (number_of q) → Over theory goals proof T B n m (Err (left_in_proof q forms)) S
  over_unread q z e =
      over_refused q u.stands
      (ap (λ t. through take_form t forms S) e ∙ through_fails take_form forms S (number_of q) ∙ ap (λ d. refused (number_of q) d forms S) (sym z))

  module _ {zeros cells : List ℕ} {p used : ℕ} (f : FormIs proof at zeros cells p used) where
    pub over_form : {D : Board} (q : Question) (z : State) → Stands (texts theory goals proof) T D n m S →
        take_form f.form S ≡ refuse (number_of q) (detail_of q) z → Over theory goals proof T D n m (Err (left_in_proof q forms)) S
    over_form q z h e =
        over_refused q h
        (ap (λ t. through take_form t forms S) f.reads
        ∙ through_refused take_form forms S f.form p (read_from proof p) (number_of q) (detail_of q) z e)

    pub underway_on : {D : Board} {k : Sizes} {w : Mark} {z : State} → take_form f.form S ≡ ok tt z →
        Stands (texts theory goals proof) T D k w z → Underway theory goals proof T D k w p (forms + 1) z
    underway_on {z = z} e h =
        record {
          stands = h;
          bounded = of_ok (take_form_checked f.form S u.bounded) e;
          left = ap after_proof (sym (through_taken take_form forms S f.form p (read_from proof p) z e)
              ∙ ap (λ t. through take_form t forms S) (sym f.reads)) ∙ u.left;
          high = f.within;
          few = omega (arith, u.few, f.on);
        }
