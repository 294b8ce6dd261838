-- The loop of the program, as steps from form to form. Assumes nothing.
use Rattle.std.proofs.Common.{◌≡◌, ℕ, ◌≤◌, List, ◌++◌, sym, ap, ◌∙◌, length, take, drop, replicate, arith, Option, Some, Result, Ok}
use Rattle.rules.specs.Sexp.{cons, nil}
use Rattle.cells.specs.Cleared.{front_cleared, front_length}
use Rattle.sexp.specs.Items.{Held}
use Rattle.sexp.specs.Reads.{ReadRight}
use Rattle.sexp.specs.Through.{Legible}
use Rattle.sexp.specs.ReadLaws.{FormIs, at_form, form_cleared}
use Rattle.questions.specs.declared.Question.{Question}
use Rattle.sexp.specs.declared.sexp.Form.{Form}

-- the cells are zero again between two forms
pub record Forms (text w₀ w : List ℕ) (at : ℕ) : Type 0 where
  pub legible : Legible text w
  pub size : length w ≡ length w₀
  pub high : at ≤ length text

module _ {text w₀ w : List ℕ} {at : ℕ} (s : Forms text w₀ w at) where
  module _ {v : List ℕ} {r : Result (Option Form) Question} {f : Form} (k : ReadRight text at w v r) (e : r ≡ Ok (Some f)) where
    pub form : FormIs text at w v f.end f.cells
    form = at_form k s.legible.fits e

    pub held : ∥ Held text (take f.cells v) ∥₁
    held = ∣ (cons form.form nil, form.holds) ∣₁

    pub next : {front : List ℕ} → length v ≡ length w → front ≡ replicate (length (take f.cells v)) 0 → Forms text w₀ (front ++ drop f.cells v) f.end
    next {front} b c =
        let h : f.cells ≤ length v = omega (arith, form.room, b) in
        let size : length (front ++ drop f.cells v) ≡ length w = front_length 0 f.cells v h c ∙ b in
        record {
          legible = record {
            short = s.legible.short;
            fits = omega (arith, s.legible.fits, size);
            clear = form_cleared form _ (front_cleared 0 f.cells v h c) ∙ ap (λ m. replicate m 0) (sym size);
          };
          size = size ∙ s.size;
          high = form.within;
        }
