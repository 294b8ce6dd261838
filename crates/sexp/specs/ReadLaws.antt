-- Laws for those who call `read_form`: what each answer says of the text, of the form and of the cells. Assumes nothing.
use Rattle.std.specs.Prelude.{◌≡◌, refl, ℕ, ◌+◌, ◌-◌, ◌≤◌, ◌<◌, List, ◌++◌, length, take, drop, replicate, Option, Some as some, None as nothing, Result, Ok, Err}
use Rattle.std.proofs.Common.{sym, ap, ◌∙◌, append-nil, arith}
use Rattle.std.proofs.lemmas.List.{replicate-append-replicate}
use Rattle.std.proofs.Math.Seq.{take-append_seam, drop-append_seam}
use Rattle.rules.specs.Sexp.{Sexp, nil, cons, Text, ends, fails, more, read, read_from}
use Rattle.sexp.specs.Encode.{encode, encodes}
use Rattle.sexp.specs.Items.{Holds}
use Rattle.questions.specs.declared.Question.{Question}
use Rattle.questions.specs.Numbers.{number_of, detail_of}
use Rattle.sexp.specs.Reads.{Answers, written, Next, Behind, ReadRight}
use Rattle.sexp.specs.declared.sexp.Form.{Form}

pub read_first : (text : List ℕ) → read text ≡ read_from text 0
unfolding read read_from
read_first text = refl

-- a form was read: w the cells before, v the cells after, p the place behind the form, n the number of its cells
pub record FormIs (text : List ℕ) (at : ℕ) (w v : List ℕ) (p n : ℕ) : Type 0 where
  pub form : Sexp
  pub reads : read_from text at ≡ more form p (read_from text p)
  pub on : at < p
  pub within : p ≤ length text
  pub size : n ≡ length (encode form)
  pub room : n ≤ length w
  pub cells : v ≡ encode form ++ replicate (length w - n) 0
  pub holds : Holds text (take n v) (cons form nil)

encode_alone : (f : Sexp) → encode f ≡ encodes (cons f nil)
unfolding encode
encode_alone f = sym (append-nil (encode f))

module _ {text : List ℕ} {at : ℕ} {w v : List ℕ} {r : Result (Option Form) Question} where
  pub at_end : ReadRight text at w v r → r ≡ Ok nothing → (read_from text at ≡ ends) × (v ≡ replicate (length w) 0)
  at_end k e = go (read_from text at) refl k.answers
    where
      go : (t : Text) → read_from text at ≡ t → Answers t r → (read_from text at ≡ ends) × (v ≡ replicate (length w) 0)
      go ends f a = (f, k.cells ∙ ap (λ t. written t (length w)) f)
      go (fails j) f a = cc (a.1, e)
      go (more x p t) f a = cc (a, e)

  pub at_refused : {q : Question} → ReadRight text at w v r → r ≡ Err q → (read_from text at ≡ fails (number_of q)) × (detail_of q ≡ 0) × (v ≡ replicate (length w) 0)
  at_refused {q} k e = go (read_from text at) refl k.answers
    where
      go : (t : Text) → read_from text at ≡ t → Answers t r → (read_from text at ≡ fails (number_of q)) × (detail_of q ≡ 0) × (v ≡ replicate (length w) 0)
      go ends f a = cc (a, e)
      go (fails i) f a =
          let h : a.0 ≡ q = cc (a.1, e) in
          (f ∙ ap fails (sym a.2.number ∙ ap number_of h), ap detail_of (sym h) ∙ a.2.detail, k.cells ∙ ap (λ t. written t (length w)) f)
      go (more x p t) f a = cc (a, e)

  pub at_form : {form : Form} → ReadRight text at w v r → length text ≤ length w → r ≡ Ok (some form) → FormIs text at w v form.end form.cells
  at_form {form} k l e = go (read_from text at) refl k.answers k.behind
    where
      go : (t : Text) → read_from text at ≡ t → Answers t r → Behind text at (read_from text at) → FormIs text at w v form.end form.cells
      go ends f a b = cc (a, e)
      go (fails i) f a b = cc (a.1, e)
      go (more x q t) f a b =
          let g : form ≡ record { end = q; cells = length (encode x) } = cc (a, e) in
          let hq : q ≡ form.end = sym (ap (λ (y : Form). y.end) g) in
          let hn : form.cells ≡ length (encode x) = ap (λ (y : Form). y.cells) g in
          let c : v ≡ encode x ++ replicate (length w - form.cells) 0 = k.cells ∙ ap (λ y. written y (length w)) f ∙ ap (λ m. encode x ++ replicate (length w - m) 0) (sym hn) in
          let nx : Next text at x q t = rw f at b in
          record {
            form = x;
            reads = f ∙ ap (more x q) nx.follows ∙ ap (λ m. more x m (read_from text m)) hq;
            on = omega (arith, nx.on, hq);
            within = omega (arith, nx.within, hq);
            size = hn;
            room = omega (arith, nx.few, nx.within, hn);
            cells = c;
            holds =
                record {
                  cells = ap (λ m. take m v) hn ∙ ap (take (length (encode x))) c ∙ take-append_seam (encode x) (replicate (length w - form.cells) 0) ∙ encode_alone x;
                  spelt = (nx.spelt, tt);
                };
          }

-- the form's cells are set back by `clear`
pub form_cleared : {text : List ℕ} {at : ℕ} {w v : List ℕ} {p n : ℕ} → FormIs text at w v p n → (u : List ℕ) → u ≡ replicate n 0 ++ drop n v → u ≡ replicate (length w) 0
form_cleared {w = w} {v} {n = n} k u e =
    let d : drop n v ≡ replicate (length w - n) 0 = ap (λ m. drop m v) k.size ∙ ap (drop (length (encode k.form))) k.cells ∙ drop-append_seam (encode k.form) (replicate (length w - n) 0) in
    let s : n + (length w - n) ≡ length w = omega (arith, k.room) in
    e ∙ ap (λ l. replicate n 0 ++ l) d ∙ replicate-append-replicate n (length w - n) 0 ∙ ap (λ m. replicate m 0) s
