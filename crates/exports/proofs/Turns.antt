-- The loop of `tariff_read`, as steps from form to form. Assumes nothing.
use mathlib.Core.Path.{◌≡◌, refl, sym, ap, ◌∙◌}
use mathlib.Core.Bool.{Bool, true, false}
use Prim.Native.Nat.{ℕ, ◌+◌, ◌*◌, ◌-◌, ◌%◌, ◌≤◌, ◌<◌}
use mathlib.Core.List.{List, ◌++◌}
use native.Mathlib.Omega.{arith}
use lib.Dec.{eqb}
use lib.ListN.{length, get_or, take, drop, replicate, length-append, length-replicate}
use borrow.Author.Tests.{eq-eqb, ne_eqb, eqb-true, eqb-false}
use Rattle.rules.specs.Sexp.{Sexp, Sexps, atom, list, Text, ends, fails, more, read, read_from}
use Rattle.cells.specs.Cleared.{front_cleared}
use Rattle.sexp.specs.Encode.{encode, encodes}
use Rattle.sexp.specs.ItemLaws.{some_cells}
use Rattle.sexp.specs.Items.{item_at, by_parity}
use Rattle.sexp.specs.declared.items.Item.TheVariants.{Atom, List as Part}
use Rattle.sexp.specs.Reads.{ReadRight}
use Rattle.sexp.specs.Through.{Legible}
use Rattle.sexp.specs.ReadLaws.{read_first, FormIs, at_end, at_refused, at_form, form_cleared}
use Rattle.std.specs.Prelude.{Option, Some as some, None as nothing, Result, Ok, Err, MatchResult}
use Rattle.questions.specs.declared.Question.{Question}
use Rattle.questions.specs.declared.Refused.{Refused}
use Rattle.sexp.specs.Whole.{EndsAs}
use Rattle.sexp.specs.declared.sexp.Form.{Form}
use Rattle.exports.specs.Counts.{forms_of}

-- what `read_all` says
pub forms_are : (t : Text) (n : ℕ) (k : ℕ) → EndsAs t n (Ok k) → k ≡ forms_of t n
unfolding EndsAs forms_of
forms_are ends n k e = cc
forms_are (fails j) n k e = cc (e.1)
forms_are (more (atom p bs) q t) n k e = forms_are t n k e
forms_are (more (list xs) q t) n k e = forms_are t (n + 1) k e

pub forms_before : (t : Text) (n : ℕ) (r : Refused) → EndsAs t n (Err r) → r.form ≡ forms_of t n
unfolding EndsAs forms_of
forms_before ends n r e = cc
forms_before (fails j) n r e =
    let h : r ≡ record { question = e.0; form = n } = cc (e.1) in
    ap (λ (x : Refused). x.form) h
forms_before (more (atom p bs) q t) n r e = forms_before t n r e
forms_before (more (list xs) q t) n r e = forms_before t (n + 1) r e

-- what the text reads as from here, with n bracketed forms before, is what it reads as from the start
pub record Turning (text w₀ w : List ℕ) (at n : ℕ) : Type 0 where
  pub legible : Legible text w₀
  pub cells : w ≡ w₀
  pub high : at ≤ length text
  pub few : n ≤ at
  pub same : forms_of (read text) 0 ≡ forms_of (read_from text at) n

pub begin : (text w : List ℕ) → Legible text w → Turning text w w 0 0
begin text w h =
    record {
      legible = h;
      cells = refl;
      high = omega arith;
      few = omega arith;
      same = ap (λ t. forms_of t 0) (read_first text);
    }

-- the first cell of a list is even, that of an atom odd
module _ (w : List ℕ) where
  pub even_list : {a b : ℕ} → item_at w 0 ≡ Part a b → true ≡ eqb (get_or w 0 0 % 2) 0
  unfolding item_at
  even_list {a} {b} e = go (eqb (get_or w 0 0 % 2) 1) refl e
    where
      go : (t : Bool) → eqb (get_or w 0 0 % 2) 1 ≡ t → by_parity t 0 (get_or w 0 0) ≡ Part a b → true ≡ eqb (get_or w 0 0 % 2) 0
      go true k h = cc
      go false k h = let odd = eqb-false (get_or w 0 0 % 2) 1 k in sym (eq-eqb (get_or w 0 0 % 2) 0 (omega (arith, odd)))

  pub odd_atom : {p : ℕ} → item_at w 0 ≡ Atom p → false ≡ eqb (get_or w 0 0 % 2) 0
  unfolding item_at
  odd_atom {p} e = go (eqb (get_or w 0 0 % 2) 1) refl e
    where
      go : (t : Bool) → eqb (get_or w 0 0 % 2) 1 ≡ t → by_parity t 0 (get_or w 0 0) ≡ Atom p → false ≡ eqb (get_or w 0 0 % 2) 0
      go true k h = let odd = eqb-true (get_or w 0 0 % 2) 1 k in sym (ne_eqb (get_or w 0 0 % 2) 0 (λ z. omega (arith, odd, z)))
      go false k h = cc

-- whether a form is a list shows in its first cell
first_list : (xs : Sexps) (l : List ℕ) → eqb (get_or (encode (list xs) ++ l) 0 0 % 2) 0 ≡ true
unfolding encode
first_list xs l = eq-eqb (2 * length (encodes xs) % 2) 0 (omega arith)

first_atom : (p : ℕ) (bs l : List ℕ) → eqb (get_or (encode (atom p bs) ++ l) 0 0 % 2) 0 ≡ false
unfolding encode
first_atom p bs l = ne_eqb ((2 * p + 1) % 2) 0 (λ e. omega arith)

module _ {text w₀ w : List ℕ} {at n : ℕ} (t : Turning text w₀ w at n) where
  pub asks : Legible text w
  asks = rw t.cells t.legible

  back : {v : List ℕ} → v ≡ replicate (length w) 0 → v ≡ w₀
  back e = e ∙ ap (λ x. replicate (length x) 0) t.cells ∙ sym t.legible.clear

  module _ {v : List ℕ} {r : Result (Option Form) Question} (k : ReadRight text at w v r) where
    pub ended : r ≡ Ok nothing → (n ≡ forms_of (read text) 0) × (v ≡ w₀)
    unfolding forms_of
    ended e = (sym (t.same ∙ ap (λ y. forms_of y n) (at_end k e).0), back (at_end k e).1)

    pub refused : {q : Question} → r ≡ Err q → (n ≡ forms_of (read text) 0) × (v ≡ w₀)
    unfolding forms_of
    refused e = (sym (t.same ∙ ap (λ y. forms_of y n) (at_refused k e).0), back (at_refused k e).2)

    module _ {f : Form} (e : r ≡ Ok (some f)) where
      here : FormIs text at w v f.end f.cells
      here = at_form k asks.fits e

      pub on : (at < f.end) × (f.end ≤ length text)
      on = (here.on, here.within)

      pub cells_there : (0 < length v) × (f.cells ≤ length v)
      cells_there =
          let l : length v ≡ length (encode here.form) + (length w - f.cells) = ap length here.cells ∙ length-append (encode here.form) (replicate (length w - f.cells) 0) ∙ ap (λ j. length (encode here.form) + j) (length-replicate (length w - f.cells) 0) in
          (omega (arith, some_cells here.form, l), omega (arith, here.size, l))

      whole_list : (x : Sexp) → eqb (get_or (encode x ++ replicate (length w - f.cells) 0) 0 0 % 2) 0 ≡ true → forms_of (more x f.end (read_from text f.end)) n ≡ forms_of (read_from text f.end) (n + 1)
      unfolding forms_of
      whole_list (atom q bs) b = let z = first_atom q bs (replicate (length w - f.cells) 0) in cc
      whole_list (list xs) b = refl

      whole_atom : (x : Sexp) → eqb (get_or (encode x ++ replicate (length w - f.cells) 0) 0 0 % 2) 0 ≡ false → forms_of (more x f.end (read_from text f.end)) n ≡ forms_of (read_from text f.end) n
      unfolding forms_of
      whole_atom (atom q bs) b = refl
      whole_atom (list xs) b = let z = first_list xs (replicate (length w - f.cells) 0) in cc

      -- on from a list, and from an atom
      module _ {front : List ℕ} (c : front ≡ replicate (length (take f.cells v)) 0) where
        cleared : front ++ drop f.cells v ≡ w₀
        cleared = back (form_cleared here _ (front_cleared 0 f.cells v cells_there.1 c))

        pub past_list : eqb (get_or v 0 0 % 2) 0 ≡ true → Turning text w₀ (front ++ drop f.cells v) f.end (n + 1)
        past_list b =
            record {
              legible = t.legible;
              cells = cleared;
              high = here.within;
              few = omega (arith, t.few, here.on);
              same = t.same ∙ ap (λ y. forms_of y n) here.reads ∙ whole_list here.form (rw here.cells at b);
            }

        pub past_atom : eqb (get_or v 0 0 % 2) 0 ≡ false → Turning text w₀ (front ++ drop f.cells v) f.end n
        past_atom b =
            record {
              legible = t.legible;
              cells = cleared;
              high = here.within;
              few = omega (arith, t.few, here.on);
              same = t.same ∙ ap (λ y. forms_of y n) here.reads ∙ whole_atom here.form (rw here.cells at b);
            }

-- of a text that is read whole: the number of its forms, or of those before the refusal
pub scan_told : (t : Text) (n : ℕ) (q : Result ℕ Refused) {k : ℕ} (P : Refused → Type 0) → EndsAs t n q → MatchResult q (λ x. k ≡ x) P
    → ((e : Refused) → P e → k ≡ e.form) → k ≡ forms_of t n
scan_told t n (Ok x) P e m f = m ∙ forms_are t n x e
scan_told t n (Err r) P e m f = f r m ∙ forms_before t n r e
