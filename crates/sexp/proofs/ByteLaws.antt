-- Kinds of bytes, from the tests that the code makes. Assumes nothing.
use mathlib.Core.Path.{◌≡◌, refl, sym, ap, ◌∙◌}
use mathlib.Core.Bool.{Bool, true, false, cond}
use Prim.Native.Nat.{ℕ, ◌+◌, ◌≤◌, ◌<◌}
use mathlib.Core.List.{List}
use native.Mathlib.Omega.{arith}
use lib.Dec.{eqb}
use lib.ListN.{length, get_or, drop}
use borrow.Author.Tests.{ne_eqb}
use Rattle.rules.specs.Text.{same}
use Rattle.rules.specs.Lex.{Kind, blank, left, right, semicolon, letter, white, kind, letters}
use Rattle.rules.specs.Laws.Lex.{kind_blank, kind_semicolon, kind_letter, place_letters_more, place_letters_none, letters_end}
use Rattle.rules.specs.Laws.Text.{same_equal, same_self}
use Rattle.std.specs.Prelude.{reverse}
use Rattle.std.specs.Bool.{Decides}
use Rattle.std.proofs.lemmas.Bool.Decides.{same_from_decides}
use Rattle.std.proofs.lemmas.List.{reverse-reverse}
use Rattle.sexp.specs.Lexed.{is_letter}

-- letters

pub is_letter_lem : (k : Kind) → is_letter k ≡ true → k ≡ letter
is_letter_lem blank e = cc
is_letter_lem left e = cc
is_letter_lem right e = cc
is_letter_lem semicolon e = cc
is_letter_lem letter e = refl

pub no_letter : (k : Kind) → is_letter k ≡ false → k ≡ letter → ⊥
no_letter k e f = let z : ◌≡◌ {A = ℕ} 0 1 = cc in omega arith

none_blank : (x y z : Bool) → cond x left (cond y right (cond z semicolon letter)) ≡ blank → ⊥
none_blank true y z e = let n : ◌≡◌ {A = ℕ} 0 1 = cc in omega arith
none_blank false true z e = let n : ◌≡◌ {A = ℕ} 0 1 = cc in omega arith
none_blank false false true e = let n : ◌≡◌ {A = ℕ} 0 1 = cc in omega arith
none_blank false false false e = let n : ◌≡◌ {A = ℕ} 0 1 = cc in omega arith

none_semicolon : (x y z : Bool) → cond x blank (cond y left (cond z right letter)) ≡ semicolon → ⊥
none_semicolon true y z e = let n : ◌≡◌ {A = ℕ} 0 1 = cc in omega arith
none_semicolon false true z e = let n : ◌≡◌ {A = ℕ} 0 1 = cc in omega arith
none_semicolon false false true e = let n : ◌≡◌ {A = ℕ} 0 1 = cc in omega arith
none_semicolon false false false e = let n : ◌≡◌ {A = ℕ} 0 1 = cc in omega arith

pub not_blank : (b : ℕ) → white b ≡ false → kind b ≡ blank → ⊥
unfolding kind
not_blank b e f = none_blank (eqb b 40) (eqb b 41) (eqb b 59) (rw e at f)

pub not_semicolon : (b : ℕ) → (b ≡ 59 → ⊥) → kind b ≡ semicolon → ⊥
unfolding kind
not_semicolon b e f = none_semicolon (white b) (eqb b 40) (eqb b 41) (rw (ne_eqb b 59 e) at f)

-- a byte that is nothing else is a letter
pub letter_here : (b : ℕ) → (kind b ≡ blank → ⊥) → (kind b ≡ semicolon → ⊥) → (b ≡ 40 → ⊥) → (b ≡ 41 → ⊥) → kind b ≡ letter
letter_here b k c l r = kind_letter b (go (white b) refl) l r (λ e. c (kind_semicolon b e))
  where
    go : (t : Bool) → white b ≡ t → white b ≡ false
    go true e = absurd (k (kind_blank b e))
    go false e = e

-- the letters from a place on, a byte at a time
pub letters_on : (text : List ℕ) (p : ℕ) → p < length text → kind (get_or text p 0) ≡ letter → p + length (letters (drop p text)) ≡ p + 1 + length (letters (drop (p + 1) text))
letters_on text p h k = omega (arith, place_letters_more text p h k)

pub letters_off : (text : List ℕ) (p : ℕ) → p < length text → (kind (get_or text p 0) ≡ letter → ⊥) → p + length (letters (drop p text)) ≡ p
letters_off text p h k = omega (arith, ap length (place_letters_none text p h k))

pub letters_over : (text : List ℕ) (p : ℕ) → length text ≤ p → p + length (letters (drop p text)) ≡ p
letters_over text p h = omega (arith, ap length (letters_end text p h))

-- names: the same bytes from their ends on are the same bytes
pub same_reverse : (s t : List ℕ) (r : Bool) → Decides r (reverse s ≡ reverse t) → r ≡ same s t
same_reverse s t r d =
    same_from_decides r (same s t)
    ((λ e. sym (reverse-reverse s) ∙ ap reverse (d.0 e) ∙ reverse-reverse t), λ (e : s ≡ t). d.1 (ap reverse e))
    (same_equal s t, λ e. ap (same s) (sym e) ∙ same_self s)
