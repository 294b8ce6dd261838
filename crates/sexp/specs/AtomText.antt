-- Laws for those who go from an atom's place to its bytes: a part of the text, a name, a mark. Assumes nothing.
use Rattle.std.specs.Prelude.{◌≡◌, refl, ℕ, suc, ◌+◌, ◌-◌, ◌≤◌, ◌<◌, Bool, true, false, List, [], ◌∷◌, eqb, length, get_or, take, drop}
use Rattle.std.proofs.Common.{sym, ap, ◌∙◌, arith, drop-cons, eqb-true}
use Rattle.rules.specs.Lex.{Kind, blank, left, right, semicolon, letter, kind, letters, lexing}
use Rattle.rules.specs.Sexp.{Sexp, atom, Name, marked}
use Rattle.sexp.specs.Never.{never}
use Rattle.sexp.specs.Spelt.{Spelt}
use Rattle.sexp.specs.Items.{item_of}
use Rattle.sexp.specs.WalkLaws.{AtomIs, atom_is, Span, span}
use Rattle.sexp.specs.NameRows.{NameIn, NameAt}
use Rattle.sexp.specs.declared.items.Item.{Item}
use Rattle.sexp.specs.declared.items.Item.TheVariants.{Atom}

-- The atom at a place -----------------------------------------------------------------------------------------------------------

-- as a name
abbrev pub name_from : List ℕ → ℕ → Name
name_from text p = record { start = p; bytes = letters (drop p text) }

-- the item is the atom that begins at p, by the bytes that stand there
pub record AtomText (text : List ℕ) (x : Sexp) (p : ℕ) : Type 0 where
  pub is : x ≡ atom p (letters (drop p text))
  pub inside : p < length text

pub text_of : {text : List ℕ} {x : Sexp} {p : ℕ} → AtomIs text x p → AtomText text x p
text_of {p = p} a = record { is = a.is ∙ ap (atom p) (sym a.stands.bytes); inside = a.stands.inside }

-- the item at a place of the cells, where it is an atom
pub atom_text : (text : List ℕ) (at : ℕ) (x : Sexp) {item : Item} {p : ℕ} → Spelt text x → item ≡ item_of at x → item ≡ Atom p → AtomText text x p
atom_text text at x {p = p} s e f = text_of (atom_is text at x p s (sym f ∙ e))

-- Its bytes ---------------------------------------------------------------------------------------------------------------------

-- from its place to its end
module _ (text : List ℕ) (p end : ℕ) (l : p < length text) (e : end ≡ p + length (letters (drop p text))) where
  pub atom_span : Span text p end (letters (drop p text))
  atom_span = span (record { inside = l; bytes = refl }) e

  pub atom_part : take (end - p) (drop p text) ≡ letters (drop p text)
  atom_part = atom_span.part

  pub atom_high : end ≤ length text
  atom_high = atom_span.high

-- they are a name in the text
pub atom_named : (text : List ℕ) (p : ℕ) → p < length text → NameIn text (name_from text p)
atom_named text p l =
    let w = atom_span text p (p + length (letters (drop p text))) l refl in
    let n : p + length (letters (drop p text)) - p ≡ length (letters (drop p text)) = omega arith in
    record { inside = w.high; spelt = rw n at w.part }

-- Names between two places ---------------------------------------------------------------------------------------------------------

-- the name stands between two places of the text
pub record Spans (text : List ℕ) (n : Name) (start end : ℕ) : Type 0 where
  pub named : NameIn text n
  pub starts : n.start ≡ start
  pub ends : start + length n.bytes ≡ end

module _ {text : List ℕ} {n : Name} {start end : ℕ} (k : Spans text n start end) where
  pub spans_low : start ≤ end
  spans_low = omega (arith, k.ends)

  pub spans_high : end ≤ length text
  spans_high = omega (arith, k.named.inside, k.starts, k.ends)

  pub spans_part : take (end - start) (drop start text) ≡ n.bytes
  spans_part =
      let e : end - start ≡ length n.bytes = omega (arith, k.ends) in
      rw (e, sym k.starts) k.named.spelt

pub atom_spans : (text : List ℕ) (start end : ℕ) → start < length text → end ≡ start + length (letters (drop start text)) →
    Spans text (name_from text start) start end
atom_spans text start end l e = record { named = atom_named text start l; starts = refl; ends = sym e }

-- two cells of a table
pub cells_span : {text table : List ℕ} {at : ℕ} {n : Name} → NameAt text table at n → Spans text n (get_or table at 0) (get_or table (at + 1) 0)
cells_span k = record { named = k.name; starts = sym k.start; ends = omega (arith, k.start, k.end) }

-- The mark of an atom ----------------------------------------------------------------------------------------------------------------------

-- it shows in the first byte
mark_is_letter : kind 63 ≡ letter
unfolding lexing
mark_is_letter = refl

no_mark_lem : (b : ℕ) (k : Kind) → kind b ≡ k → (letter ≡ k → ⊥) → eqb b 63 ≡ false
no_mark_lem b k e n = go (eqb b 63) refl
  where
    go : (t : Bool) → eqb b 63 ≡ t → t ≡ false
    go false f = refl
    go true f = absurd (n (sym (ap kind (eqb-true b 63 f) ∙ mark_is_letter) ∙ e))

marked_front : (b : ℕ) (t : List ℕ) → eqb b 63 ≡ marked (letters (b ∷ t))
unfolding letters marked
marked_front b t = go (kind b) refl
  where
    go : (k : Kind) → kind b ≡ k → eqb b 63 ≡ marked (elim k [ blank ↦ [] | left ↦ [] | right ↦ [] | semicolon ↦ [] | letter ↦ b ∷ letters t ])
    go blank e = no_mark_lem b blank e (λ z. never cc)
    go left e = no_mark_lem b left e (λ z. never cc)
    go right e = no_mark_lem b right e (λ z. never cc)
    go semicolon e = no_mark_lem b semicolon e (λ z. never cc)
    go letter e = refl

pub marked_byte : (text : List ℕ) (p : ℕ) → p < length text → eqb (get_or text p 0) 63 ≡ marked (letters (drop p text))
marked_byte text p h = marked_front (get_or text p 0) (drop (suc p) text) ∙ ap (λ l. marked (letters l)) (sym (drop-cons text p 0 h))
