-- The way through an atom and through a comment, by bytes and by blocks of them. Assumes nothing.
use mathlib.Core.Path.{◌≡◌, refl, sym, subst, ◌∙◌}
use mathlib.Core.Bool.{Bool, true, false, not, ◌&&◌}
use Prim.Native.Nat.{ℕ, zero, suc, ◌+◌, ◌*◌, ◌≤◌, ◌<◌}
use mathlib.Core.List.{List}
use native.Mathlib.Omega.{arith}
use lib.Dec.{eqb, ltb, leb}
use Rattle.std.proofs.lemmas.Bool.{and_parts, not-true}
use lib.ListN.{length, get_or, take, drop}
use Rattle.std.proofs.Math.Decide.{dec_lt}
use Rattle.std.proofs.Common.{get_or-take, get_or-drop, length-take-le, length-drop}
use Rattle.std.proofs.lemmas.Bool.{ltb-true, leb-true, eqb-false}
use borrow.Author.Tests.{ne_eqb, le-leb, lt-leb}
use Rattle.rules.specs.Lex.{white, kind, letter, letters, between, in_comment}
use Rattle.rules.specs.Laws.Lex.{kind_letter, place_in_comment, place_comment_over, at_end}
use Rattle.sexp.specs.Lexed.{InAtom, InComment, LineEnd}
use Rattle.sexp.proofs.ByteLaws.{letters_on, letters_off, letters_over}

-- above `)` and below 128 there is no white space
not_white : (b : ℕ) → 41 < b → b ≤ 127 → white b ≡ false
unfolding white
not_white b h l = rw (le-leb 9 b (omega arith), lt-leb b 13 (omega arith), ne_eqb b 32 (λ e. absurd (omega arith)))

above_letter : (b : ℕ) → 41 < b → b ≤ 127 → (b ≡ 59 → ⊥) → kind b ≡ letter
above_letter b h l s = kind_letter b (not_white b h l) (λ e. absurd (omega arith)) (λ e. absurd (omega arith)) s

-- atoms

pub atom_begin : (text : List ℕ) (at r : ℕ) → at ≤ length text → r ≡ at → InAtom text at r
atom_begin text at r h e = rw e (record { low = omega arith; high = h; same = refl })

module _ {text : List ℕ} {start at : ℕ} (s : InAtom text start at) where
  pub atom_byte : {r : ℕ} → at < length text → kind (get_or text at 0) ≡ letter → r ≡ at + 1 → InAtom text start r
  atom_byte i k e = rw e (record { low = omega (arith, s.low); high = omega arith; same = s.same ∙ letters_on text at i k })

  pub atom_stop : at < length text → (kind (get_or text at 0) ≡ letter → ⊥) → at ≡ start + length (letters (drop start text))
  atom_stop i k = sym (s.same ∙ letters_off text at i k)

  pub atom_over : length text ≤ at → at ≡ start + length (letters (drop start text))
  atom_over h = sym (s.same ∙ letters_over text at h)

-- comments

pub comment_begin : (text : List ℕ) (at r : ℕ) → at ≤ length text → r ≡ at → InComment text at r
comment_begin text at r h e = rw e (record { low = omega arith; high = h; same = refl })

module _ {text : List ℕ} {start at : ℕ} (s : InComment text start at) where
  pub comment_byte : {r : ℕ} → at < length text → (get_or text at 0 ≡ 10 → ⊥) → r ≡ at + 1 → InComment text start r
  comment_byte i n e = rw e (record { low = omega (arith, s.low); high = omega arith; same = s.same ∙ place_in_comment text at i n })

  pub comment_stop : at < length text → get_or text at 0 ≡ 10 → LineEnd text start at
  comment_stop i e = record { low = s.low; high = s.high; same = s.same ∙ place_comment_over text at i e }

  pub comment_over : length text ≤ at → LineEnd text start at
  comment_over h = record { low = s.low; high = s.high; same = s.same ∙ at_end in_comment text at h ∙ sym (at_end between text at h) }

-- a block -------------------------------------------------------------------------------------------------------------------------

-- a byte above `)`, below 128 and not `;`, as a block's loop tests it
tested : (x : ℕ) → ((ltb 41 x && leb x 127) && not (eqb x 59)) ≡ true → kind x ≡ letter
tested x e =
    let outer = and_parts _ _ e in
    let inner = and_parts _ _ outer.0 in
    above_letter x (ltb-true 41 x inner.0) (leb-true x 127 inner.1) (eqb-false x 59 (not-true _ outer.1))

-- one letter more
pub letters_more : (block : List ℕ) (i : ℕ) {b : Bool} → (b ≡ true → (k : ℕ) → k < i → kind (get_or block k 0) ≡ letter) →
    (b && ((ltb 41 (get_or block i 0) && leb (get_or block i 0) 127) && not (eqb (get_or block i 0) 59))) ≡ true →
    (k : ℕ) → k < i + 1 → kind (get_or block k 0) ≡ letter
letters_more block i h e k l =
    let s = and_parts _ _ e in
    elim (dec_lt k i) [ yes p ↦ h s.0 k p | no n ↦ let z : k ≡ i = omega arith in rw z (tested (get_or block i 0) s.1) ]

-- the bytes of a block at a place of a text
block_byte : (text : List ℕ) (at k : ℕ) → k < 64 → get_or (take 64 (drop at text)) k 0 ≡ get_or text (at + k) 0
block_byte text at k l = get_or-take 64 (drop at text) k 0 l ∙ get_or-drop at text k 0

block_long : (text : List ℕ) (at : ℕ) → at + 64 ≤ length text → length (take 64 (drop at text)) ≡ 64
block_long text at h = length-take-le 64 (drop at text) (omega (arith, length-drop at text))

module _ {text : List ℕ} {start at : ℕ} where
  letters_block : InAtom text start at → at + 64 ≤ length text →
      ((k : ℕ) → k < length (take 64 (drop at text)) → kind (get_or (take 64 (drop at text)) k 0) ≡ letter) → InAtom text start (at + 64)
  letters_block s h f = go 64 (omega arith)
    where
      go : (n : ℕ) → n ≤ 64 → InAtom text start (at + n)
      go zero l = subst (InAtom text start) (omega arith) s
      go (suc n) l = atom_byte (go n (omega arith)) (omega arith) (subst (λ x. kind x ≡ letter) (block_byte text at n (omega arith)) (f n (omega (arith, block_long text at h)))) (omega arith)

  line_block : InComment text start at → at + 64 ≤ length text →
      ((k : ℕ) → k < length (take 64 (drop at text)) → get_or (take 64 (drop at text)) k 0 ≡ 10 → ⊥) → InComment text start (at + 64)
  line_block s h f = go 64 (omega arith)
    where
      go : (n : ℕ) → n ≤ 64 → InComment text start (at + n)
      go zero l = subst (InComment text start) (omega arith) s
      go (suc n) l = comment_byte (go n (omega arith)) (omega arith) (λ e. f n (omega (arith, block_long text at h)) (block_byte text at n (omega arith) ∙ e)) (omega arith)

-- blocks one after the other, n of them
module _ {text : List ℕ} {start at r : ℕ} (n : ℕ) (e : r ≡ at + 64 * n) (h : r ≤ length text) where
  pub letters_blocks : InAtom text start at → ((k : ℕ) → k < n → (j : ℕ) → j < length (take 64 (drop (at + 64 * k) text)) → kind (get_or (take 64 (drop (at + 64 * k) text)) j 0) ≡ letter) → InAtom text start r
  letters_blocks s f = rw e (go n (omega arith))
    where
      go : (m : ℕ) → m ≤ n → InAtom text start (at + 64 * m)
      go zero l = subst (InAtom text start) (omega arith) s
      go (suc m) l = subst (InAtom text start) (omega arith) (letters_block (go m (omega arith)) (omega arith) (f m (omega arith)))

  pub line_blocks : InComment text start at → ((k : ℕ) → k < n → (j : ℕ) → j < length (take 64 (drop (at + 64 * k) text)) → get_or (take 64 (drop (at + 64 * k) text)) j 0 ≡ 10 → ⊥) → InComment text start r
  line_blocks s f = rw e (go n (omega arith))
    where
      go : (m : ℕ) → m ≤ n → InComment text start (at + 64 * m)
      go zero l = subst (InComment text start) (omega arith) s
      go (suc m) l = subst (InComment text start) (omega arith) (line_block (go m (omega arith)) (omega arith) (f m (omega arith)))
