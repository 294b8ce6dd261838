-- The tokens of a text. White space is bytes 9 to 13 and 32; `;` opens a comment that byte 10 or the end closes; every byte that is
-- neither of these nor a bracket belongs to an atom. Assumes nothing.
use Rattle.std.specs.Prelude.{ℕ, suc, List, [], ◌∷◌, Bool, true, false, ◌&&◌, ◌||◌, cond, leb, eqb}

-- what a byte is where no comment is open
pub data Kind : Type 0 where
  blank left right semicolon letter : Kind

unfoldable pub white : ℕ → Bool
white b = (leb 9 b && leb b 13) || eqb b 32

unfoldable pub kind : ℕ → Kind
kind b = cond (white b) blank (cond (eqb b 40) left (cond (eqb b 41) right (cond (eqb b 59) semicolon letter)))

-- `Kind`, with the place in the text; an atom has its bytes too
pub data Token : Type 0 where
  opens : ℕ → Token
  closes : ℕ → Token
  word : ℕ → List ℕ → Token

-- what the byte in front of a place belongs to
pub data Mode : Type 0 where
  between in_word in_comment : Mode

-- the bytes up to the end of the atom that goes on here
unfoldable pub letters : List ℕ → List ℕ
letters [] = []
letters (b ∷ t) = elim (kind b) [ blank ↦ [] | left ↦ [] | right ↦ [] | semicolon ↦ [] | letter ↦ b ∷ letters t ]

-- the tokens of the part of a text that begins at a place
unfoldable pub tokens : Mode → ℕ → List ℕ → List Token
tokens m at [] = []
tokens between at (b ∷ t) =
    elim (kind b) [
      | blank ↦ tokens between (suc at) t
      | left ↦ opens at ∷ tokens between (suc at) t
      | right ↦ closes at ∷ tokens between (suc at) t
      | semicolon ↦ tokens in_comment (suc at) t
      | letter ↦ word at (b ∷ letters t) ∷ tokens in_word (suc at) t
    ]
tokens in_word at (b ∷ t) =
    elim (kind b) [
      | blank ↦ tokens between (suc at) t
      | left ↦ opens at ∷ tokens between (suc at) t
      | right ↦ closes at ∷ tokens between (suc at) t
      | semicolon ↦ tokens in_comment (suc at) t
      | letter ↦ tokens in_word (suc at) t
    ]
tokens in_comment at (b ∷ t) = elim (eqb b 10) [ true ↦ tokens between (suc at) t | false ↦ tokens in_comment (suc at) t ]

-- `unfolding lexing` opens all of the above, for a computation
unfoldable pub lexing : Unit {0}
unfolding white kind letters tokens
lexing = tt
