-- Forms as bytes: a text that is spelled from forms whose atoms are words writes these forms. Assumes nothing.
use Rattle.std.specs.Prelude.{ℕ, suc, ◌≡◌, refl, Bool, true, false, leb}
use Rattle.std.proofs.Common.{arith, ◌∙◌}
use Rattle.std.proofs.Math.Path.{ap, ap₂}
use mathlib.Core.List.{List, [], ◌∷◌, ◌++◌}
use Rattle.rules.specs.Text.{plain}
use Rattle.rules.specs.Lex.{blank, letter, white, kind, between, in_word, tokens, letters as lettersᵗ}
use Rattle.rules.specs.Laws.Lex.{at_blank, at_left, at_right, at_letter, in_word_lem, word_over, letters_more, letters_none, kind_left, kind_right}
use Rattle.meaning.specs.Written.{Form, Forms, name, group, nil, cons, left, letters, mark, marks, spelling, spellings, Writes}

-- Words ---------------------------------------------------------------------------------------------------------------------------

-- letters, each a byte below 128
unfoldable pub Letters : List ℕ → Type 0
Letters [] = Unit {0}
Letters (b ∷ bs) = (kind b ≡ letter) × (leb b 127 ≡ true) × Letters bs

-- at least one
unfoldable pub Word : List ℕ → Type 0
Word [] = ⊥
Word (b ∷ bs) = Letters (b ∷ bs)

-- every atom of the form is a word
unfoldable mutual
  pub Worded : Form → Type 0
  Worded (name bs) = Word bs
  Worded (group fs) = AllWorded fs

  pub AllWorded : Forms → Type 0
  AllWorded nil = Unit {0}
  AllWorded (cons f fs) = Worded f × AllWorded fs

-- Spelling ------------------------------------------------------------------------------------------------------------------------

-- the bytes of a form, in front of others; a blank stands behind each atom
unfoldable mutual
  pub spell : Form → List ℕ → List ℕ
  spell (name bs) r = bs ++ (32 ∷ r)
  spell (group fs) r = 40 ∷ spells fs (41 ∷ r)

  pub spells : Forms → List ℕ → List ℕ
  spells nil r = r
  spells (cons f fs) r = spell f (spells fs r)

-- a word in front of a blank
blank_32 : kind 32 ≡ blank
unfolding kind white
blank_32 = refl

no_letter_32 : kind 32 ≡ letter → ⊥
no_letter_32 e = let z : ◌≡◌ {A = ℕ} 0 1 = cc blank_32 in omega arith

module _ (r : List ℕ) where
  word_letters : (bs : List ℕ) → Letters bs → lettersᵗ (bs ++ (32 ∷ r)) ≡ bs
  unfolding Letters
  word_letters [] l = letters_none 32 r no_letter_32
  word_letters (b ∷ bs) l = letters_more b (bs ++ (32 ∷ r)) l.0 ∙ ap (λ x. b ∷ x) (word_letters bs l.2)

  -- what is behind a word is read from some place on
  word_behind : (p : ℕ) (bs : List ℕ) → Letters bs → (q : ℕ) × (tokens in_word p (bs ++ (32 ∷ r)) ≡ tokens between q r)
  unfolding Letters
  word_behind p [] l = (suc p, word_over p 32 r no_letter_32 ∙ at_blank p 32 r blank_32)
  word_behind p (b ∷ bs) l = let h = word_behind (suc p) bs l.2 in (h.0, in_word_lem p b (bs ++ (32 ∷ r)) l.0 ∙ h.1)

  word_marks : (p : ℕ) (bs : List ℕ) → Word bs → (q : ℕ) × (marks (tokens between p (bs ++ (32 ∷ r))) ≡ letters bs ∷ marks (tokens between q r))
  unfolding Word Letters marks mark
  word_marks p [] w = absurd w
  word_marks p (b ∷ bs) w =
      let h = word_behind (suc p) bs w.2 in
      (h.0, ap marks (at_letter p b (bs ++ (32 ∷ r)) w.0) ∙ ap₂ (λ x y. letters (b ∷ x) ∷ marks y) (word_letters bs w.2) h.1)

mutual
  unfolding Worded spell spelling marks mark

  spell_marks : (f : Form) (r : List ℕ) (p : ℕ) → Worded f → (q : ℕ) × (marks (tokens between p (spell f r)) ≡ spelling f (marks (tokens between q r)))
  spell_marks (name bs) r p w = word_marks r p bs w
  spell_marks (group fs) r p w =
      let h = spells_marks fs (41 ∷ r) (suc p) w in (
        suc h.0,
        ap marks (at_left p 40 (spells fs (41 ∷ r)) (kind_left 40 refl))
            ∙ ap (λ x. left ∷ x) (h.1 ∙ ap (λ x. spellings fs (marks x)) (at_right h.0 41 r (kind_right 41 refl))),
      )

  spells_marks : (fs : Forms) (r : List ℕ) (p : ℕ) → AllWorded fs → (q : ℕ) × (marks (tokens between p (spells fs r)) ≡ spellings fs (marks (tokens between q r)))
  spells_marks nil r p w = (p, refl)
  spells_marks (cons f fs) r p w =
      let h = spell_marks f (spells fs r) p w.0 in
      let k = spells_marks fs r h.0 w.1 in
      (k.0, h.1 ∙ ap (spelling f) k.1)

pub spelled_writes : (fs : Forms) → AllWorded fs → Writes (spells fs []) fs
unfolding Writes tokens marks
spelled_writes fs w = let h = spells_marks fs [] 0 w in h.1

-- every byte is below 128
plain_more : (b : ℕ) (bs : List ℕ) → leb b 127 ≡ true → plain bs ≡ true → plain (b ∷ bs) ≡ true
unfolding plain
plain_more b bs e h = ap (λ z. elim z as (λ _. Bool) [ true ↦ plain bs | false ↦ false ]) e ∙ h

plain_letters : (bs r : List ℕ) → Letters bs → plain r ≡ true → plain (bs ++ r) ≡ true
unfolding Letters
plain_letters [] r l h = h
plain_letters (b ∷ bs) r l h = plain_more b (bs ++ r) l.1 (plain_letters bs r l.2 h)

word_letters_of : (bs : List ℕ) → Word bs → Letters bs
unfolding Word
word_letters_of [] w = absurd w
word_letters_of (b ∷ bs) w = w

mutual
  unfolding Worded spell

  spell_plain : (f : Form) (r : List ℕ) → Worded f → plain r ≡ true → plain (spell f r) ≡ true
  spell_plain (name bs) r w h = plain_letters bs (32 ∷ r) (word_letters_of bs w) (plain_more 32 r refl h)
  spell_plain (group fs) r w h = plain_more 40 (spells fs (41 ∷ r)) refl (spells_plain fs (41 ∷ r) w (plain_more 41 r refl h))

  spells_plain : (fs : Forms) (r : List ℕ) → AllWorded fs → plain r ≡ true → plain (spells fs r) ≡ true
  spells_plain nil r w h = h
  spells_plain (cons f fs) r w h = spell_plain f (spells fs r) w.0 (spells_plain fs r w.1 h)

pub spelled_plain : (fs : Forms) → AllWorded fs → plain (spells fs []) ≡ true
unfolding plain
spelled_plain fs w = spells_plain fs [] w refl
