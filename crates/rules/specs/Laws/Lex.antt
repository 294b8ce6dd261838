-- Laws of the lexer, a byte at a time, and of an atom whole: at a place of a text, by the kind of the byte there. Assumes nothing.
use Rattle.std.specs.Prelude.{◌≡◌, refl, ℕ, suc, ◌+◌, ◌≤◌, ◌<◌, List, [], ◌∷◌, true, false, length, get_or, take, drop}
use Rattle.std.proofs.Common.{ap, ◌∙◌, add-one, add-zero, arith, drop_of_length-le, drop-cons, drop-drop, ne_eqb}
use Rattle.rules.specs.Lex.{Kind, blank, left, right, semicolon, letter, white, kind, opens, closes, word, Mode, between, in_word, in_comment, tokens, letters}

-- kinds, from tests

pub kind_blank : (b : ℕ) → white b ≡ true → kind b ≡ blank
unfolding kind
kind_blank b h = rw h

pub kind_left : (b : ℕ) → b ≡ 40 → kind b ≡ left
unfolding kind white
kind_left b e = rw e

pub kind_right : (b : ℕ) → b ≡ 41 → kind b ≡ right
unfolding kind white
kind_right b e = rw e

pub kind_semicolon : (b : ℕ) → b ≡ 59 → kind b ≡ semicolon
unfolding kind white
kind_semicolon b e = rw e

pub kind_letter : (b : ℕ) → white b ≡ false → (b ≡ 40 → ⊥) → (b ≡ 41 → ⊥) → (b ≡ 59 → ⊥) → kind b ≡ letter
unfolding kind
kind_letter b h l r s = rw (h, ne_eqb b 40 l, ne_eqb b 41 r, ne_eqb b 59 s)

-- the lexer at a byte

pub at_blank : (p b : ℕ) (t : List ℕ) → kind b ≡ blank → tokens between p (b ∷ t) ≡ tokens between (suc p) t
unfolding tokens
at_blank p b t h = rw (h, tokens)

pub at_left : (p b : ℕ) (t : List ℕ) → kind b ≡ left → tokens between p (b ∷ t) ≡ opens p ∷ tokens between (suc p) t
unfolding tokens
at_left p b t h = rw (h, tokens)

pub at_right : (p b : ℕ) (t : List ℕ) → kind b ≡ right → tokens between p (b ∷ t) ≡ closes p ∷ tokens between (suc p) t
unfolding tokens
at_right p b t h = rw (h, tokens)

pub at_semicolon : (p b : ℕ) (t : List ℕ) → kind b ≡ semicolon → tokens between p (b ∷ t) ≡ tokens in_comment (suc p) t
unfolding tokens
at_semicolon p b t h = rw (h, tokens)

pub at_letter : (p b : ℕ) (t : List ℕ) → kind b ≡ letter → tokens between p (b ∷ t) ≡ word p (b ∷ letters t) ∷ tokens in_word (suc p) t
unfolding tokens
at_letter p b t h = rw (h, tokens)

pub in_word_lem : (p b : ℕ) (t : List ℕ) → kind b ≡ letter → tokens in_word p (b ∷ t) ≡ tokens in_word (suc p) t
unfolding tokens
in_word_lem p b t h = rw (h, tokens)

-- where no letter comes, it makes no difference whether a word stood in front
pub word_over : (p b : ℕ) (t : List ℕ) → (kind b ≡ letter → ⊥) → tokens in_word p (b ∷ t) ≡ tokens between p (b ∷ t)
unfolding tokens
word_over p b t h = go (kind b) refl
  where
    go : (k : Kind) → kind b ≡ k → tokens in_word p (b ∷ t) ≡ tokens between p (b ∷ t)
    go blank e = rw (e, tokens)
    go left e = rw (e, tokens)
    go right e = rw (e, tokens)
    go semicolon e = rw (e, tokens)
    go letter e = absurd (h e)

pub in_comment_lem : (p b : ℕ) (t : List ℕ) → (b ≡ 10 → ⊥) → tokens in_comment p (b ∷ t) ≡ tokens in_comment (suc p) t
unfolding tokens
in_comment_lem p b t h = rw (ne_eqb b 10 h, tokens)

pub comment_over : (p b : ℕ) (t : List ℕ) → b ≡ 10 → tokens in_comment p (b ∷ t) ≡ tokens between p (b ∷ t)
unfolding tokens kind white
comment_over p b t e = rw (e, tokens)

pub letters_more : (b : ℕ) (t : List ℕ) → kind b ≡ letter → letters (b ∷ t) ≡ b ∷ letters t
unfolding letters
letters_more b t h = rw (h, letters)

pub letters_none : (b : ℕ) (t : List ℕ) → (kind b ≡ letter → ⊥) → letters (b ∷ t) ≡ []
unfolding letters
letters_none b t h = go (kind b) refl
  where
    go : (k : Kind) → kind b ≡ k → letters (b ∷ t) ≡ []
    go blank e = rw (e, letters)
    go left e = rw (e, letters)
    go right e = rw (e, letters)
    go semicolon e = rw (e, letters)
    go letter e = absurd (h e)

-- the same at a place of a text
pub drop_at : (text : List ℕ) (p : ℕ) → p < length text → drop p text ≡ get_or text p 0 ∷ drop (p + 1) text
drop_at text p h = rw (add-one, drop-cons text p 0)

module _ (text : List ℕ) (p : ℕ) (h : p < length text) where
  pub place_blank : kind (get_or text p 0) ≡ blank → tokens between p (drop p text) ≡ tokens between (p + 1) (drop (p + 1) text)
  place_blank k = ap (tokens between p) (drop_at text p h) ∙ rw (add-one, at_blank p (get_or text p 0) (drop (suc p) text) k)

  pub place_left : kind (get_or text p 0) ≡ left → tokens between p (drop p text) ≡ opens p ∷ tokens between (p + 1) (drop (p + 1) text)
  place_left k = ap (tokens between p) (drop_at text p h) ∙ rw (add-one, at_left p (get_or text p 0) (drop (suc p) text) k)

  pub place_right : kind (get_or text p 0) ≡ right → tokens between p (drop p text) ≡ closes p ∷ tokens between (p + 1) (drop (p + 1) text)
  place_right k = ap (tokens between p) (drop_at text p h) ∙ rw (add-one, at_right p (get_or text p 0) (drop (suc p) text) k)

  pub place_semicolon : kind (get_or text p 0) ≡ semicolon → tokens between p (drop p text) ≡ tokens in_comment (p + 1) (drop (p + 1) text)
  place_semicolon k = ap (tokens between p) (drop_at text p h) ∙ rw (add-one, at_semicolon p (get_or text p 0) (drop (suc p) text) k)

  -- a word begins: its letters are those from its place on
  pub place_letter : kind (get_or text p 0) ≡ letter → tokens between p (drop p text) ≡ word p (letters (drop p text)) ∷ tokens in_word p (drop p text)
  place_letter k =
      rw (drop_at text p h)
      (at_letter p (get_or text p 0) (drop (p + 1) text) k
      ∙ rw (letters_more (get_or text p 0) (drop (p + 1) text) k, in_word_lem p (get_or text p 0) (drop (p + 1) text) k))

  pub place_in_word : kind (get_or text p 0) ≡ letter → tokens in_word p (drop p text) ≡ tokens in_word (p + 1) (drop (p + 1) text)
  place_in_word k = ap (tokens in_word p) (drop_at text p h) ∙ rw (add-one, in_word_lem p (get_or text p 0) (drop (suc p) text) k)

  pub place_word_over : (kind (get_or text p 0) ≡ letter → ⊥) → tokens in_word p (drop p text) ≡ tokens between p (drop p text)
  place_word_over k = rw (drop_at text p h) (word_over p (get_or text p 0) (drop (p + 1) text) k)

  pub place_in_comment : (get_or text p 0 ≡ 10 → ⊥) → tokens in_comment p (drop p text) ≡ tokens in_comment (p + 1) (drop (p + 1) text)
  place_in_comment k = ap (tokens in_comment p) (drop_at text p h) ∙ rw (add-one, in_comment_lem p (get_or text p 0) (drop (suc p) text) k)

  pub place_comment_over : get_or text p 0 ≡ 10 → tokens in_comment p (drop p text) ≡ tokens between p (drop p text)
  place_comment_over k = rw (drop_at text p h) (comment_over p (get_or text p 0) (drop (p + 1) text) k)

  pub place_letters_more : kind (get_or text p 0) ≡ letter → length (letters (drop p text)) ≡ 1 + length (letters (drop (p + 1) text))
  place_letters_more k = rw (drop_at text p h, letters_more (get_or text p 0) (drop (p + 1) text) k) (omega arith)

  pub place_letters_none : (kind (get_or text p 0) ≡ letter → ⊥) → letters (drop p text) ≡ []
  place_letters_none k = rw (drop_at text p h) (letters_none (get_or text p 0) (drop (p + 1) text) k)

-- at the end of the text nothing comes
pub at_end : (m : Mode) (text : List ℕ) (p : ℕ) → length text ≤ p → tokens m p (drop p text) ≡ []
unfolding tokens
at_end m text p h = rw (drop_of_length-le text h)

pub letters_end : (text : List ℕ) (p : ℕ) → length text ≤ p → letters (drop p text) ≡ []
unfolding letters
letters_end text p h = rw (drop_of_length-le text h)

-- an atom, and what follows it

clash : {A : Type 0} → ◌≡◌ {A = ℕ} 0 1 → A
clash z = absurd (omega arith)

-- the letters in front of a text are its first bytes
pub record Front (t : List ℕ) : Type 0 where
  pub short : length (letters t) ≤ length t
  pub first : take (length (letters t)) t ≡ letters t

pub letters_front : (t : List ℕ) → Front t
unfolding letters
letters_front [] = record { short = omega arith; first = refl }
letters_front (b ∷ t) = go (kind b) refl (letters_front t)
  where
    stop : (kind b ≡ letter → ⊥) → Front (b ∷ t)
    stop f = record { short = rw (letters_none b t f) (omega arith); first = rw (letters_none b t f) }

    go : (k : Kind) → kind b ≡ k → Front t → Front (b ∷ t)
    go letter e h = record { short = rw (letters_more b t e) (omega (arith, h.short)); first = rw (letters_more b t e) (ap (λ l. b ∷ l) h.first) }
    go blank e h = stop (λ f. clash cc)
    go left e h = stop (λ f. clash cc)
    go right e h = stop (λ f. clash cc)
    go semicolon e h = stop (λ f. clash cc)

-- what follows the rest of an atom is read as if nothing stood in front
pub behind_letters : (p : ℕ) (t : List ℕ) → tokens in_word p t ≡ tokens between (p + length (letters t)) (drop (length (letters t)) t)
unfolding letters tokens
behind_letters p [] = refl
behind_letters p (b ∷ t) = go (kind b) refl (behind_letters (suc p) t)
  where
    stop : (kind b ≡ letter → ⊥) → tokens in_word p (b ∷ t) ≡ tokens between (p + length (letters (b ∷ t))) (drop (length (letters (b ∷ t))) (b ∷ t))
    stop f = word_over p b t f ∙ rw (letters_none b t f, add-zero p)

    go :
        (k : Kind) → kind b ≡ k → tokens in_word (suc p) t ≡ tokens between (suc p + length (letters t)) (drop (length (letters t)) t) →
        tokens in_word p (b ∷ t) ≡ tokens between (p + length (letters (b ∷ t))) (drop (length (letters (b ∷ t))) (b ∷ t))
    go letter e h = in_word_lem p b t e ∙ h ∙ rw (letters_more b t e) (ap (λ k. tokens between k (drop (length (letters t)) t)) (omega arith))
    go blank e h = stop (λ f. clash cc)
    go left e h = stop (λ f. clash cc)
    go right e h = stop (λ f. clash cc)
    go semicolon e h = stop (λ f. clash cc)

pub place_behind : (text : List ℕ) (p : ℕ) → tokens in_word p (drop p text) ≡ tokens between (p + length (letters (drop p text))) (drop (p + length (letters (drop p text))) text)
place_behind text p = behind_letters p (drop p text) ∙ ap (tokens between (p + length (letters (drop p text)))) (drop-drop (length (letters (drop p text))) p text)
