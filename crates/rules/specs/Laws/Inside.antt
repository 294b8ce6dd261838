-- What is read lies in the text: every atom stands where its place says, with the bytes that are there, at least one, letters all, and no
-- letter behind them; and every form ends inside the text. A lexer that gave an atom another place, lost a byte inside it or at its end, took
-- one that belongs to no atom, or made an atom of nothing, would be caught here. Assumes nothing.
use Rattle.std.specs.Prelude.{ℕ, suc, ◌+◌, ◌≤◌, ◌<◌, ◌≡◌, Bool, leb, eqb, length, take, drop}
use Rattle.std.proofs.Math.Path.{refl}
use Rattle.std.proofs.Common.{ap, ◌∙◌, subst, add-one, arith, length-drop, drop-drop}
use Rattle.std.proofs.Math.Bool.{true, false}
use mathlib.Core.List.{List, [], ◌∷◌}
use Rattle.rules.specs.Laws.Theory.{All, empty, both}
use Rattle.rules.specs.Limits.{DEPTH}
use Rattle.rules.specs.Lex.{Kind, blank, left, right, semicolon, letter, kind, Token, opens, closes, word, Mode, between, in_word, in_comment, letters, tokens}
use Rattle.rules.specs.Sexp.{Sexp, Sexps, atom, list, nil, cons, snoc, Text, ends, fails, more, forms, read_from, read}

-- no letter stands first
unfoldable pub NoLetter : List ℕ → Type 0
NoLetter [] = Unit {0}
NoLetter (b ∷ t) = ¬ (kind b ≡ letter)

-- the bytes stand in the text at that place, and are an atom there
pub record At (text : List ℕ) (p : ℕ) (bs : List ℕ) : Type 0 where
  pub some : 0 < length bs
  pub inside : p + length bs ≤ length text
  pub there : take (length bs) (drop p text) ≡ bs
  pub letters : All (λ b. kind b ≡ letter) bs
  pub behind : NoLetter (drop (p + length bs) text)

-- every atom of the form does
unfoldable mutual
  pub InText : List ℕ → Sexp → Type 0
  InText text (atom p bs) = At text p bs
  InText text (list xs) = InTexts text xs

  pub InTexts : List ℕ → Sexps → Type 0
  InTexts text nil = Unit {0}
  InTexts text (cons x xs) = InText text x × InTexts text xs

-- every form's atoms do, and the form's end
unfoldable pub AllInText : List ℕ → Text → Type 0
AllInText text ends = Unit {0}
AllInText text (fails n) = Unit {0}
AllInText text (more x p t) = InText text x × (p ≤ length text) × AllInText text t

-- Tokens ----------------------------------------------------------------------------------------------------------------------------

unfoldable TokenIn : List ℕ → Token → Type 0
TokenIn text (opens p) = p < length text
TokenIn text (closes p) = p < length text
TokenIn text (word p bs) = At text p bs

unfoldable TokensIn : List ℕ → List Token → Type 0
TokensIn text [] = Unit {0}
TokensIn text (x ∷ ts) = TokenIn text x × TokensIn text ts

-- bs is all the letters that t begins with
record Begins (t bs : List ℕ) : Type 0 where
  short : length bs ≤ length t
  first : take (length bs) t ≡ bs
  every : All (λ b. kind b ≡ letter) bs
  behind : NoLetter (drop (length bs) t)

letters_begin : (t : List ℕ) → Begins t (letters t)
unfolding letters NoLetter
letters_begin [] = record { short = omega arith; first = refl; every = empty; behind = tt }
letters_begin (b ∷ t) = go (kind b) refl (letters_begin t)
  where
    nothing : ¬ (kind b ≡ letter) → Begins (b ∷ t) []
    nothing n = record { short = omega arith; first = refl; every = empty; behind = n }

    go :
        (k : Kind) → kind b ≡ k → Begins t (letters t) →
        Begins (b ∷ t) (elim k [ blank ↦ [] | left ↦ [] | right ↦ [] | semicolon ↦ [] | letter ↦ b ∷ letters t ])
    go blank e h = nothing (λ f. let z : ◌≡◌ {A = ℕ} 0 1 = cc in omega arith)
    go left e h = nothing (λ f. let z : ◌≡◌ {A = ℕ} 0 1 = cc in omega arith)
    go right e h = nothing (λ f. let z : ◌≡◌ {A = ℕ} 0 1 = cc in omega arith)
    go semicolon e h = nothing (λ f. let z : ◌≡◌ {A = ℕ} 0 1 = cc in omega arith)
    go letter e h = record { short = omega (arith, h.short); first = ap (λ l. b ∷ l) h.first; every = both e h.every; behind = h.behind }

-- the text from place p on is the byte b and then t
module _ (text : List ℕ) (p b : ℕ) (t : List ℕ) (e : b ∷ t ≡ drop p text) where
  here : p ≤ length text → p < length text
  here h = omega (arith, ap length e, length-drop p text)

  rest_is : t ≡ drop (suc p) text
  rest_is = ap (drop 1) e ∙ drop-drop 1 p text ∙ ap (λ k. drop k text) (add-one p)

  word_at : p ≤ length text → kind b ≡ letter → At text p (b ∷ letters t)
  word_at h f =
      record {
        some = omega arith;
        inside = omega (arith, (letters_begin t).short, ap length e, length-drop p text);
        there = rw (← e) (ap (λ l. b ∷ l) (letters_begin t).first);
        letters = both f (letters_begin t).every;
        behind = subst NoLetter (ap (drop (suc (length (letters t)))) e ∙ drop-drop (suc (length (letters t))) p text) (letters_begin t).behind;
      }

  module _ (h : p ≤ length text) (ih : (m : Mode) → TokensIn text (tokens m (suc p) t)) where
    between_in : TokensIn text (tokens between p (b ∷ t))
    unfolding tokens TokensIn TokenIn
    between_in = go (kind b) refl
      where
        go : (k : Kind) → kind b ≡ k → TokensIn text (elim k [
          | blank ↦ tokens between (suc p) t
          | left ↦ opens p ∷ tokens between (suc p) t
          | right ↦ closes p ∷ tokens between (suc p) t
          | semicolon ↦ tokens in_comment (suc p) t
          | letter ↦ word p (b ∷ letters t) ∷ tokens in_word (suc p) t
        ])
        go blank f = ih between
        go left f = (here h, ih between)
        go right f = (here h, ih between)
        go semicolon f = ih in_comment
        go letter f = (word_at h f, ih in_word)

    word_in : TokensIn text (tokens in_word p (b ∷ t))
    unfolding tokens TokensIn TokenIn
    word_in = go (kind b)
      where
        go : (k : Kind) → TokensIn text (elim k [
          | blank ↦ tokens between (suc p) t
          | left ↦ opens p ∷ tokens between (suc p) t
          | right ↦ closes p ∷ tokens between (suc p) t
          | semicolon ↦ tokens in_comment (suc p) t
          | letter ↦ tokens in_word (suc p) t
        ])
        go blank = ih between
        go left = (here h, ih between)
        go right = (here h, ih between)
        go semicolon = ih in_comment
        go letter = ih in_word

    comment_in : TokensIn text (tokens in_comment p (b ∷ t))
    unfolding tokens
    comment_in = go (eqb b 10)
      where
        go : (k : Bool) → TokensIn text (elim k [ true ↦ tokens between (suc p) t | false ↦ tokens in_comment (suc p) t ])
        go true = ih between
        go false = ih in_comment

tokens_in : (text : List ℕ) (m : Mode) (p : ℕ) (t : List ℕ) → t ≡ drop p text → p ≤ length text → TokensIn text (tokens m p t)
unfolding tokens TokensIn
tokens_in text m p [] e h = tt
tokens_in text between p (b ∷ t) e h =
    between_in text p b t e h (λ m. tokens_in text m (suc p) t (rest_is text p b t e) (here text p b t e h))
tokens_in text in_word p (b ∷ t) e h =
    word_in text p b t e h (λ m. tokens_in text m (suc p) t (rest_is text p b t e) (here text p b t e h))
tokens_in text in_comment p (b ∷ t) e h =
    comment_in text p b t e h (λ m. tokens_in text m (suc p) t (rest_is text p b t e) (here text p b t e h))

-- Forms -----------------------------------------------------------------------------------------------------------------------------

unfoldable StackIn : List ℕ → List Sexps → Type 0
StackIn text [] = Unit {0}
StackIn text (xs ∷ st) = InTexts text xs × StackIn text st

module _ (text : List ℕ) where
  snoc_in : (xs : Sexps) (y : Sexp) → InTexts text xs → InText text y → InTexts text (snoc xs y)
  unfolding snoc InText
  snoc_in nil y h k = (k, tt)
  snoc_in (cons x xs) y h k = (h.0, snoc_in xs y h.1 k)

  deeper : (b : Bool) (t : Text) → AllInText text t → AllInText text (elim b [ true ↦ fails 5 | false ↦ t ])
  unfolding AllInText
  deeper true t h = tt
  deeper false t h = h

  forms_in : (st : List Sexps) (ts : List Token) → StackIn text st → TokensIn text ts → AllInText text (forms st ts)
  unfolding forms StackIn TokensIn TokenIn AllInText InText
  forms_in [] [] h k = tt
  forms_in (xs ∷ st) [] h k = tt
  forms_in [] (opens p ∷ ts) h k = forms_in (nil ∷ []) ts (tt, tt) k.1
  forms_in (xs ∷ st) (opens p ∷ ts) h k =
      deeper (leb DEPTH (length (xs ∷ st))) (forms (nil ∷ xs ∷ st) ts) (forms_in (nil ∷ xs ∷ st) ts (tt, h) k.1)
  forms_in [] (closes p ∷ ts) h k = tt
  forms_in (xs ∷ []) (closes p ∷ ts) h k = (h.0, k.0, forms_in [] ts tt k.1)
  forms_in (xs ∷ ys ∷ st) (closes p ∷ ts) h k =
      forms_in (snoc ys (list xs) ∷ st) ts (snoc_in ys (list xs) h.1.0 h.0, h.1.1) k.1
  forms_in [] (word p bs ∷ ts) h k = (k.0, k.0.inside, forms_in [] ts tt k.1)
  forms_in (xs ∷ st) (word p bs ∷ ts) h k = forms_in (snoc xs (atom p bs) ∷ st) ts (snoc_in xs (atom p bs) h.0 k.0, h.1) k.1

-- from a place of the text on
pub read_from_in : (text : List ℕ) (p : ℕ) → p ≤ length text → AllInText text (read_from text p)
unfolding read_from StackIn
read_from_in text p h = forms_in text [] (tokens between p (drop p text)) tt (tokens_in text between p (drop p text) refl h)

pub read_in : (text : List ℕ) → AllInText text (read text)
unfolding read StackIn
read_in text = forms_in text [] (tokens between 0 text) tt (tokens_in text between 0 text refl (omega arith))
