-- The token that comes next: by the byte behind white space and comments, and to a loop that asked for it. Assumes nothing.
use mathlib.Core.Path.{◌≡◌, ap, ◌∙◌}
use Prim.Native.Nat.{ℕ, ◌+◌, ◌≤◌, ◌<◌}
use mathlib.Core.List.{List, [], ◌∷◌}
use native.Mathlib.Omega.{arith}
use lib.ListN.{length, drop, get_or, length-drop}
use Rattle.rules.specs.Lex.{opens, closes, word, between, letters}
use Rattle.rules.specs.Laws.Lex.{kind_left, kind_right, place_left, place_right, place_letter, place_letters_more, place_behind, letters_front, at_end}
use Rattle.sexp.specs.Lexed.{from, Skipped}
use Rattle.sexp.specs.Tokens.{Comes, Gives, Step}
use Rattle.sexp.specs.declared.tokens.Token.{Token}
use Rattle.sexp.specs.declared.tokens.Tokens.{Tokens}
use Rattle.sexp.proofs.ByteLaws.{letter_here}

module _ {text : List ℕ} {at p : ℕ} (s : Skipped text at p) where
  pub none_comes : length text ≤ p → from text at ≡ []
  none_comes h = s.same ∙ at_end between text p h

  module _ (i : p < length text) where
    pub left_comes : get_or text p 0 ≡ 40 → Comes text at p (p + 1) (opens p)
    left_comes b = record { same = s.same ∙ place_left text p i (kind_left _ b); low = s.low; on = omega arith; high = omega arith }

    pub right_comes : get_or text p 0 ≡ 41 → Comes text at p (p + 1) (closes p)
    right_comes b = record { same = s.same ∙ place_right text p i (kind_right _ b); low = s.low; on = omega arith; high = omega arith }

    pub word_comes : (get_or text p 0 ≡ 40 → ⊥) → (get_or text p 0 ≡ 41 → ⊥) → {end : ℕ} → end ≡ p + length (letters (drop p text)) →
        Comes text at p end (word p (letters (drop p text)))
    word_comes l r e =
        let k = letter_here _ (s.no_blank i) (s.no_comment i) l r in
        record {
          same = s.same ∙ place_letter text p i k ∙ ap (λ ts. word p (letters (drop p text)) ∷ ts) (place_behind text p ∙ rw e);
          low = s.low;
          on = omega (arith, place_letters_more text p i k, e);
          high = omega (arith, (letters_front (drop p text)).short, length-drop p text, e);
        }

-- of a text: what token came, and the tokens behind it
pub record Came (text : List ℕ) (at : ℕ) (token : Token) (next : Tokens) : Type 0 where
  pub same : next.text.now ≡ text
  pub gives : Gives text at token next.at

pub came : {text : List ℕ} {s t : Tokens} {token kind : Token} → s.text.now ≡ text → Step s token t → token ≡ kind → Came text s.at kind t
came e w f = record { same = w.same ∙ e; gives = rw (e, f) at w.gives }

pub none_came : {text whole : List ℕ} (at : ℕ) → whole ≡ text → from whole at ≡ [] → from text at ≡ []
none_came at e w = rw e at w
