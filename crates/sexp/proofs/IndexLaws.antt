-- An index, a digit at a time. Assumes nothing.
use mathlib.Core.Path.{◌≡◌, refl, sym, ap, ◌∙◌}
use mathlib.Core.Bool.{Bool, true, false, ◌&&◌}
use Rattle.std.specs.Prelude.{MatchOption, Option, Some as some, None as nothing}
use mathlib.Core.List.{List, [], ◌∷◌}
use Prim.Native.Nat.{ℕ, ◌+◌, ◌-◌, ◌*◌, ◌^◌, ◌≤◌, ◌<◌}
use native.Mathlib.Omega.{arith}
use lib.ListN.{length, get_or, take, drop, drop_of_length-le}
use lib.Dec.{eqb, ltb}
use lib.Pointwise.{pointwise}
use denote.Bor.{Bor}
use Rattle.std.specs.Option.{unwrap_or}
use Rattle.std.proofs.lemmas.Bool.{and_parts}
use Rattle.sexp.specs.Never.{never}
use borrow.Author.Tests.{eqb-true, eq-eqb, ne_eqb, lt-ltb, le-ltb}
use Rattle.rules.specs.Index.{digit, digits, value, unsigned, index_of}
use Rattle.rules.specs.Laws.Lex.{drop_at}
use Rattle.std.proofs.Math.Bool.{and-false}

value_more : (n : ℕ) (bs : List ℕ) → n ≤ value n bs
unfolding value
value_more n [] = omega arith
value_more n (b ∷ bs) = let h = value_more (n * 10 + (b - 48)) bs in omega arith

abbrev checked : Bool → ℕ → Option ℕ
checked t n = elim t [ true ↦ some n | false ↦ nothing ]

unsigned_cons : (b : ℕ) (D : List ℕ) → unsigned (b ∷ D) ≡ checked (digits (b ∷ D) && ltb (value 0 (b ∷ D)) (2 ^ 64)) (value 0 (b ∷ D))
unfolding unsigned
unsigned_cons b D = refl

no_digits : (D : List ℕ) → digits D ≡ false → unsigned D ≡ nothing
unfolding unsigned
no_digits [] e = refl
no_digits (b ∷ D) e = unsigned_cons b D ∙ ap (λ x. checked (x && ltb (value 0 (b ∷ D)) (2 ^ 64)) (value 0 (b ∷ D))) e

too_big : (D : List ℕ) → 2 ^ 64 ≤ value 0 D → unsigned D ≡ nothing
unfolding unsigned
too_big [] h = refl
too_big (b ∷ D) h =
    let v : ℕ = value 0 (b ∷ D) in
    unsigned_cons b D ∙ ap (λ x. checked (digits (b ∷ D) && x) v) (le-ltb v (2 ^ 64) h) ∙ ap (λ x. checked x v) (and-false (digits (b ∷ D)))

is_unsigned : (D : List ℕ) (n : ℕ) → (length D ≡ 0 → ⊥) → digits D ≡ true → value 0 D ≡ n → n < 2 ^ 64 → unsigned D ≡ some n
is_unsigned [] n s e v h = absurd (s refl)
is_unsigned (b ∷ D) n s e v h =
    unsigned_cons b D ∙ ap (λ x. checked (x && ltb (value 0 (b ∷ D)) (2 ^ 64)) (value 0 (b ∷ D))) e
    ∙ ap (λ k. checked (ltb k (2 ^ 64)) k) v ∙ ap (λ x. checked x n) (lt-ltb n (2 ^ 64) h)

pub none_there : (D : List ℕ) → length D ≡ 0 → nothing ≡ (unsigned D)
unfolding unsigned
none_there [] e = refl
none_there (b ∷ D) e = absurd (omega arith)

digits_on : (b : ℕ) (bs : List ℕ) → digit b ≡ true → digits (b ∷ bs) ≡ digits bs
unfolding digits
digits_on b bs e = rw (e, digits)

digits_off : (b : ℕ) (bs : List ℕ) → digit b ≡ false → digits (b ∷ bs) ≡ false
unfolding digits
digits_off b bs e = rw (e, digits)

-- what is left from `at` on decides, behind digits of value n
pub record Reading (D : List ℕ) (n at : ℕ) : Type 0 where
  pub inside : at ≤ length D
  pub fits : n < 2 ^ 64
  pub all : digits D ≡ digits (drop at D)
  pub worth : value 0 D ≡ value n (drop at D)

pub start : (D : List ℕ) → Reading D 0 0
start D = record { inside = omega arith; fits = omega arith; all = refl; worth = refl }

module _ {D : List ℕ} {n at : ℕ} (r : Reading D n at) where
  pub all_read : (length D ≡ 0 → ⊥) → length D ≤ at → some n ≡ (unsigned D)
  unfolding digits value
  all_read s h =
      let e = drop_of_length-le D {i = at} h in
      sym ((is_unsigned D n s (r.all ∙ ap digits e) (r.worth ∙ ap (value n) e) r.fits))

  module _ (h : at < length D) where
    abbrev pub b : ℕ
    b = get_or D at 0

    here : drop at D ≡ b ∷ drop (at + 1) D
    here = drop_at D at h

    pub no_digit : digit b ≡ false → nothing ≡ (unsigned D)
    no_digit e = sym ((no_digits D (r.all ∙ ap digits here ∙ digits_off b (drop (at + 1) D) e)))

    next_value : value 0 D ≡ value (n * 10 + (b - 48)) (drop (at + 1) D)
    unfolding value
    next_value = r.worth ∙ ap (value n) here

    pub overflows : (n * 10 + (b - 48) < 2 ^ 64 → ⊥) → nothing ≡ (unsigned D)
    overflows o = sym ((too_big D (omega (arith, next_value, value_more (n * 10 + (b - 48)) (drop (at + 1) D)))))

    pub more : digit b ≡ true → {m : ℕ} → m ≡ n * 10 + (b - 48) → m < 2 ^ 64 → Reading D m (at + 1)
    more d e f =
        record {
          inside = omega arith;
          fits = f;
          all = r.all ∙ ap digits here ∙ digits_on b (drop (at + 1) D) d;
          worth = next_value ∙ ap (λ k. value k (drop (at + 1) D)) (sym e);
        }

-- the sign
index_signed : (b : ℕ) (D : List ℕ) → b ≡ 43 → index_of (b ∷ D) ≡ unsigned D
unfolding index_of
index_signed b D e = rw (eq-eqb b 43 e, index_of)

index_unsigned : (b : ℕ) (D : List ℕ) → (b ≡ 43 → ⊥) → index_of (b ∷ D) ≡ unsigned (b ∷ D)
unfolding index_of
index_unsigned b D e = rw (ne_eqb b 43 e, index_of)

-- what is left without the sign, as `strip_prefix` answers
module _ (name : Bor (List ℕ)) where
  pub index_stripped : (D : List ℕ) → name.now ≡ D → (r : Option (Bor (List ℕ)))
      → MatchOption r (pointwise eqb (take 1 D) (43 ∷ []) ≡ false) (λ x. (pointwise eqb (take 1 D) (43 ∷ []) ≡ true) × (x.now ≡ drop 1 D) × (length x.now + 1 ≡ length D))
      → unsigned (unwrap_or r name).now ≡ index_of D
  unfolding index_of unsigned
  index_stripped [] e nothing k = ap unsigned e
  index_stripped [] e (some x) k = let z : false ≡ true = k.0 in never cc
  index_stripped (y ∷ ys) e nothing k =
      ap unsigned e ∙ sym (index_unsigned y ys (λ f. let z : false ≡ true = sym k ∙ ap (λ t. t && true) (eq-eqb y 43 f) in never cc))
  index_stripped (y ∷ ys) e (some x) k = ap unsigned k.1 ∙ sym (index_signed y ys (eqb-true y 43 (and_parts _ _ k.0).0))
