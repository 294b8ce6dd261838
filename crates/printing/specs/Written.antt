-- A number as it is written, in decimal: the text of std is its digits, with no 0 in front but for 0 itself. Assumes nothing.
use Rattle.std.specs.Prelude.{ℕ, zero, suc, ◌+◌, ◌/◌, ◌%◌, ◌<◌, ◌≤◌, ◌^◌, ◌≡◌, List, [], ◌∷◌, ◌++◌}
use Rattle.std.specs.Fmt.{decimal}
use Rattle.io.specs.Digits.{last_digits, hex_digit_ascii, IsDigitCount}
use mathlib.Core.Path.{sym, ap, ◌∙◌, subst}
use native.Mathlib.Nat.{pow-suc}
use native.Mathlib.Omega.{arith}
use Rattle.std.proofs.lemmas.Bool.{cond_below}
use Rattle.std.proofs.lemmas.Fmt.{decimal_by_steps}

pub record Decimal (n : ℕ) (bytes : List ℕ) : Type 0 where
  pub many : ℕ
  pub fewest : IsDigitCount 10 1 n many
  pub spelled : bytes ≡ last_digits 10 many n

digit : (d : ℕ) → d < 10 → hex_digit_ascii d ≡ 48 + d
digit d l = sym (cond_below d 10 (48 + d) (87 + d) l)

one : (n : ℕ) → n < 10 → Decimal n ((48 + n) ∷ [])
one n l = record {
  many = 1;
  fewest = (omega arith, omega (arith, l), λ m. absurd (omega (arith, m)));
  spelled = ap (λ (b : ℕ). b ∷ []) (omega (arith, l, digit (n % 10) (omega arith)));
}

-- one digit more
grown : (m n : ℕ) → 10 ≤ n → IsDigitCount 10 1 (n / 10) m → IsDigitCount 10 1 n (suc m)
grown zero n l d = absurd (omega (arith, d.0))
grown (suc zero) n l d = (omega arith, omega (arith, d.1), λ _. l)
grown (suc (suc m)) n l d = (omega arith, omega (arith, d.1, pow-suc 10 (suc (suc m))), λ _. subst (λ (k : ℕ). 10 ^ k ≤ n) (omega arith) below)
  where
    ten_less : 10 ^ suc m ≤ n / 10
    ten_less = subst (λ (k : ℕ). 10 ^ k ≤ n / 10) (omega arith) (d.2 (omega arith))

    below : 10 ^ suc (suc m) ≤ n
    below = omega (arith, ten_less, pow-suc 10 (suc m))

more : (n : ℕ) (ds : List ℕ) → 10 ≤ n → Decimal (n / 10) ds → Decimal n (ds ++ ((48 + n % 10) ∷ []))
more n ds l d = record {
  many = suc d.many;
  fewest = grown d.many n l d.fewest;
  spelled =
      ap (λ (t : List ℕ). t ++ ((48 + n % 10) ∷ [])) d.spelled
      ∙ ap (λ (b : ℕ). last_digits 10 d.many (n / 10) ++ (b ∷ [])) (sym (digit (n % 10) (omega arith)));
}

pub decimal_written : (n : ℕ) → n < 2 ^ 64 → Decimal n (decimal n)
decimal_written = decimal_by_steps Decimal one more
