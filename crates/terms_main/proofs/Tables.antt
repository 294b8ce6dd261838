-- Tables that are zero, and bindings in them. Assumes nothing.
use Rattle.std.proofs.Common.{◌≡◌, ℕ, ◌≤◌, List, length, replicate, ap, ◌∙◌, sym, subst, arith}
use Rattle.std.proofs.lemmas.List.{length-replicate}
use Rattle.terms.specs.declared.store.Mark.{Mark}
use Rattle.terms.specs.Theta.{Theta, Zeros}

zeros : (n : ℕ) → Zeros (replicate n 0)
zeros n = ap (λ (k : ℕ). replicate {A = ℕ} k 0) (sym (length-replicate {A = ℕ} n 0))

pub zeroed : (xs : List ℕ) (n : ℕ) → xs ≡ replicate n 0 → (length xs ≡ n) × Zeros xs
zeroed xs n e = (ap length e ∙ length-replicate {A = ℕ} n 0, subst Zeros (sym e) (zeros n))

-- bindings stay what they are while terms are added
pub theta_later : {m n : Mark} {theta : List ℕ} → Theta m theta → m.terms ≤ n.terms → Theta n theta
theta_later b more = record { long = b.long; bound = λ v. omega (arith, b.bound v, more) }
