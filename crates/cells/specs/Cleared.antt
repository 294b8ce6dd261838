-- A table whose first cells are cleared as a part of it, and one that is cleared where an answer is a refusal. Assumes nothing.
use Rattle.std.proofs.Common.{◌≡◌, ap, ◌∙◌, ℕ, ◌≤◌, List, Result, Ok, Err, ◌++◌, length, take, drop, replicate, arith, length-append, length-drop, length-take-le}
use Rattle.std.proofs.lemmas.List.{length-replicate}

module _ {A : Type 0} (z : A) (n : ℕ) (w : List A) {front : List A} (h : n ≤ length w) (e : front ≡ replicate (length (take n w)) z) where
  pub front_cleared : front ++ drop n w ≡ replicate n z ++ drop n w
  front_cleared = ap (λ (l : List A). l ++ drop n w) (e ∙ ap (λ (k : ℕ). replicate k z) (length-take-le n w h))

  pub front_length : length (front ++ drop n w) ≡ length w
  front_length = ap length front_cleared ∙ omega (arith, h, length-append (replicate n z) (drop n w), length-replicate n z, length-drop n w)

-- kept where there is an answer, and cleared to a value where it is a refusal
abbrev pub ClearedBy : {A E T : Type 0} → T → Result A E → List T → List T → Type 0
ClearedBy zero (Ok _) before after = after ≡ before
ClearedBy zero (Err _) before after = after ≡ replicate (length before) zero
