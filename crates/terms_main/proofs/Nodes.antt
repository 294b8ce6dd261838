-- The nodes that are read and written. Assumes nothing.
use Rattle.std.proofs.Common.{ℕ, zero, suc, ◌-◌, ◌<◌, List, [], ◌∷◌, length, take, drop, get_or, subst, sym, arith}
use Rattle.std.proofs.Common.{take_all}
use Rattle.rules.specs.Limits.{SYMBOLS}
use Rattle.terms.specs.Table.{Below, Shaped, is_var, is_app, Node}

-- an application's arguments stand before it
pub args_below : (n : ℕ) (w : List ℕ) → Shaped n w → get_or w 0 0 < SYMBOLS → Below n (take (length w - 1) (drop 1 w))
args_below n [] x l = elim x [ ]
args_below n (h ∷ []) (is_var p q) l = absurd (omega (arith, p, l))
args_below n (h ∷ xs) (is_app p q) l = subst (Below n) (sym (take_all (length (h ∷ xs) - 1) xs (omega arith))) q

module _ (n h a b : ℕ) (p : h < SYMBOLS) (l : a < n) (r : b < n) where
  pub pair_node : Node n (h ∷ a ∷ b ∷ [])
  pair_node = record { narrow = omega arith; shaped = is_app {xs = a ∷ b ∷ []} p args }
    where
      args : (k : ℕ) → k < 2 → get_or (a ∷ b ∷ []) k 0 < n
      args zero q = l
      args (suc zero) q = r
      args (suc (suc k)) q = absurd (omega arith)
