-- A map with one variable bound stands for the replacement of that variable. Assumes nothing.
use mathlib.Core.Path.{◌≡◌, sym, ap, ◌∙◌}
use mathlib.Core.Bool.{Bool, true, false}
use Prim.Native.Nat.{ℕ, ◌+◌, ◌<◌}
use native.Mathlib.Omega.{arith}
use native.Mathlib.Decide.{ℕ_discrete}
use lib.ListN.{get_or, set, replicate, length-replicate}
use lib.Seq.{get_or-set_same, get_or-set_other}
use borrow.Author.Tests.{eq-eqb, ne_eqb}
use Rattle.rules.specs.Tree.{Tree, var, single}
use Rattle.rules.specs.Store.{Made}
use Rattle.terms.specs.Subst.{replacement}
use Rattle.terms.specs.Laws.Zeros.{get_d_zeros}
use Rattle.terms.specs.Laws.Theta.{replacement_some, replacement_none}

single_here : (x v : ℕ) (t : Tree) → v ≡ x → single x t v ≡ t
unfolding single
single_here x v t e = ap (λ (b : Bool). elim b [ true ↦ t | false ↦ var v ]) (eq-eqb v x e)

single_there : (x v : ℕ) (t : Tree) → (v ≡ x → ⊥) → single x t v ≡ var v
unfolding single
single_there x v t n = ap (λ (b : Bool). elim b [ true ↦ t | false ↦ var v ]) (ne_eqb v x n)

pub single_map : (M : Made) (n x u : ℕ) → x < n → replacement M (set (replicate n 0) x (u + 1)) ≡ single x (get_or M u (var 0))
single_map M n x u h = λ i v. at v i
  where
    at : (v : ℕ) → replacement M (set (replicate n 0) x (u + 1)) v ≡ single x (get_or M u (var 0)) v
    at v = elim (ℕ_discrete v x) [
      | yes e ↦
          let l = length-replicate {A = ℕ} n 0 in
          replacement_some M (set (replicate n 0) x (u + 1)) v u (ap (λ (k : ℕ). get_or (set (replicate n 0) x (u + 1)) k 0) e ∙ get_or-set_same (replicate n 0) x (u + 1) 0 (omega arith))
          ∙ sym (single_here x v _ e)
      | no q ↦ replacement_none M (set (replicate n 0) x (u + 1)) v (get_or-set_other (replicate n 0) x v (u + 1) 0 q ∙ get_d_zeros n v) ∙ sym (single_there x v _ q)
    ]
