-- The words of demand 3, second part: derivations. Definitions only.
-- "A derivation is a finite tree: each node is a rule under a ground replacement of all its variables, and its children derive the
-- premises, in order. A judgment is derivable if the root of some derivation concludes it."
use Rattle.std.specs.Prelude.{ℕ, ◌<◌, ◌≡◌, length}
use Rattle.rules.specs.Tree.{Tree, Trees, none, more, sub, subs}
use Rattle.rules.specs.Theory.{Theory, rule}
use Rattle.meaning.specs.Signature.{sig, Value, arity, rule_sort}

-- derivations of a judgment that use only the rules r for which there is an R r
mutual
  pub data Der (T : Theory) (R : ℕ → Type 0) : Tree → Type 0 where
    node : (r : ℕ) (ρ : ℕ → Tree) (j : Tree)
        → R r
        → ((i : ℕ) → i < arity (rule T r) → Value (sig T) (ρ i) (rule_sort (rule T r) i))
        → Ders T R (subs ρ (rule T r).premises)
        → sub ρ (rule T r).conclusion ≡ j
        → Der T R j

  -- one for each of the judgments, in order
  pub data Ders (T : Theory) (R : ℕ → Type 0) : Trees → Type 0 where
    leaf : Ders T R none
    both : (t : Tree) (ts : Trees) → Der T R t → Ders T R ts → Ders T R (more t ts)

-- all rules of the theory
abbrev pub RuleOf : Theory → ℕ → Type 0
RuleOf T r = r < length T.rules

abbrev pub Derivable : Theory → Tree → Type 0
Derivable T j = Der T (RuleOf T) j
