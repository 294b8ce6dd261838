-- The words of demand 3, first part: the signature that a theory declares, and ground terms. Definitions only.
use Rattle.std.specs.Prelude.{ℕ, ◌<◌, ◌≡◌, List, [], ◌∷◌, length, get_or}
use Rattle.rules.specs.Tree.{Tree, Trees, var, app, none, more}
use Rattle.rules.specs.Theory.{Theory, Rule, no_name, inputs, output}
use Rattle.meaning.specs.Trees.Tree.{Sig}

-- the symbols that a theory declares; sorts are numbered from 1, and judgments have sort 0
unfoldable pub sig : Theory → Sig
sig T = record { syms = length T.symbols; ins = inputs T; out = output T }

-- the sort of judgments
abbrev pub PROP : ℕ
PROP = 0

-- a ground term of sort s: a symbol with that value sort over ground terms of its argument sorts, finitely deep
module _ (S : Sig) where
  unfoldable mutual
    pub Value : Tree → ℕ → Type 0
    Value (var v) s = ⊥
    Value (app c ts) s = (c < S.syms) × (S.out c ≡ s) × Values ts (S.ins c)

    pub Values : Trees → List ℕ → Type 0
    Values none [] = Unit {0}
    Values none (s ∷ ss) = ⊥
    Values (more t ts) [] = ⊥
    Values (more t ts) (s ∷ ss) = Value t s × Values ts ss

-- the number of a rule's variables, and the sort of each
unfoldable pub arity : Rule → ℕ
arity r = length r.vars

unfoldable pub rule_sort : Rule → ℕ → ℕ
rule_sort r i = (get_or r.vars i (record { name = no_name; sort = 0 })).sort
