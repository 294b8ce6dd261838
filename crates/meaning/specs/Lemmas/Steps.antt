-- `step`: the fact that a rule gives from true facts is true. Generic in the set of rules. Assumes nothing.
use Prim.Native.Nat.{ℕ, ◌<◌}
use Rattle.std.specs.Prelude.{◌≡◌}
use Rattle.std.proofs.Common.{sym, ◌∙◌, subst}
use Rattle.std.proofs.Math.Path.{ap}
use Rattle.rules.specs.Tree.{Tree, sub, subs}
use Rattle.rules.specs.Theory.{Theory, rule}
use Rattle.rules.specs.State.{Fact}
use Rattle.meaning.specs.Trees.Tree.{Occ, Sorted}
use Rattle.meaning.specs.Trees.Tree.{sub_sub, subs_subs}
use Rattle.meaning.specs.Signature.{sig, arity, rule_sort}
use Rattle.meaning.specs.Derivation.{node, Ders}
use Rattle.meaning.specs.Truth.{Needs, Gives, Entails}
use Rattle.meaning.specs.Lemmas.Sound.{value_sub, GivesAll, gives_ders}

module _ (T : Theory) (vs : ℕ → ℕ) (R : ℕ → Type 0) where
  -- step: a rule with bindings β for all its variables, the premises given
  pub step_true : (K : Fact → Type 0) (r : ℕ) (β : ℕ → Tree) (j : Tree)
      → R r
      → ((i : ℕ) → i < arity (rule T r) → Sorted (sig T) vs (β i) (rule_sort (rule T r) i))
      → ((i : ℕ) → i < arity (rule T r) → (v : ℕ) → Occ v (β i) → Needs K j v)
      → GivesAll T vs R K j (subs β (rule T r).premises)
      → sub β (rule T r).conclusion ≡ j
      → Entails T vs R K j
  unfolding Entails Gives
  step_true K r β j u s a g e γ n h =
      node r ρ (sub γ j) u
      (λ i l. value_sub (sig T) vs γ (β i) (rule_sort (rule T r) i) (s i l) (λ v o. n v (a i l v o)))
      (subst (λ ts. Ders T R ts) (subs_subs γ β (rule T r).premises) (gives_ders T vs R K j (subs β (rule T r).premises) g γ n h))
      (sym (sub_sub γ β (rule T r).conclusion) ∙ ap (sub γ) e)
    where
      ρ : ℕ → Tree
      ρ i = sub γ (β i)
