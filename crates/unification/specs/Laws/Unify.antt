-- What the answers of `unify` say of the two terms: its bindings are a most general unifier, and where it says that none exists, none does.
-- Assumes nothing.
use Rattle.std.specs.Prelude.{◌≡◌, List, ℕ}
use Rattle.std.proofs.Common.{⊎_elim}
use Rattle.rules.specs.Tree.{Tree, sub}
use Rattle.rules.specs.Unify.{unify}
use Rattle.meaning.specs.Trees.Tests.{occ_variables}
use Rattle.meaning.specs.Unification.Right.{Unifier, unify_complete, unify_general}
use Rattle.terms.specs.declared.store.Mark.{Mark}
use Rattle.terms.specs.Table.{made, tree}
use Rattle.terms.specs.Theta.{bindings}
use Rattle.unification.specs.Unify.{Unifiable, Solved, Unsolved}

module _ {I W J X : List ℕ} {m new : Mark} {count s t : ℕ} {theta map memo pairs seen theta' : List ℕ} (q : Unifiable I W m count s t theta map memo pairs seen) where
  -- where `unify` answers `Ok(false)`, no replacement makes the terms equal
  pub apart_none : Unsolved I W J X m theta' (unify count (tree I W m s) (tree I W m t) (made I W m)) new → (σ : ℕ → Tree) → sub σ (tree I W m s) ≡ sub σ (tree I W m t) → ⊥
  apart_none u σ e =
      unify_complete count (tree I W m s) (tree I W m t) (made I W m) (made J X new)
      (λ v. ⊎_elim (λ o. q.lefts v (occ_variables (tree I W m s) v o)) (λ o. q.rights v (occ_variables (tree I W m t) v o)))
      u.makes σ e

  -- the bindings found are a most general unifier
  pub found_general : Solved I W J X m theta' (unify count (tree I W m s) (tree I W m t) (made I W m)) new → Unifier (tree I W m s) (tree I W m t) (bindings (made J X new) theta' 0)
  found_general f = unify_general count (tree I W m s) (tree I W m t) (made I W m) (made J X new) (bindings (made J X new) theta' 0) f.makes
