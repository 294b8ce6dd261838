-- Every action on made trees, at the invariant `sound`: from sound trees, and a state whose trees are among them, it only appends and leaves sound
-- trees, whether it answers or refuses, and what it answers is among them. Assumes nothing.
use Rattle.std.specs.Prelude.{ℕ, ◌≡◌, Some as some}
use Rattle.rules.specs.Sexp.{Sexp, Sexps}
use Rattle.rules.specs.Tree.{Tree, Trees}
use Rattle.rules.specs.Store.{Made, keep, make, substitute, substitutes}
use Rattle.rules.specs.Match.{Bound, build}
use Rattle.rules.specs.Unify.{unify}
use Rattle.rules.specs.State.{State}
use Rattle.rules.specs.Read.{term, judgment, judgments}
use Rattle.rules.specs.Reference.{reference}
use Rattle.rules.specs.Step.{step}
use Rattle.rules.specs.Apply.{apply}
use Rattle.rules.specs.Induct.{induct, induct_with}
use Rattle.rules.specs.Invert.{invert}
use Rattle.rules.specs.Laws.Keeping.{Each, Arguments, Keeps}
use Rattle.rules.proofs.Laws.MakingWalk.{Unifier, keep_keeps, make_keeps, substitute_keeps, substitutes_keeps, build_keeps, unify_keeps}
use Rattle.rules.proofs.Laws.ReadWalk.{term_keeps, judgment_keeps, judgments_keeps, reference_keeps}
use Rattle.rules.specs.Laws.Ready.{FactIn, Ready}
use Rattle.rules.proofs.Laws.StepWalk.{step_keeps, apply_keeps}
use Rattle.rules.proofs.Laws.CaseWalk.{Longer, induct_keeps, induct_with_keeps, invert_keeps}
use Rattle.rules.specs.Laws.Sound.{In, Sound, sound}

module _ (m : Made) where
  pub keep_sound : (t : Tree) → Sound m → Arguments (λ u. In u m) t → Keeps sound m (λ a u. In a u) (keep t m)
  unfolding sound
  keep_sound t h a = keep_keeps t m h a

  pub make_sound : (t : Tree) → Sound m → Keeps sound m (λ a u. In a u) (make t m)
  unfolding sound
  make_sound t h = make_keeps t m h

  pub substitute_sound : (σ : ℕ → Tree) (t : Tree) → Sound m → Keeps sound m (λ a u. In a u) (substitute σ t m)
  unfolding sound
  substitute_sound σ t h = substitute_keeps σ t m h

  pub substitutes_sound : (σ : ℕ → Tree) (ts : Trees) → Sound m → Keeps sound m (λ a u. Each (λ t. In t u) a) (substitutes σ ts m)
  unfolding sound
  substitutes_sound σ ts h = substitutes_keeps σ ts m h

  pub build_sound : (p : Tree) (b : Bound) → Sound m → ((v : ℕ) (t : Tree) → b v ≡ some t → In t m) → Keeps sound m (λ a u. In a u) (build p b m)
  unfolding sound
  build_sound p b h k = build_keeps p b m h k

  -- the values of the unifier are there
  pub unify_sound : (n : ℕ) (s t : Tree) → Sound m → Keeps sound m (Unifier sound) (unify n s t m)
  unfolding sound
  unify_sound n s t h = unify_keeps n s t m h

  module _ (S : State) (h : Ready sound S m) where
    pub term_sound : (x : Sexp) → Keeps sound m (λ a u. In a u) (term S x m)
    unfolding sound
    term_sound x = term_keeps S x m h

    pub judgment_sound : (x : Sexp) → Keeps sound m (λ a u. In a u) (judgment S x m)
    unfolding sound
    judgment_sound x = judgment_keeps S x m h

    pub judgments_sound : (x : Sexp) → Keeps sound m (λ a u. Each (λ t. In t u) a) (judgments S x m)
    unfolding sound
    judgments_sound x = judgments_keeps S x m h

    pub reference_sound : (x : Sexp) → Keeps sound m (λ r u. In r.judgment u) (reference S x m)
    unfolding sound
    reference_sound x = reference_keeps S x m h

    pub step_sound : (xs : Sexps) → Keeps sound m (λ r u. FactIn sound u r.0) (step S xs m)
    step_sound xs = step_keeps S xs m h

    pub apply_sound : (xs : Sexps) → Keeps sound m (λ f u. FactIn sound u f) (apply S xs m)
    apply_sound xs = apply_keeps S xs m h

    pub induct_sound : (xs : Sexps) → Keeps sound m (λ f u. FactIn sound u f) (induct S xs m)
    induct_sound xs = induct_keeps S xs m h

    pub induct_with_sound : (xs : Sexps) → Keeps sound m (λ f u. FactIn sound u f) (induct_with S xs m)
    induct_with_sound xs = induct_with_keeps S xs m h

    pub invert_sound : (xs : Sexps) → Keeps sound m (λ r u. FactIn sound u r.0 × Longer S.vars r.1) (invert S xs m)
    invert_sound xs = invert_keeps S xs m h
