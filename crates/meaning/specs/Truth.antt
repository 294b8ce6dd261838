-- The words of demand 3, third part: a hypothesis's free variables, when it holds, when a fact is true. Definitions only.
-- "A hypothesis's free variables are those of its judgment and premises that are not generalised. It holds when, for each ground value
-- of its generalised variables that occur in it, its judgment is derivable if all its premises are."
use Rattle.std.specs.Prelude.{ℕ, zero, suc, ◌≡◌, ◌⊎◌, List, [], ◌∷◌}
use Rattle.rules.specs.Tree.{Tree, none, sub, subs}
use Rattle.rules.specs.Theory.{Theory}
use Rattle.rules.specs.State.{Fact}
use Rattle.meaning.specs.Trees.Tree.{Occ, Occs, In}
use Rattle.meaning.specs.Signature.{sig, Value}
use Rattle.meaning.specs.Derivation.{Der, Ders}

-- Facts ---------------------------------------------------------------------------------------------------------------------------

-- v is a variable of the fact's judgment or premises
unfoldable pub Mentions : ℕ → Fact → Type 0
Mentions v g = Occ v g.judgment ⊎ Occs v g.premises

unfoldable pub Free : ℕ → Fact → Type 0
Free v g = Mentions v g × ¬ (In v g.general)

-- no premises, nothing generalised
unfoldable pub Plain : Fact → Type 0
Plain g = (g.general ≡ []) × (g.premises ≡ none)

-- fact number h of the list is g
unfoldable pub At : List Fact → ℕ → Fact → Type 0
At [] h g = ⊥
At (f ∷ fs) zero g = f ≡ g
At (f ∷ fs) (suc h) g = At fs h g

-- g is one of the hypotheses on which f rests
unfoldable pub HypOf : List Fact → Fact → Fact → Type 0
HypOf fs f g = (h : ℕ) × In h f.hyps × At fs h g

-- the variables that a replacement must give a value: those of the judgment j, and the free ones of the hypotheses H
unfoldable pub Needs : (Fact → Type 0) → Tree → ℕ → Type 0
Needs H j v = Occ v j ⊎ ((g : Fact) × H g × Free v g)

-- Truth ---------------------------------------------------------------------------------------------------------------------------

-- T: the theory; vs: the sorts of the proof's variables
module _ (T : Theory) (vs : ℕ → ℕ) where
  -- δ is γ but for g's generalised variables, which have some ground value of their sort
  pub record Varies (g : Fact) (γ δ : ℕ → Tree) : Type 0 where
    pub same : (v : ℕ) → Mentions v g → ¬ (In v g.general) → δ v ≡ γ v
    pub value : (v : ℕ) → Mentions v g → In v g.general → Value (sig T) (δ v) (vs v)

-- R: the rules that may be used
module _ (T : Theory) (vs : ℕ → ℕ) (R : ℕ → Type 0) where
  -- under γ the hypothesis holds
  unfoldable pub Holds : (ℕ → Tree) → Fact → Type 0
  Holds γ g = (δ : ℕ → Tree) → Varies T vs g γ δ → Ders T R (subs δ g.premises) → Der T R (sub δ g.judgment)

  -- under each γ with a ground value for what H and j need, under which all of H holds, t is derivable
  unfoldable pub Gives : (Fact → Type 0) → Tree → Tree → Type 0
  Gives H j t =
      (γ : ℕ → Tree)
      → ((v : ℕ) → Needs H j v → Value (sig T) (γ v) (vs v))
      → ((g : Fact) → H g → Holds γ g)
      → Der T R (sub γ t)

  unfoldable pub Entails : (Fact → Type 0) → Tree → Type 0
  Entails H j = Gives H j j

  -- a fact f of the list fs: for each ground replacement of its judgment's variables and of the free variables of the hypotheses on
  -- which it rests, if these hold, its judgment is derivable
  unfoldable pub True : List Fact → Fact → Type 0
  True fs f = Entails (HypOf fs f) f.judgment
