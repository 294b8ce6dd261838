-- The tests of each form as conditions on trees: what `rules` must have asked for the form's lemma to apply. Definitions only.
-- T: the theory; vs: the sorts of the variables; Part n r: fact number n rests on the rule r; Known n r: it stays true where the rule r is
-- there. For demand 3 both are "r is a rule of the theory"; a footing, or a theory with more rules, are other choices.
use Rattle.std.specs.Prelude.{ℕ, ◌<◌, ◌≡◌, ◌⊎◌, List, [], ◌∷◌, ◌++◌, length}
use Rattle.rules.specs.Tree.{Tree, Trees, var, app, none, more, sub, subs}
use Rattle.rules.specs.Theory.{Theory, Rule, rule}
use Rattle.rules.specs.State.{Fact}
use Rattle.meaning.specs.Trees.Tree.{Occ, Occs, Sorted, In, Among}
use Rattle.meaning.specs.Signature.{sig, arity, rule_sort}
use Rattle.meaning.specs.Truth.{At, HypOf, Needs, Plain}
use Rattle.meaning.specs.Trees.Replace.{vars, Fit, Distinct}
use Rattle.meaning.specs.Lemmas.Inducts.{CaseHyp, Motive, at}
use Rattle.meaning.specs.Lemmas.Inverts.{renamed, Used, InvertHyp, Apart, General}

-- with one fact more
abbrev pub grown : List Fact → Fact → List Fact
grown fs f = fs ++ (f ∷ [])

-- question 39: v is in the conclusion or free in a hypothesis
unfoldable pub Allowed : List Fact → Fact → ℕ → Type 0
Allowed fs f v = Needs (HypOf fs f) f.judgment v

-- c is one of the facts of a list of places
unfoldable pub InContext : List Fact → List ℕ → Fact → Type 0
InContext fs context c = (h : ℕ) × In h context × At fs h c

module _ (T : Theory) (vs : ℕ → ℕ) (Known Part : ℕ → ℕ → Type 0) where
  -- the new fact n cites g, no rule hypothesis with premises, and rests on what that rests on
  pub record Cites (fs : List Fact) (n : ℕ) (g : Fact) : Type 0 where
    pub place : ℕ
    pub at : At fs place g
    pub free : g.premises ≡ none
    pub rules : (r : ℕ) → Part place r → Part n r
    pub known : (r : ℕ) → Known n r → Known place r

  -- a reference that gives the judgment j
  pub data Ref (fs : List Fact) (n : ℕ) (f : Fact) (j : Tree) : Type 0 where
    bare : (g : Fact) → Cites fs n g → ((h : ℕ) → In h g.hyps → In h f.hyps) → g.judgment ≡ j → Ref fs n f j
    inst : (g : Fact) → Cites fs n g → g.hyps ≡ [] → (σ : ℕ → Tree) → ((v : ℕ) → Sorted (sig T) vs (σ v) (vs v))
        → sub σ g.judgment ≡ j → Ref fs n f j

  unfoldable pub Refs : List Fact → ℕ → Fact → Trees → Type 0
  Refs fs n f none = Unit {0}
  Refs fs n f (more t ts) = Ref fs n f t × Refs fs n f ts

  -- `hyp`, of both kinds
  pub record HypForm (fs : List Fact) (n : ℕ) (f : Fact) : Type 0 where
    pub own : In (length fs) f.hyps

  pub record StepForm (fs : List Fact) (n : ℕ) (f : Fact) : Type 0 where
    pub plain : f.premises ≡ none
    pub named : ℕ
    pub part : Part n named
    pub β : ℕ → Tree
    pub sorts : (i : ℕ) → i < arity (rule T named) → Sorted (sig T) vs (β i) (rule_sort (rule T named) i)
    pub occurs : (i : ℕ) → i < arity (rule T named) → Occ i (rule T named).conclusion ⊎ Occs i (rule T named).premises
    pub refs : Refs fs n f (subs β (rule T named).premises)
    pub concl : sub β (rule T named).conclusion ≡ f.judgment
    pub allowed : (v : ℕ) → Occs v (subs β (rule T named).premises) → Allowed fs f v

  -- apply on a hypothesis g
  pub record ApplyHyp (fs : List Fact) (n : ℕ) (f : Fact) : Type 0 where
    pub plain : f.premises ≡ none
    pub g : Fact
    pub place : ℕ
    pub at : At fs place g
    pub own : In place f.hyps
    pub σ : ℕ → Tree
    pub binds : (v : ℕ) → (σ v ≡ var v) ⊎ (In v g.general × Sorted (sig T) vs (σ v) (vs v) × ((w : ℕ) → Occ w (σ v) → Allowed fs f w))
    pub refs : Refs fs n f (subs σ g.premises)
    pub concl : sub σ g.judgment ≡ f.judgment
    pub allowed : (v : ℕ) → Occs v (subs σ g.premises) → Allowed fs f v

  -- apply on another fact g, all of whose hypotheses are plain
  pub record ApplyFact (fs : List Fact) (n : ℕ) (f : Fact) : Type 0 where
    pub plain : f.premises ≡ none
    pub g : Fact
    pub cites : Cites fs n g
    pub σ : ℕ → Tree
    pub sorts : (v : ℕ) → Sorted (sig T) vs (σ v) (vs v)
    pub plains : (h : Fact) → HypOf fs g h → Plain h
    pub refs : (h : Fact) → HypOf fs g h → Ref fs n f (sub σ h.judgment)
    pub concl : sub σ g.judgment ≡ f.judgment
    pub allowed : (h : Fact) → HypOf fs g h → (w : ℕ) → Occ w (sub σ h.judgment) → Allowed fs f w

  -- a case of induct for the constructor c
  pub record InductCase (fs : List Fact) (n : ℕ) (f : Fact) (x : ℕ) (P : Trees) (c : ℕ) : Type 0 where
    pub ys : List ℕ
    pub fit : Fit vs ys ((sig T).ins c)
    pub distinct : Distinct ys
    pub fresh : (y : ℕ) → In y ys → ¬ (Motive P f.judgment y)
    pub g : Fact
    pub cites : Cites fs n g
    pub proves : g.judgment ≡ at x (app c (vars ys)) f.judgment
    pub allowed : (h : Fact) → HypOf fs g h → CaseHyp vs x P f.judgment c ys h

  pub record InductForm (fs : List Fact) (n : ℕ) (f : Fact) : Type 0 where
    pub plain : f.premises ≡ none
    pub x : ℕ
    pub P : Trees
    pub backed : (t : Tree) → Among t P → (g : Fact) × HypOf fs f g × Plain g × (g.judgment ≡ t)
    pub motive : Motive P f.judgment x
    pub cases : (c : ℕ) → c < (sig T).syms → (sig T).out c ≡ vs x → InductCase fs n f x P c

  pub record InvertCase (fs : List Fact) (n : ℕ) (f : Fact) (C : Fact → Type 0) (r : Rule) (name : ℕ → ℕ) (θ : ℕ → Tree) : Type 0 where
    pub g : Fact
    pub cites : Cites fs n g
    pub proves : g.judgment ≡ sub θ f.judgment
    pub allowed : (h : Fact) → HypOf fs g h → InvertHyp r name C θ h
    pub uncaptured : (c : Fact) → C c → (v w : ℕ) → ¬ (In v c.general) → Occ w (θ v) → ¬ (In w c.general)

  -- a rule that unifies has its case, any other none
  pub data InvertCased (fs : List Fact) (n : ℕ) (f : Fact) (h : Tree) (C : Fact → Type 0) (r : Rule) (name : ℕ → ℕ) : Type 0 where
    lone : Apart h (sub (renamed name) r.conclusion) → InvertCased fs n f h C r name
    paired : (θ : ℕ → Tree) → General T vs h (sub (renamed name) r.conclusion) θ → InvertCase fs n f C r name θ
        → InvertCased fs n f h C r name

  pub record InvertRule (fs : List Fact) (n : ℕ) (f k : Fact) (C : Fact → Type 0) (r : Rule) : Type 0 where
    pub name : ℕ → ℕ
    pub fit : (i : ℕ) → i < arity r → vs (name i) ≡ rule_sort r i
    pub distinct : (i j : ℕ) → i < arity r → j < arity r → name i ≡ name j → i ≡ j
    pub fresh : (i : ℕ) → i < arity r → ¬ (Used k.judgment f.judgment C (name i))
    pub cased : InvertCased fs n f k.judgment C r name

  -- the context is a list of places; f's hypotheses are these and k's
  pub record InvertForm (fs : List Fact) (n : ℕ) (f : Fact) : Type 0 where
    pub plain : f.premises ≡ none
    pub k : Fact
    pub place : ℕ
    pub at : At fs place k
    pub own : In place f.hyps
    pub k_plain : Plain k
    pub context : List ℕ
    pub inside : (h : ℕ) → In h context → In h f.hyps
    pub head : ℕ
    pub arguments : Trees
    pub form : k.judgment ≡ app head arguments
    pub looked : (r : ℕ) → Known n r → (qs : Trees) → (rule T r).conclusion ≡ app head qs
        → InvertRule fs n f k (InContext fs context) (rule T r)

  pub data Form (fs : List Fact) (n : ℕ) (f : Fact) : Type 0 where
    hyp : HypForm fs n f → Form fs n f
    step : StepForm fs n f → Form fs n f
    apply_hyp : ApplyHyp fs n f → Form fs n f
    apply_fact : ApplyFact fs n f → Form fs n f
    induct : InductForm fs n f → Form fs n f
    invert : InvertForm fs n f → Form fs n f

  -- the list of facts was taken form by form
  pub data Run : List Fact → Type 0 where
    begin : Run []
    take : (fs : List Fact) (f : Fact) → Run fs → Form fs (length fs) f → Run (grown fs f)
