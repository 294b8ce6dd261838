-- What every reached theory and state satisfies: rules, made trees, facts and goals are well-sorted, over variables that are there; a fact
-- rests on facts that are there; only a hypothesis has premises. The sorts of the variables are those of the last state reached, which
-- agree with the sorts of every state before. Definitions, and that more of everything keeps them.
use Rattle.std.specs.Prelude.{ℕ, ◌<◌, ◌≤◌, ◌≡◌, refl, ◌⊎◌, false, List, [], ◌∷◌, ◌++◌, length, get_or, Some as some}
use Rattle.std.proofs.Common.{arith, sym, ◌∙◌, ap, inl, inr, append_assoc, append-nil, length-append}
use Rattle.std.proofs.Math.Path.{subst}
use Rattle.std.proofs.Math.ListN.{get_or-append}
use Rattle.rules.specs.Tree.{Tree, Trees, var, app, none, more, sub, subs}
use Rattle.rules.specs.Theory.{Theory, Rule, rule}
use Rattle.rules.specs.State.{State, Fact, Var, no_var, sort_of_var, sort_of, abbreviated}
use Rattle.meaning.specs.Trees.Tree.{Occ, Occs, Sig, Sorted, In, Among, sorted_sub, sub_sorted, sub_occ}
use Rattle.meaning.specs.Signature.{sig, PROP, arity, rule_sort}
use Rattle.meaning.specs.Truth.{At}

-- Trees ---------------------------------------------------------------------------------------------------------------------------

unfoldable pub IsApp : Tree → Type 0
IsApp (var v) = ⊥
IsApp (app c ts) = Unit {0}

-- each a judgment over variables of these sorts
unfoldable pub Props : Sig → (ℕ → ℕ) → Trees → Type 0
Props S us none = Unit {0}
Props S us (more t ts) = Sorted S us t PROP × Props S us ts

-- n: the number of variables that are there
module _ (T : Theory) (vs : ℕ → ℕ) (n : ℕ) where
  pub record Typed (t : Tree) (s : ℕ) : Type 0 where
    pub sorts : Sorted (sig T) vs t s
    pub small : (v : ℕ) → Occ v t → v < n

  pub record Judgment (t : Tree) : Type 0 where
    pub typed : Typed t PROP
    pub shape : IsApp t

  unfoldable pub Judgments : Trees → Type 0
  Judgments none = Unit {0}
  Judgments (more t ts) = Judgment t × Judgments ts

-- Theories ------------------------------------------------------------------------------------------------------------------------

-- judgments over the rule's own variables, each of which occurs; the conclusion is a symbol over arguments
pub record WellRule (T : Theory) (r : Rule) : Type 0 where
  pub concl : Sorted (sig T) (rule_sort r) r.conclusion PROP
  pub shape : IsApp r.conclusion
  pub prems : Props (sig T) (rule_sort r) r.premises
  pub bound : (i : ℕ) → Occ i r.conclusion ⊎ Occs i r.premises → i < arity r
  pub occurs : (i : ℕ) → i < arity r → Occ i r.conclusion ⊎ Occs i r.premises

unfoldable pub WellTheory : Theory → Type 0
WellTheory T = (r : ℕ) → r < length T.rules → WellRule T (rule T r)

-- States --------------------------------------------------------------------------------------------------------------------------

-- m: the number of facts that are there
pub record WellFact (T : Theory) (vs : ℕ → ℕ) (n m : ℕ) (f : Fact) : Type 0 where
  pub judgment : Judgment T vs n f.judgment
  pub premises : Judgments T vs n f.premises
  pub hyps : (h : ℕ) → In h f.hyps → h < m
  pub derived : f.assumed ≡ false → f.premises ≡ none

-- the sorts vs are those of the variables that are there
unfoldable pub Agree : (ℕ → ℕ) → List Var → Type 0
Agree vs xs = (v : ℕ) → v < length xs → sort_of_var xs v ≡ vs v

-- variables were added at the end
unfoldable pub Extends : List Var → List Var → Type 0
Extends xs ys = (zs : List Var) × (ys ≡ xs ++ zs)

pub record Well (S : State) (vs : ℕ → ℕ) : Type 0 where
  pub rules : WellTheory S.theory
  pub agree : Agree vs S.vars
  pub defs : (x : List ℕ) (t : Tree) → abbreviated S.defs x ≡ some t
      → Typed S.theory vs (length S.vars) t (sort_of S.theory S.vars t)
  pub facts : (i : ℕ) (f : Fact) → At S.facts i f → WellFact S.theory vs (length S.vars) (length S.facts) f

-- Laws ----------------------------------------------------------------------------------------------------------------------------

pub extends_same : (xs : List Var) → Extends xs xs
unfolding Extends
extends_same xs = ([], sym (append-nil xs))

pub extends_one : (xs : List Var) (x : Var) → Extends xs (xs ++ (x ∷ []))
unfolding Extends
extends_one xs x = (x ∷ [], refl)

pub extends_both : (xs ys zs : List Var) → Extends xs ys → Extends ys zs → Extends xs zs
unfolding Extends
extends_both xs ys zs (a, p) (b, q) = (a ++ b, q ∙ (ap (λ l. l ++ b) p ∙ append_assoc xs a b))

pub extends_length : (xs ys : List Var) → Extends xs ys → length xs ≤ length ys
unfolding Extends
extends_length xs ys (zs, p) = let q = ap (λ l. length l) p ∙ length-append xs zs in omega arith

-- sorts that agree with more variables agree with fewer
pub agree_extends : (vs : ℕ → ℕ) (xs ys : List Var) → Extends xs ys → Agree vs ys → Agree vs xs
unfolding Extends Agree sort_of_var
agree_extends vs xs ys (zs, p) a v l =
    sym (ap (λ (z : Var). z.sort) (ap (λ (k : List Var). get_or k v no_var) p ∙ get_or-append xs zs no_var v l))
    ∙ a v (let q = ap (λ k. length k) p ∙ length-append xs zs in omega arith)

pub app_sub : (σ : ℕ → Tree) (t : Tree) → IsApp t → IsApp (sub σ t)
unfolding IsApp sub
app_sub σ (var v) a = absurd a
app_sub σ (app c ts) a = tt

-- what is an application has a head and arguments
pub app_form : (t : Tree) → IsApp t → (c : ℕ) × (ts : Trees) × (t ≡ app c ts)
unfolding IsApp
app_form (var v) a = absurd a
app_form (app c ts) a = (c, ts, refl)

module _ (T : Theory) (vs : ℕ → ℕ) (n k : ℕ) (l : n ≤ k) where
  pub typed_more : (t : Tree) (s : ℕ) → Typed T vs n t s → Typed T vs k t s
  typed_more t s y = record { sorts = y.sorts; small = λ v o. let h = y.small v o in omega arith }

  pub judgment_more : (t : Tree) → Judgment T vs n t → Judgment T vs k t
  judgment_more t j = record { typed = typed_more t PROP j.typed; shape = j.shape }

  pub judgments_more : (ts : Trees) → Judgments T vs n ts → Judgments T vs k ts
  unfolding Judgments
  judgments_more none js = tt
  judgments_more (more t ts) js = (judgment_more t js.0, judgments_more ts js.1)

  pub fact_more : (a b : ℕ) → a ≤ b → (f : Fact) → WellFact T vs n a f → WellFact T vs k b f
  fact_more a b m f w = record {
    judgment = judgment_more f.judgment w.judgment;
    premises = judgments_more f.premises w.premises;
    hyps = λ h i. (let q = w.hyps h i in omega arith);
    derived = w.derived;
  }

module _ (T : Theory) (vs : ℕ → ℕ) (n : ℕ) where
  pub judgments_small : (ts : Trees) → Judgments T vs n ts → (v : ℕ) → Occs v ts → v < n
  unfolding Judgments Occ
  judgments_small none js v o = absurd o
  judgments_small (more t ts) js v (inl o) = js.0.typed.small v o
  judgments_small (more t ts) js v (inr o) = judgments_small ts js.1 v o

  pub judgments_props : (ts : Trees) → Judgments T vs n ts → Props (sig T) vs ts
  unfolding Judgments Props
  judgments_props none js = tt
  judgments_props (more t ts) js = (js.0.typed.sorts, judgments_props ts js.1)

  pub judgments_in : (ts : Trees) → Judgments T vs n ts → (t : Tree) → Among t ts → Judgment T vs n t
  unfolding Judgments Among
  judgments_in none js t i = absurd i
  judgments_in (more u us) js t (inl e) = subst (λ z. Judgment T vs n z) (sym e) js.0
  judgments_in (more u us) js t (inr i) = judgments_in us js.1 t i

  -- a judgment under a well-sorted replacement
  pub judgment_sub : (ps : ℕ → ℕ) (σ : ℕ → Tree) (t : Tree) → Sorted (sig T) ps t PROP → IsApp t
      → ((v : ℕ) → Occ v t → Typed T vs n (σ v) (ps v)) → Judgment T vs n (sub σ t)
  judgment_sub ps σ t s a h = record {
    typed = record {
      sorts = sorted_sub (sig T) ps vs σ t PROP s (λ v o. (h v o).sorts);
      small = λ v o. (let r = sub_occ σ t v o in (h r.0 r.1).small v r.2);
    };
    shape = app_sub σ t a;
  }

-- the bindings under which well-sorted patterns are well-sorted judgments are well-sorted
pub props_bound : (S : Sig) (ps vs : ℕ → ℕ) (σ : ℕ → Tree) (qs : Trees) → Props S ps qs → Props S vs (subs σ qs)
    → (i : ℕ) → Occs i qs → Sorted S vs (σ i) (ps i)
unfolding Props sub Occ
props_bound S ps vs σ none a b i o = absurd o
props_bound S ps vs σ (more q qs) a b i (inl o) = sub_sorted S ps vs σ q PROP a.0 b.0 i o
props_bound S ps vs σ (more q qs) a b i (inr o) = props_bound S ps vs σ qs a.1 b.1 i o
