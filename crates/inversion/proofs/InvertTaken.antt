-- The variables that a case's must be new to: of the hypothesis, of the judgment, and of the context's facts, one after the other. Assumes nothing.
use mathlib.Core.Path.{◌≡◌, refl, sym, ap, ◌∙◌}
use mathlib.Core.Bool.{◌||◌}
use Rattle.std.specs.Prelude.{Option}
use mathlib.Core.List.{List, [], ◌∷◌}
use Prim.Native.Nat.{ℕ, ◌+◌, ◌≤◌, ◌<◌}
use native.Mathlib.Omega.{arith}
use native.Mathlib.Numerals.{add-one}
use lib.ListN.{length, get_or, drop, replicate, drop_of_length-le}
use lib.Seq.{drop-cons}
use Rattle.rules.specs.Limits.{VARIABLEWORDS}
use Rattle.rules.specs.Find.{Set, empty, union}
use Rattle.rules.specs.Tree.{variables}
use Rattle.rules.specs.State.{Fact, mentioned}
use Rattle.rules.specs.Invert.{Inversion, mentioned_at, context_vars, taken_vars}
use Rattle.rules.specs.Laws.Set.{union_assoc, union_empty}
use Rattle.terms.specs.declared.store.Mark.{Mark}
use Rattle.terms.specs.Table.{tree}
use Rattle.terms.specs.Sets.{holds}
use Rattle.terms.specs.Collect.{Seen, Visited}
use Rattle.terms.specs.Laws.Sets.{holds_zero}
use Rattle.state.specs.declared.sizes.Sizes.{Sizes}
use Rattle.state.specs.RowCells.{no_fact}
use Rattle.state.specs.RowTables.{entry_at}
use Rattle.referring.specs.Recall.{fact_of, Recalls}
use Rattle.referring.specs.Referral.{Gathered}
use Rattle.terms.specs.Table.{Below}

context_next : (fs : List Fact) (h : ℕ) (hs : List ℕ) → h < length fs → context_vars fs (h ∷ hs) ≡ union (mentioned (get_or fs h no_fact)) (context_vars fs hs)
unfolding context_vars mentioned_at
context_next fs h hs l = ap (λ (o : Option Fact). λ (v : ℕ). mentioned_at o v || context_vars fs hs v) (entry_at fs h no_fact l)

context_none : (fs : List Fact) → context_vars fs [] ≡ empty
unfolding context_vars
context_none fs = refl

-- what is left of the context decides
pub record Taking (facts lists : List ℕ) (n : Sizes) (I W : List ℕ) (m : Mark) (s j : ℕ) (context seen set : List ℕ) (k : ℕ) : Type 0 where
  pub left : (g : Recalls facts lists n I W m) → union (holds set) (context_vars g.S.facts (drop k context))
      ≡ union (union (variables (tree I W m s)) (variables (tree I W m j))) (context_vars g.S.facts context)
  pub visits : Seen I W m (holds seen) (holds set)

pub taking_begins : {facts lists : List ℕ} {n : Sizes} {I W : List ℕ} {m : Mark} {s j : ℕ} {context set₀ seen set : List ℕ} {x₀ x₁ y₁ : Set} →
    set₀ ≡ replicate VARIABLEWORDS 0 → Visited I W m s x₀ (holds set₀) x₁ y₁ → Visited I W m j x₁ y₁ (holds seen) (holds set) →
    Taking facts lists n I W m s j context seen set 0
taking_begins {I = I} {W} {m} {s} {j} {context} z v w =
    record {
      left = λ g. ap (λ (c : Set). union c (context_vars g.S.facts context))
          (w.set ∙ ap (λ (c : Set). union c (variables (tree I W m j)))
          (v.set ∙ ap (λ (c : Set). union c (variables (tree I W m s))) (ap holds z ∙ holds_zero VARIABLEWORDS)));
      visits = w.visits;
    }

module _ {facts lists : List ℕ} {n : Sizes} {I W : List ℕ} {m : Mark} {s j : ℕ} {context seen set : List ℕ} {k : ℕ}
    (v : Taking facts lists n I W m s j context seen set k) where
  pub taking_on : {seen' set' : List ℕ} → Recalls facts lists n I W m → Below n.facts context → k < length context →
      ((g : Recalls facts lists n I W m) → Gathered I W m (mentioned (fact_of g.S (get_or context k 0))) (holds set) (holds seen') (holds set')) →
      Taking facts lists n I W m s j context seen' set' (k + 1)
  taking_on {seen'} {set'} p t h w = record { left = left; visits = (w p).visits }
    where
      left : (g : Recalls facts lists n I W m) → union (holds set') (context_vars g.S.facts (drop (k + 1) context))
          ≡ union (union (variables (tree I W m s)) (variables (tree I W m j))) (context_vars g.S.facts context)
      left g =
          let fs = g.S.facts in
          let i = get_or context k 0 in
          let q : context_vars fs (drop k context) ≡ union (mentioned (get_or fs i no_fact)) (context_vars fs (drop (k + 1) context)) =
          ap (context_vars fs) (drop-cons context k 0 h ∙ ap (λ (e : ℕ). i ∷ drop e context) (sym (add-one k)))
          ∙ context_next fs i (drop (k + 1) context) (omega (arith, t k h, g.recorded.many)) in
          ap (λ (a : Set). union a (context_vars fs (drop (k + 1) context))) (w g).set
          ∙ union_assoc (holds set) (mentioned (get_or fs i no_fact)) (context_vars fs (drop (k + 1) context))
          ∙ ap (union (holds set)) (sym q) ∙ v.left g

  pub taking_ends : length context ≤ k → (g : Recalls facts lists n I W m) (Y : Inversion) → Y.hypothesis ≡ tree I W m s → Y.judgment ≡ tree I W m j →
      Y.context ≡ context → holds set ≡ taken_vars g.S Y
  unfolding taken_vars
  taking_ends h g Y a b c =
      let fs = g.S.facts in
      sym (union_empty (holds set)) ∙ ap (union (holds set)) (sym (ap (context_vars fs) (drop_of_length-le context h) ∙ context_none fs)) ∙ v.left g
      ∙ (λ i. union (union (variables (sym a i)) (variables (sym b i))) (context_vars fs (sym c i)))
