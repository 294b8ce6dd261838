-- A theory that the definition reaches has rules as the lemmas ask them. Assumes nothing.
use Rattle.std.specs.Prelude.{ℕ, ◌<◌, List, [], ◌∷◌, length}
use Rattle.std.proofs.Common.{sym, subst}
use Rattle.std.proofs.Math.Logic.{inl, inr}
use Rattle.rules.specs.Tree.{Tree, Trees, var, app, none, more}
use Rattle.rules.specs.Theory.{Theory, Rule, no_rule, rule}
use Rattle.rules.specs.Laws.Theory.{sort_in, Sorted as Patterned, Sorteds as Patterneds, Judgment as Concludes, Judgments as Concludings, RuleFormed, WellFormed, all_at}
use Rattle.meaning.specs.Trees.Tree.{Occ, Occs, Sorted, Sorteds}
use Rattle.meaning.specs.Trees.Tests.{variables_true, variables_of_true}
use Rattle.meaning.specs.Signature.{sig, PROP, arity, rule_sort}
use Rattle.meaning.specs.Bridge.Well.{IsApp, Props, WellRule, WellTheory}

module _ (T : Theory) (r : Rule) where
  mutual
    unfolding Patterned Sorted sort_in rule_sort sig

    pattern_sorted : (t : Tree) (s : ℕ) → Patterned T r.vars t s → Sorted (sig T) (rule_sort r) t s
    pattern_sorted (var i) s h = h.1
    pattern_sorted (app c ts) s h = (h.0, h.1, patterns_sorted ts ((sig T).ins c) h.2)

    patterns_sorted : (ts : Trees) (ss : List ℕ) → Patterneds T r.vars ts ss → Sorteds (sig T) (rule_sort r) ts ss
    patterns_sorted none [] h = tt
    patterns_sorted none (s ∷ ss) h = h
    patterns_sorted (more t ts) [] h = h
    patterns_sorted (more t ts) (s ∷ ss) h = (pattern_sorted t s h.0, patterns_sorted ts ss h.1)

  mutual
    unfolding Patterned Occ arity

    pattern_bound : (t : Tree) (s : ℕ) → Patterned T r.vars t s → (i : ℕ) → Occ i t → i < arity r
    pattern_bound (var v) s h i o = subst (λ z. z < length r.vars) (sym o) h.0
    pattern_bound (app c ts) s h i o = patterns_bound ts _ h.2 i o

    patterns_bound : (ts : Trees) (ss : List ℕ) → Patterneds T r.vars ts ss → (i : ℕ) → Occs i ts → i < arity r
    patterns_bound none ss h i o = absurd o
    patterns_bound (more t ts) [] h i o = absurd h
    patterns_bound (more t ts) (s ∷ ss) h i (inl o) = pattern_bound t s h.0 i o
    patterns_bound (more t ts) (s ∷ ss) h i (inr o) = patterns_bound ts ss h.1 i o

  concludes_shape : (t : Tree) → Concludes T r.vars t → IsApp t
  unfolding Concludes IsApp
  concludes_shape (var i) h = h
  concludes_shape (app p ts) h = tt

  concludes_pattern : (t : Tree) → Concludes T r.vars t → Patterned T r.vars t PROP
  unfolding Concludes Patterned
  concludes_pattern (var i) h = absurd h
  concludes_pattern (app p ts) h = h

  concludings_props : (ts : Trees) → Concludings T r.vars ts → Props (sig T) (rule_sort r) ts
  unfolding Concludings Props
  concludings_props none h = tt
  concludings_props (more t ts) h = (pattern_sorted t PROP (concludes_pattern t h.0), concludings_props ts h.1)

  concludings_bound : (ts : Trees) → Concludings T r.vars ts → (i : ℕ) → Occs i ts → i < arity r
  unfolding Concludings Occ
  concludings_bound none h i o = absurd o
  concludings_bound (more t ts) h i (inl o) = pattern_bound t PROP (concludes_pattern t h.0) i o
  concludings_bound (more t ts) h i (inr o) = concludings_bound ts h.1 i o

  well_rule : RuleFormed T r → WellRule T r
  unfolding arity
  well_rule h = record {
    concl = pattern_sorted r.conclusion PROP (concludes_pattern r.conclusion h.conclusion);
    shape = concludes_shape r.conclusion h.conclusion;
    prems = concludings_props r.premises h.premises;
    bound = λ i o. elim o [
      | inl p ↦ pattern_bound r.conclusion PROP (concludes_pattern r.conclusion h.conclusion) i p
      | inr p ↦ concludings_bound r.premises h.premises i p
    ];
    occurs = λ i l. elim (h.occur i l) [
      | inl p ↦ inr (variables_of_true r.premises i p)
      | inr p ↦ inl (variables_true r.conclusion i p)
    ];
  }

pub well_theory : (T : Theory) → WellFormed T → WellTheory T
unfolding WellTheory rule
well_theory T w r l = well_rule T (rule T r) (all_at T.rules r no_rule w.rules l)
