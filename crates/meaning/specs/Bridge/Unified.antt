-- Every unification that an inversion comes to is over variables that are there, whatever the texts: of states as `Bounded` of `rules` has
-- them. Assumes nothing.
use Rattle.std.specs.Prelude.{ℕ, ◌≤◌, ◌≡◌, List, [], ◌∷◌, length, None as nothing}
use Rattle.std.proofs.Common.{arith, sym, subst, inl, inr}
use Rattle.rules.specs.Out.{ok}
use Rattle.rules.specs.Sexp.{Sexps}
use Rattle.rules.specs.Tree.{Tree, sub}
use Rattle.rules.specs.Store.{Made}
use Rattle.rules.specs.Theory.{Rule, rule}
use Rattle.rules.specs.Unify.{unify}
use Rattle.rules.specs.State.{State}
use Rattle.rules.specs.Invert.{case_named, Inversion, Names, renaming, invert_rule, predicate_of}
use Rattle.rules.specs.Laws.Out.{Ok, fine, of_ok, by_then}
use Rattle.rules.specs.Laws.Shape.{past}
use Rattle.rules.specs.Laws.Theory.{both, all_map, RuleFormed, WellFormed}
use Rattle.rules.proofs.Laws.CaseWalk.{Longer, renamed_longer}
use Rattle.rules.specs.Laws.Entry.{all_entry, fact_entry}
use Rattle.rules.proofs.Laws.Below.{Below, below_up}
use Rattle.rules.proofs.Laws.BelowRead.{StateBelow}
use Rattle.rules.proofs.Laws.BelowCases.{AllBelow, renamed_renames, conclusion_below, rule_formed, rules_of_below, longer_length}
use Rattle.rules.proofs.Laws.Bounded.{BoundedCheck}
use Rattle.meaning.specs.Trees.Tests.{below_occ}
use Rattle.meaning.specs.Unification.Acts.{substitute_answer}
use Rattle.meaning.specs.Unification.Right.{unify_complete}
use Rattle.meaning.specs.Inversions.{asked, first_names, its_rules, tried, Turn, Comes}

-- what is inverted is the judgment of a fact
asked_below : (n : ℕ) (S : State) → StateBelow n S → (xs : Sexps) (m : Made) → Ok (λ r u. Below n r.1.hypothesis) (asked S xs m)
unfolding asked
asked_below n S low xs m =
    past _ _ λ i a e. past _ _ λ k b f. past _ _ λ t c e. past _ _ λ hs d e. past _ _ λ j g e. past _ _ λ ys h e. past _ _ λ cs l e.
    fine (all_entry S.facts i k low.facts (fact_entry S i a b k f)).judgment

rule_longer : (S : State) (I : Inversion) (R : Rule) (N : Names) (m : Made) → Ok (λ M u. Longer N.vars M.vars) (invert_rule S I R N m)
unfolding invert_rule
rule_longer S I R N m =
    by_then _ _ (renamed_longer S I R (case_named I.cases R.name.bytes) N m) λ r u e h.
    past _ _ λ ts v e. past _ _ λ t w e. past _ _ λ θ x e. past _ _ λ a y e. fine h

-- in its turn, a rule of the theory, and no fewer variables than the state has
turn_there : (S : State) (I : Inversion) → WellFormed S.theory → (rs : List ℕ) → AllBelow (length S.theory.rules) rs → (N : Names) (m : Made)
    → length S.vars ≤ length N.vars → (R : Rule) (M : Names) (u : Made) → Turn S I rs N m R M u
    → RuleFormed S.theory R × (length S.vars ≤ length M.vars)
unfolding Turn
turn_there S I wf [] a N m l R M u t = absurd t
turn_there S I wf (r ∷ rs) (both b a) N m l R M u (inl (e, f, g)) =
    (subst (λ z. RuleFormed S.theory z) (sym e) (rule_formed S.theory wf r b), subst (λ (z : Names). length S.vars ≤ length z.vars) (sym f) l)
turn_there S I wf (r ∷ rs) (both b a) N m l R M u (inr (L, w, e, t)) =
    turn_there S I wf rs a L w (let q = longer_length (of_ok (rule_longer S I (rule S.theory r) N m) e) in omega arith) R M u t

-- the rule's conclusion is over variables that are there then
tried_below : (S : State) (I : Inversion) (R : Rule) → RuleFormed S.theory R → (N : Names) → length S.vars ≤ length N.vars → (m : Made)
    → Ok (λ T u. Below (length T.names.vars) T.conclusion × (length S.vars ≤ length T.names.vars)) (tried S I R N m)
unfolding tried
tried_below S I R rf N l m =
    by_then _ _ (renamed_renames S I R (case_named I.cases R.name.bytes) N m (all_map (λ v h. h.positive) rf.sorts) l) λ r u e h.
    past _ _ λ ts v e. past _ _ λ t w f.
    fine (
      subst (λ z. Below (length r.1.vars) z) (sym (substitute_answer (renaming r.0) R.conclusion t v w f).0)
          (conclusion_below S.theory R rf (length r.1.vars) r.0 h.below h.many),
      let q = longer_length h.longer in omega arith,
    )

-- both trees are below the number that unification counts by
pub comes_below : (S : State) → BoundedCheck S → (xs : Sexps) (n : ℕ) (s t : Tree) (u : Made) → Comes S xs n s t u → Below n s × Below n t
comes_below S h xs n s t u c =
    let turns = turn_there S c.inversion h.theory (its_rules S c.inversion) (rules_of_below S.theory (predicate_of c.inversion.hypothesis))
    (first_names S) c.before (omega arith) c.rule c.names c.made c.turn in
    let tries = of_ok (tried_below S c.inversion c.rule turns.0 c.names turns.1 c.made) c.tries in
    let m = length c.trial.names.vars in (
      rw (c.unifies.0, c.unifies.1)
          (below_up (length S.vars) m tries.1 c.inversion.hypothesis
          (of_ok (asked_below (length S.vars) S h.bounded.trees xs S.made) c.asks)),
      rw (c.unifies.0, c.unifies.2) tries.0,
    )

pub comes_complete : (S : State) → BoundedCheck S → (xs : Sexps) (n : ℕ) (s t : Tree) (u u' : Made) → Comes S xs n s t u → unify n s t u ≡ ok nothing u'
    → (σ : ℕ → Tree) → sub σ s ≡ sub σ t → ⊥
comes_complete S h xs n s t u u' c e σ q =
    let b = comes_below S h xs n s t u c in
    unify_complete n s t u u' (λ v o. elim o [ inl p ↦ below_occ n s b.0 v p | inr p ↦ below_occ n t b.1 v p ]) e σ q
