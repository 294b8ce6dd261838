-- The end of the form `apply`: the references are read, what the rule rests on joins the sets, and question 39 is asked. Assumes nothing.
use mathlib.Core.Path.{◌≡◌, refl, sym, ap, ◌∙◌, subst}
use mathlib.Core.Bool.{Bool, true, false, ◌||◌}
use mathlib.Core.List.{List, [], ◌∷◌}
use Prim.Native.Nat.{ℕ, suc, ◌-◌, ◌<◌}
use native.Mathlib.Omega.{arith}
use lib.Dec.{eqb}
use lib.ListN.{length, get_or, replicate}
use Rattle.rules.specs.Limits.{TERMWORDS}
use Rattle.rules.specs.Out.{Out, ok, refuse, then}
use Rattle.rules.specs.Find.{Set, has, union, rising}
use Rattle.rules.specs.Tree.{Tree, var, none, variables, variables_of}
use Rattle.rules.specs.Store.{Made}
use Rattle.rules.specs.State.{State, Fact}
use Rattle.rules.specs.Reference.{scoped}
use Rattle.rules.specs.Apply.{Applied, discharge, value_vars}
use Rattle.rules.specs.Laws.Theory.{All, empty as none_of, both}
use Rattle.rules.specs.Laws.Rising.{has_all}
use Rattle.terms.specs.declared.store.Mark.{Mark}
use Rattle.terms.specs.Table.{made, tree}
use Rattle.terms.specs.Sets.{holds}
use Rattle.terms.specs.Collect.{Seen}
use Rattle.terms.specs.Theta.{bindings}
use Rattle.terms.specs.On.{On, Stopped, on_start, on_is, on_ok, on_no, on_pure, on_stop, on_done}
use Rattle.terms.specs.Laws.Growth.{grown_tree, grown_there}
use Rattle.terms.specs.Laws.Seen.{seen_none}
use Rattle.terms.specs.Laws.Zeros.{zeros_long}
use Rattle.terms.specs.Laws.Theta.{bindings_grown, theta_grown}
use Rattle.state.specs.declared.sizes.Sizes.{Sizes}
use Rattle.state.specs.Held.{Names}
use Rattle.state.specs.Members.{Under}
use Rattle.referring.specs.Recall.{fact_of, Recalls, Refers}
use Rattle.referring.specs.Referral.{Gathered}
use Rattle.referring.specs.Derived.{cell_vars, ReadableCells, DerivedRead, alone}
use Rattle.derivation.specs.Applying.{RuleFact, rule_of, apply_to, RuleUse, Discharged}
use Rattle.referring.specs.Laws.Refers.{refers_ready, refers_went, refers_recalls}
use Rattle.derivation.proofs.RuleFacts.{rule_assumed_lem, rule_derived_lem}
use Rattle.derivation.proofs.Discharging.{discharge_keeps, under_union, premises_of}

-- The variables of the values ------------------------------------------------------------------------------------------------------------

-- the cells' variables are those of the bindings' terms
pub cell_vars_lem : (M : Made) (cells : List ℕ) (a : ℕ) → cell_vars M cells ≡ value_vars (bindings M cells a)
unfolding cell_vars value_vars bindings
cell_vars_lem M [] a = refl
cell_vars_lem M (c ∷ cs) a = λ i v. go v (eqb c 0) (ap (λ (s : Set). s v) (cell_vars_lem M cs (suc a))) i
  where
    go : (v : ℕ) (b : Bool) → cell_vars M cs v ≡ value_vars (bindings M cs (suc a)) v
        → ◌≡◌ {A = Bool} (elim b [ true ↦ cell_vars M cs v | false ↦ variables (get_or M (c - 1) (var 0)) v || cell_vars M cs v ])
        (value_vars (elim b [ true ↦ bindings M cs (suc a) | false ↦ record { variable = a; value = get_or M (c - 1) (var 0) } ∷ bindings M cs (suc a) ]) v)
    go v true e = e
    go v false e = ap (λ (b : Bool). variables (get_or M (c - 1) (var 0)) v || b) e

-- What a rule rests on ---------------------------------------------------------------------------------------------------------------------

rule_rests : {P : ℕ → Type 0} (S : State) (i : ℕ) (f : Fact) → P i → All P (rule_of S i f).hyps
rule_rests {P} S i f p = go f.assumed refl
  where
    go : (b : Bool) → f.assumed ≡ b → All P (rule_of S i f).hyps
    go true e = subst (λ (a : Applied). All P a.hyps) (sym (rule_assumed_lem S [] i f e)) (both p none_of)
    go false e = subst (λ (a : Applied). All P a.hyps) (sym (rule_derived_lem S [] i f e)) none_of

-- The end of the form ----------------------------------------------------------------------------------------------------------------------

-- from the sets as they are
abbrev closed : State → Set → Tree → Set → Set → Made → Out Made Fact
closed S used t hs fs M = then (scoped S used t (rising (length S.facts) hs) M) (λ u U.
    ok (record {
      judgment = t;
      hyps = rising (length S.facts) hs;
      assumed = false;
      premises = none;
      general = [];
      footing = rising (length S.theory.rules) fs;
    }) U)

module _ {K : Names} {facts footings lists : List ℕ} {n : Sizes} {I W : List ℕ} {m : Mark} {i : ℕ} {cells bound : List ℕ}
    (g : RuleUse K facts footings lists n I W m i cells bound) {j : ℕ} (l : j < m.terms) where
  abbrev to_all : Out Made Fact
  to_all = apply_to g.S (bindings (made I W m) bound 0) (rule_of g.S i (fact_of g.S i)) g.xs (tree I W m j) (made I W m)

  -- what `discharge` answers
  module _ (J X : List ℕ) {new : Mark} where
    pub to_refused : {q e : ℕ} → ((h : RuleUse K facts footings lists n I W m i cells bound) →
        Stopped I W J X m (discharge h.S (bindings (made I W m) bound 0) h.xs (premises_of h.S i) (made I W m)) q e new) → Stopped I W J X m to_all q e new
    to_refused d = on_no _ (on_start g.refers.reads.good) (d g)

    module _ {hyps footing used : List ℕ} (d : (h : RuleUse K facts footings lists n I W m i cells bound) →
        Discharged I W J X m h.S (discharge h.S (bindings (made I W m) bound 0) h.xs (premises_of h.S i) (made I W m)) hyps footing used new) where
      to_done : Discharged I W J X m g.S (discharge g.S (bindings (made I W m) bound 0) g.xs (premises_of g.S i) (made I W m)) hyps footing used new
      to_done = d g

      pub to_refers : Refers K facts footings lists n J X new g.S
      to_refers =
          refers_went g.refers
          (discharge_keeps g.S (bindings (made I W m) bound 0) g.xs (premises_of g.S i) (made I W m) (refers_ready g.refers)) to_done.went

      -- what `rest_on` asks
      abbrev pub to_rule : RuleFact facts lists i
      to_rule = record { S = g.S; n = n; trees = made J X new; footings = footings; recorded = to_refers.recorded; there = g.there }

      -- what `visit_cells` asks
      pub to_cells : (seen : List ℕ) → seen ≡ replicate TERMWORDS 0 → ReadableCells J X new bound × Seen J X new (holds seen) (holds used)
      to_cells seen z = (
        record { good = to_done.went.grown.good; within = (theta_grown to_done.went.grown g.theta).bound },
        seen_none J X new (holds used) seen (z ∙ ap (λ (k : ℕ). replicate k 0) (sym (zeros_long TERMWORDS z))),
      )

      abbrev pub to_recalls : Recalls facts lists n J X new
      to_recalls = refers_recalls to_refers

      pub to_there : j < new.terms
      to_there = grown_there to_done.went.grown j l

      -- the sets behind `rest_on` and `visit_cells`
      module _ (hyps' : List ℕ) (a : holds hyps' ≡ union (has (rule_of g.S i (fact_of g.S i)).hyps) (holds hyps)) where
        pub to_under : Under n.facts (holds hyps')
        to_under =
            under_union (has (rule_of g.S i (fact_of g.S i)).hyps) (holds hyps) (holds hyps') n.facts a
            (λ h e. has_all {P = λ k. k < n.facts} (rule_of g.S i (fact_of g.S i)).hyps h (rule_rests g.S i (fact_of g.S i) g.there) e)
            (λ h e. let z = to_done.earlier h e in omega (arith, to_refers.recorded.many))

        module _ (used' : List ℕ) {seen' : Set} (v : Gathered J X new (cell_vars (made J X new) bound) (holds used) seen' (holds used')) where
          used_is : holds used' ≡ union (variables_of to_done.refs.judgments) (value_vars (bindings (made I W m) bound 0))
          used_is =
              v.set ∙ ap (λ (s : Set). union s (cell_vars (made J X new) bound)) to_done.vars
              ∙ ap (union (variables_of to_done.refs.judgments))
              (cell_vars_lem (made J X new) bound 0 ∙ ap value_vars (bindings_grown to_done.went.grown g.theta))

          hyps_is : holds hyps' ≡ union (has (rule_of g.S i (fact_of g.S i)).hyps) to_done.refs.hyps
          hyps_is = a ∙ ap (union (has (rule_of g.S i (fact_of g.S i)).hyps)) to_done.rests

          on_closed : On I W m to_all J X new (closed g.S (holds used') (tree J X new j) (holds hyps') (holds footing) (made J X new))
          on_closed =
              on_is (on_ok _ (on_start g.refers.reads.good) to_done.went)
              (λ k. closed g.S (sym used_is k) (sym (grown_tree to_done.went.grown j l) k) (sym hyps_is k) (sym to_done.uses k) (made J X new))

          -- question 39, as it is asked
          abbrev asked : Out Made (Unit {0})
          asked = scoped g.S (holds used') (tree J X new j) (rising (length g.S.facts) (holds hyps')) (made J X new)

          pub to_outside : {q e : ℕ} → asked ≡ refuse q e (made J X new) → Stopped I W J X m to_all q e new
          to_outside z = on_stop _ on_closed z

          pub to_fact : asked ≡ ok tt (made J X new) → DerivedRead Fact I W J X m g.S to_all alone hyps' footing j 0 new
          to_fact z =
              record {
                went = on_done (on_pure _ on_closed z);
                there = to_there;
                earlier = λ h e. let y = to_under h e in omega (arith, to_refers.recorded.many);
                known = to_done.known;
              }
