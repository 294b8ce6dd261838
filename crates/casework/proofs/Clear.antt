-- Question 48: no value of the cells has one of the variables; the cells without those of some variables, as bindings; and a fact of the context
-- under the unifier that leaves its generalised variables alone. Assumes nothing.
use mathlib.Core.Path.{◌≡◌, refl, sym, ap, ◌∙◌, subst}
use mathlib.Core.Bool.{Bool, true, false, ◌||◌, not}
use mathlib.Core.List.{List, [], ◌∷◌}
use Prim.Native.Nat.{ℕ, suc, ◌+◌, ◌-◌, ◌<◌, ◌≤◌}
use native.Mathlib.Omega.{arith}
use lib.Dec.{eqb}
use Rattle.std.proofs.lemmas.List.{nil_from_length}
use lib.ListN.{length, get_or, replicate}
use borrow.Author.Tests.{eqb-true, eqb-false}
use Rattle.rules.specs.Limits.{VARIABLES, VARIABLEWORDS}
use Rattle.rules.specs.Out.{refuse, ask}
use Rattle.rules.specs.Find.{Set, has, all, union}
use Rattle.rules.specs.Tree.{Tree, var, variables}
use Rattle.rules.specs.Store.{Made}
use Rattle.rules.specs.Unify.{Binding, along}
use Rattle.rules.specs.State.{Fact}
use Rattle.rules.specs.Invert.{clear, without, context_fact}
use Rattle.rules.specs.Laws.Theory.{all_at}
use Rattle.rules.specs.Laws.Store.{then_ok, then_refuse}
use Rattle.terms.specs.declared.store.Mark.{Mark}
use Rattle.terms.specs.Table.{made}
use Rattle.terms.specs.Sets.{holds}
use Rattle.terms.specs.Subst.{replacement}
use Rattle.terms.specs.Theta.{bindings, Theta}
use Rattle.terms.specs.On.{Stopped, pure_stopped}
use Rattle.terms.specs.Laws.Sets.{holds_zero}
use Rattle.terms.specs.Laws.Theta.{binding, bindings_zero, bindings_some, along_is}
use Rattle.state.specs.declared.sizes.Sizes.{Sizes}
use Rattle.state.specs.Entries.{part}
use Rattle.state.specs.Rows.{general_span}
use Rattle.referring.specs.Recall.{fact_of, Recalls}
use Rattle.referring.specs.Referral.{Gathered}
use Rattle.referring.specs.Derived.{cell_vars}
use Rattle.terms.specs.Table.{Below}
use Rattle.casework.specs.Context.{UnboundAs, ContextGiven, under}
use Rattle.casework.specs.Laws.Rows.{row, general_is}

-- No value has one of the variables ----------------------------------------------------------------------------------------------------------

all_none : (vs : List ℕ) → all (λ (v : ℕ). true) vs ≡ true
unfolding all
all_none [] = refl
all_none (v ∷ vs) = all_none vs

all_or : (s r : Set) (vs : List ℕ) → ◌≡◌ {A = Bool} (elim (all (λ (v : ℕ). not (s v)) vs) [ true ↦ all (λ (v : ℕ). not (r v)) vs | false ↦ false ])
    (all (λ (v : ℕ). not (s v || r v)) vs)
unfolding all
all_or s r [] = refl
all_or s r (x ∷ xs) = go (s x) (r x) (all (λ (v : ℕ). not (s v)) xs) (all (λ (v : ℕ). not (r v)) xs) (all (λ (v : ℕ). not (s v || r v)) xs) (all_or s r xs)
  where
    go : (a b c d e : Bool) → ◌≡◌ {A = Bool} (elim c [ true ↦ d | false ↦ false ]) e →
        ◌≡◌ {A = Bool} (elim (elim (not a) as (λ (z : Bool). Bool) [ true ↦ c | false ↦ false ]) [ true ↦ elim (not b) as (λ (z : Bool). Bool) [ true ↦ d | false ↦ false ] | false ↦ false ])
        (elim (not (a || b)) [ true ↦ e | false ↦ false ])
    go true b c d e i = refl
    go false true true d e i = refl
    go false true false d e i = refl
    go false false c d e i = i

pub clear_cells : (M : Made) (vs cells : List ℕ) (a : ℕ) → clear vs (bindings M cells a) ≡ all (λ (v : ℕ). not (cell_vars M cells v)) vs
unfolding clear all cell_vars bindings
clear_cells M vs [] a = sym (all_none vs)
clear_cells M vs (c ∷ cs) a = go (eqb c 0) (clear_cells M vs cs (suc a))
  where
    go : (b : Bool) → clear vs (bindings M cs (suc a)) ≡ all (λ (v : ℕ). not (cell_vars M cs v)) vs →
        clear vs (elim b [ true ↦ bindings M cs (suc a) | false ↦ binding M a c ∷ bindings M cs (suc a) ])
        ≡ all (λ (v : ℕ). not (elim b as (λ (z : Bool). Bool) [ true ↦ cell_vars M cs v | false ↦ variables (get_or M (c - 1) (var 0)) v || cell_vars M cs v ])) vs
    go true e = e
    go false e =
        ap (λ (x : Bool). elim (all (λ (v : ℕ). not (variables (get_or M (c - 1) (var 0)) v)) vs) as (λ (z : Bool). Bool) [ true ↦ x | false ↦ false ]) e
        ∙ all_or (variables (get_or M (c - 1) (var 0))) (cell_vars M cs) vs

-- what `visit_cells` leaves
pub clear_set : {I W : List ℕ} {m : Mark} (map : List ℕ) {inside : List ℕ} (inside' : List ℕ) {seen' : Set} → inside ≡ replicate VARIABLEWORDS 0 →
    Gathered I W m (cell_vars (made I W m) map) (holds inside) seen' (holds inside') → holds inside' ≡ cell_vars (made I W m) map
clear_set {I} {W} {m} map inside' e v = v.set ∙ ap (λ (s : Set). union s (cell_vars (made I W m) map)) (ap holds e ∙ holds_zero VARIABLEWORDS)

-- so that a set of them decides
pub clear_is : (M : Made) (vs map inside : List ℕ) → holds inside ≡ cell_vars M map → all (λ (v : ℕ). not (holds inside v)) vs ≡ clear vs (bindings M map 0)
clear_is M vs map inside h = ap (λ (s : Set). all (λ (v : ℕ). not (s v)) vs) h ∙ sym (clear_cells M vs map 0)

-- Without the cells of some variables --------------------------------------------------------------------------------------------------------

module _ (vs : List ℕ) where
  without_yes : (b : Binding) (θ : List Binding) → has vs b.variable ≡ true → without vs (b ∷ θ) ≡ without vs θ
  unfolding without
  without_yes b θ e = ap (λ (c : Bool). elim c as (λ (z : Bool). List Binding) [ true ↦ without vs θ | false ↦ b ∷ without vs θ ]) e

  without_no : (b : Binding) (θ : List Binding) → has vs b.variable ≡ false → without vs (b ∷ θ) ≡ b ∷ without vs θ
  unfolding without
  without_no b θ e = ap (λ (c : Bool). elim c as (λ (z : Bool). List Binding) [ true ↦ without vs θ | false ↦ b ∷ without vs θ ]) e

  unbound_from : (M : Made) (cs ds : List ℕ) (a : ℕ) → length ds ≡ length cs →
      ((i k : ℕ) → k ≡ a + i → ◌≡◌ {A = ℕ} (get_or ds i 0) (elim (has vs k) [ true ↦ 0 | false ↦ get_or cs i 0 ])) → bindings M ds a ≡ without vs (bindings M cs a)
  unfolding bindings without
  unbound_from M [] [] a l e = refl
  unbound_from M [] (d ∷ ds) a l e = absurd (omega arith)
  unbound_from M (c ∷ cs) [] a l e = absurd (omega arith)
  unbound_from M (c ∷ cs) (d ∷ ds) a l e =
      go (has vs a) refl (eqb c 0) refl (e 0 a (omega arith)) (unbound_from M cs ds (suc a) (omega arith) (λ i k q. e (suc i) k (omega arith)))
    where
      go : (h : Bool) → has vs a ≡ h → (z : Bool) → eqb c 0 ≡ z → ◌≡◌ {A = ℕ} d (elim h [ true ↦ 0 | false ↦ c ]) →
          bindings M ds (suc a) ≡ without vs (bindings M cs (suc a)) → bindings M (d ∷ ds) a ≡ without vs (bindings M (c ∷ cs) a)
      go true p true q f ih = bindings_zero M d ds a f ∙ ih ∙ ap (without vs) (sym (bindings_zero M c cs a (eqb-true c 0 q)))
      go true p false q f ih =
          bindings_zero M d ds a f ∙ ih
          ∙ sym (ap (without vs) (bindings_some M c cs a (eqb-false c 0 q)) ∙ without_yes (binding M a c) (bindings M cs (suc a)) p)
      go false p true q f ih = bindings_zero M d ds a (f ∙ eqb-true c 0 q) ∙ ih ∙ ap (without vs) (sym (bindings_zero M c cs a (eqb-true c 0 q)))
      go false p false q f ih =
          ap (λ (x : ℕ). bindings M (x ∷ ds) a) f ∙ bindings_some M c ds a (eqb-false c 0 q) ∙ ap (λ (θ : List Binding). binding M a c ∷ θ) ih
          ∙ sym (ap (without vs) (bindings_some M c cs a (eqb-false c 0 q)) ∙ without_no (binding M a c) (bindings M cs (suc a)) p)

module _ {vs map map' : List ℕ} (u : UnboundAs vs map map') where
  pub unbound_is : (M : Made) → bindings M map' 0 ≡ without vs (bindings M map 0)
  unbound_is M =
      unbound_from vs M map map' 0 u.long
      (λ i k q. let z : i ≡ k = omega arith in subst (λ (j : ℕ). ◌≡◌ {A = ℕ} (get_or map' i 0) (elim (has vs j) [ true ↦ 0 | false ↦ get_or map i 0 ])) z (u.cells i))

  pub unbound_theta : {m : Mark} → Theta m map → Theta m map'
  unbound_theta {m} c = record { long = u.long ∙ c.long; bound = λ v. go v (has vs v) (u.cells v) }
    where
      go : (v : ℕ) (b : Bool) → ◌≡◌ {A = ℕ} (get_or map' v 0) (elim b [ true ↦ 0 | false ↦ get_or map v 0 ]) → get_or map' v 0 ≤ m.terms
      go v true e = omega arith
      go v false e = omega (arith, e, c.bound v)

-- A fact of the context ------------------------------------------------------------------------------------------------------------------------

clear_none : (θ : List Binding) → clear [] θ ≡ true
unfolding clear all
clear_none [] = refl
clear_none (b ∷ θ) = clear_none θ

without_none : (θ : List Binding) → without [] θ ≡ θ
unfolding without has
without_none [] = refl
without_none (b ∷ θ) = ap (λ (ζ : List Binding). b ∷ ζ) (without_none θ)

module _ (θ : List Binding) (f : Fact) (M : Made) where
  fact_yes : clear f.general (without f.general θ) ≡ true → context_fact θ f M ≡ under (along (without f.general θ)) f M
  unfolding context_fact
  fact_yes e =
      then_ok (ask 48 (clear f.general (without f.general θ)) M) tt M (λ u U. under (along (without f.general θ)) f U)
      (ap (λ (b : Bool). ask 48 b M) e)

  fact_no : clear f.general (without f.general θ) ≡ false → context_fact θ f M ≡ refuse 48 0 M
  unfolding context_fact
  fact_no e =
      then_refuse (ask 48 (clear f.general (without f.general θ)) M) 48 0 M (λ u U. under (along (without f.general θ)) f U)
      (ap (λ (b : Bool). ask 48 b M) e)

  fact_bare : f.general ≡ [] → context_fact θ f M ≡ under (along θ) f M
  fact_bare e =
      fact_yes (ap (λ (gs : List ℕ). clear gs (without gs θ)) e ∙ clear_none (without [] θ))
      ∙ ap (λ (ζ : List Binding). under (along ζ) f M) (ap (λ (gs : List ℕ). without gs θ) e ∙ without_none θ)

module _ {facts lists : List ℕ} {n : Sizes} {I W : List ℕ} {m : Mark} (g : Recalls facts lists n I W m) {h : ℕ} (l : h < n.facts) {vs : List ℕ} (e : vs ≡ part lists (general_span facts h)) where
  general_now : vs ≡ (fact_of g.S h).general
  general_now = e ∙ general_is g l

  -- variables, as `unbind` and `is_clear` ask for them
  pub general_there : Below VARIABLES vs
  general_there i p =
      let q = all_at (fact_of g.S h).general i 0 (row g l).general_below (subst (λ (xs : List ℕ). i < length xs) general_now p) in
      let z : get_or vs i 0 ≡ get_or (fact_of g.S h).general i 0 = ap (λ (xs : List ℕ). get_or xs i 0) general_now in
      omega (arith, q, z, g.recorded.rows.row7)

  pub context_bare : (theta : List ℕ) → length vs ≡ 0 →
      context_fact (bindings (made I W m) theta 0) (fact_of g.S h) (made I W m) ≡ under (replacement (made I W m) theta) (fact_of g.S h) (made I W m)
  context_bare theta z =
      fact_bare (bindings (made I W m) theta 0) (fact_of g.S h) (made I W m) (sym general_now ∙ nil_from_length vs z)
      ∙ ap (λ (σ : ℕ → Tree). under σ (fact_of g.S h) (made I W m)) (along_is (made I W m) theta)

  module _ {theta zeta : List ℕ} (u : UnboundAs vs theta zeta) {b : Bool} (c : b ≡ clear vs (bindings (made I W m) zeta 0)) where
    unbound_now : bindings (made I W m) zeta 0 ≡ without (fact_of g.S h).general (bindings (made I W m) theta 0)
    unbound_now = unbound_is u (made I W m) ∙ ap (λ (gs : List ℕ). without gs (bindings (made I W m) theta 0)) general_now

    clear_now : b ≡ clear (fact_of g.S h).general (without (fact_of g.S h).general (bindings (made I W m) theta 0))
    clear_now = c ∙ (λ i. clear (general_now i) (unbound_now i))

    pub context_other : b ≡ true →
        context_fact (bindings (made I W m) theta 0) (fact_of g.S h) (made I W m) ≡ under (replacement (made I W m) zeta) (fact_of g.S h) (made I W m)
    context_other z =
        fact_yes (bindings (made I W m) theta 0) (fact_of g.S h) (made I W m) (sym clear_now ∙ z)
        ∙ ap (λ (ζ : List Binding). under (along ζ) (fact_of g.S h) (made I W m)) (sym unbound_now)
        ∙ ap (λ (σ : ℕ → Tree). under σ (fact_of g.S h) (made I W m)) (along_is (made I W m) zeta)

    pub context_stop : b ≡ false → Stopped I W I W m (context_fact (bindings (made I W m) theta 0) (fact_of g.S h) (made I W m)) 48 0 m
    context_stop z = pure_stopped g.good (fact_no (bindings (made I W m) theta 0) (fact_of g.S h) (made I W m) (sym clear_now ∙ z))

-- the same with other cells
pub given_cells : {facts lists : List ℕ} {n : Sizes} {I W : List ℕ} {m : Mark} {map map' memo own : List ℕ} →
    ContextGiven facts lists n I W m map memo own → Theta m map' → ContextGiven facts lists n I W m map' memo own
given_cells c t = record { recalls = c.recalls; cells = t; empty = c.empty; known = c.known }
