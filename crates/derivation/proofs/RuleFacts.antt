-- Fact i as a rule, from its row in the tables: whether it can be used, its premises by their numbers, and what its use rests on. Assumes nothing.
use mathlib.Core.Path.{◌≡◌, refl, sym, ap, ◌∙◌, subst}
use mathlib.Core.Bool.{Bool, true, false, not, ◌&&◌, ◌||◌}
use Rattle.std.specs.Prelude.{Option, Some as some, None as nothing, Ok, Err}
use mathlib.Core.List.{List, [], ◌∷◌}
use Prim.Native.Nat.{ℕ, suc, ◌+◌, ◌-◌, ◌*◌, ◌<◌}
use native.Mathlib.Omega.{arith}
use native.Mathlib.Numerals.{add-one}
use Rattle.std.specs.List.{list_all, enumerate_from}
use lib.Dec.{eqb}
use lib.ListN.{length, get_or, replicate}
use Rattle.rules.specs.Limits.{VARIABLES, FACTS, VARIABLEWORDS}
use Rattle.rules.specs.Out.{Out, ok, then, Act, ask}
use Rattle.rules.specs.Find.{Set, all, has, union}
use Rattle.rules.specs.Tree.{var}
use Rattle.rules.specs.Store.{Made}
use Rattle.rules.specs.Unify.{Binding}
use Rattle.rules.specs.State.{State, Fact, is_plain}
use Rattle.rules.specs.Reference.{judgments_at}
use Rattle.rules.specs.Apply.{Applied, plain_at, applied}
use Rattle.rules.specs.Laws.Theory.{All, all_at}
use Rattle.terms.specs.Sets.{holds}
use Rattle.terms.specs.Theta.{bindings}
use Rattle.terms.specs.Laws.Sets.{holds_zero}
use Rattle.state.specs.Held.{records}
use Rattle.state.specs.Rows.{cell, hyps_span, general_span, plain_row}
use Rattle.state.specs.Entries.{part}
use Rattle.state.specs.FactLaws.{FactRow, fact_row_lem}
use Rattle.referring.specs.Recall.{fact_of}
use Rattle.referring.specs.Laws.Refers.{fact_asks}
use Rattle.referring.specs.Laws.Tests.{all_same}
use Rattle.questions.specs.declared.Question.TheVariants.{Binding as OfBinding, Hypothesis as OfHypothesis}
use Rattle.derivation.specs.Applying.{RuleFact, rule_of, ApplicableAs}

module _ {facts lists : List ℕ} {i : ℕ} (g : RuleFact facts lists i) where
  pub rule_row_lem : FactRow (records facts g.footings lists) g.n g.trees g.S i (fact_of g.S i)
  rule_row_lem = fact_row_lem g.recorded i g.there

  -- what the readers of the fact ask
  pub rule_asks : (length facts ≡ 6 * FACTS) × (i < FACTS)
  rule_asks = fact_asks g.recorded g.there

-- Generalised variables --------------------------------------------------------------------------------------------------------------

-- the binding's variable is among these
abbrev among : List ℕ → Binding → Bool
among vs b = has vs b.variable

-- whether each variable that is bound is in the set, the first of the cells being that of v
module _ (set : Set) (M : Made) where
  bound_all : (cells : List ℕ) (v : ℕ) →
      list_all (λ p. eqb p.1 0 || set p.0) (enumerate_from v cells) ≡ all (λ (b : Binding). set b.variable) (bindings M cells v)
  unfolding bindings all
  bound_all [] v = refl
  bound_all (c ∷ cs) v =
      go (eqb c 0) (bound_all cs (v + 1) ∙ ap (λ (w : ℕ). all (λ (b : Binding). set b.variable) (bindings M cs w)) (add-one v))
    where
      more : {a b : Bool} (t : Bool) → a ≡ b → (t && a) ≡ elim t [ true ↦ b | false ↦ false ]
      more true h = h
      more false h = refl

      go : (t : Bool) → list_all (λ p. eqb p.1 0 || set p.0) (enumerate_from (v + 1) cs) ≡ all (λ (b : Binding). set b.variable) (bindings M cs (suc v)) →
          ((t || set v) && list_all (λ p. eqb p.1 0 || set p.0) (enumerate_from (v + 1) cs))
          ≡ all (λ (b : Binding). set b.variable)
          (elim t [
            | true ↦ bindings M cs (suc v)
            | false ↦ record { variable = v; value = get_or M (c - 1) (var 0) } ∷ bindings M cs (suc v)
          ])
      go true h = h
      go false h = more (set v) h

module _ {facts lists : List ℕ} {i : ℕ} {vs : List ℕ} (e : vs ≡ part lists (general_span facts i)) where
  module _ (g : RuleFact facts lists i) where
    general_is : vs ≡ (fact_of g.S i).general
    general_is = e ∙ (rule_row_lem g).general

    pub general_small : (k : ℕ) → k < length vs → get_or vs k 0 < VARIABLES
    general_small k l =
        let f = general_is in
        let a = all_at (fact_of g.S i).general k 0 (rule_row_lem g).general_below (omega (arith, ap length f)) in
        let b : get_or vs k 0 ≡ get_or (fact_of g.S i).general k 0 = ap (λ (l : List ℕ). get_or l k 0) f in
        omega (arith, g.recorded.rows.row7)

    -- own: the set of them; b: whether no cell binds another
    pub general_all : (bound own : List ℕ) {zeros : List ℕ} → zeros ≡ replicate VARIABLEWORDS 0 → holds own ≡ union (holds zeros) (has vs) → (M : Made) →
        {b : Bool} → b ≡ list_all (λ p. eqb p.1 0 || holds own p.0) (enumerate_from 0 bound) →
        b ≡ all (among (fact_of g.S i).general) (bindings M bound 0)
    general_all bound own {zeros} z h M r =
        let s : holds own ≡ has (fact_of g.S i).general
        = h ∙ ap (λ (a : Set). union a (has vs)) (ap holds z ∙ holds_zero VARIABLEWORDS) ∙ ap has general_is in
        r ∙ bound_all (holds own) M bound 0 ∙ ap (λ (a : Set). all (λ (b : Binding). a b.variable) (bindings M bound 0)) s

-- Hypotheses ------------------------------------------------------------------------------------------------------------------------

plain_row_lem : {facts lists : List ℕ} {i : ℕ} (g : RuleFact facts lists i) (h : ℕ) → h < g.n.facts → plain_at g.S.facts h ≡ plain_row facts h
unfolding plain_at
plain_row_lem g h l =
    let r = fact_row_lem g.recorded h l in
    ap (λ (o : Option Fact). elim o [ some f ↦ is_plain f | nothing ↦ false ]) r.is ∙ sym r.plain

module _ {facts lists : List ℕ} {i : ℕ} {hs : List ℕ} (e : hs ≡ part lists (hyps_span facts i)) (g : RuleFact facts lists i) where
  hyps_are : hs ≡ (fact_of g.S i).hyps
  hyps_are = e ∙ (rule_row_lem g).hyps

  hyps_early : (k : ℕ) → k < length hs → get_or hs k 0 < g.n.facts
  hyps_early k l = all_at hs k 0 (subst (λ (l : List ℕ). All (λ h. h < g.n.facts) l) (sym hyps_are) (rule_row_lem g).hyps_below) l

  -- what is asked of each
  pub hyp_asks : (k : ℕ) → k < length hs → (length facts ≡ 6 * FACTS) × (get_or hs k 0 < FACTS)
  hyp_asks k l = fact_asks g.recorded (hyps_early k l)

  pub hyps_plain : {b : Bool} → b ≡ all (plain_row facts) hs → b ≡ all (plain_at g.S.facts) (fact_of g.S i).hyps
  hyps_plain r =
      r ∙ all_same (plain_row facts) (plain_at g.S.facts) hs (λ k l. sym (plain_row_lem g (get_or hs k 0) (hyps_early k l)))
      ∙ ap (all (plain_at g.S.facts)) hyps_are

-- Whether it can be used ---------------------------------------------------------------------------------------------------------------

module _ (S : State) (bs : List Binding) (i : ℕ) (f : Fact) where
  abbrev rule_assumed : Applied
  rule_assumed = record { premises = f.premises; conclusion = f.judgment; hyps = i ∷ [] }

  abbrev rule_derived : Applied
  rule_derived = record { premises = judgments_at S.facts f.hyps; conclusion = f.judgment; hyps = [] }

  pub rule_assumed_lem : f.assumed ≡ true → rule_of S i f ≡ rule_assumed
  unfolding rule_of
  rule_assumed_lem e = ap (λ (b : Bool). elim b as (λ (z : Bool). Applied) [ true ↦ rule_assumed | false ↦ rule_derived ]) e

  pub rule_derived_lem : f.assumed ≡ false → rule_of S i f ≡ rule_derived
  unfolding rule_of
  rule_derived_lem e = ap (λ (b : Bool). elim b as (λ (z : Bool). Applied) [ true ↦ rule_assumed | false ↦ rule_derived ]) e

  abbrev answered : Made → Applied → Out Made Applied
  answered M a = ok a M

  abbrev by_bindings : Bool → Made → Out Made Applied
  by_bindings b M = then (ask 36 b M) (λ u U. ok rule_assumed U)

  abbrev by_hyps : Bool → Made → Out Made Applied
  by_hyps b M = then (ask 40 b M) (λ u U. ok rule_derived U)

  applied_assumed : (M : Made) → f.assumed ≡ true → applied S bs i f M ≡ by_bindings (all (among f.general) bs) M
  unfolding applied
  applied_assumed M e =
      ap (λ (b : Bool). (elim b as (λ (z : Bool). Act Made Applied) [
        | true ↦ by_bindings (all (among f.general) bs)
        | false ↦ by_hyps (all (plain_at S.facts) f.hyps)
      ]) M) e

  applied_derived : (M : Made) → f.assumed ≡ false → applied S bs i f M ≡ by_hyps (all (plain_at S.facts) f.hyps) M
  unfolding applied
  applied_derived M e =
      ap (λ (b : Bool). (elim b as (λ (z : Bool). Act Made Applied) [
        | true ↦ by_bindings (all (among f.general) bs)
        | false ↦ by_hyps (all (plain_at S.facts) f.hyps)
      ]) M) e

  pub usable_assumed : f.assumed ≡ true → true ≡ all (among f.general) bs → ApplicableAs S bs i f (Ok tt)
  unfolding then
  usable_assumed e h M =
      applied_assumed M e ∙ ap (λ (b : Bool). by_bindings b M) (sym h) ∙ ap (answered M) (sym (rule_assumed_lem e))

  pub refused_assumed : f.assumed ≡ true → false ≡ all (among f.general) bs → ApplicableAs S bs i f (Err OfBinding)
  unfolding then
  refused_assumed e h M = applied_assumed M e ∙ ap (λ (b : Bool). by_bindings b M) (sym h)

  pub usable_derived : f.assumed ≡ false → true ≡ all (plain_at S.facts) f.hyps → ApplicableAs S bs i f (Ok tt)
  unfolding then
  usable_derived e h M =
      applied_derived M e ∙ ap (λ (b : Bool). by_hyps b M) (sym h) ∙ ap (answered M) (sym (rule_derived_lem e))

  pub refused_derived : f.assumed ≡ false → false ≡ all (plain_at S.facts) f.hyps → ApplicableAs S bs i f (Err OfHypothesis)
  unfolding then
  refused_derived e h M = applied_derived M e ∙ ap (λ (b : Bool). by_hyps b M) (sym h)

-- what `is_assumed` says
pub assumed_is : {facts lists : List ℕ} {i : ℕ} (g : RuleFact facts lists i) {b c : Bool} → b ≡ not (eqb (cell 6 facts i 1) 0) → b ≡ c → (fact_of g.S i).assumed ≡ c
assumed_is g e f = sym (rule_row_lem g).assumed ∙ sym e ∙ f
