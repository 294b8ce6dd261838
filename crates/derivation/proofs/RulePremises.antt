-- The premises of a fact as a rule, by their numbers; and what its use rests on. Assumes nothing.
use mathlib.Core.Path.{◌≡◌, refl, sym, ap, ◌∙◌, subst}
use mathlib.Core.Bool.{Bool, true, false, not}
use mathlib.Core.List.{List, [], ◌∷◌}
use Prim.Native.Nat.{ℕ, zero, suc, ◌-◌, ◌*◌, ◌<◌, ◌≤◌}
use native.Mathlib.Omega.{arith}
use lib.Dec.{eqb}
use lib.ListN.{length, get_or, drop, length-take, length-drop}
use lib.Seq.{drop-cons}
use Rattle.rules.specs.Limits.{FACTS, ENTRIES}
use Rattle.rules.specs.Find.{Set, has, union}
use Rattle.rules.specs.Tree.{Tree, Trees, var, none, more, count_trees}
use Rattle.rules.specs.Store.{Made}
use Rattle.rules.specs.State.{State}
use Rattle.rules.specs.Reference.{judgment_of, judgments_at}
use Rattle.rules.specs.Apply.{Applied}
use Rattle.rules.specs.StateTables.{numbers}
use Rattle.rules.specs.Laws.Theory.{All, empty as none_of, both, all_at}
use Rattle.rules.specs.Laws.Set.{union_empty}
use Rattle.rules.specs.Laws.Members.{union_comm}
use Rattle.terms.specs.Table.{args_of}
use Rattle.terms.specs.Sets.{plus}
use Rattle.terms.specs.Laws.Sets.{plus_has, plus_union}
use Rattle.state.specs.declared.sizes.Sizes.{Sizes}
use Rattle.cells.specs.declared.Span.{Span}
use Rattle.state.specs.Held.{records, Recorded}
use Rattle.state.specs.Rows.{cell, hyps_span, premises_span}
use Rattle.state.specs.Entries.{part}
use Rattle.state.specs.Numbered.{AllNumbered}
use Rattle.state.specs.FactLaws.{FactRow, fact_row_lem, lists_long}
use Rattle.referring.specs.Recall.{fact_of, judgment_cells}
use Rattle.referring.specs.Laws.Refers.{fact_asks}
use Rattle.derivation.specs.Applying.{RuleFact, rule_of, premise_numbers}
use Rattle.derivation.proofs.RuleFacts.{rule_row_lem, rule_assumed_lem, rule_derived_lem, assumed_is}

-- Their numbers ----------------------------------------------------------------------------------------------------------------------

length_judgments : (facts hs : List ℕ) → length (judgment_cells facts hs) ≡ length hs
unfolding judgment_cells
length_judgments facts [] = refl
length_judgments facts (h ∷ hs) = ap suc (length_judgments facts hs)

judgments_at_lem : (facts hs : List ℕ) (k : ℕ) → k < length hs → get_or (judgment_cells facts hs) k 0 ≡ cell 6 facts (get_or hs k 0) 0
unfolding judgment_cells
judgments_at_lem facts [] k l = absurd (omega arith)
judgments_at_lem facts (h ∷ hs) zero l = refl
judgments_at_lem facts (h ∷ hs) (suc k) l = judgments_at_lem facts hs k (omega arith)

module _ (facts lists : List ℕ) (i : ℕ) where
  numbers_assumed : not (eqb (cell 6 facts i 1) 0) ≡ true → premise_numbers facts lists i ≡ part lists (premises_span facts i)
  unfolding premise_numbers
  numbers_assumed e =
      ap (λ (b : Bool). elim b as (λ (z : Bool). List ℕ) [
        | true ↦ part lists (premises_span facts i)
        | false ↦ judgment_cells facts (part lists (hyps_span facts i))
      ]) e

  numbers_derived : not (eqb (cell 6 facts i 1) 0) ≡ false → premise_numbers facts lists i ≡ judgment_cells facts (part lists (hyps_span facts i))
  unfolding premise_numbers
  numbers_derived e =
      ap (λ (b : Bool). elim b as (λ (z : Bool). List ℕ) [
        | true ↦ part lists (premises_span facts i)
        | false ↦ judgment_cells facts (part lists (hyps_span facts i))
      ]) e

-- a part is no longer than the list
part_few : (l : List ℕ) (s : Span) → length (part l s) ≤ length l
part_few l s = omega (arith, length-take (s.end - s.from) (drop s.from l), length-drop s.from l)

-- the premises are few
pub premises_few : {facts lists : List ℕ} {i : ℕ} → RuleFact facts lists i → length (premise_numbers facts lists i) ≤ ENTRIES
premises_few {facts} {lists} {i} g = go (not (eqb (cell 6 facts i 1) 0)) refl
  where
    go : (b : Bool) → not (eqb (cell 6 facts i 1) 0) ≡ b → length (premise_numbers facts lists i) ≤ ENTRIES
    go true e = omega (arith, ap length (numbers_assumed facts lists i e), part_few lists (premises_span facts i), lists_long g.recorded)
    go false e =
        let hs = part lists (hyps_span facts i) in
        omega (arith, ap length (numbers_derived facts lists i e), length_judgments facts hs, part_few lists (hyps_span facts i), lists_long g.recorded)

module _ {facts lists : List ℕ} {i : ℕ} (g : RuleFact facts lists i) {b : Bool} (a : b ≡ not (eqb (cell 6 facts i 1) 0)) {own : List ℕ} where
  -- of a hypothesis: own are its premises
  pub own_are : b ≡ true → own ≡ part lists (premises_span facts i) → own ≡ premise_numbers facts lists i
  own_are t e = e ∙ sym (numbers_assumed facts lists i (sym a ∙ t))

  -- of another fact: own are its hypotheses
  module _ (t : b ≡ false) (e : own ≡ part lists (hyps_span facts i)) where
    rests_are : judgment_cells facts own ≡ premise_numbers facts lists i
    rests_are = ap (judgment_cells facts) e ∙ sym (numbers_derived facts lists i (sym a ∙ t))

    pub rests_count : length own ≡ length (premise_numbers facts lists i)
    rests_count = sym (length_judgments facts own) ∙ ap length rests_are

    module _ {k : ℕ} (l : k < length (premise_numbers facts lists i)) where
      pub rests_inside : k < length own
      rests_inside = omega (arith, rests_count)

      pub rests_asks : (length facts ≡ 6 * FACTS) × (get_or own k 0 < FACTS)
      rests_asks =
          let f : own ≡ (fact_of g.S i).hyps = e ∙ (rule_row_lem g).hyps in
          let c = all_at (fact_of g.S i).hyps k 0 (rule_row_lem g).hyps_below (omega (arith, ap length f, rests_inside)) in
          let d : get_or own k 0 ≡ get_or (fact_of g.S i).hyps k 0 = ap (λ (l : List ℕ). get_or l k 0) f in
          fact_asks g.recorded (omega arith)

      pub rests_at : cell 6 facts (get_or own k 0) 0 ≡ get_or (premise_numbers facts lists i) k 0
      rests_at = sym (judgments_at_lem facts own k rests_inside) ∙ ap (λ (l : List ℕ). get_or l k 0) rests_are

-- Their trees ------------------------------------------------------------------------------------------------------------------------

module _ {facts footings lists : List ℕ} {n : Sizes} {M : Made} {S : State} (h : Recorded (records facts footings lists) n M S) where
  hyps_numbered : (hs : List ℕ) → All (λ j. j < n.facts) hs → AllNumbered M (judgments_at S.facts hs) (judgment_cells facts hs)
  unfolding judgments_at judgment_cells numbers args_of count_trees judgment_of
  hyps_numbered [] none_of = record { is = refl; below = none_of; trees = refl; many = refl }
  hyps_numbered (j ∷ hs) (both p a) =
      let r = fact_row_lem h j p in
      let k = hyps_numbered hs a in
      subst (λ (t : Tree). AllNumbered M (more t (judgments_at S.facts hs)) (cell 6 facts j 0 ∷ judgment_cells facts hs)) (sym (ap judgment_of r.is))
      (record {
        is = λ i. r.judgment.is i ∷ k.is i;
        below = both r.judgment.below k.below;
        trees = λ i. more (r.judgment.tree i) (k.trees i);
        many = ap suc k.many;
      })

  pub premises_numbered : {i : ℕ} → i < n.facts → AllNumbered M (rule_of S i (fact_of S i)).premises (premise_numbers facts lists i)
  premises_numbered {i} l = go (fact_of S i).assumed refl
    where
      row : FactRow (records facts footings lists) n M S i (fact_of S i)
      row = fact_row_lem h i l

      go : (b : Bool) → (fact_of S i).assumed ≡ b → AllNumbered M (rule_of S i (fact_of S i)).premises (premise_numbers facts lists i)
      go true e =
          subst (λ (a : Applied). AllNumbered M a.premises (premise_numbers facts lists i)) (sym (rule_assumed_lem S [] i (fact_of S i) e))
          (subst (λ (ns : List ℕ). AllNumbered M (fact_of S i).premises ns)
          (sym row.premises ∙ sym (numbers_assumed facts lists i (row.assumed ∙ e))) row.numbered)
      go false e =
          subst (λ (a : Applied). AllNumbered M a.premises (premise_numbers facts lists i)) (sym (rule_derived_lem S [] i (fact_of S i) e))
          (subst (λ (ns : List ℕ). AllNumbered M (judgments_at S.facts (fact_of S i).hyps) ns)
          (sym (ap (judgment_cells facts) row.hyps) ∙ sym (numbers_derived facts lists i (row.assumed ∙ e)))
          (hyps_numbered (fact_of S i).hyps row.hyps_below))

-- What is left of them ---------------------------------------------------------------------------------------------------------------

unfoldable pub drop_trees : ℕ → Trees → Trees
drop_trees zero ts = ts
drop_trees (suc k) none = none
drop_trees (suc k) (more t ts) = drop_trees k ts

args_drop : (M : Made) (ns : List ℕ) (k : ℕ) → args_of M (drop k ns) ≡ drop_trees k (args_of M ns)
unfolding args_of drop_trees
args_drop M [] zero = refl
args_drop M [] (suc k) = refl
args_drop M (x ∷ ns) zero = refl
args_drop M (x ∷ ns) (suc k) = args_drop M ns k

module _ {M : Made} {ps : Trees} {ns : List ℕ} (a : AllNumbered M ps ns) {k : ℕ} (l : k < length ns) where
  pub premise_below : get_or ns k 0 < length M
  premise_below = all_at ns k 0 a.below l

  pub premise_next : drop_trees k ps ≡ more (get_or M (get_or ns k 0) (var 0)) (drop_trees (suc k) ps)
  unfolding args_of
  premise_next =
      ap (drop_trees k) (sym a.trees) ∙ sym (args_drop M ns k) ∙ ap (args_of M) (drop-cons ns k 0 l)
      ∙ ap (more (get_or M (get_or ns k 0) (var 0))) (args_drop M ns (suc k) ∙ ap (drop_trees (suc k)) a.trees)

pub premise_first : (ps : Trees) → drop_trees 0 ps ≡ ps
unfolding drop_trees
premise_first ps = refl

-- What its use rests on --------------------------------------------------------------------------------------------------------------

-- one member more, in front
pub has_one : (i : ℕ) (a : Set) → plus i a ≡ union (has (i ∷ [])) a
unfolding has
has_one i a =
    sym (union_comm (has (i ∷ [])) a ∙ ap (union a) (plus_has i []) ∙ plus_union i a (has []) ∙ ap (plus i) (union_empty a))

module _ {facts lists : List ℕ} {i : ℕ} (g : RuleFact facts lists i) {b : Bool} (a : b ≡ not (eqb (cell 6 facts i 1) 0)) where
  pub rests_itself : b ≡ true → (x y : Set) → y ≡ plus i x → y ≡ union (has (rule_of g.S i (fact_of g.S i)).hyps) x
  rests_itself t x y e =
      e ∙ has_one i x ∙ ap (λ (r : Applied). union (has r.hyps) x) (sym (rule_assumed_lem g.S [] i (fact_of g.S i) (assumed_is g a t)))

  pub rests_nowhere : b ≡ false → (x : Set) → x ≡ union (has (rule_of g.S i (fact_of g.S i)).hyps) x
  unfolding has
  rests_nowhere t x = ap (λ (r : Applied). union (has r.hyps) x) (sym (rule_derived_lem g.S [] i (fact_of g.S i) (assumed_is g a t)))
