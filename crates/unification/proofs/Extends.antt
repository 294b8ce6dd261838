-- A substitution that gets one binding more: the values change first, then the variable has its own. Assumes nothing.
use mathlib.Core.Path.{◌≡◌, refl, sym, ap, ◌∙◌, subst}
use mathlib.Core.List.{List, [], ◌∷◌}
use Prim.Native.Nat.{ℕ, ◌+◌, ◌-◌, ◌≤◌, ◌<◌}
use native.Mathlib.Omega.{arith}
use native.Mathlib.Decide.{ℕ_discrete}
use lib.ListN.{length, get_or, set, take, length-set}
use lib.Seq.{get_or-set_same, get_or-set_other, ext_get_or}
use Rattle.rules.specs.Limits.{VARIABLES}
use Rattle.rules.specs.Out.{Out, ok, then, Act}
use Rattle.rules.specs.Tree.{Tree, var, single}
use Rattle.rules.specs.Store.{Made, substitute}
use Rattle.rules.specs.Unify.{Binding, insert, replace}
use Rattle.terms.specs.declared.store.Mark.{Mark}
use Rattle.std.specs.Prelude.{Result, Ok, Err}
use Rattle.questions.specs.Numbers.{row_number}
use Rattle.questions.specs.declared.Row.{Row}
use Rattle.terms.specs.Table.{made, Refused, tree}
use Rattle.terms.specs.Subst.{replacement}
use Rattle.terms.specs.Theta.{bindings}
use Rattle.unification.specs.Extend.{in_values, Changeable, Changed, ChangedAs, Extendable, Bound}
use Rattle.terms.specs.Laws.Zeros.{get_d_zeros, part_long, part_none}
use Rattle.terms.specs.Laws.Growth.{grown_tree}
use Rattle.terms.specs.Laws.Theta.{bindings_insert}
use Rattle.unification.proofs.Singles.{single_map}

-- one tree for one variable is a replacement
replace_values : (x : ℕ) (t : Tree) (θ : List Binding) → in_values (single x t) θ ≡ replace x t θ
unfolding in_values replace
replace_values x t [] = refl
replace_values x t (b ∷ θ) =
    let ih = replace_values x t θ in
    λ i M. then (substitute (single x t) b.value M) (λ u N. then (ih i N) (λ ζ P. ok (record { variable = b.variable; value = u } ∷ ζ) P))

module _ (I W : List ℕ) (m : Mark) (theta map memo : List ℕ) (x u : ℕ) (e : Extendable I W m theta map memo x u) where
  no_map : (v : ℕ) → get_or map v 0 ≡ 0
  no_map v = ap (λ (r : List ℕ). get_or r v 0) e.blank ∙ get_d_zeros (length map) v

  pub in_map : x < length map
  in_map = let a = e.wide in let b = e.small in omega arith

  -- the map that binds x alone
  abbrev pub one : List ℕ
  one = set map x (u + 1)

  pub in_one : x < length one
  in_one = let a = in_map in let b = length-set map x (u + 1) in omega arith

  one_bound : (v : ℕ) → get_or one v 0 ≤ m.terms
  one_bound v = elim (ℕ_discrete v x) [
    | yes q ↦ (let a : get_or one v 0 ≡ u + 1 = ap (λ (j : ℕ). get_or one j 0) q ∙ get_or-set_same map x (u + 1) 0 in_map in let b = e.there in omega arith)
    | no q ↦ (let a : get_or one v 0 ≡ 0 = get_or-set_other map x v (u + 1) 0 q ∙ no_map v in omega arith)
  ]

  -- the map is as it was when x is taken out
  pub map_back : set one x 0 ≡ map
  map_back =
      ext_get_or 0 (set one x 0) map (length-set one x 0 ∙ length-set map x (u + 1))
      (λ i l. elim (ℕ_discrete i x) [
        | yes q ↦ ap (λ (j : ℕ). get_or (set one x 0) j 0) q ∙ get_or-set_same one x 0 0 in_one ∙ sym (no_map x) ∙ sym (ap (λ (j : ℕ). get_or map j 0) q)
        | no q ↦ get_or-set_other one x i 0 0 q ∙ get_or-set_other map x i (u + 1) 0 q
      ])

  pub memo_long : m.terms ≤ length memo
  memo_long = let a = e.long in let b = e.good.room in omega arith

  pub extend_ready : Changeable I W m theta one (take m.terms memo)
  extend_ready =
      let a = part_long memo m.terms memo_long e.empty in
      record { good = e.good; cells = e.cells; bound = one_bound; long = omega arith; empty = part_none memo m.terms memo_long e.empty }

  -- what the definition makes of the values
  abbrev pub answer : Out Made (List Binding)
  answer = replace x (tree I W m u) (bindings (made I W m) theta 0) (made I W m)

  one_answer : in_values (replacement (made I W m) one) (bindings (made I W m) theta 0) (made I W m) ≡ answer
  one_answer =
      ap (λ (l : List ℕ). in_values (replacement (made I W m) (set l x (u + 1))) (bindings (made I W m) theta 0) (made I W m)) e.blank
      ∙ ap (λ (σ : ℕ → Tree). in_values σ (bindings (made I W m) theta 0) (made I W m)) (single_map (made I W m) (length map) x u in_map)
      ∙ ap (λ (A : Act Made (List Binding)). A (made I W m)) (replace_values x (tree I W m u) (bindings (made I W m) theta 0))

  module _ (J X theta' : List ℕ) (new : Mark) (r : Result (Unit {0}) Row) (d : ChangedAs I W J X m new theta theta' (in_values (replacement (made I W m) one) (bindings (made I W m) theta 0) (made I W m)) r) where
    pub extended_ok : (done : Unit {0}) → r ≡ Ok done → Bound I W J X m (set theta' x (u + 1)) x u answer new
    extended_ok done p =
        let c : Changed I W J X m theta theta' (in_values (replacement (made I W m) one) (bindings (made I W m) theta 0) (made I W m)) new = subst (ChangedAs I W J X m new theta theta' _) p d in
        let s = e.small in
        let l = c.cells.long in
        let h = e.there in
        let g = c.grown.more in
        let q : u + 1 - 1 ≡ u = omega arith in
        let z = c.unbound x e.unbound in
        record {
          grown = c.grown;
          values = bindings (made J X new) theta' 0;
          makes = sym one_answer ∙ c.makes;
          cells = record {
            long = length-set theta' x (u + 1) ∙ c.cells.long;
            bound = λ v. elim (ℕ_discrete v x) [
              | yes k ↦ (let a : get_or (set theta' x (u + 1)) v 0 ≡ u + 1 = ap (λ (j : ℕ). get_or (set theta' x (u + 1)) j 0) k ∙ get_or-set_same theta' x (u + 1) 0 (omega arith) in omega arith)
              | no k ↦ (let a = get_or-set_other theta' x v (u + 1) 0 k in let b = c.cells.bound v in omega arith)
            ];
          };
          is = bindings_insert (made J X new) theta' x (u + 1) (omega arith) z (λ k. omega arith)
              ∙ ap (λ (t : Tree). insert (record { variable = x; value = t }) (bindings (made J X new) theta' 0)) (ap (λ (j : ℕ). get_or (made J X new) j (var 0)) q ∙ grown_tree c.grown u h);
        }

    pub extended_err : (row : Row) → r ≡ Err row → length theta' ≡ length theta → Refused (List Binding) I W J X m answer (row_number row) new × (length theta' ≡ VARIABLES)
    extended_err row p k =
        let c : Refused (List Binding) I W J X m (in_values (replacement (made I W m) one) (bindings (made I W m) theta 0) (made I W m)) (row_number row) new = subst (ChangedAs I W J X m new theta theta' _) p d in
        (record { grown = c.grown; makes = sym one_answer ∙ c.makes }, k ∙ e.cells.long)
