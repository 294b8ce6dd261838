-- The cells of a rule's variables and the stated conclusion, as the items of a step have filled them: none yet, one more, and that trees made
-- later do not change them. Assumes nothing.
use Rattle.std.specs.Prelude.{◌≡◌, Bool, ◌&&◌, ◌||◌, length, get_or, set, replicate, Option, Some as some}
use Rattle.std.proofs.Math.Path.{refl, sym, ap}
use Rattle.std.proofs.Common.{◌∙◌, subst, ne_eqb}
use Rattle.std.proofs.Math.Bool.{true, false}
use mathlib.Core.List.{List, [], ◌∷◌}
use Prim.Native.Nat.{ℕ, zero, suc, ◌+◌, ◌-◌, ◌<◌, ◌≤◌}
use native.Mathlib.Omega.{arith}
use Rattle.std.proofs.Math.Dec.{eqb}
use Rattle.rules.specs.Limits.{RULEVARS}
use Rattle.rules.specs.Out.{Out}
use Rattle.rules.specs.Text.{same}
use Rattle.rules.specs.Sexp.{Sexp, count, item, marked}
use Rattle.rules.specs.Find.{first}
use Rattle.rules.specs.Tree.{Tree, var, more, variables}
use Rattle.rules.specs.Store.{Made}
use Rattle.rules.specs.Theory.{Rule}
use Rattle.rules.specs.Declare.{no_rule_var, is_new}
use Rattle.rules.specs.Match.{Bound, bind}
use Rattle.rules.specs.State.{State}
use Rattle.rules.specs.Step.{Items, no_items, bind_item, state_item, read_item}
use Rattle.rules.specs.Laws.Keeping.{Invariant, Keeps, fine, stays, by_then, by_still, by_ask, by_found, by_either}
use Rattle.rules.proofs.Laws.Still.{name_still, items_still}
use Rattle.rules.proofs.Laws.ReadWalk.{term_of_keeps, judgment_keeps}
use Rattle.rules.specs.Laws.Ready.{Ready}
use Rattle.rules.specs.Laws.Tree.{variables_more}
use Rattle.terms.specs.declared.store.Mark.{Mark}
use Rattle.terms.specs.Table.{made, tree, Grown}
use Rattle.terms.specs.Patterns.{tree_in, bound_of, Cells}
use Rattle.terms.specs.On.{Went}
use Rattle.terms.specs.Laws.Bound.{tree_in_grown, bound_zeros, cells_zeros, bound_set, cells_set, bound_grown, cells_grown}
use Rattle.terms.specs.Laws.Growth.{made_length, grown_tree}
use Rattle.state.specs.declared.sizes.Sizes.{Sizes}
use Rattle.state.specs.Held.{Names}
use Rattle.reading.specs.Given.{Reads}
use Rattle.referring.specs.Derived.{cell_vars, ItemsRead}
use Rattle.derivation.specs.ItemsOf.{ItemsHeld}
use Rattle.reading.specs.Laws.Reading.{reads_ready, reads_went}

-- The variables of the cells' terms --------------------------------------------------------------------------------------------------

or_swap : (a b c : Bool) → a || (b || c) ≡ b || (a || c)
or_swap true true c = refl
or_swap true false c = refl
or_swap false true c = refl
or_swap false false c = refl

module _ (M : Made) where
  pub cell_none : (cs : List ℕ) (w : ℕ) → cell_vars M (0 ∷ cs) w ≡ cell_vars M cs w
  unfolding cell_vars
  cell_none cs w = refl

  pub cell_some : (c : ℕ) (cs : List ℕ) (w : ℕ) → (c ≡ 0 → ⊥) → cell_vars M (c ∷ cs) w ≡ variables (get_or M (c - 1) (var 0)) w || cell_vars M cs w
  unfolding cell_vars
  cell_some c cs w q =
      ap (λ (b : Bool). elim b [ true ↦ cell_vars M cs w | false ↦ variables (get_or M (c - 1) (var 0)) w || cell_vars M cs w ]) (ne_eqb c 0 q)

  pub cell_vars_zeros : (n w : ℕ) → cell_vars M (replicate n 0) w ≡ false
  unfolding cell_vars
  cell_vars_zeros zero w = refl
  cell_vars_zeros (suc n) w = cell_none (replicate n 0) w ∙ cell_vars_zeros n w

  -- an empty cell gets term id
  pub cell_vars_set : (B : List ℕ) (v id w : ℕ) → v < length B → get_or B v 0 ≡ 0 →
      cell_vars M (set B v (id + 1)) w ≡ variables (get_or M id (var 0)) w || cell_vars M B w
  cell_vars_set [] v id w l e = absurd (omega arith)
  cell_vars_set (c ∷ cs) zero id w l e =
      let z : id + 1 - 1 ≡ id = omega arith in
      cell_some (id + 1) cs w (λ q. omega arith)
      ∙ ap (λ (k : ℕ). variables (get_or M k (var 0)) w || cell_vars M cs w) z
      ∙ ap (λ (b : Bool). variables (get_or M id (var 0)) w || b) (sym (ap (λ (k : ℕ). cell_vars M (k ∷ cs) w) e ∙ cell_none cs w))
  cell_vars_set (zero ∷ cs) (suc v) id w l e =
      cell_none (set cs v (id + 1)) w ∙ cell_vars_set cs v id w (omega arith) e
      ∙ ap (λ (b : Bool). variables (get_or M id (var 0)) w || b) (sym (cell_none cs w))
  cell_vars_set (suc c ∷ cs) (suc v) id w l e =
      cell_some (suc c) (set cs v (id + 1)) w (λ q. omega arith)
      ∙ ap (λ (b : Bool). variables (get_or M (suc c - 1) (var 0)) w || b) (cell_vars_set cs v id w (omega arith) e)
      ∙ or_swap (variables (get_or M (suc c - 1) (var 0)) w) (variables (get_or M id (var 0)) w) (cell_vars M cs w)
      ∙ ap (λ (b : Bool). variables (get_or M id (var 0)) w || b) (sym (cell_some (suc c) cs w (λ q. omega arith)))

-- trees made later do not change them
module _ {I W J X : List ℕ} {old new : Mark} (g : Grown I W J X old new) where
  pub cell_vars_grown : (B : List ℕ) → ((k : ℕ) → get_or B k 0 ≤ old.terms) → (w : ℕ) → cell_vars (made J X new) B w ≡ cell_vars (made I W old) B w
  unfolding cell_vars
  cell_vars_grown [] h w = refl
  cell_vars_grown (zero ∷ cs) h w = cell_none (made J X new) cs w ∙ cell_vars_grown cs (λ k. h (suc k)) w ∙ sym (cell_none (made I W old) cs w)
  cell_vars_grown (suc c ∷ cs) h w =
      let l : suc c ≤ old.terms = h 0 in
      cell_some (made J X new) (suc c) cs w (λ q. omega arith)
      ∙ ap (λ (b : Bool). variables (tree J X new (suc c - 1)) w || b) (cell_vars_grown cs (λ k. h (suc k)) w)
      ∙ ap (λ (t : Tree). variables t w || cell_vars (made I W old) cs w) (grown_tree g (suc c - 1) (omega arith))
      ∙ sym (cell_some (made I W old) (suc c) cs w (λ q. omega arith))

new_tree : (M : Made) (c : ℕ) → is_new (tree_in M c) ≡ eqb c 0
unfolding tree_in is_new
new_tree M zero = refl
new_tree M (suc c) = sym (ne_eqb (suc c) 0 (λ q. omega arith))

-- How far the items have come --------------------------------------------------------------------------------------------------------

-- nothing is bound, nothing stated
pub held_none : {I W : List ℕ} {m : Mark} {B : List ℕ} → B ≡ replicate RULEVARS 0 → ItemsHeld I W m B 0 no_items
unfolding tree_in variables
held_none {I} {W} {m} e =
    subst (λ (b : List ℕ). ItemsHeld I W m b 0 no_items) (sym e) (record {
      binds = sym (bound_zeros (made I W m) RULEVARS);
      cells = cells_zeros m.terms;
      values = λ i w. sym (cell_vars_zeros (made I W m) RULEVARS w) i;
      states = refl;
      there = omega arith;
    })

-- the items behind a binding, and behind the conclusion
abbrev pub with_bound : Items → ℕ → Tree → Items
with_bound it v t = record { bound = bind it.bound v t; values = more t it.values; stated = it.stated }

abbrev pub with_stated : Items → Tree → Items
with_stated it t = record { bound = it.bound; values = it.values; stated = some t }

module _ {I W : List ℕ} {m : Mark} {B : List ℕ} {stated : ℕ} {it : Items} (k : ItemsHeld I W m B stated it) where
  pub held_grown : {J X : List ℕ} {new : Mark} → Grown I W J X m new → ItemsHeld J X new B stated it
  held_grown {J} {X} {new} g =
      record {
        binds = k.binds ∙ sym (bound_grown g k.cells);
        cells = cells_grown g k.cells;
        values = k.values ∙ (λ i w. sym (cell_vars_grown g B k.cells.within w) i);
        states = k.states ∙ sym (tree_in_grown g stated k.there);
        there = omega (arith, k.there, g.more);
      }

  -- what a zero says
  pub held_new : (v : ℕ) → is_new (it.bound v) ≡ eqb (get_or B v 0) 0
  unfolding bound_of
  held_new v = ap (λ (b : Bound). is_new (b v)) k.binds ∙ new_tree (made I W m) (get_or B v 0)

  pub held_unstated : is_new it.stated ≡ eqb stated 0
  held_unstated = ap (λ (o : Option Tree). is_new o) k.states ∙ new_tree (made I W m) stated

  module _ (id : ℕ) (h : id < m.terms) where
    -- variable v is bound to term id
    pub held_bound : (v : ℕ) → v < RULEVARS → get_or B v 0 ≡ 0 → ItemsHeld I W m (set B v (id + 1)) stated (with_bound it v (tree I W m id))
    held_bound v l e =
        let n = made_length I W m in
        let c : Cells (length (made I W m)) B = subst (λ (j : ℕ). Cells j B) (sym n) k.cells in
        let d : id < length (made I W m) = omega arith in
        record {
          binds = ap (λ (b : Bound). bind b v (tree I W m id)) k.binds ∙ sym (bound_set (made I W m) B v id c l d);
          cells = subst (λ (j : ℕ). Cells j (set B v (id + 1))) n (cells_set (made I W m) B v id c l d);
          values = λ i w. (ap (λ (s : ℕ → Bool). s w) (variables_more (tree I W m id) it.values)
              ∙ ap (λ (s : ℕ → Bool). variables (tree I W m id) w || s w) k.values
              ∙ sym (cell_vars_set (made I W m) B v id w (omega (arith, l, k.cells.long)) e)) i;
          states = k.states;
          there = k.there;
        }

    -- term id is stated
    pub held_stated : ItemsHeld I W m B (id + 1) (with_stated it (tree I W m id))
    unfolding tree_in
    held_stated =
        let z : suc id ≡ id + 1 = omega arith in
        record {
          binds = k.binds;
          cells = k.cells;
          values = k.values;
          states = ap (λ (j : ℕ). tree_in (made I W m) j) z;
          there = omega arith;
        }

-- as the answer of a call says it
module _ {I W J X : List ℕ} {old new : Mark} {K : Out Made Items} {B : List ℕ} {stated : ℕ} where
  pub items_read : {it : Items} → Went I W J X old K it new → ItemsHeld J X new B stated it → ItemsRead I W J X old K B stated new
  items_read {it} w k = record { items = it; went = w; binds = k.binds; cells = k.cells; values = k.values; states = k.states; there = k.there }

  pub read_held : (a : ItemsRead I W J X old K B stated new) → ItemsHeld J X new B stated a.items
  read_held a = record { binds = a.binds; cells = a.cells; values = a.values; states = a.states; there = a.there }

-- What stays readable ----------------------------------------------------------------------------------------------------------------

-- reading an item keeps what is made
module _ {K : Invariant} (S : State) where
  bind_item_grows : (R : Rule) (n : List ℕ) (x : Sexp) (it : Items) (m : Made) → Ready K S m → Keeps K m (λ u w. Unit {0}) (bind_item S R n x it m)
  unfolding bind_item
  bind_item_grows R n x it m h =
      by_found 36 (first (λ v. same v.name.bytes n) R.vars 0) _ h.good λ i e.
      by_then _ _ (term_of_keeps S x (get_or R.vars i no_rule_var).sort m h) λ t u g p.
      by_ask 36 (is_new (it.bound i)) _ g.good λ f. fine (stays g.good) tt

  state_item_grows : (x : Sexp) (it : Items) (m : Made) → Ready K S m → Keeps K m (λ u w. Unit {0}) (state_item S x it m)
  unfolding state_item
  state_item_grows x it m h =
      by_then _ _ (judgment_keeps S x m h) λ j u g p.
      by_ask 37 (is_new it.stated) _ g.good λ f. fine (stays g.good) tt

  read_item_grows : (R : Rule) (x : Sexp) (it : Items) (m : Made) → Ready K S m → Keeps K m (λ u w. Unit {0}) (read_item S R x it m)
  unfolding read_item
  read_item_grows R x it m h =
      by_still _ _ h.good (items_still 22 x) λ ys e.
      by_still _ _ h.good (name_still 22 (item ys 0)) λ n f.
      by_either (marked n.bytes && eqb (count ys) 2) _ _ (bind_item_grows R n.bytes (item ys 1) it m h) (state_item_grows x it m h)

pub reads_read_item : {K : Names} {n : Sizes} {I W J X : List ℕ} {m k : Mark} {S : State} → Reads K n I W m S → (R : Rule) (x : Sexp) (it : Items) {u : Items} →
    Went I W J X m (read_item S R x it (made I W m)) u k → Reads K n J X k S
reads_read_item {I = I} {W} {m = m} {S = S} h R x it w = reads_went h (read_item_grows S R x it (made I W m) (reads_ready h)) w
