-- The loop that keeps variables as terms, each bound to the rule's variable of its place. Assumes nothing.
use mathlib.Core.Path.{◌≡◌, sym, ap, ◌∙◌, subst}
use mathlib.Core.List.{List}
use Rattle.std.specs.Prelude.{Option, Some as some}
use Prim.Native.Nat.{ℕ, suc, ◌+◌, ◌<◌, ◌≤◌}
use native.Mathlib.Omega.{arith}
use native.Mathlib.Decide.{ℕ_discrete}
use native.Mathlib.Numerals.{add-one}
use lib.ListN.{length, get_or, set, drop, drop_of_length-le}
use lib.Seq.{drop-cons, get_or-set_same, get_or-set_other}
use Rattle.rules.specs.Limits.{RULEVARS}
use Rattle.rules.specs.Out.{Out, ok, then}
use Rattle.rules.specs.Tree.{Tree, Trees, var, none, more}
use Rattle.rules.specs.Store.{Made, keep}
use Rattle.rules.specs.Induct.{keep_vars}
use Rattle.rules.specs.Invert.{renaming}
use Rattle.rules.specs.Laws.Out.{then_then}
use Rattle.terms.specs.declared.store.Mark.{Mark}
use Rattle.terms.specs.Table.{made, Good, Stored, Refused}
use Rattle.terms.specs.Patterns.{cells_of, tree_in, bound_of, Cells}
use Rattle.terms.specs.On.{Stopped, On, on_start, on_is, on_ok, on_no, on_done, stored_went, refused_stopped}
use Rattle.terms.specs.Laws.Bound.{cells_of_set, bound_some, bound_grown, cells_grown, cells_set}
use Rattle.terms.specs.Laws.Growth.{made_length}
use Rattle.terms.specs.Laws.Numbers.{stored_is}
use Rattle.reading.specs.Laws.Walks.{then_same}
use Rattle.inversion.specs.InvertRules.{VarsKept}

-- the first k are kept; front: they stand before those that are left
pub record VarsKeeping (I W : List ℕ) (old : Mark) (list J X bound : List ℕ) (now : Mark) (k : ℕ) : Type 0 where
  pub front : Trees → Trees
  pub on : On I W old (keep_vars list (made I W old)) J X now (then (keep_vars (drop k list) (made J X now)) (λ ts U. ok (front ts) U))
  pub binds : (i : ℕ) → i < k → bound_of (made J X now) bound i ≡ some (renaming list i)
  pub cells : Cells now.terms bound
  pub near : k ≤ length list

pub vars_start : {I W : List ℕ} {m : Mark} (list : List ℕ) {bound : List ℕ} → Good I W m → Cells m.terms bound → VarsKeeping I W m list I W bound m 0
vars_start {I} {W} {m} list g c =
    record {
      front = λ ts. ts;
      on = on_is (on_start g) (then_same (keep_vars list (made I W m)));
      binds = λ i l. absurd (omega arith);
      cells = c;
      near = omega arith;
    }

module _ {I W : List ℕ} {old : Mark} {list J X bound : List ℕ} {now : Mark} {k : ℕ} (h : VarsKeeping I W old list J X bound now k) where
  -- none is left
  pub vars_over : length list ≤ k → VarsKept I W J X old list bound now
  unfolding keep_vars then
  vars_over l =
      record {
        trees = h.front none;
        went = on_done (on_is h.on (ap (λ (vs : List ℕ). then (keep_vars vs (made J X now)) (λ ts U. ok (h.front ts) U)) (drop_of_length-le list l)));
        binds = λ i q. h.binds i (omega (arith, q, l));
        cells = h.cells;
      }

  module _ (few : length list ≤ RULEVARS) (l : k < length list) where
    split : On I W old (keep_vars list (made I W old)) J X now
        (then (keep (var (get_or list k 0)) (made J X now)) (λ t U. then (keep_vars (drop (suc k) list) U) (λ ts N. ok (h.front (more t ts)) N)))
    unfolding keep_vars then
    split =
        on_is h.on
        (ap (λ (vs : List ℕ). then (keep_vars vs (made J X now)) (λ ts U. ok (h.front ts) U)) (drop-cons list k 0 l)
        ∙ then_then (keep (var (get_or list k 0)) (made J X now)) _ _
        ∙ ap (λ (f : Tree → Made → Out Made Trees). then (keep (var (get_or list k 0)) (made J X now)) f)
        (λ i t U. then_then (keep_vars (drop (suc k) list) U) (λ ts N. ok (more t ts) N) (λ ts N. ok (h.front ts) N) i))

    module _ {Y Z : List ℕ} {new : Mark} where
      pub vars_full : {row : ℕ} → Refused Tree J X Y Z now (keep (var (get_or list k 0)) (made J X now)) row new → Stopped I W Y Z old (keep_vars list (made I W old)) 60 row new
      vars_full s = on_no _ split (refused_stopped s)

      module _ {t : ℕ} (stored : Stored J X Y Z now (var (get_or list k 0)) (keep (var (get_or list k 0)) (made J X now)) t new) where
        vars_place : k < length bound
        vars_place = omega (arith, few, l, h.cells.long)

        later : Cells new.terms bound
        later = cells_grown stored.grown h.cells

        here : bound_of (made Y Z new) (set bound k (t + 1)) k ≡ some (renaming list k)
        unfolding renaming
        here =
            let z : t + 1 ≡ suc t = omega arith in
            bound_some (made Y Z new) (set bound k (t + 1)) k t (get_or-set_same bound k (t + 1) 0 vars_place ∙ z) ∙ ap some (stored_is stored)

        bind_at : (i : ℕ) → i < k + 1 → bound_of (made Y Z new) (set bound k (t + 1)) i ≡ some (renaming list i)
        unfolding bound_of
        bind_at i q = elim (ℕ_discrete i k) [
          | yes p ↦ subst (λ (j : ℕ). bound_of (made Y Z new) (set bound k (t + 1)) j ≡ some (renaming list j)) (sym p) here
          | no p ↦
              ap (tree_in (made Y Z new)) (get_or-set_other bound k i (t + 1) 0 p)
              ∙ ap (λ (b : ℕ → Option Tree). b i) (bound_grown stored.grown h.cells) ∙ h.binds i (omega (arith, q, p))
        ]

        vars_again : VarsKeeping I W old list Y Z (set bound k (t + 1)) new (k + 1)
        vars_again =
            let n = made_length Y Z new in
            record {
              front = λ ts. h.front (more (var (get_or list k 0)) ts);
              on = on_is (on_ok _ split (stored_went stored))
                  (ap (λ (i : ℕ). then (keep_vars (drop i list) (made Y Z new)) (λ ts N. ok (h.front (more (var (get_or list k 0)) ts)) N)) (sym (add-one k)));
              binds = bind_at;
              cells = subst (λ (j : ℕ). Cells j (set bound k (t + 1))) n
                  (cells_set (made Y Z new) bound k t (subst (λ (j : ℕ). Cells j bound) (sym n) later) (omega (arith, few, l)) (omega (arith, stored.there, n)));
              near = omega arith;
            }

-- the same of what is bound
module _ {I W : List ℕ} {old : Mark} {list J X : List ℕ} (bound : List (Option ℕ)) {now : Mark} {k : ℕ} (h : VarsKeeping I W old list J X (cells_of bound) now k)
    (few : length list ≤ RULEVARS) (l : k < length list) {Y Z : List ℕ} {new : Mark} {t : ℕ}
    (stored : Stored J X Y Z now (var (get_or list k 0)) (keep (var (get_or list k 0)) (made J X now)) t new) where
  pub vars_bound : VarsKeeping I W old list Y Z (cells_of (set bound k (some t))) new (k + 1)
  vars_bound = subst (λ (cells : List ℕ). VarsKeeping I W old list Y Z cells new (k + 1)) (sym (cells_of_set bound k t)) (vars_again h few l stored)
