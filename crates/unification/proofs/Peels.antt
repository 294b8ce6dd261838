-- Pairs are taken until one binds a variable: the loop against the definition, whose number of steps bounds what the pairs weigh. Assumes
-- nothing.
use mathlib.Core.Path.{◌≡◌, sym, ap, ◌∙◌, subst}
use mathlib.Core.List.{List}
use Prim.Native.Nat.{ℕ, suc, ◌-◌, ◌≤◌}
use native.Mathlib.Omega.{arith}
use lib.ListN.{length}
use Rattle.rules.specs.Out.{Out}
use Rattle.rules.specs.Store.{Made}
use Rattle.rules.specs.Unify.{Found, peel}
use Rattle.terms.specs.declared.store.Mark.{Mark}
use Rattle.terms.specs.Table.{Grown}
use Rattle.unification.specs.Pairs.{waits}
use Rattle.unification.specs.Peel.{Peelable, weighs, peels, Lighter, Finishes}
use Rattle.terms.specs.Laws.Tables.{length_trees}
use Rattle.terms.specs.Laws.Growth.{grown_trans}

-- the pairs that wait now say what is left, with more steps than they weigh
pub record Peeling (I W : List ℕ) (old : Mark) (theta memo P seen : List ℕ) (w : ℕ) (J X memo' P' seen' : List ℕ) (m : Mark) (v : ℕ) : Type 0 where
  pub grown : Grown I W J X old m
  pub peelable : Peelable J X m theta memo' P' seen' v
  pub steps : ℕ
  pub enough : weighs J X m theta P' v ≤ steps
  pub left : peels (suc (weighs I W old theta P w)) I W old theta P w ≡ peels (suc steps) J X m theta P' v
  pub long_memo : length memo' ≡ length memo
  pub long_pairs : length P' ≡ length P
  pub same_seen : seen' ≡ seen

module _ (I W : List ℕ) (old : Mark) (theta memo P seen : List ℕ) (w : ℕ) (J X memo' P' seen' : List ℕ) (m : Mark) (v : ℕ) (l : Peeling I W old theta memo P seen w J X memo' P' seen' m v) where
  abbrev K : Out Made Found
  K = peels (suc (weighs I W old theta P w)) I W old theta P w

  pub peeling_ends : v ≡ 0 → Finishes I W J X old memo' K m
  unfolding peel waits
  peeling_ends e =
      let a = l.peelable.memos in
      let b = l.peelable.good.room in
      let c = length_trees J X m.terms in
      record {
        grown = l.grown;
        makes = l.left ∙ ap (λ (i : ℕ). peels (suc l.steps) J X m theta P' i) e;
        results = record { inside = omega arith; below = λ i h. let d = (l.peelable.knows i h).old in omega arith };
      }

  module _ (G Y memo'' P'' : List ℕ) (new : Mark) (n : ℕ) where
    -- a step that is not the last one's end
    module _ (lighter : Lighter J X G Y m theta memo'' P' P'' seen' v n new) where
      pub peeling_on : (seen'' : List ℕ) → seen'' ≡ seen' → length memo'' ≡ length memo' → length P'' ≡ length P' → Peeling I W old theta memo P seen w G Y memo'' P'' seen'' new n
      peeling_on seen'' s a b =
          let h = lighter.less in
          let g = l.enough in
          let c : l.steps ≡ suc (l.steps - 1) = omega arith in
          record {
            grown = grown_trans l.grown lighter.grown;
            peelable = subst (λ (z : List ℕ). Peelable G Y new theta memo'' P'' z n) (sym s) lighter.peelable;
            steps = l.steps - 1;
            enough = omega arith;
            left = l.left ∙ lighter.makes l.steps ∙ ap (λ (k : ℕ). peels k G Y new theta P'' n) c;
            long_memo = a ∙ l.long_memo;
            long_pairs = b ∙ l.long_pairs;
            same_seen = s ∙ l.same_seen;
          }
