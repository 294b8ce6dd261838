-- Terms that are put under one substitution, each in turn: what of it a caller needs for one that it puts there itself, and trees by their numbers, one more
-- at each turn. Assumes nothing.
use Rattle.std.specs.Prelude.{◌≡◌, replicate, Result, Ok, Err}
use Rattle.std.proofs.Math.Path.{refl, sym, ap}
use Rattle.std.proofs.Common.{◌∙◌}
use mathlib.Core.List.{List, [], ◌∷◌}
use Prim.Native.Nat.{ℕ, suc, ◌<◌, ◌≤◌}
use native.Mathlib.Omega.{arith}
use Rattle.std.proofs.Math.ListN.{length, get_or}
use Rattle.std.proofs.lemmas.List.{length-replicate}
use Rattle.rules.specs.Limits.{TERMS}
use Rattle.rules.specs.Out.{ok}
use Rattle.rules.specs.Tree.{Tree, Trees, more}
use Rattle.rules.specs.Store.{substitute}
use Rattle.questions.specs.Numbers.{row_number}
use Rattle.questions.specs.declared.Row.{Row}
use Rattle.terms.specs.declared.store.Mark.{Mark}
use Rattle.terms.specs.Table.{Below, made, tree, Good, Grown, After}
use Rattle.terms.specs.Subst.{replacement, substituted, Replaceable}
use Rattle.terms.specs.On.{Went, Stopped}
use Rattle.terms.specs.Laws.Below.{ahead}
use Rattle.terms.specs.Laws.Answers.{after_term, after_full}
use Rattle.terms.specs.Laws.Growth.{grown_tree, grown_there}
use Rattle.terms.specs.Laws.Numbers.{stored_is}
use Rattle.terms.specs.Laws.Theta.{replacement_grown}

-- Trees by their numbers, ahead of others --------------------------------------------------------------------------------------------------

pub ahead_grown : {I W J X : List ℕ} {old new : Mark} → Grown I W J X old new → (ns : List ℕ) → Below old.terms ns → (ts : Trees) →
    ahead (made J X new) ns ts ≡ ahead (made I W old) ns ts
unfolding ahead
ahead_grown w [] b ts = refl
ahead_grown w (n ∷ ns) b ts = λ i. more (grown_tree w n (b 0 (omega arith)) i) (ahead_grown w ns (λ k l. b (suc k) (omega arith)) ts i)

-- One term under a substitution that was there before ----------------------------------------------------------------------------------------

module _ {I W J X : List ℕ} {old now : Mark} (g : Grown I W J X old now) (map : List ℕ) (b : (v : ℕ) → get_or map v 0 ≤ old.terms) {id : ℕ} (l : id < old.terms) where
  -- what `substitute` asks
  pub replaceable_now : Replaceable J X now map id
  replaceable_now = record { good = g.good; bound = λ v. (let z = b v in let m = g.more in omega arith); there = grown_there g id l }

  same_action : substitute (replacement (made J X now) map) (tree J X now id) (made J X now) ≡ substitute (replacement (made I W old) map) (tree I W old id) (made J X now)
  same_action = λ i. substitute (replacement_grown g map b i) (grown_tree g id l i) (made J X now)

  module _ {Y Z : List ℕ} {new : Mark} {r : Result ℕ Row}
      (a : After J X Y Z now new (substituted J X now map id) (substitute (replacement (made J X now) map) (tree J X now id) (made J X now)) r) where
    pub under_went : {t : ℕ} → r ≡ Ok t → Went J X Y Z now (substitute (replacement (made I W old) map) (tree I W old id) (made J X now)) (tree Y Z new t) new
    under_went {t} e =
        let s = after_term a e in
        record { grown = s.grown; makes = sym same_action ∙ s.makes ∙ ap (λ (u : Tree). ok u (made Y Z new)) (sym (stored_is s)) }

    pub under_there : {t : ℕ} → r ≡ Ok t → t < new.terms
    under_there e = (after_term a e).there

    pub under_stopped : {row : Row} → r ≡ Err row → Stopped J X Y Z now (substitute (replacement (made I W old) map) (tree I W old id) (made J X now)) 60 (row_number row) new
    under_stopped e = let s = after_full a e in record { grown = s.grown; makes = sym same_action ∙ s.makes }

-- a memo without results, as `substitute` asks for it
pub memo_asked : {I W : List ℕ} {m : Mark} {memo first : List ℕ} {id : ℕ} → Good I W m → first ≡ replicate TERMS 0 → memo ≡ first → id < m.terms →
    (id < length memo) × (memo ≡ replicate (length memo) 0)
memo_asked {memo = memo} g e f l =
    let n : length memo ≡ TERMS = ap length (f ∙ e) ∙ length-replicate {A = ℕ} TERMS 0 in
    (omega (arith, n, l, g.room), f ∙ e ∙ ap (λ (k : ℕ). replicate k 0) (sym n))
