-- The heads of the rules' conclusions, and the rules of a predicate one after the other. Assumes nothing.
use mathlib.Core.Path.{◌≡◌, refl, sym, ap, ◌∙◌}
use Prim.Native.Nat.{ℕ, ◌<◌}
use mathlib.Core.List.{List}
use native.Mathlib.Omega.{arith}
use lib.Dec.{eqb}
use lib.ListN.{length, get_or}
use Rattle.rules.specs.Tree.{Tree, var, app}
use Rattle.rules.specs.Theory.{Theory, rule, head_is}
use Rattle.rules.specs.Laws.Theory.{Judgment}
use Rattle.kernel.specs.Readers.{conclusion_at, FormedRules, KnownFormedRule}
use Rattle.kernel.specs.Entries.{rule_formed}
use Rattle.kernel.specs.RuleWords.{conclusion_stands}
use Rattle.terms.specs.Patterns.{Stands}

-- One rule -----------------------------------------------------------------------------------------------------------------------

-- the first word of the conclusion, and whether its predicate is that one
pub record Head (P : List ℕ) (T : Theory) (r : ℕ) : Type 0 where
  pub inside : conclusion_at T r < length P
  pub is : (p : ℕ) → eqb p (get_or P (conclusion_at T r) 0) ≡ head_is p (rule T r).conclusion

module _ {symbols rules patterns : List ℕ} {r : ℕ} (T : Theory) (count : ℕ) (f : FormedRules symbols rules patterns count T) (l : r < count) where
  judged : Judgment T (rule T r).vars (rule T r).conclusion
  judged = (rule_formed f l).conclusion

  pub head_here : Head patterns T r
  unfolding Judgment Stands head_is
  head_here = go (rule T r).conclusion refl judged (conclusion_stands f l refl)
    where
      go : (t : Tree) → (rule T r).conclusion ≡ t → Judgment T (rule T r).vars (rule T r).conclusion → Stands symbols patterns (conclusion_at T r) (rule T r).conclusion →
          Head patterns T r
      go (var i) e j w = absurd (rw e at j)
      go (app d ts) e j w =
          let s : Stands symbols patterns (conclusion_at T r) (app d ts) = rw e at w in
          record { inside = s.0; is = λ p. ap (λ (k : ℕ). eqb p k) s.1 ∙ sym (ap (head_is p) e) }

-- what the reader of the place says
module _ {symbols rules patterns : List ℕ} {r : ℕ} (k : KnownFormedRule symbols rules patterns r) (place : ℕ)
    (a : (T : Theory) (count : ℕ) → FormedRules symbols rules patterns count T → r < count → place ≡ conclusion_at T r) where
  pub place_inside : place < length patterns
  place_inside = omega (arith, a k.T k.count k.formed k.known, (head_here k.T k.count k.formed k.known).inside)

  pub head_is_lem : (p : ℕ) (T : Theory) (count : ℕ) → FormedRules symbols rules patterns count T → r < count →
      eqb p (get_or patterns place 0) ≡ head_is p (rule T r).conclusion
  head_is_lem p T count f l = ap (λ (n : ℕ). eqb p (get_or patterns n 0)) (a T count f l) ∙ (head_here T count f l).is p
