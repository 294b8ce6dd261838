-- Whether variables suit a rule: what a chain over them, each with its place, answers. Assumes nothing.
use mathlib.Core.Path.{◌≡◌, refl, sym, ap, ◌∙◌, subst}
use mathlib.Core.Bool.{Bool, true, false}
use mathlib.Core.List.{List, [], ◌∷◌}
use Prim.Native.Nat.{ℕ, zero, suc, ◌+◌, ◌<◌}
use native.Mathlib.Omega.{arith}
use lib.Dec.{eqb}
use lib.ListN.{length, get_or}
use Rattle.std.specs.Bool.{MatchBool}
use Rattle.std.specs.List.{AllWithin, HoldsAt, enumerate_from}
use Rattle.std.proofs.lemmas.List.FromFn.{length-enumerate_from, get_or-enumerate_from}
use Rattle.rules.specs.State.{Var, sort_of_var}
use Rattle.rules.specs.Theory.{RuleVar, rule}
use Rattle.rules.specs.Declare.{no_rule_var}
use Rattle.rules.specs.Invert.{suit}
use Rattle.kernel.specs.declared.rule_readers.Rules.{Rules}
use Rattle.kernel.specs.Lent.{OfRuleVars}
use Rattle.state.specs.Held.{VarCells}
use Rattle.state.specs.Rows.{cell}
use Rattle.state.specs.VarLaws.{var_sort_is}
use Rattle.inversion.specs.InvertRules.{RuleVarsGiven}

-- The definition, place by place ---------------------------------------------------------------------------------------------------------

suit_true : (vs : List Var) (xs : List ℕ) (rs : List RuleVar) → length xs ≡ length rs →
    ((k : ℕ) → k < length xs → eqb (sort_of_var vs (get_or xs k 0)) (get_or rs k no_rule_var).sort ≡ true) → suit vs xs rs ≡ true
unfolding suit
suit_true vs [] [] e h = refl
suit_true vs [] (r ∷ rs) e h = absurd (omega (arith, e))
suit_true vs (x ∷ xs) [] e h = absurd (omega (arith, e))
suit_true vs (x ∷ xs) (r ∷ rs) e h =
    ap (λ (b : Bool). elim b [ true ↦ suit vs xs rs | false ↦ false ]) (h 0 (omega arith))
    ∙ suit_true vs xs rs (omega (arith, e)) (λ k l. h (suc k) (omega (arith, l)))

suit_false : (vs : List Var) (xs : List ℕ) (rs : List RuleVar) (k : ℕ) → length xs ≡ length rs → k < length xs →
    eqb (sort_of_var vs (get_or xs k 0)) (get_or rs k no_rule_var).sort ≡ false → suit vs xs rs ≡ false
unfolding suit
suit_false vs [] rs k e l q = absurd (omega (arith, l))
suit_false vs (x ∷ xs) [] k e l q = absurd (omega (arith, e))
suit_false vs (x ∷ xs) (r ∷ rs) zero e l q = ap (λ (b : Bool). elim b [ true ↦ suit vs xs rs | false ↦ false ]) q
suit_false vs (x ∷ xs) (r ∷ rs) (suc k) e l q =
    go (eqb (sort_of_var vs x) r.sort) (suit_false vs xs rs k (omega (arith, e)) (omega (arith, l)) q)
  where
    go : (b : Bool) → suit vs xs rs ≡ false → elim b [ true ↦ suit vs xs rs | false ↦ false ] ≡ false
    go true h = h
    go false h = refl

-- A place and the number that stands there -------------------------------------------------------------------------------------------------

module _ (xs : List ℕ) where
  pair_at : (k : ℕ) → k < length xs → get_or (enumerate_from 0 xs) k (0, 0) ≡ (k, get_or xs k 0)
  pair_at k l = let z : 0 + k ≡ k = omega arith in get_or-enumerate_from 0 xs k (0, 0) l ∙ ap (λ (n : ℕ). (n, get_or xs k 0)) z

  -- of each pair that the chain comes to
  pub place_of : (x : ℕ × ℕ) (k : ℕ) → k < length (enumerate_from 0 xs) → x ≡ get_or (enumerate_from 0 xs) k x →
      (x.0 < length xs) × (x.1 ≡ get_or xs x.0 x.1)
  place_of x k l e =
      let m : k < length xs = omega (arith, l, length-enumerate_from 0 xs) in
      let z : 0 + k ≡ k = omega arith in
      let i = e ∙ get_or-enumerate_from 0 xs k x m in
      let j : x.0 ≡ k = ap (λ (p : ℕ × ℕ). p.0) i ∙ z in
      (omega (arith, j, m), ap (λ (p : ℕ × ℕ). p.1) i ∙ ap (λ (n : ℕ). get_or xs n x.1) (sym j))

-- What the chain answers ---------------------------------------------------------------------------------------------------------------------

-- what one call says, of the place and the number
abbrev pub Says : Rules → List ℕ → ℕ → Bool → ℕ × ℕ → Type 0
Says s vars r b p = (a : ℕ) × (e : ℕ) × (a ≡ cell 4 vars p.1 0) × OfRuleVars s r (λ T. p.0 < length (rule T r).vars → e ≡ (get_or (rule T r).vars p.0 no_rule_var).sort) × (eqb a e ≡ b)

module _ (own : Rules) {vars : List ℕ} {r need : ℕ} (g : RuleVarsGiven own.vars.now r need) {vs : List Var} {count : ℕ} (h : VarCells vars count vs)
    (xs : List ℕ) (long : length xs ≡ need) where
  here : (b : Bool) (k : ℕ) → k < length xs → Says own vars r b (k, get_or xs k 0) → eqb (sort_of_var vs (get_or xs k 0)) (get_or (rule g.T r).vars k no_rule_var).sort ≡ b
  here b k l (a, s, e, f, q) =
      let i : a ≡ sort_of_var vs (get_or xs k 0) = e ∙ var_sort_is h (get_or xs k 0) in
      let j = f g.T g.text g.rules g.patterns g.known g.words g.held g.there (omega (arith, long, g.many, l)) in
      (λ z. eqb (sym i z) (sym j z)) ∙ q

  pub suit_is : (b : Bool) → MatchBool b (AllWithin (Says own vars r true) (enumerate_from 0 xs) 0 (length (enumerate_from 0 xs)))
      ((k : ℕ) × (k < length (enumerate_from 0 xs)) × HoldsAt (Says own vars r false) (enumerate_from 0 xs) k) → b ≡ suit vs xs (rule g.T r).vars
  suit_is true f =
      sym (suit_true vs xs (rule g.T r).vars (long ∙ g.many)
      (λ k l. here true k l (subst (Says own vars r true) (pair_at xs k l) (f k (0, 0) (omega arith) (omega (arith, l, length-enumerate_from 0 xs))))))
  suit_is false (k, l, f) =
      let m : k < length xs = omega (arith, l, length-enumerate_from 0 xs) in
      sym (suit_false vs xs (rule g.T r).vars k (long ∙ g.many) m (here false k m (subst (Says own vars r false) (pair_at xs k m) (f (0, 0)))))
