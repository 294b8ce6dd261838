-- Small loops of `invert`: lists of variables tested one by one, cells set to zero, what a case rests on. Assumes nothing.
use Rattle.std.proofs.Math.Path.{◌≡◌, refl, ap}
use Rattle.std.proofs.Common.{sym, ◌∙◌, true≢false, arith, add-one, drop_of_length-le, length-set, drop-cons, get_or-set_same, get_or-set_other, eq-eqb, eqb-true, ltb-true}
use Rattle.std.specs.Prelude.{Bool, ◌&&◌, not, eqb, ltb, length, set}
use Rattle.std.proofs.Math.Bool.{true, false}
use Rattle.std.proofs.lemmas.Bool.{not-true, not-false}
use mathlib.Core.List.{List, [], ◌∷◌}
use Prim.Native.Nat.{ℕ, suc, ◌+◌, ◌*◌, ◌<◌, ◌≤◌}
use Rattle.std.proofs.Math.ListN.{get_or, drop}
use Rattle.rules.specs.Limits.{FACTS, TERMS}
use Rattle.rules.specs.Find.{Set, has, all}
use Rattle.rules.specs.Store.{number}
use Rattle.rules.specs.Theory.{RuleVar}
use Rattle.rules.specs.Declare.{no_rule_var}
use Rattle.rules.specs.State.{Var, sort_of_var}
use Rattle.rules.specs.Invert.{suit}
use Rattle.state.specs.declared.sizes.Sizes.{Sizes}
use Rattle.cells.specs.declared.Span.{Span}
use Rattle.state.specs.Rows.{cell, plain_row}
use Rattle.state.specs.RowTables.{tabled_long}
use Rattle.state.specs.FactLaws.{fact_row_lem, facts_tabled}
use Rattle.referring.specs.Recall.{fact_of}
use Rattle.casework.specs.Context.{UnboundAs, RestsGiven, rests_by}

-- A test of all ------------------------------------------------------------------------------------------------------------------------------

module _ (p : ℕ → Bool) (xs : List ℕ) (k : ℕ) where
  here : k < length xs → drop k xs ≡ get_or xs k 0 ∷ drop (k + 1) xs
  here l = drop-cons xs k 0 l ∙ ap (λ (j : ℕ). get_or xs k 0 ∷ drop j xs) (sym (add-one k))

  pub all_yes : k < length xs → p (get_or xs k 0) ≡ true → all p (drop k xs) ≡ all p (drop (k + 1) xs)
  unfolding all
  all_yes l e = ap (all p) (here l) ∙ ap (λ (b : Bool). elim b [ true ↦ all p (drop (k + 1) xs) | false ↦ false ]) e

  pub all_no : k < length xs → p (get_or xs k 0) ≡ false → all p (drop k xs) ≡ false
  unfolding all
  all_no l e = ap (all p) (here l) ∙ ap (λ (b : Bool). elim b [ true ↦ all p (drop (k + 1) xs) | false ↦ false ]) e

  pub all_over : length xs ≤ k → all p (drop k xs) ≡ true
  unfolding all
  all_over l = ap (all p) (drop_of_length-le xs l)

pub not_so : {a b : Bool} → a ≡ b → a ≡ true → not b ≡ false
not_so {a} {b} e f = ap not (sym e ∙ f)

pub not_not : {a b : Bool} → a ≡ b → a ≡ false → not b ≡ true
not_not {a} {b} e f = ap not (sym e ∙ f)

-- As many variables, each of its sort -------------------------------------------------------------------------------------------------------------

suit_lengths : (vs : List Var) (xs : List ℕ) (rs : List RuleVar) → (length xs ≡ length rs → ⊥) → suit vs xs rs ≡ false
unfolding suit
suit_lengths vs [] [] q = absurd (q refl)
suit_lengths vs [] (r ∷ rs) q = refl
suit_lengths vs (x ∷ xs) [] q = refl
suit_lengths vs (x ∷ xs) (r ∷ rs) q = go (eqb (sort_of_var vs x) r.sort) (suit_lengths vs xs rs (λ e. q (ap suc e)))
  where
    go : (b : Bool) → suit vs xs rs ≡ false → elim b [ true ↦ suit vs xs rs | false ↦ false ] ≡ false
    go true h = h
    go false h = refl

pub suit_none : (vs : List Var) (xs : List ℕ) (rs : List RuleVar) {need : ℕ} → need ≡ length rs → (length xs ≡ need → ⊥) → false ≡ suit vs xs rs
suit_none vs xs rs n q = sym (suit_lengths vs xs rs (λ e. q (e ∙ sym n)))

module _ (vs : List Var) (xs : List ℕ) (rs : List RuleVar) (k : ℕ) (l : k < length xs) (m : k < length rs) where
  suit_here : suit vs (drop k xs) (drop k rs) ≡ elim (eqb (sort_of_var vs (get_or xs k 0)) (get_or rs k no_rule_var).sort) [ true ↦ suit vs (drop (k + 1) xs) (drop (k + 1) rs) | false ↦ false ]
  unfolding suit
  suit_here =
      ap (λ (ys : List ℕ). suit vs ys (drop k rs)) (drop-cons xs k 0 l ∙ ap (λ (j : ℕ). get_or xs k 0 ∷ drop j xs) (sym (add-one k)))
      ∙ ap (λ (ss : List RuleVar). suit vs (get_or xs k 0 ∷ drop (k + 1) xs) ss) (drop-cons rs k no_rule_var m ∙ ap (λ (j : ℕ). get_or rs k no_rule_var ∷ drop j rs) (sym (add-one k)))

  module _ {a b : ℕ} {r : Bool} (s : a ≡ sort_of_var vs (get_or xs k 0)) (t : b ≡ (get_or rs k no_rule_var).sort) (e : r ≡ eqb a b) where
    is : r ≡ eqb (sort_of_var vs (get_or xs k 0)) (get_or rs k no_rule_var).sort
    is = e ∙ (λ i. eqb (s i) (t i))

    pub suit_on : not r ≡ false → suit vs (drop k xs) (drop k rs) ≡ suit vs (drop (k + 1) xs) (drop (k + 1) rs)
    suit_on q =
        suit_here ∙ ap (λ (c : Bool). elim c [ true ↦ suit vs (drop (k + 1) xs) (drop (k + 1) rs) | false ↦ false ]) (sym is ∙ not-false r q)

    pub suit_off : not r ≡ true → suit vs (drop k xs) (drop k rs) ≡ false
    suit_off q =
        suit_here ∙ ap (λ (c : Bool). elim c [ true ↦ suit vs (drop (k + 1) xs) (drop (k + 1) rs) | false ↦ false ]) (sym is ∙ not-true r q)

pub suit_over : (vs : List Var) (xs : List ℕ) (rs : List RuleVar) (k : ℕ) → length xs ≤ k → length rs ≤ k → suit vs (drop k xs) (drop k rs) ≡ true
unfolding suit
suit_over vs xs rs k l m =
    ap (λ (ys : List ℕ). suit vs ys (drop k rs)) (drop_of_length-le xs l) ∙ ap (λ (ss : List RuleVar). suit vs [] ss) (drop_of_length-le rs m)

-- Cells set to zero --------------------------------------------------------------------------------------------------------------------------

-- what is left of the variables will be set
abbrev pub Unbinding : List ℕ → List ℕ → List ℕ → ℕ → Type 0
Unbinding vs first now k =
    (length now ≡ length first) × ((v : ℕ) → ◌≡◌ {A = ℕ} (elim (has (drop k vs) v) [ true ↦ 0 | false ↦ get_or now v 0 ]) (elim (has vs v) [ true ↦ 0 | false ↦ get_or first v 0 ]))

module _ (vs first now : List ℕ) (k : ℕ) (u : Unbinding vs first now k) where
  pub unbinding_over : length vs ≤ k → UnboundAs vs first now
  unfolding has
  unbinding_over l =
      record { long = u.0; cells = λ v. ap (λ (ws : List ℕ). elim (has ws v) [ true ↦ 0 | false ↦ get_or now v 0 ]) (sym (drop_of_length-le vs l)) ∙ u.1 v }

  module _ (l : k < length vs) (x : ℕ) (e : x ≡ get_or vs k 0) (b : x < length now) where
    split : (v : ℕ) (d : ℕ) → ◌≡◌ {A = ℕ} (elim (has (drop k vs) v) [ true ↦ 0 | false ↦ d ]) (elim (eqb v x) [ true ↦ 0 | false ↦ elim (has (drop (k + 1) vs) v) [ true ↦ 0 | false ↦ d ] ])
    unfolding has
    split v d =
        let f : List ℕ → ℕ = λ ws. elim (has ws v) as (λ (b : Bool). ℕ) [ true ↦ 0 | false ↦ d ] in
        ap f (drop-cons vs k 0 l ∙ ap (λ (w : ℕ). w ∷ drop (suc k) vs) (sym e) ∙ ap (λ (j : ℕ). x ∷ drop j vs) (sym (add-one k))) ∙ go (eqb v x)
      where
        go : (c : Bool) → ◌≡◌ {A = ℕ} (elim (elim c as (λ (b : Bool). Bool) [ true ↦ true | false ↦ has (drop (k + 1) vs) v ]) [ true ↦ 0 | false ↦ d ])
            (elim c [ true ↦ 0 | false ↦ elim (has (drop (k + 1) vs) v) [ true ↦ 0 | false ↦ d ] ])
        go true = refl
        go false = refl

    zeroed : (v : ℕ) (c : Bool) → eqb v x ≡ c → (h : Bool) →
        ◌≡◌ {A = ℕ} (elim h [ true ↦ 0 | false ↦ get_or (set now x 0) v 0 ]) (elim c [ true ↦ 0 | false ↦ elim h [ true ↦ 0 | false ↦ get_or now v 0 ] ])
    zeroed v true q true = refl
    zeroed v true q false = ap (λ (w : ℕ). get_or (set now x 0) w 0) (eqb-true v x q) ∙ get_or-set_same now x 0 0 b
    zeroed v false q true = refl
    zeroed v false q false = get_or-set_other now x v 0 0 (λ z. true≢false (sym (eq-eqb v x z) ∙ q))

    pub unbinding_on : Unbinding vs first (set now x 0) (k + 1)
    unbinding_on =
        (length-set now x 0 ∙ u.0, λ v. zeroed v (eqb v x) refl (has (drop (k + 1) vs) v) ∙ sym (split v (get_or now v 0)) ∙ u.1 v)

-- What a case rests on -------------------------------------------------------------------------------------------------------------------------

module _ {facts : List ℕ} {n : Sizes} (g : RestsGiven facts n) where
  pub rests_few : n.facts ≤ FACTS
  rests_few = (facts_tabled g.recorded).few

  pub rests_asked : {h : ℕ} → h < n.facts → (length facts ≡ 6 * FACTS) × (h < FACTS)
  rests_asked l = (tabled_long (facts_tabled g.recorded), omega (arith, l, rests_few))

  module _ {h : ℕ} (l : h < n.facts) where
    pub rests_small : cell 6 facts h 0 < TERMS
    rests_small = let r = fact_row_lem g.recorded h l in omega (arith, r.judgment.below, g.few)

    module _ (plain fine : Set) where
      open_plain : (b : Bool) → plain_row facts h ≡ b → rests_by g.trees (fact_of g.S h) h plain fine
          ≡ elim b [ true ↦ plain (number g.trees (fact_of g.S h).judgment) | false ↦ (fact_of g.S h).assumed && fine h ]
      unfolding rests_by
      open_plain b e =
          let r = fact_row_lem g.recorded h l in
          ap (λ (c : Bool). elim c [ true ↦ plain (number g.trees (fact_of g.S h).judgment) | false ↦ (fact_of g.S h).assumed && fine h ]) (sym r.plain ∙ e)

      pub rests_plain : (b c : Bool) (t : ℕ) → b ≡ plain_row facts h → b ≡ true → t ≡ cell 6 facts h 0 → c ≡ plain t →
          c ≡ rests_by g.trees (fact_of g.S h) h plain fine
      rests_plain b c t e q k s =
          let r = fact_row_lem g.recorded h l in
          s ∙ ap plain (k ∙ r.judgment.is) ∙ sym (open_plain true (sym e ∙ q))

      module _ (b : Bool) (e : b ≡ plain_row facts h) (q : b ≡ false) (a : Bool) (k : a ≡ not (eqb (cell 6 facts h 1) 0)) where
        assumed : a ≡ (fact_of g.S h).assumed
        assumed = let r = fact_row_lem g.recorded h l in k ∙ r.assumed

        pub rests_none : not a ≡ true → false ≡ rests_by g.trees (fact_of g.S h) h plain fine
        rests_none z = sym (open_plain false (sym e ∙ q) ∙ ap (λ (c : Bool). c && fine h) (sym assumed ∙ not-true a z))

        pub rests_fine : (c : Bool) → not a ≡ false → c ≡ fine h → c ≡ rests_by g.trees (fact_of g.S h) h plain fine
        rests_fine c z s = s ∙ sym (open_plain false (sym e ∙ q) ∙ ap (λ (d : Bool). d && fine h) (sym assumed ∙ not-false a z))

-- The hypotheses of a fact that may not be there -------------------------------------------------------------------------------------------------

module _ (n i : ℕ) (b : Bool) (e : b ≡ ltb i n) where
  pub own_early : {most : ℕ} → b ≡ true → n ≤ most → i < most
  own_early t l = let z = ltb-true i n (sym e ∙ t) in omega arith

  pub own_yes : {a : Span} → b ≡ true → (d : Span) → a ≡ elim (ltb i n) [ true ↦ a | false ↦ d ]
  own_yes {a} t d = ap (λ (c : Bool). elim c [ true ↦ a | false ↦ d ]) (sym t ∙ e)

  pub own_no : {d : Span} → b ≡ false → (a : Span) → d ≡ elim (ltb i n) [ true ↦ a | false ↦ d ]
  own_no {d} t a = ap (λ (c : Bool). elim c [ true ↦ a | false ↦ d ]) (sym t ∙ e)
