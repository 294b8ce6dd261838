-- A fact's row compared with a judgment, premises and generalised variables by their numbers; and the facts that have them, as a set. Assumes nothing.
use Rattle.std.specs.Prelude.{◌≡◌, refl, Bool, ◌&&◌, ◌||◌, ℕ, ◌+◌, ◌<◌, ◌≤◌, length, get_or, drop}
use Rattle.std.proofs.Math.Path.{sym, ap}
use Rattle.std.proofs.Common.{◌∙◌, subst, true≢false, arith, add-one, drop_of_length-le, drop-cons, eq-eqb, ne_eqb, eqb-true}
use Rattle.std.proofs.Math.Bool.{true, false}
use Rattle.std.proofs.lemmas.Bool.{false≢true}
use mathlib.Core.List.{List, [], ◌∷◌}
use Rattle.std.proofs.Math.Dec.{eqb}
use lib.Pointwise.{pointwise}
use Rattle.rules.specs.Limits.{ENTRIES}
use Rattle.rules.specs.Text.{same}
use Rattle.rules.specs.Find.{Set, union, has}
use Rattle.rules.specs.Tree.{same_tree, same_trees}
use Rattle.rules.specs.Invert.{is_allowed}
use Rattle.rules.specs.Laws.Theory.{all_at}
use Rattle.rules.specs.Laws.Set.{union_empty}
use Rattle.terms.specs.declared.store.Mark.{Mark}
use Rattle.terms.specs.Node.{same_words}
use Rattle.terms.specs.Table.{made, tree, args_of}
use Rattle.terms.specs.Sets.{holds, plus}
use Rattle.terms.specs.Laws.Growth.{made_length}
use Rattle.terms.specs.Laws.Numbers.{same_number, same_numbers}
use Rattle.state.specs.declared.sizes.Sizes.{Sizes}
use Rattle.state.specs.Held.{records}
use Rattle.state.specs.Rows.{cell, premises_span, general_span}
use Rattle.state.specs.Entries.{part}
use Rattle.state.specs.FactLaws.{FactRow, fact_row_lem, lists_long}
use Rattle.referring.specs.Recall.{fact_of, Recalls, RecallsFact}
use Rattle.terms.specs.Table.{Below}
use Rattle.casework.specs.Context.{allowed_of, OneMarked}

-- Truth values -----------------------------------------------------------------------------------------------------------------------------

pub and_false : (b c : Bool) → b ≡ false → b && c ≡ false
and_false true c e = absurd (true≢false e)
and_false false c e = refl

pub and_true : (b c : Bool) → b ≡ true → b && c ≡ c
and_true true c e = refl
and_true false c e = absurd (false≢true e)

pub and_mid_false : (a b c : Bool) → b ≡ false → a && (b && c) ≡ false
and_mid_false true true c e = absurd (true≢false e)
and_mid_false true false c e = refl
and_mid_false false b c e = refl

pub and_both : (a b c r : Bool) → a ≡ true → b ≡ true → r ≡ c → a && (b && c) ≡ r
and_both true true c r e f g = sym g
and_both true false c r e f g = absurd (false≢true f)
and_both false b c r e f g = absurd (false≢true e)

words_same : (xs ys : List ℕ) → same_words xs ys ≡ same xs ys
unfolding same_words same
words_same [] [] = refl
words_same [] (y ∷ ys) = refl
words_same (x ∷ xs) [] = refl
words_same (x ∷ xs) (y ∷ ys) = ap (λ (b : Bool). elim (eqb x y) [ true ↦ b | false ↦ false ]) (words_same xs ys)

pub cells_same : (xs ys : List ℕ) → pointwise eqb xs ys ≡ same xs ys
unfolding same
cells_same [] [] = refl
cells_same [] (y ∷ ys) = refl
cells_same (x ∷ xs) [] = refl
cells_same (x ∷ xs) (y ∷ ys) = go (eqb x y) (cells_same xs ys)
  where
    go : (b : Bool) → pointwise eqb xs ys ≡ same xs ys → (b && pointwise eqb xs ys) ≡ elim b [ true ↦ same xs ys | false ↦ false ]
    go true e = e
    go false e = refl

-- What is asked of the tables ----------------------------------------------------------------------------------------------------------------

module _ {facts lists : List ℕ} {n : Sizes} {I W : List ℕ} {m : Mark} (g : Recalls facts lists n I W m) where
  pub lists_are : length lists ≡ ENTRIES
  lists_are = lists_long g.recorded

  module _ {h : ℕ} (l : h < n.facts) where
    abbrev pub row : FactRow (records facts g.footings lists) n (made I W m) g.S h (fact_of g.S h)
    row = fact_row_lem g.recorded h l

    -- its premises by their numbers
    pub premises_there : Below m.terms (part lists (premises_span facts h))
    premises_there i k =
        let r = row in
        let e = made_length I W m in
        let p : part lists (premises_span facts h) ≡ _ = r.premises in
        omega (
          arith,
          subst (λ (xs : List ℕ). get_or xs i 0 < length (made I W m)) (sym p)
              (all_at _ i 0 r.numbered.below (subst (λ (xs : List ℕ). i < length xs) p k)),
          e,
        )

    pub premises_are : args_of (made I W m) (part lists (premises_span facts h)) ≡ (fact_of g.S h).premises
    premises_are = ap (args_of (made I W m)) row.premises ∙ row.numbered.trees

    pub general_is : part lists (general_span facts h) ≡ (fact_of g.S h).general
    general_is = row.general

    pub judgment_there : cell 6 facts h 0 < m.terms
    judgment_there = let r = row in omega (arith, r.judgment.below, made_length I W m)

    pub judgment_is : tree I W m (cell 6 facts h 0) ≡ (fact_of g.S h).judgment
    judgment_is = row.judgment.tree

    -- what its premises and its generalised variables are read from
    pub recalled : (footings : List ℕ) × RecallsFact facts footings lists h
    recalled = (g.footings, record { S = g.S; n = n; trees = made I W m; recorded = g.recorded; there = l })

    -- the row says it
    module _ {j : ℕ} (ids gs : List ℕ) (k : j < m.terms) (t : Below m.terms ids) where
      pub row_is : is_allowed (fact_of g.S h) (allowed_of (made I W m) ids j gs)
          ≡ same ids (part lists (premises_span facts h)) && (eqb j (cell 6 facts h 0) && same gs (part lists (general_span facts h)))
      unfolding is_allowed
      row_is =
          let a : same_trees (args_of (made I W m) ids) (fact_of g.S h).premises ≡ same ids (part lists (premises_span facts h)) =
          ap (same_trees (args_of (made I W m) ids)) (sym premises_are) ∙ same_numbers g.good ids (part lists (premises_span facts h)) t premises_there
          ∙ words_same ids (part lists (premises_span facts h)) in
          let b : same_tree (tree I W m j) (fact_of g.S h).judgment ≡ eqb j (cell 6 facts h 0) =
          ap (same_tree (tree I W m j)) (sym judgment_is) ∙ same_number g.good j (cell 6 facts h 0) k judgment_there in
          let c : same gs (fact_of g.S h).general ≡ same gs (part lists (general_span facts h)) = ap (same gs) (sym general_is) in
          λ i. a i && (b i && c i)

      -- as it is asked: by the judgment first, then the premises, then the variables
      pub row_other : {r : ℕ} → r ≡ cell 6 facts h 0 → (r ≡ j → ⊥) → false ≡ is_allowed (fact_of g.S h) (allowed_of (made I W m) ids j gs)
      row_other e q =
          sym (row_is ∙ and_mid_false (same ids (part lists (premises_span facts h))) (eqb j (cell 6 facts h 0)) (same gs (part lists (general_span facts h)))
          (ne_eqb j (cell 6 facts h 0) (λ z. q (e ∙ sym z))))

      module _ {a : Bool} (d : a ≡ pointwise eqb ids (part lists (premises_span facts h))) where
        premises_same : same ids (part lists (premises_span facts h)) ≡ a
        premises_same = sym (d ∙ cells_same ids (part lists (premises_span facts h)))

        pub row_else : a ≡ false → a ≡ is_allowed (fact_of g.S h) (allowed_of (made I W m) ids j gs)
        row_else q = q ∙ sym (row_is ∙ and_false _ _ (premises_same ∙ q))

        pub row_so : {r : ℕ} → r ≡ cell 6 facts h 0 → r ≡ j → a ≡ true → {b : Bool} → b ≡ pointwise eqb gs (part lists (general_span facts h)) →
            b ≡ is_allowed (fact_of g.S h) (allowed_of (made I W m) ids j gs)
        row_so e f q {b} w =
            sym (row_is ∙ and_both _ _ _ b (premises_same ∙ q) (eq-eqb j (cell 6 facts h 0) (sym f ∙ e)) (w ∙ cells_same gs (part lists (general_span facts h))))

-- Those that pass a test, as a set -------------------------------------------------------------------------------------------------------------

-- what is left of the list decides
abbrev pub Marks : (ℕ → Bool) → List ℕ → Set → Set → ℕ → Type 0
Marks p own first now k = union now (λ h. has (drop k own) h && p h) ≡ union first (λ h. has own h && p h)

module _ (p : ℕ → Bool) (own : List ℕ) (first now : Set) (k : ℕ) (e : Marks p own first now k) where
  pub marks_over : length own ≤ k → now ≡ union first (λ h. has own h && p h)
  unfolding has
  marks_over l =
      sym (union_empty now) ∙ ap (λ (xs : List ℕ). union now (λ h. has xs h && p h)) (sym (drop_of_length-le own l)) ∙ e

  module _ (l : k < length own) (x : ℕ) (is : x ≡ get_or own k 0) where
    cons_here : drop k own ≡ x ∷ drop (k + 1) own
    cons_here = drop-cons own k 0 l ∙ (λ i. sym is i ∷ drop (sym (add-one k) i) own)

    first_has : (h : ℕ) (b : Bool) → eqb h x ≡ b → has (x ∷ drop (k + 1) own) h ≡ elim b [ true ↦ true | false ↦ has (drop (k + 1) own) h ]
    unfolding has
    first_has h b q = ap (λ (c : Bool). elim c [ true ↦ true | false ↦ has (drop (k + 1) own) h ]) q

    at_yes : p x ≡ true → (h : ℕ) → (b : Bool) → eqb h x ≡ b → (a c : Bool) → has (drop (k + 1) own) h ≡ c →
        (a || b) || (c && p h) ≡ a || (has (x ∷ drop (k + 1) own) h && p h)
    at_yes y h true q true c f = refl
    at_yes y h true q false c f =
        let z : p h ≡ true = ap p (eqb-true h x q) ∙ y in
        sym (λ i. first_has h true q i && z i)
    at_yes y h false q true c f = refl
    at_yes y h false q false c f = sym ((λ i. first_has h false q i && p h) ∙ (λ i. f i && p h))

    at_no : p x ≡ false → (h : ℕ) → (b : Bool) → eqb h x ≡ b → (a c : Bool) → has (drop (k + 1) own) h ≡ c →
        a || (c && p h) ≡ a || (has (x ∷ drop (k + 1) own) h && p h)
    at_no y h true q a c f =
        let z : p h ≡ false = ap p (eqb-true h x q) ∙ y in
        (λ i. a || (c && z i)) ∙ none c ∙ sym (λ i. a || (first_has h true q i && z i))
      where
        none : (c : Bool) → a || (c && false) ≡ a || false
        none true = refl
        none false = refl
    at_no y h false q a c f = sym ((λ i. a || (first_has h false q i && p h)) ∙ (λ i. a || (f i && p h)))

    whole : (s : Set) → union s (λ h. has (x ∷ drop (k + 1) own) h && p h) ≡ union s (λ h. has (drop k own) h && p h)
    whole s = ap (λ (xs : List ℕ). union s (λ h. has xs h && p h)) (sym cons_here)

    pub marks_yes : {new : Set} → p x ≡ true → new ≡ plus x now → Marks p own first new (k + 1)
    marks_yes {new} y n =
        (λ i h. n i h || (has (drop (k + 1) own) h && p h))
        ∙ (λ i h. at_yes y h (eqb h x) refl (now h) (has (drop (k + 1) own) h) refl i) ∙ whole now ∙ e

    pub marks_no : p x ≡ false → Marks p own first now (k + 1)
    marks_no y = (λ i h. at_no y h (eqb h x) refl (now h) (has (drop (k + 1) own) h) refl i) ∙ whole now ∙ e

    -- as `mark_one` says
    pub marks_one : (fine fine' : List ℕ) → now ≡ holds fine → OneMarked (p x) x fine fine' → Marks p own first (holds fine') (k + 1)
    marks_one fine fine' f o = go (p x) refl
      where
        go : (b : Bool) → p x ≡ b → Marks p own first (holds fine') (k + 1)
        go true y = marks_yes y (o.0 y ∙ ap (plus x) (sym f))
        go false y = subst (λ (s : Set). Marks p own first s (k + 1)) (f ∙ ap holds (sym (o.1 y))) (marks_no y)
