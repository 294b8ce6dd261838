-- The variables of the terms in cells, cell by cell. Assumes nothing.
use mathlib.Core.Path.{◌≡◌, refl, sym, ap, ◌∙◌}
use mathlib.Core.Bool.{Bool, true, false, ◌||◌}
use mathlib.Core.List.{List, [], ◌∷◌}
use Rattle.std.specs.Prelude.{Option, Some as some, None as nothing}
use Rattle.std.specs.Option.{SomeIff}
use Prim.Native.Nat.{ℕ, zero, suc, ◌+◌, ◌-◌, ◌<◌, ◌≤◌}
use native.Mathlib.Omega.{arith}
use native.Mathlib.Numerals.{add-one}
use lib.Dec.{eqb}
use lib.ListN.{length, get_or, drop, drop_of_length-le}
use lib.Seq.{drop-cons}
use borrow.Author.Tests.{eq-eqb, ne_eqb}
use Rattle.rules.specs.Limits.{TERMWORDS, VARIABLEWORDS}
use Rattle.rules.specs.Find.{Set, empty, union}
use Rattle.rules.specs.Tree.{var, variables}
use Rattle.rules.specs.Store.{Made}
use Rattle.rules.specs.Laws.Set.{union_assoc, union_empty}
use Rattle.terms.specs.declared.store.Mark.{Mark}
use Rattle.terms.specs.Table.{made}
use Rattle.terms.specs.Collect.{Seen, Readable, Visited}
use Rattle.terms.specs.Sets.{holds, counted_from_1}
use Rattle.referring.specs.Referral.{Gathered}
use Rattle.referring.specs.Derived.{cell_vars}
use Rattle.referring.specs.Derived.{ReadableCells}

-- One cell -----------------------------------------------------------------------------------------------------------------------------

none_is : (M : Made) → cell_vars M [] ≡ empty
unfolding cell_vars
none_is M = refl

zero_is : (M : Made) (c : ℕ) → c ≡ 0 → cell_vars M (c ∷ []) ≡ empty
unfolding cell_vars
zero_is M c e = λ i v. ap (λ (b : Bool). elim b [ true ↦ false | false ↦ variables (get_or M (c - 1) (var 0)) v || false ]) (eq-eqb c 0 e) i

term_is : (M : Made) (c : ℕ) → (c ≡ 0 → ⊥) → cell_vars M (c ∷ []) ≡ variables (get_or M (c - 1) (var 0))
unfolding cell_vars
term_is M c q =
    (λ i v. ap (λ (b : Bool). elim b [ true ↦ false | false ↦ variables (get_or M (c - 1) (var 0)) v || false ]) (ne_eqb c 0 q) i)
    ∙ union_empty (variables (get_or M (c - 1) (var 0)))

more_is : (M : Made) (c : ℕ) (cs : List ℕ) → cell_vars M (c ∷ cs) ≡ union (cell_vars M (c ∷ [])) (cell_vars M cs)
unfolding cell_vars
more_is M c cs = λ i v. go v (eqb c 0) i
  where
    go : (v : ℕ) (b : Bool) → ◌≡◌ {A = Bool} (elim b [ true ↦ cell_vars M cs v | false ↦ variables (get_or M (c - 1) (var 0)) v || cell_vars M cs v ])
        (elim b [ true ↦ false | false ↦ variables (get_or M (c - 1) (var 0)) v || false ] || cell_vars M cs v)
    go v true = refl
    go v false = or_nothing (variables (get_or M (c - 1) (var 0)) v) (cell_vars M cs v)
      where
        or_nothing : (a b : Bool) → a || b ≡ (a || false) || b
        or_nothing true b = refl
        or_nothing false b = refl

module _ {I W : List ℕ} {m : Mark} {term : Option ℕ} (g : ReadableCells I W m (counted_from_1 term ∷ [])) (seen set : List ℕ) where
  pub no_term : term ≡ nothing → Seen I W m (holds seen) (holds set) → Gathered I W m (cell_vars (made I W m) (counted_from_1 term ∷ [])) (holds set) (holds seen) (holds set)
  no_term e s = record { set = sym (ap (union (holds set)) (zero_is (made I W m) (counted_from_1 term) (ap counted_from_1 e)) ∙ union_empty (holds set)); visits = s }

  module _ {id : ℕ} (q : term ≡ some id) where
    cell : counted_from_1 term ≡ suc id
    cell = ap counted_from_1 q

    pub term_readable : length seen ≡ TERMWORDS → length set ≡ VARIABLEWORDS → Readable I W m id seen set
    term_readable a b = record { good = g.good; there = omega (arith, cell, g.within 0); wide = omega (arith, a); broad = omega (arith, b) }

    pub term_visited : (seen' set' : List ℕ) → Visited I W m id (holds seen) (holds set) (holds seen') (holds set') →
        Gathered I W m (cell_vars (made I W m) (counted_from_1 term ∷ [])) (holds set) (holds seen') (holds set')
    term_visited seen' set' w =
        let z : suc id - 1 ≡ id = omega arith in
        let e : cell_vars (made I W m) (counted_from_1 term ∷ []) ≡ variables (get_or (made I W m) id (var 0)) =
        ap (λ (c : ℕ). cell_vars (made I W m) (c ∷ [])) cell ∙ term_is (made I W m) (suc id) (λ z. omega arith)
        ∙ ap (λ (k : ℕ). variables (get_or (made I W m) k (var 0))) z in
        record { set = w.set ∙ ap (union (holds set)) (sym e); visits = w.visits }

-- a cell as an option
pub cell_option : (c : ℕ) (o : Option ℕ) → SomeIff o (1 ≤ c) (c - 1) → counted_from_1 o ≡ c
cell_option c nothing e = let z : (1 ≤ c → ⊥) = e in omega arith
cell_option c (some x) e = let a = e.0 in let b = e.1 in omega arith

-- The loop -----------------------------------------------------------------------------------------------------------------------------

-- what is left joins to what all join to
pub record Visiting (I W : List ℕ) (m : Mark) (cells seen₀ set₀ seen set : List ℕ) (k : ℕ) : Type 0 where
  pub whole : union (holds set) (cell_vars (made I W m) (drop k cells)) ≡ union (holds set₀) (cell_vars (made I W m) cells)
  pub visits : Seen I W m (holds seen) (holds set)

module _ {I W : List ℕ} {m : Mark} {cells seen₀ set₀ seen set : List ℕ} {k : ℕ} (g : ReadableCells I W m cells)
    (h : Visiting I W m cells seen₀ set₀ seen set k) where
  -- x: the next cell
  module _ (l : k < length cells) {x : ℕ} (next : x ≡ get_or cells k 0) where
    pub visiting_readable : ReadableCells I W m (x ∷ [])
    visiting_readable = record { good = g.good; within = small }
      where
        small : (v : ℕ) → get_or (x ∷ []) v 0 ≤ m.terms
        small zero = omega (arith, next, g.within k)
        small (suc v) = omega arith

    pub visiting_more : (seen' set' : List ℕ) →
        Gathered I W m (cell_vars (made I W m) (x ∷ [])) (holds set) (holds seen') (holds set') → Visiting I W m cells seen₀ set₀ seen' set' (k + 1)
    visiting_more seen' set' w =
        record {
          whole = ap (λ (s : Set). union s (cell_vars (made I W m) (drop (k + 1) cells))) w.set
              ∙ union_assoc (holds set) (cell_vars (made I W m) (x ∷ [])) (cell_vars (made I W m) (drop (k + 1) cells))
              ∙ ap (union (holds set)) (sym (ap (cell_vars (made I W m)) (drop-cons cells k 0 l ∙ ap (λ (j : ℕ). get_or cells k 0 ∷ drop j cells) (sym (add-one k))
              ∙ ap (λ (c : ℕ). c ∷ drop (k + 1) cells) (sym next)) ∙ more_is (made I W m) x (drop (k + 1) cells))) ∙ h.whole;
          visits = w.visits;
        }

  pub visiting_done : length cells ≤ k → Gathered I W m (cell_vars (made I W m) cells) (holds set₀) (holds seen) (holds set)
  visiting_done l =
      record {
        set = sym (ap (λ (cs : List ℕ). union (holds set) (cell_vars (made I W m) cs)) (drop_of_length-le cells l) ∙ ap (union (holds set)) (none_is (made I W m)) ∙ union_empty (holds set)) ∙ h.whole;
        visits = h.visits;
      }
