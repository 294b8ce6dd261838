-- What one fact of the context allows: by its judgment where it has neither premises nor generalised variables, else by comparison. Assumes nothing.
use mathlib.Core.Path.{◌≡◌, refl, sym, ap, ◌∙◌}
use mathlib.Core.Bool.{Bool, true, false, ◌&&◌, ◌||◌}
use mathlib.Core.List.{List, [], ◌∷◌}
use Prim.Native.Nat.{ℕ, suc, ◌<◌}
use native.Mathlib.Omega.{arith}
use lib.Dec.{eqb}
use lib.ListN.{length}
use borrow.Author.Tests.{ne_eqb}
use Rattle.rules.specs.Find.{union, has, any}
use Rattle.rules.specs.Store.{Made}
use Rattle.rules.specs.State.{State, is_empty}
use Rattle.rules.specs.Invert.{Allowed, is_allowed}
use Rattle.rules.specs.Laws.Theory.{empty, both}
use Rattle.rules.specs.Laws.Set.{union_empty}
use Rattle.rules.specs.Tree.{var}
use Rattle.terms.specs.Sets.{holds, plus}
use Rattle.terms.specs.Laws.Sets.{plus_has}
use Rattle.referring.specs.Recall.{fact_of}
use Rattle.casework.specs.Context.{allowed_of, plainly, plains_of, others_of, trees_of, Adds, one, MarkedAs}
use lib.ListN.{get_or}
use Rattle.terms.specs.Laws.Below.{none_args}

-- Whether it is bare ---------------------------------------------------------------------------------------------------------------------------

empty_list : (gs : List ℕ) → is_empty gs ≡ eqb (length gs) 0
unfolding is_empty
empty_list [] = refl
empty_list (g ∷ gs) = sym (ne_eqb (suc (length gs)) 0 (λ e. omega (arith, e)))

pub bare_is : (M : Made) (ids : List ℕ) (j : ℕ) (gs : List ℕ) → eqb (length ids) 0 && eqb (length gs) 0 ≡ plainly (allowed_of M ids j gs)
unfolding plainly
bare_is M ids j gs = λ i. sym (none_args M ids) i && sym (empty_list gs) i

-- The sets -------------------------------------------------------------------------------------------------------------------------------------

module _ (M : Made) (S : State) (ids : List ℕ) (j : ℕ) (gs : List ℕ) where
  abbrev given : Allowed
  given = allowed_of M ids j gs

  nothing_more : (own fine : List ℕ) → holds fine ≡ union (holds fine) (λ k. has own k && false)
  nothing_more own fine = λ i k. at (holds fine k) (has own k) i
    where
      at : (a b : Bool) → a ≡ a || (b && false)
      at true b = refl
      at false true = refl
      at false false = refl

  plains_yes : plainly given ≡ true → plains_of (one given) ≡ get_or M j (var 0) ∷ []
  unfolding plains_of
  plains_yes y = ap (λ (b : Bool). elim b [ true ↦ get_or M j (var 0) ∷ [] | false ↦ [] ]) y

  others_yes : plainly given ≡ true → others_of (one given) ≡ []
  unfolding others_of
  others_yes y = ap (λ (b : Bool). elim b [ true ↦ [] | false ↦ one given ]) y

  plains_no : plainly given ≡ false → plains_of (one given) ≡ []
  unfolding plains_of
  plains_no y = ap (λ (b : Bool). elim b [ true ↦ get_or M j (var 0) ∷ [] | false ↦ [] ]) y

  others_no : plainly given ≡ false → others_of (one given) ≡ one given
  unfolding others_of
  others_no y = ap (λ (b : Bool). elim b [ true ↦ [] | false ↦ one given ]) y

  module _ {b : Bool} (q : b ≡ plainly given) (own : List ℕ) where
    pub allow_plain : {plain plain' fine : List ℕ} → j < length M → b ≡ true → holds plain' ≡ plus j (holds plain) → Adds M S own plain plain' fine fine (one given)
    unfolding trees_of has any
    allow_plain {plain} {plain'} {fine} k t d =
        let y : plainly given ≡ true = sym q ∙ t in
        record {
          plains = record {
            ps = j ∷ [];
            there = both {x = j} k empty;
            trees = sym (plains_yes y);
            is = d ∙ (λ i v. holds plain v || sym (plus_has j []) i v);
          };
          fines = nothing_more own fine ∙ (λ i v. holds fine v || (has own v && any (is_allowed (fact_of S v)) (sym (others_yes y) i)));
        }

    pub allow_other : {plain fine fine' : List ℕ} → b ≡ false → MarkedAs S own given fine fine' → Adds M S own plain plain fine fine' (one given)
    unfolding trees_of has any
    allow_other {plain} {fine} {fine'} t d =
        let y : plainly given ≡ false = sym q ∙ t in
        let only : (v : ℕ) → is_allowed (fact_of S v) given ≡ any (is_allowed (fact_of S v)) (one given) = λ v. one_any (is_allowed (fact_of S v) given) in
        record {
          plains = record { ps = []; there = empty; trees = sym (plains_no y); is = sym (union_empty (holds plain)) };
          fines =
              d ∙ (λ i v. holds fine v || (has own v && only v i)) ∙ (λ i v. holds fine v || (has own v && any (is_allowed (fact_of S v)) (sym (others_no y) i)));
        }
      where
        one_any : (b : Bool) → b ≡ elim b [ true ↦ true | false ↦ false ]
        one_any true = refl
        one_any false = refl
