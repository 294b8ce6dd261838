-- The first item of a list, as `head` looks at it. Assumes nothing.
use mathlib.Core.Path.{◌≡◌, sym, ap, ◌∙◌}
use Prim.Native.Nat.{ℕ, ◌≤◌}
use mathlib.Core.List.{List}
use native.Mathlib.Omega.{arith}
use lib.ListN.{length, drop}
use Rattle.rules.specs.Lex.{letters}
use Rattle.rules.specs.Sexp.{Sexps, atom, list, nil, cons, item}
use Rattle.sexp.specs.Items.{Holds, item_at}
use Rattle.sexp.specs.ItemLaws.{More}
use Rattle.sexp.specs.WalkLaws.{Walk, walk_start, walk_more, walk_over, walk_atom, walk_list}
use Rattle.sexp.specs.declared.items.Item.{Item}
use Rattle.sexp.specs.declared.items.Item.TheVariants.{Atom, List as Part}

pub head_none : {text words : List ℕ} (xs : Sexps) → Holds text words xs → length words ≡ 0 → (ys : Sexps) × (item xs 0 ≡ list ys)
unfolding item
head_none xs h e = (nil, ap (λ ys. item ys 0) (walk_over (walk_start h) (omega (arith, e))))

module _ {text words : List ℕ} (xs : Sexps) (h : Holds text words xs) (n : length words ≡ 0 → ⊥) {r : Item} (e : r ≡ item_at words 0) where
  some_item : More xs
  some_item = walk_more (walk_start h) (omega (arith, n))

  first_here : Walk text words 0 (cons some_item.first some_item.others)
  first_here = rw some_item.is at (walk_start h)

  first_is : item xs 0 ≡ some_item.first
  unfolding item
  first_is = ap (λ ys. item ys 0) some_item.is

  pub head_list : {a b : ℕ} → r ≡ Part a b → (ys : Sexps) × (item xs 0 ≡ list ys)
  head_list w = let l = walk_list first_here e w in (l.items, first_is ∙ l.is)

  module _ {p : ℕ} (w : r ≡ Atom p) where
    pub head_start : p ≤ length text
    head_start = omega (arith, (walk_atom first_here e w).stands.inside)

    pub head_atom : (k : ℕ) × (item xs 0 ≡ atom k (letters (drop p text)))
    head_atom = let a = walk_atom first_here e w in (p, first_is ∙ a.is ∙ ap (atom p) (sym a.stands.bytes))
