-- What the next item is to a list and the place that was come to. Assumes nothing.
use Rattle.std.specs.Prelude.{◌≡◌, refl, List, ℕ, ◌+◌, ◌-◌, ◌%◌, ◌≤◌, ◌<◌, Bool, true, false, eqb, length, get_or, take, drop, Option, Some, None}
use Rattle.std.proofs.Common.{arith, ap, ◌∙◌, length-drop, drop-drop, get_or-drop, take_all}
use denote.Ref.{Bor}
use Rattle.rules.specs.Sexp.{Sexp, Sexps, atom, list, nil, cons, count, item}
use Rattle.sexp.specs.Never.{never}
use Rattle.sexp.specs.ItemLaws.{at_room, item_here, some_cells}
use Rattle.sexp.specs.WalkLaws.{AtomIs, walk_start, walk_rest, past_atom}
use Rattle.sexp.specs.declared.items.Each.{Each}
use Rattle.sexp.specs.Items.{Holds, item_at, item_of, behind, by_parity}
use Rattle.sexp.specs.declared.items.Item.{Item}
use Rattle.sexp.specs.declared.items.Item.TheVariants.{Atom, List as Part}

-- the cells from the item on; then the place behind it
pub record Step (s : Each) (item : Bor (List ℕ)) (t : Each) : Type 0 where
  pub inside : s.at < length s.cells.now
  pub is : item.now ≡ take (length s.cells.now - s.at) (drop s.at s.cells.now)
  pub same : t.cells.now ≡ s.cells.now
  pub behind : t.at ≡ behind s.at (item_at s.cells.now s.at)

-- there is none
pub record Over (s t : Each) : Type 0 where
  pub over : length s.cells.now ≤ s.at
  pub same : t ≡ s

abbrev pub Walks : Each → Option (Bor (List ℕ)) → Each → Type 0
Walks s (Some item) t = Step s item t
Walks s None t = Over s t

-- each item has cells
pub behind_on : (words : List ℕ) (at : ℕ) → at < behind at (item_at words at)
unfolding item_at
behind_on words at = on (eqb (get_or words at 0 % 2) 1) (get_or words at 0)
  where
    on : (b : Bool) (cell : ℕ) → at < behind at (by_parity b at cell)
    on true cell = omega arith
    on false cell = omega arith

-- What a loop over the items of a list knows ---------------------------------------------------------------------------------------------

-- at an item: its place, its cells, and the place behind it
pub record Here (cells item : List ℕ) (at : ℕ) (next : Each) : Type 0 where
  pub inside : at < length cells
  pub is : item ≡ take (length cells - at) (drop at cells)
  pub same : next.cells.now ≡ cells
  pub behind : next.at ≡ behind at (item_at cells at)

pub here : {cells : List ℕ} {s t : Each} {item : Bor (List ℕ)} → s.cells.now ≡ cells → Step s item t → Here cells item.now s.at t
here e w = record { inside = rw e at w.inside; is = rw e at w.is; same = w.same ∙ e; behind = rw e at w.behind }

-- behind the last one
pub over : {cells : List ℕ} {s t : Each} → s.cells.now ≡ cells → Over s t → length cells ≤ s.at
over e w = rw e at w.over

-- An item by its own cells ---------------------------------------------------------------------------------------------------------------

-- the item at the front of cells that begin at a place of a list, as an item of the list
abbrev pub moved : ℕ → Item → Item
moved at (Atom p) = Atom p
moved at (Part a b) = Part (at + a) (at + b)

module _ (words item : List ℕ) (at : ℕ) (e : item ≡ take (length words - at) (drop at words)) where
  rest_is : item ≡ drop at words
  rest_is = e ∙ take_all (length words - at) (drop at words) (omega (arith, length-drop at words))

  pub item_long : length item ≡ length words - at
  item_long = ap length rest_is ∙ length-drop at words

  -- what `item_at` answers of its cells, said of the list
  pub item_moved : item_at words at ≡ moved at (item_at item 0)
  unfolding item_at
  item_moved =
      let first : get_or item 0 0 ≡ get_or words at 0 = ap (λ (xs : List ℕ). get_or xs 0 0) rest_is ∙ get_or-drop at words 0 0 ∙ ap (λ k. get_or words k 0) (omega arith) in
      rw first (same (eqb (get_or words at 0 % 2) 1) (get_or words at 0))
    where
      same : (b : Bool) (cell : ℕ) → by_parity b at cell ≡ moved at (by_parity b 0 cell)
      same true cell = refl
      same false cell = ap (λ n. Part (at + 1) n) (omega arith)

  pub part_moved : (a b : ℕ) → take (b - a) (drop a item) ≡ take (at + b - (at + a)) (drop (at + a) words)
  part_moved a b =
      let n : at + b - (at + a) ≡ b - a = omega arith in
      rw (rest_is, n) (ap (take (b - a)) (drop-drop a at words))

-- The first item -------------------------------------------------------------------------------------------------------------------------

-- the bytes of an atom; none where it is a list
abbrev pub HeadIs : Sexp → Option (Bor (List ℕ)) → Type 0
HeadIs x (Some name) = (p : ℕ) × (x ≡ atom p name.now)
HeadIs x None = (xs : Sexps) × (x ≡ list xs)

-- an atom in front, and the items behind it in the cells behind the first
pub record NameFirst (text cells : List ℕ) (xs : Sexps) (p : ℕ) (name : List ℕ) : Type 0 where
  pub others : Sexps
  pub is : xs ≡ cons (atom p name) others
  pub some : 0 < length cells
  pub rest : Holds text (take (length cells - 1) (drop 1 cells)) others

pub name_first : {text cells : List ℕ} (xs : Sexps) {p : ℕ} {name : List ℕ} → Holds text cells xs → item xs 0 ≡ atom p name → NameFirst text cells xs p name
unfolding item
name_first nil h e = never cc
name_first (cons x xs) h e =
    let w = walk_start h in
    let i = item_here x w.here ∙ ap (item_of 0) e in
    record { others = xs; is = ap (λ z. cons z xs) e; some = omega (arith, at_room w.here, some_cells x); rest = walk_rest (past_atom w refl i) }

-- A list by its number -------------------------------------------------------------------------------------------------------------------

-- the item is a list, and these are the cells of its items, fewer than those around them
pub record ListOf (text words : List ℕ) (x : Sexp) (part : List ℕ) : Type 0 where
  pub items : Sexps
  pub is : x ≡ list items
  pub holds : Holds text part items
  pub shorter : length part < length words

-- the cells of the list; none where it is an atom
abbrev pub ListIn : List ℕ → List ℕ → Sexp → Option (Bor (List ℕ)) → Type 0
ListIn text words x (Some part) = ListOf text words x part.now
ListIn text words x None = (p : ℕ) × AtomIs text x p

-- what `list` answers by the number 0, said of the first of some items
module _ {text words : List ℕ} {x : Sexp} {ys : Sexps} (h : Holds text words (cons x ys)) where
  first_of : (A : Sexp → Type 0) → ((xs : Sexps) → Holds text words xs → 0 < count xs → A (item xs 0)) → A x
  unfolding item count
  first_of A f = f (cons x ys) h (omega arith)

  pub first_list : {part : List ℕ} → ((t : List ℕ) (xs : Sexps) → Holds t words xs → 0 < count xs → ListOf t words (item xs 0) part) → ListOf text words x part
  first_list {part} l = first_of (λ y. ListOf text words y part) (l text)

  pub first_atom : ((t : List ℕ) (xs : Sexps) → Holds t words xs → 0 < count xs → (p : ℕ) × AtomIs t (item xs 0) p) → (p : ℕ) × AtomIs text x p
  first_atom l = first_of (λ y. (p : ℕ) × AtomIs text y p) (l text)
