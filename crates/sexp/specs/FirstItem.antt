-- Laws for those who read a list item by item, each time the first of the cells that are left: the first item, and the rest as a part of
-- the cells. Assumes nothing.
use Rattle.std.specs.Prelude.{◌≡◌, refl, ℕ, suc, ◌+◌, ◌-◌, ◌<◌, ◌≤◌, List, length, take, drop}
use Rattle.std.proofs.Common.{sym, ap, ◌∙◌, subst, arith, zero-add, length-drop, length-take-le}
use Rattle.rules.specs.Lex.{letters}
use Rattle.rules.specs.Sexp.{Sexp, Sexps, atom, list, nil, cons, count}
use Rattle.sexp.specs.Spelt.{Spelt}
use Rattle.sexp.specs.Encode.{encode}
use Rattle.sexp.specs.Items.{Holds, item_of, item_at, behind}
use Rattle.sexp.specs.ItemLaws.{at_next, item_here, behind_item, some_cells}
use Rattle.sexp.specs.WalkLaws.{Walk, walk_start, walk_more, walk_over, walk_rest, walk_list, ListIs, part_shorter}
use Rattle.sexp.specs.AtomText.{AtomText, atom_text}
use Rattle.sexp.specs.declared.items.Item.{Item}
use Rattle.sexp.specs.declared.items.Item.TheVariants.{Atom, List as Part}

-- an item of some list, whose atoms stand in the text
abbrev pub SomeItem : List ℕ → Item → Type 0
SomeItem text item = (x : Sexp) × (at : ℕ) × (item ≡ item_of at x) × Spelt text x

pub atom_inside : (text : List ℕ) {item : Item} {p : ℕ} → item ≡ Atom p → SomeItem text item → p < length text
atom_inside text f k = (atom_text text k.1 k.0 k.3 k.2 f).inside

-- The first item -----------------------------------------------------------------------------------------------------------------

-- the items are one and others; `next` is the place behind the first
pub record ItemFirst (text cells : List ℕ) (xs : Sexps) (item : Item) (next : ℕ) : Type 0 where
  pub x : Sexp
  pub ys : Sexps
  pub is : xs ≡ cons x ys
  pub at : item ≡ item_of 0 x
  pub spelt : Spelt text x
  pub on : 0 < next
  pub high : next ≤ length cells
  pub rest : Holds text (take (length cells - next) (drop next cells)) ys

pub none_left : {text cells : List ℕ} {xs : Sexps} → Holds text cells xs → length cells ≡ 0 → xs ≡ nil
none_left h e = walk_over (walk_start h) (omega (arith, e))

pub first_of : {text cells : List ℕ} {xs : Sexps} (item : Item) (next : ℕ) → Holds text cells xs → (length cells ≡ 0 → ⊥) → item ≡ item_at cells 0 →
    next ≡ behind 0 (item_at cells 0) → ItemFirst text cells xs item next
first_of {text} {cells} {xs} item next h l e f =
    let m = walk_more (walk_start h) (omega (arith, l)) in
    go m.first m.others m.is h
  where
    go : (x : Sexp) (ys : Sexps) → xs ≡ cons x ys → Holds text cells xs → ItemFirst text cells xs item next
    go x ys i k =
        let w : Walk text cells 0 (cons x ys) = rw i at (walk_start k) in
        let c : item_at cells 0 ≡ item_of 0 x = item_here x w.here in
        let n : next ≡ length (encode x) = f ∙ ap (behind 0) c ∙ behind_item 0 x ∙ zero-add (length (encode x)) in
        let z : 0 + length (encode x) ≡ next = zero-add (length (encode x)) ∙ sym n in
        let t : Walk text cells next ys = record { here = rw z at (at_next w.here); spelt = w.spelt.1 } in
        record {
          x = x;
          ys = ys;
          is = i;
          at = e ∙ c;
          spelt = w.spelt.0;
          on = omega (arith, n, some_cells x);
          high = t.here.high;
          rest = walk_rest t;
        }

-- the same, where the place behind is not asked for
pub first_item : {text cells : List ℕ} {xs : Sexps} (item : Item) → Holds text cells xs → (length cells ≡ 0 → ⊥) → item ≡ item_at cells 0 →
    ItemFirst text cells xs item (behind 0 (item_at cells 0))
first_item item h l e = first_of item (behind 0 (item_at _ 0)) h l e refl

pub some_first : {text cells : List ℕ} {xs : Sexps} (item : Item) → Holds text cells xs → (length cells ≡ 0 → ⊥) → item ≡ item_at cells 0 → SomeItem text item
some_first item h l e = let f = first_item item h l e in (f.x, 0, f.at, f.spelt)

-- the rest is shorter
pub rest_shorter : (cells : List ℕ) (next : ℕ) → 0 < next → next ≤ length cells → length (take (length cells - next) (drop next cells)) < length cells
rest_shorter cells next a b =
    omega (arith, length-take-le (length cells - next) (drop next cells) (omega (arith, length-drop next cells)), a, b)

pub count_more : (x : Sexp) (ys xs : Sexps) → xs ≡ cons x ys → count xs ≡ suc (count ys)
unfolding count
count_more x ys xs e = ap count e

module _ {text cells : List ℕ} {xs : Sexps} {item : Item} {next : ℕ} (f : ItemFirst text cells xs item next) where
  pub first_count : count xs ≡ suc (count f.ys)
  first_count = count_more f.x f.ys xs f.is

  -- the items, the first apart
  pub holds_first : Holds text cells xs → Holds text cells (cons f.x f.ys)
  holds_first h = subst (λ z. Holds text cells z) f.is h

pub cons_first : (x u : Sexp) (ys us : Sexps) → cons x ys ≡ cons u us → x ≡ u
cons_first x u ys us e = cc

-- By what it is ------------------------------------------------------------------------------------------------------------------

-- the items begin with an atom
pub record AtomFirst (text cells : List ℕ) (zs : Sexps) (p : ℕ) : Type 0 where
  pub others : Sexps
  pub is : zs ≡ cons (atom p (letters (drop p text))) others
  pub inside : p < length text
  pub rest : Holds text (take (length cells - 1) (drop 1 cells)) others
  pub some : 1 ≤ length cells

-- they begin with a list, whose items lie in the cells from a to b; the others follow
pub record ListFirst (text cells : List ℕ) (zs : Sexps) (a b : ℕ) : Type 0 where
  pub inner : Sexps
  pub others : Sexps
  pub is : zs ≡ cons (list inner) others
  pub low : a ≤ b
  pub high : b ≤ length cells
  pub on : 0 < b
  pub shorter : length (take (b - a) (drop a cells)) < length cells
  pub holds : Holds text (take (b - a) (drop a cells)) inner
  pub rest : Holds text (take (length cells - b) (drop b cells)) others

module _ {text cells : List ℕ} {zs : Sexps} {item : Item} (h : Holds text cells zs) (l : length cells ≡ 0 → ⊥) (e : item ≡ item_at cells 0) where
  pub atom_first : {p : ℕ} → item ≡ Atom p → AtomFirst text cells zs p
  atom_first {p} f =
      let k = first_of item 1 h l e (ap (behind 0) (sym f ∙ e)) in
      let a : AtomText text k.x p = atom_text text 0 k.x k.spelt k.at f in
      record {
        others = k.ys;
        is = k.is ∙ ap (λ x. cons x k.ys) a.is;
        inside = a.inside;
        rest = k.rest;
        some = k.high;
      }

  module _ {a b : ℕ} (f : item ≡ Part a b) where
    -- the first item is a list
    pub some_list : (x : Sexp) × ListIs text cells x a b
    some_list = let k = first_item item h l e in (k.x, walk_list (walk_start (holds_first k h)) e f)

    pub list_first : ListFirst text cells zs a b
    list_first =
        let k = first_of item b h l e (ap (behind 0) (sym f ∙ e)) in
        let q : ListIs text cells k.x a b = walk_list (walk_start (holds_first k h)) e f in
        record {
          inner = q.items;
          others = k.ys;
          is = k.is ∙ ap (λ x. cons x k.ys) q.is;
          low = q.low;
          high = k.high;
          on = k.on;
          shorter = part_shorter q;
          holds = q.holds;
          rest = k.rest;
        }

pub count_first : {text cells : List ℕ} {zs : Sexps} {p : ℕ} (f : AtomFirst text cells zs p) → count zs ≡ suc (count f.others)
count_first {text} {zs = zs} {p} f = count_more (atom p (letters (drop p text))) f.others zs f.is
