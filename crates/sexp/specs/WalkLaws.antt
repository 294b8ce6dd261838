-- Laws for those who walk over items: what the answers of `items` say of the items, and of their atoms in the text. Assumes nothing.
use Rattle.std.specs.Prelude.{◌≡◌, refl, List, ◌++◌, length, take, drop}
use Rattle.std.proofs.Common.{sym, ap, ◌∙◌, zero-add, arith, length-drop, length-take, drop-drop, take_all}
use Prim.Native.Nat.{ℕ, zero, suc, ◌+◌, ◌-◌, ◌≤◌, ◌<◌}
use Rattle.std.proofs.Math.Seq.{take-append_seam}
use Rattle.rules.specs.Lex.{letters}
use Rattle.rules.specs.Laws.Lex.{letters_front}
use Rattle.rules.specs.Sexp.{Sexp, Sexps, atom, list, nil, cons, count, item, rest}
use Rattle.sexp.specs.Never.{never}
use Rattle.sexp.specs.Encode.{encode, encodes}
use Rattle.sexp.specs.Spelt.{AtomAt, Spelt, Spells}
use Rattle.sexp.specs.Items.{Holds, item_of, item_at, place}
use Rattle.sexp.specs.ItemLaws.{At, at_first, at_more, at_over, at_room, at_next, More, item_here, item_at_place, at_place, some_cells}
use Rattle.sexp.specs.declared.items.Item.{Item}
use Rattle.sexp.specs.declared.items.Item.TheVariants.{Atom, List as Part}

-- What an answer says of an item ----------------------------------------------------------------------------------------------

-- the item is the atom that begins at a place of the text
pub record AtomIs (text : List ℕ) (x : Sexp) (start : ℕ) : Type 0 where
  pub bytes : List ℕ
  pub is : x ≡ atom start bytes
  pub stands : AtomAt text start bytes

-- the item is a list, and the cells from a to b hold its items
pub record ListIs (text words : List ℕ) (x : Sexp) (a b : ℕ) : Type 0 where
  pub items : Sexps
  pub is : x ≡ list items
  pub low : a ≤ b
  pub high : b ≤ length words
  pub shorter : b - a < length words
  pub holds : Holds text (take (b - a) (drop a words)) items

-- where the loop over items stands: these items are left
pub record Walk (text words : List ℕ) (at : ℕ) (left : Sexps) : Type 0 where
  pub here : At words at left
  pub spelt : Spells text left

pub atom_is : (text : List ℕ) (at : ℕ) (x : Sexp) (p : ℕ) → Spelt text x → Atom p ≡ item_of at x → AtomIs text x p
atom_is text at (list xs) p s e = never cc
atom_is text at (atom q bs) p s e =
    let h : q ≡ p = cc in
    record { bytes = bs; is = ap (λ n. atom n bs) h; stands = rw h at s }

list_here : (text words : List ℕ) (at : ℕ) (x : Sexp) (ys : Sexps) (a b : ℕ) → At words at (cons x ys) → Spelt text x → Part a b ≡ item_of at x → ListIs text words x a b × (b ≡ at + length (encode x))
unfolding encode
list_here text words at (atom p bs) ys a b k s e = never cc
list_here text words at (list xs) ys a b k s e =
    let ea : a ≡ at + 1 = cc in
    let eb : b ≡ at + 1 + length (encodes xs) = cc in
    let n : b - a ≡ length (encodes xs) = omega arith in
    let d : drop (at + 1) words ≡ encodes xs ++ encodes ys = sym (drop-drop 1 at words) ∙ ap (drop 1) k.lies in (
      record {
        items = xs;
        is = refl;
        low = omega arith;
        high = omega (arith, at_room k);
        shorter = omega (arith, at_room k);
        holds = record { cells = rw (n, ea, d) (take-append_seam (encodes xs) (encodes ys)); spelt = s };
      },
      omega arith,
    )

atom_next : (words : List ℕ) (at : ℕ) (x : Sexp) (ys : Sexps) → At words at (cons x ys) → (p : ℕ) → Atom p ≡ item_of at x → At words (at + 1) ys
unfolding encode
atom_next words at (atom q bs) ys k p e = at_next k
atom_next words at (list xs) ys k p e = never cc

-- A loop over items ------------------------------------------------------------------------------------------------------------

pub walk_start : {text words : List ℕ} {xs : Sexps} → Holds text words xs → Walk text words 0 xs
walk_start h = record { here = at_first h.cells; spelt = h.spelt }

module _ {text words : List ℕ} {at : ℕ} where
  pub walk_more : {left : Sexps} → Walk text words at left → at < length words → More left
  walk_more k h = at_more _ k.here h

  pub walk_over : {left : Sexps} → Walk text words at left → length words ≤ at → left ≡ nil
  walk_over k h = at_over _ k.here h

  -- the rest goes on as a part of the cells
  pub walk_rest : {left : Sexps} → Walk text words at left → Holds text (take (length words - at) (drop at words)) left
  walk_rest k = record { cells = take_all (length words - at) (drop at words) (omega (arith, length-drop at words)) ∙ k.here.lies; spelt = k.spelt }

  module _ {x : Sexp} {ys : Sexps} (k : Walk text words at (cons x ys)) {r : Item} (e : r ≡ item_at words at) where
    is_item : r ≡ item_of at x
    is_item = e ∙ item_here x k.here

    pub walk_atom : {p : ℕ} → r ≡ Atom p → AtomIs text x p
    walk_atom f = atom_is text at x _ k.spelt.0 (sym f ∙ is_item)

    pub past_atom : {p : ℕ} → r ≡ Atom p → Walk text words (at + 1) ys
    past_atom f = record { here = atom_next words at x ys k.here _ (sym f ∙ is_item); spelt = k.spelt.1 }

    pub walk_list : {a b : ℕ} → r ≡ Part a b → ListIs text words x a b
    walk_list f = (list_here text words at x ys _ _ k.here k.spelt.0 (sym f ∙ is_item)).0

    pub past_list : {a b : ℕ} → r ≡ Part a b → Walk text words b ys
    past_list f =
        record {
          here = rw (list_here text words at x ys _ _ k.here k.spelt.0 (sym f ∙ is_item)).1 (at_next k.here);
          spelt = k.spelt.1;
        }

    pub list_on : {a b : ℕ} → r ≡ Part a b → at < b
    list_on f = omega (arith, (list_here text words at x ys _ _ k.here k.spelt.0 (sym f ∙ is_item)).1, some_cells x)

-- a list's cells are fewer than those of the list around it
pub part_shorter : {text words : List ℕ} {x : Sexp} {a b : ℕ} → ListIs text words x a b → length (take (b - a) (drop a words)) < length words
part_shorter {words = words} {a = a} {b} l = omega (arith, l.shorter, length-take (b - a) (drop a words))

-- By number --------------------------------------------------------------------------------------------------------------------

module _ {text words : List ℕ} {xs : Sexps} (h : Holds text words xs) where
  pub spells_item : (k : ℕ) → Spelt text (item xs k)
  unfolding item
  spells_item k = go xs k h.spelt
    where
      go : (ys : Sexps) (n : ℕ) → Spells text ys → Spelt text (item ys n)
      go nil n s = tt
      go (cons y ys) zero s = s.0
      go (cons y ys) (suc n) s = go ys n s.1

  pub spells_rest : (k : ℕ) → Spells text (rest xs k)
  unfolding rest
  spells_rest k = go xs k h.spelt
    where
      go : (ys : Sexps) (n : ℕ) → Spells text ys → Spells text (rest ys n)
      go nil n s = tt
      go (cons y ys) zero s = s
      go (cons y ys) (suc n) s = go ys n s.1

  module _ {r : Item} (k : ℕ) (e : r ≡ item_of (place xs k) (item xs k)) where
    pub nth_atom : {p : ℕ} → r ≡ Atom p → AtomIs text (item xs k) p
    nth_atom f = atom_is text (place xs k) (item xs k) _ (spells_item k) (sym f ∙ e)

    pub nth_list : {a b : ℕ} → k < count xs → r ≡ Part a b → ListIs text words (item xs k) a b
    nth_list i f = (list_here text words (place xs k) (item xs k) _ _ _ (item_at_place xs k h.cells i) (spells_item k) (sym f ∙ e)).0

  -- the rest of the list, from an item on
  pub rest_walk : (k at : ℕ) → at ≡ place xs k → Walk text words at (rest xs k)
  rest_walk k at e = record { here = rw (e, ← zero-add (place xs k)) (at_place xs k (at_first h.cells)); spelt = spells_rest k }

-- The bytes of an atom ---------------------------------------------------------------------------------------------------------

-- they are those from its place to its end
pub record Span (text : List ℕ) (start end : ℕ) (bs : List ℕ) : Type 0 where
  pub low : start ≤ end
  pub high : end ≤ length text
  pub part : take (end - start) (drop start text) ≡ bs

pub span : {text : List ℕ} {start end : ℕ} {bs : List ℕ} → AtomAt text start bs → end ≡ start + length (letters (drop start text)) → Span text start end bs
span {text} {start} {end} {bs} a e =
    let n : end - start ≡ length (letters (drop start text)) = omega arith in
    record {
      low = omega arith;
      high = omega (arith, (letters_front (drop start text)).short, length-drop start text, a.inside);
      part = rw n ((letters_front (drop start text)).first ∙ a.bytes);
    }
