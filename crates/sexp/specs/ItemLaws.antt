-- Laws of items in cells, at a place and by number. Assumes nothing.
use Rattle.std.specs.Prelude.{◌≡◌, ℕ, zero, suc, ◌+◌, ◌*◌, ◌/◌, ◌%◌, ◌≤◌, ◌<◌, List, ◌++◌, drop}
use Rattle.std.proofs.Math.Path.{refl, ap}
use Rattle.std.proofs.Common.{sym, ◌∙◌, add-zero, zero-add, length-append, get_or-drop, drop-drop, eq-eqb, ne_eqb}
use native.Mathlib.Omega.{arith}
use Rattle.std.proofs.Math.ListN.{length, get_or, length-drop}
use Rattle.std.proofs.Math.Seq.{drop-append_seam}
use Rattle.rules.specs.Sexp.{Sexp, Sexps, atom, list, nil, cons, count, item, rest}
use Rattle.rules.specs.Laws.Sexp.{rest_item}
use Rattle.sexp.specs.Encode.{encode, encodes}
use Rattle.sexp.specs.Items.{item_of, item_at, behind, place}
use Rattle.sexp.specs.declared.items.Item.TheVariants.{Atom, List as Part}

-- At a place ---------------------------------------------------------------------------------------------------------------------

-- these items' cells are those from a place on
pub record At (words : List ℕ) (at : ℕ) (left : Sexps) : Type 0 where
  pub high : at ≤ length words
  pub lies : drop at words ≡ encodes left

pub at_first : {words : List ℕ} {xs : Sexps} → words ≡ encodes xs → At words 0 xs
at_first e = record { high = omega arith; lies = e }

pub some_cells : (x : Sexp) → 0 < length (encode x)
unfolding encode
some_cells (atom p bs) = omega arith
some_cells (list xs) = omega arith

pub encodes_cons : (x : Sexp) (xs : Sexps) → encodes (cons x xs) ≡ encode x ++ encodes xs
unfolding encode
encodes_cons x xs = refl

-- there is an item
pub record More (left : Sexps) : Type 0 where
  pub first : Sexp
  pub others : Sexps
  pub is : left ≡ cons first others

module _ {words : List ℕ} {at : ℕ} where
  pub at_more : (left : Sexps) → At words at left → at < length words → More left
  unfolding encode
  at_more nil k h = absurd (omega (arith, ap length k.lies, length-drop at words))
  at_more (cons x xs) k h = record { first = x; others = xs; is = refl }

  pub at_over : (left : Sexps) → At words at left → length words ≤ at → left ≡ nil
  at_over nil k h = refl
  at_over (cons x xs) k h =
      absurd (omega (arith, ap length k.lies, length-drop at words, ap length (encodes_cons x xs), length-append (encode x) (encodes xs), some_cells x))

  module _ {x : Sexp} {ys : Sexps} (k : At words at (cons x ys)) where
    -- the cells are the item's and the others'
    apart : drop at words ≡ encode x ++ encodes ys
    apart = k.lies ∙ encodes_cons x ys

    lengths : length words ≡ at + length (encode x) + length (encodes ys)
    lengths = omega (arith, ap length apart, length-drop at words, length-append (encode x) (encodes ys), k.high, some_cells x)

    pub at_inside : at < length words
    at_inside = omega (arith, lengths, some_cells x)

    pub at_room : at + length (encode x) ≤ length words
    at_room = omega (arith, lengths)

    pub at_next : At words (at + length (encode x)) ys
    at_next =
        record {
          high = at_room;
          lies = sym (drop-drop (length (encode x)) at words) ∙ ap (drop (length (encode x))) apart ∙ drop-append_seam (encode x) (encodes ys);
        }

    head_cell : get_or words at 0 ≡ get_or (encode x ++ encodes ys) 0 0
    head_cell = ap (λ n. get_or words n 0) (sym (add-zero at)) ∙ sym (get_or-drop at words 0 0) ∙ ap (λ l. get_or l 0 0) apart

  -- the item that stands there, by its cell
  pub item_here : (x : Sexp) {ys : Sexps} → At words at (cons x ys) → item_at words at ≡ item_of at x
  unfolding item_at encode
  item_here (atom p bs) k =
      let c : get_or words at 0 ≡ 2 * p + 1 = head_cell k in
      let o : get_or words at 0 % 2 ≡ 1 = omega arith in
      let d : get_or words at 0 / 2 ≡ p = omega arith in
      rw (eq-eqb (get_or words at 0 % 2) 1 o) (ap Atom d)
  item_here (list zs) k =
      let c : get_or words at 0 ≡ 2 * length (encodes zs) = head_cell k in
      let o : get_or words at 0 % 2 ≡ 1 → ⊥ = λ e. omega arith in
      let d : get_or words at 0 / 2 ≡ length (encodes zs) = omega arith in
      rw (ne_eqb (get_or words at 0 % 2) 1 o) (ap (λ n. Part (at + 1) (at + 1 + n)) d)

pub behind_item : (at : ℕ) (x : Sexp) → behind at (item_of at x) ≡ at + length (encode x)
unfolding encode
behind_item at (atom p bs) = refl
behind_item at (list xs) = omega arith

-- By number ----------------------------------------------------------------------------------------------------------------------

pub at_place : {words : List ℕ} {at : ℕ} (left : Sexps) (k : ℕ) → At words at left → At words (at + place left k) (rest left k)
unfolding place rest
at_place {at = at} nil k h = rw (add-zero at) h
at_place {at = at} (cons x xs) zero h = rw (add-zero at) h
at_place {at = at} (cons x xs) (suc k) h =
    let e : at + length (encode x) + place xs k ≡ at + (length (encode x) + place xs k) = omega arith in
    rw e at (at_place {at = at + length (encode x)} xs k (at_next h))

pub item_at_place : {words : List ℕ} (xs : Sexps) (k : ℕ) → words ≡ encodes xs → k < count xs → At words (place xs k) (cons (item xs k) (rest xs (suc k)))
item_at_place xs k e h = rw (zero-add (place xs k), rest_item xs k h) at (at_place xs k (at_first e))

-- the place where the rest begins is within the cells
pub place_most : {words : List ℕ} (xs : Sexps) (k : ℕ) → words ≡ encodes xs → place xs k ≤ length words
place_most xs k e = omega (arith, (at_place xs k (at_first e)).high)

pub place_room : {words : List ℕ} (xs : Sexps) (k : ℕ) → words ≡ encodes xs → k < count xs → place xs k < length words
place_room xs k e h = at_inside (item_at_place xs k e h)

pub place_over : (xs : Sexps) (k : ℕ) → count xs ≤ k → place xs k ≡ length (encodes xs)
unfolding place count encode
place_over nil k h = refl
place_over (cons x xs) zero h = absurd (omega arith)
place_over (cons x xs) (suc k) h = omega (arith, place_over xs k (omega arith), length-append (encode x) (encodes xs))

-- a place within the cells is that of an item
pub place_inside : (xs : Sexps) (k : ℕ) → place xs k < length (encodes xs) → k < count xs
unfolding place count encode
place_inside nil k h = absurd (omega arith)
place_inside (cons x xs) zero h = omega arith
place_inside (cons x xs) (suc k) h = omega (arith, place_inside xs k (omega (arith, length-append (encode x) (encodes xs))))
