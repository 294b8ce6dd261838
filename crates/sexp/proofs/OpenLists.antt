-- How the lists that are still open lie in the cells: of each its own cell, in which the place of the list around it stands, and the
-- cells of its items so far, the outermost list first. Assumes nothing.
use mathlib.Core.Path.{◌≡◌, refl, sym}
use Prim.Native.Nat.{ℕ, ◌+◌, ◌*◌, ◌≤◌, ◌<◌}
use mathlib.Core.List.{List, [], ◌∷◌, ◌++◌, append_assoc, append-nil}
use native.Mathlib.Omega.{arith}
use lib.ListN.{length, set, get_or, length-append}
use lib.Seq.{set_at, get_or_at}
use Rattle.rules.specs.Sexp.{Sexp, Sexps, list, nil, cons, snoc}
use Rattle.sexp.specs.Encode.{encode, encodes}
use Rattle.sexp.specs.Spelt.{Spelt, Spells}

-- the cells, and the place of the innermost list
unfoldable mutual
  pub layout : List Sexps → List ℕ
  layout [] = []
  layout (xs ∷ st) = layout st ++ (top st ∷ encodes xs)

  pub top : List Sexps → ℕ
  top [] = 0
  top (xs ∷ st) = length (layout st)

encodes_snoc : (xs : Sexps) (y : Sexp) → encodes (snoc xs y) ≡ encodes xs ++ encode y
unfolding encode snoc
encodes_snoc nil y = append-nil (encode y)
encodes_snoc (cons x xs) y = rw (encodes_snoc xs y) (sym (append_assoc (encode x) (encodes xs) (encode y)))

pub layout_open : (st : List Sexps) → layout (nil ∷ st) ≡ layout st ++ (top st ∷ [])
unfolding layout encode
layout_open st = refl

pub layout_snoc : (xs : Sexps) (st : List Sexps) (y : Sexp) → layout (snoc xs y ∷ st) ≡ layout (xs ∷ st) ++ encode y
unfolding layout
layout_snoc xs st y = rw (encodes_snoc xs y) (sym (append_assoc (layout st) (top st ∷ encodes xs) (encode y)))

pub top_snoc : (xs : Sexps) (st : List Sexps) (y : Sexp) → top (snoc xs y ∷ st) ≡ top (xs ∷ st)
unfolding layout
top_snoc xs st y = refl

-- how many cells are used, and where the innermost list's items begin
pub layout_length : (xs : Sexps) (st : List Sexps) → length (layout (xs ∷ st)) ≡ top (xs ∷ st) + 1 + length (encodes xs)
unfolding layout
layout_length xs st = omega (arith, length-append (layout st) (top st ∷ encodes xs))

pub top_room : (st : List Sexps) → (length st ≡ 0 → ⊥) → top st < length (layout st)
top_room [] h = absurd (h refl)
top_room (xs ∷ st) h = omega (arith, layout_length xs st)

pub top_low : (st : List Sexps) → top st ≤ length (layout st)
unfolding layout
top_low [] = omega arith
top_low (xs ∷ st) = omega (arith, layout_length xs st)

apart : (A B rest : List ℕ) (a : ℕ) → (A ++ (a ∷ B)) ++ rest ≡ A ++ (a ∷ (B ++ rest))
apart A B rest a = append_assoc A (a ∷ B) rest

-- the place of the list around stands in a list's cell
pub around : (xs : Sexps) (st : List Sexps) (w rest : List ℕ) → w ≡ layout (xs ∷ st) ++ rest → get_or w (top (xs ∷ st)) 0 ≡ top st
unfolding layout
around xs st w rest e = rw (e, apart (layout st) (encodes xs) rest (top st)) (get_or_at (layout st) (top st) (encodes xs ++ rest) 0 (length (layout st)) refl)

-- the count takes its place, and the list is whole
pub counted : (xs : Sexps) (st : List Sexps) (w rest : List ℕ) (n : ℕ) → w ≡ layout (xs ∷ st) ++ rest → n ≡ length (encodes xs) → set w (top (xs ∷ st)) (2 * n) ≡ (layout st ++ encode (list xs)) ++ rest
unfolding layout encode
counted xs st w rest n e f =
    rw (e, f, apart (layout st) (encodes xs) rest (top st), apart (layout st) (encodes xs) rest (2 * length (encodes xs)))
    (set_at (layout st) (top st) (encodes xs ++ rest) (2 * length (encodes xs)) (length (layout st)) refl)

-- the atoms of the open lists

abbrev pub Stands : List ℕ → List Sexps → Type 0
Stands text [] = Unit
Stands text (xs ∷ st) = Spells text xs × Stands text st

pub snoc_spelt : (text : List ℕ) (xs : Sexps) (y : Sexp) → Spells text xs → Spelt text y → Spells text (snoc xs y)
unfolding snoc
snoc_spelt text nil y h k = (k, tt)
snoc_spelt text (cons x xs) y h k = (h.0, snoc_spelt text xs y h.1 k)
