-- Forms, how they are read off tokens, and the items of a list. Assumes nothing.
use Rattle.std.specs.Prelude.{ℕ, zero, suc, ◌+◌, List, [], ◌∷◌, Bool, true, false, leb, eqb, length, drop}
use Rattle.rules.specs.Limits.{DEPTH}
use Rattle.rules.specs.Lex.{Token, opens, closes, word, between, tokens, lexing}
use Rattle.rules.specs.Out.{Act, pure, stop}

-- an atom has its place in the text and its bytes: the tables hold places
mutual
  pub data Sexp : Type 0 where
    atom : ℕ → List ℕ → Sexp
    list : Sexps → Sexp

  pub data Sexps : Type 0 where
    nil : Sexps
    cons : Sexp → Sexps → Sexps

-- one item more, behind the others
unfoldable pub snoc : Sexps → Sexp → Sexps
snoc nil y = cons y nil
snoc (cons x xs) y = cons x (snoc xs y)

-- what a text reads as: its forms, each with the place behind it, up to the end or to a refusal by its number. One type serves the
-- texts that are read whole before they are judged, and the proof, whose forms are judged as they are read
pub data Text : Type 0 where
  ends : Text
  fails : ℕ → Text
  more : Sexp → ℕ → Text → Text

-- reads tokens while lists are open; of each the items so far are kept, the innermost list first.
-- 4: a bracket without its partner; 5: too many open at once
unfoldable pub forms : List Sexps → List Token → Text
forms [] [] = ends
forms (xs ∷ st) [] = fails 4
forms [] (opens p ∷ ts) = forms (nil ∷ []) ts
forms (xs ∷ st) (opens p ∷ ts) = elim (leb DEPTH (length (xs ∷ st))) [ true ↦ fails 5 | false ↦ forms (nil ∷ xs ∷ st) ts ]
forms [] (closes p ∷ ts) = fails 4
forms (xs ∷ []) (closes p ∷ ts) = more (list xs) (suc p) (forms [] ts)
forms (xs ∷ ys ∷ st) (closes p ∷ ts) = forms (snoc ys (list xs) ∷ st) ts
forms [] (word p bs ∷ ts) = more (atom p bs) (p + length bs) (forms [] ts)
forms (xs ∷ st) (word p bs ∷ ts) = forms (snoc xs (atom p bs) ∷ st) ts

-- from a place of the text on
unfoldable pub read_from : List ℕ → ℕ → Text
read_from text at = forms [] (tokens between at (drop at text))

unfoldable pub read : List ℕ → Text
read text = forms [] (tokens between 0 text)

-- The items of a list -----------------------------------------------------------------------------------------------------

unfoldable pub count : Sexps → ℕ
count nil = 0
count (cons x xs) = suc (count xs)

-- the item at a number from 0 on; an empty list where there is none
unfoldable pub item : Sexps → ℕ → Sexp
item nil k = list nil
item (cons x xs) zero = x
item (cons x xs) (suc k) = item xs k

-- the items behind the first few
unfoldable pub rest : Sexps → ℕ → Sexps
rest nil k = nil
rest (cons x xs) zero = cons x xs
rest (cons x xs) (suc k) = rest xs k

-- a name as the tables hold it
pub record Name : Type 0 where
  pub start : ℕ
  pub bytes : List ℕ

-- question n reads an atom
unfoldable pub name : {S : Type 0} → ℕ → Sexp → Act S Name
name n (atom p bs) = pure (record { start = p; bytes = bs })
name n (list xs) = stop n

-- question n reads a list
unfoldable pub items : {S : Type 0} → ℕ → Sexp → Act S Sexps
items n (atom p bs) = stop n
items n (list xs) = pure xs

-- starts with `?`
unfoldable pub marked : List ℕ → Bool
marked [] = false
marked (b ∷ bs) = eqb b 63

-- `unfolding reading` opens all of the above, for a computation
unfoldable pub reading : Unit {0}
unfolding lexing snoc forms read_from read count item rest name items marked
reading = tt
