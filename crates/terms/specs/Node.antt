-- What the functions of the store that look at one node answer. Assumes nothing.
use Rattle.std.specs.Prelude.{◌≡◌, ℕ, suc, ◌+◌, ◌<◌, Bool, true, false, List, [], ◌∷◌, length, get_or, eqb, Option, Some as some, None as nothing}
use Rattle.rules.specs.Limits.{SYMBOLS}
use Rattle.rules.specs.Tree.{Tree, var, app, is_open}
use Rattle.rules.specs.Store.{Made, stored, number}
use Rattle.terms.specs.declared.store.Mark.{Mark}
use Rattle.terms.specs.Table.{CHAINS, FLAGS, HEADS, Good, tree}

unfoldable pub same_words : List ℕ → List ℕ → Bool
same_words [] [] = true
same_words [] (y ∷ ys) = false
same_words (x ∷ xs) [] = false
same_words (x ∷ xs) (y ∷ ys) = elim (eqb x y) [ true ↦ same_words xs ys | false ↦ false ]

-- a tree's number, if it is there
unfoldable pub seek : Made → Tree → Option ℕ
seek M t = elim (stored M t) [ true ↦ some (number M t) | false ↦ nothing ]

-- term n came into the index: its end e, its flag o, at the head of bucket b
pub record Linked (I J : List ℕ) (n b e o : ℕ) : Type 0 where
  pub long : length J ≡ length I
  pub end : get_or J n 0 ≡ e
  pub chain : get_or J (CHAINS + n) 0 ≡ get_or I (HEADS + b) 0
  pub flag : get_or J (FLAGS + n) 0 ≡ o
  pub head : get_or J (HEADS + b) 0 ≡ suc n
  pub other : (j : ℕ) → (j ≡ n → ⊥) → (j ≡ CHAINS + n → ⊥) → (j ≡ FLAGS + n → ⊥) → (j ≡ HEADS + b → ⊥) → get_or J j 0 ≡ get_or I j 0

-- term n went out of the index, of bucket b
pub record Unlinked (I J : List ℕ) (n b : ℕ) : Type 0 where
  pub long : length J ≡ length I
  pub end : get_or J n 0 ≡ 0
  pub chain : get_or J (CHAINS + n) 0 ≡ 0
  pub flag : get_or J (FLAGS + n) 0 ≡ 0
  pub head : get_or J (HEADS + b) 0 ≡ get_or I (CHAINS + n) 0
  pub other : (j : ℕ) → (j ≡ n → ⊥) → (j ≡ CHAINS + n → ⊥) → (j ≡ FLAGS + n → ⊥) → (j ≡ HEADS + b → ⊥) → get_or J j 0 ≡ get_or I j 0

-- One term -------------------------------------------------------------------------------------------------------------------------------

-- a tree's head, as the words have it: a symbol, or SYMBOLS and a variable's number
unfoldable pub head_of : Tree → ℕ
head_of (var v) = SYMBOLS + v
head_of (app c ts) = c

-- the tables hold the term id
pub record Held (I W : List ℕ) (id : ℕ) : Type 0 where
  pub mark : Mark
  pub good : Good I W mark
  pub there : id < mark.terms

-- the same of the index, whatever the words are
pub record HeldIn (I : List ℕ) (id : ℕ) : Type 0 where
  pub words : List ℕ
  pub held : Held I words id

-- r is the head of the term id
abbrev pub HeadIs : List ℕ → List ℕ → ℕ → ℕ → Type 0
HeadIs I W id r = (m : Mark) → Good I W m → id < m.terms → r ≡ head_of (tree I W m id)

-- r is whether the term id has a variable
abbrev pub OpenIs : List ℕ → ℕ → Bool → Type 0
OpenIs I id r = (W : List ℕ) (m : Mark) → Good I W m → id < m.terms → r ≡ is_open (tree I W m id)
