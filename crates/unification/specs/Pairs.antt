-- Unification in the tables: what two terms ask for, and the pairs that wait. A pair is two cells with its terms' numbers; the pair put
-- there last is the first of the definition's list. Assumes nothing.
use Rattle.std.specs.Prelude.{◌≡◌, ℕ, zero, suc, ◌+◌, ◌*◌, ◌≤◌, ◌<◌, List, [], ◌∷◌, length, get_or, set, replicate}
use Rattle.rules.specs.Limits.{ARGUMENTS, VARIABLES, TERMS}
use Rattle.rules.specs.Tree.{var}
use Rattle.rules.specs.Store.{Made}
use Rattle.rules.specs.Unify.{Pair, Look, agree, clash, binds, parts}
use Rattle.terms.specs.declared.store.Mark.{Mark}
use Rattle.terms.specs.declared.store.Terms.{Terms}
use Rattle.unification.specs.declared.pairs.Asks.{Asks}
use Rattle.unification.specs.declared.pairs.Asks.TheVariants.{Nothing, Clash, Binds, Parts}
use Rattle.terms.specs.Table.{args_of, made, Good, tree}

-- What two terms ask for ---------------------------------------------------------------------------------------------------------

-- a term whose variables can be looked for, with scratch of zeros
pub record Searchable (I W : List ℕ) (m : Mark) (seen : List ℕ) (id : ℕ) : Type 0 where
  pub good : Good I W m
  pub there : id < m.terms
  pub wide : TERMS ≤ 64 * length seen
  pub fresh : seen ≡ replicate (length seen) 0

pub record Comparable (I W : List ℕ) (m : Mark) (seen : List ℕ) (s t : ℕ) : Type 0 where
  pub left : Searchable I W m seen s
  pub right : Searchable I W m seen t

-- a variable x and a term u
pub record BindsTo (I W : List ℕ) (m : Mark) (L : Look) (x u : ℕ) : Type 0 where
  pub asks : L ≡ binds x (tree I W m u)
  pub small : x < VARIABLES
  pub there : u < m.terms

-- the arguments xs and ys
pub record PartsAre (I W : List ℕ) (m : Mark) (L : Look) (xs ys : List ℕ) : Type 0 where
  pub asks : L ≡ parts (args_of (made I W m) xs) (args_of (made I W m) ys)
  pub even : length ys ≡ length xs
  pub few : length xs ≤ ARGUMENTS
  pub lefts : (k : ℕ) → k < length xs → get_or xs k 0 < m.terms
  pub rights : (k : ℕ) → k < length ys → get_or ys k 0 < m.terms

abbrev pub Answered : List ℕ → List ℕ → Mark → Look → Asks → Type 0
Answered I W m L Nothing = L ≡ agree
Answered I W m L Clash = L ≡ clash
Answered I W m L (Binds x u) = BindsTo I W m L x u
Answered I W m L (Parts xs ys) = PartsAre I W m L xs.now ys.now

-- the same of terms as they are lent
abbrev pub SearchableIn : Terms → List ℕ → ℕ → Type 0
SearchableIn t seen id = Searchable t.index.now t.words.now t.mark seen id

abbrev pub ComparableIn : Terms → List ℕ → ℕ → ℕ → Type 0
ComparableIn t seen left right = Comparable t.index.now t.words.now t.mark seen left right

abbrev pub AnsweredIn : Terms → Look → Asks → Type 0
AnsweredIn t L r = Answered t.index.now t.words.now t.mark L r

-- Pairs --------------------------------------------------------------------------------------------------------------------------

-- the n pairs that wait, the last one first
unfoldable pub waits : Made → List ℕ → ℕ → List Pair
waits M P zero = []
waits M P (suc n) = record { left = get_or M (get_or P (2 * n) 0) (var 0); right = get_or M (get_or P (2 * n + 1) 0) (var 0) } ∷ waits M P n

-- k pairs more above w, of the numbers in xs and in ys
unfoldable pub piled : List ℕ → List ℕ → List ℕ → ℕ → ℕ → List ℕ
piled xs ys P w zero = P
piled xs ys P w (suc k) = set (set (piled xs ys P w k) (2 * (w + k)) (get_or xs k 0)) (2 * (w + k) + 1) (get_or ys k 0)
