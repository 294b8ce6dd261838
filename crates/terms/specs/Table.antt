-- How two tables stand for the trees made. `words` has the nodes one after the other: a head, then the arguments' numbers; a head
-- below SYMBOLS is a symbol, from there on a variable. `index` has four parts: where each term's words end; the next term of its bucket with
-- a lower number; whether it has a variable; and for each bucket the term with the highest number. A term stands there with 1 added,
-- 0 is none. Behind the mark everything is zero, so the trees made determine every cell. Assumes nothing.
use Rattle.std.specs.Prelude.{◌≡◌, ℕ, zero, suc, ◌+◌, ◌-◌, ◌*◌, ◌/◌, ◌%◌, ◌≤◌, ◌<◌, Bool, true, false, List, [], ◌∷◌, ◌++◌, length, get_or, take, drop, replicate, ltb, eqb, Result, Ok, Err}
use Rattle.rules.specs.Limits.{SYMBOLS, VARIABLES, TERMS, WORDS, NODE}
use Rattle.rules.specs.Out.{Out, ok, refuse}
use Rattle.rules.specs.Tree.{Tree, Trees, var, app, none, more, is_open}
use Rattle.rules.specs.Store.{Made, number}
use Rattle.rules.specs.Laws.Store.{Apart}
use Rattle.terms.specs.declared.store.Mark.{Mark}
use Rattle.questions.specs.Numbers.{row_number}
use Rattle.questions.specs.declared.Row.{Row}

-- Places in the index ----------------------------------------------------------------------------------------------------------

abbrev pub BUCKETS : ℕ
BUCKETS = TERMS

abbrev pub CHAINS : ℕ
CHAINS = TERMS

abbrev pub FLAGS : ℕ
FLAGS = 2 * TERMS

abbrev pub HEADS : ℕ
HEADS = 3 * TERMS

abbrev pub INDEX : ℕ
INDEX = 4 * TERMS

-- Nodes ------------------------------------------------------------------------------------------------------------------------

-- len words from a on
abbrev pub run : List ℕ → ℕ → ℕ → List ℕ
run W a len = take len (drop a W)

-- where term i's words start
unfoldable pub start : List ℕ → ℕ → ℕ
start I zero = 0
start I (suc i) = get_or I i 0

-- term i's words
unfoldable pub node_at : List ℕ → List ℕ → ℕ → List ℕ
node_at I W i = run W (start I i) (get_or I i 0 - start I i)

unfoldable pub args_of : Made → List ℕ → Trees
args_of M [] = none
args_of M (a ∷ xs) = more (get_or M a (var 0)) (args_of M xs)

-- the tree that a node stands for, over the trees before it
unfoldable pub tree_at : Made → List ℕ → Tree
tree_at M [] = var 0
tree_at M (h ∷ xs) = elim (ltb h SYMBOLS) [ true ↦ app h (args_of M xs) | false ↦ var (h - SYMBOLS) ]

-- the first n terms of the tables
unfoldable pub trees : List ℕ → List ℕ → ℕ → Made
trees I W zero = []
trees I W (suc n) = trees I W n ++ (tree_at (trees I W n) (node_at I W n) ∷ [])

abbrev pub made : List ℕ → List ℕ → Mark → Made
made I W m = trees I W m.terms

-- the tree of term i
abbrev pub tree : List ℕ → List ℕ → Mark → ℕ → Tree
tree I W m i = get_or (made I W m) i (var 0)

-- numbers that are all below n
abbrev pub Below : ℕ → List ℕ → Type 0
Below n xs = (k : ℕ) → k < length xs → get_or xs k 0 < n

-- a node: a variable's has no arguments, and is one that there can be; a symbol's arguments are all below n
pub data Shaped (n : ℕ) : List ℕ → Type 0 where
  is_var : {h : ℕ} → SYMBOLS ≤ h → h < SYMBOLS + VARIABLES → Shaped n (h ∷ [])
  is_app : {h : ℕ} {xs : List ℕ} → h < SYMBOLS → Below n xs → Shaped n (h ∷ xs)

-- a node that can be kept
pub record Node (n : ℕ) (w : List ℕ) : Type 0 where
  pub narrow : length w ≤ NODE
  pub shaped : Shaped n w

-- Buckets ----------------------------------------------------------------------------------------------------------------------

-- the bucket of a node. The multiplier is odd and below 2 ^ 31, so that no product wraps; of such it was chosen by a test on chains,
-- pairs, variables and constants, for few terms to a bucket
unfoldable pub hash_from : ℕ → List ℕ → ℕ
hash_from h [] = h / (4294967296 / BUCKETS)
hash_from h (w ∷ ws) = hash_from (((h + w) * 2015346805) % 4294967296) ws

abbrev pub hash : List ℕ → ℕ
hash w = hash_from 0 w

abbrev pub bucket : List ℕ → List ℕ → ℕ → ℕ
bucket I W i = hash (node_at I W i)

-- the highest below n whose key is b, with 1 added; 0 where there is none
unfoldable pub latest : (ℕ → ℕ) → ℕ → ℕ → ℕ
latest key b zero = 0
latest key b (suc n) = elim (eqb (key n) b) [ true ↦ suc n | false ↦ latest key b n ]

unfoldable pub flag : Bool → ℕ
flag true = 1
flag false = 0

-- Well-formed tables -------------------------------------------------------------------------------------------------------------

pub record Good (I W : List ℕ) (m : Mark) : Type 0 where
  pub index : length I ≡ INDEX
  pub words : length W ≡ WORDS
  pub room : m.terms ≤ TERMS
  pub ends : m.words ≡ start I m.terms
  pub within : m.words ≤ WORDS
  pub rise : (i : ℕ) → i < m.terms → start I i < get_or I i 0
  pub narrow : (i : ℕ) → i < m.terms → get_or I i 0 ≤ start I i + NODE
  pub shaped : (i : ℕ) → i < m.terms → Shaped i (node_at I W i)
  pub apart : Apart (trees I W m.terms)
  pub chains : (i : ℕ) → i < m.terms → get_or I (CHAINS + i) 0 ≡ latest (bucket I W) (bucket I W i) i
  pub flags : (i : ℕ) → i < m.terms → get_or I (FLAGS + i) 0 ≡ flag (is_open (get_or (trees I W m.terms) i (var 0)))
  pub heads : (b : ℕ) → b < BUCKETS → get_or I (HEADS + b) 0 ≡ latest (bucket I W) b m.terms
  pub no_ends : (i : ℕ) → m.terms ≤ i → i < TERMS → get_or I i 0 ≡ 0
  pub no_chains : (i : ℕ) → m.terms ≤ i → i < TERMS → get_or I (CHAINS + i) 0 ≡ 0
  pub no_flags : (i : ℕ) → m.terms ≤ i → i < TERMS → get_or I (FLAGS + i) 0 ≡ 0
  pub no_words : (i : ℕ) → m.words ≤ i → get_or W i 0 ≡ 0

-- up to the mark m the terms of J X are as those of I W were
pub record Same (I W J X : List ℕ) (m : Mark) : Type 0 where
  pub ends : (i : ℕ) → i < m.terms → get_or J i 0 ≡ get_or I i 0
  pub words : (i : ℕ) → i < m.words → get_or X i 0 ≡ get_or W i 0
  pub long_index : length J ≡ length I
  pub long_words : length X ≡ length W

-- Answers ------------------------------------------------------------------------------------------------------------------------

-- the tables went from I W at the mark old to J X at the mark new: more terms, and the old ones as they were
pub record Grown (I W J X : List ℕ) (old new : Mark) : Type 0 where
  pub was : Good I W old
  pub good : Good J X new
  pub more : old.terms ≤ new.terms
  pub longer : old.words ≤ new.words
  pub same : Same I W J X old

-- the definition's answer K: t, and the tables hold what is made; n is its number
pub record Stored (I W J X : List ℕ) (old : Mark) (t : Tree) (K : Out Made Tree) (n : ℕ) (new : Mark) : Type 0 where
  pub grown : Grown I W J X old new
  pub makes : K ≡ ok t (made J X new)
  pub numbered : n ≡ number (made J X new) t
  pub there : n < new.terms

-- the definition refuses by row r of question 60, and the tables hold what was made until then
pub record Refused (A : Type 0) (I W J X : List ℕ) (old : Mark) (K : Out Made A) (r : ℕ) (new : Mark) : Type 0 where
  pub grown : Grown I W J X old new
  pub makes : K ≡ refuse 60 r (made J X new)

abbrev pub AfterAs : List ℕ → List ℕ → List ℕ → List ℕ → Mark → Mark → Tree → Out Made Tree → Result ℕ Row → Type 0
AfterAs I W J X old new t K (Ok n) = Stored I W J X old t K n new
AfterAs I W J X old new t K (Err row) = Refused Tree I W J X old K (row_number row) new

-- what a call that puts a tree into the store promises of its answer; a record, so that laws find its arguments
pub record After (I W J X : List ℕ) (old new : Mark) (t : Tree) (K : Out Made Tree) (r : Result ℕ Row) : Type 0 where
  pub says : AfterAs I W J X old new t K r

-- After a check ------------------------------------------------------------------------------------------------------------------------

-- the index without its look-up part: where each term's words end, and zero behind
abbrev pub settled : List ℕ → List ℕ
settled I = take TERMS I ++ replicate (3 * TERMS) 0

-- Back to an old mark ----------------------------------------------------------------------------------------------------------------

-- the first terms, up to the mark old, are a part of those up to m
pub record Part (I W : List ℕ) (m old : Mark) : Type 0 where
  pub good : Good I W m
  pub fewer : old.terms ≤ m.terms
  pub ends : old.words ≡ start I old.terms

-- the tables hold these alone
pub record Back (I W J X : List ℕ) (old : Mark) : Type 0 where
  pub good : Good J X old
  pub same : Same I W J X old
