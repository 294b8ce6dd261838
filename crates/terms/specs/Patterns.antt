-- Rules' patterns over the store: how pattern words stand for a pattern, how cells stand for what a rule's variables are bound to, and
-- what matching and building answer. Assumes nothing.
use Rattle.std.specs.Prelude.{◌≡◌, ℕ, zero, suc, ◌+◌, ◌*◌, ◌≤◌, ◌<◌, Bool, true, false, List, length, map, get_or, ltb, Option, Some as some, None as nothing, Result, Ok, Err}
use Rattle.rules.specs.Limits.{SYMBOLS, ARGUMENTS, RULEVARS}
use Rattle.rules.specs.Out.{Out, ok, refuse}
use Rattle.rules.specs.Tree.{Tree, Trees, var, app, none, more, size, sizes, count_trees}
use Rattle.rules.specs.Store.{Made}
use Rattle.rules.specs.Match.{Bound, matches, match_all, build}
use Rattle.terms.specs.declared.store.Mark.{Mark}
use Rattle.terms.specs.declared.store.Terms.{Terms}
use Rattle.terms.specs.declared.store.Store.{Store}
use Rattle.terms.specs.declared.patterns.Built.{Built}
use Rattle.terms.specs.declared.patterns.Patterns.{Patterns}
use Rattle.questions.specs.Numbers.{number_of, detail_of}
use Rattle.questions.specs.declared.Question.{Question}
use Rattle.terms.specs.Sets.{counted_from_1}
use Rattle.terms.specs.Table.{made, args_of, Good, Grown}

-- Patterns in words ------------------------------------------------------------------------------------------------------------

-- how many arguments the symbol table gives symbol c
abbrev pub arity : List ℕ → ℕ → ℕ
arity S c = get_or S (4 * c + 1) 0

-- each symbol of the pattern has as many arguments as the symbol table gives it, and each variable has a cell
unfoldable mutual
  pub Fits : List ℕ → Tree → Type 0
  Fits S (var v) = v < RULEVARS
  Fits S (app c ts) = (c < SYMBOLS) × (count_trees ts ≡ arity S c) × (count_trees ts ≤ ARGUMENTS) × FitsAll S ts

  pub FitsAll : List ℕ → Trees → Type 0
  FitsAll S none = Unit {0}
  FitsAll S (more t ts) = Fits S t × FitsAll S ts

-- the words P hold the pattern from `at` on, in prefix notation, and it fits the symbol table S: place by place what `prefix` says of
-- the words (proofs/Prefix.antt)
unfoldable mutual
  pub Stands : List ℕ → List ℕ → ℕ → Tree → Type 0
  Stands S P at (var v) = (at < length P) × (get_or P at 0 ≡ SYMBOLS + v) × (v < RULEVARS)
  Stands S P at (app c ts) =
      (at < length P) × (get_or P at 0 ≡ c) × (c < SYMBOLS) × (count_trees ts ≡ arity S c) × (count_trees ts ≤ ARGUMENTS) × Standing S P (at + 1) ts

  pub Standing : List ℕ → List ℕ → ℕ → Trees → Type 0
  Standing S P at none = Unit {0}
  Standing S P at (more t ts) = Stands S P at t × Standing S P (at + size t) ts

-- there is a pattern at that place
pub record PatternAt (S P : List ℕ) (at : ℕ) : Type 0 where
  pub tree : Tree
  pub stands : Stands S P at tree

-- there are n patterns from that place on
pub record PatternsAt (S P : List ℕ) (at n : ℕ) : Type 0 where
  pub patterns : Trees
  pub stands : Standing S P at patterns
  pub count : count_trees patterns ≡ n

-- n patterns from that place on, over a whole symbol table
pub record Skippable (S P : List ℕ) (at n : ℕ) : Type 0 where
  pub symbols : length S ≡ 4 * SYMBOLS
  pub reads : PatternsAt S P at n

-- the place behind n patterns, whatever they are
abbrev pub Skipped : List ℕ → List ℕ → ℕ → ℕ → ℕ → Type 0
Skipped S P at n r = (ps : Trees) → Standing S P at ps → count_trees ps ≡ n → r ≡ at + sizes ps

-- how many patterns stand behind a word as its arguments
unfoldable pub args_by_table : List ℕ → ℕ → ℕ
args_by_table S h = elim (ltb h SYMBOLS) [ true ↦ arity S h | false ↦ 0 ]

-- Bindings in cells ------------------------------------------------------------------------------------------------------------

-- the cells that stand for what the variables are bound to
abbrev pub cells_of : List (Option ℕ) → List ℕ
cells_of = map counted_from_1

-- a cell: 0 for none, or a term's number with 1 added
unfoldable pub tree_in : Made → ℕ → Option Tree
tree_in M zero = nothing
tree_in M (suc n) = some (get_or M n (var 0))

-- rule variable v's tree stands in cell v
unfoldable pub bound_of : Made → List ℕ → Bound
bound_of M B v = tree_in M (get_or B v 0)

-- a cell for each variable that a rule may have, and no number that is no term's
pub record Cells (n : ℕ) (B : List ℕ) : Type 0 where
  pub long : length B ≡ RULEVARS
  pub within : (v : ℕ) → get_or B v 0 ≤ n

-- Matching ---------------------------------------------------------------------------------------------------------------------

-- a pattern at `at` can be matched with term id
pub record Matchable (S P I W : List ℕ) (m : Mark) (B : List ℕ) (at id : ℕ) : Type 0 where
  pub good : Good I W m
  pub symbols : length S ≡ 4 * SYMBOLS
  pub reads : PatternAt S P at
  pub cells : Cells m.terms B
  pub there : id < m.terms

-- patterns from `at` on can be matched with the terms xs
pub record AllMatchable (S P I W : List ℕ) (m : Mark) (B : List ℕ) (at : ℕ) (xs : List ℕ) : Type 0 where
  pub good : Good I W m
  pub symbols : length S ≡ 4 * SYMBOLS
  pub reads : PatternsAt S P at (length xs)
  pub cells : Cells m.terms B
  pub there : (k : ℕ) → k < length xs → get_or xs k 0 < m.terms

-- K is the definition's answer, r the place behind the words and C the cells; without a match nothing is said of the cells
pub data Tried (M : Made) (C : List ℕ) (K : Option Bound) (behind : ℕ) (r : Option ℕ) : Type 0 where
  hit : K ≡ some (bound_of M C) → Cells (length M) C → r ≡ some behind → Tried M C K behind r
  miss : K ≡ nothing → length C ≡ RULEVARS → r ≡ nothing → Tried M C K behind r

-- what is answered, with a yes or no: without a match the cells are as they were, B
pub data AllMatched (M : Made) (B C : List ℕ) (K : Option Bound) (r : Bool) : Type 0 where
  all : K ≡ some (bound_of M C) → Cells (length M) C → r ≡ true → AllMatched M B C K r
  not_all : K ≡ nothing → C ≡ B → r ≡ false → AllMatched M B C K r

-- whatever pattern stands there
abbrev pub TriedAt : List ℕ → List ℕ → List ℕ → List ℕ → Mark → List ℕ → List ℕ → ℕ → ℕ → Option ℕ → Type 0
TriedAt S P I W m B C at id r =
    (p : Tree) → Stands S P at p → Tried (made I W m) C (matches p (get_or (made I W m) id (var 0)) (bound_of (made I W m) B)) (at + size p) r

-- whatever patterns stand there, as many as terms
abbrev pub TriedAll : List ℕ → List ℕ → List ℕ → List ℕ → Mark → List ℕ → List ℕ → ℕ → List ℕ → Option ℕ → Type 0
TriedAll S P I W m B C at xs r =
    (ps : Trees) → Standing S P at ps → count_trees ps ≡ length xs → Tried (made I W m) C (match_all ps (args_of (made I W m) xs) (bound_of (made I W m) B)) (at + sizes ps) r

abbrev pub MatchedAll : List ℕ → List ℕ → List ℕ → List ℕ → Mark → List ℕ → List ℕ → ℕ → List ℕ → Bool → Type 0
MatchedAll S P I W m B C at xs r =
    (ps : Trees) → Standing S P at ps → count_trees ps ≡ length xs → AllMatched (made I W m) B C (match_all ps (args_of (made I W m) xs) (bound_of (made I W m) B)) r

-- Building ---------------------------------------------------------------------------------------------------------------------

-- a pattern at `at` can be built
pub record Buildable (S P I W : List ℕ) (m : Mark) (B : List ℕ) (at : ℕ) : Type 0 where
  pub good : Good I W m
  pub symbols : length S ≡ 4 * SYMBOLS
  pub reads : PatternAt S P at
  pub cells : Cells m.terms B

-- K is the definition's answer: term n, and the tables hold what is made
pub record Builds (I W J X : List ℕ) (old : Mark) (K : Out Made Tree) (behind n place : ℕ) (new : Mark) : Type 0 where
  pub grown : Grown I W J X old new
  pub makes : K ≡ ok (get_or (made J X new) n (var 0)) (made J X new)
  pub there : n < new.terms
  pub after : place ≡ behind

-- the definition refuses by question q, and the tables hold what was made until then
pub record Stops (I W J X : List ℕ) (old : Mark) (K : Out Made Tree) (q d : ℕ) (new : Mark) : Type 0 where
  pub grown : Grown I W J X old new
  pub makes : K ≡ refuse q d (made J X new)

abbrev pub BuiltAs : List ℕ → List ℕ → List ℕ → List ℕ → Mark → Mark → Out Made Tree → ℕ → Result Built Question → Type 0
BuiltAs I W J X old new K behind (Ok b) = Builds I W J X old K behind b.term b.end new
BuiltAs I W J X old new K behind (Err e) = Stops I W J X old K (number_of e) (detail_of e) new

pub record BuiltBy (I W J X : List ℕ) (old new : Mark) (K : Out Made Tree) (behind : ℕ) (r : Result Built Question) : Type 0 where
  pub says : BuiltAs I W J X old new K behind r

-- whatever pattern stands there
abbrev pub BuiltAt : List ℕ → List ℕ → List ℕ → List ℕ → List ℕ → List ℕ → Mark → Mark → List ℕ → ℕ → Result Built Question → Type 0
BuiltAt S P I W J X old new B at r =
    (p : Tree) → Stands S P at p → BuiltBy I W J X old new (build p (bound_of (made I W old) B) (made I W old)) (at + size p) r

-- As they are lent --------------------------------------------------------------------------------------------------------------

-- each is the relation of the same meaning over plain tables; s and t are the store before and after a call, `bound` and `after` what is bound
abbrev pub SkippableIn : Patterns → ℕ → ℕ → Type 0
SkippableIn p at n = Skippable p.symbols.now p.words.now at n

abbrev pub SkippedIn : Patterns → ℕ → ℕ → ℕ → Type 0
SkippedIn p at n r = Skipped p.symbols.now p.words.now at n r

abbrev pub MatchableIn : Patterns → Terms → List (Option ℕ) → ℕ → ℕ → Type 0
MatchableIn p t bound at id = Matchable p.symbols.now p.words.now t.index.now t.words.now t.mark (cells_of bound) at id

abbrev pub AllMatchableIn : Patterns → Terms → List (Option ℕ) → ℕ → List ℕ → Type 0
AllMatchableIn p t bound at ids = AllMatchable p.symbols.now p.words.now t.index.now t.words.now t.mark (cells_of bound) at ids

abbrev pub TriedIn : Patterns → Terms → List (Option ℕ) → List (Option ℕ) → ℕ → ℕ → Option ℕ → Type 0
TriedIn p t bound after at id r = TriedAt p.symbols.now p.words.now t.index.now t.words.now t.mark (cells_of bound) (cells_of after) at id r

abbrev pub AllTriedIn : Patterns → Terms → List (Option ℕ) → List (Option ℕ) → ℕ → List ℕ → Option ℕ → Type 0
AllTriedIn p t bound after at ids r = TriedAll p.symbols.now p.words.now t.index.now t.words.now t.mark (cells_of bound) (cells_of after) at ids r

abbrev pub AllMatchedIn : Patterns → Terms → List (Option ℕ) → List (Option ℕ) → ℕ → List ℕ → Bool → Type 0
AllMatchedIn p t bound after at ids r = MatchedAll p.symbols.now p.words.now t.index.now t.words.now t.mark (cells_of bound) (cells_of after) at ids r

abbrev pub BuildableIn : Patterns → Store → List (Option ℕ) → ℕ → Type 0
BuildableIn p s bound at = Buildable p.symbols.now p.words.now s.index.now s.words.now s.mark (cells_of bound) at

abbrev pub BuiltIn : Patterns → Store → Store → List (Option ℕ) → ℕ → Result Built Question → Type 0
BuiltIn p s t bound at r = BuiltAt p.symbols.now p.words.now s.index.now s.words.now t.index.now t.words.now s.mark t.mark (cells_of bound) at r
