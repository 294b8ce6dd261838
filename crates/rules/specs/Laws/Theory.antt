-- What every theory that the definition reaches is: `WellFormed`. Laws/Declare proves that each declaration keeps it. Assumes nothing.
use Rattle.std.specs.Prelude.{ℕ, zero, suc, ◌<◌, ◌≤◌, ◌≡◌, true, ◌⊎◌, List, [], ◌∷◌, ◌++◌, length, get_or}
use Rattle.std.proofs.Common.{arith}
use Rattle.rules.specs.Limits.{SORTS, SYMBOLS, ARGUMENTS, RULES, RULEVARS, PATTERNS}
use Rattle.rules.specs.Tree.{Tree, Trees, var, app, none, more, variables, variables_of}
use Rattle.rules.specs.Theory.{Symbol, RuleVar, Rule, Theory, inputs, output, rule_words}
use Rattle.rules.specs.Declare.{no_rule_var}

-- every entry of a list has the property
pub data All {A : Type 0} (P : A → Type 0) : List A → Type 0 where
  empty : All P []
  both : {x : A} {xs : List A} → P x → All P xs → All P (x ∷ xs)

-- the number of a declared sort
pub record IsSort (T : Theory) (s : ℕ) : Type 0 where
  pub positive : 1 ≤ s
  pub declared : s ≤ length T.sorts

-- the sort of a rule's variable
unfoldable pub sort_in : List RuleVar → ℕ → ℕ
sort_in vs i = (get_or vs i no_rule_var).sort

-- over the variables vs, a pattern of sort s: a symbol's arguments are as many as its inputs, each of its sort
unfoldable mutual
  pub Sorted : Theory → List RuleVar → Tree → ℕ → Type 0
  Sorted T vs (var i) s = (i < length vs) × (sort_in vs i ≡ s)
  Sorted T vs (app c ts) s = (c < length T.symbols) × (output T c ≡ s) × Sorteds T vs ts (inputs T c)

  pub Sorteds : Theory → List RuleVar → Trees → List ℕ → Type 0
  Sorteds T vs none [] = Unit {0}
  Sorteds T vs none (s ∷ ss) = ⊥
  Sorteds T vs (more t ts) [] = ⊥
  Sorteds T vs (more t ts) (s ∷ ss) = Sorted T vs t s × Sorteds T vs ts ss

-- a predicate over patterns
unfoldable pub Judgment : Theory → List RuleVar → Tree → Type 0
Judgment T vs (var i) = ⊥
Judgment T vs (app p ts) = (p < length T.symbols) × (output T p ≡ 0) × Sorteds T vs ts (inputs T p)

unfoldable pub Judgments : Theory → List RuleVar → Trees → Type 0
Judgments T vs none = Unit {0}
Judgments T vs (more t ts) = Judgment T vs t × Judgments T vs ts

-- a constructor's terms have a declared sort; 0 is a predicate's output
pub record SymbolFormed (T : Theory) (s : Symbol) : Type 0 where
  pub few : length s.inputs ≤ ARGUMENTS
  pub ins : All (IsSort T) s.inputs
  pub out : s.output ≤ length T.sorts

pub record RuleFormed (T : Theory) (r : Rule) : Type 0 where
  pub few : length r.vars ≤ RULEVARS
  pub sorts : All (λ v. IsSort T v.sort) r.vars
  pub premises : Judgments T r.vars r.premises
  pub conclusion : Judgment T r.vars r.conclusion
  -- each variable occurs
  pub occur : (i : ℕ) → i < length r.vars → (variables_of r.premises i ≡ true) ⊎ (variables r.conclusion i ≡ true)

-- rows 1 to 6 hold, and everything that is named is declared, of its sort
pub record WellFormed (T : Theory) : Type 0 where
  pub row1 : length T.sorts ≤ SORTS
  pub row2 : length T.symbols ≤ SYMBOLS
  pub row4 : length T.rules ≤ RULES
  pub row6 : rule_words T.rules ≤ PATTERNS
  pub symbols : All (SymbolFormed T) T.symbols
  pub rules : All (RuleFormed T) T.rules

-- All entries -----------------------------------------------------------------------------------------------------------------

module _ {A : Type 0} where
  pub all_snoc : {P : A → Type 0} {xs : List A} {y : A} → All P xs → P y → All P (xs ++ (y ∷ []))
  all_snoc empty h = both h empty
  all_snoc (both g gs) h = both g (all_snoc gs h)

  pub all_map : {P Q : A → Type 0} {xs : List A} → ((a : A) → P a → Q a) → All P xs → All Q xs
  all_map k empty = empty
  all_map k (both g gs) = both (k _ g) (all_map k gs)

  -- an entry by its number
  pub all_at : {P : A → Type 0} (xs : List A) (i : ℕ) (d : A) → All P xs → i < length xs → P (get_or xs i d)
  all_at [] i d h l = absurd (omega arith)
  all_at (x ∷ xs) zero d (both g gs) l = g
  all_at (x ∷ xs) (suc i) d (both g gs) l = all_at xs i d gs (omega arith)
