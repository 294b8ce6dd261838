-- A theory, and the questions put to it. Sorts are numbered from 1 in order of declaration; 0 stands where a judgment does and a term
-- of some sort could. Symbols (constructors and predicates together) and rules are numbered from 0. Assumes nothing.
use Rattle.std.specs.Prelude.{ℕ, ◌+◌, Bool, false, ◌&&◌, not, List, [], ◌∷◌, eqb, get_or, Option}
use Rattle.rules.specs.Text.{same}
use Rattle.rules.specs.Find.{first, every, finding}
use Rattle.rules.specs.Tree.{Tree, Trees, var, app, none, size, sizes, treeing}
use Rattle.rules.specs.Sexp.{Name}

-- output: the sort of a constructor's terms; 0 for a predicate
pub record Symbol : Type 0 where
  pub name : Name
  pub inputs : List ℕ
  pub output : ℕ

pub record RuleVar : Type 0 where
  pub name : Name
  pub sort : ℕ

-- variables are numbered by first occurrence, the premises' before the conclusion's
pub record Rule : Type 0 where
  pub name : Name
  pub vars : List RuleVar
  pub premises : Trees
  pub conclusion : Tree

pub record Theory : Type 0 where
  pub sorts : List Name
  pub symbols : List Symbol
  pub rules : List Rule

abbrev pub no_theory : Theory
no_theory = record { sorts = []; symbols = []; rules = [] }

-- Look-ups by name -----------------------------------------------------------------------------------------------------------

unfoldable pub sort_named : Theory → List ℕ → Option ℕ
sort_named T n = first (λ s. same s.bytes n) T.sorts 1

unfoldable pub is_predicate : Symbol → Bool
is_predicate s = eqb s.output 0

unfoldable pub predicate_named : Theory → List ℕ → Option ℕ
predicate_named T n = first (λ s. is_predicate s && same s.name.bytes n) T.symbols 0

unfoldable pub constructor_named : Theory → List ℕ → Option ℕ
constructor_named T n = first (λ s. not (is_predicate s) && same s.name.bytes n) T.symbols 0

unfoldable pub rule_named : Theory → List ℕ → Option ℕ
rule_named T n = first (λ r. same r.name.bytes n) T.rules 0

-- Look-ups by number ---------------------------------------------------------------------------------------------------------

abbrev pub no_name : Name
no_name = record { start = 0; bytes = [] }

abbrev pub no_symbol : Symbol
no_symbol = record { name = no_name; inputs = []; output = 0 }

abbrev pub no_rule : Rule
no_rule = record { name = no_name; vars = []; premises = none; conclusion = var 0 }

unfoldable pub inputs : Theory → ℕ → List ℕ
inputs T c = (get_or T.symbols c no_symbol).inputs

unfoldable pub output : Theory → ℕ → ℕ
output T c = (get_or T.symbols c no_symbol).output

unfoldable pub rule : Theory → ℕ → Rule
rule T r = get_or T.rules r no_rule

-- the constructors of a sort, in order of declaration
unfoldable pub constructors : Theory → ℕ → List ℕ
constructors T s = every (λ c. eqb c.output s) T.symbols 0

-- the head of a tree that is no variable
unfoldable pub head_is : ℕ → Tree → Bool
head_is c (var v) = false
head_is c (app d ts) = eqb c d

-- the rules of a predicate, in order of declaration
unfoldable pub rules_of : Theory → ℕ → List ℕ
rules_of T p = every (λ r. head_is p r.conclusion) T.rules 0

-- row 6 counts these
unfoldable pub rule_words : List Rule → ℕ
rule_words [] = 0
rule_words (r ∷ rs) = sizes r.premises + size r.conclusion + rule_words rs

-- `unfolding theories` opens all of the above, for a computation
unfoldable pub theories : Unit {0}
unfolding finding treeing same sort_named is_predicate predicate_named constructor_named rule_named inputs output rule constructors head_is rules_of rule_words
theories = tt
