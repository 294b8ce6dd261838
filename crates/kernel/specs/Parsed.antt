-- What the contract of `parse` cites: all tables of a theory, what they hold while declarations are taken, and what they are when a text
-- is judged. Assumes nothing.
use Rattle.std.specs.Prelude.{◌≡◌, ℕ, ◌-◌, ◌*◌, ◌≤◌, List, ◌++◌, length, take, replicate, Option, Some as some, None as nothing, Result, Ok, Err}
use Rattle.rules.specs.Limits.{LENGTH, SORTS, SYMBOLS, ARGUMENTS, RULES, RULEVARS, PATTERNS}
use Rattle.rules.specs.Out.{Out, ok, refuse}
use Rattle.rules.specs.Sexp.{Sexp, Sexps, atom, list, item, count, read}
use Rattle.rules.specs.Tags.{Declaration, declaration}
use Rattle.rules.specs.Theory.{Theory, no_theory, rule_words}
use Rattle.rules.specs.Declare.{declare_as, declare}
use Rattle.rules.specs.Loop.{Judged as Verdict, done, refused, whole}
use Rattle.rules.specs.TheoryTables.{sort_table, symbol_table, input_table, rule_table, rule_var_table, pattern_table}
use Rattle.rules.specs.StateTables.{laid}
use Rattle.sexp.specs.Encode.{encode}
use Rattle.sexp.specs.Spelt.{Spelt}
use Rattle.sexp.specs.Items.{Holds}
use Rattle.kernel.specs.Held.{SortsHeld, SymbolsHeld}
use Rattle.kernel.specs.HeldRules.{RulesHeld}
use Rattle.questions.specs.declared.Question.{Question}
use Rattle.questions.specs.declared.Refused.{Refused}
use Rattle.questions.specs.Numbers.{number_of, detail_of}
use Rattle.kernel.specs.declared.tables.Counts.{Counts}

-- the six tables of a theory
pub record TheoryLists : Type 0 where
  pub sorts : List ℕ
  pub symbols : List ℕ
  pub inputs : List ℕ
  pub rules : List ℕ
  pub rule_vars : List ℕ
  pub patterns : List ℕ

abbrev pub theory_lists : (sorts symbols inputs rules vars patterns : List ℕ) → TheoryLists
theory_lists s y i r v p = record { sorts = s; symbols = y; inputs = i; rules = r; rule_vars = v; patterns = p }

-- While declarations are taken -----------------------------------------------------------------------------------------------------

-- their first cells hold a theory
pub record TheoryHeld (text : List ℕ) (t : TheoryLists) (n : Counts) (T : Theory) : Type 0 where
  pub sorts : SortsHeld text t.sorts n.sorts T.sorts
  pub symbols : SymbolsHeld text t.symbols t.inputs n.symbols T.symbols
  pub rules : RulesHeld text t.rules t.rule_vars t.patterns n.rules n.words T.rules

-- the cells of one form of the text
pub record Formed (text cells : List ℕ) (x : Sexp) : Type 0 where
  pub encoded : cells ≡ encode x
  pub spelt : Spelt text x

-- what `declare` is given
pub record Declaring (text cells : List ℕ) (t : TheoryLists) (n : Counts) : Type 0 where
  pub x : Sexp
  pub formed : Formed text cells x
  pub T : Theory
  pub held : TheoryHeld text t n T
  pub short : length text ≤ LENGTH

-- what `declare_items` is given
pub record ItemsDeclaring (text items : List ℕ) (t : TheoryLists) (n : Counts) : Type 0 where
  pub xs : Sexps
  pub holds : Holds text items xs
  pub T : Theory
  pub held : TheoryHeld text t n T
  pub short : length text ≤ LENGTH

-- the tag of a form with so many items, by the first of them
unfoldable pub headed : Sexp → ℕ → Option Declaration
headed (atom p bs) n = declaration bs n
headed (list xs) n = nothing

abbrev pub tagged : Sexps → Option Declaration
tagged xs = headed (item xs 0) (count xs)

-- what the definition gives for items that have that tag
abbrev pub taken : Option Declaration → Sexps → Theory → Out Theory (Unit {0})
taken nothing xs T = refuse 10 0 T
taken (some d) xs T = declare_as d xs T

-- the form is taken: what the definition gives is held now
pub record Taken (text : List ℕ) (t : TheoryLists) (given : Out Theory (Unit {0})) (n : Counts) : Type 0 where
  pub now : Theory
  pub is : given ≡ ok tt now
  pub held : TheoryHeld text t n now

-- the form is refused: what was held before is held still
abbrev pub DeclaredAs : List ℕ → TheoryLists → Counts → Theory → Out Theory (Unit {0}) → Result Unit Question → Type 0
DeclaredAs text t n T given (Ok u) = Taken text t given n
DeclaredAs text t n T given (Err e) = (given ≡ refuse (number_of e) (detail_of e) T) × TheoryHeld text t n T

-- The answer ---------------------------------------------------------------------------------------------------------------------

abbrev pub counts_of : Theory → Counts
counts_of T = record { sorts = length T.sorts; symbols = length T.symbols; rules = length T.rules; words = rule_words T.rules }

-- what was declared before the end or the refusal
abbrev pub theory_of : Verdict Theory → Theory
theory_of (done k T) = T
theory_of (refused n d k T) = T

-- what the definition says of a text
unfoldable pub verdict : List ℕ → Verdict Theory
verdict text = whole declare (read text) no_theory

-- the number of the text's forms, or the question that was answered by no, with the number of the forms before
abbrev pub JudgedAs : Verdict Theory → Result ℕ Refused → Type 0
JudgedAs J (Ok k) = J ≡ done k (theory_of J)
JudgedAs J (Err e) = J ≡ refused (number_of e.question) (detail_of e.question) e.form (theory_of J)

-- every declaration that was taken is held
pub record Run (text : List ℕ) (t : TheoryLists) (n : Counts) (J : Verdict Theory) (r : Result ℕ Refused) : Type 0 where
  pub answers : JudgedAs J r
  pub held : TheoryHeld text t n (theory_of J)

-- nothing is used
abbrev pub no_counts : Counts
no_counts = record { sorts = 0; symbols = 0; rules = 0; words = 0 }

-- what is used lies inside the tables
pub record CountsFit (t : TheoryLists) (n : Counts) : Type 0 where
  pub sorts : 2 * n.sorts ≤ length t.sorts
  pub symbols : 4 * n.symbols ≤ length t.symbols
  pub inputs : ARGUMENTS * n.symbols ≤ length t.inputs
  pub rules : 6 * n.rules ≤ length t.rules
  pub rule_vars : 3 * RULEVARS * n.rules ≤ length t.rule_vars
  pub patterns : n.words ≤ length t.patterns

-- zero from a place on
abbrev pub zero_from : ℕ → List ℕ → List ℕ
zero_from k l = take k l ++ replicate (length l - k) 0

-- the tables with zero behind what is used
abbrev pub wiped : TheoryLists → Counts → TheoryLists
wiped t n =
    theory_lists (zero_from (2 * n.sorts) t.sorts) (zero_from (4 * n.symbols) t.symbols) (zero_from (ARGUMENTS * n.symbols) t.inputs)
    (zero_from (6 * n.rules) t.rules) (zero_from (3 * RULEVARS * n.rules) t.rule_vars) (zero_from n.words t.patterns)

-- tables of these lengths have their named ones at least
pub record TheoryFits (a b c d e f : ℕ) : Type 0 where
  pub sorts : 2 * SORTS ≤ a
  pub symbols : 4 * SYMBOLS ≤ b
  pub inputs : ARGUMENTS * SYMBOLS ≤ c
  pub rules : 6 * RULES ≤ d
  pub rule_vars : 3 * RULEVARS * RULES ≤ e
  pub patterns : PATTERNS ≤ f

abbrev pub Roomy : TheoryLists → Type 0
Roomy t = TheoryFits (length t.sorts) (length t.symbols) (length t.inputs) (length t.rules) (length t.rule_vars) (length t.patterns)

-- just these
pub record Exact (t : TheoryLists) : Type 0 where
  pub sorts : length t.sorts ≡ 2 * SORTS
  pub symbols : length t.symbols ≡ 4 * SYMBOLS
  pub inputs : length t.inputs ≡ ARGUMENTS * SYMBOLS
  pub rules : length t.rules ≡ 6 * RULES
  pub rule_vars : length t.rule_vars ≡ 3 * RULEVARS * RULES
  pub patterns : length t.patterns ≡ PATTERNS

-- the tables of a theory: its entries, and zero behind
abbrev pub theory_tables : Theory → TheoryLists
theory_tables T = theory_lists (sort_table T) (symbol_table T) (input_table T) (rule_table T) (rule_var_table T) (pattern_table T)

-- the same in tables that may be longer: past the named lengths what was there
abbrev pub laid_theory : TheoryLists → Theory → TheoryLists
laid_theory t T =
    theory_lists (laid (sort_table T) t.sorts) (laid (symbol_table T) t.symbols) (laid (input_table T) t.inputs) (laid (rule_table T) t.rules)
    (laid (rule_var_table T) t.rule_vars) (laid (pattern_table T) t.patterns)

-- the tables of a theory hold it, which is what the readers ask for; the names stand in the text
abbrev pub LaidHeld : List ℕ → Theory → Type 0
LaidHeld text T = TheoryHeld text (theory_tables T) (counts_of T) T
