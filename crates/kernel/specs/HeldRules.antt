-- Tables that hold the rules of a theory in their first cells, and what the writer of a rule cites. Assumes nothing.
use Rattle.std.specs.Prelude.{◌≡◌, ℕ, ◌+◌, ◌*◌, ◌^◌, ◌<◌, ◌≤◌, List, [], ◌∷◌, ◌++◌, Result, Ok, Err, length, take}
use Rattle.questions.specs.declared.Row.{Row}
use Rattle.questions.specs.declared.Row.TheVariants.{Rules}
use Rattle.questions.specs.declared.Question.{Question}
use Rattle.questions.specs.Numbers.{number_of, detail_of}
use Rattle.rules.specs.Limits.{RULES, RULEVARS, PATTERNS}
use Rattle.rules.specs.Out.{Out, ok, refuse}
use Rattle.rules.specs.Tree.{Tree, Trees, count_trees}
use Rattle.rules.specs.Theory.{Theory, Rule, rule_words}
use Rattle.rules.specs.Laws.Theory.{All}
use Rattle.rules.specs.TheoryTables.{prefix, prefixes, pattern_row, rule_var_row, rule_cells, rule_var_cells, pattern_cells}
use Rattle.rules.specs.Declare.{Reading}
use Rattle.sexp.specs.NameRows.{NameIn}
use Rattle.kernel.specs.Held.{Front, Form, SomeSymbolsHeld}
use Rattle.kernel.specs.Reading.{ReadSoFar, Written, Stopped}
use Rattle.kernel.specs.declared.rule.RuleRow.{RuleRow}
use Rattle.kernel.specs.declared.rule.RuleSize.{RuleSize}
use Rattle.kernel.specs.declared.patterns.RuleReader.{RuleReader}

-- Reading ------------------------------------------------------------------------------------------------------------------------

-- the words of premises and a conclusion
abbrev pub schema_cells : Trees × Tree → List ℕ
schema_cells p = prefixes p.0 ++ prefix p.1

-- what `schema` is given: a rule's form, and an empty row for its variables
pub record Beginning (text items symbols inputs : List ℕ) (known : ℕ) (row : List ℕ) (count room used : ℕ) : Type 0 where
  pub form : Form text items 4
  pub held : SomeSymbolsHeld text symbols inputs known
  pub so_far : Reading
  pub reads : ReadSoFar text row count used so_far
  pub long : room ≡ PATTERNS

-- the words of a rule behind those before, and how many premises it has
pub record SchemaWritten (text row before after : List ℕ) (used : ℕ) (given : Out Reading (Trees × Tree)) (variables premises words : ℕ) : Type 0 where
  pub written : Written schema_cells text row before after used given variables words
  pub many : count_trees written.tree.0 ≡ premises

-- text, then the row of variables, the words before and after, and how many of them were used
abbrev pub SchemaRead : List ℕ → List ℕ → List ℕ → List ℕ → ℕ → Out Reading (Trees × Tree) → Result RuleSize Question → Type 0
SchemaRead text row before after used given (Ok s) = SchemaWritten text row before after used given s.variables s.premises s.words
SchemaRead text row before after used given (Err e) = Stopped before after used given (number_of e) (detail_of e)

-- of the reader before and after
abbrev pub SchemaPart : RuleReader → RuleReader → Out Reading (Trees × Tree) → Result ℕ Question → Type 0
SchemaPart s t given (Ok n) = SchemaWritten s.known.text.now t.vars.now s.patterns.now t.patterns.now s.used given t.count n t.used
SchemaPart s t given (Err e) = Stopped s.patterns.now t.patterns.now s.used given (number_of e) (detail_of e)

abbrev pub BeginningAt : RuleReader → List ℕ → Type 0
BeginningAt s form =
    Beginning s.known.text.now form s.known.rows.now s.known.inputs.now s.known.count s.vars.now s.count (length s.patterns.now) s.used

-- The tables ---------------------------------------------------------------------------------------------------------------------

-- so many rules, whose patterns have so many words
pub record RulesHeld (text rules vars patterns : List ℕ) (count words : ℕ) (rs : List Rule) : Type 0 where
  pub many : length rs ≡ count
  pub used : rule_words rs ≡ words
  pub few : words ≤ PATTERNS
  pub long : length rules ≡ 6 * RULES
  pub longs : length vars ≡ 3 * RULEVARS * RULES
  pub room : length patterns ≡ PATTERNS
  pub front : Front rules (rule_cells rs 0)
  pub fronts : Front vars (rule_var_cells rs)
  pub written : Front patterns (pattern_cells rs)
  pub names : All (λ r. NameIn text r.name) rs
  pub vars_few : All (λ r. length r.vars ≤ RULEVARS) rs
  pub vars_named : All (λ r. All (λ v. NameIn text v.name) r.vars) rs

abbrev pub SomeRules : List ℕ → List ℕ → List ℕ → List ℕ → ℕ → ℕ → Type 0
SomeRules text rules vars patterns count words = (rs : List Rule) × RulesHeld text rules vars patterns count words rs

-- numbers that fit into the cells of a rule
pub record RuleFits (room rooms start end variables premises first last row : ℕ) : Type 0 where
  pub long : room ≡ 6 * RULES
  pub longs : rooms ≡ 3 * RULEVARS * RULES
  pub starts : start < 2 ^ 32
  pub ends : end < 2 ^ 32
  pub many : variables < 2 ^ 32
  pub judgments : premises < 2 ^ 32
  pub low : first < 2 ^ 32
  pub high : last < 2 ^ 32
  pub rows : row ≡ 3 * RULEVARS

-- those of a row
abbrev pub RowFits : ℕ → ℕ → RuleRow → ℕ → Type 0
RowFits room rooms r n = RuleFits room rooms r.name.from r.name.end r.variables r.premises r.words.from r.words.end n

-- these are the cells of a rule, and its words are the last
pub record RuleIs (text patterns : List ℕ) (r : Rule) (start end variables premises first last : ℕ) (row : List ℕ) : Type 0 where
  pub named : NameIn text r.name
  pub starts : r.name.start ≡ start
  pub ends : start + length r.name.bytes ≡ end
  pub many : length r.vars ≡ variables
  pub few : variables ≤ RULEVARS
  pub vars_named : All (λ v. NameIn text v.name) r.vars
  pub judgments : count_trees r.premises ≡ premises
  pub cells : rule_var_row r ≡ row
  pub words : take last patterns ≡ take first patterns ++ pattern_row r
  pub room : last ≤ PATTERNS

-- those of a row
abbrev pub RowIs : List ℕ → List ℕ → Rule → RuleRow → List ℕ → Type 0
RowIs text patterns u r names = RuleIs text patterns u r.name.from r.name.end r.variables r.premises r.words.from r.words.end names

-- what is stored, with so many words then, and what the lack of room leaves
abbrev pub RulePut : List ℕ → List ℕ → List ℕ → List ℕ → List ℕ → List ℕ → ℕ → ℕ → List Rule → Rule → Result (Unit {0}) Row → Type 0
RulePut text rules vars rules' vars' patterns count words rs u (Ok y) =
    (count < RULES) × RulesHeld text rules' vars' patterns (count + 1) words (rs ++ (u ∷ []))
RulePut text rules vars rules' vars' patterns count words rs u (Err e) = (RULES ≤ count) × (e ≡ Rules) × (rules' ≡ rules) × (vars' ≡ vars)

abbrev pub with_rule : Theory → Rule → Theory
with_rule T r = record { sorts = T.sorts; symbols = T.symbols; rules = T.rules ++ (r ∷ []) }

-- what the definition gives is a rule more, and n rules with w words are held now
pub record RuleStored (text rules vars patterns : List ℕ) (T : Theory) (given : Out Theory (Unit {0})) (n w : ℕ) : Type 0 where
  pub rule : Rule
  pub is : given ≡ ok tt (with_rule T rule)
  pub held : RulesHeld text rules vars patterns n w (T.rules ++ (rule ∷ []))

-- a refusal leaves what was held; words behind may have changed
pub record RuleRefused (text rules vars patterns : List ℕ) (T : Theory) (given : Out Theory (Unit {0})) (count words a d : ℕ) : Type 0 where
  pub is : given ≡ refuse a d T
  pub held : RulesHeld text rules vars patterns count words T.rules

-- text, then the tables afterwards, and what was held before
abbrev pub RuleAdded : List ℕ → List ℕ → List ℕ → List ℕ → Theory → Out Theory (Unit {0}) → ℕ → ℕ → Result ℕ Question → Type 0
RuleAdded text rules vars patterns T given count words (Ok w) = RuleStored text rules vars patterns T given (count + 1) w
RuleAdded text rules vars patterns T given count words (Err e) = RuleRefused text rules vars patterns T given count words (number_of e) (detail_of e)
