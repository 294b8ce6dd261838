-- The limits: every row of question 60, the length of question 2 and the depth of question 5. The definition and the layout of the tables
-- name them; src/lib.rt has the same names as constants, for the code. Examples and rows at a limit spell its number. Assumes nothing.
use Rattle.std.specs.Prelude.{ℕ, ◌+◌, ◌/◌}

-- question 2: the bytes of a text
abbrev pub LENGTH : ℕ
LENGTH = 65536

-- question 5: brackets open at once
abbrev pub DEPTH : ℕ
DEPTH = 64

-- row 1
abbrev pub SORTS : ℕ
SORTS = 64

-- row 2
abbrev pub SYMBOLS : ℕ
SYMBOLS = 256

-- row 3: arguments of a symbol
abbrev pub ARGUMENTS : ℕ
ARGUMENTS = 16

-- row 4
abbrev pub RULES : ℕ
RULES = 256

-- row 5: variables of a rule
abbrev pub RULEVARS : ℕ
RULEVARS = 16

-- row 6: words of all patterns, a head or a variable each
abbrev pub PATTERNS : ℕ
PATTERNS = 8192

-- row 7: variables, made ones included
abbrev pub VARIABLES : ℕ
VARIABLES = 512

-- row 8: distinct terms
abbrev pub TERMS : ℕ
TERMS = 4096

-- row 9: words of all terms, a head or an argument each
abbrev pub WORDS : ℕ
WORDS = 16384

-- row 10: abbreviations
abbrev pub DEFS : ℕ
DEFS = 512

-- row 11
abbrev pub GOALS : ℕ
GOALS = 128

-- row 12
abbrev pub FACTS : ℕ
FACTS = 1024

-- row 13: entries of all lists, of hypotheses, premises, generalised variables and goals' hypotheses
abbrev pub ENTRIES : ℕ
ENTRIES = 16384

-- row 14: pairs waiting in one unification
abbrev pub PAIRS : ℕ
PAIRS = 512

-- What follows from them ---------------------------------------------------------------------------------------------------------------

-- the words of a node: a head and its arguments
abbrev pub NODE : ℕ
NODE = ARGUMENTS + 1

-- the words of 64 bits of a set: of variables, facts, rules, terms
abbrev pub VARIABLEWORDS : ℕ
VARIABLEWORDS = VARIABLES / 64

abbrev pub FACTWORDS : ℕ
FACTWORDS = FACTS / 64

abbrev pub RULEWORDS : ℕ
RULEWORDS = RULES / 64

abbrev pub TERMWORDS : ℕ
TERMWORDS = TERMS / 64
