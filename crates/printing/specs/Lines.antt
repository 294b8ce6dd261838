-- The line of an answer, without its end: a word, the numbers with a space before each, the bracket. Assumes nothing.
use Rattle.std.specs.Prelude.{ℕ, ⊤, ◌<◌, ◌^◌, ◌≡◌, List, [], ◌∷◌, ◌++◌, Result, Ok, Err}
use Rattle.std.specs.Fmt.{decimal}
use Rattle.running.specs.declared.finish.Report.{Report}
use Rattle.running.specs.declared.refusal.Refusal.{Refusal}
use Rattle.running.specs.Refusals.{refusal_of}
use Rattle.printing.specs.Written.{Decimal, decimal_written}
use mathlib.Core.Path.{refl}

-- `(accepted` and `(refused`
abbrev pub accepted : List ℕ
accepted = 40 ∷ 97 ∷ 99 ∷ 99 ∷ 101 ∷ 112 ∷ 116 ∷ 101 ∷ 100 ∷ []

abbrev pub refused : List ℕ
refused = 40 ∷ 114 ∷ 101 ∷ 102 ∷ 117 ∷ 115 ∷ 101 ∷ 100 ∷ []

-- the word and the numbers of an answer
abbrev pub word : Result Report Refusal → List ℕ
word (Ok r) = accepted
word (Err r) = refused

abbrev pub numbers : Result Report Refusal → List ℕ
numbers (Ok r) = r.steps ∷ r.goals ∷ r.open_goals ∷ r.counts.hypotheses ∷ r.counts.inductions ∷ r.counts.inversions ∷ r.counts.instances ∷ []
numbers (Err r) = (refusal_of r).number ∷ (refusal_of r).text ∷ (refusal_of r).form ∷ (refusal_of r).detail ∷ []

abbrev pub fields : List ℕ → List ℕ
fields [] = 41 ∷ []
fields (n ∷ ns) = 32 ∷ (decimal n ++ fields ns)

-- what is printed
abbrev pub line_text : Result Report Refusal → List ℕ
line_text a = word a ++ fields (numbers a)

-- a space and a number's digits, for each of them, and the bracket
abbrev pub Fields : List ℕ → List ℕ → Type 0
Fields [] text = text ≡ 41 ∷ []
Fields (n ∷ ns) text = (bytes : List ℕ) × (rest : List ℕ) × Decimal n bytes × Fields ns rest × (text ≡ 32 ∷ (bytes ++ rest))

-- numbers of 64 bits
abbrev pub Small : List ℕ → Type 0
Small [] = ⊤
Small (n ∷ ns) = (n < 2 ^ 64) × Small ns

-- the text is the line
abbrev pub Line : Result Report Refusal → List ℕ → Type 0
Line a text = (rest : List ℕ) × Fields (numbers a) rest × (text ≡ word a ++ rest)

fields_are : (ns : List ℕ) → Small ns → Fields ns (fields ns)
fields_are [] h = refl
fields_are (n ∷ ns) h = (decimal n, fields ns, decimal_written n h.0, fields_are ns h.1, refl)

-- what is printed is the line
pub line_is : (a : Result Report Refusal) → Small (numbers a) → Line a (line_text a)
line_is a h = (fields (numbers a), fields_are (numbers a) h, refl)
