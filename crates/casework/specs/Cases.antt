-- The cases of `invert` as items of a form: which item is which case, and what their readers answer. Assumes nothing.
use Rattle.std.specs.Prelude.{◌≡◌, Bool, false, List, [], ◌∷◌, ◌++◌, ℕ, ◌+◌, ◌-◌, ◌*◌, ◌<◌, ◌≤◌, length, get_or, take, drop, Some as some, None as nothing, Option, Result, Ok, Err}
use denote.Ref.{Bor}
use Rattle.rules.specs.Limits.{LENGTH, VARIABLES}
use Rattle.rules.specs.Out.{ok, refuse}
use Rattle.rules.specs.Text.{same}
use Rattle.rules.specs.Lex.{letters}
use Rattle.rules.specs.Find.{any}
use Rattle.rules.specs.Sexp.{Sexp, Sexps, atom, list, cons, count, item}
use Rattle.rules.specs.Store.{Made}
use Rattle.rules.specs.State.{State, Var}
use Rattle.rules.specs.TheoryTables.{filled}
use Rattle.rules.specs.Invert.{Case, case_named, read_case, read_cases}
use Rattle.sexp.specs.Items.{Holds}
use Rattle.sexp.specs.WalkLaws.{Walk}
use Rattle.reading.specs.declared.reader.Reader.{Reader}
use Rattle.reading.specs.Given.{VarsItem, VarsItems}
use Rattle.reading.specs.Items.{index_in, vars_in}
use Rattle.cells.specs.declared.Span.{Span}
use Rattle.casework.specs.Distinct.{between, name_of, TreeIn}
use Rattle.casework.specs.declared.distinct.NameTree.{NameTree}
use Rattle.casework.specs.declared.cases.CaseRead.{CaseRead}
use Rattle.questions.specs.declared.Question.{Question}
use Rattle.questions.specs.Numbers.{number_of, detail_of}

-- where there is no case
abbrev pub no_case : Case
no_case = record { name = []; fact = 0; vars = [] }

-- item x is the case c; vs: all variables
pub record CaseItem (vs : List Var) (x : Sexp) (c : Case) : Type 0 where
  pub inner : Sexps
  pub is : x ≡ list inner
  pub three : count inner ≡ 3
  pub place : ℕ
  pub named : item inner 0 ≡ atom place c.name
  pub fact : index_in (item inner 1) ≡ some c.fact
  pub vars : vars_in vs (item inner 2) ≡ some c.vars

-- the cells begin with a case
pub record CaseFirst (text cells : List ℕ) : Type 0 where
  pub vs : List Var
  pub x : Sexp
  pub ys : Sexps
  pub c : Case
  pub holds : Holds text cells (cons x ys)
  pub case : CaseItem vs x c

-- the cells are those of cases
pub record CasesIn (text cells : List ℕ) : Type 0 where
  pub vs : List Var
  pub xs : Sexps
  pub cs : List Case
  pub holds : Holds text cells xs
  pub many : length cs ≡ count xs
  pub cases : (k : ℕ) → k < count xs → CaseItem vs (item xs k) (get_or cs k no_case)

-- what is read: the item of a case, and those of all
abbrev pub ReadsCase : Reader → List ℕ → Type 0
ReadsCase r cells = VarsItem r.goals.now r.text.now r.vars.now r.n.vars cells

abbrev pub ReadsCases : Reader → List ℕ → Type 0
ReadsCases r cells = VarsItems r.goals.now r.text.now r.vars.now r.n.vars cells

-- One case -------------------------------------------------------------------------------------------------------------------------

-- the item is read: its name begins at a place of the text, its variables are in the cells
pub record CaseIs (S : State) (text : List ℕ) (x : Sexp) (cells : List ℕ) (name : Span) (fact many : ℕ) : Type 0 where
  pub c : Case
  pub read : (M : Made) → read_case S x M ≡ ok c M
  pub case : CaseItem S.vars x c
  pub inside : name.from < length text
  pub whole : c.name ≡ letters (drop name.from text)
  pub low : name.from ≤ name.end
  pub high : name.end ≤ length text
  pub bytes : c.name ≡ between text name.from name.end
  pub number : fact ≡ c.fact
  pub count : many ≡ length c.vars
  pub cells_are : cells ≡ filled VARIABLES c.vars

abbrev pub CaseAs : State → List ℕ → Sexp → Result CaseRead Question → Type 0
CaseAs S text x (Ok r) = CaseIs S text x r.own r.name r.fact r.variables
CaseAs S text x (Err e) = ((M : Made) → read_case S x M ≡ refuse (number_of e) (detail_of e) M) × (detail_of e ≡ 0)

-- The case of a name ---------------------------------------------------------------------------------------------------------------

-- it is the item at a place: the first one of these cells
pub record CaseHere (vs : List Var) (text cells : List ℕ) (cs : List Case) (name part : List ℕ) : Type 0 where
  pub c : Case
  pub is : case_named cs name ≡ some c
  pub x : Sexp
  pub ys : Sexps
  pub p : ℕ
  pub from : part ≡ take (length cells - p) (drop p cells)
  pub walk : Walk text cells p (cons x ys)
  pub there : p < length cells
  pub case : CaseItem vs x c

abbrev pub CaseFound : List Var → List ℕ → List ℕ → List Case → List ℕ → Option (Bor (List ℕ)) → Type 0
CaseFound vs text cells cs name (some part) = CaseHere vs text cells cs name part.now
CaseFound vs text cells cs name nothing = case_named cs name ≡ nothing

-- All cases ------------------------------------------------------------------------------------------------------------------------

-- their names are in a tree of names
pub record Named (t : NameTree) (cs : List Case) : Type 0 where
  pub tree : TreeIn t
  pub many : length cs ≡ t.many
  pub each : (k : ℕ) → k < length cs → name_of t.text.now t.places.now (k + 1) ≡ (get_or cs k no_case).name

-- they are where its tables have room; where it has room for one more, it has them all
pub record Kept (t : NameTree) (cs : List Case) : Type 0 where
  pub even : length t.links.now ≡ length t.places.now
  pub short : length t.places.now ≤ LENGTH
  pub few : 2 * t.many ≤ length t.places.now
  pub named : length t.text.now ≤ LENGTH → 2 * length cs + 2 ≤ length t.places.now → Named t cs
  pub least : t.many ≤ length cs
  pub counted : length t.text.now ≤ LENGTH → 2 * t.many + 4 ≤ length t.places.now → length cs ≡ t.many

-- the cells are those of cases, and their names are kept
pub record Naming (t : NameTree) (cells : List ℕ) : Type 0 where
  pub first : CasesIn t.text.now cells
  pub kept : Kept t first.cs

-- whether one of them has the name; if none has, the name of one more is kept
pub record TakenAs (t : NameTree) (cs : List Case) (name : List ℕ) (taken : Bool) : Type 0 where
  pub is : taken ≡ any (λ (d : Case). same d.name name) cs
  pub more : taken ≡ false → (c : Case) → c.name ≡ name → Kept t (cs ++ (c ∷ []))

-- all items are cases, one a name
pub record CasesAre (S : State) (xs : Sexps) : Type 0 where
  pub cs : List Case
  pub read : (M : Made) → read_cases S xs [] M ≡ ok cs M
  pub many : length cs ≡ count xs
  pub cases : (k : ℕ) → k < count xs → CaseItem S.vars (item xs k) (get_or cs k no_case)

abbrev pub CasesAs : State → Sexps → Result (Unit {0}) Question → Type 0
CasesAs S xs (Ok _) = CasesAre S xs
CasesAs S xs (Err e) = ((M : Made) → read_cases S xs [] M ≡ refuse (number_of e) (detail_of e) M) × (detail_of e ≡ 0)
