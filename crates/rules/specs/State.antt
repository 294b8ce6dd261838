-- What a check has so far: the theory, variables, made trees, abbreviations, goals and facts, and the running counts. Assumes nothing.
use Rattle.std.specs.Prelude.{ℕ, ◌+◌, Bool, true, false, ◌&&◌, ◌||◌, List, [], ◌∷◌, eqb, length, get_or, Option, Some as some, None as nothing}
use Rattle.rules.specs.Text.{same}
use Rattle.rules.specs.Sexp.{Name}
use Rattle.rules.specs.Find.{Set, first, entry, has, union, minus}
use Rattle.rules.specs.Tree.{Tree, Trees, var, app, none, more, variables, variables_of, count_trees}
use Rattle.rules.specs.Store.{Made}
use Rattle.rules.specs.Theory.{Theory, no_name, output, theories}

-- text: 2 or 3, where its name stands; 0 for a variable made by `invert`, which has no name
pub record Var : Type 0 where
  pub sort : ℕ
  pub text : ℕ
  pub name : Name

pub record Def : Type 0 where
  pub name : Name
  pub term : Tree

-- hyps: the listed hypotheses; taken: its result has come
pub record Goal : Type 0 where
  pub name : Name
  pub judgment : Tree
  pub hyps : Trees
  pub taken : Bool

-- hyps: the facts that it rests on, each assumed, by rising number (an assumed fact rests on itself); premises and general are those of
-- an assumed rule; footing: rules, rising
pub record Fact : Type 0 where
  pub judgment : Tree
  pub hyps : List ℕ
  pub assumed : Bool
  pub premises : Trees
  pub general : List ℕ
  pub footing : List ℕ

pub record Counts : Type 0 where
  pub hypotheses : ℕ
  pub inductions : ℕ
  pub inversions : ℕ
  pub instances : ℕ

pub record State : Type 0 where
  pub theory : Theory
  pub vars : List Var
  pub made : Made
  pub defs : List Def
  pub goals : List Goal
  pub facts : List Fact
  pub counts : Counts

abbrev pub no_counts : Counts
no_counts = record { hypotheses = 0; inductions = 0; inversions = 0; instances = 0 }

abbrev pub begin : Theory → State
begin T = record { theory = T; vars = []; made = []; defs = []; goals = []; facts = []; counts = no_counts }

-- Sorts -----------------------------------------------------------------------------------------------------------------------

abbrev pub no_var : Var
no_var = record { sort = 0; text = 0; name = no_name }

unfoldable pub sort_of_var : List Var → ℕ → ℕ
sort_of_var vs v = (get_or vs v no_var).sort

-- a term's sort; 0 for a judgment
unfoldable pub sort_of : Theory → List Var → Tree → ℕ
sort_of T vs (var v) = sort_of_var vs v
sort_of T vs (app c ts) = output T c

-- as many terms as sorts, each of its sort
unfoldable pub fit : Theory → List Var → Trees → List ℕ → Bool
fit T vs none [] = true
fit T vs none (s ∷ ss) = false
fit T vs (more t ts) [] = false
fit T vs (more t ts) (s ∷ ss) = elim (eqb (sort_of T vs t) s) [ true ↦ fit T vs ts ss | false ↦ false ]

-- Look-ups ----------------------------------------------------------------------------------------------------------------------

unfoldable pub var_named : List Var → List ℕ → Option ℕ
var_named vs n = first (λ v. same v.name.bytes n) vs 0

-- the term that a name abbreviates
unfoldable pub abbreviated : List Def → List ℕ → Option Tree
abbreviated [] n = nothing
abbreviated (d ∷ ds) n = elim (same d.name.bytes n) [ true ↦ some d.term | false ↦ abbreviated ds n ]

unfoldable pub goal_named : List Goal → List ℕ → Option ℕ
goal_named gs n = first (λ g. same g.name.bytes n) gs 0

-- Facts -------------------------------------------------------------------------------------------------------------------------

unfoldable pub is_none : Trees → Bool
is_none none = true
is_none (more t ts) = false

unfoldable pub is_empty : List ℕ → Bool
is_empty [] = true
is_empty (x ∷ xs) = false

-- `is_plain_hyp`
unfoldable pub is_plain : Fact → Bool
is_plain f = f.assumed && (is_none f.premises && is_empty f.general)

-- the variables of a fact's judgment and premises
unfoldable pub mentioned : Fact → Set
mentioned f = union (variables f.judgment) (variables_of f.premises)

-- those that it does not generalise
unfoldable pub free : Fact → Set
free f = minus (mentioned f) (has f.general)

unfoldable pub free_at : Option Fact → Set
free_at nothing v = false
free_at (some f) v = free f v

-- `hyp_vars` of each of the facts
unfoldable pub hyp_vars : List Fact → List ℕ → Set
hyp_vars fs [] v = false
hyp_vars fs (h ∷ hs) v = free_at (entry fs h) v || hyp_vars fs hs v

-- Entries of lists ----------------------------------------------------------------------------------------------------------------

-- row 13 counts these: the hypotheses that goals list, and the hypotheses, premises and generalised variables of facts
unfoldable pub goal_entries : List Goal → ℕ
goal_entries [] = 0
goal_entries (g ∷ gs) = count_trees g.hyps + goal_entries gs

unfoldable pub fact_entries : Fact → ℕ
fact_entries f = length f.hyps + count_trees f.premises + length f.general

unfoldable pub all_entries : List Fact → ℕ
all_entries [] = 0
all_entries (f ∷ fs) = fact_entries f + all_entries fs

unfoldable pub entries : State → ℕ
entries S = goal_entries S.goals + all_entries S.facts

-- `unfolding states` opens all of the above, for a computation
unfoldable pub states : Unit {0}
unfolding theories sort_of_var sort_of fit var_named abbreviated goal_named is_none is_empty is_plain mentioned free free_at hyp_vars goal_entries fact_entries all_entries entries
states = tt
