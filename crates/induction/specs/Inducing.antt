-- What the form `induct` is given and what its parts answer: the motive in the store, a case's terms, and what a case may rest on. Assumes nothing.
use Rattle.state.specs.Records.{fact_rows, fact_feet}
use Rattle.std.specs.Prelude.{◌≡◌, Bool, true, false, ◌&&◌, ◌||◌, List, [], ◌∷◌, ℕ, zero, suc, ◌*◌, ◌<◌, ◌≤◌, eqb, length, get_or, set, take, drop, replicate, Some as some, None as nothing, Result, Ok, Err}
use Rattle.rules.specs.Limits.{ARGUMENTS, VARIABLES, FACTS, SYMBOLS, TERMS}
use Rattle.rules.specs.Out.{Out, ok, refuse, Act, ◌>>=◌, pure, ask}
use Rattle.rules.specs.Find.{entry, any, all}
use Rattle.rules.specs.Sexp.{Sexp, Sexps, cons, count, item}
use Rattle.rules.specs.Tree.{Tree, Trees, var, app, none, more, same_tree, among, single}
use Rattle.rules.specs.Store.{Made, keep, substitute, substitutes}
use Rattle.rules.specs.Theory.{constructors}
use Rattle.rules.specs.State.{State, Var, is_none}
use Rattle.rules.specs.Reference.{fact_at}
use Rattle.rules.specs.Induct.{Motive, motive_vars, keep_vars, Hyp, hypotheses, allowed_hyp, induct_case, induct_cases}
use Rattle.sexp.specs.Items.{Holds}
use Rattle.questions.specs.Numbers.{row_number, number_of, detail_of}
use Rattle.questions.specs.declared.Row.{Row}
use Rattle.questions.specs.declared.Question.{Question}
use Rattle.questions.specs.declared.Question.TheVariants.{Binding}
use Rattle.terms.specs.declared.store.Mark.{Mark}
use Rattle.terms.specs.declared.store.Terms.{Terms}
use Rattle.terms.specs.declared.store.Store.{Store}
use Rattle.terms.specs.Table.{Below, made, tree, args_of, Good}
use Rattle.terms.specs.Node.{same_words}
use Rattle.terms.specs.Sets.{holds}
use Rattle.terms.specs.On.{Went, Stopped}
use Rattle.state.specs.declared.sizes.Sizes.{Sizes}
use Rattle.state.specs.Held.{Names, VarsHeld, Spelling, records, Recorded}
use Rattle.reading.specs.declared.reader.Reader.{Reader}
use Rattle.reading.specs.Reader.{names_of}
use Rattle.reading.specs.Items.{variable_in}
use Rattle.referring.specs.declared.source.Facts.{Facts}
use Rattle.referring.specs.declared.source.Source.{Source}
use Rattle.referring.specs.Sources.{source_names}
use Rattle.referring.specs.Ids.{IDS}
use Rattle.referring.specs.Recall.{Refers}
use Rattle.referring.specs.Substitutes.{Replaceables}
use Rattle.induction.specs.declared.motive.Motive.{Motive as Statement}
use Rattle.induction.specs.declared.resting.Allowed.{Allowed}
use Rattle.induction.specs.declared.induct_cases.Case.{Case}

-- scratch as it is before a form and behind it
abbrev pub Blank : List ℕ → List ℕ → Type 0
Blank memo ids = (memo ≡ replicate TERMS 0) × (ids ≡ replicate IDS 0)

-- enough of them for a case: at most ARGUMENTS induction hypotheses, of so many premises and a judgment each
abbrev pub Roomy : ℕ → List ℕ → Type 0
Roomy width ids = ARGUMENTS * suc width ≤ length ids

-- a map that has a term for variable x at most
abbrev pub PutAt : ℕ → List ℕ → Type 0
PutAt x map = (c : ℕ) × (map ≡ set (replicate VARIABLES 0) x c)

-- The motive -------------------------------------------------------------------------------------------------------------------------

-- of variable x and its sort, by the numbers of its judgment and its premises
abbrev pub motive_in : Made → ℕ → ℕ → ℕ → List ℕ → Motive
motive_in M x sort j premises = record { variable = x; sort = sort; judgment = get_or M j (var 0); premises = args_of M premises }

abbrev pub motive_of : Made → Statement → Motive
motive_of M a = motive_in M a.x a.sort a.judgment a.premises.now

-- these are there
pub record Motived (I W : List ℕ) (m : Mark) (x j : ℕ) (premises : List ℕ) : Type 0 where
  pub good : Good I W m
  pub small : x < VARIABLES
  pub there : j < m.terms
  pub known : Below m.terms premises
  pub few : length premises ≤ FACTS

abbrev pub MotivedIn : Store → Statement → Type 0
MotivedIn s a = Motived s.index.now s.words.now s.mark a.x a.judgment a.premises.now

abbrev pub MotivedTerms : Terms → Statement → Type 0
MotivedTerms t a = Motived t.index.now t.words.now t.mark a.x a.judgment a.premises.now

-- Substitution -----------------------------------------------------------------------------------------------------------------------

-- the judgment, then the premises
unfoldable pub judgment_first : (ℕ → Tree) → Tree → Trees → Act Made Hyp
judgment_first σ j ps = do
  u ← substitute σ j
  us ← substitutes σ ps
  pure (record { premises = us; judgment = u })

-- the premises, then the judgment
unfoldable pub premises_first : (ℕ → Tree) → Tree → Trees → Act Made Hyp
premises_first σ j ps = do
  us ← substitutes σ ps
  u ← substitute σ j
  pure (record { premises = us; judgment = u })

-- terms to put under a map, with a cell for each premise
abbrev pub MovableIn : Store → Statement → List ℕ → List ℕ → List ℕ → Type 0
MovableIn s a map memo out = Replaceables s.index.now s.words.now s.mark map memo a.premises.now out × (a.judgment < s.mark.terms)

-- premises by the cells, and a judgment by its number
abbrev pub hyp_in : Made → ℕ → List ℕ → Hyp
hyp_in M j cells = record { premises = args_of M cells; judgment = get_or M j (var 0) }

-- K answers these
pub record Moved (I W J X : List ℕ) (old : Mark) (K : Out Made Hyp) (out : List ℕ) (j : ℕ) (new : Mark) : Type 0 where
  pub went : Went I W J X old K (hyp_in (made J X new) j out) new
  pub there : j < new.terms
  pub known : Below new.terms out

abbrev pub MovedBy : List ℕ → List ℕ → List ℕ → List ℕ → Mark → Mark → Out Made Hyp → List ℕ → Result ℕ Row → Type 0
MovedBy I W J X old new K out (Ok j) = Moved I W J X old K out j new
MovedBy I W J X old new K out (Err row) = Stopped I W J X old K 60 (row_number row) new

abbrev pub MovedAs : Store → Store → Out Made Hyp → List ℕ → Result ℕ Row → Type 0
MovedAs s t K out r = MovedBy s.index.now s.words.now t.index.now t.words.now s.mark t.mark K out r

-- A case's terms ---------------------------------------------------------------------------------------------------------------------

-- variables as trees
unfoldable pub var_trees : List ℕ → Trees
var_trees [] = none
var_trees (v ∷ vs) = more (var v) (var_trees vs)

-- a constructor over variables
unfoldable pub keep_case : ℕ → List ℕ → Act Made Tree
keep_case c vs = do
  ts ← keep_vars vs
  keep (app c ts)

-- a constructor that can be kept over these
pub record Casing (I W : List ℕ) (m : Mark) (c : ℕ) (vs : List ℕ) : Type 0 where
  pub good : Good I W m
  pub symbol : c < SYMBOLS
  pub narrow : length vs ≤ ARGUMENTS
  pub small : Below VARIABLES vs

abbrev pub CasingIn : Store → ℕ → List ℕ → Type 0
CasingIn s c vs = Casing s.index.now s.words.now s.mark c vs

-- the motive at the constructor
unfoldable pub at_constructor : Motive → ℕ → List ℕ → Act Made Hyp
at_constructor M c vs = do
  t ← keep_case c vs
  judgment_first (single M.variable t) M.judgment M.premises

-- Induction hypotheses ---------------------------------------------------------------------------------------------------------------

-- so many in the cells: each has k premises, and its judgment behind them
unfoldable pub hyps_in : Made → ℕ → ℕ → List ℕ → List Hyp
hyps_in M k zero cells = []
hyps_in M k (suc n) cells = hyp_in M (get_or cells k 0) (take k cells) ∷ hyps_in M k n (drop (suc k) cells)

-- one of them, by numbers
unfoldable pub row_among : ℕ → ℕ → List ℕ → List ℕ → ℕ → Bool
row_among k zero cells ps j = false
row_among k (suc n) cells ps j = (same_words (take k cells) ps && eqb (get_or cells k 0) j) || row_among k n (drop (suc k) cells) ps j

-- K answers those in the cells before end
pub record HypsMade (I W J X : List ℕ) (old : Mark) (K : Out Made (List Hyp)) (k most : ℕ) (ids : List ℕ) (end : ℕ) (new : Mark) : Type 0 where
  pub many : ℕ
  pub went : Went I W J X old K (hyps_in (made J X new) k many ids) new
  pub place : end ≡ many * suc k
  pub known : Below new.terms (take end ids)
  pub few : many ≤ most

abbrev pub HypsMadeBy : List ℕ → List ℕ → List ℕ → List ℕ → Mark → Mark → Out Made (List Hyp) → ℕ → ℕ → List ℕ → Result ℕ Row → Type 0
HypsMadeBy I W J X old new K k most ids (Ok end) = HypsMade I W J X old K k most ids end new
HypsMadeBy I W J X old new K k most ids (Err row) = Stopped I W J X old K 60 (row_number row) new

abbrev pub HypsMadeAs : Store → Store → Out Made (List Hyp) → ℕ → ℕ → List ℕ → Result ℕ Row → Type 0
HypsMadeAs s t K k most ids r = HypsMadeBy s.index.now s.words.now t.index.now t.words.now s.mark t.mark K k most ids r

-- What a case may rest on ------------------------------------------------------------------------------------------------------------

-- the judgments that a plain hypothesis may have
unfoldable pub plain_at : Motive → Trees → List Hyp → Tree → Bool
plain_at M ps ihs t = among ps t || (is_none M.premises && any (λ i. same_tree i.judgment t) ihs)

-- the facts, the motive M with the set of its variables, its premises ps at the constructor, the induction hypotheses, which fill the cells, and the
-- set of the terms that a plain hypothesis may be
pub record Resting (facts lists : List ℕ) (n : Sizes) (plain used : List ℕ) (x k : ℕ) (ids : List ℕ) : Type 0 where
  pub S : State
  pub footings : List ℕ
  pub I : List ℕ
  pub W : List ℕ
  pub m : Mark
  pub M : Motive
  pub ps : Trees
  pub many : ℕ
  pub recorded : Recorded (records facts footings lists) n (made I W m) S
  pub good : Good I W m
  pub variable_is : M.variable ≡ x
  pub used_are : holds used ≡ motive_vars M
  pub plain_are : (t : ℕ) → t < m.terms → holds plain t ≡ plain_at M ps (hyps_in (made I W m) k many ids) (tree I W m t)
  pub narrow : k ≤ FACTS
  pub filled : length ids ≡ many * suc k
  pub known : Below m.terms ids

abbrev pub RestingIn : Facts → Allowed → Type 0
RestingIn f a = Resting (fact_rows f.records.now) f.lists.now f.n a.plain.now a.used.now a.x a.rows.width a.rows.cells.now

-- its terms, and the induction hypotheses
module _ {facts lists : List ℕ} {n : Sizes} {plain used : List ℕ} {x k : ℕ} {ids : List ℕ} (g : Resting facts lists n plain used x k ids) where
  abbrev pub made_in : Made
  made_in = made g.I g.W g.m

  abbrev pub hyps_given : List Hyp
  hyps_given = hyps_in made_in k g.many ids

-- the same before the judgments of the induction hypotheses are in the set; the case's judgment is there
pub record BeforeRest (facts lists : List ℕ) (n : Sizes) (plain used : List ℕ) (x k : ℕ) (ids : List ℕ) (j : ℕ) : Type 0 where
  pub S : State
  pub footings : List ℕ
  pub I : List ℕ
  pub W : List ℕ
  pub m : Mark
  pub M : Motive
  pub ps : Trees
  pub many : ℕ
  pub recorded : Recorded (records facts footings lists) n (made I W m) S
  pub good : Good I W m
  pub variable_is : M.variable ≡ x
  pub premises_are : is_none M.premises ≡ eqb k 0
  pub used_are : holds used ≡ motive_vars M
  pub plain_are : (t : ℕ) → t < m.terms → holds plain t ≡ among ps (tree I W m t)
  pub narrow : k ≤ FACTS
  pub filled : length ids ≡ many * suc k
  pub known : Below m.terms ids
  pub there : j < m.terms

-- fact i concludes the case, and rests on what it may
unfoldable pub case_fact : State → Motive → Trees → List Hyp → ℕ → Tree → Act Made (Unit {0})
case_fact S M ps ihs i j = do
  f ← fact_at S i
  _ ← ask 43 (same_tree f.judgment j)
  ask 44 (all (λ h. allowed_hyp M ps ihs (entry S.facts h)) f.hyps)

-- it is asked, and nothing is made
abbrev pub asked : Result (Unit {0}) Question → Act Made (Unit {0})
asked (Ok _) U = ok tt U
asked (Err q) U = refuse (number_of q) (detail_of q) U

-- Cases ------------------------------------------------------------------------------------------------------------------------------

-- the rest of a case behind its variables
unfoldable pub case_terms : State → Motive → ℕ → ℕ → List ℕ → List ℕ → Act Made (Unit {0})
case_terms S M i c vs ss = do
  h ← at_constructor M c vs
  ihs ← hypotheses M vs ss
  case_fact S M h.premises ihs i h.judgment

-- the case's variables: as many of the cells as there are sorts
abbrev pub own_of : Case → List ℕ
own_of k = take (length k.sorts.now) k.own

abbrev pub case_behind : State → Motive → Case → Act Made (Unit {0})
case_behind S M k = case_terms S M k.fact k.constructor (own_of k) k.sorts.now

-- facts and terms, the motive with the set of its variables
pub record InCase (facts lists : List ℕ) (n : Sizes) (I W : List ℕ) (m : Mark) (x sort j : ℕ) (premises used : List ℕ) : Type 0 where
  pub S : State
  pub footings : List ℕ
  pub recorded : Recorded (records facts footings lists) n (made I W m) S
  pub motived : Motived I W m x j premises
  pub used_are : holds used ≡ motive_vars (motive_in (made I W m) x sort j premises)

abbrev pub CaseIn : Facts → Store → Statement → List ℕ → Type 0
CaseIn f s m used = InCase (fact_rows f.records.now) f.lists.now f.n s.index.now s.words.now s.mark m.x m.sort m.judgment m.premises.now used

-- the case's constructor can be kept over its variables
abbrev pub Cased : Store → Case → Type 0
Cased s k = Casing s.index.now s.words.now s.mark k.constructor (own_of k) × (length k.sorts.now ≡ length (own_of k))

-- variables, and the cells hold as many items as there are sorts
pub record CaseNames (goals text vars : List ℕ) (count-vars : ℕ) (sorts used cells : List ℕ) : Type 0 where
  pub S : State
  pub xs : Sexps
  pub held : VarsHeld goals text vars count-vars S.vars
  pub holds : Holds text cells xs
  pub many : count xs ≡ length sorts
  pub few : length sorts ≤ ARGUMENTS

abbrev pub NamesIn : Reader → List ℕ → List ℕ → List ℕ → Type 0
NamesIn r sorts used cells = CaseNames r.goals.now r.text.now r.vars.now r.n.vars sorts used cells

-- K answers the case's variables, which are so many of the cells
pub record Named (K : Act Made (List ℕ)) (many : ℕ) (own : List ℕ) : Type 0 where
  pub are : (U : Made) → K U ≡ ok (take many own) U
  pub small : Below VARIABLES (take many own)
  pub long : length own ≡ ARGUMENTS

abbrev pub NamedAs : Act Made (List ℕ) → ℕ → Result (List ℕ) Question → Type 0
NamedAs K many (Ok own) = Named K many own
NamedAs K many (Err q) = (U : Made) → K U ≡ refuse (number_of q) (detail_of q) U

-- texts and tables, the set of the motive's variables, and the cells begin with an item
pub record CaseItem (K : Names) (n : Sizes) (used cells : List ℕ) : Type 0 where
  pub S : State
  pub trees : Made
  pub y : Sexp
  pub ys : Sexps
  pub spelling : Spelling K n trees S
  pub items : Holds K.text cells (cons y ys)

abbrev pub ReadsCase : Reader → List ℕ → List ℕ → Type 0
ReadsCase r used cells = CaseItem (names_of r) r.n used cells

-- the item y spells the case of constructor c over these variables, of these sorts, by fact i
pub record CaseRead (S : State) (M : Motive) (y : Sexp) (c i : ℕ) (own sorts : List ℕ) : Type 0 where
  pub is : (U : Made) → induct_case S M y c U ≡ case_terms S M i c own sorts U
  pub narrow : length own ≤ ARGUMENTS
  pub small : Below VARIABLES own
  pub many : length sorts ≡ length own

abbrev pub CaseAs : State → Motive → Sexp → ℕ → Result Case Question → Type 0
CaseAs S M y c (Ok k) = CaseRead S M y c k.fact (own_of k) k.sorts.now × (k.constructor ≡ c)
CaseAs S M y c (Err q) = (U : Made) → induct_case S M y c U ≡ refuse (number_of q) (detail_of q) U

-- texts and tables, the motive with the set of its variables, and the cells hold some items
pub record CaseItems (K : Names) (facts footings lists : List ℕ) (n : Sizes) (I W : List ℕ) (m : Mark) (x sort j : ℕ) (premises used cells : List ℕ) : Type 0 where
  pub S : State
  pub xs : Sexps
  pub refers : Refers K facts footings lists n I W m S
  pub motived : Motived I W m x j premises
  pub used_are : holds used ≡ motive_vars (motive_in (made I W m) x sort j premises)
  pub items : Holds K.text cells xs

abbrev pub ReadsCases : Source → Store → Statement → List ℕ → List ℕ → Type 0
ReadsCases s t m used cells =
    CaseItems (source_names s) (fact_rows s.records.now) (fact_feet s.records.now) s.lists.now s.reader.n t.index.now t.words.now t.mark m.x m.sort m.judgment m.premises.now used cells

-- The form ---------------------------------------------------------------------------------------------------------------------------

-- the cases of a motive
unfoldable pub on_motive : State → Motive → Sexps → Act Made (Unit {0})
on_motive S M cs = do
  _ ← ask 41 (eqb (count cs) (length (constructors S.theory M.sort)))
  _ ← ask 45 (motive_vars M M.variable)
  induct_cases S M cs (constructors S.theory M.sort)

-- texts and tables, the motive, and the cells hold some items
pub record MotiveItems (K : Names) (facts footings lists : List ℕ) (n : Sizes) (I W : List ℕ) (m : Mark) (x j : ℕ) (premises cells : List ℕ) : Type 0 where
  pub S : State
  pub xs : Sexps
  pub refers : Refers K facts footings lists n I W m S
  pub motived : Motived I W m x j premises
  pub items : Holds K.text cells xs

abbrev pub ReadsMotive : Source → Store → Statement → List ℕ → Type 0
ReadsMotive s t m cells =
    MotiveItems (source_names s) (fact_rows s.records.now) (fact_feet s.records.now) s.lists.now s.reader.n t.index.now t.words.now t.mark m.x m.judgment m.premises.now cells

-- texts and tables, a variable, a set of facts, and the cells begin with two items
pub record InductForm (K : Names) (facts footings lists : List ℕ) (n : Sizes) (I W : List ℕ) (m : Mark) (x : ℕ) (hyps cells : List ℕ) : Type 0 where
  pub S : State
  pub y : Sexp
  pub z : Sexp
  pub zs : Sexps
  pub refers : Refers K facts footings lists n I W m S
  pub variable_known : x < length S.vars
  pub earlier : (v : ℕ) → holds hyps v ≡ true → v < length S.facts
  pub items : Holds K.text cells (cons y (cons z zs))

abbrev pub ReadsInduct : Source → Store → ℕ → List ℕ → List ℕ → Type 0
ReadsInduct s t x hyps cells =
    InductForm (source_names s) (fact_rows s.records.now) (fact_feet s.records.now) s.lists.now s.reader.n t.index.now t.words.now t.mark x hyps cells

-- variables, and the cells hold the items of a form, its variable among them
pub record SubjectItems (goals text vars : List ℕ) (count-vars : ℕ) (cells : List ℕ) : Type 0 where
  pub S : State
  pub xs : Sexps
  pub held : VarsHeld goals text vars count-vars S.vars
  pub holds : Holds text cells xs
  pub many : 3 ≤ count xs

abbrev pub ReadsSubject : Reader → List ℕ → Type 0
ReadsSubject r cells = SubjectItems r.goals.now r.text.now r.vars.now r.n.vars cells

-- the form's variable; or it names none
abbrev pub SubjectAs : List Var → Sexps → Result ℕ Question → Type 0
SubjectAs vs xs (Ok x) = variable_in vs (item xs 2) ≡ some x
SubjectAs vs xs (Err q) = (variable_in vs (item xs 2) ≡ nothing) × (q ≡ Binding)
