-- What a case of `invert` may rest on, by numbers of terms: the allowed facts without premises and generalised variables are a set of their
-- judgments, the others are compared with the facts that the case rests on, one by one. Assumes nothing.
use Rattle.state.specs.Records.{fact_rows}
use Rattle.std.specs.Prelude.{◌≡◌, Bool, true, false, ◌&&◌, List, [], ◌∷◌, ℕ, ◌<◌, ◌≤◌, length, get_or, replicate, Some as some, Result, Ok, Err}
use Rattle.rules.specs.Limits.{TERMS}
use Rattle.rules.specs.Out.{Out, Act, ◌>>=◌, pure}
use Rattle.rules.specs.Find.{Set, union, has, any}
use Rattle.rules.specs.Tree.{Tree, var}
use Rattle.rules.specs.Store.{Made, number, substitute, substitutes}
use Rattle.rules.specs.Theory.{Theory, rule}
use Rattle.rules.specs.State.{State, Fact, is_none, is_empty, is_plain}
use Rattle.rules.specs.Invert.{Allowed, is_allowed, renaming}
use Rattle.rules.specs.Laws.Theory.{All}
use Rattle.rules.specs.Laws.Store.{Apart}
use Rattle.terms.specs.declared.store.Mark.{Mark}
use Rattle.terms.specs.Table.{made, args_of, Below, Good}
use Rattle.terms.specs.Lent.{made_of}
use Rattle.terms.specs.Subst.{replacement}
use Rattle.terms.specs.Sets.{holds, plus}
use Rattle.terms.specs.Theta.{Theta}
use Rattle.terms.specs.Patterns.{cells_of, bound_of, Cells}
use Rattle.terms.specs.On.{Went, Stopped}
use Rattle.kernel.specs.declared.rule_readers.Rules.{Rules}
use Rattle.kernel.specs.Readers.{FormedRules}
use Rattle.state.specs.declared.sizes.Sizes.{Sizes}
use Rattle.state.specs.Held.{records, Recorded}
use Rattle.questions.specs.Numbers.{row_number, number_of, detail_of}
use Rattle.questions.specs.declared.Row.{Row}
use Rattle.questions.specs.declared.Question.{Question}
use Rattle.terms.specs.declared.store.Store.{Store}
use Rattle.referring.specs.declared.source.Facts.{Facts}
use Rattle.referring.specs.Recall.{fact_of, Recalls}
use Rattle.casework.specs.declared.context.Grounds.{Grounds}
use Rattle.casework.specs.declared.context.Allowing.{Allowing}
use Rattle.casework.specs.declared.context.Renamed.{Renamed}

-- Allowed facts by numbers -----------------------------------------------------------------------------------------------------------

abbrev pub allowed_of : Made → List ℕ → ℕ → List ℕ → Allowed
allowed_of M ps j gs = record { premises = args_of M ps; judgment = get_or M j (var 0); general = gs }

abbrev pub allowed_as : Made → Allowing → Allowed
allowed_as M a = allowed_of M a.premises.now a.judgment a.general.now

-- facts beside some store, and terms of it that they are compared with
pub record Comparing (f : Facts) (a : Allowing) : Type 0 where
  pub index : List ℕ
  pub words : List ℕ
  pub mark : Mark
  pub recalls : Recalls (fact_rows f.records.now) f.lists.now f.n index words mark
  pub judgment : a.judgment < mark.terms
  pub premises : Below mark.terms a.premises.now

-- what is allowed, by those terms, and whether fact h is it
abbrev pub allowed_by : {f : Facts} {a : Allowing} → Comparing f a → Allowed
allowed_by {a = a} g = allowed_as (made g.index g.words g.mark) a

abbrev pub allows : {f : Facts} {a : Allowing} → Comparing f a → ℕ → Bool
allows g h = is_allowed (fact_of g.recalls.S h) (allowed_by g)

-- without premises and generalised variables
unfoldable pub plainly : Allowed → Bool
plainly a = is_none a.premises && is_empty a.general

-- the judgments of those that are so, and the others
unfoldable pub plains_of : List Allowed → List Tree
plains_of [] = []
plains_of (a ∷ bs) = elim (plainly a) [ true ↦ a.judgment ∷ plains_of bs | false ↦ plains_of bs ]

unfoldable pub others_of : List Allowed → List Allowed
others_of [] = []
others_of (a ∷ bs) = elim (plainly a) [ true ↦ others_of bs | false ↦ a ∷ others_of bs ]

unfoldable pub trees_of : Made → List ℕ → List Tree
trees_of M [] = []
trees_of M (n ∷ ns) = get_or M n (var 0) ∷ trees_of M ns

-- the set got the numbers of these trees
pub record PlainAdds (M : Made) (set set' : List ℕ) (ts : List Tree) : Type 0 where
  pub ps : List ℕ
  pub there : All (λ k. k < length M) ps
  pub trees : trees_of M ps ≡ ts
  pub is : holds set' ≡ union (holds set) (has ps)

-- of the facts `own`, those that one of the others is
abbrev pub matching : State → List ℕ → List Allowed → Set
matching S own bs h = has own h && any (is_allowed (fact_of S h)) (others_of bs)

-- the sets got what these allow
pub record Adds (M : Made) (S : State) (own plain plain' fine fine' : List ℕ) (bs : List Allowed) : Type 0 where
  pub plains : PlainAdds M plain plain' (plains_of bs)
  pub fines : holds fine' ≡ union (holds fine) (matching S own bs)

-- x, y: the sets before and after what a fact of the context allows
abbrev pub AddedAs : {f : Facts} {a : Allowing} → Comparing f a → Grounds → Grounds → Type 0
AddedAs g x y = Adds (made g.index g.words g.mark) g.recalls.S x.own.now x.plain y.plain x.fine y.fine (allowed_by g ∷ [])

-- K answers what the sets got
pub record ContextRead (A : Type 0) (I W J X : List ℕ) (old : Mark) (S : State) (K : Out Made A) (these : A → List Allowed) (own plain plain' fine fine' : List ℕ) (new : Mark) : Type 0 where
  pub answer : A
  pub went : Went I W J X old K answer new
  pub adds : Adds (made J X new) S own plain plain' fine fine' (these answer)

-- g, h: the sets before and after, for the same facts
abbrev pub ContextBy : (A : Type 0) → List ℕ → List ℕ → List ℕ → List ℕ → Mark → Mark → State → Out Made A → (A → List Allowed) → Grounds → Grounds → Result (Unit {0}) Question → Type 0
ContextBy A I W J X old new S K these g h (Ok _) = ContextRead A I W J X old S K these g.own.now g.plain h.plain g.fine h.fine new × (h.own ≡ g.own)
ContextBy A I W J X old new S K these g h (Err q) = Stopped I W J X old K (number_of q) (detail_of q) new

abbrev pub ContextAs : (A : Type 0) → Store → Store → State → Out Made A → (A → List Allowed) → Grounds → Grounds → Result (Unit {0}) Question → Type 0
ContextAs A s t S K these g h r = ContextBy A s.index.now s.words.now t.index.now t.words.now s.mark t.mark S K these g h r

-- the same where only room is asked for
abbrev pub UnderBy : (A : Type 0) → List ℕ → List ℕ → List ℕ → List ℕ → Mark → Mark → State → Out Made A → (A → List Allowed) → Grounds → Grounds → Result (Unit {0}) Row → Type 0
UnderBy A I W J X old new S K these g h (Ok _) = ContextRead A I W J X old S K these g.own.now g.plain h.plain g.fine h.fine new × (h.own ≡ g.own)
UnderBy A I W J X old new S K these g h (Err row) = Stopped I W J X old K 60 (row_number row) new

abbrev pub UnderAs : (A : Type 0) → Store → Store → State → Out Made A → (A → List Allowed) → Grounds → Grounds → Result (Unit {0}) Row → Type 0
UnderAs A s t S K these g h r = UnderBy A s.index.now s.words.now t.index.now t.words.now s.mark t.mark S K these g h r

abbrev pub one : Allowed → List Allowed
one a = a ∷ []

abbrev pub all_of : List Allowed → List Allowed
all_of bs = bs

-- a fact under a substitution
abbrev pub under : (ℕ → Tree) → Fact → Act Made Allowed
under σ f = do
  ps ← substitutes σ f.premises
  j ← substitute σ f.judgment
  pure (record { premises = ps; judgment = j; general = f.general })

-- x, y: the sets before and after fact h came in, under the substitution in these cells
abbrev pub PutUnder : Store → Store → State → List ℕ → ℕ → Grounds → Grounds → Result (Unit {0}) Row → Type 0
PutUnder s t S map h x y r = UnderAs Allowed s t S (under (replacement (made_of s) map) (fact_of S h) (made_of s)) one x y r

-- what a fact of the context is put under, and the facts that the case rests on
pub record ContextGiven (facts lists : List ℕ) (n : Sizes) (I W : List ℕ) (m : Mark) (map memo own : List ℕ) : Type 0 where
  pub recalls : Recalls facts lists n I W m
  pub cells : Theta m map
  pub empty : memo ≡ replicate TERMS 0
  pub known : Below n.facts own

abbrev pub ContextIn : Facts → Store → List ℕ → List ℕ → Grounds → Type 0
ContextIn f s map memo g = ContextGiven (fact_rows f.records.now) f.lists.now f.n s.index.now s.words.now s.mark map memo g.own.now

-- h joined the set where the test says so
abbrev pub OneMarked : Bool → ℕ → List ℕ → List ℕ → Type 0
OneMarked b h fine fine' = (b ≡ true → holds fine' ≡ plus h (holds fine)) × (b ≡ false → fine' ≡ fine)

-- of the facts `own`, those that a is joined the set
abbrev pub MarkedAs : State → List ℕ → Allowed → List ℕ → List ℕ → Type 0
MarkedAs S own a fine fine' = holds fine' ≡ union (holds fine) (λ h. has own h && is_allowed (fact_of S h) a)

-- the cells of these variables are zero, the others as they were
pub record UnboundAs (vs map map' : List ℕ) : Type 0 where
  pub long : length map' ≡ length map
  pub cells : (v : ℕ) → get_or map' v 0 ≡ elim (has vs v) [ true ↦ 0 | false ↦ get_or map v 0 ]

-- the facts in their table, whatever the other tables; their trees are few enough for a set
pub record RestsGiven (facts : List ℕ) (n : Sizes) : Type 0 where
  pub S : State
  pub footings : List ℕ
  pub lists : List ℕ
  pub trees : Made
  pub recorded : Recorded (records facts footings lists) n trees S
  pub apart : Apart trees
  pub few : length trees ≤ TERMS

abbrev pub RestsIn : Facts → Type 0
RestsIn f = RestsGiven (fact_rows f.records.now) f.n

-- whether the case may rest on fact h, by the sets
unfoldable pub rests_by : Made → Fact → ℕ → Set → Set → Bool
rests_by M f h plain fine = elim (is_plain f) [ true ↦ plain (number M f.judgment) | false ↦ f.assumed && fine h ]

abbrev pub may_rest : {facts : List ℕ} {n : Sizes} → RestsGiven facts n → Grounds → ℕ → Bool
may_rest g x h = rests_by g.trees (fact_of g.S h) h (holds x.plain) (holds x.fine)

-- The rule's premises ------------------------------------------------------------------------------------------------------------------

-- rule r, its variables bound to terms that are variables: renamed
pub record RenamedRule (symbols rules patterns : List ℕ) (n : Sizes) (I W : List ℕ) (m : Mark) (r : ℕ) (cells : List ℕ) : Type 0 where
  pub T : Theory
  pub xs : List ℕ
  pub formed : FormedRules symbols rules patterns n.rules T
  pub known : r < n.rules
  pub many : length xs ≡ length (rule T r).vars
  pub binds : (i : ℕ) → i < length xs → bound_of (made I W m) cells i ≡ some (renaming xs i)
  pub within : Cells m.terms cells
  pub good : Good I W m

abbrev pub RenamedIn : Rules → List ℕ → Sizes → Store → Renamed → Type 0
RenamedIn p symbols n s u = RenamedRule symbols p.rows.now p.patterns.now n s.index.now s.words.now s.mark u.rule (cells_of u.bound.now)

-- K answers them, and the set got their numbers
pub record PremisesRead (I W J X : List ℕ) (old : Mark) (K : Out Made (List Allowed)) (set set' : List ℕ) (new : Mark) : Type 0 where
  pub these : List Allowed
  pub went : Went I W J X old K these new
  pub adds : PlainAdds (made J X new) set set' (plains_of these)
  pub only : others_of these ≡ []

-- g, h: the sets before and after
abbrev pub PremisesBy : List ℕ → List ℕ → List ℕ → List ℕ → Mark → Mark → Out Made (List Allowed) → Grounds → Grounds → Result (Unit {0}) Question → Type 0
PremisesBy I W J X old new K g h (Ok _) = PremisesRead I W J X old K g.plain h.plain new × ((h.own ≡ g.own) × (h.fine ≡ g.fine))
PremisesBy I W J X old new K g h (Err q) = Stopped I W J X old K (number_of q) (detail_of q) new

abbrev pub PremisesAs : Store → Store → Out Made (List Allowed) → Grounds → Grounds → Result (Unit {0}) Question → Type 0
PremisesAs s t K g h r = PremisesBy s.index.now s.words.now t.index.now t.words.now s.mark t.mark K g h r
