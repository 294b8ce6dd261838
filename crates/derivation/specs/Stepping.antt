-- The parts of a step behind its references: what the definition says of each, what they are given and what they answer. Assumes nothing.
use Rattle.state.specs.Records.{fact_rows}
use Rattle.std.specs.Prelude.{◌≡◌, Bool, true, false, List, [], ◌∷◌, ℕ, ◌*◌, ◌<◌, ◌≤◌, eqb, length, get_or, Option, Some as some, None as nothing, Result, Ok, Err}
use Rattle.rules.specs.Limits.{SYMBOLS}
use Rattle.rules.specs.Out.{Out, Act, ◌>>=◌, pure, ask, found}
use Rattle.rules.specs.Find.{Set, has, union, rising}
use Rattle.rules.specs.Sexp.{Sexps, count, item, rest, items}
use Rattle.rules.specs.Tree.{Tree, Trees, none, variables_of, count_trees}
use Rattle.rules.specs.Store.{Made}
use Rattle.rules.specs.Theory.{Theory, Rule, rule}
use Rattle.rules.specs.Match.{Bound, match_all}
use Rattle.rules.specs.State.{State, Fact}
use Rattle.rules.specs.Reference.{scoped}
use Rattle.rules.specs.Step.{Refs, references, no_items, read_items, match_stated, conclude}
use Rattle.questions.specs.Numbers.{number_of, detail_of}
use Rattle.questions.specs.declared.Question.{Question}
use Rattle.sexp.specs.Items.{Holds}
use Rattle.kernel.specs.HeldRules.{RulesHeld}
use Rattle.terms.specs.declared.patterns.Patterns.{Patterns}
use Rattle.terms.specs.declared.store.Mark.{Mark}
use Rattle.terms.specs.declared.store.Terms.{Terms}
use Rattle.terms.specs.declared.store.Store.{Store}
use Rattle.terms.specs.Table.{tree, Good}
use Rattle.terms.specs.Sets.{holds, counted_from_1}
use Rattle.terms.specs.Patterns.{Stands, Standing, PatternAt, cells_of, bound_of, Cells}
use Rattle.terms.specs.On.{Went, Stopped}
use Rattle.state.specs.declared.sizes.Sizes.{Sizes}
use Rattle.state.specs.Held.{Names, RuleLists, Ruled}
use Rattle.state.specs.Members.{Under}
use Rattle.reading.specs.declared.reader.Reader.{Reader}
use Rattle.reading.specs.Reader.{names_of}
use Rattle.reading.specs.Answers.{TermRead}
use Rattle.referring.specs.declared.source.Source.{Source}
use Rattle.referring.specs.declared.support.Support.{Support}
use Rattle.referring.specs.declared.support.Derived.{Derived}
use Rattle.referring.specs.Recall.{Refers}
use Rattle.referring.specs.Sources.{source_names}
use Rattle.referring.specs.Derived.{RuleItems, RefsRead}
use Rattle.derivation.specs.declared.items.OneRule.{OneRule}
use Rattle.derivation.specs.declared.items.Said.{Said}
use Rattle.derivation.specs.declared.step.Brought.{Brought}
use Rattle.derivation.specs.declared.step.Concluded.{Concluded}
use Rattle.derivation.specs.ItemsOf.{tables_of}

-- The definition ---------------------------------------------------------------------------------------------------------------------

-- question 38: the conclusion of a rule over the judgments ts, with what is stated and bound
unfoldable pub concluded : Rule → Trees → Option Tree → Bound → Act Made Tree
concluded R ts stated b = do
  c ← found 38 (match_stated R.conclusion stated b)
  d ← found 38 (match_all R.premises ts c)
  conclude R.conclusion stated d

-- from the items on: which variables are used, and the conclusion
unfoldable pub from_items : State → Rule → Trees → Sexps → Act Made (Set × Tree)
from_items S R ts xs = do
  it ← read_items S R xs no_items
  j ← concluded R ts it.stated it.bound
  pure (union (variables_of ts) (variables_of it.values), j)

-- and question 39, over the hypotheses hs
unfoldable pub in_scope : State → Rule → Trees → List ℕ → Sexps → Act Made Tree
in_scope S R ts hs xs = do
  u ← from_items S R ts xs
  _ ← scoped S u.0 u.1 hs
  pure u.1

-- from the references on, by rule r
unfoldable pub by_rule : State → ℕ → Sexps → Act Made (Fact × ℕ)
by_rule S r xs = do
  ys ← items 37 (item xs 3)
  _ ← ask 37 (eqb (count ys) (count_trees (rule S.theory r).premises))
  rs ← references S ys
  let hs = rising (length S.facts) rs.hyps
  j ← in_scope S (rule S.theory r) rs.judgments hs (rest xs 4)
  pure (
    record {
      judgment = j;
      hyps = hs;
      assumed = false;
      premises = none;
      general = [];
      footing = rising (length S.theory.rules) (union (has (r ∷ [])) rs.footing);
    },
    rs.instances,
  )

-- Given ------------------------------------------------------------------------------------------------------------------------------

-- K is the definition's answer, r whether there is one, and C the cells; without a match nothing is said of the cells
pub data MatchedAs (M : Made) (C : List ℕ) (K : Option Bound) (r : Bool) : Type 0 where
  matched : K ≡ some (bound_of M C) → Cells (length M) C → r ≡ true → MatchedAs M C K r
  unmatched : K ≡ nothing → r ≡ false → MatchedAs M C K r

-- a pattern at place, what is bound in the cells B, and what is stated, by its number with 1 added
pub record StatedMatchable (S P I W : List ℕ) (m : Mark) (B : List ℕ) (place stated : ℕ) : Type 0 where
  pub good : Good I W m
  pub symbols : length S ≡ 4 * SYMBOLS
  pub reads : PatternAt S P place
  pub cells : Cells m.terms B
  pub known : stated ≤ m.terms

-- the words of a rule, its premises from first on and its conclusion at place; terms for the premises, what is bound in the cells B, and what is
-- stated, by its number with 1 added
pub record Concludable (S P I W : List ℕ) (m : Mark) (B : List ℕ) (first place : ℕ) (ids : List ℕ) (stated : ℕ) : Type 0 where
  pub rule : Rule
  pub good : Good I W m
  pub symbols : length S ≡ 4 * SYMBOLS
  pub premises : Standing S P first rule.premises
  pub conclusion : Stands S P place rule.conclusion
  pub many : count_trees rule.premises ≡ length ids
  pub cells : Cells m.terms B
  pub there : (k : ℕ) → k < length ids → get_or ids k 0 < m.terms
  pub known : stated ≤ m.terms

-- items beside rule r, and terms for its premises
pub record Concludes (K : Names) (P : RuleLists) (n : Sizes) (I W : List ℕ) (m : Mark) (r : ℕ) (cells ids : List ℕ) : Type 0 where
  pub given : RuleItems K P n I W m r cells
  pub many : count_trees (rule given.S.theory r).premises ≡ length ids
  pub there : (k : ℕ) → k < length ids → get_or ids k 0 < m.terms

-- a form of which the references are read: terms for the premises of rule r, and what they rest on
pub record Scopes (K : Names) (P : RuleLists) (facts lists : List ℕ) (n : Sizes) (I W : List ℕ) (m : Mark) (r : ℕ) (cells ids hyps : List ℕ) : Type 0 where
  pub S : State
  pub xs : Sexps
  pub footings : List ℕ
  pub refers : Refers K facts footings lists n I W m S
  pub ruled : Ruled P n S.theory
  pub known : r < n.rules
  pub holding : Holds K.text cells xs
  pub many : count_trees (rule S.theory r).premises ≡ length ids
  pub there : (k : ℕ) → k < length ids → get_or ids k 0 < m.terms
  pub earlier : Under (length S.facts) (holds hyps)

-- rule r has k premises, in whatever theory the rows of rules hold
abbrev pub PremisesOf : List ℕ → ℕ → ℕ → Type 0
PremisesOf rules r k =
    (T : Theory) (text vars patterns : List ℕ) (count words : ℕ) → RulesHeld text rules vars patterns count words T.rules → r < count →
    k ≡ count_trees (rule T r).premises

-- As they are lent -------------------------------------------------------------------------------------------------------------------

-- the rule is known, and has k premises
abbrev pub KnownRule : Reader → OneRule → ℕ → Type 0
KnownRule r u k = (u.number < r.n.rules) × PremisesOf u.rules.rows.now u.number k

abbrev pub StatedIn : Patterns → Terms → List ℕ → ℕ → Option ℕ → Type 0
StatedIn p t B place stated = StatedMatchable p.symbols.now p.words.now t.index.now t.words.now t.mark B place (counted_from_1 stated)

abbrev pub ConcludableIn : Patterns → Store → Said → ℕ → ℕ → List ℕ → Type 0
ConcludableIn p s said first place ids = Concludable p.symbols.now p.words.now s.index.now s.words.now s.mark (cells_of said.bound) first place ids (counted_from_1 said.stated)

abbrev pub ReadsConclusion : Reader → OneRule → Store → List ℕ → List ℕ → Type 0
ReadsConclusion r u s cells ids = Concludes (names_of r) (tables_of r u) r.n s.index.now s.words.now s.mark u.number cells ids

abbrev pub ScopesIn : Source → OneRule → Store → List ℕ → List ℕ → Support → Type 0
ScopesIn o u s cells ids support =
    Scopes (source_names o) (tables_of o.reader u) (fact_rows o.records.now) o.lists.now o.reader.n s.index.now s.words.now s.mark u.number cells ids support.hyps

-- Answers ----------------------------------------------------------------------------------------------------------------------------

abbrev pub RefsBy : List ℕ → List ℕ → List ℕ → List ℕ → Mark → Mark → State → Out Made Refs → List ℕ → ℕ → Result Brought Question → Type 0
RefsBy I W J X old new S K ids many (Ok r) = RefsRead I W J X old S K ids r.support.hyps r.support.footing many r.instances new
RefsBy I W J X old new S K ids many (Err q) = Stopped I W J X old K (number_of q) (detail_of q) new

abbrev pub RefsAs : Store → Store → State → Out Made Refs → List ℕ → ℕ → Result Brought Question → Type 0
RefsAs s t S K ids many r = RefsBy s.index.now s.words.now t.index.now t.words.now s.mark t.mark S K ids many r

-- K answers what is used, the set, and the conclusion, term j
pub record UsedRead (I W J X : List ℕ) (old : Mark) (K : Out Made (Set × Tree)) (used : List ℕ) (j : ℕ) (new : Mark) : Type 0 where
  pub went : Went I W J X old K (holds used, tree J X new j) new
  pub there : j < new.terms

abbrev pub UsedBy : List ℕ → List ℕ → List ℕ → List ℕ → Mark → Mark → Out Made (Set × Tree) → Result Concluded Question → Type 0
UsedBy I W J X old new K (Ok c) = UsedRead I W J X old K c.used c.judgment new
UsedBy I W J X old new K (Err q) = Stopped I W J X old K (number_of q) (detail_of q) new

abbrev pub UsedAs : Store → Store → Out Made (Set × Tree) → Result Concluded Question → Type 0
UsedAs s t K r = UsedBy s.index.now s.words.now t.index.now t.words.now s.mark t.mark K r

-- K answers the conclusion; what the references bring is handed on
abbrev pub ScopedBy : List ℕ → List ℕ → List ℕ → List ℕ → Mark → Mark → Out Made Tree → Brought → Result Derived Question → Type 0
ScopedBy I W J X old new K brought (Ok d) = TermRead I W J X old K d.judgment new × (d.instances ≡ brought.instances) × (d.support ≡ brought.support)
ScopedBy I W J X old new K brought (Err q) = Stopped I W J X old K (number_of q) (detail_of q) new

abbrev pub ScopedAs : Store → Store → Out Made Tree → Brought → Result Derived Question → Type 0
ScopedAs s t K brought r = ScopedBy s.index.now s.words.now t.index.now t.words.now s.mark t.mark K brought r
