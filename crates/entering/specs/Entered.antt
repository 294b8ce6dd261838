-- What the forms of derived facts are given and what they answer, beside what the definition answers: K. Assumes nothing.
use Rattle.state.specs.Records.{fact_rows, fact_feet}
use Rattle.std.specs.Prelude.{◌≡◌, List, ℕ, ◌+◌, ◌≤◌, length, take, replicate, Result, Ok, Err}
use Rattle.rules.specs.Limits.{PATTERNS, TERMS}
use Rattle.rules.specs.Out.{Out, ok}
use Rattle.rules.specs.Sexp.{Sexps}
use Rattle.rules.specs.Step.{step}
use Rattle.rules.specs.Apply.{apply}
use Rattle.rules.specs.Induct.{induct, induct_with}
use Rattle.rules.specs.State.{State, Fact, Counts}
use Rattle.rules.specs.Forms.{with_made, plus, add_step, add_apply, add_induct, add_induct_with}
use Rattle.questions.specs.declared.Question.{Question}
use Rattle.questions.specs.Numbers.{number_of, detail_of}
use Rattle.kernel.specs.declared.rule_readers.Rules.{Rules}
use Rattle.terms.specs.declared.store.Mark.{Mark}
use Rattle.terms.specs.declared.store.Store.{Store}
use Rattle.terms.specs.Table.{made}
use Rattle.terms.specs.Lent.{made_of}
use Rattle.state.specs.declared.sizes.Sizes.{Sizes}
use Rattle.state.specs.declared.board.Given.{Given}
use Rattle.state.specs.declared.board.Board.{Board}
use Rattle.state.specs.Boards.{records_of}
use Rattle.state.specs.Held.{Names, RuleLists, Records, rule_lists}
use Rattle.state.specs.Used.{facts_now}
use Rattle.state.specs.Recording.{Valid, Derives, DerivedPut, with_fact}
use Rattle.counts.specs.declared.Counts.{Counts as Counted}
use Rattle.counts.specs.Counted.{counts_of}
use Rattle.counts.specs.Sum.{none}
use Rattle.referring.specs.Ids.{IDS}
use Rattle.referring.specs.declared.source.Source.{Source}
use Rattle.referring.specs.declared.support.Derived.{Derived}
use Rattle.referring.specs.Derived.{FactForm, RuleForm, DerivedAs, with_instances, alone}
use Rattle.referring.specs.Sources.{ReadsForm, ReadsRuleForm}
use Rattle.forms.specs.Halted.{Makes, Halts}
use Rattle.forms.specs.Boards.{names_in}
use Rattle.entering.specs.declared.derive.Way.{Way}
use Rattle.entering.specs.declared.derive.Way.TheVariants as way

-- Given ----------------------------------------------------------------------------------------------------------------------------

-- a form of a fact, and the state's trees are those of the store
pub record AddsDerived (K : Names) (facts footings lists : List ℕ) (n : Sizes) (I W : List ℕ) (m : Mark) (cells : List ℕ) (least : ℕ) : Type 0 where
  pub form : FactForm K facts footings lists n I W m cells least
  pub store : made I W m ≡ form.S.made

-- a form of a fact by a rule, and the state's trees are those of the store
pub record AddsInstance (K : Names) (P : RuleLists) (facts footings lists : List ℕ) (n : Sizes) (I W : List ℕ) (m : Mark) (cells : List ℕ) (least : ℕ) : Type 0 where
  pub form : RuleForm K P facts footings lists n I W m cells least
  pub store : made I W m ≡ form.S.made

abbrev pub AddsDerivedIn : Given → Board → Store → List ℕ → ℕ → Type 0
AddsDerivedIn g b s cells least = AddsDerived (names_in g b) (fact_rows b.facts.now) (fact_feet b.facts.now) b.lists.now b.n s.index.now s.words.now s.mark cells least

abbrev pub rules_in : Given → RuleLists
rules_in g = rule_lists g.theory.now g.rules.rows.now g.rules.vars.now g.rules.patterns.now

abbrev pub AddsInstanceIn : Given → Board → Store → List ℕ → ℕ → Type 0
AddsInstanceIn g b s cells least =
    AddsInstance (names_in g b) (rules_in g) (fact_rows b.facts.now) (fact_feet b.facts.now) b.lists.now b.n s.index.now s.words.now s.mark cells least

-- by the way in which the fact is found
abbrev pub AddsBy : Way → Given → Board → Store → List ℕ → Type 0
AddsBy way.Step g b s cells = AddsInstanceIn g b s cells 4
AddsBy way.Apply g b s cells = AddsDerivedIn g b s cells 5
AddsBy way.Induct g b s cells = AddsDerivedIn g b s cells 5
AddsBy way.InductWith g b s cells = AddsDerivedIn g b s cells 6

abbrev pub FindsBy : Way → Source → Rules → Store → List ℕ → Type 0
FindsBy way.Step x p s cells = ReadsRuleForm x p s cells 4
FindsBy way.Apply x p s cells = ReadsForm x s cells 5
FindsBy way.Induct x p s cells = ReadsForm x s cells 5
FindsBy way.InductWith x p s cells = ReadsForm x s cells 6

-- what the forms share of the scratch: zero before and after
pub record Spare (ids memo : List ℕ) : Type 0 where
  pub ids_zero : ids ≡ replicate IDS 0
  pub memo_zero : memo ≡ replicate TERMS 0

-- what a step needs of it: as many cells as a pattern may have, in front of `ids`
pub record SpareFront (ids memo : List ℕ) : Type 0 where
  pub ids_room : PATTERNS ≤ length ids
  pub front_zero : take PATTERNS ids ≡ replicate PATTERNS 0
  pub memo_zero : memo ≡ replicate TERMS 0

-- what a way needs of it: `apply` no `ids`, an induction all of them
abbrev pub SpareFor : Way → List ℕ → List ℕ → Type 0
SpareFor way.Step ids memo = SpareFront ids memo
SpareFor way.Apply ids memo = memo ≡ replicate TERMS 0
SpareFor way.Induct ids memo = Spare ids memo
SpareFor way.InductWith ids memo = Spare ids memo

-- Answers --------------------------------------------------------------------------------------------------------------------------

-- what a form counts: a step its instances, an induction itself
abbrev pub way_counts : Way → ℕ → Counted
way_counts way.Step k = record { hypotheses = 0; inductions = 0; inversions = 0; instances = k }
way_counts way.Apply k = none
way_counts way.Induct k = record { hypotheses = 0; inductions = 1; inversions = 0; instances = 0 }
way_counts way.InductWith k = record { hypotheses = 0; inductions = 1; inversions = 0; instances = 0 }

-- s, t: the store before and afterwards
abbrev pub FoundBy : Way → Source → Rules → Store → Store → List ℕ → Result Derived Question → Type 0
FoundBy way.Step x p s t cells r = (g : ReadsRuleForm x p s cells 4) → DerivedAs (Fact × ℕ) s t g.S (step g.S g.xs (made_of s)) with_instances r
FoundBy way.Apply x p s t cells r = (g : ReadsForm x s cells 5) → DerivedAs Fact s t g.S (apply g.S g.xs (made_of s)) alone r
FoundBy way.Induct x p s t cells r = (g : ReadsForm x s cells 5) → DerivedAs Fact s t g.S (induct g.S g.xs (made_of s)) alone r
FoundBy way.InductWith x p s t cells r = (g : ReadsForm x s cells 6) → DerivedAs Fact s t g.S (induct_with g.S g.xs (made_of s)) alone r

-- one derived fact more: what a form found, and what `put_derived` says of its row, its entries and its footing; c: what it counts
pub record FactAdded (R Q : Records) (n : Sizes) (I W J X : List ℕ) (old : Mark) (S : State) (K : Out State (Unit {0})) (c : Counts) (e : ℕ) (now : Mark) : Type 0 where
  pub makes : Makes I W J X old now
  pub new : Fact
  pub judgment : ℕ
  pub hyps : List ℕ
  pub footing : List ℕ
  pub is : K ≡ ok tt (with_fact (with_made S (made J X now)) new (plus S.counts c))
  pub derives : Derives (made J X now) (with_made S (made J X now)) new judgment hyps footing
  pub valid : Valid (made J X now) (with_fact (with_made S (made J X now)) new (plus S.counts c))
  pub stored : DerivedPut R Q n judgment hyps footing (Ok e)

-- R, Q: the tables of facts before and afterwards; n, k: what is used then
abbrev pub EnteredBy : Records → Records → Sizes → Sizes → List ℕ → List ℕ → List ℕ → List ℕ → Mark → Mark → State → Out State (Unit {0}) → Result Counted Question → Type 0
EnteredBy R Q n k I W J X old new S K (Ok c) = FactAdded R Q n I W J X old S K (counts_of c) k.entries new × (k ≡ facts_now n (n.facts + 1) k.entries)
EnteredBy R Q n k I W J X old new S K (Err q) = Halts I W J X old S K (number_of q) (detail_of q) new × (Q ≡ R) × (k ≡ n)

abbrev pub EnteredAs : Board → Board → Store → Store → State → Out State (Unit {0}) → Result Counted Question → Type 0
EnteredAs b c s t S K r =
    EnteredBy (records_of b) (records_of c) b.n c.n s.index.now s.words.now t.index.now t.words.now s.mark t.mark S K r

-- what the definition answers
abbrev pub way_act : Way → Sexps → State → Out State (Unit {0})
way_act way.Step xs S = add_step xs S
way_act way.Apply xs S = add_apply xs S
way_act way.Induct xs S = add_induct xs S
way_act way.InductWith xs S = add_induct_with xs S

abbrev pub AddedBy : Way → Given → Board → Board → Store → Store → List ℕ → Result Counted Question → Type 0
AddedBy way.Step g b c s t cells r = (x : AddsInstanceIn g b s cells 4) → EnteredAs b c s t x.form.S (add_step x.form.xs x.form.S) r
AddedBy way.Apply g b c s t cells r = (x : AddsDerivedIn g b s cells 5) → EnteredAs b c s t x.form.S (add_apply x.form.xs x.form.S) r
AddedBy way.Induct g b c s t cells r = (x : AddsDerivedIn g b s cells 5) → EnteredAs b c s t x.form.S (add_induct x.form.xs x.form.S) r
AddedBy way.InductWith g b c s t cells r = (x : AddsDerivedIn g b s cells 6) → EnteredAs b c s t x.form.S (add_induct_with x.form.xs x.form.S) r
