-- The texts and tables from which the forms of facts are read, as they are lent: what they must say, and what is asked of the store and the sets beside
-- them. Each is the relation of the same meaning over plain tables. Assumes nothing.
use Rattle.state.specs.Records.{fact_rows, fact_feet}
use Rattle.std.specs.Prelude.{◌≡◌, ◌≢◌, List, ℕ, ◌≤◌, ◌<◌, ◌⊎◌, Result, Ok, Err}
use Rattle.rules.specs.Find.{Set}
use Rattle.rules.specs.Sexp.{atom}
use Rattle.rules.specs.Out.{Out, ok, refuse}
use Rattle.rules.specs.Store.{Made}
use Rattle.rules.specs.Reference.{reference}
use Rattle.questions.specs.declared.Question.{Question}
use Rattle.questions.specs.declared.Question.TheVariants.{Earlier, CaseJudgment}
use Rattle.questions.specs.Numbers.{number_of, detail_of}
use Rattle.kernel.specs.declared.rule_readers.Rules.{Rules}
use Rattle.terms.specs.declared.store.Mark.{Mark}
use Rattle.terms.specs.declared.store.Terms.{Terms}
use Rattle.terms.specs.declared.store.Store.{Store}
use Rattle.terms.specs.Table.{made}
use Rattle.terms.specs.Sets.{holds}
use Rattle.state.specs.Held.{Names, RuleLists, rule_lists}
use Rattle.state.specs.Rows.{cell}
use Rattle.state.specs.declared.board.Given.{Given}
use Rattle.state.specs.declared.board.Board.{Board}
use Rattle.reading.specs.Reader.{names_of, reader_of}
use Rattle.referring.specs.declared.source.Facts.{Facts}
use Rattle.referring.specs.declared.source.Source.{Source}
use Rattle.referring.specs.declared.references.Referred.{Referred}
use Rattle.referring.specs.Recall.{Recalls, RecallsFact, BareItem, RefersItem, RefersItems, ReadableAll}
use Rattle.referring.specs.Referral.{ReferredBy, Gathered}
use Rattle.referring.specs.Derived.{FactForm, RuleForm, ReadableCells}

-- Parts of it ------------------------------------------------------------------------------------------------------------------------

abbrev pub facts_of : Source → Facts
facts_of s = record { records = s.records; lists = s.lists; n = s.reader.n }

-- that of a check
abbrev pub source_of : Given → Board → Source
source_of g b =
    record {
      reader = reader_of g b;
      records = record { ref_ptr = b.facts.ref_ptr; now = b.facts.now };
      lists = record { ref_ptr = b.lists.ref_ptr; now = b.lists.now };
    }

abbrev pub source_names : Source → Names
source_names s = names_of s.reader

abbrev pub rules_of : Source → Rules → RuleLists
rules_of s p = rule_lists s.reader.theory.now p.rows.now p.vars.now p.patterns.now

-- References -------------------------------------------------------------------------------------------------------------------------

-- one is read, and the items of one
abbrev pub ReadsReference : Source → Store → List ℕ → Type 0
ReadsReference s t cells = RefersItem (source_names s) (fact_rows s.records.now) s.reader.n t.index.now t.words.now t.mark cells

abbrev pub ReadsReferences : Source → Store → List ℕ → Type 0
ReadsReferences s t cells = RefersItems (source_names s) (fact_rows s.records.now) s.reader.n t.index.now t.words.now t.mark cells

-- a bare one, beside some store
abbrev pub ReadsBare : Source → List ℕ → Type 0
ReadsBare s cells = (m : Mark) × BareItem s.reader.text.now (fact_rows s.records.now) s.reader.n m cells

abbrev pub ReferredBare : Source → List ℕ → Result Referred Question → Type 0
ReferredBare s cells r =
    (m : Mark) (g : BareItem s.reader.text.now (fact_rows s.records.now) s.reader.n m cells) (p : ℕ) (bs : List ℕ) → g.x ≡ atom p bs →
    ReferredBy g.index g.words g.index g.words m m g.S (reference g.S g.x (made g.index g.words m)) r

-- Forms of facts ---------------------------------------------------------------------------------------------------------------------

abbrev pub ReadsForm : Source → Store → List ℕ → ℕ → Type 0
ReadsForm s t cells least = FactForm (source_names s) (fact_rows s.records.now) (fact_feet s.records.now) s.lists.now s.reader.n t.index.now t.words.now t.mark cells least

abbrev pub ReadsRuleForm : Source → Rules → Store → List ℕ → ℕ → Type 0
ReadsRuleForm s p t cells least =
    RuleForm (source_names s) (rules_of s p) (fact_rows s.records.now) (fact_feet s.records.now) s.lists.now s.reader.n t.index.now t.words.now t.mark cells least

-- Facts ------------------------------------------------------------------------------------------------------------------------------

-- fact i is there, and its judgment is the term t
abbrev pub ConcludesAs : Facts → ℕ → ℕ → Result (Unit {0}) Question → Type 0
ConcludesAs f i t (Ok _) = (i < f.n.facts) × (cell 6 (fact_rows f.records.now) i 0 ≡ t)
ConcludesAs f i t (Err q) = ((q ≡ Earlier) × (f.n.facts ≤ i)) ⊎ ((q ≡ CaseJudgment) × (i < f.n.facts) × (cell 6 (fact_rows f.records.now) i 0 ≢ t))

-- Facts and terms --------------------------------------------------------------------------------------------------------------------

abbrev pub RecallsFactIn : Facts → ℕ → Type 0
RecallsFactIn f i = RecallsFact (fact_rows f.records.now) (fact_feet f.records.now) f.lists.now i

-- whatever the footings are
abbrev pub RecallsEntries : Facts → ℕ → Type 0
RecallsEntries f i = (footings : List ℕ) × RecallsFact (fact_rows f.records.now) footings f.lists.now i

abbrev pub RecallsIn : Facts → Terms → Type 0
RecallsIn f t = Recalls (fact_rows f.records.now) f.lists.now f.n t.index.now t.words.now t.mark

abbrev pub ReadableAllIn : Terms → List ℕ → Type 0
ReadableAllIn t ids = ReadableAll t.index.now t.words.now t.mark ids

abbrev pub ReadableCellsIn : Terms → List ℕ → Type 0
ReadableCellsIn t cells = ReadableCells t.index.now t.words.now t.mark cells

abbrev pub GatheredIn : Terms → Set → List ℕ → List ℕ → List ℕ → Type 0
GatheredIn t more before seen set = Gathered t.index.now t.words.now t.mark more (holds before) (holds seen) (holds set)

-- Question 39: K answers, and makes nothing
abbrev pub ScopedBy : Out Made (Unit {0}) → Made → Result (Unit {0}) Question → Type 0
ScopedBy K M (Ok _) = K ≡ ok tt M
ScopedBy K M (Err q) = K ≡ refuse (number_of q) (detail_of q) M
