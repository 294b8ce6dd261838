-- What the forms of hypotheses are given and what they answer, beside what the definition answers: K. Assumes nothing.
use Rattle.state.specs.Records.{fact_rows}
use Rattle.std.specs.Prelude.{◌≡◌, true, false, List, ℕ, ◌+◌, ◌<◌, ◌≤◌, ltb, length, Result, Ok, Err}
use Rattle.std.proofs.lemmas.List.Edits.{sets}
use Rattle.rules.specs.Limits.{FACTS, ENTRIES}
use Rattle.rules.specs.Out.{Out, ok}
use Rattle.rules.specs.Sexp.{Sexps, count}
use Rattle.rules.specs.State.{State, Fact}
use Rattle.rules.specs.Forms.{with_made, one_hypothesis, plus}
use Rattle.sexp.specs.Items.{Holds}
use Rattle.terms.specs.declared.store.Mark.{Mark}
use Rattle.terms.specs.Table.{made}
use Rattle.state.specs.declared.sizes.Sizes.{Sizes}
use Rattle.questions.specs.declared.Question.{Question}
use Rattle.questions.specs.declared.Row.{Row}
use Rattle.questions.specs.Numbers.{row_number, number_of, detail_of}
use Rattle.state.specs.Held.{Names, Records, records}
use Rattle.state.specs.Used.{facts_now}
use Rattle.state.specs.Recording.{Valid, Assumes, HypothesisPut, with_fact}
use Rattle.terms.specs.declared.store.Store.{Store}
use Rattle.state.specs.declared.board.Board.{Board}
use Rattle.referring.specs.Recall.{Refers}
use Rattle.forms.specs.Halted.{Makes, Halts}

-- Given ----------------------------------------------------------------------------------------------------------------------------

-- terms are read and facts are there, the state's trees are those of the store, and the cells hold the items of a form, at least so many
pub record AddsFact (K : Names) (facts lists : List ℕ) (n : Sizes) (I W : List ℕ) (m : Mark) (cells : List ℕ) (least : ℕ) : Type 0 where
  pub S : State
  pub xs : Sexps
  pub footings : List ℕ
  pub refers : Refers K facts footings lists n I W m S
  pub store : made I W m ≡ S.made
  pub holds : Holds K.text cells xs
  pub many : least ≤ count xs

-- Answers --------------------------------------------------------------------------------------------------------------------------

-- one hypothesis more: what `put_hypothesis` says of its row and its own entry, where `behind` are the lists with its premises and generalised
-- variables
pub record HypAdded (R Q : Records) (n : Sizes) (I W J X : List ℕ) (old : Mark) (S : State) (K : Out State (Unit {0})) (e : ℕ) (now : Mark) : Type 0 where
  pub makes : Makes I W J X old now
  pub new : Fact
  pub judgment : ℕ
  pub premises : ℕ
  pub general : ℕ
  pub behind : List ℕ
  pub is : K ≡ ok tt (with_fact (with_made S (made J X now)) new (plus S.counts one_hypothesis))
  pub assumes : Assumes (made J X now) (with_made S (made J X now)) new n judgment premises general R.lists behind
  pub valid : Valid (made J X now) (with_fact (with_made S (made J X now)) new (plus S.counts one_hypothesis))
  pub stored : HypothesisPut (records R.facts R.footings behind) Q n judgment premises general (Ok e)

-- R, Q: the tables of facts before and afterwards; n, k: what is used then
abbrev pub AssumedBy : Records → Records → Sizes → Sizes → List ℕ → List ℕ → List ℕ → List ℕ → Mark → Mark → State → Out State (Unit {0}) → Result (Unit {0}) Question → Type 0
AssumedBy R Q n k I W J X old new S K (Ok u) = HypAdded R Q n I W J X old S K k.entries new × (k ≡ facts_now n (n.facts + 1) k.entries)
AssumedBy R Q n k I W J X old new S K (Err e) = Halts I W J X old S K (number_of e) (detail_of e) new × (Q ≡ R) × (k ≡ n)

-- whatever the footings are, which no hypothesis changes
abbrev pub AssumedAs : Board → Board → List ℕ → Store → Store → State → Out State (Unit {0}) → Result (Unit {0}) Question → Type 0
AssumedAs b c footings s t S K r =
    AssumedBy (records (fact_rows b.facts.now) footings b.lists.now) (records (fact_rows c.facts.now) footings c.lists.now) b.n c.n
    s.index.now s.words.now t.index.now t.words.now s.mark t.mark S K r

-- What is stored last --------------------------------------------------------------------------------------------------------------

-- rows 12 and 13 of question 60, with the variables behind the premises where there is room, and the tables as they were where there is none
abbrev pub RulePutBy : Records → Records → Sizes → Sizes → ℕ → ℕ → List ℕ → Result (Unit {0}) Row → Type 0
RulePutBy R Q n k judgment premises general (Ok u) =
    HypothesisPut (records R.facts R.footings (sets R.lists (n.entries + 1 + premises) general)) Q n judgment premises (length general) (Ok k.entries)
    × (k ≡ facts_now n (n.facts + 1) k.entries)
RulePutBy R Q n k judgment premises general (Err r) =
    (Q ≡ R) × (row_number r ≡ elim (ltb n.facts FACTS) [ true ↦ 13 | false ↦ 12 ]) × (n.facts < FACTS → ENTRIES < n.entries + (1 + premises + length general))
    × (k ≡ n)

abbrev pub RulePutAs : Board → Board → List ℕ → ℕ → ℕ → List ℕ → Result (Unit {0}) Row → Type 0
RulePutAs b c footings judgment premises general r =
    RulePutBy (records (fact_rows b.facts.now) footings b.lists.now) (records (fact_rows c.facts.now) footings c.lists.now) b.n c.n judgment premises general r
