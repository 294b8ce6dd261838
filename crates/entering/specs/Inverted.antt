-- What the form of an inversion is given and what it answers, beside what the definition answers: K. A derived fact comes behind the others, and the
-- variables that were made behind the others; where it is refused, no table but the store's has changed. Assumes nothing.
use Rattle.state.specs.Records.{fact_rows, fact_feet}
use Rattle.std.specs.Prelude.{◌≡◌, List, ℕ, ◌+◌, Result, Ok, Err}
use Rattle.rules.specs.Out.{Out}
use Rattle.rules.specs.State.{State, Var}
use Rattle.rules.specs.Forms.{with_vars, one_inversion, add_invert}
use Rattle.rules.proofs.Laws.Appends.{Behind}
use Rattle.questions.specs.declared.Question.{Question}
use Rattle.questions.specs.Numbers.{number_of, detail_of}
use Rattle.terms.specs.declared.store.Mark.{Mark}
use Rattle.terms.specs.declared.store.Store.{Store}
use Rattle.terms.specs.Table.{made}
use Rattle.state.specs.declared.sizes.Sizes.{Sizes}
use Rattle.state.specs.declared.board.Given.{Given}
use Rattle.state.specs.declared.board.Board.{Board}
use Rattle.state.specs.Boards.{records_of}
use Rattle.state.specs.Held.{Names, RuleLists, Records, VarsHeld}
use Rattle.state.specs.Used.{vars_now, facts_now}
use Rattle.counts.specs.declared.Counts.{Counts}
use Rattle.counts.specs.Counted.{counts_of}
use Rattle.inversion.specs.Inversions.{InvertForm}
use Rattle.forms.specs.Halted.{Halts}
use Rattle.forms.specs.Boards.{names_in}
use Rattle.entering.specs.Entered.{rules_in, FactAdded}

-- Given ----------------------------------------------------------------------------------------------------------------------------

-- the form, and the state's trees are those of the store
pub record AddsInversion (K : Names) (P : RuleLists) (facts footings lists : List ℕ) (n : Sizes) (I W : List ℕ) (m : Mark) (cells : List ℕ) : Type 0 where
  pub form : InvertForm K P facts footings lists n I W m cells
  pub store : made I W m ≡ form.S.made

abbrev pub AddsInversionIn : Given → Board → Store → List ℕ → Type 0
AddsInversionIn g b s cells =
    AddsInversion (names_in g b) (rules_in g) (fact_rows b.facts.now) (fact_feet b.facts.now) b.lists.now b.n s.index.now s.words.now s.mark cells

-- Answers --------------------------------------------------------------------------------------------------------------------------

-- k variables, whose rows are in the table, and one derived fact more beside them
pub record InversionAdded (goals text : List ℕ) (R Q : Records) (n : Sizes) (I W J X : List ℕ) (old : Mark) (S : State) (K : Out State (Unit {0})) (vars : List ℕ) (e k : ℕ) (now : Mark) : Type 0 where
  pub us : List Var
  pub held : VarsHeld goals text vars k us
  pub behind : Behind S.vars us
  pub added : FactAdded R Q (vars_now n k) I W J X old (with_vars S us) K one_inversion e now

-- a question is left: the tables are as they were; us: the variables of the state in which it is
pub record InversionLeft (R Q : Records) (I W J X : List ℕ) (old : Mark) (S : State) (K : Out State (Unit {0})) (before vars : List ℕ) (q d : ℕ) (now : Mark) : Type 0 where
  pub us : List Var
  pub halts : Halts I W J X old (with_vars S us) K q d now
  pub facts_same : Q ≡ R
  pub vars_same : vars ≡ before

-- R, Q: the tables of facts before and afterwards; before, vars: that of variables; n, k: what is used
abbrev pub InversionBy : List ℕ → List ℕ → Records → Records → Sizes → Sizes → List ℕ → List ℕ → List ℕ → List ℕ → Mark → Mark → State → Out State (Unit {0}) → List ℕ → List ℕ → Result Counts Question → Type 0
InversionBy goals text R Q n k I W J X old new S K before vars (Ok c) =
    InversionAdded goals text R Q n I W J X old S K vars k.entries k.vars new × (k ≡ vars_now (facts_now n (n.facts + 1) k.entries) k.vars)
    × (counts_of c ≡ one_inversion)
InversionBy goals text R Q n k I W J X old new S K before vars (Err q) =
    InversionLeft R Q I W J X old S K before vars (number_of q) (detail_of q) new × (k ≡ n)

abbrev pub InversionAs : Given → Board → Board → Store → Store → State → Out State (Unit {0}) → Result Counts Question → Type 0
InversionAs g b c s t S K r =
    InversionBy g.goals.now g.text.now (records_of b) (records_of c) b.n c.n s.index.now s.words.now t.index.now t.words.now s.mark t.mark S K b.vars.now c.vars.now r

abbrev pub InvertedBy : Given → Board → Board → Store → Store → List ℕ → Result Counts Question → Type 0
InvertedBy g b c s t cells r = (x : AddsInversionIn g b s cells) → InversionAs g b c s t x.form.S (add_invert x.form.xs x.form.S) r
