-- What one form is given and what it leaves, in tables of their named lengths. Assumes nothing.
use Rattle.state.specs.Records.{fact_rows, fact_feet}
use Rattle.std.specs.Prelude.{◌≡◌, List, ℕ, ◌+◌, ◌*◌, ◌<◌, ◌≤◌, take, replicate, Option, Some as some, None as nothing, Result, Ok, Err}
use Rattle.rules.specs.Limits.{LENGTH, TERMS, FACTS}
use Rattle.rules.specs.State.{State}
use Rattle.rules.specs.Forms.{plus}
use Rattle.questions.specs.declared.Question.{Question}
use Rattle.questions.specs.declared.Text.TheVariants.{Proof}
use Rattle.terms.specs.declared.store.Store.{Store}
use Rattle.state.specs.declared.board.Given.{Given}
use Rattle.state.specs.declared.board.Board.{Board}
use Rattle.state.specs.Stands.{tables_of}
use Rattle.counts.specs.declared.Counts.{Counts}
use Rattle.counts.specs.Counted.{counts_of}
use Rattle.counts.specs.Sum.{sum}
use Rattle.referring.specs.Ids.{IDS}
use Rattle.forms.specs.Boards.{theory_of}
use Rattle.running.specs.declared.stopped.Stopped.{Stopped}
use Rattle.running.specs.Course.{Underway, Over}
use Rattle.running.specs.Between.{Few}
use Rattle.advancing.specs.declared.advance.Scratch.{Scratch}
use Rattle.advancing.specs.declared.advance.Advance.{Advance}

-- The scratch of the forms ---------------------------------------------------------------------------------------------------------

-- between two of them
pub record Idle (cells ids memo : List ℕ) : Type 0 where
  pub cells_zero : cells ≡ replicate LENGTH 0
  pub ids_zero : ids ≡ replicate IDS 0
  pub memo_zero : memo ≡ replicate TERMS 0

abbrev pub IdleIn : Scratch → Type 0
IdleIn x = Idle x.cells.now x.ids.now x.memo.now

-- the references are those that were lent
abbrev pub SameScratch : Scratch → Scratch → Type 0
SameScratch x y = (y.cells.ghost_name ≡ x.cells.ghost_name) × (y.ids.ghost_name ≡ x.ids.ghost_name) × (y.memo.ghost_name ≡ x.memo.ghost_name)

-- Given ----------------------------------------------------------------------------------------------------------------------------

abbrev pub UnderwayIn : Given → Board → Store → ℕ → ℕ → State → Type 0
UnderwayIn g b s p k S = Underway g.theory.now g.goals.now g.text.now (theory_of g) (tables_of b s) b.n s.mark p k S

abbrev pub OverIn : Given → Board → Store → Result ℕ Stopped → State → Type 0
OverIn g b s r S = Over g.theory.now g.goals.now g.text.now (theory_of g) (tables_of b s) b.n s.mark r S

-- a form may be left from place p on, behind k forms
pub record Ready (g : Given) (b : Board) (s : Store) (p : ℕ) : Type 0 where
  pub k : ℕ
  pub S : State
  pub underway : UnderwayIn g b s p k S

-- Left ---------------------------------------------------------------------------------------------------------------------------------

-- the rows of facts that there were stay
pub record Stay (b c : Board) : Type 0 where
  pub same_rows : take (6 * b.n.facts) (fact_rows c.facts.now) ≡ take (6 * b.n.facts) (fact_rows b.facts.now)
  pub same_feet : take (4 * b.n.facts) (fact_feet c.facts.now) ≡ take (4 * b.n.facts) (fact_feet b.facts.now)

-- a form stores one fact or none: n before, k afterwards
pub data OneMore (n k : ℕ) : Type 0 where
  came : k ≡ n + 1 → OneMore n k
  same : k ≡ n → OneMore n k

-- a form is taken that began at p; S: the state before; c, t: the tables and the store afterwards
pub record Stepped (g : Given) (b c : Board) (t : Store) (k p : ℕ) (S : State) (a : Advance) : Type 0 where
  pub after : State
  pub underway : UnderwayIn g c t a.end (k + 1) after
  pub counted : after.counts ≡ plus S.counts (counts_of a.counts)
  pub small : Few a.counts 1
  pub few : (c : Counts) → Few c k → Few (sum c a.counts) (k + 1)
  pub stored : OneMore b.n.facts c.n.facts
  pub room : c.n.facts ≤ FACTS
  pub sooner : p < a.end

-- the question is left in the proof behind k forms
abbrev pub left_in_proof : Question → ℕ → Stopped
left_in_proof q k = record { text = Proof; refused = record { question = q; form = k } }

-- a form is taken, there is none, or a question is left
abbrev pub AdvancedAs : Given → Board → Board → Store → Store → ℕ → ℕ → State → Result (Option Advance) Question → Type 0
AdvancedAs g b c s t k p S (Ok (some a)) = Stepped g b c t k p S a
AdvancedAs g b c s t k p S (Ok nothing) = OverIn g c t (Ok k) S × (c.n ≡ b.n)
AdvancedAs g b c s t k p S (Err q) = OverIn g c t (Err (left_in_proof q k)) S × (c.n ≡ b.n)
