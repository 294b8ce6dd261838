-- What the items of a form are tried on, and what a form that was tried answers: it is taken, or a question is left and the terms that it made are still
-- there. Assumes nothing.
use Rattle.std.specs.Prelude.{◌≡◌, ℕ, List, [], Result, Ok, Err}
use Rattle.rules.specs.Out.{Out}
use Rattle.rules.specs.Sexp.{Sexps}
use Rattle.rules.specs.State.{State}
use Rattle.rules.specs.Forms.{plus}
use Rattle.rules.proofs.Laws.Bounded.{BoundedState}
use Rattle.questions.specs.declared.Question.{Question}
use Rattle.sexp.specs.Items.{Holds}
use Rattle.sexp.specs.declared.tags.Tag.{Tag}
use Rattle.sexp.specs.declared.tags.Tag.TheVariants.{Var, Def, Step, Hyp, RuleHyp, Induct, InductWith, Apply, Invert, Outcome}
use Rattle.terms.specs.declared.store.Store.{Store}
use Rattle.state.specs.declared.board.Given.{Given}
use Rattle.state.specs.declared.board.Board.{Board}
use Rattle.counts.specs.declared.Counts.{Counts}
use Rattle.counts.specs.Counted.{counts_of}
use Rattle.forms.specs.Boards.{StandsIn}
use Rattle.forms.specs.Moved.{MovesIn, LeftIn}
use Rattle.forms.specs.Next.{NextAs}

-- Given ----------------------------------------------------------------------------------------------------------------------------

-- the tables stand for S, and the cells hold the items of a form
pub record ItemsIn (g : Given) (b : Board) (s : Store) (cells : List ℕ) : Type 0 where
  pub S : State
  pub xs : Sexps
  pub stands : StandsIn g b s S
  pub bounded : BoundedState S
  pub holds : Holds g.text.now cells xs

-- and nothing was proved yet; the text is that of the goals
pub record GoalItemsIn (g : Given) (b : Board) (s : Store) (cells : List ℕ) : Type 0 where
  pub items : ItemsIn g b s cells
  pub none_yet : items.S.facts ≡ []
  pub text : g.text.now ≡ g.goals.now

-- Answers --------------------------------------------------------------------------------------------------------------------------

-- an index that is the next, where a form of this tag gives one; K: what the definition answers to it
abbrev pub NumberedAs : Tag → State → Out State (Unit {0}) → Result (Unit {0}) Question → Type 0
NumberedAs Var S K r = r ≡ Ok tt
NumberedAs Def S K r = r ≡ Ok tt
NumberedAs Step S K r = NextAs S K r
NumberedAs Hyp S K r = NextAs S K r
NumberedAs RuleHyp S K r = NextAs S K r
NumberedAs Induct S K r = NextAs S K r
NumberedAs InductWith S K r = NextAs S K r
NumberedAs Apply S K r = NextAs S K r
NumberedAs Invert S K r = NextAs S K r
NumberedAs Outcome S K r = r ≡ Ok tt

-- what a hypothesis counts
abbrev pub one_hypothesis : Counts
one_hypothesis = record { hypotheses = 1; inductions = 0; inversions = 0; instances = 0 }

-- K: what the definition answers; b, s: the tables and the store before; c, t: afterwards; what is answered is what the form counts
abbrev pub TriedIn : Given → Board → Board → Store → Store → State → Out State (Unit {0}) → Result Counts Question → Type 0
TriedIn g b c s t S K (Ok counts) = MovesIn g c t K (plus S.counts (counts_of counts))
TriedIn g b c s t S K (Err q) = LeftIn b c s t K q

-- the same of a form that counts nothing
abbrev pub GoalTriedIn : Given → Board → Board → Store → Store → State → Out State (Unit {0}) → Result (Unit {0}) Question → Type 0
GoalTriedIn g b c s t S K (Ok u) = MovesIn g c t K S.counts
GoalTriedIn g b c s t S K (Err q) = LeftIn b c s t K q
