-- What the functions of this crate answer, beside what the definition answers: K. Assumes nothing.
use Rattle.std.specs.Prelude.{◌≡◌, Bool, true, false, List, [], ℕ, ◌<◌, length, Result, Ok, Err}
use Rattle.rules.specs.Out.{Out}
use Rattle.rules.specs.Find.{Set, union}
use Rattle.rules.specs.Tree.{Tree}
use Rattle.rules.specs.Store.{Made}
use Rattle.rules.specs.State.{State}
use Rattle.rules.specs.Reference.{Ref}
use Rattle.terms.specs.declared.store.Mark.{Mark}
use Rattle.terms.specs.Table.{tree}
use Rattle.terms.specs.Collect.{Seen}
use Rattle.terms.specs.On.{Went, Stopped}
use Rattle.referring.specs.declared.references.Referred.{Referred}
use Rattle.questions.specs.declared.Question.{Question}
use Rattle.questions.specs.Numbers.{number_of, detail_of}
use Rattle.terms.specs.declared.store.Store.{Store}
use Rattle.referring.specs.Recall.{fact_of}

-- References ---------------------------------------------------------------------------------------------------------------------

-- what a reference to fact i rests on: a bare one on the fact's hypotheses, an instance on none
unfoldable pub rests_on : State → ℕ → Bool → List ℕ
rests_on S i true = (fact_of S i).hyps
rests_on S i false = []

unfoldable pub instances_of : Bool → ℕ
instances_of true = 0
instances_of false = 1

-- the reference to fact i, bare or an instance, that gives the judgment j
abbrev pub ref_of : State → Tree → ℕ → Bool → Ref
ref_of S j i bare = record { judgment = j; hyps = rests_on S i bare; footing = (fact_of S i).footing; instances = instances_of bare }

-- K answers the reference to fact i that gives term t
pub record RefRead (I W J X : List ℕ) (old : Mark) (S : State) (K : Out Made Ref) (t i : ℕ) (bare : Bool) (new : Mark) : Type 0 where
  pub went : Went I W J X old K (ref_of S (tree J X new t) i bare) new
  pub there : t < new.terms
  pub earlier : i < length S.facts

abbrev pub ReferredBy : List ℕ → List ℕ → List ℕ → List ℕ → Mark → Mark → State → Out Made Ref → Result Referred Question → Type 0
ReferredBy I W J X old new S K (Ok r) = RefRead I W J X old S K r.judgment r.fact r.bare new
ReferredBy I W J X old new S K (Err q) = Stopped I W J X old K (number_of q) (detail_of q) new

abbrev pub ReferredAs : Store → Store → State → Out Made Ref → Result Referred Question → Type 0
ReferredAs s t S K r = ReferredBy s.index.now s.words.now t.index.now t.words.now s.mark t.mark S K r

-- Variables ------------------------------------------------------------------------------------------------------------------------

-- the variables more joined the set, and what was visited is right for it
pub record Gathered (I W : List ℕ) (m : Mark) (more a seen' a' : Set) : Type 0 where
  pub set : a' ≡ union a more
  pub visits : Seen I W m seen' a'
