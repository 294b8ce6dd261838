-- A fact as a rule: its premises by their numbers, and what is left of the form `apply` at each of its places. Assumes nothing.
use Rattle.state.specs.Records.{fact_rows, fact_feet}
use Rattle.std.specs.Prelude.{◌≡◌, true, false, not, List, [], ◌∷◌, ℕ, ◌<◌, eqb, length, Result, Ok, Err}
use Rattle.rules.specs.Out.{Out, ok, refuse, Act, pure, ask, ◌>>=◌}
use Rattle.rules.specs.Sexp.{Sexp, Sexps, count, item, items}
use Rattle.rules.specs.Find.{has, union, rising}
use Rattle.rules.specs.Tree.{Tree, none, same_tree, variables_of, count_trees}
use Rattle.rules.specs.Store.{Made, substitute}
use Rattle.rules.specs.Unify.{Binding, along}
use Rattle.rules.specs.State.{State, Fact}
use Rattle.rules.specs.Reference.{Ref, reference, fact_at, judgments_at, scoped}
use Rattle.rules.specs.Step.{Refs}
use Rattle.rules.specs.Apply.{Applied, applied, discharge, value_vars}
use Rattle.sexp.specs.Items.{Holds}
use Rattle.terms.specs.declared.store.Mark.{Mark}
use Rattle.terms.specs.Sets.{holds}
use Rattle.terms.specs.Theta.{Theta, bindings}
use Rattle.terms.specs.On.{Went, Stopped}
use Rattle.state.specs.declared.sizes.Sizes.{Sizes}
use Rattle.state.specs.Held.{Names, records, Recorded}
use Rattle.state.specs.Rows.{cell, hyps_span, premises_span}
use Rattle.state.specs.Entries.{part}
use Rattle.state.specs.Members.{Under}
use Rattle.questions.specs.declared.Question.{Question}
use Rattle.questions.specs.Numbers.{number_of, detail_of}
use Rattle.terms.specs.declared.store.Store.{Store}
use Rattle.referring.specs.declared.source.Facts.{Facts}
use Rattle.referring.specs.declared.source.Source.{Source}
use Rattle.derivation.specs.declared.apply.Rule.{Rule}
use Rattle.derivation.specs.declared.apply.Discharge.{Discharge}
use Rattle.referring.specs.Sources.{source_names}
use Rattle.referring.specs.Recall.{fact_of, judgment_cells, Refers}

-- A fact as a rule ---------------------------------------------------------------------------------------------------------------

-- fact i in the tables, whatever the footings are
pub record RuleFact (facts lists : List ℕ) (i : ℕ) : Type 0 where
  pub S : State
  pub n : Sizes
  pub trees : Made
  pub footings : List ℕ
  pub recorded : Recorded (records facts footings lists) n trees S
  pub there : i < n.facts

-- what the definition makes of it, where it can be used
unfoldable pub rule_of : State → ℕ → Fact → Applied
rule_of S i f =
    elim f.assumed [
      | true ↦ record { premises = f.premises; conclusion = f.judgment; hyps = i ∷ [] }
      | false ↦ record { premises = judgments_at S.facts f.hyps; conclusion = f.judgment; hyps = [] }
    ]

-- whether it can, or the question that refuses it
abbrev pub ApplicableAs : State → List Binding → ℕ → Fact → Result (Unit {0}) Question → Type 0
ApplicableAs S bs i f (Ok _) = (M : Made) → applied S bs i f M ≡ ok (rule_of S i f) M
ApplicableAs S bs i f (Err q) = (M : Made) → applied S bs i f M ≡ refuse (number_of q) (detail_of q) M

-- the numbers of its premises
unfoldable pub premise_numbers : List ℕ → List ℕ → ℕ → List ℕ
premise_numbers facts lists i =
    elim (not (eqb (cell 6 facts i 1) 0)) [
      | true ↦ part lists (premises_span facts i)
      | false ↦ judgment_cells facts (part lists (hyps_span facts i))
    ]

-- As it is lent ----------------------------------------------------------------------------------------------------------------------

abbrev pub RuleIn : Facts → Rule → Type 0
RuleIn f r = RuleFact (fact_rows f.records.now) f.lists.now r.fact

-- its fact, and what the definition makes of it
abbrev pub fact_in : State → Rule → Fact
fact_in S r = fact_of S r.fact

abbrev pub applied_in : State → Rule → Applied
applied_in S r = rule_of S r.fact (fact_in S r)

-- the numbers of its premises, and its bindings
abbrev pub premises_in : Facts → Rule → List ℕ
premises_in f r = premise_numbers (fact_rows f.records.now) f.lists.now r.fact

abbrev pub bindings_in : Made → Rule → List Binding
bindings_in M r = bindings M r.bound.now 0

-- What is left of the form -----------------------------------------------------------------------------------------------------------

-- a premise under the bindings, and the reference that is it
abbrev pub met_by : State → List Binding → Tree → Sexp → Act Made Ref
met_by S bs p x = do
  t ← substitute (along bs) p
  r ← reference S x
  _ ← ask 38 (same_tree r.judgment t)
  pure r

-- behind the conclusion
abbrev pub apply_to : State → List Binding → Applied → Sexps → Tree → Act Made Fact
apply_to S bs a zs j = do
  rs ← discharge S bs zs a.premises
  let hs = rising (length S.facts) (union (has a.hyps) rs.hyps)
  _ ← scoped S (union (variables_of rs.judgments) (value_vars bs)) j hs
  pure (record {
    judgment = j;
    hyps = hs;
    assumed = false;
    premises = none;
    general = [];
    footing = rising (length S.theory.rules) rs.footing;
  })

-- behind the bindings
abbrev pub apply_on : State → ℕ → Sexps → List Binding → Act Made Fact
apply_on S i xs bs = do
  f ← fact_at S i
  a ← applied S bs i f
  zs ← items 37 (item xs 4)
  _ ← ask 37 (eqb (count zs) (count_trees a.premises))
  j ← substitute (along bs) a.conclusion
  apply_to S bs a zs j

-- Given and answered -----------------------------------------------------------------------------------------------------------------

-- references are read; the items are as many as the premises of fact i, and the map binds terms that are there
pub record RuleUse (K : Names) (facts footings lists : List ℕ) (n : Sizes) (I W : List ℕ) (m : Mark) (i : ℕ) (cells bound : List ℕ) : Type 0 where
  pub S : State
  pub xs : Sexps
  pub refers : Refers K facts footings lists n I W m S
  pub there : i < n.facts
  pub holds : Holds K.text cells xs
  pub many : count xs ≡ length (premise_numbers facts lists i)
  pub theta : Theta m bound

abbrev pub UsesRule : Source → Store → Rule → List ℕ → Type 0
UsesRule s t r cells =
    RuleUse (source_names s) (fact_rows s.records.now) (fact_feet s.records.now) s.lists.now s.reader.n t.index.now t.words.now t.mark r.fact cells r.bound.now

-- K answers the references together: what they bring is in the sets
pub record Discharged (I W J X : List ℕ) (old : Mark) (S : State) (K : Out Made Refs) (hyps footing used : List ℕ) (new : Mark) : Type 0 where
  pub refs : Refs
  pub went : Went I W J X old K refs new
  pub rests : holds hyps ≡ refs.hyps
  pub earlier : Under (length S.facts) (holds hyps)
  pub uses : holds footing ≡ refs.footing
  pub known : Under (length S.theory.rules) (holds footing)
  pub vars : holds used ≡ variables_of refs.judgments

abbrev pub DischargedBy : List ℕ → List ℕ → List ℕ → List ℕ → Mark → Mark → State → Out Made Refs → Result Discharge Question → Type 0
DischargedBy I W J X old new S K (Ok d) = Discharged I W J X old S K d.support.hyps d.support.footing d.used new
DischargedBy I W J X old new S K (Err q) = Stopped I W J X old K (number_of q) (detail_of q) new

abbrev pub DischargedAs : Store → Store → State → Out Made Refs → Result Discharge Question → Type 0
DischargedAs s t S K r = DischargedBy s.index.now s.words.now t.index.now t.words.now s.mark t.mark S K r
