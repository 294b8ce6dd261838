-- What `invert` is given and what it answers: a derived fact, and the variables with those that were made. Assumes nothing.
use Rattle.std.specs.Prelude.{◌≡◌, List, [], ℕ, ◌<◌, ◌≤◌, length, Result, Ok, Err}
use Rattle.rules.specs.Limits.{VARIABLES}
use Rattle.rules.specs.Out.{Out, ok, refuse, Act, ◌>>=◌, pure, ask}
use Rattle.rules.specs.Sexp.{Sexps, count, item, items}
use Rattle.rules.specs.Tree.{Tree}
use Rattle.rules.specs.Store.{Made}
use Rattle.rules.specs.State.{State, Var, Fact, is_plain}
use Rattle.rules.specs.Read.{index}
use Rattle.rules.specs.Reference.{fact_at, hyp_list}
use Rattle.rules.specs.Find.{rising}
use Rattle.rules.specs.Theory.{rules_of}
use Rattle.rules.specs.Invert.{read_cases, invert_rules, predicate_of}
use Rattle.rules.proofs.Laws.Below.{Below, MadeBelow}
use Rattle.sexp.specs.Items.{Holds}
use Rattle.terms.specs.declared.store.Mark.{Mark}
use Rattle.terms.specs.Table.{made, tree}
use Rattle.terms.specs.Sets.{holds}
use Rattle.terms.specs.On.{Went, Stopped}
use Rattle.state.specs.declared.sizes.Sizes.{Sizes}
use Rattle.state.specs.Held.{Names, RuleLists, Ruled, records, Recorded}
use Rattle.state.specs.Members.{Under}
use Rattle.questions.specs.declared.Question.{Question}
use Rattle.questions.specs.Numbers.{number_of, detail_of}
use Rattle.inversion.specs.declared.inverting.Variables.{Variables}
use Rattle.inversion.specs.declared.invert.Hypotheses.{Hypotheses}
use Rattle.referring.specs.Recall.{Refers, fact_of}
use Rattle.referring.specs.declared.support.Derived.{Derived}
use Rattle.referring.specs.Derived.{derived_fact}
-- beside `Below` of trees
use Rattle.terms.specs.Table.{Below as There}
use Rattle.inversion.specs.InvertRules.{Unmade, vars_with}

-- a form of at least six items, read beside facts and rules; the variables of all trees made are among those of the state
pub record InvertForm (K : Names) (P : RuleLists) (facts footings lists : List ℕ) (n : Sizes) (I W : List ℕ) (m : Mark) (cells : List ℕ) : Type 0 where
  pub S : State
  pub xs : Sexps
  pub refers : Refers K facts footings lists n I W m S
  pub ruled : Ruled P n S.theory
  pub holds_items : Holds K.text cells xs
  pub many : 6 ≤ count xs
  pub low : MadeBelow (length S.vars) (made I W m)

-- the facts in their table, and a form of at least four items, of which the third names a fact, the fourth lists some
pub record NamingForm (text facts : List ℕ) (n : Sizes) (cells : List ℕ) : Type 0 where
  pub S : State
  pub xs : Sexps
  pub made_trees : Made
  pub footings : List ℕ
  pub lists : List ℕ
  pub recorded : Recorded (records facts footings lists) n made_trees S
  pub holds_items : Holds text cells xs
  pub many : 4 ≤ count xs

-- the fact's number and the fact, and the facts that are listed
abbrev pub hypothesis_of : State → Sexps → Act Made (ℕ × (Fact × List ℕ))
hypothesis_of S xs = do
  i ← index 34 (item xs 2)
  k ← fact_at S i
  _ ← ask 40 (is_plain k)
  hs ← hyp_list (λ f. f.assumed) S (item xs 3)
  pure (i, (k, hs))

-- K answers fact i, and the facts that are in the set
pub record HypothesisRead (S : State) (n : Sizes) (hyps : List ℕ) (K : Act Made (ℕ × (Fact × List ℕ))) (i : ℕ) : Type 0 where
  pub read : (M : Made) → K M ≡ ok (i, (fact_of S i, rising n.facts (holds hyps))) M
  pub there : i < n.facts
  pub early : Under n.facts (holds hyps)

abbrev pub HypothesisAs : State → Sizes → Act Made (ℕ × (Fact × List ℕ)) → Result Hypotheses Question → Type 0
HypothesisAs S n K (Ok h) = HypothesisRead S n h.hyps K h.fact
HypothesisAs S n K (Err q) = (M : Made) → K M ≡ refuse (number_of q) (detail_of q) M

-- the rest of the form, behind its judgment j; s: the hypothesis; context: its facts
pub record InvertingOn (K : Names) (P : RuleLists) (facts lists : List ℕ) (n : Sizes) (I W : List ℕ) (m : Mark) (cells : List ℕ) (s j : ℕ) (context : List ℕ) : Type 0 where
  pub footings : List ℕ
  pub form : InvertForm K P facts footings lists n I W m cells
  pub hypothesis : s < m.terms
  pub judgment : j < m.terms
  pub below : Below (length form.S.vars) (tree I W m s)
  pub known : There n.facts context

-- hs: the facts of the context
abbrev pub invert_on : State → Sexps → Tree → Tree → List ℕ → Act Made (List Var)
invert_on S xs s j hs = do
  ys ← items 41 (item xs 5)
  cs ← read_cases S ys []
  N ← invert_rules S (record { hypothesis = s; judgment = j; context = hs; cases = cs }) (rules_of S.theory (predicate_of s)) (record { vars = S.vars; seen = [] })
  pure N.vars

-- K answers k variables: those of before and those made, by their sorts
pub record InvertedOn (I W J X : List ℕ) (old : Mark) (S : State) (K : Out Made (List Var)) (sorts : List ℕ) (k : ℕ) (new : Mark) : Type 0 where
  pub went : Went I W J X old K (vars_with S.vars sorts k) new
  pub more : length S.vars ≤ k
  pub few : k ≤ VARIABLES
  pub others : Unmade (length S.vars) k sorts

abbrev pub InvertedOnBy : List ℕ → List ℕ → List ℕ → List ℕ → Mark → Mark → State → Out Made (List Var) → Variables → Result (Unit {0}) Question → Type 0
InvertedOnBy I W J X old new S K v (Ok _) = InvertedOn I W J X old S K v.sorts v.count new
InvertedOnBy I W J X old new S K v (Err q) = Stopped I W J X old K (number_of q) (detail_of q) new

-- K answers the fact with judgment j, and k variables: those of before and those made, by their sorts
pub record InvertedRead (I W J X : List ℕ) (old : Mark) (S : State) (K : Out Made (Fact × List Var)) (hyps footing sorts : List ℕ) (j k : ℕ) (new : Mark) : Type 0 where
  pub went : Went I W J X old K (derived_fact S (tree J X new j) hyps footing, vars_with S.vars sorts k) new
  pub there : j < new.terms
  pub earlier : Under (length S.facts) (holds hyps)
  pub known : Under (length S.theory.rules) (holds footing)
  pub more : length S.vars ≤ k
  pub few : k ≤ VARIABLES
  pub others : Unmade (length S.vars) k sorts

-- v: the variables; no reference of it is an instance
abbrev pub InvertedBy : List ℕ → List ℕ → List ℕ → List ℕ → Mark → Mark → State → Out Made (Fact × List Var) → Variables → Result Derived Question → Type 0
InvertedBy I W J X old new S K v (Ok d) =
    InvertedRead I W J X old S K d.support.hyps d.support.footing v.sorts d.judgment v.count new × (d.instances ≡ 0)
InvertedBy I W J X old new S K v (Err q) = Stopped I W J X old K (number_of q) (detail_of q) new
