-- Two sets of rules for each fact: those on which it rests, and those that it tolerates. What a choice of such sets must respect of every
-- form: a fact rests on the rule that it names and on what the facts rest on that it cites, and tolerates what all of these tolerate.
-- The theory's rules for both are one choice; footings are another. Definitions only.
use Rattle.std.specs.Prelude.{ℕ, ◌≡◌, ◌⊎◌, length, Some as some}
use Rattle.rules.specs.Sexp.{Sexp, Sexps, atom, list, count, item}
use Rattle.rules.specs.Tags.{Tag, a_var, a_def, a_step, a_hyp, a_rule_hyp, an_induct, an_induct_with, an_apply, an_invert, a_result}
use Rattle.rules.specs.Theory.{Theory, rule_named}
use Rattle.rules.specs.State.{State}
use Rattle.meaning.specs.Derivation.{RuleOf}
use Rattle.meaning.specs.Named.{Points, SomeRefers, NamesAs, tag_of}

-- by a fact's number
pub record Sets : Type 1 where
  pub known : ℕ → ℕ → Type 0
  pub part : ℕ → ℕ → Type 0

-- the theory's rules
abbrev pub of_theory : Theory → Sets
of_theory T = record { known = λ n r. RuleOf T r; part = λ n r. RuleOf T r }

-- a `step` names rule r
unfoldable pub RuleAt : Theory → Sexp → ℕ → Type 0
RuleAt T (atom p bs) r = rule_named T bs ≡ some r
RuleAt T (list xs) r = ⊥

unfoldable pub RuleAs : Tag → State → Sexps → ℕ → Type 0
RuleAs a_step S xs r = RuleAt S.theory (item xs 2) r
RuleAs a_var S xs r = ⊥
RuleAs a_def S xs r = ⊥
RuleAs a_hyp S xs r = ⊥
RuleAs a_rule_hyp S xs r = ⊥
RuleAs an_induct S xs r = ⊥
RuleAs an_induct_with S xs r = ⊥
RuleAs an_apply S xs r = ⊥
RuleAs an_invert S xs r = ⊥
RuleAs a_result S xs r = ⊥

-- the new fact cites fact i: by a reference, by a case, or as what is applied
unfoldable pub CitesAs : Tag → State → Sexps → ℕ → Type 0
CitesAs an_apply S xs i = Points (item xs 2) i ⊎ SomeRefers (item xs 4) i
CitesAs a_var S xs i = ⊥
CitesAs a_def S xs i = ⊥
CitesAs a_hyp S xs i = ⊥
CitesAs a_rule_hyp S xs i = ⊥
CitesAs a_step S xs i = NamesAs a_step S xs i
CitesAs an_induct S xs i = NamesAs an_induct S xs i
CitesAs an_induct_with S xs i = NamesAs an_induct_with S xs i
CitesAs an_invert S xs i = NamesAs an_invert S xs i
CitesAs a_result S xs i = ⊥

-- for the tag t of the form
unfoldable pub Tagged : (Tag → State → Sexps → ℕ → Type 0) → State → Sexp → ℕ → Type 0
Tagged P S (atom p bs) i = ⊥
Tagged P S (list xs) i = (t : Tag) × (tag_of (item xs 0) (count xs) ≡ some t) × P t S xs i

-- the new fact is the next one
pub record Respects (K : Sets) (S : State) (x : Sexp) : Type 0 where
  pub rests : (r : ℕ) → Tagged RuleAs S x r → K.part (length S.facts) r
  pub cites : (i : ℕ) → Tagged CitesAs S x i
      → ((r : ℕ) → K.part i r → K.part (length S.facts) r) × ((r : ℕ) → K.known (length S.facts) r → K.known i r)

-- only rules of the theory are tolerated
abbrev pub Within : Sets → Theory → Type 0
Within K T = (n r : ℕ) → K.known n r → RuleOf T r
