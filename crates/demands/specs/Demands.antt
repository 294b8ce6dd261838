-- The customer's three demands, stated of a call of the code. `Call` is what the contract of `check` promises of the three texts, of the tables before and
-- afterwards, and of the answer; every claim here is about such a call. The tables are those of TABLES.md, of whatever length and content before the call;
-- Reader says what is read off them afterwards. The words: rules/specs/StateTables (Long, Laid), meaning/specs (Truth, Derivation, Written, Runs).
--
--     short_unwritten       demand 1: where a table is too short the answer is 1, and nothing is written
--     tables_named          demand 1: else every cell of every table is what the definition lays out; what lies past the named lengths is as it was
--     answer_defined        demand 2: the answer is the definition's
--     facts_recorded        demand 2: the facts that are read off the tables are those that the definition records, all of them and in order
--     facts_in_tables_true  demand 3: each fact that is read off the tables is true, but for a rule hypothesis with premises
--     goals_in_tables       demand 3: each goal that stands there as taken is derivable, in every ground instance, where what it lists is
--     derivation_in_tables  demand 3: a written derivation is accepted just where it is inside the limits; else 2, 5 or 60 refuses it
--
-- That unification fails only where no unifier exists (demand 2) is `inversions_complete` of meaning/proofs/Theorems: it speaks of the definition, whose every
-- answer the code gives. Assumes nothing.
use Rattle.std.specs.Prelude.{ℕ, ◌<◌, ◌≡◌, refl, true, List, length, get_or, Some as some}
use Rattle.std.proofs.Common.{sym, ap, ◌∙◌, subst}
use Rattle.rules.specs.Find.{entry}
use Rattle.rules.specs.State.{State, Goal}
use Rattle.rules.specs.Check.{Answer, refuses, check}
use Rattle.rules.specs.StateTables.{Tables, Long, Laid, Checked, too_short, answered}
use Rattle.meaning.specs.Derivation.{RuleOf}
use Rattle.meaning.specs.Truth.{True}
use Rattle.meaning.specs.Named.{RuleHyp}
use Rattle.meaning.specs.Runs.{CalmTexts}
use Rattle.meaning.specs.Bridge.Asked.{entry_at as is_at}
use Rattle.meaning.specs.Theorems.{sorts_of, Follows}
use Rattle.meaning.proofs.Theorems.{check_right}
use Rattle.meaning.specs.Written.{Written, inside, Verdict}
use Rattle.meaning.proofs.Writing.Accepted.{derivation_accepted}
use Rattle.state.specs.RowCells.{no_fact}
use Rattle.state.specs.RowTables.{entry_at}
use Rattle.running.specs.ReadBack.{Call}
use Rattle.demands.specs.Reader.{goal_in, fact_in, facts_in}
use Rattle.demands.specs.ReaderLaws.{fact_read, goal_read, facts_read}

-- what a call says, by its two cases: too short tables, and an answer
short_case : {t g f : List ℕ} {before after : Tables} {answer : Answer} → Checked t g f before after answer → ¬ (Long before)
    → (answer ≡ refuses (record { number = 1; text = 0; form = 0; detail = 0 })) × (after ≡ before)
short_case (too_short m e) n = (refl, e)
short_case (answered l d) n = absurd (n l)

laid_case : {t g f : List ℕ} {before after : Tables} {answer : Answer} → Checked t g f before after answer → Long before
    → Laid (check t g f) before after
laid_case (too_short n e) l = absurd (n l)
laid_case (answered m d) l = d

answer_case : {t g f : List ℕ} {before after : Tables} {answer : Answer} → Checked t g f before after answer → Long before
    → answer ≡ (check t g f).answer
answer_case (too_short n e) l = absurd (n l)
answer_case (answered m d) l = refl

module _ {theory goals proof : List ℕ} {before after : Tables} {answer : Answer} (call : Call theory goals proof before after answer) where
  -- what the definition leaves
  abbrev S : State
  S = (check theory goals proof).state

  -- Demand 1 -----------------------------------------------------------------------------------------------------------------------

  pub short_unwritten : ¬ (Long before) → (answer ≡ refuses (record { number = 1; text = 0; form = 0; detail = 0 })) × (after ≡ before)
  short_unwritten n = short_case call.checked n

  pub tables_named : Long before → Laid (check theory goals proof) before after
  tables_named l = laid_case call.checked l

  -- Demand 2 -----------------------------------------------------------------------------------------------------------------------

  pub answer_defined : Long before → answer ≡ (check theory goals proof).answer
  answer_defined l = answer_case call.checked l

  pub facts_recorded : Long before → facts_in after (length S.facts) ≡ S.facts
  facts_recorded l = facts_read (call.read l)

  -- Demand 3 -----------------------------------------------------------------------------------------------------------------------

  -- the premise: no reference and no case of a form that is taken names a rule hypothesis with premises
  module _ (calm : CalmTexts theory goals proof) (long : Long before) where
    pub facts_in_tables_true : (i : ℕ) → i < length S.facts → ¬ (RuleHyp (fact_in after i)) →
        True S.theory (sorts_of S) (RuleOf S.theory) (facts_in after (length S.facts)) (fact_in after i)
    facts_in_tables_true i l n =
        let f = get_or S.facts i no_fact in
        let e = entry_at S.facts i no_fact l in
        let q : fact_in after i ≡ f = fact_read (call.read long) i f e in
        let t : True S.theory (sorts_of S) (RuleOf S.theory) S.facts f =
        (check_right theory goals proof calm).facts i f (is_at S.facts i f e) (λ r. n (subst RuleHyp (sym q) r)) in
        subst (λ fs. True S.theory (sorts_of S) (RuleOf S.theory) fs (fact_in after i)) (sym (facts_recorded long))
        (subst (True S.theory (sorts_of S) (RuleOf S.theory) S.facts) (sym q) t)

    pub goals_in_tables : (k : ℕ) (g : Goal) → entry S.goals k ≡ some g → (goal_in after g.name k).taken ≡ true →
        Follows S.theory (RuleOf S.theory) S (goal_in after g.name k)
    goals_in_tables k g e t =
        let q = goal_read (call.read long) k g e in
        subst (Follows S.theory (RuleOf S.theory) S) (sym q)
        ((check_right theory goals proof calm).goals k g e (sym (ap (λ (h : Goal). h.taken) q) ∙ t))

  pub derivation_in_tables : (w : Written theory goals proof) → Long before → Verdict (inside w) (length w.steps) answer
  derivation_in_tables w l = subst (Verdict (inside w) (length w.steps)) (sym (answer_defined l)) (derivation_accepted w)
