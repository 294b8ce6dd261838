-- The arms of `goal_items` and `form_items`: what they answer, from what the form of the tag answers. Assumes nothing.
use Rattle.state.specs.Records.{fact_feet}
use mathlib.Core.Path.{◌≡◌, refl, sym, ap, ◌∙◌, subst}
use mathlib.Core.List.{List}
use Prim.Native.Nat.{ℕ, ◌+◌, ◌≤◌}
use native.Mathlib.Omega.{arith}
use Rattle.std.specs.Prelude.{Some as some, None as nothing, Result, Ok, Err}
use Rattle.std.specs.Result.{result_and}
use Rattle.rules.specs.Out.{Out, refuse, Act}
use Rattle.rules.specs.Sexp.{Sexps, count}
use Rattle.rules.specs.State.{State, Counts}
use Rattle.rules.specs.Tags.{Tag, a_var, a_def, a_result, a_variable, GoalForm, proof_tag, goal_form}
use Rattle.rules.specs.Forms.{plus, add_var, add_def, add_invert, goal, result, next, perform}
use Rattle.questions.specs.declared.Question.{Question}
use Rattle.questions.specs.declared.Question.TheVariants.{ProofForm, GoalForm as NoGoalForm}
use Rattle.questions.specs.Numbers.{number_of, detail_of}
use Rattle.sexp.specs.Never.{never}
use Rattle.sexp.specs.TagTable.{tag_answer}
use Rattle.sexp.specs.declared.tags.Tag.{Tag as TagAnswer}
use Rattle.sexp.specs.declared.tags.Tag.TheVariants.{Var, Def, Step, Hyp, RuleHyp, Induct, InductWith, Apply, Invert, Outcome}
use Rattle.terms.specs.declared.store.Store.{Store}
use Rattle.state.specs.declared.board.Given.{Given}
use Rattle.state.specs.declared.board.Board.{Board}
use Rattle.terms.specs.Table.{made}
use Rattle.state.specs.Boards.{OnlyVars, OnlyDefs, OnlyRows, OnlyGoals, OnlyHyps, OnlyFacts, OnlyFactsAndVars}
use Rattle.state.specs.Held.{text_of, GoalsHeld}
use Rattle.state.specs.FactLaws.{entries_fit}
use Rattle.counts.specs.Sum.{none}
use Rattle.counts.specs.Counted.{counts_of}
use Rattle.counts.specs.declared.Counts.{Counts as Counted}
use Rattle.forms.specs.Boards.{StandsIn}
use Rattle.forms.specs.Moved.{MovesIn, LeftIn}
use Rattle.forms.specs.Next.{OwnIndex, NextAs}
use Rattle.forms.specs.Laws.Making.{makes_none}
use Rattle.forms.specs.Laws.Nexts.{stands_own, Numbers, steps, hyps, rule_hyps, inducts, inducts_with, applies, inverts, perform_next, perform_not}
use Rattle.forms.specs.Boards.{AddsGoalIn}
use Rattle.forms.specs.Declares.{VarAs, DefAs}
use Rattle.forms.specs.Assumed.{AssumedAs}
use Rattle.forms.specs.Results.{ResultedAs}
use Rattle.forms.specs.Goals.{AimedAs}
use Rattle.forms.specs.Laws.Declared.{var_taken, var_left, def_taken, def_left}
use Rattle.forms.specs.Laws.Assumed.{assumed_taken, assumed_left}
use Rattle.forms.specs.Laws.Results.{result_taken, result_left}
use Rattle.forms.specs.Laws.Goals.{goal_taken, goal_left}
use Rattle.entering.specs.declared.derive.Way.{Way}
use Rattle.entering.specs.Entered.{AddsBy, EnteredAs, AddedBy, way_act}
use Rattle.entering.specs.Inverted.{InversionAs, InvertedBy}
use Rattle.entering.specs.declared.derive.Way.TheVariants as way
use Rattle.entering.specs.Laws.Deriving.{least_of, stands_adds, adds_entered, entered_taken, entered_left}
use Rattle.entering.specs.Laws.Inverting.{stands_inversion, inverted_taken, inverted_left}
use Rattle.taking.specs.Tagged.{tagged, chosen}
use Rattle.taking.specs.Tried.{ItemsIn, GoalItemsIn, TriedIn, GoalTriedIn, one_hypothesis, NumberedAs}
use Rattle.taking.proofs.Heads.{least_of as least_of_tag, tag_told, told, form_many}

-- Counts ---------------------------------------------------------------------------------------------------------------------------

-- nothing more
plus_none : (c : Counts) → plus c (counts_of none) ≡ c
unfolding plus
plus_none c =
    let e : c.hypotheses + 0 ≡ c.hypotheses = omega arith in
    let f : c.inductions + 0 ≡ c.inductions = omega arith in
    let g : c.inversions + 0 ≡ c.inversions = omega arith in
    let h : c.instances + 0 ≡ c.instances = omega arith in
    λ i. record { hypotheses = e i; inductions = f i; inversions = g i; instances = h i }

pub uncounted : (g : Given) (b : Board) (s : Store) {K : Out State (Unit {0})} (c : Counts) → MovesIn g b s K c → MovesIn g b s K (plus c (counts_of none))
uncounted g b s c w = record { after = w.after; is = w.is; stands = w.stands; counted = w.counted ∙ sym (plus_none c) }

pub text_proof : (goals text : List ℕ) → text_of goals text 3 ≡ text
unfolding text_of
text_proof goals text = refl

-- Nothing is done --------------------------------------------------------------------------------------------------------------------

left_as_is : (g : Given) (b : Board) (s : Store) {S : State} → StandsIn g b s S → {K : Out State (Unit {0})} (q : Question) → K ≡ refuse (number_of q) (detail_of q) S → LeftIn b b s s K q
left_as_is g b s {S} h q e = (record { until = S; is = e; makes = makes_none S h.good h.spelling.trees; rests = refl }, refl)

-- Forms of the proof -----------------------------------------------------------------------------------------------------------------

module _ {g : Given} {b : Board} {s : Store} {cells : List ℕ} (i : ItemsIn g b s cells) where
  -- what the definition answers
  abbrev pub answered : Out State (Unit {0})
  answered = chosen 30 perform (tagged proof_tag i.xs) i.xs i.S

  -- no tag
  pub untagged : tagged proof_tag i.xs ≡ nothing → TriedIn g b b s s i.S answered (Err ProofForm)
  untagged e = left_as_is g b s i.stands ProofForm (ap (λ z. chosen 30 perform z i.xs i.S) e)

  module _ {a : Tag} (e : tagged proof_tag i.xs ≡ some a) where
    -- c, t: the tables and the store afterwards
    pub performed : {K : Out State (Unit {0})} → perform a i.xs i.S ≡ K → (c : Board) (t : Store) (r : Result Counted Question) → TriedIn g b c s t i.S K r →
        TriedIn g b c s t i.S answered r
    performed k c t r w = subst (λ z. TriedIn g b c s t i.S z r) (sym (ap (λ z. chosen 30 perform z i.xs i.S) e ∙ k)) w

    module _ {f : Sexps → Act State (Unit {0})} (k : Numbers a f) where
      -- behind the index that is next
      pub numbered : {u : Unit {0}} → NextAs i.S (next i.xs i.S) (Ok u) → (c : Board) (t : Store) (r : Result Counted Question) →
          TriedIn g b c s t i.S (f i.xs i.S) r → TriedIn g b c s t i.S answered r
      numbered w c t r z = performed (perform_next k i.xs i.S w) c t r z

      -- behind another
      pub misnumbered : (q : Question) → NextAs i.S (next i.xs i.S) (Err q) → TriedIn g b b s s i.S answered (Err q)
      misnumbered q w = performed refl b s (Err q) (left_as_is g b s i.stands q (perform_not k i.xs i.S w.0))

-- Tags of the code -------------------------------------------------------------------------------------------------------------------

pub three : (r : TagAnswer) → 3 ≤ least_of_tag (tag_told r)
three Var = omega arith
three Def = omega arith
three Step = omega arith
three Hyp = omega arith
three RuleHyp = omega arith
three Induct = omega arith
three InductWith = omega arith
three Apply = omega arith
three Invert = omega arith
three Outcome = omega arith

-- the tags of forms that give an index
pub numbered_else : (r : TagAnswer) (S : State) (K : Out State (Unit {0})) (a : Result (Unit {0}) Question) → ¬ (r ≡ Var) → ¬ (r ≡ Def) → ¬ (r ≡ Outcome) →
    NextAs S K a → NumberedAs r S K a
numbered_else Var S K a v d o w = absurd (v refl)
numbered_else Def S K a v d o w = absurd (d refl)
numbered_else Step S K a v d o w = w
numbered_else Hyp S K a v d o w = w
numbered_else RuleHyp S K a v d o w = w
numbered_else Induct S K a v d o w = w
numbered_else InductWith S K a v d o w = w
numbered_else Apply S K a v d o w = w
numbered_else Invert S K a v d o w = w
numbered_else Outcome S K a v d o w = absurd (o refl)

-- of the forms of derived facts
abbrev pub way_tag : Way → TagAnswer
way_tag way.Step = Step
way_tag way.Apply = Apply
way_tag way.Induct = Induct
way_tag way.InductWith = InductWith

way_numbers : (w : Way) → Numbers (tag_told (way_tag w)) (λ xs S. way_act w xs S)
way_numbers way.Step = steps
way_numbers way.Apply = applies
way_numbers way.Induct = inducts
way_numbers way.InductWith = inducts_with

way_many : (w : Way) {n : ℕ} → least_of_tag (tag_told (way_tag w)) ≤ n → least_of w ≤ n
way_many way.Step l = l
way_many way.Apply l = l
way_many way.Induct l = l
way_many way.InductWith l = l

way_next : (w : Way) (S : State) (K : Out State (Unit {0})) (a : Result (Unit {0}) Question) → NumberedAs (way_tag w) S K a → NextAs S K a
way_next way.Step S K a n = n
way_next way.Apply S K a n = n
way_next way.Induct S K a n = n
way_next way.InductWith S K a n = n

-- r: what `tag_of` answers
module _ {g : Given} {b : Board} {s : Store} {cells : List ℕ} (i : ItemsIn g b s cells) {r : TagAnswer} (f : some r ≡ tag_answer (tagged proof_tag i.xs)) where
  -- what is asked for the index
  abbrev pub own : OwnIndex g.text.now cells b.n
  own = stands_own i.stands i.holds (omega (arith, form_many i.xs (tag_told r) (told r f refl), three r))

  -- the index is not the next
  pub unnumbered : (q : Question) → NumberedAs r i.S (next i.xs i.S) (Err q) → TriedIn g b b s s i.S (answered i) (Err q)
  unnumbered q n = go r (told r f refl) n
    where
      go : (a : TagAnswer) → tagged proof_tag i.xs ≡ some (tag_told a) → NumberedAs a i.S (next i.xs i.S) (Err q) → TriedIn g b b s s i.S (answered i) (Err q)
      go Var e n = never cc
      go Def e n = never cc
      go Step e n = misnumbered i e steps q n
      go Hyp e n = misnumbered i e hyps q n
      go RuleHyp e n = misnumbered i e rule_hyps q n
      go Induct e n = misnumbered i e inducts q n
      go InductWith e n = misnumbered i e inducts_with q n
      go Apply e n = misnumbered i e applies q n
      go Invert e n = misnumbered i e inverts q n
      go Outcome e n = never cc

  -- the tag of an arm
  module _ (a : TagAnswer) (e : r ≡ a) where
    pub many : least_of_tag (tag_told a) ≤ count i.xs
    many = form_many i.xs (tag_told a) (told a f e)

    pub next_is : (o : Result (Unit {0}) Question) → NumberedAs r i.S (next i.xs i.S) o → NumberedAs a i.S (next i.xs i.S) o
    next_is o n = subst (λ x. NumberedAs x i.S (next i.xs i.S) o) e n

-- Forms of facts ---------------------------------------------------------------------------------------------------------------------

-- a form that counts k where it is taken, and answers nothing else
module _ (g : Given) (b c : Board) (s t : Store) (S : State) (K : Out State (Unit {0})) (k : Counted) where
  pub counting : (r : Result (Unit {0}) Question) → ((u : Unit {0}) → r ≡ Ok u → MovesIn g c t K (plus S.counts (counts_of k))) →
      ((q : Question) → r ≡ Err q → LeftIn b c s t K q) → TriedIn g b c s t S K (result_and r (Ok k))
  counting (Ok u) m l = m u refl
  counting (Err q) m l = l q refl

module _ {g : Given} {b : Board} {s : Store} {cells : List ℕ} (i : ItemsIn g b s cells) (c : Board) (t : Store) where
  pub derived_tried : (w : Way) → least_of w ≤ count i.xs → (r : Result Counted Question) → OnlyFacts b c → AddedBy w g b c s t cells r →
      TriedIn g b c s t i.S (way_act w i.xs i.S) r
  derived_tried w l r o a = go r (adds_entered g b s i.stands i.holds w l c t r a)
    where
      go : (r : Result Counted Question) → EnteredAs b c s t i.S (way_act w i.xs i.S) r → TriedIn g b c s t i.S (way_act w i.xs i.S) r
      go (Ok u) z = entered_taken g b c s t i.stands (way_act w i.xs i.S) o z
      go (Err q) z = entered_left g b c s t i.stands (way_act w i.xs i.S) o q z

  pub assumed_tried : (K : Out State (Unit {0})) (r : Result (Unit {0}) Question) → OnlyHyps b c → AssumedAs b c (fact_feet b.facts.now) s t i.S K r →
      TriedIn g b c s t i.S K (result_and r (Ok one_hypothesis))
  assumed_tried K r o a = counting g b c s t i.S K one_hypothesis r
      (λ u e. assumed_taken g b c s t i.stands K r o a e) (λ q e. assumed_left g b c s t i.stands K r o a e)

  pub inverted_tried : (l : 6 ≤ count i.xs) (r : Result Counted Question) → OnlyFactsAndVars b c → InvertedBy g b c s t cells r → TriedIn g b c s t i.S (add_invert i.xs i.S) r
  inverted_tried l r o a = go r (a (stands_inversion g b s i.stands i.bounded i.holds l))
    where
      go : (r : Result Counted Question) → InversionAs g b c s t i.S (add_invert i.xs i.S) r → TriedIn g b c s t i.S (add_invert i.xs i.S) r
      go (Ok u) z = inverted_taken g b s i.stands c t (add_invert i.xs i.S) o z
      go (Err q) z = inverted_left g b s i.stands c t (add_invert i.xs i.S) o q z

-- by the way in which the fact is found; r: what `tag_of` answers
module _ {g : Given} {b : Board} {s : Store} {cells : List ℕ} (i : ItemsIn g b s cells) {r : TagAnswer} (f : some r ≡ tag_answer (tagged proof_tag i.xs))
    (w : Way) (e : r ≡ way_tag w) where
  way_least : least_of w ≤ count i.xs
  way_least = way_many w (many i f (way_tag w) e)

  pub given_by : AddsBy w g b s cells
  given_by = stands_adds g b s i.stands i.holds w way_least

  pub derived_by : {u : Unit {0}} → NumberedAs r i.S (next i.xs i.S) (Ok u) → (c : Board) (t : Store) (o : Result Counted Question) → OnlyFacts b c →
      AddedBy w g b c s t cells o → TriedIn g b c s t i.S (answered i) o
  derived_by n c t o k a = numbered i (told (way_tag w) f e) (way_numbers w) (way_next w i.S (next i.xs i.S) (Ok _) (next_is i f (way_tag w) e (Ok _) n)) c t o (derived_tried i c t w way_least o k a)

-- Forms of no fact -------------------------------------------------------------------------------------------------------------------

module _ {g : Given} {b : Board} {s : Store} {cells : List ℕ} (i : ItemsIn g b s cells) (c : Board) where
  pub var_tried : (r : Result (Unit {0}) Question) → OnlyVars b c → VarAs g b c 3 i.S (add_var 3 i.xs i.S) r →
      TriedIn g b c s s i.S (add_var 3 i.xs i.S) (result_and r (Ok none))
  var_tried r o a = counting g b c s s i.S (add_var 3 i.xs i.S) none r
      (λ u e. uncounted g c s i.S.counts (var_taken g b c s i.stands (add_var 3 i.xs i.S) 3 r o a (text_proof g.goals.now g.text.now) e))
      (λ q e. var_left g b c s i.stands (add_var 3 i.xs i.S) 3 r o a e)

  module _ (t : Store) where
    pub def_tried : (r : Result (Unit {0}) Question) → OnlyDefs b c → DefAs g b c s t i.S (add_def i.xs i.S) r →
        TriedIn g b c s t i.S (add_def i.xs i.S) (result_and r (Ok none))
    def_tried r o a = counting g b c s t i.S (add_def i.xs i.S) none r
        (λ u e. uncounted g c t i.S.counts (def_taken g b c s t i.stands (add_def i.xs i.S) r o a e))
        (λ q e. def_left g b c s t i.stands (add_def i.xs i.S) r o a e)

    pub result_tried : (r : Result (Unit {0}) Question) → OnlyRows b c → c.n ≡ b.n → ResultedAs b c s t i.S (result i.xs i.S) r →
        TriedIn g b c s t i.S (result i.xs i.S) (result_and r (Ok none))
    result_tried r o n a = counting g b c s t i.S (result i.xs i.S) none r
        (λ u e. uncounted g c t i.S.counts (result_taken g b c s t i.stands (result i.xs i.S) r o n a e))
        (λ q e. result_left g b c s t i.stands (result i.xs i.S) r o n a e)

-- The definition by the tag ------------------------------------------------------------------------------------------------------------

pub perform_var : (xs : Sexps) (S : State) → perform a_var xs S ≡ add_var 3 xs S
unfolding perform
perform_var xs S = refl

pub perform_def : (xs : Sexps) (S : State) → perform a_def xs S ≡ add_def xs S
unfolding perform
perform_def xs S = refl

pub perform_result : (xs : Sexps) (S : State) → perform a_result xs S ≡ result xs S
unfolding perform
perform_result xs S = refl

-- Forms of the goals -----------------------------------------------------------------------------------------------------------------

module _ {g : Given} {b : Board} {s : Store} {cells : List ℕ} (i : GoalItemsIn g b s cells) where
  abbrev pub goal_answered : Out State (Unit {0})
  goal_answered = chosen 20 goal (tagged goal_form i.items.xs) i.items.xs i.items.S

  pub goal_untagged : tagged goal_form i.items.xs ≡ nothing → GoalTriedIn g b b s s i.items.S goal_answered (Err NoGoalForm)
  goal_untagged e = left_as_is g b s i.items.stands NoGoalForm (ap (λ z. chosen 20 goal z i.items.xs i.items.S) e)

  module _ {a : GoalForm} (e : tagged goal_form i.items.xs ≡ some a) where
    pub posed : {K : Out State (Unit {0})} → goal a i.items.xs i.items.S ≡ K → (c : Board) (t : Store) (r : Result (Unit {0}) Question) →
        GoalTriedIn g b c s t i.items.S K r → GoalTriedIn g b c s t i.items.S goal_answered r
    posed k c t r w = subst (λ z. GoalTriedIn g b c s t i.items.S z r) (sym (ap (λ z. chosen 20 goal z i.items.xs i.items.S) e ∙ k)) w

pub goal_var : (xs : Sexps) (S : State) → goal a_variable xs S ≡ add_var 2 xs S
unfolding goal
goal_var xs S = refl

pub text_goals : (goals text : List ℕ) → text_of goals text 2 ≡ goals
unfolding text_of
text_goals goals text = refl

module _ {g : Given} {b : Board} {s : Store} {cells : List ℕ} (i : GoalItemsIn g b s cells) where
  -- what both forms of a goal are given
  abbrev pub goal_given : {least : ℕ} → least ≤ count i.items.xs → AddsGoalIn g b s cells least
  goal_given l =
      let h = i.items.stands in
      record {
        S = i.items.S;
        xs = i.items.xs;
        reads = record { spelling = h.spelling; good = h.good };
        store = h.store;
        held = subst (λ z. GoalsHeld z b.rows.now b.n.goals (made s.index.now s.words.now s.mark) i.items.S.goals) (sym i.text) h.goals;
        used = h.recorded.used;
        fits = entries_fit h.recorded;
        holds = i.items.holds;
        many = l;
      }

  pub posed_var : (c : Board) (r : Result (Unit {0}) Question) → OnlyVars b c → VarAs g b c 2 i.items.S (add_var 2 i.items.xs i.items.S) r →
      GoalTriedIn g b c s s i.items.S (add_var 2 i.items.xs i.items.S) r
  posed_var c (Ok u) o a = var_taken g b c s i.items.stands (add_var 2 i.items.xs i.items.S) 2 (Ok u) o a (text_goals g.goals.now g.text.now ∙ sym i.text) refl
  posed_var c (Err q) o a = var_left g b c s i.items.stands (add_var 2 i.items.xs i.items.S) 2 (Err q) o a refl

  module _ (a : GoalForm) (c : Board) (t : Store) where
    pub posed_goal : (r : Result (Unit {0}) Question) → OnlyGoals b c → AimedAs g b c s t i.items.S (goal a i.items.xs i.items.S) r →
        GoalTriedIn g b c s t i.items.S (goal a i.items.xs i.items.S) r
    posed_goal (Ok u) o w = goal_taken g b c s t i.items.stands i.text (goal a i.items.xs i.items.S) (Ok u) o w refl i.none_yet
    posed_goal (Err q) o w = goal_left g b c s t i.items.stands i.text (goal a i.items.xs i.items.S) (Err q) o w refl

    -- where no entry of a list has changed either
    pub posed_row : (r : Result (Unit {0}) Question) → OnlyRows b c → AimedAs g b c s t i.items.S (goal a i.items.xs i.items.S) r →
        GoalTriedIn g b c s t i.items.S (goal a i.items.xs i.items.S) r
    posed_row r o w = posed_goal r (o.0, o.1, o.2) w
