-- The facts of every state that a check reaches are shaped as Laws/Shape says: they rest on assumed facts, up to themselves, by rising number;
-- and the count of hypotheses is the number of assumed facts. A form that gave a fact a later number to rest on, a hypothesis that is not its
-- own, or premises to a fact that is not assumed, would be caught here; so would one that counted a hypothesis that it did not add.
-- Assumes nothing.
use Rattle.std.specs.Prelude.{ℕ, ◌+◌, ◌≡◌, refl, List, [], ◌∷◌, ◌++◌, length}
use Rattle.std.proofs.Common.{arith}
use Rattle.rules.specs.Find.{entry}
use Rattle.rules.specs.Sexp.{Sexp}
use Rattle.rules.specs.Theory.{Theory}
use Rattle.rules.specs.State.{State, Fact, Counts, begin}
use Rattle.rules.specs.Forms.{take_goal, take_form, plus}
use Rattle.rules.specs.Check.{check}
use Rattle.rules.specs.Laws.Out.{Ok, weaken}
use Rattle.rules.specs.Laws.Shape.{ShapedIn, all_shaped_snoc}
use Rattle.rules.proofs.Laws.Form.{assumed_one, Posed, posed_var, posed_goal, Taken, new_var, new_def, new_fact, got_result, take_goal_takes, take_form_takes}
use Rattle.rules.proofs.Laws.Appends.{anything, ready_any}
use Rattle.rules.specs.Laws.Reached.{check_reaches}

-- the number of assumed facts
unfoldable pub assumed_in : List Fact → ℕ
assumed_in [] = 0
assumed_in (f ∷ fs) = assumed_one f + assumed_in fs

assumed_snoc : (fs : List Fact) (f : Fact) → assumed_in (fs ++ (f ∷ [])) ≡ assumed_in fs + assumed_one f
unfolding assumed_in
assumed_snoc [] f = omega arith
assumed_snoc (g ∷ fs) f = omega (arith, assumed_snoc fs f)

pub record FactsRight (S : State) : Type 0 where
  pub shaped : ShapedIn S
  pub hypotheses : S.counts.hypotheses ≡ assumed_in S.facts

begins_right : (T : Theory) → FactsRight (begin T)
unfolding entry assumed_in
begins_right T = record { shaped = λ n f e. absurd (let z : ◌≡◌ {A = ℕ} 0 1 = cc in omega arith); hypotheses = refl }

posed_right : {S U : State} → FactsRight S → Posed anything S U → FactsRight U
posed_right h (posed_var v l) = record { shaped = h.shaped; hypotheses = h.hypotheses }
posed_right h (posed_goal m g k i l r) = record { shaped = h.shaped; hypotheses = h.hypotheses }

taken_right : {S : State} {c : Counts} {U : State} → FactsRight S → Taken anything S c U → FactsRight U
unfolding plus
taken_right h (new_var v l) = record { shaped = h.shaped; hypotheses = h.hypotheses }
taken_right h (new_def m d g p l) = record { shaped = h.shaped; hypotheses = h.hypotheses }
taken_right {S} h (new_fact vs m f c l g p n k r) =
    let q = n h.shaped in
    record { shaped = all_shaped_snoc (length S.theory.rules) S.facts f h.shaped q.shape; hypotheses = omega (arith, h.hypotheses, q.weighs, assumed_snoc S.facts f) }
taken_right h (got_result m k d g e t) = record { shaped = h.shaped; hypotheses = h.hypotheses }

pub take_goal_right : (x : Sexp) (S : State) → FactsRight S → Ok (λ a U. FactsRight U) (take_goal x S)
take_goal_right x S h = weaken (take_goal_takes x S (ready_any S S.made)) (λ a U p. posed_right h p)

pub take_form_right : (x : Sexp) (S : State) → FactsRight S → Ok (λ a U. FactsRight U) (take_form x S)
take_form_right x S h = weaken (take_form_takes x S (ready_any S S.made)) (λ a U p. taken_right h p)

pub facts_right : (t g f : List ℕ) → FactsRight (check t g f).state
facts_right = check_reaches FactsRight begins_right take_goal_right take_form_right
