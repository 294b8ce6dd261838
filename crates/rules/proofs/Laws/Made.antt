-- The made trees, in every state that a check reaches: no tree stands twice, the arguments of a tree stand before it, rows 8 and 9 hold, and
-- the trees of abbreviations, goals and facts are among them. A store that kept a tree again, stored a term before its arguments, or a form
-- that answered a tree which it never made, would not have this. Each action on made trees keeps it whether it answers or refuses: those laws
-- are `keep_keeps`, `substitute_keeps`, `term_keeps`, `step_keeps` and so on, at the invariant `sound`. Assumes nothing.
use Rattle.std.specs.Prelude.{ℕ, List, []}
use Rattle.std.proofs.Common.{arith}
use Rattle.rules.specs.Sexp.{Sexp}
use Rattle.rules.specs.Store.{words}
use Rattle.rules.specs.Theory.{Theory}
use Rattle.rules.specs.State.{State, Counts, begin}
use Rattle.rules.specs.Forms.{take_goal, take_form, taken_goal}
use Rattle.rules.specs.Check.{check}
use Rattle.rules.specs.Laws.Out.{Ok, weaken}
use Rattle.rules.specs.Laws.Entry.{change_all}
use Rattle.rules.specs.Laws.Theory.{empty, all_snoc}
use Rattle.rules.specs.Laws.Keeping.{Invariant}
use Rattle.rules.proofs.Laws.ReadWalk.{ready_on}
use Rattle.rules.specs.Laws.Ready.{Ready}
use Rattle.rules.proofs.Laws.Form.{Posed, posed_var, posed_goal, Taken, new_var, new_def, new_fact, got_result, take_goal_takes, take_form_takes}
use Rattle.rules.specs.Laws.Reached.{check_reaches}
use Rattle.rules.specs.Laws.Sound.{ClosedBehind, Distinct, Sound, sound}

-- Reached states --------------------------------------------------------------------------------------------------------------------

module _ {K : Invariant} where
  pub posed_ready : {S U : State} → Ready K S S.made → Posed K S U → Ready K U U.made
  posed_ready h (posed_var v l) = record { good = h.good; defs = h.defs; goals = h.goals; facts = h.facts }
  posed_ready h (posed_goal m g k i l r) =
      let w = ready_on h k in record { good = w.good; defs = w.defs; goals = all_snoc w.goals i; facts = w.facts }

  pub taken_ready : {S : State} {c : Counts} {U : State} → Ready K S S.made → Taken K S c U → Ready K U U.made
  taken_ready h (new_var v l) = record { good = h.good; defs = h.defs; goals = h.goals; facts = h.facts }
  taken_ready h (new_def m d g p l) =
      let w = ready_on h g in record { good = w.good; defs = all_snoc w.defs p; goals = w.goals; facts = w.facts }
  taken_ready h (new_fact vs m f c l g p n k r) =
      let w = ready_on h g in record { good = w.good; defs = w.defs; goals = w.goals; facts = all_snoc w.facts p }
  taken_ready {S} h (got_result m k d g e t) =
      let w = ready_on h g in
      record {
        good = w.good;
        defs = w.defs;
        facts = w.facts;
        goals = change_all S.goals k taken_goal (λ x p. record { judgment = p.judgment; hyps = p.hyps }) w.goals;
      }

-- at the beginning nothing is made
begins_sound : (T : Theory) → Ready sound (begin T) []
unfolding sound Distinct ClosedBehind words
begins_sound T = record { good = record { distinct = tt; closed = tt; row8 = omega arith; row9 = omega arith }; defs = empty; goals = empty; facts = empty }

pub take_goal_sound : (x : Sexp) (S : State) → Ready sound S S.made → Ok (λ a U. Ready sound U U.made) (take_goal x S)
take_goal_sound x S h = weaken (take_goal_takes x S h) (λ a U p. posed_ready h p)

pub take_form_sound : (x : Sexp) (S : State) → Ready sound S S.made → Ok (λ a U. Ready sound U U.made) (take_form x S)
take_form_sound x S h = weaken (take_form_takes x S h) (λ a U p. taken_ready h p)

pub check_sound : (t g f : List ℕ) → Ready sound (check t g f).state (check t g f).state.made
check_sound = check_reaches (λ S. Ready sound S S.made) begins_sound take_goal_sound take_form_sound

-- no tree twice, arguments first, rows 8 and 9
pub made_sound : (t g f : List ℕ) → Sound (check t g f).state.made
unfolding sound
made_sound t g f = (check_sound t g f).good
