-- The counts of an acceptance are those of its facts and forms: steps are the facts, hypotheses the assumed ones among them, and inductions,
-- inversions and instances are what the forms of the proof count by their tags alone (Tally). A form that counted twice, or under another's
-- count, or a count that a goal's form changed, would be caught here; so would an acceptance with a goal that has no result. Assumes nothing.
use Rattle.std.specs.Prelude.{ℕ, zero, suc, ◌+◌, ◌≡◌, refl, Bool, true, false, not, List, [], ◌∷◌, eqb, length}
use Rattle.std.proofs.Common.{subst, sym, ◌∙◌, true≢false, add-zero, arith}
use Rattle.rules.specs.Find.{every}
use Rattle.rules.specs.Out.{Out, ok, refuse}
use Rattle.rules.specs.Sexp.{Sexp, Text, ends, fails, more, read}
use Rattle.rules.specs.Text.{short, plain}
use Rattle.rules.specs.Theory.{Theory, no_theory}
use Rattle.rules.specs.Declare.{declare}
use Rattle.rules.specs.Loop.{Judged, done, refused, through, whole}
use Rattle.rules.specs.State.{State, Counts, no_counts, begin}
use Rattle.rules.specs.Forms.{take_goal, take_form, plus}
use Rattle.rules.specs.Check.{Report, accepts, Outcome, refused_in, count_open, report, missing, ended, after_proof, after_goals, after_theory, first_failing, readable, fitting, check}
use Rattle.rules.specs.Laws.Out.{Ok, fine, off, weaken}
use Rattle.rules.specs.Laws.Theory.{All, empty, both, all_map}
use Rattle.rules.specs.Laws.Tally.{counted_form}
use Rattle.rules.proofs.Laws.Form.{Posed, posed_var, posed_goal, Taken, new_var, new_def, new_fact, got_result, take_goal_takes, take_form_takes}
use Rattle.rules.proofs.Laws.Appends.{anything, ready_any}
use Rattle.rules.specs.Laws.Reached.{end_of, whole_reaches}
use Rattle.rules.proofs.Laws.Fact.{assumed_in, facts_right}

-- the sum over the forms of a text
unfoldable pub total : (Sexp → ℕ) → Text → ℕ
total w ends = 0
total w (fails n) = 0
total w (more x p t) = w x + total w t

-- the counts d are the counts c and those of the text's forms
pub record Totals (c : Counts) (t : Text) (d : Counts) : Type 0 where
  pub hypotheses : d.hypotheses ≡ c.hypotheses + total (λ x. (counted_form x).hypotheses) t
  pub inductions : d.inductions ≡ c.inductions + total (λ x. (counted_form x).inductions) t
  pub inversions : d.inversions ≡ c.inversions + total (λ x. (counted_form x).inversions) t
  pub instances : d.instances ≡ c.instances + total (λ x. (counted_form x).instances) t

-- A form --------------------------------------------------------------------------------------------------------------------------

nothing_more : (c : Counts) → c ≡ plus c no_counts
unfolding plus
nothing_more c = simp add-zero

pub taken_counts : {S : State} {c : Counts} {U : State} → Taken anything S c U → U.counts ≡ plus S.counts c
taken_counts {S} (new_var v l) = nothing_more S.counts
taken_counts {S} (new_def m d g p l) = nothing_more S.counts
taken_counts (new_fact vs m f c l g p n k r) = refl
taken_counts {S} (got_result m k d g e t) = nothing_more S.counts

-- A text ----------------------------------------------------------------------------------------------------------------------------

-- at the end of the text, where it is reached
unfoldable After : Counts → Text → Judged State → Type 0
After c t (done k U) = Totals c t U.counts
After c t (refused n d k U) = Unit {0}

one_more_lem : (c d : Counts) (x : Sexp) (p : ℕ) (t : Text) (j : Judged State) → d ≡ plus c (counted_form x) → After d t j → After c (more x p t) j
unfolding After total plus
one_more_lem c d x p t (done k U) e h =
    record {
      hypotheses = h.hypotheses ∙ (rw e (omega arith));
      inductions = h.inductions ∙ (rw e (omega arith));
      inversions = h.inversions ∙ (rw e (omega arith));
      instances = h.instances ∙ (rw e (omega arith));
    }
one_more_lem c d x p t (refused n e k U) q h = tt

through_totals : (t : Text) (k : ℕ) (S : State) → After S.counts t (through take_form t k S)
unfolding through After total
through_totals ends k S = record { hypotheses = omega arith; inductions = omega arith; inversions = omega arith; instances = omega arith }
through_totals (fails n) k S = tt
through_totals (more x p t) k S = go (take_form x S) (take_form_takes x S (ready_any S S.made)) (λ U. through_totals t (suc k) U)
  where
    go : (o : Out State (Unit {0})) → Ok (λ a U. Taken anything S (counted_form x) U) o → ((U : State) → After U.counts t (through take_form t (suc k) U)) →
        After S.counts (more x p t) (elim o [ ok a u ↦ through take_form t (suc k) u | refuse n d u ↦ refused n d k S ])
    go (ok a U) (fine h) r = one_more_lem S.counts U.counts x p t (through take_form t (suc k) U) (taken_counts h) (r U)
    go (refuse n d u) off r = tt

-- the goals count nothing
goal_counts : (x : Sexp) (S : State) → S.counts ≡ no_counts → Ok (λ a U. U.counts ≡ no_counts) (take_goal x S)
goal_counts x S h = weaken (take_goal_takes x S (ready_any S S.made)) (λ a U p. posed p)
  where
    posed : {U : State} → Posed anything S U → U.counts ≡ no_counts
    posed (posed_var v l) = h
    posed (posed_goal m g k i l r) = h

-- The whole check -------------------------------------------------------------------------------------------------------------------

-- an acceptance reports its state, whose counts are those of the proof's forms, and no goal is missing
pub record Reported (S : State) (t : Text) (r : Report) : Type 0 where
  pub is : r ≡ report S
  pub totals : Totals no_counts t S.counts
  pub complete : missing S ≡ []

abbrev Reports : List ℕ → Outcome → Type 0
Reports f o = (r : Report) → o.answer ≡ accepts r → Reported o.state (read f) r

refuses_nothing : (f : List ℕ) (t n d k : ℕ) (S : State) → Reports f (refused_in t n d k S)
unfolding refused_in
refuses_nothing f t n d k S r e = absurd (let z : ◌≡◌ {A = ℕ} 0 1 = cc in omega arith)

ended_reports : (f : List ℕ) (k : ℕ) (S : State) (gs : List ℕ) → missing S ≡ gs → Totals no_counts (read f) S.counts → Reports f (ended k S gs)
unfolding ended
ended_reports f k S [] q h r e = record { is = cc; totals = h; complete = q }
ended_reports f k S (g ∷ gs) q h r e = refuses_nothing f 3 53 (length (g ∷ gs)) k S r e

after_proof_reports : (f : List ℕ) (j : Judged State) → After no_counts (read f) j → Reports f (after_proof j)
unfolding after_proof After
after_proof_reports f (done k S) h = ended_reports f k S (missing S) refl h
after_proof_reports f (refused n d k S) h = refuses_nothing f 3 n d k S

after_goals_reports : (f : List ℕ) (j : Judged State) → (end_of j).counts ≡ no_counts → Reports f (after_goals f j)
unfolding after_goals end_of
after_goals_reports f (refused n d k S) h = refuses_nothing f 2 n d k S
after_goals_reports f (done k S) h = go (eqb (length S.goals) 0)
  where
    go : (b : Bool) → Reports f (elim b as (λ (z : Bool). Outcome) [ true ↦ refused_in 2 25 0 k S | false ↦ after_proof (through take_form (read f) 0 S) ])
    go true = refuses_nothing f 2 25 0 k S
    go false =
        after_proof_reports f (through take_form (read f) 0 S)
        (subst (λ c. After c (read f) (through take_form (read f) 0 S)) h (through_totals (read f) 0 S))

after_theory_reports : (g f : List ℕ) (j : Judged Theory) → Reports f (after_theory g f j)
unfolding after_theory
after_theory_reports g f (refused n d k T) = refuses_nothing f 1 n d k (begin T)
after_theory_reports g f (done k T) =
    after_goals_reports f (whole take_goal (read g) (begin T)) (whole_reaches (λ S. S.counts ≡ no_counts) take_goal goal_counts (read g) (begin T) refl)

readable_reports : (t g f : List ℕ) (k : ℕ) → Reports f (readable t g f k)
unfolding readable
readable_reports t g f zero = after_theory_reports g f (whole declare (read t) no_theory)
readable_reports t g f (suc k) = refuses_nothing f (suc k) 3 0 0 (begin no_theory)

fitting_reports : (t g f : List ℕ) (k : ℕ) → Reports f (fitting t g f k)
unfolding fitting
fitting_reports t g f zero = readable_reports t g f (first_failing plain t g f)
fitting_reports t g f (suc k) = refuses_nothing f (suc k) 2 0 0 (begin no_theory)

check_reports : (t g f : List ℕ) → Reports f (check t g f)
unfolding check
check_reports t g f = fitting_reports t g f (first_failing short t g f)

-- S: the state of the acceptance; f: the proof
pub record CountsRight (S : State) (f : Text) (r : Report) : Type 0 where
  pub steps : r.steps ≡ length S.facts
  pub goals : r.goals ≡ length S.goals
  pub open_goals : r.open_goals ≡ count_open S.goals
  pub assumed : r.hypotheses ≡ assumed_in S.facts
  pub hypotheses : r.hypotheses ≡ total (λ x. (counted_form x).hypotheses) f
  pub inductions : r.inductions ≡ total (λ x. (counted_form x).inductions) f
  pub inversions : r.inversions ≡ total (λ x. (counted_form x).inversions) f
  pub instances : r.instances ≡ total (λ x. (counted_form x).instances) f

reported : (S : State) (f : Text) → Totals no_counts f S.counts → S.counts.hypotheses ≡ assumed_in S.facts → CountsRight S f (report S)
unfolding report
reported S f h a =
    record {
      steps = refl;
      goals = refl;
      open_goals = refl;
      assumed = a;
      hypotheses = omega (arith, h.hypotheses);
      inductions = omega (arith, h.inductions);
      inversions = omega (arith, h.inversions);
      instances = omega (arith, h.instances);
    }

pub accepted_counts : (t g f : List ℕ) (r : Report) → (check t g f).answer ≡ accepts r → CountsRight (check t g f).state (read f) r
accepted_counts t g f r e =
    let p = check_reports t g f r e in
    subst (CountsRight (check t g f).state (read f)) (sym p.is) (reported (check t g f).state (read f) p.totals (facts_right t g f).hypotheses)

-- Nothing is missing ------------------------------------------------------------------------------------------------------------------

every_none : {A : Type 0} (p : A → Bool) (xs : List A) (k : ℕ) → every p xs k ≡ [] → All (λ x. p x ≡ false) xs
unfolding every
every_none p [] k e = empty
every_none p (x ∷ xs) k e = go (p x) refl e (every_none p xs (suc k))
  where
    go :
        (b : Bool) → p x ≡ b → ◌≡◌ {A = List ℕ} (elim b [ true ↦ k ∷ every p xs (suc k) | false ↦ every p xs (suc k) ]) [] →
        (every p xs (suc k) ≡ [] → All (λ x. p x ≡ false) xs) → All (λ x. p x ≡ false) (x ∷ xs)
    go true q e h = absurd (let z : ◌≡◌ {A = ℕ} 0 1 = cc in omega arith)
    go false q e h = both q (h e)

is_taken : (b : Bool) → not b ≡ false → b ≡ true
is_taken true e = refl
is_taken false e = absurd (true≢false e)

-- every goal has its result
pub accepted_taken : (t g f : List ℕ) (r : Report) → (check t g f).answer ≡ accepts r → All (λ x. x.taken ≡ true) (check t g f).state.goals
unfolding missing
accepted_taken t g f r e =
    all_map (λ x h. is_taken x.taken h) (every_none (λ x. not x.taken) (check t g f).state.goals 1 (check_reports t g f r e).complete)
