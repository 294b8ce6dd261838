-- The proof text of a written derivation from any step on: it is accepted where it stays inside the limits, and refused by question 5 or 60
-- elsewhere. Assumes nothing.
use Prim.Native.Nat.{ℕ, zero, suc, ◌+◌, ◌≤◌}
use native.Mathlib.Omega.{arith}
use Rattle.std.specs.Prelude.{◌≡◌, ◌⊎◌, Bool, ◌&&◌, leb, ltb, Some as some}
use Rattle.std.proofs.Math.Path.{refl, ap, subst}
use Rattle.std.proofs.Common.{sym, ◌∙◌, ap₂, inl, inr}
use Rattle.std.proofs.Math.Bool.{true, false}
use mathlib.Core.List.{List, [], ◌∷◌, ◌++◌, append_assoc, append-nil}
use Rattle.std.proofs.Math.ListN.{length, length-append}
use borrow.Author.Tests.{ltb-true, ltb-false, le-leb, lt-leb}
use Rattle.rules.specs.Limits.{FACTS}
use Rattle.rules.specs.Out.{Out, ok, refuse, then, Act}
use Rattle.rules.specs.Sexp.{Sexp, Text, ends, fails, more as moreᵗ}
use Rattle.rules.specs.Find.{entry, every}
use Rattle.rules.specs.Tree.{Tree, Trees, var, app, none, more}
use Rattle.rules.specs.Store.{Made, make, makes}
use Rattle.rules.specs.Theory.{Theory}
use Rattle.rules.specs.Laws.Theory.{WellFormed}
use Rattle.rules.specs.Laws.Name.{Named}
use Rattle.rules.specs.State.{State, Fact}
use Rattle.rules.specs.Forms.{taken_goal, take_form}
use Rattle.rules.specs.Loop.{Judged, done, refused, through}
use Rattle.rules.specs.Check.{Refusal, Answer, accepts, refuses, refused_in, count_open, report, missing, ended, after_proof}
use Rattle.meaning.specs.Trees.Tree.{Ground, Grounds}
use Rattle.meaning.specs.Trees.Tests.{ground_is_open}
use Rattle.meaning.specs.Signature.{sig, Value, Values}
use Rattle.meaning.specs.Written.{Form, Forms, nil, cons, shallow, shallows, Step, conclusion, conclusions, Names, Nodes, step_form, result_form, proof_forms, trees_of, steps_alone, Verdict}
use Rattle.meaning.specs.Writing.Gather.{answers}
use Rattle.meaning.specs.Writing.Read.{bare, Reads}
use Rattle.meaning.specs.Writing.Node.{Concludes, node_concludes, Recorded, recorded_length, recorded_snoc}
use Rattle.meaning.specs.Writing.Step.{and_false}
use Rattle.meaning.specs.Writing.Forms.{state_of, awaited, Full, StepTook, step_taken, result_taken}

-- Ground judgments ----------------------------------------------------------------------------------------------------------------

module _ (T : Theory) where
  mutual
    unfolding Value Ground

    value_ground : (t : Tree) (s : ℕ) → Value (sig T) t s → Ground t
    value_ground (var v) s h = absurd h
    value_ground (app c ts) s h = values_ground ts ((sig T).ins c) h.2

    values_ground : (ts : Trees) (ss : List ℕ) → Values (sig T) ts ss → Grounds ts
    values_ground none ss h = tt
    values_ground (more t ts) [] h = absurd h
    values_ground (more t ts) (s ∷ ss) h = (value_ground t s h.0, values_ground ts ss h.1)

  concludes_ground : (t : Tree) → Concludes T t → Ground t
  unfolding Ground sig
  concludes_ground t c = subst (λ z. Ground z) (sym c.is) (values_ground c.arguments _ c.values)

-- every conclusion of the derivation is a ground judgment
pub nodes_conclude : (T : Theory) → WellFormed T → (cs : List Tree) (ss : List Step) (i : ℕ) (t : Tree) → Nodes T cs ss
    → entry (conclusions T ss) i ≡ some t → Concludes T t
unfolding Nodes conclusions entry
nodes_conclude T w cs [] i t n e = absurd (let z : ◌≡◌ {A = ℕ} 0 1 = cc in omega arith)
nodes_conclude T w cs (s ∷ ss) zero t n e = subst (λ z. Concludes T z) (let z : conclusion T s ≡ t = cc in z) (node_concludes T s cs n.0 w)
nodes_conclude T w cs (s ∷ ss) (suc i) t n e = nodes_conclude T w (cs ++ (conclusion T s ∷ [])) ss i t n.1 e

-- Verdicts --------------------------------------------------------------------------------------------------------------------------

pub out : (b : Bool) (n : ℕ) (a : Answer) (r : Refusal) → b ≡ false → a ≡ refuses r → ((r.number ≡ 2) ⊎ ((r.number ≡ 5) ⊎ (r.number ≡ 60)))
    → Verdict b n a
unfolding Verdict
out b n a r e q h = subst (λ z. Verdict z n a) (sym e) (r, q, h)

pub moved : (b c : Bool) (n k : ℕ) (a d : Answer) → b ≡ c → n ≡ k → a ≡ d → Verdict c k d → Verdict b n a
moved b c n k a d e f g v = subst (λ z. Verdict z n a) (sym e) (subst (λ z. Verdict c z a) (sym f) (subst (λ z. Verdict c k z) (sym g) v))

-- Forms one by one -----------------------------------------------------------------------------------------------------------------

module _ {S : Type 0} (f : Sexp → Act S (Unit {0})) (x : Sexp) (p : ℕ) (t : Text) (k : ℕ) (s : S) where
  pub through_ok : (u : S) → f x s ≡ ok tt u → through f (moreᵗ x p t) k s ≡ through f t (suc k) u
  unfolding through
  through_ok u e = ap (λ o. elim o as (λ _. Judged S) [ ok a v ↦ through f t (suc k) v | refuse n d v ↦ refused n d k s ]) e

  pub through_off : (n d : ℕ) (u : S) → f x s ≡ refuse n d u → through f (moreᵗ x p t) k s ≡ refused n d k s
  unfolding through
  through_off n d u e = ap (λ o. elim o as (λ _. Judged S) [ ok a v ↦ through f t (suc k) v | refuse i j v ↦ refused i j k s ]) e

-- what follows is asked of the store
answers_then : {A B : Type 0} (o : Out Made A) (b : B) → answers (then o (λ _ m. ok b m)) ≡ answers o
unfolding answers then
answers_then (ok a m) b = refl
answers_then (refuse n d m) b = refl

pub makes_on : (t : Tree) (ts : Trees) (m u : Made) (a : Tree) → make t m ≡ ok a u → answers (makes (more t ts) m) ≡ answers (makes ts u)
unfolding makes then
makes_on t ts m u a e = ap (λ o. answers (then o (λ _ v. then (makes ts v) (λ _ x. ok (more t ts) x)))) e ∙ answers_then (makes ts u) (more t ts)

pub makes_off : (t : Tree) (ts : Trees) (m u : Made) (n d : ℕ) → make t m ≡ refuse n d u → answers (makes (more t ts) m) ≡ false
unfolding makes then answers
makes_off t ts m u n d e = ap (λ o. answers (then o (λ _ v. then (makes ts v) (λ _ x. ok (more t ts) x)))) e

pub and_on : (a b : Bool) → a ≡ true → (a && b) ≡ b
and_on a b e = ap (λ z. z && b) e

pub and_off : (a b : Bool) → b ≡ false → (a && b) ≡ false
and_off true b e = e
and_off false b e = refl

-- The run -------------------------------------------------------------------------------------------------------------------------

module _ (T : Theory) (w : WellFormed T) (nm : Named T) (p : ℕ) (gn : List ℕ) (j : Tree) (c : Concludes T j) (r : List ℕ) where
  abbrev at : Made → List Fact → State
  at m fs = state_of T m (awaited p gn j) fs

  -- inside the limits from here on: the steps ss are left, k are done
  abbrev going : List Step → ℕ → Made → Bool
  going ss k m = shallows 0 (proof_forms T ss gn r) && (leb (k + length ss) FACTS && answers (makes (trees_of (conclusions T ss)) m))

  -- the report at the end
  ends_well : (k : ℕ) (m : Made) (fs : List Fact)
      → (after_proof (done k (state_of T m (taken_goal (awaited p gn j)) fs))).answer ≡ accepts (steps_alone (length fs))
  unfolding after_proof ended missing every report count_open steps_alone
  ends_well k m fs =
      ap (λ b. accepts (record { steps = length fs; goals = 1; open_goals = elim b as (λ _. ℕ) [ true ↦ 1 | false ↦ 0 ]; hypotheses = 0; inductions = 0; inversions = 0; instances = 0 }))
      (ground_is_open j (concludes_ground T j c))

  -- a form that is too deep
  too_deep : (f : Form) (fs : Forms) (b : Bool) (n i k : ℕ) (S : State) → i ≡ 5 → shallow 0 f ≡ false
      → Verdict (shallows 0 (cons f fs) && b) n (after_proof (through take_form (fails i) k S)).answer
  unfolding shallows through after_proof refused_in
  too_deep f fs b n i k S e h =
      out ((shallow 0 f && shallows 0 fs) && b) n _ (record { number = i; text = 3; form = k; detail = 0 })
      (and_false (shallow 0 f && shallows 0 fs) b (and_false (shallow 0 f) (shallows 0 fs) h)) refl (inr (inl e))

  -- a form that is refused by question 60
  too_full : (x : Sexp) (q : ℕ) (t : Text) (b : Bool) (n k : ℕ) (S : State) → b ≡ false → Full (take_form x S)
      → Verdict b n (after_proof (through take_form (moreᵗ x q t) k S)).answer
  unfolding after_proof refused_in
  too_full x q t b n k S e h =
      out b n _ (record { number = 60; text = 3; form = k; detail = h.row }) e
      (ap (λ z. (after_proof z).answer) (through_off take_form x q t k S 60 h.row h.state h.is)) (inr (inr refl))

  -- the result, last of all
  run_result : (x : Sexp) (q k : ℕ) (m : Made) (cs : List Tree) (fs : List Fact) → Recorded cs fs → Names cs r j → length cs ≤ FACTS
      → bare x ≡ result_form gn r → shallow 0 (result_form gn r) ≡ true
      → Verdict (going [] (length cs) m) (length cs + 0) (after_proof (through take_form (moreᵗ x q ends) k (at m fs))).answer
  unfolding Verdict through proof_forms conclusions trees_of makes answers shallows
  run_result x q k m cs fs kept a l e sh =
      moved (going [] (length cs) m) true (length cs + 0) (length fs) _ (accepts (steps_alone (length fs)))
      (ap₂ (λ b d. (b && true) && (d && true)) sh (le-leb (length cs + 0) FACTS (omega arith)))
      (let z = recorded_length cs fs kept in omega arith)
      (ap (λ z. (after_proof z).answer) (through_ok take_form x q ends k (at m fs) _ (result_taken T p gn j m cs fs kept x r e a)) ∙ ends_well (suc k) m fs)
      refl

  -- a step, by what became of it; h: the run behind it
  run_step : (s : Step) (ss : List Step) (x : Sexp) (q : ℕ) (t : Text) (k : ℕ) (m : Made) (cs : List Tree) (fs : List Fact) (f : Fact)
      → length fs ≡ length cs → shallow 0 (step_form T s) ≡ true → (o : Out Made Tree) → make (conclusion T s) m ≡ o → (b : Bool) → ltb (length fs) FACTS ≡ b
      → StepTook T (awaited p gn j) fs f o b (take_form x (at m fs))
      → ((u : Made) → suc (length cs) ≤ FACTS
      → Verdict (going ss (length (cs ++ (conclusion T s ∷ []))) u) (length (cs ++ (conclusion T s ∷ [])) + length ss)
      (after_proof (through take_form t (suc k) (at u (fs ++ (f ∷ []))))).answer)
      → Verdict (going (s ∷ ss) (length cs) m) (length cs + length (s ∷ ss)) (after_proof (through take_form (moreᵗ x q t) k (at m fs))).answer
  unfolding StepTook proof_forms conclusions trees_of shallows
  run_step s ss x q t k m cs fs f l sh (ok a u) e true b took h =
      let long = length-append cs (conclusion T s ∷ []) in
      let small = ltb-true (length fs) FACTS b in
      let same : length cs + suc (length ss) ≡ length (cs ++ (conclusion T s ∷ [])) + length ss = omega arith in
      moved (going (s ∷ ss) (length cs) m) (going ss (length (cs ++ (conclusion T s ∷ []))) u) _ _ _ _
      (ap₂ (λ y z. (y && shallows 0 (proof_forms T ss gn r)) && (leb (length cs + suc (length ss)) FACTS && z)) sh (makes_on (conclusion T s) (trees_of (conclusions T ss)) m u a e)
      ∙ ap (λ n. shallows 0 (proof_forms T ss gn r) && (leb n FACTS && answers (makes (trees_of (conclusions T ss)) u))) same)
      same
      (ap (λ z. (after_proof z).answer) (through_ok take_form x q t k (at m fs) (at u (fs ++ (f ∷ []))) took))
      (h u (omega arith))
  run_step s ss x q t k m cs fs f l sh (ok a u) e false b took h =
      let large = ltb-false (length fs) FACTS b in
      too_full x q t (going (s ∷ ss) (length cs) m) _ k (at m fs)
      (and_off (shallows 0 (proof_forms T (s ∷ ss) gn r)) _ (and_false (leb (length cs + suc (length ss)) FACTS) _ (lt-leb (length cs + suc (length ss)) FACTS (omega arith)))) took
  run_step s ss x q t k m cs fs f l sh (refuse n d u) e true b took h =
      too_full x q t (going (s ∷ ss) (length cs) m) _ k (at m fs)
      (and_off (shallows 0 (proof_forms T (s ∷ ss) gn r)) _ (and_off (leb (length cs + suc (length ss)) FACTS) _ (makes_off (conclusion T s) (trees_of (conclusions T ss)) m u n d e))) took
  run_step s ss x q t k m cs fs f l sh (refuse n d u) e false b took h =
      too_full x q t (going (s ∷ ss) (length cs) m) _ k (at m fs)
      (and_off (shallows 0 (proof_forms T (s ∷ ss) gn r)) _ (and_off (leb (length cs + suc (length ss)) FACTS) _ (makes_off (conclusion T s) (trees_of (conclusions T ss)) m u n d e))) took

  pub run : (ss : List Step) (text : Text) (k : ℕ) (m : Made) (cs : List Tree) (fs : List Fact) → Recorded cs fs → Nodes T cs ss
      → Names (cs ++ conclusions T ss) r j → length cs ≤ FACTS → Reads (proof_forms T ss gn r) text
      → Verdict (going ss (length cs) m) (length cs + length ss) (after_proof (through take_form text k (at m fs))).answer
  unfolding proof_forms Reads Nodes conclusions
  run [] ends k m cs fs kept n a l rd = absurd rd
  run [] (fails i) k m cs fs kept n a l rd = too_deep (result_form gn r) nil _ _ i k (at m fs) rd.0 rd.1
  run [] (moreᵗ x q ends) k m cs fs kept n a l rd =
      run_result x q k m cs fs kept (subst (λ z. Names z r j) (append-nil cs) a) l rd.0 rd.1
  run [] (moreᵗ x q (fails i)) k m cs fs kept n a l rd = absurd rd.2
  run [] (moreᵗ x q (moreᵗ y i t)) k m cs fs kept n a l rd = absurd rd.2
  run (s ∷ ss) ends k m cs fs kept n a l rd = absurd rd
  run (s ∷ ss) (fails i) k m cs fs kept n a l rd = too_deep (step_form T s) (proof_forms T ss gn r) _ _ i k (at m fs) rd.0 rd.1
  run (s ∷ ss) (moreᵗ x q t) k m cs fs kept n a l rd =
      let st = step_taken T w nm p gn j m cs fs kept s n.0 x rd.0 in
      run_step s ss x q t k m cs fs st.0 (recorded_length cs fs kept) rd.1 (make (conclusion T s) m) refl (ltb (length fs) FACTS) refl st.2
      (λ u small. run ss t (suc k) u (cs ++ (conclusion T s ∷ [])) (fs ++ (st.0 ∷ [])) (recorded_snoc cs fs (conclusion T s) st.0 kept st.1) n.1
      (subst (λ z. Names z r j) (sym (append_assoc cs (conclusion T s ∷ []) (conclusions T ss))) a)
      (let long = length-append cs (conclusion T s ∷ []) in omega arith) rd.2)
