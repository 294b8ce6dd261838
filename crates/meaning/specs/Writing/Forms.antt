-- The forms of a written derivation as a check takes them: the goal, a step, the result. A goal or step is taken where its judgment can be
-- made and stored, and refused by question 60 elsewhere; the result is taken. Assumes nothing.
use Rattle.std.specs.Prelude.{ℕ, ◌+◌, ◌≡◌, Bool, List, [], ◌∷◌, ◌++◌, leb, ltb, length, Option, Some as some, None as nothing}
use Rattle.std.proofs.Common.{arith, sym, ◌∙◌, ap₂}
use Rattle.std.proofs.Math.Path.{refl, ap, subst}
use Rattle.std.proofs.Math.Bool.{true, false}
use borrow.Author.Tests.{eq-eqb, le-leb}
use Rattle.rules.specs.Limits.{FACTS, ENTRIES}
use Rattle.rules.specs.Text.{bytes}
use Rattle.rules.specs.Out.{Out, ok, refuse, then, ask, room}
use Rattle.rules.specs.Sexp.{Sexp, Sexps, atom, list, nil as nilˢ, cons as consˢ, count, item, name as nameˢ, items}
use Rattle.rules.specs.Find.{first, entry, all, change}
use Rattle.rules.specs.Index.{index_of}
use Rattle.rules.specs.Tags.{a_step, a_result, proof_tag, a_goal, a_goal_with, goal_form, tagging}
use Rattle.rules.specs.Tree.{Tree, none, same_tree, count_trees}
use Rattle.rules.specs.Store.{Made, make}
use Rattle.rules.specs.Theory.{Theory}
use Rattle.rules.specs.Laws.Theory.{WellFormed}
use Rattle.rules.specs.Laws.Name.{Named, same_refl}
use Rattle.rules.specs.State.{State, Fact, Goal, no_counts, begin, goal_named, fact_entries, all_entries, goal_entries, entries}
use Rattle.rules.specs.Declare.{is_new}
use Rattle.rules.specs.Read.{index, judgment, judgment_each, judgments}
use Rattle.rules.specs.Reference.{Ref, reference}
use Rattle.rules.specs.Step.{step}
use Rattle.rules.specs.Forms.{with_made, making, plus, some_instances, add_goal, goal, take_goal, add_fact, add_step, listed, taken_goal, result, next, perform, take_form}
use Rattle.meaning.specs.Trees.Tests.{eq_same_tree}
use Rattle.meaning.specs.Unification.Acts.{Ok, done, Grows, full, StoreRow, make_ok, make_grows}
use Rattle.meaning.specs.Written.{Form, name, group, nil, cons, rule_name, judgment_form, the_goal, Step, conclusion, Names, Node, step_form, result_form}
use Rattle.meaning.specs.Writing.Read.{bare}
use Rattle.meaning.specs.Writing.Terms.{atom_of, list_of, nil_of, cons_of, headed, then_found, then_ask, then_ok, then_same, judgment_read}
use Rattle.meaning.specs.Writing.Node.{Concludes, Derived, Recorded, recorded_length, Referred, reference_read}
use Rattle.meaning.specs.Writing.Step.{StepItems, step_items, step_read}

-- States ------------------------------------------------------------------------------------------------------------------------

-- between the forms: no variable, no abbreviation, one goal
abbrev pub state_of : Theory → Made → Goal → List Fact → State
state_of T m g fs = record { theory = T; vars = []; made = m; defs = []; goals = g ∷ []; facts = fs; counts = no_counts }

-- the goal, whose name stands at a place
abbrev pub awaited : ℕ → List ℕ → Tree → Goal
awaited p n j = record { name = record { start = p; bytes = n }; judgment = j; hyps = none; taken = false }

-- refused by question 60
pub record Full (o : Out State (Unit {0})) : Type 0 where
  pub row : ℕ
  pub state : State
  pub is : o ≡ refuse 60 row state

-- an action on the made trees, by its answer
unfoldable lifted : {A : Type 0} → State → Out Made A → Out State A
lifted S (ok a m) = ok a (with_made S m)
lifted S (refuse n d m) = refuse n d (with_made S m)

making_is : {A : Type 0} (act : Made → Out Made A) (S : State) (o : Out Made A) → act S.made ≡ o → making act S ≡ lifted S o
unfolding making lifted
making_is {A} act S o e = ap (λ z. elim z [ ok a u ↦ ok a (with_made S u) | refuse n d u ↦ refuse n d (with_made S u) ]) e ∙ go o
  where
    go : (o : Out Made A) → elim o [ ok a u ↦ ok a (with_made S u) | refuse n d u ↦ refuse n d (with_made S u) ] ≡ lifted S o
    go (ok a m) = refl
    go (refuse n d m) = refl

then_room : {S B : Type 0} (k : ℕ) (b : Bool) (s : S) (f : Unit {0} → S → Out S B) → b ≡ true → then (room k b s) f ≡ f tt s
unfolding then
then_room k b s f e = ap (λ z. then (room k z s) f) e

no_room : {S B : Type 0} (k : ℕ) (b : Bool) (s : S) (f : Unit {0} → S → Out S B) → b ≡ false → then (room k b s) f ≡ refuse 60 k s
unfolding then
no_room k b s f e = ap (λ z. then (room k z s) f) e

-- a tree is made, or question 60 refuses
pub data Makes (j : Tree) : Out Made Tree → Type 0 where
  made : {m : Made} → Makes j (ok j m)
  unmade : {d : ℕ} {m : Made} → Makes j (refuse 60 d m)

pub make_cases : (j : Tree) (m : Made) → Makes j (make j m)
make_cases j m = go (make j m) (make_ok j m) (make_grows j m)
  where
    go : (o : Out Made Tree) → Ok (λ u. u ≡ j) o → Grows StoreRow m o → Makes j o
    go (ok a u) (done p) g = subst (λ z. Makes j (ok z u)) (sym p) made
    go (refuse n d u) h (full r g) = unmade

-- Forms of three items --------------------------------------------------------------------------------------------------------------

-- two atoms and something else
record Three (x : Sexp) (a b : List ℕ) (f : Form) : Type 0 where
  first : ℕ
  second : ℕ
  third : Sexp
  is : x ≡ list (consˢ (atom first a) (consˢ (atom second b) (consˢ third nilˢ)))
  thirds : bare third ≡ f

three : (x : Sexp) (a b : List ℕ) (f : Form) → bare x ≡ group (cons (name a) (cons (name b) (cons f nil))) → Three x a b f
three x a b f e =
    let p = headed x a (cons (name b) (cons f nil)) e in
    let q = cons_of p.behind (name b) (cons f nil) p.behinds in
    let q' = atom_of q.front b q.fronts in
    let r = cons_of q.behind f nil q.behinds in
    record {
      first = p.place;
      second = q'.0;
      third = r.front;
      is = p.is ∙ ap (λ ys. list (consˢ (atom p.place a) ys)) (q.is ∙ ap₂ consˢ q'.1 (r.is ∙ ap (consˢ r.front) (nil_of r.behind r.behinds)));
      thirds = r.fronts;
    }

-- two atoms, an empty list and something else
record Four (x : Sexp) (a b : List ℕ) (f : Form) : Type 0 where
  first : ℕ
  second : ℕ
  fourth : Sexp
  is : x ≡ list (consˢ (atom first a) (consˢ (atom second b) (consˢ (list nilˢ) (consˢ fourth nilˢ))))
  fourths : bare fourth ≡ f

four : (x : Sexp) (a b : List ℕ) (f : Form) → bare x ≡ group (cons (name a) (cons (name b) (cons (group nil) (cons f nil)))) → Four x a b f
four x a b f e =
    let p = headed x a (cons (name b) (cons (group nil) (cons f nil))) e in
    let q = cons_of p.behind (name b) (cons (group nil) (cons f nil)) p.behinds in
    let q' = atom_of q.front b q.fronts in
    let r = cons_of q.behind (group nil) (cons f nil) q.behinds in
    let r' = list_of r.front nil r.fronts in
    let s = cons_of r.behind f nil r.behinds in
    record {
      first = p.place;
      second = q'.0;
      fourth = s.front;
      is = p.is ∙ ap (λ ys. list (consˢ (atom p.place a) ys)) (q.is ∙ ap₂ consˢ q'.1
          (r.is ∙ ap₂ consˢ (r'.1 ∙ ap list (nil_of r'.0 r'.2)) (s.is ∙ ap (consˢ s.front) (nil_of s.behind s.behinds))));
      fourths = s.fronts;
    }

-- The goal ------------------------------------------------------------------------------------------------------------------------

-- by whether its judgment is made
unfoldable pub GoalTook : Theory → ℕ → List ℕ → Tree → Out Made Tree → Out State (Unit {0}) → Type 0
GoalTook T p n j (ok a m) o = o ≡ ok tt (state_of T m (awaited p n j) [])
GoalTook T p n j (refuse k d m) o = Full o

goal_tag : (goal_form (bytes "goal") 3 ≡ some a_goal) × (goal_form (bytes "goal") 4 ≡ some a_goal_with)
unfolding tagging
goal_tag = (refl, refl)

module _ (T : Theory) (n : List ℕ) (j : Tree) where
  -- the form, of which only the judgment has still to be made
  goal_begins : (p q : ℕ) (x : Sexp) (o : Out Made Tree) → judgment (begin T) x [] ≡ o
      → take_goal (list (consˢ (atom p (bytes "goal")) (consˢ (atom q n) (consˢ x nilˢ)))) (begin T)
      ≡ then (lifted (begin T) o) (λ i S. add_goal (atom q n) none i S)
  unfolding take_goal items item count nameˢ goal then
  goal_begins p q x o e =
      then_found 20 (goal_form (bytes "goal") 3) a_goal (begin T) _ goal_tag.0
      ∙ then_same (making (judgment (begin T) x) (begin T)) (lifted (begin T) o) _ (making_is (judgment (begin T) x) (begin T) o e)

  -- the same with an empty list
  goal_begins_listing : (p q : ℕ) (x : Sexp) (o : Out Made Tree) → judgment (begin T) x [] ≡ o
      → take_goal (list (consˢ (atom p (bytes "goal")) (consˢ (atom q n) (consˢ (list nilˢ) (consˢ x nilˢ))))) (begin T)
      ≡ then (lifted (begin T) o) (λ i S. add_goal (atom q n) none i S)
  unfolding take_goal items item count nameˢ goal then judgments judgment_each making
  goal_begins_listing p q x o e =
      then_found 20 (goal_form (bytes "goal") 4) a_goal_with (begin T) _ goal_tag.1
      ∙ then_same (making (judgment (begin T) x) (begin T)) (lifted (begin T) o) _ (making_is (judgment (begin T) x) (begin T) o e)

  goal_ends : (q : ℕ) (o : Out Made Tree) → Makes j o → GoalTook T q n j o (then (lifted (begin T) o) (λ i S. add_goal (atom q n) none i S))
  unfolding GoalTook lifted then add_goal nameˢ goal_named first is_new entries goal_entries all_entries count_trees
  goal_ends q (ok a m) made = refl
  goal_ends q (refuse k d m) unmade = record { row = d; state = with_made (begin T) m; is = refl }

-- the goal of a ground judgment, in both spellings
module _ (T : Theory) (w : WellFormed T) (nm : Named T) (n : List ℕ) (j : Tree) (c : Concludes T j) where
  judgment_begins : (x : Sexp) → bare x ≡ judgment_form T j → judgment (begin T) x [] ≡ make j []
  judgment_begins x e =
      judgment_read (begin T) refl w nm c.head c.arguments x [] (e ∙ ap (judgment_form T) c.is) c.known c.predicate c.values
      ∙ ap (λ i. make i []) (sym c.is)

  goal_from : (q : ℕ) (o : Out State (Unit {0})) → o ≡ then (lifted (begin T) (make j [])) (λ i S. add_goal (atom q n) none i S) → GoalTook T q n j (make j []) o
  goal_from q o e = subst (λ o. GoalTook T q n j (make j []) o) (sym e) (goal_ends T n j q (make j []) (make_cases j []))

  pub goal_taken : (b : Bool) (x : Sexp) → bare x ≡ the_goal b T n j → (q : ℕ) × GoalTook T q n j (make j []) (take_goal x (begin T))
  unfolding the_goal
  goal_taken false x e =
      let h = three x (bytes "goal") n (judgment_form T j) e in (
        h.second,
        goal_from h.second _ (ap (λ y. take_goal y (begin T)) h.is ∙ goal_begins T n j h.first h.second h.third (make j [])
            (judgment_begins h.third h.thirds)),
      )
  goal_taken true x e =
      let h = four x (bytes "goal") n (judgment_form T j) e in (
        h.second,
        goal_from h.second _ (ap (λ y. take_goal y (begin T)) h.is ∙ goal_begins_listing T n j h.first h.second h.fourth (make j [])
            (judgment_begins h.fourth h.fourths)),
      )

-- A step --------------------------------------------------------------------------------------------------------------------------

-- by whether its conclusion is made and there is room for a fact
unfoldable pub StepTook : Theory → Goal → List Fact → Fact → Out Made Tree → Bool → Out State (Unit {0}) → Type 0
StepTook T g fs f (ok a m) true o = o ≡ ok tt (state_of T m g (fs ++ (f ∷ [])))
StepTook T g fs f (ok a m) false o = Full o
StepTook T g fs f (refuse n d m) true o = Full o
StepTook T g fs f (refuse n d m) false o = Full o

step_tag : proof_tag (bytes "step") 5 ≡ some a_step
unfolding tagging
step_tag = refl

fact_entries_lem : (t : Tree) (f : Fact) → Derived t f → fact_entries f ≡ 0
unfolding fact_entries count_trees
fact_entries_lem t f d = ap (λ (z : List ℕ). length z + count_trees f.premises + length f.general) d.hyps
    ∙ (ap (λ z. 0 + count_trees z + length f.general) d.premises ∙ ap (λ (z : List ℕ). 0 + 0 + length z) d.general)

all_entries_lem : (cs : List Tree) (fs : List Fact) → Recorded cs fs → all_entries fs ≡ 0
unfolding Recorded all_entries
all_entries_lem [] [] r = refl
all_entries_lem [] (f ∷ fs) r = absurd r
all_entries_lem (c ∷ cs) [] r = absurd r
all_entries_lem (c ∷ cs) (f ∷ fs) r = ap₂ ◌+◌ (fact_entries_lem c f r.0) (all_entries_lem cs fs r.1)

module _ (T : Theory) (w : WellFormed T) (nm : Named T) (p : ℕ) (gn : List ℕ) (j : Tree) (m : Made) (cs : List Tree) (fs : List Fact)
    (kept : Recorded cs fs) (s : Step) (n : Node T cs s) where
  abbrev S : State
  S = state_of T m (awaited p gn j) fs

  entries_fit : (u : Made) (f : Fact) → Derived (conclusion T s) f → leb (entries (state_of T u (awaited p gn j) fs) + fact_entries f) ENTRIES ≡ true
  unfolding entries goal_entries count_trees
  entries_fit u f d =
      let a = fact_entries_lem (conclusion T s) f d in
      let b = all_entries_lem cs fs kept in
      le-leb (0 + 0 + all_entries fs + fact_entries f) ENTRIES (omega arith)

  -- the fact is stored, if there is room
  fact_stored : (u : Made) (f : Fact) (b : Bool) → Derived (conclusion T s) f → ltb (length fs) FACTS ≡ b
      → StepTook T (awaited p gn j) fs f (ok (conclusion T s) u) b (add_fact f (some_instances 0) (state_of T u (awaited p gn j) fs))
  unfolding StepTook add_fact plus then
  fact_stored u f true d e =
      then_room 12 (ltb (length fs) FACTS) (state_of T u (awaited p gn j) fs) _ e
      ∙ then_room 13 (leb (entries (state_of T u (awaited p gn j) fs) + fact_entries f) ENTRIES) (state_of T u (awaited p gn j) fs) _ (entries_fit u f d)
  fact_stored u f false d e =
      record { row = 12; state = state_of T u (awaited p gn j) fs; is = no_room 12 (ltb (length fs) FACTS) (state_of T u (awaited p gn j) fs) _ e }

  step_stored : (xs : Sexps) (f : Fact) (o : Out Made Tree) (b : Bool) → Makes (conclusion T s) o
      → step S xs m ≡ then o (λ _ u. ok (f, 0) u) → Derived (conclusion T s) f → ltb (length fs) FACTS ≡ b
      → StepTook T (awaited p gn j) fs f o b (add_step xs S)
  unfolding StepTook add_step lifted then
  step_stored xs f (ok a u) b made e d l =
      subst (λ o. StepTook T (awaited p gn j) fs f (ok (conclusion T s) u) b o)
      (sym (then_same (making (step S xs) S) (lifted S (ok (f, 0) u)) _ (making_is (step S xs) S (ok (f, 0) u) e)))
      (fact_stored u f b d l)
  step_stored xs f (refuse k r u) true unmade e d l =
      record { row = r; state = with_made S u; is = then_same (making (step S xs) S) (lifted S (refuse 60 r u)) _ (making_is (step S xs) S (refuse 60 r u) e) }
  step_stored xs f (refuse k r u) false unmade e d l =
      record { row = r; state = with_made S u; is = then_same (making (step S xs) S) (lifted S (refuse 60 r u)) _ (making_is (step S xs) S (refuse 60 r u) e) }

  -- the index is the next
  next_read : (t q : ℕ) (xs : Sexps) → next (consˢ (atom t (bytes "step")) (consˢ (atom q s.index) xs)) S ≡ ok tt S
  unfolding next item index nameˢ then
  next_read t q xs =
      then_found 31 (index_of s.index) (length cs) S _ n.next
      ∙ ap (λ b. ask 32 b S) (eq-eqb (length cs) (length fs) (sym (recorded_length cs fs kept)))

  step_begins : (t q r : ℕ) (ys : Sexps) (y : Sexp)
      → (let xs : Sexps = consˢ (atom t (bytes "step")) (consˢ (atom q s.index) (consˢ (atom r (rule_name T s.rule)) (consˢ (list ys) (consˢ y nilˢ)))) in
      take_form (list xs) S ≡ add_step xs S)
  unfolding take_form items item count nameˢ perform then
  step_begins t q r ys y =
      then_found 30 (proof_tag (bytes "step") 5) a_step S _ step_tag
      ∙ then_ok (next (consˢ (atom t (bytes "step")) (consˢ (atom q s.index) (consˢ (atom r (rule_name T s.rule)) (consˢ (list ys) (consˢ y nilˢ))))) S) tt S _
      (next_read t q (consˢ (atom r (rule_name T s.rule)) (consˢ (list ys) (consˢ y nilˢ))))

  pub step_taken : (x : Sexp) → bare x ≡ step_form T s
      → (f : Fact) × Derived (conclusion T s) f × StepTook T (awaited p gn j) fs f (make (conclusion T s) m) (ltb (length fs) FACTS) (take_form x S)
  step_taken x e = go (step_items T s x e)
    where
      go : (xs : Sexps) × (x ≡ list xs) × StepItems T s xs
          → (f : Fact) × Derived (conclusion T s) f × StepTook T (awaited p gn j) fs f (make (conclusion T s) m) (ltb (length fs) FACTS) (take_form x S)
      go (xs, q, i) =
          let r = step_read S refl w nm cs kept s n xs m i in (
            r.0,
            r.1,
            subst (λ o. StepTook T (awaited p gn j) fs r.0 (make (conclusion T s) m) (ltb (length fs) FACTS) o)
                (sym (ap (λ y. take_form y S) q ∙ (ap (λ ys. take_form (list ys) S) i.is
                ∙ (step_begins i.tag i.own i.rules i.children i.stated ∙ ap (λ ys. add_step ys S) (sym i.is)))))
                (step_stored xs r.0 (make (conclusion T s) m) (ltb (length fs) FACTS) (make_cases (conclusion T s) m) r.2 r.1 refl),
          )

-- The result ----------------------------------------------------------------------------------------------------------------------

result_tag : proof_tag (bytes "result") 3 ≡ some a_result
unfolding tagging
result_tag = refl

module _ (T : Theory) (p : ℕ) (gn : List ℕ) (j : Tree) (m : Made) (cs : List Tree) (fs : List Fact) (kept : Recorded cs fs) where
  abbrev U : State
  U = state_of T m (awaited p gn j) fs

  goal_found : goal_named (awaited p gn j ∷ []) gn ≡ some 0
  unfolding goal_named first
  goal_found = ap (λ b. elim b as (λ _. Option ℕ) [ true ↦ some 0 | false ↦ nothing ]) (same_refl gn)

  result_read : (t q : ℕ) (x : Sexp) (r : Ref) → reference U x m ≡ ok r m → Referred j r
      → take_form (list (consˢ (atom t (bytes "result")) (consˢ (atom q gn) (consˢ x nilˢ)))) U ≡ ok tt (state_of T m (taken_goal (awaited p gn j)) fs)
  unfolding take_form items item count nameˢ perform result then lifted entry all change
  result_read t q x r e h =
      then_found 30 (proof_tag (bytes "result") 3) a_result U _ result_tag
      ∙ (then_found 50 (goal_named (awaited p gn j ∷ []) gn) 0 U _ goal_found
      ∙ (then_same (making (reference U x) U) (lifted U (ok r m)) _ (making_is (reference U x) U (ok r m) e)
      ∙ (then_ask 51 (all (λ i. listed none (entry fs i)) r.hyps) U _ (ap (all (λ i. listed none (entry fs i))) h.hyps)
      ∙ then_ask 52 (same_tree r.judgment j) U _ (eq_same_tree r.judgment j h.judgment))))

  pub result_taken : (x : Sexp) (r : List ℕ) → bare x ≡ result_form gn r → Names cs r j
      → take_form x U ≡ ok tt (state_of T m (taken_goal (awaited p gn j)) fs)
  unfolding result_form
  result_taken x r e k =
      let h = three x (bytes "result") gn (name r) e in
      let f = reference_read U cs kept h.third r j m h.thirds k in
      ap (λ y. take_form y U) h.is ∙ result_read h.first h.second h.third f.0 f.1 f.2
