-- Going through a proof: every state reached from a good one is good, so every fact is true and every goal that was taken is derivable.
-- Definitions of what is said of a run first, then the induction.
use Rattle.std.specs.Prelude.{ℕ, suc, ◌≡◌, ◌⊎◌, true, List, length, Some as some}
use Rattle.std.proofs.Common.{sym, ◌∙◌, inr}
use Rattle.std.proofs.Math.Path.{subst}
use Rattle.std.proofs.Math.Logic.{inl}
use Rattle.rules.specs.Out.{Out, ok, refuse, Act}
use Rattle.rules.specs.Sexp.{Sexp, Text, ends, fails, more}
use Rattle.rules.specs.Find.{entry}
use Rattle.rules.specs.Tree.{Tree, Trees, none, sub}
use Rattle.rules.specs.Theory.{Theory, rule}
use Rattle.rules.specs.State.{State, Fact, Goal}
use Rattle.rules.specs.Loop.{Judged, refused, through}
use Rattle.rules.specs.Laws.Reached.{end_of}
use Rattle.meaning.specs.Trees.Tree.{Occ, Occs, In, Among, among_occ}
use Rattle.meaning.specs.Signature.{sig, Value}
use Rattle.meaning.specs.Derivation.{Der, RuleOf}
use Rattle.meaning.specs.Truth.{Mentions, Free, At, HypOf, Needs, Holds, Gives, True, Plain}
use Rattle.meaning.specs.Lemmas.Sound.{plain_holds}
use Rattle.meaning.specs.Lemmas.Inverts.{Shaped}
use Rattle.meaning.specs.Lemmas.Forms.{grown, Allowed, Cites, Ref, bare, inst, Form, Run, take}
use Rattle.meaning.specs.Lemmas.Run.{at_grown, run_sound, ref_gives}
use Rattle.meaning.specs.Named.{RuleHyp}
use Rattle.meaning.specs.Runs.{IfTaken, Throughout, OrLater, Somewhere}
use Rattle.meaning.specs.Sets.{Sets, Within}
use Rattle.meaning.specs.Bridge.Asked.{some_same, at_unique}
use Rattle.meaning.specs.Bridge.Well.{WellTheory, Agree, Extends, Well, app_form, extends_same, extends_both, agree_extends}
use Rattle.meaning.proofs.Bridge.Refs.{calm_free}
use Rattle.meaning.specs.Bridge.Ends.{Ends, done}
use Rattle.meaning.proofs.Bridge.Took.{Kept, resting, Settled, Took, Post}

-- Definitions -----------------------------------------------------------------------------------------------------------------------

-- what holds of every state reached; T: the theory; vs: the sorts of all variables
pub record Good (K : Sets) (T : Theory) (vs : ℕ → ℕ) (S : State) : Type 0 where
  pub theory : S.theory ≡ T
  pub well : Well S vs
  pub run : Run T vs K.known K.part S.facts
  pub goals : (k : ℕ) (g : Goal) → entry S.goals k ≡ some g → g.taken ≡ true → (i : ℕ) × Settled K T vs S.facts i g

-- from the state S to S', By: the goals that have their result there, and the facts that these name
pub record Passed (K : Sets) (T : Theory) (vs : ℕ → ℕ) (By : ℕ → ℕ → Type 0) (S S' : State) : Type 0 where
  pub good : Good K T vs S'
  pub carried : (k i : ℕ) (g : Goal) → entry S.goals k ≡ some g → Settled K T vs S.facts i g
      → (h : Goal) × (entry S'.goals k ≡ some h) × Settled K T vs S'.facts i h
  pub settled : (k i : ℕ) → By k i → (h : Goal) × (entry S'.goals k ≡ some h) × Settled K T vs S'.facts i h
  pub taken : (k : ℕ) (g : Goal) → entry S'.goals k ≡ some g → g.taken ≡ true → (entry S.goals k ≡ some g) ⊎ ((i : ℕ) × By k i)

-- More facts ------------------------------------------------------------------------------------------------------------------------

cites_grown : (K : Sets) (T : Theory) (vs : ℕ → ℕ) (fs : List Fact) (f : Fact) (n : ℕ) (g : Fact) → Cites T vs K.known K.part fs n g
    → Cites T vs K.known K.part (grown fs f) n g
cites_grown K T vs fs f n g c = record { place = c.place; at = at_grown fs f g c.place c.at; free = c.free; rules = c.rules; known = c.known }

ref_grown : (K : Sets) (T : Theory) (vs : ℕ → ℕ) (fs : List Fact) (f : Fact) (n : ℕ) (h : Fact) (j : Tree) → Ref T vs K.known K.part fs n h j
    → Ref T vs K.known K.part (grown fs f) n h j
ref_grown K T vs fs f n h j (bare g c s e) = bare g (cites_grown K T vs fs f n g c) s e
ref_grown K T vs fs f n h j (inst g c z σ s e) = inst g (cites_grown K T vs fs f n g c) z σ s e

settled_grown : (K : Sets) (T : Theory) (vs : ℕ → ℕ) (fs : List Fact) (n : Fact) (i : ℕ) (g : Goal) → Settled K T vs fs i g
    → Settled K T vs (grown fs n) i g
settled_grown K T vs fs n i g s = record {
  rests = s.rests;
  gives = ref_grown K T vs fs n i (resting g.judgment s.rests) g.judgment s.gives;
  listed = λ h i. (let r = s.listed h i in (r.0, at_grown fs n r.0 h r.1, r.2, r.3));
}

-- of a goal with the same judgment, which lists the same
settled_same : (K : Sets) (T : Theory) (vs : ℕ → ℕ) (fs : List Fact) (i : ℕ) (g h : Goal) → h.judgment ≡ g.judgment → h.hyps ≡ g.hyps
    → Settled K T vs fs i g → Settled K T vs fs i h
settled_same K T vs fs i g h e p s = record {
  rests = s.rests;
  gives = subst (λ t. Ref T vs K.known K.part fs i (resting t s.rests) t) (sym e) s.gives;
  listed = λ k q. (let r = s.listed k q in (r.0, r.1, r.2, subst (λ ts. Among r.0.judgment ts) (sym p) r.3));
}

-- The induction ---------------------------------------------------------------------------------------------------------------------

-- one form
passed_step : (K : Sets) (T : Theory) (vs : ℕ → ℕ) (By : ℕ → ℕ → Type 0) (S S' : State) → Good K T vs S → Kept S S' → Took K By S vs S'
    → Passed K T vs By S S'
passed_step K T vs By S S' g k t = record {
  good = record {
    theory = k.theory ∙ g.theory;
    well = t.well;
    run = more_facts t.facts;
    goals = λ n h e q. elim (t.goals n h e q) [
      | inl p ↦ (let r = g.goals n h p q in (r.0, further t.facts r.0 h r.1))
      | inr p ↦ (let r = settled n p.0 p.1 in (p.0, subst (λ z. Settled K T vs S'.facts p.0 z) (some_same (sym r.1 ∙ e)) r.2))
    ];
  };
  carried = λ n i h e s. (let r = t.stays n h e in (r.0, r.1, settled_same K T vs S'.facts i h r.0 r.2 r.3 (further t.facts i h s)));
  settled = settled;
  taken = t.goals;
}
  where
    more_facts : (S'.facts ≡ S.facts)
        ⊎ ((f : Fact) × (S'.facts ≡ grown S.facts f) × Form S.theory vs K.known K.part S.facts (length S.facts) f)
        → Run T vs K.known K.part S'.facts
    more_facts (inl e) = subst (λ l. Run T vs K.known K.part l) (sym e) g.run
    more_facts (inr (f, e, m)) =
        subst (λ l. Run T vs K.known K.part l) (sym e)
        (take S.facts f g.run (subst (λ z. Form z vs K.known K.part S.facts (length S.facts) f) g.theory m))

    further : (S'.facts ≡ S.facts)
        ⊎ ((f : Fact) × (S'.facts ≡ grown S.facts f) × Form S.theory vs K.known K.part S.facts (length S.facts) f)
        → (i : ℕ) (h : Goal) → Settled K T vs S.facts i h → Settled K T vs S'.facts i h
    further (inl e) i h s = subst (λ l. Settled K T vs l i h) (sym e) s
    further (inr (f, e, m)) i h s = subst (λ l. Settled K T vs l i h) (sym e) (settled_grown K T vs S.facts f i h s)

    settled : (n i : ℕ) → By n i → (h : Goal) × (entry S'.goals n ≡ some h) × Settled K T vs S'.facts i h
    settled n i b = let r = t.settles n i b in (r.0, r.1, subst (λ z. Settled K z vs S'.facts i r.0) g.theory r.2)

-- none, and one after the other
pub passed_none : (K : Sets) (T : Theory) (vs : ℕ → ℕ) (By : ℕ → ℕ → Type 0) → ((k i : ℕ) → ¬ (By k i)) → (S : State) → Good K T vs S → Passed K T vs By S S
passed_none K T vs By void S g = record {
  good = g;
  carried = λ k i h e s. (h, e, s);
  settled = λ k i b. absurd (void k i b);
  taken = λ k h e q. inl e;
}

pub passed_void : (K : Sets) (T : Theory) (vs : ℕ → ℕ) (By : ℕ → ℕ → Type 0) → ((k i : ℕ) → ¬ (By k i)) → (S U : State) → Passed K T vs By S U
    → Passed K T vs (λ k i. ⊥) S U
passed_void K T vs By void S U p = record {
  good = p.good;
  carried = p.carried;
  settled = λ k i b. absurd b;
  taken = λ k h e t. elim (p.taken k h e t) [ inl d ↦ inl d | inr d ↦ absurd (void k d.0 d.1) ];
}

passed_both : (K : Sets) (T : Theory) (vs : ℕ → ℕ) (A B : ℕ → ℕ → Type 0) (S U Z : State) → Passed K T vs A S U → Passed K T vs B U Z
    → Passed K T vs (λ k i. A k i ⊎ B k i) S Z
passed_both K T vs A B S U Z p q = record {
  good = q.good;
  carried = λ k i h e s. (let r = p.carried k i h e s in q.carried k i r.0 r.1 r.2);
  settled = λ k i b. elim b [ inl a ↦ (let r = p.settled k i a in q.carried k i r.0 r.1 r.2) | inr c ↦ q.settled k i c ];
  taken = λ k h e t. elim (q.taken k h e t) [
    | inl d ↦ elim (p.taken k h d t) [ inl c ↦ inl c | inr c ↦ inr (c.0, inl c.1) ]
    | inr d ↦ inr (d.0, inr d.1)
  ];
}

-- f: how a form is taken; C: what is asked of it; B: what it is a result of
module _ (K : Sets) (f : Sexp → Act State (Unit {0})) (C : State → Sexp → Type 0) (B : State → Sexp → ℕ → ℕ → Type 0)
    (takes : (x : Sexp) (S : State) → Ends (λ _ S'. Post K (B S x) (C S x) S S') (f x S)) where
  -- variables are only added
  pub run_extends : (t : Text) (k : ℕ) (S : State) → Extends S.vars (end_of (through f t k S)).vars
  unfolding through end_of
  run_extends ends k S = extends_same S.vars
  run_extends (fails n) k S = extends_same S.vars
  run_extends (more x p t) k S = go (f x S) (takes x S) (λ u. run_extends t (suc k) u)
    where
      go : (o : Out State (Unit {0})) → Ends (λ _ S'. Post K (B S x) (C S x) S S') o
          → ((u : State) → Extends u.vars (end_of (through f t (suc k) u)).vars)
          → Extends S.vars
          (end_of {S = State} (elim o as (λ _. Judged State) [ ok a u ↦ through f t (suc k) u | refuse n d u ↦ refused n d k S ])).vars
      go (ok a u) (done h) r = extends_both S.vars u.vars (end_of (through f t (suc k) u)).vars h.kept.vars (r u)
      go (refuse n d u) h r = extends_same S.vars

  -- all forms, a refused one at the end included
  pub run_passed : (T : Theory) (vs : ℕ → ℕ) (t : Text) (k : ℕ) (S : State) → Good K T vs S → Throughout C f t S
      → Agree vs (end_of (through f t k S)).vars → Passed K T vs (λ n i. Somewhere (λ U x. B U x n i) f t S) S (end_of (through f t k S))
  unfolding through end_of Throughout IfTaken Somewhere OrLater
  run_passed T vs ends k S g c a = passed_none K T vs (λ n i. ⊥) (λ n i b. b) S g
  run_passed T vs (fails n) k S g c a = passed_none K T vs (λ n i. ⊥) (λ n i b. b) S g
  run_passed T vs (more x p t) k S g c a = go (f x S) (takes x S) c a (λ u h d b. run_passed T vs t (suc k) u h d b)
    where
      go : (o : Out State (Unit {0})) → Ends (λ _ S'. Post K (B S x) (C S x) S S') o → IfTaken (C S x) (λ u. Throughout C f t u) o
          → Agree vs (end_of {S = State} (elim o as (λ _. Judged State) [ ok a u ↦ through f t (suc k) u | refuse n d u ↦ refused n d k S ])).vars
          → ((u : State) → Good K T vs u → Throughout C f t u → Agree vs (end_of (through f t (suc k) u)).vars
          → Passed K T vs (λ n i. Somewhere (λ U x. B U x n i) f t u) u (end_of (through f t (suc k) u)))
          → Passed K T vs (λ n i. OrLater (B S x n i) (λ u. Somewhere (λ U x. B U x n i) f t u) o) S
          (end_of {S = State} (elim o as (λ _. Judged State) [ ok a u ↦ through f t (suc k) u | refuse n d u ↦ refused n d k S ]))
      go (ok a u) (done h) c b r =
          let one = passed_step K T vs (B S x) S u g h.kept
          (h.took vs g.well c.0 (agree_extends vs u.vars (end_of (through f t (suc k) u)).vars (run_extends t (suc k) u) b)) in
          passed_both K T vs (B S x) (λ n i. Somewhere (λ U y. B U y n i) f t u) S u (end_of (through f t (suc k) u)) one (r u one.good c.1 b)
      go (refuse n d u) h c b r = passed_none K T vs (λ n i. ⊥) (λ n i b. b) S g

-- What it comes to ------------------------------------------------------------------------------------------------------------------

shape_of : (T : Theory) → WellTheory T → (r : ℕ) → RuleOf T r → Shaped (rule T r)
unfolding WellTheory
shape_of T w r l =
    let a = app_form (rule T r).conclusion (w r l).shape in
    record { head = a.0; arguments = a.1; form = a.2; bound = (w r l).bound }

none_occurs : (v : ℕ) (ts : Trees) → ts ≡ none → ¬ (Occs v ts)
unfolding Occ
none_occurs v ts e o = subst (λ z. Occs v z) e o

module _ (K : Sets) (T : Theory) (within : Within K T) (vs : ℕ → ℕ) (S : State) (g : Good K T vs S) where
  shapes : (n r : ℕ) → K.known n r → Shaped (rule T r)
  shapes n r l = shape_of T (subst (λ z. WellTheory z) g.theory g.well.rules) r (within n r l)

  -- every fact but a rule hypothesis with premises is true, with any rules that have those on which it rests and that it tolerates
  pub good_true : (i : ℕ) (f : Fact) → At S.facts i f → ¬ (RuleHyp f) → (R : ℕ → Type 0)
      → ((r : ℕ) → K.part i r → R r) → ((r : ℕ) → R r → K.known i r) → True T vs R S.facts f
  good_true i f a n =
      run_sound T vs K.known K.part shapes S.facts g.run i f a
      (calm_free S.theory vs (length S.vars) (length S.facts) f (g.well.facts i f a) n)

  -- a goal that is settled by the fact i: under each ground replacement of its variables under which what it lists is derivable, so is its
  -- judgment
  module _ (i : ℕ) (h : Goal) (s : Settled K T vs S.facts i h) where
    pub good_goal : (R : ℕ → Type 0) → ((r : ℕ) → K.part i r → R r) → ((r : ℕ) → R r → K.known i r) → (γ : ℕ → Tree)
        → ((v : ℕ) → Occ v h.judgment ⊎ Occs v h.hyps → Value (sig T) (γ v) (vs v))
        → ((t : Tree) → Among t h.hyps → Der T R (sub γ t))
        → Der T R (sub γ h.judgment)
    unfolding Gives Needs HypOf Free Mentions Plain Allowed
    good_goal R mine theirs γ val given =
        ref_gives T vs K.known K.part shapes S.facts i (resting h.judgment s.rests)
        (λ j f a. run_sound T vs K.known K.part shapes S.facts g.run j f a) R mine theirs
        h.judgment s.gives (λ v o. inl o) γ needed held
      where
        plain_listed : (d : Fact) → (k : ℕ) × In k s.rests × At S.facts k d → Plain d × Among d.judgment h.hyps
        plain_listed d x =
            let r = s.listed x.0 x.1 in
            subst (λ z. Plain z × Among z.judgment h.hyps) (at_unique S.facts x.0 r.0 d r.1 x.2) (r.2, r.3)

        needed : (v : ℕ) → Occ v h.judgment ⊎ ((d : Fact) × ((k : ℕ) × In k s.rests × At S.facts k d)
            × ((Occ v d.judgment ⊎ Occs v d.premises) × ¬ (In v d.general)))
            → Value (sig T) (γ v) (vs v)
        needed v (inl o) = val v (inl o)
        needed v (inr (d, x, (inl o, n))) = val v (inr (among_occ d.judgment h.hyps v (plain_listed d x).1 o))
        needed v (inr (d, x, (inr o, n))) = absurd (none_occurs v d.premises (plain_listed d x).0.1 o)

        held : (d : Fact) → (k : ℕ) × In k s.rests × At S.facts k d → Holds T vs R γ d
        held d x = plain_holds T vs R d γ (plain_listed d x).0.0 (given d.judgment (plain_listed d x).1)
