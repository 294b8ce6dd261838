-- What one form of the proof does to the state: the theory stays, variables are added at the end, at most one fact is added, by a form whose
-- tests held, and a goal is taken by a reference that gives it. Definitions, and the changes that storing makes.
use Rattle.std.specs.Prelude.{ℕ, suc, ◌+◌, ◌<◌, ◌≤◌, ◌≡◌, refl, ◌⊎◌, true, false, List, [], ◌∷◌, ltb, leb, length, Some as some}
use Rattle.std.proofs.Common.{arith, sym, ◌∙◌, subst, inl, inr, length-append}
use Rattle.rules.specs.Limits.{FACTS, ENTRIES}
use Rattle.rules.specs.Out.{Out, ok, refuse, then}
use Rattle.rules.specs.Find.{entry}
use Rattle.rules.specs.Tree.{Tree, var, app, none}
use Rattle.rules.specs.Store.{Made}
use Rattle.rules.specs.Theory.{Theory}
use Rattle.rules.specs.State.{State, Fact, Goal, Counts, Var, sort_of, entries, fact_entries}
use Rattle.rules.specs.Forms.{with_made, with_vars, with_facts, plus, add_fact}
use Rattle.meaning.specs.Trees.Tree.{Occ, In, Among}
use Rattle.meaning.specs.Unification.Acts.{Ok, done as fine, stopped as over, of_ok}
use Rattle.meaning.specs.Sets.{Sets}
use Rattle.meaning.specs.Truth.{At, Plain}
use Rattle.meaning.specs.Lemmas.Forms.{grown, Ref as RefForm, Form}
use Rattle.meaning.specs.Lemmas.Run.{at_split}
use Rattle.meaning.specs.Bridge.Well.{Typed, WellFact, Agree, Extends, Well, typed_more, fact_more, extends_length}
use Rattle.meaning.proofs.Bridge.Step.{Fine}
use Rattle.meaning.specs.Bridge.Ends.{Ends, done, keeping, keeps_room}

-- Definitions -----------------------------------------------------------------------------------------------------------------------

pub record Kept (S S' : State) : Type 0 where
  pub theory : S'.theory ≡ S.theory
  pub vars : Extends S.vars S'.vars

-- a fact with that judgment and those hypotheses
abbrev pub resting : Tree → List ℕ → Fact
resting j hs = record { judgment = j; hyps = hs; assumed = false; premises = none; general = []; footing = [] }

-- a reference to the fact i gives the goal's judgment; what it rests on is plain and listed at the goal
pub record Settled (K : Sets) (T : Theory) (vs : ℕ → ℕ) (fs : List Fact) (i : ℕ) (g : Goal) : Type 0 where
  pub rests : List ℕ
  pub gives : RefForm T vs K.known K.part fs i (resting g.judgment rests) g.judgment
  pub listed : (h : ℕ) → In h rests → (d : Fact) × At fs h d × Plain d × Among d.judgment g.hyps

-- By: the goal that the form is the result of, and the fact that it names
pub record Took (K : Sets) (By : ℕ → ℕ → Type 0) (S : State) (vs : ℕ → ℕ) (S' : State) : Type 0 where
  pub well : Well S' vs
  pub facts : (S'.facts ≡ S.facts)
      ⊎ ((f : Fact) × (S'.facts ≡ grown S.facts f) × Form S.theory vs K.known K.part S.facts (length S.facts) f)
  pub goals : (k : ℕ) (g : Goal) → entry S'.goals k ≡ some g → g.taken ≡ true → (entry S.goals k ≡ some g) ⊎ ((i : ℕ) × By k i)
  pub settles : (k i : ℕ) → By k i → (g : Goal) × (entry S'.goals k ≡ some g) × Settled K S.theory vs S'.facts i g
  pub stays : (k : ℕ) (g : Goal) → entry S.goals k ≡ some g
      → (h : Goal) × (entry S'.goals k ≡ some h) × (h.judgment ≡ g.judgment) × (h.hyps ≡ g.hyps)

-- the form's effect, where C is what is asked of the facts that it names
pub record Post (K : Sets) (By : ℕ → ℕ → Type 0) (C : Type 0) (S S' : State) : Type 0 where
  pub kept : Kept S S'
  pub took : (vs : ℕ → ℕ) (w : Well S vs) → C → Agree vs S'.vars → Took K By S vs S'

-- Laws ------------------------------------------------------------------------------------------------------------------------------

-- what is said of an answer for each i, at once
pub ok_all : {S A I : Type 0} {P : I → A → Type 0} (o : Out S A) → ((i : I) → Ok (P i) o) → Ok (λ a. (i : I) → P i a) o
ok_all (ok a s) h = fine (λ i. of_ok (h i) refl)
ok_all (refuse n d s) h = over

-- the sort of a term does not change with more variables
sort_more : (T : Theory) (vs : ℕ → ℕ) (xs ys : List Var) → Agree vs xs → Agree vs ys → length xs ≤ length ys → (t : Tree)
    → ((v : ℕ) → Occ v t → v < length xs) → sort_of T xs t ≡ sort_of T ys t
unfolding sort_of Agree Occ
sort_more T vs xs ys a b l (var v) s = a v (s v refl) ∙ sym (b v (let h = s v refl in omega arith))
sort_more T vs xs ys a b l (app c ts) s = refl

-- a well state with more variables
pub well_vars : (S : State) (vs : ℕ → ℕ) (w : Well S vs) (m : Made) (xs : List Var) → Extends S.vars xs → Agree vs xs
    → Well (with_vars (with_made S m) xs) vs
well_vars S vs w m xs e a = record {
  rules = w.rules;
  agree = a;
  defs = λ x t q. subst (λ s. Typed S.theory vs (length xs) t s)
      (sort_more S.theory vs S.vars xs w.agree a (extends_length S.vars xs e) t (w.defs x t q).small)
      (typed_more S.theory vs (length S.vars) (length xs) (extends_length S.vars xs e) t (sort_of S.theory S.vars t) (w.defs x t q));
  facts = λ i f q. fact_more S.theory vs (length S.vars) (length xs) (extends_length S.vars xs e) (length S.facts) (length S.facts)
      (omega arith) f (w.facts i f q);
}

-- and with one fact more
pub well_fact : (S : State) (vs : ℕ → ℕ) → Well S vs → (f : Fact) → WellFact S.theory vs (length S.vars) (suc (length S.facts)) f
    → (c : Counts) → Well (with_facts S (grown S.facts f) c) vs
well_fact S vs w f h c = record {
  rules = w.rules;
  agree = w.agree;
  defs = w.defs;
  facts = λ i g a. elim (at_split S.facts f g i a) [
    | inl b ↦ fact_more S.theory vs (length S.vars) (length S.vars) (omega arith) (length S.facts) (length (grown S.facts f))
        (let q = length-append S.facts (f ∷ []) in omega arith) g (w.facts i g b)
    | inr b ↦ subst (λ z. WellFact S.theory vs (length S.vars) (length (grown S.facts f)) z) b.1
        (fact_more S.theory vs (length S.vars) (length S.vars) (omega arith) (suc (length S.facts)) (length (grown S.facts f))
        (let q = length-append S.facts (f ∷ []) in omega arith) f h)
  ];
}

-- a form that is no result and leaves the goals
pub no_result : {By : ℕ → ℕ → Type 0} (K : Sets) → ((k i : ℕ) → ¬ (By k i)) → (S : State) (vs : ℕ → ℕ) (S' : State) → S'.goals ≡ S.goals → Well S' vs
    → (S'.facts ≡ S.facts)
    ⊎ ((f : Fact) × (S'.facts ≡ grown S.facts f) × Form S.theory vs K.known K.part S.facts (length S.facts) f)
    → Took K By S vs S'
no_result K void S vs S' e w h = record {
  well = w;
  facts = h;
  goals = λ k g q t. inl (subst (λ (l : List Goal). entry l k ≡ some g) e q);
  settles = λ k i b. absurd (void k i b);
  stays = λ k g q. (g, subst (λ (l : List Goal). entry l k ≡ some g) (sym e) q, refl, refl);
}

-- what storing a fact does
pub add_fact_lem : (f : Fact) (c : Counts) (S : State) → Ends (λ _ S'. S' ≡ with_facts S (grown S.facts f) (plus S.counts c)) (add_fact f c S)
unfolding add_fact then
add_fact_lem f c S =
    keeping _ (keeps_room 12 (ltb (length S.facts) FACTS) S) (λ _ _.
    keeping _ (keeps_room 13 (leb (entries S + fact_entries f) ENTRIES) S) (λ _ _. done refl))

-- a fact that is fine, stored behind the made trees and variables of its form
pub fact_post : {By : ℕ → ℕ → Type 0} {C : Type 0} (K : Sets) → ((k i : ℕ) → ¬ (By k i)) → (S : State) (m : Made) (xs : List Var)
    → Extends S.vars xs → (f : Fact) (c : Counts)
    → ((vs : ℕ → ℕ) (w : Well S vs) → C → Agree vs xs → Fine K S vs w f)
    → Post K By C S (with_facts (with_vars (with_made S m) xs) (grown S.facts f) c)
fact_post K void S m xs e f c h = record {
  kept = record { theory = refl; vars = e };
  took = λ vs w k a. no_result K void S vs (with_facts (with_vars (with_made S m) xs) (grown S.facts f) c) refl
      (well_fact (with_vars (with_made S m) xs) vs (well_vars S vs w m xs e a) f
      (fact_more S.theory vs (length S.vars) (length xs) (extends_length S.vars xs e) (suc (length S.facts)) (suc (length S.facts))
      (omega arith) f (h vs w k a).well) c)
      (inr (f, refl, (h vs w k a).form));
}
