-- A form of the proof by its tag: `result`, the dispatch, and the whole form. Of a well state.
use Rattle.std.specs.Prelude.{ℕ, zero, suc, ◌≡◌, refl, ◌⊎◌, true, false, not, List, [], ◌∷◌, eqb, length, Option, Some as some, None as nothing}
use Rattle.std.proofs.Common.{sym, ◌∙◌, ap, subst, inl, inr}
use Rattle.rules.specs.Out.{then}
use Rattle.rules.specs.Sexp.{Sexp, Sexps, atom, list, count, item}
use Rattle.rules.specs.Find.{entry, all, change}
use Rattle.rules.specs.Tree.{Trees, same_tree, among}
use Rattle.rules.specs.Store.{Made}
use Rattle.rules.specs.State.{State, Fact, Goal, goal_named, is_plain, is_empty}
use Rattle.rules.specs.Reference.{Ref, instance, reference}
use Rattle.rules.specs.Tags.{Tag, a_var, a_def, a_step, a_hyp, a_rule_hyp, an_induct, an_induct_with, an_apply, an_invert, a_result, proof_tag}
use Rattle.rules.specs.Forms.{with_made, listed, taken_goal, result, next, perform, take_form}
use Rattle.meaning.specs.Trees.Tree.{Among}
use Rattle.meaning.specs.Trees.Tests.{true_false, same_tree_true, among_true}
use Rattle.meaning.specs.Unification.Acts.{Ok, done as fine, ok_then, ok_any}
use Rattle.meaning.specs.Truth.{At, Plain}
use Rattle.meaning.specs.Lemmas.Forms.{Ref as RefForm}
use Rattle.meaning.specs.Named.{Points, Refers, NamesAs, tag_of, Names, RuleHyp, Calm, GoalAt, ResultAs, ResultOf}
use Rattle.meaning.specs.Sets.{Sets, RuleAs, CitesAs, Tagged, Respects, Within}
use Rattle.meaning.specs.Bridge.Asked.{no_some, some_same, both_true, ok_ask, ok_index, entry_at, all_in}
use Rattle.meaning.specs.Bridge.Well.{Well, extends_same}
use Rattle.meaning.proofs.Bridge.Refs.{calm_free, Citable, FreeOfRules, RefOk, reference_ok}
use Rattle.meaning.proofs.Bridge.Apply.{is_plain_lem}
use Rattle.meaning.specs.Bridge.Ends.{Ends, done, Keeps, ends_map, keeping, keeps_ask, keeps_found, keeps_name, keeps_items, keeps_index, making_then}
use Rattle.meaning.proofs.Bridge.Took.{resting, Settled, Took, Post, ok_all}
use Rattle.meaning.proofs.Bridge.Proof.{Clear, After, add-var-ok, add-def-ok, add-hyp-ok, add-rule-hyp-ok, add-step-ok, add-apply-ok, add-induct-ok, add-induct-with-ok, add-invert-ok}

-- Results ---------------------------------------------------------------------------------------------------------------------------

-- an entry of a changed list is an old one, or the changed one
entry_change : {A : Type 0} (xs : List A) (k : ℕ) (f : A → A) (i : ℕ) (y : A) → entry (change xs k f) i ≡ some y → (entry xs i ≡ some y) ⊎ (k ≡ i)
unfolding entry change
entry_change [] k f i y e = absurd (no_some e)
entry_change (x ∷ xs) zero f zero y e = inr refl
entry_change (x ∷ xs) zero f (suc i) y e = inl e
entry_change (x ∷ xs) (suc k) f zero y e = inl e
entry_change (x ∷ xs) (suc k) f (suc i) y e = elim (entry_change xs k f i y e) [ inl p ↦ inl p | inr p ↦ inr (ap suc p) ]

changed : {A : Type 0} (xs : List A) (k : ℕ) (f : A → A) (x : A) → entry xs k ≡ some x → entry (change xs k f) k ≡ some (f x)
unfolding entry change
changed [] k f x e = absurd (no_some e)
changed (y ∷ xs) zero f x e = ap (λ z. some (f z)) (some_same e)
changed (y ∷ xs) (suc k) f x e = changed xs k f x e

-- a goal keeps its judgment and what it lists
goal_stays : (gs : List Goal) (k i : ℕ) (g : Goal) → entry gs i ≡ some g
    → (h : Goal) × (entry (change gs k taken_goal) i ≡ some h) × (h.judgment ≡ g.judgment) × (h.hyps ≡ g.hyps)
unfolding entry change
goal_stays [] k i g e = absurd (no_some e)
goal_stays (x ∷ gs) zero zero g e = (taken_goal x, refl, ap (λ (z : Goal). z.judgment) (some_same e), ap (λ (z : Goal). z.hyps) (some_same e))
goal_stays (x ∷ gs) zero (suc i) g e = (g, e, refl, refl)
goal_stays (x ∷ gs) (suc k) zero g e = (g, e, refl, refl)
goal_stays (x ∷ gs) (suc k) (suc i) g e = goal_stays gs k i g e

-- a hypothesis that may stay is plain, and listed at the goal
listed_ok : (fs : List Fact) (hs : Trees) (h : ℕ) → listed hs (entry fs h) ≡ true → (d : Fact) × At fs h d × Plain d × Among d.judgment hs
unfolding listed
listed_ok fs hs h e = go (entry fs h) refl e
  where
    go : (o : Option Fact) → entry fs h ≡ o → listed hs o ≡ true → (d : Fact) × At fs h d × Plain d × Among d.judgment hs
    go nothing q p = absurd (true_false false p refl)
    go (some d) q p =
        let r = both_true (is_plain d) (among hs d.judgment) p in
        (d, entry_at fs h d q, (is_plain_lem d r.0).1, among_true hs d.judgment r.1)

settles : (K : Sets) (S : State) (vs : ℕ → ℕ) (w : Well S vs) (i : ℕ) (r : Ref) → RefOk K S vs w i r → (g : Goal)
    → all (λ h. listed g.hyps (entry S.facts h)) r.hyps ≡ true → same_tree r.judgment g.judgment ≡ true
    → Settled K S.theory vs S.facts i (taken_goal g)
settles K S vs w i r o g l e = record {
  rests = r.hyps;
  gives = subst (λ t. RefForm S.theory vs K.known K.part S.facts i (resting g.judgment r.hyps) t)
      (same_tree_true r.judgment g.judgment e) (o.gives (resting g.judgment r.hyps) (λ h i. i));
  listed = λ h i. listed_ok S.facts g.hyps h (all_in (λ h. listed g.hyps (entry S.facts h)) r.hyps h l i);
}

-- what a reference names
reference_points : (S : State) (x : Sexp) (m : Made) → Ok (λ r. (i : ℕ) × Refers x i) (reference S x m)
unfolding reference instance Refers
reference_points S (atom p bs) m = ok_then (ok_index 34 (atom p bs) m) (λ i m₁ q. ok_then (ok_any _) (λ f m₂ _. fine (i, q)))
reference_points S (list xs) m =
    ok_then (ok_index 34 (item xs 0) m) (λ i m₁ q. ok_then (ok_any _) (λ f m₂ _. ok_then (ok_ask 35 (is_empty f.hyps) m₂) (λ _ m₃ _.
    ok_then (ok_any _) (λ bs m₄ _. ok_then (ok_any _) (λ t m₅ _. fine (i, q))))))

points_one : (x : Sexp) (i j : ℕ) → Points x i → Points x j → i ≡ j
unfolding Points
points_one (atom p bs) i j a b = some_same (sym a ∙ b)
points_one (list xs) i j a b = absurd a

refers_one : (x : Sexp) (i j : ℕ) → Refers x i → Refers x j → i ≡ j
unfolding Refers
refers_one (atom p bs) i j a b = points_one (atom p bs) i j a b
refers_one (list xs) i j a b = points_one (item xs 0) i j a b

-- a name is of one goal
named : (gs : List Goal) (x : Sexp) (p : ℕ) (bs : List ℕ) (k : ℕ) → x ≡ atom p bs → goal_named gs bs ≡ some k → GoalAt gs x k
unfolding GoalAt
named gs x p bs k e q = subst (λ z. GoalAt gs z k) (sym e) q

goal_one : (gs : List Goal) (x : Sexp) (k i : ℕ) → GoalAt gs x k → GoalAt gs x i → k ≡ i
unfolding GoalAt
goal_one gs (atom p bs) k i a b = some_same (sym a ∙ b)
goal_one gs (list xs) k i a b = absurd a

ref_free : (K : Sets) (S : State) (vs : ℕ → ℕ) (w : Well S vs) (x : Sexp)
    → ((i : ℕ) (f : Fact) → Refers x i → At S.facts i f → ¬ (RuleHyp f)) → (n : ℕ) → Refers x n → FreeOfRules K S vs w n x
unfolding FreeOfRules Citable
ref_free K S vs w x c n e i f r a = (
  calm_free S.theory vs (length S.vars) (length S.facts) f (w.facts i f a) (c i f r a),
  ((λ k p. subst (λ z. K.part z k) (refers_one x i n r e) p), (λ k p. subst (λ z. K.known z k) (refers_one x n i e r) p)),
)

-- a well state, and the fact that the result names
abbrev NamedResult : Sets → Sexps → State → Type 0
NamedResult K xs S = (vs : ℕ → ℕ) × Well S vs × Clear K a_result S xs × (i : ℕ) × Refers (item xs 2) i

ResultBy : (K : Sets) (xs : Sexps) (S : State) → Ref → Unit {0} ⊎ NamedResult K xs S → Type 0
ResultBy K xs S r (inl u) = (i : ℕ) × Refers (item xs 2) i
ResultBy K xs S r (inr g) = RefOk K S g.0 g.1 g.3 r

result_by : (K : Sets) (xs : Sexps) (S : State) (i : Unit {0} ⊎ NamedResult K xs S) → Ok (λ r. ResultBy K xs S r i) (reference S (item xs 2) S.made)
unfolding ResultBy NamesAs
result_by K xs S (inl u) = reference_points S (item xs 2) S.made
result_by K xs S (inr (vs, w, c, i, e)) = reference_ok K S vs w i (item xs 2) (ref_free K S vs w (item xs 2) c.calm i e) S.made

result_ok : (K : Sets) (xs : Sexps) (S : State) → After K a_result xs S (result xs S)
unfolding result then ResultBy ResultAs
result_ok K xs S =
    keeping _ (keeps_name 50 (item xs 1) S) (λ n ei.
    keeping _ (keeps_found 50 (goal_named S.goals n.bytes) S) (λ k ek.
    keeping _ (keeps_found 50 (entry S.goals k) S) (λ g eg.
    keeping _ (keeps_ask 50 (not g.taken) S) (λ _ _.
    making_then (reference S (item xs 2)) S _
    (ok_all {I = Unit {0} ⊎ NamedResult K xs S} {P = λ i r. ResultBy K xs S r i} (reference S (item xs 2) S.made) (λ i. result_by K xs S i)) (λ r m o.
    keeping _ (keeps_ask 51 (all (λ h. listed g.hyps (entry S.facts h)) r.hyps) (with_made S m)) (λ _ l.
    keeping _ (keeps_ask 52 (same_tree r.judgment g.judgment) (with_made S m)) (λ _ e.
    done (record {
      kept = record { theory = refl; vars = extends_same S.vars };
      took = λ vs w c _. record {
        well = record { rules = w.rules; agree = w.agree; defs = w.defs; facts = w.facts };
        facts = inl refl;
        goals = λ i h q t. elim (entry_change S.goals k taken_goal i h q) [
          | inl p ↦ inl p
          | inr p ↦ inr (
            (o (inl tt)).0,
            (subst (λ z. GoalAt S.goals (item xs 1) z) p (named S.goals (item xs 1) ei.0 n.bytes k ei.1 ek), (o (inl tt)).1),
          )
        ];
        settles = λ i j b. subst (λ z. (h : Goal) × (entry (change S.goals k taken_goal) z ≡ some h) × Settled K S.theory vs S.facts j h)
            (goal_one S.goals (item xs 1) k i (named S.goals (item xs 1) ei.0 n.bytes k ei.1 ek) b.0)
            (taken_goal g, changed S.goals k taken_goal g eg, settles K S vs w j r (o (inr (vs, w, c, j, b.1))) g l e);
        stays = λ i h q. goal_stays S.goals k i h q;
      };
    }))))))))

-- The dispatch ----------------------------------------------------------------------------------------------------------------------

next_keeps : (xs : Sexps) (S : State) → Keeps S (λ _. Unit {0}) (next xs S)
unfolding next then
next_keeps xs S =
    keeping _ (keeps_index 31 (item xs 1) S) (λ i _. ends_map (λ _ z p. (p.0, tt)) (keeps_ask 32 (eqb i (length S.facts)) S))

perform_ok : (K : Sets) (t : Tag) (xs : Sexps) (S : State) → After K t xs S (perform t xs S)
unfolding perform ResultAs
perform_ok K a_var xs S = add-var-ok K (λ k i b. b) (Clear K a_var S xs) 3 xs S
perform_ok K a_def xs S = add-def-ok K xs S
perform_ok K a_step xs S = keeping _ (next_keeps xs S) (λ _ _. add-step-ok K xs S)
perform_ok K a_hyp xs S = keeping _ (next_keeps xs S) (λ _ _. add-hyp-ok K xs S)
perform_ok K a_rule_hyp xs S = keeping _ (next_keeps xs S) (λ _ _. add-rule-hyp-ok K xs S)
perform_ok K an_induct xs S = keeping _ (next_keeps xs S) (λ _ _. add-induct-ok K xs S)
perform_ok K an_induct_with xs S = keeping _ (next_keeps xs S) (λ _ _. add-induct-with-ok K xs S)
perform_ok K an_apply xs S = keeping _ (next_keeps xs S) (λ _ _. add-apply-ok K xs S)
perform_ok K an_invert xs S = keeping _ (next_keeps xs S) (λ _ _. add-invert-ok K xs S)
perform_ok K a_result xs S = result_ok K xs S

-- The whole form --------------------------------------------------------------------------------------------------------------------

-- what is asked of a form of the proof
pub record Asks (K : Sets) (S : State) (x : Sexp) : Type 0 where
  pub calm : Calm S x
  pub respects : Respects K S x
  pub within : Within K S.theory

clear_of : (K : Sets) (S : State) (x : Sexp) (xs : Sexps) (p : ℕ) (bs : List ℕ) (t : Tag) → x ≡ list xs → item xs 0 ≡ atom p bs
    → proof_tag bs (count xs) ≡ some t → Asks K S x → Clear K t S xs
unfolding Calm Names Tagged tag_of
clear_of K S x xs p bs t ex ei et c = record {
  calm = λ i f n a. c.calm i f (subst (λ z. Names S z i) (sym ex) (t, tag, n)) a;
  rests = λ r n. c.respects.rests r (subst (λ z. Tagged RuleAs S z r) (sym ex) (t, tag, n));
  cites = λ i n. c.respects.cites i (subst (λ z. Tagged CitesAs S z i) (sym ex) (t, tag, n));
  within = λ r k. c.within (length S.facts) r k;
}
  where
    tag : tag_of (item xs 0) (count xs) ≡ some t
    tag = ap (λ z. tag_of z (count xs)) ei ∙ et

-- what the form is a result of, by its tag
tagged : (S : State) (x : Sexp) (xs : Sexps) (p : ℕ) (bs : List ℕ) (t : Tag) → x ≡ list xs → item xs 0 ≡ atom p bs → proof_tag bs (count xs) ≡ some t
    → (k i : ℕ) → (ResultAs t S xs k i → ResultOf S x k i) × (ResultOf S x k i → ResultAs t S xs k i)
unfolding ResultOf tag_of
tagged S x xs p bs t ex ei et k i = subst (λ z. (ResultAs t S xs k i → ResultOf S z k i) × (ResultOf S z k i → ResultAs t S xs k i)) (sym ex)
    ((λ r. (t, tag, r)), (λ r. subst (λ u. ResultAs u S xs k i) (some_same (sym r.1 ∙ tag)) r.2))
  where
    tag : tag_of (item xs 0) (count xs) ≡ some t
    tag = ap (λ z. tag_of z (count xs)) ei ∙ et

took_by : {K : Sets} {A B : ℕ → ℕ → Type 0} {S : State} {vs : ℕ → ℕ} {S' : State} → ((k i : ℕ) → (A k i → B k i) × (B k i → A k i)) → Took K A S vs S'
    → Took K B S vs S'
took_by h t = record {
  well = t.well;
  facts = t.facts;
  goals = λ k g q a. elim (t.goals k g q a) [ inl p ↦ inl p | inr p ↦ inr (p.0, (h k p.0).0 p.1) ];
  settles = λ k i b. t.settles k i ((h k i).1 b);
  stays = t.stays;
}

pub take_form_ok : (K : Sets) (x : Sexp) (S : State) → Ends (λ _ S'. Post K (ResultOf S x) (Asks K S x) S S') (take_form x S)
unfolding take_form
take_form_ok K x S =
    keeping _ (keeps_items 30 x S) (λ xs ex.
    keeping _ (keeps_name 30 (item xs 0) S) (λ n ei.
    keeping _ (keeps_found 30 (proof_tag n.bytes (count xs)) S) (λ t et.
    ends_map (λ _ S' h. record {
      kept = h.kept;
      took = λ vs w c a. took_by (λ k i. tagged S x xs ei.0 n.bytes t ex ei.1 et k i)
          (h.took vs w (clear_of K S x xs ei.0 n.bytes t ex ei.1 et c) a);
    })
    (perform_ok K t xs S))))
