-- The loop over the premises of a rule: what is left of them, with what the references so far have brought in front, gives what all of them give.
-- Assumes nothing.
use mathlib.Core.Path.{◌≡◌, refl, sym, ap, ◌∙◌, subst}
use mathlib.Core.Bool.{Bool, true, false, false≢true}
use mathlib.Core.Logic.{⊎_elim}
use mathlib.Core.List.{List}
use Prim.Native.Nat.{ℕ, ◌+◌, ◌<◌}
use native.Mathlib.Omega.{arith}
use lib.ListN.{length, replicate}
use Rattle.rules.specs.Limits.{VARIABLEWORDS, FACTWORDS, RULEWORDS, TERMWORDS}
use Rattle.rules.specs.Out.{Out, ok, then, ask}
use Rattle.rules.specs.Find.{Set, empty, union}
use Rattle.rules.specs.Sexp.{Sexp, Sexps, nil, cons, count}
use Rattle.rules.specs.Tree.{Tree, Trees, none, more, same_tree, variables, variables_of}
use Rattle.rules.specs.Store.{Made, substitute}
use Rattle.rules.specs.Unify.{Binding, along}
use Rattle.rules.specs.State.{State}
use Rattle.rules.specs.Reference.{Ref, reference}
use Rattle.rules.specs.Step.{Refs, with_ref}
use Rattle.rules.specs.Apply.{discharge}
use Rattle.rules.specs.Laws.Theory.{All, empty as none_of}
use Rattle.rules.specs.Laws.Out.{then_then}
use Rattle.rules.specs.Laws.Keeping.{Keeps, fine, stays, by_then, by_ask}
use Rattle.rules.specs.Laws.Sound.{sound}
use Rattle.rules.proofs.Laws.MakingWalk.{substitute_keeps}
use Rattle.rules.proofs.Laws.ReadWalk.{ready_on, reference_keeps}
use Rattle.rules.specs.Laws.Ready.{Ready}
use Rattle.rules.specs.Laws.Set.{union_assoc}
use Rattle.rules.specs.Laws.Rising.{or_cases}
use Rattle.sexp.specs.WalkLaws.{Walk, walk_start}
use Rattle.terms.specs.declared.store.Mark.{Mark}
use Rattle.terms.specs.Table.{made}
use Rattle.terms.specs.Sets.{holds}
use Rattle.terms.specs.Collect.{Seen}
use Rattle.terms.specs.Theta.{Theta, bindings}
use Rattle.terms.specs.On.{On, on_start, on_is}
use Rattle.terms.specs.Laws.Seen.{seen_none}
use Rattle.terms.specs.Laws.Sets.{holds_zero}
use Rattle.state.specs.declared.sizes.Sizes.{Sizes}
use Rattle.state.specs.Held.{Names}
use Rattle.state.specs.Members.{Under}
use Rattle.reading.specs.Laws.Walks.{then_same}
use Rattle.referring.specs.Recall.{fact_of, Refers}
use Rattle.referring.specs.Referral.{rests_on}
use Rattle.derivation.specs.Applying.{rule_of, premise_numbers, met_by, RuleUse}
use Rattle.derivation.proofs.RulePremises.{drop_trees, premise_first}

-- The definition -----------------------------------------------------------------------------------------------------------------------

-- behind one reference
abbrev pub and_others : State → List Binding → Sexps → Trees → Ref → Made → Out Made Refs
and_others S bs ys qs r U = then (discharge S bs ys qs U) (λ rs T. ok (with_ref r rs) T)

test_then : (S : State) (bs : List Binding) (x : Sexp) (ys : Sexps) (qs : Trees) (t : Tree) (U : Made) →
    then (then (reference S x U) (λ r T. then (ask 38 (same_tree r.judgment t) T) (λ u Z. ok r Z))) (and_others S bs ys qs)
    ≡ then (reference S x U) (λ r T. then (ask 38 (same_tree r.judgment t) T) (λ u Z. and_others S bs ys qs r Z))
unfolding then
test_then S bs x ys qs t U =
    then_then (reference S x U) (λ r T. then (ask 38 (same_tree r.judgment t) T) (λ u Z. ok r Z)) (and_others S bs ys qs)
    ∙ ap (then (reference S x U)) (λ i r T. then_then (ask 38 (same_tree r.judgment t) T) (λ u Z. ok r Z) (and_others S bs ys qs) i)

pub discharge_more : (S : State) (bs : List Binding) (x : Sexp) (ys : Sexps) (p : Tree) (qs : Trees) (M : Made) →
    discharge S bs (cons x ys) (more p qs) M ≡ then (met_by S bs p x M) (and_others S bs ys qs)
unfolding discharge
discharge_more S bs x ys p qs M =
    sym (then_then (substitute (along bs) p M)
    (λ t U. then (reference S x U) (λ r T. then (ask 38 (same_tree r.judgment t) T) (λ u Z. ok r Z))) (and_others S bs ys qs)
    ∙ ap (then (substitute (along bs) p M)) (λ i t U. test_then S bs x ys qs t U i))

-- what it keeps
pub met_keeps : (S : State) (bs : List Binding) (p : Tree) (x : Sexp) (M : Made) → Ready sound S M → Keeps sound M (λ r u. Unit {0}) (met_by S bs p x M)
met_keeps S bs p x M h =
    by_then _ _ (substitute_keeps (along bs) p M h.good) λ t u g a.
    by_then _ _ (reference_keeps S x u (ready_on h g)) λ r w k b. by_ask 38 (same_tree r.judgment t) (λ e v. ok r v) k.good (λ e. fine (stays k.good) tt)

pub discharge_keeps : (S : State) (bs : List Binding) (xs : Sexps) (ps : Trees) (M : Made) → Ready sound S M → Keeps sound M (λ r u. Unit {0}) (discharge S bs xs ps M)
unfolding discharge
discharge_keeps S bs nil ps M h = fine (stays h.good) tt
discharge_keeps S bs (cons x xs) none M h = fine (stays h.good) tt
discharge_keeps S bs (cons x xs) (more p ps) M h =
    subst (Keeps sound M (λ r u. Unit {0})) (sym (discharge_more S bs x xs p ps M))
    (by_then _ _ (met_keeps S bs p x M h) λ r u g a.
    by_then _ _ (discharge_keeps S bs xs ps u (ready_on h g)) λ rs w k b. fine (stays k.good) tt)

-- Sets ---------------------------------------------------------------------------------------------------------------------------------

pub under_zero : (k n : ℕ) (s : List ℕ) → s ≡ replicate k 0 → Under n (holds s)
under_zero k n s e v h = absurd (false≢true (sym (ap (λ (a : Set). a v) (ap holds e ∙ holds_zero k)) ∙ h))

pub under_union : (a b c : Set) (n : ℕ) → c ≡ union a b → Under n a → Under n b → Under n c
under_union a b c n e p q v h = ⊎_elim (p v) (q v) (or_cases (a v) (b v) (ap (λ (s : Set). s v) (sym e) ∙ h))

pub empty_zero : (k : ℕ) (s : List ℕ) → s ≡ replicate k 0 → holds s ≡ empty
empty_zero k s e = ap holds e ∙ holds_zero k

-- one more in front of the rest
pub union_more : (a b c d : Set) → d ≡ union a b → union a (union b c) ≡ union d c
union_more a b c d e = sym (union_assoc a b c) ∙ ap (λ (s : Set). union s c) (sym e)

pub rests_all : {P : ℕ → Type 0} (S : State) (i : ℕ) (bare : Bool) → All P (fact_of S i).hyps → All P (rests_on S i bare)
unfolding rests_on
rests_all S i true a = a
rests_all S i false a = none_of

-- The loop -----------------------------------------------------------------------------------------------------------------------------

abbrev pub premises_of : State → ℕ → Trees
premises_of S i = (rule_of S i (fact_of S i)).premises

-- k premises are met, and zs are left in the cells from a place on; whole: the answer of all from that of these
pub record Left (K : Names) (facts footings lists : List ℕ) (n : Sizes) (I W : List ℕ) (old : Mark) (i : ℕ) (cells bound : List ℕ) (S : State) (xs : Sexps) (J X : List ℕ) (now : Mark)
    (hyps footing used seen : List ℕ) (k at : ℕ) : Type 0 where
  pub zs : Sexps
  pub walk : Walk K.text cells at zs
  pub refers : Refers K facts footings lists n J X now S
  pub there : i < n.facts
  pub theta : Theta old bound
  pub many : count zs + k ≡ length (premise_numbers facts lists i)
  pub whole : Refs → Refs
  pub on : On I W old (discharge S (bindings (made I W old) bound 0) xs (premises_of S i) (made I W old)) J X now
      (then (discharge S (bindings (made I W old) bound 0) zs (drop_trees k (premises_of S i)) (made J X now)) (λ rs U. ok (whole rs) U))
  pub rests : (rs : Refs) → (whole rs).hyps ≡ union (holds hyps) rs.hyps
  pub uses : (rs : Refs) → (whole rs).footing ≡ union (holds footing) rs.footing
  pub vars : (rs : Refs) → variables_of (whole rs).judgments ≡ union (holds used) (variables_of rs.judgments)
  pub earlier : Under (length S.facts) (holds hyps)
  pub known : Under (length S.theory.rules) (holds footing)
  pub visits : Seen J X now (holds seen) (holds used)

-- nothing is met yet
module _ {K : Names} {facts footings lists : List ℕ} {n : Sizes} {I W : List ℕ} {m : Mark} {i : ℕ} {cells bound used : List ℕ} (u : used ≡ replicate VARIABLEWORDS 0)
    (g : RuleUse K facts footings lists n I W m i cells bound) where
  pub left_start : Left K facts footings lists n I W m i cells bound g.S g.xs I W m (replicate FACTWORDS 0) (replicate RULEWORDS 0) used (replicate TERMWORDS 0) 0 0
  unfolding variables
  left_start =
      record {
        zs = g.xs;
        walk = walk_start g.holds;
        refers = g.refers;
        there = g.there;
        theta = g.theta;
        many = omega (arith, g.many);
        whole = λ rs. rs;
        on = on_is (on_start g.refers.reads.good) (then_same _
            ∙ ap (λ (ps : Trees). then (discharge g.S (bindings (made I W m) bound 0) g.xs ps (made I W m)) (λ rs U. ok rs U))
            (sym (premise_first (premises_of g.S i))));
        rests = λ rs. ap (λ (a : Set). union a rs.hyps) (sym (empty_zero FACTWORDS _ refl));
        uses = λ rs. ap (λ (a : Set). union a rs.footing) (sym (empty_zero RULEWORDS _ refl));
        vars = λ rs. ap (λ (a : Set). union a (variables_of rs.judgments)) (sym (empty_zero VARIABLEWORDS used u));
        earlier = under_zero FACTWORDS _ _ refl;
        known = under_zero RULEWORDS _ _ refl;
        visits = seen_none I W m (holds used) (replicate TERMWORDS 0) refl;
      }
