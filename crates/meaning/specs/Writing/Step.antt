-- The step of a node: once its conclusion is made, it is a fact that rests on nothing. Assumes nothing.
use Rattle.std.specs.Prelude.{ℕ, zero, suc, ◌<◌, ◌≡◌, Bool, true, false, ◌&&◌, length, Some as some}
use Rattle.std.proofs.Math.Path.{refl, ap}
use Rattle.std.proofs.Common.{sym, ◌∙◌, ap₂, eq-eqb}
use mathlib.Core.List.{List, [], ◌∷◌}
use Rattle.std.proofs.Math.Dec.{eqb}
use Rattle.rules.specs.Text.{bytes}
use Rattle.rules.specs.Out.{Out, ok, refuse, then, found}
use Rattle.rules.specs.Laws.Out.{then_then}
use Rattle.rules.specs.Sexp.{Sexp, Sexps, atom, list, nil as nilˢ, cons as consˢ, count, item, rest, name as nameˢ, items, marked}
use Rattle.rules.specs.Find.{Set, union, minus, has, rising_from, rising, least_from, least}
use Rattle.rules.specs.Tree.{Tree, Trees, none, more, subs, count_trees, variables, variables_of}
use Rattle.rules.specs.Store.{Made, make}
use Rattle.rules.specs.Theory.{Theory, Rule, rule, rule_named}
use Rattle.rules.specs.Laws.Theory.{WellFormed}
use Rattle.rules.specs.Laws.Name.{Own, Named}
use Rattle.rules.specs.Match.{unbound, matches, match_all}
use Rattle.rules.specs.State.{State, Fact, Var, hyp_vars}
use Rattle.rules.specs.Read.{judgment}
use Rattle.rules.specs.Declare.{is_new}
use Rattle.rules.specs.Reference.{outside, scoped}
use Rattle.rules.specs.Step.{Refs, references, Items, no_items, state_item, read_item, read_items, match_stated, conclude, step}
use Rattle.meaning.specs.Trees.Tree.{count_subs}
use Rattle.meaning.specs.Unification.Acts.{make_ok}
use Rattle.meaning.specs.Bridge.Matching.{Agrees}
use Rattle.meaning.specs.Bridge.Asked.{no_some}
use Rattle.meaning.specs.Written.{Forms, name, group, nil, cons, symbol_name, rule_name, judgment_form, Step, conclusion, NamesAll, Node, atoms, step_form, term_forms}
use Rattle.meaning.specs.Writing.Read.{bare, bares}
use Rattle.meaning.specs.Writing.Terms.{list_of, nil_of, cons_of, Split, Begun, begun, Headed, headed, then_found, then_ask, then_ok, then_same, answer_then, if_false, not_marked, judgment_read}
use Rattle.meaning.specs.Writing.Node.{instance_fits, instances_fit, node_concludes, Derived, Recorded, ReferredAll, references_read}

-- Actions -------------------------------------------------------------------------------------------------------------------------

module _ {S A B : Type 0} where
  then_each : (o : Out S A) (f g : A → S → Out S B) → ((a : A) (s : S) → f a s ≡ g a s) → then o f ≡ then o g
  unfolding then
  then_each (ok a s) f g h = h a s
  then_each (refuse n d s) f g h = refl

then_pure : {S A : Type 0} (o : Out S A) → then o (λ a s. ok a s) ≡ o
unfolding then
then_pure (ok a s) = refl
then_pure (refuse n d s) = refl

pub and_false : (b c : Bool) → b ≡ false → (b && c) ≡ false
and_false b c e = ap (λ z. z && c) e

-- Sets --------------------------------------------------------------------------------------------------------------------------

rising_none : (k n : ℕ) (a : Set) → ((v : ℕ) → a v ≡ false) → rising_from k n a ≡ []
unfolding rising_from
rising_none k zero a h = refl
rising_none k (suc n) a h =
    ap (λ b. elim b as (λ _. List ℕ) [ true ↦ k ∷ rising_from (suc k) n a | false ↦ rising_from (suc k) n a ]) (h k) ∙ rising_none (suc k) n a h

-- as many children as premises
count_names : (cs : List Tree) (bss : List (List ℕ)) (ts : Trees) (xs : Sexps) → NamesAll cs bss ts → bares xs ≡ atoms bss → count xs ≡ count_trees ts
unfolding NamesAll atoms count count_trees bare
count_names cs [] none xs k e = ap count (nil_of xs e)
count_names cs [] (more t ts) xs k e = absurd k
count_names cs (bs ∷ bss) none xs k e = absurd k
count_names cs (bs ∷ bss) (more t ts) xs k e =
    let q = cons_of xs (name bs) (atoms bss) e in ap count q.is ∙ ap suc (count_names cs bss ts q.behind k.1 q.behinds)

-- The step ------------------------------------------------------------------------------------------------------------------------

-- the items of a step: tag, index, rule, children, conclusion
pub record StepItems (T : Theory) (s : Step) (xs : Sexps) : Type 0 where
  pub tag : ℕ
  pub own : ℕ
  pub rules : ℕ
  pub children : Sexps
  pub stated : Sexp
  pub is : xs ≡ consˢ (atom tag (bytes "step")) (consˢ (atom own s.index) (consˢ (atom rules (rule_name T s.rule)) (consˢ (list children) (consˢ stated nilˢ))))
  pub childrens : bares children ≡ atoms s.children
  pub stateds : bare stated ≡ judgment_form T (conclusion T s)

-- from the items one by one
items_of : (T : Theory) (s : Step) (x : Sexp) {k l m : Forms} (a : Headed x (bytes "step") k) (b : Begun a.behind s.index l)
    (c : Begun b.behind (rule_name T s.rule) m) (d : Split c.behind (group (atoms s.children)) (cons (judgment_form T (conclusion T s)) nil))
    (ys : Sexps) → d.front ≡ list ys → bares ys ≡ atoms s.children → (f : Split d.behind (judgment_form T (conclusion T s)) nil)
    → (xs : Sexps) × (x ≡ list xs) × StepItems T s xs
items_of T s x a b c d ys e h f = (
  consˢ (atom a.place (bytes "step")) a.behind,
  a.is,
  record {
    tag = a.place;
    own = b.place;
    rules = c.place;
    children = ys;
    stated = f.front;
    is = ap (consˢ (atom a.place (bytes "step"))) (b.is ∙ ap (consˢ (atom b.place s.index))
        (c.is ∙ ap (consˢ (atom c.place (rule_name T s.rule))) (d.is ∙ ap₂ consˢ e (f.is ∙ ap (consˢ f.front) (nil_of f.behind f.behinds)))));
    childrens = h;
    stateds = f.fronts;
  },
)

pub step_items : (T : Theory) (s : Step) (x : Sexp) → bare x ≡ step_form T s → (xs : Sexps) × (x ≡ list xs) × StepItems T s xs
unfolding step_form
step_items T s x e =
    let a = headed x (bytes "step") _ e in
    let b = begun a.behind s.index _ a.behinds in
    let c = begun b.behind (rule_name T s.rule) _ b.behinds in
    let d = cons_of c.behind (group (atoms s.children)) _ c.behinds in
    let y = list_of d.front (atoms s.children) d.fronts in
    items_of T s x a b c d y.0 y.1 y.2 (cons_of d.behind (judgment_form T (conclusion T s)) nil d.behinds)

module _ (S : State) (free : S.vars ≡ []) (w : WellFormed S.theory) (nm : Named S.theory) (cs : List Tree) (kept : Recorded cs S.facts)
    (s : Step) (n : Node S.theory cs s) where
  abbrev T : Theory
  T = S.theory

  abbrev R : Rule
  R = rule T s.rule

  abbrev goal : Tree
  goal = conclusion T s

  rule_found : rule_named T (rule_name T s.rule) ≡ some s.rule
  unfolding rule_named rule_name Own rule
  rule_found = nm.rules s.rule n.known

  -- nothing is bound, and the conclusion is stated
  abbrev stating : Tree → Items
  stating j = record { bound = unbound; values = none; stated = some j }

  judgment_made : (x : Sexp) (m : Made) → bare x ≡ judgment_form T goal → judgment S x m ≡ make goal m
  judgment_made x m e =
      let c = node_concludes T s cs n w in
      judgment_read S free w nm c.head c.arguments x m (e ∙ ap (judgment_form T) c.is) c.known c.predicate c.values ∙ ap (λ j. make j m) (sym c.is)

  -- a judgment's own name is no variable's
  item_head : (x : Sexp) → bare x ≡ judgment_form T goal → (c : ℕ) × (fs : Forms) × (c < length T.symbols) × Headed x (symbol_name T c) fs
  unfolding judgment_form
  item_head x e =
      let c = node_concludes T s cs n w in
      (c.head, term_forms T c.arguments, c.known, headed x (symbol_name T c.head) (term_forms T c.arguments) (e ∙ ap (judgment_form T) c.is))

  item_read : (x : Sexp) (m : Made) → bare x ≡ judgment_form T goal → read_item S R x no_items m ≡ then (make goal m) (λ _ m'. ok (stating goal) m')
  unfolding read_item state_item items item nameˢ is_new then
  item_read x m e =
      let h = item_head x e in
      let y : Sexp = list (consˢ (atom h.3.place (symbol_name T h.0)) h.3.behind) in
      ap (λ z. read_item S R z no_items m) h.3.is
      ∙ (if_false (marked (symbol_name T h.0) && eqb (count (consˢ (atom h.3.place (symbol_name T h.0)) h.3.behind)) 2) _ _ m
      (and_false (marked (symbol_name T h.0)) _ (not_marked T w nm h.0 h.2))
      ∙ (then_same (judgment S y m) (make goal m) (λ j m₁. ok (stating j) m₁) (judgment_made y m (ap bare (sym h.3.is) ∙ e))
      ∙ answer_then (λ j m₁. ok (stating j) m₁) (λ _ m₁. ok (stating goal) m₁) (make_ok goal m) (λ m₁. refl)))

  items_read : (x : Sexp) (m : Made) → bare x ≡ judgment_form T goal → read_items S R (consˢ x nilˢ) no_items m ≡ then (make goal m) (λ _ m'. ok (stating goal) m')
  unfolding read_items
  items_read x m e = then_pure (read_item S R x no_items m) ∙ item_read x m e

  scoped_free : (used : Set) (j : Tree) (hs : List ℕ) (m : Made) → scoped S used j hs m ≡ ok tt m
  unfolding scoped outside least least_from
  scoped_free used j hs m = ap (λ (vs : List Var). outside (least (length vs) (minus used (union (variables j) (hyp_vars S.facts hs)))) m) free

  -- the fact of the step, where the children give rs
  abbrev fact_of : Refs → Tree → Fact
  fact_of rs j = record {
    judgment = j;
    hyps = rising (length S.facts) rs.hyps;
    assumed = false;
    premises = none;
    general = [];
    footing = rising (length T.rules) (union (has (s.rule ∷ [])) rs.footing);
  }

  abbrev answer : Refs → Tree → Fact × ℕ
  answer rs j = (fact_of rs j, rs.instances)

  fact_derived : (rs : Refs) → ReferredAll (subs s.replacement R.premises) rs → Derived goal (fact_of rs goal)
  unfolding rising
  fact_derived rs h = record { judgment = refl; hyps = rising_none 0 (length S.facts) rs.hyps h.hyps; premises = refl; general = refl }

  -- conclusion and premises match, and no variable is there to be outside
  matched_step : (rs : Refs) (m : Made) → ReferredAll (subs s.replacement R.premises) rs
      → then (found 38 (match_stated R.conclusion (some goal) unbound) m) (λ b m₁.
      then (found 38 (match_all R.premises rs.judgments b) m₁) (λ c m₂.
      then (conclude R.conclusion (some goal) c m₂) (λ j m₃.
      then (scoped S (union (variables_of rs.judgments) (variables_of none)) j (rising (length S.facts) rs.hyps) m₃) (λ _ m₄.
      ok (answer rs j) m₄))))
      ≡ ok (fact_of rs goal, 0) m
  unfolding match_stated conclude conclusion then Agrees
  matched_step rs m h =
      let f = instance_fits s.replacement R.conclusion unbound (λ v t e. absurd (no_some e)) in
      let g = instances_fit s.replacement R.premises f.bound f.agrees in
      then_found 38 (matches R.conclusion goal unbound) f.bound m _ f.is
      ∙ (then_found 38 (match_all R.premises rs.judgments f.bound) g.bound m _ (ap (λ ts. match_all R.premises ts f.bound) h.judgments ∙ g.is)
      ∙ (then_ok (scoped S (union (variables_of rs.judgments) (variables_of none)) goal (rising (length S.facts) rs.hyps) m) tt m _ (scoped_free _ goal _ m)
      ∙ ap (λ (k : ℕ). ok (fact_of rs goal, k) m) h.instances))

  -- what is left of a step, when its items are known
  pub step_read : (xs : Sexps) (m : Made) → StepItems T s xs → (f : Fact) × Derived goal f × (step S xs m ≡ then (make goal m) (λ _ m'. ok (f, 0) m'))
  unfolding step items item rest nameˢ then
  step_read xs m i =
      let rs = references_read S cs kept s.children (subs s.replacement R.premises) i.children m i.childrens n.children in (
        fact_of rs.0 goal,
        fact_derived rs.0 rs.2,
        ap (λ ys. step S ys m) i.is
            ∙ (then_found 33 (rule_named T (rule_name T s.rule)) s.rule m _ rule_found
            ∙ (then_ask 37 (eqb (count i.children) (count_trees R.premises)) m _ (eq-eqb (count i.children) (count_trees R.premises)
            (count_names cs s.children (subs s.replacement R.premises) i.children n.children i.childrens ∙ count_subs s.replacement R.premises))
            ∙ (then_ok (references S i.children m) rs.0 m _ rs.1
            ∙ (then_same (read_items S R (consˢ i.stated nilˢ) no_items m) (then (make goal m) (λ _ m'. ok (stating goal) m')) _ (items_read i.stated m i.stateds)
            ∙ (then_then (make goal m) (λ _ m'. ok (stating goal) m') _
            ∙ then_each (make goal m) _ _ (λ _ m'. matched_step rs.0 m' rs.2)))))),
      )
