-- What the footing of a recorded fact is, form by form. 01: "A fact's footing is the rule that it names and the footings of the facts in its
-- reference list. Hypotheses have none." `footing` says this of a form's text and the facts there are, and the laws say that each fact that a taken
-- form records has it. A step without the footings of its references, an instance or an application with an empty one, an application that took
-- over the footing of the applied fact, or an induction or inversion with any, would be refused here. Assumes nothing.
use Rattle.std.specs.Prelude.{ℕ, ◌+◌, ◌<◌, Bool, ◌&&◌, not, eqb, leb, ltb, Option, Some as some, None as nothing}
use Rattle.std.proofs.Math.Path.{◌≡◌, refl, ap₂}
use Rattle.std.proofs.Common.{sym, subst, ap, ◌∙◌, arith}
use Rattle.std.proofs.Math.Bool.{true, false, ◌||◌}
use Rattle.std.proofs.lemmas.Bool.{false≢true}
use Rattle.std.proofs.Math.Logic.{inl, inr}
use mathlib.Core.List.{List, [], ◌∷◌, ◌++◌}
use borrow.Author.Tests.{eqb-true}
use Rattle.std.proofs.Math.ListN.{length}
use Rattle.rules.specs.Text.{same}
use Rattle.rules.specs.Limits.{DEFS, FACTS, ENTRIES}
use Rattle.rules.specs.Out.{Out, ok, refuse, then, Act, found}
use Rattle.rules.specs.Sexp.{Sexp, Sexps, atom, list, nil, cons, count, item, Name, name, marked}
use Rattle.rules.specs.Index.{index_of}
use Rattle.rules.specs.Tags.{Tag, a_var, a_def, a_step, a_hyp, a_rule_hyp, an_induct, an_induct_with, an_apply, an_invert, a_result, proof_tag}
use Rattle.rules.specs.Find.{Set, first, entry, all, has, rising, empty}
use Rattle.rules.specs.Tree.{Trees, none, more, same_tree, count_trees}
use Rattle.rules.specs.Store.{Made}
use Rattle.rules.specs.Unify.{Binding}
use Rattle.rules.specs.Theory.{Theory, no_rule, rule_named}
use Rattle.rules.specs.Declare.{is_new}
use Rattle.rules.specs.State.{State, Fact, Counts, no_counts, abbreviated, goal_named, fact_entries, entries}
use Rattle.rules.specs.Read.{index, term, judgment, judgments}
use Rattle.rules.specs.Reference.{instance, reference}
use Rattle.rules.specs.Step.{references, step}
use Rattle.rules.specs.Apply.{discharge, apply}
use Rattle.rules.specs.Induct.{induct_on, induct, induct_with}
use Rattle.rules.specs.Invert.{invert}
use Rattle.rules.specs.Forms.{with_made, with_vars, making, add_def, add_fact, one_induction, one_inversion, some_instances, hypothesis, add_hyp, add_rule_hyp, add_step, add_apply, add_induct, add_induct_with, add_invert, listed, result, perform, take_form}
use Rattle.rules.specs.Laws.Out.{Ok, fine, off, of_ok, weaken, by_then, by_name, by_items, by_ask, by_room, by_found}
use Rattle.rules.specs.Laws.Set.{rising_agree, rising_from_none}
use Rattle.rules.specs.Laws.Tally.{tag_of, items_of, tag_is}
use Rattle.rules.specs.Laws.Shape.{ShapedIn, past}
use Rattle.rules.specs.Laws.Find.{first_some}
use Rattle.rules.specs.Laws.Rising.{has_all, or_cases, rising_has}
use Rattle.rules.specs.Laws.Entry.{fact_entry}
use Rattle.rules.proofs.Laws.Still.{vars_list_still}
use Rattle.rules.proofs.Laws.Form.{go_on, from_still, next_still, add_var_takes}

-- The statement -------------------------------------------------------------------------------------------------------------------

-- the number that a reference names: `N`, or `(N (VAR TERM)...)`
unfoldable pub index_atom : Sexp → Option ℕ
index_atom (atom p bs) = index_of bs
index_atom (list xs) = nothing

unfoldable pub fact_named : Sexp → Option ℕ
fact_named (atom p bs) = index_of bs
fact_named (list xs) = index_atom (item xs 0)

-- the footing of a fact, if there is one
unfoldable pub footing_of : Option Fact → Set
footing_of nothing r = false
footing_of (some f) r = has f.footing r

unfoldable pub footing_at : List Fact → Option ℕ → Set
footing_at fs nothing r = false
footing_at fs (some i) r = footing_of (entry fs i) r

-- the footings of the facts in a reference list
unfoldable pub footings : List Fact → Sexps → Set
footings fs nil r = false
footings fs (cons x xs) r = footing_at fs (fact_named x) r || footings fs xs r

-- the rule that is named
unfoldable pub is_rule : Option ℕ → Set
is_rule nothing r = false
is_rule (some k) r = eqb r k

unfoldable pub rule_in : Theory → Sexp → Set
rule_in T (atom p bs) r = is_rule (rule_named T bs) r
rule_in T (list xs) r = false

-- the footing of the fact that a form records: (step N RULE (REF...) ..), (apply N M (..) (REF...)), and no other form has one
unfoldable pub footing : State → Tag → Sexps → Set
footing S a_step xs r = rule_in S.theory (item xs 2) r || footings S.facts (items_of (item xs 3)) r
footing S an_apply xs r = footings S.facts (items_of (item xs 4)) r
footing S a_var xs r = false
footing S a_def xs r = false
footing S a_hyp xs r = false
footing S a_rule_hyp xs r = false
footing S an_induct xs r = false
footing S an_induct_with xs r = false
footing S an_invert xs r = false
footing S a_result xs r = false

-- of a form as it is read
unfoldable pub footing_by : State → Option Tag → Sexps → Set
footing_by S nothing xs r = false
footing_by S (some t) xs r = footing S t xs r

abbrev pub form_footing : State → Sexp → Set
form_footing S x = footing_by S (tag_of x) (items_of x)

-- the forms that record a fact
unfoldable pub records : Tag → Bool
records a_var = false
records a_def = false
records a_result = false
records a_step = true
records a_hyp = true
records a_rule_hyp = true
records an_induct = true
records an_induct_with = true
records an_apply = true
records an_invert = true

unfoldable pub records_by : Option Tag → Bool
records_by nothing = false
records_by (some t) = records t

-- whether a form has recorded a fact, behind the others, and what holds of it
pub data Recorded (fs : List Fact) (P : Fact → Type 0) : Bool → List Fact → Type 0 where
  one_more : (f : Fact) → P f → Recorded fs P true (fs ++ (f ∷ []))
  no_more : Recorded fs P false fs

-- the footing as it stands in a fact: the numbers of the theory's rules that are in the set, rising
abbrev pub Footed : State → Set → Fact → Type 0
Footed S a f = f.footing ≡ rising (length S.theory.rules) a

-- from state S to state U a form has recorded a fact with that footing, or none if it is of the other kind
abbrev pub Gives : State → Bool → Set → State → Type 0
Gives S b a U = Recorded S.facts (Footed S a) b U.facts

-- the rising members of the empty set
rising_empty : (n : ℕ) → rising n empty ≡ []
unfolding rising
rising_empty n = rising_from_none 0 n empty (λ v l k. refl)

-- References ------------------------------------------------------------------------------------------------------------------------

index_is : {S : Type 0} (n : ℕ) (x : Sexp) (s : S) → Ok (λ i u. index_atom x ≡ some i) (index n x s)
unfolding index name then index_atom
index_is {S} n (atom p bs) s = go (index_of bs)
  where
    go : (o : Option ℕ) → Ok (λ i u. o ≡ some i) (found {S = S} n o s)
    go (some i) = fine refl
    go nothing = off
index_is n (list xs) s = off

footing_at_lem : (fs : List Fact) (o : Option ℕ) (i : ℕ) (f : Fact) → o ≡ some i → entry fs i ≡ some f → (r : ℕ) → has f.footing r ≡ footing_at fs o r
unfolding footing_at footing_of
footing_at_lem fs o i f e g r = rw (e, g) refl

module _ (S : State) where
  reference_footing : (x : Sexp) (m : Made) → Ok (λ a u. (r : ℕ) → has a.footing r ≡ footing_at S.facts (fact_named x) r) (reference S x m)
  unfolding reference instance fact_named index_atom
  reference_footing (atom p bs) m =
      by_then _ _ (index_is 34 (atom p bs) m) λ i u e q. past _ _ λ f v k. fine (footing_at_lem S.facts (index_of bs) i f q (fact_entry S i u v f k))
  reference_footing (list xs) m =
      by_then _ _ (index_is 34 (item xs 0) m) λ i u e q. past _ _ λ f v k. past _ _ λ a w e. past _ _ λ bs y e. past _ _ λ t z e.
      fine (footing_at_lem S.facts (index_atom (item xs 0)) i f q (fact_entry S i u v f k))

  references_footing : (xs : Sexps) (m : Made) → Ok (λ a u. (r : ℕ) → a.footing r ≡ footings S.facts xs r) (references S xs m)
  unfolding references footings
  references_footing nil m = fine (λ r. refl)
  references_footing (cons x xs) m =
      by_then _ _ (reference_footing x m) λ a u e h. by_then _ _ (references_footing xs u) λ rs v f k. fine (λ r. ap₂ ◌||◌ (h r) (k r))

  discharge_footing : (bs : List Binding) (xs : Sexps) (ps : Trees) (m : Made) → count xs ≡ count_trees ps →
      Ok (λ a u. (r : ℕ) → a.footing r ≡ footings S.facts xs r) (discharge S bs xs ps m)
  unfolding discharge footings count count_trees
  discharge_footing bs nil ps m c = fine (λ r. refl)
  discharge_footing bs (cons x xs) none m c = absurd (omega (arith, c))
  discharge_footing bs (cons x xs) (more p ps) m c =
      past _ _ λ t u e. by_then _ _ (reference_footing x u) λ a v e h. past _ _ λ b w e.
      by_then _ _ (discharge_footing bs xs ps w (omega (arith, c))) λ rs y f k. fine (λ r. ap₂ ◌||◌ (h r) (k r))

  -- Forms -------------------------------------------------------------------------------------------------------------------------

  rule_is : (x : Sexp) (n : Name) (k r : ℕ) (m : Made) → name {S = Made} 33 x m ≡ ok n m → rule_named S.theory n.bytes ≡ some k →
      has (k ∷ []) r ≡ rule_in S.theory x r
  unfolding name rule_in is_rule has
  rule_is (atom p bs) n k r m e f = let q : bs ≡ n.bytes = cc in rw (q, f) (go (eqb r k))
    where
      go : (b : Bool) → elim b [ true ↦ true | false ↦ false ] ≡ b
      go true = refl
      go false = refl
  rule_is (list xs) n k r m e f = absurd (let z : ◌≡◌ {A = ℕ} 0 1 = cc in omega arith)

  in_list : (ys : Sexps) (x : Sexp) → x ≡ list ys → (r : ℕ) → footings S.facts ys r ≡ footings S.facts (items_of x) r
  unfolding items_of
  in_list ys x e r = rw e refl

  step_footing_lem : (xs : Sexps) (m : Made) → Ok (λ a u. Footed S (footing S a_step xs) a.0) (step S xs m)
  unfolding step footing
  step_footing_lem xs m =
      by_name 33 (item xs 2) m _ λ n e. by_found 33 (rule_named S.theory n.bytes) m _ λ k f. by_items 37 (item xs 3) m _ λ ys q.
      past _ _ λ t c g. by_then _ _ (references_footing ys c) λ rs d y h.
      past _ _ λ it i y. past _ _ λ b j y. past _ _ λ c l y. past _ _ λ o p y. past _ _ λ w v y.
      fine (rising_agree (length S.theory.rules) _ _ λ r v. ap₂ ◌||◌ (rule_is (item xs 2) n k r m e f) (h r ∙ in_list ys (item xs 3) q r))

  apply_footing_lem : (xs : Sexps) (m : Made) → Ok (λ a u. Footed S (footing S an_apply xs) a) (apply S xs m)
  unfolding apply footing
  apply_footing_lem xs m =
      past _ _ λ i a e. past _ _ λ ys b e. past _ _ λ bs c e. past _ _ λ f d e. past _ _ λ p g e.
      by_items 37 (item xs 4) g _ λ zs q. by_ask 37 (eqb (count zs) (count_trees p.premises)) g _ λ n.
      past _ _ λ j o e. by_then _ _ (discharge_footing bs zs p.premises o (eqb-true _ _ n)) λ rs u e h. past _ _ λ w v e.
      fine (rising_agree (length S.theory.rules) _ _ λ r v. h r ∙ in_list zs (item xs 4) q r)

  -- no footing
  none_footed : (f : Fact) → f.footing ≡ [] → Footed S empty f
  none_footed f e = e ∙ sym (rising_empty (length S.theory.rules))

  induct_on_footing : (x : ℕ) (hs : List ℕ) (y z : Sexp) (m : Made) → Ok (λ a u. a.footing ≡ []) (induct_on S x hs y z m)
  unfolding induct_on
  induct_on_footing x hs y z m = past _ _ λ j a e. past _ _ λ cs b e. past _ _ λ t c e. past _ _ λ u d e. past _ _ λ v f e. fine refl

  induct_footing : (xs : Sexps) (m : Made) → Ok (λ a u. a.footing ≡ []) (induct S xs m)
  unfolding induct
  induct_footing xs m = past _ _ λ x a e. induct_on_footing x [] (item xs 3) (item xs 4) a

  induct_with_footing : (xs : Sexps) (m : Made) → Ok (λ a u. a.footing ≡ []) (induct_with S xs m)
  unfolding induct_with
  induct_with_footing xs m = past _ _ λ x a e. past _ _ λ hs b e. induct_on_footing x hs (item xs 4) (item xs 5) b

  invert_footing_lem : (xs : Sexps) (m : Made) → Ok (λ a u. a.0.footing ≡ []) (invert S xs m)
  unfolding invert
  invert_footing_lem xs m =
      past _ _ λ i a e. past _ _ λ k b e. past _ _ λ t c e. past _ _ λ hs d e. past _ _ λ j f e. past _ _ λ ys g e. past _ _ λ cs h e. past _ _ λ N l e. fine refl

-- What a form records -----------------------------------------------------------------------------------------------------------------

-- an action on the made trees, then what follows
by_made : {A B : Type 0} {P : B → State → Type 0} {Q : A → Made → Type 0} (act : Act Made A) (T : State) (f : A → State → Out State B) →
    Ok Q (act T.made) → ((a : A) (u : Made) → Q a u → Ok P (f a (with_made T u))) → Ok P (then (making act T) f)
unfolding making then
by_made {A = A} {P = P} {Q = Q} act T f q k = go (act T.made) q
  where
    go : (o : Out Made A) → Ok Q o → Ok P (then (elim o [ ok a u ↦ ok a (with_made T u) | refuse n d u ↦ refuse n d (with_made T u) ]) f)
    go (ok a u) h = k a u (of_ok h refl)
    go (refuse n d u) h = off

any : {S A : Type 0} (o : Out S A) → Ok (λ a s. Unit {0}) o
any (ok a s) = fine tt
any (refuse n d s) = off

add_fact_records : (fs : List Fact) (P : Fact → Type 0) (g : Fact) (c : Counts) (T : State) → T.facts ≡ fs → P g →
    Ok (λ a U. Recorded fs P true U.facts) (add_fact g c T)
unfolding add_fact
add_fact_records fs P g c T e p =
    go_on _ (by_room 12 (ltb (length T.facts) FACTS) T _ λ l. by_room 13 (leb (entries T + fact_entries g) ENTRIES) T _ λ d.
    fine (subst (λ gs. Recorded fs P true (gs ++ (g ∷ []))) (sym e) (one_more g p)))

-- an action, then its fact
records_made : (S : State) (P : Fact → Type 0) {A : Type 0} (act : Act Made A) (fact : A → Fact) (counts : A → Counts) →
    Ok (λ a u. P (fact a)) (act S.made) →
    Ok (λ a U. Recorded S.facts P true U.facts) (then (making act S) (λ a T. add_fact (fact a) (counts a) T))
records_made S P act fact counts h = by_made act S _ h λ a u p. add_fact_records S.facts P (fact a) (counts a) (with_made S u) refl p

-- The forms on a state ------------------------------------------------------------------------------------------------------------------

def_records : (S : State) (xs : Sexps) (a : Set) → Ok (λ b U. Gives S false a U) (add_def xs S)
unfolding add_def
def_records S xs a =
    go_on _ (by_name 33 (item xs 1) S _ λ n e. by_ask 33 (marked n.bytes && leb 2 (length n.bytes)) S _ λ e.
    by_made (term S (item xs 2)) S _ (any _) λ t u p. by_ask 33 (is_new (abbreviated S.defs n.bytes)) _ _ λ e.
    by_room 10 (ltb (length S.defs) DEFS) _ _ λ e. go_on _ (fine no_more))

step_records : (S : State) (xs : Sexps) → Ok (λ a U. Gives S true (footing S a_step xs) U) (add_step xs S)
unfolding add_step
step_records S xs = go_on _ (records_made S _ (step S xs) (λ r. r.0) (λ r. some_instances r.1) (step_footing_lem S xs S.made))

apply_records : (S : State) (xs : Sexps) → Ok (λ a U. Gives S true (footing S an_apply xs) U) (add_apply xs S)
unfolding add_apply
apply_records S xs = go_on _ (records_made S _ (apply S xs) (λ f. f) (λ f. no_counts) (apply_footing_lem S xs S.made))

hyp_records : (S : State) (xs : Sexps) → Ok (λ a U. Gives S true (footing S a_hyp xs) U) (add_hyp xs S)
unfolding add_hyp footing
hyp_records S xs =
    go_on _ (by_made (judgment S (item xs 2)) S _ (any _) λ j u p.
    add_fact_records S.facts _ _ _ (with_made S u) refl (none_footed S (hypothesis (length S.facts) j none []) refl))

rule_hyp_records : (S : State) (xs : Sexps) → Ok (λ a U. Gives S true (footing S a_rule_hyp xs) U) (add_rule_hyp xs S)
unfolding add_rule_hyp footing
rule_hyp_records S xs =
    go_on _ (by_made (judgments S (item xs 2)) S _ (any _) λ ps u p. by_made (judgment S (item xs 3)) (with_made S u) _ (any _) λ j w q.
    from_still _ _ (vars_list_still 36 S (item xs 4)) λ vs e.
    add_fact_records S.facts _ _ _ (with_made S w) refl (none_footed S (hypothesis (length S.facts) j ps vs) refl))

induct_records : (S : State) (xs : Sexps) → Ok (λ a U. Gives S true (footing S an_induct xs) U) (add_induct xs S)
unfolding add_induct footing
induct_records S xs =
    go_on _ (records_made S _ (induct S xs) (λ f. f) (λ f. one_induction) (weaken (induct_footing S xs S.made) (λ f u e. none_footed S f e)))

induct_with_records : (S : State) (xs : Sexps) → Ok (λ a U. Gives S true (footing S an_induct_with xs) U) (add_induct_with xs S)
unfolding add_induct_with footing
induct_with_records S xs =
    go_on _ (records_made S _ (induct_with S xs) (λ f. f) (λ f. one_induction) (weaken (induct_with_footing S xs S.made) (λ f u e. none_footed S f e)))

invert_records : (S : State) (xs : Sexps) → Ok (λ a U. Gives S true (footing S an_invert xs) U) (add_invert xs S)
unfolding add_invert footing
invert_records S xs =
    go_on _ (by_made (invert S xs) S _ (invert_footing_lem S xs S.made) λ r u e.
    go_on _ (go_on _ (add_fact_records S.facts _ r.0 one_inversion (with_vars (with_made S u) r.1) refl (none_footed S r.0 e))))

result_records : (S : State) (xs : Sexps) (a : Set) → Ok (λ b U. Gives S false a U) (result xs S)
unfolding result
result_records S xs a =
    go_on _ (by_name 50 (item xs 1) S _ λ n e. by_found 50 (goal_named S.goals n.bytes) S _ λ k e. by_found 50 (entry S.goals k) S _ λ d y.
    by_ask 50 (not d.taken) S _ λ z. by_made (reference S (item xs 2)) S _ (any _) λ r u p.
    by_ask 51 (all (λ h. listed d.hyps (entry S.facts h)) r.hyps) _ _ λ e. by_ask 52 (same_tree r.judgment d.judgment) _ _ λ e. go_on _ (fine no_more))

-- Laws ----------------------------------------------------------------------------------------------------------------------------------

pub perform_footing : (t : Tag) (xs : Sexps) (S : State) → Ok (λ a U. Gives S (records t) (footing S t xs) U) (perform t xs S)
unfolding perform records
perform_footing a_var xs S = add_var_takes 3 xs S (λ v l. no_more)
perform_footing a_def xs S = def_records S xs _
perform_footing a_step xs S = from_still _ _ (next_still xs S) λ a e. step_records S xs
perform_footing a_hyp xs S = from_still _ _ (next_still xs S) λ a e. hyp_records S xs
perform_footing a_rule_hyp xs S = from_still _ _ (next_still xs S) λ a e. rule_hyp_records S xs
perform_footing an_induct xs S = from_still _ _ (next_still xs S) λ a e. induct_records S xs
perform_footing an_induct_with xs S = from_still _ _ (next_still xs S) λ a e. induct_with_records S xs
perform_footing an_apply xs S = from_still _ _ (next_still xs S) λ a e. apply_records S xs
perform_footing an_invert xs S = from_still _ _ (next_still xs S) λ a e. invert_records S xs
perform_footing a_result xs S = result_records S xs _

take_form_footing : (x : Sexp) (S : State) → Ok (λ a U. Gives S (records_by (tag_of x)) (form_footing S x) U) (take_form x S)
unfolding take_form footing_by records_by
take_form_footing x S =
    by_items 30 x S _ λ xs e. by_name 30 (item xs 0) S _ λ n f. by_found 30 (proof_tag n.bytes (count xs)) S _ λ t g.
    by_tag_lem xs t (tag_is x xs S n t e f g) (perform_footing t xs S)
  where
    by_tag_lem : (xs : Sexps) (t : Tag) → (tag_of x ≡ some t) × (items_of x ≡ xs) → Ok (λ b U. Gives S (records t) (footing S t xs) U) (perform t xs S) →
        Ok (λ b U. Gives S (records_by (tag_of x)) (form_footing S x) U) (perform t xs S)
    by_tag_lem xs t h p = rw (h.0, h.1) p

-- footings hold rules of the theory
module _ (S : State) (w : ShapedIn S) where
  at_rules : (o : Option ℕ) (r : ℕ) → footing_at S.facts o r ≡ true → r < length S.theory.rules
  unfolding footing_at footing_of
  at_rules nothing r e = absurd (false≢true e)
  at_rules (some i) r e = go (entry S.facts i) refl e
    where
      go : (o : Option Fact) → entry S.facts i ≡ o → footing_of o r ≡ true → r < length S.theory.rules
      go nothing q e = absurd (false≢true e)
      go (some f) q e = has_all f.footing r (w i f q).footing.rules e

  footings_rules : (xs : Sexps) (r : ℕ) → footings S.facts xs r ≡ true → r < length S.theory.rules
  unfolding footings
  footings_rules nil r e = absurd (false≢true e)
  footings_rules (cons x xs) r e = elim (or_cases (footing_at S.facts (fact_named x) r) (footings S.facts xs r) e) [
    | inl q ↦ at_rules (fact_named x) r q
    | inr q ↦ footings_rules xs r q
  ]

  rule_rules : (x : Sexp) (r : ℕ) → rule_in S.theory x r ≡ true → r < length S.theory.rules
  unfolding rule_in is_rule rule_named
  rule_rules (atom p bs) r e = go (first (λ q. same q.name.bytes bs) S.theory.rules 0) refl e
    where
      go : (o : Option ℕ) → first (λ q. same q.name.bytes bs) S.theory.rules 0 ≡ o → is_rule o r ≡ true → r < length S.theory.rules
      go nothing q e = absurd (false≢true e)
      go (some k) q e =
          let h = first_some (λ q. same q.name.bytes bs) S.theory.rules 0 k no_rule q in
          omega (arith, eqb-true r k e, h.is, h.inside)
  rule_rules (list xs) r e = absurd (false≢true e)

  form_rules : (o : Option Tag) (xs : Sexps) (r : ℕ) → footing_by S o xs r ≡ true → r < length S.theory.rules
  unfolding footing_by footing
  form_rules nothing xs r e = absurd (false≢true e)
  form_rules (some a_step) xs r e = elim (or_cases (rule_in S.theory (item xs 2) r) (footings S.facts (items_of (item xs 3)) r) e) [
    | inl q ↦ rule_rules (item xs 2) r q
    | inr q ↦ footings_rules (items_of (item xs 3)) r q
  ]
  form_rules (some an_apply) xs r e = footings_rules (items_of (item xs 4)) r e
  form_rules (some a_var) xs r e = absurd (false≢true e)
  form_rules (some a_def) xs r e = absurd (false≢true e)
  form_rules (some a_hyp) xs r e = absurd (false≢true e)
  form_rules (some a_rule_hyp) xs r e = absurd (false≢true e)
  form_rules (some an_induct) xs r e = absurd (false≢true e)
  form_rules (some an_induct_with) xs r e = absurd (false≢true e)
  form_rules (some an_invert) xs r e = absurd (false≢true e)
  form_rules (some a_result) xs r e = absurd (false≢true e)

-- a taken form, in any state: it records a fact if it is of that kind, with the footing that 01 says
pub form_footing_lem : (x : Sexp) (S U : State) → take_form x S ≡ ok tt U → Gives S (records_by (tag_of x)) (form_footing S x) U
form_footing_lem x S U e = of_ok (take_form_footing x S) e

-- in a state as a check reaches it (`facts_right`), where footings hold rules of the theory alone, the fact's footing has just the set's members
pub form_footing_set : (x : Sexp) (S U : State) → ShapedIn S → take_form x S ≡ ok tt U →
    Recorded S.facts (λ f. (r : ℕ) → has f.footing r ≡ form_footing S x r) (records_by (tag_of x)) U.facts
form_footing_set x S U w e = go (form_footing_lem x S U e)
  where
    go : {b : Bool} {gs : List Fact} → Recorded S.facts (Footed S (form_footing S x)) b gs →
        Recorded S.facts (λ f. (r : ℕ) → has f.footing r ≡ form_footing S x r) b gs
    go (one_more f q) = one_more f (λ r. ap (λ z. has z r) q
        ∙ rising_has (length S.theory.rules) (form_footing S x) (form_rules S w (tag_of x) (items_of x)) r)
    go no_more = no_more
