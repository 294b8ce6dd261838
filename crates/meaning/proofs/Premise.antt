-- Tests that compute for the premise of the theorems, and for what sets of rules must respect: the facts that a form names or cites, and the
-- rule that it names, as lists. A run that passes is calm, or respects the sets; TheoremsHold has such runs. Assumes nothing.
use Rattle.std.specs.Prelude.{ℕ, ◌≡◌, refl, Bool, true, false, ◌&&◌, List, [], ◌∷◌, ◌++◌, length, Option, Some as some, None as nothing}
use Rattle.std.proofs.Common.{sym, subst, inl, inr}
use Rattle.rules.specs.Out.{Out, ok, refuse}
use Rattle.rules.specs.Text.{same}
use Rattle.rules.specs.Sexp.{Sexp, Sexps, atom, list, nil, cons, count, item, Text, ends, fails, more}
use Rattle.rules.specs.Index.{index_of}
use Rattle.rules.specs.Tags.{Tag, a_var, a_def, a_step, a_hyp, a_rule_hyp, an_induct, an_induct_with, an_apply, an_invert, a_result}
use Rattle.rules.specs.Find.{entry, all, has}
use Rattle.rules.specs.Theory.{Theory, rule, rules_of, rule_named}
use Rattle.rules.specs.State.{State, Fact, is_none}
use Rattle.rules.specs.Invert.{predicate_of}
use Rattle.rules.specs.Forms.{take_form}
use Rattle.meaning.specs.Trees.Tree.{In}
use Rattle.meaning.specs.Trees.Tests.{true_false}
use Rattle.meaning.specs.Derivation.{RuleOf}
use Rattle.meaning.specs.Named.{Points, Spells, Item, ItemOf, Refers, Cases, CasesFor, SomeRefers, SomeCases, SomeInverts, NamesAs, tag_of, Names, RuleHyp, Calm}
use Rattle.meaning.specs.Sets.{Sets, RuleAt, RuleAs, CitesAs, Tagged, Respects}
use Rattle.meaning.specs.Runs.{IfTaken, Throughout, Calmly, Respectful}
use Rattle.meaning.specs.Bridge.Asked.{no_some, some_same, both_true, at_entry, all_in, has_in}
use Rattle.meaning.proofs.Bridge.Refs.{is_none_lem}

-- Lists of numbers ------------------------------------------------------------------------------------------------------------------

in_left : (xs ys : List ℕ) (i : ℕ) → In i xs → In i (xs ++ ys)
unfolding In
in_left [] ys i m = absurd m
in_left (x ∷ xs) ys i (inl e) = inl e
in_left (x ∷ xs) ys i (inr m) = inr (in_left xs ys i m)

in_right : (xs ys : List ℕ) (i : ℕ) → In i ys → In i (xs ++ ys)
unfolding In
in_right [] ys i m = m
in_right (x ∷ xs) ys i m = inr (in_right xs ys i m)

-- what is found, or nothing
unfoldable pub found : Option ℕ → List ℕ
found (some i) = i ∷ []
found nothing = []

found_in : (o : Option ℕ) (i : ℕ) → o ≡ some i → In i (found o)
unfolding found In
found_in (some j) i e = inl (some_same (sym e))
found_in nothing i e = absurd (no_some e)

-- for each number
unfoldable pub for : (ℕ → List ℕ) → List ℕ → List ℕ
for f [] = []
for f (r ∷ rs) = f r ++ for f rs

for_in : (f : ℕ → List ℕ) (rs : List ℕ) (r i : ℕ) → In r rs → In i (f r) → In i (for f rs)
unfolding for In
for_in f [] r i m k = absurd m
for_in f (s ∷ rs) r i (inl e) k = in_left (f s) (for f rs) i (subst (λ z. In i (f z)) e k)
for_in f (s ∷ rs) r i (inr m) k = in_right (f s) (for f rs) i (for_in f rs r i m k)

-- for each item
unfoldable pub gathered : (Sexp → List ℕ) → Sexps → List ℕ
gathered f nil = []
gathered f (cons x xs) = f x ++ gathered f xs

unfoldable pub from_items : (Sexp → List ℕ) → Sexp → List ℕ
from_items f (atom p bs) = []
from_items f (list xs) = gathered f xs

gathered_in : (f : Sexp → List ℕ) (xs : Sexps) (x : Sexp) (i : ℕ) → Item x xs → In i (f x) → In i (gathered f xs)
unfolding gathered Item
gathered_in f nil x i m k = absurd m
gathered_in f (cons y xs) x i (inl e) k = in_left (f y) (gathered f xs) i (subst (λ z. In i (f z)) e k)
gathered_in f (cons y xs) x i (inr m) k = in_right (f y) (gathered f xs) i (gathered_in f xs x i m k)

items_in : (f : Sexp → List ℕ) (y x : Sexp) (i : ℕ) → ItemOf x y → In i (f x) → In i (from_items f y)
unfolding from_items ItemOf
items_in f (atom p bs) x i m k = absurd m
items_in f (list xs) x i m k = gathered_in f xs x i m k

-- What a form names -----------------------------------------------------------------------------------------------------------------

unfoldable pub pointed : Sexp → List ℕ
pointed (atom p bs) = found (index_of bs)
pointed (list xs) = []

points_in : (x : Sexp) (i : ℕ) → Points x i → In i (pointed x)
unfolding pointed Points
points_in (atom p bs) i e = found_in (index_of bs) i e
points_in (list xs) i e = absurd e

unfoldable pub referred : Sexp → List ℕ
referred (atom p bs) = pointed (atom p bs)
referred (list xs) = pointed (item xs 0)

refers_in : (x : Sexp) (i : ℕ) → Refers x i → In i (referred x)
unfolding referred Refers
refers_in (atom p bs) i e = points_in (atom p bs) i e
refers_in (list xs) i e = points_in (item xs 0) i e

unfoldable pub cased : Sexp → List ℕ
cased (atom p bs) = []
cased (list xs) = pointed (item xs 0)

cases_in : (x : Sexp) (i : ℕ) → Cases x i → In i (cased x)
unfolding cased Cases
cases_in (atom p bs) i e = absurd e
cases_in (list xs) i e = points_in (item xs 0) i e

unfoldable pub spelled : Sexp → List ℕ → Bool
spelled (atom p bs) n = same bs n
spelled (list xs) n = false

spells_true : (x : Sexp) (n : List ℕ) → Spells x n → spelled x n ≡ true
unfolding spelled Spells
spells_true (atom p bs) n e = e
spells_true (list xs) n e = absurd e

unfoldable pub cased_for : List ℕ → Sexp → List ℕ
cased_for n (atom p bs) = []
cased_for n (list xs) = elim (spelled (item xs 0) n) [ true ↦ pointed (item xs 1) | false ↦ [] ]

cases_for_in : (n : List ℕ) (x : Sexp) (i : ℕ) → CasesFor n x i → In i (cased_for n x)
unfolding cased_for CasesFor
cases_for_in n (atom p bs) i e = absurd e
cases_for_in n (list xs) i e =
    subst (λ b. In i (elim b as (λ _. List ℕ) [ true ↦ pointed (item xs 1) | false ↦ [] ])) (sym (spells_true (item xs 0) n e.0))
    (points_in (item xs 1) i e.1)

-- the cases of the rules of a hypothesis's predicate
unfoldable pub inverted_at : State → Sexp → Option Fact → List ℕ
inverted_at S y nothing = []
inverted_at S y (some g) = for (λ r. from_items (cased_for (rule S.theory r).name.bytes) y) (rules_of S.theory (predicate_of g.judgment))

unfoldable pub inverted : State → Sexp → Sexp → List ℕ
inverted S k y = for (λ h. inverted_at S y (entry S.facts h)) (pointed k)

inverts_in : (S : State) (k y : Sexp) (i : ℕ) → SomeInverts S k y i → In i (inverted S k y)
unfolding inverted inverted_at SomeInverts
inverts_in S k y i (h, g, r, x, p, a, m, j, c) =
    for_in (λ h. inverted_at S y (entry S.facts h)) (pointed k) h i (points_in k h p)
    (subst (λ o. In i (inverted_at S y o)) (sym (at_entry S.facts h g a))
    (for_in (λ r. from_items (cased_for (rule S.theory r).name.bytes) y) (rules_of S.theory (predicate_of g.judgment)) r i m
    (items_in (cased_for (rule S.theory r).name.bytes) y x i j (cases_for_in (rule S.theory r).name.bytes x i c))))

unfoldable pub named_as : Tag → State → Sexps → List ℕ
named_as a_var S xs = []
named_as a_def S xs = []
named_as a_hyp S xs = []
named_as a_rule_hyp S xs = []
named_as a_step S xs = from_items referred (item xs 3)
named_as an_apply S xs = from_items referred (item xs 4)
named_as a_result S xs = referred (item xs 2)
named_as an_induct S xs = from_items cased (item xs 4)
named_as an_induct_with S xs = from_items cased (item xs 5)
named_as an_invert S xs = inverted S (item xs 2) (item xs 5)

names_as_in : (t : Tag) (S : State) (xs : Sexps) (i : ℕ) → NamesAs t S xs i → In i (named_as t S xs)
unfolding named_as NamesAs SomeRefers SomeCases
names_as_in a_var S xs i n = absurd n
names_as_in a_def S xs i n = absurd n
names_as_in a_hyp S xs i n = absurd n
names_as_in a_rule_hyp S xs i n = absurd n
names_as_in a_step S xs i n = items_in referred (item xs 3) n.0 i n.1 (refers_in n.0 i n.2)
names_as_in an_apply S xs i n = items_in referred (item xs 4) n.0 i n.1 (refers_in n.0 i n.2)
names_as_in a_result S xs i n = refers_in (item xs 2) i n
names_as_in an_induct S xs i n = items_in cased (item xs 4) n.0 i n.1 (cases_in n.0 i n.2)
names_as_in an_induct_with S xs i n = items_in cased (item xs 5) n.0 i n.1 (cases_in n.0 i n.2)
names_as_in an_invert S xs i n = inverts_in S (item xs 2) (item xs 5) i n

unfoldable pub cited_as : Tag → State → Sexps → List ℕ
cited_as an_apply S xs = pointed (item xs 2) ++ from_items referred (item xs 4)
cited_as a_var S xs = []
cited_as a_def S xs = []
cited_as a_hyp S xs = []
cited_as a_rule_hyp S xs = []
cited_as a_step S xs = named_as a_step S xs
cited_as an_induct S xs = named_as an_induct S xs
cited_as an_induct_with S xs = named_as an_induct_with S xs
cited_as an_invert S xs = named_as an_invert S xs
cited_as a_result S xs = []

cites_as_in : (t : Tag) (S : State) (xs : Sexps) (i : ℕ) → CitesAs t S xs i → In i (cited_as t S xs)
unfolding cited_as CitesAs SomeRefers
cites_as_in an_apply S xs i (inl p) = in_left (pointed (item xs 2)) (from_items referred (item xs 4)) i (points_in (item xs 2) i p)
cites_as_in an_apply S xs i (inr n) =
    in_right (pointed (item xs 2)) (from_items referred (item xs 4)) i (items_in referred (item xs 4) n.0 i n.1 (refers_in n.0 i n.2))
cites_as_in a_var S xs i n = absurd n
cites_as_in a_def S xs i n = absurd n
cites_as_in a_hyp S xs i n = absurd n
cites_as_in a_rule_hyp S xs i n = absurd n
cites_as_in a_step S xs i n = names_as_in a_step S xs i n
cites_as_in an_induct S xs i n = names_as_in an_induct S xs i n
cites_as_in an_induct_with S xs i n = names_as_in an_induct_with S xs i n
cites_as_in an_invert S xs i n = names_as_in an_invert S xs i n
cites_as_in a_result S xs i n = absurd n

-- the rule that a `step` names
unfoldable pub rule_at : Theory → Sexp → List ℕ
rule_at T (atom p bs) = found (rule_named T bs)
rule_at T (list xs) = []

unfoldable pub ruled_as : Tag → State → Sexps → List ℕ
ruled_as a_step S xs = rule_at S.theory (item xs 2)
ruled_as a_var S xs = []
ruled_as a_def S xs = []
ruled_as a_hyp S xs = []
ruled_as a_rule_hyp S xs = []
ruled_as an_induct S xs = []
ruled_as an_induct_with S xs = []
ruled_as an_apply S xs = []
ruled_as an_invert S xs = []
ruled_as a_result S xs = []

rule_at_in : (T : Theory) (x : Sexp) (r : ℕ) → RuleAt T x r → In r (rule_at T x)
unfolding rule_at RuleAt
rule_at_in T (atom p bs) r e = found_in (rule_named T bs) r e
rule_at_in T (list xs) r e = absurd e

rules_in : (t : Tag) (S : State) (xs : Sexps) (r : ℕ) → RuleAs t S xs r → In r (ruled_as t S xs)
unfolding ruled_as RuleAs
rules_in a_step S xs r n = rule_at_in S.theory (item xs 2) r n
rules_in a_var S xs r n = absurd n
rules_in a_def S xs r n = absurd n
rules_in a_hyp S xs r n = absurd n
rules_in a_rule_hyp S xs r n = absurd n
rules_in an_induct S xs r n = absurd n
rules_in an_induct_with S xs r n = absurd n
rules_in an_apply S xs r n = absurd n
rules_in an_invert S xs r n = absurd n
rules_in a_result S xs r n = absurd n

-- by the tag of the form
unfoldable pub by_tag : (Tag → List ℕ) → Option Tag → List ℕ
by_tag f (some t) = f t
by_tag f nothing = []

unfoldable pub of_form : (Tag → State → Sexps → List ℕ) → State → Sexp → List ℕ
of_form f S (atom p bs) = []
of_form f S (list xs) = by_tag (λ t. f t S xs) (tag_of (item xs 0) (count xs))

tagged_in : (P : Tag → State → Sexps → ℕ → Type 0) (f : Tag → State → Sexps → List ℕ)
    → ((t : Tag) (S : State) (xs : Sexps) (i : ℕ) → P t S xs i → In i (f t S xs)) → (S : State) (x : Sexp) (i : ℕ) → Tagged P S x i → In i (of_form f S x)
unfolding of_form by_tag Tagged
tagged_in P f h S (atom p bs) i n = absurd n
tagged_in P f h S (list xs) i (t, e, n) = subst (λ o. In i (by_tag (λ t. f t S xs) o)) (sym e) (h t S xs i n)

names_tagged : (S : State) (x : Sexp) (i : ℕ) → Names S x i → Tagged NamesAs S x i
unfolding Names Tagged
names_tagged S (atom p bs) i n = n
names_tagged S (list xs) i n = n

-- The premise -----------------------------------------------------------------------------------------------------------------------

-- a test of each form that is taken, in the state that it meets
unfoldable pub throughout : (State → Sexp → Bool) → Text → State → Bool
throughout p ends S = true
throughout p (fails n) S = true
throughout p (more x q t) S = elim (take_form x S) [ ok a u ↦ p S x && throughout p t u | refuse n d u ↦ true ]

throughout_true : (p : State → Sexp → Bool) (C : State → Sexp → Type 0) → ((S : State) (x : Sexp) → p S x ≡ true → C S x) → (t : Text) (S : State)
    → throughout p t S ≡ true → Throughout C take_form t S
unfolding throughout Throughout IfTaken
throughout_true p C h ends S e = tt
throughout_true p C h (fails n) S e = tt
throughout_true p C h (more x q t) S e = go (take_form x S) e (λ u d. throughout_true p C h t u d)
  where
    go : (o : Out State (Unit {0})) → elim o as (λ _. Bool) [ ok a u ↦ p S x && throughout p t u | refuse n d u ↦ true ] ≡ true
        → ((u : State) → throughout p t u ≡ true → Throughout C take_form t u) → IfTaken (C S x) (λ u. Throughout C take_form t u) o
    go (ok a u) e k = let b = both_true (p S x) (throughout p t u) e in (h S x b.0, k u b.1)
    go (refuse n d u) e k = tt

-- no rule hypothesis with premises
unfoldable pub unruled : Option Fact → Bool
unruled nothing = true
unruled (some f) = elim f.assumed [ true ↦ is_none f.premises | false ↦ true ]

unfoldable pub calm : State → Sexp → Bool
calm S x = all (λ i. unruled (entry S.facts i)) (of_form named_as S x)

calm_true : (S : State) (x : Sexp) → calm S x ≡ true → Calm S x
unfolding calm Calm RuleHyp unruled
calm_true S x e i f n a r =
    r.1 (is_none_lem f.premises (plain f.assumed r.0
    (subst (λ o. unruled o ≡ true) (at_entry S.facts i f a)
    (all_in (λ i. unruled (entry S.facts i)) (of_form named_as S x) i e (tagged_in NamesAs named_as names_as_in S x i (names_tagged S x i n))))))
  where
    plain : (b : Bool) → b ≡ true → elim b as (λ _. Bool) [ true ↦ is_none f.premises | false ↦ true ] ≡ true → is_none f.premises ≡ true
    plain true b e = e
    plain false b e = absurd (true_false false b refl)

-- a run that passes is calm
pub calm_run : (t : Text) (S : State) → throughout calm t S ≡ true → Calmly t S
calm_run t S e = throughout_true calm Calm calm_true t S e

-- Sets of rules ---------------------------------------------------------------------------------------------------------------------

-- fact n rests on the rules F n, and tolerates all of the theory
abbrev pub resting : Theory → (ℕ → List ℕ) → Sets
resting T F = record { known = λ n r. RuleOf T r; part = λ n r. In r (F n) }

unfoldable pub respects : (ℕ → List ℕ) → State → Sexp → Bool
respects F S x =
    all (has (F (length S.facts))) (of_form ruled_as S x) && all (λ i. all (has (F (length S.facts))) (F i)) (of_form cited_as S x)

respects_true : (T : Theory) (F : ℕ → List ℕ) (S : State) (x : Sexp) → respects F S x ≡ true → Respects (resting T F) S x
unfolding respects
respects_true T F S x e =
    let n = F (length S.facts) in
    let b = both_true (all (has n) (of_form ruled_as S x)) (all (λ i. all (has n) (F i)) (of_form cited_as S x)) e in
    record {
      rests = λ r k. has_in n r (all_in (has n) (of_form ruled_as S x) r b.0 (tagged_in RuleAs ruled_as rules_in S x r k));
      cites = λ i k. (
        (λ r m. has_in n r (all_in (has n) (F i) r
            (all_in (λ i. all (has n) (F i)) (of_form cited_as S x) i b.1 (tagged_in CitesAs cited_as cites_as_in S x i k)) m)),
        (λ r m. m),
      );
    }

-- a run that passes respects the sets
pub respectful_run : (T : Theory) (F : ℕ → List ℕ) (t : Text) (S : State) → throughout (respects F) t S ≡ true → Respectful (resting T F) t S
respectful_run T F t S e = throughout_true (respects F) (Respects (resting T F)) (respects_true T F) t S e

-- `unfolding testing` opens all of the above, for a computation
unfoldable pub testing : Unit {0}
unfolding found for gathered from_items pointed referred cased spelled cased_for inverted_at inverted named_as cited_as rule_at ruled_as by_tag of_form tag_of throughout unruled calm respects
testing = tt
