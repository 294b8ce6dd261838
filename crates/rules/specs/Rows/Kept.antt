-- Rows on what stands after a check where its line does not show it: footings, what facts rest on, the trees made and their order, variables that
-- `invert` made, what a refused form leaves, and 53's list. Rules are c0, c1, a1, s by number from 0, and those that a row adds. Assumes nothing.
use Rattle.std.specs.Prelude.{ℕ, ◌≡◌, refl, true, false, List, [], ◌∷◌}
use Prim.Native.String.{String}
use Rattle.rules.specs.Text.{bytes}
use Rattle.rules.specs.Tree.{Tree, var, app, none, more}
use Rattle.rules.specs.Store.{Made}
use Rattle.rules.specs.Check.{Outcome, check}
use Rattle.rules.specs.Run.{running}
use Rattle.rules.specs.StateTables.{missing_of}
use Rattle.rules.specs.Examples.{theory}
use Rattle.rules.specs.Rows.Row.{goals, Sight, AllSeen, seen, each, one, first, renew, child, adult, bad, same}

-- Footings --------------------------------------------------------------------------------------------------------------------------------

abbrev footings : Outcome → List (List ℕ)
footings O = each (λ f. f.footing) O.state.facts

-- a step: its rule and the footings of its references, bracketed ones too
abbrev step_footing : Sight (List (List ℕ))
step_footing = seen "" "(step 0 c0 ()) (step 1 c1 (0)) (step 2 c1 (1)) (step 3 c1 ((1)))" ((0 ∷ []) ∷ (0 ∷ 1 ∷ []) ∷ (0 ∷ 1 ∷ []) ∷ (0 ∷ 1 ∷ []) ∷ [])

-- of both references, by rising number; b is rule 4, w 5
abbrev both_footings : Sight (List (List ℕ))
both_footings =
    seen "(rule b ((Child ?p) (Adult ?p)) (Child (renew ?p))) (rule w () (Child (renew first)))"
    "(step 0 w ()) (step 1 a1 ()) (step 2 b (0 1)) (step 3 c1 (2))"
    ((5 ∷ []) ∷ (2 ∷ []) ∷ (2 ∷ 4 ∷ 5 ∷ []) ∷ (1 ∷ 2 ∷ 4 ∷ 5 ∷ []) ∷ [])

-- an application: the footings of its references alone, bracketed or not, and not of the fact that is applied
abbrev apply_footing : Sight (List (List ℕ))
apply_footing =
    seen "" "(hyp 0 (Child x)) (step 1 c1 (0)) (step 2 c0 ()) (apply 3 1 ((x first)) (2)) (apply 4 1 ((x first)) ((2))) (step 5 c1 (3))"
    ([] ∷ (1 ∷ []) ∷ (0 ∷ []) ∷ (0 ∷ []) ∷ (0 ∷ []) ∷ (0 ∷ 1 ∷ []) ∷ [])

-- an inversion none, whatever its cases have; Examples has an induction
abbrev invert_footing : Sight (List (List ℕ))
invert_footing =
    seen "" "(var y Pass) (hyp 0 (Child x)) (step 1 s () (?p first)) (invert 2 0 () (Same first (renew first)) ((c0 1 ()) (c1 1 (y))))"
    ([] ∷ (3 ∷ []) ∷ [] ∷ [])

pub footings_right : AllSeen footings (step_footing ∷ both_footings ∷ apply_footing ∷ invert_footing ∷ [])
unfolding running AllSeen each
footings_right = (refl, (refl, (refl, (refl, tt))))

-- What facts rest on ------------------------------------------------------------------------------------------------------------------------

abbrev rests : Outcome → List (List ℕ)
rests O = each (λ f. f.hyps) O.state.facts

-- a step: on what its references rest on, by rising number, each once
abbrev step_rests : Sight (List (List ℕ))
step_rests =
    seen "(rule b ((Child ?p) (Adult ?p)) (Bad ?p)) (rule w ((Bad ?p) (Child ?p)) (Child ?p))"
    "(hyp 0 (Adult x)) (hyp 1 (Child x)) (step 2 b (1 0)) (step 3 w (2 1))" ((0 ∷ []) ∷ (1 ∷ []) ∷ (0 ∷ 1 ∷ []) ∷ (0 ∷ 1 ∷ []) ∷ [])

-- an application of a hypothesis: on it, and on what its references rest on; of another fact: on the latter alone
abbrev apply_rests : Sight (List (List ℕ))
apply_rests =
    seen "(rule b ((Child ?p) (Adult ?p)) (Bad ?p))"
    "(hyp 0 (Child x)) (hyp 1 ((Child x)) (Bad x) ()) (apply 2 1 () (0)) (hyp 3 (Adult x)) (step 4 b (0 3)) (hyp 5 (Child x)) (hyp 6 (Adult x)) (apply 7 4 () (5 6))"
    ((0 ∷ []) ∷ (1 ∷ []) ∷ (0 ∷ 1 ∷ []) ∷ (3 ∷ []) ∷ (0 ∷ 3 ∷ []) ∷ (5 ∷ []) ∷ (6 ∷ []) ∷ (5 ∷ 6 ∷ []) ∷ [])

-- an induction: on the listed hypotheses; an inversion: on the inverted one and the context; by rising number, each once, however written
abbrev listed_rests : Sight (List (List ℕ))
listed_rests =
    seen "" "(var z Gone) (hyp 0 (Left z)) (hyp 1 (Same x x)) (induct 2 z (1 0 1) (Left z) ()) (invert 3 1 (0 0) (Bad x) ())"
    ((0 ∷ []) ∷ (1 ∷ []) ∷ (0 ∷ 1 ∷ []) ∷ (0 ∷ 1 ∷ []) ∷ [])

pub rests_right : AllSeen rests (step_rests ∷ apply_rests ∷ listed_rests ∷ [])
unfolding running AllSeen each
rests_right = (refl, (refl, (refl, tt)))

-- hypotheses of both kinds, then a step, an application, an induction and an inversion: which are assumed
pub assumed_right :
    each (λ f. f.assumed)
    (check theory goals
    (bytes "(hyp 0 (Same x x)) (hyp 1 () (Child x) (x)) (step 2 c0 ()) (apply 3 2 () ()) (var z Gone) (induct 4 z (Left z) ()) (invert 5 0 () (Bad x) ())")
    ).state.facts
    ≡ true ∷ true ∷ false ∷ false ∷ false ∷ false ∷ []
unfolding running each
assumed_right = refl

-- a rule hypothesis as a whole, its premises and generalised variables as written
pub hypothesis_whole :
    (check theory goals (bytes "(var y Pass) (hyp 0 ((Child x) (Adult y) (Child x)) (Bad x) (y x))")).state.facts
    ≡ record {
      judgment = bad (var 0);
      hyps = 0 ∷ [];
      assumed = true;
      premises = more (child (var 0)) (more (adult (var 1)) (more (child (var 0)) none));
      general = 1 ∷ 0 ∷ [];
      footing = [];
    } ∷ []
unfolding running
hypothesis_whole = refl

-- The trees made ----------------------------------------------------------------------------------------------------------------------------

abbrev made : Outcome → Made
made O = O.state.made

abbrev x : Tree
x = var 0

abbrev y : Tree
y = var 1

-- the goal's x and (Child x), then what the proof makes
abbrev makes : String → String → Made → Sight Made
makes t f m = seen t f (x ∷ child x ∷ m)

-- an abbreviation's term stays
abbrev def_makes : Sight Made
def_makes = makes "" "(def ?a (renew x))" (renew x ∷ [])

-- premises before the judgment
abbrev hyp_makes : Sight Made
hyp_makes = makes "" "(hyp 0 ((Adult x) (Bad x)) (Child first) ())" (adult x ∷ bad x ∷ first ∷ child first ∷ [])

-- a conclusion is built arguments first
abbrev step_makes : Sight Made
step_makes = makes "" "(step 0 s () (?p (renew x)))" (renew x ∷ renew (renew x) ∷ same (renew x) (renew (renew x)) ∷ [])

-- an application: the bindings, the conclusion, then for each premise its instance and the reference
abbrev apply_makes : Sight Made
apply_makes =
    makes "" "(var y Pass) (hyp 0 ((Same x (renew x))) (Bad x) (x)) (step 1 s () (?p x)) (apply 2 0 ((x first)) ((1 (y (renew (renew first))) (x first))))"
    (renew x ∷ same x (renew x) ∷ bad x ∷ first ∷ bad first ∷ renew first ∷ same first (renew first) ∷ renew (renew first) ∷ [])

-- an induction: for each case the constructor, the premises there, then premises and judgment at each argument
abbrev induct_makes : Sight Made
induct_makes =
    makes "(rule q () (Child ?p))" "(var y Pass) (hyp 0 (Adult x)) (step 1 q () (?p first)) (step 2 q () (?p (renew y))) (induct 3 x (0) (Child x) ((1) (2 y)))"
    (adult x ∷ first ∷ child first ∷ y ∷ renew y ∷ child (renew y) ∷ adult first ∷ adult (renew y) ∷ adult y ∷ child y ∷ [])

-- only at arguments of the variable's own sort
abbrev own_sort_makes : Sight Made
own_sort_makes = record {
  theory = bytes "(sort N) (sort L) (ctor o () N) (ctor k (N L N) N) (pred P (N)) (rule q () (P ?a))";
  goals = bytes "(var n N) (var a N) (var l L) (var b N) (goal g (P n))";
  proof = bytes "(step 0 q () (?a o)) (step 1 q () (?a (k a l b))) (induct 2 n (P n) ((0) (1 a l b)))";
  sees =
      let k : Tree = app 1 (more (var 1) (more (var 2) (more (var 3) none))) in
      var 0 ∷ one 2 (var 0) ∷ app 0 none ∷ one 2 (app 0 none) ∷ var 1 ∷ var 2 ∷ var 3 ∷ k ∷ one 2 k ∷ one 2 (var 1) ∷ one 2 (var 3) ∷ [];
}

-- a case's variables in the order given, before the constructor over them
abbrev variables_make : Sight Made
variables_make = record {
  theory = bytes "(sort N) (sort L) (ctor o () N) (ctor k (N L N) N) (pred P (N)) (pred Q (N)) (rule q () (Q ?a))";
  goals = bytes "(var n N) (var a N) (var l L) (var b N) (goal g (P n))";
  proof = bytes "(hyp 0 (P n)) (step 1 q () (?a o)) (induct 2 n (0) (Q o) ((1) (1 b l a)))";
  sees =
      let k : Tree = app 1 (more (var 3) (more (var 2) (more (var 1) none))) in
      var 0 ∷ one 2 (var 0) ∷ app 0 none ∷ one 3 (app 0 none) ∷ one 2 (app 0 none) ∷ var 3 ∷ var 2 ∷ var 1 ∷ k ∷ one 2 k ∷ one 2 (var 3) ∷ one 2 (var 1) ∷ [];
}

-- an inversion: for each rule its variables, the conclusion, the rule's premises, then each fact of the context, premises before the judgment
abbrev invert_makes : Sight Made
invert_makes =
    makes ""
    "(var y Pass) (hyp 0 (Child x)) (hyp 1 ((Adult x)) (Bad x) ()) (step 2 s () (?p first)) (invert 3 0 (1) (Same first (renew first)) ((c0 2 ()) (c1 2 (y))))"
    (adult x ∷ bad x ∷ first ∷ renew first ∷ same first (renew first) ∷ child first ∷ adult first ∷ bad first ∷ y ∷ renew y ∷ child (renew y) ∷ child y
    ∷ adult (renew y) ∷ bad (renew y) ∷ [])

-- variables are made for each rule without a case, other ones for each, also those that the conclusion does not hold
abbrev made_makes : Sight Made
made_makes =
    makes "(rule a2 ((Same ?q ?p)) (Adult (renew ?p))) (rule a3 () (Adult (renew ?p)))" "(hyp 0 (Adult first)) (invert 1 0 () (Bad first) ())"
    (first ∷ adult first ∷ bad first ∷ renew first ∷ adult (renew first) ∷ var 1 ∷ var 2 ∷ renew (var 2) ∷ adult (renew (var 2)) ∷ var 3 ∷ renew (var 3)
    ∷ adult (renew (var 3)) ∷ [])

-- a result's reference
abbrev result_makes : Sight Made
result_makes = record {
  theory = theory;
  goals = bytes "(var x Pass) (var y Pass) (goal g (Same first (renew first)))";
  proof = bytes "(step 0 s () (?p x)) (result g (0 (x first) (y (renew (renew first)))))";
  sees = first ∷ renew first ∷ same first (renew first) ∷ x ∷ renew x ∷ same x (renew x) ∷ renew (renew first) ∷ [];
}

-- what a refused form made is gone
abbrev refused_makes : Sight Made
refused_makes = makes "" "(hyp 0 (Same (renew first) nobody))" []

pub made_right :
    AllSeen made
    (def_makes ∷ hyp_makes ∷ step_makes ∷ apply_makes ∷ induct_makes ∷ own_sort_makes ∷ variables_make ∷ invert_makes ∷ made_makes ∷ result_makes ∷ refused_makes ∷ [])
unfolding running AllSeen
made_right = (refl, (refl, (refl, (refl, (refl, (refl, (refl, (refl, (refl, (refl, (refl, tt)))))))))))

-- Variables -----------------------------------------------------------------------------------------------------------------------------------

-- the sort of each and its text, 0 for one that `invert` made
abbrev variables : Outcome → List (List ℕ)
variables O = each (λ v. v.sort ∷ v.text ∷ []) O.state.vars

-- one for each variable of the rule, of its sort
abbrev made_stay : Sight (List (List ℕ))
made_stay =
    seen "(pred Both (Pass Gone)) (rule d () (Both (renew ?p) ?z))" "(var z Gone) (hyp 0 (Both first z)) (invert 1 0 () (Bad first) ())"
    ((1 ∷ 2 ∷ []) ∷ (2 ∷ 3 ∷ []) ∷ (1 ∷ 0 ∷ []) ∷ (2 ∷ 0 ∷ []) ∷ [])

-- none where a case has given them, and none of a refused inversion
abbrev given_stay : Sight (List (List ℕ))
given_stay =
    seen "" "(var p Pass) (hyp 0 (Same first (renew first))) (hyp 1 (Bad first)) (invert 2 0 (1) (Bad first) ((s 1 (p))))"
    ((1 ∷ 2 ∷ []) ∷ (1 ∷ 3 ∷ []) ∷ [])

abbrev refused_stay : Sight (List (List ℕ))
refused_stay = seen "" "(hyp 0 (Same first (renew first))) (invert 1 0 () (Bad first) ())" ((1 ∷ 2 ∷ []) ∷ [])

pub variables_right : AllSeen variables (made_stay ∷ given_stay ∷ refused_stay ∷ [])
unfolding running AllSeen each
variables_right = (refl, (refl, (refl, tt)))

-- A refused form ------------------------------------------------------------------------------------------------------------------------------

-- leaves what stood before it, all of it
pub refused_leaves :
    (check theory goals (bytes "(def ?a first) (step 0 c0 ()) (result g (0 (x (renew ?a))))")).state
    ≡ (check theory goals (bytes "(def ?a first) (step 0 c0 ())")).state
unfolding running
refused_leaves = refl

-- 53's list -------------------------------------------------------------------------------------------------------------------------------------

abbrev listed : Outcome → List ℕ
listed O = missing_of O.answer O.state

-- three goals, of which the second gets its result
abbrev three : String → List ℕ → Sight (List ℕ)
three f l = record { theory = theory; goals = bytes "(goal f (Child first)) (goal g (Child first)) (goal h (Child first))"; proof = bytes f; sees = l }

abbrev two_missing : Sight (List ℕ)
two_missing = three "(step 0 c0 ()) (result g 0)" (1 ∷ 3 ∷ [])

-- empty after another refusal, and after an acceptance
abbrev other_refusal : Sight (List ℕ)
other_refusal = three "(step 0 c0 ()) (result g 0) (result g 0)" []

abbrev none_missing : Sight (List ℕ)
none_missing = three "(step 0 c0 ()) (result g 0) (result h 0) (result f 0)" []

pub listed_right : AllSeen listed (two_missing ∷ other_refusal ∷ none_missing ∷ [])
unfolding running AllSeen missing_of
listed_right = (refl, (refl, (refl, tt)))
