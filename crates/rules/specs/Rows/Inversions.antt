-- Rows on `invert`. `s` is the one rule of `Same`, (Same ?p (renew ?p)); the unifier of (Same y (renew y)) with it, p the case's variable, puts p
-- for y. Assumes nothing.
use Rattle.std.specs.Prelude.{refl, [], ◌∷◌}
use Rattle.rules.specs.Run.{running}
use Rattle.rules.specs.Examples.{Row, AllHold}
use Rattle.rules.specs.Rows.Row.{proved, over, stops, takes}

-- The order of the questions --------------------------------------------------------------------------------------------------------------

-- the fact, its kind, the context, the judgment, the cases
abbrev fact_atom : Row
fact_atom = proved "(invert 0 v v v v)" (stops 34 0)

abbrev fact_later : Row
fact_later = proved "(invert 0 0 v v v)" (stops 34 0)

abbrev kind_before_context : Row
kind_before_context = proved "(step 0 c0 ()) (invert 1 0 (9) v v)" (stops 40 1)

abbrev not_plain : Row
not_plain = proved "(hyp 0 () (Child x) (x)) (invert 1 0 () (Child x) ())" (stops 40 1)

abbrev context_atom : Row
context_atom = proved "(hyp 0 (Child x)) (invert 1 0 v v v)" (stops 34 1)

abbrev context_derived : Row
context_derived = proved "(step 0 c0 ()) (hyp 1 (Child x)) (invert 2 1 (0) v v)" (stops 40 2)

abbrev context_before_judgment : Row
context_before_judgment = proved "(hyp 0 (Child x)) (invert 1 0 (9) v v)" (stops 34 1)

abbrev judgment_before_cases : Row
judgment_before_cases = proved "(hyp 0 (Child x)) (invert 1 0 () v v)" (stops 22 1)

pub invert_order :
    AllHold
    (fact_atom ∷ fact_later ∷ kind_before_context ∷ not_plain ∷ context_atom ∷ context_derived ∷ context_before_judgment ∷ judgment_before_cases ∷ [])
unfolding running AllHold
invert_order = (refl, (refl, (refl, (refl, (refl, (refl, (refl, (refl, tt))))))))

-- The cases as given ----------------------------------------------------------------------------------------------------------------------

-- no list, a case that is none, of two items, of four, a name that is a list, no index
abbrev cases_atom : Row
cases_atom = proved "(hyp 0 (Child x)) (invert 1 0 () (Child x) v)" (stops 41 1)

abbrev case_atom : Row
case_atom = proved "(hyp 0 (Child x)) (invert 1 0 () (Child x) (v))" (stops 41 1)

abbrev case_two : Row
case_two = proved "(hyp 0 (Child x)) (invert 1 0 () (Child x) ((c0 0)))" (stops 41 1)

abbrev case_four : Row
case_four = proved "(hyp 0 (Child x)) (invert 1 0 () (Child x) ((c0 0 () ())))" (stops 41 1)

abbrev case_name_list : Row
case_name_list = proved "(hyp 0 (Child x)) (invert 1 0 () (Child x) (((c0) 0 v)))" (stops 41 1)

abbrev index_before_variables : Row
index_before_variables = proved "(hyp 0 (Child x)) (invert 1 0 () (Child x) ((c0 v v)))" (stops 41 1)

-- its variables: no list, unknown, given twice
abbrev variables_atom : Row
variables_atom = proved "(hyp 0 (Child x)) (invert 1 0 () (Child x) ((c0 0 v)))" (stops 42 1)

abbrev variable_unknown : Row
variable_unknown = proved "(hyp 0 (Child x)) (invert 1 0 () (Child x) ((c0 0 (v))))" (stops 42 1)

abbrev variable_twice : Row
variable_twice = proved "(hyp 0 (Child x)) (invert 1 0 () (Child x) ((v 0 (x x))))" (stops 42 1)

-- a second case of one name, known or not; it is read whole before it is refused
abbrev second_case : Row
second_case = proved "(hyp 0 (Child x)) (invert 1 0 () (Child x) ((c0 0 ()) (c0 0 ())))" (stops 41 1)

abbrev second_ignored : Row
second_ignored = proved "(hyp 0 (Child x)) (invert 1 0 () (Child x) ((v 0 ()) (v 0 ())))" (stops 41 1)

abbrev case_before_second : Row
case_before_second = proved "(hyp 0 (Child x)) (invert 1 0 () (Child x) ((c0 0 ()) (c0 0 (v))))" (stops 42 1)

-- cases of another predicate's rule, and of none, are ignored, whatever they say
abbrev ignored : Row
ignored =
    proved "(var y Pass) (hyp 0 (Child x)) (step 1 s () (?p first)) (invert 2 0 () (Same first (renew first)) ((v 9 (x)) (c1 1 (y)) (a1 9 (x)) (c0 1 ())))"
    (takes 4)

pub invert_cases :
    AllHold
    (cases_atom ∷ case_atom ∷ case_two ∷ case_four ∷ case_name_list ∷ index_before_variables ∷ variables_atom ∷ variable_unknown ∷ variable_twice
    ∷ second_case ∷ second_ignored ∷ case_before_second ∷ ignored ∷ [])
unfolding running AllHold
invert_cases = (refl, (refl, (refl, (refl, (refl, (refl, (refl, (refl, (refl, (refl, (refl, (refl, (refl, tt)))))))))))))

-- Case variables ----------------------------------------------------------------------------------------------------------------------------

-- fewer than the rule's, more, and of another sort
abbrev too_few : Row
too_few = proved "(hyp 0 (Same x x)) (invert 1 0 () (Bad first) ((s 0 ())))" (stops 42 1)

abbrev too_many : Row
too_many = proved "(var p Pass) (var q Pass) (hyp 0 (Same x x)) (invert 1 0 () (Bad first) ((s 0 (p q))))" (stops 42 3)

abbrev other_sort : Row
other_sort = proved "(var z Gone) (hyp 0 (Same x x)) (invert 1 0 () (Bad first) ((s 0 (z))))" (stops 42 2)

-- in the judgment alone, in the second fact of the context alone, there even if generalised
abbrev in_judgment : Row
in_judgment = proved "(hyp 0 (Same first (renew first))) (invert 1 0 () (Bad x) ((s 0 (x))))" (stops 42 1)

abbrev in_context : Row
in_context = proved "(hyp 0 (Same first (renew first))) (hyp 1 (Bad first)) (hyp 2 (Bad x)) (invert 3 0 (1 2) (Bad first) ((s 1 (x))))" (stops 42 3)

abbrev in_context_general : Row
in_context_general = proved "(hyp 0 (Same first (renew first))) (hyp 1 () (Bad x) (x)) (invert 2 0 (1) (Bad first) ((s 1 (x))))" (stops 42 2)

-- y in the cases of two rules
abbrev across_rules : Row
across_rules =
    over "(rule c2 ((Adult ?q)) (Child ?q))"
    "(var y Pass) (hyp 0 (Child x)) (step 1 s () (?p first)) (invert 2 0 () (Same first (renew first)) ((c0 1 ()) (c1 1 (y)) (c2 1 (y))))" (stops 42 3)

abbrev apart_in_rules : Row
apart_in_rules =
    over "(rule c2 ((Adult ?q)) (Child ?q))"
    "(var y Pass) (var u Pass) (hyp 0 (Child x)) (step 1 s () (?p first)) (invert 2 0 () (Same first (renew first)) ((c0 1 ()) (c1 1 (y)) (c2 1 (u))))"
    (takes 5)

pub invert_variables :
    AllHold
    (too_few ∷ too_many ∷ other_sort ∷ in_judgment ∷ in_context ∷ in_context_general ∷ across_rules ∷ apart_in_rules ∷ [])
unfolding running AllHold
invert_variables = (refl, (refl, (refl, (refl, (refl, (refl, (refl, (refl, tt))))))))

-- Rule by rule ------------------------------------------------------------------------------------------------------------------------------

-- the case that c0 misses before the variable that c1's may not have
abbrev first_rule_first : Row
first_rule_first = proved "(hyp 0 (Child x)) (invert 1 0 () (Child first) ((c1 0 (x))))" (stops 47 1)

-- a captured variable before the case's fact is looked up, and that before its judgment is compared
abbrev capture_before_fact : Row
capture_before_fact =
    proved "(var y Pass) (step 0 c0 ()) (hyp 1 (Child x)) (hyp 2 () (Bad x) (y)) (invert 3 1 (2) (Child first) ((c0 0 ()) (c1 9 (y))))" (stops 48 4)

-- captured in the second value, or as the second generalised variable
abbrev capture_in_second : Row
capture_in_second =
    over "(pred R (Pass Pass)) (rule r () (R first (renew ?p)))"
    "(var y Pass) (var u Pass) (hyp 0 (R x u)) (hyp 1 () (Bad u) (y)) (invert 2 0 (1) (Child first) ((r 9 (y))))" (stops 48 4)

abbrev capture_of_second : Row
capture_of_second =
    proved "(var y Pass) (var u Pass) (step 0 c0 ()) (hyp 1 (Child x)) (hyp 2 () (Bad x) (u y)) (invert 3 1 (2) (Child first) ((c0 0 ()) (c1 9 (y))))"
    (stops 48 5)

abbrev case_later : Row
case_later = proved "(hyp 0 (Child x)) (invert 1 0 () (Child first) ((c0 9 ())))" (stops 34 1)

abbrev judgment_before_hypotheses : Row
judgment_before_hypotheses = proved "(hyp 0 (Child x)) (hyp 1 (Bad x)) (invert 2 0 () (Child first) ((c0 1 ())))" (stops 43 2)

pub invert_rules_lem :
    AllHold
    (first_rule_first ∷ capture_before_fact ∷ capture_in_second ∷ capture_of_second ∷ case_later ∷ judgment_before_hypotheses ∷ [])
unfolding running AllHold
invert_rules_lem = (refl, (refl, (refl, (refl, (refl, (refl, tt))))))

-- What a case may rest on ---------------------------------------------------------------------------------------------------------------------

-- the rule's premise under the unifier: for (Child (renew first)) it is (Child first), whatever the case's variable; c0 cannot conclude it
abbrev premise_unified : Row
premise_unified = proved "(var y Pass) (hyp 0 (Child (renew first))) (hyp 1 (Child first)) (invert 2 0 () (Child first) ((c1 1 (y))))" (takes 4)

-- both premises of a rule
abbrev both_premises : Row
both_premises =
    over "(rule b ((Child ?p) (Adult ?p)) (Bad ?p))"
    "(var p Pass) (hyp 0 (Bad x)) (hyp 1 (Child p)) (hyp 2 (Adult p)) (step 3 b (1 2)) (invert 4 0 () (Bad x) ((b 3 (p))))" (takes 6)

-- the context under the unifier, a fact's premises and judgment: (Adult y), (Bad y) are (Adult p), (Bad p)
abbrev context_unified : Row
context_unified =
    proved "(var y Pass) (var p Pass) (hyp 0 (Same y (renew y))) (hyp 1 ((Adult y)) (Bad y) ()) (hyp 2 ((Adult p)) (Bad p) ()) (invert 3 0 (1) (Bad y) ((s 2 (p))))"
    (takes 6)

abbrev context_other_premise : Row
context_other_premise =
    proved "(var y Pass) (var p Pass) (hyp 0 (Same y (renew y))) (hyp 1 ((Adult y)) (Bad y) ()) (hyp 2 ((Child p)) (Bad p) ()) (invert 3 0 (1) (Bad y) ((s 2 (p))))"
    (stops 44 5)

-- the same premises in another order
abbrev context_premises_turned : Row
context_premises_turned =
    proved
    "(var y Pass) (var p Pass) (hyp 0 (Same y (renew y))) (hyp 1 ((Adult y) (Child y)) (Bad y) ()) (hyp 2 ((Child p) (Adult p)) (Bad p) ()) (invert 3 0 (1) (Bad y) ((s 2 (p))))"
    (stops 44 5)

abbrev context_other_judgment : Row
context_other_judgment =
    proved "(var y Pass) (var p Pass) (hyp 0 (Same y (renew y))) (hyp 1 (Adult y)) (hyp 2 (Bad p)) (invert 3 0 (1) (Bad y) ((s 2 (p))))" (stops 44 5)

-- the second fact of the context; and two hypotheses, of which the context has one
abbrev context_second : Row
context_second =
    proved "(var y Pass) (var p Pass) (hyp 0 (Same y (renew y))) (hyp 1 (Adult y)) (hyp 2 (Bad y)) (hyp 3 (Bad p)) (invert 4 0 (1 2) (Bad y) ((s 3 (p))))"
    (takes 7)

abbrev context_of_one : Row
context_of_one =
    over "(rule b ((Child ?p) (Adult ?p)) (Bad ?p))"
    "(var y Pass) (var p Pass) (hyp 0 (Same y (renew y))) (hyp 1 (Child y)) (hyp 2 (Child p)) (hyp 3 (Adult p)) (step 4 b (2 3)) (invert 5 0 (1) (Bad y) ((s 4 (p))))"
    (stops 44 7)

-- generalised variables as a list: another one, and the same two in another order
abbrev context_general : Row
context_general =
    proved "(var y Pass) (var p Pass) (hyp 0 (Same y (renew y))) (hyp 1 (Bad y)) (hyp 2 () (Bad p) (x)) (invert 3 0 (1) (Bad y) ((s 2 (p))))" (stops 44 5)

abbrev context_turned : Row
context_turned =
    proved "(var y Pass) (var p Pass) (var u Pass) (hyp 0 (Same y (renew y))) (hyp 1 () (Bad y) (x u)) (hyp 2 () (Bad p) (u x)) (invert 3 0 (1) (Bad y) ((s 2 (p))))"
    (stops 44 6)

abbrev context_in_order : Row
context_in_order =
    proved "(var y Pass) (var p Pass) (var u Pass) (hyp 0 (Same y (renew y))) (hyp 1 () (Bad y) (x u)) (hyp 2 () (Bad p) (x u)) (invert 3 0 (1) (Bad y) ((s 2 (p))))"
    (takes 7)

-- a generalised variable is left alone: y stays where the context generalises it, and its own value, p, captures nothing
abbrev generalised_left : Row
generalised_left =
    proved "(var y Pass) (var p Pass) (hyp 0 (Same y (renew y))) (hyp 1 () (Bad y) (y p)) (apply 2 1 ((y first)) ()) (invert 3 0 (1) (Bad first) ((s 2 (p))))"
    (takes 6)

-- and so are both of two
abbrev both_left : Row
both_left =
    over "(pred R (Pass Pass)) (rule r () (R ?p ?q))"
    "(var y Pass) (var u Pass) (var p Pass) (var q Pass) (hyp 0 (R y u)) (hyp 1 () (Same y u) (y u)) (apply 2 1 ((y first) (u first)) ()) (invert 3 0 (1) (Same first first) ((r 2 (p q))))"
    (takes 8)

pub invert_rests :
    AllHold
    (premise_unified ∷ both_premises ∷ context_unified ∷ context_other_premise ∷ context_premises_turned ∷ context_other_judgment ∷ context_second
    ∷ context_of_one ∷ context_general ∷ context_turned ∷ context_in_order ∷ generalised_left ∷ both_left ∷ [])
unfolding running AllHold
invert_rests = (refl, (refl, (refl, (refl, (refl, (refl, (refl, (refl, (refl, (refl, (refl, (refl, (refl, tt)))))))))))))
