-- Rows on `induct`. Assumes nothing.
use Rattle.std.specs.Prelude.{ℕ, refl, List, [], ◌∷◌}
use Prim.Native.String.{String}
use Rattle.rules.specs.Text.{bytes}
use Rattle.rules.specs.Run.{running}
use Rattle.rules.specs.Examples.{Row, AllHold}
use Rattle.rules.specs.Rows.Row.{proved, over, stops, takes}

-- The order of the questions --------------------------------------------------------------------------------------------------------------

-- the variable, the hypotheses, the judgment, the cases and their number, and whether the motive holds the variable
abbrev variable_unknown : Row
variable_unknown = proved "(induct 0 v v v)" (stops 36 0)

abbrev variable_before_hypotheses : Row
variable_before_hypotheses = proved "(induct 0 v (9) v v)" (stops 36 0)

abbrev hypotheses_before_judgment : Row
hypotheses_before_judgment = proved "(induct 0 x (9) v v)" (stops 34 0)

-- only plain hypotheses may be listed
abbrev listed_rule : Row
listed_rule = proved "(hyp 0 () (Adult x) (x)) (induct 1 x (0) (Child x) ())" (stops 40 1)

abbrev judgment_before_cases : Row
judgment_before_cases = proved "(induct 0 x v v)" (stops 22 0)

abbrev cases_atom : Row
cases_atom = proved "(induct 0 x (Child x) v)" (stops 41 0)

abbrev number_before_motive : Row
number_before_motive = proved "(induct 0 x (Child first) ())" (stops 41 0)

-- fewer cases than constructors, and more
abbrev too_few : Row
too_few = proved "(step 0 c0 ()) (induct 1 x (Child x) ((0)))" (stops 41 1)

abbrev too_many : Row
too_many = proved "(step 0 c0 ()) (induct 1 x (Child x) ((0) (0 x) (0)))" (stops 41 1)

-- the first case before the second is read
abbrev first_case_first : Row
first_case_first = proved "(induct 0 x (Child x) ((9) v))" (stops 34 0)

pub induct_order :
    AllHold
    (variable_unknown ∷ variable_before_hypotheses ∷ hypotheses_before_judgment ∷ listed_rule ∷ judgment_before_cases ∷ cases_atom
    ∷ number_before_motive ∷ too_few ∷ too_many ∷ first_case_first ∷ [])
unfolding running AllHold
induct_order = (refl, (refl, (refl, (refl, (refl, (refl, (refl, (refl, (refl, (refl, tt))))))))))

-- The cases -------------------------------------------------------------------------------------------------------------------------------

-- an atom, nothing in the brackets, no index
abbrev case_atom : Row
case_atom = proved "(step 0 c0 ()) (induct 1 x (Child x) ((0) v))" (stops 41 1)

abbrev case_empty : Row
case_empty = proved "(induct 0 x (Child x) (() ()))" (stops 41 0)

abbrev case_no_index : Row
case_no_index = proved "(induct 0 x (Child x) ((v) (v)))" (stops 41 0)

-- the case's variables before its fact is looked up, its judgment before what it rests on
abbrev variables_before_fact : Row
variables_before_fact = proved "(step 0 c0 ()) (induct 1 x (Child x) ((0) (9 x)))" (stops 42 1)

abbrev case_unknown : Row
case_unknown = proved "(step 0 c0 ()) (induct 1 x (Child x) ((0) (0 v)))" (stops 42 1)

abbrev judgment_before_hypotheses : Row
judgment_before_hypotheses = proved "(hyp 0 (Bad x)) (induct 1 x (Child x) ((0) (0 x)))" (stops 43 1)

-- y is in a premise of the motive
abbrev variable_in_premise : Row
variable_in_premise = proved "(var y Pass) (hyp 0 (Adult y)) (step 1 c0 ()) (induct 2 x (0) (Child x) ((1) (1 y)))" (stops 42 3)

pub induct_cases_lem :
    AllHold
    (case_atom ∷ case_empty ∷ case_no_index ∷ variables_before_fact ∷ case_unknown ∷ judgment_before_hypotheses ∷ variable_in_premise ∷ [])
unfolding running AllHold
induct_cases_lem = (refl, (refl, (refl, (refl, (refl, (refl, (refl, tt)))))))

-- Constructors of three arguments ---------------------------------------------------------------------------------------------------------

-- k has two arguments of its own sort and one of another
abbrev forked : String → List ℕ → Row
forked f l = record {
  theory = bytes "(sort N) (sort L) (ctor o () N) (ctor k (N L N) N) (pred P (N)) (rule po () (P o)) (rule pk ((P ?a) (P ?b)) (P (k ?a ?l ?b)))";
  goals = bytes "(var n N) (var a N) (var l L) (var b N) (goal g (P n))";
  proof = bytes f;
  says = l;
}

-- an induction hypothesis for each argument of the sort, the arguments in the order given
abbrev both_hypotheses : Row
both_hypotheses =
    forked "(step 0 po ()) (hyp 1 (P a)) (hyp 2 (P b)) (step 3 pk (1 2) (P (k a l b))) (induct 4 n (P n) ((0) (3 a l b))) (result g 4)"
    (1 ∷ 5 ∷ 1 ∷ 1 ∷ 2 ∷ 1 ∷ 0 ∷ 0 ∷ [])

-- a case variable given twice, and one of another sort
abbrev case_twice : Row
case_twice = forked "(step 0 po ()) (hyp 1 (P a)) (step 2 pk (1 1) (P (k a l a))) (induct 3 n (P n) ((0) (2 a l a)))" (stops 42 3)

abbrev case_sort : Row
case_sort = forked "(step 0 po ()) (induct 1 n (P n) ((0) (0 a b l)))" (stops 42 1)

pub induct_arguments :
    AllHold
    (both_hypotheses ∷ case_twice ∷ case_sort ∷ [])
unfolding running AllHold
induct_arguments = (refl, (refl, (refl, tt)))

-- What a case may rest on -----------------------------------------------------------------------------------------------------------------

-- where the motive has a premise, the induction hypothesis has it too: the plain judgment is none, nor is one with another premise
abbrev plain_for_rule : Row
plain_for_rule =
    proved "(var y Pass) (hyp 0 (Adult x)) (step 1 c0 ()) (hyp 2 (Child y)) (step 3 c1 (2)) (induct 4 x (0) (Child x) ((1) (3 y)))" (stops 44 5)

abbrev rule_for_rule : Row
rule_for_rule =
    proved "(var y Pass) (hyp 0 (Adult x)) (step 1 c0 ()) (hyp 2 ((Adult y)) (Child y) ()) (step 3 c1 (2)) (induct 4 x (0) (Child x) ((1) (3 y)))"
    (takes 6)

abbrev other_premise : Row
other_premise =
    proved "(var y Pass) (hyp 0 (Adult x)) (step 1 c0 ()) (hyp 2 ((Bad y)) (Child y) ()) (step 3 c1 (2)) (induct 4 x (0) (Child x) ((1) (3 y)))"
    (stops 44 5)

-- two premises, by rising number however they are listed; a hypothesis that has them the other way round is none
abbrev rising_premises : Row
rising_premises =
    proved
    "(var y Pass) (hyp 0 (Adult x)) (hyp 1 (Bad x)) (step 2 c0 ()) (hyp 3 ((Adult y) (Bad y)) (Child y) ()) (step 4 c1 (3)) (induct 5 x (1 0) (Child x) ((2) (4 y)))"
    (takes 7)

abbrev turned_premises : Row
turned_premises =
    proved
    "(var y Pass) (hyp 0 (Adult x)) (hyp 1 (Bad x)) (step 2 c0 ()) (hyp 3 ((Bad y) (Adult y)) (Child y) ()) (step 4 c1 (3)) (induct 5 x (1 0) (Child x) ((2) (4 y)))"
    (stops 44 6)

-- the right premise, and another judgment
abbrev other_judgment : Row
other_judgment =
    over "(rule w ((Bad ?p)) (Child (renew ?p)))"
    "(var y Pass) (hyp 0 (Adult x)) (step 1 c0 ()) (hyp 2 ((Adult y)) (Bad y) ()) (step 3 w (2)) (induct 4 x (0) (Child x) ((1) (3 y)))" (stops 44 5)

-- a premise of the motive counts at the constructor, not as it stands
abbrev premise_as_it_stands : Row
premise_as_it_stands =
    over "(rule w ((Adult ?p)) (Child first))" "(var y Pass) (hyp 0 (Adult x)) (step 1 w (0)) (induct 2 x (0) (Child x) ((1) (1 y)))" (stops 44 3)

-- two hypotheses, of which the second is none of the induction's
abbrev second_hypothesis : Row
second_hypothesis =
    over "(rule b ((Child ?p) (Adult ?p)) (Child (renew ?p)))"
    "(var y Pass) (step 0 c0 ()) (hyp 1 (Child y)) (hyp 2 (Adult y)) (step 3 b (1 2)) (induct 4 x (Child x) ((0) (3 y)))" (stops 44 5)

-- an induction hypothesis may generalise u where the motive holds u
abbrev generalised : Row
generalised =
    over "(pred R (Pass Pass)) (rule r0 () (R first ?q)) (rule r1 ((R ?p (renew ?q))) (R (renew ?p) ?q))"
    "(var y Pass) (var u Pass) (step 0 r0 () (R first u)) (hyp 1 () (R y u) (u)) (apply 2 1 ((u (renew u))) ()) (step 3 r1 (2)) (induct 4 x (R x u) ((0) (3 y)))"
    (takes 7)

abbrev generalised_other : Row
generalised_other =
    proved "(var y Pass) (var u Pass) (step 0 c0 ()) (hyp 1 () (Child y) (u)) (step 2 c1 (1)) (induct 3 x (Child x) ((0) (2 y)))" (stops 44 5)

pub induct_rests :
    AllHold
    (plain_for_rule ∷ rule_for_rule ∷ other_premise ∷ rising_premises ∷ turned_premises ∷ other_judgment ∷ premise_as_it_stands ∷ second_hypothesis
    ∷ generalised ∷ generalised_other ∷ [])
unfolding running AllHold
induct_rests = (refl, (refl, (refl, (refl, (refl, (refl, (refl, (refl, (refl, (refl, tt))))))))))
