-- Rows on references: bindings, instances, lists of hypotheses, and question 39. Assumes nothing.
use Rattle.std.specs.Prelude.{refl, [], ◌∷◌, ◌++◌}
use Rattle.rules.specs.Text.{bytes}
use Rattle.rules.specs.Run.{running}
use Rattle.rules.specs.Examples.{Row, AllHold, theory}
use Rattle.rules.specs.Rows.Row.{proved, over, stops, outside, takes}

-- Bindings ----------------------------------------------------------------------------------------------------------------------------

-- an atom, one item, three items
abbrev binding_atom : Row
binding_atom = proved "(step 0 c0 ()) (step 1 c1 ((0 x)))" (stops 36 1)

abbrev binding_one : Row
binding_one = proved "(step 0 c0 ()) (step 1 c1 ((0 (x))))" (stops 36 1)

abbrev binding_three : Row
binding_three = proved "(step 0 c0 ()) (step 1 c1 ((0 (x first first))))" (stops 36 1)

-- an unknown variable is asked before the term, a term's names before whether the variable was given
abbrev variable_before_term : Row
variable_before_term = proved "(step 0 c0 ()) (step 1 c1 ((0 (v nobody))))" (stops 36 1)

abbrev term_before_twice : Row
term_before_twice = proved "(step 0 c0 ()) (step 1 c1 ((0 (x first) (x nobody))))" (stops 22 1)

abbrev given_twice : Row
given_twice = proved "(step 0 c0 ()) (step 1 c1 ((0 (x first) (x first))))" (stops 36 1)

-- a term of another sort
abbrev other_sort : Row
other_sort = proved "(var z Gone) (step 0 c0 ()) (step 1 c1 ((0 (x z))))" (stops 23 2)

pub bindings :
    AllHold
    (binding_atom ∷ binding_one ∷ binding_three ∷ variable_before_term ∷ term_before_twice ∷ given_twice ∷ other_sort ∷ [])
unfolding running AllHold
bindings = (refl, (refl, (refl, (refl, (refl, (refl, (refl, tt)))))))

-- Instances ---------------------------------------------------------------------------------------------------------------------------

-- no fact: nothing in the brackets, a list, the form's own index
abbrev empty_reference : Row
empty_reference = proved "(step 0 c1 (()))" (stops 34 0)

abbrev list_reference : Row
list_reference = proved "(step 0 c0 ()) (step 1 c1 (((0))))" (stops 34 1)

abbrev own_reference : Row
own_reference = proved "(step 0 c1 (0))" (stops 34 0)

-- a fact with hypotheses is refused before the bindings are read
abbrev hypotheses_before_bindings : Row
hypotheses_before_bindings = proved "(hyp 0 (Child x)) (step 1 c1 ((0 (v nobody))))" (stops 35 1)

-- (Same x (renew x)) at first is the goal; a bracketed reference of a `result` is no instance of the report
abbrev instance_is_result : Row
instance_is_result = record {
  theory = theory;
  goals = bytes "(var x Pass) (goal g (Same first (renew first)))";
  proof = bytes "(step 0 s () (?p x)) (result g (0 (x first)))";
  says = 1 ∷ 1 ∷ 1 ∷ 0 ∷ 0 ∷ 0 ∷ 0 ∷ 0 ∷ [];
}

-- each variable has its own value
abbrev instance_of_two : Row
instance_of_two = record {
  theory = theory ++ bytes "(rule t () (Same ?p ?q))";
  goals = bytes "(var x Pass) (var y Pass) (goal g (Same first (renew first)))";
  proof = bytes "(step 0 t () (Same x y)) (result g (0 (y (renew first)) (x first)))";
  says = 1 ∷ 1 ∷ 1 ∷ 0 ∷ 0 ∷ 0 ∷ 0 ∷ 0 ∷ [];
}

pub instances :
    AllHold
    (empty_reference ∷ list_reference ∷ own_reference ∷ hypotheses_before_bindings ∷ instance_is_result ∷ instance_of_two ∷ [])
unfolding running AllHold
instances = (refl, (refl, (refl, (refl, (refl, (refl, tt))))))

-- Lists of hypotheses -----------------------------------------------------------------------------------------------------------------

abbrev hypotheses_atom : Row
hypotheses_atom = proved "(induct 0 x v (Child x) ())" (stops 34 0)

abbrev hypothesis_atom : Row
hypothesis_atom = proved "(induct 0 x (v) (Child x) ())" (stops 34 0)

-- each is asked both questions before the next is read
abbrev kind_before_next : Row
kind_before_next = proved "(step 0 c0 ()) (induct 1 x (0 9) (Child x) ())" (stops 40 1)

abbrev later_hypothesis : Row
later_hypothesis = proved "(induct 0 x (0) (Child x) ())" (stops 34 0)

pub hypotheses :
    AllHold
    (hypotheses_atom ∷ hypothesis_atom ∷ kind_before_next ∷ later_hypothesis ∷ [])
unfolding running AllHold
hypotheses = (refl, (refl, (refl, (refl, tt))))

-- Question 39 -------------------------------------------------------------------------------------------------------------------------

-- y, variable 2, is in the premise (Same x y) alone
abbrev premise_alone : Row
premise_alone = over "(rule t () (Same ?p ?q)) (rule w ((Same ?p ?q)) (Child ?p))" "(var y Pass) (step 0 t () (Same x y)) (step 1 w (0))" (outside 2 2)

-- neither variable of the premise (Same y x) is in the conclusion: the lower one is named
abbrev lowest_named : Row
lowest_named = over "(rule t () (Same ?p ?q)) (rule w ((Same ?p ?q)) (Child first))" "(var y Pass) (step 0 t () (Same y x)) (step 1 w (0))" (outside 1 2)

-- x is not in the conclusion, but free in the hypothesis
abbrev free_in_hypothesis : Row
free_in_hypothesis = over "(rule w ((Child ?p)) (Bad first))" "(hyp 0 (Child x)) (step 1 w (0))" (takes 2)

-- the hypothesis generalises x, so it is not free there
abbrev not_free_in_hypothesis : Row
not_free_in_hypothesis = over "(rule w ((Child ?p)) (Bad first))" "(hyp 0 () (Child x) (x)) (step 1 w (0))" (outside 1 1)

pub scopes :
    AllHold
    (premise_alone ∷ lowest_named ∷ free_in_hypothesis ∷ not_free_in_hypothesis ∷ [])
unfolding running AllHold
scopes = (refl, (refl, (refl, (refl, tt))))
