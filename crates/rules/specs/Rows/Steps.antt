-- Rows on `step`. Assumes nothing.
use Rattle.std.specs.Prelude.{refl, [], ◌∷◌, ◌++◌}
use Rattle.rules.specs.Text.{bytes}
use Rattle.rules.specs.Run.{running}
use Rattle.rules.specs.Examples.{Row, AllHold, theory}
use Rattle.rules.specs.Rows.Row.{proved, over, stops, takes}

-- The rule and the references -----------------------------------------------------------------------------------------------------------

abbrev rule_unknown : Row
rule_unknown = proved "(step 0 v v)" (stops 33 0)

abbrev rule_list : Row
rule_list = proved "(step 0 (c0) ())" (stops 33 0)

abbrev references_atom : Row
references_atom = proved "(step 0 c0 v)" (stops 37 0)

-- their number is asked before one is read, and all are read before the items
abbrev number_before_references : Row
number_before_references = proved "(step 0 c1 (8 9))" (stops 37 0)

abbrev references_before_items : Row
references_before_items = proved "(step 0 c1 (9) v)" (stops 34 0)

-- the first reference before the second
abbrev first_reference_first : Row
first_reference_first = over "(rule b ((Child ?p) (Adult ?p)) (Bad ?p))" "(hyp 0 (Child x)) (step 1 b ((0) 9))" (stops 35 1)

-- the premises in the rule's order
abbrev premises_in_order : Row
premises_in_order = over "(rule b ((Child ?p) (Adult ?p)) (Bad ?p))" "(hyp 0 (Child x)) (hyp 1 (Adult x)) (step 2 b (0 1))" (takes 3)

abbrev premises_turned : Row
premises_turned = over "(rule b ((Child ?p) (Adult ?p)) (Bad ?p))" "(hyp 0 (Child x)) (hyp 1 (Adult x)) (step 2 b (1 0))" (stops 38 2)

-- one rule variable in two premises
abbrev premises_apart : Row
premises_apart = over "(rule b ((Child ?p) (Adult ?p)) (Bad ?p))" "(hyp 0 (Child x)) (hyp 1 (Adult first)) (step 2 b (0 1))" (stops 38 2)

-- three bracketed references are three instances
abbrev three_instances : Row
three_instances = record {
  theory = theory ++ bytes "(rule b ((Child ?p) (Adult ?p)) (Bad ?p))";
  goals = bytes "(goal g (Bad (renew first)))";
  proof = bytes "(step 0 c0 ()) (step 1 c1 ((0))) (step 2 a1 ()) (step 3 b ((1) (2))) (result g 3)";
  says = 1 ∷ 4 ∷ 1 ∷ 0 ∷ 0 ∷ 0 ∷ 0 ∷ 3 ∷ [];
}

pub step_references :
    AllHold
    (rule_unknown ∷ rule_list ∷ references_atom ∷ number_before_references ∷ references_before_items ∷ first_reference_first ∷ premises_in_order
    ∷ premises_turned ∷ premises_apart ∷ three_instances ∷ [])
unfolding running AllHold
step_references = (refl, (refl, (refl, (refl, (refl, (refl, (refl, (refl, (refl, (refl, tt))))))))))

-- The items ---------------------------------------------------------------------------------------------------------------------------

-- an atom, nothing in the brackets, a list as head
abbrev item_atom : Row
item_atom = proved "(step 0 c0 () v)" (stops 22 0)

abbrev item_empty : Row
item_empty = proved "(step 0 c0 () ())" (stops 22 0)

abbrev item_head_list : Row
item_head_list = proved "(step 0 c0 () ((Child) first))" (stops 22 0)

-- what is no pair is a conclusion, a marked name or not
abbrev marked_alone : Row
marked_alone = proved "(step 0 s () (?q))" (stops 22 0)

abbrev marked_three : Row
marked_three = proved "(step 0 s () (?q x x))" (stops 22 0)

-- a variable that the rule does not have is asked before the term, a term's names before whether the variable was given
abbrev rule_variable_before_term : Row
rule_variable_before_term = proved "(step 0 s () (?q nobody))" (stops 36 0)

abbrev item_term_before_twice : Row
item_term_before_twice = proved "(step 0 s () (?p x) (?p nobody))" (stops 22 0)

abbrev item_twice : Row
item_twice = proved "(step 0 s () (?p x) (?p x))" (stops 36 0)

-- each variable of a rule has its own sort
abbrev item_sort : Row
item_sort = proved "(var z Gone) (step 0 s () (?p z))" (stops 23 1)

abbrev item_second_sort : Row
item_second_sort = over "(pred Both (Pass Gone)) (rule d () (Both ?p ?z))" "(var z Gone) (step 0 d () (?z z) (?p x))" (takes 2)

-- the first item before the second
abbrev first_item_first : Row
first_item_first = proved "(step 0 s () (?q x) v)" (stops 36 0)

-- a second conclusion is read before it is refused
abbrev second_conclusion : Row
second_conclusion = proved "(step 0 c0 () (Child first) (Child first))" (stops 37 0)

abbrev conclusion_before_second : Row
conclusion_before_second = proved "(step 0 c0 () (Child first) (Child nobody))" (stops 22 0)

pub step_items :
    AllHold
    (item_atom ∷ item_empty ∷ item_head_list ∷ marked_alone ∷ marked_three ∷ rule_variable_before_term ∷ item_term_before_twice ∷ item_twice
    ∷ item_sort ∷ item_second_sort ∷ first_item_first ∷ second_conclusion ∷ conclusion_before_second ∷ [])
unfolding running AllHold
step_items = (refl, (refl, (refl, (refl, (refl, (refl, (refl, (refl, (refl, (refl, (refl, (refl, (refl, tt)))))))))))))

-- Matching ----------------------------------------------------------------------------------------------------------------------------

abbrev other_conclusion : Row
other_conclusion = proved "(step 0 c0 () (Child x))" (stops 38 0)

-- one rule variable at two places of the conclusion
abbrev conclusion_apart : Row
conclusion_apart = proved "(step 0 s () (Same x (renew first)))" (stops 38 0)

-- a binding and a conclusion that do not agree, whichever comes first
abbrev binding_then_conclusion : Row
binding_then_conclusion = proved "(step 0 s () (?p x) (Same first (renew first)))" (stops 38 0)

abbrev conclusion_then_binding : Row
conclusion_then_binding = proved "(step 0 s () (Same first (renew first)) (?p x))" (stops 38 0)

-- a binding alone gives the conclusion
abbrev binding_alone : Row
binding_alone = proved "(step 0 s () (?p x))" (takes 1)

-- the items are read before anything is matched
abbrev items_before_matching : Row
items_before_matching = proved "(step 0 a1 ()) (step 1 c1 (0) v)" (stops 22 1)

-- a step is no hypothesis
abbrev not_assumed : Row
not_assumed = proved "(step 0 c0 ()) (invert 1 0 () (Child x) ())" (stops 40 1)

pub step_matches :
    AllHold
    (other_conclusion ∷ conclusion_apart ∷ binding_then_conclusion ∷ conclusion_then_binding ∷ binding_alone ∷ items_before_matching
    ∷ not_assumed ∷ [])
unfolding running AllHold
step_matches = (refl, (refl, (refl, (refl, (refl, (refl, (refl, tt)))))))
