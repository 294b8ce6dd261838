-- Rows on `apply`. Assumes nothing.
use Rattle.std.specs.Prelude.{refl, [], ◌∷◌}
use Rattle.rules.specs.Text.{bytes}
use Rattle.rules.specs.Run.{running}
use Rattle.rules.specs.Examples.{Row, AllHold, theory}
use Rattle.rules.specs.Rows.Row.{proved, over, stops, outside, takes}

-- The fact and the bindings -------------------------------------------------------------------------------------------------------------

-- the index is read first, then the bindings, and only then the fact is looked up
abbrev index_before_bindings : Row
index_before_bindings = proved "(apply 0 v v v)" (stops 34 0)

abbrev bindings_before_fact : Row
bindings_before_fact = proved "(apply 0 9 ((x nobody)) ())" (stops 22 0)

abbrev bindings_atom : Row
bindings_atom = proved "(apply 0 9 v ())" (stops 36 0)

abbrev later_fact : Row
later_fact = proved "(apply 0 9 () v)" (stops 34 0)

-- the second of two bindings is of a variable that the hypothesis does not generalise
abbrev second_not_general : Row
second_not_general = proved "(var y Pass) (hyp 0 () (Child x) (x)) (apply 1 0 ((x first) (y first)) v)" (stops 36 2)

-- the fact rests on a plain hypothesis and on one that generalises
abbrev not_all_plain : Row
not_all_plain = over "(rule b ((Child ?p) (Adult ?p)) (Bad ?p))" "(hyp 0 (Child x)) (hyp 1 () (Adult x) (x)) (step 2 b (0 1)) (apply 3 2 () v)" (stops 40 3)

pub apply_facts :
    AllHold
    (index_before_bindings ∷ bindings_before_fact ∷ bindings_atom ∷ later_fact ∷ second_not_general ∷ not_all_plain ∷ [])
unfolding running AllHold
apply_facts = (refl, (refl, (refl, (refl, (refl, (refl, tt))))))

-- The references --------------------------------------------------------------------------------------------------------------------------

abbrev apply_atom : Row
apply_atom = proved "(step 0 c0 ()) (apply 1 0 () v)" (stops 37 1)

-- fewer than premises, more, and more that are none
abbrev too_few : Row
too_few = proved "(hyp 0 (Child x)) (step 1 c1 (0)) (apply 2 1 () ())" (stops 37 2)

abbrev too_many : Row
too_many = proved "(hyp 0 (Child x)) (step 1 c1 (0)) (apply 2 1 () (0 0))" (stops 37 2)

abbrev number_first : Row
number_first = proved "(hyp 0 (Child x)) (step 1 c1 (0)) (apply 2 1 () (8 9))" (stops 37 2)

-- an assumed rule: its premise at the bindings is the reference
abbrev assumed_rule : Row
assumed_rule = proved "(hyp 0 ((Child x)) (Bad x) (x)) (step 1 c0 ()) (apply 2 0 ((x first)) (1))" (takes 3)

abbrev assumed_rule_other : Row
assumed_rule_other = proved "(hyp 0 ((Child x)) (Bad x) (x)) (step 1 c0 ()) (apply 2 0 ((x (renew first))) (1))" (stops 38 2)

-- a derived fact: its hypotheses are the premises, by rising index, though the step names the second one first
abbrev rising_premises : Row
rising_premises = over "(rule b ((Child ?p) (Adult ?p)) (Bad ?p))" "(hyp 0 (Adult x)) (hyp 1 (Child x)) (step 2 b (1 0)) (apply 3 2 () (0 1))" (takes 4)

-- the first reference for both premises
abbrev first_for_both : Row
first_for_both = over "(rule b ((Child ?p) (Adult ?p)) (Bad ?p))" "(hyp 0 (Adult x)) (hyp 1 (Child x)) (step 2 b (1 0)) (apply 3 2 () (0 0))" (stops 38 3)

-- each premise is compared before the next reference is read
abbrev premise_before_next : Row
premise_before_next = over "(rule b ((Child ?p) (Adult ?p)) (Bad ?p))" "(hyp 0 (Adult x)) (hyp 1 (Child x)) (step 2 b (1 0)) (apply 3 2 () (1 9))" (stops 38 3)

-- (Child x) at first gives (Child (renew first)), which rests on no hypothesis; the bracketed reference is no instance of the report
abbrev discharged : Row
discharged = record {
  theory = theory;
  goals = bytes "(var x Pass) (goal g (Child (renew first)))";
  proof = bytes "(hyp 0 (Child x)) (step 1 c1 (0)) (step 2 c0 ()) (apply 3 1 ((x first)) ((2))) (result g 3)";
  says = 1 ∷ 4 ∷ 1 ∷ 0 ∷ 1 ∷ 0 ∷ 0 ∷ 0 ∷ [];
}

pub apply_references :
    AllHold
    (apply_atom ∷ too_few ∷ too_many ∷ number_first ∷ assumed_rule ∷ assumed_rule_other ∷ rising_premises ∷ first_for_both ∷ premise_before_next
    ∷ discharged ∷ [])
unfolding running AllHold
apply_references = (refl, (refl, (refl, (refl, (refl, (refl, (refl, (refl, (refl, (refl, tt))))))))))

-- Question 39 -------------------------------------------------------------------------------------------------------------------------------

-- x is in the premise alone, and generalised
abbrev premise_outside : Row
premise_outside = proved "(hyp 0 ((Same x (renew x))) (Bad first) (x)) (step 1 s () (?p x)) (apply 2 0 () (1))" (outside 1 2)

-- not generalised it is free in the hypothesis that is applied
abbrev premise_free : Row
premise_free = proved "(hyp 0 ((Same x (renew x))) (Bad first) ()) (step 1 s () (?p x)) (apply 2 0 () (1))" (takes 3)

-- y is in the value of the second binding alone
abbrev second_value_outside : Row
second_value_outside = proved "(var y Pass) (hyp 0 () (Child x) (x y)) (apply 1 0 ((x x) (y y)) ())" (outside 2 2)

-- y is in a premise alone, x in a value alone: the lower one is named
abbrev lowest_of_both : Row
lowest_of_both = proved "(var y Pass) (hyp 0 ((Same y (renew y))) (Bad first) (x y)) (step 1 s () (?p y)) (apply 2 0 ((x x)) (1))" (outside 1 3)

pub apply_scopes :
    AllHold
    (premise_outside ∷ premise_free ∷ second_value_outside ∷ lowest_of_both ∷ [])
unfolding running AllHold
apply_scopes = (refl, (refl, (refl, (refl, tt))))
