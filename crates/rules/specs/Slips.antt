-- The slips that a checker of such proofs is prone to, those that 01 names among them: for each a proof, or a theory, that the slip would take
-- and that 01 refuses, and a unification that it would do otherwise. Rows has more, clause by clause. Assumes nothing.
use Rattle.std.specs.Prelude.{ℕ, ◌≡◌, refl, List, [], ◌∷◌, ◌++◌, Some as some}
use Prim.Native.String.{String}
use Rattle.rules.specs.Text.{bytes}
use Rattle.rules.specs.Out.{ok}
use Rattle.rules.specs.Tree.{Tree, var, app, none, more}
use Rattle.rules.specs.Unify.{unify, unifying}
use Rattle.rules.specs.Run.{running}
use Rattle.rules.specs.Examples.{Row, AllHold, theory}

-- over the examples' theory and a variable x of sort Pass, the goal (Child x)
abbrev proved : String → List ℕ → Row
proved f l = record { theory = theory; goals = bytes "(var x Pass) (goal g (Child x))"; proof = bytes f; says = l }

-- Steps -------------------------------------------------------------------------------------------------------------------------------

-- a premise that is another judgment
abbrev other_premise : Row
other_premise = proved "(step 0 a1 ()) (step 1 c1 (0))" (0 ∷ 38 ∷ 3 ∷ 1 ∷ 0 ∷ [])

-- a rule variable that nothing binds
abbrev nothing_binds : Row
nothing_binds = proved "(step 0 s ())" (0 ∷ 38 ∷ 3 ∷ 0 ∷ 0 ∷ [])

-- an instance of a fact that rests on a hypothesis
abbrev instance_of_hyp : Row
instance_of_hyp = proved "(hyp 0 (Child x)) (step 1 c1 ((0 (x first))))" (0 ∷ 35 ∷ 3 ∷ 1 ∷ 0 ∷ [])

-- a premise keeps a variable of an empty sort, though the conclusion has none and there is no hypothesis
abbrev empty_sort : Row
empty_sort = record {
  theory = theory ++ bytes "(rule w ((Left ?z)) (Child first))";
  goals = bytes "(var z Gone) (goal g (Child first))";
  proof = bytes "(induct 0 z (Left z) ()) (step 1 w (0)) (result g 1)";
  says = 0 ∷ 39 ∷ 3 ∷ 1 ∷ 1 ∷ [];
}

-- two premises for a rule with one
abbrev two_premises : Row
two_premises = proved "(step 0 c0 ()) (step 1 c1 (0 0))" (0 ∷ 37 ∷ 3 ∷ 1 ∷ 0 ∷ [])

-- Inductions ----------------------------------------------------------------------------------------------------------------------------

-- the cases are as many as the constructors, and not theirs
abbrev not_paired : Row
not_paired = proved "(var y Pass) (step 0 c0 ()) (hyp 1 (Child y)) (step 2 c1 (1)) (induct 3 x (Child x) ((0) (0)))" (0 ∷ 41 ∷ 3 ∷ 4 ∷ 0 ∷ [])

-- the first case for both constructors
abbrev first_for_both : Row
first_for_both = proved "(var y Pass) (step 0 c0 ()) (induct 1 x (Child x) ((0) (0 y)))" (0 ∷ 43 ∷ 3 ∷ 2 ∷ 0 ∷ [])

-- the conclusion as its own hypothesis
abbrev own_hypothesis : Row
own_hypothesis = proved "(var y Pass) (step 0 c0 ()) (hyp 1 (Child (renew y))) (induct 2 x (Child x) ((0) (1 y)))" (0 ∷ 44 ∷ 3 ∷ 3 ∷ 0 ∷ [])

-- a variable that the judgment does not hold
abbrev not_in_motive : Row
not_in_motive = proved "(induct 0 x (Child first) ((0) (0 x)))" (0 ∷ 45 ∷ 3 ∷ 0 ∷ 0 ∷ [])

-- a case variable that the motive holds
abbrev stale_case : Row
stale_case = proved "(step 0 c0 ()) (hyp 1 (Child x)) (step 2 c1 (1)) (induct 3 x (Child x) ((0) (2 x)))" (0 ∷ 42 ∷ 3 ∷ 3 ∷ 0 ∷ [])

-- an induction hypothesis that generalises the induction variable
abbrev generalised_own : Row
generalised_own = proved "(var y Pass) (step 0 c0 ()) (hyp 1 () (Child y) (x)) (step 2 c1 (1)) (induct 3 x (Child x) ((0) (2 y)))" (0 ∷ 44 ∷ 3 ∷ 4 ∷ 0 ∷ [])

-- Inversions ----------------------------------------------------------------------------------------------------------------------------

-- the rule is renamed with a variable in use: with the one that the judgment and the hypothesis hold, and with one of the hypothesis alone
abbrev not_apart : Row
not_apart = proved "(hyp 0 (Child x)) (step 1 c0 ()) (hyp 2 (Child x)) (step 3 c1 (2)) (invert 4 0 () (Child x) ((c0 1 ()) (c1 3 (x))))" (0 ∷ 42 ∷ 3 ∷ 4 ∷ 0 ∷ [])

abbrev renamed_in_use : Row
renamed_in_use = proved "(var p Pass) (hyp 0 (Same x p)) (hyp 1 (Child x)) (invert 2 0 (1) (Child x) ((s 1 (p))))" (0 ∷ 42 ∷ 3 ∷ 3 ∷ 0 ∷ [])

-- a case for a rule that cannot conclude the hypothesis: no p is (renew p), which the occurs check finds
abbrev cannot_conclude : Row
cannot_conclude = proved "(hyp 0 (Same x x)) (hyp 1 (Bad x)) (var p Pass) (invert 2 0 () (Bad x) ((s 1 (p))))" (0 ∷ 46 ∷ 3 ∷ 3 ∷ 0 ∷ [])

-- the unifier would put a generalised variable where it is free
abbrev captured : Row
captured = proved "(var y Pass) (step 0 c0 ()) (hyp 1 (Child x)) (hyp 2 () (Bad x) (y)) (invert 3 1 (2) (Child first) ((c0 0 ()) (c1 0 (y))))" (0 ∷ 48 ∷ 3 ∷ 4 ∷ 0 ∷ [])

-- a case that rests on what it may not
abbrev other_hypothesis : Row
other_hypothesis = proved "(hyp 0 (Bad first)) (hyp 1 (Adult x)) (invert 2 1 () (Bad first) ((a1 0 ())))" (0 ∷ 44 ∷ 3 ∷ 2 ∷ 0 ∷ [])

-- Applications --------------------------------------------------------------------------------------------------------------------------

-- a binding of a variable that the hypothesis does not generalise
abbrev not_general : Row
not_general = proved "(hyp 0 (Child x)) (apply 1 0 ((x first)) ())" (0 ∷ 36 ∷ 3 ∷ 1 ∷ 0 ∷ [])

-- a binding whose variable is nowhere in the conclusion
abbrev binding_outside : Row
binding_outside = proved "(hyp 0 () (Child first) (x)) (apply 1 0 ((x x)) ())" (0 ∷ 39 ∷ 3 ∷ 1 ∷ 1 ∷ [])

-- Results -------------------------------------------------------------------------------------------------------------------------------

abbrev other_goal : Row
other_goal = proved "(step 0 c0 ()) (result g 0)" (0 ∷ 52 ∷ 3 ∷ 1 ∷ 0 ∷ [])

abbrev twice : Row
twice = record {
  theory = theory;
  goals = bytes "(goal g (Child first)) (goal h (Child first))";
  proof = bytes "(step 0 c0 ()) (result g 0) (result g 0)";
  says = 0 ∷ 50 ∷ 3 ∷ 2 ∷ 0 ∷ [];
}

-- two of three goals stay without a result
abbrev not_all : Row
not_all = record {
  theory = theory;
  goals = bytes "(goal f (Child first)) (goal g (Child first)) (goal h (Child first))";
  proof = bytes "(step 0 c0 ()) (result g 0)";
  says = 0 ∷ 53 ∷ 3 ∷ 2 ∷ 2 ∷ [];
}

-- Theories ------------------------------------------------------------------------------------------------------------------------------

-- one rule variable at two sorts
abbrev two_sorts : Row
two_sorts = record { theory = theory ++ bytes "(pred Both (Pass Gone)) (rule w () (Both ?v ?v))"; goals = []; proof = []; says = 0 ∷ 12 ∷ 1 ∷ 14 ∷ 0 ∷ [] }

-- a name a second time; a constructor and a predicate may share one
abbrev same_name : Row
same_name = record { theory = theory ++ bytes "(pred first ()) (ctor Child () Pass) (ctor first () Gone)"; goals = []; proof = []; says = 0 ∷ 11 ∷ 1 ∷ 15 ∷ 0 ∷ [] }

pub slips :
    AllHold
    (other_premise ∷ nothing_binds ∷ instance_of_hyp ∷ empty_sort ∷ two_premises ∷ not_paired ∷ first_for_both ∷ own_hypothesis ∷ not_in_motive ∷ stale_case ∷ generalised_own
    ∷ not_apart ∷ renamed_in_use ∷ cannot_conclude ∷ captured ∷ other_hypothesis ∷ not_general ∷ binding_outside ∷ other_goal ∷ twice ∷ not_all ∷ two_sorts ∷ same_name ∷ [])
unfolding running AllHold
slips =
    (refl, (refl, (refl, (refl, (refl, (refl, (refl, (refl, (refl, (refl, (refl, (refl, (refl, (refl, (refl, (refl, (refl, (refl, (refl, (refl, (refl, (refl, (refl, tt)))))))))))))))))))))))

-- Unification ---------------------------------------------------------------------------------------------------------------------------

abbrev f : Tree → Tree → Tree
f s t = app 0 (more s (more t none))

abbrev g : Tree → Tree
g t = app 1 (more t none)

-- f(x, x) with f(g(y), g(z)), the last pair first: x is g(z), then z is y, and x's value is changed with it. The first pair first would give
-- z for y
pub last_first :
    unify 3 (f (var 0) (var 0)) (f (g (var 1)) (g (var 2))) []
    ≡ ok (some (record { variable = 0; value = g (var 1) } ∷ record { variable = 2; value = var 1 } ∷ []))
    (var 0 ∷ f (var 0) (var 0) ∷ var 1 ∷ g (var 1) ∷ var 2 ∷ g (var 2) ∷ f (g (var 1)) (g (var 2)) ∷ [])
unfolding unifying
last_first = refl
