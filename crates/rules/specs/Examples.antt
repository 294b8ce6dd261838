-- The worked examples of document 01 as theorems: each is one row of `examples`, and holds by computation. `corners` has what 01 says beside
-- them of single bytes, depths and shapes. A definition that gave another answer to one of these would be refused here. Assumes nothing.
use Rattle.std.specs.Prelude.{ℕ, ◌≡◌, refl, List, [], ◌∷◌, ◌++◌, replicate}
use Prim.Native.String.{String}
use Rattle.rules.specs.Text.{bytes}
use Rattle.rules.specs.Check.{check}
use Rattle.rules.specs.Run.{line, running}
use Rattle.rules.specs.StateTables.{var_cells, end_cells, word_cells, goal_cells, fact_cells, fact_list, footing_cells, laying}

-- three texts, and the line that answers them
pub record Row : Type 0 where
  pub theory : List ℕ
  pub goals : List ℕ
  pub proof : List ℕ
  pub says : List ℕ

unfoldable pub AllHold : List Row → Type 0
AllHold [] = Unit {0}
AllHold (r ∷ rs) = (line r.theory r.goals r.proof ≡ r.says) × AllHold rs

-- the theory of the examples
abbrev pub theory : List ℕ
theory =
    bytes "(sort Pass) (sort Gone) (ctor first () Pass) (ctor renew (Pass) Pass) (pred Child (Pass)) (pred Adult (Pass)) (pred Bad (Pass)) (pred Same (Pass Pass)) (pred Left (Gone)) (rule c0 () (Child first)) (rule c1 ((Child ?p)) (Child (renew ?p))) (rule a1 () (Adult (renew first))) (rule s () (Same ?p (renew ?p)))"

-- goals and proof over it, and the line
abbrev quoted : String → String → List ℕ → Row
quoted g f l = record { theory = theory; goals = bytes g; proof = bytes f; says = l }

-- The starred examples ----------------------------------------------------------------------------------------------------------------

abbrev example_a : Row
example_a =
    quoted "(var x Pass) (goal g (Child x))"
    "(var y Pass) (step 0 c0 ()) (hyp 1 (Child y)) (step 2 c1 (1)) (induct 3 x (Child x) ((0) (2 y))) (result g 3)"
    (1 ∷ 4 ∷ 1 ∷ 1 ∷ 1 ∷ 1 ∷ 0 ∷ 0 ∷ [])

abbrev example_b : Row
example_b =
    quoted "(var x Pass) (goal g (Child x))"
    "(var y Pass) (step 0 c0 ()) (hyp 1 (Child y)) (step 2 c1 (1)) (induct 3 x (Child x) ((2 y) (0))) (result g 3)"
    (0 ∷ 41 ∷ 3 ∷ 4 ∷ 0 ∷ [])

abbrev example_c : Row
example_c =
    quoted "(var x Pass) (goal g (Child x))"
    "(var y Pass) (step 0 c0 ()) (hyp 1 (Child y)) (step 2 c1 (1)) (induct 3 x (Child x) ((0) (2 y))) (result g 2)"
    (0 ∷ 51 ∷ 3 ∷ 5 ∷ 0 ∷ [])

abbrev example_d : Row
example_d =
    quoted "(var x Pass) (goal g (Child x))"
    "(var y Pass) (step +0 c0 ()) (hyp 1 (Child y)) (step 2 c1 (1)) (induct 3 x (Child x) ((0) (2 y))) (result g 3)"
    (1 ∷ 4 ∷ 1 ∷ 1 ∷ 1 ∷ 1 ∷ 0 ∷ 0 ∷ [])

abbrev example_e : Row
example_e =
    quoted "(goal g (Child (renew first)))"
    "(step 0 c0 ()) (step 1 c1 ((0))) (result g 1)"
    (1 ∷ 2 ∷ 1 ∷ 0 ∷ 0 ∷ 0 ∷ 0 ∷ 1 ∷ [])

abbrev example_f : Row
example_f =
    quoted "(var x Pass) (goal g (Child x))"
    "(var y Pass) (step 0 c0 ()) (hyp 1 (Child y)) (step 2 c1 ((1))) (induct 3 x (Child x) ((0) (2 y))) (result g 3)"
    (0 ∷ 35 ∷ 3 ∷ 3 ∷ 0 ∷ [])

abbrev example_g : Row
example_g =
    quoted "(var x Pass) (var y Pass) (goal g (Bad first))"
    "(hyp 0 (Adult x)) (hyp 1 (Adult first)) (invert 2 1 () (Bad first) ()) (hyp 3 ((Adult y)) (Bad first) ()) (induct 4 x (0) (Bad first) ((2) (3 y))) (step 5 a1 ()) (apply 6 4 ((x (renew first))) (5)) (result g 6)"
    (1 ∷ 7 ∷ 1 ∷ 0 ∷ 3 ∷ 1 ∷ 1 ∷ 0 ∷ [])

abbrev example_h : Row
example_h =
    quoted "(var z Gone) (goal g (Left z))"
    "(induct 0 z (Left z) ()) (result g 0)"
    (1 ∷ 1 ∷ 1 ∷ 1 ∷ 0 ∷ 1 ∷ 0 ∷ 0 ∷ [])

abbrev example_i : Row
example_i =
    quoted "(var x Pass) (goal g ((Same x x)) (Bad x))"
    "(hyp 0 (Same x x)) (invert 1 0 () (Bad x) ()) (result g 1)"
    (1 ∷ 2 ∷ 1 ∷ 1 ∷ 1 ∷ 0 ∷ 1 ∷ 0 ∷ [])

abbrev example_j : Row
example_j =
    quoted "(var x Pass) (goal g ((Adult x)) (Bad x))"
    "(hyp 0 (Adult x)) (invert 1 0 () (Bad x) ()) (result g 1)"
    (0 ∷ 47 ∷ 3 ∷ 1 ∷ 0 ∷ [])

abbrev example_k : Row
example_k =
    quoted "(var Child Pass) (goal g (Child first))"
    "(step 0 c0 ()) (result g 0)"
    (0 ∷ 21 ∷ 2 ∷ 0 ∷ 0 ∷ [])

abbrev example_kproof : Row
example_kproof =
    quoted "(goal g (Child first))"
    "(var Child Pass) (step 0 c0 ()) (result g 0)"
    (0 ∷ 21 ∷ 3 ∷ 0 ∷ 0 ∷ [])

pub examples :
    AllHold
    (example_a ∷ example_b ∷ example_c ∷ example_d ∷ example_e ∷ example_f ∷ example_g ∷ example_h ∷ example_i ∷ example_j ∷ example_k ∷ example_kproof ∷ [])
unfolding running AllHold
examples = (refl, (refl, (refl, (refl, (refl, (refl, (refl, (refl, (refl, (refl, (refl, (refl, tt))))))))))))

-- Corners -----------------------------------------------------------------------------------------------------------------------------

-- a text in the place of the theory alone
abbrev in_theory : List ℕ → List ℕ → Row
in_theory t l = record { theory = t; goals = []; proof = []; says = l }

-- depth 64 is read (a list stands where the tag does), 65 is not, and a bracket that misses its partner is met behind it
abbrev depth64 : Row
depth64 = in_theory (replicate 64 40 ++ replicate 64 41) (0 ∷ 10 ∷ 1 ∷ 0 ∷ 0 ∷ [])

abbrev depth65 : Row
depth65 = in_theory (replicate 65 40 ++ replicate 65 41) (0 ∷ 5 ∷ 1 ∷ 0 ∷ 0 ∷ [])

abbrev open64 : Row
open64 = in_theory (replicate 64 40) (0 ∷ 4 ∷ 1 ∷ 0 ∷ 0 ∷ [])

abbrev open65 : Row
open65 = in_theory (replicate 65 40) (0 ∷ 5 ∷ 1 ∷ 0 ∷ 0 ∷ [])

-- byte 11 parts two atoms, byte 28 belongs to one
abbrev white11 : Row
white11 = in_theory (bytes "(sort" ++ (11 ∷ bytes "A)")) (0 ∷ 25 ∷ 2 ∷ 0 ∷ 0 ∷ [])

abbrev letter28 : Row
letter28 = in_theory (bytes "(sort" ++ (28 ∷ bytes "A)")) (0 ∷ 10 ∷ 1 ∷ 0 ∷ 0 ∷ [])

-- byte 13 leaves a comment open, byte 10 closes it
abbrev comment13 : Row
comment13 = in_theory (bytes "(sort A ; " ++ (13 ∷ bytes ")")) (0 ∷ 4 ∷ 1 ∷ 0 ∷ 0 ∷ [])

abbrev comment10 : Row
comment10 = in_theory (bytes "(sort A ; " ++ (10 ∷ bytes ")")) (0 ∷ 25 ∷ 2 ∷ 0 ∷ 0 ∷ [])

-- a bare atom is judged where it stands, and is no form; behind it a bracket that is wrong comes first
abbrev bare_atom : Row
bare_atom = in_theory (bytes "(sort A) sort (sort B)") (0 ∷ 10 ∷ 1 ∷ 1 ∷ 0 ∷ [])

abbrev bare_before4 : Row
bare_before4 = in_theory (bytes "sort (sort A) sort )") (0 ∷ 4 ∷ 1 ∷ 1 ∷ 0 ∷ [])

-- a constructor without arguments is an atom: `(first)` is a wrong count, in the theory before its name is looked up
abbrev first1 : Row
first1 = quoted "(goal g (Child (first)))" "" (0 ∷ 23 ∷ 2 ∷ 0 ∷ 0 ∷ [])

abbrev nobody1 : Row
nobody1 = quoted "(goal g (Child (nobody)))" "" (0 ∷ 22 ∷ 2 ∷ 0 ∷ 0 ∷ [])

abbrev nobody_rule : Row
nobody_rule = in_theory (theory ++ bytes "(rule w () (Child (nobody)))") (0 ∷ 12 ∷ 1 ∷ 13 ∷ 0 ∷ [])

-- the order of questions 2 and 3 over the three texts
abbrev length2 : Row
length2 = record { theory = 200 ∷ []; goals = []; proof = replicate 65537 32; says = 0 ∷ 2 ∷ 3 ∷ 0 ∷ 0 ∷ [] }

abbrev byte3 : Row
byte3 = record { theory = []; goals = 40 ∷ 128 ∷ []; proof = 128 ∷ []; says = 0 ∷ 3 ∷ 2 ∷ 0 ∷ 0 ∷ [] }

-- thirty digits of a value below 2 ^ 64 are an index, others are none; a `+` is free too
abbrev digits30 : Row
digits30 = quoted "(goal g (Child first))" "(step 000000000000000000000000000000 c0 ()) (result g 111111111111111111111111111111)" (0 ∷ 34 ∷ 3 ∷ 1 ∷ 0 ∷ [])

abbrev plus0 : Row
plus0 = quoted "(goal g (Child first))" "(step +000 c0 ()) (result g +0)" (1 ∷ 1 ∷ 1 ∷ 0 ∷ 0 ∷ 0 ∷ 0 ∷ 0 ∷ [])

pub corners :
    AllHold
    (depth64 ∷ depth65 ∷ open64 ∷ open65 ∷ white11 ∷ letter28 ∷ comment13 ∷ comment10 ∷ bare_atom ∷ bare_before4 ∷ first1 ∷ nobody1 ∷ nobody_rule ∷ length2 ∷ byte3 ∷ digits30 ∷ plus0 ∷ [])
unfolding running AllHold
corners = (refl, (refl, (refl, (refl, (refl, (refl, (refl, (refl, (refl, (refl, (refl, (refl, (refl, (refl, (refl, (refl, (refl, tt)))))))))))))))))

-- The tables after example A ------------------------------------------------------------------------------------------------------------

-- terms: x, (Child x), first, (Child first), y, (Child y), (renew y), (Child (renew y)); `Child` is symbol 2, `renew` 1, `first` 0
pub tables-A :
    let S = (check example_a.theory example_a.goals example_a.proof).state in
    (var_cells S.vars ≡ 1 ∷ 2 ∷ 5 ∷ 6 ∷ 1 ∷ 3 ∷ 5 ∷ 6 ∷ [])
    × (word_cells S.made S.made ≡ 256 ∷ 2 ∷ 0 ∷ 0 ∷ 2 ∷ 2 ∷ 257 ∷ 2 ∷ 4 ∷ 1 ∷ 4 ∷ 2 ∷ 6 ∷ [])
    × (end_cells 0 S.made ≡ 1 ∷ 3 ∷ 4 ∷ 6 ∷ 7 ∷ 9 ∷ 11 ∷ 13 ∷ [])
    × (goal_cells S.made 0 S.goals ≡ 19 ∷ 20 ∷ 1 ∷ 0 ∷ 0 ∷ 1 ∷ [])
    × (fact_cells S.made 0 S.facts
    ≡ (3 ∷ 0 ∷ 0 ∷ 0 ∷ 0 ∷ 0 ∷ []) ++ (5 ∷ 1 ∷ 0 ∷ 1 ∷ 0 ∷ 0 ∷ []) ++ (7 ∷ 0 ∷ 1 ∷ 1 ∷ 0 ∷ 0 ∷ []) ++ (1 ∷ 0 ∷ 2 ∷ 0 ∷ 0 ∷ 0 ∷ []))
    × (fact_list S.made S.facts ≡ 1 ∷ 1 ∷ [])
    × (footing_cells S.facts ≡ (1 ∷ 0 ∷ 0 ∷ 0 ∷ []) ++ (0 ∷ 0 ∷ 0 ∷ 0 ∷ []) ++ (2 ∷ 0 ∷ 0 ∷ 0 ∷ []) ++ (0 ∷ 0 ∷ 0 ∷ 0 ∷ []))
unfolding laying
tables-A = (refl, refl, refl, refl, refl, refl, refl)
