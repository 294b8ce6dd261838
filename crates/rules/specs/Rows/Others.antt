-- Rows on `var`, `def`, `goal`, `hyp`, `result`, on tags, and on the index that every fact's form begins with. Assumes nothing.
use Rattle.std.specs.Prelude.{ℕ, refl, List, [], ◌∷◌, ◌++◌}
use Prim.Native.String.{String}
use Rattle.rules.specs.Text.{bytes}
use Rattle.rules.specs.Run.{running}
use Rattle.rules.specs.Examples.{Row, AllHold, theory}
use Rattle.rules.specs.Rows.Row.{proved, stops, takes}

-- Forms -----------------------------------------------------------------------------------------------------------------------------------

-- goals, and no proof
abbrev asked : String → List ℕ → Row
asked g l = record { theory = theory; goals = bytes g; proof = []; says = l }

-- an atom, nothing in the brackets, a list for the tag
abbrev goal_atom : Row
goal_atom = asked "goal" (0 ∷ 20 ∷ 2 ∷ 0 ∷ 0 ∷ [])

abbrev goal_empty : Row
goal_empty = asked "()" (0 ∷ 20 ∷ 2 ∷ 0 ∷ 0 ∷ [])

abbrev goal_tagged : Row
goal_tagged = asked "((goal) g v)" (0 ∷ 20 ∷ 2 ∷ 0 ∷ 0 ∷ [])

abbrev form_atom : Row
form_atom = proved "hyp" (stops 30 0)

abbrev form_empty : Row
form_empty = proved "()" (stops 30 0)

abbrev form_tagged : Row
form_tagged = proved "((hyp) 0 v)" (stops 30 0)

-- the goals are read whole before they are judged, the proof form by form
abbrev goals_whole : Row
goals_whole = asked "(goal g v) )" (0 ∷ 4 ∷ 2 ∷ 1 ∷ 0 ∷ [])

abbrev proof_by_form : Row
proof_by_form = proved "(hyp 0 v) )" (stops 22 0)

abbrev proof_bracket : Row
proof_bracket = proved "(hyp 0 (Child x)) )" (stops 4 1)

pub forms :
    AllHold
    (goal_atom ∷ goal_empty ∷ goal_tagged ∷ form_atom ∷ form_empty ∷ form_tagged ∷ goals_whole ∷ proof_by_form ∷ proof_bracket ∷ [])
unfolding running AllHold
forms = (refl, (refl, (refl, (refl, (refl, (refl, (refl, (refl, (refl, tt)))))))))

-- Variables -------------------------------------------------------------------------------------------------------------------------------

-- a name that is marked, a constructor's, a variable's, a list; an unknown sort, a sort that is a list
abbrev var_marked : Row
var_marked = proved "(var ?y Pass)" (stops 21 0)

abbrev var_constructor : Row
var_constructor = proved "(var first Pass)" (stops 21 0)

abbrev var_twice : Row
var_twice = proved "(var x Pass)" (stops 21 0)

abbrev var_list : Row
var_list = proved "(var (y) Pass)" (stops 21 0)

abbrev var_sort : Row
var_sort = proved "(var y Child)" (stops 21 0)

abbrev var_sort_list : Row
var_sort_list = proved "(var y (Pass))" (stops 21 0)

pub variables :
    AllHold
    (var_marked ∷ var_constructor ∷ var_twice ∷ var_list ∷ var_sort ∷ var_sort_list ∷ [])
unfolding running AllHold
variables = (refl, (refl, (refl, (refl, (refl, (refl, tt))))))

-- Abbreviations -----------------------------------------------------------------------------------------------------------------------------

-- a name without a mark, of a mark alone, a list: before the term is read
abbrev def_unmarked : Row
def_unmarked = proved "(def name nobody)" (stops 33 0)

abbrev def_mark_alone : Row
def_mark_alone = proved "(def ? nobody)" (stops 33 0)

abbrev def_list : Row
def_list = proved "(def (?a) nobody)" (stops 33 0)

-- that the name is new is asked behind the term
abbrev def_term_first : Row
def_term_first = proved "(def ?a x) (def ?a nobody)" (stops 22 1)

abbrev def_twice : Row
def_twice = proved "(def ?a x) (def ?a x)" (stops 33 1)

-- it stands for the term
abbrev def_used : Row
def_used = proved "(def ?a (renew first)) (step 0 a1 () (Adult ?a))" (takes 2)

pub abbreviations :
    AllHold
    (def_unmarked ∷ def_mark_alone ∷ def_list ∷ def_term_first ∷ def_twice ∷ def_used ∷ [])
unfolding running AllHold
abbreviations = (refl, (refl, (refl, (refl, (refl, (refl, tt))))))

-- Goals -------------------------------------------------------------------------------------------------------------------------------------

-- the hypotheses, the judgment, the name
abbrev goal_list_atom : Row
goal_list_atom = asked "(goal (g) v v)" (0 ∷ 22 ∷ 2 ∷ 0 ∷ 0 ∷ [])

abbrev goal_list_first : Row
goal_list_first = asked "(goal (g) ((Child (first))) v)" (0 ∷ 23 ∷ 2 ∷ 0 ∷ 0 ∷ [])

abbrev goal_judgment_first : Row
goal_judgment_first = asked "(goal g (Child first)) (goal g v)" (0 ∷ 22 ∷ 2 ∷ 1 ∷ 0 ∷ [])

abbrev goal_name_list : Row
goal_name_list = asked "(goal (g) (Child first))" (0 ∷ 24 ∷ 2 ∷ 0 ∷ 0 ∷ [])

abbrev goal_twice : Row
goal_twice = asked "(goal g (Child first)) (goal g () (Child first))" (0 ∷ 24 ∷ 2 ∷ 1 ∷ 0 ∷ [])

pub goals :
    AllHold
    (goal_list_atom ∷ goal_list_first ∷ goal_judgment_first ∷ goal_name_list ∷ goal_twice ∷ [])
unfolding running AllHold
goals = (refl, (refl, (refl, (refl, (refl, tt)))))

-- Hypotheses ----------------------------------------------------------------------------------------------------------------------------------

-- the premises, the judgment, the generalised variables
abbrev hyp_premises_first : Row
hyp_premises_first = proved "(hyp 0 ((Child (first))) v v)" (stops 23 0)

abbrev hyp_premises_atom : Row
hyp_premises_atom = proved "(hyp 0 v (Child (first)) v)" (stops 22 0)

abbrev hyp_judgment_first : Row
hyp_judgment_first = proved "(hyp 0 () (Child (first)) v)" (stops 23 0)

abbrev hyp_variables_atom : Row
hyp_variables_atom = proved "(hyp 0 () (Child x) v)" (stops 36 0)

abbrev hyp_variable_unknown : Row
hyp_variable_unknown = proved "(hyp 0 () (Child x) (v))" (stops 36 0)

abbrev hyp_variable_twice : Row
hyp_variable_twice = proved "(hyp 0 () (Child x) (x x))" (stops 36 0)

pub rule_hypotheses :
    AllHold
    (hyp_premises_first ∷ hyp_premises_atom ∷ hyp_judgment_first ∷ hyp_variables_atom ∷ hyp_variable_unknown ∷ hyp_variable_twice ∷ [])
unfolding running AllHold
rule_hypotheses = (refl, (refl, (refl, (refl, (refl, (refl, tt))))))

-- The index -----------------------------------------------------------------------------------------------------------------------------------

-- it is read behind the tag and before all else
abbrev tag_first : Row
tag_first = proved "(hyp v v v)" (stops 30 0)

abbrev no_index : Row
no_index = proved "(hyp v v)" (stops 31 0)

abbrev list_index : Row
list_index = proved "(hyp (0) v)" (stops 31 0)

-- each form that adds a fact; 1 is one too high, and 0 one too low behind a first fact
abbrev step_index : Row
step_index = proved "(step 1 v v)" (stops 32 0)

abbrev hyp_index : Row
hyp_index = proved "(hyp 1 v)" (stops 32 0)

abbrev rule_hyp_index : Row
rule_hyp_index = proved "(hyp 1 v v v)" (stops 32 0)

abbrev induct_index : Row
induct_index = proved "(induct 1 v v v)" (stops 32 0)

abbrev induct_with_index : Row
induct_with_index = proved "(induct 1 v v v v)" (stops 32 0)

abbrev apply_index : Row
apply_index = proved "(apply 1 v v v)" (stops 32 0)

abbrev invert_index : Row
invert_index = proved "(invert 1 v v v v)" (stops 32 0)

abbrev index_again : Row
index_again = proved "(step 0 c0 ()) (step 0 c0 ())" (stops 32 1)

pub indices :
    AllHold
    (tag_first ∷ no_index ∷ list_index ∷ step_index ∷ hyp_index ∷ rule_hyp_index ∷ induct_index ∷ induct_with_index ∷ apply_index ∷ invert_index
    ∷ index_again ∷ [])
unfolding running AllHold
indices = (refl, (refl, (refl, (refl, (refl, (refl, (refl, (refl, (refl, (refl, (refl, tt)))))))))))

-- Results -------------------------------------------------------------------------------------------------------------------------------------

abbrev result_list : Row
result_list = proved "(result (g) v)" (stops 50 0)

abbrev result_unknown : Row
result_unknown = proved "(result h v)" (stops 50 0)

-- one that has come is refused before the reference is read
abbrev result_twice : Row
result_twice = record {
  theory = theory;
  goals = bytes "(goal g (Child first)) (goal h (Child first))";
  proof = bytes "(step 0 c0 ()) (result g 0) (result g v)";
  says = stops 50 2;
}

abbrev result_later : Row
result_later = proved "(result g 0)" (stops 34 0)

-- another judgment that rests on a hypothesis: the hypothesis is asked first
abbrev hypothesis_first : Row
hypothesis_first = proved "(hyp 0 (Adult x)) (result g 0)" (stops 51 1)

-- a goal with (Adult x) and (Child x) listed
abbrev listing : String → List ℕ → Row
listing f l = record { theory = theory; goals = bytes "(var x Pass) (goal g ((Adult x) (Child x)) (Child x))"; proof = bytes f; says = l }

abbrev listed_second : Row
listed_second = listing "(hyp 0 (Child x)) (result g 0)" (1 ∷ 1 ∷ 1 ∷ 1 ∷ 1 ∷ 0 ∷ 0 ∷ 0 ∷ [])

-- of the right judgment, and not plain
abbrev listed_not_plain : Row
listed_not_plain = listing "(hyp 0 () (Child x) (x)) (result g 0)" (stops 51 1)

-- the first of two hypotheses is listed
abbrev listed_one : Row
listed_one = record {
  theory = theory ++ bytes "(rule b ((Child ?p) (Adult ?p)) (Bad ?p))";
  goals = bytes "(var x Pass) (goal g ((Child x)) (Bad x))";
  proof = bytes "(hyp 0 (Child x)) (hyp 1 (Adult x)) (step 2 b (0 1)) (result g 2)";
  says = stops 51 3;
}

-- the other goal is still awaited
abbrev other_goal_awaited : Row
other_goal_awaited = record {
  theory = theory;
  goals = bytes "(goal f (Child first)) (goal g (Child first))";
  proof = bytes "(step 0 c0 ()) (result g 0) (result f 0)";
  says = 1 ∷ 1 ∷ 2 ∷ 0 ∷ 0 ∷ 0 ∷ 0 ∷ 0 ∷ [];
}

pub results :
    AllHold
    (result_list ∷ result_unknown ∷ result_twice ∷ result_later ∷ hypothesis_first ∷ listed_second ∷ listed_not_plain ∷ listed_one
    ∷ other_goal_awaited ∷ [])
unfolding running AllHold
results = (refl, (refl, (refl, (refl, (refl, (refl, (refl, (refl, (refl, tt)))))))))
