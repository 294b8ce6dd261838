use native.Mathlib.Omega.{arith}
use Rattle.std.proofs.lemmas.Result.{err_from_is_err_and}
use Rattle.inversion.proofs.InvertRuleTurn.{turn_known, turn_cases, turn_lacking, turn_low, turn_high, turn_lacked, turn_few, turn_case, turn_missing, list_long, turn_having, turn_judged}
use Rattle.inversion.proofs.inverting.Inverting.invert_rule.Goals as goal

pub rule_name-requires : goal.rule_name-requires
rule_name-requires c = turn_known c.requires.turning c.requires.r_lt_rules.0

pub of-name-requires : goal.of-name-requires
of-name-requires c = (
  turn_low c.requires.turning c.requires.r_lt_rules.0 c.rule_name.result c.rule_name.ensures,
  turn_high c.requires.turning c.requires.r_lt_rules.0 c.rule_name.result c.rule_name.ensures,
)

pub find_case-requires : goal.find_case-requires
find_case-requires c = turn_cases c.requires.turning c.requires.r_lt_rules.0

pub without_case-requires-clause-lacking : goal.without_case-requires-clause-lacking
without_case-requires-clause-lacking c = turn_lacking c.requires.turning c.requires.r_lt_rules.0 c.variables.ensures

pub returns-in_default-clause-turned_as : goal.returns-in_default-clause-turned_as
returns-in_default-clause-turned_as c = λ g.
    turn_lacked g c.requires.r_lt_rules.0 c.rule_name.result c.rule_name.ensures c.find_case.result (rw c.of-name.ensures at c.find_case.ensures) c.in_default.is
    _ _ _ _ _ _ _ c.without_case.ensures.taken_unchanged (c.without_case.ensures.lacked_as (turn_lacking g c.requires.r_lt_rules.0 c.variables.ensures))

pub variables-requires : goal.variables-requires
variables-requires c = turn_known c.requires.turning c.requires.r_lt_rules.0

pub case_vars-requires : goal.case_vars-requires
case_vars-requires c =
    turn_case c.requires.turning c.requires.r_lt_rules.0 c.rule_name.result c.rule_name.ensures c.find_case.result (rw c.of-name.ensures at c.find_case.ensures) c.in-Some.is
    c.variables.ensures

pub returns-in_err-renamed-clause-turned_as : goal.returns-in_err-renamed-clause-turned_as
returns-in_err-renamed-clause-turned_as c = λ g. let p = err_from_is_err_and c.from_residual.result c.from_residual.ensures.1 in
    rw (p.1, p.2) (turn_missing g c.requires.r_lt_rules.0 c.rule_name.result c.rule_name.ensures c.find_case.result (rw c.of-name.ensures at c.find_case.ensures) c.in-Some.is
    c.variables.ensures c.in_err-renamed.ensures)

pub shared_ref_as_front-own : goal.shared_ref_as_front-own
shared_ref_as_front-own c = omega (
  arith,
  turn_few c.requires.turning c.requires.r_lt_rules.0 c.rule_name.result c.rule_name.ensures c.find_case.result (rw c.of-name.ensures at c.find_case.ensures)
      c.in-Some.is c.variables.ensures,
)

pub slice_bounds-own-end : goal.slice_bounds-own-end
slice_bounds-own-end c =
    list_long c.requires.turning c.requires.r_lt_rules.0 c.rule_name.result c.rule_name.ensures c.find_case.result (rw c.of-name.ensures at c.find_case.ensures)
    c.in-Some.is c.variables.ensures c.in_ok-renamed.ensures

pub with_case-requires-clause-having : goal.with_case-requires-clause-having
with_case-requires-clause-having c =
    turn_having c.requires.turning c.requires.r_lt_rules.0 c.rule_name.result c.rule_name.ensures c.find_case.result (rw c.of-name.ensures at c.find_case.ensures) c.in-Some.is
    c.variables.ensures c.in_ok-renamed.ensures c.requires.r_lt_rules.2

pub returns-clause-turned_as : goal.returns-clause-turned_as
returns-clause-turned_as c = λ g.
    turn_judged g c.requires.r_lt_rules.0 c.rule_name.result c.rule_name.ensures c.find_case.result (rw c.of-name.ensures at c.find_case.ensures) c.in-Some.is
    c.variables.ensures c.in_ok-renamed.ensures _ _ _ _
    (c.with_case.ensures.judged_as
    (turn_having g c.requires.r_lt_rules.0 c.rule_name.result c.rule_name.ensures c.find_case.result (rw c.of-name.ensures at c.find_case.ensures) c.in-Some.is
    c.variables.ensures c.in_ok-renamed.ensures c.requires.r_lt_rules.2))
