use native.Mathlib.Omega.{arith}
use Rattle.terms.specs.Laws.Empty.{good_empty}
use Rattle.induction.proofs.cases.tests.makes_the_terms_of_a_case.Goals as goal

pub keep_var-requires : goal.keep_var-requires
keep_var-requires g c = (good_empty, omega arith)
