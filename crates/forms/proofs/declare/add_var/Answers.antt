use native.Mathlib.Omega.{arith}
use Rattle.state.specs.VarLaws.{text_small}
use Rattle.forms.proofs.declare.add_var.Goals as goal

pub add_var_of-requires : goal.add_var_of-requires
add_var_of-requires c = (c.requires, omega (arith, c.number.ensures, text_small c.args.text))

pub returns-clause-var_as : goal.returns-clause-var_as
returns-clause-var_as c = rw c.number.ensures at c.add_var_of.ensures.var_as
