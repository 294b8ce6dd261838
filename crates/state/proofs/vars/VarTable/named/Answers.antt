use Rattle.std.proofs.Common.{rules, tests, true, false}
use Rattle.std.proofs.lemmas.Iterator.{first_from_Range}
use Rattle.state.proofs.Named.{Named, var_found}
use Rattle.state.proofs.vars.VarTable.named.Goals as goal

pub returns : goal.returns
returns c = λ vs h. var_found h c.args.name.now c.find.result
    (first_from_Range _ _ _ c.find.result (Named h c.args.name.now true) (Named h c.args.name.now false) c.find.ensures.ran (λ x q k. search (rules, tests)) (λ x q k. search (rules, tests)))
