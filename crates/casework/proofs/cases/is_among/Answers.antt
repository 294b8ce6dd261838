use Rattle.casework.proofs.Finding.{found_is}
use Rattle.casework.proofs.cases.is_among.Goals as goal

pub returns : goal.returns
returns c = λ g. found_is g c.args.name.now c.find_case.result (c.find_case.ensures g) c.is_some.ensures
