use Rattle.std.proofs.Common.{refl, subst, rules, tests}
use Rattle.casework.specs.Cases.{CasesAs}
use Rattle.casework.proofs.Taken.{kept_none}
use Rattle.casework.proofs.cases.read_in.Goals as goal

pub read_with-requires : goal.read_with-requires
read_with-requires _ = λ c. (c.requires.0, refl, kept_none _ _ refl refl refl c.requires.1)

pub returns : goal.returns
returns _ = λ c g. subst (λ r. CasesAs g.S g.xs r) (search (rules, tests)) (c.read_with.ensures g)
