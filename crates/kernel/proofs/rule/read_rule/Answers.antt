use Rattle.std.proofs.Common.{rules}
use Rattle.kernel.proofs.Schemas.{schema_lent}
use Rattle.kernel.proofs.rule.read_rule.Goals as goal

pub returns : goal.returns
returns c = λ T R xs h r k n. schema_lent (c.in_ok-premises.ensures.read T R xs h r k n) (search rules) (search rules)
