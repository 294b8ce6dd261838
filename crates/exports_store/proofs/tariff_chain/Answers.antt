use Rattle.std.proofs.Common.{rules}
use Rattle.exports_store.proofs.Chaining.{chained}
use Rattle.exports_store.proofs.tariff_chain.Goals as goal

pub returns : goal.returns
returns c = chained c.make_chain.ensures.kept (search rules) (search rules) c.unwrap_or.ensures
