use Rattle.std.proofs.Common.{rules, tests}
use Rattle.exports.proofs.Turns.{scan_told}
use Rattle.exports.proofs.tariff_scan.Goals as goal

pub returns : goal.returns
returns c = scan_told _ 0 c.read_all.result _ c.read_all.ensures c.unwrap_or_else.ensures (λ e k. search (rules, tests))
