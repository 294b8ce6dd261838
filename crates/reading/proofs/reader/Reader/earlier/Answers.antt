use Rattle.std.proofs.Common.{rules, tests}
use Rattle.reading.proofs.Earlier.{earlier_told}
use Rattle.reading.proofs.reader.Reader.earlier.Goals as goal

pub returns : goal.returns
returns c = earlier_told c.args.self.now c.args.cells.now _ (λ i b k. search (rules, tests)) _ _ c.index.ensures c.filter.ensures c.ok_or.ensures.value
