use Rattle.std.proofs.Common.{arith, rules}
use Rattle.sexp.specs.Each.{behind_on}
use Rattle.sexp.proofs.items.EachIterator.next.Goals as goal

pub returns-clause-goes : goal.returns-clause-goes
returns-clause-goes c = let on = behind_on c.args.self.now.cells.now c.args.self.now.at in search (rules, on, c.after-self.ensures, arith)
