use Rattle.std.proofs.Common.{rules}
use Rattle.casework.proofs.Tree.{turned}
use Rattle.casework.proofs.distinct.turn.Goals as goal

pub returns : goal.returns
returns c = turned c.args.name.now c.args.depth c.get.result c.get.ensures.lookup (search rules)
