use mathlib.Core.Path.{sym}
use Prim.Native.Nat.{◌+◌, ◌*◌}
use Rattle.std.proofs.Common.{add-one}
use Rattle.casework.proofs.Tree.{entered}
use Rattle.casework.proofs.distinct.NameTree.enter.Goals as goal

pub returns-clause-entered : goal.returns-clause-entered
returns-clause-entered c = rw (c.put_span.ensures, sym (add-one (2 * (c.args.self.now.many + 1)))) (entered c.requires.tree.0 c.requires.tree.1 c.requires.inside.0 c.requires.inside.1 (rw c.of.ensures at c.in-Some.ensures))
