use mathlib.Core.Path.{ap}
use Prim.Native.Nat.{ℕ}
use native.Mathlib.Numerals.{add-one}
use lib.ListN.{set}
use Rattle.kernel.proofs.atoms.put_span.Goals as goal

pub returns : goal.returns
returns c = ap (λ (k : ℕ). set (set c.args.table.now c.args.at c.args.span.from) k c.args.span.end) (add-one c.args.at)
