use mathlib.Core.Path.{◌≡◌}
use Prim.Native.Nat.{suc, ◌+◌, ◌*◌}
use native.Mathlib.Omega.{arith}
use Rattle.rules.specs.Limits.{RULEVARS}
use Rattle.kernel.proofs.Holding.{row_pasted}
use Rattle.kernel.proofs.RuleStore.{rules_more}
use Rattle.kernel.proofs.rule.store.Goals as goal

pub returns : goal.returns
returns c = λ text patterns rs u h is.
    let five : suc (6 * c.args.count + 4) ≡ 6 * c.args.count + 5 = omega arith in (
      c.if-count-ge-RULES.false,
      rw (c.put_span-2.ensures, c.put_span.ensures, row_pasted _ _ (3 * RULEVARS * c.args.count) _ c.write.ensures, five) (rules_more h is c.if-count-ge-RULES.false),
    )
