use mathlib.Core.Path.{refl}
use Rattle.kernel.proofs.Handed.{handed}
use Rattle.derivation.proofs.OneItem.{some_stated, none_stated, state_twice, state_done, state_refused}
use Rattle.derivation.proofs.items.Said.state_item.Goals as goal

pub returns-in_err-judgment-clause-item_as : goal.returns-in_err-judgment-clause-item_as
returns-in_err-judgment-clause-item_as c = λ g it k. rw (handed c.from_residual.result c.from_residual.ensures) (state_refused g it k c.in_err-judgment.ensures.read_as, refl)

pub returns-then-is_some-clause-item_as : goal.returns-then-is_some-clause-item_as
returns-then-is_some-clause-item_as c = λ g it k. (state_twice g it k c.in_ok-judgment.ensures.read_as (some_stated c.args.self.now.stated c.is_some.ensures c.if-is_some.true), refl)

pub returns-clause-item_as : goal.returns-clause-item_as
returns-clause-item_as c = λ g it k. state_done g it k c.in_ok-judgment.ensures.read_as (none_stated c.args.self.now.stated c.is_some.ensures c.if-is_some.false)
