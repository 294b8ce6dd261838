-- `tariff::tariff_check` meets its contract: the check, and its answer as eight numbers. Assumes nothing.
use Rattle.tariff.proofs.tariff_check.Goals as goal

pub returns : goal.returns
returns c = (record { answer = c.check-result.result; call = c.check-result.ensures.0; told = c.tell.ensures }, c.check-result.ensures.1)
