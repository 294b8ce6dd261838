use Rattle.std.proofs.lemmas.Result.{err_from_is_err_and}
use Rattle.rules.specs.Text.{short, plain}
use Rattle.beginning.proofs.Asks.{left_long, asked}
use Rattle.beginning.proofs.texts.ask.Goals as goal

pub returns-in_err-each : goal.returns-in_err-each
returns-in_err-each c =
    let p = err_from_is_err_and c.from_residual.result c.from_residual.ensures.1 in
    let h = c.in_err-each.ensures short (λ x r h. h) in
    rw (p.1, p.2) (left_long _ h.0 h.1)

pub returns : goal.returns
returns c = asked _ _ _ (c.in_ok-each.ensures short (λ x r h. h)) _ (c.each-2.ensures plain (λ x r h. h))
