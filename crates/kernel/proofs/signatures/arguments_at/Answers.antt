use mathlib.Core.Path.{ap, subst, ◌∙◌}
use Rattle.std.specs.Prelude.{Err}
use Rattle.rules.specs.Sexp.{item}
use Rattle.kernel.specs.Held.{ArgumentsRead}
use Rattle.kernel.proofs.Handed.{handed}
use Rattle.kernel.proofs.Lists.{list_is, list_not}
use Rattle.kernel.proofs.Missing.{question_is}
use Rattle.kernel.proofs.Arguments.{arguments_atom, arguments_list}
use Rattle.kernel.proofs.signatures.arguments_at.Goals as goal

pub returns-in_err-arguments : goal.returns-in_err-arguments
returns-in_err-arguments c = λ T xs h k n.
    rw (handed c.from_residual.result c.from_residual.ensures ∙ ap Err (question_is _ _ c.ok_or.ensures.ok_part c.ok_or.ensures.value c.in_err-arguments.was))
    (arguments_atom T (item xs 2) (list_not c.list.ensures c.ok_or.ensures.ok_part c.in_err-arguments.was _ xs k n).1)

pub argument_sorts-requires : goal.argument_sorts-requires
argument_sorts-requires c =
    let list = list_is c.list.ensures c.ok_or.ensures.ok_part c.in_ok-arguments.was _ c.requires.reaching.xs c.requires.reaching.holds c.requires.reaching.there in
    record { xs = list.items; holds = list.holds; held = c.requires.some_sorts; long = c.requires.row_len }

pub returns : goal.returns
returns c = λ T xs h k n.
    let list = list_is c.list.ensures c.ok_or.ensures.ok_part c.in_ok-arguments.was _ xs k n in
    subst (λ z. ArgumentsRead c.args.row.now c.argument_sorts.new.row 0 z c.argument_sorts.result)
    (arguments_list T (item xs 2) list) (c.argument_sorts.ensures T _ h list.holds)
