use mathlib.Core.Path.{refl, ap, ◌∙◌}
use Rattle.std.specs.Prelude.{Err}
use Rattle.kernel.proofs.Handed.{handed}
use Rattle.kernel.proofs.Missing.{question_is}
use native.Mathlib.Omega.{arith}
use Rattle.std.proofs.lemmas.Result.{err_from_is_err_and}
use Rattle.reading.proofs.TermBehind.{opens, rest_items, behind_stops, behind_narrow, behind_length, behind_node, behind_kept, behind_full}
use Rattle.reading.specs.Laws.Parts.{first_is, first_not}
use Rattle.reading.proofs.TermItems.{list_items, judgment_atom, judgment_opens, judgment_unopened}
use Rattle.reading.proofs.reader.Reader.judgment.Goals as goal

pub returns-in_err-inner-clause-read_as : goal.returns-in_err-inner-clause-read_as
returns-in_err-inner-clause-read_as c = λ g. rw (handed c.from_residual.result c.from_residual.ensures ∙ ap Err (question_is _ _ c.ok_or.ensures.ok_part c.ok_or.ensures.value c.in_err-inner.was))
    (judgment_atom g (first_not g.holds c.list.ensures c.ok_or.ensures.ok_part c.in_err-inner.was).1)

pub predicate_first-requires : goal.predicate_first-requires
predicate_first-requires c = opens (list_items c.requires (first_is c.requires.holds c.list.ensures c.ok_or.ensures.ok_part c.in_ok-inner.was))

pub returns-in_err-p-clause-read_as : goal.returns-in_err-p-clause-read_as
returns-in_err-p-clause-read_as c = λ g. let p = err_from_is_err_and c.from_residual-in_err-p.result c.from_residual-in_err-p.ensures.1 in
    rw (p.1, p.2) (judgment_unopened g (first_is g.holds c.list.ensures c.ok_or.ensures.ok_part c.in_ok-inner.was) c.in_err-p.ensures)

pub slice_bounds-arguments-count : goal.slice_bounds-arguments-count
slice_bounds-arguments-count c = (judgment_opens c.requires (first_is c.requires.holds c.list.ensures c.ok_or.ensures.ok_part c.in_ok-inner.was) c.in_ok-p.ensures).some

pub slice_bounds-arguments-start : goal.slice_bounds-arguments-start
slice_bounds-arguments-start c = (judgment_opens c.requires (first_is c.requires.holds c.list.ensures c.ok_or.ensures.ok_part c.in_ok-inner.was) c.in_ok-p.ensures).some

pub arguments-requires : goal.arguments-requires
arguments-requires c = let o = judgment_opens c.requires (first_is c.requires.holds c.list.ensures c.ok_or.ensures.ok_part c.in_ok-inner.was) c.in_ok-p.ensures in
    (rest_items c.requires.reads o, o.known, refl)

pub returns-in_err-len-clause-read_as : goal.returns-in_err-len-clause-read_as
returns-in_err-len-clause-read_as c = λ g. let p = err_from_is_err_and c.from_residual-in_err-len.result c.from_residual-in_err-len.ensures.1 in
    rw (p.1, p.2) (behind_stops g.reads (judgment_opens g (first_is g.holds c.list.ensures c.ok_or.ensures.ok_part c.in_ok-inner.was) c.in_ok-p.ensures) _ _ _ _ _ c.in_err-len.ensures.arguments_as)

pub slice_bounds-node-end : goal.slice_bounds-node-end
slice_bounds-node-end c = omega (
  arith,
  behind_narrow c.requires.reads (judgment_opens c.requires (first_is c.requires.holds c.list.ensures c.ok_or.ensures.ok_part c.in_ok-inner.was) c.in_ok-p.ensures) _ _ _ _ c.in_ok-len.ensures.arguments_as,
  c.arguments.auto.node,
)

pub slice_bounds-keep-end : goal.slice_bounds-keep-end
slice_bounds-keep-end c = behind_length c.requires.reads (judgment_opens c.requires (first_is c.requires.holds c.list.ensures c.ok_or.ensures.ok_part c.in_ok-inner.was) c.in_ok-p.ensures) _ _ _ _ c.in_ok-len.ensures.arguments_as c.arguments.auto.node

pub keep-requires : goal.keep-requires
keep-requires c = let n = behind_node c.requires.reads (judgment_opens c.requires (first_is c.requires.holds c.list.ensures c.ok_or.ensures.ok_part c.in_ok-inner.was) c.in_ok-p.ensures) _ _ _ _ c.in_ok-len.ensures.arguments_as in
    record { good = n.0; node = n.1 }

pub returns-in_err-keep-clause-read_as : goal.returns-in_err-keep-clause-read_as
returns-in_err-keep-clause-read_as c = λ g. let p = err_from_is_err_and c.from_residual-in_err-keep.result c.from_residual-in_err-keep.ensures.1 in
    rw (p.1, p.2) (behind_full g.reads (judgment_opens g (first_is g.holds c.list.ensures c.ok_or.ensures.ok_part c.in_ok-inner.was) c.in_ok-p.ensures) _ _ _ _ c.in_ok-len.ensures.arguments_as c.in_err-keep.ensures.kept.says)

pub returns-clause-read_as : goal.returns-clause-read_as
returns-clause-read_as c = λ g. behind_kept g.reads (judgment_opens g (first_is g.holds c.list.ensures c.ok_or.ensures.ok_part c.in_ok-inner.was) c.in_ok-p.ensures) _ _ _ _ c.in_ok-len.ensures.arguments_as c.in_ok-keep.ensures.kept.says
