use mathlib.Core.Path.{ap, ◌∙◌}
use native.Mathlib.Omega.{arith}
use Rattle.std.specs.Prelude.{Err}
use Rattle.kernel.proofs.Handed.{handed}
use Rattle.kernel.proofs.Missing.{there, absent, question_is}
use Rattle.kernel.proofs.Trees.{symbolic}
use Rattle.kernel.proofs.Words.{head_missing, head_wrong_sort, head_wrong_count, head_written, head_full, constructor_known, known_small}
use Rattle.kernel.proofs.patterns.RuleReader.constructor.Goals as goal

pub constructor_named-requires : goal.constructor_named-requires
constructor_named-requires c = (c.requires.inputs, c.requires.held)

pub returns-in_err-c-clause-head : goal.returns-in_err-c-clause-head
returns-in_err-c-clause-head c = λ T ins h R w.
    rw (handed c.from_residual.result c.from_residual.ensures ∙ ap Err (question_is _ _ c.ok_or.ensures.ok_part c.ok_or.ensures.value c.in_err-c.was))
    (head_missing _ c.args.sort c.args.arity T R h _ (c.constructor_named.ensures T _ h) (absent _ _ c.ok_or.ensures.ok_part c.in_err-c.was))

pub output-output-requires : goal.output-output-requires
output-output-requires c = let held = c.requires.held in
    constructor_known (symbolic held.0) _ _ _ held.1 (there _ _ c.ok_or.ensures.ok_part c.in_ok-c.was) (c.constructor_named.ensures (symbolic held.0) _ held.1)

pub returns-then-output-sort-clause-head : goal.returns-then-output-sort-clause-head
returns-then-output-sort-clause-head c = λ T ins h R w.
    head_wrong_sort _ c.args.sort c.args.arity T R h _ (c.constructor_named.ensures T _ h) _ (there _ _ c.ok_or.ensures.ok_part c.in_ok-c.was) _ c.output-output.ensures c.if-output-sort.true

pub arity-many-requires : goal.arity-many-requires
arity-many-requires c = let held = c.requires.held in
    constructor_known (symbolic held.0) _ _ _ held.1 (there _ _ c.ok_or.ensures.ok_part c.in_ok-c.was) (c.constructor_named.ensures (symbolic held.0) _ held.1)

pub returns-then-many-arity-clause-head : goal.returns-then-many-arity-clause-head
returns-then-many-arity-clause-head c = λ T ins h R w.
    head_wrong_count _ c.args.sort c.args.arity T R h _ (c.constructor_named.ensures T _ h) _ (there _ _ c.ok_or.ensures.ok_part c.in_ok-c.was) _ c.output-output.ensures c.if-output-sort.false _
    c.arity-many.ensures c.if-many-arity.true

pub word-requires : goal.word-requires
word-requires c = let held = c.requires.held in record {
  long = c.requires.long;
  small = omega (arith, known_small (constructor_known (symbolic held.0) _ _ _ held.1 (there _ _ c.ok_or.ensures.ok_part c.in_ok-c.was) (c.constructor_named.ensures (symbolic held.0) _ held.1)));
}

pub returns-in_err-word-clause-head : goal.returns-in_err-word-clause-head
returns-in_err-word-clause-head c = λ T ins h R w. rw (handed c.from_residual-in_err-word.result c.from_residual-in_err-word.ensures)
    (head_full _ c.args.sort c.args.arity T R h _ (c.constructor_named.ensures T _ h) _ (there _ _ c.ok_or.ensures.ok_part c.in_ok-c.was) _ c.output-output.ensures c.if-output-sort.false _
    c.arity-many.ensures c.if-many-arity.false _ _ w c.in_err-word.ensures.put)

pub returns-clause-head : goal.returns-clause-head
returns-clause-head c = λ T ins h R w.
    head_written _ c.args.sort c.args.arity T R h _ (c.constructor_named.ensures T _ h) _ (there _ _ c.ok_or.ensures.ok_part c.in_ok-c.was) _ c.output-output.ensures c.if-output-sort.false _
    c.arity-many.ensures c.if-many-arity.false _ _ w c.requires.long c.in_ok-word.ensures.put
