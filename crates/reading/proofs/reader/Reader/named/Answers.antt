use mathlib.Core.Path.{ap, ◌∙◌}
use native.Mathlib.Omega.{arith}
use Rattle.std.specs.Prelude.{Err}
use Rattle.kernel.proofs.Handed.{handed}
use Rattle.kernel.proofs.Missing.{there, absent, question_is}
use Rattle.std.proofs.lemmas.Result.{err_from_is_err_and}
use Rattle.terms.specs.On.{refused_stopped}
use Rattle.reading.proofs.Leaves.{kept_typed, var_asks, var_kept, var_sorted, var_kept_is, name_unknown, constant_small, constant_known, constant_kept, constant_sorted, name_many, constant_typed}
use Rattle.reading.proofs.reader.Reader.named.Goals as goal

pub var_sort-sort-requires : goal.var_sort-sort-requires
var_sort-sort-requires c = var_asks c.requires c.args.name.now ((rw c.var_table.ensures at c.named.ensures) _ c.requires.vars_are) c.in-Some.v c.in-Some.is

pub keep_var-requires : goal.keep_var-requires
keep_var-requires c = var_kept c.requires c.args.name.now ((rw c.var_table.ensures at c.named.ensures) _ c.requires.vars_are) c.in-Some.v c.in-Some.is

pub constructor_named-requires : goal.constructor_named-requires
constructor_named-requires c = rw c.symbol_table-known.ensures (c.requires.inputs, (c.requires.S.theory.symbols, c.requires.held))

pub returns-in_err-c-clause-typed_as : goal.returns-in_err-c-clause-typed_as
returns-in_err-c-clause-typed_as c = λ g.
    rw (handed c.from_residual-in_err-c.result c.from_residual-in_err-c.ensures ∙ ap Err (question_is _ _ c.ok_or.ensures.ok_part c.ok_or.ensures.value c.in_err-c.was))
    (name_unknown g c.args.name.now ((rw c.var_table.ensures at c.named.ensures) _ g.vars_are) c.in_default.is
    ((rw c.symbol_table-known.ensures at c.constructor_named.ensures) g.S.theory _ g.held) (absent _ _ c.ok_or.ensures.ok_part c.in_err-c.was))

pub arity-requires : goal.arity-requires
arity-requires c = rw c.symbol_table-known.ensures (constant_known c.requires c.args.name.now ((rw c.var_table.ensures at c.named.ensures) _ c.requires.vars_are) c.in_default.is
    ((rw c.symbol_table-known.ensures at c.constructor_named.ensures) c.requires.S.theory _ c.requires.held) _ (there _ _ c.ok_or.ensures.ok_part c.in_ok-c.was))

pub returns-then-arity-ne0-clause-typed_as : goal.returns-then-arity-ne0-clause-typed_as
returns-then-arity-ne0-clause-typed_as c = λ g. name_many g c.args.name.now ((rw c.var_table.ensures at c.named.ensures) _ g.vars_are) c.in_default.is
    ((rw c.symbol_table-known.ensures at c.constructor_named.ensures) g.S.theory _ g.held) _ (there _ _ c.ok_or.ensures.ok_part c.in_ok-c.was) (rw c.symbol_table-known.ensures at c.arity.ensures) c.if-arity-ne0.true

pub overflow_cast-node : goal.overflow_cast-node
overflow_cast-node c = omega (
  arith,
  constant_small c.requires c.args.name.now ((rw c.var_table.ensures at c.named.ensures) _ c.requires.vars_are) c.in_default.is
      ((rw c.symbol_table-known.ensures at c.constructor_named.ensures) c.requires.S.theory _ c.requires.held) _ (there _ _ c.ok_or.ensures.ok_part c.in_ok-c.was),
)

pub output-requires : goal.output-requires
output-requires c = rw c.symbol_table-known.ensures (constant_known c.requires c.args.name.now ((rw c.var_table.ensures at c.named.ensures) _ c.requires.vars_are) c.in_default.is
    ((rw c.symbol_table-known.ensures at c.constructor_named.ensures) c.requires.S.theory _ c.requires.held) _ (there _ _ c.ok_or.ensures.ok_part c.in_ok-c.was))

pub keep_typed-requires : goal.keep_typed-requires
keep_typed-requires c = constant_kept c.requires c.args.name.now ((rw c.var_table.ensures at c.named.ensures) _ c.requires.vars_are) c.in_default.is
    ((rw c.symbol_table-known.ensures at c.constructor_named.ensures) c.requires.S.theory _ c.requires.held) _ (there _ _ c.ok_or.ensures.ok_part c.in_ok-c.was)

pub returns-in_err-term-clause-typed_as : goal.returns-in_err-term-clause-typed_as
returns-in_err-term-clause-typed_as c = λ g. let p = err_from_is_err_and c.from_residual.result c.from_residual.ensures.1 in
    rw (p.1, p.2, var_kept_is g c.args.name.now ((rw c.var_table.ensures at c.named.ensures) _ g.vars_are) c.in-Some.v c.in-Some.is) (refused_stopped c.in_err-term.ensures.kept.says)

pub returns-in-Some-clause-typed_as : goal.returns-in-Some-clause-typed_as
returns-in-Some-clause-typed_as c = λ g. let v = (rw c.var_table.ensures at c.named.ensures) _ g.vars_are in
    rw (var_kept_is g c.args.name.now v c.in-Some.v c.in-Some.is) (kept_typed g.S c.in_ok-term.ensures.kept.says (var_sorted g c.args.name.now v c.in-Some.v c.in-Some.is c.var_sort-sort.ensures))

pub returns-clause-typed_as : goal.returns-clause-typed_as
returns-clause-typed_as c = λ g. constant_typed g c.args.name.now ((rw c.var_table.ensures at c.named.ensures) _ g.vars_are) c.in_default.is
    ((rw c.symbol_table-known.ensures at c.constructor_named.ensures) g.S.theory _ g.held) _ (there _ _ c.ok_or.ensures.ok_part c.in_ok-c.was) (rw c.symbol_table-known.ensures at c.arity.ensures) c.if-arity-ne0.false
    c.keep_typed.new.store.index.now c.keep_typed.new.store.words.now c.keep_typed.new.store.mark c.keep_typed.result
    (c.keep_typed.ensures.typed_as g.S
    (constant_sorted g c.args.name.now ((rw c.var_table.ensures at c.named.ensures) _ g.vars_are) c.in_default.is
    ((rw c.symbol_table-known.ensures at c.constructor_named.ensures) g.S.theory _ g.held) _ (there _ _ c.ok_or.ensures.ok_part c.in_ok-c.was) (rw c.symbol_table-known.ensures at c.output.ensures)))
