use native.Mathlib.Omega.{arith}
use mathlib.Core.Path.{refl, sym, ap, ◌∙◌}
use Rattle.std.specs.Prelude.{Err}
use Rattle.kernel.proofs.Missing.{there, absent, question_is}
use Rattle.kernel.proofs.Handed.{handed}
use Rattle.derivation.proofs.OneItem.{bind_names, bind_unnamed, bind_known, bind_small, bind_fits, bind_twice, bind_done, bind_refused, said_cell, said_bound, some_stated, none_stated}
use Rattle.derivation.proofs.items.Said.bind_item.Goals as goal

pub rule_var_named-requires : goal.rule_var_named-requires
rule_var_named-requires c = bind_names c.requires.0 c.variables-count.ensures

pub returns-in_err-i-clause-item_as : goal.returns-in_err-i-clause-item_as
returns-in_err-i-clause-item_as c = λ g.
    rw (handed c.from_residual.result c.from_residual.ensures ∙ ap Err (question_is _ _ c.ok_or.ensures.ok_part c.ok_or.ensures.value c.in_err-i.was))
    (bind_unnamed g c.variables-count.ensures c.args.start c.atom-name.ensures c.rule_var_named.ensures (absent _ _ c.ok_or.ensures.ok_part c.in_err-i.was), refl)

pub variable_sort-requires : goal.variable_sort-requires
variable_sort-requires c = bind_known c.requires.0 c.variables-count.ensures c.args.start c.atom-name.ensures c.rule_var_named.ensures (there _ _ c.ok_or.ensures.ok_part c.in_ok-i.was)

pub returns-in_err-term-clause-item_as : goal.returns-in_err-term-clause-item_as
returns-in_err-term-clause-item_as c = λ g. rw (handed c.from_residual-in_err-term.result c.from_residual-in_err-term.ensures) (
  bind_refused g c.variables-count.ensures c.args.start c.atom-name.ensures c.rule_var_named.ensures (there _ _ c.ok_or.ensures.ok_part c.in_ok-i.was) c.variable_sort.ensures
      c.in_err-term.ensures.read_as,
  refl,
)

pub bounds-self-i : goal.bounds-self-i
bounds-self-i c = bind_small c.requires.0 c.variables-count.ensures c.args.start c.atom-name.ensures c.rule_var_named.ensures (there _ _ c.ok_or.ensures.ok_part c.in_ok-i.was)

pub offset_bounds-self-i : goal.offset_bounds-self-i
offset_bounds-self-i c = omega (arith, bind_small c.requires.0 c.variables-count.ensures c.args.start c.atom-name.ensures c.rule_var_named.ensures (there _ _ c.ok_or.ensures.ok_part c.in_ok-i.was))

pub offset_bounds-self-i-2 : goal.offset_bounds-self-i-2
offset_bounds-self-i-2 c = omega (arith, bind_small c.requires.0 c.variables-count.ensures c.args.start c.atom-name.ensures c.rule_var_named.ensures (there _ _ c.ok_or.ensures.ok_part c.in_ok-i.was))

pub returns-then-is_some-clause-item_as : goal.returns-then-is_some-clause-item_as
returns-then-is_some-clause-item_as c = λ g.
    let i = bind_small g c.variables-count.ensures c.args.start c.atom-name.ensures c.rule_var_named.ensures (there _ _ c.ok_or.ensures.ok_part c.in_ok-i.was) in (
      bind_twice g c.variables-count.ensures c.args.start c.atom-name.ensures c.rule_var_named.ensures (there _ _ c.ok_or.ensures.ok_part c.in_ok-i.was) c.variable_sort.ensures c.in_ok-term.ensures.read_as
          (λ z. some_stated _ c.is_some.ensures c.if-is_some.true (sym (said_cell c.args.self.now.bound c.in_ok-i.i _ g.so_far i) ∙ z)),
      refl,
    )

pub bounds-self-i-2 : goal.bounds-self-i-2
bounds-self-i-2 c = bind_small c.requires.0 c.variables-count.ensures c.args.start c.atom-name.ensures c.rule_var_named.ensures (there _ _ c.ok_or.ensures.ok_part c.in_ok-i.was)

pub overflow_cast-self : goal.overflow_cast-self
overflow_cast-self c = omega (
  arith,
  bind_fits c.requires.0 c.variables-count.ensures c.args.start c.atom-name.ensures c.rule_var_named.ensures (there _ _ c.ok_or.ensures.ok_part c.in_ok-i.was) c.variable_sort.ensures
      c.in_ok-term.ensures.read_as,
)

pub returns-clause-item_as : goal.returns-clause-item_as
returns-clause-item_as c = λ g.
    let i = bind_small g c.variables-count.ensures c.args.start c.atom-name.ensures c.rule_var_named.ensures (there _ _ c.ok_or.ensures.ok_part c.in_ok-i.was) in
    said_bound c.args.self.now.bound c.in_ok-i.i _ (bind_done g c.variables-count.ensures c.args.start c.atom-name.ensures c.rule_var_named.ensures (there _ _ c.ok_or.ensures.ok_part c.in_ok-i.was)
    c.variable_sort.ensures c.in_ok-term.ensures.read_as (said_cell c.args.self.now.bound c.in_ok-i.i _ g.so_far i ∙ none_stated _ c.is_some.ensures c.if-is_some.false))
