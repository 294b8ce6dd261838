use mathlib.Core.Path.{sym, ◌∙◌}
use native.Mathlib.Omega.{arith}
use Rattle.state.proofs.Named.{var_row_in, var_order, in_goals, in_text, name_inside, name_is}
use Rattle.state.proofs.vars.VarTable.is_var.Goals as goal

pub span_at-span-requires : goal.span_at-span-requires
span_at-span-requires c = omega (arith, var_row_in c.requires.0.1 c.args.i c.requires.1)

pub bounds-self-at : goal.bounds-self-at
bounds-self-at c = omega (arith, var_row_in c.requires.0.1 c.args.i c.requires.1)

pub of-requires : goal.of-requires
of-requires c = rw c.span_at-span.ensures (
  var_order c.requires.0.1 c.args.i c.requires.1,
  name_inside c.requires c.args.self.now.goals.now (in_goals c.args.self.now.goals.now c.args.self.now.text.now _ (c.if-self-at.true ∙ c.number.ensures)),
)

pub returns-then-self-at : goal.returns-then-self-at
returns-then-self-at c =
    name_is c.requires c.args.self.now.goals.now
    (in_goals c.args.self.now.goals.now c.args.self.now.text.now _ (c.if-self-at.true ∙ c.number.ensures))
    c.args.name.now (rw (c.of.ensures, c.span_at-span.ensures) at c.same.ensures)

pub of-requires-2 : goal.of-requires-2
of-requires-2 c = rw c.span_at-span.ensures (
  var_order c.requires.0.1 c.args.i c.requires.1,
  name_inside c.requires c.args.self.now.text.now
      (in_text c.args.self.now.goals.now c.args.self.now.text.now _ (λ e. c.if-self-at.false (e ∙ sym c.number.ensures))),
)

pub returns : goal.returns
returns c =
    name_is c.requires c.args.self.now.text.now
    (in_text c.args.self.now.goals.now c.args.self.now.text.now _ (λ e. c.if-self-at.false (e ∙ sym c.number.ensures)))
    c.args.name.now (rw (c.of-2.ensures, c.span_at-span.ensures) at c.same-2.ensures)
