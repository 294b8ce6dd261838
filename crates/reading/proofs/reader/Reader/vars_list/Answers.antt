use mathlib.Core.Path.{refl, ap, ◌∙◌}
use mathlib.Core.Bool.{not}
use Rattle.sexp.specs.Each.{first_atom, first_list}
use Rattle.reading.proofs.Variables.{atom_none, items_inside, vars_some, vars_none}
use Rattle.reading.proofs.reader.Reader.vars_list.Goals as goal

pub returns-in_err-inner : goal.returns-in_err-inner
returns-in_err-inner c = λ g. rw c.from_residual.ensures (atom_none g.S.vars g.x _ _ (first_atom g.holds c.in_err-inner.ensures).1.is, refl)

pub vars_each-count-requires : goal.vars_each-count-requires
vars_each-count-requires c = (items_inside c.requires.0 (first_list c.requires.0.holds c.in_ok-inner.ensures), c.requires.1)

pub returns-else-is_none : goal.returns-else-is_none
returns-else-is_none c = λ g. vars_some g (first_list g.holds c.in_ok-inner.ensures) _ _ c.vars_each-count.ensures c.args.out.now (c.is_none.ensures ∙ ap not c.if-is_none.false)

pub returns-then-is_none : goal.returns-then-is_none
returns-then-is_none c = λ g. vars_none g (first_list g.holds c.in_ok-inner.ensures) _ _ c.vars_each-count.ensures (c.is_none.ensures ∙ ap not c.if-is_none.true) c.requires.1 c.vars_each-count.auto.out c.clear.ensures
