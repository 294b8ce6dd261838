use mathlib.Core.Path.{sym, ap, subst, ◌∙◌}
use Rattle.std.specs.Prelude.{Err}
use Rattle.sexp.specs.Each.{first_atom, first_list}
use Rattle.kernel.specs.Parsed.{DeclaredAs}
use Rattle.kernel.specs.Tables.{lists_of}
use Rattle.kernel.proofs.Handed.{handed}
use Rattle.kernel.proofs.Lists.{list_is, list_not}
use Rattle.kernel.proofs.Missing.{question_is}
use Rattle.kernel.proofs.Tagged.{alone, form_atom_lem, form_declares}
use Rattle.kernel.proofs.declare.declare.Goals as goal

pub returns-in_err-inner-clause-declared : goal.returns-in_err-inner-clause-declared
returns-in_err-inner-clause-declared c = λ T x h k.
    rw (handed c.from_residual.result c.from_residual.ensures ∙ ap Err (question_is _ _ c.ok_or.ensures.ok_part c.ok_or.ensures.value c.in_err-inner.was))
    (form_atom_lem k (first_atom (alone k) (list_not c.list.ensures c.ok_or.ensures.ok_part c.in_err-inner.was)).1 T, h)

pub declare_items-requires : goal.declare_items-requires
declare_items-requires c =
    let list = first_list (alone c.requires.formed) (list_is c.list.ensures c.ok_or.ensures.ok_part c.in_ok-inner.was) in
    record { xs = list.items; holds = list.holds; T = c.requires.T; held = c.requires.held; short = c.requires.short }

pub returns-clause-declared : goal.returns-clause-declared
returns-clause-declared c = λ T x h k.
    let list = first_list (alone k) (list_is c.list.ensures c.ok_or.ensures.ok_part c.in_ok-inner.was) in
    subst (λ z. DeclaredAs c.args.text.now (lists_of c.declare_items.new.tables) c.declare_items.new.tables.held T z c.declare_items.result)
    (sym (form_declares k list T)) (c.declare_items.ensures.declared T list.items h list.holds)
