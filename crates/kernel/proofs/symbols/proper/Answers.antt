use mathlib.Core.Path.{refl, sym, ◌∙◌}
use Rattle.sexp.specs.FirstItem.{atom_inside}
use Rattle.kernel.proofs.Spellings.{proper_marked, proper_name_lem, proper_list}
use Rattle.kernel.proofs.symbols.proper.Goals as goal

pub returns-in_default : goal.returns-in_default
returns-in_default c = λ x at e s. proper_list c.in_default.is x at e

pub marked-requires : goal.marked-requires
marked-requires c = atom_inside c.args.text.now c.in-Atom.is (c.requires)

pub returns-then-marked : goal.returns-then-marked
returns-then-marked c = λ x at e s. proper_marked c.args.text.now c.in-Atom.is x at e s (sym c.marked.ensures ∙ c.if-marked.true)

pub returns : goal.returns
returns c = λ x at e s. rw c.atom_span.ensures (proper_name_lem c.args.text.now c.in-Atom.is x at e s (sym c.marked.ensures ∙ c.if-marked.false) _ refl)
