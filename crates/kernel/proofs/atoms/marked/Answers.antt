use Rattle.sexp.specs.AtomText.{marked_byte}
use Rattle.kernel.proofs.atoms.marked.Goals as goal

pub returns : goal.returns
returns c = marked_byte c.args.text.now c.args.start (c.requires)
