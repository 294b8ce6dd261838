use Rattle.sexp.specs.WalkLaws.{spells_item}
use Rattle.rules.specs.Sexp.{item}
use Rattle.sexp.specs.Items.{place}
use Rattle.kernel.proofs.symbols.proper_at.Goals as goal

pub proper-requires : goal.proper-requires
proper-requires c = (
  item c.requires.xs c.args.number,
  place c.requires.xs c.args.number,
  c.nth-item.ensures c.requires.xs c.requires.holds.cells,
  spells_item c.requires.holds c.args.number,
)

pub returns : goal.returns
returns c = λ xs h. c.proper.ensures (item xs c.args.number) (place xs c.args.number) (c.nth-item.ensures xs h.cells) (spells_item h c.args.number)
