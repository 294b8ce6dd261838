use mathlib.Core.Path.{refl}
use lib.ListN.{replicate}
use Rattle.rules.specs.Limits.{VARIABLEWORDS}
use Rattle.terms.specs.Sets.{holds}
use Rattle.terms.specs.Laws.Seen.{seen_none}
use Rattle.referring.specs.Laws.ScopeFree.{general_fits, free_done}
use Rattle.referring.proofs.source.Facts.mention_free.Goals as goal

pub mention-requires-clause-seen : goal.mention-requires-clause-seen
mention-requires-clause-seen c = seen_none _ _ _ _ _ refl

pub insert_all-requires : goal.insert_all-requires
insert_all-requires c = general_fits c.requires.0 c.requires.1 c.general.ensures (replicate VARIABLEWORDS 0) refl

pub returns : goal.returns
returns c = λ g. free_done g c.requires.1 c.general.ensures (holds c.args.set.now) (c.mention.ensures g) c.insert_all.ensures c.minus_from.ensures
    c.union_into.ensures
