use Rattle.terms.specs.Laws.Empty.{good_empty}
use Rattle.terms_main.proofs.solve.Goals as goal

pub read-requires : goal.read-requires
read-requires g c = good_empty
