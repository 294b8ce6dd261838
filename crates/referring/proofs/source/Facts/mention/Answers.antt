use native.Mathlib.Omega.{arith}
use Rattle.referring.specs.Laws.ScopeFacts.{fact_there, judgment_ready, premises_ready, mention_done}
use Rattle.referring.proofs.source.Facts.mention.Goals as goal

pub judgment-requires : goal.judgment-requires
judgment-requires c = fact_there c.requires.recalls.0 c.requires.recalls.1

pub visit-requires-clause-readable : goal.visit-requires-clause-readable
visit-requires-clause-readable c = judgment_ready c.requires.recalls.0 c.requires.recalls.1 c.judgment.ensures (omega arith) (omega arith)

pub visit_all-requires-clause-readable_all : goal.visit_all-requires-clause-readable_all
visit_all-requires-clause-readable_all c = premises_ready c.requires.recalls.0 c.requires.recalls.1 c.premises.ensures

pub returns : goal.returns
returns c = λ g. mention_done g c.requires.recalls.1 c.premises.ensures c.judgment.ensures c.visit.ensures c.visit_all.ensures
