use native.Mathlib.Omega.{arith}
use Rattle.referring.proofs.ScopeCells.{no_term, term_readable, term_visited}
use Rattle.referring.proofs.scope.visit_one.Goals as goal

pub returns-in_default : goal.returns-in_default
returns-in_default c = no_term c.requires.readable_cells _ _ c.in_default.is c.requires.seen

pub visit-requires-clause-readable : goal.visit-requires-clause-readable
visit-requires-clause-readable c = term_readable c.requires.readable_cells _ _ c.in-Some.is (omega arith) (omega arith)

pub returns-in-Some : goal.returns-in-Some
returns-in-Some c = term_visited c.requires.readable_cells _ _ c.in-Some.is c.visit.new.seen c.visit.new.set c.visit.ensures
