use Rattle.std.proofs.Common.{refl}
use Rattle.running.specs.Finished.{unproved}
use Rattle.running.proofs.Listing.{listed_other}
use Rattle.running.proofs.finish.carry.Goals as goal

pub returns-in_default : goal.returns-in_default
returns-in_default c = record { refusal = refl; list = λ g. listed_other (unproved g.gs) c.in_default.not-MissingResults c.requires.1 }
