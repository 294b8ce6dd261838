use Rattle.sexp.specs.Each.{first_list, first_atom}
use Rattle.referring.proofs.Referring.{inner_given, reference_atom, reference_instance}
use Rattle.referring.proofs.source.Source.reference.Goals as goal

pub instance-requires : goal.instance-requires
instance-requires c = record { reads = inner_given c.requires.reads (first_list c.requires.reads.holds c.in-Some.ensures); memo_value = c.requires.memo_value }

pub returns-in-Some-clause-referred_as : goal.returns-in-Some-clause-referred_as
returns-in-Some-clause-referred_as c = λ g. reference_instance g (first_list g.holds c.in-Some.ensures) _ _ _ c.instance.result c.instance.ensures.referred_as

pub returns-in-None-clause-referred_as : goal.returns-in-None-clause-referred_as
returns-in-None-clause-referred_as c = λ g. reference_atom g (first_atom g.holds c.in-None.ensures) c.bare.result (c.bare.ensures _)
