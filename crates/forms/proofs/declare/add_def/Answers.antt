use mathlib.Core.Path.{refl}
use Rattle.forms.proofs.Abbreviations.{def_fits, def_is_added}
use Rattle.forms.proofs.declare.add_def.Goals as goal

pub put_def-requires : goal.put_def-requires
put_def-requires c = def_fits c.requires c.in_ok-new.ensures.named_as

pub returns-clause-def_as : goal.returns-clause-def_as
returns-clause-def_as c = λ g. (def_is_added g c.in_ok-new.ensures.named_as c.put_def.ensures, refl)
