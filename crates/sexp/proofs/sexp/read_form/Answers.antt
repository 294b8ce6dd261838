use mathlib.Core.Path.{refl}
use Rattle.sexp.proofs.Comings.{came}
use Rattle.sexp.proofs.States as states
use Rattle.sexp.proofs.sexp.read_form.Goals as goal

pub returns-in-None : goal.returns-in-None
returns-in-None c = states.ends (states.started _ _ _ c.requires.from_in_bounds c.requires.legible) c.in-None.ensures.steps refl

pub returns-in-Some-Close : goal.returns-in-Some-Close
returns-in-Some-Close c =
    let next = came refl c.in-Some-Close.ensures.steps c.in-Some-Close.field-0-is in
    states.stray (states.started _ _ _ c.requires.from_in_bounds c.requires.legible) next.gives refl

pub returns-in-Some-Atom : goal.returns-in-Some-Atom
returns-in-Some-Atom c =
    let next = came refl c.in-Some-Atom.ensures.steps c.in-Some-Atom.field-0-is in
    rw c.put.ensures (states.word_last (states.started _ _ _ c.requires.from_in_bounds c.requires.legible) next.gives refl)
