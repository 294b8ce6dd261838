use mathlib.Core.Path.{refl, ap}
use mathlib.Core.Bool.{not}
use native.Mathlib.Omega.{arith}
use Rattle.inversion.proofs.InvertCaseVars.{case_never, case_fits, case_long, case_words, case_suits, case_unsuited, case_short, case_taken, case_new}
use Rattle.inversion.proofs.inverting.Inverting.case_vars.Goals as goal
use Rattle.inversion.proofs.inverting.Inverting.case_vars.Goals.{then-not-suits-via-then-not-suits, then-not-suits-via-else-not-suits+then-not-none_in}

pub returns-in_err-case : goal.returns-in_err-case
returns-in_err-case c = λ g. case_never g (λ w M. (c.in_err-case.ensures w).0 M)

pub shared_ref_as_front-own : goal.shared_ref_as_front-own
shared_ref_as_front-own c = case_fits c.requires c.in_ok-case.ensures

pub slice_bounds-own-end : goal.slice_bounds-own-end
slice_bounds-own-end c = case_long c.requires c.in_ok-case.ensures

pub suits-requires : goal.suits-requires
suits-requires c = case_suits c.requires c.in_ok-case.ensures

pub returns-then-not-suits : goal.returns-then-not-suits
returns-then-not-suits c = λ g. (
  refl,
  elim c.then-not-suits.branch [
    | then-not-suits-via-then-not-suits w ↦ case_unsuited g c.in_ok-case.ensures c.suits.ensures c.args.taken.now (ap not w.if-not-suits.true)
    | then-not-suits-via-else-not-suits+then-not-none_in w ↦ case_taken g c.in_ok-case.ensures c.suits.ensures
        (ap not w.if-not-suits.false) c.args.taken.now w.none_in.ensures (ap not w.if-not-none_in.true)
  ],
)

pub none_in-requires : goal.none_in-requires
none_in-requires c = case_words c.requires c.in_ok-case.ensures c.args.taken.now (omega arith)

pub insert_all-requires : goal.insert_all-requires
insert_all-requires c = case_words c.requires c.in_ok-case.ensures c.args.taken.now (omega arith)

pub write-requires : goal.write-requires
write-requires c = omega (arith, case_short c.requires c.in_ok-case.ensures c.suits.ensures (ap not c.if-not-suits.false))

pub returns : goal.returns
returns c = λ g. case_new g c.in_ok-case.ensures c.suits.ensures
    (ap not c.if-not-suits.false) c.args.taken.now c.none_in.ensures _ (ap not c.if-not-none_in.false) c.insert_all.ensures c.write.ensures
