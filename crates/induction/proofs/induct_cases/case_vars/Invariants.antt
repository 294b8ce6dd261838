use Rattle.induction.proofs.CaseNames.{Naming}
use Rattle.induction.proofs.induct_cases.case_vars.Given as goal

abbrev pub invariant-loop-k : goal.invariant-loop-k
invariant-loop-k l =
    Naming l.reader.goals.now l.reader.text.now l.reader.vars.now l.reader.n.vars l.sorts l.used l.cells l.own l.seen l.k-iterator.count l.k-iterator.iter
