use Rattle.casework.specs.Laws.Loops.{Unbinding}
use Rattle.casework.proofs.context.unbind.Given as goal

abbrev pub invariant-loop-v : goal.invariant-loop-v
invariant-loop-v l = Unbinding l.variables l.initial.map l.map l.v-index
