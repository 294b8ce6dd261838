use mathlib.Core.Path.{refl, ◌∙◌}
use lib.ListN.{length-set, length-replicate}
use Rattle.rules.specs.Limits.{RULEVARS}
use native.Mathlib.Omega.{arith}
use Rattle.inversion.proofs.InvertNames.{known_var, rule_sort_lem, sort_small, making_start, making_over, making_full, making_more}
use Prim.Native.Nat.{ℕ, ◌+◌}
use Rattle.inversion.proofs.inverting.RuleVars.make.Goals as goal

pub loop-k-init : goal.loop-k-init
loop-k-init c = (omega arith, omega (arith, c.requires.3), refl, refl, c.requires.2, length-replicate {A = ℕ} RULEVARS 0, λ g vs l. making_start vs _ _ _ _)

pub returns-then-v-ge-VARIABLES-clause-made_as : goal.returns-then-v-ge-VARIABLES-clause-made_as
returns-then-v-ge-VARIABLES-clause-made_as c = λ g vs l. making_full (c.loop-k.invariant.6 g vs l) (omega (arith, l)) c.loop-k.invariant.4 refl
    (omega (arith, c.loop-k-test.true, g.many)) c.if-v-ge-VARIABLES.true c.loop-k.invariant.1

pub variable_sort-requires : goal.variable_sort-requires
variable_sort-requires c = known_var c.requires.0 c.loop-k-test.true

pub overflow_cast-names : goal.overflow_cast-names
overflow_cast-names c = omega (arith, sort_small c.requires.0 c.loop-k-test.true (rule_sort_lem c.requires.0 c.loop-k-test.true c.variable_sort.ensures))

pub loop-k-preserved : goal.loop-k-preserved
loop-k-preserved c = (
  omega (arith, c.loop-k-test.true),
  omega (arith, c.if-v-ge-VARIABLES.false),
  c.loop-k.invariant.2,
  c.loop-k.invariant.3,
  length-set {A = ℕ} c.loop-k.names.sorts (c.args.names.now.count + c.loop-k.k) c.variable_sort.result ∙ c.loop-k.invariant.4,
  length-set {A = ℕ} c.loop-k.list c.loop-k.k (c.args.names.now.count + c.loop-k.k) ∙ c.loop-k.invariant.5,
  λ g vs l.
      making_more (c.loop-k.invariant.6 g vs l) (omega (arith, l)) c.loop-k.invariant.4 refl
      (omega (arith, c.loop-k-test.true, g.many)) (omega (arith, c.if-v-ge-VARIABLES.false)) (omega (arith, c.loop-k-test.true, c.requires.1, c.loop-k.invariant.5))
      (rule_sort_lem g c.loop-k-test.true c.variable_sort.ensures) (omega arith),
)

pub returns-clause-made_as : goal.returns-clause-made_as
returns-clause-made_as c = λ g vs l. making_over (c.loop-k.invariant.6 g vs l) (omega (arith, l)) c.loop-k.invariant.4 refl (omega (arith, c.loop-k-test.false, g.many))
    (omega (arith, c.loop-k.invariant.0, g.many)) c.loop-k.invariant.1 (omega (arith, c.loop-k.invariant.0, c.loop-k-test.false))
