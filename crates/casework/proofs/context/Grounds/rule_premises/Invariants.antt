use mathlib.Core.Path.{◌≡◌}
use Prim.Native.Nat.{◌-◌}
use Rattle.rules.specs.Theory.{rule}
use Rattle.terms.specs.Lent.{SameTables}
use Rattle.state.specs.declared.sizes.Sizes.{Sizes}
use Rattle.casework.specs.Context.{RenamedIn}
use Rattle.casework.proofs.Premises.{Premising}
use Rattle.casework.proofs.context.Grounds.rule_premises.Given as goal

abbrev pub invariant-loop : goal.invariant-loop
invariant-loop l =
    let s = l.initial.store in
    let t = l.store in
    record {
      tables : SameTables s t;
      memo_same : l.memo ≡ l.initial.memo;
      own_same : l.self.own ≡ l.initial.self.own;
      fine_same : l.self.fine ≡ l.initial.self.fine;
      premising : (n : Sizes) (g : RenamedIn l.rules l.symbols n s l.renamed) →
          Premising l.symbols l.rules.patterns.now s.index.now s.words.now s.mark g.xs l.renamed.theta.now (rule g.T l.renamed.rule).premises l.initial.self.plain
          t.index.now t.words.now l.self.plain t.mark l.place (l.end - l.counter);
    }
