use Rattle.std.proofs.Math.Numerals.{add-one-le}
use Rattle.terms.specs.Laws.Zeros.{part_wiped}
use Rattle.terms.proofs.Fresh.{fresh_done}
use Rattle.terms.proofs.substitute.substitute.Goals as goal

pub returns-clause-kept : goal.returns-clause-kept
returns-clause-kept c = fresh_done _ _ _ _ _ _ _ _ c.replace-result.new.memo _ c.replace-result.result c.replace-result.ensures.substituted

pub returns-clause-memo_unchanged : goal.returns-clause-memo_unchanged
returns-clause-memo_unchanged c = part_wiped c.args.memo.now _ (add-one-le c.requires.id_in_bounds.0) c.requires.id_in_bounds.1 c.replace-result.new.memo _ c.replace-result.auto.memo
    c.clear.ensures
