use Rattle.terms.proofs.SetsOut.{all_begins, all_asks, all_on, all_done}
use Rattle.terms.proofs.sets.write_out.Goals as goal

pub loop-i-init : goal.loop-i-init
loop-i-init c = all_begins _ _ c.requires.set_len_bound c.requires.set_in_bounds

pub write_word-n-requires : goal.write_word-n-requires
write_word-n-requires c = all_asks _ _ _ _ _ c.loop-i.invariant c.loop-i-test.true

pub loop-i-preserved : goal.loop-i-preserved
loop-i-preserved c = all_on _ _ _ _ _ c.loop-i.invariant c.loop-i-test.true _ _ c.write_word-n.auto.out c.write_word-n.ensures

pub returns : goal.returns
returns c = all_done _ _ _ _ _ c.loop-i.invariant c.loop-i-test.false
