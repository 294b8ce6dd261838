use Rattle.terms.proofs.Hash.{hashing_begins, hashing_on, hashing_ends}
use Rattle.terms.proofs.store.bucket_of.Goals as goal

pub loop-word-init : goal.loop-word-init
loop-word-init c = hashing_begins _

pub loop-word-preserved : goal.loop-word-preserved
loop-word-preserved c = hashing_on _ _ _ c.loop-word.invariant c.loop-word-test.true

pub returns : goal.returns
returns c = hashing_ends _ _ _ c.loop-word.invariant c.loop-word-test.false
