use Rattle.terms.proofs.Hash.{Hashing}
use Rattle.terms.proofs.store.bucket_of.Given as goal

abbrev pub invariant-loop-word : goal.invariant-loop-word
invariant-loop-word l = Hashing l.node l.h l.word-index
