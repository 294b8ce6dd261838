use native.Mathlib.Omega.{arith}
use Rattle.terms.proofs.Forgets.{last_fits, last_unlinks, last_gone}
use Rattle.terms.proofs.store.Store.drop_last.Goals as goal

pub unlink-requires : goal.unlink-requires
unlink-requires c = last_unlinks c.args.self.now.index.now c.args.self.now.words.now c.args.self.now.mark c.requires _ (rw c.terms-terms.ensures at (rw c.node.ensures at c.bucket_of-bucket.ensures))

pub offset_bounds-self-start : goal.offset_bounds-self-start
offset_bounds-self-start c = omega (arith, last_fits c.args.self.now.index.now c.args.self.now.words.now c.args.self.now.mark c.requires _ (rw c.terms-terms.ensures at c.start_of-start.ensures))

pub slice_bounds-clear-count : goal.slice_bounds-clear-count
slice_bounds-clear-count c = omega (arith, last_fits c.args.self.now.index.now c.args.self.now.words.now c.args.self.now.mark c.requires _ (rw c.terms-terms.ensures at c.start_of-start.ensures))

pub slice_bounds-clear-start : goal.slice_bounds-clear-start
slice_bounds-clear-start c = omega (arith, last_fits c.args.self.now.index.now c.args.self.now.words.now c.args.self.now.mark c.requires _ (rw c.terms-terms.ensures at c.start_of-start.ensures))

pub returns-clause-back : goal.returns-clause-back
returns-clause-back c = last_gone c.args.self.now.index.now c.args.self.now.words.now c.args.self.now.mark c.requires _ (rw c.terms-terms.ensures at c.start_of-start.ensures) _ (rw c.terms-terms.ensures at (rw c.node.ensures at c.bucket_of-bucket.ensures)) _ c.unlink.ensures _ c.clear.ensures

pub returns-clause-mark : goal.returns-clause-mark
returns-clause-mark c = omega (arith, last_fits c.args.self.now.index.now c.args.self.now.words.now c.args.self.now.mark c.requires _ (rw c.terms-terms.ensures at c.start_of-start.ensures))
