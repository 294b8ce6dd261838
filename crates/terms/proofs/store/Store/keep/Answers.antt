use Rattle.std.proofs.Common.{◌∙◌, sym}
use Rattle.terms.proofs.Keeps.{keep_there, keep_row_8, keep_row_9, keep_made, keep_links}
use Rattle.terms.proofs.store.Store.keep.Goals as goal

pub returns-in-Some-clause-kept : goal.returns-in-Some-clause-kept
returns-in-Some-clause-kept c = record { says = keep_there c.args.self.now.index.now c.args.self.now.words.now c.args.self.now.mark c.args.node.now c.requires.good c.requires.node _ (sym c.in-Some.is ∙ (rw c.terms-terms.ensures at c.find.ensures)) }

pub returns-then-id-ge-TERMS-clause-kept : goal.returns-then-id-ge-TERMS-clause-kept
returns-then-id-ge-TERMS-clause-kept c = record { says = keep_row_8 c.args.self.now.index.now c.args.self.now.words.now c.args.self.now.mark c.args.node.now c.requires.good c.requires.node (sym c.in_default.is ∙ (rw c.terms-terms.ensures at c.find.ensures)) c.if-id-ge-TERMS.true }

pub returns-then-terms-end-clause-kept : goal.returns-then-terms-end-clause-kept
returns-then-terms-end-clause-kept c = record { says = keep_row_9 c.args.self.now.index.now c.args.self.now.words.now c.args.self.now.mark c.args.node.now c.requires.good c.requires.node (sym c.in_default.is ∙ (rw c.terms-terms.ensures at c.find.ensures)) c.if-id-ge-TERMS.false (rw c.terms-terms.ensures at c.if-terms-end.true) }

pub link-requires : goal.link-requires
link-requires c = keep_links c.args.self.now.index.now c.args.self.now.words.now c.args.self.now.mark c.args.node.now c.requires.good _ c.bucket_of-bucket.ensures c.if-id-ge-TERMS.false (rw c.terms-terms.ensures at c.if-terms-end.false)

pub returns-clause-kept : goal.returns-clause-kept
returns-clause-kept c = record { says = keep_made c.args.self.now.index.now c.args.self.now.words.now c.args.self.now.mark c.args.node.now c.requires.good c.requires.node _ c.bucket_of-bucket.ensures (sym c.in_default.is ∙ (rw c.terms-terms.ensures at c.find.ensures)) c.if-id-ge-TERMS.false (rw c.terms-terms.ensures at c.if-terms-end.false) _ (rw c.terms-terms.ensures at c.has_variable-has_variable.ensures) _ c.link.ensures _ c.write_node.ensures }
