use native.Mathlib.Omega.{arith}
use Rattle.terms.proofs.Matches.{reads_in}
use Rattle.terms.proofs.MatchTerms.{above_all, bound_in, bound_new, bound_meets, term_head, term_count, args_asked, args_below, args_tried}
use Rattle.terms.proofs.MatchLists.{listing_begins, listing_asks, listing_miss, listing_on, listing_ends}
use Rattle.terms.proofs.patterns.Patterns.+matching.Goals as goal

pub match_term-offset_bounds-self-at : goal.match_term-offset_bounds-self-at
match_term-offset_bounds-self-at t c = omega (arith, reads_in _ _ _ c.requires.reads)

pub match_term-bounds-self-at : goal.match_term-bounds-self-at
match_term-bounds-self-at t c = reads_in _ _ _ c.requires.reads

pub match_term-bounds : goal.match_term-bounds
match_term-bounds t c = rw c.in-Variable.ensures.0 (bound_in _ _ _ _ _ _ _ _ c.requires c.in-Variable.ensures.1)

pub match_term-bounds-bound-v-in_default : goal.match_term-bounds-bound-v-in_default
match_term-bounds-bound-v-in_default t c = rw c.in-Variable.ensures.0 (bound_in _ _ _ _ _ _ _ _ c.requires c.in-Variable.ensures.1)

pub match_term-returns-in_default : goal.match_term-returns-in_default
match_term-returns-in_default t c = rw c.in-Variable.ensures.0 (bound_new _ _ _ _ _ _ _ _ c.requires c.in-Variable.ensures.1 _ (rw c.in-Variable.ensures.0 at c.in_default.is))

pub match_term-returns-in-Some : goal.match_term-returns-in-Some
match_term-returns-in-Some t c = rw c.then_some.ensures (bound_meets _ _ _ _ _ _ _ _ c.requires c.in-Variable.ensures.1 _ _ (rw c.in-Variable.ensures.0 at c.in-Some.is))

pub match_term-returns-then-node-symbol : goal.match_term-returns-then-node-symbol
match_term-returns-then-node-symbol t c = term_head _ _ _ _ _ _ _ _ c.requires _ c.node-node.ensures c.in-Symbol.ensures.1 (rw c.in-Symbol.ensures.0 at c.if-node-symbol.true)

pub match_term-returns-then-args-arity_of : goal.match_term-returns-then-args-arity_of
match_term-returns-then-args-arity_of t c = term_count _ _ _ _ _ _ _ _ c.requires _ c.node-node.ensures c.in-Symbol.ensures.1 (rw c.in-Symbol.ensures.0 at c.if-node-symbol.false) _ (rw c.in-Symbol.ensures.0 at c.arity_of.ensures) c.if-args-arity_of.true

pub match_term-overflow_add-at-in-Symbol : goal.match_term-overflow_add-at-in-Symbol
match_term-overflow_add-at-in-Symbol t c = omega (arith, reads_in _ _ _ c.requires.reads)

pub match_term-match_terms-requires : goal.match_term-match_terms-requires
match_term-match_terms-requires t c = (
  omega (arith, args_below _ _ _ _ _ _ _ _ c.requires _ c.node-node.ensures c.in-Symbol.ensures.1 (rw c.in-Symbol.ensures.0 at c.if-node-symbol.false) _ (rw c.in-Symbol.ensures.0 at c.arity_of.ensures) c.if-args-arity_of.false, c.decreases),
  args_asked _ _ _ _ _ _ _ _ c.requires _ c.node-node.ensures c.in-Symbol.ensures.1 (rw c.in-Symbol.ensures.0 at c.if-node-symbol.false) _ (rw c.in-Symbol.ensures.0 at c.arity_of.ensures) c.if-args-arity_of.false,
)

pub match_term-returns-else-args-arity_of : goal.match_term-returns-else-args-arity_of
match_term-returns-else-args-arity_of t c =
    args_tried _ _ _ _ _ _ _ _ c.requires _ c.node-node.ensures c.in-Symbol.ensures.1 (rw c.in-Symbol.ensures.0 at c.if-node-symbol.false) _ (rw c.in-Symbol.ensures.0 at c.arity_of.ensures) c.if-args-arity_of.false _ _ c.match_terms.ensures

pub match_terms-loop-id-init : goal.match_terms-loop-id-init
match_terms-loop-id-init t c = listing_begins _ _ _ _ _ _ _ _ c.requires

pub match_terms-match_term-requires : goal.match_terms-match_term-requires
match_terms-match_term-requires t c = (
  omega (arith, above_all c.args.ids.now c.loop-id.id-index c.loop-id-test.true, c.decreases),
  listing_asks _ _ _ _ _ _ _ _ _ _ _ c.loop-id.invariant c.loop-id-test.true,
)

pub match_terms-returns-in_err-place : goal.match_terms-returns-in_err-place
match_terms-returns-in_err-place t c = rw c.from_residual.ensures (listing_miss _ _ _ _ _ _ _ _ _ _ _ c.loop-id.invariant c.loop-id-test.true _ c.match_term.ensures c.in_err-place.was)

pub match_terms-loop-id-preserved : goal.match_terms-loop-id-preserved
match_terms-loop-id-preserved t c = listing_on _ _ _ _ _ _ _ _ _ _ _ c.loop-id.invariant c.loop-id-test.true _ c.match_term.ensures _ c.in_ok-place.was

pub match_terms-returns : goal.match_terms-returns
match_terms-returns t c = listing_ends _ _ _ _ _ _ _ _ _ _ _ c.loop-id.invariant c.loop-id-test.false
