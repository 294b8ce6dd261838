use Prim.Native.Nat.{◌+◌, ◌*◌}
use Rattle.terms.specs.Patterns.{cells_of}
use Rattle.terms.proofs.MatchTerms.{above}
use Rattle.terms.proofs.MatchLists.{Listing}
use Rattle.terms.proofs.patterns.Patterns.+matching.Given as goal

abbrev pub decreases-match_term : goal.decreases-match_term
decreases-match_term l = 2 * l.id + 1

abbrev pub decreases-match_terms : goal.decreases-match_terms
decreases-match_terms l = 2 * above l.ids.now

abbrev pub invariant-match_terms-loop-id : goal.invariant-match_terms-loop-id
invariant-match_terms-loop-id l = Listing l.self.symbols.now l.self.words.now l.terms.index.now l.terms.words.now l.terms.mark (cells_of l.initial.bound) l.at l.ids (cells_of l.bound) l.place l.id-index
