use Rattle.std.proofs.Common.{refl, sym}
use Rattle.terms.proofs.MatchLists.{all_hits, all_stays}
use Rattle.terms.proofs.patterns.Patterns.match_all.Goals as goal

pub returns-then-is_some-clause-matched : goal.returns-then-is_some-clause-matched
returns-then-is_some-clause-matched c = all_hits _ _ _ _ c.args.terms.now.mark _ _ _ _ c.match_terms.ensures (sym c.if-is_some.ensures)

pub returns-clause-matched : goal.returns-clause-matched
returns-clause-matched c = all_stays _ _ _ _ c.args.terms.now.mark _ _ _ _ c.match_terms.ensures (sym c.if-is_some.ensures) _ refl
