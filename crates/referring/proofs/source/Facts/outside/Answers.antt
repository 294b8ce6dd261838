use native.Mathlib.Omega.{arith}
use mathlib.Core.Path.{refl}
use Rattle.std.proofs.Common.{rules, tests}
use Rattle.terms.specs.Laws.Seen.{seen_none}
use Rattle.referring.proofs.ScopeOutside.{outside_kept}
use Rattle.referring.proofs.source.Facts.outside.Goals as goal

pub visit-requires-clause-seen : goal.visit-requires-clause-seen
visit-requires-clause-seen c = seen_none _ _ _ _ _ refl

pub returns : goal.returns
returns c = λ g. outside_kept c.args.used.now c.args.hyps.now (omega arith) c.visit.ensures c.hyp_vars.ensures
    c.lowest_outside.ensures g _ (λ v t k. search (rules, tests)) _ _ refl c.filter.ensures
