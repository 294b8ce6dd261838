use Rattle.std.proofs.Common.{sym, ◌∙◌}
use Rattle.unification.proofs.Unifies.{unify_begins, unify_found, unify_none}
use Rattle.unification.proofs.unify.unify.Goals as goal

pub solve-result-requires : goal.solve-result-requires
solve-result-requires c = unify_begins _ _ _ _ _ _ _ _ _ _ _ c.requires

pub returns-then-unwrap_or-clause-unified_by : goal.returns-then-unwrap_or-clause-unified_by
returns-then-unwrap_or-clause-unified_by c = unify_found _ _ _ _ _ _ _ _ _ _ _ c.requires _ _ _ _ _ (sym c.unwrap_or.ensures ∙ c.if-unwrap_or.true) c.solve-result.ensures.solved_as

pub returns-clause-unified_by : goal.returns-clause-unified_by
returns-clause-unified_by c = unify_none _ _ _ _ _ _ _ _ _ _ _ c.requires _ _ _ _ _ c.solve-result.auto.theta c.clear-2.ensures _ (sym c.unwrap_or.ensures ∙ c.if-unwrap_or.false) c.solve-result.ensures.solved_as
