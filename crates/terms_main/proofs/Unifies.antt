-- What unification asks of fresh tables, and what it did to the store. Assumes nothing.
use Rattle.std.proofs.Common.{◌≡◌, ℕ, ◌*◌, ◌<◌, List, replicate, Bool, true, false, Option, Result, Ok, Err, arith}
use Rattle.rules.specs.Limits.{TERMS, VARIABLES, PAIRS, TERMWORDS}
use Rattle.rules.specs.Out.{Out}
use Rattle.rules.specs.Store.{Made}
use Rattle.rules.specs.Unify.{Binding}
use Rattle.questions.specs.declared.Row.{Row}
use Rattle.terms.specs.declared.store.Mark.{Mark}
use Rattle.terms.specs.Table.{Good, Grown}
use Rattle.terms.specs.Theta.{Theta}
use Rattle.terms.specs.Laws.Terms.{variables_few}
use Rattle.unification.specs.Unify.{Unifiable, UnifiedBy}
use Rattle.unification.specs.Laws.Answers.{unified_found}
use Rattle.terms_main.proofs.Tables.{zeroed}

module _ {I W : List ℕ} {m : Mark} {s t : ℕ} (good : Good I W m) (left : s < m.terms) (right : t < m.terms) where
  pub unifiable : {theta map memo pairs seen : List ℕ} → theta ≡ replicate VARIABLES 0 → map ≡ replicate VARIABLES 0 → memo ≡ replicate TERMS 0
      → pairs ≡ replicate (2 * PAIRS) 0 → seen ≡ replicate TERMWORDS 0 → Unifiable I W m VARIABLES s t theta map memo pairs seen
  unifiable {theta} {map} {memo} {pairs} {seen} a b c d e =
      record {
        good = good;
        few = omega arith;
        left = left;
        right = right;
        lefts = variables_few I W m good s left;
        rights = variables_few I W m good t right;
        scratch =
            record {
              thetas = (zeroed theta VARIABLES a).0;
              no_thetas = (zeroed theta VARIABLES a).1;
              maps = (zeroed map VARIABLES b).0;
              no_maps = (zeroed map VARIABLES b).1;
              memos = omega (arith, (zeroed memo TERMS c).0);
              no_memos = (zeroed memo TERMS c).1;
              many = (zeroed pairs (2 * PAIRS) d).0;
              no_pairs = (zeroed pairs (2 * PAIRS) d).1;
              wide = omega (arith, (zeroed seen TERMWORDS e).0);
              no_seen = (zeroed seen TERMWORDS e).1;
            };
      }

-- on refusals too
pub unified_grown : {I W J X : List ℕ} {old new : Mark} {theta : List ℕ} {K : Out Made (Option (List Binding))} {r : Result Bool Row} → UnifiedBy I W J X old new theta K r
    → Grown I W J X old new
unified_grown {r = Ok true} u = u.says.grown
unified_grown {r = Ok false} u = u.says.0.grown
unified_grown {r = Err row} u = u.says.0.grown

module _ {I W J X : List ℕ} {old new : Mark} {theta : List ℕ} {K : Out Made (Option (List Binding))} {r : Result Bool Row} (u : UnifiedBy I W J X old new theta K r) where
  pub unified_bound : (found : Bool) → r ≡ Ok found → found ≡ true → Theta new theta
  unified_bound true e b = (unified_found u e).cells
  unified_bound false e b = cc b
