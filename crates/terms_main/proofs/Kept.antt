-- A call whose error was turned into another, and what a call did to the store. Assumes nothing.
use Rattle.std.proofs.Common.{◌≡◌, ℕ, List, Result, Ok, Err, ap}
use Rattle.std.specs.Result.{MatchResult}
use Rattle.rules.specs.Out.{Out}
use Rattle.rules.specs.Tree.{Tree}
use Rattle.rules.specs.Store.{Made}
use Rattle.questions.specs.declared.Row.{Row}
use Rattle.terms.specs.declared.store.Mark.{Mark}
use Rattle.terms.specs.Table.{Grown, After}

-- it went well where what came of it did
pub ok_before : {T E : Type 0} (D : Type 0) (r : Result T E) (u : T) → MatchResult r (λ x. ◌≡◌ {A = Result T D} (Ok u) (Ok x)) (λ _. ⊥) → r ≡ Ok u
ok_before D (Ok x) u m =
    let e : x ≡ u = cc in
    ap Ok e
ok_before D (Err y) u m = absurd m

-- `keep`, `substitute`: the terms that were there are there, on refusals too
pub after_grown : {I W J X : List ℕ} {old new : Mark} {t : Tree} {K : Out Made Tree} {r : Result ℕ Row} → After I W J X old new t K r → Grown I W J X old new
after_grown {r = Ok n} a = a.says.grown
after_grown {r = Err row} a = a.says.grown
