-- What a call's answer says, once a caller has seen which one it is: `@keep.ensures` and the equation of the match's arm give the record of that
-- case. Assumes nothing.
use Rattle.std.specs.Prelude.{◌≡◌, List, ℕ, Result, Ok, Err}
use Rattle.std.proofs.Common.{subst}
use Rattle.rules.specs.Out.{Out}
use Rattle.rules.specs.Tree.{Tree}
use Rattle.rules.specs.Store.{Made}
use Rattle.terms.specs.declared.store.Mark.{Mark}
use Rattle.questions.specs.Numbers.{row_number, number_of, detail_of}
use Rattle.questions.specs.declared.Row.{Row}
use Rattle.questions.specs.declared.Question.{Question}
use Rattle.terms.specs.declared.patterns.Built.{Built}
use Rattle.terms.specs.Table.{Stored, Refused, AfterAs, After}
use Rattle.terms.specs.Patterns.{Builds, Stops, BuiltAs, BuiltBy}

-- `keep`, `substitute`
module _ {I W J X : List ℕ} {old new : Mark} {t : Tree} {K : Out Made Tree} {r : Result ℕ Row} (a : After I W J X old new t K r) where
  pub after_term : {n : ℕ} → r ≡ Ok n → Stored I W J X old t K n new
  after_term e = subst (AfterAs I W J X old new t K) e a.says

  pub after_full : {row : Row} → r ≡ Err row → Refused Tree I W J X old K (row_number row) new
  after_full e = subst (AfterAs I W J X old new t K) e a.says

-- `build`
module _ {I W J X : List ℕ} {old new : Mark} {K : Out Made Tree} {behind : ℕ} {r : Result Built Question} (a : BuiltBy I W J X old new K behind r) where
  pub built_term : {b : Built} → r ≡ Ok b → Builds I W J X old K behind b.term b.end new
  built_term e = subst (BuiltAs I W J X old new K behind) e a.says

  pub built_no : {q : Question} → r ≡ Err q → Stops I W J X old K (number_of q) (detail_of q) new
  built_no e = subst (BuiltAs I W J X old new K behind) e a.says
