-- A variable, or a symbol without arguments, as a term of the store. Assumes nothing.
use Rattle.std.specs.Prelude.{◌≡◌, List, [], ◌∷◌, ℕ, ◌+◌, ◌-◌, ◌<◌, Result}
use Rattle.std.proofs.Common.{ap, ◌∙◌, subst, arith}
use Rattle.rules.specs.Limits.{SYMBOLS, VARIABLES}
use Rattle.rules.specs.Tree.{Tree, var}
use Rattle.rules.specs.Store.{keep}
use Rattle.questions.specs.declared.Row.{Row}
use Rattle.terms.specs.declared.store.Mark.{Mark}
use Rattle.terms.specs.Table.{made, tree_at, Node, is_var, is_app, After}
use Rattle.terms.specs.Laws.Tables.{tree_var}

pub var_node : (n v : ℕ) → v < VARIABLES → Node n ((SYMBOLS + v) ∷ [])
var_node n v l = record { narrow = omega arith; shaped = is_var {h = SYMBOLS + v} (omega arith) (omega arith) }

pub var_after : {I W J X : List ℕ} {m new : Mark} {v : ℕ} {r : Result ℕ Row} →
    After I W J X m new (tree_at (made I W m) ((SYMBOLS + v) ∷ [])) (keep (tree_at (made I W m) ((SYMBOLS + v) ∷ [])) (made I W m)) r →
    After I W J X m new (var v) (keep (var v) (made I W m)) r
var_after {I} {W} {J} {X} {m} {new} {v} {r} a =
    let z : SYMBOLS + v - SYMBOLS ≡ v = omega arith in
    subst (λ (t : Tree). After I W J X m new t (keep t (made I W m)) r) (tree_var (made I W m) (SYMBOLS + v) [] (omega arith) ∙ ap var z) a

pub leaf_node : (n c : ℕ) → c < SYMBOLS → Node n (c ∷ [])
leaf_node n c l = record { narrow = omega arith; shaped = is_app {h = c} {xs = []} l (λ k m. absurd (omega (arith, m))) }
