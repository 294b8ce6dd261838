-- The words of patterns in the tables are as many as row 6 counts. Assumes nothing.
use Rattle.std.specs.Prelude.{◌≡◌, refl, List, [], ◌∷◌, ◌++◌, suc, length}
use Rattle.std.proofs.Common.{ap, ◌∙◌, arith, length-append}
use Rattle.rules.specs.Tree.{Tree, Trees, var, app, none, more, size, sizes}
use Rattle.rules.specs.Theory.{Rule, rule_words}
use Rattle.rules.specs.TheoryTables.{rows, prefix, prefixes, pattern_row}

mutual
  unfolding prefix size

  pub prefix_length : (p : Tree) → length (prefix p) ≡ size p
  prefix_length (var v) = refl
  prefix_length (app c ts) = ap suc (prefixes_length ts)

  pub prefixes_length : (ts : Trees) → length (prefixes ts) ≡ sizes ts
  prefixes_length none = refl
  prefixes_length (more t ts) = let a = prefix_length t in let b = prefixes_length ts in length-append (prefix t) (prefixes ts) ∙ omega arith

pub words_counted : (rs : List Rule) → length (rows pattern_row rs) ≡ rule_words rs
unfolding rows pattern_row rule_words
words_counted [] = refl
words_counted (r ∷ rs) =
    omega (
      arith,
      length-append (prefixes r.premises ++ prefix r.conclusion) (rows pattern_row rs),
      length-append (prefixes r.premises) (prefix r.conclusion),
      prefixes_length r.premises,
      prefix_length r.conclusion,
      words_counted rs,
    )
