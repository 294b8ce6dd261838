use native.Mathlib.Omega.{arith}
use native.Mathlib.Numerals.{add-one}
use mathlib.Core.Path.{sym, ap, ◌∙◌}
use lib.ListN.{length}
use Rattle.rules.specs.Find.{union, minus, rising}
use Rattle.rules.specs.Tree.{variables}
use Rattle.rules.specs.State.{hyp_vars}
use Rattle.terms.specs.Sets.{holds, counted_from_1}
use Rattle.terms.specs.Table.{tree}
use Rattle.referring.specs.Laws.Scoped.{least_most, scoped_yes, scoped_not}
use Rattle.referring.proofs.source.Facts.scoped.Goals as goal

pub overflow_add-result : goal.overflow_add-result
overflow_add-result c =
    let g = c.requires.recalls.0 in
    let t = c.args.terms.now in
    let l = least_most (length g.S.vars) (minus (holds c.args.used.now)
    (union (variables (tree t.index.now t.words.now t.mark c.args.conclusion)) (hyp_vars g.S.facts (rising (length g.S.facts) (holds c.args.hyps.now))))) in
    omega (arith, c.outside.ensures g, l, ap counted_from_1 c.in-Some.is, g.recorded.rows.row7)

pub returns-in-None : goal.returns-in-None
returns-in-None c = λ g M. scoped_yes g.S _ _ _ M (c.outside.ensures g) (ap counted_from_1 c.in-None.is)

pub returns-in-Some : goal.returns-in-Some
returns-in-Some c = λ g M. let e = add-one c.in-Some.v ∙ sym (ap counted_from_1 c.in-Some.is) in
    scoped_not g.S _ _ _ M (e ∙ c.outside.ensures g) (λ z. omega (arith, z))
