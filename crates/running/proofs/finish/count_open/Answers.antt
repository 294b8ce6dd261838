use mathlib.Core.Path.{◌∙◌}
use native.Mathlib.Omega.{arith}
use Rattle.std.proofs.Common.{rules, tests}
use Rattle.std.proofs.lemmas.Iterator.{serves_from_Range, YieldsList-from_range}
use Rattle.std.proofs.lemmas.Iterator.Consumers.{count_from_yields_List, YieldsList-from_filter}
use Rattle.running.specs.Finished.{row_open}
use Rattle.running.proofs.Opened.{row_asked, rows_open}
use Rattle.running.proofs.finish.count_open.Goals as goal

pub count-requires-clause-can : goal.count-requires-clause-can
count-requires-clause-can c = (
  tt,
  tt,
  serves_from_Range (λ x q r. search (rules, tests))
      (λ x l h y e a b d f i j k m. rw (c.filter.ensures.closure, e) (row_asked c.args.terms.now c.requires x (rw c.filter.ensures.source at h))),
)

pub returns : goal.returns
returns c = λ g.
    let n = c.args.goals.now.count in
    count_from_yields_List c.filter.result _ c.count.ensures.ran
    (YieldsList-from_filter _ (row_open c.args.goals.now.rows.now c.args.terms.now) (YieldsList-from_range 0 n n c.filter.ensures.source (omega arith)) c.filter.ensures.closure
    (λ x r q k. search (rules, tests)))
    ∙ rows_open c.args.terms.now g
