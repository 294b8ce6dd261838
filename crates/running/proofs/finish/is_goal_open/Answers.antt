use mathlib.Core.Path.{ap, ◌∙◌}
use Rattle.rules.specs.Tree.{is_open}
use Rattle.terms.specs.Table.{tree}
use Rattle.running.proofs.finish.is_goal_open.Goals as goal

pub is_open-requires : goal.is_open-requires
is_open-requires c =
    let t = c.args.terms.now in
    record { words = t.words.now; held = record { mark = t.mark; good = c.requires.0; there = rw c.goal_judgment.ensures c.requires.3 } }

pub returns : goal.returns
returns c =
    let t = c.args.terms.now in
    c.is_open.ensures t.words.now t.mark c.requires.0 (rw c.goal_judgment.ensures c.requires.3)
    ∙ ap (λ n. is_open (tree t.index.now t.words.now t.mark n)) c.goal_judgment.ensures
