use borrow.Author.Rules.{rules}
use Rattle.facts.specs.Laws.{blank_is}
use Rattle.tabled.proofs.Storing.{tabled}
use Rattle.tabled.proofs.check_rows.Goals as goal

pub returns : goal.returns
returns c =
    tabled _ c.check-r.new.facts c.args.facts.now c.store_rows.new.rows c.args.footings.now c.store_rows.new.feet blank_is (search rules)
    c.check-r.ensures.0 c.store_rows.ensures.rows c.store_rows.ensures.feet
