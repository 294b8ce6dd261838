use Rattle.std.proofs.Common.{refl, arith}
use Rattle.state.specs.Stands.{tables_of}
use Rattle.beginning.proofs.Blank.{facts_many, blank_rows, board_cleared}
use Rattle.beginning.proofs.tables.clear_board.Goals as goal

pub zero_behind-requires : goal.zero_behind-requires
zero_behind-requires c = (omega arith, omega (arith, facts_many c.args.board.now.facts.now c.requires.facts))

pub returns-clause-cleared : goal.returns-clause-cleared
returns-clause-cleared c =
    record {
      none = board_cleared (tables_of c.args.board.now c.args.store.now) c.requires _ _ _ _ _ _ _ _ c.clear.ensures c.clear-2.ensures c.clear-3.ensures
          c.clear-4.ensures c.clear-5.ensures (blank_rows c.args.board.now.facts.now _ c.requires.facts c.zero_behind.ensures) c.clear-6.ensures;
      sizes = c.from-board.ensures;
      mark = refl;
    }
