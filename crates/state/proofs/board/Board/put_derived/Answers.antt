use mathlib.Core.Path.{refl}
use native.Mathlib.Omega.{arith}
use Rattle.state.proofs.Placed.{derived_put}
use Rattle.state.proofs.Cells.{room_at, row_put, foot_put}
use Rattle.state.proofs.board.Board.put_derived.Goals as goal

pub append-requires : goal.append-requires
append-requires c = room_at c.args.self.now.facts.now c.args.self.now.n.facts c.requires.facts c.in_ok-end.ensures.0

pub returns-clause-enter_as : goal.returns-clause-enter_as
returns-clause-enter_as c =
    let l = room_at c.args.self.now.facts.now c.args.self.now.n.facts c.requires.facts c.in_ok-end.ensures.0 in (
      derived_put
          c.args.hyps.now
          c.requires
          (omega arith)
          c.args.footing.now
          _ _ _ _ c.in_ok-end.ensures
          c.count-many.ensures
          (row_put c.args.self.now.facts.now c.args.self.now.n.facts l _ c.append.ensures)
          (foot_put c.args.self.now.facts.now c.args.self.now.n.facts l _ c.told-footing c.append.ensures) c.write_out.ensures.1,
      refl,
    )
