use mathlib.Core.Path.{refl}
use Rattle.state.proofs.Cells.{room_at, row_put, foot_kept}
use Rattle.state.proofs.board.Board.put_hypothesis.Goals as goal

pub bounds-self-i : goal.bounds-self-i
bounds-self-i c = room_at c.args.self.now.facts.now c.args.self.now.n.facts c.requires.0.1.facts c.in_ok-end.ensures.0

pub append-requires : goal.append-requires
append-requires c = room_at c.args.self.now.facts.now c.args.self.now.n.facts c.requires.0.1.facts c.in_ok-end.ensures.0

pub returns-clause-only : goal.returns-clause-only
returns-clause-only c = (
  refl,
  refl,
  refl,
  foot_kept c.args.self.now.facts.now c.args.self.now.n.facts
      (room_at c.args.self.now.facts.now c.args.self.now.n.facts c.requires.0.1.facts c.in_ok-end.ensures.0) _ _ refl c.append.ensures,
)

pub returns-clause-put_as : goal.returns-clause-put_as
returns-clause-put_as c = λ footings e. (
  (
    record {
      facts = row_put c.args.self.now.facts.now c.args.self.now.n.facts
          (room_at c.args.self.now.facts.now c.args.self.now.n.facts c.requires.0.1.facts c.in_ok-end.ensures.0) _ c.append.ensures;
      lists = refl;
      footings = refl;
      room = c.in_ok-end.ensures.0;
    },
    c.in_ok-end.ensures.1,
    c.in_ok-end.ensures.2,
  ),
  refl,
)
