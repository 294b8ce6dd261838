use Rattle.std.proofs.lemmas.Result.{err_from_is_err_and}
use Rattle.entering.proofs.Entering.{way_putting, way_added, way_full, way_halted}
use Rattle.entering.proofs.derive.add_derived.Goals as goal

pub returns-in_err-derived-clause-added : goal.returns-in_err-derived-clause-added
returns-in_err-derived-clause-added c =
    let p = err_from_is_err_and c.from_residual.result c.from_residual.ensures.1 in
    let f = rw c.source_of-source.ensures at c.in_err-derived.ensures.found in
    rw (p.1, p.2) (way_halted c.args.given.now c.args.board.now c.args.store.now c.find.new.store c.args.cells.now c.args.way _ f)

pub put_derived-requires : goal.put_derived-requires
put_derived-requires c =
    let f = rw c.source_of-source.ensures at c.in_ok-derived.ensures.found in
    way_putting c.args.given.now c.args.board.now c.args.store.now c.find.new.store c.args.cells.now c.args.way _ c.requires.adds f

pub returns-in_err-put_derived-clause-added : goal.returns-in_err-put_derived-clause-added
returns-in_err-put_derived-clause-added c =
    let p = err_from_is_err_and c.from_residual-in_err-put_derived.result c.from_residual-in_err-put_derived.ensures.1 in
    let f = rw c.source_of-source.ensures at c.in_ok-derived.ensures.found in
    rw (p.1, p.2)
    (way_full c.args.given.now c.args.board.now c.args.store.now c.find.new.store c.args.cells.now c.put_derived.new.self _ c.args.way f _
    c.in_err-put_derived.ensures.enter_as)

pub returns-clause-added : goal.returns-clause-added
returns-clause-added c =
    let f = rw c.source_of-source.ensures at c.in_ok-derived.ensures.found in
    let w = c.in_ok-put_derived.ensures.words in
    rw c.counts.ensures
    (way_added c.args.given.now c.args.board.now c.args.store.now c.find.new.store c.args.cells.now c.put_derived.new.self _ c.args.way f w.1 w.0
    c.in_ok-put_derived.ensures.enter_as)
