use Rattle.std.specs.Prelude.{refl}
use Rattle.std.proofs.lemmas.Result.{err_from_is_err_and}
use Rattle.entering.proofs.Inverting.{invert_halted, invert_putting, invert_full, invert_entered, invert_held, invert_makes}
use Rattle.entering.proofs.derive.add_invert.Goals as goal

pub returns-in_err-found-clause-inverted : goal.returns-in_err-found-clause-inverted
returns-in_err-found-clause-inverted c =
    let p = err_from_is_err_and c.from_residual.result c.from_residual.ensures.1 in
    let f = rw c.source_of-source.ensures at c.in_err-found.ensures.inverted_as in
    λ x. rw (p.1, p.2) (invert_halted c.args.given.now c.args.board.now c.args.store.now c.invert.new.store c.args.cells.now x c.invert.new.vars _ f)

pub put_derived-requires : goal.put_derived-requires
put_derived-requires c =
    let f = rw c.source_of-source.ensures at c.in_ok-found.ensures.inverted_as in
    invert_putting c.args.given.now c.args.board.now c.args.store.now c.invert.new.store c.args.cells.now c.requires.adds_inversion c.invert.new.vars c.in_ok-found.found f

pub returns-in_err-put_derived-clause-inverted : goal.returns-in_err-put_derived-clause-inverted
returns-in_err-put_derived-clause-inverted c =
    let p = err_from_is_err_and c.from_residual-in_err-put_derived.result c.from_residual-in_err-put_derived.ensures.1 in
    let f = rw c.source_of-source.ensures at c.in_ok-found.ensures.inverted_as in
    λ x. rw (p.1, p.2)
    (invert_full c.args.given.now c.args.board.now c.args.store.now c.invert.new.store c.args.cells.now x c.invert.new.vars c.in_ok-found.found f
    c.put_derived.new.self c.put_derived.ensures.only _ c.in_err-put_derived.ensures.enter_as)

pub put_made-requires : goal.put_made-requires
put_made-requires c =
    let f = rw c.source_of-source.ensures at c.in_ok-found.ensures.inverted_as in
    invert_makes c.args.given.now c.args.board.now c.args.store.now c.invert.new.store c.args.cells.now c.requires.adds_inversion c.invert.new.vars c.in_ok-found.found f
    c.put_derived.new.self c.put_derived.ensures.only c.in_ok-put_derived.ensures.enter_as

pub returns-clause-inverted : goal.returns-clause-inverted
returns-clause-inverted c =
    let f = rw c.source_of-source.ensures at c.in_ok-found.ensures.inverted_as in
    let w = c.in_ok-put_derived.ensures.words in
    λ x. invert_entered c.args.given.now c.args.board.now c.args.store.now c.invert.new.store c.args.cells.now x c.invert.new.vars c.in_ok-found.found f
    c.put_derived.new.self _ w.0 w.1 c.in_ok-put_derived.ensures.enter_as
    (c.put_made.ensures _ _ _
    (invert_held c.args.given.now c.args.board.now c.args.store.now c.invert.new.store c.args.cells.now x c.invert.new.vars c.in_ok-found.found f
    c.put_derived.new.self c.put_derived.ensures.only c.in_ok-put_derived.ensures.enter_as)) _ refl
