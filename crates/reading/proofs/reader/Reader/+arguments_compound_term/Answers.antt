use mathlib.Core.Path.{refl, sym, ◌∙◌}
use mathlib.Core.Bool.{true≢false}
use native.Mathlib.Omega.{arith}
use Rattle.std.proofs.lemmas.Result.{err_from_is_err_and}
use Rattle.terms.specs.On.{pure_stopped}
use Rattle.sexp.specs.Each.{here, over}
use Rattle.sexp.specs.NthItem.{has_items}
use Rattle.reading.proofs.TermArguments.{known_symbol, symbol_small, going_begins, going_inputs, going_high, going_item, going_stops, going_put, going_at, going_items, going_misfits, going_ends, part_most}
use Rattle.reading.proofs.TermHeads.{rest_fewer}
use Rattle.reading.proofs.TermBehind.{opens, rest_items, behind_stops, behind_narrow, behind_length, behind_node, behind_typed}
use Rattle.reading.specs.Laws.Walks.{first_some}
use Rattle.reading.proofs.TermItems.{atom_given, term_atomic, item_list, item_part, list_items, term_compounds}
use Rattle.reading.proofs.reader.Reader.+arguments_compound_term.Goals as goal
use Rattle.reading.proofs.reader.Reader.+arguments_compound_term.Goals.{arguments-then-not-fits-via-then-not-fits, arguments-then-not-fits-via-else-not-fits+then-count}

pub arguments-arity-count-requires : goal.arguments-arity-count-requires
arguments-arity-count-requires t c = rw c.symbol_table-known.ensures (known_symbol c.requires.0.reads c.requires.1)

pub arguments-put_head-requires : goal.arguments-put_head-requires
arguments-put_head-requires t c = (c.requires.2, symbol_small c.requires.0.reads c.requires.1)

pub arguments-loop-k-init : goal.arguments-loop-k-init
arguments-loop-k-init t c = rw (c.into_iter-k-iterator.ensures.into_iter_gives, c.enumerate-k-items.ensures.source, c.enumerate-k-items.ensures.count, c.all.ensures.0, c.all.ensures.1) record {
  cells = refl;
  same = (refl, refl);
  going = λ g. going_begins g.reads g.holds c.args.c c.arity-count.result _ c.args.node.now c.requires.1 c.requires.2 c.put_head.ensures
      ((rw c.symbol_table-known.ensures at c.arity-count.ensures) g.S.theory _ _ _ g.reads.spelling.held c.requires.1);
}

pub arguments-takes-fits-requires : goal.arguments-takes-fits-requires
arguments-takes-fits-requires t c = rw (c.symbol_table-known.ensures, c.in-Some.ensures.steps.1) (going_inputs (c.loop-k.invariant.going c.requires.0))

pub arguments-term-requires : goal.arguments-term-requires
arguments-term-requires t c =
    let h = here c.loop-k.invariant.cells c.in-Some.ensures.steps.0 in
    (omega (arith, part_most h, c.decreases), going_item (c.loop-k.invariant.going c.requires.0) h)

pub arguments-returns-in_err-typed-clause-arguments_as : goal.arguments-returns-in_err-typed-clause-arguments_as
arguments-returns-in_err-typed-clause-arguments_as t c = λ g. let p = err_from_is_err_and c.from_residual.result c.from_residual.ensures.1 in
    rw (p.1, p.2) (going_stops (c.loop-k.invariant.going g) (here c.loop-k.invariant.cells c.in-Some.ensures.steps.0) c.in_err-typed.ensures.typed_as)

pub arguments-put_argument-requires : goal.arguments-put_argument-requires
arguments-put_argument-requires t c = going_put (c.loop-k.invariant.going c.requires.0) (here c.loop-k.invariant.cells c.in-Some.ensures.steps.0) c.in_ok-typed.ensures.typed_as

pub arguments-loop-k-preserved : goal.arguments-loop-k-preserved
arguments-loop-k-preserved t c =
    let h = here c.loop-k.invariant.cells c.in-Some.ensures.steps.0 in
    rw c.in-Some.ensures.steps.2 record {
      cells = h.same;
      same = (c.term.ensures.same_tables.0 ∙ c.loop-k.invariant.same.0, c.term.ensures.same_tables.1 ∙ c.loop-k.invariant.same.1);
      going = λ g. going_at (c.loop-k.invariant.going g) h c.in_ok-typed.ensures.typed_as c.put_argument.new.node c.in-Some.ensures.steps.1 c.put_argument.ensures
          ((rw c.symbol_table-known.ensures at c.takes-fits.ensures) g.S.theory _ _ _ (c.loop-k.invariant.going g).reads.spelling.held (c.loop-k.invariant.going g).known (c.loop-k.invariant.going g).counted) refl;
    }

pub arguments-count-requires : goal.arguments-count-requires
arguments-count-requires t c = has_items c.requires.0.holds

pub arguments-overflow_add-result : goal.arguments-overflow_add-result
arguments-overflow_add-result t c =
    let g = c.loop-k.invariant.going c.requires.0 in
    omega (arith, going_high g, going_items g (over c.loop-k.invariant.cells c.in-None.ensures.steps.0) (c.count.ensures c.requires.0.xs c.requires.0.holds.cells), c.if-count.false, c.well_formed.1.1.0)

pub arguments-returns-then-not-fits-clause-arguments_as : goal.arguments-returns-then-not-fits-clause-arguments_as
arguments-returns-then-not-fits-clause-arguments_as t c = λ g. going_misfits (c.loop-k.invariant.going g) (over c.loop-k.invariant.cells c.in-None.ensures.steps.0)
    (λ f e. elim c.then-not-fits.branch [
      | arguments-then-not-fits-via-then-not-fits w ↦ true≢false (sym f ∙ w.if-not-fits.true)
      | arguments-then-not-fits-via-else-not-fits+then-count w ↦ w.if-count.true (going_items (c.loop-k.invariant.going g) (over c.loop-k.invariant.cells c.in-None.ensures.steps.0) (w.count.ensures g.xs g.holds.cells) ∙ e)
    ])

pub arguments-returns-clause-arguments_as : goal.arguments-returns-clause-arguments_as
arguments-returns-clause-arguments_as t c = λ g. going_ends (c.loop-k.invariant.going g) (over c.loop-k.invariant.cells c.in-None.ensures.steps.0)
    (c.count.ensures g.xs g.holds.cells) c.if-not-fits.false c.if-count.false

pub compound-returns-in_err-c-clause-typed_as : goal.compound-returns-in_err-c-clause-typed_as
compound-returns-in_err-c-clause-typed_as t c = λ g. let p = err_from_is_err_and c.from_residual.result c.from_residual.ensures.1 in
    rw (p.1, p.2) (pure_stopped g.reads.good (c.in_err-c.ensures (opens g) _))

pub compound-slice_bounds-arguments-count : goal.compound-slice_bounds-arguments-count
compound-slice_bounds-arguments-count t c = (c.in_ok-c.ensures (opens c.requires)).some

pub compound-slice_bounds-arguments-start : goal.compound-slice_bounds-arguments-start
compound-slice_bounds-arguments-start t c = (c.in_ok-c.ensures (opens c.requires)).some

pub compound-arguments-requires : goal.compound-arguments-requires
compound-arguments-requires t c = let o = c.in_ok-c.ensures (opens c.requires) in
    (omega (arith, rest_fewer c.args.cells.now o.some, c.decreases), (rest_items c.requires.reads o, o.known, refl))

pub compound-returns-in_err-len-clause-typed_as : goal.compound-returns-in_err-len-clause-typed_as
compound-returns-in_err-len-clause-typed_as t c = λ g. let p = err_from_is_err_and c.from_residual-in_err-len.result c.from_residual-in_err-len.ensures.1 in
    rw (p.1, p.2) (behind_stops g.reads (c.in_ok-c.ensures (opens g)) _ _ _ _ _ c.in_err-len.ensures.arguments_as)

pub compound-slice_bounds-node-end : goal.compound-slice_bounds-node-end
compound-slice_bounds-node-end t c = omega (
  arith,
  behind_narrow c.requires.reads (c.in_ok-c.ensures (opens c.requires)) _ _ _ _ c.in_ok-len.ensures.arguments_as,
  c.arguments.auto.node,
)

pub compound-slice_bounds-keep_typed-end : goal.compound-slice_bounds-keep_typed-end
compound-slice_bounds-keep_typed-end t c = behind_length c.requires.reads (c.in_ok-c.ensures (opens c.requires)) _ _ _ _ c.in_ok-len.ensures.arguments_as
    c.arguments.auto.node

pub compound-output-requires : goal.compound-output-requires
compound-output-requires t c = rw c.symbol_table.ensures (known_symbol c.requires.reads (c.in_ok-c.ensures (opens c.requires)).known)

pub compound-keep_typed-requires : goal.compound-keep_typed-requires
compound-keep_typed-requires t c = behind_node c.requires.reads (c.in_ok-c.ensures (opens c.requires)) _ _ _ _ c.in_ok-len.ensures.arguments_as

pub compound-returns-clause-typed_as : goal.compound-returns-clause-typed_as
compound-returns-clause-typed_as t c = λ g. let o = c.in_ok-c.ensures (opens g) in
    behind_typed g.reads o _ _ _ _ c.in_ok-len.ensures.arguments_as _ _ _ c.output.result c.keep_typed.result
    ((rw c.symbol_table.ensures at c.output.ensures) g.S.theory _ _ _ g.reads.spelling.held o.known) c.keep_typed.ensures.typed_as

pub term-item_at-requires : goal.term-item_at-requires
term-item_at-requires t c = first_some c.requires.holds

pub term-atomic-requires : goal.term-atomic-requires
term-atomic-requires t c = atom_given c.requires c.item_at.ensures c.in-Atom.is

pub term-offset_bounds-cells-a : goal.term-offset_bounds-cells-a
term-offset_bounds-cells-a t c = let l = item_list c.requires c.item_at.ensures c.in-List.is in omega (arith, l.low, l.high, c.well_formed.1.1.0)

pub term-slice_bounds-compound-count : goal.term-slice_bounds-compound-count
term-slice_bounds-compound-count t c = (item_list c.requires c.item_at.ensures c.in-List.is).low

pub term-slice_bounds-compound-start : goal.term-slice_bounds-compound-start
term-slice_bounds-compound-start t c = (item_list c.requires c.item_at.ensures c.in-List.is).low

pub term-slice_bounds-compound-end : goal.term-slice_bounds-compound-end
term-slice_bounds-compound-end t c = (item_list c.requires c.item_at.ensures c.in-List.is).high

pub term-compound-requires : goal.term-compound-requires
term-compound-requires t c = (
  omega (arith, (item_list c.requires c.item_at.ensures c.in-List.is).shorter, c.decreases),
  list_items c.requires (item_part c.requires c.item_at.ensures c.in-List.is),
)

pub term-returns-in-Atom-clause-typed_as : goal.term-returns-in-Atom-clause-typed_as
term-returns-in-Atom-clause-typed_as t c = λ g. term_atomic g c.item_at.ensures c.in-Atom.is _ _ _ c.atomic.result c.atomic.ensures.typed_as

pub term-returns-in-List-clause-typed_as : goal.term-returns-in-List-clause-typed_as
term-returns-in-List-clause-typed_as t c = λ g. term_compounds g (item_part g c.item_at.ensures c.in-List.is) _ _ _ c.compound.result c.compound.ensures.typed_as
