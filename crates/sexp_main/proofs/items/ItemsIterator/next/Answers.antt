use Rattle.std.proofs.Common.{◌-◌, length, drop, arith, rules, length-take, length-drop}
use Rattle.sexp_main.proofs.Fronts as front
use Rattle.sexp_main.proofs.items.ItemsIterator.next.Goals as goal

pub invariant_of-self : goal.invariant_of-self
invariant_of-self c = record { held = front.after_atom (search rules) c.item_at.ensures c.args.self.now.held c.in-Atom.is }

pub atom-requires : goal.atom-requires
atom-requires c = front.atom_start (search rules) c.item_at.ensures c.args.self.now.held c.in-Atom.is

pub offset_bounds-cells-end : goal.offset_bounds-cells-end
offset_bounds-cells-end c = omega (arith, front.list_lies (search rules) c.item_at.ensures c.args.self.now.held c.in-List.is, c.well_formed)

pub slice_bounds-self-count-in-List : goal.slice_bounds-self-count-in-List
slice_bounds-self-count-in-List c = (front.list_lies (search rules) c.item_at.ensures c.args.self.now.held c.in-List.is).1

pub slice_bounds-self-start-in-List : goal.slice_bounds-self-start-in-List
slice_bounds-self-start-in-List c = (front.list_lies (search rules) c.item_at.ensures c.args.self.now.held c.in-List.is).1

pub invariant_of-self-in-List : goal.invariant_of-self-in-List
invariant_of-self-in-List c = record { held = front.after_list (search rules) c.item_at.ensures c.args.self.now.held c.in-List.is }

pub offset_bounds-cells-start : goal.offset_bounds-cells-start
offset_bounds-cells-start c = omega (arith, front.list_lies (search rules) c.item_at.ensures c.args.self.now.held c.in-List.is, c.well_formed)

pub slice_bounds-cells-count : goal.slice_bounds-cells-count
slice_bounds-cells-count c = (front.list_lies (search rules) c.item_at.ensures c.args.self.now.held c.in-List.is).0

pub slice_bounds-cells-start : goal.slice_bounds-cells-start
slice_bounds-cells-start c = (front.list_lies (search rules) c.item_at.ensures c.args.self.now.held c.in-List.is).0

pub slice_bounds-cells-end : goal.slice_bounds-cells-end
slice_bounds-cells-end c = (front.list_lies (search rules) c.item_at.ensures c.args.self.now.held c.in-List.is).1

pub invariant_of-result : goal.invariant_of-result
invariant_of-result c = record { held = front.list_items (search rules) c.item_at.ensures c.args.self.now.held c.in-List.is }

pub returns-in-List-clause-steps : goal.returns-in-List-clause-steps
returns-in-List-clause-steps c =
    let cells = c.args.self.now.cells.now in
    let start = c.in-List.start in
    let end = c.in-List.end in
    let lies = front.list_lies (search rules) c.item_at.ensures c.args.self.now.held c.in-List.is in (
      omega (arith, length-take (length cells - end) (drop end cells), length-drop end cells),
      omega (arith, lies.3, length-take (end - start) (drop start cells)),
    )

pub returns-in-List-clause-goes : goal.returns-in-List-clause-goes
returns-in-List-clause-goes c = search (rules, (front.list_lies (search rules) c.item_at.ensures c.args.self.now.held c.in-List.is).2, arith)
