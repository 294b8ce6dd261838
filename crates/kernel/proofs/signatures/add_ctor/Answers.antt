use mathlib.Core.Path.{refl, sym, subst}
use native.Mathlib.Omega.{arith}
use Rattle.rules.specs.Sexp.{item}
use Rattle.sexp.specs.Items.{place}
use Rattle.sexp.specs.WalkLaws.{spells_item}
use Rattle.kernel.specs.Parsed.{DeclaredAs}
use Rattle.kernel.specs.Tables.{lists_of, SymbolAdded}
use Rattle.kernel.proofs.Handed.{handed}
use Rattle.kernel.proofs.Missing.{is_there, is_absent}
use Rattle.kernel.proofs.Spellings.{proper_here, proper_nowhere, sorted}
use Rattle.kernel.specs.SignatureRows.{symbols_rows}
use Rattle.kernel.proofs.Readings.{some_names}
use Rattle.kernel.proofs.Arguments.{sort_small, sort_known, sort_unknown}
use Rattle.kernel.proofs.Declared.{reaching, stored_of, ctor_nameless, ctor_stops, ctor_again, ctor_is_new, symbol_cells_lem, symbol_fits, ctor_no_sort}
use Rattle.kernel.proofs.signatures.add_ctor.Goals as goal

pub proper_at-requires : goal.proper_at-requires
proper_at-requires c = reaching 1 c.requires.form (omega arith)

pub returns-in_err-name-clause-added : goal.returns-in_err-name-clause-added
returns-in_err-name-clause-added c = λ T xs h s k n. rw (handed c.from_residual.result c.from_residual.ensures) (ctor_nameless T xs (proper_nowhere 1 xs c.proper_at.ensures c.in_err-name.was k), (refl, refl))

pub returns-in_err-name-clause-declared : goal.returns-in_err-name-clause-declared
returns-in_err-name-clause-declared c = λ T xs h k n. rw (handed c.from_residual.result c.from_residual.ensures) (ctor_nameless T xs (proper_nowhere 1 xs c.proper_at.ensures c.in_err-name.was k), h)

pub arguments_at-requires : goal.arguments_at-requires
arguments_at-requires c = rw c.sort_table-sorts.ensures record { reaching = reaching 2 c.requires.form (omega arith); some_sorts = c.requires.some_sorts; row_len = refl }

pub returns-in_err-arity-clause-added : goal.returns-in_err-arity-clause-added
returns-in_err-arity-clause-added c = λ T xs h s k n. rw (handed c.from_residual-in_err-arity.result c.from_residual-in_err-arity.ensures) (
  ctor_stops T xs (proper_here 1 xs c.proper_at.ensures c.in_ok-name.was k) _ c.arguments_at.new.row c.arguments_at.result
      ((rw c.sort_table-sorts.ensures at c.arguments_at.ensures) T xs h k (omega (arith, n))) c.in_err-arity.was,
  (refl, refl),
)

pub returns-in_err-arity-clause-declared : goal.returns-in_err-arity-clause-declared
returns-in_err-arity-clause-declared c = λ T xs h k n. rw (handed c.from_residual-in_err-arity.result c.from_residual-in_err-arity.ensures) (
  ctor_stops T xs (proper_here 1 xs c.proper_at.ensures c.in_ok-name.was k) _ c.arguments_at.new.row c.arguments_at.result
      ((rw c.sort_table-sorts.ensures at c.arguments_at.ensures) T xs h.sorts k (omega (arith, n))) c.in_err-arity.was,
  h,
)

pub nth-result-requires : goal.nth-result-requires
nth-result-requires c = (c.requires.form.xs, c.requires.form.holds.cells, omega (arith, c.requires.form.many))

pub sort-requires : goal.sort-requires
sort-requires c = rw c.sort_table-sorts.ensures record {
  some_item = (
    item c.requires.form.xs 3,
    place c.requires.form.xs 3,
    c.nth-result.ensures c.requires.form.xs c.requires.form.holds.cells,
    spells_item c.requires.form.holds 3,
  );
  some_names = some_names c.requires.some_sorts;
}

pub returns-in_err-output-clause-added : goal.returns-in_err-output-clause-added
returns-in_err-output-clause-added c = λ T xs h s k n. rw (handed c.from_residual-in_err-output.result c.from_residual-in_err-output.ensures) (
  ctor_no_sort T xs (proper_here 1 xs c.proper_at.ensures c.in_ok-name.was k)
      (stored_of _ c.arguments_at.new.row _ c.arguments_at.result ((rw c.sort_table-sorts.ensures at c.arguments_at.ensures) T xs h k (omega (arith, n)))
      c.in_ok-arity.was)
      (sort_unknown (rw c.sort_table-sorts.ensures at c.sort.ensures) T h (item xs 3) (place xs 3) (c.nth-result.ensures xs k.cells) (spells_item k 3)
      c.in_err-output.was),
  (refl, refl),
)

pub returns-in_err-output-clause-declared : goal.returns-in_err-output-clause-declared
returns-in_err-output-clause-declared c = λ T xs h k n. rw (handed c.from_residual-in_err-output.result c.from_residual-in_err-output.ensures) (
  ctor_no_sort T xs (proper_here 1 xs c.proper_at.ensures c.in_ok-name.was k)
      (stored_of _ c.arguments_at.new.row _ c.arguments_at.result ((rw c.sort_table-sorts.ensures at c.arguments_at.ensures) T xs h.sorts k (omega (arith, n)))
      c.in_ok-arity.was)
      (sort_unknown (rw c.sort_table-sorts.ensures at c.sort.ensures) T h.sorts (item xs 3) (place xs 3) (c.nth-result.ensures xs k.cells) (spells_item k 3)
      c.in_err-output.was),
  h,
)

pub of-bytes-requires : goal.of-bytes-requires
of-bytes-requires c = let name = proper_here 1 c.requires.form.xs c.proper_at.ensures c.in_ok-name.was c.requires.form.holds in (omega (arith, name.end), name.high)

pub named-requires : goal.named-requires
named-requires c = rw c.known-known.ensures (c.requires.some_symbols_held.0, symbols_rows c.requires.some_symbols_held.1)

pub returns-then-is_some-clause-added : goal.returns-then-is_some-clause-added
returns-then-is_some-clause-added c = λ T xs h s k n. (
  ctor_again T xs (proper_here 1 xs c.proper_at.ensures c.in_ok-name.was k)
      (stored_of _ c.arguments_at.new.row _ c.arguments_at.result ((rw c.sort_table-sorts.ensures at c.arguments_at.ensures) T xs h k (omega (arith, n)))
      c.in_ok-arity.was) (sort_known (rw c.sort_table-sorts.ensures at c.sort.ensures) T h (item xs 3) (place xs 3) (c.nth-result.ensures xs k.cells) (spells_item k 3) _
      c.in_ok-output.was) ((rw (c.known-known.ensures, c.of-bytes.ensures) at c.named.ensures) T.symbols (symbols_rows s)) (is_there _ c.is_some.ensures c.if-is_some.true).1,
  (refl, refl),
)

pub returns-then-is_some-clause-declared : goal.returns-then-is_some-clause-declared
returns-then-is_some-clause-declared c = λ T xs h k n. ((returns-then-is_some-clause-added c T xs h.sorts h.symbols k n).0, h)

pub store-requires : goal.store-requires
store-requires c =
    let form = c.requires.form in
    symbol_fits c.requires.some_symbols_held.1 (proper_here 1 form.xs c.proper_at.ensures c.in_ok-name.was form.holds) form.short
    (sort_small (rw c.sort_table-sorts.ensures at c.sort.ensures) _ c.in_ok-output.was c.requires.some_sorts (item form.xs 3) (place form.xs 3)
    (c.nth-result.ensures form.xs form.holds.cells) (spells_item form.holds 3))
    (stored_of _ c.arguments_at.new.row _ c.arguments_at.result ((rw c.sort_table-sorts.ensures at c.arguments_at.ensures) (sorted c.requires.some_sorts.0) form.xs c.requires.some_sorts.1 form.holds (omega (arith, form.many)))
    c.in_ok-arity.was).most _ c.arguments_at.auto.row

pub returns-clause-added : goal.returns-clause-added
returns-clause-added c = λ T xs h s k n.
    let name = proper_here 1 xs c.proper_at.ensures c.in_ok-name.was k in
    let stored =
    stored_of _ c.arguments_at.new.row _ c.arguments_at.result ((rw c.sort_table-sorts.ensures at c.arguments_at.ensures) T xs h k (omega (arith, n)))
    c.in_ok-arity.was in
    subst (λ z. SymbolAdded c.args.text.now c.args.tables.now c.store.new.tables T z c.store.result)
    (sym (ctor_is_new T xs name stored (sort_known (rw c.sort_table-sorts.ensures at c.sort.ensures) T h (item xs 3) (place xs 3) (c.nth-result.ensures xs k.cells) (spells_item k 3) _
    c.in_ok-output.was) ((rw (c.known-known.ensures, c.of-bytes.ensures) at c.named.ensures) T.symbols (symbols_rows s)) (is_absent _ c.is_some.ensures c.if-is_some.false)))
    (c.store.ensures.added c.args.text.now T _ s (symbol_cells_lem T xs name stored _ refl))

pub returns-clause-declared : goal.returns-clause-declared
returns-clause-declared c = λ T xs h k n.
    let name = proper_here 1 xs c.proper_at.ensures c.in_ok-name.was k in
    let stored =
    stored_of _ c.arguments_at.new.row _ c.arguments_at.result ((rw c.sort_table-sorts.ensures at c.arguments_at.ensures) T xs h.sorts k (omega (arith, n)))
    c.in_ok-arity.was in
    subst (λ z. DeclaredAs c.args.text.now (lists_of c.store.new.tables) c.store.new.tables.held T z c.store.result)
    (sym (ctor_is_new T xs name stored (sort_known (rw c.sort_table-sorts.ensures at c.sort.ensures) T h.sorts (item xs 3) (place xs 3) (c.nth-result.ensures xs k.cells) (spells_item k 3) _
    c.in_ok-output.was) ((rw (c.known-known.ensures, c.of-bytes.ensures) at c.named.ensures) T.symbols (symbols_rows h.symbols)) (is_absent _ c.is_some.ensures c.if-is_some.false)))
    (c.store.ensures.declared c.args.text.now T _ h (symbol_cells_lem T xs name stored _ refl))
