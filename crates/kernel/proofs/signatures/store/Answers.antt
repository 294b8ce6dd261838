use mathlib.Core.Path.{refl}
use Prim.Native.Nat.{◌+◌, ◌*◌}
use native.Mathlib.Omega.{arith}
use lib.ListN.{set, length-set}
use Rattle.rules.specs.Limits.{ARGUMENTS}
use Rattle.kernel.proofs.Holding.{row_pasted, symbol_full, symbol_stored}
use Rattle.kernel.proofs.signatures.store.Goals as goal

pub returns-then-count-ge-SYMBOLS-clause-added : goal.returns-then-count-ge-SYMBOLS-clause-added
returns-then-count-ge-SYMBOLS-clause-added c = λ text T s h is. (symbol_full T s h c.if-count-ge-SYMBOLS.true, (refl, refl))

pub returns-then-count-ge-SYMBOLS-clause-declared : goal.returns-then-count-ge-SYMBOLS-clause-declared
returns-then-count-ge-SYMBOLS-clause-declared c = λ text T s h is. (symbol_full T s h.symbols c.if-count-ge-SYMBOLS.true, h)

pub put_span-requires : goal.put_span-requires
put_span-requires c = let held = c.args.tables.now.held.symbols in
    let first = length-set c.args.tables.now.symbols.now (4 * held) c.args.output in
    record {
      inside =
          omega (
            arith,
            length-set (set c.args.tables.now.symbols.now (4 * held) c.args.output) (4 * held + 1) c.args.arity,
            first,
            c.requires.long,
            c.if-count-ge-SYMBOLS.false,
          );
      first = c.requires.starts;
      last = c.requires.ends;
    }

pub returns-clause-added : goal.returns-clause-added
returns-clause-added c = λ text T s h is. rw (c.put_span.ensures, row_pasted _ _ (ARGUMENTS * c.args.tables.now.held.symbols) _ c.write.ensures)
    (symbol_stored T s h _ _ _ _ _ is c.if-count-ge-SYMBOLS.false)

pub returns-clause-declared : goal.returns-clause-declared
returns-clause-declared c = λ text T s h is.
    let stored = returns-clause-added c text T s h.symbols is in
    record { now = _; is = stored.is; held = record { sorts = h.sorts; symbols = stored.held; rules = h.rules } }
