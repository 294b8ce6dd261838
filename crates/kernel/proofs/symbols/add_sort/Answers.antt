use mathlib.Core.Path.{refl}
use native.Mathlib.Omega.{arith}
use Rattle.kernel.proofs.Handed.{handed}
use Rattle.kernel.proofs.Spellings.{proper_here, proper_nowhere}
use Rattle.kernel.proofs.Declared.{sort_nameless}
use Rattle.kernel.proofs.Missing.{is_there, is_absent}
use Rattle.kernel.proofs.Holding.{sort_fits, sort_twice, sort_full, sort_stored}
use Rattle.kernel.proofs.symbols.add_sort.Goals as goal

pub proper_at-requires : goal.proper_at-requires
proper_at-requires c = record { xs = c.requires.form.xs; holds = c.requires.form.holds; there = omega (arith, c.requires.form.many) }

pub returns-in_err-name-clause-added : goal.returns-in_err-name-clause-added
returns-in_err-name-clause-added c = λ T xs h k. rw (handed c.from_residual.result c.from_residual.ensures) (sort_nameless T xs (proper_nowhere 1 xs c.proper_at.ensures c.in_err-name.was k), (refl, refl))

pub returns-in_err-name-clause-declared : goal.returns-in_err-name-clause-declared
returns-in_err-name-clause-declared c = λ T xs h k. rw (handed c.from_residual.result c.from_residual.ensures) (sort_nameless T xs (proper_nowhere 1 xs c.proper_at.ensures c.in_err-name.was k), h)

pub of-bytes-requires : goal.of-bytes-requires
of-bytes-requires c = let name = proper_here 1 c.requires.form.xs c.proper_at.ensures c.in_ok-name.was c.requires.form.holds in (omega (arith, name.end), name.high)

pub named-requires : goal.named-requires
named-requires c = rw c.sort_table-sorts.ensures c.requires.some_sorts

pub returns-then-is_some-clause-added : goal.returns-then-is_some-clause-added
returns-then-is_some-clause-added c = λ T xs h k. let again = is_there _ c.is_some.ensures c.if-is_some.true in (
  sort_twice T xs h _ _ (proper_here 1 xs c.proper_at.ensures c.in_ok-name.was k) _ ((rw (c.sort_table-sorts.ensures, c.of-bytes.ensures) at c.named.ensures) T h) again.0 again.1,
  (refl, refl),
)

pub returns-then-is_some-clause-declared : goal.returns-then-is_some-clause-declared
returns-then-is_some-clause-declared c = λ T xs h k. ((returns-then-is_some-clause-added c T xs h.sorts k).0, h)

pub returns-then-count-ge-SORTS-clause-added : goal.returns-then-count-ge-SORTS-clause-added
returns-then-count-ge-SORTS-clause-added c = λ T xs h k. (
  sort_full T xs h _ _ (proper_here 1 xs c.proper_at.ensures c.in_ok-name.was k) _ ((rw (c.sort_table-sorts.ensures, c.of-bytes.ensures) at c.named.ensures) T h)
      (is_absent _ c.is_some.ensures c.if-is_some.false) c.if-count-ge-SORTS.true,
  (refl, refl),
)

pub returns-then-count-ge-SORTS-clause-declared : goal.returns-then-count-ge-SORTS-clause-declared
returns-then-count-ge-SORTS-clause-declared c = λ T xs h k. ((returns-then-count-ge-SORTS-clause-added c T xs h.sorts k).0, h)

pub put_span-requires : goal.put_span-requires
put_span-requires c = sort_fits c.requires.some_sorts.1 _ _ _ (proper_here 1 c.requires.form.xs c.proper_at.ensures c.in_ok-name.was c.requires.form.holds) c.requires.form.short
    c.if-count-ge-SORTS.false

pub returns-clause-added : goal.returns-clause-added
returns-clause-added c = λ T xs h k. rw c.put_span.ensures
    (sort_stored T xs h _ _ (proper_here 1 xs c.proper_at.ensures c.in_ok-name.was k) _ ((rw (c.sort_table-sorts.ensures, c.of-bytes.ensures) at c.named.ensures) T h)
    (is_absent _ c.is_some.ensures c.if-is_some.false) c.if-count-ge-SORTS.false)

pub returns-clause-declared : goal.returns-clause-declared
returns-clause-declared c = λ T xs h k.
    let stored = returns-clause-added c T xs h.sorts k in
    record { now = _; is = stored.is; held = record { sorts = stored.held; symbols = h.symbols; rules = h.rules } }
