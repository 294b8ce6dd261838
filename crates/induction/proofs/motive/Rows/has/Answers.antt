use native.Mathlib.Omega.{arith}
use Rattle.std.proofs.Common.{rules, tests}
use Rattle.std.specs.Slice.Iter.{chunks_exact_rest, chunks_exact_size, chunks_exact_steps}
use Rattle.induction.proofs.Rests.{any_rows, rowing_start}
use Rattle.induction.proofs.motive.Rows.has.Goals as goal

pub returns : goal.returns
returns c = λ many f.
    let (xs, o, j, y, says, last) = c.any.ensures.ran in
    let e = c.chunks_exact.ensures in
    any_rows chunks_exact_rest chunks_exact_size chunks_exact_steps _ (λ s t x st. (st.0, st.1.0, st.1.1)) (λ s t st. st.1.0) (λ x b q k l. search (rules, tests)) _ xs o j (omega (arith, e.size)) (rowing_start e.rest f) y says last
