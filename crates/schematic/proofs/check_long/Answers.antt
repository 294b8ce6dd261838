use Rattle.std.proofs.Common.{rules, refl, sym, ap, ◌++◌, arith}
use Rattle.state.specs.Records.{length_fact_rows}
use Rattle.running.specs.Lent.{working}
use Rattle.schematic.proofs.Whole.{filled_as}
use Rattle.schematic.proofs.check_long.Goals as goal

pub returns-clause-filled : goal.returns-clause-filled
returns-clause-filled c =
    let b = c.check_exact.ensures.same_board in
    let s = c.check_exact.ensures.same_store in
    filled_as (working c.args.vars.now c.args.index.now c.args.words.now c.args.defs.now c.args.rows.now c.args.lists.now) c.args.missing.now
    c.check_exact.ensures.whole (search rules) c.check_exact.new.board.facts.now refl refl
    (λ i. c.facts-1.given.1.1 (sym b.3) i ++ c.split_at_mut-facts.ensures.back i)
    (λ i. c.vars-1.given.1.1 (sym b.0) i ++ c.split_at_mut-vars.ensures.back i)
    (λ i. c.index-1.given.1.1 (sym s.0) i ++ c.split_at_mut-index.ensures.back i)
    (λ i. c.words-1.given.1.1 (sym s.1) i ++ c.split_at_mut-words.ensures.back i)
    (λ i. c.defs-1.given.1.1 (sym b.1) i ++ c.split_at_mut-defs.ensures.back i)
    (λ i. c.rows-1.given.1.1 (sym b.2) i ++ c.split_at_mut-rows.ensures.back i)
    (λ i. c.lists-1.given.1.1 (sym b.4) i ++ c.split_at_mut-lists.ensures.back i)
    (ap (λ l. c.check_exact.new.missing ++ l) c.split_at_mut-missing.ensures.back)

pub check_exact-requires-clause-opening : goal.check_exact-requires-clause-opening
check_exact-requires-clause-opening c =
    record {
      theory = c.requires.exact;
      lent = record {
        exact = record {
          vars = c.split_at_mut-vars.ensures.front_len;
          index = c.split_at_mut-index.ensures.front_len;
          words = c.split_at_mut-words.ensures.front_len;
          defs = c.split_at_mut-defs.ensures.front_len;
          goals = c.split_at_mut-rows.ensures.front_len;
          lists = c.split_at_mut-lists.ensures.front_len;
        };
        facts = omega (arith, length_fact_rows c.split_at_mut-facts.result.0.now, c.split_at_mut-facts.ensures.front_len);
      };
      cells_zero = refl;
    }
