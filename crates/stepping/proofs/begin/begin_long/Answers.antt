use Rattle.std.proofs.Common.{refl, sym, ◌++◌, arith}
use Rattle.state.specs.Records.{length_fact_rows}
use Rattle.running.specs.Lent.{working}
use Rattle.stepping.proofs.Fronts.{opened_as}
use Rattle.stepping.proofs.begin.begin_long.Goals as goal

pub returns-clause-opened : goal.returns-clause-opened
returns-clause-opened c =
    let b = c.begin-opened.ensures.same_tables.1 in
    let s = c.begin-opened.ensures.same_tables.2 in
    opened_as (working c.args.vars.now c.args.index.now c.args.words.now c.args.defs.now c.args.rows.now c.args.lists.now) _
    c.begin-opened.ensures.opened c.begin-opened.new.board.facts.now refl refl _
    (λ i. c.facts-1.given.1.1 (sym b.3) i ++ c.split_at_mut-facts.ensures.back i)
    (λ i. c.vars-1.given.1.1 (sym b.0) i ++ c.split_at_mut-vars.ensures.back i)
    (λ i. c.index-1.given.1.1 (sym s.0) i ++ c.split_at_mut-index.ensures.back i)
    (λ i. c.words-1.given.1.1 (sym s.1) i ++ c.split_at_mut-words.ensures.back i)
    (λ i. c.defs-1.given.1.1 (sym b.1) i ++ c.split_at_mut-defs.ensures.back i)
    (λ i. c.rows-1.given.1.1 (sym b.2) i ++ c.split_at_mut-rows.ensures.back i)
    (λ i. c.lists-1.given.1.1 (sym b.4) i ++ c.split_at_mut-lists.ensures.back i)

pub begin-opened-requires : goal.begin-opened-requires
begin-opened-requires c =
    record {
      theory = c.requires.exact;
      lent = record {
        exact = record {
          vars = c.split_at_mut-vars.ensures.front_len;
          index = c.split_at_mut-index.ensures.front_len;
          words = c.split_at_mut-words.ensures.front_len;
          defs = c.split_at_mut-defs.ensures.front_len;
          goals = c.split_at_mut-rows.ensures.front_len;
          lists = c.split_at_mut-lists.ensures.front_len;
        };
        facts = omega (arith, length_fact_rows c.split_at_mut-facts.result.0.now, c.split_at_mut-facts.ensures.front_len);
      };
      cells_zero = c.requires.long.2;
    }
