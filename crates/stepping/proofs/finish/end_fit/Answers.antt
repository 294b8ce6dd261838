use Rattle.std.proofs.Common.{rules, sym, ap, ◌∙◌, ◌++◌}
use Rattle.rules.specs.Limits.{WORDS}
use Rattle.terms.specs.Table.{settled}
use Rattle.running.specs.Lent.{working}
use Rattle.stepping.proofs.Steps.{cut_is}
use Rattle.stepping.proofs.Ends.{finish_given, same_part, ended_as}
use Rattle.stepping.proofs.finish.end_fit.Goals as goal

pub finish-requires : goal.finish-requires
finish-requires c = (
  finish_given c.requires
      (cut_is (working c.args.vars.now c.args.index.now c.args.words.now c.args.defs.now c.args.rows.now c.args.lists.now) c.args.facts.now
      c.split_at_mut-vars.ensures.front c.split_at_mut-index.ensures.front c.split_at_mut-words.ensures.front c.split_at_mut-defs.ensures.front
      c.split_at_mut-rows.ensures.front c.split_at_mut-facts.ensures.front c.split_at_mut-lists.ensures.front),
  c.split_at_mut-missing.ensures.front_len,
)

pub returns : goal.returns
returns c =
    let W = working c.args.vars.now c.args.index.now c.args.words.now c.args.defs.now c.args.rows.now c.args.lists.now in
    let f = c.finish.ensures in
    λ g.
    ended_as W c.args.missing.now
    (f.finishes
    (finish_given g
    (cut_is W c.args.facts.now
    c.split_at_mut-vars.ensures.front c.split_at_mut-index.ensures.front c.split_at_mut-words.ensures.front c.split_at_mut-defs.ensures.front
    c.split_at_mut-rows.ensures.front c.split_at_mut-facts.ensures.front c.split_at_mut-lists.ensures.front)))
    (search rules)
    (sym c.split_at_mut-facts.ensures.value)
    (ap (λ l. c.finish.new.missing ++ l) c.split_at_mut-missing.ensures.back)
    (sym c.split_at_mut-vars.ensures.value)
    (λ i. (c.index-1.given.1.1 (sym f.same_tables.0) ∙ f.index_after ∙ ap settled c.split_at_mut-index.ensures.front) i ++ c.split_at_mut-index.ensures.back i)
    (same_part WORDS c.args.words.now (λ i. (c.words-1.given.1.1 (sym f.same_tables.1) ∙ f.words_after) i ++ c.split_at_mut-words.ensures.back i) c.split_at_mut-words.ensures.front)
    (sym c.split_at_mut-defs.ensures.value)
    (sym c.split_at_mut-rows.ensures.value)
    (sym c.split_at_mut-lists.ensures.value)
