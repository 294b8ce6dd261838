use Rattle.std.proofs.Common.{sym, ◌++◌}
use Rattle.running.specs.Lent.{working}
use Rattle.stepping.proofs.Steps.{cut_is, ready, advanced_as}
use Rattle.stepping.proofs.form.form_long.Goals as goal

pub next_form-next-requires-clause-ready : goal.next_form-next-requires-clause-ready
next_form-next-requires-clause-ready c =
    ready c.args.given.now _ _ c.requires.going
    (cut_is (working c.args.vars.now c.args.index.now c.args.words.now c.args.defs.now c.args.rows.now c.args.lists.now) c.args.facts.now
    c.split_at_mut-vars.ensures.front c.split_at_mut-index.ensures.front c.split_at_mut-words.ensures.front c.split_at_mut-defs.ensures.front
    c.split_at_mut-rows.ensures.front c.split_at_mut-facts.ensures.front c.split_at_mut-lists.ensures.front)

pub returns-clause-advanced : goal.returns-clause-advanced
returns-clause-advanced c =
    let b = c.next_form-next.ensures.same_tables.0 in
    let s = c.next_form-next.ensures.same_tables.1 in
    let W = working c.args.vars.now c.args.index.now c.args.words.now c.args.defs.now c.args.rows.now c.args.lists.now in
    λ g.
    advanced_as c.args.given.now _ c.next_form-next.new.board _ c.next_form-next.new.store g.k _ g.S W _ c.next_form-next.result
    (c.next_form-next.ensures.advanced
    (ready c.args.given.now _ _ g
    (cut_is W c.args.facts.now
    c.split_at_mut-vars.ensures.front c.split_at_mut-index.ensures.front c.split_at_mut-words.ensures.front c.split_at_mut-defs.ensures.front
    c.split_at_mut-rows.ensures.front c.split_at_mut-facts.ensures.front c.split_at_mut-lists.ensures.front)))
    c.next_form-next.ensures.stay
    (λ i. c.facts-1.given.1.1 (sym b.3) i ++ c.split_at_mut-facts.ensures.back i)
    c.split_at_mut-facts.ensures.front
    (λ i. c.vars-1.given.1.1 (sym b.0) i ++ c.split_at_mut-vars.ensures.back i)
    (λ i. c.index-1.given.1.1 (sym s.0) i ++ c.split_at_mut-index.ensures.back i)
    (λ i. c.words-1.given.1.1 (sym s.1) i ++ c.split_at_mut-words.ensures.back i)
    (λ i. c.defs-1.given.1.1 (sym b.1) i ++ c.split_at_mut-defs.ensures.back i)
    (λ i. c.rows-1.given.1.1 (sym b.2) i ++ c.split_at_mut-rows.ensures.back i)
    (λ i. c.lists-1.given.1.1 (sym b.4) i ++ c.split_at_mut-lists.ensures.back i)
