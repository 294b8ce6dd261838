use mathlib.Core.Path.{ap, ◌∙◌}
use Rattle.std.proofs.lemmas.Result.{err_from_is_err_and}
use Rattle.terms.specs.Lent.{terms_of}
use Rattle.casework.specs.Laws.Facts.{recalls_grown}
use Rattle.inversion.proofs.InvertJudges.{own_said, judge_unmade, judge_given, judge_unread, judge_verdict, judge_done}
use Rattle.inversion.proofs.inverting.Inverting.judge_on.Goals as goal

pub own_hyps-requires : goal.own_hyps-requires
own_hyps-requires c = rw c.facts-facts.ensures (terms_of c.args.store.now, c.requires.recalls)

pub returns-in_err-rule_premises-clause-judged_as : goal.returns-in_err-rule_premises-clause-judged_as
returns-in_err-rule_premises-clause-judged_as c = λ g. let p = err_from_is_err_and c.from_residual.result c.from_residual.ensures.1 in
    rw (p.1, p.2) (judge_unmade g c.args.i (c.in_err-rule_premises.ensures.premises_as _ g.renamed))

pub context_facts-requires : goal.context_facts-requires
context_facts-requires c =
    let g = c.requires in
    let p = c.in_ok-rule_premises.ensures.premises_as _ g.renamed in
    let o = ap (λ b. b.now) p.1.0 ∙ c.none-grounds.ensures.0 ∙ own_said c.args.self.now.source c.args.i c.facts-facts.ensures c.own_hyps.ensures in
    rw c.facts-facts.ensures (judge_given g c.args.i o p.0 c.in_ok-rule_premises.ensures.memo_unchanged, g.known, g.zero)

pub returns-in_err-context_facts-clause-judged_as : goal.returns-in_err-context_facts-clause-judged_as
returns-in_err-context_facts-clause-judged_as c = λ g.
    let p = c.in_ok-rule_premises.ensures.premises_as _ g.renamed in
    let o = ap (λ b. b.now) p.1.0 ∙ c.none-grounds.ensures.0 ∙ own_said c.args.self.now.source c.args.i c.facts-facts.ensures c.own_hyps.ensures in
    let e = err_from_is_err_and c.from_residual-in_err-context_facts.result c.from_residual-in_err-context_facts.ensures.1 in
    rw (e.1, e.2) (judge_unread g c.args.i o p.0 ((rw c.facts-facts.ensures at c.in_err-context_facts.ensures.context_as) (recalls_grown p.0.went.grown g.recalls)))

pub verdict-requires : goal.verdict-requires
verdict-requires c =
    let g = c.requires in
    let p = c.in_ok-rule_premises.ensures.premises_as _ g.renamed in
    let o = ap (λ b. b.now) p.1.0 ∙ c.none-grounds.ensures.0 ∙ own_said c.args.self.now.source c.args.i c.facts-facts.ensures c.own_hyps.ensures in
    let k = (rw c.facts-facts.ensures at c.in_ok-context_facts.ensures.context_as) (recalls_grown p.0.went.grown g.recalls) in
    rw c.facts-facts.ensures (judge_verdict g c.args.i o p.0 k.0 (ap (λ b. b.now) k.1))

pub returns-clause-judged_as : goal.returns-clause-judged_as
returns-clause-judged_as c = λ g.
    let p = c.in_ok-rule_premises.ensures.premises_as _ g.renamed in
    let o = ap (λ b. b.now) p.1.0 ∙ c.none-grounds.ensures.0 ∙ own_said c.args.self.now.source c.args.i c.facts-facts.ensures c.own_hyps.ensures in
    let k = (rw c.facts-facts.ensures at c.in_ok-context_facts.ensures.context_as) (recalls_grown p.0.went.grown g.recalls) in
    judge_done g c.args.i o p.0 k.0 _ ((rw c.facts-facts.ensures at c.verdict.ensures) (judge_verdict g c.args.i o p.0 k.0 (ap (λ b. b.now) k.1)))
    c.none-grounds.ensures.1 (p.1.1 ∙ c.none-grounds.ensures.2)
