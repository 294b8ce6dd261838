use Rattle.std.proofs.Common.{rules, tests, sym, ◌∙◌}
use Rattle.std.proofs.lemmas.List.{length-reverse}
use Rattle.std.proofs.lemmas.Iterator.{same_from_all, YieldsList-from_zip}
use Rattle.std.proofs.lemmas.Iterator.Adapters.{YieldsList-from_rev_slice}
use Rattle.rules.specs.Laws.Text.{same_lengths}
use Rattle.sexp.proofs.ByteLaws.{same_reverse}
use Rattle.sexp.proofs.names.same.Goals as goal

pub returns-then-s-t : goal.returns-then-s-t
returns-then-s-t c = sym (same_lengths _ _ c.if-s-t.true)

pub returns : goal.returns
returns c =
    same_reverse c.args.s.now c.args.t.now _
    (same_from_all c.all.new.self _ _ _ _ c.all.ensures.ran
    (YieldsList-from_zip (YieldsList-from_rev_slice c.args.s.now (cc)) (YieldsList-from_rev_slice c.args.t.now (cc)))
    (length-reverse c.args.s.now ∙ c.if-s-t.false ∙ sym (length-reverse c.args.t.now)) (λ x q k. search (rules, tests)) (λ x q k. search (rules, tests)))
