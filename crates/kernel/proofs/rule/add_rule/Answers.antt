use mathlib.Core.Path.{refl}
use native.Mathlib.Omega.{arith}
use Rattle.kernel.proofs.Handed.{handed}
use Rattle.kernel.proofs.Missing.{is_there, is_absent}
use Rattle.kernel.proofs.Spellings.{proper_here, proper_nowhere}
use Rattle.kernel.proofs.Declared.{reaching}
use Rattle.sexp.specs.FoundLaws.{names_of}
use Rattle.kernel.proofs.Ruling.{begun}
use Rattle.kernel.specs.RuleRows.{rule_name, rules_rows}
use Rattle.kernel.proofs.Ruled.{ruled, reads_none, beginning, rule_stops, held_still, rule_no_name, rule_again, rule_put, rule_unput, rule_is, rule_fits}
use Rattle.kernel.proofs.rule.add_rule.Goals as goal

pub read_rule-requires : goal.read_rule-requires
read_rule-requires c = beginning _ refl c.requires.form c.requires.some_symbols_held c.requires.some_rules

pub returns-in_err-size : goal.returns-in_err-size
returns-in_err-size c = λ T xs s h k n. rw (handed c.from_residual.result c.from_residual.ensures)
    (rule_stops T xs h (c.in_err-size.ensures T (begun T) xs s (reads_none T _ refl h) k n))

pub proper_at-requires : goal.proper_at-requires
proper_at-requires c = reaching 1 c.requires.form (omega arith)

pub returns-in_err-name : goal.returns-in_err-name
returns-in_err-name c = λ T xs s h k n. rw (handed c.from_residual-in_err-name.result c.from_residual-in_err-name.ensures)
    (rule_no_name T xs h (c.in_ok-size.ensures T (begun T) _ s (reads_none T _ refl h) k n).written
    (proper_nowhere 1 xs c.proper_at.ensures c.in_err-name.was k))

pub of-requires : goal.of-requires
of-requires c = let name = proper_here 1 c.requires.form.xs c.proper_at.ensures c.in_ok-name.was c.requires.form.holds in (omega (arith, name.end), name.high)

pub named-requires : goal.named-requires
named-requires c = (names_of rule_name c.requires.some_rules.0, rules_rows c.requires.some_rules.1)

pub returns-then-is_some : goal.returns-then-is_some
returns-then-is_some c = λ T xs s h k n. rule_again T xs h (c.in_ok-size.ensures T (begun T) _ s (reads_none T _ refl h) k n).written
    (proper_here 1 xs c.proper_at.ensures c.in_ok-name.was k) (rw c.of.ensures at c.named.ensures) (is_there _ c.is_some.ensures c.if-is_some.true).1

pub store-requires : goal.store-requires
store-requires c =
    let T = ruled c.requires.some_symbols_held.0 c.requires.some_rules.0 in
    let said = c.in_ok-size.ensures T (begun T) _ c.requires.some_symbols_held.1 (reads_none T _ refl c.requires.some_rules.1) c.requires.form.holds c.requires.form.many in
    rule_fits T c.requires.form.xs c.requires.some_rules.1 said.written
    (proper_here 1 c.requires.form.xs c.proper_at.ensures c.in_ok-name.was c.requires.form.holds) said.many c.requires.form.short

pub returns-in_err-store : goal.returns-in_err-store
returns-in_err-store c = λ T xs s h k n.
    let name = proper_here 1 xs c.proper_at.ensures c.in_ok-name.was k in
    let said = c.in_ok-size.ensures T (begun T) _ s (reads_none T _ refl h) k n in
    rw (handed c.from_residual-in_err-store.result c.from_residual-in_err-store.ensures)
    (rule_unput T xs h said.written name (rw c.of.ensures at c.named.ensures) (is_absent _ c.is_some.ensures c.if-is_some.false)
    (c.in_err-store.ensures c.args.text.now c.read_rule.new.patterns T.rules _ (held_still T xs h said.written)
    (rule_is T xs h said.written name said.many)))

pub returns : goal.returns
returns c = λ T xs s h k n.
    let name = proper_here 1 xs c.proper_at.ensures c.in_ok-name.was k in
    let said = c.in_ok-size.ensures T (begun T) _ s (reads_none T _ refl h) k n in
    rule_put T xs h said.written name (rw c.of.ensures at c.named.ensures) (is_absent _ c.is_some.ensures c.if-is_some.false)
    (c.in_ok-store.ensures c.args.text.now c.read_rule.new.patterns T.rules _ (held_still T xs h said.written)
    (rule_is T xs h said.written name said.many))
