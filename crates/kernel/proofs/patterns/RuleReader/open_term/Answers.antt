use mathlib.Core.Path.{ap, ◌∙◌}
use Rattle.std.specs.Prelude.{Err}
use Rattle.sexp.specs.Each.{name_first}
use Rattle.kernel.proofs.Handed.{handed}
use Rattle.kernel.proofs.Missing.{there, absent, question_is}
use Rattle.kernel.proofs.Opens.{term_nameless, term_lone, term_opened}
use Rattle.kernel.proofs.patterns.RuleReader.open_term.Goals as goal

pub head-requires : goal.head-requires
head-requires c = (c.requires.zs, c.requires.holds)

pub returns-in_err-name-clause-opened : goal.returns-in_err-name-clause-opened
returns-in_err-name-clause-opened c = λ T R zs h w k.
    let none = rw (absent _ _ c.ok_or.ensures.ok_part c.in_err-name.was) at (c.head.ensures zs k) in
    rw (handed c.from_residual.result c.from_residual.ensures ∙ ap Err (question_is _ _ c.ok_or.ensures.ok_part c.ok_or.ensures.value c.in_err-name.was)) (term_nameless T R c.args.sort zs _ _ none.0 none.1)

pub count-many-requires : goal.count-many-requires
count-many-requires c = (c.requires.zs, c.requires.holds.cells)

pub returns-then-many-lt2-clause-opened : goal.returns-then-many-lt2-clause-opened
returns-then-many-lt2-clause-opened c = λ T R zs h w k.
    term_lone T R c.args.sort _ _ (name_first zs k (rw (there _ _ c.ok_or.ensures.ok_part c.in_ok-name.was) at (c.head.ensures zs k)).1) _ (c.count-many.ensures zs k.cells) c.if-many-lt2.true

pub constructor-requires : goal.constructor-requires
constructor-requires c = record { inputs = _; held = c.requires.held; long = c.requires.long }

pub returns-clause-opened : goal.returns-clause-opened
returns-clause-opened c = λ T R zs h w k. term_opened T R c.args.sort c.args.self.now.patterns.now c.args.self.now.used
    (name_first zs k (rw (there _ _ c.ok_or.ensures.ok_part c.in_ok-name.was) at (c.head.ensures zs k)).1) c.count-many.result (c.count-many.ensures zs k.cells) c.if-many-lt2.false
    _ _ c.constructor.result (c.constructor.ensures.head T _ h R w)
