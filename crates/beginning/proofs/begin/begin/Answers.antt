use Rattle.std.proofs.Common.{◌≡◌, ◌∙◌, sym, rules}
use Rattle.questions.specs.declared.Text.TheVariants as text
use Rattle.kernel.proofs.Handed.{handed}
use Rattle.beginning.proofs.Opens.{theory_given, texts_left, in_text, theory_left, goals_given, goals_next, goals_end}
use Rattle.beginning.proofs.begin.begin.Goals as goal

pub returns-in-Err-clause-opened : goal.returns-in-Err-clause-opened
returns-in-Err-clause-opened c = texts_left c.in-Err.ensures c.clear_theory.ensures.cleared c.clear_board.ensures.cleared

pub parse_exact-judged-requires-clause-legible : goal.parse_exact-judged-requires-clause-legible
parse_exact-judged-requires-clause-legible c = theory_given c.requires c.in_default.ensures

pub returns-in_err-map_err-clause-opened : goal.returns-in_err-map_err-clause-opened
returns-in_err-map_err-clause-opened c =
    let p = c.parse_exact-judged.ensures in
    let e : c.map_err.result ≡ in_text text.Theory c.parse_exact-judged.result = search rules in
    rw (handed c.from_residual.result c.from_residual.ensures)
    (theory_left c.clear_board.ensures.cleared c.in_default.ensures c.parse_exact-judged.result p.value p.held p.patterns_after p.laid_held
    c.from-board.ensures (sym e ∙ c.in_err-map_err.was))

pub pose-requires : goal.pose-requires
pose-requires c =
    let p = c.parse_exact-judged.ensures in
    rw c.given_of-given.ensures
    (goals_given c.clear_board.ensures.cleared c.in_default.ensures c.parse_exact-judged.result p.value p.held p.patterns_after p.laid_held
    c.from-board.ensures (p.cells_unchanged ∙ c.requires.cells_zero))

pub returns-clause-opened : goal.returns-clause-opened
returns-clause-opened c =
    let p = c.parse_exact-judged.ensures in
    let e : c.map_err.result ≡ in_text text.Theory c.parse_exact-judged.result = search rules in
    let f : c.map_err-2.result ≡ in_text text.Goals c.pose.result = search rules in
    rw f (goals_end _ _ (rw c.given_of-given.ensures at c.pose.ensures.posed)
    (goals_next c.clear_board.ensures.cleared c.in_default.ensures c.parse_exact-judged.result p.value p.held p.patterns_after p.laid_held
    c.from-board.ensures (sym e ∙ c.in_ok-map_err.was)) c.in_default.ensures.short_proof)
