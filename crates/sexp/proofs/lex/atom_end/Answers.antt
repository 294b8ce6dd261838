use mathlib.Core.Path.{refl, sym, ◌∙◌}
use native.Mathlib.Omega.{arith}
use Rattle.sexp.proofs.Blocks.{atom_begin, atom_byte, letters_blocks, atom_stop, atom_over}
use Rattle.sexp.proofs.ByteLaws.{is_letter_lem, no_letter}
use Rattle.sexp.proofs.lex.atom_end.Goals as goal

pub loop-at-init : goal.loop-at-init
loop-at-init c = atom_begin _ _ _ c.requires refl

pub returns-else-is_letter : goal.returns-else-is_letter
returns-else-is_letter c = atom_stop c.loop-at.invariant c.loop-at-test.true (no_letter _ (sym c.is_letter.ensures ∙ c.if-is_letter.false))

pub loop-at-smaller : goal.loop-at-smaller
loop-at-smaller c = omega (arith, c.loop-at-test.true)

pub loop-at-preserved : goal.loop-at-preserved
loop-at-preserved c = atom_byte c.loop-at.invariant c.loop-at-test.true (is_letter_lem _ (sym c.is_letter.ensures ∙ c.if-is_letter.true)) refl

pub returns : goal.returns
returns c = atom_over c.loop-at.invariant c.loop-at-test.false

pub loop-at-preserved-then-at-eq0 : goal.loop-at-preserved-then-at-eq0
loop-at-preserved-then-at-eq0 c =
    let e = c.skip_blocks-at.ensures in
    letters_blocks e.0 e.1 e.2
    (atom_byte c.loop-at.invariant c.loop-at-test.true (is_letter_lem _ (sym c.is_letter.ensures ∙ c.if-is_letter.true)) refl)
    (λ k l. rw (e.3 k l).shows at (e.3 k l).says.met refl)
