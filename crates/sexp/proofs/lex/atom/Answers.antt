use Rattle.std.proofs.Common.{◌≡◌, ◌-◌, arith, length, drop, length-drop}
use Rattle.rules.specs.Lex.{letters}
use Rattle.rules.specs.Laws.Lex.{letters_front}
use Rattle.sexp.proofs.lex.atom.Goals as goal

pub slice_bounds-result-end : goal.slice_bounds-result-end
slice_bounds-result-end c =
    let rest = drop c.args.start c.args.text.now in
    omega (arith, c.atom_end-end.ensures, (letters_front rest).short, length-drop c.args.start c.args.text.now, c.requires)

pub returns : goal.returns
returns c =
    let rest = drop c.args.start c.args.text.now in
    let n : c.atom_end-end.result - c.args.start ≡ length (letters rest) = omega (arith, c.atom_end-end.ensures) in
    rw n (letters_front rest).first
