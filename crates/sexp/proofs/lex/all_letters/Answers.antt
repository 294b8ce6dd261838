use Rattle.sexp.proofs.Blocks.{letters_more}
use Rattle.sexp.proofs.lex.all_letters.Goals as goal

pub loop-b-preserved : goal.loop-b-preserved
loop-b-preserved c = letters_more c.args.block.now c.loop-b.b-index c.loop-b.invariant
