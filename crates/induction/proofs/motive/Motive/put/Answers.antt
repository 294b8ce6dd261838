use mathlib.Core.Path.{refl}
use Rattle.induction.proofs.Moves.{put_over}
use Rattle.induction.proofs.motive.Motive.put.Goals as goal

pub returns : goal.returns
returns c = put_over _ _ c.requires.0 refl
