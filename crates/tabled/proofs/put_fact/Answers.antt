use mathlib.Core.Path.{◌≡◌, ap, ◌∙◌}
use borrow.Author.Rules.{rules}
use Prim.Native.Nat.{◌*◌}
use lib.ListN.{length}
use lib.Seq.{sets}
use Rattle.state.specs.Records.{four_words}
use Rattle.tabled.proofs.put_fact.Goals as goal

pub returns-clause-foot : goal.returns-clause-foot
returns-clause-foot c =
    let four : length c.args.f.footing ≡ 4 = search rules in
    c.put-2.ensures ∙ ap (sets c.args.feet.now (4 * c.args.i)) (four_words c.args.f.footing four)
