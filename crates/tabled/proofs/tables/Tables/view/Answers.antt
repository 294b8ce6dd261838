use Rattle.std.specs.Prelude.{refl}
use Rattle.tabled.proofs.tables.Tables.view.Goals as goal

pub returns : goal.returns
returns c =
    record {
      texts_same = refl;
      answer_same = refl;
      symbols = c.as_chunks.ensures.front;
      rules = c.as_chunks-2.ensures.front;
      vars = c.as_chunks-3.ensures.front;
      index = refl;
      words = refl;
      defs = c.as_chunks-4.ensures.front;
      goals = c.as_chunks-5.ensures.front;
      lists = refl;
      missing = refl;
      facts = refl;
    }
