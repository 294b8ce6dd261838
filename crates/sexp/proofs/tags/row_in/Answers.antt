use Rattle.std.proofs.Common.{rules, tests}
use Rattle.std.proofs.lemmas.Iterator.{YieldsList-from_slice}
use Rattle.std.proofs.lemmas.Iterator.Search.{find_from_yields_List}
use Rattle.rules.specs.Tags.{fits}
use Rattle.sexp.specs.TagTable.{row_of}
use Rattle.sexp.proofs.TagLaws.{row_found}
use Rattle.sexp.proofs.tags.row_in.Goals as goal

pub returns : goal.returns
returns g c =
    row_found c.args.name.now c.args.items c.args.rows.now c.find.result
    (find_from_yields_List (λ r. fits (row_of r) c.args.name.now c.args.items) c.find.new.self _ c.find.result c.find.ensures.ran (YieldsList-from_slice c.args.rows.now c.iter.ensures.rest)
    (λ x b q k. search (rules, tests)))
