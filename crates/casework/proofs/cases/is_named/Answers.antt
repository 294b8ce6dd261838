use Rattle.std.proofs.Common.{rules, ◌≡◌, false}
use Rattle.std.specs.Option.{MatchOption}
use Rattle.rules.specs.Text.{same}
use Rattle.sexp.specs.Each.{first_atom, first_list}
use Rattle.casework.specs.Laws.CaseItems.{named_atom}
use Rattle.casework.proofs.Finding.{named_same}
use Rattle.casework.proofs.cases.is_named.Goals as goal

pub returns-in_default : goal.returns-in_default
returns-in_default c = λ g. named_atom g (first_atom g.holds c.in_default.ensures)

pub head-requires : goal.head-requires
head-requires c = let l = first_list c.requires.holds c.in-Some.ensures in (l.items, l.holds)

pub returns : goal.returns
returns c = λ g.
    let l = first_list g.holds c.in-Some.ensures in
    let b = c.is_some_and.result in
    let k : MatchOption c.head.result (b ≡ false) (λ own. b ≡ same own.now c.args.name.now) = search rules in
    named_same g l _ c.head.result (c.head.ensures l.items l.holds) k
