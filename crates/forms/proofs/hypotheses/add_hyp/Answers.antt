use Rattle.state.specs.Records.{fact_rows}
use mathlib.Core.Path.{refl}
use native.Mathlib.Omega.{arith}
use Rattle.std.proofs.lemmas.Result.{err_from_is_err_and}
use Rattle.kernel.proofs.Handed.{handed}
use Rattle.state.specs.Held.{records}
use Rattle.forms.proofs.Supposing.{hyp_item, hyp_no, hyp_asks, hyp_added, hyp_full}
use Rattle.forms.proofs.hypotheses.add_hyp.Goals as goal

pub judgment-requires : goal.judgment-requires
judgment-requires c = rw c.reader_of.ensures (hyp_item c.requires c.from.ensures)

pub returns-in_err-judgment-clause-assumed_as : goal.returns-in_err-judgment-clause-assumed_as
returns-in_err-judgment-clause-assumed_as c = λ g.
    let r = rw c.reader_of.ensures at c.in_err-judgment.ensures.read_as in
    rw (handed c.from_residual.result c.from_residual.ensures) (hyp_no g c.from.ensures r, refl, refl)

pub put_hypothesis-requires : goal.put_hypothesis-requires
put_hypothesis-requires c =
    let r = rw c.reader_of.ensures at c.in_ok-judgment.ensures.read_as in
    ((c.requires.footings, hyp_asks c.requires c.from.ensures r), omega arith)

pub returns-in_err-put_hypothesis-clause-assumed_as : goal.returns-in_err-put_hypothesis-clause-assumed_as
returns-in_err-put_hypothesis-clause-assumed_as c = λ g.
    let r = rw c.reader_of.ensures at c.in_ok-judgment.ensures.read_as in
    let p = err_from_is_err_and c.from_residual-in_err-put_hypothesis.result c.from_residual-in_err-put_hypothesis.ensures.1 in
    rw (p.1, p.2) (hyp_full g c.from.ensures r (records (fact_rows c.put_hypothesis.new.self.facts.now) g.footings c.put_hypothesis.new.self.lists.now) c.put_hypothesis.new.self.n
    _ c.in_err-put_hypothesis.ensures.put_as refl)

pub returns-clause-assumed_as : goal.returns-clause-assumed_as
returns-clause-assumed_as c = λ g.
    let r = rw c.reader_of.ensures at c.in_ok-judgment.ensures.read_as in
    hyp_added g c.from.ensures r (records (fact_rows c.put_hypothesis.new.self.facts.now) g.footings c.put_hypothesis.new.self.lists.now) c.put_hypothesis.new.self.n
    _ c.in_ok-put_hypothesis.ensures.put_as refl
