use Rattle.kernel.proofs.Handed.{handed}
use Rattle.forms.proofs.Statings.{listed_given, listed_stop, stated_given, stated_stops, stated_read}
use Rattle.terms.specs.Laws.Zeros.{zero_again}
use mathlib.Core.Path.{sym}
use Rattle.forms.proofs.stating.read_stated.Goals as goal

pub judgments-requires-clause-reads_item : goal.judgments-requires-clause-reads_item
judgments-requires-clause-reads_item c = listed_given c.requires.reads_form c.from.ensures

pub returns-in_err-listed-clause-stated_as : goal.returns-in_err-listed-clause-stated_as
returns-in_err-listed-clause-stated_as c = λ g next. rw (handed c.from_residual.result c.from_residual.ensures)
    (listed_stop g c.from.ensures next c.in_err-listed.ensures.judgments_as)

pub judgment-read-requires : goal.judgment-read-requires
judgment-read-requires c = stated_given c.requires.reads_form c.from.ensures c.in_ok-listed.ensures.judgments_as c.from-2.ensures

pub returns-in_err-judgment-clause-stated_as : goal.returns-in_err-judgment-clause-stated_as
returns-in_err-judgment-clause-stated_as c = λ g next.
    let e = sym c.in_err-judgment.ensures.same in
    rw (handed c.from_residual-in_err-judgment.result c.from_residual-in_err-judgment.ensures) (
      stated_stops g c.from.ensures c.in_ok-listed.ensures.judgments_as c.from-2.ensures next (rw e at c.judgment-read.ensures.read_as),
      zero_again c.judgments.new.out c.requires.out_value c.judgments.auto.out (rw e at c.in_err-judgment.ensures.cleared),
    )

pub returns-clause-stated_as : goal.returns-clause-stated_as
returns-clause-stated_as c = λ g next.
    let e = sym c.in_ok-judgment.ensures.same in
    rw (rw e at c.in_ok-judgment.ensures.cleared)
    (stated_read g c.from.ensures c.in_ok-listed.ensures.judgments_as c.from-2.ensures next (rw e at c.judgment-read.ensures.read_as))
