use mathlib.Core.Path.{ap}
use mathlib.Core.Bool.{not}
use borrow.Author.Tests.{not-true, not-false}
use Rattle.terms.specs.Sets.{counted_from_1}
use Rattle.terms.specs.Laws.Answers.{built_term, built_no}
use Rattle.derivation.proofs.StepMatches.{stated_other, premises_matchable, premises_other, stated_done, built_buildable, built_done, built_refused}
use Rattle.derivation.proofs.items.Said.matched.Goals as goal

pub returns-then-not-match_stated-clause-read_as : goal.returns-then-not-match_stated-clause-read_as
returns-then-not-match_stated-clause-read_as c = λ g.
    let s = rw c.terms-terms.ensures at c.match_stated.ensures.matched_as in
    stated_other g s (not-true _ (ap not c.if-not-match_stated.true))

pub match_all-requires : goal.match_all-requires
match_all-requires c =
    let s = rw c.terms-terms.ensures at c.match_stated.ensures.matched_as in
    let t = not-false _ (ap not c.if-not-match_stated.false) in
    rw c.terms-terms.ensures (premises_matchable c.requires s t)

pub returns-then-not-match_all-clause-read_as : goal.returns-then-not-match_all-clause-read_as
returns-then-not-match_all-clause-read_as c = λ g.
    let s = rw c.terms-terms.ensures at c.match_stated.ensures.matched_as in
    let t = not-false _ (ap not c.if-not-match_stated.false) in
    let a = rw c.terms-terms.ensures at c.match_all.ensures.matched in
    premises_other g s t a (not-true _ (ap not c.if-not-match_all.true))

pub returns-in-Some-clause-read_as : goal.returns-in-Some-clause-read_as
returns-in-Some-clause-read_as c = λ g.
    let s = rw c.terms-terms.ensures at c.match_stated.ensures.matched_as in
    let t = not-false _ (ap not c.if-not-match_stated.false) in
    let a = rw c.terms-terms.ensures at c.match_all.ensures.matched in
    let b = not-false _ (ap not c.if-not-match_all.false) in
    stated_done g s t a b (ap counted_from_1 c.in-Some.is)

pub build-requires : goal.build-requires
build-requires c =
    let s = rw c.terms-terms.ensures at c.match_stated.ensures.matched_as in
    let t = not-false _ (ap not c.if-not-match_stated.false) in
    let a = rw c.terms-terms.ensures at c.match_all.ensures.matched in
    let b = not-false _ (ap not c.if-not-match_all.false) in
    built_buildable c.requires s t a b

pub returns-in-Err-clause-read_as : goal.returns-in-Err-clause-read_as
returns-in-Err-clause-read_as c = λ g.
    let s = rw c.terms-terms.ensures at c.match_stated.ensures.matched_as in
    let t = not-false _ (ap not c.if-not-match_stated.false) in
    let a = rw c.terms-terms.ensures at c.match_all.ensures.matched in
    let b = not-false _ (ap not c.if-not-match_all.false) in
    built_refused g s t a b (ap counted_from_1 c.in-None.is) (built_no (c.build.ensures.built _ g.conclusion) c.in-Err.is)

pub returns-in-Ok-clause-read_as : goal.returns-in-Ok-clause-read_as
returns-in-Ok-clause-read_as c = λ g.
    let s = rw c.terms-terms.ensures at c.match_stated.ensures.matched_as in
    let t = not-false _ (ap not c.if-not-match_stated.false) in
    let a = rw c.terms-terms.ensures at c.match_all.ensures.matched in
    let b = not-false _ (ap not c.if-not-match_all.false) in
    built_done g s t a b (ap counted_from_1 c.in-None.is) (built_term (c.build.ensures.built _ g.conclusion) c.in-Ok.is)
