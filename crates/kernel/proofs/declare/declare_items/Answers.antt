use mathlib.Core.Path.{ap, ◌∙◌}
use Rattle.std.specs.Prelude.{Err}
use Rattle.rules.specs.Tags.{a_sort, a_ctor, a_pred, a_rule}
use Rattle.sexp.specs.declared.tags.Declaration.TheVariants.{Sort, Ctor, Pred, Rule}
use Rattle.kernel.proofs.Handed.{handed}
use Rattle.kernel.proofs.Missing.{there, absent, question_is}
use Rattle.kernel.proofs.Tagged.{told, untold, item_many, form_of, no_tag, sort_taken, ctor_taken, pred_taken, rule_taken}
use Rattle.kernel.proofs.declare.declare_items.Goals as goal

pub tag_of-requires : goal.tag_of-requires
tag_of-requires c = (c.requires.xs, c.requires.holds)

pub returns-in_err-tag-clause-declared : goal.returns-in_err-tag-clause-declared
returns-in_err-tag-clause-declared c = λ T xs h k.
    rw (handed c.from_residual.result c.from_residual.ensures ∙ ap Err (question_is _ _ c.ok_or.ensures.ok_part c.ok_or.ensures.value c.in_err-tag.was))
    (no_tag _ _ _ T xs h (untold (c.tag_of.ensures xs k) (absent _ _ c.ok_or.ensures.ok_part c.in_err-tag.was)))

pub add_sort-requires : goal.add_sort-requires
add_sort-requires c = record { form = form_of c.requires a_sort (told Sort (c.tag_of.ensures c.requires.xs c.requires.holds) (there _ _ c.ok_or.ensures.ok_part c.in_ok-tag.was) c.in-Sort.is); some_sorts = (c.requires.T.sorts, c.requires.held.sorts) }

pub returns-in-Sort-clause-declared : goal.returns-in-Sort-clause-declared
returns-in-Sort-clause-declared c = λ T xs h k.
    let tag = told Sort (c.tag_of.ensures xs k) (there _ _ c.ok_or.ensures.ok_part c.in_ok-tag.was) c.in-Sort.is in
    sort_taken _ _ _ T xs c.add_sort.result tag (c.add_sort.ensures.declared T xs h k)

pub add_ctor-requires : goal.add_ctor-requires
add_ctor-requires c = record { form = form_of c.requires a_ctor (told Ctor (c.tag_of.ensures c.requires.xs c.requires.holds) (there _ _ c.ok_or.ensures.ok_part c.in_ok-tag.was) c.in-Ctor.is); some_sorts = (c.requires.T.sorts, c.requires.held.sorts); some_symbols_held = (c.requires.T.symbols, c.requires.held.symbols) }

pub returns-in-Ctor-clause-declared : goal.returns-in-Ctor-clause-declared
returns-in-Ctor-clause-declared c = λ T xs h k.
    let tag = told Ctor (c.tag_of.ensures xs k) (there _ _ c.ok_or.ensures.ok_part c.in_ok-tag.was) c.in-Ctor.is in
    ctor_taken _ _ _ T xs c.add_ctor.result tag (c.add_ctor.ensures.declared T xs h k (item_many xs a_ctor tag))

pub add_pred-requires : goal.add_pred-requires
add_pred-requires c = record { form = form_of c.requires a_pred (told Pred (c.tag_of.ensures c.requires.xs c.requires.holds) (there _ _ c.ok_or.ensures.ok_part c.in_ok-tag.was) c.in-Pred.is); some_sorts = (c.requires.T.sorts, c.requires.held.sorts); some_symbols_held = (c.requires.T.symbols, c.requires.held.symbols) }

pub returns-in-Pred-clause-declared : goal.returns-in-Pred-clause-declared
returns-in-Pred-clause-declared c = λ T xs h k.
    let tag = told Pred (c.tag_of.ensures xs k) (there _ _ c.ok_or.ensures.ok_part c.in_ok-tag.was) c.in-Pred.is in
    pred_taken _ _ _ T xs c.add_pred.result tag (c.add_pred.ensures.declared T xs h k (item_many xs a_pred tag))

pub declare_rule-requires : goal.declare_rule-requires
declare_rule-requires c = record { form = form_of c.requires a_rule (told Rule (c.tag_of.ensures c.requires.xs c.requires.holds) (there _ _ c.ok_or.ensures.ok_part c.in_ok-tag.was) c.in-Rule.is); held = (c.requires.T, c.requires.held) }

pub returns-in-Rule-clause-declared : goal.returns-in-Rule-clause-declared
returns-in-Rule-clause-declared c = λ T xs h k.
    let tag = told Rule (c.tag_of.ensures xs k) (there _ _ c.ok_or.ensures.ok_part c.in_ok-tag.was) c.in-Rule.is in
    rule_taken _ _ _ T xs c.declare_rule.result tag (c.declare_rule.ensures.declared T xs h k (item_many xs a_rule tag))
