use mathlib.Core.Path.{ap, ◌∙◌}
use native.Mathlib.Omega.{arith}
use Rattle.std.specs.Prelude.{Err}
use Rattle.sexp.specs.Each.{name_first}
use Rattle.kernel.proofs.Handed.{handed}
use Rattle.kernel.proofs.Missing.{there, absent, question_is}
use Rattle.kernel.proofs.Trees.{symbolic}
use Rattle.kernel.proofs.Words.{predicate_known, known_small, arity_few}
use Rattle.kernel.proofs.Opens.{judgment_nameless, judgment_unknown, judgment_count, judgment_opened, judgment_full}
use Rattle.kernel.proofs.patterns.RuleReader.open_judgment.Goals as goal

pub head-requires : goal.head-requires
head-requires c = (c.requires.zs, c.requires.holds)

pub returns-in_err-name-clause-opened : goal.returns-in_err-name-clause-opened
returns-in_err-name-clause-opened c = λ T R zs h w k.
    let none = rw (absent _ _ c.ok_or.ensures.ok_part c.in_err-name.was) at (c.head.ensures zs k) in
    rw (handed c.from_residual.result c.from_residual.ensures ∙ ap Err (question_is _ _ c.ok_or.ensures.ok_part c.ok_or.ensures.value c.in_err-name.was)) (judgment_nameless T R zs _ _ none.0 none.1)

pub predicate_named-requires : goal.predicate_named-requires
predicate_named-requires c = (c.args.self.now.known.inputs.now, c.requires.held)

pub returns-in_err-p-clause-opened : goal.returns-in_err-p-clause-opened
returns-in_err-p-clause-opened c = λ T R zs h w k.
    rw (handed c.from_residual-in_err-p.result c.from_residual-in_err-p.ensures ∙ ap Err (question_is _ _ c.ok_or-2.ensures.ok_part c.ok_or-2.ensures.value c.in_err-p.was))
    (judgment_unknown T R _ _ (name_first zs k (rw (there _ _ c.ok_or.ensures.ok_part c.in_ok-name.was) at (c.head.ensures zs k)).1) h _ (c.predicate_named.ensures T _ h) (absent _ _ c.ok_or-2.ensures.ok_part c.in_err-p.was))

pub arity-arity-requires : goal.arity-arity-requires
arity-arity-requires c = let held = c.requires.held in
    predicate_known (symbolic held.0) _ _ _ held.1 (there _ _ c.ok_or-2.ensures.ok_part c.in_ok-p.was) (c.predicate_named.ensures (symbolic held.0) _ held.1)

pub count-many-requires : goal.count-many-requires
count-many-requires c = (c.requires.zs, c.requires.holds.cells)

pub overflow_add-arity : goal.overflow_add-arity
overflow_add-arity c = let held = c.requires.held in
    omega (arith, arity_few (predicate_known (symbolic held.0) _ _ _ held.1 (there _ _ c.ok_or-2.ensures.ok_part c.in_ok-p.was) (c.predicate_named.ensures (symbolic held.0) _ held.1)) c.arity-arity.ensures)

pub returns-then-arity-many-clause-opened : goal.returns-then-arity-many-clause-opened
returns-then-arity-many-clause-opened c = λ T R zs h w k.
    judgment_count T R _ _ (name_first zs k (rw (there _ _ c.ok_or.ensures.ok_part c.in_ok-name.was) at (c.head.ensures zs k)).1) h _ (c.predicate_named.ensures T _ h)
    _ (there _ _ c.ok_or-2.ensures.ok_part c.in_ok-p.was) _ c.arity-arity.ensures _ (c.count-many.ensures zs k.cells) c.if-arity-many.true

pub word-requires : goal.word-requires
word-requires c = let held = c.requires.held in record {
  long = c.requires.long;
  small = omega (arith, known_small (predicate_known (symbolic held.0) _ _ _ held.1 (there _ _ c.ok_or-2.ensures.ok_part c.in_ok-p.was) (c.predicate_named.ensures (symbolic held.0) _ held.1)));
}

pub returns-in_err-word-clause-opened : goal.returns-in_err-word-clause-opened
returns-in_err-word-clause-opened c = λ T R zs h w k. rw (handed c.from_residual-in_err-word.result c.from_residual-in_err-word.ensures)
    (judgment_full T R _ _ (name_first zs k (rw (there _ _ c.ok_or.ensures.ok_part c.in_ok-name.was) at (c.head.ensures zs k)).1) h _ (c.predicate_named.ensures T _ h)
    _ (there _ _ c.ok_or-2.ensures.ok_part c.in_ok-p.was) _ c.arity-arity.ensures _ (c.count-many.ensures zs k.cells) c.if-arity-many.false _ w c.in_err-word.ensures.put)

pub returns-clause-opened : goal.returns-clause-opened
returns-clause-opened c = λ T R zs h w k.
    judgment_opened T R _ _ (name_first zs k (rw (there _ _ c.ok_or.ensures.ok_part c.in_ok-name.was) at (c.head.ensures zs k)).1) h _ (c.predicate_named.ensures T _ h)
    _ (there _ _ c.ok_or-2.ensures.ok_part c.in_ok-p.was) _ c.arity-arity.ensures _ (c.count-many.ensures zs k.cells) c.if-arity-many.false _ w c.requires.long c.in_ok-word.ensures.put
