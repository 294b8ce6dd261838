use Rattle.std.proofs.Common.{arith}
use Rattle.terms.specs.Laws.Variable.{leaf_node}
use Rattle.terms.specs.Laws.Growth.{grown_trans}
use Rattle.terms_main.proofs.Kept.{after_grown}
use Rattle.terms_main.proofs.Nodes.{pair_node}
use Rattle.terms_main.proofs.+read.Goals.{in-97, in-98, in-102+in_ok-left-in-102+in_ok-right-in-102, in-48-to-57}
use Rattle.terms_main.proofs.+read.Goals as goal

pub keep-kept-requires-clause-node : goal.keep-kept-requires-clause-node
keep-kept-requires-clause-node t c = leaf_node _ _ (omega arith)

pub keep-kept-requires-in-98-clause-node : goal.keep-kept-requires-in-98-clause-node
keep-kept-requires-in-98-clause-node t c = leaf_node _ _ (omega arith)

pub keep-kept-requires-in-102-clause-node : goal.keep-kept-requires-in-102-clause-node
keep-kept-requires-in-102-clause-node t c =
    let left = c.in_ok-left-in-102.ensures.placed in
    let right = c.in_ok-right-in-102.ensures.placed in
    pair_node _ _ _ _ (omega arith) (omega (arith, left.there, right.more)) right.there

pub returns-clause-kept : goal.returns-clause-kept
returns-clause-kept t c = elim c.match-head.branch [
  | in-97 w ↦ rw w.store-is (after_grown w.keep-kept.ensures.kept)
  | in-98 w ↦ rw w.store-is (after_grown w.keep-kept-in-98.ensures.kept)
  | in-102+in_ok-left-in-102+in_ok-right-in-102 w ↦ rw w.store-is
      (grown_trans w.in_ok-left-in-102.ensures.kept (grown_trans w.in_ok-right-in-102.ensures.kept (after_grown w.keep-kept-in-102.ensures.kept)))
  | in-48-to-57 w ↦ rw w.store-is (after_grown w.keep_var-kept.ensures.kept)
]
