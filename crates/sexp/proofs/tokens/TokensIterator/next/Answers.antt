use Rattle.std.proofs.Common.{refl, arith, rules}
use Rattle.sexp.proofs.Comings.{none_comes, left_comes, right_comes, word_comes}
use Rattle.sexp.proofs.tokens.TokensIterator.next.Goals as goal

pub returns-then-text-start-clause-steps : goal.returns-then-text-start-clause-steps
returns-then-text-start-clause-steps c = none_comes c.skip-start.ensures c.if-text-start.true

pub invariant_of-self-in_default : goal.invariant_of-self-in_default
invariant_of-self-in_default c = record { inside = (word_comes c.skip-start.ensures (omega (arith, c.if-text-start.false)) (search rules) (search rules) c.atom_end-self.ensures).high }

pub returns-in-40-clause-steps : goal.returns-in-40-clause-steps
returns-in-40-clause-steps c = record { same = refl; gives = (_, refl, left_comes c.skip-start.ensures (omega (arith, c.if-text-start.false)) c.in-40.is) }

pub returns-in-41-clause-steps : goal.returns-in-41-clause-steps
returns-in-41-clause-steps c = record { same = refl; gives = (_, refl, right_comes c.skip-start.ensures (omega (arith, c.if-text-start.false)) c.in-41.is) }

pub returns-in_default-clause-steps : goal.returns-in_default-clause-steps
returns-in_default-clause-steps c =
    record { same = refl; gives = (c.atom_end-self.ensures, word_comes c.skip-start.ensures (omega (arith, c.if-text-start.false)) (search rules) (search rules) c.atom_end-self.ensures) }

pub returns-in_default-clause-goes : goal.returns-in_default-clause-goes
returns-in_default-clause-goes c =
    let k = word_comes c.skip-start.ensures (omega (arith, c.if-text-start.false)) (search rules) (search rules) c.atom_end-self.ensures in
    search (rules, k.low, k.on, k.high, arith)
