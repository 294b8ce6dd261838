use Rattle.std.proofs.Common.{rules, tests, ◌≡◌, ◌≤◌, length, Option, MatchOption, true, false, Bool, ℕ, ◌<◌}
use Rattle.std.proofs.lemmas.Iterator.{first_from_Range, serves_from_Range}
use Rattle.rules.specs.Theory.{Theory, no_rule, rule, head_is}
use Rattle.kernel.specs.Lent.{FormedIn}
use Rattle.kernel.specs.Listing.{next_rule}
use Rattle.kernel.specs.Entries.{formed_rule}
use Rattle.sexp.specs.FoundLaws.{first_is}
use Rattle.kernel.proofs.rule_readers.Rules.next_rule.Goals as goal

pub find-requires-clause-callable : goal.find-requires-clause-callable
find-requires-clause-callable c =
    serves_from_Range (λ x q r. search (rules, tests)) (λ x l h y e a b d f i j k m n. rw e (formed_rule c.requires.1 h))

found : (T : Theory) (p from : ℕ) {count : ℕ} → length T.rules ≡ count → (Yes No : ℕ → Type 0)
    → ((k : ℕ) → k < count → Yes k → head_is p (rule T k).conclusion ≡ true) → ((k : ℕ) → k < count → No k → head_is p (rule T k).conclusion ≡ false)
    → (r : Option ℕ)
    → MatchOption r ((k : ℕ) → from ≤ k → k < count → No k) (λ i. (from ≤ i) × (i < count) × Yes i × ((k : ℕ) → from ≤ k → k < i → No k))
    → r ≡ next_rule T p from
unfolding next_rule rule
found T p from many Yes No a b r m = first_is (λ u. head_is p u.conclusion) T.rules no_rule from many Yes No a b r m

pub returns : goal.returns
returns c = λ T f.
    let Says : Bool → ℕ → Type 0
    = λ b k. (T : Theory) (n : ℕ) → FormedIn c.args.symbols.now c.args.self.now n T → k < n
    → head_is c.args.predicate (rule T k).conclusion ≡ b in
    found T c.args.predicate c.args.from f.held.many (Says true) (Says false)
    (λ k l e. e T _ f l) (λ k l e. e T _ f l) c.find.result
    (first_from_Range _ c.find.new.self _ c.find.result (Says true) (Says false) c.find.ensures.ran
    (λ x q k T n h l. search (rules, tests)) (λ x q k. (search (rules, tests), λ T n h l. search (rules, tests))))
