use Rattle.std.proofs.Common.{rules, tests, ◌≡◌, true, false, ℕ, Bool, arith, get_or}
use Rattle.std.proofs.lemmas.Iterator.{first_from_Range, serves_from_Range}
use Rattle.rules.specs.Theory.{Symbol, no_symbol}
use Rattle.kernel.specs.Named.{SymbolAt, called}
use Rattle.sexp.specs.FoundLaws.{first_is}
use Rattle.kernel.proofs.names.SymbolTable.named.Goals as goal

pub find-requires-clause-callable : goal.find-requires-clause-callable
find-requires-clause-callable c =
    serves_from_Range (λ x q r. search (rules, tests))
    (λ x l h y e a b d f i j k m n. rw e (get_or c.requires.0 x no_symbol, c.requires.1.row x (omega (arith, h, c.requires.1.many))))

pub returns : goal.returns
returns c = λ ss r.
    let Says : Bool → ℕ → Type 0 = λ b k. (s : Symbol) → SymbolAt c.args.self.now.text.now c.args.self.now.rows.now k s → called c.args.kind c.args.name.now s ≡ b in
    first_is (called c.args.kind c.args.name.now) ss no_symbol 0 r.many (Says true) (Says false)
    (λ k l e. e _ (r.row k (omega (arith, l, r.many)))) (λ k l e. e _ (r.row k (omega (arith, l, r.many)))) c.find.result
    (first_from_Range _ c.find.new.self _ c.find.result (Says true) (Says false) c.find.ensures.ran
    (λ x q k. search (rules, tests)) (λ x q k. search (rules, tests)))
