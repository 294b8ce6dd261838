use Rattle.std.proofs.Common.{rules, tests, arith, sym, ap, ◌∙◌, ◌≡◌, ◌≤◌, ◌*◌, length, Option, MatchOption, true, false, Bool, ℕ, ◌<◌, get_or}
use Rattle.std.specs.Prelude.{eqb}
use Rattle.std.proofs.lemmas.Iterator.{first_from_Range, serves_from_Range}
use Rattle.rules.specs.Theory.{Theory, no_symbol, output}
use Rattle.kernel.specs.Listing.{next_constructor}
use Rattle.kernel.specs.Entries.{known_symbol}
use Rattle.kernel.specs.SignatureRows.{output_cell}
use Rattle.sexp.specs.FoundLaws.{first_is}
use Rattle.kernel.proofs.Readings.{symbol_place}
use Rattle.kernel.proofs.names.SymbolTable.next_constructor.Goals as goal

pub find-requires-clause-callable : goal.find-requires-clause-callable
find-requires-clause-callable c =
    serves_from_Range (λ x q r. search (rules, tests)) (λ x l h y e a b d f i j k. rw e (omega (arith, symbol_place (known_symbol c.requires.1.1.1 h))))

found : (T : Theory) (sort from : ℕ) {count : ℕ} → length T.symbols ≡ count → (Yes No : ℕ → Type 0)
    → ((k : ℕ) → k < count → Yes k → eqb (output T k) sort ≡ true) → ((k : ℕ) → k < count → No k → eqb (output T k) sort ≡ false)
    → (r : Option ℕ)
    → MatchOption r ((k : ℕ) → from ≤ k → k < count → No k) (λ i. (from ≤ i) × (i < count) × Yes i × ((k : ℕ) → from ≤ k → k < i → No k))
    → r ≡ next_constructor T sort from
unfolding next_constructor output
found T sort from many Yes No a b r m = first_is (λ u. eqb u.output sort) T.symbols no_symbol from many Yes No a b r m

pub returns : goal.returns
returns c = λ T text ins h.
    let Says : Bool → ℕ → Type 0 = λ b k. eqb (get_or c.args.self.now.rows.now (4 * k) 0) c.args.sort ≡ b in
    found T c.args.sort c.args.from h.many (Says true) (Says false)
    (λ k l e. ap (λ z. eqb z c.args.sort) (sym (output_cell T h k l)) ∙ e) (λ k l e. ap (λ z. eqb z c.args.sort) (sym (output_cell T h k l)) ∙ e) c.find.result
    (first_from_Range _ c.find.new.self _ c.find.result (Says true) (Says false) c.find.ensures.ran
    (λ x q k. search (rules, tests)) (λ x q k. (search (rules, tests), search (rules, tests))))
