-- The entries of the tables of sorts and symbols, as the readers read them. Assumes nothing.
use mathlib.Core.Path.{◌≡◌, refl, sym, ap, ◌∙◌}
use Prim.Native.Nat.{ℕ, suc, ◌+◌, ◌-◌, ◌*◌, ◌/◌, ◌^◌, ◌<◌, ◌≤◌}
use mathlib.Core.Bool.{Bool, true, false}
use Rattle.std.specs.Prelude.{Some as some, None as nothing, Option, MatchOption, IsSomeAnd, count_by, cond}
use Rattle.std.specs.Simd.{first_chunks}
use Rattle.std.proofs.lemmas.List.Sums.{sum_by-cons}
use mathlib.Core.List.{List, [], ◌∷◌}
use native.Mathlib.Omega.{arith}
use native.Mathlib.Numerals.{add-one}
use lib.Dec.{eqb}
use Rattle.std.proofs.Common.{take_at}
use lib.ListN.{length, take, drop, get_or, length-drop}
use lib.Seq.{ext_get_or, get_or-take, get_or-drop, length-take-le}
use Rattle.rules.specs.Limits.{SORTS, ARGUMENTS}
use Rattle.rules.specs.Text.{same}
use Rattle.rules.specs.Find.{first, every}
use Rattle.rules.specs.Laws.Find.{next, first_next}
use Rattle.rules.specs.Sexp.{Name}
use Rattle.rules.specs.Theory.{Theory, Symbol, no_symbol, inputs, constructors, sort_named, constructor_named, predicate_named}
use Rattle.rules.specs.Laws.Theory.{all_at}
use Rattle.sexp.specs.NameRows.{NameRows, SomeNames}
use Rattle.kernel.specs.declared.names.Kind.TheVariants.{Constructor, Predicate}
use Rattle.kernel.specs.Named.{of_kind, SymbolRows, SomeSymbols, called}
use Rattle.kernel.specs.Held.{SomeSorts, SymbolsHeld}
use Rattle.kernel.specs.Readers.{KnownSymbol, KnownInput, KnownInputs, NamedSymbols}
use Rattle.rules.specs.TheoryTables.{name_cells, rows, symbol_row}
use Rattle.kernel.specs.SignatureRows.{sorts_rows, sorts_few, symbols_rows, symbols_cells, symbols_few, input_place, argument_cell}
use Rattle.sexp.specs.FoundLaws.{found_at, found_missing, found_inside}

-- Symbols by number --------------------------------------------------------------------------------------------------------------

pub symbol_place : {symbols : List ℕ} {c : ℕ} → KnownSymbol symbols c → 4 * c + 1 < length symbols
symbol_place k = omega (arith, k.known, symbols_few k.held.1, k.held.1.long)

pub argument_place : {inputs : List ℕ} {c k : ℕ} → KnownInput inputs c k → ARGUMENTS * c + k < length inputs
argument_place {inputs} {c} {k} a = input_place a.held.1 c k (omega (arith, a.known, a.held.1.many)) a.there

-- all arguments
module _ {ins : List ℕ} {c many : ℕ} (k : KnownInputs ins c many) where
  pub inputs_place : ARGUMENTS * c + many ≤ length ins
  inputs_place =
      let h = k.held.1 in
      let few = all_at k.held.0 c no_symbol h.few (omega (arith, k.known, h.many)) in
      omega (arith, k.all, few, h.longs, symbols_few h, k.known)

  pub inputs_cut : (T : Theory) {text symbols : List ℕ} {count : ℕ} → SymbolsHeld text symbols ins count T.symbols → c < count → many ≡ length (inputs T c) →
      take (ARGUMENTS * c + many - ARGUMENTS * c) (drop (ARGUMENTS * c) ins) ≡ inputs T c
  inputs_cut T h l e =
      let g : ARGUMENTS * c + many - ARGUMENTS * c ≡ many = omega arith in
      let long = length-take-le many (drop (ARGUMENTS * c) ins) (omega (arith, length-drop (ARGUMENTS * c) ins, inputs_place)) in
      ap (λ (z : ℕ). take z (drop (ARGUMENTS * c) ins)) g
      ∙ ext_get_or 0 (take many (drop (ARGUMENTS * c) ins)) (inputs T c) (long ∙ e)
      (λ i m. get_or-take many (drop (ARGUMENTS * c) ins) i 0 (omega (arith, m, long)) ∙ get_or-drop (ARGUMENTS * c) ins i 0
      ∙ argument_cell T h c l i (omega (arith, m, long, e)))

-- Numbers by name ----------------------------------------------------------------------------------------------------------------

pub some_names : {text sorts : List ℕ} {count : ℕ} → SomeSorts text sorts count → SomeNames text sorts 2 0 count
some_names s = (s.0, sorts_rows s.1)

-- the number of a sort is small
pub sort_inside : {text sorts : List ℕ} {count : ℕ} → SomeSorts text sorts count → (name : List ℕ) (r : Option ℕ) (i : ℕ) →
    ((ns : List Name) → NameRows text sorts 2 0 count ns → r ≡ (first (λ n. same n.bytes name) ns 0)) → r ≡ some i → i < SORTS
sort_inside s name r i a e =
    omega (arith, found_inside name s.0 r i (a s.0 (sorts_rows s.1)) e, s.1.many, sorts_few s.1)

module _ (T : Theory) {text sorts : List ℕ} {count : ℕ} (h : NameRows text sorts 2 0 count T.sorts) (name : List ℕ) (r : Option ℕ)
    (a : (ns : List Name) → NameRows text sorts 2 0 count ns → r ≡ (first (λ n. same n.bytes name) ns 0)) where
  sort_after : sort_named T name ≡ next (first (λ n. same n.bytes name) T.sorts 0)
  unfolding sort_named
  sort_after = first_next (λ (n : Name). same n.bytes name) T.sorts 0

  pub sort_missing : r ≡ nothing → nothing ≡ (sort_named T name)
  unfolding next
  sort_missing e =
      (sym (sort_after ∙ ap next (found_missing (first (λ (n : Name). same n.bytes name) T.sorts 0) r (a T.sorts h) e)))

  pub sort_found : (i : ℕ) → r ≡ some i → some (i + 1) ≡ (sort_named T name)
  unfolding next
  sort_found i e =
      ap some (add-one i)
      ∙ (sym (sort_after ∙ ap next (found_at (first (λ (n : Name). same n.bytes name) T.sorts 0) r i (a T.sorts h) e)))

  -- one more than what is found, as a closure gives it
  pub sort_mapped : {P : ℕ → ℕ → Type 0} (q : Option ℕ) → MatchOption r (q ≡ nothing) (λ i. IsSomeAnd q (P i)) →
      ((i j : ℕ) → r ≡ some i → P i j → j ≡ i + 1) → q ≡ sort_named T name
  sort_mapped {P} q m p = go r refl q m
    where
      go : (o : Option ℕ) → r ≡ o → (q : Option ℕ) → MatchOption o (q ≡ nothing) (λ i. IsSomeAnd q (P i)) → q ≡ sort_named T name
      go nothing e q m = m ∙ sort_missing e
      go (some i) e nothing m = absurd m
      go (some i) e (some j) m = ap some (p i j e m) ∙ sort_found i e

pub some_rows : {text symbols : List ℕ} {count : ℕ} → NamedSymbols text symbols count → SomeSymbols text symbols count
some_rows s = (s.1.0, symbols_rows s.1.1)

module _ (T : Theory) {text symbols ins : List ℕ} {count : ℕ} (h : SymbolsHeld text symbols ins count T.symbols) (name : List ℕ) (r : Option ℕ) where
  pub constructor_is : ((ss : List Symbol) → SymbolRows text symbols count ss → r ≡ (first (called Constructor name) ss 0)) →
      r ≡ (constructor_named T name)
  unfolding constructor_named of_kind
  constructor_is a = a T.symbols (symbols_rows h)

  pub predicate_is : ((ss : List Symbol) → SymbolRows text symbols count ss → r ≡ (first (called Predicate name) ss 0)) →
      r ≡ (predicate_named T name)
  unfolding predicate_named of_kind
  predicate_is a = a T.symbols (symbols_rows h)

-- How many there are ----------------------------------------------------------------------------------------------------------------

-- the rows of the symbols with that output
rows_counted : (sort : ℕ) (ss : List Symbol) (i : ℕ) →
    count_by (λ row. eqb (get_or row 0 0) sort) (first_chunks 4 (length ss) (rows symbol_row ss)) ≡ length (every (λ c. eqb c.output sort) ss i)
unfolding rows symbol_row name_cells every
rows_counted sort [] i = refl
rows_counted sort (s ∷ ss) i =
    sum_by-cons (λ (row : List ℕ). cond (eqb (get_or row 0 0) sort) 1 0) (symbol_row s) (first_chunks 4 (length ss) (rows symbol_row ss))
    ∙ go (eqb s.output sort) i (every (λ c. eqb c.output sort) ss (suc i)) (rows_counted sort ss (suc i))
  where
    go : (b : Bool) {n : ℕ} (k : ℕ) (ks : List ℕ) → n ≡ length ks → cond b 1 0 + n ≡ length {A = ℕ} (elim b [ true ↦ k ∷ ks | false ↦ ks ])
    go true k ks e = omega (arith, e)
    go false k ks e = omega (arith, e)

module _ {text symbols inputs : List ℕ} {count : ℕ} {ss : List Symbol} (h : SymbolsHeld text symbols inputs count ss) where
  counted_rows : take (4 * count) symbols ≡ rows symbol_row ss
  counted_rows = ap (take (4 * count)) h.front.is ∙ take_at (rows symbol_row ss) h.front.rest (4 * count) (symbols_cells h)

  pub counted_small : 4 * count < 2 ^ 64
  counted_small = omega (arith, symbols_few h)

  pub counted_room : 4 * count ≡ length (take (4 * count) symbols)
  counted_room = omega (arith, ap length counted_rows, symbols_cells h)

  counted_every : (sort : ℕ) →
      count_by (λ row. eqb (get_or row 0 0) sort) (first_chunks 4 (length (take (4 * count) symbols) / 4) (take (4 * count) symbols))
      ≡ length (every (λ c. eqb c.output sort) ss 0)
  counted_every sort =
      let p : List ℕ → Bool = λ row. eqb (get_or row 0 0) sort in
      let e : length (rows symbol_row ss) / 4 ≡ length ss = omega (arith, symbols_cells h, h.many) in
      ap (λ (cells : List ℕ). count_by p (first_chunks 4 (length cells / 4) cells)) counted_rows
      ∙ ap (λ (k : ℕ). count_by p (first_chunks 4 k (rows symbol_row ss))) e ∙ rows_counted sort ss 0

pub counted : (T : Theory) {text symbols inputs : List ℕ} {count : ℕ} → SymbolsHeld text symbols inputs count T.symbols → (sort : ℕ) →
    count_by (λ row. eqb (get_or row 0 0) sort) (first_chunks 4 (length (take (4 * count) symbols) / 4) (take (4 * count) symbols)) ≡ length (constructors T sort)
unfolding constructors
counted T h sort = counted_every h sort
