-- Tables that hold sorts and symbols: their rows as the look-ups read them, and one more. Assumes nothing.
use mathlib.Core.Path.{◌≡◌, sym, ap, ◌∙◌, subst}
use Prim.Native.Nat.{ℕ, suc, ◌+◌, ◌-◌, ◌*◌, ◌<◌, ◌≤◌}
use Rattle.std.specs.Prelude.{None as nothing, Some as some, Option}
use mathlib.Core.List.{List, [], ◌∷◌, ◌++◌}
use native.Mathlib.Omega.{arith}
use native.Mathlib.Numerals.{add-one}
use lib.ListN.{length-drop, drop_of_length-le, length, take, drop, set, length-append}
use lib.Seq.{drop-drop, take_all, sets, sets-eq, length-sets, take_at, take-length, paste, length-paste}
use Rattle.rules.specs.Limits.{LENGTH, SORTS, SYMBOLS, ARGUMENTS}
use Rattle.rules.specs.Out.{refuse}
use Rattle.rules.specs.Sexp.{Sexp, Sexps, item, Name}
use Rattle.rules.specs.Theory.{Theory, Symbol, sort_named}
use Rattle.rules.specs.Laws.Theory.{all_snoc}
use Rattle.rules.specs.TheoryTables.{name_cells, rows, symbol_row, input_row}
use Rattle.rules.specs.Laws.Row.{append-nil, append_assoc, rows_snoc, length_filled}
use Rattle.rules.specs.Declare.{add_sort, add_symbol}
use Rattle.rules.specs.Laws.Declaring.{add_sort_known, add_sort_full, add_sort_new, add_symbol_full, add_symbol_new}
use Rattle.sexp.specs.NameRows.{NameIn}
use Rattle.kernel.specs.SignatureRows.{sorts_cells, symbols_cells, inputs_cells}
use Rattle.kernel.specs.Held.{Front, NameFits, SortsHeld, SortStored, SymbolsHeld, SymbolIs, SymbolStored}
use Rattle.kernel.proofs.Spellings.{Proper}

-- the first cells, and more written behind them
pub front_write : (table xs vs : List ℕ) (i : ℕ) → Front table xs → length xs ≡ i → i + length vs ≤ length table → Front (sets table i vs) (xs ++ vs)
front_write table xs vs i f e h =
    record {
      rest = drop (i + length vs) table;
      is = sets-eq vs table i h ∙ ap (λ l. l ++ vs ++ drop (i + length vs) table) (ap (take i) f.is ∙ take_at xs f.rest i e);
    }

pub front_same : {table xs ys : List ℕ} → Front table xs → xs ≡ ys → Front table ys
front_same f e = record { rest = f.rest; is = f.is ∙ ap (λ l. l ++ f.rest) e }

-- a row more
pub front_row : {A : Type 0} (f : A → List ℕ) (table : List ℕ) (xs : List A) (y : A) (vs : List ℕ) (i : ℕ) → Front table (rows f xs) → f y ≡ vs →
    length (rows f xs) ≡ i → i + length vs ≤ length table → Front (sets table i vs) (rows f (xs ++ (y ∷ [])))
front_row f table xs y vs i k e l h =
    front_same (front_write table (rows f xs) vs i k l h) (ap (λ z. rows f xs ++ z) (sym e) ∙ sym (rows_snoc f xs y))

-- Sorts --------------------------------------------------------------------------------------------------------------------------

module _ {text table : List ℕ} {count : ℕ} {ns : List Name} (h : SortsHeld text table count ns) where
  pub sort_fits : (x : Sexp) (s e : ℕ) → Proper text x s e → length text ≤ LENGTH → count < SORTS → NameFits (length table) (2 * count) s e
  sort_fits x s e p t l =
      record { inside = omega (arith, h.long, l); first = omega (arith, p.end, p.high, t); last = omega (arith, p.high, t) }

  pub sorts_more : (n : Name) (s e : ℕ) → NameIn text n → n.start ≡ s → s + length n.bytes ≡ e → count < SORTS →
      SortsHeld text (sets table (2 * count) (s ∷ e ∷ [])) (count + 1) (ns ++ (n ∷ []))
  unfolding name_cells
  sorts_more n s e k a b l =
      let q : name_cells n ≡ s ∷ e ∷ [] = λ i. a i ∷ (ap (λ z. z + length n.bytes) a ∙ b) i ∷ [] in
      record {
        many = omega (arith, length-append ns (n ∷ []), h.many);
        long = length-sets table (2 * count) (s ∷ e ∷ []) ∙ h.long;
        front = front_row name_cells table ns n (s ∷ e ∷ []) (2 * count) h.front q (sorts_cells h) (omega (arith, h.long, l));
        names = all_snoc h.names k;
      }

-- the answers of `add_sort`
module _ {text table : List ℕ} {count : ℕ} (T : Theory) (xs : Sexps) (h : SortsHeld text table count T.sorts) (s e : ℕ)
    (p : Proper text (item xs 1) s e) (r : Option ℕ)
    (a : r ≡ sort_named T (take (e - s) (drop s text))) where
  named_so : sort_named T p.name.bytes ≡ r
  named_so = ap (sort_named T) (sym p.part) ∙ sym a

  pub sort_twice : (i : ℕ) → r ≡ some i → add_sort xs T ≡ refuse 11 0 T
  sort_twice i b = add_sort_known T xs p.name p.is i (named_so ∙ b)

  module _ (b : r ≡ nothing) where
    sort_fresh : sort_named T p.name.bytes ≡ nothing
    sort_fresh = named_so ∙ b

    pub sort_full : SORTS ≤ count → add_sort xs T ≡ refuse 60 1 T
    sort_full l = add_sort_full T xs p.name p.is sort_fresh (omega (arith, l, h.many))

    pub sort_stored : count < SORTS → SortStored text (sets table (2 * count) (s ∷ e ∷ [])) T (add_sort xs T) (count + 1)
    sort_stored l =
        record {
          name = p.name;
          is = add_sort_new T xs p.name p.is sort_fresh (omega (arith, l, h.many));
          held = sorts_more h p.name s e p.stands p.start p.end l;
        }

-- Copying a row ------------------------------------------------------------------------------------------------------------------

-- a table whose part from a place on was lent, and came back as ys
pub part_back : (table ys : List ℕ) (k : ℕ) → take k table ++ (ys ++ drop (length table - k) (drop k table)) ≡ take k table ++ ys
part_back table ys k =
    let b : drop (length table - k) (drop k table) ≡ [] = drop_of_length-le (drop k table) {i = length table - k} (omega (arith, length-drop k table)) in
    ap (λ (l : List ℕ). take k table ++ (ys ++ l)) b ∙ ap (λ (l : List ℕ). take k table ++ l) (append-nil ys)

pub row_pasted : (table ys : List ℕ) (k : ℕ) (row : List ℕ) → ys ≡ row ++ drop (length row) (take (length table - k) (drop k table)) →
    take k table ++ (ys ++ drop (length table - k) (drop k table)) ≡ paste table k row (length row)
row_pasted table ys k row e =
    let a : take (length table - k) (drop k table) ≡ drop k table = take_all (length table - k) (drop k table) (omega (arith, length-drop k table)) in
    part_back table ys k ∙ ap (λ (l : List ℕ). take k table ++ l) e
    ∙ ap (λ (l : List ℕ). take k table ++ (row ++ drop (length row) l)) a
    ∙ ap (λ (l : List ℕ). take k table ++ (row ++ l)) (drop-drop (length row) k table)
    ∙ sym (append_assoc (take k table) row (drop (k + length row) table))
    ∙ ap (λ (l : List ℕ). take k table ++ l ++ drop (k + length row) table) (sym (take-length row))

-- Symbols ------------------------------------------------------------------------------------------------------------------------

pub front_paste : (table xs row : List ℕ) (i : ℕ) → Front table xs → length xs ≡ i → i + length row ≤ length table → Front (paste table i row (length row)) (xs ++ row)
front_paste table xs row i f e h =
    record {
      rest = drop (i + length row) table;
      is = ap (λ l. l ++ take (length row) row ++ drop (i + length row) table) (ap (take i) f.is ∙ take_at xs f.rest i e)
          ∙ ap (λ l. xs ++ l ++ drop (i + length row) table) (take-length row);
    }

module _ {text symbols inputs : List ℕ} {count : ℕ} {ss : List Symbol} (h : SymbolsHeld text symbols inputs count ss) where
  module _ (s : Symbol) (output arity start end : ℕ) (row : List ℕ) (is : SymbolIs text s output arity start end row) (l : count < SYMBOLS) where
    row_is : symbol_row s ≡ output ∷ arity ∷ start ∷ end ∷ []
    unfolding symbol_row name_cells
    row_is = λ i. is.outputs i ∷ is.arities i ∷ is.starts i ∷ (ap (λ z. z + length s.name.bytes) is.starts ∙ is.ends) i ∷ []

    two : suc (4 * count + 1) ≡ 4 * count + 2
    two = omega arith

    pub symbols_more : SymbolsHeld text (sets (set (set symbols (4 * count) output) (4 * count + 1) arity) (4 * count + 2) (start ∷ end ∷ []))
        (paste inputs (ARGUMENTS * count) row (length row)) (count + 1) (ss ++ (s ∷ []))
    unfolding input_row
    symbols_more =
        let e : sets symbols (4 * count) (output ∷ arity ∷ start ∷ end ∷ []) ≡ sets (set (set symbols (4 * count) output) (4 * count + 1) arity) (4 * count + 2) (start ∷ end ∷ []) =
        ap (λ (k : ℕ). sets (set (set symbols (4 * count) output) k arity) (suc k) (start ∷ end ∷ [])) (sym (add-one (4 * count)))
        ∙ ap (λ (k : ℕ). sets (set (set symbols (4 * count) output) (4 * count + 1) arity) k (start ∷ end ∷ [])) two in
        let lr : length row ≡ ARGUMENTS = ap length (sym is.cells) ∙ length_filled ARGUMENTS s.inputs in
        record {
          many = omega (arith, length-append ss (s ∷ []), h.many);
          long = ap length (sym e) ∙ length-sets symbols (4 * count) (output ∷ arity ∷ start ∷ end ∷ []) ∙ h.long;
          longs = length-paste inputs (ARGUMENTS * count) row (length row) (omega (arith, lr, h.longs, l)) (omega arith) ∙ h.longs;
          front = subst (λ t. Front t (rows symbol_row (ss ++ (s ∷ [])))) e
              (front_row symbol_row symbols ss s (output ∷ arity ∷ start ∷ end ∷ []) (4 * count) h.front row_is (symbols_cells h) (omega (arith, h.long, l)));
          fronts = front_same (front_paste inputs (rows input_row ss) row (ARGUMENTS * count) h.fronts (inputs_cells h) (omega (arith, lr, h.longs, l)))
              (ap (λ z. rows input_row ss ++ z) (sym is.cells) ∙ sym (rows_snoc input_row ss s));
          names = all_snoc h.names is.named;
          few = all_snoc h.few is.few;
        }

pub symbol_full : {text symbols inputs : List ℕ} {count : ℕ} (T : Theory) (s : Symbol) → SymbolsHeld text symbols inputs count T.symbols → SYMBOLS ≤ count →
    add_symbol s T ≡ refuse 60 2 T
symbol_full T s h l = add_symbol_full T s (omega (arith, l, h.many))

pub symbol_stored : {text symbols inputs : List ℕ} {count : ℕ} (T : Theory) (s : Symbol) (h : SymbolsHeld text symbols inputs count T.symbols)
    (output arity start end : ℕ) (row : List ℕ) → SymbolIs text s output arity start end row → count < SYMBOLS →
    SymbolStored text (sets (set (set symbols (4 * count) output) (4 * count + 1) arity) (4 * count + 2) (start ∷ end ∷ []))
    (paste inputs (ARGUMENTS * count) row (length row)) T (add_symbol s T) (count + 1)
symbol_stored T s h output arity start end row is l =
    record { symbol = s; is = add_symbol_new T s (omega (arith, l, h.many)); held = symbols_more h s output arity start end row is l }
