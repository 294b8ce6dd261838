-- The tables of sorts and symbols as rows: where each entry stands, for the readers and for laws that speak of these tables. Assumes
-- nothing.
use Rattle.std.specs.Prelude.{◌≡◌, ℕ, ◌+◌, ◌-◌, ◌*◌, ◌<◌, ◌≤◌, List, replicate}
use Rattle.std.proofs.Math.Path.{refl, ap}
use Rattle.std.proofs.Common.{◌∙◌, arith, length-append}
use Rattle.std.proofs.Math.ListN.{length, get_or}
use Rattle.rules.specs.Limits.{SORTS, SYMBOLS, ARGUMENTS}
use Rattle.rules.specs.Laws.Find.{get_d_front}
use Rattle.rules.specs.Sexp.{Name}
use Rattle.rules.specs.Theory.{Theory, Symbol, no_name, no_symbol, inputs, output}
use Rattle.rules.specs.Laws.Theory.{all_at}
use Rattle.rules.specs.TheoryTables.{name_cells, rows, symbol_row, input_row}
use Rattle.rules.specs.Laws.Row.{length_rows, row_cell, length_filled, filled_fits}
use Rattle.sexp.specs.NameRows.{NameRows}
use Rattle.kernel.specs.Named.{SymbolRows}
use Rattle.kernel.specs.Held.{SortsHeld, SymbolsHeld}

-- Sorts --------------------------------------------------------------------------------------------------------------------------

name_cells_two : (n : Name) → length (name_cells n) ≡ 2
unfolding name_cells
name_cells_two n = refl

module _ {text table : List ℕ} {count : ℕ} {ns : List Name} (h : SortsHeld text table count ns) where
  pub sorts_cells : length (rows name_cells ns) ≡ 2 * count
  sorts_cells = length_rows name_cells 2 name_cells_two ns ∙ ap (λ k. 2 * k) h.many

  sorts_room : 2 * count ≤ length table
  sorts_room = omega (arith, sorts_cells, ap length h.front.is, length-append (rows name_cells ns) h.front.rest)

  pub sorts_few : count ≤ SORTS
  sorts_few = omega (arith, sorts_room, h.long)

  pub sorts_rows : NameRows text table 2 0 count ns
  unfolding name_cells
  sorts_rows =
      record {
        many = h.many;
        row = λ k l. record {
          inside = omega (arith, sorts_room, l, h.many);
          start = ap (λ t. get_or t (2 * k + 0) 0) h.front.is ∙ row_cell name_cells 2 name_cells_two ns h.front.rest k 0 (2 * k + 0) no_name l (omega arith) refl;
          end = ap (λ t. get_or t (2 * k + 0 + 1) 0) h.front.is ∙ row_cell name_cells 2 name_cells_two ns h.front.rest k 1 (2 * k + 0 + 1) no_name l (omega arith) (omega arith);
          name = all_at ns k no_name h.names l;
        };
      }

-- Symbols ------------------------------------------------------------------------------------------------------------------------

pub symbol_row_four : (s : Symbol) → length (symbol_row s) ≡ 4
unfolding symbol_row name_cells
symbol_row_four s = refl

input_row_long : (s : Symbol) → length (input_row s) ≡ ARGUMENTS
unfolding input_row
input_row_long s = length_filled ARGUMENTS s.inputs

module _ {text symbols inputs : List ℕ} {count : ℕ} {ss : List Symbol} (h : SymbolsHeld text symbols inputs count ss) where
  pub symbols_cells : length (rows symbol_row ss) ≡ 4 * count
  symbols_cells = length_rows symbol_row 4 symbol_row_four ss ∙ ap (λ k. 4 * k) h.many

  pub inputs_cells : length (rows input_row ss) ≡ ARGUMENTS * count
  inputs_cells = length_rows input_row ARGUMENTS input_row_long ss ∙ ap (λ k. ARGUMENTS * k) h.many

  symbols_room : 4 * count ≤ length symbols
  symbols_room = omega (arith, symbols_cells, ap length h.front.is, length-append (rows symbol_row ss) h.front.rest)

  pub symbols_few : count ≤ SYMBOLS
  symbols_few = omega (arith, symbols_room, h.long)

  symbol_cell : (k j i : ℕ) → k < length ss → j < 4 → i ≡ 4 * k + j → get_or symbols i 0 ≡ get_or (symbol_row (get_or ss k no_symbol)) j 0
  symbol_cell k j i l m e =
      ap (λ t. get_or t i 0) h.front.is ∙ row_cell symbol_row 4 symbol_row_four ss h.front.rest k j i no_symbol l m e

  pub symbols_rows : SymbolRows text symbols count ss
  unfolding symbol_row name_cells
  symbols_rows =
      record {
        many = h.many;
        row = λ k l. record {
          output = symbol_cell k 0 (4 * k) l (omega arith) (omega arith);
          arity = symbol_cell k 1 (4 * k + 1) l (omega arith) refl;
          name = record {
            inside = omega (arith, symbols_room, l, h.many);
            start = symbol_cell k 2 (4 * k + 2) l (omega arith) refl;
            end = symbol_cell k 3 (4 * k + 2 + 1) l (omega arith) (omega arith);
            name = all_at ss k no_symbol h.names l;
          };
        };
      }

-- an argument's sort
module _ {text symbols inputs : List ℕ} {count : ℕ} {ss : List Symbol} (h : SymbolsHeld text symbols inputs count ss) (c k : ℕ) (l : c < length ss)
    (m : k < length (get_or ss c no_symbol).inputs) where
  pub input_place : ARGUMENTS * c + k < length inputs
  input_place = omega (arith, all_at ss c no_symbol h.few l, m, h.longs, symbols_few h, h.many, l)

  pub input_cell : get_or inputs (ARGUMENTS * c + k) 0 ≡ get_or (get_or ss c no_symbol).inputs k 0
  unfolding input_row
  input_cell =
      let few = all_at ss c no_symbol h.few l in
      ap (λ t. get_or t (ARGUMENTS * c + k) 0) h.fronts.is
      ∙ row_cell input_row ARGUMENTS input_row_long ss h.fronts.rest c k (ARGUMENTS * c + k) no_symbol l (omega (arith, few, m)) refl
      ∙ ap (λ t. get_or t k 0) (filled_fits ARGUMENTS (get_or ss c no_symbol).inputs few)
      ∙ get_d_front (get_or ss c no_symbol).inputs (replicate (ARGUMENTS - length (get_or ss c no_symbol).inputs) 0) k 0 m

-- a symbol by its number
module _ (T : Theory) {text symbols ins : List ℕ} {count : ℕ} (h : SymbolsHeld text symbols ins count T.symbols) (c : ℕ) (l : c < count) where
  pub arity_cell : get_or symbols (4 * c + 1) 0 ≡ length (inputs T c)
  unfolding inputs
  arity_cell = ((symbols_rows h).row c (omega (arith, l, h.many))).arity

  pub output_cell : get_or symbols (4 * c) 0 ≡ output T c
  unfolding output
  output_cell = ((symbols_rows h).row c (omega (arith, l, h.many))).output

  pub argument_cell : (k : ℕ) → k < length (inputs T c) → get_or ins (ARGUMENTS * c + k) 0 ≡ get_or (inputs T c) k 0
  unfolding inputs
  argument_cell k m = input_cell h c k (omega (arith, l, h.many)) m
