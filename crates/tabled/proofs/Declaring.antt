-- What the test of `add_var` gives it: a theory of one sort, S, and the form `(var x S)`. Assumes nothing.
use Rattle.std.proofs.Common.{refl, sym, ℕ, ◌*◌, ◌-◌, List, [], ◌∷◌, set, replicate, arith}
use Rattle.std.proofs.lemmas.List.{length-replicate, length-set}
use Rattle.rules.specs.Limits.{SORTS, SYMBOLS, ARGUMENTS, VARIABLES}
use Rattle.rules.specs.Lex.{letters, kind, white}
use Rattle.rules.specs.Sexp.{Name, Sexps, atom, cons, nil, count}
use Rattle.rules.specs.State.{begin}
use Rattle.rules.specs.TheoryTables.{rows, name_cells}
use Rattle.rules.specs.StateTables.{var_cells}
use Rattle.rules.specs.Laws.Theory.{empty, both}
use Rattle.state.specs.declared.sizes.Sizes.{Sizes}
use Rattle.sexp.specs.Encode.{encodes}
use Rattle.state.specs.Filled.{filled_none}
use Rattle.forms.specs.Declares.{AddsVar}

-- S, and the text `(var x S)`
abbrev pub S : List ℕ
S = 83 ∷ []

abbrev pub form : List ℕ
form = 40 ∷ 118 ∷ 97 ∷ 114 ∷ 32 ∷ 120 ∷ 32 ∷ 83 ∷ 41 ∷ []

abbrev name : Name
name = record { start = 0; bytes = S }

abbrev items : Sexps
items = cons (atom 1 (118 ∷ 97 ∷ 114 ∷ [])) (cons (atom 5 (120 ∷ [])) (cons (atom 7 S) nil))

abbrev pub one_sort : Sizes
one_sort = record { sorts = 1; symbols = 0; rules = 0; vars = 0; defs = 0; goals = 0; facts = 0; entries = 0 }

pub declaring : AddsVar S S form (set (replicate 128 0) 1 1) (replicate 1024 0) (replicate 2048 0) one_sort (3 ∷ 11 ∷ 15 ∷ [])
unfolding letters kind white rows name_cells var_cells encodes count
declaring =
    record {
      S = begin (record { sorts = name ∷ []; symbols = []; rules = [] });
      xs = items;
      inputs = replicate (ARGUMENTS * SYMBOLS) 0;
      sorts_are = record {
        many = refl;
        long = length-set {A = ℕ} (replicate (2 * SORTS) 0) 1 1;
        front = record { rest = replicate (2 * SORTS - 2) 0; is = refl };
        names = both (record { inside = omega arith; spelt = refl }) empty;
      };
      symbols_are = record {
        many = refl;
        long = length-replicate {A = ℕ} (4 * SYMBOLS) 0;
        longs = length-replicate {A = ℕ} (ARGUMENTS * SYMBOLS) 0;
        front = record { rest = replicate (4 * SYMBOLS) 0; is = refl };
        fronts = record { rest = replicate (ARGUMENTS * SYMBOLS) 0; is = refl };
        names = empty;
        few = empty;
      };
      vars_are = record { stand = record { many = refl; few = omega arith; cells = sym (filled_none (4 * VARIABLES)) }; names = empty };
      holds = record { cells = refl; spelt = (record { inside = omega arith; bytes = refl }, (record { inside = omega arith; bytes = refl }, (record { inside = omega arith; bytes = refl }, tt))) };
      many = omega arith;
      short = omega arith;
    }
