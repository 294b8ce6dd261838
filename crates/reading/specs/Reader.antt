-- The texts and tables of a reader. Assumes nothing.
use Rattle.kernel.specs.declared.names.SymbolTable.{SymbolTable}
use Rattle.state.specs.declared.board.Given.{Given}
use Rattle.state.specs.declared.board.Board.{Board}
use Rattle.state.specs.declared.vars.VarTable.{VarTable}
use Rattle.state.specs.Held.{Names, names}
use Rattle.reading.specs.declared.reader.Reader.{Reader}

abbrev pub names_of : Reader → Names
names_of r = names r.theory.now r.goals.now r.text.now r.symbols.now r.inputs.now r.vars.now r.defs.now

-- the reader of a check
abbrev pub reader_of : Given → Board → Reader
reader_of g b =
    record {
      theory = g.theory;
      goals = g.goals;
      text = g.text;
      symbols = g.symbols;
      inputs = g.inputs;
      vars = record { ref_ptr = b.vars.ref_ptr; now = b.vars.now };
      defs = record { ref_ptr = b.defs.ref_ptr; now = b.defs.now };
      n = b.n;
    }

-- its symbols
abbrev pub symbols_of : Reader → SymbolTable
symbols_of r = record { text = r.theory; rows = r.symbols; inputs = r.inputs; count = r.n.symbols }

-- its variables
abbrev pub vars_of : Reader → VarTable
vars_of r = record { goals = r.goals; text = r.text; rows = r.vars; count = r.n.vars }
