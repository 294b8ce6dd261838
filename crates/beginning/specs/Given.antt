-- What the forms of a text are given. Assumes nothing.
use Rattle.kernel.specs.declared.tables.Tables.{Tables}
use Rattle.state.specs.declared.board.Given.{Given}
use denote.Ref.{Bor}
use Rattle.std.specs.Prelude.{List, ℕ}

abbrev pub given_of : (theory goals text : Bor (List ℕ)) → Tables → Given
given_of theory goals text t =
    record {
      theory = theory;
      goals = goals;
      text = text;
      sorts = record { ref_ptr = t.sorts.ref_ptr; now = t.sorts.now };
      symbols = record { ref_ptr = t.symbols.ref_ptr; now = t.symbols.now };
      inputs = record { ref_ptr = t.inputs.ref_ptr; now = t.inputs.now };
      rules = record {
        rows = record { ref_ptr = t.rules.ref_ptr; now = t.rules.now };
        vars = record { ref_ptr = t.vars.ref_ptr; now = t.vars.now };
        patterns = record { ref_ptr = t.patterns.ref_ptr; now = t.patterns.now };
      };
    }
