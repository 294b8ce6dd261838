-- The tables of a check that a struct holds: as the definition has them, and lent to be read, in rows where docs/TABLES.md has rows. Assumes nothing.
use Rattle.std.specs.Prelude.{◌≡◌, ◌/◌, length, Result}
use Rattle.std.specs.Simd.{first_chunks}
use Rattle.rules.specs.StateTables.{Tables as Cells}
use Rattle.kernel.specs.Parsed.{theory_lists}
use Rattle.running.specs.declared.finish.Report.{Report}
use Rattle.running.specs.declared.refusal.Refusal.{Refusal}
use Rattle.running.specs.declared.texts.Texts.{Texts}
use Rattle.running.specs.Lent.{working}
use Rattle.running.specs.Checking.{tables_of}
use Rattle.printing.specs.declared.checked.Checked.{Checked}
use Rattle.tabled.specs.declared.tables.Tables.{Tables}

abbrev pub cells_of : Tables → Cells
cells_of t =
    tables_of (theory_lists t.sorts t.symbols t.inputs t.rules t.rulevars t.patterns) (working t.vars t.index t.words t.defs t.rows t.lists) t.missing t.facts

-- each part of what is lent is the table of that name
pub record Lends (t : Tables) (texts : Texts) (answer : Result Report Refusal) (c : Checked) : Type 0 where
  pub texts_same : c.texts ≡ texts
  pub answer_same : c.answer ≡ answer
  pub symbols : c.symbols.now ≡ first_chunks 4 (length t.symbols / 4) t.symbols
  pub rules : c.rules.now ≡ first_chunks 6 (length t.rules / 6) t.rules
  pub vars : c.vars.now ≡ first_chunks 4 (length t.vars / 4) t.vars
  pub index : c.index.now ≡ t.index
  pub words : c.words.now ≡ t.words
  pub defs : c.defs.now ≡ first_chunks 3 (length t.defs / 3) t.defs
  pub goals : c.rows.now ≡ first_chunks 6 (length t.rows / 6) t.rows
  pub lists : c.lists.now ≡ t.lists
  pub missing : c.missing.now ≡ t.missing
  pub facts : c.facts.now ≡ t.facts
