-- Laws of the table of abbreviations: what its cells say, one more. Assumes nothing.
use Rattle.std.specs.Prelude.{◌≡◌, refl, ℕ, ◌+◌, ◌*◌, ◌<◌, List, [], ◌∷◌, ◌++◌, length, get_or}
use Rattle.std.proofs.Common.{sym, ◌∙◌, arith}
use Rattle.std.proofs.Math.Path.{ap}
use Rattle.std.proofs.Math.Seq.{sets}
use Rattle.rules.specs.Limits.{DEFS}
use Rattle.rules.specs.Store.{Made, number}
use Rattle.rules.specs.State.{Def}
use Rattle.rules.specs.TheoryTables.{filled, rows, name_cells}
use Rattle.rules.specs.StateTables.{def_cells}
use Rattle.rules.specs.Laws.Theory.{all_snoc, all_at}
use Rattle.rules.specs.Laws.Sound.{In}
use Rattle.rules.specs.Laws.Row.{rows_snoc, length_rows, row_cell, append-nil}
use Rattle.sexp.specs.NameRows.{NameIn}
use Rattle.state.specs.Held.{DefsHeld}
use Rattle.state.specs.Rows.{cell}
use Rattle.state.specs.Numbered.{Numbered, numbered_at}
use Rattle.state.specs.RowCells.{def_row, def_rows, def_width, no_def}
use Rattle.state.specs.RowTables.{Tabled, tabled_long, tabled_at, tabled_more, length_one_more}

pub length_def_cells : (M : Made) (ds : List Def) → length (def_cells M ds) ≡ 3 * length ds
length_def_cells M ds = ap length (def_rows M ds) ∙ length_rows (def_row M) 3 (def_width M) ds

pub def_cells_snoc : (M : Made) (ds : List Def) (d : Def) → def_cells M (ds ++ (d ∷ [])) ≡ def_cells M ds ++ def_row M d
def_cells_snoc M ds d = def_rows M (ds ++ (d ∷ [])) ∙ rows_snoc (def_row M) ds d ∙ ap (λ l. l ++ def_row M d) (sym (def_rows M ds))

module _ {text defs : List ℕ} {count : ℕ} {M : Made} {ds : List Def} (h : DefsHeld text defs count M ds) where
  pub defs_tabled : Tabled 3 DEFS defs count (def_cells M ds)
  defs_tabled = record { is = h.cells; many = length_def_cells M ds ∙ ap (λ n. 3 * n) h.many; few = h.few }

  pub defs_long : length defs ≡ 3 * DEFS
  defs_long = tabled_long defs_tabled

  -- cell j of abbreviation d
  pub def_at : (d j : ℕ) → d < count → j < 3 → cell 3 defs d j ≡ get_or (def_row M (get_or ds d no_def)) j 0
  def_at d j l m =
      tabled_at defs_tabled (3 * d + j) ∙ ap (λ l. get_or l (3 * d + j) 0) (def_rows M ds ∙ sym (append-nil (rows (def_row M) ds)))
      ∙ row_cell (def_row M) 3 (def_width M) ds [] d j (3 * d + j) no_def (omega (arith, h.many)) m refl

  -- its term
  pub def_term : (d : ℕ) → d < count → Numbered M (get_or ds d no_def).term (cell 3 defs d 2)
  unfolding def_row name_cells
  def_term d l = numbered_at (cell 3 defs d 2) (all_at ds d no_def h.terms (omega (arith, h.many))) (def_at d 2 l (omega arith))

  -- the row that `put_def` writes
  pub defs_more : (d : Def) (end term : ℕ) → count < DEFS → NameIn text d.name → In d.term M → end ≡ d.name.start + length d.name.bytes →
      term ≡ number M d.term → DefsHeld text (sets defs (3 * count) (d.name.start ∷ end ∷ term ∷ [])) (count + 1) M (ds ++ (d ∷ []))
  unfolding def_row name_cells
  defs_more d end term l i k e q =
      let t = tabled_more defs_tabled (def_row M d) (def_width M d) l in
      record {
        many = length_one_more ds d ∙ ap (λ n. n + 1) h.many;
        few = t.few;
        cells = (λ j. sets defs (3 * count) (d.name.start ∷ e j ∷ q j ∷ [])) ∙ t.is ∙ ap (filled (3 * DEFS)) (sym (def_cells_snoc M ds d));
        names = all_snoc h.names i;
        terms = all_snoc h.terms k;
      }
