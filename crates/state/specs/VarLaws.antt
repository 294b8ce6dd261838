-- Laws of the table of variables: what its cells say, a variable more, variables less. Assumes nothing.
use Rattle.std.specs.Prelude.{◌≡◌, refl, ℕ, ◌+◌, ◌-◌, ◌*◌, ◌<◌, ◌≤◌, List, [], ◌∷◌, ◌++◌, length, get_or, take, replicate, Option, Some as some, None as nothing}
use Rattle.std.proofs.Math.Path.{sym, ap}
use Rattle.std.proofs.Common.{◌∙◌, subst, arith, length-append}
use Rattle.std.proofs.Math.Decide.{dec_lt}
use Rattle.std.proofs.Math.ListN.{get_or-eq_default}
use Rattle.std.proofs.Math.Seq.{sets}
use Rattle.rules.specs.Limits.{VARIABLES}
use Rattle.rules.specs.Theory.{no_name}
use Rattle.rules.specs.State.{Var, no_var, sort_of_var}
use Rattle.rules.specs.TheoryTables.{filled, rows, name_cells}
use Rattle.rules.specs.StateTables.{var_cells}
use Rattle.rules.specs.Laws.Theory.{All, all_snoc}
use Rattle.rules.proofs.Laws.Appends.{Behind}
use Rattle.rules.specs.Laws.Row.{rows_snoc, length_rows, row_cell, append-nil}
use Rattle.questions.specs.declared.Text.{Text}
use Rattle.questions.specs.declared.Text.TheVariants as text
use Rattle.questions.specs.Numbers.{text_number}
use Rattle.sexp.specs.NameRows.{NameIn}
use Rattle.state.specs.Held.{text_of, VarCells, VarsHeld}
use Rattle.state.specs.Rows.{cell, text_cell}
use Rattle.state.specs.RowCells.{var_row, var_rows_lem, var_width}
use Rattle.state.specs.RowTables.{Tabled, tabled_long, tabled_at, tabled_behind, tabled_more, tabled_back, all_front, length_one_more}

pub length_var_cells : (vs : List Var) → length (var_cells vs) ≡ 4 * length vs
length_var_cells vs = ap length (var_rows_lem vs) ∙ length_rows var_row 4 var_width vs

pub var_cells_snoc : (vs : List Var) (v : Var) → var_cells (vs ++ (v ∷ [])) ≡ var_cells vs ++ var_row v
var_cells_snoc vs v = var_rows_lem (vs ++ (v ∷ [])) ∙ rows_snoc var_row vs v ∙ ap (λ l. l ++ var_row v) (sym (var_rows_lem vs))

pub var_cells_append : (vs ws : List Var) → var_cells (vs ++ ws) ≡ var_cells vs ++ var_cells ws
unfolding var_cells name_cells
var_cells_append [] ws = refl
var_cells_append (v ∷ vs) ws = ap (λ l. v.sort ∷ v.text ∷ v.name.start ∷ (v.name.start + length v.name.bytes) ∷ l) (var_cells_append vs ws)

-- no name, as a made variable has it, stands in any text
pub no_name_in : (text : List ℕ) → NameIn text no_name
no_name_in text = record { inside = omega arith; spelt = refl }

-- there are three texts
pub text_small : (t : Text) → text_number t ≤ 3
text_small text.Theory = omega arith
text_small text.Goals = omega arith
text_small text.Proof = omega arith

pub text_cell_small : (t : Option Text) → text_cell t ≤ 3
text_cell_small (some t) = text_small t
text_cell_small nothing = omega arith

-- Reading ------------------------------------------------------------------------------------------------------------------------

module _ {vars : List ℕ} {count : ℕ} {vs : List Var} (h : VarCells vars count vs) where
  pub vars_tabled : Tabled 4 VARIABLES vars count (var_cells vs)
  vars_tabled = record { is = h.cells; many = length_var_cells vs ∙ ap (λ n. 4 * n) h.many; few = h.few }

  pub vars_long : length vars ≡ 4 * VARIABLES
  vars_long = tabled_long vars_tabled

  -- cell j of variable v
  pub var_at : (v j : ℕ) → v < count → j < 4 → cell 4 vars v j ≡ get_or (var_row (get_or vs v no_var)) j 0
  var_at v j l m =
      tabled_at vars_tabled (4 * v + j) ∙ ap (λ l. get_or l (4 * v + j) 0) (var_rows_lem vs ∙ sym (append-nil (rows var_row vs)))
      ∙ row_cell var_row 4 var_width vs [] v j (4 * v + j) no_var (omega (arith, h.many)) m refl

  -- its sort, and 0 where there is none
  pub var_sort_is : (v : ℕ) → cell 4 vars v 0 ≡ sort_of_var vs v
  unfolding sort_of_var var_row
  var_sort_is v = elim (dec_lt v count) [
    | yes p ↦ var_at v 0 p (omega arith)
    | no q ↦ tabled_behind vars_tabled v 0 (omega arith) ∙ sym (ap (λ (w : Var). w.sort) (get_or-eq_default vs no_var {n = v} (omega (arith, h.many))))
  ]

-- A variable more ----------------------------------------------------------------------------------------------------------------

module _ {vars : List ℕ} {count : ℕ} {vs : List Var} where
  pub var_cells_more : (v : Var) (end : ℕ) → VarCells vars count vs → count < VARIABLES → end ≡ v.name.start + length v.name.bytes →
      VarCells (sets vars (4 * count) (v.sort ∷ v.text ∷ v.name.start ∷ end ∷ [])) (count + 1) (vs ++ (v ∷ []))
  unfolding var_row name_cells
  var_cells_more v end h l e =
      let t = tabled_more (vars_tabled h) (var_row v) (var_width v) l in
      record {
        many = length_one_more vs v ∙ ap (λ n. n + 1) h.many;
        few = t.few;
        cells = ap (λ n. sets vars (4 * count) (v.sort ∷ v.text ∷ v.name.start ∷ n ∷ [])) e ∙ t.is
            ∙ ap (filled (4 * VARIABLES)) (sym (var_cells_snoc vs v));
      }

  -- the row that `put_var_row` writes, of a variable whose name stands in its text
  pub vars_more : {goals text : List ℕ} (v : Var) (end : ℕ) → VarsHeld goals text vars count vs → count < VARIABLES →
      NameIn (text_of goals text v.text) v.name → end ≡ v.name.start + length v.name.bytes →
      VarsHeld goals text (sets vars (4 * count) (v.sort ∷ v.text ∷ v.name.start ∷ end ∷ [])) (count + 1) (vs ++ (v ∷ []))
  vars_more v end h l i e = record { stand = var_cells_more v end h.stand l e; names = all_snoc h.names i }

  -- a made variable, which has no name
  pub vars_made : {goals text : List ℕ} (sort : ℕ) → VarsHeld goals text vars count vs → count < VARIABLES →
      VarsHeld goals text (sets vars (4 * count) (sort ∷ 0 ∷ 0 ∷ 0 ∷ [])) (count + 1) (vs ++ (record { sort = sort; text = 0; name = no_name } ∷ []))
  vars_made {goals} {text} sort h l = vars_more (record { sort = sort; text = 0; name = no_name }) 0 h l (no_name_in (text_of goals text 0)) refl

-- Variables less -----------------------------------------------------------------------------------------------------------------

module _ {vars : List ℕ} {count : ℕ} {vs us : List Var} (few : ℕ) where
  pub var_cells_less : VarCells vars count us → Behind vs us → length vs ≡ few →
      VarCells (take (4 * few) vars ++ replicate (4 * VARIABLES - 4 * few) 0) few vs
  var_cells_less h b e =
      let l : few ≤ VARIABLES = omega (arith, length-append vs b.new, ap length b.is, h.many, h.few) in
      record {
        many = e;
        few = l;
        cells = (tabled_back few (var_cells vs) (var_cells b.new) (vars_tabled h) (ap var_cells b.is ∙ var_cells_append vs b.new)
            (length_var_cells vs ∙ ap (λ n. 4 * n) e) l).is;
      }

  -- rows from variable `few` on set to zero
  pub vars_less : {goals text : List ℕ} → VarsHeld goals text vars count us → Behind vs us → length vs ≡ few →
      VarsHeld goals text (take (4 * few) vars ++ replicate (4 * VARIABLES - 4 * few) 0) few vs
  vars_less {goals} {text} h b e =
      record {
        stand = var_cells_less h.stand b e;
        names = all_front vs b.new (subst (All (λ v. NameIn (text_of goals text v.text) v.name)) b.is h.names);
      }

  -- so it is the table that there was
  pub vars_again : {was : List ℕ} → VarCells was few vs → VarCells vars count us → Behind vs us →
      take (4 * few) vars ++ replicate (4 * VARIABLES - 4 * few) 0 ≡ was
  vars_again w h b = (var_cells_less h b w.many).cells ∙ sym w.cells
