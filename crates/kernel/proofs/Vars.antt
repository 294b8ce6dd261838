-- A rule's variables in their row: as the look-up reads them, one met again, and a new one. Assumes nothing.
use mathlib.Core.Path.{◌≡◌, refl, sym, ap, ◌∙◌, subst}
use Prim.Native.Nat.{ℕ, suc, ◌+◌, ◌-◌, ◌*◌, ◌<◌, ◌≤◌}
use Rattle.std.specs.Prelude.{Some as some, None as nothing, Option}
use mathlib.Core.List.{List, [], ◌∷◌, ◌++◌}
use native.Mathlib.Omega.{arith}
use native.Mathlib.Numerals.{add-one}
use lib.ListN.{length, get_or, take, drop, set, replicate, length-append, length-set}
use lib.Seq.{sets, length-sets, drop-drop, drop-set-lt, drop_at}
use Rattle.rules.specs.Limits.{RULEVARS}
use Rattle.rules.specs.Text.{same}
use Rattle.rules.specs.Find.{first}
use Rattle.rules.specs.Out.{ok, refuse}
use Rattle.rules.specs.Sexp.{Name}
use Rattle.rules.specs.Theory.{RuleVar}
use Rattle.rules.specs.Laws.Theory.{all_at, all_snoc}
use Rattle.rules.specs.TheoryTables.{name_cells, rows, var_row, filled}
use Rattle.rules.specs.Laws.Row.{length_rows, row_cell, filled_fits}
use Rattle.rules.specs.Declare.{Reading, no_rule_var, met_or_new}
use Rattle.rules.specs.Laws.PatternSteps.{var_named, with_var, met_other, met_same, new_full, new_more}
use Rattle.sexp.specs.NameRows.{NameAt, NameRows}
use Rattle.kernel.specs.Held.{Front, NameFits}
use Rattle.kernel.specs.Reading.{VarsHeld, Meeting, Met}
use Rattle.sexp.specs.AtomText.{Spans, spans_part}
use Rattle.sexp.specs.FoundLaws.{found_at, found_missing, found_inside, names_of, length_names, name_of, first_name}
use Rattle.kernel.specs.RuleRows.{var_name, var_row_three}
use Rattle.kernel.proofs.Holding.{front_row}
use Rattle.kernel.proofs.Arguments.{drop_zeros}

-- The row ------------------------------------------------------------------------------------------------------------------------

module _ {text table : List ℕ} {count : ℕ} {vs : List RuleVar} (h : VarsHeld text table count vs) where
  vars_cells : length (rows var_row vs) ≡ 3 * count
  vars_cells = length_rows var_row 3 var_row_three vs ∙ ap (λ k. 3 * k) h.many

  vars_room : 3 * count ≤ length table
  vars_room = omega (arith, vars_cells, ap length h.front.is, length-append (rows var_row vs) h.front.rest)

  pub vars_few : count ≤ RULEVARS
  vars_few = omega (arith, vars_room, h.long)

  var_cell : (k j i : ℕ) → k < length vs → j < 3 → i ≡ 3 * k + j → get_or table i 0 ≡ get_or (var_row (get_or vs k no_rule_var)) j 0
  var_cell k j i l m e = ap (λ t. get_or t i 0) h.front.is ∙ row_cell var_row 3 var_row_three vs h.front.rest k j i no_rule_var l m e

  pub vars_rows : NameRows text table 3 1 count (names_of var_name vs)
  unfolding var_row name_cells
  vars_rows =
      record {
        many = length_names var_name vs ∙ h.many;
        row = λ k l.
            let m : k < length vs = omega (arith, l, length_names var_name vs) in
            subst (λ n. NameAt text table (3 * k + 1) n) (sym (name_of var_name vs k no_rule_var refl))
            (record {
              inside = omega (arith, vars_room, m, h.many);
              start = var_cell k 1 (3 * k + 1) m (omega arith) refl;
              end = var_cell k 2 (3 * k + 1 + 1) m (omega arith) (omega arith);
              name = all_at vs k no_rule_var h.names m;
            });
      }

  pub var_sort_lem : (i : ℕ) → i < count → get_or table (3 * i) 0 ≡ (get_or vs i no_rule_var).sort
  unfolding var_row
  var_sort_lem i l = var_cell i 0 (3 * i) (omega (arith, l, h.many)) (omega arith) (omega arith)

  -- the row of what is found is inside
  pub var_inside : (name : List ℕ) (r : Option ℕ) (i : ℕ) → ((ns : List Name) → NameRows text table 3 1 count ns → r ≡ (first (λ n. same n.bytes name) ns 0)) → r ≡ some i → i < count
  var_inside name r i a b = omega (arith, found_inside name (names_of var_name vs) r i (a (names_of var_name vs) vars_rows) b, length_names var_name vs, h.many)

  pub var_place : (i : ℕ) → i < count → 3 * i < length table
  var_place i l = omega (arith, l, vars_room)

  -- three cells more leave zero behind them
  blank_more : (s start end : ℕ) → drop (3 * (count + 1)) (sets (set table (3 * count) s) (3 * count + 1) (start ∷ end ∷ [])) ≡ replicate (3 * RULEVARS - 3 * (count + 1)) 0
  blank_more s start end =
      let n : 3 * (count + 1) ≡ 3 * count + 3 = omega arith in
      let m : 3 * RULEVARS - 3 * count - 3 ≡ 3 * RULEVARS - 3 * (count + 1) = omega arith in
      drop-set-lt (3 * (count + 1)) (set (set table (3 * count) s) (3 * count + 1) start) (suc (3 * count + 1)) end (omega arith)
      ∙ drop-set-lt (3 * (count + 1)) (set table (3 * count) s) (3 * count + 1) start (omega arith)
      ∙ drop-set-lt (3 * (count + 1)) table (3 * count) s (omega arith)
      ∙ ap (λ (k : ℕ). drop k table) n ∙ sym (drop-drop 3 (3 * count) table) ∙ ap (drop 3) h.blank ∙ drop_zeros (3 * RULEVARS - 3 * count) 3
      ∙ ap (λ (k : ℕ). replicate k 0) m

  pub vars_more : (n : Name) (s start end : ℕ) → Spans text n start end → count < RULEVARS →
      VarsHeld text (sets (set table (3 * count) s) (3 * count + 1) (start ∷ end ∷ [])) (count + 1) (vs ++ (record { name = n; sort = s } ∷ []))
  unfolding var_row name_cells
  vars_more n s start end k l =
      let v : RuleVar = record { name = n; sort = s } in
      let q : var_row v ≡ s ∷ start ∷ end ∷ [] = λ i. s ∷ k.starts i ∷ (ap (λ z. z + length n.bytes) k.starts ∙ k.ends) i ∷ [] in
      let e : sets table (3 * count) (s ∷ start ∷ end ∷ []) ≡ sets (set table (3 * count) s) (3 * count + 1) (start ∷ end ∷ []) =
      ap (λ (m : ℕ). sets (set table (3 * count) s) m (start ∷ end ∷ [])) (sym (add-one (3 * count))) in
      record {
        many = omega (arith, length-append vs (v ∷ []), h.many);
        long = ap length (sym e) ∙ length-sets table (3 * count) (s ∷ start ∷ end ∷ []) ∙ h.long;
        front = subst (λ t. Front t (rows var_row (vs ++ (v ∷ [])))) e
            (front_row var_row table vs v (s ∷ start ∷ end ∷ []) (3 * count) h.front q vars_cells (omega (arith, h.long, l)));
        blank = blank_more s start end;
        names = all_snoc h.names k.named;
      }

  -- the whole row
  pub vars_filled : filled (3 * RULEVARS) (rows var_row vs) ≡ table
  vars_filled =
      let n : 3 * RULEVARS - length (rows var_row vs) ≡ 3 * RULEVARS - 3 * count = omega (arith, vars_cells) in
      filled_fits (3 * RULEVARS) (rows var_row vs) (omega (arith, vars_cells, vars_few))
      ∙ ap (λ (k : ℕ). rows var_row vs ++ replicate k 0) n
      ∙ ap (λ l. rows var_row vs ++ l) (sym h.blank ∙ ap (drop (3 * count)) h.front.is ∙ drop_at (rows var_row vs) h.front.rest (3 * count) vars_cells)
      ∙ sym h.front.is

-- a new name fits
pub var_fits : {text table : List ℕ} {start end sort count : ℕ} (m : Meeting text start end sort table count) → count < RULEVARS →
    NameFits (length (set table (3 * count) sort)) (3 * count + 1) start end
var_fits {table = table} {sort = sort} {count = count} m l =
    record {
      inside = omega (arith, length-set table (3 * count) sort, m.held.long, l);
      first = omega (arith, m.low, m.high, m.short);
      last = omega (arith, m.high, m.short);
    }

-- The answers of `met_or_new` ------------------------------------------------------------------------------------------------------

module _ (sort : ℕ) {text table : List ℕ} {count start end : ℕ} (R : Reading) (n : Name) (h : VarsHeld text table count R.vars) (k : Spans text n start end) (r : Option ℕ)
    (a : (ns : List Name) → NameRows text table 3 1 count ns → r ≡ (first (λ m. same m.bytes (take (end - start) (drop start text))) ns 0)) where
  found_so : var_named R.vars n.bytes ≡ first (λ m. same m.bytes (take (end - start) (drop start text))) (names_of var_name R.vars) 0
  found_so =
      ap (λ l. first (λ (v : RuleVar). same v.name.bytes l) R.vars 0) (sym (spans_part k)) ∙ first_name var_name R.vars (take (end - start) (drop start text)) 0

  module _ (i : ℕ) (b : r ≡ some i) where
    so : met_or_new n sort (var_named R.vars n.bytes) R ≡ met_or_new n sort (some i) R
    so = ap (λ o. met_or_new n sort o R) (found_so ∙ found_at (first (λ (m : Name). same m.bytes (take (end - start) (drop start text))) (names_of var_name R.vars) 0) r i (a (names_of var_name R.vars) (vars_rows h)) b)

    inside : i < count
    inside = var_inside h (take (end - start) (drop start text)) r i a b

    pub met_again : get_or table (3 * i) 0 ≡ sort → Met text table R (met_or_new n sort (var_named R.vars n.bytes) R) i count
    met_again e =
        record {
          now = R;
          is = so ∙ met_same R n sort i (sym (var_sort_lem h i inside) ∙ e);
          words = refl;
          held = h;
          small = omega (arith, inside, vars_few h);
        }

    pub met_wrongly : (get_or table (3 * i) 0 ≡ sort → ⊥) → met_or_new n sort (var_named R.vars n.bytes) R ≡ refuse 12 0 R
    met_wrongly e = so ∙ met_other R n sort i (λ f. e (var_sort_lem h i inside ∙ f))

  module _ (b : r ≡ nothing) where
    none_so : met_or_new n sort (var_named R.vars n.bytes) R ≡ met_or_new n sort nothing R
    none_so = ap (λ o. met_or_new n sort o R) (found_so ∙ found_missing (first (λ (m : Name). same m.bytes (take (end - start) (drop start text))) (names_of var_name R.vars) 0) r (a (names_of var_name R.vars) (vars_rows h)) b)

    pub met_full : RULEVARS ≤ count → met_or_new n sort (var_named R.vars n.bytes) R ≡ refuse 60 5 R
    met_full l = none_so ∙ new_full R n sort (omega (arith, l, h.many))

    pub met_new : count < RULEVARS → Met text (sets (set table (3 * count) sort) (3 * count + 1) (start ∷ end ∷ [])) R (met_or_new n sort (var_named R.vars n.bytes) R) count (count + 1)
    met_new l =
        record {
          now = with_var R n sort;
          is = none_so ∙ new_more R n sort (omega (arith, l, h.many)) ∙ ap (λ i. ok i (with_var R n sort)) h.many;
          words = refl;
          held = vars_more h n sort start end k l;
          small = l;
        }
