-- The cells of variables, abbreviations, goals, facts and footings as rows, all of one width. The rows of goals and facts carry a running place:
-- where their entries begin. Assumes nothing.
use Rattle.std.specs.Prelude.{◌≡◌, refl, false, take, set}
use Rattle.std.proofs.Math.Path.{sym, ap}
use Rattle.std.proofs.Common.{◌∙◌}
use Prim.Native.Nat.{ℕ, zero, suc, ◌+◌, ◌*◌, ◌<◌}
use mathlib.Core.List.{List, [], ◌∷◌, ◌++◌, append_assoc, append-nil}
use native.Mathlib.Omega.{arith}
use Rattle.std.proofs.Math.Nat.{mul-suc, mul-zero}
use Rattle.std.proofs.Math.ListN.{length, get_or, length-append, get_or-append}
use Rattle.std.proofs.Math.Seq.{get_or-append-add}
use Rattle.rules.specs.Find.{change}
use Rattle.rules.specs.Tree.{var, none, count_trees}
use Rattle.rules.specs.Store.{Made, number}
use Rattle.rules.specs.Theory.{no_name}
use Rattle.rules.specs.State.{Var, Def, Goal, Fact, goal_entries, fact_entries, all_entries}
use Rattle.rules.specs.Forms.{taken_goal}
use Rattle.rules.specs.TheoryTables.{rows, name_cells}
use Rattle.rules.specs.StateTables.{var_cells, def_cells, goal_cells, fact_cells, footing_cells, bit, bit_word}

-- Rows with a running place ------------------------------------------------------------------------------------------------------

-- the rows f of entries that take s places each, the first beginning at a place
unfoldable pub running : {A : Type 0} → (ℕ → A → List ℕ) → (A → ℕ) → ℕ → List A → List ℕ
running f s at [] = []
running f s at (x ∷ xs) = f at x ++ running f s (at + s x) xs

-- the places of all
unfoldable pub places : {A : Type 0} → (A → ℕ) → List A → ℕ
places s [] = 0
places s (x ∷ xs) = s x + places s xs

module _ {A : Type 0} (f : ℕ → A → List ℕ) (s : A → ℕ) where
  pub running_snoc : (at : ℕ) (xs : List A) (y : A) → running f s at (xs ++ (y ∷ [])) ≡ running f s at xs ++ f (at + places s xs) y
  unfolding running places
  running_snoc at [] y = append-nil (f at y) ∙ ap (λ n. f n y) (let e : at ≡ at + 0 = omega arith in e)
  running_snoc at (x ∷ xs) y =
      let e : at + s x + places s xs ≡ at + (s x + places s xs) = omega arith in
      ap (λ l. f at x ++ l) (running_snoc (at + s x) xs y ∙ ap (λ n. running f s (at + s x) xs ++ f n y) e)
      ∙ sym (append_assoc (f at x) (running f s (at + s x) xs) (f (at + (s x + places s xs)) y))

  module _ (w : ℕ) (h : (at : ℕ) (x : A) → length (f at x) ≡ w) where
    pub length_running : (at : ℕ) (xs : List A) → length (running f s at xs) ≡ w * length xs
    unfolding running
    length_running at [] = omega arith
    length_running at (x ∷ xs) =
        omega (arith, length-append (f at x) (running f s (at + s x) xs), h at x, length_running (at + s x) xs, mul-suc w (length xs))

    -- the cell j of entry k, whose places begin behind those of the entries before
    pub running_cell : (at : ℕ) (xs : List A) (k j : ℕ) (d : A) → k < length xs → j < w →
        get_or (running f s at xs) (w * k + j) 0 ≡ get_or (f (at + places s (take k xs)) (get_or xs k d)) j 0
    unfolding running places
    running_cell at [] k j d l m = absurd (omega arith)
    running_cell at (x ∷ xs) zero j d l m =
        let q : w * 0 + j ≡ j = omega (arith, mul-zero w) in
        ap (λ n. get_or (f at x ++ running f s (at + s x) xs) n 0) q ∙ get_or-append (f at x) (running f s (at + s x) xs) 0 j (omega (arith, h at x))
        ∙ ap (λ n. get_or (f n x) j 0) (let e : at ≡ at + 0 = omega arith in e)
    running_cell at (x ∷ xs) (suc k) j d l m =
        let q : w * suc k + j ≡ length (f at x) + (w * k + j) = omega (arith, mul-suc w k, h at x) in
        ap (λ n. get_or (f at x ++ running f s (at + s x) xs) n 0) q ∙ get_or-append-add (f at x) (running f s (at + s x) xs) (w * k + j) 0
        ∙ running_cell (at + s x) xs k j d (omega arith) m
        ∙ ap (λ n. get_or (f n (get_or xs k d)) j 0) (let e : at + s x + places s (take k xs) ≡ at + (s x + places s (take k xs)) = omega arith in e)

-- what stands nowhere, as `no_var` is for variables
abbrev pub no_def : Def
no_def = record { name = no_name; term = var 0 }

abbrev pub no_goal : Goal
no_goal = record { name = no_name; judgment = var 0; hyps = none; taken = false }

abbrev pub no_fact : Fact
no_fact = record { judgment = var 0; hyps = []; assumed = false; premises = none; general = []; footing = [] }

-- Variables, abbreviations, footings -----------------------------------------------------------------------------------------------

unfoldable pub var_row : Var → List ℕ
var_row v = v.sort ∷ v.text ∷ name_cells v.name

unfoldable pub def_row : Made → Def → List ℕ
def_row M d = name_cells d.name ++ (number M d.term ∷ [])

unfoldable pub footing_row : Fact → List ℕ
footing_row f = bit_word f.footing 0 ∷ bit_word f.footing 1 ∷ bit_word f.footing 2 ∷ bit_word f.footing 3 ∷ []

pub var_rows_lem : (vs : List Var) → var_cells vs ≡ rows var_row vs
unfolding var_cells var_row rows
var_rows_lem [] = refl
var_rows_lem (v ∷ vs) = ap (λ l. (v.sort ∷ v.text ∷ name_cells v.name) ++ l) (var_rows_lem vs)

pub def_rows : (M : Made) (ds : List Def) → def_cells M ds ≡ rows (def_row M) ds
unfolding def_cells def_row rows
def_rows M [] = refl
def_rows M (d ∷ ds) = ap (λ l. (name_cells d.name ++ (number M d.term ∷ [])) ++ l) (def_rows M ds)

pub footing_rows : (fs : List Fact) → footing_cells fs ≡ rows footing_row fs
unfolding footing_cells footing_row rows
footing_rows [] = refl
footing_rows (f ∷ fs) =
    ap (λ l. (bit_word f.footing 0 ∷ bit_word f.footing 1 ∷ bit_word f.footing 2 ∷ bit_word f.footing 3 ∷ []) ++ l) (footing_rows fs)

pub var_width : (v : Var) → length (var_row v) ≡ 4
unfolding var_row name_cells
var_width v = refl

pub def_width : (M : Made) (d : Def) → length (def_row M d) ≡ 3
unfolding def_row name_cells
def_width M d = refl

pub footing_width : (f : Fact) → length (footing_row f) ≡ 4
unfolding footing_row
footing_width f = refl

-- Goals and facts ------------------------------------------------------------------------------------------------------------------

unfoldable pub goal_row : Made → ℕ → Goal → List ℕ
goal_row M at g = name_cells g.name ++ (number M g.judgment ∷ at ∷ count_trees g.hyps ∷ bit g.taken ∷ [])

unfoldable pub fact_row : Made → ℕ → Fact → List ℕ
fact_row M at f = number M f.judgment ∷ bit f.assumed ∷ at ∷ length f.hyps ∷ count_trees f.premises ∷ length f.general ∷ []

abbrev pub goal_places : Goal → ℕ
goal_places g = count_trees g.hyps

pub goal_rows_lem : (M : Made) (at : ℕ) (gs : List Goal) → goal_cells M at gs ≡ running (goal_row M) goal_places at gs
unfolding goal_cells goal_row running
goal_rows_lem M at [] = refl
goal_rows_lem M at (g ∷ gs) =
    ap (λ l. (name_cells g.name ++ (number M g.judgment ∷ at ∷ count_trees g.hyps ∷ bit g.taken ∷ [])) ++ l)
    (goal_rows_lem M (at + count_trees g.hyps) gs)

pub fact_rows_lem : (M : Made) (at : ℕ) (fs : List Fact) → fact_cells M at fs ≡ running (fact_row M) fact_entries at fs
unfolding fact_cells fact_row running
fact_rows_lem M at [] = refl
fact_rows_lem M at (f ∷ fs) =
    ap (λ l. (number M f.judgment ∷ bit f.assumed ∷ at ∷ length f.hyps ∷ count_trees f.premises ∷ length f.general ∷ []) ++ l)
    (fact_rows_lem M (at + fact_entries f) fs)

pub goal_width : (M : Made) (at : ℕ) (g : Goal) → length (goal_row M at g) ≡ 6
unfolding goal_row name_cells
goal_width M at g = refl

pub fact_width : (M : Made) (at : ℕ) (f : Fact) → length (fact_row M at f) ≡ 6
unfolding fact_row
fact_width M at f = refl

pub goal_places_lem : (gs : List Goal) → places goal_places gs ≡ goal_entries gs
unfolding places goal_entries
goal_places_lem [] = refl
goal_places_lem (g ∷ gs) = ap (λ n. count_trees g.hyps + n) (goal_places_lem gs)

pub fact_places : (fs : List Fact) → places fact_entries fs ≡ all_entries fs
unfolding places all_entries
fact_places [] = refl
fact_places (f ∷ fs) = ap (λ n. fact_entries f + n) (fact_places fs)

-- A goal that is taken: one cell anew ----------------------------------------------------------------------------------------------

pub taken_cells : (M : Made) (at : ℕ) (gs : List Goal) (k : ℕ) → k < length gs →
    goal_cells M at (change gs k taken_goal) ≡ set (goal_cells M at gs) (6 * k + 5) 1
unfolding goal_cells change name_cells bit
taken_cells M at [] k l = absurd (omega arith)
taken_cells M at (g ∷ gs) zero l = refl
taken_cells M at (g ∷ gs) (suc k) l =
    let e : 6 * suc k + 5 ≡ suc (suc (suc (suc (suc (suc (6 * k + 5)))))) = omega arith in
    ap (λ l. g.name.start ∷ (g.name.start + length g.name.bytes) ∷ number M g.judgment ∷ at ∷ count_trees g.hyps ∷ bit g.taken ∷ l)
    (taken_cells M (at + count_trees g.hyps) gs k (omega arith))
    ∙ ap (λ i. set (g.name.start ∷ (g.name.start + length g.name.bytes) ∷ number M g.judgment ∷ at ∷ count_trees g.hyps ∷ bit g.taken
    ∷ goal_cells M (at + count_trees g.hyps) gs) i 1) (sym e)
