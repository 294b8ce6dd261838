-- Look-ups by name: the rows of abbreviations, goals and variables hold names. Assumes nothing.
use mathlib.Core.Path.{◌≡◌, refl, sym, ap, ◌∙◌, subst}
use Prim.Native.Nat.{ℕ, zero, suc, ◌+◌, ◌-◌, ◌*◌, ◌<◌, ◌≤◌}
use mathlib.Core.Bool.{Bool, true, false}
use native.Mathlib.Numerals.{add-one}
use Rattle.std.specs.Prelude.{Option, Some as some, None as nothing, MatchOption, IsSomeAnd}
use mathlib.Core.List.{List, [], ◌∷◌, map}
use native.Mathlib.Omega.{arith}
use lib.ListN.{length, get_or, take, drop, length-map, get_or-map}
use borrow.Author.Tests.{eq-eqb, ne_eqb}
use Rattle.rules.specs.Text.{same}
use Rattle.rules.specs.Find.{first}
use Rattle.rules.specs.Sexp.{Name}
use Rattle.rules.specs.Theory.{no_name}
use Rattle.rules.specs.Tree.{Tree, var}
use Rattle.rules.specs.Store.{Made}
use Rattle.rules.specs.State.{Var, Def, Goal, no_var, var_named, abbreviated, goal_named}
use Rattle.rules.specs.TheoryTables.{name_cells}
use Rattle.rules.specs.Laws.Theory.{All, all_at}
use Rattle.rules.specs.Laws.Find.{first_here, first_later, first_over}
use Rattle.sexp.specs.NameRows.{NameIn, NameRows, SomeNames}
use Rattle.state.specs.Held.{text_of, VarsHeld, DefsHeld, GoalsHeld}
use Rattle.state.specs.Rows.{SomeVars, SomeDefs, SomeGoals, DefFound}
use Rattle.state.specs.RowCells.{var_row, def_row, goal_row, no_def, no_goal}
use Rattle.state.specs.VarLaws.{var_at, vars_long}
use Rattle.state.specs.DefLaws.{def_at, def_term, defs_long}
use Rattle.state.specs.GoalLaws.{goal_at, goals_long}

module _ {A : Type 0} (name_of : A → Name) where
  first_names_lem : (p : Name → Bool) (xs : List A) (k : ℕ) → first p (map name_of xs) k ≡ first (λ x. p (name_of x)) xs k
  unfolding first
  first_names_lem p [] k = refl
  first_names_lem p (x ∷ xs) k = ap (λ o. elim (p (name_of x)) [ true ↦ some k | false ↦ o ]) (first_names_lem p xs (suc k))

  name_rows : (text table : List ℕ) (w count : ℕ) (xs : List A) (d : A) → name_of d ≡ no_name → length xs ≡ count →
      ((k : ℕ) → k < count → w * k + 0 + 1 < length table) →
      ((k : ℕ) → k < count → get_or table (w * k + 0) 0 ≡ (name_of (get_or xs k d)).start) →
      ((k : ℕ) → k < count → get_or table (w * k + 1) 0 ≡ (name_of (get_or xs k d)).start + length (name_of (get_or xs k d)).bytes) →
      All (λ x. NameIn text (name_of x)) xs → NameRows text table w 0 count (map name_of xs)
  name_rows text table w count xs d e m inside start end names =
      record {
        many = length-map xs name_of ∙ m;
        row = λ k l.
            let h : k < count = omega (arith, length-map xs name_of) in
            let q : get_or (map name_of xs) k no_name ≡ name_of (get_or xs k d) = ap (get_or (map name_of xs) k) (sym e) ∙ get_or-map name_of xs k d in
            record {
              inside = inside k h;
              start = start k h ∙ ap (λ (n : Name). n.start) (sym q);
              end = ap (λ i. get_or table i 0) (let z : w * k + 0 + 1 ≡ w * k + 1 = omega arith in z) ∙ end k h
                  ∙ ap (λ (n : Name). n.start + length n.bytes) (sym q);
              name = subst (NameIn text) (sym q) (all_at xs k d names (omega arith));
            };
      }

-- Goals ----------------------------------------------------------------------------------------------------------------------------

module _ {text goals : List ℕ} {count : ℕ} {M : Made} {gs : List Goal} (h : GoalsHeld text goals count M gs) where
  pub goal_names : NameRows text goals 6 0 count (map (λ g. g.name) gs)
  unfolding goal_row name_cells
  goal_names =
      name_rows (λ g. g.name) text goals 6 count gs no_goal refl h.many (λ k l. omega (arith, goals_long h, h.few))
      (λ k l. goal_at h k 0 l (omega arith)) (λ k l. goal_at h k 1 l (omega arith)) h.names

  pub goal_found : (name : List ℕ) {r : Option ℕ} → ((ns : List Name) → NameRows text goals 6 0 count ns → r ≡ (first (λ n. same n.bytes name) ns 0)) →
      r ≡ (goal_named gs name)
  unfolding goal_named
  goal_found name k = k (map (λ g. g.name) gs) goal_names ∙ (first_names_lem (λ g. g.name) (λ n. same n.bytes name) gs 0)

pub some_goals : {text goals : List ℕ} {count : ℕ} → SomeGoals text goals count → SomeNames text goals 6 0 count
some_goals s = (map (λ g. g.name) s.1, goal_names s.2)

-- Abbreviations ------------------------------------------------------------------------------------------------------------------

-- the first that has the name is what it abbreviates
pub record FirstDef (ds : List Def) (name : List ℕ) (k i : ℕ) : Type 0 where
  pub place : ℕ
  pub is : i ≡ k + place
  pub inside : place < length ds
  pub means : abbreviated ds name ≡ some (get_or ds place no_def).term

def_first : (ds : List Def) (name : List ℕ) (k i : ℕ) → first (λ d. same d.name.bytes name) ds k ≡ some i → FirstDef ds name k i
unfolding first abbreviated
def_first [] name k i e = absurd (let z : ◌≡◌ {A = ℕ} 0 1 = cc in omega arith)
def_first (d ∷ ds) name k i e = go (same d.name.bytes name) refl e (def_first ds name (suc k) i)
  where
    go : (b : Bool) → same d.name.bytes name ≡ b → elim b [ true ↦ some k | false ↦ first (λ d. same d.name.bytes name) ds (suc k) ] ≡ some i →
        (first (λ d. same d.name.bytes name) ds (suc k) ≡ some i → FirstDef ds name (suc k) i) → FirstDef (d ∷ ds) name k i
    go true q e f = let z : k ≡ i = cc in record { place = 0; is = omega arith; inside = omega arith; means = rw (abbreviated, q) }
    go false q e f =
        let r = f e in
        record { place = suc r.place; is = omega (arith, r.is); inside = omega (arith, r.inside); means = rw (abbreviated, q) r.means }

def_none : (ds : List Def) (name : List ℕ) (k : ℕ) → first (λ d. same d.name.bytes name) ds k ≡ nothing → abbreviated ds name ≡ nothing
unfolding first abbreviated
def_none [] name k e = refl
def_none (d ∷ ds) name k e = go (same d.name.bytes name) e (def_none ds name (suc k))
  where
    go : (b : Bool) → ◌≡◌ {A = Option ℕ} (elim b [ true ↦ some k | false ↦ first (λ d. same d.name.bytes name) ds (suc k) ]) nothing →
        (first (λ d. same d.name.bytes name) ds (suc k) ≡ nothing → abbreviated ds name ≡ nothing) →
        ◌≡◌ {A = Option Tree} (elim b [ true ↦ some d.term | false ↦ abbreviated ds name ]) nothing
    go true e f = absurd (let z : ◌≡◌ {A = ℕ} 0 1 = cc in omega arith)
    go false e f = f e

found_at : (o : Option ℕ) (i : ℕ) → some i ≡ o → o ≡ some i
found_at (some k) i e = cc
found_at nothing i e = absurd (let z : ◌≡◌ {A = ℕ} 0 1 = cc in omega arith)

found_none : (o : Option ℕ) → nothing ≡ o → o ≡ nothing
found_none (some k) e = absurd (let z : ◌≡◌ {A = ℕ} 0 1 = cc in omega arith)
found_none nothing e = refl

module _ {text defs : List ℕ} {count : ℕ} {M : Made} {ds : List Def} (h : DefsHeld text defs count M ds) where
  pub def_names : NameRows text defs 3 0 count (map (λ d. d.name) ds)
  unfolding def_row name_cells
  def_names =
      name_rows (λ d. d.name) text defs 3 count ds no_def refl h.many (λ k l. omega (arith, defs_long h, h.few))
      (λ k l. def_at h k 0 l (omega arith)) (λ k l. def_at h k 1 l (omega arith)) h.names

  module _ (name : List ℕ) {r : Option ℕ} (k : (ns : List Name) → NameRows text defs 3 0 count ns → r ≡ (first (λ n. same n.bytes name) ns 0)) where
    def_is : r ≡ (first (λ d. same d.name.bytes name) ds 0)
    def_is = k (map (λ d. d.name) ds) def_names ∙ (first_names_lem (λ d. d.name) (λ n. same n.bytes name) ds 0)

    pub def_nowhere : r ≡ nothing → abbreviated ds name ≡ nothing
    def_nowhere e = def_none ds name 0 (found_none _ (sym e ∙ def_is))

    place_of : (i : ℕ) → r ≡ some i → FirstDef ds name 0 i
    place_of i e = def_first ds name 0 i (found_at _ i (sym e ∙ def_is))

    pub def_below : (i : ℕ) → r ≡ some i → i < count
    def_below i e = let p = place_of i e in omega (arith, p.is, p.inside, h.many)

    pub def_here : (i : ℕ) → r ≡ some i →
        (abbreviated ds name ≡ some (get_or M (get_or defs (3 * i + 2) 0) (var 0))) × (get_or defs (3 * i + 2) 0 < length M)
    def_here i e =
        let p = place_of i e in
        let q : p.place ≡ i = omega (arith, p.is) in
        let t = def_term h i (def_below i e) in
        (p.means ∙ ap (λ j. some (get_or ds j no_def).term) q ∙ ap some (sym t.tree), t.below)

    -- the cell of the row that is found, as a closure gives it
    pub def_mapped : {P : ℕ → ℕ → Type 0} (q : Option ℕ) → MatchOption r (q ≡ nothing) (λ i. IsSomeAnd q (P i)) →
        ((i j : ℕ) → r ≡ some i → P i j → j ≡ get_or defs (3 * i + 2) 0) → DefFound M ds name q
    def_mapped {P} q m p = go r refl q m
      where
        go : (o : Option ℕ) → r ≡ o → (q : Option ℕ) → MatchOption o (q ≡ nothing) (λ i. IsSomeAnd q (P i)) → DefFound M ds name q
        go nothing e q m = rw m (def_nowhere e)
        go (some i) e nothing m = absurd m
        go (some i) e (some j) m = rw (p i j e m) (def_here i e)

pub some_defs : {text defs : List ℕ} {count : ℕ} → SomeDefs text defs count → SomeNames text defs 3 0 count
some_defs s = (map (λ d. d.name) s.1, def_names s.2)

-- the row that was found lies in the table
pub def_inside : {text defs : List ℕ} {count : ℕ} (name : List ℕ) (i : ℕ) {r : Option ℕ} → SomeDefs text defs count →
    ((ns : List Name) → NameRows text defs 3 0 count ns → r ≡ (first (λ n. same n.bytes name) ns 0)) → r ≡ some i → 3 * i + 2 < length defs
def_inside name i s k e = let l = def_below s.2 name k i e in omega (arith, defs_long s.2, s.2.few)

-- Variables ------------------------------------------------------------------------------------------------------------------------

module _ {goals text vars : List ℕ} {count : ℕ} {vs : List Var} (h : VarsHeld goals text vars count vs) (i : ℕ) (l : i < count) where
  abbrev source : List ℕ
  source = text_of goals text (get_or vars (4 * i + 1) 0)

  starts : get_or vars (4 * i + 2) 0 ≡ (get_or vs i no_var).name.start
  unfolding var_row name_cells
  starts = var_at h.stand i 2 l (omega arith)

  ends : get_or vars (4 * i + 2 + 1) 0 ≡ (get_or vs i no_var).name.start + length (get_or vs i no_var).name.bytes
  unfolding var_row name_cells
  ends = (let next : 4 * i + 2 + 1 ≡ 4 * i + 3 = omega arith in ap (λ k. get_or vars k 0) next) ∙ var_at h.stand i 3 l (omega arith)

  stands_in : NameIn source (get_or vs i no_var).name
  unfolding var_row name_cells
  stands_in =
      subst (λ k. NameIn (text_of goals text k) (get_or vs i no_var).name) (sym (var_at h.stand i 1 l (omega arith)))
      (all_at vs i no_var h.names (omega (arith, h.stand.many)))

  pub var_row_in : 4 * i + 3 < length vars
  var_row_in = omega (arith, vars_long h.stand, h.stand.few)

  pub var_order : get_or vars (4 * i + 2) 0 ≤ get_or vars (4 * i + 2 + 1) 0
  var_order = omega (arith, starts, ends)

  pub var_inside : get_or vars (4 * i + 2 + 1) 0 ≤ length source
  var_inside = omega (arith, ends, stands_in.inside)

  pub var_bytes : take (get_or vars (4 * i + 2 + 1) 0 - get_or vars (4 * i + 2) 0) (drop (get_or vars (4 * i + 2) 0) source) ≡ (get_or vs i no_var).name.bytes
  var_bytes =
      let e : get_or vars (4 * i + 2 + 1) 0 - get_or vars (4 * i + 2) 0 ≡ length (get_or vs i no_var).name.bytes = omega (arith, starts, ends) in
      rw (e, starts) stands_in.spelt

pub in_goals : (goals text : List ℕ) (k : ℕ) → k ≡ 2 → text_of goals text k ≡ goals
unfolding text_of
in_goals goals text k e = ap (λ b. elim b [ true ↦ goals | false ↦ text ]) (eq-eqb k 2 e)

pub in_text : (goals text : List ℕ) (k : ℕ) → (k ≡ 2 → ⊥) → text_of goals text k ≡ text
unfolding text_of
in_text goals text k e = ap (λ b. elim b [ true ↦ goals | false ↦ text ]) (ne_eqb k 2 e)

-- the text in which the name is looked up, whichever it is
module _ {goals text vars : List ℕ} {count i : ℕ} (s : SomeVars goals text vars count × (i < count)) (t : List ℕ)
    (e : text_of goals text (get_or vars (4 * i + 1) 0) ≡ t) where
  pub name_inside : get_or vars (4 * i + 2 + 1) 0 ≤ length t
  name_inside = rw e at (var_inside s.0.1 i s.1)

  pub name_is : (name : List ℕ) {r : Bool} → r ≡ same (take (get_or vars (4 * i + 2 + 1) 0 - get_or vars (4 * i + 2) 0) (drop (get_or vars (4 * i + 2) 0) t)) name →
      (vs : List Var) → VarsHeld goals text vars count vs → r ≡ same (get_or vs i no_var).name.bytes name
  name_is name q vs h =
      q ∙ ap (λ l. same (take (get_or vars (4 * i + 2 + 1) 0 - get_or vars (4 * i + 2) 0) (drop (get_or vars (4 * i + 2) 0) l)) name) (sym e)
      ∙ ap (λ l. same l name) (var_bytes h i s.1)

-- the first number that passes
module _ {A : Type 0} (p : A → Bool) (xs : List A) (d : A) where
  passed : (i : ℕ) → i ≤ length xs → ((k : ℕ) → k < i → p (get_or xs k d) ≡ false) → first p xs 0 ≡ first p (drop i xs) i
  passed zero l past = refl
  passed (suc i) l past =
      passed i (omega arith) (λ k a. past k (omega arith)) ∙ first_later p xs i d (omega arith) (past i (omega arith)) ∙ ap (λ k. first p (drop k xs) k) (add-one i)

  first_found : {n : ℕ} → n ≡ length xs → (r : Option ℕ)
      → MatchOption r ((k : ℕ) → 0 ≤ k → k < n → p (get_or xs k d) ≡ false)
      (λ i. (0 ≤ i) × (i < n) × (p (get_or xs i d) ≡ true) × ((k : ℕ) → 0 ≤ k → k < i → p (get_or xs k d) ≡ false))
      → r ≡ first p xs 0
  first_found e nothing past = sym (passed (length xs) (omega arith) (λ k a. past k (omega arith) (omega (arith, e))) ∙ first_over p xs (length xs) (omega arith))
  first_found e (some i) f = sym (passed i (omega (arith, e, f.1)) (λ k a. f.3 k (omega arith) a) ∙ first_here p xs i d (omega (arith, e, f.1)) f.2)

-- the variable of that name: the first one whose name is this
module _ {goals text vars : List ℕ} {count : ℕ} {vs : List Var} (h : VarsHeld goals text vars count vs) (name : List ℕ) where
  abbrev pub Named : Bool → ℕ → Type 0
  Named b i = same (get_or vs i no_var).name.bytes name ≡ b

  pub var_found : (r : Option ℕ)
      → MatchOption r ((k : ℕ) → 0 ≤ k → k < count → Named false k) (λ i. (0 ≤ i) × (i < count) × Named true i × ((k : ℕ) → 0 ≤ k → k < i → Named false k))
      → r ≡ var_named vs name
  unfolding var_named
  var_found = first_found (λ (v : Var). same v.name.bytes name) vs no_var (omega (arith, h.stand.many))
