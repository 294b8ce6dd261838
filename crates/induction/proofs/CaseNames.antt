-- The variables that a case names: of the sorts, new to the motive and to each other. Assumes nothing.
use mathlib.Core.Path.{◌≡◌, refl, sym, ap, ◌∙◌, subst}
use mathlib.Core.Bool.{Bool, true, false, ◌&&◌, ◌||◌, not}
use Rattle.std.specs.Prelude.{Option, Some as some, None as nothing}
use mathlib.Core.List.{List, [], ◌∷◌, ◌++◌}
use Prim.Native.Nat.{ℕ, suc, ◌+◌, ◌*◌, ◌<◌}
use native.Mathlib.Omega.{arith}
use native.Mathlib.Numerals.{add-one}
use lib.Dec.{eqb}
use lib.ListN.{length, get_or, set, take, drop, replicate, length-set, length-replicate}
use lib.Seq.{drop-cons, take-suc-set}
use borrow.Author.Tests.{eq-eqb, ne_eqb}
use Rattle.rules.specs.Limits.{ARGUMENTS, VARIABLES, VARIABLEWORDS}
use Rattle.rules.specs.Out.{Out, ok, refuse, then, found, ask}
use Rattle.rules.specs.Sexp.{Sexp, Sexps, cons, count}
use Rattle.rules.specs.Find.{Set, has}
use Rattle.rules.specs.Store.{Made}
use Rattle.rules.specs.State.{State, Var, sort_of_var}
use Rattle.rules.specs.Induct.{Motive, motive_vars, case_vars}
use Rattle.sexp.specs.Items.{Holds}
use Rattle.sexp.specs.ItemLaws.{More}
use Rattle.sexp.specs.WalkLaws.{Walk, walk_start, walk_more, walk_over, walk_rest}
use Rattle.sexp.specs.FoundLaws.{found_at, found_missing}
use Rattle.terms.specs.Sets.{holds, plus}
use Rattle.terms.specs.Laws.Sets.{holds_zero}
use Rattle.state.specs.Held.{VarsHeld}
use Rattle.state.specs.Rows.{SomeVars, cell}
use Rattle.state.specs.VarLaws.{vars_long, var_sort_is}
use Rattle.reading.specs.Laws.Lists.{variable_below}
use Rattle.reading.specs.Items.{FirstItem, variable_in, variable_found}
use denote.Ref.{Bor}
use Rattle.sexp.specs.Each.{Here, Step, Over, here, over}
use Rattle.sexp.specs.declared.items.Each.{Each}
use Rattle.terms.specs.Table.{Below}
use Rattle.terms.specs.Laws.Below.{below_snoc}
use Rattle.reading.specs.Laws.Walks.{walk_next}
use Rattle.induction.specs.Inducing.{CaseNames, Named}
use Rattle.sexp.specs.FirstItem.{count_more}

has_snoc : (xs : List ℕ) (v w : ℕ) → has (xs ++ (v ∷ [])) w ≡ (has xs w || eqb w v)
unfolding has
has_snoc [] v w = go (eqb w v)
  where
    go : (b : Bool) → ◌≡◌ {A = Bool} (elim b [ true ↦ true | false ↦ false ]) b
    go true = refl
    go false = refl
has_snoc (x ∷ xs) v w = go (eqb w x) (has_snoc xs v w)
  where
    go : (b : Bool) → has (xs ++ (v ∷ [])) w ≡ (has xs w || eqb w v) → elim b [ true ↦ true | false ↦ has (xs ++ (v ∷ [])) w ] ≡ ((elim b [ true ↦ true | false ↦ has xs w ]) || eqb w v)
    go true e = refl
    go false e = e

-- what is asked of a variable
abbrev asks : State → Motive → ℕ → List ℕ → ℕ → Bool
asks S M s vs v = eqb (sort_of_var S.vars v) s && (not (motive_vars M v) && not (has vs v))

step : (S : State) (M : Motive) (x : Sexp) (xs : Sexps) (s : ℕ) (ss vs : List ℕ) (U : Made) → case_vars S M (cons x xs) (s ∷ ss) vs U
    ≡ then (found 42 (variable_in S.vars x) U) (λ v N. then (ask 42 (asks S M s vs v) N) (λ z B. case_vars S M xs ss (vs ++ (v ∷ [])) B))
unfolding case_vars
step S M x xs s ss vs U =
    ap (λ (o : Out Made ℕ). then o (λ v N. then (ask 42 (asks S M s vs v) N) (λ z B. case_vars S M xs ss (vs ++ (v ∷ [])) B))) (variable_found 42 S x U)

pub record NamesLeft (S : State) (xs : Sexps) (text sorts used cells out seen : List ℕ) (k at : ℕ) : Type 0 where
  pub zs : Sexps
  pub walk : Walk text cells at zs
  pub many : count zs + k ≡ length sorts
  pub on : (M : Motive) → holds used ≡ motive_vars M → (U : Made) → case_vars S M xs sorts [] U ≡ case_vars S M zs (drop k sorts) (take k out) U
  pub seen_are : holds seen ≡ has (take k out)
  pub small : Below VARIABLES (take k out)
  pub long : length out ≡ ARGUMENTS
  pub wide : length seen ≡ VARIABLEWORDS

abbrev pub NamesOf : (goals text vars : List ℕ) (n : ℕ) (sorts used cells out seen : List ℕ) (k at : ℕ) → Type 0
NamesOf goals text vars n sorts used cells out seen k at =
    (g : CaseNames goals text vars n sorts used cells) → NamesLeft g.S g.xs text sorts used cells out seen k at

pub names_start : {goals text vars : List ℕ} {n : ℕ} {sorts used cells out : List ℕ} → length out ≡ ARGUMENTS →
    NamesOf goals text vars n sorts used cells out (replicate VARIABLEWORDS 0) 0 0
unfolding has
names_start e g =
    record {
      zs = g.xs;
      walk = walk_start g.holds;
      many = omega (arith, g.many);
      on = λ M q U. refl;
      seen_are = holds_zero VARIABLEWORDS;
      small = λ i l. absurd (let z : i < 0 = l in omega arith);
      long = e;
      wide = length-replicate {A = ℕ} VARIABLEWORDS 0;
    }

-- what the loop keeps: the walk, and what is left of the names
pub record Naming (goals text vars : List ℕ) (n : ℕ) (sorts used cells out seen : List ℕ) (m : ℕ) (s : Each) : Type 0 where
  pub walked : s.cells.now ≡ cells
  pub names : NamesOf goals text vars n sorts used cells out seen m s.at

module _ {goals text vars : List ℕ} {n : ℕ} {sorts used cells : List ℕ} (g : CaseNames goals text vars n sorts used cells) {out seen : List ℕ} {m : ℕ} {s : Each}
    (i : Naming goals text vars n sorts used cells out seen m s) where
  pub names_done : {e : Each} → Over s e → (M : Motive) → holds used ≡ motive_vars M → Named (case_vars g.S M g.xs sorts []) (length sorts) out
  unfolding case_vars count
  names_done l M q =
      let h = i.names g in
      let z = walk_over h.walk (over i.walked l) in
      let e : m ≡ length sorts = let y = ap count z in omega (arith, h.many, y) in
      record {
        are = λ U. h.on M q U ∙ ap (λ (xs : Sexps). case_vars g.S M xs (drop m sorts) (take m out) U) z ∙ ap (λ (j : ℕ). ok (take j out) U) e;
        small = subst (λ (j : ℕ). Below VARIABLES (take j out)) e h.small;
        long = h.long;
      }

  -- at the item that the walk hands out, with its number
  module _ {part : Bor (List ℕ)} {t : Each} (step_on : Step s part t) {k : ℕ} (number : k ≡ m) where
    w : Here cells part.now s.at t
    w = here i.walked step_on

    h : NamesLeft g.S g.xs text sorts used cells out seen k s.at
    h = subst (λ (j : ℕ). NamesLeft g.S g.xs text sorts used cells out seen j s.at) (sym number) (i.names g)

    item : More h.zs
    item = walk_more h.walk w.inside

    first_walk : Walk text cells s.at (cons item.first item.others)
    first_walk = subst (λ (z : Sexps). Walk text cells s.at z) item.is h.walk

    pub names_place : k < length sorts
    names_place = omega (arith, h.many, count_more item.first item.others h.zs item.is)

    pub names_room : k < length out
    names_room = omega (arith, names_place, g.few, h.long)

    spelled : Holds text part.now (cons item.first item.others)
    spelled = subst (λ (z : List ℕ). Holds text z (cons item.first item.others)) (sym w.is) (walk_rest first_walk)

    pub names_given : FirstItem text part.now × SomeVars goals text vars n
    names_given = (record { x = item.first; ys = item.others; holds = spelled }, (g.S.vars, g.held))

    split : (M : Motive) → holds used ≡ motive_vars M → (U : Made) → case_vars g.S M g.xs sorts [] U
        ≡ then (found 42 (variable_in g.S.vars item.first) U)
        (λ v N. then (ask 42 (asks g.S M (get_or sorts k 0) (take k out) v) N) (λ z B. case_vars g.S M item.others (drop (suc k) sorts) (take k out ++ (v ∷ [])) B))
    split M q U =
        h.on M q U
        ∙ (λ j. case_vars g.S M (item.is j) (drop-cons sorts k 0 names_place j) (take k out) U)
        ∙ step g.S M item.first item.others (get_or sorts k 0) (drop (suc k) sorts) (take k out) U

    module _ {r : Option ℕ} (a : (vs : List Var) (x : Sexp) (ys : Sexps) → VarsHeld goals text vars n vs → Holds text part.now (cons x ys) → r ≡ (variable_in vs x)) where
      answer : r ≡ (variable_in g.S.vars item.first)
      answer = a g.S.vars item.first item.others g.held spelled

      pub names_unknown : r ≡ nothing → (M : Motive) → holds used ≡ motive_vars M → (U : Made) → case_vars g.S M g.xs sorts [] U ≡ refuse 42 0 U
      unfolding then
      names_unknown e M q U =
          split M q U
          ∙ ap (λ (o : Option ℕ). then (found 42 o U)
          (λ v N. then (ask 42 (asks g.S M (get_or sorts k 0) (take k out) v) N) (λ z B. case_vars g.S M item.others (drop (suc k) sorts) (take k out ++ (v ∷ [])) B)))
          (found_missing (variable_in g.S.vars item.first) r answer e)

      module _ {v : ℕ} (e : r ≡ some v) where
        named : variable_in g.S.vars item.first ≡ some v
        named = found_at (variable_in g.S.vars item.first) r v answer e

        pub names_variable : v < VARIABLES
        names_variable = omega (arith, variable_below g.S.vars item.first v named, g.held.stand.many, g.held.stand.few)

        pub names_sort_asks : (length vars ≡ 4 * VARIABLES) × (v < VARIABLES)
        names_sort_asks = (vars_long g.held.stand, names_variable)

        pub names_used : length used ≡ VARIABLEWORDS → v < 64 * length used
        names_used w = omega (arith, names_variable, w)

        pub names_seen : v < 64 * length seen
        names_seen = omega (arith, names_variable, h.wide)

        tested : (M : Motive) → holds used ≡ motive_vars M → (U : Made) → case_vars g.S M g.xs sorts [] U
            ≡ then (ask 42 (asks g.S M (get_or sorts k 0) (take k out) v) U) (λ z B. case_vars g.S M item.others (drop (suc k) sorts) (take k out ++ (v ∷ [])) B)
        unfolding then
        tested M q U =
            split M q U
            ∙ ap (λ (o : Option ℕ). then (found 42 o U)
            (λ v N. then (ask 42 (asks g.S M (get_or sorts k 0) (take k out) v) N) (λ z B. case_vars g.S M item.others (drop (suc k) sorts) (take k out ++ (v ∷ [])) B)))
            named

        failed : (M : Motive) → holds used ≡ motive_vars M → (U : Made) → asks g.S M (get_or sorts k 0) (take k out) v ≡ false →
            case_vars g.S M g.xs sorts [] U ≡ refuse 42 0 U
        unfolding then
        failed M q U f =
            tested M q U ∙ ap (λ (b : Bool). then (ask 42 b U) (λ z B. case_vars g.S M item.others (drop (suc k) sorts) (take k out ++ (v ∷ [])) B)) f

        module _ {sort : ℕ} (d : sort ≡ cell 4 vars v 0) where
          sorted : sort ≡ sort_of_var g.S.vars v
          sorted = d ∙ var_sort_is g.held.stand v

          pub names_other : (sort ≡ get_or sorts k 0 → ⊥) → (M : Motive) → holds used ≡ motive_vars M → (U : Made) → case_vars g.S M g.xs sorts [] U ≡ refuse 42 0 U
          names_other n M q U =
              failed M q U (ap (λ (b : Bool). b && (not (motive_vars M v) && not (has (take k out) v))) (ne_eqb (sort_of_var g.S.vars v) (get_or sorts k 0) (λ z. n (sorted ∙ z))))

          module _ (f : sort ≡ get_or sorts k 0) where
            fits : eqb (sort_of_var g.S.vars v) (get_or sorts k 0) ≡ true
            fits = eq-eqb (sort_of_var g.S.vars v) (get_or sorts k 0) (sym sorted ∙ f)

            pub names_taken : {b : Bool} → b ≡ holds used v → b ≡ true → (M : Motive) → holds used ≡ motive_vars M → (U : Made) →
                case_vars g.S M g.xs sorts [] U ≡ refuse 42 0 U
            names_taken b c M q U =
                failed M q U (λ j. fits j && (not ((ap (λ (p : Set). p v) (sym q) ∙ sym b ∙ c) j) && not (has (take k out) v)))

            module _ {taken : Bool} (b : taken ≡ holds used v) (c : taken ≡ false) {u : Bool} (p : u ≡ holds seen v) where
              new : (M : Motive) → holds used ≡ motive_vars M → motive_vars M v ≡ false
              new M q = ap (λ (a : Set). a v) (sym q) ∙ sym b ∙ c

              unseen : has (take k out) v ≡ u
              unseen = ap (λ (a : Set). a v) (sym h.seen_are) ∙ sym p

              pub names_twice : u ≡ true → (M : Motive) → holds used ≡ motive_vars M → (U : Made) → case_vars g.S M g.xs sorts [] U ≡ refuse 42 0 U
              names_twice y M q U = failed M q U (λ j. fits j && (not (new M q j) && not ((unseen ∙ y) j)))

              pub names_again : u ≡ false → {seen' : List ℕ} → length seen' ≡ length seen → holds seen' ≡ plus v (holds seen) →
                  NamesLeft g.S g.xs text sorts used cells (set out k v) seen' (k + 1) t.at
              unfolding then
              names_again y z x =
                  let o : take (k + 1) (set out k v) ≡ take k out ++ (v ∷ []) = ap (λ (j : ℕ). take j (set out k v)) (add-one k) ∙ take-suc-set out k v names_room in
                  record {
                    zs = item.others;
                    walk = walk_next first_walk w.behind;
                    many = omega (arith, h.many, count_more item.first item.others h.zs item.is);
                    on = λ M q U.
                        tested M q U
                        ∙ ap (λ (b : Bool). then (ask 42 b U) (λ z B. case_vars g.S M item.others (drop (suc k) sorts) (take k out ++ (v ∷ [])) B))
                        (λ j. fits j && (not (new M q j) && not ((unseen ∙ y) j)))
                        ∙ (λ j. case_vars g.S M item.others (drop (sym (add-one k) j) sorts) (sym o j) U);
                    seen_are = x ∙ (λ j a. (ap (λ (b : Bool). b || eqb a v) (ap (λ (c : Set). c a) h.seen_are) ∙ sym (has_snoc (take k out) v a)) j)
                        ∙ ap has (sym o);
                    small = subst (Below VARIABLES) (sym o) (below_snoc (take k out) h.small names_variable);
                    long = length-set out k v ∙ h.long;
                    wide = z ∙ h.wide;
                  }
