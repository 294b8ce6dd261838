-- The loop over a rule's premises, each renamed and then put under the unifier: their numbers join the set. Assumes nothing.
use mathlib.Core.Path.{◌≡◌, refl, sym, ap, ◌∙◌, subst}
use mathlib.Core.Bool.{Bool, true, false, ◌||◌, false≢true}
use mathlib.Core.List.{List, [], ◌∷◌, ◌++◌, append_assoc, append-nil}
use Rattle.std.specs.Prelude.{Option, Result, Ok, Err}
use Prim.Native.Nat.{ℕ, suc, ◌+◌, ◌<◌}
use native.Mathlib.Omega.{arith}
use lib.ListN.{length}
use borrow.Author.Tests.{eqb-true}
use Rattle.rules.specs.Out.{Out, ok, then}
use Rattle.rules.specs.Find.{has}
use Rattle.rules.specs.Tree.{Tree, Trees, var, app, none, more, variables, variables_of, count_trees, size}
use Rattle.rules.specs.Store.{Made, substitute}
use Rattle.rules.specs.Match.{build}
use Rattle.rules.specs.Unify.{along}
use Rattle.rules.specs.Theory.{Theory, RuleVar, inputs, rule}
use Rattle.rules.specs.State.{is_none, is_empty}
use Rattle.rules.specs.Invert.{Allowed, renaming, rule_premises}
use Rattle.rules.specs.Laws.Theory.{Sorted, Sorteds, Judgment, Judgments, empty, both}
use Rattle.rules.specs.Laws.Out.{then_then}
use Rattle.terms.specs.declared.store.Mark.{Mark}
use Rattle.questions.specs.Numbers.{row_number, number_of, detail_of}
use Rattle.questions.specs.declared.Row.{Row}
use Rattle.questions.specs.declared.Question.{Question}
use Rattle.terms.specs.declared.patterns.Built.{Built}
use Rattle.terms.specs.Table.{made, tree, Good, Grown, After}
use Rattle.terms.specs.Sets.{holds, plus}
use Rattle.terms.specs.Subst.{replacement, substituted, Replaceable}
use Rattle.terms.specs.Theta.{bindings, Theta}
use Rattle.terms.specs.Patterns.{bound_of, Stands, Standing, Buildable, Builds, BuiltAt}
use Rattle.terms.specs.On.{Went, Stopped, On, on_start, on_is, on_ok, on_no, on_done}
use Rattle.terms.specs.Laws.Growth.{made_length, grown_refl, grown_trans}
use Rattle.terms.specs.Laws.Bound.{bound_grown, cells_grown, build_is}
use Rattle.terms.specs.Laws.Theta.{replacement_grown, theta_grown, along_is}
use Rattle.terms.specs.Laws.Sets.{plus_has}
use Rattle.cells.specs.declared.Span.{Span}
use Rattle.kernel.specs.Readers.{WordsAt}
use Rattle.kernel.specs.Entries.{rule_formed}
use Rattle.kernel.specs.RuleWords.{premises_stand}
use Rattle.state.specs.declared.sizes.Sizes.{Sizes}
use Rattle.reading.specs.Laws.Walks.{then_same}
use Rattle.casework.specs.Context.{plainly, plains_of, others_of, trees_of, PlainAdds, RenamedRule, PremisesRead}
use Rattle.casework.specs.Laws.Facts.{plains_append, others_append, plain_more, plain_none}
use Rattle.referring.specs.Laws.Substitutes.{replaceable_now, under_went, under_there, under_stopped}

-- The variables of a rule's patterns ------------------------------------------------------------------------------------------------------------

first_or : {P : Type 0} (b c : Bool) → (b ≡ true → P) → (c ≡ true → P) → ◌≡◌ {A = Bool} (elim b [ true ↦ true | false ↦ c ]) true → P
first_or true c f g e = f refl
first_or false c f g e = g e

mutual
  unfolding Sorted variables

  sorted_vars : (T : Theory) (vs : List RuleVar) (t : Tree) (s : ℕ) → Sorted T vs t s → (v : ℕ) → variables t v ≡ true → v < length vs
  sorted_vars T vs (var i) s k v e = omega (arith, eqb-true v i e, k.0)
  sorted_vars T vs (app c ts) s k v e = sorteds_vars T vs ts (inputs T c) k.2 v e

  sorteds_vars : (T : Theory) (vs : List RuleVar) (ts : Trees) (ss : List ℕ) → Sorteds T vs ts ss → (v : ℕ) → variables_of ts v ≡ true → v < length vs
  sorteds_vars T vs none ss k v e = absurd (false≢true e)
  sorteds_vars T vs (more t ts) [] k v e = absurd k
  sorteds_vars T vs (more t ts) (s ∷ ss) k v e = first_or (variables t v) (variables_of ts v) (λ q. sorted_vars T vs t s k.0 v q) (λ q. sorteds_vars T vs ts ss k.1 v q) e

judgment_vars : (T : Theory) (vs : List RuleVar) (t : Tree) → Judgment T vs t → (v : ℕ) → variables t v ≡ true → v < length vs
unfolding Judgment variables
judgment_vars T vs (var i) k v e = absurd k
judgment_vars T vs (app p ts) k v e = sorteds_vars T vs ts (inputs T p) k.2 v e

judgments_vars : (T : Theory) (vs : List RuleVar) (ts : Trees) → Judgments T vs ts → (v : ℕ) → variables_of ts v ≡ true → v < length vs
unfolding Judgments variables
judgments_vars T vs none k v e = absurd (false≢true e)
judgments_vars T vs (more t ts) k v e = first_or (variables t v) (variables_of ts v) (λ q. judgment_vars T vs t k.0 v q) (λ q. judgments_vars T vs ts k.1 v q) e

-- The loop -------------------------------------------------------------------------------------------------------------------------------------

abbrev pub bare : Tree → Allowed
bare u = record { premises = none; judgment = u; general = [] }

abbrev wanted : List ℕ → List ℕ → Mark → List ℕ → List ℕ → Trees → Made → Out Made (List Allowed)
wanted I W old xs theta ps M = rule_premises (renaming xs) (along (bindings (made I W old) theta 0)) ps M

abbrev later : List Allowed → List Allowed → Made → Out Made (List Allowed)
later before us U = ok (before ++ us) U

-- these are in the set; the rest is left, at its place
pub record Premising (symbols patterns I W : List ℕ) (old : Mark) (xs theta : List ℕ) (ps : Trees) (set J X set' : List ℕ) (now : Mark) (place left : ℕ) : Type 0 where
  pub rest : Trees
  pub stands : Standing symbols patterns place rest
  pub count : count_trees rest ≡ left
  pub few : (v : ℕ) → variables_of rest v ≡ true → v < length xs
  pub before : List Allowed
  pub on : On I W old (wanted I W old xs theta ps (made I W old)) J X now (then (wanted I W old xs theta rest (made J X now)) (later before))
  pub adds : PlainAdds (made J X now) set set' (plains_of before)
  pub only : others_of before ≡ []

-- the same, with the first of the rest
pub record PremisingMore (symbols patterns I W : List ℕ) (old : Mark) (xs theta : List ℕ) (ps : Trees) (set J X set' : List ℕ) (now : Mark) (place left : ℕ) : Type 0 where
  pub p : Tree
  pub rest : Trees
  pub here : Stands symbols patterns place p
  pub stands : Standing symbols patterns (place + size p) rest
  pub count : suc (count_trees rest) ≡ left
  pub own : (v : ℕ) → variables p v ≡ true → v < length xs
  pub few : (v : ℕ) → variables_of rest v ≡ true → v < length xs
  pub before : List Allowed
  pub on : On I W old (wanted I W old xs theta ps (made I W old)) J X now
      (then (substitute (renaming xs) p (made J X now))
      (λ t U. then (then (substitute (along (bindings (made I W old) theta 0)) t U) (λ u R. then (wanted I W old xs theta rest R) (λ us Y. ok (bare u ∷ us) Y))) (later before)))
  pub adds : PlainAdds (made J X now) set set' (plains_of before)
  pub only : others_of before ≡ []

module _ {symbols rules patterns : List ℕ} {n : Sizes} {I W : List ℕ} {m : Mark} {r : ℕ} {cells : List ℕ} (g : RenamedRule symbols rules patterns n I W m r cells) where
  pub premising_start : {s : Span} → WordsAt patterns g.T r s → {left : ℕ} → left ≡ count_trees (rule g.T r).premises → (theta set : List ℕ) →
      Premising symbols patterns I W m g.xs theta (rule g.T r).premises set I W set m s.from left
  unfolding plains_of others_of
  premising_start w e theta set =
      record {
        rest = (rule g.T r).premises;
        stands = premises_stand g.formed g.known w;
        count = sym e;
        few = λ v q. let z = judgments_vars g.T (rule g.T r).vars (rule g.T r).premises (rule_formed g.formed g.known).premises v q in omega (arith, z, g.many);
        before = [];
        on = on_is (on_start g.good) (then_same (wanted I W m g.xs theta (rule g.T r).premises (made I W m)));
        adds = plain_none (made I W m) set;
        only = refl;
      }

module _ {symbols patterns I W : List ℕ} {old : Mark} {xs theta : List ℕ} {ps : Trees} {set J X set' : List ℕ} {now : Mark} {place left : ℕ}
    (h : Premising symbols patterns I W old xs theta ps set J X set' now place left) where
  pub premising_over : left ≡ 0 → PremisesRead I W J X old (rule_premises (renaming xs) (along (bindings (made I W old) theta 0)) ps (made I W old)) set set' now
  unfolding rule_premises then count_trees
  premising_over z =
      record {
        these = h.before;
        went = on_done (on_is h.on (go h.rest (h.count ∙ z)));
        adds = h.adds;
        only = h.only;
      }
    where
      go : (ts : Trees) → count_trees ts ≡ 0 → then (wanted I W old xs theta ts (made J X now)) (later h.before) ≡ ok h.before (made J X now)
      go none e = ap (λ (bs : List Allowed). ok bs (made J X now)) (append-nil h.before)
      go (more t ts) e = absurd (omega arith)

  pub premising_first : (left ≡ 0 → ⊥) → PremisingMore symbols patterns I W old xs theta ps set J X set' now place left
  unfolding rule_premises count_trees Stands variables
  premising_first z = go h.rest h.stands h.count h.few h.on
    where
      go : (ts : Trees) → Standing symbols patterns place ts → count_trees ts ≡ left → ((v : ℕ) → variables_of ts v ≡ true → v < length xs) →
          On I W old (wanted I W old xs theta ps (made I W old)) J X now (then (wanted I W old xs theta ts (made J X now)) (later h.before)) →
          PremisingMore symbols patterns I W old xs theta ps set J X set' now place left
      go none s c f o = absurd (z (sym c))
      go (more t ts) s c f o =
          record {
            p = t;
            rest = ts;
            here = s.0;
            stands = s.1;
            count = c;
            own = λ v e. f v (ap (λ (b : Bool). elim b as (λ (y : Bool). Bool) [ true ↦ true | false ↦ variables_of ts v ]) e);
            few = λ v e. f v (later_one v (variables t v) e);
            before = h.before;
            on = on_is o (then_then (substitute (renaming xs) t (made J X now)) _ _);
            adds = h.adds;
            only = h.only;
          }
        where
          later_one : (v : ℕ) (b : Bool) → variables_of ts v ≡ true → ◌≡◌ {A = Bool} (elim b [ true ↦ true | false ↦ variables_of ts v ]) true
          later_one v true e = refl
          later_one v false e = e

-- One premise -----------------------------------------------------------------------------------------------------------------------------------

module _ {symbols rules patterns : List ℕ} {n : Sizes} {I W : List ℕ} {old : Mark} {r : ℕ} {cells : List ℕ} (g : RenamedRule symbols rules patterns n I W old r cells)
    {theta : List ℕ} (c : Theta old theta) {set J X set' : List ℕ} {now : Mark} {place left : ℕ}
    (h : PremisingMore symbols patterns I W old g.xs theta (rule g.T r).premises set J X set' now place left) where
  -- what `build` asks
  pub premising_asks : Buildable symbols patterns J X now cells place
  premising_asks =
      record {
        good = h.on.grown.good;
        symbols = g.formed.signature.long;
        reads = record { tree = h.p; stands = h.here };
        cells = cells_grown h.on.grown g.within;
      }

  built_is : build h.p (bound_of (made J X now) cells) (made J X now) ≡ substitute (renaming g.xs) h.p (made J X now)
  built_is =
      build_is h.on.grown.good (cells_grown h.on.grown g.within) (renaming g.xs) h.p
      (λ v e. ap (λ (b : ℕ → Option Tree). b v) (bound_grown h.on.grown g.within) ∙ g.binds v (h.own v e))

  pub premising_unbuilt : {Y Z : List ℕ} {mid : Mark} {q : Question} → BuiltAt symbols patterns J X Y Z now mid cells place (Err q) →
      Stopped I W Y Z old (rule_premises (renaming g.xs) (along (bindings (made I W old) theta 0)) (rule g.T r).premises (made I W old)) (number_of q) (detail_of q) mid
  premising_unbuilt a = let s = (a h.p h.here).says in on_no _ h.on (record { grown = s.grown; makes = sym built_is ∙ s.makes })

  module _ {Y Z : List ℕ} {mid : Mark} {b : Built} (a : BuiltAt symbols patterns J X Y Z now mid cells place (Ok b)) where
    abbrev t : ℕ
    t = b.term

    done : Builds J X Y Z now (build h.p (bound_of (made J X now) cells) (made J X now)) (place + size h.p) b.term b.end mid
    done = (a h.p h.here).says

    pub premising_there : t < mid.terms
    premising_there = done.there

    pub premising_good : Good Y Z mid
    premising_good = done.grown.good

    whole_grown : Grown I W Y Z old mid
    whole_grown = grown_trans h.on.grown done.grown

    -- what `substitute` asks
    pub premising_replaces : Replaceable Y Z mid theta t
    premising_replaces = replaceable_now (grown_refl premising_good) theta (theta_grown whole_grown c).bound premising_there

    on_built : On I W old (rule_premises (renaming g.xs) (along (bindings (made I W old) theta 0)) (rule g.T r).premises (made I W old)) Y Z mid
        (then (then (substitute (along (bindings (made I W old) theta 0)) (tree Y Z mid t) (made Y Z mid))
        (λ u R. then (wanted I W old g.xs theta h.rest R) (λ us Y. ok (bare u ∷ us) Y))) (later h.before))
    on_built = on_ok _ h.on (record { grown = done.grown; makes = sym built_is ∙ done.makes })

    on_second : On I W old (rule_premises (renaming g.xs) (along (bindings (made I W old) theta 0)) (rule g.T r).premises (made I W old)) Y Z mid
        (then (substitute (replacement (made Y Z mid) theta) (tree Y Z mid t) (made Y Z mid))
        (λ u R. then (then (wanted I W old g.xs theta h.rest R) (λ us Y. ok (bare u ∷ us) Y)) (later h.before)))
    on_second =
        on_is on_built
        (then_then (substitute (along (bindings (made I W old) theta 0)) (tree Y Z mid t) (made Y Z mid)) _ _
        ∙ ap (λ (σ : ℕ → Tree). then (substitute σ (tree Y Z mid t) (made Y Z mid))
        (λ u R. then (then (wanted I W old g.xs theta h.rest R) (λ us Y. ok (bare u ∷ us) Y)) (later h.before)))
        (along_is (made I W old) theta ∙ sym (replacement_grown whole_grown theta c.bound)))

    -- k: what `substitute` answers
    module _ {Y' Z' : List ℕ} {new : Mark} {k : Result ℕ Row}
        (s : After Y Z Y' Z' mid new (substituted Y Z mid theta t) (substitute (replacement (made Y Z mid) theta) (tree Y Z mid t) (made Y Z mid)) k) where
      pub premising_full : {row : Row} → k ≡ Err row →
          Stopped I W Y' Z' old (rule_premises (renaming g.xs) (along (bindings (made I W old) theta 0)) (rule g.T r).premises (made I W old)) 60 (row_number row) new
      premising_full f = on_no _ on_second (under_stopped (grown_refl premising_good) theta (theta_grown whole_grown c).bound premising_there s f)

      module _ {u : ℕ} (f : k ≡ Ok u) where
        pub premising_small : u < new.terms
        premising_small = under_there (grown_refl premising_good) theta (theta_grown whole_grown c).bound premising_there s f

        went : Went Y Z Y' Z' mid (substitute (replacement (made Y Z mid) theta) (tree Y Z mid t) (made Y Z mid)) (tree Y' Z' new u) new
        went = under_went (grown_refl premising_good) theta (theta_grown whole_grown c).bound premising_there s f

        adds_one : {set'' : List ℕ} → holds set'' ≡ plus u (holds set') → PlainAdds (made Y' Z' new) set' set'' (tree Y' Z' new u ∷ [])
        unfolding trees_of has
        adds_one d =
            record {
              ps = u ∷ [];
              there = both {x = u} (omega (arith, premising_small, made_length Y' Z' new)) empty;
              trees = refl;
              is = d ∙ (λ i v. holds set' v || sym (plus_has u []) i v);
            }

        plains_one : plains_of (bare (tree Y' Z' new u) ∷ []) ≡ tree Y' Z' new u ∷ []
        unfolding plains_of plainly is_none is_empty
        plains_one = refl

        others_one : others_of (bare (tree Y' Z' new u) ∷ []) ≡ []
        unfolding others_of plainly is_none is_empty
        others_one = refl

        pub premising_more : {set'' : List ℕ} {fewer : ℕ} → holds set'' ≡ plus u (holds set') → left ≡ fewer + 1 →
            Premising symbols patterns I W old g.xs theta (rule g.T r).premises set Y' Z' set'' new b.end fewer
        unfolding then
        premising_more {set''} {fewer} d q =
            let a = bare (tree Y' Z' new u) in
            record {
              rest = h.rest;
              stands = subst (λ (j : ℕ). Standing symbols patterns j h.rest) (sym done.after) h.stands;
              count = omega (arith, h.count, q);
              few = h.few;
              before = h.before ++ (a ∷ []);
              on = on_is (on_ok _ on_second went)
                  (then_then (wanted I W old g.xs theta h.rest (made Y' Z' new)) _ _
                  ∙ ap (then (wanted I W old g.xs theta h.rest (made Y' Z' new))) (λ i us R. ok (sym (append_assoc h.before (a ∷ []) us) i) R));
              adds = subst (λ (ts : List Tree). PlainAdds (made Y' Z' new) set set'' ts)
                  (sym (plains_append h.before (a ∷ []) ∙ ap (λ (ts : List Tree). plains_of h.before ++ ts) plains_one))
                  (plain_more (grown_trans done.grown went.grown) h.adds (adds_one d));
              only = others_append h.before (a ∷ []) ∙ (λ i. h.only i ++ others_one i);
            }
