-- Question 38: a rule's patterns against what is stated and against the terms for its premises, and the conclusion. Assumes nothing.
use mathlib.Core.Path.{◌≡◌, refl, sym, ap, ◌∙◌, subst}
use mathlib.Core.Bool.{Bool, true, false, true≢false}
use Rattle.std.specs.Prelude.{Option, Some as some, None as nothing}
use mathlib.Core.List.{List, [], ◌∷◌}
use Prim.Native.Nat.{ℕ, suc, ◌<◌}
use native.Mathlib.Omega.{arith}
use lib.ListN.{length, get_or}
use Rattle.rules.specs.Out.{Out, then, found}
use Rattle.rules.specs.Tree.{Tree, var, none, more, count_trees}
use Rattle.rules.specs.Store.{Made}
use Rattle.rules.specs.Match.{Bound, and_then, matches, match_all, build}
use Rattle.rules.specs.Step.{match_stated, conclude}
use Rattle.terms.specs.declared.store.Mark.{Mark}
use Rattle.terms.specs.Table.{made, args_of}
use Rattle.terms.specs.Patterns.{tree_in, bound_of, Stands, Cells, Builds, Stops, AllMatchable, Buildable, AllMatched, all, not_all, MatchedAll}
use Rattle.terms.specs.On.{On, Stopped, on_start, on_is, on_done, on_went, on_stopped, on_found_some, on_found_none, builds_went, stops_stopped}
use Rattle.terms.specs.Laws.Growth.{made_length}
use Rattle.reading.specs.Answers.{TermRead}
use Rattle.derivation.specs.Stepping.{MatchedAs, matched, unmatched, StatedMatchable, Concludable, concluded}

-- What a match says --------------------------------------------------------------------------------------------------------------------

module _ {M : Made} {C : List ℕ} {K : Option Bound} where
  matched_yes : {r : Bool} → MatchedAs M C K r → r ≡ true → (K ≡ some (bound_of M C)) × Cells (length M) C
  matched_yes (matched e c f) q = (e, c)
  matched_yes (unmatched e f) q = absurd (true≢false (sym q ∙ f))

  matched_no : {r : Bool} → MatchedAs M C K r → r ≡ false → K ≡ nothing
  matched_no (matched e c f) q = absurd (true≢false (sym f ∙ q))
  matched_no (unmatched e f) q = e

  -- of a list of patterns
  all_is : {B : List ℕ} {r : Bool} → AllMatched M B C K r → MatchedAs M C K r
  all_is (all e c f) = matched e c f
  all_is (not_all e c f) = unmatched e f

  -- of one pattern
  matched_one : {b : Bool} → MatchedAs M C (and_then K (λ c. some c)) b → MatchedAs M C K b
  unfolding and_then
  matched_one {b} h = subst (λ (L : Option Bound). MatchedAs M C L b) (only K) h
    where
      only : (o : Option Bound) → and_then o (λ c. some c) ≡ o
      only nothing = refl
      only (some c) = refl

-- so many terms are made
cells_made : (I W : List ℕ) (m : Mark) {C : List ℕ} → Cells (length (made I W m)) C → Cells m.terms C
cells_made I W m {C} c = subst (λ (k : ℕ). Cells k C) (made_length I W m) c

-- What is stated ------------------------------------------------------------------------------------------------------------------------

tree_in_some : (M : Made) (id : ℕ) {x : ℕ} → x ≡ suc id → tree_in M x ≡ some (get_or M id (var 0))
unfolding tree_in
tree_in_some M id e = ap (tree_in M) e

tree_in_none : (M : Made) {x : ℕ} → x ≡ 0 → tree_in M x ≡ nothing
unfolding tree_in
tree_in_none M e = ap (tree_in M) e

module _ {S P I W : List ℕ} {m : Mark} {B : List ℕ} {place stated : ℕ} (g : StatedMatchable S P I W m B place stated) where
  -- one is
  module _ {id : ℕ} (e : stated ≡ suc id) where
    pub stated_small : id < m.terms
    stated_small = omega (arith, g.known)

    pub stated_matchable : AllMatchable S P I W m B place (id ∷ [])
    unfolding Stands count_trees
    stated_matchable =
        record {
          good = g.good;
          symbols = g.symbols;
          reads = record { patterns = more g.reads.tree none; stands = (g.reads.stands, tt); count = refl };
          cells = g.cells;
          there = λ k h. let z : k ≡ 0 = omega arith in subst (λ (j : ℕ). get_or (id ∷ []) j 0 < m.terms) (sym z) stated_small;
        }

    pub stated_matched : {C : List ℕ} {r : Bool} → MatchedAll S P I W m B C place (id ∷ []) r →
        (p : Tree) → Stands S P place p → MatchedAs (made I W m) C (match_stated p (tree_in (made I W m) stated) (bound_of (made I W m) B)) r
    unfolding match_stated Stands count_trees matches args_of
    stated_matched {C} {r} a p w =
        subst (λ (K : Option Bound). MatchedAs (made I W m) C K r)
        (sym (ap (λ (o : Option Tree). match_stated p o (bound_of (made I W m) B)) (tree_in_some (made I W m) id e)))
        (matched_one (all_is (a (more p none) (w, tt) refl)))

  -- none is
  pub stated_none : stated ≡ 0 → (p : Tree) → Stands S P place p →
      MatchedAs (made I W m) B (match_stated p (tree_in (made I W m) stated) (bound_of (made I W m) B)) true
  unfolding match_stated
  stated_none e p w =
      matched (ap (λ (o : Option Tree). match_stated p o (bound_of (made I W m) B)) (tree_in_none (made I W m) e))
      (subst (λ (k : ℕ). Cells k B) (sym (made_length I W m)) g.cells) refl

-- The conclusion -----------------------------------------------------------------------------------------------------------------------

module _ {S P I W : List ℕ} {m : Mark} {B : List ℕ} {first place : ℕ} {ids : List ℕ} {stated : ℕ} (g : Concludable S P I W m B first place ids stated) where
  abbrev answer : Out Made Tree
  answer = concluded g.rule (args_of (made I W m) ids) (tree_in (made I W m) stated) (bound_of (made I W m) B) (made I W m)

  abbrev last : Bound → Made → Out Made Tree
  last d s = conclude g.rule.conclusion (tree_in (made I W m) stated) d s

  abbrev second : Bound → Made → Out Made Tree
  second c s = then (found 38 (match_all g.rule.premises (args_of (made I W m) ids) c) s) last

  on_first : On I W m answer I W m (then (found 38 (match_stated g.rule.conclusion (tree_in (made I W m) stated) (bound_of (made I W m) B)) (made I W m)) second)
  unfolding concluded
  on_first = on_start g.good

  -- a: what is stated matches, or nothing is
  module _ {C : List ℕ} {a : Bool} (h : (p : Tree) → Stands S P place p →
      MatchedAs (made I W m) C (match_stated p (tree_in (made I W m) stated) (bound_of (made I W m) B)) a) where
    pub stated_other : a ≡ false → Stopped I W I W m answer 38 0 m
    stated_other e = on_found_none second 38 on_first (matched_no (h g.rule.conclusion g.conclusion) e)

    module _ (e : a ≡ true) where
      first_hit : (match_stated g.rule.conclusion (tree_in (made I W m) stated) (bound_of (made I W m) B) ≡ some (bound_of (made I W m) C)) × Cells (length (made I W m)) C
      first_hit = matched_yes (h g.rule.conclusion g.conclusion) e

      pub premises_matchable : AllMatchable S P I W m C first ids
      premises_matchable =
          record {
            good = g.good;
            symbols = g.symbols;
            reads = record { patterns = g.rule.premises; stands = g.premises; count = g.many };
            cells = cells_made I W m first_hit.1;
            there = g.there;
          }

      on_second : On I W m answer I W m (then (found 38 (match_all g.rule.premises (args_of (made I W m) ids) (bound_of (made I W m) C)) (made I W m)) last)
      on_second = on_found_some second 38 on_first first_hit.0

      -- b: the premises match
      module _ {D : List ℕ} {r : Bool} (d : MatchedAll S P I W m C D first ids r) where
        pub premises_other : r ≡ false → Stopped I W I W m answer 38 0 m
        premises_other f = on_found_none last 38 on_second (matched_no (all_is (d g.rule.premises g.premises g.many)) f)

        module _ (f : r ≡ true) where
          hits : (match_all g.rule.premises (args_of (made I W m) ids) (bound_of (made I W m) C) ≡ some (bound_of (made I W m) D)) × Cells (length (made I W m)) D
          hits = matched_yes (all_is (d g.rule.premises g.premises g.many)) f

          on_last : On I W m answer I W m (last (bound_of (made I W m) D) (made I W m))
          on_last = on_found_some last 38 on_second hits.0

          -- the conclusion is stated
          pub stated_done : {id : ℕ} → stated ≡ suc id → TermRead I W I W m answer id m
          unfolding conclude
          stated_done {id} q =
              record {
                went = on_done (on_is on_last (ap (λ (o : Option Tree). conclude g.rule.conclusion o (bound_of (made I W m) D) (made I W m)) (tree_in_some (made I W m) id q)));
                there = omega (arith, g.known);
              }

          -- or built
          pub built_buildable : Buildable S P I W m D place
          built_buildable =
              record { good = g.good; symbols = g.symbols; reads = record { tree = g.rule.conclusion; stands = g.conclusion }; cells = cells_made I W m hits.1 }

          module _ (q : stated ≡ 0) where
            on_build : On I W m answer I W m (build g.rule.conclusion (bound_of (made I W m) D) (made I W m))
            unfolding conclude
            on_build = on_is on_last (ap (λ (o : Option Tree). conclude g.rule.conclusion o (bound_of (made I W m) D) (made I W m)) (tree_in_none (made I W m) q))

            pub built_done : {J X : List ℕ} {new : Mark} {behind id place' : ℕ} →
                Builds I W J X m (build g.rule.conclusion (bound_of (made I W m) D) (made I W m)) behind id place' new → TermRead I W J X m answer id new
            built_done w = record { went = on_went on_build (builds_went w); there = w.there }

            pub built_refused : {J X : List ℕ} {new : Mark} {k d : ℕ} → Stops I W J X m (build g.rule.conclusion (bound_of (made I W m) D) (made I W m)) k d new →
                Stopped I W J X m answer k d new
            built_refused w = on_stopped on_build (stops_stopped w)
