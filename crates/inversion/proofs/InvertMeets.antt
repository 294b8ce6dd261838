-- The renamed conclusion of a rule, unified with the hypothesis: what the calls ask, and what the definition answers. Assumes nothing.
use mathlib.Core.Path.{◌≡◌, sym, ap, ◌∙◌, subst}
use mathlib.Core.Bool.{Bool, true, false}
use Rattle.std.specs.Prelude.{Option, None as nothing, Ok}
use mathlib.Core.List.{List, [], ◌∷◌}
use Prim.Native.Nat.{ℕ, suc, ◌+◌, ◌*◌, ◌<◌, ◌≤◌}
use native.Mathlib.Omega.{arith}
use lib.ListN.{length, replicate, length-replicate}
use Rattle.rules.specs.Limits.{VARIABLES, RULEVARS, TERMS, PAIRS, TERMWORDS}
use Rattle.rules.specs.Out.{Out, ok, then}
use Rattle.rules.specs.Tree.{Tree, sub, size}
use Rattle.rules.specs.Store.{Made, substitute}
use Rattle.rules.specs.Match.{build}
use Rattle.rules.specs.Unify.{Binding, unify}
use Rattle.rules.specs.Theory.{Rule, rule}
use Rattle.rules.specs.Induct.{keep_vars}
use Rattle.rules.specs.Invert.{renaming}
use Rattle.rules.specs.Laws.Theory.{All, empty, both, RuleFormed}
use Rattle.rules.specs.Laws.Build.{Makes, made as makes_it, full as makes_not, make_makes}
use Rattle.rules.proofs.Laws.Below.{Below, below_variables}
use Rattle.rules.proofs.Laws.BelowCases.{pattern_below, conclusion_below}
use Rattle.sexp.specs.Never.{never}
use Rattle.terms.specs.declared.store.Mark.{Mark}
use Rattle.terms.specs.Table.{made, tree, Good, Grown, Refused}
use Rattle.terms.specs.Theta.{Zeros}
use Rattle.terms.specs.Patterns.{Stands, Buildable, Builds, Stops, bound_of}
use Rattle.unification.specs.declared.unify.Scratch.{Scratch as Tables}
use Rattle.unification.specs.Unify.{Unifiable, Scratch, ScratchKept, UnifiedAs}
use Rattle.terms.specs.On.{Went, Stopped, On, on_start, on_is, on_ok, on_no, on_went, on_stopped, refused_stopped}
use Rattle.unification.specs.Laws.Answers.{solved_went, unsolved_went}
use Rattle.terms.specs.Laws.Bound.{build_is, bound_grown, cells_grown}
use Rattle.terms.specs.Laws.Growth.{grown_tree, grown_there, grown_trans}
use Rattle.terms.specs.Laws.Numbers.{made_closed}
use Rattle.terms.specs.Laws.Zeros.{zeros_long}
use Rattle.kernel.specs.Readers.{conclusion_at}
use Rattle.kernel.specs.Entries.{rule_formed}
use Rattle.kernel.specs.RuleWords.{conclusion_stands}
use Rattle.state.specs.declared.sizes.Sizes.{Sizes}
-- beside `Below` of trees
use Rattle.terms.specs.Table.{Below as There}
use Rattle.inversion.specs.InvertRules.{Meeting, Empty, meets, Met, VarsKept}
use Rattle.inversion.specs.Inverting.{EmptyScratch}

-- What is made under a substitution --------------------------------------------------------------------------------------------------------------

made_is : {t : Tree} {M : Made} {K : Out Made Tree} → Makes t M K → {u : Tree} {N : Made} → K ≡ ok u N → t ≡ u
made_is (makes_it c h i) e = cc
made_is makes_not e = never cc

substitute_value : (ρ : ℕ → Tree) (t : Tree) {I W : List ℕ} {m : Mark} → Good I W m → {u : Tree} {N : Made} → substitute ρ t (made I W m) ≡ ok u N → sub ρ t ≡ u
unfolding substitute
substitute_value ρ t {I} {W} {m} g e = made_is (make_makes (sub ρ t) (made I W m) (made_closed g)) e

-- Scratch ----------------------------------------------------------------------------------------------------------------------------------------

zeros_of : {xs : List ℕ} (n : ℕ) → xs ≡ replicate n 0 → Zeros xs
zeros_of {xs} n e = e ∙ ap (λ (k : ℕ). replicate k 0) (sym (ap length e ∙ length-replicate {A = ℕ} n 0))

scratch_of : {theta map memo pairs seen : List ℕ} → theta ≡ replicate VARIABLES 0 → Empty map memo pairs seen → Scratch theta map memo pairs seen
scratch_of z e =
    record {
      thetas = zeros_long VARIABLES z;
      no_thetas = zeros_of VARIABLES z;
      maps = zeros_long VARIABLES e.maps;
      no_maps = zeros_of VARIABLES e.maps;
      memos = omega (arith, zeros_long TERMS e.memos);
      no_memos = zeros_of TERMS e.memos;
      many = zeros_long (2 * PAIRS) e.many;
      no_pairs = zeros_of (2 * PAIRS) e.many;
      wide = omega (arith, zeros_long TERMWORDS e.visits);
      no_seen = zeros_of TERMWORDS e.visits;
    }

-- the cells of bindings, where `unify` found none
pub zero_again : {theta : List ℕ} → length theta ≡ VARIABLES → Zeros theta → theta ≡ replicate VARIABLES 0
zero_again l z = z ∙ ap (λ (k : ℕ). replicate k 0) l

-- scratch that holds what it held is still empty
pub empty_still : (x y : Tables) → EmptyScratch x → ScratchKept x y → EmptyScratch y
empty_still x y e k = record { maps = k.0 ∙ e.maps; memos = k.1 ∙ e.memos; many = k.2 ∙ e.many; visits = k.3 ∙ e.visits }

-- The calls --------------------------------------------------------------------------------------------------------------------------------------

there_all : (k : ℕ) (xs : List ℕ) → There k xs → All (λ v. v < k) xs
there_all k [] t = empty
there_all k (x ∷ xs) t = both {x = x} (t 0 (omega arith)) (there_all k xs (λ i l. t (suc i) (omega (arith, l))))

module _ {symbols rules patterns : List ℕ} {n : Sizes} {I W : List ℕ} {m : Mark} {r s count : ℕ} {list : List ℕ}
    (g : Meeting symbols rules patterns n I W m r s count list) where
  abbrev R : Rule
  R = rule g.T r

  formed : RuleFormed g.T R
  formed = rule_formed g.formed g.known

  abbrev K : Out Made (Option (List Binding))
  K = meets list count (tree I W m s) R (made I W m)

  pub meet_short : length list ≤ RULEVARS
  meet_short = omega (arith, g.many, formed.few)

  pub meet_keeps : Good I W m × There VARIABLES list × (length list ≤ RULEVARS)
  meet_keeps = (g.good, λ i l. omega (arith, g.names i l, g.few), meet_short)

  pub meet_unkept : {J X : List ℕ} {q d : ℕ} {mid : Mark} → Stopped I W J X m (keep_vars list (made I W m)) q d mid → Stopped I W J X m K q d mid
  meet_unkept s = on_no _ (on_start g.good) s

  module _ {J X into : List ℕ} {mid : Mark} (kept : VarsKept I W J X m list into mid) where
    on_kept : On I W m K J X mid (then (substitute (renaming list) R.conclusion (made J X mid)) (λ u U. unify count (tree I W m s) u U))
    on_kept = on_ok _ (on_start g.good) kept.went

    module _ {at : ℕ} (c : at ≡ conclusion_at g.T r) where
      pub meet_stands : Stands symbols patterns at R.conclusion
      meet_stands = conclusion_stands g.formed g.known c

      pub meet_buildable : Buildable symbols patterns J X mid into at
      meet_buildable =
          record { good = kept.went.grown.good; symbols = g.formed.signature.long; reads = record { tree = R.conclusion; stands = meet_stands }; cells = kept.cells }

      abbrev pub built : Out Made Tree
      built = build R.conclusion (bound_of (made J X mid) into) (made J X mid)

      same : built ≡ substitute (renaming list) R.conclusion (made J X mid)
      same =
          build_is kept.went.grown.good kept.cells (renaming list) R.conclusion
          (λ v h. kept.binds v (omega (arith, below_variables (length R.vars) R.conclusion (pattern_below g.T R.vars R.conclusion formed.conclusion) v h, g.many)))

      pub meet_unbuilt : {Y Z : List ℕ} {q d : ℕ} {new : Mark} → Stops J X Y Z mid built q d new → Stopped I W Y Z m K q d new
      meet_unbuilt x = on_no _ on_kept (record { grown = x.grown; makes = sym same ∙ x.makes })

      module _ {Y Z : List ℕ} {t place : ℕ} {mark : Mark} (builds : Builds J X Y Z mid built (at + size R.conclusion) t place mark) where
        grown : Grown I W Y Z m mark
        grown = grown_trans kept.went.grown builds.grown

        gives : substitute (renaming list) R.conclusion (made J X mid) ≡ ok (tree Y Z mark t) (made Y Z mark)
        gives = sym same ∙ builds.makes

        is_s : tree Y Z mark s ≡ tree I W m s
        is_s = grown_tree grown s g.there

        low : Below count (tree Y Z mark t)
        low =
            subst (Below count) (substitute_value (renaming list) R.conclusion kept.went.grown.good gives)
            (conclusion_below g.T R formed count list (there_all count list g.names) g.many)

        pub meet_unifiable : {theta map memo pairs seen : List ℕ} → theta ≡ replicate VARIABLES 0 → Empty map memo pairs seen →
            Unifiable Y Z mark count s t theta map memo pairs seen
        meet_unifiable z e =
            record {
              good = builds.grown.good;
              few = g.few;
              left = grown_there grown s g.there;
              right = builds.there;
              lefts = below_variables count (tree Y Z mark s) (subst (Below count) (sym is_s) g.below);
              rights = below_variables count (tree Y Z mark t) low;
              scratch = scratch_of z e;
            }

        abbrev pub unified : Out Made (Option (List Binding))
        unified = unify count (tree Y Z mark s) (tree Y Z mark t) (made Y Z mark)

        on_built : On I W m K Y Z mark unified
        on_built =
            on_is (on_ok _ on_kept (record { grown = builds.grown; makes = gives }))
            (ap (λ (u : Tree). unify count u (tree Y Z mark t) (made Y Z mark)) (sym is_s))

        pub meet_full : {P Q : List ℕ} {row : ℕ} {new : Mark} → Refused (Option (List Binding)) Y Z P Q mark unified row new → Stopped I W P Q m K 60 row new
        meet_full x = on_stopped on_built (refused_stopped x)

        module _ (P Q theta : List ℕ) (new : Mark) {b : Bool} (u : UnifiedAs Y Z P Q mark new theta unified (Ok b)) where
          pub meet_done : b ≡ true → Met I W P Q m K list into theta new
          meet_done e =
              let x = subst (λ (z : Bool). UnifiedAs Y Z P Q mark new theta unified (Ok z)) e u in
              let w = grown_trans builds.grown x.grown in
              record {
                went = on_went on_built (solved_went x);
                theta_is = x.cells;
                binds = λ i l. ap (λ (h : ℕ → Option Tree). h i) (bound_grown w kept.cells) ∙ kept.binds i l;
                cells = cells_grown w kept.cells;
              }

          pub meet_apart : b ≡ false → Went I W P Q m K nothing new × (theta ≡ replicate VARIABLES 0)
          meet_apart e =
              let x = subst (λ (z : Bool). UnifiedAs Y Z P Q mark new theta unified (Ok z)) e u in
              (on_went on_built (unsolved_went x.0), zero_again x.1 x.2)
