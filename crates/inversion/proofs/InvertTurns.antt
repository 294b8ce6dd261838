-- One rule of `invert`, as the definition has it: without a case it must not unify, with one the case is judged. Assumes nothing.
use mathlib.Core.Path.{◌≡◌, refl, sym, ap, ◌∙◌}
use mathlib.Core.Bool.{Bool, true, false, ◌&&◌, ◌||◌, not}
use Rattle.std.specs.Prelude.{Option, Some as some, None as nothing}
use mathlib.Core.List.{List, ◌++◌}
use Prim.Native.Nat.{ℕ}
use lib.ListN.{length}
use Rattle.rules.specs.Out.{Out, ok, refuse, then, Act, pure, stop, ask}
use Rattle.rules.specs.Find.{Set, all, has, union}
use Rattle.rules.specs.Tree.{Tree}
use Rattle.rules.specs.Store.{Made, substitute}
use Rattle.rules.specs.Unify.{Binding, unify}
use Rattle.rules.specs.Theory.{Rule}
use Rattle.rules.specs.State.{State, Var}
use Rattle.rules.specs.Induct.{keep_vars}
use Rattle.rules.specs.Invert.{Case, Inversion, Names, case_named, suit, make_vars, up_from, taken_vars, renamed, renaming, invert_case, case_or_not, invert_rule}
use Rattle.rules.specs.Laws.Out.{then_then}
use Rattle.rules.specs.Laws.Store.{then_ok, then_refuse}
use Rattle.rules.specs.Laws.Set.{union_assoc}
use Rattle.rules.specs.Laws.Members.{has_append}
use Rattle.inversion.specs.InvertRules.{meets, lacks, judges, has_case}

module _ (S : State) (Y : Inversion) (R : Rule) where
  -- what follows the renaming
  abbrev onward : Option Case → List ℕ × Names → Made → Out Made Names
  onward c r A = then (keep_vars r.0 A)
      (λ w B. then (substitute (renaming r.0) R.conclusion B)
      (λ t C. then (unify (length r.1.vars) Y.hypothesis t C)
      (λ θ D. then (case_or_not S Y R (renaming r.0) θ c D) (λ z E. ok r.1 E))))

  onward_meets : (c : Option Case) (xs : List ℕ) (n : Names) (A : Made) → onward c (xs, n) A
      ≡ then (meets xs (length n.vars) Y.hypothesis R A) (λ θ D. then (case_or_not S Y R (renaming xs) θ c D) (λ z E. ok n E))
  onward_meets c xs n A =
      sym (
      then_then (keep_vars xs A) (λ w B. then (substitute (renaming xs) R.conclusion B) (λ t C. unify (length n.vars) Y.hypothesis t C))
      (λ θ D. then (case_or_not S Y R (renaming xs) θ c D) (λ z E. ok n E))
      ∙ (λ i. then (keep_vars xs A) (λ w B.
      then_then (substitute (renaming xs) R.conclusion B) (λ t C. unify (length n.vars) Y.hypothesis t C)
      (λ θ D. then (case_or_not S Y R (renaming xs) θ c D) (λ z E. ok n E)) i)))

  module _ (N : Names) (M : Made) where
    opened : (c : Option Case) → case_named Y.cases R.name.bytes ≡ c → invert_rule S Y R N M ≡ then (renamed S Y R c N M) (onward c)
    unfolding invert_rule
    opened c e = ap (λ (d : Option Case). then (renamed S Y R d N M) (onward d)) e

    -- Without a case -------------------------------------------------------------------------------------------------------------------

    abbrev made_names : List Var → Names
    made_names us = record { vars = us; seen = N.seen }

    abbrev numbers : List ℕ
    numbers = up_from (length N.vars) (length R.vars)

    abbrev no_unifier : List Var → Option (List Binding) → Act Made (List Var)
    no_unifier us θ = elim θ [ nothing ↦ pure us | some ζ ↦ stop 47 ]

    lack_end : (us : List Var) (ρ : ℕ → Tree) (θ : Option (List Binding)) (D : Made) →
        then (case_or_not S Y R ρ θ nothing D) (λ z E. ok (made_names us) E) ≡ then (no_unifier us θ D) (λ ws E. ok (made_names ws) E)
    unfolding case_or_not then
    lack_end us ρ nothing D = refl
    lack_end us ρ (some ζ) D = refl

    pub turn_lacks : case_named Y.cases R.name.bytes ≡ nothing →
        invert_rule S Y R N M ≡ then (lacks N.vars Y.hypothesis R M) (λ us E. ok (made_names us) E)
    unfolding renamed
    turn_lacks e =
        opened nothing e
        ∙ then_then (make_vars R.vars N.vars M) (λ us A. ok (numbers, made_names us) A) (onward nothing)
        ∙ (λ i. then (make_vars R.vars N.vars M) (λ us A. (
        then_ok (ok (numbers, made_names us) A) (numbers, made_names us) A (onward nothing) refl
        ∙ onward_meets nothing numbers (made_names us) A
        ∙ (λ j. then (meets numbers (length us) Y.hypothesis R A) (λ θ D. lack_end us (renaming numbers) θ D j))
        ∙ sym (then_then (meets numbers (length us) Y.hypothesis R A) (λ θ D. no_unifier us θ D) (λ ws E. ok (made_names ws) E))) i))
        ∙ sym (then_then (make_vars R.vars N.vars M)
        (λ us A. then (meets numbers (length us) Y.hypothesis R A) (λ θ D. no_unifier us θ D)) (λ ws E. ok (made_names ws) E))

    -- With a case ----------------------------------------------------------------------------------------------------------------------

    module _ (c : Case) (e : case_named Y.cases R.name.bytes ≡ some c) where
      abbrev new_names : Names
      new_names = record { vars = N.vars; seen = N.seen ++ c.vars }

      abbrev are_new : Bool
      are_new = all (λ v. not (taken_vars S Y v) && not (has N.seen v)) c.vars

      pub turn_unsuited : suit S.vars c.vars R.vars ≡ false → invert_rule S Y R N M ≡ refuse 42 0 M
      unfolding renamed
      turn_unsuited f =
          opened (some c) e
          ∙ then_refuse (renamed S Y R (some c) N M) 42 0 M (onward (some c))
          (then_refuse (ask 42 (suit S.vars c.vars R.vars) M) 42 0 M _ (ap (λ (b : Bool). ask 42 b M) f))

      module _ (f : suit S.vars c.vars R.vars ≡ true) where
        suited : ask 42 (suit S.vars c.vars R.vars) M ≡ ok tt M
        suited = ap (λ (b : Bool). ask 42 b M) f

        pub turn_taken : are_new ≡ false → invert_rule S Y R N M ≡ refuse 42 0 M
        unfolding renamed
        turn_taken k =
            opened (some c) e
            ∙ then_refuse (renamed S Y R (some c) N M) 42 0 M (onward (some c))
            (then_ok (ask 42 (suit S.vars c.vars R.vars) M) tt M _ suited
            ∙ then_refuse (ask 42 are_new M) 42 0 M _ (ap (λ (b : Bool). ask 42 b M) k))

        abbrev a_unifier : Option (List Binding) → Act Made (Unit {0})
        a_unifier θ = elim θ [ nothing ↦ stop 46 | some ζ ↦ judges S R (renaming c.vars) ζ Y.context c.fact Y.judgment ]

        case_end : (θ : Option (List Binding)) (D : Made) → case_or_not S Y R (renaming c.vars) θ (some c) D ≡ a_unifier θ D
        unfolding case_or_not invert_case
        case_end nothing D = refl
        case_end (some ζ) D = refl

        pub turn_has : are_new ≡ true → invert_rule S Y R N M
            ≡ then (has_case S c.vars (length N.vars) Y.hypothesis R Y.context c.fact Y.judgment M) (λ z E. ok new_names E)
        unfolding renamed
        turn_has k =
            opened (some c) e
            ∙ then_ok (renamed S Y R (some c) N M) (c.vars, new_names) M (onward (some c))
            (then_ok (ask 42 (suit S.vars c.vars R.vars) M) tt M _ suited ∙ then_ok (ask 42 are_new M) tt M _ (ap (λ (b : Bool). ask 42 b M) k))
            ∙ onward_meets (some c) c.vars new_names M
            ∙ (λ i. then (meets c.vars (length N.vars) Y.hypothesis R M) (λ θ D. then (case_end θ D i) (λ z E. ok new_names E)))
            ∙ sym (then_then (meets c.vars (length N.vars) Y.hypothesis R M) (λ θ D. a_unifier θ D) (λ z E. ok new_names E))

-- What is taken --------------------------------------------------------------------------------------------------------------------------

not_or : (a b : Bool) → not (a || b) ≡ not a && not b
not_or true true = refl
not_or true false = refl
not_or false true = refl
not_or false false = refl

-- neither taken nor seen is not in the set
pub new_is : (taken a b : Set) (xs : List ℕ) → taken ≡ union a b → all (λ v. not (taken v)) xs ≡ all (λ v. not (a v) && not (b v)) xs
new_is taken a b xs e = ap (λ (s : Set). all (λ v. not (s v)) xs) e ∙ (λ i. all (λ v. not_or (a v) (b v) i) xs)

pub taken_more : (taken after a : Set) (seen xs : List ℕ) → taken ≡ union a (has seen) → after ≡ union taken (has xs) → after ≡ union a (has (seen ++ xs))
taken_more taken after a seen xs e f =
    f ∙ ap (λ (s : Set). union s (has xs)) e ∙ union_assoc a (has seen) (has xs) ∙ ap (union a) (sym (has_append seen xs))
