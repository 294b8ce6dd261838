-- A rule without a case: variables are made for it, and its conclusion over them must not unify with the hypothesis. Assumes nothing.
use mathlib.Core.Path.{◌≡◌, sym, ap, ◌∙◌, subst}
use Rattle.std.specs.Prelude.{Option, Some as some, None as nothing, Ok}
use mathlib.Core.List.{List}
use Prim.Native.Nat.{ℕ, zero, suc, ◌+◌, ◌<◌, ◌≤◌}
use native.Mathlib.Omega.{arith}
use lib.ListN.{length, get_or, take}
use lib.Seq.{length-take-le}
use Rattle.rules.specs.Limits.{RULEVARS}
use Rattle.rules.specs.Out.{Out, refuse, then, pure, stop}
use Rattle.rules.specs.Store.{Made}
use Rattle.rules.specs.Unify.{Binding}
use Rattle.rules.specs.Theory.{Theory, Rule, rule}
use Rattle.rules.specs.State.{Var}
use Rattle.rules.specs.Invert.{make_vars, up_from}
use Rattle.rules.proofs.Laws.Below.{below_up}
use Rattle.terms.specs.declared.store.Mark.{Mark}
use Rattle.terms.specs.Table.{made, tree}
use Rattle.terms.specs.On.{Stopped, On, on_start, on_is, on_ok, on_no, on_pure, on_stop, on_done, on_refused}
use Rattle.kernel.specs.Entries.{rule_formed}
use Rattle.state.specs.declared.sizes.Sizes.{Sizes}
use Rattle.inversion.specs.InvertRules.{RuleVarsGiven, VarsMade, vars_with, Meeting, MetBy, meets, Lacking, Lacked, lacks}
use Rattle.inversion.proofs.InvertNames.{with_length}

pub up_below : (a n i : ℕ) → i < n → get_or (up_from a n) i 0 < a + n
unfolding up_from
up_below a zero i l = absurd (omega arith)
up_below a (suc n) zero l = omega arith
up_below a (suc n) (suc i) l = omega (arith, up_below (suc a) n i (omega arith))

module _ {symbols rules rulevars patterns : List ℕ} {n : Sizes} {I W : List ℕ} {m : Mark} {r need s : ℕ} {sorts : List ℕ} {count : ℕ}
    (g : Lacking symbols rules rulevars patterns n I W m r need s sorts count) where
  abbrev R : Rule
  R = rule g.T r

  pub lack_need : need ≡ length R.vars
  lack_need = g.rule_vars_lem.many ∙ ap (λ (T : Theory). length (rule T r).vars) g.theory

  pub lack_short : need ≤ RULEVARS
  lack_short = omega (arith, lack_need, (rule_formed g.formed g.known).few)

  abbrev K : Out Made (List Var)
  K = lacks (vars_with g.vs sorts count) (tree I W m s) R (made I W m)

  pub lack_full : {d : ℕ} → ((h : RuleVarsGiven rulevars r need) (vs : List Var) → length vs ≤ count → (M : Made) →
      make_vars (rule h.T r).vars (vars_with vs sorts count) M ≡ refuse 60 d M) → Stopped I W I W m K 60 d m
  lack_full {d} f =
      on_stop _ (on_start g.good)
      (subst (λ (T : Theory). make_vars (rule T r).vars (vars_with g.vs sorts count) (made I W m) ≡ refuse 60 d (made I W m)) g.theory
      (f g.rule_vars_lem g.vs g.more (made I W m)))

  module _ {sorts' list : List ℕ} {k : ℕ} (f : (h : RuleVarsGiven rulevars r need) (vs : List Var) → length vs ≤ count → VarsMade vs (rule h.T r).vars sorts sorts' count list k) where
    pub are : VarsMade g.vs R.vars sorts sorts' count list k
    are = subst (λ (T : Theory). VarsMade g.vs (rule T r).vars sorts sorts' count list k) g.theory (f g.rule_vars_lem g.vs g.more)

    module _ (room : length list ≡ RULEVARS) where
      pub lack_room : need ≤ length list
      lack_room = omega (arith, lack_short, room)

      pub lack_part : need ≡ length (take need list)
      lack_part = sym (length-take-le need list lack_room)

      pub numbers : take need list ≡ up_from count (length R.vars)
      numbers = ap (λ (j : ℕ). take j list) lack_need ∙ are.numbers

      -- what `meet` asks
      abbrev pub lack_meeting : Meeting symbols rules patterns n I W m r s k (take need list)
      lack_meeting = record {
        T = g.T;
        formed = g.formed;
        known = g.known;
        good = g.good;
        there = g.there;
        below = below_up (length g.vs) k (omega (arith, g.more, are.many)) (tree I W m s) g.below;
        few = are.few;
        many = sym lack_part ∙ lack_need;
        names = λ i l. subst (λ (xs : List ℕ). get_or xs i 0 < k) (sym numbers)
            (omega (arith, up_below count (length R.vars) i (omega (arith, l, lack_part, lack_need)), are.many));
      }

      before : length (vars_with g.vs sorts count) ≡ count
      before = with_length g.vs sorts count g.more (omega (arith, g.few, g.long))

      abbrev rest : Option (List Binding) → Made → Out Made (List Var)
      rest θ = elim θ as (λ (o : Option (List Binding)). Made → Out Made (List Var)) [ nothing ↦ pure (vars_with g.vs sorts' k) | some ζ ↦ stop 47 ]

      after : length (vars_with g.vs sorts' k) ≡ k
      after = with_length g.vs sorts' k (omega (arith, g.more, are.many)) (omega (arith, are.few, are.long))

      abbrev met : Out Made (Option (List Binding))
      met = meets (take need list) k (tree I W m s) R (made I W m)

      on_made : On I W m K I W m (then met rest)
      on_made =
          on_is (on_pure _ (on_start g.good) (are.makes (made I W m)))
          ((λ i. then (meets (up_from (before i) (length R.vars)) (after i) (tree I W m s) R (made I W m)) rest)
          ∙ ap (λ (xs : List ℕ). then (meets xs k (tree I W m s) R (made I W m)) rest) (sym numbers))

      pub lack_stopped : {J X : List ℕ} {q d : ℕ} {new : Mark} → Stopped I W J X m met q d new → Stopped I W J X m K q d new
      lack_stopped x = on_no _ on_made x

      module _ (J X theta : List ℕ) (new : Mark) {o : Option (List (Option ℕ))} (w : MetBy I W J X m new met (take need list) theta (Ok o)) where
        pub lack_found : {bound : List (Option ℕ)} → o ≡ some bound → Stopped I W J X m K 47 0 new
        lack_found e = on_refused (on_ok _ on_made (subst (λ (z : Option (List (Option ℕ))). MetBy I W J X m new met (take need list) theta (Ok z)) e w).went)

        pub lack_apart : o ≡ nothing → Lacked I W J X m g.vs K sorts' count k new
        lack_apart e =
            record {
              went = on_done (on_ok _ on_made (subst (λ (z : Option (List (Option ℕ))). MetBy I W J X m new met (take need list) theta (Ok z)) e w).0);
              more = omega (arith, are.many);
              few = are.few;
              long = are.long;
              others = are.others (length g.vs) g.more g.others;
            }
