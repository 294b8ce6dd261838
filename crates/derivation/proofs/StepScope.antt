-- Question 39 behind the conclusion of a step: what stays readable, and the definition's answer. Assumes nothing.
use mathlib.Core.Path.{◌≡◌}
use mathlib.Core.List.{List, [], ◌∷◌}
use Prim.Native.Nat.{ℕ, suc, ◌<◌}
use native.Mathlib.Omega.{arith}
use lib.ListN.{length, get_or, drop}
use Rattle.rules.specs.Out.{Out, ok, refuse, then}
use Rattle.rules.specs.Find.{Set, rising}
use Rattle.rules.specs.Sexp.{Sexps, rest}
use Rattle.rules.specs.Tree.{Tree, Trees}
use Rattle.rules.specs.Store.{Made}
use Rattle.rules.specs.Theory.{Rule, rule}
use Rattle.rules.specs.State.{State}
use Rattle.rules.specs.Match.{match_all}
use Rattle.rules.specs.Reference.{scoped}
use Rattle.rules.specs.Step.{Items, no_items, match_stated}
use Rattle.rules.specs.Laws.Keeping.{Each, Invariant, Keeps, fine, stays, each_on, by_then, by_found}
use Rattle.rules.specs.Laws.Ready.{Known}
use Rattle.rules.specs.Laws.Ready.{Ready}
use Rattle.rules.proofs.Laws.StepWalk.{ItemsIn, no_items_in, read_items_keeps, conclude_keeps, match_bounded}
use Rattle.rules.specs.Laws.Sound.{sound}
use Rattle.sexp.specs.Encode.{encodes}
use Rattle.sexp.specs.Items.{place}
use Rattle.referring.specs.Laws.Behind.{from_holds}
use Rattle.terms.specs.declared.store.Mark.{Mark}
use Rattle.terms.specs.Table.{made, tree, args_of, Good}
use Rattle.terms.specs.Sets.{holds}
use Rattle.terms.specs.On.{On, Stopped, on_start, on_ok, on_no, on_pure, on_stop, on_done}
use Rattle.terms.specs.Laws.Numbers.{tree_stored}
use Rattle.state.specs.declared.sizes.Sizes.{Sizes}
use Rattle.state.specs.Held.{Names, rule_lists}
use Rattle.state.specs.Members.{Under}
use Rattle.reading.specs.Answers.{TermRead}
use Rattle.referring.specs.Recall.{Refers, Recalls}
use Rattle.derivation.specs.Stepping.{Concludes, Scopes, UsedRead, concluded, from_items, in_scope}
use Rattle.referring.specs.Laws.Refers.{refers_went}

-- What is made stays -------------------------------------------------------------------------------------------------------------------

module _ {K : Invariant} where
  concluded_keeps : (R : Rule) (ts : Trees) (it : Items) (m : Made) → K.Good m → ItemsIn K m it → Each (K.Has m) ts →
      Keeps K m (Known K) (concluded R ts it.stated it.bound m)
  unfolding concluded
  concluded_keeps R ts it m g a h =
      by_found 38 (match_stated R.conclusion it.stated it.bound) _ g λ b x.
      by_found 38 (match_all R.premises ts b) _ g λ c y.
      conclude_keeps R.conclusion it.stated c m g a.stated (match_bounded m R ts it b c g a h x y)

  from_items_keeps : (S : State) (R : Rule) (ts : Trees) (xs : Sexps) (m : Made) → Ready K S m → Each (K.Has m) ts →
      Keeps K m (λ u w. Unit {0}) (from_items S R ts xs m)
  unfolding from_items
  from_items_keeps S R ts xs m h e =
      by_then _ _ (read_items_keeps S R xs no_items m h no_items_in) λ it w k q.
      by_then _ _ (concluded_keeps R ts it w k.good q (each_on ts k e)) λ j v z o. fine (stays z.good) tt

-- terms by their numbers
args_in : {I W : List ℕ} {m : Mark} (g : Good I W m) (ids : List ℕ) → ((k : ℕ) → k < length ids → get_or ids k 0 < m.terms) →
    Each (sound.Has (made I W m)) (args_of (made I W m) ids)
unfolding args_of Each
args_in g [] b = tt
args_in {I} {W} {m} g (x ∷ xs) b =
    (sound.there (made I W m) (tree I W m x) (tree_stored g x (b 0 (omega arith))), args_in g xs (λ k l. b (suc k) (omega arith)))

-- Question 39 --------------------------------------------------------------------------------------------------------------------------

module _ {K : Names} {rules rulevars patterns facts lists : List ℕ} {n : Sizes} {I W : List ℕ} {m : Mark} {r : ℕ} {cells ids hyps : List ℕ}
    (g : Scopes K (rule_lists K.theory rules rulevars patterns) facts lists n I W m r cells ids hyps) where
  abbrev hypotheses : List ℕ
  hypotheses = rising (length g.S.facts) (holds hyps)

  abbrev whole : Out Made Tree
  whole = in_scope g.S (rule g.S.theory r) (args_of (made I W m) ids) hypotheses (rest g.xs 4) (made I W m)

  abbrev first : Out Made (Set × Tree)
  first = from_items g.S (rule g.S.theory r) (args_of (made I W m) ids) (rest g.xs 4) (made I W m)

  abbrev second : Set × Tree → Made → Out Made Tree
  second u s = then (scoped g.S u.0 u.1 hypotheses s) (λ _ s. ok u.1 s)

  on_first : On I W m whole I W m (then first second)
  unfolding in_scope
  on_first = on_start g.refers.reads.good

  -- the items behind the references
  module _ {behind : List ℕ} (a : (ys : Sexps) → cells ≡ encodes ys → behind ≡ drop (place ys 4) cells) where
    abbrev pub scope_given : Concludes K (rule_lists K.theory rules rulevars patterns) n I W m r behind ids
    scope_given =
        record {
          given = record { S = g.S; xs = rest g.xs 4; reads = g.refers.reads; ruled = g.ruled; known = g.known; holds = from_holds g.holding 4 a };
          many = g.many;
          there = g.there;
        }

    pub scope_refused : {J X : List ℕ} {new : Mark} {q d : ℕ} →
        ((h : Concludes K (rule_lists K.theory rules rulevars patterns) n I W m r behind ids) →
        Stopped I W J X m (from_items h.given.S (rule h.given.S.theory r) (args_of (made I W m) ids) h.given.xs (made I W m)) q d new) → Stopped I W J X m whole q d new
    scope_refused p = on_no second on_first (p scope_given)

    module _ {J X used : List ℕ} {new : Mark} {j : ℕ}
        (p : (h : Concludes K (rule_lists K.theory rules rulevars patterns) n I W m r behind ids) →
        UsedRead I W J X m (from_items h.given.S (rule h.given.S.theory r) (args_of (made I W m) ids) h.given.xs (made I W m)) used j new) where
      used_read : UsedRead I W J X m first used j new
      used_read = p scope_given

      pub after : Refers K facts g.footings lists n J X new g.S
      after =
          refers_went g.refers
          (from_items_keeps g.S (rule g.S.theory r) (args_of (made I W m) ids) (rest g.xs 4) (made I W m) g.refers.recorded.trees
          (args_in g.refers.reads.good ids g.there))
          used_read.went

      abbrev pub scope_recalls : Recalls facts lists n J X new
      scope_recalls =
          record {
            S = g.S;
            footings = g.footings;
            recorded = after.recorded;
            many = after.reads.spelling.vars.stand.many;
            good = after.reads.good;
          }

      pub scope_under : Under n.facts (holds hyps)
      scope_under v h = omega (arith, g.earlier v h, g.refers.recorded.many)

      pub scope_there : j < new.terms
      scope_there = used_read.there

      on_second : On I W m whole J X new (then (scoped g.S (holds used) (tree J X new j) hypotheses (made J X new)) (λ _ s. ok (tree J X new j) s))
      on_second = on_ok second on_first used_read.went

      -- question 39, as it is asked
      abbrev asked : Out Made (Unit {0})
      asked = scoped g.S (holds used) (tree J X new j) hypotheses (made J X new)

      pub scope_outside : {q d : ℕ} → asked ≡ refuse q d (made J X new) → Stopped I W J X m whole q d new
      scope_outside e = on_stop _ on_second e

      pub scope_inside : asked ≡ ok tt (made J X new) → TermRead I W J X m whole j new
      scope_inside e = record { went = on_done (on_pure _ on_second e); there = scope_there }
