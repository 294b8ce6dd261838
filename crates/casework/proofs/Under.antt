-- A fact of the context under a substitution: its premises in turn, then its judgment, and what it allows. Assumes nothing.
use Rattle.state.specs.Records.{fact_rows}
use mathlib.Core.Path.{◌≡◌, sym, ap, ◌∙◌, subst}
use mathlib.Core.List.{List}
use Prim.Native.Nat.{ℕ, ◌-◌, ◌<◌, ◌≤◌}
use native.Mathlib.Omega.{arith}
use lib.ListN.{length, drop, length-drop}
use Rattle.std.proofs.lemmas.List.{length-take}
use Rattle.rules.specs.Limits.{ENTRIES}
use Rattle.rules.specs.Out.{Out, ok, then}
use Rattle.rules.specs.Tree.{Tree, Trees}
use Rattle.rules.specs.Store.{Made, substitute, substitutes}
use Rattle.rules.specs.State.{Fact}
use Rattle.rules.specs.Invert.{Allowed}
use Rattle.terms.specs.declared.store.Mark.{Mark}
use Rattle.terms.specs.Table.{made, tree, args_of, Grown}
use Rattle.terms.specs.Subst.{replacement}
use Rattle.terms.specs.On.{Went, Stopped, On, on_start, on_ok, on_no, on_done}
use Rattle.terms.specs.Laws.Growth.{grown_args}
use Rattle.state.specs.declared.sizes.Sizes.{Sizes}
use Rattle.state.specs.Entries.{part}
use Rattle.state.specs.Rows.{cell, premises_span}
use Rattle.referring.specs.Recall.{fact_of, Recalls}
use Rattle.referring.specs.declared.source.Facts.{Facts}
use Rattle.referring.specs.Substitutes.{Replaceables, Replaced}
use Rattle.terms.specs.Laws.Below.{below_grown}
use Rattle.casework.specs.declared.context.Allowing.{Allowing}
use Rattle.casework.specs.Context.{allowed_of, Comparing, Adds, ContextRead, one, under, ContextGiven}
use Rattle.casework.specs.Laws.Facts.{recalls_grown}
use Rattle.casework.specs.Laws.Rows.{premises_are, judgment_is, judgment_there, premises_there, lists_are}

-- the premises under it, and the fact
abbrev pub premises_wanted : List ℕ → List ℕ → Mark → List ℕ → List ℕ → Out Made Trees
premises_wanted I W old map ids = substitutes (replacement (made I W old) map) (args_of (made I W old) ids) (made I W old)

abbrev pub fact_wanted : List ℕ → List ℕ → Mark → List ℕ → Fact → Out Made Allowed
fact_wanted I W old map f = under (replacement (made I W old) map) f (made I W old)

-- A fact under a substitution --------------------------------------------------------------------------------------------------------------------

module _ {facts lists : List ℕ} {n : Sizes} {I W : List ℕ} {old : Mark} (g : Recalls facts lists n I W old) {h : ℕ} (l : h < n.facts) (map : List ℕ) where
  abbrev fact : Fact
  fact = fact_of g.S h

  abbrev ids : List ℕ
  ids = part lists (premises_span facts h)

  -- the premises have no room
  pub premises_stop : {J X : List ℕ} {mid : Mark} {q d : ℕ} → Stopped I W J X old (premises_wanted I W old map ids) q d mid → Stopped I W J X old (fact_wanted I W old map fact) q d mid
  premises_stop w =
      on_no _ (on_start g.good) (record {
        grown = w.grown;
        makes = ap (λ (ts : Trees). substitutes (replacement (made I W old) map) ts (made I W old)) (sym (premises_are g l)) ∙ w.makes;
      })

  module _ {J X : List ℕ} {mid : Mark} {out : List ℕ} (r : Replaced I W J X old (premises_wanted I W old map ids) out mid) where
    begun : On I W old (fact_wanted I W old map fact) J X mid
        (then (substitute (replacement (made I W old) map) fact.judgment (made J X mid)) (λ j U. ok (record { premises = args_of (made J X mid) out; judgment = j; general = fact.general }) U))
    begun =
        on_ok _ (on_start g.good)
        (subst (λ (ts : Trees). Went I W J X old (substitutes (replacement (made I W old) map) ts (made I W old)) (args_of (made J X mid) out) mid) (premises_are g l) r.went)

    module _ {id : ℕ} (d : id ≡ cell 6 facts h 0) where
      action : substitute (replacement (made I W old) map) (tree I W old id) (made J X mid) ≡ substitute (replacement (made I W old) map) fact.judgment (made J X mid)
      action = ap (λ (t : Tree). substitute (replacement (made I W old) map) t (made J X mid)) (ap (tree I W old) d ∙ judgment_is g l)

      pub judgment_stop : {Y Z : List ℕ} {q d : ℕ} {new : Mark} → Stopped J X Y Z mid (substitute (replacement (made I W old) map) (tree I W old id) (made J X mid)) q d new →
          Stopped I W Y Z old (fact_wanted I W old map fact) q d new
      judgment_stop w = on_no _ begun (record { grown = w.grown; makes = sym action ∙ w.makes })

      pub under_read : {Y Z : List ℕ} (t : ℕ) {new : Mark} → Went J X Y Z mid (substitute (replacement (made I W old) map) (tree I W old id) (made J X mid)) (tree Y Z new t) new →
          {gs : List ℕ} → gs ≡ fact.general → {own plain plain' fine fine' : List ℕ} → Adds (made Y Z new) g.S own plain plain' fine fine' (one (allowed_of (made Y Z new) out t gs)) →
          ContextRead Allowed I W Y Z old g.S (fact_wanted I W old map fact) one own plain plain' fine fine' new
      under_read {Y} {Z} t {new} w {gs} q {own} {plain} {plain'} {fine} {fine'} a =
          record {
            answer = record { premises = args_of (made J X mid) out; judgment = tree Y Z new t; general = fact.general };
            went = on_done (on_ok _ begun (record { grown = w.grown; makes = sym action ∙ w.makes }));
            adds = subst (λ (ts : Trees). Adds (made Y Z new) g.S own plain plain' fine fine' (one (record { premises = ts; judgment = tree Y Z new t; general = fact.general })))
                (grown_args w.grown out r.there)
                (subst (λ (vs : List ℕ). Adds (made Y Z new) g.S own plain plain' fine fine' (one (allowed_of (made Y Z new) out t vs))) q a);
          }

-- the facts beside what these made, and what one of them is then
abbrev pub compared : {f : Facts} {I W J X Y Z : List ℕ} {old mid new : Mark} {K : Out Made Trees} (a : Allowing) → Recalls (fact_rows f.records.now) f.lists.now f.n I W old →
    Replaced I W J X old K a.premises.now mid → Grown J X Y Z mid new → a.judgment < new.terms → Comparing f a
compared {Y = Y} {Z} {new = new} a g r w j =
    record {
      index = Y;
      words = Z;
      mark = new;
      recalls = recalls_grown w (recalls_grown r.went.grown g);
      judgment = j;
      premises = below_grown a.premises.now w.more r.there;
    }

-- What the calls ask ---------------------------------------------------------------------------------------------------------------------------

module _ {facts lists : List ℕ} {n : Sizes} {I W : List ℕ} {m : Mark} {map memo own : List ℕ} (c : ContextGiven facts lists n I W m map memo own) {h : ℕ} (l : h < n.facts) where
  pub under_asks : {out : List ℕ} → length out ≡ length (part lists (premises_span facts h)) → Replaceables I W m map memo (part lists (premises_span facts h)) out
  under_asks w = record { good = c.recalls.good; within = c.cells.bound; there = premises_there c.recalls l; empty = c.empty; long = w }

  pub premises_few : {ids : List ℕ} → ids ≡ part lists (premises_span facts h) → length ids ≤ ENTRIES
  premises_few e =
      let s = premises_span facts h in
      omega (arith, ap length e, length-take (s.end - s.from) (drop s.from lists), length-drop s.from lists, lists_are c.recalls)

  pub judgment_small : {id : ℕ} → id ≡ cell 6 facts h 0 → id < m.terms
  judgment_small d = omega (arith, d, judgment_there c.recalls l)
