-- A hypothesis is added when what it states is read: from the rows that are put to what the forms answer; and `put_rule` itself. Assumes nothing.
use mathlib.Core.Path.{◌≡◌, refl, sym, ap, ◌∙◌, subst}
use mathlib.Core.Bool.{true, false}
use mathlib.Core.List.{List, ◌++◌}
use Prim.Native.Nat.{ℕ, ◌+◌, ◌-◌, ◌^◌, ◌<◌, ◌≤◌}
use native.Mathlib.Omega.{arith}
use native.Mathlib.Decide.{dec_lt}
use lib.Dec.{ltb}
use lib.ListN.{length, take, drop}
use lib.Seq.{sets}
use borrow.Author.Tests.{lt-ltb, le-ltb}
use Rattle.rules.specs.Limits.{FACTS, ENTRIES}
use Rattle.rules.specs.Out.{Out, refuse}
use Rattle.rules.specs.Tree.{Trees, count_trees}
use Rattle.rules.specs.Store.{Made}
use Rattle.rules.specs.State.{State, Fact, fact_entries, entries}
use Rattle.rules.specs.Forms.{with_made, add_fact, hypothesis, one_hypothesis}
use Rattle.rules.specs.StateTables.{numbers}
use Rattle.rules.specs.Laws.Theory.{All}
use Rattle.rules.specs.Laws.Keeping.{Each}
use Rattle.rules.specs.Laws.Sound.{sound}
use Rattle.rules.specs.Laws.Shape.{stated}
use Rattle.terms.specs.declared.store.Mark.{Mark}
use Rattle.terms.specs.Table.{made, tree}
use Rattle.terms.specs.Laws.Numbers.{tree_number, tree_stored}
use Rattle.state.specs.declared.sizes.Sizes.{Sizes}
use Rattle.std.specs.Prelude.{Result, Ok, Err}
use Rattle.questions.specs.declared.Row.{Row}
use Rattle.state.specs.Boards.{HypPutBy}
use Rattle.state.specs.Held.{Records, records, Recorded}
use Rattle.state.specs.Rows.{Putting}
use Rattle.state.specs.Growth.{recorded_on, recorded_made}
use Rattle.state.specs.Recording.{valid_of, valid_more, HypothesisPut}
use Rattle.state.specs.Adding.{add_fact_ok, add_fact_12, add_fact_13}
use Rattle.state.specs.FactLaws.{facts_tabled, footings_tabled, entries_fit}
use Rattle.state.specs.RowTables.{tabled_long}
use Rattle.forms.specs.Halted.{Halts}
use Rattle.forms.specs.Assumed.{HypAdded, RulePutBy}
use Rattle.forms.specs.Laws.Making.{Reached, reached_halts}
use Rattle.forms.proofs.Tails.{tailed, tailed_written}

-- What is left is to add the fact ------------------------------------------------------------------------------------------------------

module _ {facts footings lists : List ℕ} {n : Sizes} {I W : List ℕ} {old : Mark} {S : State} (h : Recorded (records facts footings lists) n (made I W old) S)
    {A : Out State (Unit {0})} {J X : List ℕ} {now : Mark} (j : ℕ) (ps : Trees) (vs : List ℕ)
    (o : Reached I W old S A J X now (add_fact (hypothesis (length S.facts) (tree J X now j) ps vs) one_hypothesis (with_made S (made J X now)))) {many few : ℕ}
    (a : many ≡ count_trees ps) (b : few ≡ length vs) where
  abbrev fact : Fact
  fact = hypothesis (length S.facts) (tree J X now j) ps vs

  there : Recorded (records facts footings lists) n (made J X now) (with_made S (made J X now))
  there = recorded_made (made J X now) (recorded_on o.makes.grows h)

  needs : fact_entries fact ≡ 1 + many + few
  unfolding fact_entries
  needs = omega (arith, a, b)

  pub adding_full : {d : ℕ} → d ≡ elim (ltb n.facts FACTS) [ true ↦ 13 | false ↦ 12 ] → (n.facts < FACTS → ENTRIES < n.entries + (1 + many + few)) →
      Halts I W J X old S A 60 d now
  adding_full {d} e f = elim (dec_lt n.facts FACTS) [
    | yes l ↦
        reached_halts o (add_fact_13 fact one_hypothesis (with_made S (made J X now)) (omega (arith, there.many)) (let z = f l in omega (arith, there.used, needs))
        ∙ ap (λ k. refuse 60 k (with_made S (made J X now))) (sym (e ∙ ap (λ b. elim b [ true ↦ 13 | false ↦ 12 ]) (lt-ltb n.facts FACTS l))))
    | no l ↦
        reached_halts o (add_fact_12 fact one_hypothesis (with_made S (made J X now)) (omega (arith, there.many))
        ∙ ap (λ k. refuse 60 k (with_made S (made J X now))) (sym (e ∙ ap (λ b. elim b [ true ↦ 13 | false ↦ 12 ]) (le-ltb n.facts FACTS (omega arith)))))
  ]

  pub adding_ok : j < now.terms → Each (sound.Has (made J X now)) ps → All (λ v. v < length S.vars) vs → (L : List ℕ) {Q : Records} {e : ℕ} →
      L ≡ sets lists (n.entries + 1) (numbers (made J X now) ps ++ vs) → HypothesisPut (records facts footings L) Q n j many few (Ok e) →
      HypAdded (records facts footings lists) Q n I W J X old S A e now
  adding_ok l p v L {Q} {e} w s =
      let good = o.makes.grown.good in
      let room : length S.facts < FACTS = omega (arith, there.many, s.0.room) in
      let fits : entries (with_made S (made J X now)) + fact_entries fact ≤ ENTRIES = omega (arith, there.used, needs, s.1, s.2) in
      record {
        makes = o.makes;
        new = fact;
        judgment = j;
        premises = many;
        general = few;
        behind = L;
        is = o.here ∙ add_fact_ok fact one_hypothesis (with_made S (made J X now)) room fits;
        assumes = record { numbered = sym (tree_number good j l); assumed = refl; premised = a; generalised = b; behind = w; bound = v };
        valid = valid_more _ (valid_of there) room fits
            (record { judgment = sound.there (made J X now) (tree J X now j) (tree_stored good j l); premises = p }) (stated refl refl refl);
        stored = s;
      }

-- What the writers of facts ask ---------------------------------------------------------------------------------------------------------

pub putting : {facts footings lists : List ℕ} {n : Sizes} {M : Made} {S : State} → Recorded (records facts footings lists) n M S → {j : ℕ} → j < 2 ^ 32 →
    (L : List ℕ) → length L ≡ ENTRIES → Putting (records facts footings L) n j
putting h l L e =
    record {
      facts = tabled_long (facts_tabled h);
      footings = tabled_long (footings_tabled h);
      lists = e;
      entries = omega (arith, entries_fit h);
      fits = l;
    }

-- `put_rule` -----------------------------------------------------------------------------------------------------------------------------

-- the variables are written where there is room, and then the row has room as well
pub rule_put : (facts footings lists : List ℕ) (n k : Sizes) (judgment premises : ℕ) (general : List ℕ) (Q : Records) (last : List ℕ) (r : Result (Unit {0}) Row) {at : ℕ} →
    at ≡ n.entries + 1 + premises → length lists ≡ ENTRIES → n.facts < FACTS → at + length general ≤ ENTRIES →
    last ≡ general ++ drop (length general) (take (length lists - at) (drop at lists)) →
    HypPutBy (records facts footings (tailed lists at last)) Q n k judgment premises (length general) r →
    RulePutBy (records facts footings lists) Q n k judgment premises general r
rule_put facts footings lists n k judgment premises general Q last (Ok u) {at} e l f m w p = (
  subst (λ L. HypothesisPut (records facts footings L) Q n judgment premises (length general) (Ok k.entries))
      (tailed_written lists at general (omega (arith, l, m)) w ∙ ap (λ i. sets lists i general) e) p.0,
  p.1,
)
rule_put facts footings lists n k judgment premises general Q last (Err d) e l f m w p = absurd (let z = p.0.2 f in omega arith)
