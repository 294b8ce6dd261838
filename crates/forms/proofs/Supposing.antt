-- What `add_hyp` answers. Assumes nothing.
use mathlib.Core.Path.{◌≡◌, refl, ◌∙◌, subst}
use mathlib.Core.List.{List, []}
use Prim.Native.Nat.{ℕ, ◌+◌, ◌*◌}
use native.Mathlib.Omega.{arith}
use lib.ListN.{length, drop}
use Rattle.std.specs.Prelude.{Result, Ok, Err}
use Rattle.rules.specs.Limits.{FACTS}
use Rattle.rules.specs.Out.{Out, then}
use Rattle.rules.specs.Sexp.{Sexps, item}
use Rattle.rules.specs.Tree.{Tree, Trees, none, count_trees}
use Rattle.rules.specs.State.{State}
use Rattle.rules.specs.Read.{judgment}
use Rattle.rules.specs.Forms.{with_made, making, add_fact, hypothesis, one_hypothesis, add_hyp}
use Rattle.rules.specs.StateTables.{numbers}
use Rattle.rules.specs.Laws.Theory.{empty}
use Rattle.rules.specs.Laws.Keeping.{Each}
use Rattle.rules.proofs.Laws.ReadWalk.{judgment_keeps}
use Rattle.sexp.specs.Encode.{encodes}
use Rattle.sexp.specs.Items.{place}
use Rattle.terms.specs.declared.store.Mark.{Mark}
use Rattle.terms.specs.Table.{made, tree}
use Rattle.terms.specs.On.{Stopped}
use Rattle.state.specs.declared.sizes.Sizes.{Sizes}
use Rattle.questions.specs.declared.Row.{Row}
use Rattle.questions.specs.Numbers.{row_number}
use Rattle.state.specs.Boards.{HypPutBy}
use Rattle.state.specs.Held.{Names, Records, records}
use Rattle.state.specs.Rows.{Putting}
use Rattle.state.specs.Used.{facts_now}
use Rattle.state.specs.FactLaws.{lists_long, footings_tabled}
use Rattle.state.specs.RowTables.{tabled_long}
use Rattle.reading.specs.Given.{ReadsItem}
use Rattle.reading.specs.Answers.{TermRead}
use Rattle.reading.specs.Laws.Reading.{reads_ready, reads_item}
use Rattle.forms.specs.Halted.{Halts}
use Rattle.forms.specs.Assumed.{AddsFact, HypAdded}
use Rattle.forms.specs.Laws.Making.{Reached, reached_start, reached_went, reached_stopped, item_holds}
use Rattle.forms.proofs.Assuming.{adding_ok, adding_full, putting}

-- Behind a judgment --------------------------------------------------------------------------------------------------------------------------

-- what the definition does with a judgment, its premises and its generalised variables
abbrev pub adds_fact : State → Trees → List ℕ → Tree → State → Out State (Unit {0})
adds_fact S ps vs j U = add_fact (hypothesis (length S.facts) j ps vs) one_hypothesis U

hyp_begun : (xs : Sexps) (S : State) → add_hyp xs S ≡ then (making (judgment S (item xs 2)) S) (adds_fact S none [])
unfolding add_hyp then
hyp_begun xs S = refl

-- `add_hyp` --------------------------------------------------------------------------------------------------------------------------------

module _ {K : Names} {facts lists : List ℕ} {n : Sizes} {I W : List ℕ} {m : Mark} {cells : List ℕ} (g : AddsFact K facts lists n I W m cells 3) {behind : List ℕ}
    (p : (ys : Sexps) → cells ≡ encodes ys → behind ≡ drop (place ys 2) cells) where
  -- what the judgment is read from
  abbrev pub hyp_item : ReadsItem K n I W m behind
  hyp_item = reads_item g.refers.reads (item_holds g.holds 2 (omega (arith, g.many)) p)

  hyp_starts : Reached I W m g.S (add_hyp g.xs g.S) I W m (then (making (judgment g.S (item g.xs 2)) (with_made g.S (made I W m))) (adds_fact g.S none []))
  hyp_starts =
      let z = reached_start g.refers.reads.good (reads_ready g.refers.reads) g.store (λ U. then (making (judgment g.S (item g.xs 2)) U) (adds_fact g.S none [])) in
      record { makes = z.makes; here = hyp_begun g.xs g.S ∙ z.here }

  module _ {J X : List ℕ} {new : Mark} where
    pub hyp_no : {q d : ℕ} → ((k : ReadsItem K n I W m behind) → Stopped I W J X m (judgment k.S k.x (made I W m)) q d new) →
        Halts I W J X m g.S (add_hyp g.xs g.S) q d new
    hyp_no f =
        reached_stopped (judgment g.S (item g.xs 2)) (adds_fact g.S none []) hyp_starts (judgment_keeps g.S (item g.xs 2) (made I W m) (reads_ready g.refers.reads))
        (f hyp_item)

    module _ {j : ℕ} (f : (k : ReadsItem K n I W m behind) → TermRead I W J X m (judgment k.S k.x (made I W m)) j new) where
      hyp_read : TermRead I W J X m (judgment g.S (item g.xs 2) (made I W m)) j new
      hyp_read = f hyp_item

      hyp_came : Reached I W m g.S (add_hyp g.xs g.S) J X new (adds_fact g.S none [] (tree J X new j) (with_made g.S (made J X new)))
      hyp_came =
          reached_went (judgment g.S (item g.xs 2)) (adds_fact g.S none []) hyp_starts
          (judgment_keeps g.S (item g.xs 2) (made I W m) (reads_ready g.refers.reads)) hyp_read.went

      pub hyp_asks : Putting (records facts g.footings lists) n j
      hyp_asks = putting g.refers.recorded (omega (arith, hyp_read.there, hyp_read.went.grown.good.room)) lists (lists_long g.refers.recorded)

      module _ (Q : Records) (k : Sizes) (r : Result (Unit {0}) Row)
          (w : (footings : List ℕ) → length footings ≡ 4 * FACTS → HypPutBy (records facts footings lists) (records Q.facts footings Q.lists) n k j 0 0 r) where
        put_here : HypPutBy (records facts g.footings lists) (records Q.facts g.footings Q.lists) n k j 0 0 r
        put_here = w g.footings (tabled_long (footings_tabled g.refers.recorded))

        pub hyp_added : {u : Unit {0}} → r ≡ Ok u →
            HypAdded (records facts g.footings lists) (records Q.facts g.footings Q.lists) n I W J X m g.S (add_hyp g.xs g.S) k.entries new
            × (k ≡ facts_now n (n.facts + 1) k.entries)
        unfolding Each count_trees numbers
        hyp_added q =
            let z = subst (HypPutBy (records facts g.footings lists) (records Q.facts g.footings Q.lists) n k j 0 0) q put_here in
            (adding_ok g.refers.recorded j none [] hyp_came refl refl hyp_read.there tt empty lists refl z.0, z.1)

        pub hyp_full : {d : Row} → r ≡ Err d →
            Halts I W J X m g.S (add_hyp g.xs g.S) 60 (row_number d) new × (records Q.facts g.footings Q.lists ≡ records facts g.footings lists) × (k ≡ n)
        unfolding count_trees
        hyp_full {d} q =
            let z = subst (HypPutBy (records facts g.footings lists) (records Q.facts g.footings Q.lists) n k j 0 0) q put_here in
            (adding_full g.refers.recorded j none [] hyp_came refl refl z.0.1 z.0.2, z.0.0, z.1)
