-- What `add_rule_hyp` answers: the numbers of its premises come behind its own entry, its generalised variables behind these. Assumes nothing.
use mathlib.Core.Path.{◌≡◌, refl, sym, ap, ◌∙◌, subst}
use mathlib.Core.List.{List, [], ◌∷◌, ◌++◌}
use Prim.Native.Nat.{ℕ, ◌+◌, ◌-◌, ◌*◌, ◌≤◌}
use native.Mathlib.Omega.{arith}
use lib.ListN.{length, take, drop, replicate}
use lib.Seq.{sets, length-sets}
use Rattle.std.specs.Prelude.{min, Result, Ok, Err, Option, None as nothing}
use Rattle.rules.specs.Limits.{VARIABLES, FACTS, ENTRIES}
use Rattle.rules.specs.Out.{Out, then, found}
use Rattle.rules.specs.Sexp.{Sexps, item, count, rest}
use Rattle.rules.specs.Tree.{Tree, Trees}
use Rattle.rules.specs.Store.{Made}
use Rattle.rules.specs.State.{State}
use Rattle.rules.specs.Read.{vars_list}
use Rattle.rules.specs.Forms.{with_made, add_rule_hyp}
use Rattle.rules.specs.StateTables.{numbers}
use Rattle.rules.specs.Laws.Row.{length_filled}
use Rattle.sexp.specs.Encode.{encodes}
use Rattle.sexp.specs.Items.{place}
use Rattle.terms.specs.declared.store.Mark.{Mark}
use Rattle.terms.specs.Table.{made, tree}
use Rattle.state.specs.declared.sizes.Sizes.{Sizes}
use Rattle.questions.specs.declared.Row.{Row}
use Rattle.questions.specs.Numbers.{row_number}
use Rattle.state.specs.Held.{Names, Records, records, listed, Recorded}
use Rattle.state.specs.Rows.{Putting}
use Rattle.state.specs.Used.{facts_now}
use Rattle.state.specs.Filled.{filled_front}
use Rattle.state.specs.Entries.{sets_append}
use Rattle.state.specs.Numbered.{length_numbers}
use Rattle.state.specs.Recording.{HypothesisPut}
use Rattle.state.specs.FactLaws.{length_listed, entries_fit, lists_long, footings_tabled}
use Rattle.state.specs.RowTables.{tabled_long}
use Rattle.reading.specs.Items.{vars_in}
use Rattle.reading.specs.Given.{VarsItem, VarsItems}
use Rattle.reading.specs.Answers.{VarsRead}
use Rattle.reading.specs.Laws.Lists.{listing_few, vars_found, vars_listed}
use Rattle.forms.specs.declared.stating.Stated.{Stated}
use Rattle.forms.specs.Halted.{ReadsForm, Halts}
use Rattle.forms.specs.Stating.{stating, StatedRead}
use Rattle.forms.specs.Assumed.{AddsFact, HypAdded, RulePutBy}
use Rattle.forms.specs.Laws.Making.{Reached, reached_is, reached_halts, item_holds}
use Rattle.forms.proofs.Tails.{tailed, tailed_same, tailed_long, zero_behind, tail_zero, tail_filled, tail_again, behind_is, behind_low, behind_high}
use Rattle.forms.proofs.Assuming.{adding_ok, adding_full, putting}
use Rattle.forms.proofs.Supposing.{adds_fact}

-- behind premises and judgment come the variables
abbrev pub adds_rule : Sexps → State → Trees → Tree → State → Out State (Unit {0})
adds_rule xs S ps j U = then (vars_list 36 S (item xs 4) U) (λ vs Y. adds_fact S ps vs j Y)

rule_begun : (xs : Sexps) (S : State) → stating xs S (adds_rule xs S) ≡ add_rule_hyp xs S
unfolding add_rule_hyp then
rule_begun xs S = refl

-- the lists stay as long
put_long : (R Q : Records) (n k : Sizes) (judgment premises : ℕ) (general : List ℕ) (o : Result (Unit {0}) Row) → RulePutBy R Q n k judgment premises general o →
    length Q.lists ≡ length R.lists
put_long R Q n k judgment premises general (Ok u) p =
    ap length p.0.0.lists ∙ length-sets (sets R.lists (n.entries + 1 + premises) general) n.entries (n.facts ∷ []) ∙ length-sets R.lists (n.entries + 1 + premises) general
put_long R Q n k judgment premises general (Err d) p = ap (λ (y : Records). length y.lists) p.0

-- What it is given -----------------------------------------------------------------------------------------------------------------------

pub entries_inside : {facts footings lists : List ℕ} {n : Sizes} {M : Made} {S : State} → Recorded (records facts footings lists) n M S → n.entries ≤ length lists
entries_inside h = omega (arith, lists_long h, entries_fit h)

-- what the generalised variables are read from
abbrev pub vars_given : {goals text vars cells : List ℕ} {known : ℕ} (g : VarsItems goals text vars known cells) → 5 ≤ count g.xs → {behind : List ℕ} →
    ((ys : Sexps) → cells ≡ encodes ys → behind ≡ drop (place ys 4) cells) → VarsItem goals text vars known behind
vars_given g m p = record { S = g.S; x = item g.xs 4; ys = rest g.xs 5; vars_are = g.vars_are; holds = item_holds g.holds 4 (omega (arith, m)) p }

abbrev pub form_of : {K : Names} {facts lists : List ℕ} {n : Sizes} {I W : List ℕ} {m : Mark} {cells : List ℕ} →
    AddsFact K facts lists n I W m cells 5 → ReadsForm K n I W m cells 4
form_of g = record { S = g.S; xs = g.xs; reads = g.refers.reads; store = g.store; holds = g.holds; many = omega (arith, g.many) }

abbrev pub items_of : {K : Names} {facts lists : List ℕ} {n : Sizes} {I W : List ℕ} {m : Mark} {cells : List ℕ} {least : ℕ} →
    AddsFact K facts lists n I W m cells least → VarsItems K.goals K.text K.vars n.vars cells
items_of g = record { S = g.S; xs = g.xs; vars_are = g.refers.reads.spelling.vars; holds = g.holds }

-- the variables in their cells
module _ {K : Names} {facts lists : List ℕ} {n : Sizes} {I W : List ℕ} {m : Mark} {cells : List ℕ} (g : AddsFact K facts lists n I W m cells 5) {general : List ℕ} {few : ℕ}
    (v : VarsRead g.S.vars (item g.xs 4) general few) where
  some_vars : few ≤ VARIABLES
  some_vars =
      omega (arith, v.count, listing_few (vars_listed g.S.vars (item g.xs 4) v.vars v.are), g.refers.reads.spelling.vars.stand.many, g.refers.reads.spelling.vars.stand.few)

  pub vars_inside : few ≤ length general
  vars_inside = omega (arith, some_vars, ap length v.cells_are ∙ length_filled VARIABLES v.vars)

  front_vars : take few general ≡ v.vars
  front_vars = (λ i. take (v.count i) (v.cells_are i)) ∙ filled_front VARIABLES v.vars (omega (arith, some_vars, v.count))

-- The lists ------------------------------------------------------------------------------------------------------------------------------

module _ {K : Names} {facts lists : List ℕ} {n : Sizes} {I W : List ℕ} {m : Mark} {cells : List ℕ} (g : AddsFact K facts lists n I W m cells 5) {from : ℕ}
    (e_from : from ≡ min (length lists) (n.entries + 1)) where
  rec : Recorded (records facts g.footings lists) n (made I W m) g.S
  rec = g.refers.recorded

  few_entries : length (listed (made I W m) g.S) ≤ ENTRIES
  few_entries = omega (arith, length_listed rec, entries_fit rec)

  from_low : length (listed (made I W m) g.S) ≤ from
  from_low = omega (arith, length_listed rec, behind_low n.entries (length lists) e_from (entries_inside rec))

  pub from_high : from ≤ length lists
  from_high = behind_high n.entries (length lists) e_from

  from_most : from ≤ ENTRIES
  from_most = omega (arith, from_high, lists_long rec)

  from_zero : drop from lists ≡ replicate (ENTRIES - from) 0
  from_zero = zero_behind ENTRIES (listed (made I W m) g.S) rec.lists few_entries from from_low

  pub rule_zero : take (length lists - from) (drop from lists) ≡ replicate (length (take (length lists - from) (drop from lists))) 0
  rule_zero = tail_zero lists ENTRIES (lists_long rec) from from_most from_zero

  module _ {J X : List ℕ} {new : Mark} where
    pub rule_stops : {out : List ℕ} {q d : ℕ} → ((h : ReadsForm K n I W m cells 4) (next : Trees → Tree → State → Out State (Unit {0})) →
        Halts I W J X m h.S (stating h.xs h.S next) q d new × (out ≡ take (length lists - from) (drop from lists))) →
        Halts I W J X m g.S (add_rule_hyp g.xs g.S) q d new × (records facts g.footings (tailed lists from out) ≡ records facts g.footings lists)
    rule_stops {q = q} {d} b =
        let z = b (form_of g) (adds_rule g.xs g.S) in
        (subst (λ k. Halts I W J X m g.S k q d new) (rule_begun g.xs g.S) z.0, ap (records facts g.footings) (tailed_same lists from z.1))

    module _ {out : List ℕ} {r : Stated}
        (b : (h : ReadsForm K n I W m cells 4) (next : Trees → Tree → State → Out State (Unit {0})) → StatedRead I W J X m h.S (stating h.xs h.S next) next out r new)
        (k : length out ≡ length (take (length lists - from) (drop from lists))) where
      stated : StatedRead I W J X m g.S (stating g.xs g.S (adds_rule g.xs g.S)) (adds_rule g.xs g.S) out r new
      stated = b (form_of g) (adds_rule g.xs g.S)

      came : Reached I W m g.S (add_rule_hyp g.xs g.S) J X new (adds_rule g.xs g.S stated.trees (tree J X new r.judgment) (with_made g.S (made J X new)))
      came = record { makes = stated.makes; here = sym (rule_begun g.xs g.S) ∙ stated.is }

      -- behind the variables
      came_vars : {o : Option (List ℕ)} → vars_in g.S.vars (item g.xs 4) ≡ o →
          Reached I W m g.S (add_rule_hyp g.xs g.S) J X new
          (then (found 36 o (with_made g.S (made J X new))) (λ vs U. adds_fact g.S stated.trees vs (tree J X new r.judgment) U))
      unfolding then
      came_vars {o} v =
          reached_is came
          (ap (λ z. then z (λ vs U. adds_fact g.S stated.trees vs (tree J X new r.judgment) U)) (vars_found 36 g.S (item g.xs 4) (with_made g.S (made J X new)))
          ∙ ap (λ o. then (found 36 o (with_made g.S (made J X new))) (λ vs U. adds_fact g.S stated.trees vs (tree J X new r.judgment) U)) v)

      again : {L last : List ℕ} → L ≡ tailed lists from out → last ≡ replicate (length (take (length L - from) (drop from L))) 0 → tailed L from last ≡ lists
      again = tail_again lists ENTRIES (lists_long rec) from from_most from_zero out k

      pub rule_unlisted : {L last : List ℕ} → vars_in g.S.vars (item g.xs 4) ≡ nothing → L ≡ tailed lists from out →
          last ≡ replicate (length (take (length L - from) (drop from L))) 0 →
          Halts I W J X m g.S (add_rule_hyp g.xs g.S) 36 0 new × (records facts g.footings (tailed L from last) ≡ records facts g.footings lists)
      unfolding then
      rule_unlisted v e l = (reached_halts (came_vars v) refl, ap (records facts g.footings) (again e l))

      pub rule_asks : {L : List ℕ} → L ≡ tailed lists from out → Putting (records facts g.footings L) n r.judgment
      rule_asks {L} e =
          putting rec (omega (arith, stated.there, stated.makes.grown.good.room)) L
          (ap length e ∙ tailed_long lists ENTRIES (lists_long rec) from from_most from_zero out k)

      -- behind what is read
      module _ {general : List ℕ} {few : ℕ} (v : VarsRead g.S.vars (item g.xs 4) general few) where
        reached_fact : Reached I W m g.S (add_rule_hyp g.xs g.S) J X new (adds_fact g.S stated.trees v.vars (tree J X new r.judgment) (with_made g.S (made J X new)))
        unfolding then
        reached_fact = reached_is (came_vars v.are) refl

        -- L: the lists with the premises' numbers
        module _ {L : List ℕ} (e : L ≡ tailed lists from out) (Q : Records) (x : Sizes) where
          -- the tail can be cut
          pub rule_inside : (o : Result (Unit {0}) Row) → ((footings : List ℕ) → length footings ≡ 4 * FACTS →
              RulePutBy (records facts footings L) (records Q.facts footings Q.lists) n x r.judgment r.listed (take few general) o) → from ≤ length Q.lists
          rule_inside o w =
              omega (
                arith,
                put_long (records facts g.footings L) (records Q.facts g.footings Q.lists) n x r.judgment r.listed (take few general) o
                    (w g.footings (tabled_long (footings_tabled rec))),
                ap length e ∙ tailed_long lists ENTRIES (lists_long rec) from from_most from_zero out k,
                from_most,
              )

          pub rule_added : {u : Unit {0}} → ((footings : List ℕ) → length footings ≡ 4 * FACTS →
              RulePutBy (records facts footings L) (records Q.facts footings Q.lists) n x r.judgment r.listed (take few general) (Ok u)) →
              HypAdded (records facts g.footings lists) (records Q.facts g.footings Q.lists) n I W J X m g.S (add_rule_hyp g.xs g.S) x.entries new
              × (x ≡ facts_now n (n.facts + 1) x.entries)
          rule_added w =
              let M = made J X new in
              let z = w g.footings (tabled_long (footings_tabled rec)) in
              let many = r.listed in
              let B = sets L (n.entries + 1 + many) (take few general) in
              let y : HypothesisPut (records facts g.footings B) (records Q.facts g.footings Q.lists) n r.judgment many few (Ok x.entries) =
              subst (λ i. HypothesisPut (records facts g.footings B) (records Q.facts g.footings Q.lists) n r.judgment many i (Ok x.entries))
              (ap length (front_vars g v) ∙ sym v.count) z.0 in
              let room : n.entries + (1 + many + few) ≤ ENTRIES = omega (arith, y.1, y.2) in
              let start : from ≡ n.entries + 1 = behind_is n.entries (length lists) e_from (omega (arith, lists_long rec, room)) in
              let ps = numbers M stated.trees in
              let count : many ≡ length ps = stated.count ∙ sym (length_numbers M stated.trees) in
              let filled-up : L ≡ sets lists (n.entries + 1) ps =
              e ∙ tail_filled lists ENTRIES (lists_long rec) from from_most from_zero ps stated.cells_are k (omega (arith, start, count, room))
              ∙ ap (λ i. sets lists i ps) start in
              let behind : B ≡ sets lists (n.entries + 1) (ps ++ v.vars) =
              (λ i. sets (filled-up i) (n.entries + 1 + many) (front_vars g v i))
              ∙ sets_append lists ps v.vars (n.entries + 1) (n.entries + 1 + many) (ap (λ i. n.entries + 1 + i) count) in (
                adding_ok rec r.judgment stated.trees v.vars reached_fact stated.count v.count stated.there stated.known
                    (vars_listed g.S.vars (item g.xs 4) v.vars v.are).below B behind y,
                z.1,
              )

          pub rule_full : (d : Row) {last : List ℕ} → ((footings : List ℕ) → length footings ≡ 4 * FACTS →
              RulePutBy (records facts footings L) (records Q.facts footings Q.lists) n x r.judgment r.listed (take few general) (Err d)) →
              last ≡ replicate (length (take (length Q.lists - from) (drop from Q.lists))) 0 →
              Halts I W J X m g.S (add_rule_hyp g.xs g.S) 60 (row_number d) new
              × (records Q.facts g.footings (tailed Q.lists from last) ≡ records facts g.footings lists) × (x ≡ n)
          rule_full d w c =
              let z = w g.footings (tabled_long (footings_tabled rec)) in
              let long : length (take few general) ≡ few = ap length (front_vars g v) ∙ sym v.count in
              let same-facts : Q.facts ≡ facts = ap (λ (y : Records). y.facts) z.0 in
              let same_lists : Q.lists ≡ L = ap (λ (y : Records). y.lists) z.0 in
              let back = again (same_lists ∙ e) c in (
                adding_full rec r.judgment stated.trees v.vars reached_fact stated.count v.count z.1 (λ l. let i = z.2 l in omega (arith, long)),
                λ i. records (same-facts i) g.footings (back i),
                z.3,
              )
