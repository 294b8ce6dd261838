-- What a case may rest on: one hypothesis, all hypotheses of a fact, and the questions of the case's fact. Assumes nothing.
use mathlib.Core.Path.{◌≡◌, sym, ap, ◌∙◌, subst}
use mathlib.Core.Bool.{Bool, true, false, ◌&&◌, not}
use Rattle.std.specs.Prelude.{◌≢◌, ◌⊎◌}
use mathlib.Core.Logic.{inl, inr}
use mathlib.Core.List.{List}
use Prim.Native.Nat.{ℕ, ◌*◌, ◌<◌, ◌≤◌}
use native.Mathlib.Omega.{arith}
use lib.Dec.{eqb}
use lib.ListN.{length, get_or}
use Rattle.state.specs.Entries.{part}
use borrow.Author.Tests.{eq-eqb, ne_eqb}
use Rattle.rules.specs.Limits.{FACTS, VARIABLES, TERMWORDS}
use Rattle.rules.specs.Out.{Out, ok, refuse, then, ask}
use Rattle.rules.specs.Find.{any, all, entry}
use Rattle.rules.specs.Tree.{Tree, same_tree, same_trees}
use Rattle.rules.specs.Store.{Made}
use Rattle.rules.specs.State.{Fact, is_plain}
use Rattle.rules.specs.StateTables.{numbers}
use Rattle.rules.specs.Induct.{motive_vars, Hyp, allowed_plain, allowed_rule, allowed_hyp}
use Rattle.rules.specs.Laws.Theory.{all_at}
use Rattle.terms.specs.Table.{Below, made, tree}
use Rattle.terms.specs.Sets.{holds}
use Rattle.terms.specs.Laws.Growth.{made_length}
use Rattle.terms.specs.Laws.Numbers.{same_number}
use Rattle.state.specs.declared.sizes.Sizes.{Sizes}
use Rattle.state.specs.Held.{records}
use Rattle.state.specs.Rows.{cell, hyps_span, premises_span, general_span, plain_row}
use Rattle.state.specs.RowTables.{tabled_long}
use Rattle.state.specs.FactLaws.{FactRow, fact_row_lem, facts_tabled}
use Rattle.questions.specs.declared.Question.{Question}
use Rattle.questions.specs.declared.Question.TheVariants.{Earlier, CaseJudgment}
use Rattle.questions.specs.Numbers.{number_of, detail_of}
use Rattle.referring.specs.Recall.{fact_of}
use Rattle.referring.specs.Laws.Refers.{fact_found, fact_none, fact_asks}
use Rattle.induction.specs.Inducing.{hyps_in, row_among, plain_at, Resting, case_fact}
use Rattle.induction.proofs.Rests.{other, rows_are}

-- One hypothesis ------------------------------------------------------------------------------------------------------------------------------

module _ {facts lists : List ℕ} {n : Sizes} {plain used : List ℕ} {x w : ℕ} {ids : List ℕ} (g : Resting facts lists n plain used x w ids) where
  abbrev M : Made
  M = made g.I g.W g.m

  abbrev ihs : List Hyp
  ihs = hyps_in M w g.many ids

  -- what a reader of any fact asks
  pub facts_asks : (length facts ≡ 6 * FACTS) × (n.facts ≤ FACTS)
  facts_asks = (tabled_long (facts_tabled g.recorded), (facts_tabled g.recorded).few)

  pub rest_facts : {h : ℕ} → h < n.facts → (length facts ≡ 6 * FACTS) × (h < FACTS)
  rest_facts l = fact_asks g.recorded l

  module _ (h : ℕ) (l : h < n.facts) where
    pub row : FactRow (records facts g.footings lists) n M g.S h (fact_of g.S h)
    row = fact_row_lem g.recorded h l

    judged : cell 6 facts h 0 < g.m.terms
    judged = omega (arith, row.judgment.below, made_length g.I g.W g.m)

    pub rest_judgment : {j : ℕ} → j ≡ cell 6 facts h 0 → length plain ≡ TERMWORDS → j < 64 * length plain
    rest_judgment e l = omega (arith, e, judged, g.good.room, l)

    pub rest_general : {own : List ℕ} → own ≡ part lists (general_span facts h) → Below VARIABLES own
    rest_general {own} e k p =
        let z = e ∙ row.general in
        let q = all_at (fact_of g.S h).general k 0 row.general_below (subst (λ (xs : List ℕ). k < length xs) z p) in
        subst (λ (xs : List ℕ). get_or xs k 0 < VARIABLES) (sym z) (omega (arith, q, g.recorded.rows.row7))

    abbrev rule : Bool
    rule = allowed_rule g.M ihs (fact_of g.S h)

    -- questions of a rule hypothesis
    pub rule_proved : (r : Bool) → r ≡ not (eqb (cell 6 facts h 1) 0) → r ≡ false → false ≡ rule
    unfolding allowed_rule
    rule_proved r e f =
        ap (λ (b : Bool). b && (all (λ v. motive_vars g.M v && not (eqb v g.M.variable)) (fact_of g.S h).general
        && any (λ i. same_trees i.premises (fact_of g.S h).premises && same_tree i.judgment (fact_of g.S h).judgment) ihs))
        (sym f ∙ e ∙ row.assumed)

    abbrev among_hyps : Bool
    among_hyps = any (λ i. same_trees i.premises (fact_of g.S h).premises && same_tree i.judgment (fact_of g.S h).judgment) ihs

    module _ (r : Bool) (e : r ≡ not (eqb (cell 6 facts h 1) 0)) (f : r ≡ true) {own : List ℕ} (z : own ≡ part lists (general_span facts h)) (t : Bool)
        (d : t ≡ all (other (holds used) x) own) where
      bound_is : t ≡ all (λ v. motive_vars g.M v && not (eqb v g.M.variable)) (fact_of g.S h).general
      bound_is = d ∙ (λ i. all (λ v. g.used_are i v && not (eqb v (sym g.variable_is i))) ((z ∙ row.general) i))

      rule_is : rule ≡ t && among_hyps
      unfolding allowed_rule
      rule_is = λ i. (sym (sym f ∙ e ∙ row.assumed)) i && (sym bound_is i && among_hyps)

      pub rule_bound : t ≡ false → false ≡ rule
      rule_bound q = sym (rule_is ∙ ap (λ (b : Bool). b && among_hyps) q)

      pub rule_rows : t ≡ true → {ps : List ℕ} → ps ≡ part lists (premises_span facts h) → (j : ℕ) → j ≡ cell 6 facts h 0 → (v : Bool) →
          v ≡ row_among w g.many ids ps j → v ≡ rule
      rule_rows y {ps} u j q v o =
          let P = (fact_of g.S h).premises in
          let below : Below g.m.terms (numbers M P) = λ k p. omega (arith, all_at (numbers M P) k 0 row.numbered.below p, made_length g.I g.W g.m) in
          o ∙ (λ i. row_among w g.many ids ((u ∙ row.premises) i) (q i))
          ∙ sym (rows_are g.good w (numbers M P) (cell 6 facts h 0) below judged g.many ids g.filled g.known)
          ∙ (λ i. any (λ y. same_trees y.premises (row.numbered.trees i) && same_tree y.judgment (row.judgment.tree i)) ihs)
          ∙ sym (rule_is ∙ ap (λ (b : Bool). b && among_hyps) y)

    -- a plain one, or a rule
    abbrev hyp : Bool
    hyp = allowed_hyp g.M g.ps ihs (entry g.S.facts h)

    hyp_is : hyp ≡ elim (is_plain (fact_of g.S h)) [ true ↦ allowed_plain g.M g.ps ihs (fact_of g.S h) | false ↦ rule ]
    unfolding allowed_hyp
    hyp_is = ap (allowed_hyp g.M g.ps ihs) row.is

    pub hyp_plain : (r : Bool) (j : ℕ) (v : Bool) → r ≡ plain_row facts h → r ≡ true → j ≡ cell 6 facts h 0 → v ≡ holds plain j → v ≡ hyp
    unfolding allowed_plain plain_at
    hyp_plain r j v e f q o =
        o ∙ ap (holds plain) q ∙ g.plain_are (cell 6 facts h 0) judged
        ∙ ap (plain_at g.M g.ps ihs) row.judgment.tree
        ∙ sym (hyp_is ∙ ap (λ (b : Bool). elim b [ true ↦ allowed_plain g.M g.ps ihs (fact_of g.S h) | false ↦ rule ]) (sym row.plain ∙ sym e ∙ f))

    pub hyp_rule : (r : Bool) (v : Bool) → r ≡ plain_row facts h → r ≡ false → v ≡ rule → v ≡ hyp
    hyp_rule r v e f o =
        o ∙ sym (hyp_is ∙ ap (λ (b : Bool). elim b [ true ↦ allowed_plain g.M g.ps ihs (fact_of g.S h) | false ↦ rule ]) (sym row.plain ∙ sym e ∙ f))

-- All hypotheses of a fact ----------------------------------------------------------------------------------------------------------------------

module _ {facts lists : List ℕ} {n : Sizes} {plain used : List ℕ} {x w : ℕ} {ids : List ℕ} (g : Resting facts lists n plain used x w ids) (i : ℕ)
    (l : i < n.facts) where
  -- what is asked of each
  abbrev pub asked : ℕ → Bool
  asked h = allowed_hyp g.M g.ps (hyps_in (made g.I g.W g.m) w g.many ids) (entry g.S.facts h)

  -- the cells that are gone through are its hypotheses
  pub hyps_are : {own : List ℕ} → own ≡ part lists (hyps_span facts i) → own ≡ (fact_of g.S i).hyps
  hyps_are e = e ∙ (row g i l).hyps

  pub hyps_there : {own : List ℕ} → own ≡ part lists (hyps_span facts i) → (k : ℕ) → k < length own → get_or own k 0 < n.facts
  hyps_there {own} e k p =
      let q = all_at (fact_of g.S i).hyps k 0 (row g i l).hyps_below (subst (λ (xs : List ℕ). k < length xs) (hyps_are e) p) in
      subst (λ (xs : List ℕ). get_or xs k 0 < n.facts) (sym (hyps_are e)) q

-- Questions 34, 43 and 44 -------------------------------------------------------------------------------------------------------------------------

module _ {facts lists : List ℕ} {n : Sizes} {plain used : List ℕ} {x w : ℕ} {ids : List ℕ} (g : Resting facts lists n plain used x w ids) (i j : ℕ) where
  abbrev T : Made
  T = made g.I g.W g.m

  abbrev given : Out Made (Unit {0})
  given = case_fact g.S g.M g.ps (hyps_in T w g.many ids) i (tree g.I g.W g.m j) T

  -- behind the fact that is found
  abbrev behind_fact : Fact → Made → Out Made (Unit {0})
  behind_fact f U =
      then (ask 43 (same_tree f.judgment (tree g.I g.W g.m j)) U)
      (λ z N. ask 44 (all (λ h. allowed_hyp g.M g.ps (hyps_in T w g.many ids) (entry g.S.facts h)) f.hyps) N)

  fact_missing : n.facts ≤ i → given ≡ refuse 34 0 T
  unfolding case_fact then
  fact_missing l = ap (λ (o : Out Made Fact). then o behind_fact) (fact_none g.recorded T l)

  module _ (l : i < n.facts) (there : j < g.m.terms) where
    judged_row : cell 6 facts i 0 < g.m.terms
    judged_row = omega (arith, (row g i l).judgment.below, made_length g.I g.W g.m)

    same : same_tree (fact_of g.S i).judgment (tree g.I g.W g.m j) ≡ eqb (cell 6 facts i 0) j
    same = ap (λ (t : Tree). same_tree t (tree g.I g.W g.m j)) (sym (row g i l).judgment.tree) ∙ same_number g.good (cell 6 facts i 0) j judged_row there

    found_here : given ≡ then (ask 43 (eqb (cell 6 facts i 0) j) T) (λ z N. ask 44 (all (asked g i l) (fact_of g.S i).hyps) N)
    unfolding case_fact then
    found_here =
        ap (λ (o : Out Made Fact). then o behind_fact) (fact_found g.recorded T l)
        ∙ ap (λ (b : Bool). then (ask 43 b T) (λ z N. ask 44 (all (asked g i l) (fact_of g.S i).hyps) N)) same

    fact_other : (cell 6 facts i 0 ≡ j → ⊥) → given ≡ refuse 43 0 T
    unfolding then
    fact_other q =
        found_here
        ∙ ap (λ (b : Bool). then (ask 43 b T) (λ z N. ask 44 (all (asked g i l) (fact_of g.S i).hyps) N)) (ne_eqb (cell 6 facts i 0) j q)

    module _ (q : cell 6 facts i 0 ≡ j) (r : Bool) (a : r ≡ all (asked g i l) (fact_of g.S i).hyps) where
      last_question : given ≡ ask 44 r T
      unfolding then
      last_question =
          found_here
          ∙ ap (λ (b : Bool). then (ask 43 b T) (λ z N. ask 44 (all (asked g i l) (fact_of g.S i).hyps) N)) (eq-eqb (cell 6 facts i 0) j q)
          ∙ ap (λ (b : Bool). ask 44 b T) (sym a)

      pub fact_rests_not : r ≡ false → given ≡ refuse 44 0 T
      fact_rests_not f = last_question ∙ ap (λ (b : Bool). ask 44 b T) f

      pub fact_rests : r ≡ true → given ≡ ok tt T
      fact_rests f = last_question ∙ ap (λ (b : Bool). ask 44 b T) f

  -- what `concludes` refuses
  pub fact_refused : j < g.m.terms → {q : Question} → ((q ≡ Earlier) × (n.facts ≤ i)) ⊎ ((q ≡ CaseJudgment) × (i < n.facts) × (cell 6 facts i 0 ≢ j)) →
      given ≡ refuse (number_of q) (detail_of q) T
  fact_refused there (inl p) = fact_missing p.1 ∙ ap (λ (q : Question). refuse (number_of q) (detail_of q) T) (sym p.0)
  fact_refused there (inr p) = fact_other p.1 there p.2 ∙ ap (λ (q : Question). refuse (number_of q) (detail_of q) T) (sym p.0)
