-- A case of `invert` is judged under the unifier: what it may rest on, then its fact; and a rule with a case. Assumes nothing.
use Rattle.state.specs.Records.{fact_rows}
use mathlib.Core.Path.{◌≡◌, refl, sym, ap, ◌∙◌, subst}
use mathlib.Core.Bool.{Bool, true, false}
use Rattle.std.specs.Prelude.{Option, Some as some, None as nothing, Ok, Err}
use mathlib.Core.List.{List, ◌++◌}
use Prim.Native.Nat.{ℕ, ◌<◌}
use native.Mathlib.Omega.{arith}
use lib.Dec.{ltb}
use lib.ListN.{length, get_or, replicate}
use borrow.Author.Tests.{lt-ltb, ltb-true}
use Rattle.rules.specs.Limits.{TERMS, TERMWORDS, FACTWORDS}
use Rattle.rules.specs.Out.{Out, then}
use Rattle.rules.specs.Tree.{Tree}
use Rattle.rules.specs.Store.{Made, substitute}
use Rattle.rules.specs.Unify.{Binding, along}
use Rattle.rules.specs.Theory.{Theory, rule}
use Rattle.rules.specs.Invert.{Allowed, renaming, rule_premises, context_facts}
use Rattle.rules.specs.Laws.Theory.{all_at}
use Rattle.terms.specs.declared.store.Mark.{Mark}
use Rattle.terms.specs.Table.{made, tree, Grown}
use Rattle.terms.specs.Sets.{holds}
use Rattle.terms.specs.Patterns.{cells_of}
use Rattle.terms.specs.Subst.{replacement}
use Rattle.terms.specs.Theta.{bindings}
use Rattle.terms.specs.On.{Went, Stopped, On, on_start, on_is, on_ok, on_no, on_went, on_stopped, on_done, on_refused}
use Rattle.terms.specs.Laws.Growth.{made_length, grown_tree, grown_there, grown_trans}
use Rattle.terms.specs.Laws.Theta.{bindings_grown, theta_grown, along_is}
use Rattle.terms.specs.Laws.Bound.{bound_grown, cells_grown}
use Rattle.state.specs.declared.sizes.Sizes.{Sizes}
use Rattle.cells.specs.declared.Span.{Span}
use Rattle.state.specs.Rows.{hyps_span}
use Rattle.state.specs.Entries.{part}
use Rattle.referring.specs.declared.source.Facts.{Facts}
use Rattle.referring.specs.declared.source.Source.{Source}
use Rattle.referring.specs.Sources.{facts_of}
use Rattle.referring.specs.Recall.{fact_of, Recalls}
use Rattle.terms.specs.Table.{Below}
use Rattle.casework.specs.Context.{ContextGiven, ContextRead, all_of, PremisesRead}
use Rattle.inversion.specs.InvertRules.{Judging, judged, judges, own_span, Verdict, verdict_of, Having, has_case, meets, Met, MetBy}
use Rattle.reading.specs.Answers.{PassedBy}
use Rattle.casework.specs.Laws.Facts.{recalls_grown}
use Rattle.casework.specs.Laws.Rows.{row}
use Rattle.inversion.proofs.InvertVerdicts.{Answer}
use Rattle.inversion.proofs.InvertRests.{rests_all, said, said_is, asked}

-- The hypotheses of the case's fact ------------------------------------------------------------------------------------------------------------

abbrev span_by : List ℕ → ℕ → Bool → Span
span_by facts i b = elim b as (λ (z : Bool). Span) [ true ↦ hyps_span facts i | false ↦ record { from = 0; end = 0 } ]

-- as `own_hyps` answers them
pub own_said : (s : Source) {f : Facts} {own : List ℕ} (i : ℕ) → f ≡ facts_of s → own ≡ part f.lists.now (own_span (fact_rows f.records.now) f.n i) →
    own ≡ part s.lists.now (own_span (fact_rows s.records.now) s.reader.n i)
own_said s i e o = o ∙ ap (λ (f : Facts). part f.lists.now (own_span (fact_rows f.records.now) f.n i)) e

module _ {facts lists : List ℕ} {n : Sizes} {I W : List ℕ} {m : Mark} (g : Recalls facts lists n I W m) where
  module _ (i : ℕ) {s : Span} (e : s ≡ own_span facts n i) where
    pub own_is : i < n.facts → part lists s ≡ (fact_of g.S i).hyps
    own_is l = ap (part lists) e ∙ ap (λ (b : Bool). part lists (span_by facts i b)) (lt-ltb i n.facts l) ∙ (row g l).hyps

    pub own_there : Below n.facts (part lists s)
    own_there = subst (λ (p : Span). Below n.facts (part lists p)) (sym e) (go (ltb i n.facts) refl)
      where
        go : (b : Bool) → ltb i n.facts ≡ b → Below n.facts (part lists (span_by facts i b))
        go true q k p =
            let l = ltb-true i n.facts q in
            let z : part lists (hyps_span facts i) ≡ (fact_of g.S i).hyps = (row g l).hyps in
            subst (λ (xs : List ℕ). get_or xs k 0 < n.facts) (sym z)
            (all_at (fact_of g.S i).hyps k 0 (row g l).hyps_below (subst (λ (xs : List ℕ). k < length xs) z p))
        go false q k p = absurd (omega (arith, p))

judged_said : {I W J X : List ℕ} {m new : Mark} {K : Out Made (Unit {0})} (a : Answer) → On I W m K J X new (said a (made J X new)) → PassedBy I W J X m new K a
judged_said (Ok _) o = on_done o
judged_said (Err q) o = on_refused o

-- The case behind its judgment -----------------------------------------------------------------------------------------------------------------

module _ {symbols rules patterns facts lists : List ℕ} {n : Sizes} {I W : List ℕ} {m : Mark} {r t : ℕ} {cells theta memo context ids : List ℕ}
    (g : Judging symbols rules patterns facts lists n I W m r t cells theta memo context ids) where
  abbrev θ : List Binding
  θ = bindings (made I W m) theta 0

  abbrev premised : Out Made (List Allowed)
  premised = rule_premises (renaming g.renamed.xs) (along θ) (rule g.renamed.T r).premises (made I W m)

  abbrev whole : ℕ → Out Made (Unit {0})
  whole i = judged g.recalls.S (rule g.renamed.T r) (renaming g.renamed.xs) θ context i (tree I W m t) (made I W m)

  pub judge_unmade : (i : ℕ) {J X : List ℕ} {q d : ℕ} {mid : Mark} → Stopped I W J X m premised q d mid → Stopped I W J X m (whole i) q d mid
  judge_unmade i s = on_no _ (on_start g.recalls.good) s

  module _ (i : ℕ) {own : List ℕ} (o : own ≡ part lists (own_span facts n i)) {J X plain plain' : List ℕ} {mid : Mark}
      (p : PremisesRead I W J X m premised plain plain' mid) where
    -- what `context_facts` asks
    pub judge_given : {memo' : List ℕ} → memo' ≡ memo → ContextGiven facts lists n J X mid theta memo' own
    judge_given f = record {
      recalls = recalls_grown p.went.grown g.recalls;
      cells = theta_grown p.went.grown g.theta_is;
      empty = f ∙ g.empty;
      known = subst (Below n.facts) (sym o) (own_there g.recalls i refl);
    }

    abbrev read : List Binding → Out Made (List Allowed)
    read ζ = context_facts g.recalls.S ζ context (made J X mid)

    reads : read (bindings (made J X mid) theta 0) ≡ read θ
    reads = ap read (bindings_grown p.went.grown g.theta_is)

    on_made : On I W m (whole i) J X mid
        (then (read θ) (λ bs U. asked g.recalls.S i (tree I W m t) U (holds plain) (holds plain) (p.these ++ bs)))
    on_made = on_ok _ (on_start g.recalls.good) p.went

    pub judge_unread : {Y Z : List ℕ} {q d : ℕ} {new : Mark} → Stopped J X Y Z mid (read (bindings (made J X mid) theta 0)) q d new → Stopped I W Y Z m (whole i) q d new
    judge_unread w = on_no _ on_made (record { grown = w.grown; makes = sym reads ∙ w.makes })

    module _ {Y Z plain'' fine fine' : List ℕ} {new : Mark}
        (c : ContextRead (List Allowed) J X Y Z mid g.recalls.S (read (bindings (made J X mid) theta 0)) all_of own plain' plain'' fine fine' new) where
      abbrev grown_now : Grown I W Y Z m new
      grown_now = grown_trans p.went.grown c.went.grown

      abbrev recalls_now : Recalls facts lists n Y Z new
      recalls_now = recalls_grown grown_now g.recalls

      -- what `verdict` asks
      abbrev pub judge_verdict : {own' : List ℕ} → own' ≡ own → Verdict facts n i t own'
      judge_verdict f = record {
        given = record {
          S = g.recalls.S;
          footings = g.recalls.footings;
          lists = lists;
          trees = made Y Z new;
          recorded = recalls_now.recorded;
          apart = grown_now.good.apart;
          few = omega (arith, made_length Y Z new, grown_now.good.room);
        };
        there = omega (arith, made_length Y Z new, grown_there grown_now t g.there);
        owns = f ∙ o;
      }

      pub judge_done : (a : Answer) → a ≡ verdict_of g.recalls.S (made Y Z new) i (tree Y Z new t) (holds plain'') (holds fine') →
          plain ≡ replicate TERMWORDS 0 → fine ≡ replicate FACTWORDS 0 → PassedBy I W Y Z m new (whole i) a
      judge_done a v zp zf =
          judged_said a
          (on_is (on_ok _ on_made (record { grown = c.went.grown; makes = sym reads ∙ c.went.makes }))
          (said_is g.recalls.S i (tree I W m t) (made Y Z new) (holds plain'') (holds fine') (p.these ++ c.answer) recalls_now.recorded
          (λ l. rests_all p.these p.adds p.only c.went.grown c.adds recalls_now.recorded grown_now.good.apart zp zf l (o ∙ own_is g.recalls i refl l))
          ∙ ap (λ (k : Answer). said k (made Y Z new))
          (sym (v ∙ ap (λ (u : Tree). verdict_of g.recalls.S (made Y Z new) i u (holds plain'') (holds fine')) (grown_tree grown_now t g.there)))))

-- The judgment under the unifier ---------------------------------------------------------------------------------------------------------------

module _ {I W : List ℕ} {m : Mark} {K : Out Made (Unit {0})} {J X : List ℕ} {now : Mark} {rest : Out Made (Unit {0})} (o : On I W m K J X now rest) where
  judged_on : (Y Z : List ℕ) (new : Mark) (a : Answer) → PassedBy J X Y Z now new rest a → PassedBy I W Y Z m new K a
  judged_on Y Z new (Ok _) w = on_went o w
  judged_on Y Z new (Err q) s = on_stopped o s

module _ {symbols rules patterns facts lists : List ℕ} {n : Sizes} {I W : List ℕ} {m : Mark} {r j : ℕ} {cells theta memo context ids : List ℕ}
    (g : Judging symbols rules patterns facts lists n I W m r j cells theta memo context ids) where
  -- the same beside what is made later
  abbrev pub judging_now : {J X : List ℕ} {new : Mark} → Grown I W J X m new → {t : ℕ} → t < new.terms → {memo' : List ℕ} → memo' ≡ memo →
      Judging symbols rules patterns facts lists n J X new r t cells theta memo' context ids
  judging_now w l e = record {
    recalls = recalls_grown w g.recalls;
    renamed = record {
      T = g.renamed.T;
      xs = g.renamed.xs;
      formed = g.renamed.formed;
      known = g.renamed.known;
      many = g.renamed.many;
      binds = λ i p. ap (λ (b : ℕ → Option Tree). b i) (bound_grown w g.renamed.within) ∙ g.renamed.binds i p;
      within = cells_grown w g.renamed.within;
      good = w.good;
    };
    theory = g.theory;
    theta_is = theta_grown w g.theta_is;
    empty = e ∙ g.empty;
    there = l;
    known = g.known;
    zero = g.zero;
  }

  abbrev all_of_it : ℕ → Out Made (Unit {0})
  all_of_it i = judges g.recalls.S (rule g.renamed.T r) (renaming g.renamed.xs) (bindings (made I W m) theta 0) context i (tree I W m j) (made I W m)

  abbrev rest_of_it : ℕ → List Binding → Tree → Made → Out Made (Unit {0})
  rest_of_it i ζ u U = judged g.recalls.S (rule g.renamed.T r) (renaming g.renamed.xs) ζ context i u U

  first_step : substitute (replacement (made I W m) theta) (tree I W m j) (made I W m) ≡ substitute (along (bindings (made I W m) theta 0)) (tree I W m j) (made I W m)
  first_step = ap (λ (σ : ℕ → Tree). substitute σ (tree I W m j) (made I W m)) (sym (along_is (made I W m) theta))

  pub judge_stop : (i : ℕ) {J X : List ℕ} {q d : ℕ} {new : Mark} → Stopped I W J X m (substitute (replacement (made I W m) theta) (tree I W m j) (made I W m)) q d new →
      Stopped I W J X m (all_of_it i) q d new
  judge_stop i s = on_no _ (on_start g.recalls.good) (record { grown = s.grown; makes = sym first_step ∙ s.makes })

  pub judge_under : (i : ℕ) {J X : List ℕ} (t : ℕ) {new : Mark} →
      Went I W J X m (substitute (replacement (made I W m) theta) (tree I W m j) (made I W m)) (tree J X new t) new → (Y Z : List ℕ) (last : Mark) (a : Answer) →
      PassedBy J X Y Z new last (rest_of_it i (bindings (made J X new) theta 0) (tree J X new t) (made J X new)) a → PassedBy I W Y Z m last (all_of_it i) a
  judge_under i {J} {X} t {new} w Y Z last a =
      judged_on (on_is (on_ok _ (on_start g.recalls.good) (record { grown = w.grown; makes = sym first_step ∙ w.makes }))
      (ap (λ (ζ : List Binding). rest_of_it i ζ (tree J X new t) (made J X new)) (sym (bindings_grown w.grown g.theta_is)))) Y Z last a

-- A rule with a case ---------------------------------------------------------------------------------------------------------------------------

module _ {symbols rules patterns facts lists : List ℕ} {n : Sizes} {I W : List ℕ} {m : Mark} {r s j : ℕ} {list context : List ℕ} {count : ℕ} {ids : List ℕ}
    (g : Having symbols rules patterns facts lists n I W m r s j list context count ids) where
  abbrev met : Theory → Out Made (Option (List Binding))
  met T = meets list count (tree I W m s) (rule T r) (made I W m)

  abbrev case_of_lem : Theory → ℕ → Out Made (Unit {0})
  case_of_lem T i = has_case g.recalls.S list count (tree I W m s) (rule T r) context i (tree I W m j) (made I W m)

  cases_same : (i : ℕ) → case_of_lem g.recalls.S.theory i ≡ case_of_lem g.meeting.T i
  cases_same i = ap (λ (T : Theory). case_of_lem T i) (sym g.theory)

  begun : (i : ℕ) → On I W m (case_of_lem g.recalls.S.theory i) I W m (case_of_lem g.meeting.T i)
  begun i = on_is (on_start g.recalls.good) (cases_same i)

  having_apart : (i : ℕ) {J X : List ℕ} {new : Mark} → Went I W J X m (met g.meeting.T) nothing new → Stopped I W J X m (case_of_lem g.recalls.S.theory i) 46 0 new
  having_apart i w = on_refused (on_ok _ (begun i) w)

  pub having_full : (i : ℕ) {J X : List ℕ} {q d : ℕ} {new : Mark} → Stopped I W J X m (met g.meeting.T) q d new → Stopped I W J X m (case_of_lem g.recalls.S.theory i) q d new
  having_full i w = on_no _ (begun i) w

  module _ (J X theta : List ℕ) (new : Mark) {o : Option (List (Option ℕ))} (w : MetBy I W J X m new (met g.meeting.T) list theta (Ok o)) where
    pub having_met : {bound : List (Option ℕ)} → o ≡ some bound → Met I W J X m (met g.meeting.T) list (cells_of bound) theta new
    having_met e = subst (λ (z : Option (List (Option ℕ))). MetBy I W J X m new (met g.meeting.T) list theta (Ok z)) e w

    pub having_unmet : (i : ℕ) → o ≡ nothing → Stopped I W J X m (case_of_lem g.recalls.S.theory i) 46 0 new
    having_unmet i e = having_apart i (subst (λ (z : Option (List (Option ℕ))). MetBy I W J X m new (met g.meeting.T) list theta (Ok z)) e w).0

  module _ {J X cells theta : List ℕ} {new : Mark} (w : Met I W J X m (met g.meeting.T) list cells theta new) where
    -- what `judge` asks
    abbrev pub having_judging : {memo : List ℕ} → memo ≡ replicate TERMS 0 → Judging symbols rules patterns facts lists n J X new r j cells theta memo context ids
    having_judging e = record {
      recalls = recalls_grown w.went.grown g.recalls;
      renamed = record {
        T = g.meeting.T;
        xs = list;
        formed = g.meeting.formed;
        known = g.meeting.known;
        many = g.meeting.many;
        binds = w.binds;
        within = w.cells;
        good = w.went.grown.good;
      };
      theory = g.theory;
      theta_is = w.theta_is;
      empty = e;
      there = grown_there w.went.grown j g.there;
      known = g.known;
      zero = g.zero;
    }

    pub having_judged : (i : ℕ) (Y Z : List ℕ) (last : Mark) (a : Answer) →
        PassedBy J X Y Z new last (judges g.recalls.S (rule g.meeting.T r) (renaming list) (bindings (made J X new) theta 0) context i (tree J X new j) (made J X new)) a →
        PassedBy I W Y Z m last (case_of_lem g.recalls.S.theory i) a
    having_judged i Y Z last a =
        judged_on (on_is (on_ok _ (begun i) w.went)
        (ap (λ (u : Tree). judges g.recalls.S (rule g.meeting.T r) (renaming list) (bindings (made J X new) theta 0) context i u (made J X new))
        (sym (grown_tree w.went.grown j g.there)))) Y Z last a
