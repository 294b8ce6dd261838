-- One turn of the loop over the premises of a rule: the reference of one more is read, and what it brings joins the sets. Assumes nothing.
use mathlib.Core.Path.{◌≡◌, sym, ap, ◌∙◌, subst}
use mathlib.Core.Bool.{Bool}
use mathlib.Core.List.{List}
use Prim.Native.Nat.{ℕ, suc, ◌+◌, ◌<◌, ◌≤◌}
use native.Mathlib.Omega.{arith}
use native.Mathlib.Numerals.{add-one}
use lib.ListN.{length, get_or}
use Rattle.rules.specs.Out.{Out, ok, then}
use Rattle.rules.specs.Find.{has, union}
use Rattle.rules.specs.Sexp.{Sexps, cons}
use Rattle.rules.specs.Tree.{Trees, variables, variables_of}
use Rattle.rules.specs.Store.{Made}
use Rattle.rules.specs.Unify.{Binding}
use Rattle.rules.specs.State.{State}
use Rattle.rules.specs.Reference.{Ref}
use Rattle.rules.specs.Step.{Refs, no_refs, with_ref}
use Rattle.rules.specs.Apply.{discharge}
use Rattle.rules.specs.Laws.Out.{then_then}
use Rattle.rules.specs.Laws.Set.{union_empty}
use Rattle.rules.specs.Laws.Rising.{has_all}
use Rattle.rules.specs.Laws.Tree.{variables_more}
use Rattle.sexp.specs.Items.{Holds}
use Rattle.sexp.specs.Each.{Here}
use Rattle.sexp.specs.declared.items.Each.{Each}
use Rattle.sexp.specs.WalkLaws.{walk_over}
use Rattle.terms.specs.declared.store.Mark.{Mark}
use Rattle.terms.specs.Table.{made, tree}
use Rattle.terms.specs.Sets.{holds}
use Rattle.terms.specs.Collect.{Seen, Readable, Visited}
use Rattle.terms.specs.Theta.{Theta, bindings}
use Rattle.terms.specs.On.{On, Stopped, on_is, on_ok, on_no, on_done}
use Rattle.terms.specs.Laws.Growth.{made_length}
use Rattle.terms.specs.Laws.Seen.{seen_grown}
use Rattle.terms.specs.Laws.Theta.{bindings_grown, theta_grown}
use Rattle.state.specs.declared.sizes.Sizes.{Sizes}
use Rattle.state.specs.Held.{Names, records}
use Rattle.state.specs.Numbered.{AllNumbered}
use Rattle.state.specs.FactLaws.{FactRow, fact_row_lem}
use Rattle.referring.specs.Recall.{fact_of, RecallsFact, Refers, RefersItem}
use Rattle.referring.specs.Referral.{rests_on, ref_of, RefRead}
use Rattle.derivation.specs.Applying.{RuleFact, premise_numbers, met_by, Discharged}
use Rattle.referring.specs.Laws.Refers.{refers_ready, refers_went}
use Rattle.reading.specs.Laws.Walks.{Here as Item, here, walk_next}
use Rattle.derivation.proofs.RulePremises.{premises_numbered, drop_trees, premise_below, premise_next}
use Rattle.derivation.proofs.Discharging.{and_others, discharge_more, met_keeps, under_union, union_more, rests_all, premises_of, Left}
use Rattle.sexp.specs.FirstItem.{count_more}

-- the number of premise k, where it is counted so
pub premise_at : (ns : List ℕ) {p j k : ℕ} → p ≡ get_or ns j 0 → j ≡ k → p ≡ get_or ns k 0
premise_at ns e f = e ∙ ap (λ (v : ℕ). get_or ns v 0) f

module _ {K : Names} {facts footings lists : List ℕ} {n : Sizes} {I W : List ℕ} {old : Mark} {i : ℕ} {cells bound : List ℕ} {S : State} {xs : Sexps} {J X : List ℕ} {now : Mark}
    {hyps footing used seen : List ℕ} {k at : ℕ} (l : Left K facts footings lists n I W old i cells bound S xs J X now hyps footing used seen k at) where
  -- what all of the premises give
  abbrev left_all : Out Made Refs
  left_all = discharge S (bindings (made I W old) bound 0) xs (premises_of S i) (made I W old)

  -- nothing is left
  pub left_done : length cells ≤ at → Discharged I W J X old S left_all hyps footing used now
  unfolding discharge then variables
  left_done h =
      record {
        refs = l.whole no_refs;
        went = on_done (on_is l.on (ap (λ (z : Sexps). then (discharge S (bindings (made I W old) bound 0) z (drop_trees k (premises_of S i)) (made J X now)) (λ rs U. ok (l.whole rs) U))
            (walk_over l.walk h)));
        rests = sym (l.rests no_refs ∙ union_empty (holds hyps));
        earlier = l.earlier;
        uses = sym (l.uses no_refs ∙ union_empty (holds footing));
        known = l.known;
        vars = sym (l.vars no_refs ∙ union_empty (holds used));
      }

  -- One premise ------------------------------------------------------------------------------------------------------------------------

  module _ {part : List ℕ} {next : Each} (w : Here cells part at next) where
    pub one : Item K.text cells at l.zs
    one = here l.walk w.inside

    pub left_inside : k < length (premise_numbers facts lists i)
    left_inside = omega (arith, l.many, count_more one.x one.ys l.zs one.is)

    abbrev pub left_rule : RuleFact facts lists i
    left_rule = record { S = S; n = n; trees = made J X now; footings = footings; recorded = l.refers.recorded; there = l.there }

    left_numbered : AllNumbered (made J X now) (premises_of S i) (premise_numbers facts lists i)
    left_numbered = premises_numbered l.refers.recorded l.there

    abbrev pub left_given : RefersItem K facts n J X now part
    left_given =
        record {
          S = S;
          footings = footings;
          lists = lists;
          x = one.x;
          ys = one.ys;
          refers = l.refers;
          holds = subst (λ z. Holds K.text z (cons one.x one.ys)) (sym w.is) one.holds;
        }

    pub left_theta : Theta now bound
    left_theta = theta_grown l.on.grown l.theta

    -- p: the number of the premise
    module _ {p : ℕ} (e : p ≡ get_or (premise_numbers facts lists i) k 0) where
      pub left_there : p < now.terms
      left_there = omega (arith, e, premise_below left_numbered left_inside, made_length J X now)

      -- behind its reference
      abbrev others : Ref → Made → Out Made Refs
      others r U = then (and_others S (bindings (made I W old) bound 0) one.ys (drop_trees (suc k) (premises_of S i)) r U) (λ rs T. ok (l.whole rs) T)

      one_is : then (discharge S (bindings (made I W old) bound 0) l.zs (drop_trees k (premises_of S i)) (made J X now)) (λ rs U. ok (l.whole rs) U)
          ≡ then (met_by S (bindings (made J X now) bound 0) (tree J X now p) one.x (made J X now)) others
      one_is =
          ap (λ (z : Sexps). then (discharge S (bindings (made I W old) bound 0) z (drop_trees k (premises_of S i)) (made J X now)) (λ rs U. ok (l.whole rs) U)) one.is
          ∙ ap (λ (q : Trees). then (discharge S (bindings (made I W old) bound 0) (cons one.x one.ys) q (made J X now)) (λ rs U. ok (l.whole rs) U))
          (premise_next left_numbered left_inside)
          ∙ ap (λ (o : Out Made Refs). then o (λ rs U. ok (l.whole rs) U))
          (discharge_more S (bindings (made I W old) bound 0) one.x one.ys (tree J X now (get_or (premise_numbers facts lists i) k 0))
          (drop_trees (suc k) (premises_of S i)) (made J X now))
          ∙ then_then (met_by S (bindings (made I W old) bound 0) (tree J X now (get_or (premise_numbers facts lists i) k 0)) one.x (made J X now))
          (and_others S (bindings (made I W old) bound 0) one.ys (drop_trees (suc k) (premises_of S i))) (λ rs T. ok (l.whole rs) T)
          ∙ ap (λ (bs : List Binding). then (met_by S bs (tree J X now (get_or (premise_numbers facts lists i) k 0)) one.x (made J X now)) others)
          (sym (bindings_grown l.on.grown l.theta))
          ∙ ap (λ (j : ℕ). then (met_by S (bindings (made J X now) bound 0) (tree J X now j) one.x (made J X now)) others) (sym e)

      on_one : On I W old left_all J X now (then (met_by S (bindings (made J X now) bound 0) (tree J X now p) one.x (made J X now)) others)
      on_one = on_is l.on one_is

      -- what `met` answers
      module _ (Y Z : List ℕ) {new : Mark} where
        pub left_refused : {a d : ℕ} → ((h : RefersItem K facts n J X now part) →
            Stopped J X Y Z now (met_by h.S (bindings (made J X now) bound 0) (tree J X now p) h.x (made J X now)) a d new) →
            Stopped I W Y Z old left_all a d new
        left_refused q = on_no _ on_one (q left_given)

        module _ {j f : ℕ} {bare : Bool} (q : (h : RefersItem K facts n J X now part) →
            RefRead J X Y Z now h.S (met_by h.S (bindings (made J X now) bound 0) (tree J X now p) h.x (made J X now)) j f bare new) where
          left_read : RefRead J X Y Z now S (met_by S (bindings (made J X now) bound 0) (tree J X now p) one.x (made J X now)) j f bare new
          left_read = q left_given

          pub left_refers : Refers K facts footings lists n Y Z new S
          left_refers =
              refers_went l.refers
              (met_keeps S (bindings (made J X now) bound 0) (tree J X now p) one.x (made J X now) (refers_ready l.refers)) left_read.went

          pub early : f < n.facts
          early = omega (arith, left_read.earlier, l.refers.recorded.many)

          -- what `join` asks
          abbrev pub left_join : RecallsFact facts footings lists f
          left_join = record { S = S; n = n; trees = made Y Z new; recorded = left_refers.recorded; there = early }

          -- what `visit` asks
          pub left_visit : length seen ≡ 64 → length used ≡ 8 → Readable Y Z new j seen used × Seen Y Z new (holds seen) (holds used)
          left_visit a b = (
            record { good = left_read.went.grown.good; there = left_read.there; wide = omega arith; broad = omega arith },
            seen_grown left_read.went.grown l.visits,
          )

          left_row : FactRow (records facts footings lists) n (made Y Z new) S f (fact_of S f)
          left_row = fact_row_lem left_refers.recorded f early

          module _ (hyps' footing' used' seen' : List ℕ)
              (a : (holds hyps' ≡ union (holds hyps) (has (rests_on S f bare))) × (holds footing' ≡ union (holds footing) (has (fact_of S f).footing)))
              (v : Visited Y Z new j (holds seen) (holds used) (holds seen') (holds used')) where
            abbrev this : Ref
            this = ref_of S (tree Y Z new j) f bare

            on_next : On I W old left_all Y Z new
                (then (discharge S (bindings (made I W old) bound 0) one.ys (drop_trees (k + 1) (premises_of S i)) (made Y Z new)) (λ rs T. ok (l.whole (with_ref this rs)) T))
            unfolding then
            on_next =
                on_is (on_ok _ on_one left_read.went)
                (then_then (discharge S (bindings (made I W old) bound 0) one.ys (drop_trees (suc k) (premises_of S i)) (made Y Z new))
                (λ rs T. ok (with_ref this rs) T) (λ rs T. ok (l.whole rs) T)
                ∙ ap (λ (h : ℕ). then (discharge S (bindings (made I W old) bound 0) one.ys (drop_trees h (premises_of S i)) (made Y Z new)) (λ rs T. ok (l.whole (with_ref this rs)) T))
                (sym (add-one k)))

            pub left_again : Left K facts footings lists n I W old i cells bound S xs Y Z new hyps' footing' used' seen' (k + 1) next.at
            left_again =
                record {
                  zs = one.ys;
                  walk = walk_next one.walk w.behind;
                  refers = left_refers;
                  there = l.there;
                  theta = l.theta;
                  many = omega (arith, l.many, count_more one.x one.ys l.zs one.is);
                  whole = λ rs. l.whole (with_ref this rs);
                  on = on_next;
                  rests = λ rs. l.rests (with_ref this rs) ∙ union_more (holds hyps) (has (rests_on S f bare)) rs.hyps (holds hyps') a.0;
                  uses = λ rs. l.uses (with_ref this rs) ∙ union_more (holds footing) (has (fact_of S f).footing) rs.footing (holds footing') a.1;
                  vars = λ rs. l.vars (with_ref this rs) ∙ ap (union (holds used)) (variables_more (tree Y Z new j) rs.judgments)
                      ∙ union_more (holds used) (variables (tree Y Z new j)) (variables_of rs.judgments) (holds used') v.set;
                  earlier = under_union (holds hyps) (has (rests_on S f bare)) (holds hyps') (length S.facts) a.0 l.earlier
                      (λ h e. let z = has_all (rests_on S f bare) h (rests_all S f bare left_row.hyps_below) e in omega (arith, l.refers.recorded.many));
                  known = under_union (holds footing) (has (fact_of S f).footing) (holds footing') (length S.theory.rules) a.1 l.known
                      (λ h e. has_all (fact_of S f).footing h left_row.shaped.footing.rules e);
                  visits = v.visits;
                }
