-- The form `apply` from its index on: what each part of it answers, and what the next part is given. Assumes nothing.
use Rattle.std.specs.Prelude.{Some as some, None as nothing, Option, Result, Ok, Err}
use mathlib.Core.Path.{◌≡◌, refl, sym, ap, ◌∙◌, subst}
use mathlib.Core.Bool.{Bool, true, false, not}
use mathlib.Core.List.{List, []}
use Prim.Native.Nat.{ℕ, ◌<◌}
use native.Mathlib.Omega.{arith}
use lib.Dec.{eqb, ltb}
use lib.ListN.{length, drop}
use borrow.Author.Tests.{eq-eqb, ne_eqb}
use Rattle.rules.specs.Out.{Out, ok, refuse, then, ask, found}
use Rattle.rules.specs.Sexp.{Sexp, Sexps, cons, count, item, rest, items}
use Rattle.rules.specs.Tree.{Tree, count_trees, sub}
use Rattle.rules.specs.Store.{Made, substitute}
use Rattle.rules.specs.Unify.{Binding, along}
use Rattle.rules.specs.State.{State, Fact}
use Rattle.rules.specs.Reference.{bindings as read_bindings}
use Rattle.rules.specs.Apply.{Applied, applied, apply}
use Rattle.rules.specs.Laws.Sexp.{rest_item}
use Rattle.rules.proofs.Laws.MakingWalk.{substitute_keeps}
use Rattle.sexp.specs.Encode.{encodes}
use Rattle.sexp.specs.Items.{Holds, place}
use Rattle.sexp.specs.WalkLaws.{AtomIs}
use Rattle.sexp.specs.Each.{ListOf}
use Rattle.sexp.specs.FoundLaws.{found_at, found_missing}
use Rattle.terms.specs.declared.store.Mark.{Mark}
use Rattle.terms.specs.Table.{made, tree, Stored, Refused}
use Rattle.terms.specs.Subst.{replacement, substituted, Replaceable}
use Rattle.terms.specs.Theta.{Theta, bindings}
use Rattle.terms.specs.On.{On, Stopped, stored_went, refused_stopped, on_start, on_is, on_ok, on_no, on_pure, on_stop, on_went, on_stopped, on_ask_yes, on_ask_no, on_found_some, on_found_none}
use Rattle.terms.specs.Laws.Growth.{made_length}
use Rattle.terms.specs.Laws.Numbers.{stored_is}
use Rattle.terms.specs.Laws.Theta.{bindings_grown, theta_grown}
use Rattle.state.specs.declared.sizes.Sizes.{Sizes}
use Rattle.state.specs.Held.{Names, records}
use Rattle.state.specs.Rows.{cell}
use Rattle.state.specs.FactLaws.{FactRow, fact_row_lem}
use Rattle.questions.specs.declared.Question.{Question}
use Rattle.referring.specs.declared.support.Derived.{Derived}
use Rattle.reading.specs.Items.{FirstItem, index_in, index_found}
use Rattle.reading.specs.Given.{ReadsItems}
use Rattle.reading.specs.Answers.{BindingsRead}
use Rattle.referring.specs.Recall.{fact_of, Refers}
use Rattle.referring.specs.Derived.{FactForm, DerivedBy, alone}
use Rattle.derivation.specs.Applying.{RuleFact, rule_of, premise_numbers, apply_to, apply_on, RuleUse}
use Rattle.state.specs.Looking.{not_late, is_late}
use Rattle.referring.specs.Laws.Behind.{from_holds}
use Rattle.referring.specs.Laws.Refers.{refers_ready, refers_went, refers_bindings, fact_found, fact_none}
use Rattle.derivation.proofs.RuleFacts.{rule_assumed_lem, rule_derived_lem}
use Rattle.derivation.proofs.RulePremises.{premises_numbered}
use Rattle.derivation.proofs.Meeting.{along_bindings}

-- an answer for what is left is the answer
module _ {I W J X : List ℕ} {m mid : Mark} {K left : Out Made Fact} (o : On I W m K J X mid left) (Y Z : List ℕ) (new : Mark) (S : State) where
  derived_on : (v : Result Derived Question) → DerivedBy Fact J X Y Z mid new S left alone v → DerivedBy Fact I W Y Z m new S K alone v
  derived_on (Ok d) r = record { went = on_went o r.went; there = r.there; earlier = r.earlier; known = r.known }
  derived_on (Err q) s = on_stopped o s

-- its conclusion is the fact's judgment
rule_concludes : (S : State) (i : ℕ) (f : Fact) → (rule_of S i f).conclusion ≡ f.judgment
rule_concludes S i f = go f.assumed refl
  where
    go : (b : Bool) → f.assumed ≡ b → (rule_of S i f).conclusion ≡ f.judgment
    go true e = ap (λ (a : Applied). a.conclusion) (rule_assumed_lem S [] i f e)
    go false e = ap (λ (a : Applied). a.conclusion) (rule_derived_lem S [] i f e)

-- Behind the bindings ----------------------------------------------------------------------------------------------------------------------

module _ {K : Names} {facts footings lists : List ℕ} {n : Sizes} {I W : List ℕ} {m : Mark} {cells : List ℕ} (g : FactForm K facts footings lists n I W m cells 5)
    {bound : List ℕ} (θ : Theta m bound) (i : ℕ) where
  abbrev rule_all : Out Made Fact
  rule_all = apply_on g.S i g.xs (bindings (made I W m) bound 0) (made I W m)

  abbrev rule : Applied
  rule = rule_of g.S i (fact_of g.S i)

  -- b: what `is_fact` answers
  module _ {b : Bool} (e : b ≡ ltb i n.facts) where
    pub rule_late : not b ≡ true → Stopped I W I W m rule_all 34 0 m
    rule_late t = on_stop _ (on_start g.refers.reads.good) (fact_none g.refers.recorded (made I W m) (is_late i n.facts b e t))

    module _ (there : not b ≡ false) where
      pub rule_early : i < n.facts
      rule_early = not_late i n.facts b e there

      abbrev pub rule_fact : RuleFact facts lists i
      rule_fact = record { S = g.S; n = n; trees = made I W m; footings = footings; recorded = g.refers.recorded; there = rule_early }

      rule_row_lem : FactRow (records facts footings lists) n (made I W m) g.S i (fact_of g.S i)
      rule_row_lem = fact_row_lem g.refers.recorded i rule_early

      on_fact : On I W m rule_all I W m (then (applied g.S (bindings (made I W m) bound 0) i (fact_of g.S i) (made I W m)) (λ a U.
          then (items 37 (item g.xs 4) U) (λ zs T. then (ask 37 (eqb (count zs) (count_trees a.premises)) T) (λ u Z.
          then (substitute (along (bindings (made I W m) bound 0)) a.conclusion Z) (λ j Q. apply_to g.S (bindings (made I W m) bound 0) a zs j Q)))))
      on_fact = on_pure _ (on_start g.refers.reads.good) (fact_found g.refers.recorded (made I W m) rule_early)

      -- what `applicable` answers
      pub rule_unfit : {q d : ℕ} → ((h : RuleFact facts lists i) (M N : Made) → applied h.S (bindings M bound 0) i (fact_of h.S i) N ≡ refuse q d N) →
          Stopped I W I W m rule_all q d m
      rule_unfit a = on_stop _ on_fact (a rule_fact (made I W m) (made I W m))

      module _ (a : (h : RuleFact facts lists i) (M N : Made) → applied h.S (bindings M bound 0) i (fact_of h.S i) N ≡ ok (rule_of h.S i (fact_of h.S i)) N) where
        on_applied : On I W m rule_all I W m (then (items 37 (item g.xs 4) (made I W m)) (λ zs T. then (ask 37 (eqb (count zs) (count_trees rule.premises)) T) (λ u Z.
            then (substitute (along (bindings (made I W m) bound 0)) rule.conclusion Z) (λ j Q. apply_to g.S (bindings (made I W m) bound 0) rule zs j Q))))
        on_applied = on_pure _ on_fact (a rule_fact (made I W m) (made I W m))

        pub rule_atom : (p : ℕ) × AtomIs K.text (item g.xs 4) p → Stopped I W I W m rule_all 37 0 m
        unfolding items
        rule_atom p = on_stop _ on_applied (ap (λ (x : Sexp). items 37 x (made I W m)) p.1.is)

        -- part: the cells of item 4
        module _ {part : List ℕ} (l : ListOf K.text cells (item g.xs 4) part) where
          on_items : On I W m rule_all I W m (then (ask 37 (eqb (count l.items) (count_trees rule.premises)) (made I W m)) (λ u Z.
              then (substitute (along (bindings (made I W m) bound 0)) rule.conclusion Z) (λ j Q. apply_to g.S (bindings (made I W m) bound 0) rule l.items j Q)))
          unfolding items
          on_items = on_pure _ on_applied (ap (λ (x : Sexp). items 37 x (made I W m)) l.is)

          -- k, p: what `count` and `premises_of` answer
          module _ {k p : ℕ} (d : (ys : Sexps) → part ≡ encodes ys → k ≡ count ys)
              (o : p ≡ length (premise_numbers facts lists i)) where
            items_many : count l.items ≡ k
            items_many = sym (d l.items l.holds.cells)

            premises_many : count_trees rule.premises ≡ p
            premises_many = sym (premises_numbered g.refers.recorded rule_early).many ∙ sym o

            pub rule_other : (k ≡ p → ⊥) → Stopped I W I W m rule_all 37 0 m
            rule_other x = on_ask_no _ 37 on_items (ne_eqb _ _ (λ y. x (sym items_many ∙ y ∙ premises_many)))

            module _ (x : k ≡ p) where
              on_many : On I W m rule_all I W m (then (substitute (along (bindings (made I W m) bound 0)) rule.conclusion (made I W m))
                  (λ j Q. apply_to g.S (bindings (made I W m) bound 0) rule l.items j Q))
              on_many = on_ask_yes _ 37 on_items (eq-eqb _ _ (items_many ∙ x ∙ sym premises_many))

              -- id: the fact's judgment
              module _ {id : ℕ} (y : id ≡ cell 6 facts i 0) where
                pub rule_replaceable : Replaceable I W m bound id
                rule_replaceable =
                    record { good = g.refers.reads.good; bound = θ.bound; there = omega (arith, y, rule_row_lem.judgment.below, made_length I W m) }

                conclusion_is : tree I W m id ≡ rule.conclusion
                conclusion_is = ap (λ (h : ℕ). tree I W m h) y ∙ rule_row_lem.judgment.tree ∙ sym (rule_concludes g.S i (fact_of g.S i))

                on_judgment : On I W m rule_all I W m (then (substitute (along (bindings (made I W m) bound 0)) (tree I W m id) (made I W m))
                    (λ j Q. apply_to g.S (bindings (made I W m) bound 0) rule l.items j Q))
                on_judgment =
                    on_is on_many (ap (λ (u : Tree). then (substitute (along (bindings (made I W m) bound 0)) u (made I W m))
                    (λ j Q. apply_to g.S (bindings (made I W m) bound 0) rule l.items j Q)) (sym conclusion_is))

                -- what `substitute` answers
                module _ (J X : List ℕ) {mid : Mark} where
                  pub rule_full : {row : ℕ} → Refused Tree I W J X m (substitute (replacement (made I W m) bound) (tree I W m id) (made I W m)) row mid →
                      Stopped I W J X m rule_all 60 row mid
                  rule_full {row} w =
                      on_no _ on_judgment
                      (refused_stopped (along_bindings I W m bound id (λ (z : Tree) (Q : Out Made Tree). Refused Tree I W J X m Q row mid) w))

                  module _ {j : ℕ} (w : Stored I W J X m (substituted I W m bound id) (substitute (replacement (made I W m) bound) (tree I W m id) (made I W m)) j mid) where
                    rule_stored : Stored I W J X m (sub (along (bindings (made I W m) bound 0)) (tree I W m id))
                        (substitute (along (bindings (made I W m) bound 0)) (tree I W m id) (made I W m)) j mid
                    rule_stored = along_bindings I W m bound id (λ (z : Tree) (Q : Out Made Tree). Stored I W J X m z Q j mid) w

                    pub rule_there : j < mid.terms
                    rule_there = rule_stored.there

                    pub rule_refers : Refers K facts footings lists n J X mid g.S
                    rule_refers =
                        refers_went g.refers
                        (substitute_keeps (along (bindings (made I W m) bound 0)) (tree I W m id) (made I W m) (refers_ready g.refers).good) (stored_went rule_stored)

                    pub rule_many : count l.items ≡ length (premise_numbers facts lists i)
                    rule_many = items_many ∙ x ∙ o

                    pub rule_theta : Theta mid bound
                    rule_theta = theta_grown rule_stored.grown θ

                    abbrev pub rule_given : RuleUse K facts footings lists n J X mid i part bound
                    rule_given =
                        record {
                          S = g.S;
                          xs = l.items;
                          refers = rule_refers;
                          there = rule_early;
                          holds = l.holds;
                          many = rule_many;
                          theta = rule_theta;
                        }

                    on_last : On I W m rule_all J X mid (apply_to g.S (bindings (made J X mid) bound 0) rule l.items (tree J X mid j) (made J X mid))
                    on_last =
                        on_is (on_ok _ on_judgment (stored_went rule_stored))
                        (ap (λ (u : Tree). apply_to g.S (bindings (made I W m) bound 0) rule l.items u (made J X mid)) (sym (stored_is rule_stored))
                        ∙ ap (λ (bs : List Binding). apply_to g.S bs rule l.items (tree J X mid j) (made J X mid)) (sym (bindings_grown rule_stored.grown θ)))

                    -- v: what `apply_to` answers
                    pub rule_answers : (Y Z : List ℕ) (new : Mark) (v : Result Derived Question) →
                        ((h : RuleUse K facts footings lists n J X mid i part bound) →
                        DerivedBy Fact J X Y Z mid new h.S
                        (apply_to h.S (bindings (made J X mid) bound 0) (rule_of h.S i (fact_of h.S i)) h.xs (tree J X mid j) (made J X mid)) alone v) →
                        DerivedBy Fact I W Y Z m new g.S rule_all alone v
                    rule_answers Y Z new v u = derived_on on_last Y Z new g.S v (u rule_given)

-- The whole form ---------------------------------------------------------------------------------------------------------------------------

-- behind its index
abbrev behind_index : State → Sexps → ℕ → Made → Out Made Fact
behind_index S xs i U = then (items 36 (item xs 3) U) (λ ys T. then (read_bindings S ys [] T) (λ bs Z. apply_on S i xs bs Z))

apply_is : (S : State) (xs : Sexps) (M : Made) → apply S xs M ≡ then (found 34 (index_in (item xs 2)) M) (behind_index S xs)
unfolding apply
apply_is S xs M = ap (λ (o : Out Made ℕ). then o (behind_index S xs)) (index_found 34 (item xs 2) M)

module _ {K : Names} {facts footings lists : List ℕ} {n : Sizes} {I W : List ℕ} {m : Mark} {cells : List ℕ} (g : FactForm K facts footings lists n I W m cells 5) where
  abbrev form_all : Out Made Fact
  form_all = apply g.S g.xs (made I W m)

  on_begin : On I W m form_all I W m (then (found 34 (index_in (item g.xs 2)) (made I W m)) (behind_index g.S g.xs))
  on_begin = on_is (on_start g.refers.reads.good) (apply_is g.S g.xs (made I W m))

  module _ {behind : List ℕ} (p : (ys : Sexps) → cells ≡ encodes ys → behind ≡ drop (place ys 2) cells) where
    index_holds : Holds K.text behind (cons (item g.xs 2) (rest g.xs 3))
    index_holds = subst (Holds K.text behind) (rest_item g.xs 2 (omega (arith, g.many))) (from_holds g.holds 2 p)

    pub index_given : FirstItem K.text behind
    index_given = record { x = item g.xs 2; ys = rest g.xs 3; holds = index_holds }

    -- r: what `index` answers
    module _ {r : Option ℕ} (h : (x : Sexp) (ys : Sexps) → Holds K.text behind (cons x ys) → r ≡ (index_in x)) where
      pub index_missing : r ≡ nothing → Stopped I W I W m form_all 34 0 m
      index_missing e = on_found_none _ 34 on_begin (found_missing (index_in (item g.xs 2)) r (h (item g.xs 2) (rest g.xs 3) index_holds) e)

      module _ {i : ℕ} (e : r ≡ some i) where
        on_index : On I W m form_all I W m (behind_index g.S g.xs i (made I W m))
        on_index = on_found_some _ 34 on_begin (found_at (index_in (item g.xs 2)) r i (h (item g.xs 2) (rest g.xs 3) index_holds) e)

        pub form_atom_lem : (q : ℕ) × AtomIs K.text (item g.xs 3) q → Stopped I W I W m form_all 36 0 m
        unfolding items
        form_atom_lem q = on_stop _ on_index (ap (λ (x : Sexp). items 36 x (made I W m)) q.1.is)

        -- part: the cells of item 3
        module _ {part : List ℕ} (l : ListOf K.text cells (item g.xs 3) part) where
          abbrev pub bindings_given : ReadsItems K n I W m part
          bindings_given = record { S = g.S; xs = l.items; reads = g.refers.reads; holds = l.holds }

          on_list : On I W m form_all I W m (then (read_bindings g.S l.items [] (made I W m)) (λ bs Z. apply_on g.S i g.xs bs Z))
          unfolding items
          on_list = on_pure _ on_index (ap (λ (x : Sexp). items 36 x (made I W m)) l.is)

          -- what `bindings` answers
          module _ (J X map : List ℕ) {mid : Mark} where
            pub form_refused : {before : List ℕ} {q e : ℕ} → ((h : ReadsItems K n I W m part) →
                Stopped I W J X m (read_bindings h.S h.xs [] (made I W m)) q e mid × (map ≡ before)) → Stopped I W J X m form_all q e mid
            form_refused d = on_no _ on_list (d bindings_given).0

            module _ (d : (h : ReadsItems K n I W m part) → BindingsRead I W J X m (read_bindings h.S h.xs [] (made I W m)) map mid) where
              pub form_read : BindingsRead I W J X m (read_bindings g.S l.items [] (made I W m)) map mid
              form_read = d bindings_given

              pub form_refers : Refers K facts footings lists n J X mid g.S
              form_refers = refers_bindings g.refers l.items form_read.went

              abbrev pub form_given : FactForm K facts footings lists n J X mid cells 5
              form_given = record { S = g.S; xs = g.xs; refers = form_refers; holds = g.holds; many = g.many }

              -- v: what `apply_on` answers
              pub form_answers : (Y Z : List ℕ) (new : Mark) (v : Result Derived Question) → ((h : FactForm K facts footings lists n J X mid cells 5) →
                  DerivedBy Fact J X Y Z mid new h.S (apply_on h.S i h.xs (bindings (made J X mid) map 0) (made J X mid)) alone v) →
                  DerivedBy Fact I W Y Z m new g.S form_all alone v
              form_answers Y Z new v u = derived_on (on_ok _ on_list form_read.went) Y Z new g.S v (u form_given)
