-- The loop over a list of hypotheses: each an earlier fact that passes the test. Assumes nothing.
use mathlib.Core.Path.{◌≡◌, refl, sym, ap, ◌∙◌, subst}
use mathlib.Core.Bool.{Bool, true, false, not}
use Rattle.std.specs.Prelude.{Option, Some as some, None as nothing, Result}
use mathlib.Core.List.{List, [], ◌∷◌, ◌++◌, append-nil, append_assoc}
use Prim.Native.Nat.{ℕ, ◌-◌, ◌*◌, ◌<◌, ◌≤◌}
use native.Mathlib.Omega.{arith}
use lib.Dec.{eqb}
use lib.ListN.{length, take, drop, replicate}
use Rattle.rules.specs.Limits.{FACTS, FACTWORDS}
use Rattle.rules.specs.Out.{Out, ok, refuse, then, ask, found}
use Rattle.rules.specs.Find.{has, entry, rising}
use Rattle.rules.specs.Sexp.{Sexp, Sexps, atom, list, cons, items}
use Rattle.rules.specs.Store.{Made}
use Rattle.rules.specs.State.{State, Fact, is_plain}
use Rattle.rules.specs.Read.{index}
use Rattle.rules.specs.Reference.{fact_at, hyp_each, hyp_list}
use Rattle.rules.specs.Laws.Theory.{All, empty, all_snoc}
use Rattle.rules.specs.Laws.Store.{then_ok, then_refuse}
use Rattle.rules.specs.Laws.Out.{then_then}
use Rattle.rules.specs.Laws.Entry.{entry_below}
use Rattle.rules.specs.Laws.Rising.{has_all}
use Rattle.rules.specs.Laws.Members.{has_rising_all}
use Rattle.sexp.specs.Items.{Holds, item_at, behind}
use Rattle.sexp.specs.WalkLaws.{Walk, walk_start, walk_over}
use Rattle.sexp.specs.Each.{ListOf}
use Rattle.terms.specs.Sets.{holds, plus}
use Rattle.terms.specs.Laws.Sets.{holds_zero}
use Rattle.state.specs.declared.sizes.Sizes.{Sizes}
use Rattle.state.specs.Rows.{cell, plain_row}
use Rattle.state.specs.RowTables.{tabled_long}
use Rattle.state.specs.FactLaws.{facts_tabled, fact_row_lem}
use Rattle.reading.specs.Items.{FirstItem, index_in, index_found}
use Rattle.reading.specs.Given.{FactsItem, FactsItems}
use Rattle.reading.specs.Answers.{HypsRead, HypsAs}
use Rattle.questions.specs.declared.Question.{Question}
use Rattle.reading.specs.Laws.Walks.{Here, here, go_on, then_same}
use Rattle.reading.specs.Earlier.{Missing}
use Rattle.reading.specs.Laws.Lists.{has_snoc, no_entry}

-- One item -----------------------------------------------------------------------------------------------------------------------------

module _ (p : Fact → Bool) (S : State) (x : Sexp) (ys : Sexps) (M : Made) where
  each_none : index_in x ≡ nothing → hyp_each p S (cons x ys) M ≡ refuse 34 0 M
  unfolding hyp_each
  each_none e = then_refuse (index 34 x M) 34 0 M _ (index_found 34 x M ∙ ap (λ (o : Option ℕ). found 34 o M) e)

  module _ (i : ℕ) (e : index_in x ≡ some i) where
    each_index : index 34 x M ≡ ok i M
    each_index = index_found 34 x M ∙ ap (λ (o : Option ℕ). found 34 o M) e

    each_late : entry S.facts i ≡ nothing → hyp_each p S (cons x ys) M ≡ refuse 34 0 M
    unfolding hyp_each fact_at
    each_late f = then_ok (index 34 x M) i M _ each_index ∙ then_refuse (fact_at S i M) 34 0 M _ (ap (λ (o : Option Fact). found 34 o M) f)

    module _ (f : Fact) (k : entry S.facts i ≡ some f) where
      each_fails : p f ≡ false → hyp_each p S (cons x ys) M ≡ refuse 40 0 M
      unfolding hyp_each fact_at
      each_fails t =
          then_ok (index 34 x M) i M _ each_index ∙ then_ok (fact_at S i M) f M _ (ap (λ (o : Option Fact). found 34 o M) k)
          ∙ then_refuse (ask 40 (p f) M) 40 0 M _ (ap (λ (b : Bool). ask 40 b M) t)

      each_more : p f ≡ true → hyp_each p S (cons x ys) M ≡ then (hyp_each p S ys M) (λ is U. ok (i ∷ is) U)
      unfolding hyp_each fact_at
      each_more t =
          then_ok (index 34 x M) i M _ each_index ∙ then_ok (fact_at S i M) f M _ (ap (λ (o : Option Fact). found 34 o M) k)
          ∙ then_ok (ask 40 (p f) M) tt M _ (ap (λ (b : Bool). ask 40 b M) t)

-- The whole list
module _ (p : Fact → Bool) (S : State) (xs : Sexps) (M : Made) where
  list_refuses : (q : ℕ) → hyp_each p S xs M ≡ refuse q 0 M → hyp_list p S (list xs) M ≡ refuse q 0 M
  unfolding hyp_list items then
  list_refuses q e = then_refuse (hyp_each p S xs M) q 0 M _ e

  list_ok : (is : List ℕ) → hyp_each p S xs M ≡ ok is M → hyp_list p S (list xs) M ≡ ok (rising (length S.facts) (has is)) M
  unfolding hyp_list items then
  list_ok is e = then_ok (hyp_each p S xs M) is M _ e

-- an atom is none
pub atom_refuses : (p : Fact → Bool) (S : State) (x : Sexp) (k : ℕ) (bs : List ℕ) → x ≡ atom k bs → (M : Made) → hyp_list p S x M ≡ refuse 34 0 M
unfolding hyp_list items then
atom_refuses p S x k bs e M = ap (λ (z : Sexp). hyp_list p S z M) e

-- The loop -------------------------------------------------------------------------------------------------------------------------------

-- these are read, and in the set; the rest is left
pub record Hyping (p : Fact → Bool) (S : State) (xs : Sexps) (text cells set : List ℕ) (at : ℕ) : Type 0 where
  pub left : Sexps
  pub before : List ℕ
  pub walk : Walk text cells at left
  pub whole : (M : Made) → hyp_each p S xs M ≡ then (hyp_each p S left M) (λ is U. ok (before ++ is) U)
  pub set_is : holds set ≡ has before
  pub below : All (λ i. i < length S.facts) before

pub hyping_start : (p : Fact → Bool) (S : State) {xs : Sexps} {text cells set : List ℕ} → Holds text cells xs → set ≡ replicate FACTWORDS 0 →
    Hyping p S xs text cells set 0
unfolding has
hyping_start p S {xs} h e =
    record {
      left = xs;
      before = [];
      walk = walk_start h;
      whole = λ M. then_same (hyp_each p S xs M);
      set_is = ap holds e ∙ holds_zero FACTWORDS;
      below = empty;
    }

-- some items are left
pub record Walking (text cells : List ℕ) (at : ℕ) : Type 0 where
  pub left : Sexps
  pub walk : Walk text cells at left

module _ {text cells : List ℕ} {at : ℕ} (w : Walking text cells at) (l : at < length cells) where
  -- what `earlier` asks
  pub walking_first : FirstItem text (take (length cells - at) (drop at cells))
  walking_first = let k = here w.walk l in record { x = k.x; ys = k.ys; holds = k.holds }

  pub walking_on : {next : ℕ} → next ≡ behind at (item_at cells at) → Walking text cells next
  walking_on n = let k = here w.walk l in record { left = k.ys; walk = (go_on k n).walk }

-- what `earlier` says of the item at a place, and of what it numbers
abbrev pub Spelled : (Option ℕ → Type 0) → List ℕ → List ℕ → ℕ → Type 0
Spelled P text cells at = (x : Sexp) (ys : Sexps) → Holds text (take (length cells - at) (drop at cells)) (cons x ys) → P (index_in x)

module _ {p : Fact → Bool} {S : State} {xs : Sexps} {text cells set : List ℕ} {at : ℕ} (h : Hyping p S xs text cells set at) where
  -- nothing is left
  pub hyping_over : length cells ≤ at → HypsRead p S (list xs) set
  unfolding hyp_each then
  hyping_over l =
      let e = walk_over h.walk l in
      record {
        hyps = rising (length S.facts) (has h.before);
        are = λ M. list_ok p S xs M h.before
            (h.whole M ∙ ap (λ (z : Sexps). then (hyp_each p S z M) (λ is U. ok (h.before ++ is) U)) e ∙ ap (λ (l : List ℕ). ok l M) (append-nil h.before));
        set_is = h.set_is ∙ sym (has_rising_all (length S.facts) (has h.before) (λ v e. has_all h.before v h.below e));
      }

  module _ (l : at < length cells) where
    -- the item that is read now
    pub hyping_here : Here text cells at h.left
    hyping_here = here h.walk l

    stops : (q : ℕ) → ((M : Made) → hyp_each p S (cons hyping_here.x hyping_here.ys) M ≡ refuse q 0 M) → (M : Made) → hyp_list p S (list xs) M ≡ refuse q 0 M
    stops q e M =
        list_refuses p S xs M q
        (h.whole M ∙ then_refuse (hyp_each p S h.left M) q 0 M _ (ap (λ (z : Sexps). hyp_each p S z M) hyping_here.is ∙ e M))

    pub hyping_missing : (n : Sizes) → n.facts ≡ length S.facts → Spelled (Missing n) text cells at → (M : Made) → hyp_list p S (list xs) M ≡ refuse 34 0 M
    hyping_missing n f w = let k = hyping_here in go (index_in k.x) refl (w k.x k.ys k.holds)
      where
        go : (o : Option ℕ) → index_in hyping_here.x ≡ o → Missing n o → (M : Made) → hyp_list p S (list xs) M ≡ refuse 34 0 M
        go nothing e m = let k = hyping_here in stops 34 (λ M. each_none p S k.x k.ys M e)
        go (some i) e m = let k = hyping_here in stops 34 (λ M. each_late p S k.x k.ys M i e (no_entry S.facts i (omega (arith, m, f))))

    module _ {i : ℕ} (w : Spelled (λ o. o ≡ some i) text cells at) where
      is_index : index_in hyping_here.x ≡ some i
      is_index = let k = hyping_here in w k.x k.ys k.holds

      module _ {f : Fact} (k : entry S.facts i ≡ some f) where
        pub hyping_fails : p f ≡ false → (M : Made) → hyp_list p S (list xs) M ≡ refuse 40 0 M
        hyping_fails t = let y = hyping_here in stops 40 (λ M. each_fails p S y.x y.ys M i is_index f k t)

        pub hyping_more : {set' : List ℕ} {next : ℕ} → p f ≡ true → holds set' ≡ plus i (holds set) → next ≡ behind at (item_at cells at) →
            Hyping p S xs text cells set' next
        unfolding then
        hyping_more t u n =
            let y = hyping_here in
            let b = h.before in
            record {
              left = y.ys;
              before = b ++ (i ∷ []);
              walk = (go_on y n).walk;
              whole = λ M. h.whole M ∙ ap (λ (z : Sexps). then (hyp_each p S z M) (λ is U. ok (b ++ is) U)) y.is
                  ∙ ap (λ (o : Out Made (List ℕ)). then o (λ is U. ok (b ++ is) U)) (each_more p S y.x y.ys M i is_index f k t)
                  ∙ then_then (hyp_each p S y.ys M) (λ is U. ok (i ∷ is) U) (λ is U. ok (b ++ is) U)
                  ∙ ap (λ (g : List ℕ → Made → Out Made (List ℕ)). then (hyp_each p S y.ys M) g) (λ j is U. ok (sym (append_assoc b (i ∷ []) is) j) U);
              set_is = u ∙ ap (plus i) h.set_is ∙ sym (has_snoc b i);
              below = all_snoc h.below (entry_below S.facts i f k);
            }

-- What the tables say --------------------------------------------------------------------------------------------------------------------

-- fact i is there
pub record Stands (S : State) (i : ℕ) : Type 0 where
  pub fact : Fact
  pub is : entry S.facts i ≡ some fact
  pub early : i < length S.facts

module _ {text facts cells : List ℕ} {n : Sizes} (g : FactsItems text facts n cells) where
  pub facts_long : length facts ≡ 6 * FACTS
  facts_long = tabled_long (facts_tabled g.recorded)

  pub facts_few : n.facts ≤ FACTS
  facts_few = (facts_tabled g.recorded).few

  pub facts_many : n.facts ≡ length g.S.facts
  facts_many = g.recorded.many

  pub stands : (i : ℕ) → i < n.facts → Stands g.S i
  stands i l = record { fact = _; is = (fact_row_lem g.recorded i l).is; early = omega (arith, facts_many) }

-- A list among items -----------------------------------------------------------------------------------------------------------------------

module _ {text facts cells : List ℕ} {n : Sizes} (g : FactsItem text facts n cells) {part : List ℕ} (l : ListOf text cells g.x part) where
  abbrev pub facts_inside : FactsItems text facts n part
  facts_inside =
      record {
        S = g.S;
        made_trees = g.made_trees;
        footings = g.footings;
        lists = g.lists;
        xs = l.items;
        recorded = g.recorded;
        holds = l.holds;
      }

  -- it is read, or refused
  pub hyps_read : (p : Fact → Bool) (r : Result (List ℕ) Question) → HypsAs p g.S (list l.items) r → HypsAs p g.S g.x r
  hyps_read p r h = subst (λ (z : Sexp). HypsAs p g.S z r) (sym l.is) h

-- The tests -------------------------------------------------------------------------------------------------------------------------------

same_fact : {a b : Fact} {o : Option Fact} → o ≡ some a → o ≡ some b → a ≡ b
same_fact {a} {b} e f = let g : some a ≡ some b = sym e ∙ f in cc

module _ {text facts cells : List ℕ} {n : Sizes} (g : FactsItem text facts n cells) {i : ℕ} (l : i < length g.S.facts) {f : Fact} (e : entry g.S.facts i ≡ some f) where
  pub plain_tested : plain_row facts i ≡ is_plain f
  plain_tested = let r = fact_row_lem g.recorded i (omega (arith, g.recorded.many)) in r.plain ∙ ap is_plain (same_fact r.is e)

  pub any_tested : not (eqb (cell 6 facts i 1) 0) ≡ f.assumed
  any_tested = let r = fact_row_lem g.recorded i (omega (arith, g.recorded.many)) in r.assumed ∙ ap (λ (h : Fact). h.assumed) (same_fact r.is e)
