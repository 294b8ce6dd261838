-- A reference, bare or with bindings: what the item is for each answer, and what its parts are given. Assumes nothing.
use mathlib.Core.Path.{◌≡◌, refl, sym, ap, ◌∙◌, subst}
use mathlib.Core.Bool.{true, false}
use Rattle.std.specs.Prelude.{Option, Some as some, None as nothing, Result}
use mathlib.Core.List.{List, []}
use Prim.Native.Nat.{ℕ, ◌-◌, ◌<◌}
use native.Mathlib.Omega.{arith}
use lib.ListN.{length, get_or, drop, replicate, length-replicate}
use Rattle.rules.specs.Limits.{TERMS}
use Rattle.rules.specs.Out.{Out, ok, refuse, then, ask, found}
use Rattle.rules.specs.Sexp.{Sexp, Sexps, atom, cons, item, rest}
use Rattle.rules.specs.Tree.{Tree, var, sub}
use Rattle.rules.specs.Store.{Made, substitute}
use Rattle.rules.specs.Unify.{Binding, along}
use Rattle.rules.specs.State.{State, Fact, is_empty}
use Rattle.rules.specs.Read.{index}
use Rattle.rules.specs.Reference.{Ref, bindings, instance, reference}
use Rattle.sexp.specs.Encode.{encodes}
use Rattle.sexp.specs.Items.{Holds, item_at, place}
use Rattle.sexp.specs.WalkLaws.{AtomIs}
use Rattle.sexp.specs.Each.{ListOf}
use Rattle.sexp.specs.FirstItem.{none_left, first_item, holds_first}
use Rattle.referring.specs.Laws.Behind.{from_holds}
use Rattle.terms.specs.declared.store.Mark.{Mark}
use Rattle.terms.specs.Table.{made, tree, Stored, Refused}
use Rattle.terms.specs.Subst.{replacement, substituted, Replaceable}
use Rattle.terms.specs.Theta.{bindings as in_cells}
use Rattle.terms.specs.On.{On, Went, Stopped, on_start, on_ok, on_no, on_pure, on_stop, on_done, on_ask_yes, on_ask_no, stored_went, refused_stopped}
use Rattle.terms.specs.Laws.Growth.{made_length, grown_tree, grown_there}
use Rattle.terms.specs.Laws.Numbers.{stored_is}
use Rattle.state.specs.declared.sizes.Sizes.{Sizes}
use Rattle.cells.specs.declared.Span.{Span}
use Rattle.state.specs.Held.{Names, records, Recorded}
use Rattle.state.specs.Rows.{cell, FactAt, hyps_span}
use Rattle.state.specs.Entries.{part_long}
use Rattle.state.specs.FactLaws.{fact_row_lem, lists_long}
use Rattle.reading.specs.Items.{FirstItem, index_in, index_found}
use Rattle.reading.specs.Given.{ReadsItems}
use Rattle.reading.specs.Answers.{BindingsRead}
use Rattle.referring.specs.Recall.{fact_of, BareItem, RefersItem, RefersItems}
use Rattle.reading.specs.Earlier.{Missing}
use Rattle.reading.specs.Laws.Lists.{empty_is, empty_not}
use Rattle.referring.specs.Referral.{rests_on, instances_of, ref_of, RefRead, ReferredBy}
use Rattle.reading.specs.Laws.Bindings.{bindings_replaceable, bindings_along}
use Rattle.referring.specs.Laws.Refers.{fact_here, fact_found, fact_none, fact_asks, refers_bare, refers_items}
use Rattle.questions.specs.declared.Question.{Question}
use Rattle.referring.specs.declared.references.Referred.{Referred}

-- An index -------------------------------------------------------------------------------------------------------------------------------

index_is : {A : Type 0} (q : ℕ) (x : Sexp) (i : ℕ) (s : A) → index_in x ≡ some i → index q x s ≡ ok i s
index_is q x i s e = index_found q x s ∙ ap (λ (o : Option ℕ). found q o s) e

index_not : {A : Type 0} (q : ℕ) (x : Sexp) (s : A) → index_in x ≡ nothing → index q x s ≡ refuse q 0 s
index_not q x s e = index_found q x s ∙ ap (λ (o : Option ℕ). found q o s) e

-- A fact in the tables ---------------------------------------------------------------------------------------------------------------------

module _ {facts footings lists : List ℕ} {n : Sizes} {M : Made} {S : State} (h : Recorded (records facts footings lists) n M S) {i : ℕ} (l : i < n.facts) where
  -- the number of its judgment
  judgment_there : cell 6 facts i 0 < length M
  judgment_there = (fact_row_lem h i l).judgment.below

  judgment_tree : get_or M (cell 6 facts i 0) (var 0) ≡ (fact_of S i).judgment
  judgment_tree = (fact_row_lem h i l).judgment.tree

  hyps_many : length (fact_of S i).hyps ≡ cell 6 facts i 3
  hyps_many =
      let r = fact_row_lem h i l in
      omega (arith, part_long lists (hyps_span facts i) (fact_of S i).hyps r.hyps (omega (arith, r.inside, lists_long h)))

-- A fact by its number ---------------------------------------------------------------------------------------------------------------------

module _ {text facts : List ℕ} {n : Sizes} {m : Mark} {cells : List ℕ} (g : BareItem text facts n m cells) where
  -- what `earlier` is given
  pub bare_first : FirstItem text cells
  bare_first = record { x = g.x; ys = g.ys; holds = g.holds }

  module _ (p : ℕ) (bs : List ℕ) (x : g.x ≡ atom p bs) where
    pub bare_no : ((x : Sexp) (ys : Sexps) → Holds text cells (cons x ys) → Missing n (index_in x)) →
        Stopped g.index g.words g.index g.words m (reference g.S g.x (made g.index g.words m)) 34 0 m
    unfolding reference
    bare_no a =
        subst (λ (z : Sexp). Stopped g.index g.words g.index g.words m (reference g.S z (made g.index g.words m)) 34 0 m) (sym x)
        (go (index_in (atom p bs)) refl (subst (λ (z : Sexp). Missing n (index_in z)) x (a g.x g.ys g.holds)))
      where
        go : (o : Option ℕ) → index_in (atom p bs) ≡ o → Missing n o → Stopped g.index g.words g.index g.words m (reference g.S (atom p bs) (made g.index g.words m)) 34 0 m
        go nothing e l = on_stop _ (on_start g.good) (index_not 34 (atom p bs) (made g.index g.words m) e)
        go (some i) e l =
            on_stop _ (on_pure _ (on_start g.good) (index_is 34 (atom p bs) i (made g.index g.words m) e)) (fact_none g.recorded (made g.index g.words m) l)

    module _ {i : ℕ} (a : (x : Sexp) (ys : Sexps) → Holds text cells (cons x ys) → index_in x ≡ some i) where
      bare_index : index 34 (atom p bs) (made g.index g.words m) ≡ ok i (made g.index g.words m)
      bare_index = index_is 34 (atom p bs) i (made g.index g.words m) (ap index_in (sym x) ∙ a g.x g.ys g.holds)

      pub bare_read : i < n.facts → {t : ℕ} → t ≡ cell 6 facts i 0 →
          RefRead g.index g.words g.index g.words m g.S (reference g.S g.x (made g.index g.words m)) t i true m
      unfolding reference rests_on instances_of
      bare_read l {t} f =
          let I = g.index in
          let W = g.words in
          let k : tree I W m t ≡ (fact_of g.S i).judgment = ap (λ (j : ℕ). tree I W m j) f ∙ judgment_tree g.recorded l in
          record {
            went = subst (λ (z : Sexp). Went I W I W m (reference g.S z (made I W m)) (ref_of g.S (tree I W m t) i true) m) (sym x)
                (subst (λ (j : Tree). Went I W I W m (reference g.S (atom p bs) (made I W m)) (ref_of g.S j i true) m) (sym k)
                (on_done (on_pure _ (on_pure _ (on_start g.good) bare_index) (fact_found g.recorded (made I W m) l))));
            there = omega (arith, f, judgment_there g.recorded l, made_length I W m);
            earlier = fact_here g.recorded l;
          }

  pub bare_asks : {i : ℕ} → i < n.facts → FactAt facts i
  bare_asks l = fact_asks g.recorded l

-- An instance ------------------------------------------------------------------------------------------------------------------------------

-- the definition behind the fact, and behind the bindings
abbrev valued : Fact → List Binding → Made → Out Made Ref
valued f bs M = then (substitute (along bs) f.judgment M) (λ t U. ok (record { judgment = t; hyps = []; footing = f.footing; instances = 1 }) U)

abbrev asked : State → Sexps → Fact → Made → Out Made Ref
asked S xs f M = then (ask 35 (is_empty f.hyps) M) (λ _ U. then (bindings S (rest xs 1) [] U) (valued f))

-- the items begin with the number of fact i, which rests on nothing; what is left are the bindings
pub record Opens (n : Sizes) (I W : List ℕ) (m : Mark) (S : State) (xs : Sexps) (i : ℕ) : Type 0 where
  pub there : i < n.facts
  pub on : On I W m (instance S xs (made I W m)) I W m (then (bindings S (rest xs 1) [] (made I W m)) (valued (fact_of S i)))

module _ {K : Names} {facts : List ℕ} {n : Sizes} {I W : List ℕ} {m : Mark} {cells : List ℕ} (g : RefersItems K facts n I W m cells) where
  -- no number
  pub instance_unread : index_in (item g.xs 0) ≡ nothing → Stopped I W I W m (instance g.S g.xs (made I W m)) 34 0 m
  unfolding instance
  instance_unread e = on_stop _ (on_start g.refers.reads.good) (index_not 34 (item g.xs 0) (made I W m) e)

  pub instance_empty : length cells ≡ 0 → Stopped I W I W m (instance g.S g.xs (made I W m)) 34 0 m
  unfolding index_in item
  instance_empty e = instance_unread (ap (λ (zs : Sexps). index_in (item zs 0)) (none_left g.holds e))

  -- the bindings are behind the first item
  module _ {behind : List ℕ} (e : (ys : Sexps) → cells ≡ encodes ys → behind ≡ drop (place ys 1) cells) where
    abbrev pub rest_given : ReadsItems K n I W m behind
    rest_given = record { S = g.S; xs = rest g.xs 1; reads = g.refers.reads; holds = from_holds g.holds 1 e }

  module _ (l : length cells ≡ 0 → ⊥) where
    -- what the first item is given
    pub instance_first : FirstItem K.text cells
    instance_first = let f = first_item (item_at cells 0) g.holds l refl in record { x = f.x; ys = f.ys; holds = holds_first f g.holds }

    -- what is said of it, of the first of the items
    at_first : (P : Option ℕ → Type 0) → ((x : Sexp) (ys : Sexps) → Holds K.text cells (cons x ys) → P (index_in x)) → P (index_in (item g.xs 0))
    unfolding item
    at_first P a =
        let f = first_item (item_at cells 0) g.holds l refl in
        subst (λ (zs : Sexps). P (index_in (item zs 0))) (sym f.is) (a f.x f.ys (holds_first f g.holds))

    pub instance_no : ((x : Sexp) (ys : Sexps) → Holds K.text cells (cons x ys) → Missing n (index_in x)) → Stopped I W I W m (instance g.S g.xs (made I W m)) 34 0 m
    unfolding instance
    instance_no a = go (index_in (item g.xs 0)) refl (at_first (Missing n) a)
      where
        go : (o : Option ℕ) → index_in (item g.xs 0) ≡ o → Missing n o → Stopped I W I W m (instance g.S g.xs (made I W m)) 34 0 m
        go nothing e k = instance_unread e
        go (some i) e k =
            on_stop _ (on_pure _ (on_start g.refers.reads.good) (index_is 34 (item g.xs 0) i (made I W m) e)) (fact_none g.refers.recorded (made I W m) k)

    module _ {i : ℕ} (a : (x : Sexp) (ys : Sexps) → Holds K.text cells (cons x ys) → index_in x ≡ some i) where
      instance_index : index 34 (item g.xs 0) (made I W m) ≡ ok i (made I W m)
      instance_index = index_is 34 (item g.xs 0) i (made I W m) (at_first (λ (o : Option ℕ). o ≡ some i) a)

      on_fact : i < n.facts → On I W m (instance g.S g.xs (made I W m)) I W m (asked g.S g.xs (fact_of g.S i) (made I W m))
      unfolding instance
      on_fact k = on_pure _ (on_pure _ (on_start g.refers.reads.good) instance_index) (fact_found g.refers.recorded (made I W m) k)

      module _ (k : i < n.facts) {s : Span} (f : s ≡ hyps_span facts i) where
        span_many : s.end - s.from ≡ length (fact_of g.S i).hyps
        span_many = ap (λ (z : Span). z.end - z.from) f ∙ let y = hyps_many g.refers.recorded k in omega arith

        pub instance_rests : (s.from ≡ s.end → ⊥) → Stopped I W I W m (instance g.S g.xs (made I W m)) 35 0 m
        instance_rests d =
            let a = ap (λ (z : Span). z.from) f in
            let b = ap (λ (z : Span). z.end) f in
            on_ask_no _ 35 (on_fact k) (empty_not (fact_of g.S i).hyps (λ z. d (omega (arith, span_many, a, b, z))))

        pub instance_opens : s.from ≡ s.end → Opens n I W m g.S g.xs i
        instance_opens d =
            record { there = k; on = on_ask_yes _ 35 (on_fact k) (empty_is (fact_of g.S i).hyps (omega (arith, span_many, d))) }

  pub opens_asks : {i : ℕ} → i < n.facts → FactAt facts i
  opens_asks k = fact_asks g.refers.recorded k

  -- Behind the bindings
  module _ {i : ℕ} (o : Opens n I W m g.S g.xs i) {behind : List ℕ} (e : (ys : Sexps) → cells ≡ encodes ys → behind ≡ drop (place ys 1) cells) (J X map : List ℕ) (k : Mark) where
    pub instance_unbound : {before : List ℕ} {q d : ℕ} →
        ((h : ReadsItems K n I W m behind) → Stopped I W J X m (bindings h.S h.xs [] (made I W m)) q d k × (map ≡ before)) →
        Stopped I W J X m (instance g.S g.xs (made I W m)) q d k
    instance_unbound b = on_no _ o.on (b (rest_given e)).0

    module _ (b : (h : ReadsItems K n I W m behind) → BindingsRead I W J X m (bindings h.S h.xs [] (made I W m)) map k) where
      are_bound : BindingsRead I W J X m (bindings g.S (rest g.xs 1) [] (made I W m)) map k
      are_bound = b (rest_given e)

      module _ {t : ℕ} (j : t ≡ cell 6 facts i 0) where
        term_there : t < k.terms
        term_there = grown_there are_bound.went.grown t (omega (arith, j, judgment_there g.refers.recorded o.there, made_length I W m))

        term_tree : tree J X k t ≡ (fact_of g.S i).judgment
        term_tree =
            grown_tree are_bound.went.grown t (omega (arith, j, judgment_there g.refers.recorded o.there, made_length I W m))
            ∙ ap (λ (z : ℕ). tree I W m z) j ∙ judgment_tree g.refers.recorded o.there

        -- what `substitute` asks
        pub instance_asks : {memo : List ℕ} → memo ≡ replicate TERMS 0 → Replaceable J X k map t × ((t < length memo) × (memo ≡ replicate (length memo) 0))
        instance_asks {memo} p =
            let q : length memo ≡ TERMS = ap length p ∙ length-replicate {A = ℕ} TERMS 0 in (
              bindings_replaceable are_bound term_there,
              (omega (arith, q, term_there, are_bound.went.grown.good.room), p ∙ ap (λ (z : ℕ). replicate z 0) (sym q)),
            )

        abbrev value : Tree
        value = sub (along (in_cells (made J X k) map 0)) (tree J X k t)

        -- what it says of the map, it says of the bindings and of the fact
        moved : (P : Tree → Out Made Tree → Type 0) → P (substituted J X k map t) (substitute (replacement (made J X k) map) (tree J X k t) (made J X k)) →
            P value (substitute (along (in_cells (made J X k) map 0)) (fact_of g.S i).judgment (made J X k))
        moved P a =
            subst (λ (z : Tree). P value (substitute (along (in_cells (made J X k) map 0)) z (made J X k))) term_tree
            (subst (λ (σ : ℕ → Tree). P (sub σ (tree J X k t)) (substitute σ (tree J X k t) (made J X k))) (sym (bindings_along J X k map)) a)

        on_bound : On I W m (instance g.S g.xs (made I W m)) J X k (valued (fact_of g.S i) (in_cells (made J X k) map 0) (made J X k))
        on_bound = on_ok _ o.on are_bound.went

        module _ (Y Z : List ℕ) {new : Mark} where
          pub instance_full : {row : ℕ} → Refused Tree J X Y Z k (substitute (replacement (made J X k) map) (tree J X k t) (made J X k)) row new →
              Stopped I W Y Z m (instance g.S g.xs (made I W m)) 60 row new
          instance_full {row} a = on_no _ on_bound (refused_stopped (moved (λ _ (K : Out Made Tree). Refused Tree J X Y Z k K row new) a))

          pub instance_read : {u : ℕ} → Stored J X Y Z k (substituted J X k map t) (substitute (replacement (made J X k) map) (tree J X k t) (made J X k)) u new →
              RefRead I W Y Z m g.S (instance g.S g.xs (made I W m)) u i false new
          unfolding rests_on instances_of
          instance_read {u} a =
              let d : Stored J X Y Z k value (substitute (along (in_cells (made J X k) map 0)) (fact_of g.S i).judgment (made J X k)) u new =
              moved (λ (z : Tree) (K : Out Made Tree). Stored J X Y Z k z K u new) a in
              record {
                went = subst (λ (z : Tree). Went I W Y Z m (instance g.S g.xs (made I W m)) (ref_of g.S z i false) new) (sym (stored_is d))
                    (on_done (on_ok _ on_bound (stored_went d)));
                there = d.there;
                earlier = fact_here g.refers.recorded o.there;
              }

-- One or the other -------------------------------------------------------------------------------------------------------------------------

module _ {K : Names} {facts : List ℕ} {n : Sizes} {I W : List ℕ} {m : Mark} {cells : List ℕ} (g : RefersItem K facts n I W m cells) where
  pub reference_atom : (p : ℕ) × AtomIs K.text g.x p → (r : Result Referred Question) →
      ((h : BareItem K.text facts n m cells) (p : ℕ) (bs : List ℕ) → h.x ≡ atom p bs →
      ReferredBy h.index h.words h.index h.words m m h.S (reference h.S h.x (made h.index h.words m)) r) →
      ReferredBy I W I W m m g.S (reference g.S g.x (made I W m)) r
  reference_atom q r a = a (refers_bare g.refers g.holds) q.0 q.1.bytes q.1.is

  module _ {part : List ℕ} (l : ListOf K.text cells g.x part) where
    abbrev pub inner_given : RefersItems K facts n I W m part
    inner_given = refers_items g.refers l.holds

    pub reference_instance : (J X : List ℕ) (new : Mark) (r : Result Referred Question) →
        ((h : RefersItems K facts n I W m part) → ReferredBy I W J X m new h.S (instance h.S h.xs (made I W m)) r) →
        ReferredBy I W J X m new g.S (reference g.S g.x (made I W m)) r
    unfolding reference
    reference_instance J X new r k =
        subst (λ (z : Sexp). ReferredBy I W J X m new g.S (reference g.S z (made I W m)) r) (sym l.is) (k (refers_items g.refers l.holds))
