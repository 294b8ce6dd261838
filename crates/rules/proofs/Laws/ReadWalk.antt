-- The walk of Keeping through reading: terms, judgments, bindings and references, over a state whose trees are among the made ones.
-- Assumes nothing.
use Rattle.std.specs.Prelude.{ℕ, ◌≡◌, Bool, true, false, not, leb, eqb, Some as some}
use Rattle.std.proofs.Common.{subst, arith}
use mathlib.Core.List.{List, [], ◌∷◌}
use Rattle.rules.specs.Out.{ok}
use Rattle.rules.specs.Text.{same}
use Rattle.rules.specs.Sexp.{Sexp, Sexps, atom, list, nil, cons, count, item, rest, marked}
use Rattle.rules.specs.Tree.{Tree, var, app, none}
use Rattle.rules.specs.Store.{Made}
use Rattle.rules.specs.Theory.{inputs, constructor_named, predicate_named}
use Rattle.rules.specs.Unify.{Binding, along, insert}
use Rattle.rules.specs.State.{State, Def, Goal, Fact, sort_of, sort_of_var, fit, var_named, abbreviated, is_empty}
use Rattle.rules.specs.Read.{named, term, compound, terms, term_of, judgment, judgment_each, judgments}
use Rattle.rules.specs.Reference.{fact_at, binding, is_bound, bindings, instance, reference}
use Rattle.rules.specs.Laws.Theory.{All, empty, both, all_map}
use Rattle.rules.specs.Laws.Entry.{all_entry, fact_entry}
use Rattle.rules.specs.Laws.Keeping.{Each, Arguments, Invariant, Grows, Keeps, fine, off, stays, has_on, each_on, by_then, by_still, by_ask, by_found, by_either, by_given}
use Rattle.rules.proofs.Laws.MakingWalk.{keep_keeps, found_keeps, substitute_keeps, values_on, insert_values}
use Rattle.rules.proofs.Laws.Still.{name_still, items_still, index_still, variable_still, fact_at_still}
use Rattle.rules.specs.Laws.Ready.{Known, Knowns, Values, FactIn, GoalIn, Ready}

-- States whose trees are there --------------------------------------------------------------------------------------------------

pub abbreviated_has : (P : Tree → Type 0) (ds : List Def) (n : List ℕ) → All (λ d. P d.term) ds → (t : Tree) → abbreviated ds n ≡ some t → P t
unfolding abbreviated
abbreviated_has P [] n h t e = absurd (let z : ◌≡◌ {A = ℕ} 0 1 = cc in omega arith)
abbreviated_has P (d ∷ ds) n (both p h) t e = go (same d.name.bytes n) e (abbreviated_has P ds n h t)
  where
    go : (b : Bool) → elim b [ true ↦ some d.term | false ↦ abbreviated ds n ] ≡ some t → (abbreviated ds n ≡ some t → P t) → P t
    go true e k = let q : d.term ≡ t = cc in subst P q p
    go false e k = k e

module _ {K : Invariant} where
  pub fact_on : {m u : Made} {f : Fact} → Grows K m u → FactIn K m f → FactIn K u f
  fact_on {f = f} g h = record { judgment = has_on g h.judgment; premises = each_on f.premises g h.premises }

  pub goal_on : {m u : Made} {f : Goal} → Grows K m u → GoalIn K m f → GoalIn K u f
  goal_on {f = f} g h = record { judgment = has_on g h.judgment; hyps = each_on f.hyps g h.hyps }

  pub ready_on : {S : State} {m u : Made} → Ready K S m → Grows K m u → Ready K S u
  ready_on h g =
      record {
        good = g.good;
        defs = all_map (λ d k. has_on g k) h.defs;
        goals = all_map (λ f k. goal_on g k) h.goals;
        facts = all_map (λ f k. fact_on g k) h.facts;
      }

  -- a fact by its number
  pub fact_in_lem : {S : State} {m : Made} (i : ℕ) (f : Fact) → Ready K S m → fact_at S i m ≡ ok f m → FactIn K m f
  fact_in_lem {S} {m} i f h e = all_entry S.facts i f h.facts (fact_entry S i m m f e)

  -- Terms -----------------------------------------------------------------------------------------------------------------------

  named_keeps : (S : State) (n : List ℕ) (m : Made) → K.Good m → Keeps K m (Known K) (named S n m)
  unfolding named Arguments Each
  named_keeps S n m g =
      by_given (var_named S.vars n) _ _ (λ v e. keep_keeps (var v) m g tt) (
      by_found 22 (constructor_named S.theory n) _ g λ c e. by_ask 23 (is_empty (inputs S.theory c)) _ g λ f. keep_keeps (app c none) m g tt)

  mutual
    unfolding term Arguments Each

    pub term_keeps : (S : State) (x : Sexp) (m : Made) → Ready K S m → Keeps K m (Known K) (term S x m)
    term_keeps S (atom p bs) m h =
        by_either (marked bs) _ _
        (found_keeps (abbreviated S.defs bs) 22 m h.good (abbreviated_has (K.Has m) S.defs bs h.defs))
        (named_keeps S bs m h.good)
    term_keeps S (list xs) m h = compound_keeps S xs m h

    compound_keeps : (S : State) (xs : Sexps) (m : Made) → Ready K S m → Keeps K m (Known K) (compound S xs m)
    compound_keeps S nil m h = off (stays h.good)
    compound_keeps S (cons x xs) m h =
        by_still _ _ h.good (name_still 22 x) λ n e.
        by_found 22 (constructor_named S.theory n.bytes) _ h.good λ c f.
        by_ask 23 (leb 1 (count xs)) _ h.good λ i.
        by_then _ _ (terms_keeps S xs m h) λ ts u g p.
        by_ask 23 (fit S.theory S.vars ts (inputs S.theory c)) _ g.good λ j. keep_keeps (app c ts) u g.good p

    pub terms_keeps : (S : State) (xs : Sexps) (m : Made) → Ready K S m → Keeps K m (Knowns K) (terms S xs m)
    terms_keeps S nil m h = fine (stays h.good) tt
    terms_keeps S (cons x xs) m h =
        by_then _ _ (term_keeps S x m h) λ t u g p.
        by_then _ _ (terms_keeps S xs u (ready_on h g)) λ ts w k q. fine (stays k.good) (has_on k p, q)

  pub term_of_keeps : (S : State) (x : Sexp) (s : ℕ) (m : Made) → Ready K S m → Keeps K m (Known K) (term_of S x s m)
  unfolding term_of
  term_of_keeps S x s m h =
      by_then _ _ (term_keeps S x m h) λ t u g p. by_ask 23 (eqb (sort_of S.theory S.vars t) s) _ g.good λ e. fine (stays g.good) p

  -- Judgments -------------------------------------------------------------------------------------------------------------------

  pub judgment_keeps : (S : State) (x : Sexp) (m : Made) → Ready K S m → Keeps K m (Known K) (judgment S x m)
  unfolding judgment Arguments
  judgment_keeps S x m h =
      by_still _ _ h.good (items_still 22 x) λ xs e.
      by_still _ _ h.good (name_still 22 (item xs 0)) λ n f.
      by_found 22 (predicate_named S.theory n.bytes) _ h.good λ p i.
      by_then _ _ (terms_keeps S (rest xs 1) m h) λ ts u g q.
      by_ask 23 (fit S.theory S.vars ts (inputs S.theory p)) _ g.good λ j. keep_keeps (app p ts) u g.good q

  judgment_each_keeps : (S : State) (xs : Sexps) (m : Made) → Ready K S m → Keeps K m (Knowns K) (judgment_each S xs m)
  unfolding judgment_each Each
  judgment_each_keeps S nil m h = fine (stays h.good) tt
  judgment_each_keeps S (cons x xs) m h =
      by_then _ _ (judgment_keeps S x m h) λ t u g p.
      by_then _ _ (judgment_each_keeps S xs u (ready_on h g)) λ ts w k q. fine (stays k.good) (has_on k p, q)

  pub judgments_keeps : (S : State) (x : Sexp) (m : Made) → Ready K S m → Keeps K m (Knowns K) (judgments S x m)
  unfolding judgments
  judgments_keeps S x m h = by_still _ _ h.good (items_still 22 x) λ xs e. judgment_each_keeps S xs m h

  -- References ------------------------------------------------------------------------------------------------------------------

  binding_keeps : (S : State) (x : Sexp) (m : Made) → Ready K S m → Keeps K m (λ b u. K.Has u b.value) (binding S x m)
  unfolding binding
  binding_keeps S x m h =
      by_still _ _ h.good (items_still 36 x) λ ys e.
      by_ask 36 (eqb (count ys) 2) _ h.good λ f.
      by_still _ _ h.good (variable_still 36 S (item ys 0)) λ v i.
      by_then _ _ (term_of_keeps S (item ys 1) (sort_of_var S.vars v) m h) λ t u g p. fine (stays g.good) p

  pub bindings_keeps : (S : State) (xs : Sexps) (bs : List Binding) (m : Made) → Ready K S m → Values K bs m →
      Keeps K m (Values K) (bindings S xs bs m)
  unfolding bindings
  bindings_keeps S nil bs m h v = fine (stays h.good) v
  bindings_keeps S (cons x xs) bs m h v =
      by_then _ _ (binding_keeps S x m h) λ b u g p.
      by_ask 36 (not (is_bound bs b.variable)) _ g.good λ e.
      bindings_keeps S xs (insert b bs) u (ready_on h g) (insert_values K b bs u p (values_on g v))

  instance_keeps : (S : State) (xs : Sexps) (m : Made) → Ready K S m → Keeps K m (λ r u. K.Has u r.judgment) (instance S xs m)
  unfolding instance
  instance_keeps S xs m h =
      by_still _ _ h.good (index_still 34 (item xs 0)) λ i e.
      by_still _ _ h.good (fact_at_still S i) λ f k.
      by_ask 35 (is_empty f.hyps) _ h.good λ l.
      by_then _ _ (bindings_keeps S (rest xs 1) [] m h empty) λ bs u g p.
      by_then _ _ (substitute_keeps (along bs) f.judgment u g.good) λ t w j q. fine (stays j.good) q

  pub reference_keeps : (S : State) (x : Sexp) (m : Made) → Ready K S m → Keeps K m (λ r u. K.Has u r.judgment) (reference S x m)
  unfolding reference
  reference_keeps S (atom p bs) m h =
      by_still _ _ h.good (index_still 34 (atom p bs)) λ i e.
      by_still _ _ h.good (fact_at_still S i) λ f k. fine (stays h.good) (fact_in_lem i f h k).judgment
  reference_keeps S (list xs) m h = instance_keeps S xs m h
