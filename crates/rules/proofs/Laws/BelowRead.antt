-- The walk of Below through reading, references, `step` and `apply`: over a state whose trees are below n, what is made and what is answered
-- is below n. Assumes nothing.
use Rattle.std.specs.Prelude.{ℕ, zero, suc, ◌≤◌, ◌<◌, ◌≡◌, refl, Bool, true, false, ◌&&◌, not, leb, length, get_or, Option, Some as some, None as nothing}
use Rattle.std.proofs.Math.Path.{subst}
use Rattle.std.proofs.lemmas.Bool.{false≢true}
use mathlib.Core.List.{List, [], ◌∷◌}
use Rattle.std.proofs.Common.{arith}
use Rattle.std.proofs.Math.Dec.{eqb}
use Rattle.rules.specs.Text.{same}
use Rattle.rules.specs.Out.{ok}
use Rattle.rules.specs.Sexp.{Sexp, Sexps, atom, list, nil, cons, count, item, rest, marked}
use Rattle.rules.specs.Find.{entry, first, all, has}
use Rattle.rules.specs.Tree.{Tree, Trees, var, app, none, more, same_tree, count_trees}
use Rattle.rules.specs.Store.{Made}
use Rattle.rules.specs.Theory.{Rule, inputs, constructor_named, predicate_named, rule_named, rule}
use Rattle.rules.specs.Declare.{no_rule_var, is_new}
use Rattle.rules.specs.Match.{Bound, match_all}
use Rattle.rules.specs.Unify.{Binding, along, insert}
use Rattle.rules.specs.State.{State, Var, no_var, Goal, Fact, sort_of, sort_of_var, fit, var_named, abbreviated, is_empty, is_plain}
use Rattle.rules.specs.Read.{named, term, compound, terms, term_of, judgment, judgment_each, judgments}
use Rattle.rules.specs.Reference.{fact_at, binding, is_bound, bindings, instance, reference, judgment_of, judgments_at}
use Rattle.rules.specs.Step.{Items, no_items, references, bind_item, state_item, read_item, read_items, match_stated, conclude, step}
use Rattle.rules.specs.Apply.{plain_at, applied, discharge, apply}
use Rattle.rules.specs.Laws.Theory.{All, empty, both, all_map}
use Rattle.rules.specs.Laws.Find.{first_some}
use Rattle.rules.specs.Laws.Entry.{all_entry, entry_below, fact_entry}
use Rattle.rules.proofs.Laws.Still.{name_still, items_still, index_still, variable_still, fact_at_still, scoped_still}
use Rattle.rules.proofs.Laws.ReadWalk.{abbreviated_has}
use Rattle.rules.proofs.Laws.StepWalk.{Bounded, bounded, bind_bounded, match_all_bounded, match_stated_bounded}
use Rattle.rules.proofs.Laws.Below.{Below, Belows, MadeBelow, ValuesBelow, Bounds, fine, off, below_up, belows_up, along_below, insert_all, belows_each, below_arguments}
use Rattle.rules.proofs.Laws.Below.{by_then, by_still, by_ask, by_found, by_either, by_given, found_bounds, keep_below, substitute_below, build_below}

-- States whose trees are below a number -----------------------------------------------------------------------------------------------

pub record FactBelow (n : ℕ) (f : Fact) : Type 0 where
  pub judgment : Below n f.judgment
  pub premises : Belows n f.premises

pub record GoalBelow (n : ℕ) (g : Goal) : Type 0 where
  pub judgment : Below n g.judgment
  pub hyps : Belows n g.hyps

-- there are n variables at most, and the trees of abbreviations, goals and facts are below n
pub record StateBelow (n : ℕ) (S : State) : Type 0 where
  pub vars : length S.vars ≤ n
  pub defs : All (λ d. Below n d.term) S.defs
  pub goals : All (GoalBelow n) S.goals
  pub facts : All (FactBelow n) S.facts

pub state_up : (n k : ℕ) → n ≤ k → (S : State) → StateBelow n S → StateBelow k S
state_up n k l S h = record {
  vars = let q = h.vars in omega arith;
  defs = all_map (λ d p. below_up n k l d.term p) h.defs;
  goals = all_map (λ g p. record { judgment = below_up n k l g.judgment p.judgment; hyps = belows_up n k l g.hyps p.hyps }) h.goals;
  facts = all_map (λ f p. record { judgment = below_up n k l f.judgment p.judgment; premises = belows_up n k l f.premises p.premises }) h.facts;
}

-- a variable that is found by its name is there
pub var_named_below : (vs : List Var) (x : List ℕ) (v : ℕ) → var_named vs x ≡ some v → v < length vs
unfolding var_named
var_named_below vs x v e =
    let r = first_some (λ (w : Var). same w.name.bytes x) vs 0 v no_var e in
    let p = r.is in let q = r.inside in omega arith

-- Facts by number ---------------------------------------------------------------------------------------------------------------------

judgment_of_below : (n : ℕ) (fs : List Fact) (h : ℕ) → All (FactBelow n) fs → h < length fs → Below n (judgment_of (entry fs h))
unfolding entry judgment_of
judgment_of_below n [] h a l = absurd (omega arith)
judgment_of_below n (f ∷ fs) zero (both p a) l = p.judgment
judgment_of_below n (f ∷ fs) (suc h) (both p a) l = judgment_of_below n fs h a (omega arith)

pub judgments_at_below : (n : ℕ) (fs : List Fact) (hs : List ℕ) → All (FactBelow n) fs → All (λ h. h < length fs) hs → Belows n (judgments_at fs hs)
unfolding judgments_at Below
judgments_at_below n fs [] a k = tt
judgments_at_below n fs (h ∷ hs) a (both l k) = (judgment_of_below n fs h a l, judgments_at_below n fs hs a k)

-- plain hypotheses are there
pub plain_there : (fs : List Fact) (hs : List ℕ) → all (plain_at fs) hs ≡ true → All (λ h. h < length fs) hs
unfolding all plain_at
plain_there fs [] e = empty
plain_there fs (h ∷ hs) e = go (entry fs h) refl e (plain_there fs hs)
  where
    go : (o : Option Fact) → entry fs h ≡ o
        → elim (elim o as (λ _. Bool) [ some f ↦ is_plain f | nothing ↦ false ]) as (λ _. Bool) [ true ↦ all (plain_at fs) hs | false ↦ false ] ≡ true
        → (all (plain_at fs) hs ≡ true → All (λ h. h < length fs) hs) → All (λ h. h < length fs) (h ∷ hs)
    go nothing q e k = absurd (false≢true e)
    go (some f) q e k = passed (is_plain f) e
      where
        passed : (b : Bool) → elim b as (λ _. Bool) [ true ↦ all (plain_at fs) hs | false ↦ false ] ≡ true → All (λ h. h < length fs) (h ∷ hs)
        passed true e = both (entry_below fs h f q) (k e)
        passed false e = absurd (false≢true e)

module _ (n : ℕ) (S : State) (low : StateBelow n S) where
  pub fact_below : (i : ℕ) (m : Made) (f : Fact) → fact_at S i m ≡ ok f m → FactBelow n f
  fact_below i m f e = all_entry S.facts i f low.facts (fact_entry S i m m f e)

  -- Terms and judgments -------------------------------------------------------------------------------------------------------------

  pub named_below : (x : List ℕ) (m : Made) → MadeBelow n m → Bounds n (Below n) (named S x m)
  unfolding named Below
  named_below x m g =
      by_given (var_named S.vars x) _ _
      (λ v e. keep_below n (var v) m g (let p = var_named_below S.vars x v e in let q = low.vars in omega arith))
      (by_found 22 (constructor_named S.theory x) _ g λ c e. by_ask 23 (is_empty (inputs S.theory c)) _ g λ f. keep_below n (app c none) m g tt)

  mutual
    unfolding term Below

    pub term_below : (x : Sexp) (m : Made) → MadeBelow n m → Bounds n (Below n) (term S x m)
    term_below (atom p bs) m g =
        by_either (marked bs) _ _ (found_bounds n 22 (abbreviated S.defs bs) m g (abbreviated_has (Below n) S.defs bs low.defs)) (named_below bs m g)
    term_below (list xs) m g = compound_below xs m g

    pub compound_below : (xs : Sexps) (m : Made) → MadeBelow n m → Bounds n (Below n) (compound S xs m)
    compound_below nil m g = off g
    compound_below (cons x xs) m g =
        by_still _ _ g (name_still 22 x) λ a e.
        by_found 22 (constructor_named S.theory a.bytes) _ g λ c f.
        by_ask 23 (leb 1 (count xs)) _ g λ i.
        by_then _ _ (terms_below xs m g) λ ts u p.
        by_ask 23 (fit S.theory S.vars ts (inputs S.theory c)) _ p.0 λ j. keep_below n (app c ts) u p.0 p.1

    pub terms_below : (xs : Sexps) (m : Made) → MadeBelow n m → Bounds n (Belows n) (terms S xs m)
    terms_below nil m g = fine (g, tt)
    terms_below (cons x xs) m g =
        by_then _ _ (term_below x m g) λ t u p. by_then _ _ (terms_below xs u p.0) λ ts w q. fine (q.0, (p.1, q.1))

  pub term_of_below : (x : Sexp) (s : ℕ) (m : Made) → MadeBelow n m → Bounds n (Below n) (term_of S x s m)
  unfolding term_of
  term_of_below x s m g = by_then _ _ (term_below x m g) λ t u p. by_ask 23 (eqb (sort_of S.theory S.vars t) s) _ p.0 λ e. fine p

  pub judgment_below : (x : Sexp) (m : Made) → MadeBelow n m → Bounds n (Below n) (judgment S x m)
  unfolding judgment Below
  judgment_below x m g =
      by_still _ _ g (items_still 22 x) λ xs e.
      by_still _ _ g (name_still 22 (item xs 0)) λ a e.
      by_found 22 (predicate_named S.theory a.bytes) _ g λ c e.
      by_then _ _ (terms_below (rest xs 1) m g) λ ts u p.
      by_ask 23 (fit S.theory S.vars ts (inputs S.theory c)) _ p.0 λ e. keep_below n (app c ts) u p.0 p.1

  pub judgment_each_below : (xs : Sexps) (m : Made) → MadeBelow n m → Bounds n (Belows n) (judgment_each S xs m)
  unfolding judgment_each Below
  judgment_each_below nil m g = fine (g, tt)
  judgment_each_below (cons x xs) m g =
      by_then _ _ (judgment_below x m g) λ t u p. by_then _ _ (judgment_each_below xs u p.0) λ ts w q. fine (q.0, (p.1, q.1))

  pub judgments_below : (x : Sexp) (m : Made) → MadeBelow n m → Bounds n (Belows n) (judgments S x m)
  unfolding judgments
  judgments_below x m g = by_still _ _ g (items_still 22 x) λ xs e. judgment_each_below xs m g

  -- References ------------------------------------------------------------------------------------------------------------------------

  pub binding_below : (x : Sexp) (m : Made) → MadeBelow n m → Bounds n (λ b. Below n b.value) (binding S x m)
  unfolding binding
  binding_below x m g =
      by_still _ _ g (items_still 36 x) λ ys e.
      by_ask 36 (eqb (count ys) 2) _ g λ f.
      by_still _ _ g (variable_still 36 S (item ys 0)) λ v i.
      by_then _ _ (term_of_below (item ys 1) (sort_of_var S.vars v) m g) λ t u p. fine p

  pub bindings_below : (xs : Sexps) (bs : List Binding) (m : Made) → MadeBelow n m → ValuesBelow n bs → Bounds n (ValuesBelow n) (bindings S xs bs m)
  unfolding bindings
  bindings_below nil bs m g h = fine (g, h)
  bindings_below (cons x xs) bs m g h =
      by_then _ _ (binding_below x m g) λ b u p.
      by_ask 36 (not (is_bound bs b.variable)) _ p.0 λ e. bindings_below xs (insert b bs) u p.0 (insert_all b bs p.1 h)

  pub bracket_below : (xs : Sexps) (m : Made) → MadeBelow n m → Bounds n (λ r. Below n r.judgment) (instance S xs m)
  unfolding instance
  bracket_below xs m g =
      by_still _ _ g (index_still 34 (item xs 0)) λ i e.
      by_still _ _ g (fact_at_still S i) λ f k.
      by_ask 35 (is_empty f.hyps) _ g λ l.
      by_then _ _ (bindings_below (rest xs 1) [] m g empty) λ bs u p.
      by_then _ _ (substitute_below n (along bs) (along_below n bs p.1) f.judgment u p.0 (fact_below i m f k).judgment) λ t w q. fine q

  pub reference_below : (x : Sexp) (m : Made) → MadeBelow n m → Bounds n (λ r. Below n r.judgment) (reference S x m)
  unfolding reference
  reference_below (atom p bs) m g =
      by_still _ _ g (index_still 34 (atom p bs)) λ i e. by_still _ _ g (fact_at_still S i) λ f k. fine (g, (fact_below i m f k).judgment)
  reference_below (list xs) m g = bracket_below xs m g

  -- Steps -----------------------------------------------------------------------------------------------------------------------------

  pub references_below : (xs : Sexps) (m : Made) → MadeBelow n m → Bounds n (λ rs. Belows n rs.judgments) (references S xs m)
  unfolding references Below
  references_below nil m g = fine (g, tt)
  references_below (cons x xs) m g =
      by_then _ _ (reference_below x m g) λ r u p. by_then _ _ (references_below xs u p.0) λ rs w q. fine (q.0, (p.1, q.1))

  -- the trees of the items
  pub record ItemsBelow (it : Items) : Type 0 where
    pub bound : Bounded (Below n) it.bound
    pub stated : (t : Tree) → it.stated ≡ some t → Below n t

  pub no_items_lem : ItemsBelow no_items
  no_items_lem = record {
    bound = λ v t e. absurd (let z : ◌≡◌ {A = ℕ} 0 1 = cc in omega arith);
    stated = λ t e. absurd (let z : ◌≡◌ {A = ℕ} 0 1 = cc in omega arith);
  }

  pub bind_item_below : (R : Rule) (x : List ℕ) (y : Sexp) (it : Items) (m : Made) → MadeBelow n m → ItemsBelow it → Bounds n ItemsBelow (bind_item S R x y it m)
  unfolding bind_item
  bind_item_below R x y it m g h =
      by_found 36 (first (λ v. same v.name.bytes x) R.vars 0) _ g λ i e.
      by_then _ _ (term_of_below y (get_or R.vars i no_rule_var).sort m g) λ t u p.
      by_ask 36 (is_new (it.bound i)) _ p.0 λ f.
      fine (p.0, record { bound = bind_bounded (Below n) (below_arguments n) it.bound i t h.bound p.1; stated = h.stated })

  pub state_item_below : (x : Sexp) (it : Items) (m : Made) → MadeBelow n m → ItemsBelow it → Bounds n ItemsBelow (state_item S x it m)
  unfolding state_item
  state_item_below x it m g h =
      by_then _ _ (judgment_below x m g) λ j u p.
      by_ask 37 (is_new it.stated) _ p.0 λ f.
      fine (p.0, record { bound = h.bound; stated = λ t e. let q : j ≡ t = cc in subst (Below n) q p.1 })

  pub read_item_below : (R : Rule) (x : Sexp) (it : Items) (m : Made) → MadeBelow n m → ItemsBelow it → Bounds n ItemsBelow (read_item S R x it m)
  unfolding read_item
  read_item_below R x it m g h =
      by_still _ _ g (items_still 22 x) λ ys e.
      by_still _ _ g (name_still 22 (item ys 0)) λ a f.
      by_either (marked a.bytes && eqb (count ys) 2) _ _ (bind_item_below R a.bytes (item ys 1) it m g h) (state_item_below x it m g h)

  pub read_items_below : (R : Rule) (xs : Sexps) (it : Items) (m : Made) → MadeBelow n m → ItemsBelow it → Bounds n ItemsBelow (read_items S R xs it m)
  unfolding read_items
  read_items_below R nil it m g h = fine (g, h)
  read_items_below R (cons x xs) it m g h = by_then _ _ (read_item_below R x it m g h) λ b u p. read_items_below R xs b u p.0 p.1

  pub conclude_below : (p : Tree) (o : Option Tree) (b : Bound) (m : Made) → MadeBelow n m → ((t : Tree) → o ≡ some t → Below n t) → Bounded (Below n) b
      → Bounds n (Below n) (conclude p o b m)
  unfolding conclude
  conclude_below p (some j) b m g h k = fine (g, h j refl)
  conclude_below p nothing b m g h k = build_below n p b m g k

  pub matched_below : (R : Rule) (js : Trees) (it : Items) (b c : Bound) → ItemsBelow it → Belows n js
      → match_stated R.conclusion it.stated it.bound ≡ some b → match_all R.premises js b ≡ some c → Bounded (Below n) c
  matched_below R js it b c a h e f =
      bounded (Below n) (match_all R.premises js b) c (match_all_bounded (Below n) (below_arguments n) R.premises js b
      (bounded (Below n) (match_stated R.conclusion it.stated it.bound) b
      (match_stated_bounded (Below n) (below_arguments n) R.conclusion it.stated it.bound a.bound a.stated) e) (belows_each n js h)) f

  pub step_below : (xs : Sexps) (m : Made) → MadeBelow n m → Bounds n (λ r. FactBelow n r.0) (step S xs m)
  unfolding step Below
  step_below xs m g =
      by_still _ _ g (name_still 33 (item xs 2)) λ a e.
      by_found 33 (rule_named S.theory a.bytes) _ g λ r f.
      by_still _ _ g (items_still 37 (item xs 3)) λ ys i.
      by_ask 37 (eqb (count ys) (count_trees (rule S.theory r).premises)) _ g λ l.
      by_then _ _ (references_below ys m g) λ rs u p.
      by_then _ _ (read_items_below (rule S.theory r) (rest xs 4) no_items u p.0 no_items_lem) λ it w q.
      by_found 38 (match_stated (rule S.theory r).conclusion it.stated it.bound) _ q.0 λ b x.
      by_found 38 (match_all (rule S.theory r).premises rs.judgments b) _ q.0 λ c y.
      by_then _ _ (conclude_below (rule S.theory r).conclusion it.stated c w q.0 q.1.stated
      (matched_below (rule S.theory r) rs.judgments it b c q.1 p.1 x y)) λ j v z.
      by_still _ _ z.0 (scoped_still S _ j _) λ k d. fine (z.0, record { judgment = z.1; premises = tt })

  -- Applications ------------------------------------------------------------------------------------------------------------------------

  pub applied_below : (bs : List Binding) (i : ℕ) (f : Fact) (m : Made) → MadeBelow n m → FactBelow n f
      → Bounds n (λ a. Below n a.conclusion × Belows n a.premises) (applied S bs i f m)
  unfolding applied
  applied_below bs i f m g h =
      by_either f.assumed _ _
      (by_ask 36 (all (λ b. has f.general b.variable) bs) _ g λ e. fine (g, (h.judgment, h.premises)))
      (by_ask 40 (all (plain_at S.facts) f.hyps) _ g λ e.
      fine (g, (h.judgment, judgments_at_below n S.facts f.hyps low.facts (plain_there S.facts f.hyps e))))

  pub discharge_below : (bs : List Binding) → ValuesBelow n bs → (xs : Sexps) (ps : Trees) (m : Made) → MadeBelow n m → Belows n ps
      → Bounds n (λ rs. Unit {0}) (discharge S bs xs ps m)
  unfolding discharge Below
  discharge_below bs b nil ps m g h = fine (g, tt)
  discharge_below bs b (cons x xs) none m g h = fine (g, tt)
  discharge_below bs b (cons x xs) (more p ps) m g h =
      by_then _ _ (substitute_below n (along bs) (along_below n bs b) p m g h.0) λ t u q.
      by_then _ _ (reference_below x u q.0) λ r w k.
      by_ask 38 (same_tree r.judgment t) _ k.0 λ e.
      by_then _ _ (discharge_below bs b xs ps w k.0 h.1) λ rs v l. fine (l.0, tt)

  pub apply_below : (xs : Sexps) (m : Made) → MadeBelow n m → Bounds n (FactBelow n) (apply S xs m)
  unfolding apply Below
  apply_below xs m g =
      by_still _ _ g (index_still 34 (item xs 2)) λ i e.
      by_still _ _ g (items_still 36 (item xs 3)) λ ys e.
      by_then _ _ (bindings_below ys [] m g empty) λ bs u p.
      by_still _ _ p.0 (fact_at_still S i) λ f e.
      by_then _ _ (applied_below bs i f u p.0 (fact_below i u f e)) λ a w q.
      by_still _ _ q.0 (items_still 37 (item xs 4)) λ zs e.
      by_ask 37 (eqb (count zs) (count_trees a.premises)) _ q.0 λ e.
      by_then _ _ (substitute_below n (along bs) (along_below n bs p.1) a.conclusion w q.0 q.1.0) λ j v k.
      by_then _ _ (discharge_below bs p.1 zs a.premises v k.0 q.1.1) λ rs z l.
      by_still _ _ l.0 (scoped_still S _ j _) λ b d. fine (l.0, record { judgment = k.1; premises = tt })
