-- The walk of Keeping through `step` and `apply`: what a pattern's variables are bound to is stored, so what is built from them is.
-- Assumes nothing.
use Rattle.std.specs.Prelude.{ℕ, ◌≡◌, refl, Bool, ◌&&◌, get_or, Option, Some as some, None as nothing}
use Rattle.std.proofs.Math.Path.{subst}
use Rattle.std.proofs.Math.Bool.{true, false}
use mathlib.Core.List.{List, [], ◌∷◌}
use Rattle.std.proofs.Common.{arith}
use Rattle.std.proofs.Math.Dec.{eqb}
use Rattle.rules.specs.Out.{ok, then, Act, ask}
use Rattle.rules.specs.Text.{same}
use Rattle.rules.specs.Sexp.{Sexp, Sexps, nil, cons, count, item, rest, marked}
use Rattle.rules.specs.Find.{first, all, has}
use Rattle.rules.specs.Tree.{Tree, Trees, var, app, none, more, same_tree, count_trees}
use Rattle.rules.specs.Store.{Made}
use Rattle.rules.specs.Theory.{Rule, rule, rule_named}
use Rattle.rules.specs.Declare.{is_new, no_rule_var}
use Rattle.rules.specs.Match.{Bound, bind, match_var, and_then, matches, match_all}
use Rattle.rules.specs.Unify.{Binding, along}
use Rattle.rules.specs.State.{State, Fact}
use Rattle.rules.specs.Reference.{judgments_at}
use Rattle.rules.specs.Step.{references, Items, no_items, bind_item, state_item, read_item, read_items, match_stated, conclude, step}
use Rattle.rules.specs.Apply.{Applied, plain_at, applied, discharge, apply}
use Rattle.rules.specs.Laws.Theory.{empty}
use Rattle.rules.specs.Laws.Keeping.{Each, Invariant, Grows, Keeps, fine, stays, has_on, each_on, by_then, by_still, by_ask, by_found, by_either, Still, answers}
use Rattle.rules.proofs.Laws.MakingWalk.{substitute_keeps, build_keeps}
use Rattle.rules.specs.Laws.Ready.{Known}
use Rattle.rules.proofs.Laws.Still.{name_still, items_still, index_still, fact_at_still, scoped_still, still_ask}
use Rattle.rules.proofs.Laws.ReadWalk.{ready_on, term_of_keeps, judgment_keeps, bindings_keeps, reference_keeps}
use Rattle.rules.specs.Laws.Ready.{FactIn, Ready}

-- Matching ----------------------------------------------------------------------------------------------------------------------

-- every tree that a variable is bound to has the property
abbrev pub Bounded : (Tree → Type 0) → Bound → Type 0
Bounded P b = (v : ℕ) (t : Tree) → b v ≡ some t → P t

unfoldable pub IfBounded : (Tree → Type 0) → Option Bound → Type 0
IfBounded P nothing = Unit {0}
IfBounded P (some b) = Bounded P b

pub bounded : (P : Tree → Type 0) (o : Option Bound) (b : Bound) → IfBounded P o → o ≡ some b → Bounded P b
unfolding IfBounded
bounded P nothing b h e = absurd (let z : ◌≡◌ {A = ℕ} 0 1 = cc in omega arith)
bounded P (some c) b h e = let q : c ≡ b = cc in subst (λ x. Bounded P x) q h

-- P goes from a tree to its arguments
module _ (P : Tree → Type 0) (args : (c : ℕ) (ts : Trees) → P (app c ts) → Each P ts) where
  pub bind_bounded : (b : Bound) (v : ℕ) (t : Tree) → Bounded P b → P t → Bounded P (bind b v t)
  unfolding bind
  bind_bounded b v t h p w u e = go (eqb w v) e
    where
      go : (c : Bool) → elim c [ true ↦ some t | false ↦ b w ] ≡ some u → P u
      go true e = let q : t ≡ u = cc in subst P q p
      go false e = h w u e

  match_var_bounded : (v : ℕ) (t : Tree) (b : Bound) (o : Option Tree) → Bounded P b → P t → IfBounded P (match_var v t b o)
  unfolding match_var IfBounded
  match_var_bounded v t b nothing h p = bind_bounded b v t h p
  match_var_bounded v t b (some u) h p = go (same_tree u t)
    where
      go : (c : Bool) → IfBounded P (elim c [ true ↦ some b | false ↦ nothing ])
      go true = h
      go false = tt

  and_then_bounded : (o : Option Bound) (f : Bound → Option Bound) → IfBounded P o → ((b : Bound) → Bounded P b → IfBounded P (f b)) → IfBounded P (and_then o f)
  unfolding and_then IfBounded
  and_then_bounded nothing f h k = tt
  and_then_bounded (some b) f h k = k b h

  mutual
    unfolding matches IfBounded Each

    pub matches_bounded : (p t : Tree) (b : Bound) → Bounded P b → P t → IfBounded P (matches p t b)
    matches_bounded (var v) t b h k = match_var_bounded v t b (b v) h k
    matches_bounded (app c ps) (var w) b h k = tt
    matches_bounded (app c ps) (app d ts) b h k = go (eqb c d) (match_all_bounded ps ts b h (args d ts k))
      where
        go : (a : Bool) → IfBounded P (match_all ps ts b) → IfBounded P (elim a [ true ↦ match_all ps ts b | false ↦ nothing ])
        go true r = r
        go false r = tt

    pub match_all_bounded : (ps ts : Trees) (b : Bound) → Bounded P b → Each P ts → IfBounded P (match_all ps ts b)
    match_all_bounded none none b h k = h
    match_all_bounded none (more t ts) b h k = tt
    match_all_bounded (more p ps) none b h k = tt
    match_all_bounded (more p ps) (more t ts) b h k =
        and_then_bounded (matches p t b) _ (matches_bounded p t b h k.0) (λ c i. match_all_bounded ps ts c i k.1)

  pub match_stated_bounded : (p : Tree) (o : Option Tree) (b : Bound) → Bounded P b → ((t : Tree) → o ≡ some t → P t) → IfBounded P (match_stated p o b)
  unfolding match_stated IfBounded
  match_stated_bounded p nothing b h k = h
  match_stated_bounded p (some t) b h k = matches_bounded p t b h (k t refl)

-- Applications by a fact -----------------------------------------------------------------------------------------------------

applied_still : (S : State) (bs : List Binding) (i : ℕ) (f : Fact) (m : Made) → Still m (applied S bs i f m)
unfolding applied
applied_still S bs i f m = go f.assumed
  where
    go : (b : Bool) → Still m ((elim b as (λ (z : Bool). Act Made Applied) [
      | true ↦ λ s. then (ask 36 (all (λ b. has f.general b.variable) bs) s) λ _ s.
          ok (record { premises = f.premises; conclusion = f.judgment; hyps = i ∷ [] }) s
      | false ↦ λ s. then (ask 40 (all (plain_at S.facts) f.hyps) s) λ _ s.
          ok (record { premises = judgments_at S.facts f.hyps; conclusion = f.judgment; hyps = [] }) s
    ]) m)
    go true = still_ask 36 (all (λ b. has f.general b.variable) bs) _ answers
    go false = still_ask 40 (all (plain_at S.facts) f.hyps) _ answers

-- Steps -------------------------------------------------------------------------------------------------------------------------

pub record ItemsIn (K : Invariant) (m : Made) (it : Items) : Type 0 where
  pub bound : Bounded (K.Has m) it.bound
  pub stated : (t : Tree) → it.stated ≡ some t → K.Has m t

module _ {K : Invariant} where
  pub no_items_in : {m : Made} → ItemsIn K m no_items
  no_items_in = record {
    bound = λ v t e. absurd (let z : ◌≡◌ {A = ℕ} 0 1 = cc in omega arith);
    stated = λ t e. absurd (let z : ◌≡◌ {A = ℕ} 0 1 = cc in omega arith);
  }

  items_on : {m u : Made} {it : Items} → Grows K m u → ItemsIn K m it → ItemsIn K u it
  items_on g h = record { bound = λ v t e. has_on g (h.bound v t e); stated = λ t e. has_on g (h.stated t e) }

  pub references_keeps : (S : State) (xs : Sexps) (m : Made) → Ready K S m → Keeps K m (λ rs u. Each (K.Has u) rs.judgments) (references S xs m)
  unfolding references Each
  references_keeps S nil m h = fine (stays h.good) tt
  references_keeps S (cons x xs) m h =
      by_then _ _ (reference_keeps S x m h) λ r u g p.
      by_then _ _ (references_keeps S xs u (ready_on h g)) λ rs w k q. fine (stays k.good) (has_on k p, q)

  bind_item_keeps : (S : State) (R : Rule) (n : List ℕ) (x : Sexp) (it : Items) (m : Made) → Ready K S m → ItemsIn K m it →
      Keeps K m (λ u w. ItemsIn K w u) (bind_item S R n x it m)
  unfolding bind_item
  bind_item_keeps S R n x it m h a =
      by_found 36 (first (λ v. same v.name.bytes n) R.vars 0) _ h.good λ i e.
      by_then _ _ (term_of_keeps S x (get_or R.vars i no_rule_var).sort m h) λ t u g p.
      by_ask 36 (is_new (it.bound i)) _ g.good λ f.
      let b = items_on g a in
      fine (stays g.good) (record { bound = bind_bounded (K.Has u) (λ c ts. K.below u c ts g.good) it.bound i t b.bound p; stated = b.stated })

  state_item_keeps : (S : State) (x : Sexp) (it : Items) (m : Made) → Ready K S m → ItemsIn K m it →
      Keeps K m (λ u w. ItemsIn K w u) (state_item S x it m)
  unfolding state_item
  state_item_keeps S x it m h a =
      by_then _ _ (judgment_keeps S x m h) λ j u g p.
      by_ask 37 (is_new it.stated) _ g.good λ f.
      fine (stays g.good) (record { bound = (items_on g a).bound; stated = λ t e. let q : j ≡ t = cc in subst (λ z. K.Has u z) q p })

  read_item_keeps : (S : State) (R : Rule) (x : Sexp) (it : Items) (m : Made) → Ready K S m → ItemsIn K m it →
      Keeps K m (λ u w. ItemsIn K w u) (read_item S R x it m)
  unfolding read_item
  read_item_keeps S R x it m h a =
      by_still _ _ h.good (items_still 22 x) λ ys e.
      by_still _ _ h.good (name_still 22 (item ys 0)) λ n f.
      by_either (marked n.bytes && eqb (count ys) 2) _ _
      (bind_item_keeps S R n.bytes (item ys 1) it m h a)
      (state_item_keeps S x it m h a)

  pub read_items_keeps : (S : State) (R : Rule) (xs : Sexps) (it : Items) (m : Made) → Ready K S m → ItemsIn K m it →
      Keeps K m (λ u w. ItemsIn K w u) (read_items S R xs it m)
  unfolding read_items
  read_items_keeps S R nil it m h a = fine (stays h.good) a
  read_items_keeps S R (cons x xs) it m h a =
      by_then _ _ (read_item_keeps S R x it m h a) λ b u g p. read_items_keeps S R xs b u (ready_on h g) p

  pub conclude_keeps : (p : Tree) (o : Option Tree) (b : Bound) (m : Made) → K.Good m → ((t : Tree) → o ≡ some t → K.Has m t) → Bounded (K.Has m) b →
      Keeps K m (Known K) (conclude p o b m)
  unfolding conclude
  conclude_keeps p (some j) b m g h k = fine (stays g) (h j refl)
  conclude_keeps p nothing b m g h k = build_keeps p b m g k

  pub match_bounded : (m : Made) (R : Rule) (js : Trees) (it : Items) (b c : Bound) → K.Good m → ItemsIn K m it → Each (K.Has m) js →
      match_stated R.conclusion it.stated it.bound ≡ some b → match_all R.premises js b ≡ some c → Bounded (K.Has m) c
  match_bounded m R js it b c g a h e f =
      bounded (K.Has m) (match_all R.premises js b) c (match_all_bounded (K.Has m) args R.premises js b
      (bounded (K.Has m) (match_stated R.conclusion it.stated it.bound) b
      (match_stated_bounded (K.Has m) args R.conclusion it.stated it.bound a.bound a.stated) e) h) f
    where
      args : (c : ℕ) (ts : Trees) → K.Has m (app c ts) → Each (K.Has m) ts
      args c ts k = K.below m c ts g k

  pub step_keeps : (S : State) (xs : Sexps) (m : Made) → Ready K S m → Keeps K m (λ r u. FactIn K u r.0) (step S xs m)
  unfolding step Each
  step_keeps S xs m h =
      by_still _ _ h.good (name_still 33 (item xs 2)) λ n e.
      by_found 33 (rule_named S.theory n.bytes) _ h.good λ r f.
      by_still _ _ h.good (items_still 37 (item xs 3)) λ ys i.
      by_ask 37 (eqb (count ys) (count_trees (rule S.theory r).premises)) _ h.good λ l.
      by_then _ _ (references_keeps S ys m h) λ rs u g p.
      by_then _ _ (read_items_keeps S (rule S.theory r) (rest xs 4) no_items u (ready_on h g) no_items_in) λ it w k q.
      by_found 38 (match_stated (rule S.theory r).conclusion it.stated it.bound) _ k.good λ b x.
      by_found 38 (match_all (rule S.theory r).premises rs.judgments b) _ k.good λ c y.
      by_then _ _ (conclude_keeps (rule S.theory r).conclusion it.stated c w k.good q.stated (
      match_bounded w (rule S.theory r) rs.judgments it b c k.good q (each_on rs.judgments k p) x y)) λ j v z o.
      by_still _ _ z.good (scoped_still S _ j _) λ a d. fine (stays z.good) (record { judgment = o; premises = tt })

  -- Applications ----------------------------------------------------------------------------------------------------------------

  discharge_keeps : (S : State) (bs : List Binding) (xs : Sexps) (ps : Trees) (m : Made) → Ready K S m →
      Keeps K m (λ rs u. Unit {0}) (discharge S bs xs ps m)
  unfolding discharge
  discharge_keeps S bs nil ps m h = fine (stays h.good) tt
  discharge_keeps S bs (cons x xs) none m h = fine (stays h.good) tt
  discharge_keeps S bs (cons x xs) (more p ps) m h =
      by_then _ _ (substitute_keeps (along bs) p m h.good) λ t u g a.
      by_then _ _ (reference_keeps S x u (ready_on h g)) λ r w k b.
      by_ask 38 (same_tree r.judgment t) _ k.good λ e.
      by_then _ _ (discharge_keeps S bs xs ps w (ready_on (ready_on h g) k)) λ rs v l c. fine (stays l.good) tt

  pub apply_keeps : (S : State) (xs : Sexps) (m : Made) → Ready K S m → Keeps K m (λ f u. FactIn K u f) (apply S xs m)
  unfolding apply Each
  apply_keeps S xs m h =
      by_still _ _ h.good (index_still 34 (item xs 2)) λ i e.
      by_still _ _ h.good (items_still 36 (item xs 3)) λ ys e.
      by_then _ _ (bindings_keeps S ys [] m h empty) λ bs u g p.
      by_still _ _ g.good (fact_at_still S i) λ f e.
      by_still _ _ g.good (applied_still S bs i f u) λ a e.
      by_still _ _ g.good (items_still 37 (item xs 4)) λ zs e.
      by_ask 37 (eqb (count zs) (count_trees a.premises)) _ g.good λ e.
      by_then _ _ (substitute_keeps (along bs) a.conclusion u g.good) λ j w k q.
      by_then _ _ (discharge_keeps S bs zs a.premises w (ready_on (ready_on h g) k)) λ rs v l r.
      by_still _ _ l.good (scoped_still S _ j _) λ b d. fine (stays l.good) (record { judgment = has_on l q; premises = tt })
