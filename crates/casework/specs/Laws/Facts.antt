-- The loop over the facts of the context, each in turn: what they allow joins the sets. Assumes nothing.
use Rattle.std.specs.Prelude.{◌≡◌, refl, Bool, true, false, ◌&&◌, ◌||◌, ℕ, ◌+◌, ◌<◌, ◌≤◌, length, get_or, drop}
use Rattle.std.proofs.Math.Path.{sym, ap}
use Rattle.std.proofs.Common.{◌∙◌, subst, arith, add-one, drop_of_length-le, drop-cons}
use mathlib.Core.List.{List, [], ◌∷◌, ◌++◌, append_assoc, append-nil}
use Rattle.rules.specs.Out.{Out, ok, then}
use Rattle.rules.specs.Find.{Set, has, any, union}
use Rattle.rules.specs.Tree.{Tree, var}
use Rattle.rules.specs.Store.{Made}
use Rattle.rules.specs.Unify.{Binding}
use Rattle.rules.specs.State.{State}
use Rattle.rules.specs.Reference.{fact_at}
use Rattle.rules.specs.Invert.{Allowed, is_allowed, context_fact, context_facts}
use Rattle.rules.specs.Laws.Theory.{All, empty, both, all_map}
use Rattle.rules.specs.Laws.Out.{then_then}
use Rattle.rules.specs.Laws.Store.{then_ok}
use Rattle.rules.specs.Laws.Set.{union_assoc, union_empty}
use Rattle.rules.specs.Laws.Members.{has_append}
use Rattle.terms.specs.declared.store.Mark.{Mark}
use Rattle.terms.specs.Table.{made, Good, Grown}
use Rattle.terms.specs.Sets.{holds}
use Rattle.terms.specs.Theta.{bindings, Theta}
use Rattle.terms.specs.On.{Went, Stopped, On, on_start, on_is, on_ok, on_no, on_done}
use Rattle.terms.specs.Laws.Growth.{grown_tree, made_length}
use Rattle.terms.specs.Laws.Theta.{bindings_grown, theta_grown}
use Rattle.state.specs.declared.sizes.Sizes.{Sizes}
use Rattle.state.specs.Growth.{recorded_on}
use Rattle.reading.specs.Laws.Walks.{then_same}
use Rattle.referring.specs.Recall.{fact_of, Recalls}
use Rattle.casework.specs.Context.{plainly, plains_of, others_of, trees_of, PlainAdds, matching, Adds, ContextRead, one, all_of, ContextGiven}
use Rattle.referring.specs.Laws.Refers.{fact_found}
use Rattle.referring.specs.Laws.Sounds.{grown_grows}

-- Lists one behind the other -----------------------------------------------------------------------------------------------------------------

pub plains_append : (xs ys : List Allowed) → plains_of (xs ++ ys) ≡ plains_of xs ++ plains_of ys
unfolding plains_of
plains_append [] ys = refl
plains_append (x ∷ xs) ys = go (plainly x) (plains_append xs ys)
  where
    go : (b : Bool) → plains_of (xs ++ ys) ≡ plains_of xs ++ plains_of ys →
        ◌≡◌ {A = List Tree} (elim b [ true ↦ x.judgment ∷ plains_of (xs ++ ys) | false ↦ plains_of (xs ++ ys) ])
        (elim b as (λ (z : Bool). List Tree) [ true ↦ x.judgment ∷ plains_of xs | false ↦ plains_of xs ] ++ plains_of ys)
    go true e = ap (λ (ts : List Tree). x.judgment ∷ ts) e
    go false e = e

pub others_append : (xs ys : List Allowed) → others_of (xs ++ ys) ≡ others_of xs ++ others_of ys
unfolding others_of
others_append [] ys = refl
others_append (x ∷ xs) ys = go (plainly x) (others_append xs ys)
  where
    go : (b : Bool) → others_of (xs ++ ys) ≡ others_of xs ++ others_of ys →
        ◌≡◌ {A = List Allowed} (elim b [ true ↦ others_of (xs ++ ys) | false ↦ x ∷ others_of (xs ++ ys) ])
        (elim b as (λ (z : Bool). List Allowed) [ true ↦ others_of xs | false ↦ x ∷ others_of xs ] ++ others_of ys)
    go true e = e
    go false e = ap (λ (zs : List Allowed). x ∷ zs) e

any_append : (p : Allowed → Bool) (xs ys : List Allowed) → any p (xs ++ ys) ≡ any p xs || any p ys
unfolding any
any_append p [] ys = refl
any_append p (x ∷ xs) ys = go (p x) (any_append p xs ys)
  where
    go : (b : Bool) → any p (xs ++ ys) ≡ any p xs || any p ys →
        ◌≡◌ {A = Bool} (elim b [ true ↦ true | false ↦ any p (xs ++ ys) ]) (elim b as (λ (z : Bool). Bool) [ true ↦ true | false ↦ any p xs ] || any p ys)
    go true e = refl
    go false e = e

trees_append : (M : Made) (ps qs : List ℕ) → trees_of M (ps ++ qs) ≡ trees_of M ps ++ trees_of M qs
unfolding trees_of
trees_append M [] qs = refl
trees_append M (p ∷ ps) qs = ap (λ (ts : List Tree). get_or M p (var 0) ∷ ts) (trees_append M ps qs)

all_append : {P : ℕ → Type 0} {xs ys : List ℕ} → All P xs → All P ys → All P (xs ++ ys)
all_append empty k = k
all_append (both h hs) k = both h (all_append hs k)

trees_grown : {I W J X : List ℕ} {old new : Mark} → Grown I W J X old new → {ps : List ℕ} → All (λ (k : ℕ). k < length (made I W old)) ps →
    trees_of (made J X new) ps ≡ trees_of (made I W old) ps
unfolding trees_of
trees_grown w empty = refl
trees_grown {I} {W} {J} {X} {old} {new} w (both {x = p} {xs = ps} l a) =
    λ i. grown_tree w p (omega (arith, l, made_length I W old)) i ∷ trees_grown w a i

-- The sets got more --------------------------------------------------------------------------------------------------------------------------

pub plain_more : {I W J X : List ℕ} {old new : Mark} → Grown I W J X old new → {a b c : List ℕ} {ts us : List Tree} →
    PlainAdds (made I W old) a b ts → PlainAdds (made J X new) b c us → PlainAdds (made J X new) a c (ts ++ us)
plain_more {I} {W} {J} {X} {old} {new} w {a} {b} {c} p q =
    record {
      ps = p.ps ++ q.ps;
      there = all_append (all_map (λ k l. omega (arith, l, w.more, made_length I W old, made_length J X new)) p.there) q.there;
      trees = trees_append (made J X new) p.ps q.ps ∙ (λ i. (trees_grown w p.there ∙ p.trees) i ++ q.trees i);
      is = q.is ∙ ap (λ (s : Set). union s (has q.ps)) p.is ∙ union_assoc (holds a) (has p.ps) (has q.ps) ∙ ap (union (holds a)) (sym (has_append p.ps q.ps));
    }

and_or : (a b c : Bool) → a && (b || c) ≡ (a && b) || (a && c)
and_or true b c = refl
and_or false b c = refl

matching_append : (S : State) (own : List ℕ) (xs ys : List Allowed) → matching S own (xs ++ ys) ≡ union (matching S own xs) (matching S own ys)
matching_append S own xs ys = λ i h.
    (ap (λ (b : Bool). has own h && b) (ap (any (is_allowed (fact_of S h))) (others_append xs ys) ∙ any_append (is_allowed (fact_of S h)) (others_of xs) (others_of ys))
    ∙ and_or (has own h) (any (is_allowed (fact_of S h)) (others_of xs)) (any (is_allowed (fact_of S h)) (others_of ys))) i

pub adds_more : {I W J X : List ℕ} {old new : Mark} → Grown I W J X old new → {S : State} {own p p' p'' f f' f'' : List ℕ} {xs ys : List Allowed} →
    Adds (made I W old) S own p p' f f' xs → Adds (made J X new) S own p' p'' f' f'' ys → Adds (made J X new) S own p p'' f f'' (xs ++ ys)
adds_more {J = J} {X} {new = new} w {S} {own} {p} {p'} {p''} {f} {f'} {f''} {xs} {ys} a b =
    record {
      plains = subst (λ (ts : List Tree). PlainAdds (made J X new) p p'' ts) (sym (plains_append xs ys)) (plain_more w a.plains b.plains);
      fines = b.fines ∙ ap (λ (s : Set). union s (matching S own ys)) a.fines ∙ union_assoc (holds f) (matching S own xs) (matching S own ys)
          ∙ ap (union (holds f)) (sym (matching_append S own xs ys));
    }

pub plain_none : (M : Made) (p : List ℕ) → PlainAdds M p p []
unfolding trees_of has
plain_none M p = record { ps = []; there = empty; trees = refl; is = sym (union_empty (holds p)) }

adds_none : (M : Made) (S : State) (own p f : List ℕ) → Adds M S own p p f f []
unfolding plains_of others_of any
adds_none M S own p f = record { plains = plain_none M p; fines = λ i v. at (holds f v) (has own v) i }
  where
    at : (a b : Bool) → a ≡ a || (b && false)
    at true b = refl
    at false true = refl
    at false false = refl

-- The loop ---------------------------------------------------------------------------------------------------------------------------------------

facts_cons : (S : State) (θ : List Binding) (x : ℕ) (xs : List ℕ) (M : Made) → fact_at S x M ≡ ok (fact_of S x) M →
    context_facts S θ (x ∷ xs) M ≡ then (context_fact θ (fact_of S x) M) (λ a U. then (context_facts S θ xs U) (λ az R. ok (a ∷ az) R))
unfolding context_facts
facts_cons S θ x xs M e =
    then_ok (fact_at S x M) (fact_of S x) M (λ f U. then (context_fact θ f U) (λ a R. then (context_facts S θ xs R) (λ az Y. ok (a ∷ az) Y))) e

-- what these allow is in the sets; the rest is left
pub record Contexting (I W : List ℕ) (old : Mark) (S : State) (theta context own plain fine J X plain' fine' : List ℕ) (now : Mark) (k : ℕ) : Type 0 where
  pub before : List Allowed
  pub on : On I W old (context_facts S (bindings (made I W old) theta 0) context (made I W old)) J X now
      (then (context_facts S (bindings (made I W old) theta 0) (drop k context) (made J X now)) (λ bs U. ok (before ++ bs) U))
  pub adds : Adds (made J X now) S own plain plain' fine fine' before

pub contexting_start : {I W : List ℕ} {m : Mark} → Good I W m → (S : State) (theta context own plain fine : List ℕ) → Contexting I W m S theta context own plain fine I W plain fine m 0
contexting_start {I} {W} {m} g S theta context own plain fine =
    record {
      before = [];
      on = on_is (on_start g) (then_same (context_facts S (bindings (made I W m) theta 0) context (made I W m)));
      adds = adds_none (made I W m) S own plain fine;
    }

-- the facts are readable beside what is made later
abbrev pub recalls_grown : {facts lists : List ℕ} {n : Sizes} {I W J X : List ℕ} {old new : Mark} → Grown I W J X old new → Recalls facts lists n I W old → Recalls facts lists n J X new
recalls_grown w g = record { S = g.S; footings = g.footings; many = g.many; recorded = recorded_on (grown_grows w) g.recorded; good = w.good }

pub given_grown : {facts lists : List ℕ} {n : Sizes} {I W J X : List ℕ} {m now : Mark} {theta memo memo' own : List ℕ} →
    ContextGiven facts lists n I W m theta memo own → Grown I W J X m now → memo' ≡ memo → ContextGiven facts lists n J X now theta memo' own
given_grown c w e = record { recalls = recalls_grown w c.recalls; cells = theta_grown w c.cells; empty = e ∙ c.empty; known = c.known }

module _ {I W : List ℕ} {old : Mark} {S : State} {theta context own plain fine J X plain' fine' : List ℕ} {now : Mark} {k : ℕ}
    (h : Contexting I W old S theta context own plain fine J X plain' fine' now k) where
  abbrev all_left : List ℕ → Made → Out Made (List Allowed)
  all_left xs M = context_facts S (bindings (made I W old) theta 0) xs M

  pub contexting_over : length context ≤ k →
      ContextRead (List Allowed) I W J X old S (context_facts S (bindings (made I W old) theta 0) context (made I W old)) all_of own plain plain' fine fine' now
  unfolding context_facts then
  contexting_over l =
      record {
        answer = h.before;
        went = on_done (on_is h.on (ap (λ (xs : List ℕ). then (all_left xs (made J X now)) (λ bs U. ok (h.before ++ bs) U)) (drop_of_length-le context l)
            ∙ ap (λ (bs : List Allowed). ok bs (made J X now)) (append-nil h.before)));
        adds = h.adds;
      }

  module _ {facts lists : List ℕ} {n : Sizes} (g : Recalls facts lists n I W old) (same : g.S ≡ S) (c : Theta old theta) (l : k < length context) (known : get_or context k 0 < n.facts) where
    abbrev x : ℕ
    x = get_or context k 0

    found_here : fact_at S x (made J X now) ≡ ok (fact_of S x) (made J X now)
    found_here = subst (λ (Σ : State). fact_at Σ x (made J X now) ≡ ok (fact_of Σ x) (made J X now)) same (fact_found g.recorded (made J X now) known)

    split : On I W old (all_left context (made I W old)) J X now
        (then (context_fact (bindings (made I W old) theta 0) (fact_of S x) (made J X now))
        (λ a U. then (then (all_left (drop (k + 1) context) U) (λ az R. ok (a ∷ az) R)) (λ bs U. ok (h.before ++ bs) U)))
    split =
        on_is h.on
        (ap (λ (xs : List ℕ). then (all_left xs (made J X now)) (λ bs U. ok (h.before ++ bs) U))
        (drop-cons context k 0 l ∙ ap (λ (j : ℕ). x ∷ drop j context) (sym (add-one k)))
        ∙ ap (λ (o : Out Made (List Allowed)). then o (λ bs U. ok (h.before ++ bs) U))
        (facts_cons S (bindings (made I W old) theta 0) x (drop (k + 1) context) (made J X now) found_here)
        ∙ then_then (context_fact (bindings (made I W old) theta 0) (fact_of S x) (made J X now)) _ _)

    action : context_fact (bindings (made J X now) theta 0) (fact_of S x) (made J X now) ≡ context_fact (bindings (made I W old) theta 0) (fact_of S x) (made J X now)
    action = ap (λ (θ : List Binding). context_fact θ (fact_of S x) (made J X now)) (bindings_grown h.on.grown c)

    pub contexting_stops : {Y Z : List ℕ} {q d : ℕ} {new : Mark} →
        Stopped J X Y Z now (context_fact (bindings (made J X now) theta 0) (fact_of S x) (made J X now)) q d new →
        Stopped I W Y Z old (context_facts S (bindings (made I W old) theta 0) context (made I W old)) q d new
    contexting_stops s = on_no _ split (record { grown = s.grown; makes = sym action ∙ s.makes })

    pub contexting_more : {Y Z plain'' fine'' : List ℕ} {new : Mark} →
        ContextRead Allowed J X Y Z now S (context_fact (bindings (made J X now) theta 0) (fact_of S x) (made J X now)) one own plain' plain'' fine' fine'' new →
        Contexting I W old S theta context own plain fine Y Z plain'' fine'' new (k + 1)
    unfolding then
    contexting_more {Y} {Z} {new = new} r =
        let a = r.answer in
        let w : Went J X Y Z now (context_fact (bindings (made I W old) theta 0) (fact_of S x) (made J X now)) a new =
        record { grown = r.went.grown; makes = sym action ∙ r.went.makes } in
        record {
          before = h.before ++ (a ∷ []);
          on = on_is (on_ok _ split w)
              (then_then (all_left (drop (k + 1) context) (made Y Z new)) _ _
              ∙ ap (then (all_left (drop (k + 1) context) (made Y Z new))) (λ i az R. ok (sym (append_assoc h.before (a ∷ []) az) i) R));
          adds = adds_more r.went.grown h.adds r.adds;
        }
