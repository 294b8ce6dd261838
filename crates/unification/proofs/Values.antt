-- The loop over the values of a substitution, each of them under one replacement, with one memo for all. Assumes nothing.
use mathlib.Core.Path.{◌≡◌, refl, sym, ap, ◌∙◌, subst}
use mathlib.Core.List.{List, [], ◌∷◌, ◌++◌, append-nil, append_assoc}
use Prim.Native.Nat.{ℕ, suc, ◌+◌, ◌-◌, ◌≤◌, ◌<◌}
use native.Mathlib.Omega.{arith}
use native.Mathlib.Decide.{dec_lt, ℕ_discrete}
use native.Mathlib.Numerals.{add-one}
use lib.ListN.{length, get_or, take, drop, set, length-set, drop_of_length-le, get_or-eq_default}
use lib.Seq.{length-take-le, take-suc, take-suc-set, take_all, drop-cons, get_or-take, get_or-set_same, get_or-set_other}
use Rattle.rules.specs.Out.{Out, ok, refuse, then}
use Rattle.rules.specs.Tree.{Tree, var, sub}
use Rattle.rules.specs.Store.{Made, make, substitute}
use Rattle.rules.specs.Laws.Out.{then_then}
use Rattle.rules.specs.Laws.Store.{then_ok, then_refuse, number_is}
use Rattle.rules.specs.Unify.{Binding}
use Rattle.terms.specs.declared.store.Mark.{Mark}
use Rattle.std.specs.Prelude.{Result, Ok, Err}
use Rattle.questions.specs.Numbers.{row_number}
use Rattle.questions.specs.declared.Row.{Row}
use Rattle.terms.specs.Table.{made, Grown, Refused}
use Rattle.terms.specs.Subst.{replacement, Knows, substituted, asked, Replacing, Done, Substituted}
use Rattle.terms.specs.Theta.{bindings}
use Rattle.unification.specs.Extend.{in_values, Changeable, Changed}
use Rattle.terms.specs.Laws.Tables.{length_trees}
use Rattle.terms.specs.Laws.Growth.{grown_refl, grown_trans, grown_tree}
use Rattle.terms.specs.Laws.Theta.{replacement_grown, bindings_more, binding, bindings_zero, bindings_some, bindings_snoc_zero}
use Rattle.terms.specs.Laws.Theta.{bindings_snoc_some}

-- The definition, one value at a time ------------------------------------------------------------------------------------------------

-- that of `meaning` is private there, and `then_same` of `reading` stands above this crate
then_pure : {S A : Type 0} (K : Out S A) → then K (λ a s. ok a s) ≡ K
unfolding then
then_pure (ok a s) = refl
then_pure (refuse n d s) = refl

module _ (σ : ℕ → Tree) (b : Binding) (θ : List Binding) (M : Made) (f : List Binding → Made → Out Made (List Binding)) where
  values_more : (t : Tree) (N : Made) → make (sub σ b.value) M ≡ ok t N
      → then (in_values σ (b ∷ θ) M) f ≡ then (in_values σ θ N) (λ ζ n. f (record { variable = b.variable; value = t } ∷ ζ) n)
  unfolding in_values substitute then
  values_more t N e =
      ap (λ (K : Out Made (List Binding)). then K f) (then_ok (make (sub σ b.value) M) t N (λ u n. then (in_values σ θ n) (λ ζ k. ok (record { variable = b.variable; value = u } ∷ ζ) k)) e)
      ∙ then_then (in_values σ θ N) (λ ζ k. ok (record { variable = b.variable; value = t } ∷ ζ) k) f

  values_stop : (n d : ℕ) (N : Made) → make (sub σ b.value) M ≡ refuse n d N → then (in_values σ (b ∷ θ) M) f ≡ refuse n d N
  unfolding in_values substitute then
  values_stop n d N e =
      ap (λ (K : Out Made (List Binding)). then K f) (then_refuse (make (sub σ b.value) M) n d N (λ u n. then (in_values σ θ n) (λ ζ k. ok (record { variable = b.variable; value = u } ∷ ζ) k)) e)

-- The loop ---------------------------------------------------------------------------------------------------------------------------

-- the tables J X at m hold what was made of the values before variable v; what is left of them decides
pub record Changing (I W : List ℕ) (old : Mark) (theta map memo : List ℕ) (J X theta' memo' : List ℕ) (m : Mark) (v : ℕ) : Type 0 where
  pub ready : Changeable I W old theta map memo
  pub grown : Grown I W J X old m
  pub upto : v ≤ length theta
  pub same : length theta' ≡ length theta
  pub long : length memo' ≡ length memo
  pub knows : (i : ℕ) → 0 < get_or memo' i 0 → Knows (made J X m) (replacement (made I W old) map) memo' i
  pub bound : (k : ℕ) → get_or theta' k 0 ≤ m.terms
  pub rest : (k : ℕ) → v ≤ k → get_or theta' k 0 ≡ get_or theta k 0
  pub unbound : (k : ℕ) → get_or theta k 0 ≡ 0 → get_or theta' k 0 ≡ 0
  pub left : in_values (replacement (made I W old) map) (bindings (made I W old) theta 0) (made I W old)
      ≡ then (in_values (replacement (made I W old) map) (bindings (made I W old) (drop v theta) v) (made J X m)) (λ ζ n. ok (bindings (made J X m) (take v theta') 0 ++ ζ) n)

pub changing_begins : (I W : List ℕ) (old : Mark) (theta map memo : List ℕ) → Changeable I W old theta map memo → Changing I W old theta map memo I W theta memo old 0
unfolding bindings
changing_begins I W old theta map memo r =
    record {
      ready = r;
      grown = grown_refl r.good;
      upto = omega arith;
      same = refl;
      long = refl;
      knows = λ i p. absurd (let z = r.empty i in omega arith);
      bound = r.cells.bound;
      rest = λ k p. refl;
      unbound = λ k p. p;
      left = sym (then_pure _);
    }

module _ (I W : List ℕ) (old : Mark) (theta map memo : List ℕ) (J X theta' memo' : List ℕ) (m : Mark) (v : ℕ) (l : Changing I W old theta map memo J X theta' memo' m v) where
  abbrev σ : ℕ → Tree
  σ = replacement (made I W old) map

  -- the definition's answer
  abbrev K₀ : Out Made (List Binding)
  K₀ = in_values σ (bindings (made I W old) theta 0) (made I W old)

  same_replacement : replacement (made J X m) map ≡ σ
  same_replacement = replacement_grown l.grown map l.ready.bound

  module _ (h : v < length theta') where
    inside : v < length theta
    inside = let a = l.same in omega arith

    cell : get_or theta' v 0 ≡ get_or theta v 0
    cell = l.rest v (omega arith)

    front : length (take v theta') ≡ v
    front = length-take-le v theta' (omega arith)

    -- no value: nothing changes
    pub changing_skip : get_or theta' v 0 ≡ 0 → Changing I W old theta map memo J X theta' memo' m (v + 1)
    changing_skip z =
        let a = inside in
        record {
          ready = l.ready;
          grown = l.grown;
          upto = omega arith;
          same = l.same;
          long = l.long;
          knows = l.knows;
          bound = l.bound;
          rest = λ k p. l.rest k (omega arith);
          unbound = l.unbound;
          left = subst (λ (j : ℕ). K₀ ≡ then (in_values σ (bindings (made I W old) (drop j theta) j) (made J X m)) (λ ζ n. ok (bindings (made J X m) (take j theta') 0 ++ ζ) n)) (sym (add-one v)) left;
        }
      where
        now : bindings (made J X m) (take (suc v) theta') 0 ≡ bindings (made J X m) (take v theta') 0
        now = ap (λ (r : List ℕ). bindings (made J X m) r 0) (take-suc theta' v 0 h) ∙ bindings_snoc_zero (made J X m) (take v theta') (get_or theta' v 0) v front z ∙ append-nil _

        behind : bindings (made I W old) (drop v theta) v ≡ bindings (made I W old) (drop (suc v) theta) (suc v)
        behind = ap (λ (r : List ℕ). bindings (made I W old) r v) (drop-cons theta v 0 inside) ∙ bindings_zero (made I W old) (get_or theta v 0) (drop (suc v) theta) v (sym cell ∙ z)

        left : K₀ ≡ then (in_values σ (bindings (made I W old) (drop (suc v) theta) (suc v)) (made J X m)) (λ ζ n. ok (bindings (made J X m) (take (suc v) theta') 0 ++ ζ) n)
        left = l.left ∙ (λ i. then (in_values σ (behind i) (made J X m)) (λ ζ n. ok (sym now i ++ ζ) n))

    -- a value
    module _ (s : get_or theta' v 0 ≡ 0 → ⊥) where
      abbrev id : ℕ
      id = get_or theta' v 0 - 1

      low : id < old.terms
      low = let a = cell in let b = l.ready.cells.bound v in omega arith

      pub value_ready : Replacing J X m map memo' id
      value_ready =
          let a = low in
          let b = l.grown.more in
          let c = l.long in
          let d = l.ready.long in
          record {
            good = l.grown.good;
            bound = λ k. let x = l.ready.bound k in omega arith;
            there = omega arith;
            inside = omega arith;
            knows = λ i p. subst (λ (τ : ℕ → Tree). Knows (made J X m) τ memo' i) (sym same_replacement) (l.knows i p);
          }

      -- what the call asks for, in the trees of the beginning
      abbrev t : Tree
      t = sub σ (get_or (made I W old) (get_or theta v 0 - 1) (var 0))

      call_tree : substituted J X m map id ≡ t
      call_tree =
          ap (λ (τ : ℕ → Tree). sub τ (get_or (made J X m) id (var 0))) same_replacement
          ∙ ap (sub σ) (grown_tree l.grown id low)
          ∙ ap (λ (c : ℕ). sub σ (get_or (made I W old) (c - 1) (var 0))) cell

      behind : bindings (made I W old) (drop v theta) v ≡ binding (made I W old) v (get_or theta v 0) ∷ bindings (made I W old) (drop (suc v) theta) (suc v)
      behind = ap (λ (r : List ℕ). bindings (made I W old) r v) (drop-cons theta v 0 inside) ∙ bindings_some (made I W old) (get_or theta v 0) (drop (suc v) theta) v (λ z. s (cell ∙ z))

      left_split : K₀ ≡ then (in_values σ (binding (made I W old) v (get_or theta v 0) ∷ bindings (made I W old) (drop (suc v) theta) (suc v)) (made J X m)) (λ ζ n. ok (bindings (made J X m) (take v theta') 0 ++ ζ) n)
      left_split = l.left ∙ ap (λ (θ : List Binding). then (in_values σ θ (made J X m)) (λ ζ n. ok (bindings (made J X m) (take v theta') 0 ++ ζ) n)) behind

      front_bound : (k : ℕ) → get_or (take v theta') k 0 ≤ m.terms
      front_bound k = elim (dec_lt k v) [
        | yes p ↦ (let a = get_or-take v theta' k 0 p in let b = l.bound k in omega arith)
        | no q ↦ (let a = front in let b = get_or-eq_default (take v theta') 0 {n = k} (omega arith) in omega arith)
      ]

      module _ (K Y memo'' : List ℕ) (n : ℕ) (new : Mark) (q : length memo'' ≡ length memo') (d : Done J X K Y m map memo' memo'' id n new) where
        is_there : get_or (made K Y new) n (var 0) ≡ t
        is_there =
            let z = length_trees K Y new.terms in
            let a = d.stored.there in
            let b = d.stored.numbered in
            ap (λ (k : ℕ). get_or (made K Y new) k (var 0)) b ∙ number_is (made K Y new) (substituted J X m map id) (omega arith) ∙ call_tree

        makes : make t (made J X m) ≡ ok t (made K Y new)
        makes = ap (λ (u : Tree). make u (made J X m)) (sym call_tree) ∙ d.stored.makes ∙ ap (λ (u : Tree). ok u (made K Y new)) call_tree

        last : binding (made K Y new) v (n + 1) ≡ record { variable = v; value = t }
        last =
            let a : n + 1 - 1 ≡ n = omega arith in
            ap (λ (u : Tree). record { variable = v; value = u }) (ap (λ (k : ℕ). get_or (made K Y new) k (var 0)) a ∙ is_there)

        now : bindings (made K Y new) (take (suc v) (set theta' v (n + 1))) 0 ≡ bindings (made J X m) (take v theta') 0 ++ (record { variable = v; value = t } ∷ [])
        now =
            ap (λ (r : List ℕ). bindings (made K Y new) r 0) (take-suc-set theta' v (n + 1) h)
            ∙ bindings_snoc_some (made K Y new) (take v theta') (n + 1) v front (λ z. omega arith)
            ∙ (λ i. bindings_more (made J X m) (made K Y new) m.terms (take v theta') 0 (grown_tree d.stored.grown) front_bound i ++ (last i ∷ []))

        left_now : K₀ ≡ then (in_values σ (bindings (made I W old) (drop (suc v) theta) (suc v)) (made K Y new)) (λ ζ k. ok (bindings (made K Y new) (take (suc v) (set theta' v (n + 1))) 0 ++ ζ) k)
        left_now =
            left_split
            ∙ values_more σ (binding (made I W old) v (get_or theta v 0)) (bindings (made I W old) (drop (suc v) theta) (suc v)) (made J X m) (λ ζ k. ok (bindings (made J X m) (take v theta') 0 ++ ζ) k) t (made K Y new) makes
            ∙ (λ i. then (in_values σ (bindings (made I W old) (drop (suc v) theta) (suc v)) (made K Y new)) (λ ζ k. ok (sym (append_assoc (bindings (made J X m) (take v theta') 0) (record { variable = v; value = t } ∷ []) ζ) i) k))
            ∙ ap (λ (θ : List Binding). then (in_values σ (bindings (made I W old) (drop (suc v) theta) (suc v)) (made K Y new)) (λ ζ k. ok (θ ++ ζ) k)) (sym now)

        bound_now : (k : ℕ) → get_or (set theta' v (n + 1)) k 0 ≤ new.terms
        bound_now k = elim (ℕ_discrete k v) [
          | yes e ↦ (let a : get_or (set theta' v (n + 1)) k 0 ≡ n + 1 = ap (λ (j : ℕ). get_or (set theta' v (n + 1)) j 0) e ∙ get_or-set_same theta' v (n + 1) 0 h in let b = d.stored.there in omega arith)
          | no e ↦ (let a = get_or-set_other theta' v k (n + 1) 0 e in let b = l.bound k in let c = d.stored.grown.more in omega arith)
        ]

        changing_on : Changing I W old theta map memo K Y (set theta' v (n + 1)) memo'' new (v + 1)
        changing_on =
            let a = inside in
            record {
              ready = l.ready;
              grown = grown_trans l.grown d.stored.grown;
              upto = omega arith;
              same = length-set theta' v (n + 1) ∙ l.same;
              long = q ∙ l.long;
              knows = λ i p. subst (λ (τ : ℕ → Tree). Knows (made K Y new) τ memo'' i) same_replacement (d.knows i p);
              bound = bound_now;
              rest = λ k p. get_or-set_other theta' v k (n + 1) 0 (λ e. omega arith) ∙ l.rest k (omega arith);
              unbound = λ k p. get_or-set_other theta' v k (n + 1) 0 (λ e. s (cell ∙ sym (ap (λ (j : ℕ). get_or theta j 0) e) ∙ p)) ∙ l.unbound k p;
              left = subst (λ (j : ℕ). K₀ ≡ then (in_values σ (bindings (made I W old) (drop j theta) j) (made K Y new)) (λ ζ k. ok (bindings (made K Y new) (take j (set theta' v (n + 1))) 0 ++ ζ) k)) (sym (add-one v)) left_now;
            }

      -- from the call's answer and the arm that took it apart
      pub value_ok : (K Y memo'' : List ℕ) (new : Mark) (r : Result ℕ Row) → Substituted J X K Y m new map memo' memo'' id r → length memo'' ≡ length memo' → (n : ℕ) → r ≡ Ok n
          → Changing I W old theta map memo K Y (set theta' v (n + 1)) memo'' new (v + 1)
      value_ok K Y memo'' new r d q n p = changing_on K Y memo'' n new q (subst (Substituted J X K Y m new map memo' memo'' id) p d)

      pub value_err : (K Y memo'' : List ℕ) (new : Mark) (r : Result ℕ Row) → Substituted J X K Y m new map memo' memo'' id r → (row : Row) → r ≡ Err row → Refused (List Binding) I W K Y old K₀ (row_number row) new
      value_err K Y memo'' new r d row p =
          let f : Refused Tree J X K Y m (asked J X m map id) (row_number row) new = subst (Substituted J X K Y m new map memo' memo'' id) p d in
          record {
            grown = grown_trans l.grown f.grown;
            makes = left_split ∙ values_stop σ (binding (made I W old) v (get_or theta v 0)) (bindings (made I W old) (drop (suc v) theta) (suc v)) (made J X m) (λ ζ k. ok (bindings (made J X m) (take v theta') 0 ++ ζ) k) 60 (row_number row) (made K Y new)
                (ap (λ (u : Tree). make u (made J X m)) (sym call_tree) ∙ f.makes);
          }

  pub changing_ends : length theta' ≤ v → Changed I W J X old theta theta' K₀ m
  unfolding bindings in_values then
  changing_ends h =
      let a = l.same in
      record {
        grown = l.grown;
        makes = l.left
            ∙ ap (λ (r : List ℕ). then (in_values σ (bindings (made I W old) r v) (made J X m)) (λ ζ n. ok (bindings (made J X m) (take v theta') 0 ++ ζ) n)) (drop_of_length-le theta {i = v} (omega arith))
            ∙ ap (λ (θ : List Binding). ok θ (made J X m)) (append-nil (bindings (made J X m) (take v theta') 0))
            ∙ ap (λ (r : List ℕ). ok (bindings (made J X m) r 0) (made J X m)) (take_all v theta' h);
        cells = record { long = l.same ∙ l.ready.cells.long; bound = l.bound };
        unbound = l.unbound;
      }
