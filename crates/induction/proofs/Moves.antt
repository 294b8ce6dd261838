-- The motive under a substitution, and the map that puts a term for its variable. Assumes nothing.
use mathlib.Core.Path.{◌≡◌, sym, ap, ◌∙◌}
use mathlib.Core.Bool.{Bool, true, false}
use mathlib.Core.List.{List}
use Prim.Native.Nat.{ℕ, ◌+◌, ◌<◌, ◌≤◌}
use native.Mathlib.Omega.{arith}
use native.Mathlib.Decide.{ℕ_discrete}
use lib.ListN.{length, get_or, set, replicate, length-replicate}
use lib.Seq.{get_or-set_same, get_or-set_other, set-set, set-get_or}
use borrow.Author.Tests.{eq-eqb, ne_eqb}
use Rattle.std.specs.Prelude.{Result, Ok, Err}
use Rattle.rules.specs.Limits.{VARIABLES}
use Rattle.rules.specs.Out.{Out, ok, then}
use Rattle.rules.specs.Tree.{Tree, Trees, var, single}
use Rattle.rules.specs.Store.{Made, substitute, substitutes}
use Rattle.rules.specs.Induct.{Hyp}
use Rattle.questions.specs.Numbers.{row_number}
use Rattle.questions.specs.declared.Row.{Row}
use Rattle.terms.specs.declared.store.Mark.{Mark}
use Rattle.terms.specs.Table.{made, tree, args_of, Stored, Refused, After}
use Rattle.terms.specs.Subst.{replacement, substituted, Replaceable}
use Rattle.terms.specs.On.{Stopped, On, on_start, on_is, on_ok, on_no, on_went, on_stopped, on_done, stored_went, refused_stopped}
use Rattle.terms.specs.Laws.Growth.{grown_tree, grown_args, grown_there}
use Rattle.terms.specs.Laws.Numbers.{stored_is}
use Rattle.terms.specs.Laws.Theta.{replacement_grown, replacement_some, replacement_none}
use Rattle.terms.specs.Laws.Zeros.{get_d_zeros}
use Rattle.referring.specs.Substitutes.{Replaceables, Replaced}
use Rattle.terms.specs.Laws.Below.{below_grown}
use Rattle.referring.specs.Laws.Substitutes.{replaceable_now}
use Rattle.induction.specs.Inducing.{PutAt, Moved, MovedBy, judgment_first, premises_first}

-- what an answer says behind what went before
pub moved_on : {I W J X : List ℕ} {old now : Mark} {K L : Out Made Hyp} (Y Z out : List ℕ) (new : Mark) (r : Result ℕ Row) → On I W old K J X now L →
    MovedBy J X Y Z now new L out r → MovedBy I W Y Z old new K out r
moved_on Y Z out new (Ok j) o d = record { went = on_went o d.went; there = d.there; known = d.known }
moved_on Y Z out new (Err row) o s = on_stopped o s

abbrev pub asks : List ℕ → List ℕ → Mark → List ℕ → List ℕ → Out Made Trees
asks I W m map premises = substitutes (replacement (made I W m) map) (args_of (made I W m) premises) (made I W m)

-- the judgment
abbrev pub asks_first : List ℕ → List ℕ → Mark → List ℕ → ℕ → Out Made Tree
asks_first I W m map j = substitute (replacement (made I W m) map) (tree I W m j) (made I W m)

module _ {I W : List ℕ} {m : Mark} {map memo premises out₀ : List ℕ} {j : ℕ} (g : Replaceables I W m map memo premises out₀ × (j < m.terms)) where
  -- the judgment first
  abbrev first : Out Made Hyp
  first = judgment_first (replacement (made I W m) map) (tree I W m j) (args_of (made I W m) premises) (made I W m)

  module _ {J X : List ℕ} {new : Mark} where
    pub first_full : {r : ℕ} → Refused Tree I W J X m (asks_first I W m map j) r new → Stopped I W J X m first 60 r new
    unfolding judgment_first
    first_full s = on_no _ (on_start g.0.good) (refused_stopped s)

    module _ {t : ℕ} (s : Stored I W J X m (substituted I W m map j) (asks_first I W m map j) t new) where
      on_first : On I W m first J X new
          (then (asks J X new map premises) (λ us U. ok (record { premises = us; judgment = tree J X new t }) U))
      unfolding judgment_first
      on_first =
          on_is (on_ok _ (on_start g.0.good) (stored_went s))
          (λ i. then (substitutes (sym (replacement_grown s.grown map g.0.within) i) (sym (grown_args s.grown premises g.0.there) i) (made J X new))
          (λ us U. ok (record { premises = us; judgment = sym (stored_is s) i }) U))

      module _ {Y Z : List ℕ} {last : Mark} where
        pub first_stopped : {q d : ℕ} → Stopped J X Y Z new (asks J X new map premises) q d last → Stopped I W Y Z m first q d last
        first_stopped b = on_no _ on_first b

        pub first_moved : {out : List ℕ} → Replaced J X Y Z new (asks J X new map premises) out last → Moved I W Y Z m first out t last
        first_moved {out} d =
            record {
              went = on_done (on_is (on_ok _ on_first d.went)
                  (ap (λ (u : Tree). ok (record { premises = args_of (made Y Z last) out; judgment = u }) (made Y Z last)) (sym (grown_tree d.went.grown t s.there))));
              there = grown_there d.went.grown t s.there;
              known = d.there;
            }

  -- the premises first
  abbrev last_of : Out Made Hyp
  last_of = premises_first (replacement (made I W m) map) (tree I W m j) (args_of (made I W m) premises) (made I W m)

  module _ {J X : List ℕ} {new : Mark} where
    pub last_stopped : {q d : ℕ} → Stopped I W J X m (asks I W m map premises) q d new → Stopped I W J X m last_of q d new
    unfolding premises_first
    last_stopped b = on_no _ (on_start g.0.good) b

    module _ {out : List ℕ} (d : Replaced I W J X m (asks I W m map premises) out new) where
      pub last_replaceable : Replaceable J X new map j
      last_replaceable = replaceable_now d.went.grown map g.0.within g.1

      on_last : On I W m last_of J X new (then (asks_first J X new map j) (λ u U. ok (record { premises = args_of (made J X new) out; judgment = u }) U))
      unfolding premises_first
      on_last =
          on_is (on_ok _ (on_start g.0.good) d.went)
          (λ i. then (substitute (sym (replacement_grown d.went.grown map g.0.within) i) (sym (grown_tree d.went.grown j g.1) i) (made J X new))
          (λ u U. ok (record { premises = args_of (made J X new) out; judgment = u }) U))

      pub last_moved : {Y Z : List ℕ} {last : Mark} (r : Result ℕ Row) → After J X Y Z new last (substituted J X new map j) (asks_first J X new map j) r →
          MovedBy I W Y Z m last last_of out r
      last_moved {Y} {Z} {last} (Ok t) a =
          let s : Stored J X Y Z new (substituted J X new map j) (asks_first J X new map j) t last = a.says in
          record {
            went = on_done (on_is (on_ok _ on_last (stored_went s))
                (λ i. ok (record { premises = sym (grown_args s.grown out d.there) i; judgment = sym (stored_is s) i }) (made Y Z last)));
            there = s.there;
            known = below_grown out s.grown.more d.there;
          }
      last_moved {Y} {Z} {last} (Err row) a =
          let s : Refused Tree J X Y Z new (asks_first J X new map j) (row_number row) last = a.says in
          on_no _ on_last (refused_stopped s)

-- The map ----------------------------------------------------------------------------------------------------------------------------

-- a map whose only cell is that of x
abbrev pub only : ℕ → ℕ → List ℕ
only x t = set (replicate VARIABLES 0) x (t + 1)

zeros_long : length (replicate {A = ℕ} VARIABLES 0) ≡ VARIABLES
zeros_long = length-replicate {A = ℕ} VARIABLES 0

-- no cell is any
pub put_none : (x : ℕ) → PutAt x (replicate VARIABLES 0)
put_none x = (0, sym (ap (set (replicate VARIABLES 0) x) (sym (get_d_zeros VARIABLES x)) ∙ set-get_or (replicate VARIABLES 0) x 0))

-- a term comes in the place of another
pub put_over : {map after : List ℕ} (x c : ℕ) → PutAt x map → after ≡ set map x c → after ≡ set (replicate VARIABLES 0) x c
put_over x c p e = e ∙ ap (λ l. set l x c) p.1 ∙ set-set (replicate VARIABLES 0) x p.0 c

pub one_cell : (M : Made) (x t : ℕ) → x < VARIABLES → replacement M (only x t) ≡ single x (get_or M t (var 0))
unfolding single
one_cell M x t l = λ i v. at v (ℕ_discrete v x) i
  where
    here : (v : ℕ) → v ≡ x → replacement M (only x t) v ≡ get_or M t (var 0)
    here v p =
        replacement_some M (only x t) v t (ap (λ (i : ℕ). get_or (only x t) i 0) p ∙ get_or-set_same (replicate VARIABLES 0) x (t + 1) 0 (omega (arith, zeros_long, l)))

    other : (v : ℕ) → (v ≡ x → ⊥) → replacement M (only x t) v ≡ var v
    other v q = replacement_none M (only x t) v (get_or-set_other (replicate VARIABLES 0) x v (t + 1) 0 q ∙ get_d_zeros VARIABLES v)

    at : (v : ℕ) → Dec (v ≡ x) → replacement M (only x t) v ≡ single x (get_or M t (var 0)) v
    at v (yes p) = here v p ∙ sym (ap (λ (b : Bool). elim b [ true ↦ get_or M t (var 0) | false ↦ var v ]) (eq-eqb v x p))
    at v (no q) = other v q ∙ sym (ap (λ (b : Bool). elim b [ true ↦ get_or M t (var 0) | false ↦ var v ]) (ne_eqb v x q))

-- no cell is beyond the terms
pub one_bound : (x t n : ℕ) → x < VARIABLES → t < n → (v : ℕ) → get_or (only x t) v 0 ≤ n
one_bound x t n l h v = elim (ℕ_discrete v x) [
  | yes p ↦ omega (arith, ap (λ (i : ℕ). get_or (only x t) i 0) p ∙ get_or-set_same (replicate VARIABLES 0) x (t + 1) 0 (omega (arith, zeros_long, l)))
  | no q ↦ omega (arith, get_or-set_other (replicate VARIABLES 0) x v (t + 1) 0 q ∙ get_d_zeros VARIABLES v)
]
