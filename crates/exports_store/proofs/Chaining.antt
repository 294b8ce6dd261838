-- A chain of trees that comes into the store one by one. Assumes nothing.
use Prim.Native.Nat.{ℕ, zero, suc, ◌+◌, ◌≤◌, ◌<◌}
use mathlib.Core.Path.{◌≡◌, refl, sym, ap, ◌∙◌, subst}
use mathlib.Core.List.{List, [], ◌∷◌}
use native.Mathlib.Omega.{arith}
use native.Mathlib.Decide.{ℕ_discrete}
use native.Mathlib.Numerals.{add-one}
use lib.ListN.{get_or}
use Rattle.rules.specs.Limits.{TERMS}
use Rattle.rules.specs.Out.{Out, ok, refuse, then}
use Rattle.rules.specs.Tree.{Tree, var, app, none, more}
use Rattle.rules.specs.Store.{Made, keep}
use Rattle.rules.specs.Laws.Store.{number_of_lem}
use Rattle.terms.specs.declared.store.Mark.{Mark}
use Rattle.std.proofs.Common.{Result}
use Rattle.std.specs.Result.{result_unwrap_or}
use Rattle.questions.specs.declared.Row.{Row}
use Rattle.terms.specs.Table.{args_of, tree_at, made, is_app, Node, Good, Stored, Refused, After}
use Rattle.terms.specs.Laws.Tables.{tree_app, length_trees}
use Rattle.terms.specs.Laws.Growth.{grown_tree, grown_refl, grown_trans}
use Rattle.exports_store.specs.Chains.{chain, links, Chained}
use Rattle.terms.specs.Laws.Numbers.{stored_is}

next_tree : (M : Made) (last first : ℕ) (t : Tree) (k : ℕ) → get_or M last (var 0) ≡ chain t k → get_or M first (var 0) ≡ t → tree_at M (9 ∷ last ∷ first ∷ []) ≡ chain t (suc k)
unfolding chain args_of
next_tree M last first t k e f = tree_app M 9 (last ∷ first ∷ []) (omega arith) ∙ (λ i. app 9 (more (e i) (more (f i) none)))

next_links : (t : Tree) (M N : Made) (k : ℕ) → links t k M ≡ ok (chain t k) N → links t (suc k) M ≡ keep (chain t (suc k)) N
unfolding links then
next_links t M N k e = ap (λ (o : Out Made Tree). then o (λ _ m. keep (chain t (suc k)) m)) e

-- what is refused stays refused
links_stop : (t : Tree) (M N : Made) (r k i : ℕ) → k ≤ i → links t k M ≡ refuse 60 r N → links t i M ≡ refuse 60 r N
unfolding links then
links_stop t M N r k zero h e = let z : k ≡ 0 = omega arith in ap (λ (j : ℕ). links t j M) (sym z) ∙ e
links_stop t M N r k (suc i) h e = elim (ℕ_discrete k (suc i)) [
  | yes q ↦ ap (λ (j : ℕ). links t j M) (sym q) ∙ e
  | no q ↦ ap (λ (o : Out Made Tree). then o (λ _ m. keep (chain t (suc i)) m)) (links_stop t M N r k i (omega arith) e)
]

next_node : (n last first : ℕ) → last < n → first < n → Node n (9 ∷ last ∷ first ∷ [])
next_node n last first h l = record { narrow = omega arith; shaped = is_app {h = 9} {xs = last ∷ first ∷ []} (omega arith) inside }
  where
    inside : (k : ℕ) → k < 2 → get_or (last ∷ first ∷ []) k 0 < n
    inside zero p = h
    inside (suc zero) p = l
    inside (suc (suc k)) p = absurd (omega arith)

-- from the store I W at the mark o on: the tree n of the chain is there
pub record Chaining (I W : List ℕ) (o : Mark) (J X : List ℕ) (first last : ℕ) (m : Mark) (n : ℕ) : Type 0 where
  pub old : Good I W o
  pub there : first < o.terms
  pub stored : Stored I W J X o (chain (get_or (made I W o) first (var 0)) n) (links (get_or (made I W o) first (var 0)) n (made I W o)) last m

pub chaining_begins : (I W : List ℕ) (first : ℕ) (o : Mark) → Good I W o → first < o.terms → Chaining I W o I W first first o 0
unfolding links chain
chaining_begins I W first o g h =
    record {
      old = g;
      there = h;
      stored = record {
        grown = grown_refl g;
        makes = refl;
        numbered = sym (number_of_lem (made I W o) g.apart first (let z = length_trees I W o.terms in omega arith) (get_or (made I W o) first (var 0)) refl);
        there = h;
      };
    }

module _ {I W : List ℕ} {o : Mark} {J X : List ℕ} {first last : ℕ} {m : Mark} {n : ℕ} (c : Chaining I W o J X first last m n) where
  abbrev tree : Tree
  tree = get_or (made I W o) first (var 0)

  first_in : first < m.terms
  first_in = let a = c.there in let b = c.stored.grown.more in omega arith

  pub chaining_small : (first < TERMS) × (last < TERMS)
  chaining_small = let f = first_in in let a = c.stored.there in let b = c.stored.grown.good.room in (omega arith, omega arith)

  pub chaining_node : Node m.terms (9 ∷ last ∷ first ∷ [])
  chaining_node = next_node m.terms last first c.stored.there first_in

  tree_is : tree_at (made J X m) (9 ∷ last ∷ first ∷ []) ≡ chain tree (suc n)
  tree_is = next_tree (made J X m) last first tree n (stored_is c.stored) (grown_tree c.stored.grown first c.there)

  module _ {K Y : List ℕ} {new : Mark} where
    pub chaining_on : {next : ℕ}
        → Stored J X K Y m (tree_at (made J X m) (9 ∷ last ∷ first ∷ [])) (keep (tree_at (made J X m) (9 ∷ last ∷ first ∷ [])) (made J X m)) next new
        → Chaining I W o K Y first next new (n + 1)
    chaining_on {next} s =
        let f : Stored J X K Y m (chain tree (suc n)) (keep (chain tree (suc n)) (made J X m)) next new =
        subst (λ (t : Tree). Stored J X K Y m t (keep t (made J X m)) next new) tree_is s in
        record {
          old = c.old;
          there = c.there;
          stored = subst (λ (k : ℕ). Stored I W K Y o (chain tree k) (links tree k (made I W o)) next new) (sym (add-one n))
              (record {
                grown = grown_trans c.stored.grown f.grown;
                makes = next_links tree (made I W o) (made J X m) n c.stored.makes ∙ f.makes;
                numbered = f.numbered;
                there = f.there;
              });
        }

    pub chaining_full : {r : ℕ} (times : ℕ) → n < times
        → Refused Tree J X K Y m (keep (tree_at (made J X m) (9 ∷ last ∷ first ∷ [])) (made J X m)) r new
        → Refused Tree I W K Y o (links tree times (made I W o)) r new
    chaining_full {r} times l f =
        let y : links tree (suc n) (made I W o) ≡ refuse 60 r (made K Y new) =
        next_links tree (made I W o) (made J X m) n c.stored.makes ∙ ap (λ (t : Tree). keep t (made J X m)) (sym tree_is) ∙ f.makes in
        record { grown = grown_trans c.stored.grown f.grown; makes = links_stop tree (made I W o) (made K Y new) r (suc n) times (omega arith) y }

  pub chaining_ends : (times : ℕ) → n ≡ times → Stored I W J X o (chain tree times) (links tree times (made I W o)) last m
  chaining_ends times e = subst (λ (k : ℕ). Stored I W J X o (chain tree k) (links tree k (made I W o)) last m) e c.stored

-- what the library answers, whose tables are those that were lent
pub chained : {I W J X J' X' : List ℕ} {m new : Mark} {first times r : ℕ} {k : Result ℕ Row}
    → After I W J X m new (chain (get_or (made I W m) first (var 0)) times) (links (get_or (made I W m) first (var 0)) times (made I W m)) k
    → J' ≡ J → X' ≡ X → r ≡ result_unwrap_or k TERMS → Chained I W J' X' m first times r
chained {new = new} {k = k} a e f n = rw (e, f) (record { kept = k; new = new; after = a; number = n })
