-- Both sides of a pair under the bindings: two replacements, one after the other, with one memo. Assumes nothing.
use mathlib.Core.Path.{◌≡◌, sym, ap, ◌∙◌, subst}
use mathlib.Core.List.{List}
use Prim.Native.Nat.{ℕ}
use native.Mathlib.Omega.{arith}
use lib.ListN.{length}
use Rattle.rules.specs.Out.{Out, then}
use Rattle.rules.specs.Tree.{Tree, sub}
use Rattle.rules.specs.Store.{Made, make, substitute}
use Rattle.rules.specs.Unify.{Found}
use Rattle.rules.specs.Laws.Store.{then_ok, then_refuse}
use Rattle.terms.specs.declared.store.Mark.{Mark}
use Rattle.std.specs.Prelude.{Result, Ok, Err}
use Rattle.questions.specs.Numbers.{row_number}
use Rattle.questions.specs.declared.Row.{Row}
use Rattle.terms.specs.Table.{made, Refused, tree}
use Rattle.terms.specs.Subst.{replacement, Knows, substituted, asked, Replacing, Done, Substituted}
use Rattle.unification.specs.Peel.{Sideable, sided, BothSides, NoSides}
use Rattle.terms.specs.Laws.Growth.{grown_trans, grown_tree}
use Rattle.terms.specs.Laws.Theta.{replacement_grown}
use Rattle.terms.specs.Laws.Numbers.{stored_is}

module _ (I W : List ℕ) (old : Mark) (theta memo : List ℕ) (s t : ℕ) (q : Sideable I W old theta memo s t) (J X memo' : List ℕ) (mid : Mark) (r : Result ℕ Row) (d : Substituted I W J X old mid theta memo memo' s r) where
  abbrev σ : ℕ → Tree
  σ = replacement (made I W old) theta

  pub first_err : (row : Row) → r ≡ Err row → NoSides I W J X old theta s t (row_number row) mid
  unfolding substitute
  first_err row e =
      let f : Refused Tree I W J X old (asked I W old theta s) (row_number row) mid = subst (Substituted I W J X old mid theta memo memo' s) e d in
      record { grown = f.grown; makes = λ k. then_refuse _ 60 (row_number row) (made J X mid) _ f.makes }

  module _ (a : ℕ) (e : r ≡ Ok a) where
    first : Done I W J X old theta memo memo' s a mid
    first = subst (Substituted I W J X old mid theta memo memo' s) e d

    same_replacement : replacement (made J X mid) theta ≡ σ
    same_replacement = replacement_grown first.stored.grown theta q.left.bound

    same_tree_lem : tree J X mid t ≡ tree I W old t
    same_tree_lem = grown_tree first.stored.grown t q.there

    same_asked : substituted J X mid theta t ≡ substituted I W old theta t
    same_asked = λ i. sub (same_replacement i) (same_tree_lem i)

    pub second_ready : length memo' ≡ length memo → Replacing J X mid theta memo' t
    second_ready l =
        let g = first.stored.grown.more in
        let h = q.there in
        let k = q.inside in
        record {
          good = first.stored.grown.good;
          bound = λ v. let x = q.left.bound v in omega arith;
          there = omega arith;
          inside = omega arith;
          knows = λ i p. subst (λ (τ : ℕ → Tree). Knows (made J X mid) τ memo' i) (sym same_replacement) (first.knows i p);
        }

    -- what is left once the left side is there
    rest : (f : Tree → Tree → Made → Out Made Found)
        → sided I W old theta s t f ≡ then (asked J X mid theta t) (λ v o. f (substituted I W old theta s) v o)
    unfolding substitute
    rest f =
        then_ok _ (substituted I W old theta s) (made J X mid) (λ u n. then (substitute σ (tree I W old t) n) (λ v o. f u v o)) first.stored.makes
        ∙ ap (λ (u : Tree). then (make u (made J X mid)) (λ v o. f (substituted I W old theta s) v o)) (sym same_asked)

    module _ (K Y memo'' : List ℕ) (new : Mark) (p : Result ℕ Row) (b : Substituted J X K Y mid new theta memo' memo'' t p) where
      pub second_err : (row : Row) → p ≡ Err row → NoSides I W K Y old theta s t (row_number row) new
      second_err row z =
          let f : Refused Tree J X K Y mid (asked J X mid theta t) (row_number row) new = subst (Substituted J X K Y mid new theta memo' memo'' t) z b in
          record { grown = grown_trans first.stored.grown f.grown; makes = λ k. rest k ∙ then_refuse _ 60 (row_number row) (made K Y new) _ f.makes }

      pub both_done : (c : ℕ) → p ≡ Ok c → BothSides I W K Y old theta memo'' s t a c new
      both_done c z =
          let f : Done J X K Y mid theta memo' memo'' t c new = subst (Substituted J X K Y mid new theta memo' memo'' t) z b in
          let l : tree K Y new a ≡ substituted I W old theta s = grown_tree f.stored.grown a first.stored.there ∙ stored_is first.stored in
          let r : tree K Y new c ≡ substituted I W old theta t = stored_is f.stored ∙ same_asked in
          let g = f.stored.grown.more in
          let h = first.stored.there in
          record {
            grown = grown_trans first.stored.grown f.stored.grown;
            makes = λ k. rest k ∙ then_ok _ (substituted J X mid theta t) (made K Y new) _ f.stored.makes ∙ (λ i. k (sym l i) ((same_asked ∙ sym r) i) (made K Y new));
            left = l;
            right = r;
            left_there = omega arith;
            right_there = f.stored.there;
            knows = λ i p. subst (λ (τ : ℕ → Tree). Knows (made K Y new) τ memo'' i) same_replacement (f.knows i p);
          }
