-- Substitution: the memo, and the terms whose result is there at once. Assumes nothing.
use mathlib.Core.Path.{◌≡◌, refl, sym, ap, ◌∙◌, subst}
use mathlib.Core.Bool.{Bool, true, false}
use mathlib.Core.List.{List}
use Prim.Native.Nat.{ℕ, ◌+◌, ◌-◌, ◌≤◌, ◌<◌}
use native.Mathlib.Omega.{arith}
use native.Mathlib.Decide.{ℕ_discrete}
use lib.ListN.{length, get_or, set}
use lib.Seq.{get_or-set_same, get_or-set_other}
use lib.Dec.{eqb}
use borrow.Author.Tests.{eqb-false}
use Rattle.rules.specs.Limits.{SYMBOLS}
use Rattle.rules.specs.Tree.{Tree, var, sub, is_open}
use Rattle.rules.specs.Laws.Tree.{sub_closed}
use Rattle.rules.specs.Store.{Made}
use Rattle.terms.specs.declared.store.Mark.{Mark}
use Rattle.terms.specs.Table.{start, made, Grown, tree}
use Rattle.terms.specs.Subst.{replacement, image, Knows, substituted, Replacing, Done}
use Rattle.terms.specs.Laws.Tables.{length_trees}
use Rattle.terms.specs.Laws.Growth.{grown_tree}
use Rattle.terms.specs.Laws.Terms.{term_var}
use Rattle.terms.specs.Laws.Numbers.{there_stored}

-- The memo -------------------------------------------------------------------------------------------------------------------------------

pub knows_set : (M : Made) (σ : ℕ → Tree) (memo : List ℕ) (id v : ℕ) → id < length memo → id < length M → v < length M → get_or M v (var 0) ≡ sub σ (get_or M id (var 0))
    → ((i : ℕ) → 0 < get_or memo i 0 → Knows M σ memo i) → (i : ℕ) → 0 < get_or (set memo id (v + 1)) i 0 → Knows M σ (set memo id (v + 1)) i
knows_set M σ memo id v a b d e k i p = elim (ℕ_discrete i id) [
  | yes q ↦ (let z : get_or (set memo id (v + 1)) i 0 ≡ v + 1 = ap (λ (j : ℕ). get_or (set memo id (v + 1)) j 0) q ∙ get_or-set_same memo id (v + 1) 0 a in
      let y : v + 1 - 1 ≡ v = omega arith in
      record { old = omega arith; new = omega arith; is = rw (z, y, q) e })
  | no q ↦ (let z : get_or (set memo id (v + 1)) i 0 ≡ get_or memo i 0 = get_or-set_other memo id i (v + 1) 0 q in
      let r = k i (omega arith) in
      record { old = r.old; new = rw z r.new; is = rw z r.is })
]

pub keeps_set : (memo : List ℕ) (id v : ℕ) → id < length memo → (i : ℕ) → 0 < get_or memo i 0 → 0 < get_or (set memo id (v + 1)) i 0
keeps_set memo id v a i p = elim (ℕ_discrete i id) [
  | yes q ↦ (let z : get_or (set memo id (v + 1)) i 0 ≡ v + 1 = ap (λ (j : ℕ). get_or (set memo id (v + 1)) j 0) q ∙ get_or-set_same memo id (v + 1) 0 a in omega arith)
  | no q ↦ rw (get_or-set_other memo id i (v + 1) 0 q) p
]

pub known_set : (memo : List ℕ) (id v : ℕ) → id < length memo → 0 < get_or (set memo id (v + 1)) id 0
known_set memo id v a = rw (get_or-set_same memo id (v + 1) 0 a) (omega arith)

pub knows_grown : (J X K Y : List ℕ) (m new : Mark) → Grown J X K Y m new → (σ : ℕ → Tree) (memo : List ℕ) (i : ℕ) → 0 < get_or memo i 0 → Knows (made J X m) σ memo i → Knows (made K Y new) σ memo i
knows_grown J X K Y m new w σ memo i p k =
    let a = length_trees J X m.terms in
    let b = length_trees K Y new.terms in
    let o = k.old in
    let n = k.new in
    let l = w.more in
    record {
      old = omega arith;
      new = omega arith;
      is = grown_tree w (get_or memo i 0 - 1) (omega arith) ∙ k.is ∙ ap (sub σ) (sym (grown_tree w i (omega arith)));
    }

-- The result is there already --------------------------------------------------------------------------------------------------------------

module _ (I W : List ℕ) (m : Mark) (map memo : List ℕ) (id : ℕ) (r : Replacing I W m map memo id) where
  pub sub_known : (get_or memo id 0 ≡ 0 → ⊥) → Done I W I W m map memo memo id (get_or memo id 0 - 1) m
  sub_known n =
      let k = r.knows id (omega arith) in
      let z = length_trees I W m.terms in
      let y = k.new in
      record {
        stored = there_stored r.good (get_or memo id 0 - 1) (omega arith) (substituted I W m map id) k.is;
        knows = r.knows;
        known = omega arith;
        keeps = λ i p. p;
      }

  sub_at : (v : ℕ) → v < m.terms → get_or (made I W m) v (var 0) ≡ substituted I W m map id → Done I W I W m map memo (set memo id (v + 1)) id v m
  sub_at v l e =
      let z = length_trees I W m.terms in
      let h = r.there in
      record {
        stored = there_stored r.good v l (substituted I W m map id) e;
        knows = knows_set (made I W m) (replacement (made I W m) map) memo id v r.inside (omega arith) (omega arith) e r.knows;
        known = known_set memo id v r.inside;
        keeps = keeps_set memo id v r.inside;
      }

  pub sub_none : is_open (tree I W m id) ≡ false → Done I W I W m map memo (set memo id (id + 1)) id id m
  sub_none e = sub_at id r.there (sym (sub_closed (replacement (made I W m) map) _ e))

  image_is : (v : ℕ) → get_or (made I W m) id (var 0) ≡ var v → (image map v id < m.terms) × (get_or (made I W m) (image map v id) (var 0) ≡ replacement (made I W m) map v)
  unfolding replacement image
  image_is v e = go (eqb (get_or map v 0) 0) refl
    where
      go : (b : Bool) → eqb (get_or map v 0) 0 ≡ b
          → (elim b [ true ↦ id | false ↦ get_or map v 0 - 1 ] < m.terms) × (get_or (made I W m) (elim b [ true ↦ id | false ↦ get_or map v 0 - 1 ]) (var 0) ≡ elim b [ true ↦ var v | false ↦ get_or (made I W m) (get_or map v 0 - 1) (var 0) ])
      go true q = (r.there, e)
      go false q = let z = eqb-false (get_or map v 0) 0 q in let y = r.bound v in (omega arith, refl)

  pub sub_var : (s w : ℕ) → s ≡ start I id → SYMBOLS ≤ get_or W s 0 → w ≡ image map (get_or W s 0 - SYMBOLS) id → Done I W I W m map memo (set memo id (w + 1)) id w m
  unfolding sub
  sub_var s w e h f =
      let t = term_var I W m r.good id r.there s e h in
      let i = image_is (get_or W s 0 - SYMBOLS) t in
      sub_at w (subst (λ (q : ℕ). q < m.terms) (sym f) i.0)
      (ap (λ (q : ℕ). get_or (made I W m) q (var 0)) f ∙ i.1 ∙ sym (ap (sub (replacement (made I W m) map)) t))
