-- Numbers that are all below another, and trees by their numbers. Assumes nothing.
use Rattle.std.specs.Prelude.{◌≡◌, refl, List, [], ◌∷◌, ◌++◌, ℕ, suc, ◌≤◌, ◌<◌, length, get_or, eqb}
use Rattle.std.proofs.Common.{sym, ap, ◌∙◌, subst, arith, length-append, ne_eqb}
use Rattle.std.proofs.Math.ListN.{get_or-append}
use Rattle.std.proofs.Math.Decide.{dec_lt}
use Rattle.std.proofs.Math.Seq.{get_or-append_seam}
use Rattle.rules.specs.Tree.{Trees, var, none, more}
use Rattle.rules.specs.State.{is_none}
use Rattle.rules.specs.Store.{Made}
use Rattle.terms.specs.Table.{args_of, Below}

-- Numbers below another ----------------------------------------------------------------------------------------------------------------------

pub below_none : {n : ℕ} → Below n []
below_none k l = absurd (let z : k < 0 = l in omega arith)

-- one number more
pub below_snoc : {n : ℕ} (xs : List ℕ) {t : ℕ} → Below n xs → t < n → Below n (xs ++ (t ∷ []))
below_snoc {n} xs {t} b l k h =
    let z = length-append xs (t ∷ []) in
    elim (dec_lt k (length xs)) [
      | yes p ↦ subst (λ (v : ℕ). v < n) (sym (get_or-append xs (t ∷ []) 0 k p)) (b k p)
      | no q ↦
          let e : k ≡ length xs = omega arith in
          subst (λ (v : ℕ). v < n) (sym (ap (λ (i : ℕ). get_or (xs ++ (t ∷ [])) i 0) e ∙ get_or-append_seam xs t [] 0)) l
    ]

pub below_grown : {m n : ℕ} (xs : List ℕ) → m ≤ n → Below m xs → Below n xs
below_grown xs l b k h = omega (arith, b k h)

-- Trees by their numbers, ahead of others --------------------------------------------------------------------------------------------------

unfoldable pub ahead : Made → List ℕ → Trees → Trees
ahead M [] ts = ts
ahead M (n ∷ ns) ts = more (get_or M n (var 0)) (ahead M ns ts)

pub ahead_none : (M : Made) (ns : List ℕ) → ahead M ns none ≡ args_of M ns
unfolding ahead args_of
ahead_none M [] = refl
ahead_none M (n ∷ ns) = ap (more (get_or M n (var 0))) (ahead_none M ns)

pub ahead_snoc : (M : Made) (ns : List ℕ) (t : ℕ) (ts : Trees) → ahead M (ns ++ (t ∷ [])) ts ≡ ahead M ns (more (get_or M t (var 0)) ts)
unfolding ahead
ahead_snoc M [] t ts = refl
ahead_snoc M (n ∷ ns) t ts = ap (more (get_or M n (var 0))) (ahead_snoc M ns t ts)

-- there are none
pub none_args : (M : Made) (ns : List ℕ) → is_none (args_of M ns) ≡ eqb (length ns) 0
unfolding is_none args_of
none_args M [] = refl
none_args M (n ∷ ns) = sym (ne_eqb (suc (length ns)) 0 (λ e. omega (arith, e)))
