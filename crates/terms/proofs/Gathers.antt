-- A node gathered anew, with its arguments as the memo has them. Assumes nothing.
use mathlib.Core.Path.{◌≡◌, refl, sym, ap, ◌∙◌, subst}
use mathlib.Core.Bool.{Bool, true, false}
use Rattle.std.specs.Prelude.{Result, Option, Some as some, None as nothing}
use Rattle.std.specs.Option.{SomeIff, unwrap_or}
use mathlib.Core.List.{List, [], ◌∷◌, ◌++◌}
use Prim.Native.Nat.{ℕ, zero, suc, ◌+◌, ◌-◌, ◌≤◌, ◌<◌, suc-le-suc}
use native.Mathlib.Numerals.{add-one}
use native.Mathlib.Omega.{arith}
use native.Mathlib.Nat.{not-suc-le-zero, le_of_suc-le-suc, zero-lt-suc}
use lib.ListN.{length, get_or, take, drop, set, length-set, get_or-eq_default}
use lib.Seq.{sets, sets-eq, take_at}
use borrow.Author.Tests.{eq-eqb, ne_eqb}
use Rattle.rules.specs.Tree.{Tree, var, more, sub, subs}
use Rattle.rules.specs.Store.{Made, keep}
use Rattle.rules.specs.Limits.{NODE}
use Rattle.terms.specs.declared.store.Mark.{Mark}
use Rattle.questions.specs.declared.Row.{Row}
use Rattle.terms.specs.Table.{run, args_of, tree_at, made, Shaped, Node, After}
use Rattle.terms.specs.Subst.{image, renumbered, rebuilt, Rebuildable}
use Rattle.terms.specs.Laws.Runs.{run_length, run_at, run_more, run_none}

-- image_of ---------------------------------------------------------------------------------------------------------------------------

pub image_none : (map : List ℕ) (v id n : ℕ) → n ≡ get_or map v 0 → n ≡ 0 → id ≡ image map v id
unfolding image
image_none map v id n e z = sym (ap (λ (b : Bool). elim b [ true ↦ id | false ↦ get_or map v 0 - 1 ]) (eq-eqb (get_or map v 0) 0 (sym e ∙ z)))

pub image_some : (map : List ℕ) (v id : ℕ) → (get_or map v 0 ≡ 0 → ⊥) → get_or map v 0 - 1 ≡ image map v id
unfolding image
image_some map v id n = sym (ap (λ (b : Bool). elim b [ true ↦ id | false ↦ get_or map v 0 - 1 ]) (ne_eqb (get_or map v 0) 0 n))

pub image_out : (map : List ℕ) (v id : ℕ) → length map ≤ v → id ≡ image map v id
image_out map v id h = image_none map v id 0 (sym (get_or-eq_default map 0 {n = v} h)) refl

pub image_found : (map : List ℕ) (v id n : ℕ) (o : Option ℕ) → n ≡ get_or map v 0 → SomeIff o (1 ≤ n) (n - 1) → unwrap_or o id ≡ image map v id
image_found map v id n nothing q e = let z : (1 ≤ n → ⊥) = e in image_none map v id n q (omega arith)
image_found map v id n (some t) q e = let l = e.0 in e.1 ∙ ap (λ (k : ℕ). k - 1) q ∙ image_some map v id (λ z. omega arith)

-- Renumbered arguments -----------------------------------------------------------------------------------------------------------------

pub length_renumbered : (memo xs : List ℕ) → length (renumbered memo xs) ≡ length xs
unfolding renumbered
length_renumbered memo [] = refl
length_renumbered memo (x ∷ xs) = ap suc (length_renumbered memo xs)

pub get_d_renumbered : (memo xs : List ℕ) (k : ℕ) → k < length xs → get_or (renumbered memo xs) k 0 ≡ get_or memo (get_or xs k 0) 0 - 1
unfolding renumbered
get_d_renumbered memo [] k h = absurd (not-suc-le-zero h)
get_d_renumbered memo (x ∷ xs) zero h = refl
get_d_renumbered memo (x ∷ xs) (suc k) h = get_d_renumbered memo xs k (le_of_suc-le-suc h)

pub args_renumbered : (N M : Made) (σ : ℕ → Tree) (memo xs : List ℕ) → ((k : ℕ) → k < length xs → get_or N (get_or memo (get_or xs k 0) 0 - 1) (var 0) ≡ sub σ (get_or M (get_or xs k 0) (var 0)))
    → args_of N (renumbered memo xs) ≡ subs σ (args_of M xs)
unfolding args_of renumbered sub
args_renumbered N M σ memo [] h = refl
args_renumbered N M σ memo (x ∷ xs) h = λ i. more (h 0 (zero-lt-suc (length xs)) i) (args_renumbered N M σ memo xs (λ k l. h (suc k) (suc-le-suc l)) i)

renumbered_more : (memo W : List ℕ) (at e : ℕ) → at < e → e ≤ length W → renumbered memo (run W at (e - at)) ≡ (get_or memo (get_or W at 0) 0 - 1) ∷ renumbered memo (run W (at + 1) (e - (at + 1)))
unfolding renumbered
renumbered_more memo W at e h k = ap (renumbered memo) (run_more W at e h k)

renumbered_none : (memo W : List ℕ) (at e : ℕ) → e ≤ at → renumbered memo (run W at (e - at)) ≡ []
unfolding renumbered
renumbered_none memo W at e h = ap (renumbered memo) (run_none W at e h)

pub rebuilt_length : (W memo : List ℕ) (s e : ℕ) → Rebuildable W memo s e → length (rebuilt W memo s e) ≡ e - s
rebuilt_length W memo s e r =
    let a = length_renumbered memo (run W (s + 1) (e - (s + 1))) in
    let b = r.some in
    let d = r.fits in
    let f = run_length W (s + 1) (e - (s + 1)) (omega arith) in
    omega arith

-- gather -------------------------------------------------------------------------------------------------------------------------------

-- k arguments are there, and what is left of them decides
pub record Gathering (W memo l now : List ℕ) (s e k : ℕ) : Type 0 where
  pub ready : Rebuildable W memo s e
  pub room : NODE ≤ length l
  pub upto : s + 1 + k ≤ e
  pub long : length now ≡ length l
  pub left : sets now (k + 1) (renumbered memo (run W (s + 1 + k) (e - (s + 1 + k)))) ≡ sets l 1 (renumbered memo (run W (s + 1) (e - (s + 1))))

module _ (W memo l now : List ℕ) (s e k : ℕ) (g : Gathering W memo l now s e k) (h : k < length (run W (s + 1) (e - (s + 1)))) where
  pub gathering_on : Gathering W memo l (set now (k + 1) (get_or memo (get_or (run W (s + 1) (e - (s + 1))) k 0) 0 - 1)) s e (k + 1)
  gathering_on =
      let f = g.upto in
      let t = g.ready.fits in
      let n = run_length W (s + 1) (e - (s + 1)) (omega arith) in
      let z : s + 1 + k + 1 ≡ s + 1 + (k + 1) = omega arith in
      let y = get_or memo (get_or W (s + 1 + k) 0) 0 - 1 in
      rw (run_at W (s + 1) (e - (s + 1)) k (omega arith))
      (record {
        ready = g.ready;
        room = g.room;
        upto = omega arith;
        long = length-set now (k + 1) y ∙ g.long;
        left = ap (λ (j : ℕ). sets (set now (k + 1) y) (k + 1 + 1) (renumbered memo (run W j (e - j)))) (sym z)
            ∙ ap (λ (j : ℕ). sets (set now (k + 1) y) j (renumbered memo (run W (s + 1 + k + 1) (e - (s + 1 + k + 1))))) (add-one (k + 1))
            ∙ ap (sets now (k + 1)) (sym (renumbered_more memo W (s + 1 + k) e (omega arith) g.ready.fits)) ∙ g.left;
      })

pub gathering_ends : (W memo l now : List ℕ) (s e k : ℕ) → Gathering W memo (set l 0 (get_or W s 0)) now s e k → NODE ≤ length l
    → length (run W (s + 1) (e - (s + 1))) ≤ k → now ≡ rebuilt W memo s e ++ drop (e - s) l
gathering_ends W memo l now s e k g r h =
    let a = rebuilt_length W memo s e g.ready in
    let b = g.ready.narrow in
    let c = g.ready.some in
    let f = g.ready.fits in
    let n = run_length W (s + 1) (e - (s + 1)) (omega arith) in
    let z : 0 + length (rebuilt W memo s e) ≡ e - s = omega arith in
    ap (sets now (k + 1)) (sym (renumbered_none memo W (s + 1 + k) e (omega arith))) ∙ g.left
    ∙ sets-eq (rebuilt W memo s e) l 0 (omega arith)
    ∙ ap (λ (j : ℕ). rebuilt W memo s e ++ drop j l) z

-- rebuild ------------------------------------------------------------------------------------------------------------------------------

module _ (W memo : List ℕ) (s e : ℕ) (r : Rebuildable W memo s e) (l now : List ℕ) (q : now ≡ rebuilt W memo s e ++ drop (e - s) l) where
  pub gathered : take (e - s) now ≡ rebuilt W memo s e
  gathered = ap (take (e - s)) q ∙ take_at (rebuilt W memo s e) (drop (e - s) l) (e - s) (rebuilt_length W memo s e r)

  pub gathered_node : (n : ℕ) → Shaped n (rebuilt W memo s e) → Node n (take (e - s) now)
  gathered_node n c =
      let a = rebuilt_length W memo s e r in
      let b = r.narrow in
      subst (Node n) (sym gathered) (record { narrow = omega arith; shaped = c })

  pub rebuild_done : (I X J Y : List ℕ) (m new : Mark) (k : Result ℕ Row) → After I X J Y m new (tree_at (made I X m) (take (e - s) now)) (keep (tree_at (made I X m) (take (e - s) now)) (made I X m)) k
      → After I X J Y m new (tree_at (made I X m) (rebuilt W memo s e)) (keep (tree_at (made I X m) (rebuilt W memo s e)) (made I X m)) k
  rebuild_done I X J Y m new k d = subst (λ (w : List ℕ). After I X J Y m new (tree_at (made I X m) w) (keep (tree_at (made I X m) w) (made I X m)) k) gathered d
