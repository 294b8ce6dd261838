-- The items from a number on, in the cells that `from` answers, and the bytes that `head` answers of these. Assumes nothing.
use Rattle.std.specs.Prelude.{◌≡◌, refl, ℕ, ◌-◌, List, length, take, drop, Option}
use denote.Ref.{Bor}
use Rattle.std.proofs.Common.{sym, ap, ◌∙◌, subst, arith, take_all, length-drop}
use Rattle.rules.specs.Sexp.{Sexp, Sexps, item, rest}
use Rattle.rules.specs.Laws.Sexp.{item_rest}
use Rattle.sexp.specs.Each.{HeadIs}
use Rattle.sexp.specs.Encode.{encodes}
use Rattle.sexp.specs.Items.{Holds, place}
use Rattle.sexp.specs.WalkLaws.{rest_walk, walk_rest}

pub from_holds : {text cells : List ℕ} {xs : Sexps} → Holds text cells xs → (k : ℕ) {behind : List ℕ} →
    ((ys : Sexps) → cells ≡ encodes ys → behind ≡ drop (place ys k) cells) → Holds text behind (rest xs k)
from_holds {text} {cells} {xs} h k {behind} a =
    let p = place xs k in
    let e : take (length cells - p) (drop p cells) ≡ drop p cells = take_all (length cells - p) (drop p cells) (omega (arith, length-drop p cells)) in
    subst (λ (c : List ℕ). Holds text c (rest xs k)) (e ∙ sym (a xs h.cells)) (walk_rest (rest_walk h k p refl))

-- what `head` says of them, it says of the item with that number
pub head_item : {text cells : List ℕ} {xs : Sexps} → Holds text cells xs → (k : ℕ) {behind : List ℕ} →
    ((ys : Sexps) → cells ≡ encodes ys → behind ≡ drop (place ys k) cells) → (o : Option (Bor (List ℕ))) →
    ((ys : Sexps) → Holds text behind ys → HeadIs (item ys 0) o) → HeadIs (item xs k) o
head_item {xs = xs} h k a o b =
    subst (λ (x : Sexp). HeadIs x o) (item_rest xs k 0 ∙ ap (λ (j : ℕ). item xs j) (omega arith)) (b (rest xs k) (from_holds h k a))
