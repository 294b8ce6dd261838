-- The walk of `count` and the loop of `place`, as steps from item to item. Assumes nothing.
use mathlib.Core.Path.{◌≡◌, refl, sym, ap, ◌∙◌}
use mathlib.Core.Bool.{false, true≢false}
use Prim.Native.Nat.{ℕ, zero, suc, ◌+◌, ◌-◌, ◌≤◌, ◌<◌}
use mathlib.Core.List.{List, [], ◌∷◌}
use native.Mathlib.Omega.{arith}
use lib.ListN.{length}
use denote.Ref.{Bor}
use Rattle.std.specs.Iterator.{Yields}
use Rattle.std.specs.Option.{is_some}
use Rattle.std.specs.Prelude.{Option, Some, None}
use Rattle.rules.specs.Sexp.{Sexp, Sexps, nil, cons, count, item}
use Rattle.rules.specs.Laws.Sexp.{count_cons}
use Rattle.sexp.specs.Encode.{encode, encodes}
use Rattle.sexp.specs.Items.{Reaches, item_at, item_of, behind, place}
use Rattle.sexp.specs.Each.{Walks, Over, here, over}
use Rattle.sexp.specs.declared.items.Each.{Each}
use Rattle.sexp.specs.declared.items.Item.{Item}
use Rattle.sexp.specs.ItemLaws.{At, at_first, at_more, at_over, at_next, More, item_here, behind_item, item_at_place, place_room, place_inside}

-- past the item at a place: r is the place behind it
module _ {words : List ℕ} {at : ℕ} {left : Sexps} (k : At words at left) (m : More left) (r : ℕ) (e : r ≡ behind at (item_at words at)) where
  first_here : At words at (cons m.first m.others)
  first_here = rw m.is at k

  past : r ≡ at + length (encode m.first)
  past = e ∙ ap (behind at) (item_here m.first first_here) ∙ behind_item at m.first

  next : At words r m.others
  next = rw past (at_next first_here)

-- the items that a walk gives, up to its end, are as many as are left
pub walked : {words : List ℕ} (s t u : Each) (xs : List (Bor (List ℕ))) (left : Sexps) → s.cells.now ≡ words → At words s.at left → Yields Walks s xs t → Over t u → length xs ≡ count left
unfolding count
walked s t u [] left e k y o = sym (ap count (at_over left (rw y at k) (over (rw y at e) o)))
walked s t u (x ∷ xs) left e k y o =
    let (j, step, rest) = y in
    let h = here e step in
    let m = at_more left k h.inside in
    omega (arith, walked j t u xs m.others h.same (next k m j.at h.behind) rest o, ap count m.is, count_cons m.first m.others)

-- so many items are still to be passed
pub record Seek (words : List ℕ) (number at n : ℕ) (xs : Sexps) : Type 0 where
  pub left : Sexps
  pub here : At words at left
  pub sum : at + place left n ≡ place xs number

abbrev pub Seeks : List ℕ → ℕ → ℕ → ℕ → Type 0
Seeks words number at n = (xs : Sexps) → words ≡ encodes xs → Seek words number at n xs

pub seek_start : {words : List ℕ} (number : ℕ) → Seeks words number 0 number
seek_start number = λ xs e. record { left = xs; here = at_first e; sum = omega arith }

place_none : (xs : Sexps) → place xs 0 ≡ 0
unfolding place
place_none nil = refl
place_none (cons x xs) = refl

place_on : (x : Sexp) (xs : Sexps) (n : ℕ) → 0 < n → place (cons x xs) n ≡ length (encode x) + place xs (n - 1)
unfolding place
place_on x xs zero h = absurd (omega arith)
place_on x xs (suc n) h = let e : suc n - 1 ≡ n = omega arith in rw e

module _ {words : List ℕ} {number at n : ℕ} (t : Seeks words number at n) where
  pub seek_found : n ≡ 0 → (xs : Sexps) → words ≡ encodes xs → at ≡ place xs number
  seek_found h xs e =
      let k = t xs e in
      omega (arith, k.sum, ap (place k.left) h, place_none k.left)

  pub seek_over : length words ≤ at → Seeks words number at (n - 1)
  unfolding place
  seek_over h =
      λ xs f.
      let k = t xs f in
      record {
        left = k.left;
        here = k.here;
        sum = omega (arith, k.sum, ap (λ y. place y n) (at_over k.left k.here h), ap (λ y. place y (n - 1)) (at_over k.left k.here h));
      }

  pub seek_on : at < length words → 0 < n → (r : ℕ) → r ≡ behind at (item_at words at) → Seeks words number r (n - 1)
  seek_on h p r e =
      λ xs f.
      let k = t xs f in
      let m = at_more k.left k.here h in
      record {
        left = m.others;
        here = next k.here m r e;
        sum = omega (arith, k.sum, ap (λ y. place y n) m.is, place_on m.first m.others n p, past k.here m r e);
      }

-- a step of the walk, or none behind the last item
pub seek_next :
    {words : List ℕ} {number n : ℕ} (s t : Each) (o : Option (Bor (List ℕ))) → s.cells.now ≡ words → Seeks words number s.at n → 0 < n → Walks s o t →
    (t.cells.now ≡ words) × Seeks words number t.at (n - 1)
seek_next s t (Some x) e k p w = let h = here e w in (h.same, seek_on k h.inside p t.at h.behind)
seek_next s t None e k p w = rw w.same (e, seek_over k (over e w))

-- none is left behind the last item: its place is that of each number from there on
pub seek_none :
    {words : List ℕ} {number n : ℕ} (s t : Each) (o : Option (Bor (List ℕ))) → s.cells.now ≡ words → Seeks words number s.at n → Walks s o t → is_some o ≡ false →
    (xs : Sexps) → words ≡ encodes xs → t.at ≡ place xs number
unfolding place
seek_none s t (Some x) e k w b = absurd (true≢false b)
seek_none {n = n} s t None e k w b =
    λ xs f.
    let h = k xs f in
    rw w.same (omega (arith, h.sum, ap (λ y. place y n) (at_over h.left h.here (over e w))))

-- the item that is found
pub nth_inside : {words : List ℕ} {number : ℕ} (h : Reaches words number) (at : ℕ) → ((xs : Sexps) → words ≡ encodes xs → at ≡ place xs number) → at < length words
nth_inside h at f = omega (arith, f h.0 h.1, place_room h.0 _ h.1 h.2)

pub nth_is :
    {words : List ℕ} (number at : ℕ) → ((xs : Sexps) → words ≡ encodes xs → at ≡ place xs number) → at < length words →
    {r : Item} → r ≡ item_at words at → (xs : Sexps) → words ≡ encodes xs → r ≡ item_of (place xs number) (item xs number)
nth_is number at f h e xs w =
    let p : place xs number < length (encodes xs) = omega (arith, f xs w, ap length w) in
    e ∙ ap (item_at _) (f xs w) ∙ item_here (item xs number) (item_at_place xs number w (place_inside xs number p))
