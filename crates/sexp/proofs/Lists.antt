-- What `list` finds by the number of an item. Assumes nothing.
use Rattle.std.proofs.Common.{◌≡◌, ℕ, ◌-◌, ◌<◌, List, length, take, drop, arith, ap, Bor, Option, Some, None}
use Rattle.std.specs.Slice.{IsGetRangeResult}
use Rattle.rules.specs.Sexp.{Sexps, count, item}
use Rattle.sexp.specs.Encode.{encodes}
use Rattle.sexp.specs.Items.{Holds, item_at, place}
use Rattle.sexp.specs.ItemLaws.{place_room}
use Rattle.sexp.specs.WalkLaws.{AtomIs, ListIs, nth_atom, nth_list, part_shorter}
use Rattle.sexp.specs.Each.{ListIn}
use Rattle.sexp.proofs.Tallies.{nth_is}
use Rattle.sexp.specs.declared.items.Item.{Item}
use Rattle.sexp.specs.declared.items.Item.TheVariants.{Atom, List as Part}

module _ {words : List ℕ} (number at : ℕ) (p : (xs : Sexps) → words ≡ encodes xs → at ≡ place xs number) {text : List ℕ} {xs : Sexps} (h : Holds text words xs)
    (l : number < count xs) where
  pub list_room : at < length words
  list_room = omega (arith, p xs h.cells, place_room xs number h.cells l)

  module _ {r : Item} (e : r ≡ item_at words at) where
    pub list_none : {q : ℕ} → r ≡ Atom q → (n : ℕ) × AtomIs text (item xs number) n
    list_none {q} f = (q, nth_atom h number (nth_is number at p list_room e xs h.cells) f)

    pub list_some : {a b : ℕ} → r ≡ Part a b → ListIs text words (item xs number) a b
    list_some f = nth_list h number (nth_is number at p list_room e xs h.cells) l f

    pub list_got : {a b : ℕ} → r ≡ Part a b → (o : Option (Bor (List ℕ))) → IsGetRangeResult words a b o → ListIn text words (item xs number) o
    list_got {a} {b} f None g = absurd (omega (arith, (list_some f).low, (list_some f).high, g.0))
    list_got {a} {b} f (Some part) g =
        let k = list_some f in
        let is : part.now ≡ take (b - a) (drop a words) = g.0.2 in
        record { items = k.items; is = k.is; holds = rw is k.holds; shorter = omega (arith, ap length is, part_shorter k) }
