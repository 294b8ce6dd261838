-- Loops that go through a table from the front: what is cleared, what is written. Assumes nothing.
use Rattle.std.proofs.Common.{◌≡◌, refl, arith, get_or, take, ◌≤◌, sym, ap, ◌∙◌, ℕ, suc, ◌+◌, ◌<◌, List, ◌++◌, length, set, drop, replicate, add-one, drop-cons}
use Rattle.std.proofs.lemmas.List.{length-replicate, replicate-append-replicate}
use Rattle.std.proofs.Math.Seq.{set_at, append_snoc}
use lib.ListN.{length-set}
use lib.Seq.{length-take-le, take-suc, take_all}

pub cleared_more : {A : Type 0} (z : A) (d : List A) (i : ℕ) → i < length d → set (replicate i z ++ drop i d) i z ≡ replicate (i + 1) z ++ drop (i + 1) d
cleared_more {A} z d i h =
    ap (λ (r : List A). set (replicate i z ++ r) i z) (drop-cons d i z h)
    ∙ set_at (replicate i z) _ (drop (suc i) d) z i (length-replicate i z)
    ∙ sym (append_snoc (replicate i z) z (drop (suc i) d))
    ∙ ap (λ (r : List A). r ++ drop (suc i) d) (replicate-append-replicate i 1 z)
    ∙ ap (λ (k : ℕ). replicate (i + 1) z ++ drop k d) (sym (add-one i))

-- a table into which another is written from the front
pub record Writing (l w now : List ℕ) (i : ℕ) : Type 0 where
  pub inside : i ≤ length w
  pub room : length w ≤ length l
  pub long : length now ≡ length l
  pub so_far : now ≡ take i w ++ drop i l

pub writing_begins : (l w : List ℕ) → length w ≤ length l → Writing l w l 0
writing_begins l w h = record { inside = omega arith; room = h; long = refl; so_far = refl }

pub writing_on : (l w now : List ℕ) (i : ℕ) → Writing l w now i → i < length w → Writing l w (set now i (get_or w i 0)) (i + 1)
writing_on l w now i c h =
    let r = c.room in
    let z = length-take-le i w (omega arith) in
    record {
      inside = omega arith;
      room = c.room;
      long = length-set now i (get_or w i 0) ∙ c.long;
      so_far = ap (λ (r : List ℕ). set r i (get_or w i 0)) (c.so_far ∙ ap (λ (r : List ℕ). take i w ++ r) (drop-cons l i 0 (omega arith)))
          ∙ set_at (take i w) (get_or l i 0) (drop (suc i) l) (get_or w i 0) i z
          ∙ sym (append_snoc (take i w) (get_or w i 0) (drop (suc i) l))
          ∙ ap (λ (r : List ℕ). r ++ drop (suc i) l) (sym (take-suc w i 0 h))
          ∙ ap (λ (k : ℕ). take k w ++ drop k l) (sym (add-one i));
    }

pub writing_ends : (l w now : List ℕ) (i : ℕ) → Writing l w now i → length w ≤ i → now ≡ w ++ drop (length w) l
writing_ends l w now i c h =
    let a = c.inside in
    let e : i ≡ length w = omega arith in
    c.so_far ∙ ap (λ (k : ℕ). take k w ++ drop k l) e ∙ ap (λ (r : List ℕ). r ++ drop (length w) l) (take_all (length w) w (omega arith))
