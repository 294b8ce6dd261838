-- What becomes of a table of facts when a record is put in behind the first ones, and when records are made blank. Assumes nothing.
use Rattle.std.specs.Prelude.{◌≡◌, refl, ℕ, suc, ◌+◌, ◌-◌, ◌<◌, ◌≤◌, List, [], ◌∷◌, ◌++◌, length, set, take, drop, replicate, Option, Some as some, None as nothing}
use Rattle.std.proofs.Common.{sym, ap, ◌∙◌, arith, add-one, append_assoc, length-set, length-append, length-drop, take-append-drop, length-take-le, take-suc-set, drop-set-lt, take_at, drop_at}
use Rattle.std.proofs.lemmas.List.{length-replicate}
use Rattle.std.proofs.Math.Seq.{append_snoc}
use Rattle.facts.specs.declared.Fact.{Fact}
use Rattle.facts.specs.declared.TheConstants.Fact.{BLANK}
use Rattle.facts.specs.Table.{blank, appended, zeroed}

pub blank_is : BLANK ≡ blank
blank_is = refl

pub length_appended : (stored : Option Fact) (ys : List Fact) (i : ℕ) → length (appended stored ys i) ≡ length ys
length_appended (some f) ys i = length-set ys i f
length_appended nothing ys i = refl

-- the first n and the new one
pub take_appended : (ys : List Fact) (n : ℕ) (f : Fact) → n < length ys → take (n + 1) (set ys n f) ≡ take n ys ++ (f ∷ [])
take_appended ys n f h = ap (λ (k : ℕ). take k (set ys n f)) (add-one n) ∙ take-suc-set ys n f h

-- what is behind the new one stays
pub drop_appended : (ys : List Fact) (n k : ℕ) (f : Fact) → n < k → drop k (set ys n f) ≡ drop k ys
drop_appended ys n k f h = drop-set-lt k ys n f h

pub zeroed_is : (ys : List Fact) (from to : ℕ) → zeroed ys from to ≡ take from ys ++ (replicate (to - from) blank ++ drop to ys)
unfolding zeroed
zeroed_is ys from to = refl

pub length_zeroed : (ys : List Fact) (from to : ℕ) → from ≤ to → to ≤ length ys → length (zeroed ys from to) ≡ length ys
length_zeroed ys from to h l =
    ap length (zeroed_is ys from to)
    ∙ length-append (take from ys) (replicate (to - from) blank ++ drop to ys)
    ∙ omega (arith, h, l, length-take-le from ys (omega (arith, h, l)), length-append (replicate (to - from) blank) (drop to ys), length-replicate (to - from) blank, length-drop to ys)

-- the records in front and those behind stay
pub take_zeroed : (ys : List Fact) (from to : ℕ) → from ≤ length ys → take from (zeroed ys from to) ≡ take from ys
take_zeroed ys from to h = ap (take from) (zeroed_is ys from to) ∙ take_at (take from ys) (replicate (to - from) blank ++ drop to ys) from (length-take-le from ys h)

pub drop_zeroed : (ys : List Fact) (from to : ℕ) → from ≤ to → to ≤ length ys → drop to (zeroed ys from to) ≡ drop to ys
drop_zeroed ys from to h l =
    ap (drop to) (zeroed_is ys from to ∙ sym (append_assoc (take from ys) (replicate (to - from) blank) (drop to ys)))
    ∙ drop_at (take from ys ++ replicate (to - from) blank) (drop to ys) to
    (length-append (take from ys) (replicate (to - from) blank)
    ∙ omega (arith, h, l, length-take-le from ys (omega (arith, h, l)), length-replicate (to - from) blank))

-- nothing is made blank from n to n
pub zeroed_none : (ys : List Fact) (n to : ℕ) → n ≡ to → zeroed ys n to ≡ ys
zeroed_none ys n to e =
    ap (λ (k : ℕ). zeroed ys n k) (sym e)
    ∙ zeroed_is ys n n
    ∙ ap (λ (k : ℕ). take n ys ++ (replicate k blank ++ drop n ys)) no_more
    ∙ take-append-drop n ys
  where
    no_more : n - n ≡ 0
    no_more = omega arith

-- the first made blank, and then the others
pub zeroed_more : (ys : List Fact) (i to : ℕ) → i < to → i < length ys → zeroed (set ys i blank) (i + 1) to ≡ zeroed ys i to
zeroed_more ys i to h l =
    zeroed_is (set ys i blank) (i + 1) to
    ∙ ap (λ (r : List Fact). r ++ (replicate (to - (i + 1)) blank ++ drop to (set ys i blank))) (take_appended ys i blank l)
    ∙ ap (λ (r : List Fact). take i ys ++ (blank ∷ []) ++ (replicate (to - (i + 1)) blank ++ r)) (drop_appended ys i to blank h)
    ∙ append_snoc (take i ys) blank (replicate (to - (i + 1)) blank ++ drop to ys)
    ∙ ap (λ (k : ℕ). take i ys ++ (replicate k blank ++ drop to ys)) (sym one_less)
    ∙ sym (zeroed_is ys i to)
  where
    one_less : to - i ≡ suc (to - (i + 1))
    one_less = omega (arith, h)
