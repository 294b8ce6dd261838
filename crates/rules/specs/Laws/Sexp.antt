-- Laws of `forms`, a token at a time, and of the items of a list, an item at a time. Assumes nothing.
use Rattle.std.specs.Prelude.{◌≡◌, ℕ, zero, suc, ◌+◌, ◌-◌, ◌≤◌, ◌<◌, List, [], ◌∷◌, length}
use Rattle.std.proofs.Math.Path.{refl}
use Rattle.std.proofs.Common.{sym, ap, ◌∙◌, add-one, zero-add, suc-add, arith, le-leb}
use Rattle.rules.specs.Limits.{DEPTH}
use Rattle.std.proofs.lemmas.Bool.{lt-leb}
use Rattle.rules.specs.Lex.{Token, opens, closes, word}
use Rattle.rules.specs.Sexp.{Sexp, Sexps, atom, list, nil, cons, snoc, ends, fails, more, forms, count, item, rest, name, items}
use Rattle.rules.specs.Out.{ok, refuse}

pub forms_opens : (st : List Sexps) (p : ℕ) (ts : List Token) → length st < DEPTH → forms st (opens p ∷ ts) ≡ forms (nil ∷ st) ts
unfolding forms
forms_opens [] p ts h = refl
forms_opens (xs ∷ st) p ts h = rw (lt-leb DEPTH (length (xs ∷ st)) h, forms)

pub forms_deep : (st : List Sexps) (p : ℕ) (ts : List Token) → length st ≡ DEPTH → forms st (opens p ∷ ts) ≡ fails 5
unfolding forms
forms_deep [] p ts h = absurd (omega arith)
forms_deep (xs ∷ st) p ts h = rw (le-leb DEPTH (length (xs ∷ st)) (omega arith), forms)

pub forms_stray : (p : ℕ) (ts : List Token) → forms [] (closes p ∷ ts) ≡ fails 4
unfolding forms
forms_stray p ts = refl

pub forms_closes : (xs ys : Sexps) (st : List Sexps) (p : ℕ) (ts : List Token) → forms (xs ∷ ys ∷ st) (closes p ∷ ts) ≡ forms (snoc ys (list xs) ∷ st) ts
unfolding forms
forms_closes xs ys st p ts = refl

pub forms_closed : (xs : Sexps) (p : ℕ) (ts : List Token) → forms (xs ∷ []) (closes p ∷ ts) ≡ more (list xs) (suc p) (forms [] ts)
unfolding forms
forms_closed xs p ts = refl

pub forms_word : (xs : Sexps) (st : List Sexps) (p : ℕ) (bs : List ℕ) (ts : List Token) → forms (xs ∷ st) (word p bs ∷ ts) ≡ forms (snoc xs (atom p bs) ∷ st) ts
unfolding forms
forms_word xs st p bs ts = refl

pub forms_bare : (p : ℕ) (bs : List ℕ) (ts : List Token) → forms [] (word p bs ∷ ts) ≡ more (atom p bs) (p + length bs) (forms [] ts)
unfolding forms
forms_bare p bs ts = refl

pub forms_ends : forms [] [] ≡ ends
unfolding forms
forms_ends = refl

pub forms_open_end : (st : List Sexps) → (length st ≡ 0 → ⊥) → forms st [] ≡ fails 4
unfolding forms
forms_open_end [] h = absurd (h refl)
forms_open_end (xs ∷ st) h = refl

-- the items of a list

pub count_cons : (x : Sexp) (xs : Sexps) → count (cons x xs) ≡ count xs + 1
unfolding count
count_cons x xs = sym (add-one (count xs))

pub rest_none : (xs : Sexps) → rest xs 0 ≡ xs
unfolding rest
rest_none nil = refl
rest_none (cons x xs) = refl

-- where there is an item, it stands first among those behind the items before it
pub rest_item : (xs : Sexps) (k : ℕ) → k < count xs → rest xs k ≡ cons (item xs k) (rest xs (suc k))
unfolding count item rest
rest_item nil k h = absurd (omega arith)
rest_item (cons x xs) zero h = ap (cons x) (sym (rest_none xs))
rest_item (cons x xs) (suc k) h = rest_item xs k (omega arith)

pub rest_over : (xs : Sexps) (k : ℕ) → count xs ≤ k → rest xs k ≡ nil
unfolding count rest
rest_over nil k h = refl
rest_over (cons x xs) zero h = absurd (omega arith)
rest_over (cons x xs) (suc k) h = rest_over xs k (omega arith)

pub rest_rest : (xs : Sexps) (j k : ℕ) → rest (rest xs j) k ≡ rest xs (j + k)
unfolding rest
rest_rest nil j k = refl
rest_rest (cons x xs) zero k = ap (rest (cons x xs)) (sym (zero-add k))
rest_rest (cons x xs) (suc j) k = rest_rest xs j k ∙ ap (rest (cons x xs)) (sym (suc-add j k))

pub item_rest : (xs : Sexps) (j k : ℕ) → item (rest xs j) k ≡ item xs (j + k)
unfolding item rest
item_rest nil j k = refl
item_rest (cons x xs) zero k = ap (item (cons x xs)) (sym (zero-add k))
item_rest (cons x xs) (suc j) k = item_rest xs j k ∙ ap (item (cons x xs)) (sym (suc-add j k))

pub count_rest : (xs : Sexps) (k : ℕ) → count (rest xs k) ≡ count xs - k
unfolding count rest
count_rest nil k = omega arith
count_rest (cons x xs) zero = omega arith
count_rest (cons x xs) (suc k) = omega (arith, count_rest xs k)

-- an item that a question reads as an atom or as a list
module _ {S : Type 0} (n : ℕ) (s : S) where
  pub name_atom : (p : ℕ) (bs : List ℕ) → name n (atom p bs) s ≡ ok (record { start = p; bytes = bs }) s
  unfolding name
  name_atom p bs = refl

  pub name_list : (xs : Sexps) → name n (list xs) s ≡ refuse n 0 s
  unfolding name
  name_list xs = refl

  pub items_list : (xs : Sexps) → items n (list xs) s ≡ ok xs s
  unfolding items
  items_list xs = refl

  pub items_atom : (p : ℕ) (bs : List ℕ) → items n (atom p bs) s ≡ refuse n 0 s
  unfolding items
  items_atom p bs = refl
