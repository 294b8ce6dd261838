-- Laws of the list of trees made: where a tree stands, what keeping one does, and that making a tree which is there changes nothing.
-- Assumes nothing.
use Rattle.std.specs.Prelude.{◌≡◌, Bool, true, false, [], ◌∷◌, ◌++◌, ◌⊎◌, ℕ, zero, suc, ◌+◌, ◌≤◌, ◌<◌, length, get_or}
use Rattle.std.proofs.Math.Path.{refl, ap}
use Rattle.std.proofs.Common.{sym, ◌∙◌, ⊎_elim, inl, inr, suc-le-suc, zero-le, arith, add-one, not-suc-le-zero, le_of_suc-le-suc, zero-lt-suc, length-append}
use Rattle.std.proofs.Math.Decide.{dec_lt}
use Rattle.std.proofs.Math.ListN.{get_or-append}
use Rattle.std.proofs.lemmas.List.{get_or_at}
use borrow.Author.Tests.{lt-ltb, le-ltb, le-leb, lt-leb}
use Rattle.rules.specs.Limits.{TERMS, WORDS}
use Rattle.rules.specs.Out.{Out, ok, refuse, then}
use Rattle.rules.specs.Tree.{Tree, Trees, var, app, none, more, same_tree, node}
use Rattle.rules.specs.Store.{Made, stored, number, words, keep, make, makes}
use Rattle.rules.specs.Laws.Tree.{same_tree_lem, same_eq, not_same}

-- Sequences --------------------------------------------------------------------------------------------------------------------

module _ {S A B : Type 0} where
  pub then_ok : (K : Out S A) (a : A) (s : S) (f : A → S → Out S B) → K ≡ ok a s → then K f ≡ f a s
  unfolding then
  then_ok K a s f e = ap (λ (J : Out S A). then J f) e

  pub then_refuse : (K : Out S A) (n d : ℕ) (s : S) (f : A → S → Out S B) → K ≡ refuse n d s → then K f ≡ refuse n d s
  unfolding then
  then_refuse K n d s f e = ap (λ (J : Out S A). then J f) e

-- Where a tree stands ----------------------------------------------------------------------------------------------------------

pub number_first_lem : (M : Made) (t : Tree) (i : ℕ) → i < length M → get_or M i (var 0) ≡ t → ((k : ℕ) → k < i → get_or M k (var 0) ≡ t → ⊥) → number M t ≡ i
unfolding number
number_first_lem [] t i h e n = absurd (not-suc-le-zero h)
number_first_lem (u ∷ us) t zero h e n = rw (number, same_eq u t e)
number_first_lem (u ∷ us) t (suc i) h e n =
    rw (number, not_same u t (n 0 (zero-lt-suc i))) (ap suc (number_first_lem us t i (le_of_suc-le-suc h) e (λ k l. n (suc k) (suc-le-suc l))))

pub number_none : (M : Made) (t : Tree) → ((k : ℕ) → k < length M → get_or M k (var 0) ≡ t → ⊥) → number M t ≡ length M
unfolding number
number_none [] t n = refl
number_none (u ∷ us) t n =
    rw (number, not_same u t (n 0 (zero-lt-suc (length us)))) (ap suc (number_none us t (λ k l. n (suc k) (suc-le-suc l))))

pub number_is : (M : Made) (t : Tree) → number M t < length M → get_or M (number M t) (var 0) ≡ t
unfolding number
number_is [] t h = absurd (not-suc-le-zero h)
number_is (u ∷ us) t h = go (number_is us t) (same_tree u t) refl h
  where
    go : (number us t < length us → get_or us (number us t) (var 0) ≡ t) → (b : Bool) → same_tree u t ≡ b
        → elim b [ true ↦ 0 | false ↦ suc (number us t) ] < suc (length us) → get_or (u ∷ us) (elim b [ true ↦ 0 | false ↦ suc (number us t) ]) (var 0) ≡ t
    go ih true e h = same_tree_lem u t e
    go ih false e h = ih (le_of_suc-le-suc h)

pub number_le : (M : Made) (t : Tree) → number M t ≤ length M
unfolding number
number_le [] t = zero-le
number_le (u ∷ us) t = go (number_le us t) (same_tree u t)
  where
    go : number us t ≤ length us → (b : Bool) → elim b [ true ↦ 0 | false ↦ suc (number us t) ] ≤ suc (length us)
    go ih true = zero-le
    go ih false = suc-le-suc ih

pub stored_true : (M : Made) (t : Tree) → number M t < length M → stored M t ≡ true
unfolding number stored
stored_true [] t h = absurd (not-suc-le-zero h)
stored_true (u ∷ us) t h = go (stored_true us t) (same_tree u t) h
  where
    go : (number us t < length us → stored us t ≡ true) → (b : Bool) → elim b [ true ↦ 0 | false ↦ suc (number us t) ] < suc (length us)
        → elim b [ true ↦ true | false ↦ stored us t ] ≡ true
    go ih true h = refl
    go ih false h = ih (le_of_suc-le-suc h)

pub stored_false : (M : Made) (t : Tree) → number M t ≡ length M → stored M t ≡ false
unfolding number stored
stored_false [] t h = refl
stored_false (u ∷ us) t h = go (stored_false us t) (same_tree u t) h
  where
    go : (number us t ≡ length us → stored us t ≡ false) → (b : Bool) → elim b [ true ↦ 0 | false ↦ suc (number us t) ] ≡ suc (length us)
        → elim b [ true ↦ true | false ↦ stored us t ] ≡ false
    go ih true h = absurd (omega arith)
    go ih false h = ih (omega arith)

-- no tree stands twice
unfoldable pub Apart : Made → Type 0
Apart M = (i j : ℕ) → i < length M → j < length M → get_or M i (var 0) ≡ get_or M j (var 0) → i ≡ j

pub number_of_lem : (M : Made) → Apart M → (i : ℕ) → i < length M → (t : Tree) → get_or M i (var 0) ≡ t → number M t ≡ i
unfolding Apart
number_of_lem M a i h t e =
    number_first_lem M t i h e (λ k l q. let z : k ≡ i = a k i (omega arith) h (q ∙ sym e) in omega arith)

-- One tree more ----------------------------------------------------------------------------------------------------------------

pub length_snoc : (M : Made) (t : Tree) → length (M ++ (t ∷ [])) ≡ suc (length M)
length_snoc M t = length-append M (t ∷ []) ∙ add-one (length M)

pub get_d_last : (M : Made) (t : Tree) (n : ℕ) → length M ≡ n → get_or (M ++ (t ∷ [])) n (var 0) ≡ t
get_d_last M t n e = get_or_at M t [] (var 0) n e

pub apart_more : (M : Made) (t : Tree) → Apart M → ((k : ℕ) → k < length M → get_or M k (var 0) ≡ t → ⊥) → Apart (M ++ (t ∷ []))
unfolding Apart
apart_more M t a n i j hi hj e = ⊎_elim
    (λ p. ⊎_elim (λ q. a i j p q (sym (was i p) ∙ e ∙ was j q)) (λ q. absurd (n i p (sym (was i p) ∙ e ∙ get_d_last M t j (sym q)))) (side j hj))
    (λ p. ⊎_elim (λ q. absurd (n j q (sym (was j q) ∙ sym e ∙ get_d_last M t i (sym p)))) (λ q. p ∙ sym q) (side j hj))
    (side i hi)
  where
    was : (k : ℕ) → k < length M → get_or (M ++ (t ∷ [])) k (var 0) ≡ get_or M k (var 0)
    was k p = get_or-append M (t ∷ []) (var 0) k p

    side : (k : ℕ) → k < length (M ++ (t ∷ [])) → (k < length M) ⊎ (k ≡ length M)
    side k h = elim (dec_lt k (length M)) [ yes p ↦ inl p | no q ↦ inr (omega (arith, length_snoc M t)) ]

pub words_more : (M : Made) (t : Tree) → words (M ++ (t ∷ [])) ≡ words M + node t
unfolding words
words_more [] t = omega arith
words_more (u ∷ us) t = let e = words_more us t in omega arith

-- Keeping ----------------------------------------------------------------------------------------------------------------------

module _ (M : Made) (t : Tree) where
  pub keep_old : number M t < length M → keep t M ≡ ok t M
  unfolding keep
  keep_old h = rw (keep, stored_true M t h)

  pub keep_8 : number M t ≡ length M → TERMS ≤ length M → keep t M ≡ refuse 60 8 M
  unfolding keep
  keep_8 e h = rw (keep, stored_false M t e, le-ltb (length M) TERMS h)

  pub keep_9 : number M t ≡ length M → length M < TERMS → WORDS < words M + node t → keep t M ≡ refuse 60 9 M
  unfolding keep
  keep_9 e h l = rw (keep, stored_false M t e, lt-ltb (length M) TERMS h, lt-leb (words M + node t) WORDS l)

  pub keep_new : number M t ≡ length M → length M < TERMS → words M + node t ≤ WORDS → keep t M ≡ ok t (M ++ (t ∷ []))
  unfolding keep
  keep_new e h l = rw (keep, stored_false M t e, lt-ltb (length M) TERMS h, le-leb (words M + node t) WORDS l)

-- What is there already --------------------------------------------------------------------------------------------------------

-- all trees of the list are there
abbrev pub Ins : Made → Trees → Type 0
Ins M none = Unit {0}
Ins M (more t ts) = (number M t < length M) × Ins M ts

-- with a tree its arguments are there
unfoldable pub Closed : Made → Type 0
Closed M = (c : ℕ) (ts : Trees) → number M (app c ts) < length M → Ins M ts

mutual
  unfolding make then Closed

  pub make_old : (M : Made) → Closed M → (t : Tree) → number M t < length M → make t M ≡ ok t M
  make_old M c (var v) h = keep_old M (var v) h
  make_old M c (app f ts) h = then_ok (makes ts M) ts M (λ _ m. keep (app f ts) m) (makes_old M c ts (c f ts h)) ∙ keep_old M (app f ts) h

  pub makes_old : (M : Made) → Closed M → (ts : Trees) → Ins M ts → makes ts M ≡ ok ts M
  makes_old M c none h = refl
  makes_old M c (more t ts) h =
      then_ok (make t M) t M (λ _ m. then (makes ts m) (λ _ n. ok (more t ts) n)) (make_old M c t h.0)
      ∙ then_ok (makes ts M) ts M (λ _ n. ok (more t ts) n) (makes_old M c ts h.1)

-- Making, argument by argument ------------------------------------------------------------------------------------------------------

pub make_app : (M : Made) (c : ℕ) (ts : Trees) → make (app c ts) M ≡ then (makes ts M) (λ _ m. keep (app c ts) m)
unfolding make
make_app M c ts = refl

pub makes_none : {A : Type 0} (M : Made) (f : Made → Out Made A) → then (makes none M) (λ _ m. f m) ≡ f M
unfolding makes then
makes_none M f = refl

module _ {A : Type 0} (M : Made) (t : Tree) (ts : Trees) (f : Made → Out Made A) where
  -- what is answered does not matter, only what is made
  skip : (K : Out Made Trees) → then (then K (λ _ n. ok (more t ts) n)) (λ _ m. f m) ≡ then K (λ _ m. f m)
  unfolding then
  skip (ok a s) = refl
  skip (refuse n d s) = refl

  pub makes_more : (u : Tree) (N : Made) → make t M ≡ ok u N → then (makes (more t ts) M) (λ _ m. f m) ≡ then (makes ts N) (λ _ m. f m)
  unfolding makes
  makes_more u N e =
      ap (λ (K : Out Made Trees). then K (λ _ m. f m)) (then_ok (make t M) u N (λ _ m. then (makes ts m) (λ _ n. ok (more t ts) n)) e)
      ∙ skip (makes ts N)

  pub makes_stop : (n d : ℕ) (N : Made) → make t M ≡ refuse n d N → then (makes (more t ts) M) (λ _ m. f m) ≡ refuse n d N
  unfolding makes
  makes_stop n d N e =
      then_refuse (makes (more t ts) M) n d N (λ _ m. f m) (then_refuse (make t M) n d N (λ _ m. then (makes ts m) (λ _ n. ok (more t ts) n)) e)
