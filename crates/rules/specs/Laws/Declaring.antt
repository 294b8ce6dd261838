-- The questions of a theory's declarations one at a time, as code puts them: what an action answers, from what was found so far.
-- Assumes nothing.
use Rattle.std.specs.Prelude.{ℕ, suc, ◌<◌, ◌≤◌, ◌≡◌, refl, Bool, true, false, not, List, [], ◌∷◌, ◌++◌, ltb, length, Option, Some as some, None as nothing}
use Rattle.std.proofs.Math.Path.{ap}
use Rattle.std.proofs.Common.{◌∙◌}
use borrow.Author.Tests.{lt-ltb, le-ltb}
use Rattle.rules.specs.Limits.{SORTS, SYMBOLS, ARGUMENTS}
use Rattle.rules.specs.Text.{same}
use Rattle.rules.specs.Out.{Out, ok, refuse, then, ask, found}
use Rattle.rules.specs.Sexp.{Sexp, Sexps, atom, list, nil, cons, item, Name, name, items, marked}
use Rattle.rules.specs.Find.{first}
use Rattle.rules.specs.Theory.{Symbol, Theory, sort_named, predicate_named, constructor_named}
use Rattle.rules.specs.Declare.{is_new, proper_name, sort, sorts, add_sort, add_symbol, add_ctor, add_pred}

-- Names and sorts ----------------------------------------------------------------------------------------------------------------

-- the name that `proper_name` answers with
unfoldable pub proper : Sexp → Option Name
proper (atom p bs) = elim (marked bs) [ true ↦ nothing | false ↦ some (record { start = p; bytes = bs }) ]
proper (list xs) = nothing

-- the number of the sort, from 1 on, that `sort` answers with
unfoldable pub sort_of_name : List Name → Option Name → Option ℕ
sort_of_name ns nothing = nothing
sort_of_name ns (some n) = first (λ s. same s.bytes n.bytes) ns 1

unfoldable pub sort_of : List Name → Sexp → Option ℕ
sort_of ns x = sort_of_name ns (proper x)

pub proper_asks : {S : Type 0} (x : Sexp) (s : S) → proper_name x s ≡ found 11 (proper x) s
unfolding proper_name proper name then
proper_asks (atom p bs) s = go (marked bs)
  where
    go : (b : Bool) → then {B = Name} (ask 11 (not b) s) (λ u v. ok (record { start = p; bytes = bs }) v)
        ≡ found 11 (elim b [ true ↦ nothing | false ↦ some (record { start = p; bytes = bs }) ]) s
    go true = refl
    go false = refl
proper_asks (list xs) s = refl

pub sort_asks : {S : Type 0} (T : Theory) (x : Sexp) (s : S) → sort T x s ≡ found 11 (sort_of T.sorts x) s
unfolding sort sort_of sort_of_name sort_named then
sort_asks T x s = ap (λ r. then r (λ n u. found 11 (sort_named T n.bytes) u)) (proper_asks x s) ∙ go (proper x)
  where
    go : (o : Option Name) → then (found 11 o s) (λ n u. found 11 (sort_named T n.bytes) u) ≡ found 11 (sort_of_name T.sorts o) s
    go nothing = refl
    go (some n) = refl

-- the same answer beside another state
unfoldable pub aside : {S A : Type 0} → Out (Unit {0}) A → S → Out S A
aside (ok a u) s = ok a s
aside (refuse n d u) s = refuse n d s

module _ {S : Type 0} (T : Theory) (x : Sexp) (xs : Sexps) (k : ℕ) (s : S) where
  pub sorts_unknown : sort_of T.sorts x ≡ nothing → sorts T (cons x xs) k s ≡ refuse 11 0 s
  unfolding sorts then
  sorts_unknown e = rw (sort_asks T x s, e)

  pub sorts_full : (i : ℕ) → sort_of T.sorts x ≡ some i → ARGUMENTS ≤ k → sorts T (cons x xs) k s ≡ refuse 60 3 s
  unfolding sorts then
  sorts_full i e h = rw (sort_asks T x s, e, le-ltb k ARGUMENTS h)

  pub sorts_more : (i : ℕ) → sort_of T.sorts x ≡ some i → k < ARGUMENTS → sorts T (cons x xs) k s ≡ then (sorts T xs (suc k) s) (λ ss u. ok (i ∷ ss) u)
  unfolding sorts then
  sorts_more i e h = rw (sort_asks T x s, e, lt-ltb k ARGUMENTS h)

pub sorts_none : {S : Type 0} (T : Theory) (k : ℕ) (s : S) → sorts T nil k s ≡ ok [] s
unfolding sorts
sorts_none T k s = refl

-- the argument sorts do not depend on what goes on beside
pub sorts_aside : {S : Type 0} (T : Theory) (xs : Sexps) (k : ℕ) (s : S) → sorts T xs k s ≡ aside (sorts T xs k tt) s
unfolding sorts aside then
sorts_aside T nil k s = refl
sorts_aside T (cons x xs) k s = go (sort_of T.sorts x) refl (ltb k ARGUMENTS) refl (sorts T xs (suc k) tt) (sorts_aside T xs (suc k) s) refl
  where
    go : (o : Option ℕ) → sort_of T.sorts x ≡ o → (b : Bool) → ltb k ARGUMENTS ≡ b → (r : Out (Unit {0}) (List ℕ)) →
        sorts T xs (suc k) s ≡ aside r s → sorts T xs (suc k) tt ≡ r → sorts T (cons x xs) k s ≡ aside (sorts T (cons x xs) k tt) s
    go nothing e b f r g h = rw (sort_asks T x s, sort_asks T x (tt {0}), e)
    go (some i) e false f r g h = rw (sort_asks T x s, sort_asks T x (tt {0}), e, f)
    go (some i) e true f (ok ss u) g h = rw (sort_asks T x s, sort_asks T x (tt {0}), e, f, g, h)
    go (some i) e true f (refuse n d u) g h = rw (sort_asks T x s, sort_asks T x (tt {0}), e, f, g, h)

-- Declarations -------------------------------------------------------------------------------------------------------------------

abbrev pub with_sort : Theory → Name → Theory
with_sort T n = record { sorts = T.sorts ++ (n ∷ []); symbols = T.symbols; rules = T.rules }

module _ (T : Theory) (xs : Sexps) where
  pub add_sort_unnamed : proper (item xs 1) ≡ nothing → add_sort xs T ≡ refuse 11 0 T
  unfolding add_sort then
  add_sort_unnamed e = rw (proper_asks (item xs 1) T, e)

  module _ (n : Name) (e : proper (item xs 1) ≡ some n) where
    pub add_sort_known : (i : ℕ) → sort_named T n.bytes ≡ some i → add_sort xs T ≡ refuse 11 0 T
    unfolding add_sort then is_new
    add_sort_known i f = rw (proper_asks (item xs 1) T, e, f)

    pub add_sort_full : sort_named T n.bytes ≡ nothing → SORTS ≤ length T.sorts → add_sort xs T ≡ refuse 60 1 T
    unfolding add_sort then is_new
    add_sort_full f h = rw (proper_asks (item xs 1) T, e, f, le-ltb (length T.sorts) SORTS h)

    pub add_sort_new : sort_named T n.bytes ≡ nothing → length T.sorts < SORTS → add_sort xs T ≡ ok tt (with_sort T n)
    unfolding add_sort then is_new
    add_sort_new f h = rw (proper_asks (item xs 1) T, e, f, lt-ltb (length T.sorts) SORTS h)

abbrev pub with_symbol : Theory → Symbol → Theory
with_symbol T s = record { sorts = T.sorts; symbols = T.symbols ++ (s ∷ []); rules = T.rules }

pub add_symbol_full : (T : Theory) (s : Symbol) → SYMBOLS ≤ length T.symbols → add_symbol s T ≡ refuse 60 2 T
unfolding add_symbol then
add_symbol_full T s h = rw (le-ltb (length T.symbols) SYMBOLS h)

pub add_symbol_new : (T : Theory) (s : Symbol) → length T.symbols < SYMBOLS → add_symbol s T ≡ ok tt (with_symbol T s)
unfolding add_symbol then
add_symbol_new T s h = rw (lt-ltb (length T.symbols) SYMBOLS h)

-- Constructors and predicates ------------------------------------------------------------------------------------------------------

-- the argument sorts that an item gives
unfoldable pub arguments_of : Theory → Sexp → Out (Unit {0}) (List ℕ)
arguments_of T (atom p bs) = refuse 11 0 tt
arguments_of T (list xs) = sorts T xs 0 tt

arguments_ask : {B : Type 0} (T : Theory) (x : Sexp) (f : List ℕ → Theory → Out Theory B) →
    then (items 11 x T) (λ ys u. then (sorts T ys 0 u) f) ≡ then (aside (arguments_of T x) T) f
unfolding items arguments_of aside then
arguments_ask T (atom p bs) f = refl
arguments_ask T (list xs) f = ap (λ r. then r f) (sorts_aside T xs 0 T)

abbrev pub constructor_of : Name → List ℕ → ℕ → Symbol
constructor_of n ss o = record { name = n; inputs = ss; output = o }

module _ (T : Theory) (xs : Sexps) where
  -- behind the name and the arguments
  ctor_rest : Name → List ℕ → Theory → Out Theory (Unit {0})
  ctor_rest n ss U =
      then (sort T (item xs 3) U) (λ o X. then (ask 11 (is_new (constructor_named T n.bytes)) X) (λ u W. add_symbol (constructor_of n ss o) W))

  pred_rest : Name → List ℕ → Theory → Out Theory (Unit {0})
  pred_rest n ss U = then (ask 11 (is_new (predicate_named T n.bytes)) U) (λ u W. add_symbol (constructor_of n ss 0) W)

  ctor_asks : add_ctor xs T ≡ then (found 11 (proper (item xs 1)) T) (λ n U. then (items 11 (item xs 2) U) (λ ys X. then (sorts T ys 0 X) (λ ss W. ctor_rest n ss W)))
  unfolding add_ctor then ctor_rest
  ctor_asks = ap (λ r. then r (λ n U. then (items 11 (item xs 2) U) (λ ys X. then (sorts T ys 0 X) (λ ss W. ctor_rest n ss W)))) (proper_asks (item xs 1) T)

  pred_asks : add_pred xs T ≡ then (found 11 (proper (item xs 1)) T) (λ n U. then (items 11 (item xs 2) U) (λ ys X. then (sorts T ys 0 X) (λ ss W. pred_rest n ss W)))
  unfolding add_pred then pred_rest
  pred_asks = ap (λ r. then r (λ n U. then (items 11 (item xs 2) U) (λ ys X. then (sorts T ys 0 X) (λ ss W. pred_rest n ss W)))) (proper_asks (item xs 1) T)

  pub ctor_unnamed : proper (item xs 1) ≡ nothing → add_ctor xs T ≡ refuse 11 0 T
  unfolding then
  ctor_unnamed e = ctor_asks ∙ rw e

  pub pred_unnamed : proper (item xs 1) ≡ nothing → add_pred xs T ≡ refuse 11 0 T
  unfolding then
  pred_unnamed e = pred_asks ∙ rw e

  module _ (n : Name) (e : proper (item xs 1) ≡ some n) where
    ctor_named : add_ctor xs T ≡ then (aside (arguments_of T (item xs 2)) T) (λ ss W. ctor_rest n ss W)
    unfolding then
    ctor_named =
        ctor_asks ∙ ap (λ o. then (found 11 o T) (λ n U. then (items 11 (item xs 2) U) (λ ys X. then (sorts T ys 0 X) (λ ss W. ctor_rest n ss W)))) e
        ∙ arguments_ask T (item xs 2) (λ ss W. ctor_rest n ss W)

    pred_named : add_pred xs T ≡ then (aside (arguments_of T (item xs 2)) T) (λ ss W. pred_rest n ss W)
    unfolding then
    pred_named =
        pred_asks ∙ ap (λ o. then (found 11 o T) (λ n U. then (items 11 (item xs 2) U) (λ ys X. then (sorts T ys 0 X) (λ ss W. pred_rest n ss W)))) e
        ∙ arguments_ask T (item xs 2) (λ ss W. pred_rest n ss W)

    pub ctor_arguments : (a d : ℕ) → arguments_of T (item xs 2) ≡ refuse a d tt → add_ctor xs T ≡ refuse a d T
    unfolding then aside
    ctor_arguments a d f = ctor_named ∙ rw f

    pub pred_arguments : (a d : ℕ) → arguments_of T (item xs 2) ≡ refuse a d tt → add_pred xs T ≡ refuse a d T
    unfolding then aside
    pred_arguments a d f = pred_named ∙ rw f

    module _ (ss : List ℕ) (f : arguments_of T (item xs 2) ≡ ok ss tt) where
      ctor_known_so_far : add_ctor xs T ≡ ctor_rest n ss T
      unfolding then aside
      ctor_known_so_far = ctor_named ∙ ap (λ r. then (aside r T) (λ ss W. ctor_rest n ss W)) f

      pred_known_so_far : add_pred xs T ≡ pred_rest n ss T
      unfolding then aside
      pred_known_so_far = pred_named ∙ ap (λ r. then (aside r T) (λ ss W. pred_rest n ss W)) f

      pub ctor_unsorted : sort_of T.sorts (item xs 3) ≡ nothing → add_ctor xs T ≡ refuse 11 0 T
      unfolding then ctor_rest
      ctor_unsorted g = ctor_known_so_far ∙ rw (sort_asks T (item xs 3) T, g)

      pub ctor_twice : (o i : ℕ) → sort_of T.sorts (item xs 3) ≡ some o → constructor_named T n.bytes ≡ some i → add_ctor xs T ≡ refuse 11 0 T
      unfolding then ctor_rest is_new
      ctor_twice o i g h = ctor_known_so_far ∙ rw (sort_asks T (item xs 3) T, g, h)

      pub ctor_new : (o : ℕ) → sort_of T.sorts (item xs 3) ≡ some o → constructor_named T n.bytes ≡ nothing → add_ctor xs T ≡ add_symbol (constructor_of n ss o) T
      unfolding then ctor_rest is_new
      ctor_new o g h = ctor_known_so_far ∙ rw (sort_asks T (item xs 3) T, g, h)

      pub pred_twice : (i : ℕ) → predicate_named T n.bytes ≡ some i → add_pred xs T ≡ refuse 11 0 T
      unfolding then pred_rest is_new
      pred_twice i h = pred_known_so_far ∙ rw h

      pub pred_new : predicate_named T n.bytes ≡ nothing → add_pred xs T ≡ add_symbol (constructor_of n ss 0) T
      unfolding then pred_rest is_new
      pred_new h = pred_known_so_far ∙ rw h
