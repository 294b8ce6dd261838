-- Ground terms and judgments that are written in their own theory are read back: reading them is making them. Assumes nothing.
use Rattle.std.specs.Prelude.{ℕ, suc, ◌≤◌, ◌<◌, ◌≡◌, Bool, true, false, eqb, leb, length, Option, Some as some}
use Rattle.std.proofs.Common.{arith, sym, ◌∙◌, eq-eqb, ne_eqb, le-leb}
use Rattle.std.proofs.Math.Path.{refl, ap}
use mathlib.Core.List.{List, [], ◌∷◌}
use Rattle.rules.specs.Out.{Out, ok, then, Act, ask, found}
use Rattle.rules.specs.Sexp.{Sexp, Sexps, atom, list, nil as nilˢ, cons as consˢ, count, item, rest, name as nameˢ, items, marked}
use Rattle.rules.specs.Find.{first}
use Rattle.rules.specs.Tree.{Tree, Trees, var, app, none, more}
use Rattle.rules.specs.Store.{Made, keep, make, makes}
use Rattle.rules.specs.Theory.{Theory, no_symbol, is_predicate, inputs, output, constructor_named, predicate_named}
use Rattle.rules.specs.Laws.Theory.{All, both, IsSort, WellFormed, all_at}
use Rattle.rules.specs.Laws.Name.{Own, Named}
use Rattle.rules.specs.State.{State, sort_of, fit, var_named, is_empty}
use Rattle.rules.specs.Read.{named, term, terms, judgment}
use Rattle.meaning.specs.Trees.Tests.{true_and}
use Rattle.meaning.specs.Unification.Acts.{Ok, done, stopped, make_ok, makes_ok}
use Rattle.meaning.specs.Signature.{sig, Value, Values}
use Rattle.meaning.specs.Written.{Form, Forms, name, group, nil, cons, symbol_name, applied, term_form, term_forms, judgment_form}
use Rattle.meaning.specs.Writing.Read.{no, bare, bares}

-- Forms with places ---------------------------------------------------------------------------------------------------------------

pub atom_of : (x : Sexp) (bs : List ℕ) → bare x ≡ name bs → (p : ℕ) × (x ≡ atom p bs)
unfolding bare
atom_of (atom p cs) bs e = (p, ap (atom p) (let z : cs ≡ bs = cc in z))
atom_of (list xs) bs e = no cc

pub list_of : (x : Sexp) (fs : Forms) → bare x ≡ group fs → (xs : Sexps) × (x ≡ list xs) × (bares xs ≡ fs)
unfolding bare
list_of (atom p cs) fs e = no cc
list_of (list xs) fs e = (xs, refl, cc)

pub nil_of : (xs : Sexps) → bares xs ≡ nil → xs ≡ nilˢ
unfolding bare
nil_of nilˢ e = refl
nil_of (consˢ y ys) e = no cc

pub record Split (xs : Sexps) (f : Form) (fs : Forms) : Type 0 where
  pub front : Sexp
  pub behind : Sexps
  pub is : xs ≡ consˢ front behind
  pub fronts : bare front ≡ f
  pub behinds : bares behind ≡ fs

pub cons_of : (xs : Sexps) (f : Form) (fs : Forms) → bares xs ≡ cons f fs → Split xs f fs
unfolding bare
cons_of nilˢ f fs e = no cc
cons_of (consˢ y ys) f fs e = record { front = y; behind = ys; is = refl; fronts = cc; behinds = cc }

-- items that begin with an atom
pub record Begun (xs : Sexps) (n : List ℕ) (fs : Forms) : Type 0 where
  pub place : ℕ
  pub behind : Sexps
  pub is : xs ≡ consˢ (atom place n) behind
  pub behinds : bares behind ≡ fs

pub begun : (xs : Sexps) (n : List ℕ) (fs : Forms) → bares xs ≡ cons (name n) fs → Begun xs n fs
begun xs n fs e =
    let c = cons_of xs (name n) fs e in
    let a = atom_of c.front n c.fronts in
    record { place = a.0; behind = c.behind; is = c.is ∙ ap (λ y. consˢ y c.behind) a.1; behinds = c.behinds }

-- a list that begins so
pub record Headed (x : Sexp) (n : List ℕ) (fs : Forms) : Type 0 where
  pub place : ℕ
  pub behind : Sexps
  pub is : x ≡ list (consˢ (atom place n) behind)
  pub behinds : bares behind ≡ fs

pub headed : (x : Sexp) (n : List ℕ) (fs : Forms) → bare x ≡ group (cons (name n) fs) → Headed x n fs
headed x n fs e =
    let l = list_of x (cons (name n) fs) e in
    let b = begun l.0 n fs l.2 in
    record { place = b.place; behind = b.behind; is = l.1 ∙ ap list b.is; behinds = b.behinds }

pub count_bares : (xs : Sexps) (T : Theory) (t : Tree) (ts : Trees) → bares xs ≡ term_forms T (more t ts) → leb 1 (count xs) ≡ true
unfolding bare count term_form
count_bares nilˢ T t ts e = no cc
count_bares (consˢ x xs) T t ts e = le-leb 1 (suc (count xs)) (omega arith)

-- Actions -------------------------------------------------------------------------------------------------------------------------

-- questions that are passed
module _ {S B : Type 0} where
  pub then_found : {A : Type 0} (k : ℕ) (o : Option A) (a : A) (s : S) (f : A → S → Out S B) → o ≡ some a → then (found k o s) f ≡ f a s
  unfolding then
  then_found k o a s f e = ap (λ z. then (found k z s) f) e

  pub then_ask : (k : ℕ) (b : Bool) (s : S) (f : Unit {0} → S → Out S B) → b ≡ true → then (ask k b s) f ≡ f tt s
  unfolding then
  then_ask k b s f e = ap (λ z. then (ask k z s) f) e

  pub then_ok : {A : Type 0} (o : Out S A) (a : A) (s : S) (f : A → S → Out S B) → o ≡ ok a s → then o f ≡ f a s
  unfolding then
  then_ok o a s f e = ap (λ z. then z f) e

  pub then_same : {A : Type 0} (o u : Out S A) (f : A → S → Out S B) → o ≡ u → then o f ≡ then u f
  then_same o u f e = ap (λ z. then z f) e

-- one of two actions
pub if_false : {S A : Type 0} (b : Bool) (x y : Act S A) (s : S) → b ≡ false → (elim b as (λ _. Act S A) [ true ↦ x | false ↦ y ]) s ≡ y s
if_false b x y s e = ap (λ z. (elim z as (λ _. Act _ _) [ true ↦ x | false ↦ y ]) s) e

-- what follows an action whose answer is known
pub answer_then : {A B : Type 0} {o : Out Made A} {b : A} (f g : A → Made → Out Made B) → Ok (λ u. u ≡ b) o
    → ((m : Made) → f b m ≡ g b m) → then o f ≡ then o g
unfolding then
answer_then f g (done {a} {s} p) h = ap (λ u. f u s) p ∙ (h s ∙ ap (λ u. g u s) (sym p))
answer_then f g stopped h = refl

-- Names ---------------------------------------------------------------------------------------------------------------------------

module _ (T : Theory) (w : WellFormed T) (n : Named T) where
  pub ctor_found : (c : ℕ) → c < length T.symbols → 1 ≤ output T c → constructor_named T (symbol_name T c) ≡ some c
  unfolding constructor_named symbol_name Own output is_predicate
  ctor_found c l p = n.ctors c l (ne_eqb (output T c) 0 (λ e. omega arith))

  pub pred_found : (c : ℕ) → c < length T.symbols → output T c ≡ 0 → predicate_named T (symbol_name T c) ≡ some c
  unfolding predicate_named symbol_name Own output is_predicate
  pred_found c l e = n.preds c l (eq-eqb (output T c) 0 e)

  pub not_marked : (c : ℕ) → c < length T.symbols → marked (symbol_name T c) ≡ false
  unfolding symbol_name
  not_marked c l = n.proper c l

  pub inputs_sorts : (c : ℕ) → c < length T.symbols → All (IsSort T) (inputs T c)
  unfolding inputs
  inputs_sorts c l = (all_at T.symbols c no_symbol w.symbols l).ins

-- Terms ---------------------------------------------------------------------------------------------------------------------------

module _ (S : State) (free : S.vars ≡ []) (w : WellFormed S.theory) (n : Named S.theory) where
  abbrev T : Theory
  T = S.theory

  values_fit : (ts : Trees) (ss : List ℕ) → Values (sig T) ts ss → fit T S.vars ts ss ≡ true
  unfolding Value fit sort_of sig
  values_fit none [] v = refl
  values_fit none (s ∷ ss) v = absurd v
  values_fit (more t ts) [] v = absurd v
  values_fit (more (var x) ts) (s ∷ ss) v = absurd v.0
  values_fit (more (app c us) ts) (s ∷ ss) v =
      true_and (eqb (output T c) s) (fit T S.vars ts ss) (eq-eqb (output T c) s v.0.1) (values_fit ts ss v.1)

  no_values : (ss : List ℕ) → Values (sig T) none ss → is_empty ss ≡ true
  unfolding Value is_empty
  no_values [] v = refl
  no_values (s ∷ ss) v = absurd v

  named_read : (c : ℕ) (m : Made) → c < length T.symbols → 1 ≤ output T c → Values (sig T) none (inputs T c) → named S (symbol_name T c) m ≡ keep (app c none) m
  unfolding named var_named first then
  named_read c m l p v = rw (free, ctor_found T w n c l p, no_values (inputs T c) v)

  -- the arguments were read, and are asked to fit
  keep_all : (c : ℕ) (ts : Trees) (o : Out Made Trees) (m : Made) → o ≡ makes ts m → Values (sig T) ts (inputs T c)
      → then o (λ us m₁. then (ask 23 (fit T S.vars us (inputs T c)) m₁) (λ _ m₂. keep (app c us) m₂)) ≡ make (app c ts) m
  unfolding make
  keep_all c ts o m e v =
      then_same o (makes ts m) _ e
      ∙ answer_then _ (λ _ m₁. keep (app c ts) m₁) (makes_ok ts m)
      (λ m₁. then_ask 23 (fit T S.vars ts (inputs T c)) m₁ (λ _ m₂. keep (app c ts) m₂) (values_fit ts (inputs T c) v))

  -- a constructor over arguments that are read back
  applied_read : (c : ℕ) (ts : Trees) (x : Sexp) (m : Made) → bare x ≡ applied (symbol_name T c) (term_forms T ts) → c < length T.symbols
      → 1 ≤ output T c → Values (sig T) ts (inputs T c) → ((xs : Sexps) (m' : Made) → bares xs ≡ term_forms T ts → terms S xs m' ≡ makes ts m')
      → term S x m ≡ make (app c ts) m
  unfolding applied term_form term make then nameˢ
  applied_read c none x m e l p v h =
      let a = atom_of x (symbol_name T c) e in
      ap (λ y. term S y m) a.1 ∙ (if_false (marked (symbol_name T c)) _ _ m (not_marked T w n c l) ∙ named_read c m l p v)
  applied_read c (more t ts) x m e l p v h =
      let q = headed x (symbol_name T c) (term_forms T (more t ts)) e in
      ap (λ y. term S y m) q.is
      ∙ (then_found 22 (constructor_named T (symbol_name T c)) c m _ (ctor_found T w n c l p)
      ∙ (then_ask 23 (leb 1 (count q.behind)) m _ (count_bares q.behind T t ts q.behinds)
      ∙ keep_all c (more t ts) (terms S q.behind m) m (h q.behind m q.behinds) v))

  mutual
    unfolding term_form Value sig terms make then bare

    pub term_read : (t : Tree) (s : ℕ) (x : Sexp) (m : Made) → bare x ≡ term_form T t → Value (sig T) t s → 1 ≤ s → term S x m ≡ make t m
    term_read (var v) s x m e a p = absurd a
    term_read (app c ts) s x m e a p =
        applied_read c ts x m e a.0 (let q = a.1 in omega arith) a.2
        (λ xs m' f. terms_read ts (inputs T c) xs m' f a.2 (inputs_sorts T w n c a.0))

    pub terms_read : (ts : Trees) (ss : List ℕ) (xs : Sexps) (m : Made) → bares xs ≡ term_forms T ts → Values (sig T) ts ss → All (IsSort T) ss
        → terms S xs m ≡ makes ts m
    terms_read none ss xs m e a i = ap (λ ys. terms S ys m) (nil_of xs e)
    terms_read (more t ts) [] xs m e a i = absurd a
    terms_read (more t ts) (s ∷ ss) xs m e a (both i is) =
        let q = cons_of xs (term_form T t) (term_forms T ts) e in
        ap (λ ys. terms S ys m) q.is
        ∙ (then_same (term S q.front m) (make t m) _ (term_read t s q.front m q.fronts a.0 i.positive)
        ∙ answer_then _ (λ _ m₁. then (makes ts m₁) (λ _ m₂. ok (more t ts) m₂)) (make_ok t m)
        (λ m₁. then_same (terms S q.behind m₁) (makes ts m₁) (λ us m₂. ok (more t us) m₂) (terms_read ts ss q.behind m₁ q.behinds a.1 is)
        ∙ answer_then (λ us m₂. ok (more t us) m₂) (λ _ m₂. ok (more t ts) m₂) (makes_ok ts m₁) (λ m₂. refl)))

  -- a judgment: a predicate over ground terms
  pub judgment_read : (p : ℕ) (ts : Trees) (x : Sexp) (m : Made) → bare x ≡ judgment_form T (app p ts) → p < length T.symbols → output T p ≡ 0
      → Values (sig T) ts (inputs T p) → judgment S x m ≡ make (app p ts) m
  unfolding judgment_form judgment items item rest nameˢ make then
  judgment_read p ts x m e l o v =
      let q = headed x (symbol_name T p) (term_forms T ts) e in
      ap (λ y. judgment S y m) q.is
      ∙ (then_found 22 (predicate_named T (symbol_name T p)) p m _ (pred_found T w n p l o)
      ∙ keep_all p ts (terms S (rest q.behind 0) m) m (ap (λ ys. terms S ys m) (rest_all q.behind) ∙ terms_read ts (inputs T p) q.behind m q.behinds v (inputs_sorts T w n p l)) v)
    where
      rest_all : (ys : Sexps) → rest ys 0 ≡ ys
      rest_all nilˢ = refl
      rest_all (consˢ y ys) = refl
