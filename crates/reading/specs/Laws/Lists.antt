-- Lists of variables, each given once: what the definition answers, and what its members are; and lists of facts: one that is not there, hypotheses.
-- Assumes nothing.
use Rattle.std.proofs.Math.Path.{◌≡◌, refl, ap}
use Rattle.std.proofs.Common.{sym, ◌∙◌, subst, true≢false, arith, eq-eqb, ne_eqb}
use Rattle.std.specs.Prelude.{Bool, not, ◌||◌, List, [], ◌∷◌, ◌++◌, ℕ, zero, suc, ◌+◌, ◌<◌, ◌≤◌, eqb, length, Option, Some as some, None as nothing}
use Rattle.std.proofs.Math.Bool.{true, false, or-false}
use Rattle.std.proofs.lemmas.Bool.{false≢true}
use Rattle.std.proofs.Math.Decide.{ℕ_discrete}
use Rattle.rules.specs.Text.{same}
use Rattle.rules.specs.Out.{Out, ok, refuse, then, ask, found}
use Rattle.rules.specs.Find.{Set, has, union, rising, rising_from, entry}
use Rattle.rules.specs.Sexp.{Sexp, Sexps, atom, list, nil, cons, items}
use Rattle.rules.specs.State.{State, Var, Fact, no_var, var_named, is_empty}
use Rattle.rules.specs.Store.{Made}
use Rattle.rules.specs.Reference.{hyp_each, hyp_list}
use Rattle.rules.specs.Read.{others, vars_list}
use Rattle.rules.specs.Laws.Theory.{All, empty, both, all_snoc, all_map}
use Rattle.rules.specs.Laws.Find.{first_some}
use Rattle.rules.specs.Laws.Set.{or_right, rising_from_agree, rising_from_none}
use Rattle.rules.specs.Laws.Rising.{rising_rises, rising_all_of}
use Rattle.rules.specs.Laws.Members.{has_append}
use Rattle.sexp.specs.Never.{never}
use Rattle.terms.specs.Sets.{plus}
use Rattle.terms.specs.Laws.Sets.{plus_has}
use Rattle.state.specs.Members.{rising_few, rises_rising}
use Rattle.reading.specs.Items.{variable_in, variable_found, one_more, others_in, vars_in}

-- Numbers, each once -------------------------------------------------------------------------------------------------------------------

unfoldable pub Once : List ℕ → Type 0
Once [] = Unit {0}
Once (v ∷ us) = (has us v ≡ false) × Once us

-- one member more behind
pub has_snoc : (us : List ℕ) (v : ℕ) → has (us ++ (v ∷ [])) ≡ plus v (has us)
unfolding has
has_snoc us v = has_append us (v ∷ []) ∙ ap (λ (s : Set). union (has us) s) (plus_has v [])

-- what is not in a list is neither first nor behind
outside : (u v : ℕ) (us : List ℕ) → has (u ∷ us) v ≡ false → (eqb v u ≡ false) × (has us v ≡ false)
unfolding has
outside u v us e = go (eqb v u) refl e
  where
    go : (b : Bool) → eqb v u ≡ b → elim b [ true ↦ true | false ↦ has us v ] ≡ false → (eqb v u ≡ false) × (has us v ≡ false)
    go true p e = absurd (true≢false e)
    go false p e = (p, e)

pub once_snoc : (us : List ℕ) (v : ℕ) → Once us → has us v ≡ false → Once (us ++ (v ∷ []))
unfolding Once has
once_snoc [] v o e = (refl, tt)
once_snoc (u ∷ us) v o e =
    let n = outside u v us e in
    let d : u ≡ v → ⊥ = λ q. true≢false (sym (eq-eqb v u (sym q)) ∙ n.0) in
    (ap (λ (s : Set). s u) (has_snoc us v) ∙ (λ i. o.0 i || ne_eqb u v d i), once_snoc us v o.1 n.1)

-- one more where a number joins that was not there
one_more_lem : (k : ℕ) (ms ls : List ℕ) (b : Bool) → length ms ≡ suc (length ls) →
    length {A = ℕ} (elim b [ true ↦ k ∷ ms | false ↦ ms ]) ≡ suc (length {A = ℕ} (elim b [ true ↦ k ∷ ls | false ↦ ls ]))
one_more_lem k ms ls true h = ap suc h
one_more_lem k ms ls false h = h

rising_plus : (k n v : ℕ) (a : Set) → k ≤ v → v < k + n → a v ≡ false → length (rising_from k n (plus v a)) ≡ suc (length (rising_from k n a))
unfolding rising_from
rising_plus k zero v a l m f = absurd (omega (arith, l, m))
rising_plus k (suc n) v a l m f = elim (ℕ_discrete k v) [
  | yes e ↦
      ap (λ (b : Bool). length {A = ℕ} (elim b [ true ↦ k ∷ rising_from (suc k) n (plus v a) | false ↦ rising_from (suc k) n (plus v a) ]))
      (or_right (a k) (eqb k v) (eq-eqb k v e))
      ∙ ap (λ (l : List ℕ). suc (length l)) (rising_from_agree (suc k) n (plus v a) a
      (λ w p q. ap (λ (b : Bool). a w || b) (ne_eqb w v (λ z. omega (arith, e))) ∙ or-false (a w)))
      ∙ sym (ap (λ (b : Bool). suc (length {A = ℕ} (elim b [ true ↦ k ∷ rising_from (suc k) n a | false ↦ rising_from (suc k) n a ]))) (ap a e ∙ f))
  | no q ↦
      ap (λ (b : Bool). length {A = ℕ} (elim b [ true ↦ k ∷ rising_from (suc k) n (plus v a) | false ↦ rising_from (suc k) n (plus v a) ]))
      (ap (λ (b : Bool). a k || b) (ne_eqb k v q) ∙ or-false (a k))
      ∙ one_more_lem k (rising_from (suc k) n (plus v a)) (rising_from (suc k) n a) (a k)
      (rising_plus (suc k) n v a (omega (arith, q, l)) (omega (arith, m)) f)
]

once_count : (n : ℕ) (us : List ℕ) → Once us → All (λ v. v < n) us → length us ≡ length (rising_from 0 n (has us))
unfolding Once has
once_count n [] o empty = sym (ap length (rising_from_none 0 n (has []) (λ v p q. refl)))
once_count n (v ∷ us) o (both p a) =
    ap suc (once_count n us o.1 a) ∙ sym (rising_plus 0 n v (has us) (omega arith) (omega (arith, p)) o.0)
    ∙ sym (ap (λ (s : Set). length (rising_from 0 n s)) (plus_has v us))

-- numbers below n, each once
pub record Listing (n : ℕ) (us : List ℕ) : Type 0 where
  pub below : All (λ v. v < n) us
  pub once : Once us

pub listing_none : (n : ℕ) → Listing n []
unfolding Once
listing_none n = record { below = empty; once = tt }

module _ {n : ℕ} {us : List ℕ} (h : Listing n us) where
  -- so there are at most n
  pub listing_few : length us ≤ n
  unfolding rising
  listing_few = let e = once_count n us h.once h.below in let m = rising_few n (has us) in omega arith

  -- they are as many as their set has
  pub listing_count : (m : ℕ) → n ≤ m → length us ≡ length (rising m (has us))
  unfolding rising
  listing_count m l = once_count m us h.once (all_map (λ v p. omega (arith, p, l)) h.below)

  pub listing_more : (v : ℕ) → v < n → has us v ≡ false → Listing n (us ++ (v ∷ []))
  listing_more v l e = record { below = all_snoc h.below l; once = once_snoc us v h.once e }

-- A variable ---------------------------------------------------------------------------------------------------------------------------

pub variable_below : (vs : List Var) (x : Sexp) (v : ℕ) → variable_in vs x ≡ some v → v < length vs
unfolding variable_in var_named
variable_below vs (atom p bs) v e =
    let f = first_some (λ (w : Var). same w.name.bytes bs) vs 0 v no_var e in omega (arith, f.is, f.inside)
variable_below vs (list xs) v e = never cc

-- One step -----------------------------------------------------------------------------------------------------------------------------

module _ (us : List ℕ) (v : ℕ) where
  more_twice : has us v ≡ true → one_more us (some v) ≡ nothing
  unfolding one_more
  more_twice f = go (has us v) f
    where
      go : (b : Bool) → b ≡ true → ◌≡◌ {A = Option (List ℕ)} (elim b [ true ↦ nothing | false ↦ some (us ++ (v ∷ [])) ]) nothing
      go true f = refl
      go false f = absurd (false≢true f)

  more_new : has us v ≡ false → one_more us (some v) ≡ some (us ++ (v ∷ []))
  unfolding one_more
  more_new f = go (has us v) f
    where
      go : (b : Bool) → b ≡ false → ◌≡◌ {A = Option (List ℕ)} (elim b [ true ↦ nothing | false ↦ some (us ++ (v ∷ [])) ]) (some (us ++ (v ∷ [])))
      go true f = absurd (true≢false f)
      go false f = refl

module _ (vs : List Var) (x : Sexp) (xs : Sexps) (us : List ℕ) where
  others_step : (o : Option (List ℕ)) → one_more us (variable_in vs x) ≡ o →
      ◌≡◌ {A = Option (List ℕ)} (others_in vs (cons x xs) us) (elim o [ nothing ↦ nothing | some ws ↦ others_in vs xs ws ])
  unfolding others_in
  others_step o e = ap {B = Option (List ℕ)} (λ (o : Option (List ℕ)). elim o [ nothing ↦ nothing | some ws ↦ others_in vs xs ws ]) e

  pub others_none : variable_in vs x ≡ nothing → others_in vs (cons x xs) us ≡ nothing
  unfolding one_more
  others_none e = others_step nothing (ap (one_more us) e)

  module _ (v : ℕ) (e : variable_in vs x ≡ some v) where
    pub others_twice : has us v ≡ true → others_in vs (cons x xs) us ≡ nothing
    others_twice f = others_step nothing (ap (one_more us) e ∙ more_twice us v f)

    pub others_more : has us v ≡ false → others_in vs (cons x xs) us ≡ others_in vs xs (us ++ (v ∷ []))
    others_more f = others_step (some (us ++ (v ∷ []))) (ap (one_more us) e ∙ more_new us v f)

-- What the definition answers ------------------------------------------------------------------------------------------------------------

others_found : {A : Type 0} (q : ℕ) (S : State) (xs : Sexps) (us : List ℕ) (s : A) → others q S xs us s ≡ found q (others_in S.vars xs us) s
unfolding others others_in then
others_found q S nil us s = refl
others_found {A} q S (cons x xs) us s =
    ap (λ o. then o (λ v t. then (ask q (not (has us v)) t) (λ _ w. others q S xs (us ++ (v ∷ [])) w))) (variable_found q S x s)
    ∙ go (variable_in S.vars x) refl (λ ws. others_found q S xs ws s)
  where
    once : (v : ℕ) → variable_in S.vars x ≡ some v → (b : Bool) → has us v ≡ b →
        ((ws : List ℕ) → others q S xs ws s ≡ found q (others_in S.vars xs ws) s) →
        then (ask {S = A} q (not (has us v)) s) (λ _ w. others q S xs (us ++ (v ∷ [])) w) ≡ found q (others_in S.vars (cons x xs) us) s
    once v e true f ih =
        ap (λ (b : Bool). then (ask {S = A} q (not b) s) (λ _ w. others q S xs (us ++ (v ∷ [])) w)) f
        ∙ sym (ap (λ (o : Option (List ℕ)). found {S = A} q o s) (others_twice S.vars x xs us v e f))
    once v e false f ih =
        ap (λ (b : Bool). then (ask {S = A} q (not b) s) (λ _ w. others q S xs (us ++ (v ∷ [])) w)) f
        ∙ ih (us ++ (v ∷ [])) ∙ sym (ap (λ (o : Option (List ℕ)). found {S = A} q o s) (others_more S.vars x xs us v e f))

    go : (o : Option ℕ) → variable_in S.vars x ≡ o → ((ws : List ℕ) → others q S xs ws s ≡ found q (others_in S.vars xs ws) s) →
        then (found {S = A} q o s) (λ v t. then (ask q (not (has us v)) t) (λ _ w. others q S xs (us ++ (v ∷ [])) w))
        ≡ found q (others_in S.vars (cons x xs) us) s
    go nothing e ih = sym (ap (λ (o : Option (List ℕ)). found {S = A} q o s) (others_none S.vars x xs us e))
    go (some v) e ih = once v e (has us v) refl ih

pub vars_found : {A : Type 0} (q : ℕ) (S : State) (x : Sexp) (s : A) → vars_list q S x s ≡ found q (vars_in S.vars x) s
unfolding vars_list vars_in items then
vars_found q S (atom p bs) s = refl
vars_found q S (list xs) s = others_found q S xs [] s

-- What the members are -------------------------------------------------------------------------------------------------------------------

others_listed : (vs : List Var) (xs : Sexps) (us ws : List ℕ) → Listing (length vs) us → others_in vs xs us ≡ some ws → Listing (length vs) ws
unfolding others_in
others_listed vs nil us ws h e = let q : us ≡ ws = cc in subst (Listing (length vs)) q h
others_listed vs (cons x xs) us ws h e = go (variable_in vs x) refl (λ ks k f. others_listed vs xs ks ws k f)
  where
    once : (v : ℕ) → variable_in vs x ≡ some v → (b : Bool) → has us v ≡ b →
        ((ks : List ℕ) → Listing (length vs) ks → others_in vs xs ks ≡ some ws → Listing (length vs) ws) → Listing (length vs) ws
    once v p true f ih = let z : nothing ≡ some ws = sym (others_twice vs x xs us v p f) ∙ e in never cc
    once v p false f ih =
        ih (us ++ (v ∷ [])) (listing_more h v (variable_below vs x v p) f) (sym (others_more vs x xs us v p f) ∙ e)

    go : (o : Option ℕ) → variable_in vs x ≡ o → ((ks : List ℕ) → Listing (length vs) ks → others_in vs xs ks ≡ some ws → Listing (length vs) ws) →
        Listing (length vs) ws
    go nothing p ih = let z : nothing ≡ some ws = sym (others_none vs x xs us p) ∙ e in never cc
    go (some v) p ih = once v p (has us v) refl ih

-- the variables that a list gives: each is there, and given once
pub vars_listed : (vs : List Var) (x : Sexp) (us : List ℕ) → vars_in vs x ≡ some us → Listing (length vs) us
unfolding vars_in
vars_listed vs (atom p bs) us e = never cc
vars_listed vs (list xs) us e = others_listed vs xs [] us (listing_none (length vs)) e

-- Lists of numbers ----------------------------------------------------------------------------------------------------------------------

pub empty_is : (xs : List ℕ) → length xs ≡ 0 → is_empty xs ≡ true
unfolding is_empty
empty_is [] e = refl
empty_is (x ∷ xs) e = absurd (omega arith)

pub empty_not : (xs : List ℕ) → (length xs ≡ 0 → ⊥) → is_empty xs ≡ false
unfolding is_empty
empty_not [] e = absurd (e refl)
empty_not (x ∷ xs) e = refl

-- Facts --------------------------------------------------------------------------------------------------------------------------------

pub no_entry : {A : Type 0} (xs : List A) (i : ℕ) → length xs ≤ i → entry xs i ≡ nothing
unfolding entry
no_entry [] i l = refl
no_entry (x ∷ xs) zero l = absurd (omega arith)
no_entry (x ∷ xs) (suc i) l = no_entry xs i (omega arith)

-- a list of hypotheses rises
rising_again : (n : ℕ) (a : Set) → rising n a ≡ rising n (has (rising n a))
rising_again n a = sym (rises_rising n (rising n a) (rising_rises n a) (rising_all_of n a (λ v l e. l)))

ok_rises : (n : ℕ) (o : Out Made (List ℕ)) (hs : List ℕ) (U : Made) → then o (λ is N. ok (rising n (has is)) N) ≡ ok hs U → hs ≡ rising n (has hs)
unfolding then
ok_rises n (ok is N) hs U e =
    let q : rising n (has is) ≡ hs = cc in
    sym q ∙ rising_again n (has is) ∙ ap (λ (xs : List ℕ). rising n (has xs)) q
ok_rises n (refuse q d N) hs U e = never cc

pub listed_rises : (p : Fact → Bool) (S : State) (x : Sexp) (hs : List ℕ) (U : Made) → hyp_list p S x U ≡ ok hs U → hs ≡ rising (length S.facts) (has hs)
unfolding hyp_list items then
listed_rises p S (atom b bs) hs U e = never cc
listed_rises p S (list xs) hs U e = ok_rises (length S.facts) (hyp_each p S xs U) hs U e
