-- Actions whose state is the list of made trees: what an answer says, how the list grows, and which refusals come.
-- Then the store's own actions: they answer the tree that they were given, add trees at the end, and refuse by rows 8 and 9 of
-- question 60 alone. Assumes nothing.
use Rattle.std.specs.Prelude.{◌≡◌, refl, ◌⊎◌, Bool, true, false, [], ◌∷◌, ◌++◌, ℕ, ◌+◌, leb, ltb, length}
use Rattle.std.proofs.Common.{sym, ◌∙◌, ap, ap₂, subst, inl, inr, append_assoc, append-nil, arith}
use Rattle.rules.specs.Limits.{TERMS, WORDS}
use Rattle.rules.specs.Out.{Out, ok, refuse, then, room}
use Rattle.rules.specs.Tree.{Tree, Trees, var, app, none, more, sub, subs, node}
use Rattle.rules.specs.Store.{Made, stored, words, keep, make, makes, substitute, substitutes}

-- What an answer says -------------------------------------------------------------------------------------------------------------

-- P of the answer, if there is one
pub data Ok {S A : Type 0} (P : A → Type 0) : Out S A → Type 0 where
  done : {a : A} {s : S} → P a → Ok P (ok a s)
  stopped : {n d : ℕ} {s : S} → Ok P (refuse n d s)

pub ok_then : {S A B : Type 0} {P : A → Type 0} {Q : B → Type 0} {o : Out S A} {f : A → S → Out S B}
    → Ok P o → ((a : A) (s : S) → P a → Ok Q (f a s)) → Ok Q (then o f)
unfolding then
ok_then (done {a} {s} p) h = h a s p
ok_then stopped h = stopped

pub of_ok : {S A : Type 0} {P : A → Type 0} {o : Out S A} {a : A} {s : S} → Ok P o → o ≡ ok a s → P a
of_ok {P = P} (done p) e = subst P (cc) p
of_ok stopped e = let z : ◌≡◌ {A = ℕ} 0 1 = cc in absurd (omega arith)

-- whatever it answers
pub ok_any : {S A : Type 0} (o : Out S A) → Ok (λ _. Unit {0}) o
ok_any (ok a s) = done tt
ok_any (refuse n d s) = stopped

pub ok_room : (row : ℕ) (b : Bool) (m : Made) → Ok (λ _. b ≡ true) (room row b m)
ok_room row true m = done refl
ok_room row false m = stopped

-- How the list grows, and which refusals come -------------------------------------------------------------------------------------

-- trees were added at the end
pub record Grown (m m' : Made) : Type 0 where
  pub new : Made
  pub grew : m' ≡ m ++ new

-- the list only grows; a refusal is question 60, in a row of D
pub data Grows (D : ℕ → Type 0) {A : Type 0} (m : Made) : Out Made A → Type 0 where
  fits : {a : A} {m' : Made} → Grown m m' → Grows D m (ok a m')
  full : {d : ℕ} {m' : Made} → D d → Grown m m' → Grows D m (refuse 60 d m')

grown_refl : {m : Made} → Grown m m
grown_refl {m} = record { new = []; grew = sym (append-nil m) }

grown_trans : {m m' m'' : Made} → Grown m m' → Grown m' m'' → Grown m m''
grown_trans {m} g h = record { new = g.new ++ h.new; grew = h.grew ∙ (ap (λ l. l ++ h.new) g.grew ∙ append_assoc m g.new h.new) }

pub grows_pure : {D : ℕ → Type 0} {A : Type 0} {m : Made} {a : A} → Grows D m (ok a m)
grows_pure = fits grown_refl

grows_after : {D : ℕ → Type 0} {A : Type 0} {m m' : Made} {o : Out Made A} → Grown m m' → Grows D m' o → Grows D m o
grows_after g (fits h) = fits (grown_trans g h)
grows_after g (full d h) = full d (grown_trans g h)

pub grows_then : {D : ℕ → Type 0} {A B : Type 0} {m : Made} {o : Out Made A} {f : A → Made → Out Made B}
    → Grows D m o → ((a : A) (m' : Made) → Grows D m' (f a m')) → Grows D m (then o f)
unfolding then
grows_then (fits {a} {m'} g) h = grows_after g (h a m')
grows_then (full d g) h = full d g

-- fewer rows are rows
pub grows_rows : {D E : ℕ → Type 0} {A : Type 0} {m : Made} {o : Out Made A} → ((d : ℕ) → D d → E d) → Grows D m o → Grows E m o
grows_rows i (fits g) = fits g
grows_rows i (full {d} r g) = full (i d r) g

pub grows_room : {D : ℕ → Type 0} {m : Made} (row : ℕ) (b : Bool) → D row → Grows D m (room row b m)
grows_room row true d = grows_pure
grows_room row false d = full d grown_refl

pub of_grows_ok : {D : ℕ → Type 0} {A : Type 0} {m m' : Made} {o : Out Made A} {a : A} → Grows D m o → o ≡ ok a m' → Grown m m'
of_grows_ok {m = m} (fits g) e = subst (λ l. Grown m l) (cc) g
of_grows_ok (full d g) e = let z : ◌≡◌ {A = ℕ} 0 1 = cc in absurd (omega arith)

pub of_grows_refuse : {D : ℕ → Type 0} {A : Type 0} {m m' : Made} {o : Out Made A} {k d : ℕ} → Grows D m o → o ≡ refuse k d m'
    → (k ≡ 60) × D d × Grown m m'
of_grows_refuse {D = D} {m = m} (full {d} {m'} r g) e = (cc, subst D (cc) r, subst (λ l. Grown m l) (cc) g)
of_grows_refuse (fits g) e = let z : ◌≡◌ {A = ℕ} 0 1 = cc in absurd (omega arith)

-- The store -----------------------------------------------------------------------------------------------------------------------

-- the rows that the store puts
unfoldable pub StoreRow : ℕ → Type 0
StoreRow d = (d ≡ 8) ⊎ (d ≡ 9)

-- the four ways in which `keep` ends
keep_by : (t : Tree) (m : Made) (Q : Out Made Tree → Type 0) → Q (ok t m) → Q (ok t (m ++ (t ∷ []))) → Q (refuse 60 8 m)
    → Q (refuse 60 9 m) → Q (keep t m)
unfolding keep
keep_by t m Q there new terms-full words-full = go (stored m t) (ltb (length m) TERMS) (leb (words m + node t) WORDS)
  where
    go : (a b c : Bool)
        → Q (elim a [
          | true ↦ ok t m
          | false ↦ elim b [ true ↦ elim c [ true ↦ ok t (m ++ (t ∷ [])) | false ↦ refuse 60 9 m ] | false ↦ refuse 60 8 m ]
        ])
    go true b c = there
    go false true true = new
    go false true false = words-full
    go false false c = terms-full

pub keep_ok : (t : Tree) (m : Made) → Ok (λ u. u ≡ t) (keep t m)
keep_ok t m = keep_by t m (Ok (λ u. u ≡ t)) (done refl) (done refl) stopped stopped

pub keep_grows : (t : Tree) (m : Made) → Grows StoreRow m (keep t m)
unfolding StoreRow
keep_grows t m =
    keep_by t m (λ o. Grows StoreRow m o) grows_pure (fits (record { new = t ∷ []; grew = refl })) (full (inl refl) grown_refl)
    (full (inr refl) grown_refl)

-- what is made is the tree itself
pub make_ok : (t : Tree) (m : Made) → Ok (λ u. u ≡ t) (make t m)
unfolding make
make_ok (var v) m = keep_ok (var v) m
make_ok (app c ts) m = ok_then (ok_any (makes ts m)) (λ _ m' _. keep_ok (app c ts) m')

pub makes_ok : (ts : Trees) (m : Made) → Ok (λ us. us ≡ ts) (makes ts m)
unfolding make
makes_ok none m = done refl
makes_ok (more t ts) m = ok_then (ok_any (make t m)) (λ _ m' _. ok_then (ok_any (makes ts m')) (λ _ m'' _. done refl))

mutual
  unfolding make

  pub make_grows : (t : Tree) (m : Made) → Grows StoreRow m (make t m)
  make_grows (var v) m = keep_grows (var v) m
  make_grows (app c ts) m = grows_then (makes_grows ts m) (λ _ m'. keep_grows (app c ts) m')

  pub makes_grows : (ts : Trees) (m : Made) → Grows StoreRow m (makes ts m)
  makes_grows none m = grows_pure
  makes_grows (more t ts) m = grows_then (make_grows t m) (λ _ m'. grows_then (makes_grows ts m') (λ _ m''. grows_pure))

pub substitute_ok : (σ : ℕ → Tree) (t : Tree) (m : Made) → Ok (λ u. u ≡ sub σ t) (substitute σ t m)
unfolding substitute
substitute_ok σ t m = make_ok (sub σ t) m

pub substitute_grows : (σ : ℕ → Tree) (t : Tree) (m : Made) → Grows StoreRow m (substitute σ t m)
unfolding substitute
substitute_grows σ t m = make_grows (sub σ t) m

pub substitutes_ok : (σ : ℕ → Tree) (ts : Trees) (m : Made) → Ok (λ us. us ≡ subs σ ts) (substitutes σ ts m)
unfolding substitutes sub
substitutes_ok σ none m = done refl
substitutes_ok σ (more t ts) m =
    ok_then (substitute_ok σ t m) (λ u m' p. ok_then (substitutes_ok σ ts m') (λ us m'' q. done (ap₂ more p q)))

pub substitutes_grows : (σ : ℕ → Tree) (ts : Trees) (m : Made) → Grows StoreRow m (substitutes σ ts m)
unfolding substitutes
substitutes_grows σ none m = grows_pure
substitutes_grows σ (more t ts) m =
    grows_then (substitute_grows σ t m) (λ u m'. grows_then (substitutes_grows σ ts m') (λ us m''. grows_pure))

-- The store's actions in plain words: the answer is the tree replaced, which rules out that full tables or shared trees change what a
-- proof says; what was made before stays where it is, so a tree keeps its number; and no question but 60 is put, in row 8 or 9.
pub substitute_answer : (σ : ℕ → Tree) (t u : Tree) (m m' : Made) → substitute σ t m ≡ ok u m' → (u ≡ sub σ t) × Grown m m'
substitute_answer σ t u m m' e = (of_ok (substitute_ok σ t m) e, of_grows_ok (substitute_grows σ t m) e)

pub substitute_refuses : (σ : ℕ → Tree) (t : Tree) (k d : ℕ) (m m' : Made) → substitute σ t m ≡ refuse k d m'
    → (k ≡ 60) × StoreRow d × Grown m m'
substitute_refuses σ t k d m m' e = of_grows_refuse (substitute_grows σ t m) e
