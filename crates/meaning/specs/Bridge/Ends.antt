-- Actions on the whole state: what an answer says of the value and of the state behind it. Most questions keep the state; an action on the
-- made trees changes those alone. Assumes nothing.
use Rattle.std.specs.Prelude.{ℕ, ◌≡◌, refl, Bool, true, false, not, List, [], ◌∷◌, ◌++◌, Option, Some as some, None as nothing}
use Rattle.std.proofs.Common.{sym, subst}
use Rattle.rules.specs.Out.{Out, ok, refuse, then, Act, ask, room, found}
use Rattle.rules.specs.Sexp.{Sexp, Sexps, atom, list, nil, cons, name, items}
use Rattle.rules.specs.Index.{index_of}
use Rattle.rules.specs.Find.{has}
use Rattle.rules.specs.Store.{Made}
use Rattle.rules.specs.State.{State, var_named}
use Rattle.rules.specs.Read.{index, variable, others, vars_list}
use Rattle.rules.specs.Forms.{with_made, making}
use Rattle.meaning.specs.Unification.Acts.{Ok, of_ok}
use Rattle.meaning.specs.Named.{Points}

-- P of the answer and the state behind it, if there is one
pub data Ends {S A : Type 0} (P : A → S → Type 0) : Out S A → Type 0 where
  done : {a : A} {s : S} → P a s → Ends P (ok a s)
  stopped : {n d : ℕ} {s : S} → Ends P (refuse n d s)

pub ends_then : {S A B : Type 0} {P : A → S → Type 0} {Q : B → S → Type 0} {o : Out S A} {f : A → S → Out S B}
    → Ends P o → ((a : A) (s : S) → P a s → Ends Q (f a s)) → Ends Q (then o f)
unfolding then
ends_then (done {a} {s} p) h = h a s p
ends_then stopped h = stopped

pub ends_map : {S A : Type 0} {P Q : A → S → Type 0} {o : Out S A} → ((a : A) (s : S) → P a s → Q a s) → Ends P o → Ends Q o
ends_map f (done {a} {s} p) = done (f a s p)
ends_map f stopped = stopped

-- the state stays
abbrev pub Keeps : {S A : Type 0} → S → (A → Type 0) → Out S A → Type 0
Keeps s P o = Ends (λ a z. (z ≡ s) × P a) o

-- and goes on
pub keeping : {S A B : Type 0} {P : A → Type 0} {Q : B → S → Type 0} {s : S} {o : Out S A} (f : A → S → Out S B)
    → Keeps s P o → ((a : A) → P a → Ends Q (f a s)) → Ends Q (then o f)
unfolding then
keeping {Q = Q} f (done {a} p) h = subst (λ z. Ends Q (f a z)) (sym p.0) (h a p.1)
keeping f stopped h = stopped

pub keeps_ask : {S : Type 0} (n : ℕ) (b : Bool) (s : S) → Keeps s (λ _. b ≡ true) (ask n b s)
keeps_ask n true s = done (refl, refl)
keeps_ask n false s = stopped

pub keeps_room : {S : Type 0} (n : ℕ) (b : Bool) (s : S) → Keeps s (λ _. b ≡ true) (room n b s)
keeps_room n true s = done (refl, refl)
keeps_room n false s = stopped

pub keeps_found : {S A : Type 0} (n : ℕ) (o : Option A) (s : S) → Keeps s (λ a. o ≡ some a) (found n o s)
keeps_found n (some a) s = done (refl, refl)
keeps_found n nothing s = stopped

-- an atom, whose name this is
pub keeps_name : {S : Type 0} (n : ℕ) (x : Sexp) (s : S) → Keeps s (λ a. (p : ℕ) × (x ≡ atom p a.bytes)) (name n x s)
unfolding name
keeps_name n (atom p bs) s = done (refl, (p, refl))
keeps_name n (list xs) s = stopped

pub keeps_items : {S : Type 0} (n : ℕ) (x : Sexp) (s : S) → Keeps s (λ xs. x ≡ list xs) (items n x s)
unfolding items
keeps_items n (atom p bs) s = stopped
keeps_items n (list xs) s = done (refl, refl)

pub keeps_index : {S : Type 0} (n : ℕ) (x : Sexp) (s : S) → Keeps s (λ i. Points x i) (index n x s)
unfolding index name Points then
keeps_index n (atom p bs) s = keeps_found n (index_of bs) s
keeps_index n (list xs) s = stopped

keeps_variable : {S : Type 0} (n : ℕ) (U : State) (x : Sexp) (s : S) → Keeps s (λ v. Unit {0}) (variable n U x s)
unfolding variable
keeps_variable n U x s =
    keeping _ (keeps_name n x s) (λ a _. ends_map (λ v z p. (p.0, tt)) (keeps_found n (var_named U.vars a.bytes) s))

keeps_others : {S : Type 0} (n : ℕ) (U : State) (xs : Sexps) (vs : List ℕ) (s : S) → Keeps s (λ v. Unit {0}) (others n U xs vs s)
unfolding others
keeps_others n U nil vs s = done (refl, tt)
keeps_others n U (cons x xs) vs s =
    keeping _ (keeps_variable n U x s) (λ v _. keeping _ (keeps_ask n (not (has vs v)) s) (λ _ _. keeps_others n U xs (vs ++ (v ∷ [])) s))

-- with what else is known of the answer
keeps_and : {S A : Type 0} {P : A → Type 0} {s : S} {o : Out S A} → Keeps s (λ a. Unit {0}) o → Ok P o → Keeps s P o
keeps_and {P = P} (done {a} p) h = done (p.0, of_ok h refl)
keeps_and stopped h = stopped

pub keeps_vars_list : {S : Type 0} {P : List ℕ → Type 0} (n : ℕ) (U : State) (x : Sexp) (s : S) → Ok P (vars_list n U x s)
    → Keeps s P (vars_list n U x s)
unfolding vars_list
keeps_vars_list n U x s h = keeps_and (keeping _ (keeps_items n x s) (λ xs _. keeps_others n U xs [] s)) h

-- an action on the made trees
pub making_then : {A B : Type 0} {P : A → Type 0} {Q : B → State → Type 0} (m : Act Made A) (S : State) (f : A → State → Out State B)
    → Ok P (m S.made) → ((a : A) (u : Made) → P a → Ends Q (f a (with_made S u))) → Ends Q (then (making m S) f)
unfolding making then
making_then {A} {B} {P} {Q} m S f h k = go (m S.made) h
  where
    go : (o : Out Made A) → Ok P o
        → Ends Q (then (elim o as (λ _. Out State A) [ ok a u ↦ ok a (with_made S u) | refuse n d u ↦ refuse n d (with_made S u) ]) f)
    go (ok a u) q = k a u (of_ok q refl)
    go (refuse n d u) q = stopped
