-- How a property of what is answered goes through the questions of an action, one law for each kind of question. Assumes nothing.
use Rattle.std.specs.Prelude.{ℕ, ◌≡◌, Bool, Option, Some as some, None as nothing}
use Rattle.std.proofs.Math.Path.{refl}
use Rattle.std.proofs.Common.{sym, subst, arith}
use Rattle.std.proofs.Math.Bool.{true, false}
use Rattle.rules.specs.Out.{Out, ok, refuse, then, ask, room, found, beside}
use Rattle.rules.specs.Sexp.{Sexp, Sexps, atom, list, Name, name, items}

-- if something is answered, it and the new state have the property
pub data Ok {S A : Type 0} (P : A → S → Type 0) : Out S A → Type 0 where
  fine : {a : A} {s : S} → P a s → Ok P (ok a s)
  off : {n d : ℕ} {s : S} → Ok P (refuse n d s)

pub of_ok : {S A : Type 0} {P : A → S → Type 0} {m : Out S A} {a : A} {s : S} → Ok P m → m ≡ ok a s → P a s
of_ok {a = a} {s = s} (fine {a = b} {s = u} h) e =
    let p : b ≡ a = cc in
    let q : u ≡ s = cc in
    rw (p, q) at h
of_ok off e = absurd (let z : ◌≡◌ {A = ℕ} 0 1 = cc in omega arith)

pub weaken : {S A : Type 0} {P Q : A → S → Type 0} {m : Out S A} → Ok P m → ((a : A) (s : S) → P a s → Q a s) → Ok Q m
weaken (fine h) k = fine (k _ _ h)
weaken off k = off

-- any action, then what follows
pub by_then : {S A B : Type 0} {P : B → S → Type 0} {Q : A → S → Type 0} (m : Out S A) (f : A → S → Out S B) →
    Ok Q m → ((a : A) (s : S) → m ≡ ok a s → Q a s → Ok P (f a s)) → Ok P (then m f)
unfolding then
by_then (ok a s) f q k = k a s refl (of_ok q refl)
by_then (refuse n d s) f q k = off

-- one bind at a time
pub then_then : {S A B C : Type 0} (m : Out S A) (f : A → S → Out S B) (g : B → S → Out S C) →
    then (then m f) g ≡ then m (λ a s. then (f a s) g)
unfolding then
then_then (ok a s) f g = refl
then_then (refuse n d s) f g = refl

pub by_assoc : {S A B C : Type 0} {P : C → S → Type 0} (m : Out S A) (f : A → S → Out S B) (g : B → S → Out S C) →
    Ok P (then m (λ a s. then (f a s) g)) → Ok P (then (then m f) g)
by_assoc {P = P} m f g h = subst (λ z. Ok P z) (sym (then_then m f g)) h

module _ {S B : Type 0} {P : B → S → Type 0} where
  pub by_name : (k : ℕ) (x : Sexp) (s : S) (f : Name → S → Out S B) → ((n : Name) → name {S = S} k x s ≡ ok n s → Ok P (f n s)) →
      Ok P (then (name k x s) f)
  unfolding then name
  by_name k (atom p bs) s f h = h _ refl
  by_name k (list xs) s f h = off

  pub by_items : (k : ℕ) (x : Sexp) (s : S) (f : Sexps → S → Out S B) → ((xs : Sexps) → x ≡ list xs → Ok P (f xs s)) →
      Ok P (then (items k x s) f)
  unfolding then items
  by_items k (atom p bs) s f h = off
  by_items k (list xs) s f h = h xs refl

  pub by_ask : (k : ℕ) (b : Bool) (s : S) (f : Unit {0} → S → Out S B) → (b ≡ true → Ok P (f tt s)) → Ok P (then (ask k b s) f)
  unfolding then
  by_ask k true s f h = h refl
  by_ask k false s f h = off

  pub by_room : (k : ℕ) (b : Bool) (s : S) (f : Unit {0} → S → Out S B) → (b ≡ true → Ok P (f tt s)) → Ok P (then (room k b s) f)
  unfolding then
  by_room k true s f h = h refl
  by_room k false s f h = off

  pub by_found : {A : Type 0} (k : ℕ) (o : Option A) (s : S) (f : A → S → Out S B) → ((a : A) → o ≡ some a → Ok P (f a s)) →
      Ok P (then (found k o s) f)
  unfolding then
  by_found k (some a) s f h = h a refl
  by_found k nothing s f h = off

-- an action with a state of its own
module _ {S T A B : Type 0} {P : B → T → Type 0} {Q : A → S → Type 0} where
  told_beside : (r : Out S A) (t : T) (f : (A × S) → T → Out T B) → Ok Q r → ((a : A) (u : S) → Q a u → Ok P (f (a, u) t)) →
      Ok P (then (elim r [ ok a u ↦ ok (a, u) t | refuse n d u ↦ refuse n d t ]) f)
  unfolding then
  told_beside (ok a u) t f q k = k a u (of_ok q refl)
  told_beside (refuse n d u) t f q k = off

  pub by_beside : (m : S → Out S A) (s : S) (t : T) (f : (A × S) → T → Out T B) → Ok Q (m s) →
      ((a : A) (u : S) → Q a u → Ok P (f (a, u) t)) → Ok P (then (beside s m t) f)
  unfolding beside
  by_beside m s t f q k = told_beside (m s) t f q k
