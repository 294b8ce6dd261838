-- What an action on the made trees keeps: how it goes through the questions of an action, where they are answered and where they are refused.
-- The invariant is left open, so that one walk through the definition (MakingWalk and on) serves every invariant. Assumes nothing.
use Rattle.std.specs.Prelude.{ℕ, ◌+◌, ◌≤◌, ◌<◌, ◌≡◌, Bool, [], ◌∷◌, ◌++◌, length, Option, Some as some, None as nothing}
use Rattle.std.proofs.Math.Path.{refl}
use Rattle.std.proofs.Common.{sym, subst, append_assoc, append-nil}
use Rattle.std.proofs.Math.Bool.{true, false}
use Rattle.rules.specs.Limits.{TERMS, WORDS}
use Rattle.rules.specs.Out.{Out, ok, refuse, then, Act, ask, room, found}
use Rattle.rules.specs.Tree.{Tree, Trees, var, app, none, more, node}
use Rattle.rules.specs.Store.{Made, stored, words}

-- every tree of the list has the property
unfoldable pub Each : (Tree → Type 0) → Trees → Type 0
Each P none = Unit {0}
Each P (more t ts) = P t × Each P ts

-- every argument of the tree has the property
unfoldable pub Arguments : (Tree → Type 0) → Tree → Type 0
Arguments P (var v) = Unit {0}
Arguments P (app c ts) = Each P ts

pub each_map : (P Q : Tree → Type 0) → ((t : Tree) → P t → Q t) → (ts : Trees) → Each P ts → Each Q ts
unfolding Each
each_map P Q k none h = tt
each_map P Q k (more t ts) h = (k t h.0, each_map P Q k ts h.1)

-- Good: what is kept of the made trees; Has: what is known of a tree that is among them
pub record Invariant : Type 1 where
  pub Good : Made → Type 0
  pub Has : Made → Tree → Type 0
  pub there : (m : Made) (t : Tree) → stored m t ≡ true → Has m t
  pub added : (m : Made) (t : Tree) → Good m → Arguments (Has m) t → stored m t ≡ false → length m < TERMS → words m + node t ≤ WORDS →
      Good (m ++ (t ∷ []))
  pub last : (m : Made) (t : Tree) → Has (m ++ (t ∷ [])) t
  pub longer : (m n : Made) (t : Tree) → Has m t → Has (m ++ n) t
  pub below : (m : Made) (c : ℕ) (ts : Trees) → Good m → Has m (app c ts) → Each (Has m) ts

-- the trees u are the trees m and further ones, and good
pub record Grows (K : Invariant) (m u : Made) : Type 0 where
  pub new : Made
  pub is : u ≡ m ++ new
  pub good : K.Good u

-- behind the action the trees m have grown, whether it answers or refuses; what it answers has the property
pub data Keeps (K : Invariant) (m : Made) {A : Type 0} (P : A → Made → Type 0) : Out Made A → Type 0 where
  fine : {a : A} {u : Made} → Grows K m u → P a u → Keeps K m P (ok a u)
  off : {n d : ℕ} {u : Made} → Grows K m u → Keeps K m P (refuse n d u)

-- an action that leaves the state as it is
pub data Still {S A : Type 0} (s : S) : Out S A → Type 0 where
  answers : {a : A} → Still s (ok a s)
  refuses : {n d : ℕ} → Still s (refuse n d s)

module _ {K : Invariant} where
  pub stays : {m : Made} → K.Good m → Grows K m m
  stays {m} g = record { new = []; is = sym (append-nil m); good = g }

  pub further : {m u w : Made} → Grows K m u → Grows K u w → Grows K m w
  further {m} {u} {w} g h =
      record { new = g.new ++ h.new; is = rw (h.is, g.is, append_assoc); good = h.good }

  pub has_on : {m u : Made} {t : Tree} → Grows K m u → K.Has m t → K.Has u t
  has_on {m} {u} {t} g h = subst (λ w. K.Has w t) (sym g.is) (K.longer m g.new t h)

  pub each_on : {m u : Made} (ts : Trees) → Grows K m u → Each (K.Has m) ts → Each (K.Has u) ts
  each_on {m} {u} ts g h = each_map (K.Has m) (K.Has u) (λ t k. has_on g k) ts h

  pub later : {m u : Made} {A : Type 0} {P : A → Made → Type 0} {o : Out Made A} → Grows K m u → Keeps K u P o → Keeps K m P o
  later g (fine h p) = fine (further g h) p
  later g (off h) = off (further g h)

  pub weaken : {m : Made} {A : Type 0} {P Q : A → Made → Type 0} {o : Out Made A} → Keeps K m P o → ((a : A) (u : Made) → P a u → Q a u) →
      Keeps K m Q o
  weaken (fine h p) k = fine h (k _ _ p)
  weaken (off h) k = off h

  -- any action, then what follows
  pub by_then : {m : Made} {A B : Type 0} {P : B → Made → Type 0} {Q : A → Made → Type 0} (o : Out Made A) (f : A → Made → Out Made B) →
      Keeps K m Q o → ((a : A) (u : Made) → Grows K m u → Q a u → Keeps K u P (f a u)) → Keeps K m P (then o f)
  unfolding then
  by_then (ok a u) f (fine g q) k = later g (k a u g q)
  by_then (refuse n d u) f (off g) k = off g

  -- an action that leaves the made trees as they are, then what follows
  pub by_still : {m : Made} {A B : Type 0} {P : B → Made → Type 0} (o : Out Made A) (f : A → Made → Out Made B) → K.Good m → Still m o →
      ((a : A) → o ≡ ok a m → Keeps K m P (f a m)) → Keeps K m P (then o f)
  unfolding then
  by_still (ok a u) f g answers k = k a refl
  by_still (refuse n d u) f g refuses k = off (stays g)

  pub by_ask : {m : Made} {B : Type 0} {P : B → Made → Type 0} (n : ℕ) (b : Bool) (f : Unit {0} → Made → Out Made B) → K.Good m →
      (b ≡ true → Keeps K m P (f tt m)) → Keeps K m P (then (ask n b m) f)
  unfolding then
  by_ask n true f g k = k refl
  by_ask n false f g k = off (stays g)

  pub by_room : {m : Made} {B : Type 0} {P : B → Made → Type 0} (n : ℕ) (b : Bool) (f : Unit {0} → Made → Out Made B) → K.Good m →
      (b ≡ true → Keeps K m P (f tt m)) → Keeps K m P (then (room n b m) f)
  unfolding then
  by_room n true f g k = k refl
  by_room n false f g k = off (stays g)

  pub by_found : {m : Made} {A B : Type 0} {P : B → Made → Type 0} (n : ℕ) (o : Option A) (f : A → Made → Out Made B) → K.Good m →
      ((a : A) → o ≡ some a → Keeps K m P (f a m)) → Keeps K m P (then (found n o m) f)
  unfolding then
  by_found n (some a) f g k = k a refl
  by_found n nothing f g k = off (stays g)

  pub by_either : {m : Made} {A : Type 0} {P : A → Made → Type 0} (b : Bool) (f g : Made → Out Made A) →
      Keeps K m P (f m) → Keeps K m P (g m) → Keeps K m P ((elim b as (λ (z : Bool). Act Made A) [ true ↦ f | false ↦ g ]) m)
  by_either true f g h k = h
  by_either false f g h k = k

  pub by_given : {m : Made} {A B : Type 0} {P : A → Made → Type 0} (o : Option B) (f : B → Made → Out Made A) (g : Made → Out Made A) →
      ((b : B) → o ≡ some b → Keeps K m P (f b m)) → Keeps K m P (g m) → Keeps K m P ((elim o as (λ (z : Option B). Act Made A) [ some b ↦ f b | nothing ↦ g ]) m)
  by_given (some b) f g h k = h b refl
  by_given nothing f g h k = k
