-- In every theory that a text declares, a symbol's or rule's own name finds it again: names are new among constructors, among predicates and
-- among rules, and none starts with `?`. A name has every property that all atoms of the text have. Assumes nothing.
use Prim.Native.Nat.{ℕ, zero, suc, ◌+◌, ◌<◌, ◌≤◌}
use Rattle.std.proofs.Math.Path.{◌≡◌, ap, subst}
use Rattle.std.specs.Prelude.{refl, Bool, ◌&&◌, not, ◌⊎◌, ltb, get_or, Option, Some as some, None as nothing}
use Rattle.std.proofs.Common.{sym, ◌∙◌, inl, inr, length-append}
use Rattle.std.proofs.Math.Bool.{true, false}
use mathlib.Core.List.{List, [], ◌∷◌, ◌++◌}
use native.Mathlib.Omega.{arith}
use Rattle.std.proofs.Math.Decide.{dec_lt}
use borrow.Author.Tests.{eq-eqb, eqb-true, not-true}
use Rattle.std.proofs.Math.ListN.{length}
use Rattle.std.proofs.Math.Seq.{get_or-append_seam}
use Rattle.rules.specs.Limits.{SORTS, SYMBOLS, ARGUMENTS, RULES}
use Rattle.rules.specs.Text.{same}
use Rattle.rules.specs.Out.{Out, ok, refuse, then, ask, room}
use Rattle.rules.specs.Laws.Out.{Ok, fine, off, of_ok, by_name, by_items, by_ask, by_room, by_found, by_beside, by_assoc}
use Rattle.rules.specs.Sexp.{Sexp, Sexps, atom, list, nil, cons, count, item, Name, name, marked, Text, ends, fails, more, read}
use Rattle.rules.specs.Find.{first}
use Rattle.rules.specs.Laws.Find.{first_some, get_d_front}
use Rattle.rules.specs.Tags.{Declaration, a_sort, a_ctor, a_pred, a_rule, declaration}
use Rattle.rules.specs.Theory.{Symbol, Rule, Theory, no_theory, no_name, no_symbol, no_rule, sort_named, is_predicate, predicate_named, constructor_named, rule_named, rule_words}
use Rattle.rules.specs.Declare.{is_new, proper_name, sort, sorts, schema, add_sort, add_symbol, add_ctor, add_pred, add_rule, declare_as, declare}
use Rattle.rules.specs.Loop.{refused, through, unread, whole}
use Rattle.rules.specs.Laws.Theory.{All, empty, all_snoc}
use Rattle.rules.specs.Laws.Declare.{reached}

-- First entries ----------------------------------------------------------------------------------------------------------------

module _ {A : Type 0} (p : A → Bool) where
  -- what is found in front is found
  pub first_front : (xs ys : List A) (k i : ℕ) → first p xs k ≡ some i → first p (xs ++ ys) k ≡ some i
  unfolding first
  first_front [] ys k i e = absurd (let z : ◌≡◌ {A = ℕ} 0 1 = cc in omega arith)
  first_front (x ∷ xs) ys k i e = go (p x) e (first_front xs ys (suc k) i)
    where
      go : (b : Bool) → elim b as (λ _. Option ℕ) [ true ↦ some k | false ↦ first p xs (suc k) ] ≡ some i
          → (first p xs (suc k) ≡ some i → first p (xs ++ ys) (suc k) ≡ some i)
          → elim b as (λ _. Option ℕ) [ true ↦ some k | false ↦ first p (xs ++ ys) (suc k) ] ≡ some i
      go true f h = f
      go false f h = h f

  -- where nothing is found in front, the next entry that passes is
  pub first_seam : (xs : List A) (y : A) (k : ℕ) → first p xs k ≡ nothing → p y ≡ true → first p (xs ++ (y ∷ [])) k ≡ some (k + length xs)
  unfolding first
  first_seam [] y k e h = ap (λ b. elim b as (λ _. Option ℕ) [ true ↦ some k | false ↦ nothing ]) h ∙ ap some (let z : k ≡ k + 0 = omega arith in z)
  first_seam (x ∷ xs) y k e h = go (p x) e (λ q. first_seam xs y (suc k) q h)
    where
      go : (b : Bool) → ◌≡◌ {A = Option ℕ} (elim b as (λ _. Option ℕ) [ true ↦ some k | false ↦ first p xs (suc k) ]) nothing
          → (first p xs (suc k) ≡ nothing → first p (xs ++ (y ∷ [])) (suc k) ≡ some (suc k + length xs))
          → elim b as (λ _. Option ℕ) [ true ↦ some k | false ↦ first p (xs ++ (y ∷ [])) (suc k) ] ≡ some (k + length (x ∷ xs))
      go true f g = absurd (let z : ◌≡◌ {A = ℕ} 0 1 = cc in omega arith)
      go false f g = g f ∙ ap some (let z : suc k + length xs ≡ k + suc (length xs) = omega arith in z)

pub same_refl : (xs : List ℕ) → same xs xs ≡ true
unfolding same
same_refl [] = refl
same_refl (x ∷ xs) = rw (eq-eqb x x refl, same) (same_refl xs)

pub is_new_lem : {A : Type 0} (o : Option A) → is_new o ≡ true → o ≡ nothing
unfolding is_new
is_new_lem nothing e = refl
is_new_lem (some a) e = absurd (let z : ◌≡◌ {A = ℕ} 0 1 = cc in omega arith)

-- Own names --------------------------------------------------------------------------------------------------------------------

-- a name finds the entry number i of a list, and no other, by a test of its own
unfoldable pub Own : {A : Type 0} → (A → List ℕ → Bool) → (A → List ℕ) → List A → A → ℕ → Type 0
Own q n xs d i = first (λ x. q x (n (get_or xs i d))) xs 0 ≡ some i

-- the test of a kind of symbol
abbrev pub is_ctor : Symbol → List ℕ → Bool
is_ctor s n = not (is_predicate s) && same s.name.bytes n

abbrev pub is_pred : Symbol → List ℕ → Bool
is_pred s n = is_predicate s && same s.name.bytes n

abbrev pub is_rule : Rule → List ℕ → Bool
is_rule r n = same r.name.bytes n

abbrev pub name_of : Symbol → List ℕ
name_of s = s.name.bytes

abbrev pub rule_name_of : Rule → List ℕ
rule_name_of r = r.name.bytes

pub record Named (T : Theory) : Type 0 where
  pub ctors : (c : ℕ) → c < length T.symbols → is_predicate (get_or T.symbols c no_symbol) ≡ false → Own is_ctor name_of T.symbols no_symbol c
  pub preds : (c : ℕ) → c < length T.symbols → is_predicate (get_or T.symbols c no_symbol) ≡ true → Own is_pred name_of T.symbols no_symbol c
  pub proper : (c : ℕ) → c < length T.symbols → marked (get_or T.symbols c no_symbol).name.bytes ≡ false
  pub rules : (r : ℕ) → r < length T.rules → Own is_rule rule_name_of T.rules no_rule r

module _ {A : Type 0} (q : A → List ℕ → Bool) (n : A → List ℕ) (xs : List A) (y d : A) where
  -- entries in front keep their names
  own_front : (i : ℕ) → i < length xs → Own q n xs d i → Own q n (xs ++ (y ∷ [])) d i
  unfolding Own
  own_front i l h =
      first_front (λ x. q x (n (get_or (xs ++ (y ∷ [])) i d))) xs (y ∷ []) 0 i
      (subst (λ z. first (λ x. q x (n z)) xs 0 ≡ some i) (sym (get_d_front xs (y ∷ []) i d l)) h)

  -- a new entry has its own
  own_seam : (i : ℕ) → i ≡ length xs → first (λ x. q x (n y)) xs 0 ≡ nothing → q y (n y) ≡ true → Own q n (xs ++ (y ∷ [])) d i
  unfolding Own
  own_seam i e h k =
      subst (λ j. first (λ x. q x (n (get_or (xs ++ (y ∷ [])) j d))) (xs ++ (y ∷ [])) 0 ≡ some j) (sym e)
      (subst (λ z. first (λ x. q x (n z)) (xs ++ (y ∷ [])) 0 ≡ some (length xs)) (sym (get_or-append_seam xs y [] d))
      (first_seam (λ x. q x (n y)) xs y 0 h k ∙ ap some (let z : 0 + length xs ≡ length xs = omega arith in z)))

  -- either it is in front, or it is new
  seam_or : (i : ℕ) → i < length (xs ++ (y ∷ [])) → (i < length xs) ⊎ (i ≡ length xs)
  seam_or i l = elim (dec_lt i (length xs)) [ yes p ↦ inl p | no p ↦ inr (omega (arith, length-append xs (y ∷ []))) ]

-- One thing more ---------------------------------------------------------------------------------------------------------------

symbol_named : (T : Theory) (s : Symbol) → Named T → marked s.name.bytes ≡ false →
    (is_predicate s ≡ false → constructor_named T s.name.bytes ≡ nothing) → (is_predicate s ≡ true → predicate_named T s.name.bytes ≡ nothing) →
    Named (record { sorts = T.sorts; symbols = T.symbols ++ (s ∷ []); rules = T.rules })
unfolding constructor_named predicate_named
symbol_named T s w m fc fp = record { ctors = ctors; preds = preds; proper = proper; rules = w.rules }
  where
    front : (c : ℕ) (b : Bool) → c < length T.symbols → is_predicate (get_or (T.symbols ++ (s ∷ [])) c no_symbol) ≡ b → is_predicate (get_or T.symbols c no_symbol) ≡ b
    front c b l e = ap is_predicate (sym (get_d_front T.symbols (s ∷ []) c no_symbol l)) ∙ e

    seam : (c : ℕ) → c ≡ length T.symbols → get_or (T.symbols ++ (s ∷ [])) c no_symbol ≡ s
    seam c e = ap (λ i. get_or (T.symbols ++ (s ∷ [])) i no_symbol) e ∙ get_or-append_seam T.symbols s [] no_symbol

    kind : (c : ℕ) (b : Bool) → c ≡ length T.symbols → is_predicate (get_or (T.symbols ++ (s ∷ [])) c no_symbol) ≡ b → is_predicate s ≡ b
    kind c b e f = ap is_predicate (sym (seam c e)) ∙ f

    ctors : (c : ℕ) → c < length (T.symbols ++ (s ∷ [])) → is_predicate (get_or (T.symbols ++ (s ∷ [])) c no_symbol) ≡ false → Own is_ctor name_of (T.symbols ++ (s ∷ [])) no_symbol c
    ctors c l f = elim (seam_or is_ctor name_of T.symbols s no_symbol c l) [
      | inl k ↦ own_front is_ctor name_of T.symbols s no_symbol c k (w.ctors c k (front c false k f))
      | inr e ↦ own_seam is_ctor name_of T.symbols s no_symbol c e (fc (kind c false e f))
          (ap (λ b. not b && same s.name.bytes s.name.bytes) (kind c false e f) ∙ same_refl s.name.bytes)
    ]

    preds : (c : ℕ) → c < length (T.symbols ++ (s ∷ [])) → is_predicate (get_or (T.symbols ++ (s ∷ [])) c no_symbol) ≡ true → Own is_pred name_of (T.symbols ++ (s ∷ [])) no_symbol c
    preds c l f = elim (seam_or is_pred name_of T.symbols s no_symbol c l) [
      | inl k ↦ own_front is_pred name_of T.symbols s no_symbol c k (w.preds c k (front c true k f))
      | inr e ↦ own_seam is_pred name_of T.symbols s no_symbol c e (fp (kind c true e f))
          (ap (λ b. b && same s.name.bytes s.name.bytes) (kind c true e f) ∙ same_refl s.name.bytes)
    ]

    proper : (c : ℕ) → c < length (T.symbols ++ (s ∷ [])) → marked (get_or (T.symbols ++ (s ∷ [])) c no_symbol).name.bytes ≡ false
    proper c l = elim (seam_or is_pred name_of T.symbols s no_symbol c l) [
      | inl k ↦ ap (λ (x : Symbol). marked x.name.bytes) (get_d_front T.symbols (s ∷ []) c no_symbol k) ∙ w.proper c k
      | inr e ↦ ap (λ (x : Symbol). marked x.name.bytes) (seam c e) ∙ m
    ]

rule_named_lem : (T : Theory) (r : Rule) → Named T → rule_named T r.name.bytes ≡ nothing →
    Named (record { sorts = T.sorts; symbols = T.symbols; rules = T.rules ++ (r ∷ []) })
unfolding rule_named
rule_named_lem T r w f = record { ctors = w.ctors; preds = w.preds; proper = w.proper; rules = rules }
  where
    rules : (i : ℕ) → i < length (T.rules ++ (r ∷ [])) → Own is_rule rule_name_of (T.rules ++ (r ∷ [])) no_rule i
    rules i l = elim (seam_or is_rule rule_name_of T.rules r no_rule i l) [
      | inl k ↦ own_front is_rule rule_name_of T.rules r no_rule i k (w.rules i k)
      | inr e ↦ own_seam is_rule rule_name_of T.rules r no_rule i e f (same_refl r.name.bytes)
    ]

-- Declarations -----------------------------------------------------------------------------------------------------------------

-- every atom of a form has the property G
unfoldable mutual
  pub Atoms : (List ℕ → Type 0) → Sexp → Type 0
  Atoms G (atom p bs) = G bs
  Atoms G (list xs) = AllAtoms G xs

  pub AllAtoms : (List ℕ → Type 0) → Sexps → Type 0
  AllAtoms G nil = Unit {0}
  AllAtoms G (cons x xs) = Atoms G x × AllAtoms G xs

-- every atom of a text
unfoldable pub AtomsIn : (List ℕ → Type 0) → Text → Type 0
AtomsIn G ends = Unit {0}
AtomsIn G (fails n) = Unit {0}
AtomsIn G (more x p t) = Atoms G x × AtomsIn G t

-- what is known of a symbol and of a rule that is declared
pub record NewSymbol (G : List ℕ → Type 0) (T : Theory) (s : Symbol) : Type 0 where
  pub good : G s.name.bytes
  pub unmarked : marked s.name.bytes ≡ false
  pub ctor : is_predicate s ≡ false → constructor_named T s.name.bytes ≡ nothing
  pub pred : is_predicate s ≡ true → predicate_named T s.name.bytes ≡ nothing

pub record NewRule (G : List ℕ → Type 0) (T : Theory) (r : Rule) : Type 0 where
  pub good : G r.name.bytes
  pub fresh : rule_named T r.name.bytes ≡ nothing

module _ (G : List ℕ → Type 0) where
  atoms_item : (xs : Sexps) (k : ℕ) → AllAtoms G xs → Atoms G (item xs k)
  unfolding Atoms item
  atoms_item nil k a = tt
  atoms_item (cons x xs) zero a = a.0
  atoms_item (cons x xs) (suc k) a = atoms_item xs k a.1

  name_good : {S : Type 0} (x : Sexp) (s : S) (n : Name) → Atoms G x → name 11 x s ≡ ok n s → G n.bytes
  unfolding Atoms name
  name_good (atom p bs) s n a e = subst (λ (m : Name). G m.bytes) (let z : record { start = p; bytes = bs } ≡ n = cc in z) a
  name_good (list xs) s n a e = absurd (let z : ◌≡◌ {A = ℕ} 0 1 = cc in omega arith)

module _ {S B : Type 0} {P : B → S → Type 0} where
  by_proper : (x : Sexp) (s : S) (f : Name → S → Out S B) → ((n : Name) → name 11 x s ≡ ok n s → marked n.bytes ≡ false → Ok P (f n s)) →
      Ok P (then (proper_name x s) f)
  unfolding proper_name then
  by_proper x s f h =
      by_assoc (name 11 x s) _ f (by_name 11 x s _ λ n e.
      by_assoc (ask 11 (not (marked n.bytes)) s) _ f (by_ask 11 (not (marked n.bytes)) s _ λ b. h n e (not-true (marked n.bytes) b)))

  by_sort : (T : Theory) (x : Sexp) (s : S) (f : ℕ → S → Out S B) → ((k : ℕ) → 1 ≤ k → Ok P (f k s)) → Ok P (then (sort T x s) f)
  unfolding sort sort_named
  by_sort T x s f h =
      by_assoc (proper_name x s) _ f (by_proper x s _ λ n e m.
      by_found 11 (sort_named T n.bytes) s _ λ k e₁.
      let r = first_some (λ (a : Name). same a.bytes n.bytes) T.sorts 1 k no_name e₁ in
      h k (omega (arith, r.is)))

by_sorts : {S B : Type 0} {P : B → S → Type 0} (T : Theory) (xs : Sexps) (k : ℕ) (s : S) (f : List ℕ → S → Out S B) →
    ((ss : List ℕ) → Ok P (f ss s)) → Ok P (then (sorts T xs k s) f)
unfolding sorts then
by_sorts T nil k s f h = h []
by_sorts T (cons x xs) k s f h =
    by_assoc (sort T x s) _ f (by_sort T x s _ λ i a.
    by_assoc (room 3 (ltb k ARGUMENTS) s) _ f (by_room 3 (ltb k ARGUMENTS) s _ λ b.
    by_assoc (sorts T xs (suc k) s) _ f (by_sorts T xs (suc k) s _ λ ss. h (i ∷ ss))))

anything : {S A : Type 0} (o : Out S A) → Ok (λ _ _. Unit {0}) o
anything (ok a s) = fine tt
anything (refuse n d s) = off

-- a property P of theories that a sort, a symbol and a rule more keep
module _ (G : List ℕ → Type 0) (P : Theory → Type 0)
    (sort-kept : (T : Theory) (n : Name) → P T → P (record { sorts = T.sorts ++ (n ∷ []); symbols = T.symbols; rules = T.rules }))
    (symbol-kept : (T : Theory) (s : Symbol) → P T → NewSymbol G T s → P (record { sorts = T.sorts; symbols = T.symbols ++ (s ∷ []); rules = T.rules }))
    (rule-kept : (T : Theory) (r : Rule) → P T → NewRule G T r → P (record { sorts = T.sorts; symbols = T.symbols; rules = T.rules ++ (r ∷ []) })) where
  add_sort_kept : (T : Theory) (xs : Sexps) → P T → Ok (λ u U. P U) (add_sort xs T)
  unfolding add_sort then
  add_sort_kept T xs w =
      by_proper (item xs 1) T _ λ n e₀ m.
      by_ask 11 (is_new (sort_named T n.bytes)) T _ λ e.
      by_room 1 (ltb (length T.sorts) SORTS) T _ λ h.
      fine (sort-kept T n w)

  add_ctor_kept : (T : Theory) (xs : Sexps) → AllAtoms G xs → P T → Ok (λ u U. P U) (add_ctor xs T)
  unfolding add_ctor add_symbol then is_predicate
  add_ctor_kept T xs a w =
      by_proper (item xs 1) T _ λ n e₀ m.
      by_items 11 (item xs 2) T _ λ ys e.
      by_sorts T ys 0 T _ λ ss.
      by_sort T (item xs 3) T _ λ s i.
      by_ask 11 (is_new (constructor_named T n.bytes)) T _ λ f.
      by_room 2 (ltb (length T.symbols) SYMBOLS) T _ λ h.
      fine (symbol-kept T (record { name = n; inputs = ss; output = s }) w (record {
        good = name_good G (item xs 1) T n (atoms_item G xs 1 a) e₀;
        unmarked = m;
        ctor = λ _. is_new_lem (constructor_named T n.bytes) f;
        pred = λ q. absurd (let z = eqb-true s 0 q in omega arith);
      }))

  add_pred_kept : (T : Theory) (xs : Sexps) → AllAtoms G xs → P T → Ok (λ u U. P U) (add_pred xs T)
  unfolding add_pred add_symbol then is_predicate
  add_pred_kept T xs a w =
      by_proper (item xs 1) T _ λ n e₀ m.
      by_items 11 (item xs 2) T _ λ ys e.
      by_sorts T ys 0 T _ λ ss.
      by_ask 11 (is_new (predicate_named T n.bytes)) T _ λ f.
      by_room 2 (ltb (length T.symbols) SYMBOLS) T _ λ h.
      fine (symbol-kept T (record { name = n; inputs = ss; output = 0 }) w (record {
        good = name_good G (item xs 1) T n (atoms_item G xs 1 a) e₀;
        unmarked = m;
        ctor = λ q. absurd (let z : ◌≡◌ {A = ℕ} 0 1 = cc in omega arith);
        pred = λ _. is_new_lem (predicate_named T n.bytes) f;
      }))

  add_rule_kept : (T : Theory) (xs : Sexps) → AllAtoms G xs → P T → Ok (λ u U. P U) (add_rule xs T)
  unfolding add_rule then
  add_rule_kept T xs a w =
      by_beside {Q = λ _ _. Unit {0}} (schema T xs) (record { vars = []; words = rule_words T.rules }) T _ (anything (schema T xs _)) λ q U _.
      by_proper (item xs 1) T _ λ n e₀ m.
      by_ask 11 (is_new (rule_named T n.bytes)) T _ λ f.
      by_room 4 (ltb (length T.rules) RULES) T _ λ h.
      fine (rule-kept T (record { name = n; vars = U.vars; premises = q.0; conclusion = q.1 }) w (record {
        good = name_good G (item xs 1) T n (atoms_item G xs 1 a) e₀;
        fresh = is_new_lem (rule_named T n.bytes) f;
      }))

  declare_as_kept : (d : Declaration) (T : Theory) (xs : Sexps) → AllAtoms G xs → P T → Ok (λ u U. P U) (declare_as d xs T)
  unfolding declare_as
  declare_as_kept a_sort T xs a w = add_sort_kept T xs w
  declare_as_kept a_ctor T xs a w = add_ctor_kept T xs a w
  declare_as_kept a_pred T xs a w = add_pred_kept T xs a w
  declare_as_kept a_rule T xs a w = add_rule_kept T xs a w

  declare_kept : (T : Theory) (x : Sexp) → Atoms G x → P T → Ok (λ u U. P U) (declare x T)
  unfolding declare Atoms
  declare_kept T x a w =
      by_items 10 x T _ λ xs e.
      by_name 10 (item xs 0) T _ λ t f.
      by_found 10 (declaration t.bytes (count xs)) T _ λ d g.
      declare_as_kept d T xs (subst (λ y. Atoms G y) e a) w

  through_kept : (t : Text) (k : ℕ) (T : Theory) → AtomsIn G t → P T → P (reached (through declare t k T))
  unfolding through reached AtomsIn
  through_kept ends k T a w = w
  through_kept (fails n) k T a w = w
  through_kept (more x p t) k T a w = go (declare x T) (declare_kept T x a.0 w) (λ U v. through_kept t (suc k) U a.1 v)
    where
      go : (r : Out Theory (Unit {0})) → Ok (λ u U. P U) r → ((U : Theory) → P U → P (reached (through declare t (suc k) U))) →
          P (reached (elim r [ ok a u ↦ through declare t (suc k) u | refuse n d u ↦ refused n d k T ]))
      go (ok a U) h f = f U (of_ok h refl)
      go (refuse n d u) h f = w

  -- it holds of every theory that a text declares, whose atoms have the property G
  pub whole_kept : (t : Text) → AtomsIn G t → P no_theory → P (reached (whole declare t no_theory))
  unfolding whole reached
  whole_kept t a w = go (unread t 0)
    where
      go : (o : Option (ℕ × ℕ)) → P (reached (elim o [ nothing ↦ through declare t 0 no_theory | some r ↦ refused r.0 0 r.1 no_theory ]))
      go nothing = through_kept t 0 no_theory a w
      go (some r) = w

-- Every theory of a text -------------------------------------------------------------------------------------------------------

-- any property that all bytes have
mutual
  unfolding Atoms

  atoms_any : (x : Sexp) → Atoms (λ _. Unit {0}) x
  atoms_any (atom p bs) = tt
  atoms_any (list xs) = all_atoms_any xs

  all_atoms_any : (xs : Sexps) → AllAtoms (λ _. Unit {0}) xs
  all_atoms_any nil = tt
  all_atoms_any (cons x xs) = (atoms_any x, all_atoms_any xs)

atoms_in_any : (t : Text) → AtomsIn (λ _. Unit {0}) t
unfolding AtomsIn
atoms_in_any ends = tt
atoms_in_any (fails n) = tt
atoms_in_any (more x p t) = (atoms_any x, atoms_in_any t)

nothing_named : Named no_theory
nothing_named = record { ctors = λ c l e. absurd (omega arith); preds = λ c l e. absurd (omega arith); proper = λ c l. absurd (omega arith); rules = λ r l. absurd (omega arith) }

pub theory_named : (text : List ℕ) → Named (reached (whole declare (read text) no_theory))
theory_named text =
    whole_kept (λ _. Unit {0}) Named
    (λ T n w. record { ctors = w.ctors; preds = w.preds; proper = w.proper; rules = w.rules })
    (λ T s w k. symbol_named T s w k.unmarked k.ctor k.pred)
    (λ T r w k. rule_named_lem T r w k.fresh)
    (read text) (atoms_in_any (read text)) nothing_named

-- the names of symbols and rules have the property G
pub record Spelled (G : List ℕ → Type 0) (T : Theory) : Type 0 where
  pub symbols : All (λ s. G s.name.bytes) T.symbols
  pub rules : All (λ r. G r.name.bytes) T.rules

pub theory_spelled : (G : List ℕ → Type 0) (text : List ℕ) → AtomsIn G (read text) → Spelled G (reached (whole declare (read text) no_theory))
theory_spelled G text a =
    whole_kept G (Spelled G)
    (λ T n w. record { symbols = w.symbols; rules = w.rules })
    (λ T s w k. record { symbols = all_snoc w.symbols k.good; rules = w.rules })
    (λ T r w k. record { symbols = w.symbols; rules = all_snoc w.rules k.good })
    (read text) a (record { symbols = empty; rules = empty })
