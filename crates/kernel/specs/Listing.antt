-- The constructors of a sort and the rules of a predicate, one after the other: the first with a number from a place on, and the law that
-- going on from each answer plus one gives them all. Assumes nothing.
use Rattle.std.proofs.Math.Path.{◌≡◌, refl, sym, ap}
use Rattle.std.proofs.Common.{◌∙◌, add-one, drop_of_length-le, drop-cons}
use Prim.Native.Nat.{ℕ, zero, suc, ◌+◌, ◌<◌, ◌≤◌}
use Rattle.std.specs.Prelude.{Bool, eqb, get_or, drop, Option, Some as some, None as nothing}
use Rattle.std.proofs.Math.Bool.{true, false}
use mathlib.Core.List.{List, [], ◌∷◌}
use native.Mathlib.Omega.{arith}
use Rattle.std.proofs.Math.Decide.{dec_lt}
use Rattle.std.proofs.Math.ListN.{length}
use Rattle.rules.specs.Find.{first, every}
use Rattle.rules.specs.Laws.Find.{first_some}
use Rattle.rules.specs.Theory.{Theory, Symbol, Rule, no_symbol, no_rule, constructors, head_is, rules_of}

-- the first constructor of sort s with that number or a greater one
unfoldable pub next_constructor : Theory → ℕ → ℕ → Option ℕ
next_constructor T s from = first (λ c. eqb c.output s) (drop from T.symbols) from

-- the first rule of predicate p with that number or a greater one
unfoldable pub next_rule : Theory → ℕ → ℕ → Option ℕ
next_rule T p from = first (λ r. head_is p r.conclusion) (drop from T.rules) from

-- what a look-up finds from a number on, then from each answer plus one, n answers at most
unfoldable pub answers : (ℕ → Option ℕ) → ℕ → ℕ → List ℕ
answers f zero from = []
answers f (suc n) from = elim (f from) [ nothing ↦ [] | some k ↦ k ∷ answers f n (k + 1) ]

module _ {A : Type 0} (p : A → Bool) (xs : List A) (d : A) where
  -- what the first answer leaves
  unfoldable pub with_rest : Option ℕ → List ℕ
  with_rest nothing = []
  with_rest (some k) = k ∷ every p (drop (k + 1) xs) (k + 1)

  over : (i : ℕ) → length xs ≤ i → every p (drop i xs) i ≡ with_rest (first p (drop i xs) i)
  unfolding every first with_rest
  over i l = rw (drop_of_length-le xs l)

  here : (i : ℕ) → i < length xs → (b : Bool) → p (get_or xs i d) ≡ b → every p (drop (suc i) xs) (suc i) ≡ with_rest (first p (drop (suc i) xs) (suc i)) →
      every p (drop i xs) i ≡ with_rest (first p (drop i xs) i)
  unfolding every first with_rest
  here i l true e h = rw (drop-cons xs i d l, e, every, first, add-one)
  here i l false e h = rw (drop-cons xs i d l, e, every, first) h

  within : (n i : ℕ) → length xs ≤ i + n → every p (drop i xs) i ≡ with_rest (first p (drop i xs) i)
  within zero i l = over i (omega arith)
  within (suc n) i l =
      elim (dec_lt i (length xs)) [
        | yes h ↦ here i h (p (get_or xs i d)) refl (within n (suc i) (omega arith))
        | no h ↦ over i (omega arith)
      ]

  -- the numbers from i on are the first answer and the numbers behind it
  pub every_first : (i : ℕ) → every p (drop i xs) i ≡ with_rest (first p (drop i xs) i)
  every_first i = within (length xs) i (omega arith)

  pub listed : (n i : ℕ) → length xs ≤ i + n → answers (λ j. first p (drop j xs) j) n i ≡ every p (drop i xs) i
  unfolding answers every with_rest
  listed zero i l = let m : length xs ≤ i = omega arith in rw (drop_of_length-le xs m)
  listed (suc n) i l = go (first p (drop i xs) i) refl (every_first i) (λ k m. listed n k m)
    where
      go : (o : Option ℕ) → first p (drop i xs) i ≡ o → every p (drop i xs) i ≡ with_rest (first p (drop i xs) i) →
          ((k : ℕ) → length xs ≤ k + n → answers (λ j. first p (drop j xs) j) n k ≡ every p (drop k xs) k) →
          ◌≡◌ {A = List ℕ} (elim (first p (drop i xs) i) [ nothing ↦ [] | some k ↦ k ∷ answers (λ j. first p (drop j xs) j) n (k + 1) ]) (every p (drop i xs) i)
      go nothing e h r = rw e (sym (h ∙ ap with_rest e))
      go (some k) e h r =
          let f = first_some p (drop i xs) i k d e in
          rw e (ap (λ (t : List ℕ). k ∷ t) (r (k + 1) (omega (arith, f.is, l))) ∙ sym (h ∙ ap with_rest e))

-- all constructors of a sort
pub constructors_listed : (T : Theory) (s : ℕ) → answers (next_constructor T s) (length T.symbols) 0 ≡ constructors T s
unfolding next_constructor constructors
constructors_listed T s = listed (λ (c : Symbol). eqb c.output s) T.symbols no_symbol (length T.symbols) 0 (omega arith)

-- all rules of a predicate
pub rules_listed : (T : Theory) (p : ℕ) → answers (next_rule T p) (length T.rules) 0 ≡ rules_of T p
unfolding next_rule rules_of
rules_listed T p = listed (λ (r : Rule). head_is p r.conclusion) T.rules no_rule (length T.rules) 0 (omega arith)
