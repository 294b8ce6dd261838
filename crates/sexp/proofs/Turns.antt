-- The loop of `read_all`, as steps from token to token. Assumes nothing.
use mathlib.Core.Path.{◌≡◌, refl, sym, ap, ◌∙◌, subst}
use Prim.Native.Nat.{ℕ, suc, ◌+◌, ◌-◌, ◌≤◌}
use mathlib.Core.List.{List, [], ◌∷◌}
use native.Mathlib.Omega.{arith}
use lib.ListN.{length, drop}
use Rattle.rules.specs.Limits.{DEPTH}
use Rattle.rules.specs.Lex.{letters}
use Rattle.rules.specs.Sexp.{Sexp, Sexps, atom, list, nil, snoc, Text, ends, fails, more, forms, read}
use Rattle.rules.specs.Laws.Sexp.{forms_opens, forms_deep, forms_stray, forms_closes, forms_closed, forms_word, forms_bare, forms_ends, forms_open_end}
use Rattle.sexp.specs.Lexed.{from}
use Rattle.sexp.specs.Tokens.{Gives}
use Rattle.sexp.specs.declared.tokens.Token.TheVariants.{Open, Close, Atom}
use Rattle.std.specs.Prelude.{Result, Ok, Err}
use Rattle.questions.specs.declared.Question.{Question}
use Rattle.questions.specs.declared.Question.TheVariants.{Brackets, Depth}
use Rattle.questions.specs.declared.Refused.{Refused}
use Rattle.sexp.specs.Whole.{EndsAs}
use Rattle.sexp.proofs.States.{brackets}

abbrev refusal : Question → ℕ → Result ℕ Refused
refusal q n = Err (record { question = q; form = n })

-- what the text reads as from here, with the lists that are open and n bracketed forms before, is what it reads as from the start
pub record Turning (text : List ℕ) (at depth n : ℕ) : Type 0 where
  pub st : List Sexps
  pub deep : depth ≡ length st
  pub most : depth ≤ DEPTH
  pub high : at ≤ length text
  pub few : n ≤ at
  pub same : (r : Result ℕ Refused) → EndsAs (forms st (from text at)) n r → EndsAs (read text) 0 r

pub begin : (text : List ℕ) → Turning text 0 0 0
unfolding read
begin text = record { st = []; deep = refl; most = omega arith; high = omega arith; few = omega arith; same = λ r k. k }

module _ {text : List ℕ} {at depth n : ℕ} (t : Turning text at depth n) where
  -- by what the definition reads from here
  reads : (x : Text) → forms t.st (from text at) ≡ x → (r : Result ℕ Refused) → EndsAs x n r → EndsAs (read text) 0 r
  reads x e r k = t.same r (subst (λ y. EndsAs y n r) (sym e) k)

  pub ended : from text at ≡ [] → depth ≡ 0 → EndsAs (read text) 0 (Ok n)
  unfolding EndsAs
  ended i d = go t.st refl
    where
      go : (st : List Sexps) → t.st ≡ st → EndsAs (read text) 0 (Ok n)
      go [] e = reads ends (rw (e, i) forms_ends) (Ok n) refl
      go (xs ∷ st) e = absurd (omega (arith, t.deep, ap length e))

  pub unclosed : from text at ≡ [] → (depth ≡ 0 → ⊥) → EndsAs (read text) 0 (refusal Brackets n)
  unfolding EndsAs
  unclosed i d = reads (fails 4) (rw i (forms_open_end t.st (λ e. d (t.deep ∙ e)))) (refusal Brackets n) (Brackets, refl, brackets)

  module _ {next : ℕ} where
    module _ (g : Gives text at Open next) where
      pub too_deep : depth ≡ DEPTH → EndsAs (read text) 0 (refusal Depth n)
      unfolding EndsAs
      too_deep d = reads (fails 5) (ap (forms t.st) g.2.same ∙ forms_deep t.st _ _ (sym t.deep ∙ d)) (refusal Depth n) (Depth, refl, record { number = refl; detail = refl })

      pub opens : (depth ≡ DEPTH → ⊥) → Turning text next (depth + 1) n
      opens d =
          record {
            st = nil ∷ t.st;
            deep = omega (arith, t.deep);
            most = omega (arith, t.most, d);
            high = g.2.high;
            few = omega (arith, t.few, g.2.low, g.2.on);
            same = reads _ (ap (forms t.st) g.2.same ∙ forms_opens t.st _ _ (omega (arith, t.most, t.deep, d)));
          }

    module _ (g : Gives text at Close next) where
      pub stray : depth ≡ 0 → EndsAs (read text) 0 (refusal Brackets n)
      unfolding EndsAs
      stray d = go t.st refl
        where
          go : (st : List Sexps) → t.st ≡ st → EndsAs (read text) 0 (refusal Brackets n)
          go [] e = reads (fails 4) (rw e (ap (forms []) g.2.same ∙ forms_stray _ _)) (refusal Brackets n) (Brackets, refl, brackets)
          go (xs ∷ st) e = absurd (omega (arith, t.deep, ap length e))

      pub closes : (depth ≡ 0 → ⊥) → (depth - 1 ≡ 0 → ⊥) → Turning text next (depth - 1) n
      closes d d' = go t.st refl
        where
          go : (st : List Sexps) → t.st ≡ st → Turning text next (depth - 1) n
          go [] e = absurd (d (t.deep ∙ ap length e))
          go (xs ∷ []) e = absurd (d' (omega (arith, t.deep, ap length e)))
          go (xs ∷ ys ∷ st) e =
              record {
                st = snoc ys (list xs) ∷ st;
                deep = omega (arith, t.deep, ap length e);
                most = omega (arith, t.most);
                high = g.2.high;
                few = omega (arith, t.few, g.2.low, g.2.on);
                same = reads _ (rw e (ap (forms (xs ∷ ys ∷ st)) g.2.same ∙ forms_closes xs ys st _ _));
              }

      pub closes_last : (depth ≡ 0 → ⊥) → depth - 1 ≡ 0 → Turning text next (depth - 1) (n + 1)
      unfolding EndsAs
      closes_last d d' = go t.st refl
        where
          go : (st : List Sexps) → t.st ≡ st → Turning text next (depth - 1) (n + 1)
          go [] e = absurd (d (t.deep ∙ ap length e))
          go (xs ∷ ys ∷ st) e = absurd (omega (arith, t.deep, ap length e, d'))
          go (xs ∷ []) e =
              record {
                st = [];
                deep = omega (arith, t.deep, ap length e);
                most = omega (arith, t.most);
                high = g.2.high;
                few = omega (arith, t.few, g.2.low, g.2.on);
                same =
                    let r : forms t.st (from text at) ≡ more (list xs) (suc g.0) (forms [] (from text next)) = rw e (ap (forms (xs ∷ [])) g.2.same ∙ forms_closed xs _ _) in
                    reads _ r;
              }

    module _ {p : ℕ} (g : Gives text at (Atom p) next) where
      pub words : Turning text next depth n
      unfolding EndsAs
      words = go t.st refl
        where
          go : (st : List Sexps) → t.st ≡ st → Turning text next depth n
          go [] e =
              record {
                st = [];
                deep = t.deep ∙ ap length e;
                most = t.most;
                high = g.1.high;
                few = omega (arith, t.few, g.1.low, g.1.on);
                same =
                    let bs : List ℕ = letters (drop p text) in
                    let r : forms t.st (from text at) ≡ more (atom p bs) (p + length bs) (forms [] (from text next)) = rw e (ap (forms []) g.1.same ∙ forms_bare p bs _) in
                    reads _ r;
              }
          go (xs ∷ st) e =
              record {
                st = snoc xs (atom p (letters (drop p text))) ∷ st;
                deep = t.deep ∙ ap length e;
                most = t.most;
                high = g.1.high;
                few = omega (arith, t.few, g.1.low, g.1.on);
                same =
                    let y : Sexp = atom p (letters (drop p text)) in
                    let r : forms t.st (from text at) ≡ forms (snoc xs y ∷ st) (from text next) = rw e (ap (forms (xs ∷ st)) g.1.same ∙ forms_word xs st _ _ _) in
                    reads _ r;
              }
