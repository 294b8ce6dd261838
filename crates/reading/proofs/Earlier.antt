-- An earlier fact: the index that an item spells, kept if there is a fact of that number. Assumes nothing.
use Rattle.std.specs.Prelude.{◌≡◌, ℕ, List, Bool, true, false, Some as some, None as nothing, Option, Result, MatchOption, ok_or, ltb}
use Rattle.std.specs.Bool.{then_some}
use Rattle.std.proofs.Common.{refl, sym, subst, ltb-true, ltb-false}
use Rattle.questions.specs.declared.Question.{Question}
use Rattle.questions.specs.declared.Question.TheVariants.{Earlier}
use Rattle.rules.specs.Sexp.{Sexp, Sexps, cons}
use Rattle.sexp.specs.Items.{Holds}
use Rattle.reading.specs.declared.reader.Reader.{Reader}
use Rattle.reading.specs.Items.{index_in}
use Rattle.reading.specs.Earlier.{Missing, EarlierAs}

-- P: what is known of the test's answer
module _ (s : Reader) (cells : List ℕ) (P : ℕ → Bool → Type 0) (tells : (i : ℕ) (b : Bool) → P i b → b ≡ ltb i s.n.facts) where
  abbrev Looked : Option ℕ → Type 0
  Looked o = (x : Sexp) (ys : Sexps) → Holds s.text.now cells (cons x ys) → o ≡ index_in x

  tested : (i : ℕ) (b : Bool) → Looked (some i) → b ≡ ltb i s.n.facts → EarlierAs s cells (ok_or (then_some b i) Earlier)
  tested i true l e = (λ x ys h. sym (l x ys h), ltb-true i s.n.facts (sym e))
  tested i false l e = (refl, λ x ys h. subst (Missing s.n) (l x ys h) (ltb-false i s.n.facts (sym e)))

  kept : (o p : Option ℕ) → Looked o → MatchOption o (p ≡ nothing) (λ i. (b : Bool) × P i b × (p ≡ then_some b i)) → EarlierAs s cells (ok_or p Earlier)
  kept nothing p l e = subst (λ q. EarlierAs s cells (ok_or q Earlier)) (sym e) (refl, λ x ys h. subst (Missing s.n) (l x ys h) tt)
  kept (some i) p l k = subst (λ q. EarlierAs s cells (ok_or q Earlier)) (sym k.2) (tested i k.0 l (tells i k.0 k.1))

  pub earlier_told : (o p : Option ℕ) {r : Result ℕ Question} → Looked o → MatchOption o (p ≡ nothing) (λ i. (b : Bool) × P i b × (p ≡ then_some b i))
      → r ≡ ok_or p Earlier → EarlierAs s cells r
  earlier_told o p l k e = subst (EarlierAs s cells) (sym e) (kept o p l k)
