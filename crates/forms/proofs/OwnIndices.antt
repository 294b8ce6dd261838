-- The index that a form gives its own fact: what the code's tests say of the definition's `next`. Assumes nothing.
use mathlib.Core.Path.{◌≡◌, sym, ap, ◌∙◌}
use Rattle.std.specs.Prelude.{Some as some, None as nothing, Option}
use mathlib.Core.List.{List}
use Prim.Native.Nat.{ℕ}
use lib.Dec.{eqb}
use lib.ListN.{length, drop}
use borrow.Author.Tests.{eq-eqb, ne_eqb}
use Rattle.rules.specs.Out.{Out, ok, refuse, then, ask, found}
use Rattle.rules.specs.Sexp.{Sexp, Sexps, cons, item, rest}
use Rattle.rules.specs.State.{State}
use Rattle.rules.specs.Forms.{next}
use Rattle.sexp.specs.Encode.{encodes}
use Rattle.sexp.specs.Items.{Holds, place}
use Rattle.sexp.specs.FoundLaws.{found_at, found_missing}
use Rattle.state.specs.declared.sizes.Sizes.{Sizes}
use Rattle.reading.specs.Items.{FirstItem, index_in, index_found}
use Rattle.forms.specs.Next.{OwnIndex}
use Rattle.forms.specs.Laws.Making.{item_holds}

-- the definition
module _ (xs : Sexps) (S : State) where
  next_none : index_in (item xs 1) ≡ nothing → next xs S ≡ refuse 31 0 S
  unfolding next then
  next_none e =
      ap (λ (o : Out State ℕ). then o (λ i. ask 32 (eqb i (length S.facts)))) (index_found 31 (item xs 1) S ∙ ap (λ o. found 31 o S) e)

  next_some : {i : ℕ} → index_in (item xs 1) ≡ some i → next xs S ≡ ask 32 (eqb i (length S.facts)) S
  unfolding next then
  next_some e =
      ap (λ (o : Out State ℕ). then o (λ i. ask 32 (eqb i (length S.facts)))) (index_found 31 (item xs 1) S ∙ ap (λ o. found 31 o S) e)

module _ {text cells : List ℕ} {n : Sizes} (g : OwnIndex text cells n) {behind : List ℕ} (a : (ys : Sexps) → cells ≡ encodes ys → behind ≡ drop (place ys 1) cells) where
  own_holds : Holds text behind (cons (item g.xs 1) (rest g.xs 2))
  own_holds = item_holds g.holds 1 g.many a

  -- what `index` is given
  pub own_item : FirstItem text behind
  own_item = record { x = item g.xs 1; ys = rest g.xs 2; holds = own_holds }

  module _ {r : Option ℕ} (f : (x : Sexp) (ys : Sexps) → Holds text behind (cons x ys) → r ≡ (index_in x)) where
    pub own_missing : r ≡ nothing → next g.xs g.S ≡ refuse 31 0 g.S
    own_missing e = next_none g.xs g.S (found_missing (index_in (item g.xs 1)) r (f _ _ own_holds) e)

    module _ {i : ℕ} (e : r ≡ some i) where
      own_some : next g.xs g.S ≡ ask 32 (eqb i (length g.S.facts)) g.S
      own_some = next_some g.xs g.S (found_at (index_in (item g.xs 1)) r i (f _ _ own_holds) e)

      pub own_other : (i ≡ n.facts → ⊥) → next g.xs g.S ≡ refuse 32 0 g.S
      own_other d = own_some ∙ ap (λ b. ask 32 b g.S) (ne_eqb i (length g.S.facts) (λ q. d (q ∙ sym g.facts)))

      pub own_next : i ≡ n.facts → next g.xs g.S ≡ ok tt g.S
      own_next d = own_some ∙ ap (λ b. ask 32 b g.S) (eq-eqb i (length g.S.facts) (d ∙ g.facts))
