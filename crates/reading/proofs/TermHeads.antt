-- The symbol that a list begins with: what the definition makes of the items, from what was found of the first. Assumes nothing.
use mathlib.Core.Path.{◌≡◌, refl, sym, ap, ◌∙◌, subst}
use mathlib.Core.Bool.{Bool}
use Rattle.std.specs.Prelude.{Option, Some as some, None as nothing, Result, ok_or}
use Rattle.questions.specs.declared.Question.{Question}
use Rattle.questions.specs.declared.Question.TheVariants.{Spelling}
use mathlib.Core.List.{List}
use Prim.Native.Nat.{ℕ, ◌-◌, ◌≤◌, ◌<◌}
use native.Mathlib.Omega.{arith}
use lib.Dec.{leb}
use lib.ListN.{length, take, drop, length-drop}
use lib.Seq.{length-take-le}
use borrow.Author.Tests.{le-leb}
use Rattle.rules.specs.Out.{Out, refuse, then, ask, found}
use Rattle.rules.specs.Sexp.{Sexps, atom, list, nil, cons, count, item, rest, name, items}
use Rattle.rules.specs.Tree.{Tree}
use Rattle.rules.specs.Store.{Made}
use Rattle.rules.specs.Theory.{Theory, no_symbol, constructor_named, predicate_named}
use Rattle.rules.specs.Laws.Find.{first_some}
use Rattle.rules.specs.State.{State}
use Rattle.rules.specs.Read.{term, compound, terms, judgment}
use Rattle.rules.specs.Laws.Sexp.{rest_none}
use Rattle.sexp.specs.Each.{NameFirst, name_first}
use Rattle.sexp.specs.FirstItem.{none_left, first_item, first_count}
use Rattle.kernel.specs.Held.{SymbolsHeld}
use Rattle.kernel.specs.Readers.{NamedSymbols}
use Rattle.reading.specs.Heads.{Opens, Opened, OpenedAs, finish}

-- Compound terms -------------------------------------------------------------------------------------------------------------------

-- what is left behind the name
abbrev compounding : State → Sexps → ℕ → Made → Out Made Tree
compounding S ys c s = then (ask 23 (leb 1 (count ys)) s) (λ _ u. then (terms S ys u) (finish S c))

module _ (S : State) (M : Made) (zs : Sexps) where
  compound_none : zs ≡ nil → compound S zs M ≡ refuse 22 0 M
  unfolding term
  compound_none e = ap (λ z. compound S z M) e

  compound_list : {xs ys : Sexps} → zs ≡ cons (list xs) ys → compound S zs M ≡ refuse 22 0 M
  unfolding term name then
  compound_list e = ap (λ z. compound S z M) e

  module _ {p : ℕ} {bs : List ℕ} {ys : Sexps} (e : zs ≡ cons (atom p bs) ys) where
    compound_named : compound S zs M ≡ then (found 22 (constructor_named S.theory bs) M) (compounding S ys)
    unfolding term name then
    compound_named = ap (λ z. compound S z M) e

    compound_unknown : constructor_named S.theory bs ≡ nothing → compound S zs M ≡ refuse 22 0 M
    unfolding then
    compound_unknown f = compound_named ∙ ap (λ (o : Option ℕ). then (found 22 o M) (compounding S ys)) f

    module _ {c : ℕ} (f : constructor_named S.theory bs ≡ some c) where
      compound_known : compound S zs M ≡ compounding S ys c M
      unfolding then
      compound_known = compound_named ∙ ap (λ (o : Option ℕ). then (found 22 o M) (compounding S ys)) f

      compound_alone : ys ≡ nil → compound S zs M ≡ refuse 23 0 M
      unfolding then count
      compound_alone l = compound_known ∙ ap (λ z. compounding S z c M) l

      compound_is : 1 ≤ count ys → compound S zs M ≡ then (terms S ys M) (finish S c)
      unfolding then
      compound_is l = compound_known ∙ ap (λ (b : Bool). then (ask 23 b M) (λ _ u. then (terms S ys u) (finish S c))) (le-leb 1 (count ys) l)

-- Judgments ------------------------------------------------------------------------------------------------------------------------

module _ (S : State) (M : Made) (zs : Sexps) where
  judgment_items : judgment S (list zs) M ≡ then (name 22 (item zs 0) M) (λ n s. then (found 22 (predicate_named S.theory n.bytes) s)
      (λ p u. then (terms S (rest zs 1) u) (finish S p)))
  unfolding judgment items then
  judgment_items = refl

  judgment_none : zs ≡ nil → judgment S (list zs) M ≡ refuse 22 0 M
  unfolding item name then
  judgment_none e = judgment_items ∙ ap (λ z. then (name 22 (item z 0) M) (λ n s. then (found 22 (predicate_named S.theory n.bytes) s)
      (λ p u. then (terms S (rest z 1) u) (finish S p)))) e

  judgment_list : {xs ys : Sexps} → zs ≡ cons (list xs) ys → judgment S (list zs) M ≡ refuse 22 0 M
  unfolding item name then
  judgment_list e = judgment_items ∙ ap (λ z. then (name 22 (item z 0) M) (λ n s. then (found 22 (predicate_named S.theory n.bytes) s)
      (λ p u. then (terms S (rest z 1) u) (finish S p)))) e

  module _ {p : ℕ} {bs : List ℕ} {ys : Sexps} (e : zs ≡ cons (atom p bs) ys) where
    judgment_named : judgment S (list zs) M ≡ then (found 22 (predicate_named S.theory bs) M) (λ c u. then (terms S ys u) (finish S c))
    unfolding item rest name then
    judgment_named =
        judgment_items
        ∙ ap (λ z. then (name 22 (item z 0) M) (λ n s. then (found 22 (predicate_named S.theory n.bytes) s)
        (λ c u. then (terms S (rest z 1) u) (finish S c)))) e
        ∙ ap (λ (z : Sexps). then (found 22 (predicate_named S.theory bs) M) (λ c u. then (terms S z u) (finish S c))) (rest_none ys)

    judgment_unknown : predicate_named S.theory bs ≡ nothing → judgment S (list zs) M ≡ refuse 22 0 M
    unfolding then
    judgment_unknown f = judgment_named ∙ ap (λ (o : Option ℕ). then (found 22 o M) (λ c u. then (terms S ys u) (finish S c))) f

    judgment_is : {c : ℕ} → predicate_named S.theory bs ≡ some c → judgment S (list zs) M ≡ then (terms S ys M) (finish S c)
    unfolding then
    judgment_is f = judgment_named ∙ ap (λ (o : Option ℕ). then (found 22 o M) (λ c u. then (terms S ys u) (finish S c))) f

-- a list, or nothing, in front
compound_unnamed : (S : State) (M : Made) (zs : Sexps) {ys : Sexps} → item zs 0 ≡ list ys → compound S zs M ≡ refuse 22 0 M
unfolding item
compound_unnamed S M nil e = compound_none S M nil refl
compound_unnamed S M (cons x xs) e = compound_list S M (cons x xs) (ap (λ z. cons z xs) e)

judgment_unnamed : (S : State) (M : Made) (zs : Sexps) {ys : Sexps} → item zs 0 ≡ list ys → judgment S (list zs) M ≡ refuse 22 0 M
unfolding item
judgment_unnamed S M nil e = judgment_none S M nil refl
judgment_unnamed S M (cons x xs) e = judgment_list S M (cons x xs) (ap (λ z. cons z xs) e)

-- The name -------------------------------------------------------------------------------------------------------------------------

constructor_inside : (T : Theory) (bs : List ℕ) (c : ℕ) → constructor_named T bs ≡ some c → c < length T.symbols
unfolding constructor_named
constructor_inside T bs c e = let f = first_some _ T.symbols 0 c no_symbol e in omega (arith, f.is, f.inside)

predicate_inside : (T : Theory) (bs : List ℕ) (c : ℕ) → predicate_named T bs ≡ some c → c < length T.symbols
unfolding predicate_named
predicate_inside T bs c e = let f = first_some _ T.symbols 0 c no_symbol e in omega (arith, f.is, f.inside)

rest_long : (cells : List ℕ) → length (take (length cells - 1) (drop 1 cells)) ≡ length cells - 1
rest_long cells = length-take-le (length cells - 1) (drop 1 cells) (omega (arith, length-drop 1 cells))

-- the arguments' cells are fewer
pub rest_fewer : (cells : List ℕ) → 0 < length cells → length (take (length cells - 1) (drop 1 cells)) < length cells
rest_fewer cells l = omega (arith, rest_long cells, l)

module _ {text cells : List ℕ} {zs : Sexps} {p : ℕ} {bs : List ℕ} (f : NameFirst text cells zs p bs) where
  alone : length cells ≡ 1 → f.others ≡ nil
  alone e = none_left f.rest (omega (arith, rest_long cells, e))

  some_others : (length cells ≡ 1 → ⊥) → 1 ≤ count f.others
  some_others n = omega (arith, first_count (first_item _ f.rest (λ e. omega (arith, e, rest_long cells, n, f.some)) refl))

module _ {theory text symbols : List ℕ} {known : ℕ} {cells : List ℕ} (g : Opens theory text symbols known cells) where
  -- what `constructor_named` and `predicate_named` ask
  pub symbols_named : NamedSymbols theory symbols known
  symbols_named = (g.ins, (g.S.theory.symbols, g.held))

  -- no name in front
  pub compound_nameless : {ys : Sexps} → item g.xs 0 ≡ list ys → (M : Made) → compound g.S g.xs M ≡ refuse 22 0 M
  compound_nameless e M = compound_unnamed g.S M g.xs e

  pub judgment_nameless : {ys : Sexps} → item g.xs 0 ≡ list ys → (M : Made) → judgment g.S (list g.xs) M ≡ refuse 22 0 M
  judgment_nameless e M = judgment_unnamed g.S M g.xs e

  module _ {p : ℕ} {bs : List ℕ} (e : item g.xs 0 ≡ atom p bs) where
    first : NameFirst text cells g.xs p bs
    first = name_first g.xs g.holds e

    -- a constructor's name
    module _ {q : Option ℕ} (a : (T : Theory) (ins : List ℕ) → SymbolsHeld theory symbols ins known T.symbols → q ≡ constructor_named T bs) where
      pub compound_missing : q ≡ nothing → (M : Made) → compound g.S g.xs M ≡ refuse 22 0 M
      compound_missing w M = compound_unknown g.S M g.xs first.is (sym (a g.S.theory g.ins g.held) ∙ w)

      module _ {c : ℕ} (w : q ≡ some c) where
        known_as : constructor_named g.S.theory bs ≡ some c
        known_as = sym (a g.S.theory g.ins g.held) ∙ w

        pub compound_single : length cells ≡ 1 → (M : Made) → compound g.S g.xs M ≡ refuse 23 0 M
        compound_single o M = compound_alone g.S M g.xs first.is known_as (alone first o)

        pub compound_opened : (length cells ≡ 1 → ⊥) → Opened text cells known g.S (compound g.S g.xs) c
        compound_opened o =
            record {
              others = first.others;
              rest = first.rest;
              some = first.some;
              known = omega (arith, constructor_inside g.S.theory bs c known_as, g.held.many);
              is = λ M. compound_is g.S M g.xs first.is known_as (some_others first o);
            }

    -- a predicate's
    module _ {q : Option ℕ} (a : (T : Theory) (ins : List ℕ) → SymbolsHeld theory symbols ins known T.symbols → q ≡ predicate_named T bs) where
      pub judgment_missing : q ≡ nothing → (M : Made) → judgment g.S (list g.xs) M ≡ refuse 22 0 M
      judgment_missing w M = judgment_unknown g.S M g.xs first.is (sym (a g.S.theory g.ins g.held) ∙ w)

      pub judgment_opened : {c : ℕ} → q ≡ some c → Opened text cells known g.S (judgment g.S (list g.xs)) c
      judgment_opened {c} w =
          let named : predicate_named g.S.theory bs ≡ some c = sym (a g.S.theory g.ins g.held) ∙ w in
          record {
            others = first.others;
            rest = first.rest;
            some = first.some;
            known = omega (arith, predicate_inside g.S.theory bs c named, g.held.many);
            is = λ M. judgment_is g.S M g.xs first.is named;
          }

      pub judgment_told : {r : Result ℕ Question} → r ≡ ok_or q Spelling → OpenedAs text cells known g.S (judgment g.S (list g.xs)) r
      judgment_told e = subst (OpenedAs text cells known g.S (judgment g.S (list g.xs))) (sym e) (by q refl)
        where
          by : (o : Option ℕ) → q ≡ o → OpenedAs text cells known g.S (judgment g.S (list g.xs)) (ok_or o Spelling)
          by nothing w = judgment_missing w
          by (some c) w = judgment_opened w
