-- The answers of `add_ctor` and `add_pred`, question by question. Assumes nothing.
use mathlib.Core.Path.{◌≡◌, refl, sym, ap, ◌∙◌, subst}
use Prim.Native.Nat.{ℕ, ◌-◌, ◌<◌, ◌≤◌}
use Rattle.std.specs.Prelude.{Some as some, None as nothing, Option, Result, Ok, Err}
use mathlib.Core.List.{List}
use native.Mathlib.Omega.{arith}
use lib.ListN.{length, take, drop, replicate}
use lib.Seq.{sets}
use Rattle.rules.specs.Limits.{LENGTH, SORTS, ARGUMENTS}
use Rattle.rules.specs.Find.{first}
use Rattle.rules.specs.Out.{Out, refuse}
use Rattle.rules.specs.Sexp.{Sexp, Sexps, item}
use Rattle.rules.specs.Theory.{Theory, Symbol, constructor_named, predicate_named}
use Rattle.rules.specs.Declare.{add_sort, add_ctor, add_pred, add_symbol}
use Rattle.rules.specs.Laws.Declaring.{add_sort_unnamed, ctor_unnamed, pred_unnamed, sort_of, arguments_of, constructor_of, ctor_arguments, pred_arguments, ctor_unsorted, ctor_twice, ctor_new, pred_twice, pred_new}
use Rattle.kernel.specs.declared.names.Kind.TheVariants.{Constructor, Predicate}
use Rattle.kernel.specs.Named.{called, of_kind}
use Rattle.kernel.specs.Spelled.{Reaching}
use Rattle.kernel.specs.Held.{Form, ArgumentsStored, ArgumentsRead, SymbolsHeld, SymbolFits, SymbolIs}
use Rattle.questions.specs.declared.Question.{Question}
use Rattle.questions.specs.Numbers.{number_of, detail_of}
use Rattle.kernel.proofs.Spellings.{Proper, Nameless}
use Rattle.sexp.specs.FoundLaws.{found_at, found_missing}
use Rattle.kernel.proofs.Arguments.{Sortless, row_filled}

-- a form has the items that are asked for
pub reaching : {text form : List ℕ} {n : ℕ} (k : ℕ) → Form text form n → k < n → Reaching text form k
reaching k f l = record { xs = f.xs; holds = f.holds; there = omega (arith, f.many, l) }

-- a declaration with no name is refused
module _ (T : Theory) (xs : Sexps) {q : Question} (k : Nameless (item xs 1) q) where
  pub sort_nameless : add_sort xs T ≡ refuse (number_of q) (detail_of q) T
  sort_nameless = rw k.error (add_sort_unnamed T xs k.is)

  pub ctor_nameless : add_ctor xs T ≡ refuse (number_of q) (detail_of q) T
  ctor_nameless = rw k.error (ctor_unnamed T xs k.is)

  pub pred_nameless : add_pred xs T ≡ refuse (number_of q) (detail_of q) T
  pred_nameless = rw k.error (pred_unnamed T xs k.is)

-- what the argument sorts' answer says
pub stored_of : (row row' : List ℕ) (given : Out (Unit {0}) (List ℕ)) (r : Result ℕ Question) {n : ℕ} → ArgumentsRead row row' 0 given r → r ≡ Ok n →
    ArgumentsStored row row' 0 given n
stored_of row row' given r a b = subst (λ z. ArgumentsRead row row' 0 given z) b a

-- where they are refused, so is the declaration
module _ {text : List ℕ} (T : Theory) (xs : Sexps) {s e : ℕ} (p : Proper text (item xs 1) s e) (row row' : List ℕ) (r : Result ℕ Question) {q : Question}
    (k : ArgumentsRead row row' 0 (arguments_of T (item xs 2)) r) (b : r ≡ Err q) where
  stopped : arguments_of T (item xs 2) ≡ refuse (number_of q) (detail_of q) tt
  stopped = subst (λ z. ArgumentsRead row row' 0 (arguments_of T (item xs 2)) z) b k

  pub ctor_stops : add_ctor xs T ≡ refuse (number_of q) (detail_of q) T
  ctor_stops = ctor_arguments T xs p.name p.is (number_of q) (detail_of q) stopped

  pub pred_stops : add_pred xs T ≡ refuse (number_of q) (detail_of q) T
  pred_stops = pred_arguments T xs p.name p.is (number_of q) (detail_of q) stopped

module _ {text : List ℕ} (T : Theory) (xs : Sexps) {s e : ℕ} (p : Proper text (item xs 1) s e) {row row' : List ℕ} {arity : ℕ}
    (stored : ArgumentsStored row row' 0 (arguments_of T (item xs 2)) arity) where
  pub ctor_no_sort : {q : Question} → Sortless T.sorts (item xs 3) q → add_ctor xs T ≡ refuse (number_of q) (detail_of q) T
  ctor_no_sort g = rw g.error (ctor_unsorted T xs p.name p.is stored.sorts stored.is g.is)

  module _ {q : Option ℕ} where
    module _ {o : ℕ} (g : sort_of T.sorts (item xs 3) ≡ some o)
        (f : q ≡ (first (called Constructor (take (e - s) (drop s text))) T.symbols 0)) where
      found_so : constructor_named T p.name.bytes ≡ first (called Constructor (take (e - s) (drop s text))) T.symbols 0
      unfolding constructor_named of_kind
      found_so = ap (λ l. first (called Constructor l) T.symbols 0) (sym p.part)

      pub ctor_again : {i : ℕ} → q ≡ some i → add_ctor xs T ≡ refuse 11 0 T
      ctor_again {i} c =
          ctor_twice T xs p.name p.is stored.sorts stored.is o i g (found_so ∙ found_at (first (called Constructor (take (e - s) (drop s text))) T.symbols 0) q i f c)

      pub ctor_is_new : q ≡ nothing → add_ctor xs T ≡ add_symbol (constructor_of p.name stored.sorts o) T
      ctor_is_new c =
          ctor_new T xs p.name p.is stored.sorts stored.is o g (found_so ∙ found_missing (first (called Constructor (take (e - s) (drop s text))) T.symbols 0) q f c)

    module _ (f : q ≡ (first (called Predicate (take (e - s) (drop s text))) T.symbols 0)) where
      found_too : predicate_named T p.name.bytes ≡ first (called Predicate (take (e - s) (drop s text))) T.symbols 0
      unfolding predicate_named of_kind
      found_too = ap (λ l. first (called Predicate l) T.symbols 0) (sym p.part)

      pub pred_again : {i : ℕ} → q ≡ some i → add_pred xs T ≡ refuse 11 0 T
      pred_again {i} c =
          pred_twice T xs p.name p.is stored.sorts stored.is i (found_too ∙ found_at (first (called Predicate (take (e - s) (drop s text))) T.symbols 0) q i f c)

      pub pred_is_new : q ≡ nothing → add_pred xs T ≡ add_symbol (constructor_of p.name stored.sorts 0) T
      pred_is_new c =
          pred_new T xs p.name p.is stored.sorts stored.is (found_too ∙ found_missing (first (called Predicate (take (e - s) (drop s text))) T.symbols 0) q f c)

  -- the cells of the symbol
  pub symbol_cells_lem : (o : ℕ) → row ≡ replicate ARGUMENTS 0 → SymbolIs text (constructor_of p.name stored.sorts o) o arity s e row'
  symbol_cells_lem o z =
      record {
        named = p.stands;
        few = omega (arith, stored.many, stored.most);
        outputs = refl;
        arities = omega (arith, stored.many);
        starts = p.start;
        ends = p.end;
        cells = row_filled stored.sorts (omega (arith, stored.many, stored.most)) ∙ sym (stored.cells ∙ ap (λ l. sets l 0 stored.sorts) z);
      }

-- they fit
pub symbol_fits : {text symbols inputs : List ℕ} {count s e arity o : ℕ} {x : Sexp} {ss : List Symbol} → SymbolsHeld text symbols inputs count ss →
    Proper text x s e → length text ≤ LENGTH → o ≤ SORTS → arity ≤ ARGUMENTS → (n : ℕ) → n ≡ ARGUMENTS →
    SymbolFits (length symbols) (length inputs) o arity s e n
symbol_fits h p t l m n q =
    record {
      long = h.long;
      longs = h.longs;
      outputs = omega (arith, l);
      arities = omega (arith, m);
      starts = omega (arith, p.end, p.high, t);
      ends = omega (arith, p.high, t);
      rows = q;
    }
