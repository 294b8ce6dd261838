-- Lists that begin with a symbol: what the readers of heads answer. Assumes nothing.
use mathlib.Core.Path.{◌≡◌, refl, sym, ap, ◌∙◌}
use Prim.Native.Nat.{ℕ, suc, ◌+◌, ◌-◌, ◌<◌, ◌≤◌}
use Rattle.std.specs.Prelude.{Some as some, None as nothing, Option, Result, Ok, Err}
use mathlib.Core.List.{List}
use native.Mathlib.Omega.{arith}
use lib.ListN.{length, take, set, length-set}
use Rattle.rules.specs.Limits.{PATTERNS}
use Rattle.rules.specs.Out.{Out, ok, refuse, then}
use Rattle.rules.specs.Sexp.{Sexps, atom, list, nil, cons, count, item}
use Rattle.rules.specs.Tree.{Tree, app}
use Rattle.rules.specs.Theory.{Theory, inputs, predicate_named}
use Rattle.rules.specs.Declare.{Reading, word, head, pattern, patterns, predicated}
use Rattle.rules.specs.Laws.PatternSteps.{word_full, word_more, pattern_empty, pattern_headless, pattern_lone, pattern_asks, predicated_empty, predicated_headless, predicated_unknown, predicated_count, predicated_asks}
use Rattle.kernel.specs.Held.{SymbolsHeld}
use Rattle.kernel.specs.Reading.{Stopped, HeadRead, Opened, OpenedRead}
use Rattle.questions.specs.declared.Question.{Question}
use Rattle.questions.specs.Numbers.{number_of, detail_of}
use Rattle.questions.specs.declared.Row.{Row}
use Rattle.questions.specs.declared.Row.TheVariants.{PatternWords}
use Rattle.questions.specs.declared.Question.TheVariants.{Room}
use Rattle.sexp.specs.Each.{NameFirst}
use Rattle.kernel.proofs.Words.{words_more, Reads, found_symbol}

-- a refusal with nothing written
stopped : {P : List ℕ} {used : ℕ} {given : Out Reading Tree} (R : Reading) (a d : ℕ) → given ≡ refuse a d R → Stopped P P used given a d
stopped R a d e = record { now = R; is = e; words = refl; long = refl }

-- The answers of `open_term` -----------------------------------------------------------------------------------------------------

pub term_nameless : (T : Theory) (R : Reading) (sort : ℕ) (zs : Sexps) (P : List ℕ) (used : ℕ) (ys : Sexps) → item zs 0 ≡ list ys → Stopped P P used (pattern T (list zs) sort R) 11 0
unfolding item
term_nameless T R sort nil P used ys e = stopped R 11 0 (pattern_empty R T sort)
term_nameless T R sort (cons x xs) P used ys e = stopped R 11 0 (ap (λ z. pattern T (list (cons z xs)) sort R) e ∙ pattern_headless R T sort ys xs)

count_named : {text cells : List ℕ} {zs : Sexps} {p : ℕ} {name : List ℕ} (f : NameFirst text cells zs p name) → count zs ≡ suc (count f.others)
unfolding count
count_named f = ap count f.is

module _ (T : Theory) (R : Reading) (sort : ℕ) {text cells : List ℕ} {zs : Sexps} (P : List ℕ) (used : ℕ) where
  module _ {p : ℕ} {name : List ℕ} (f : NameFirst text cells zs p name) (many : ℕ) (c : many ≡ count zs) where
    pub term_lone : many < 2 → Stopped P P used (pattern T (list zs) sort R) 12 0
    term_lone l =
        stopped R 12 0 (ap (λ z. pattern T (list z) sort R) f.is ∙ pattern_lone R T sort p name f.others (omega (arith, c, l, count_named f)))

    module _ (l : 2 ≤ many) where
      asks : pattern T (list zs) sort R ≡ then (head T sort (many - 1) name R) (λ c U. then (patterns T f.others (inputs T c) U) (λ ts W. ok (app c ts) W))
      asks =
          let k : count f.others ≡ many - 1 = omega (arith, c, count_named f) in
          ap (λ z. pattern T (list z) sort R) f.is ∙ pattern_asks R T sort p name f.others (omega (arith, k, l))
          ∙ ap (λ n. then (head T sort n name R) (λ c U. then (patterns T f.others (inputs T c) U) (λ ts W. ok (app c ts) W))) k

      pub term_opened : (Q : List ℕ) (next : ℕ) (r : Result ℕ Question) →
          HeadRead P Q used next T R (many - 1) (head T sort (many - 1) name R) r →
          OpenedRead text cells P Q used next T R zs (pattern T (list zs) sort R) r
      unfolding then
      term_opened Q next (Ok h) k =
          record {
            first = atom p name;
            others = f.others;
            is = f.is;
            asks = asks ∙ ap (λ z. then z (λ c U. then (patterns T f.others (inputs T c) U) (λ ts W. ok (app c ts) W))) k.is;
            rest = f.rest;
            some = omega (arith, f.some);
            known = k.known;
            many = omega (arith, k.many, c, count_named f);
            nexts = k.nexts;
            words = k.words;
            room = k.room;
            long = k.long;
          }
      term_opened Q next (Err e) k =
          record {
            now = k.now;
            is = asks ∙ ap (λ z. then z (λ c U. then (patterns T f.others (inputs T c) U) (λ ts W. ok (app c ts) W))) k.is;
            words = k.words;
            long = k.long;
          }

-- The answers of `open_judgment` -------------------------------------------------------------------------------------------------

pub judgment_nameless : (T : Theory) (R : Reading) (zs : Sexps) (P : List ℕ) (used : ℕ) (ys : Sexps) → item zs 0 ≡ list ys → Stopped P P used (predicated T zs R) 11 0
unfolding item
judgment_nameless T R nil P used ys e = stopped R 11 0 (predicated_empty R T)
judgment_nameless T R (cons x xs) P used ys e = stopped R 11 0 (ap (λ z. predicated T (cons z xs) R) e ∙ predicated_headless R T ys xs)

module _ (T : Theory) (R : Reading) {text cells : List ℕ} {zs : Sexps} (P : List ℕ) (used : ℕ) where
  module _ {p : ℕ} {name : List ℕ} (f : NameFirst text cells zs p name) {symbols ins : List ℕ} {known : ℕ} (h : SymbolsHeld text symbols ins known T.symbols) (r : Option ℕ)
      (a : r ≡ predicate_named T name) where
    begins : predicated T zs R ≡ predicated T (cons (atom p name) f.others) R
    begins = ap (λ z. predicated T z R) f.is

    pub judgment_unknown : r ≡ nothing → Stopped P P used (predicated T zs R) 11 0
    judgment_unknown b =
        stopped R 11 0 (begins ∙ predicated_unknown R T p name f.others
        (sym a ∙ b))

    module _ (c : ℕ) (b : r ≡ some c) (arity : ℕ) (g : Reads (λ T c. length (inputs T c)) symbols c arity) (many : ℕ) (m : many ≡ count zs) where
      known_so : predicate_named T name ≡ some c
      known_so = sym a ∙ b

      declared : c < length T.symbols
      unfolding predicate_named
      declared = found_symbol _ T.symbols c known_so

      arity_is : arity ≡ length (inputs T c)
      arity_is = g T text ins known h (omega (arith, declared, h.many))

      pub judgment_count : (arity + 1 ≡ many → ⊥) → Stopped P P used (predicated T zs R) 12 0
      judgment_count n =
          stopped R 12 0 (begins ∙ predicated_count R T p name f.others c known_so (λ z. n (omega (arith, arity_is, z, m, count_named f))))

      module _ (n : arity + 1 ≡ many) (Q : List ℕ) (w : R.words ≡ used) where
        many_so : length (inputs T c) ≡ count f.others
        many_so = omega (arith, arity_is, n, m, count_named f)

        asks_so : predicated T zs R ≡ then (word R) (λ u U. then (patterns T f.others (inputs T c) U) (λ ts W. ok (app c ts) W))
        asks_so = begins ∙ predicated_asks R T p name f.others c known_so many_so

        pub judgment_opened : {next : ℕ} → length P ≡ PATTERNS → (used < PATTERNS) × (Q ≡ set P used c) × (next ≡ used + 1) →
            Opened text cells P Q used T R zs (predicated T zs R) c next
        unfolding then
        judgment_opened g k =
            record {
              first = atom p name;
              others = f.others;
              is = f.is;
              asks = asks_so ∙ ap (λ z. then z (λ u U. then (patterns T f.others (inputs T c) U) (λ ts W. ok (app c ts) W))) (word_more R (omega (arith, w, k.0)));
              rest = f.rest;
              some = omega (arith, f.some);
              known = declared;
              many = many_so;
              nexts = k.2;
              words = words_more P Q used c (omega (arith, g, k.0)) k.1 k.2;
              room = omega (arith, k.0, k.2);
              long = ap length k.1 ∙ length-set P used c;
            }

        pub judgment_full : {e : Row} {next : ℕ} → (PATTERNS ≤ used) × (Q ≡ P) × (next ≡ used) × (e ≡ PatternWords) →
            Stopped P Q used (predicated T zs R) (number_of (Room e)) (detail_of (Room e))
        unfolding then
        judgment_full k =
            record {
              now = R;
              is = asks_so ∙ ap (λ z. then z (λ u U. then (patterns T f.others (inputs T c) U) (λ ts W. ok (app c ts) W))) (word_full R (omega (arith, w, k.0)))
                  ∙ (λ i. refuse 60 (detail_of (Room (sym k.3 i))) R);
              words = ap (take used) k.1;
              long = ap length k.1;
            }
