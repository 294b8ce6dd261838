-- Words of patterns behind those that are there: one more, and what the readers of atoms and heads answer. Assumes nothing.
use mathlib.Core.Path.{◌≡◌, refl, sym, ap, ◌∙◌, subst}
use Prim.Native.Nat.{ℕ, suc, ◌+◌, ◌-◌, ◌<◌, ◌≤◌}
use mathlib.Core.Bool.{Bool, true, false}
use Rattle.std.specs.Prelude.{Some as some, None as nothing, Option, Result}
use mathlib.Core.List.{List, [], ◌∷◌, ◌++◌}
use native.Mathlib.Omega.{arith}
use native.Mathlib.Numerals.{add-one}
use lib.ListN.{length, take, drop, set, length-set}
use lib.Seq.{take-suc-set}
use Rattle.rules.specs.Limits.{SYMBOLS, ARGUMENTS, PATTERNS}
use Rattle.rules.specs.Laws.Theory.{all_at}
use Rattle.rules.specs.Find.{first}
use Rattle.rules.specs.Laws.Find.{first_some}
use Rattle.rules.specs.Lex.{letters}
use Rattle.rules.specs.Out.{ok, refuse, then}
use Rattle.rules.specs.Sexp.{atom, marked}
use Rattle.rules.specs.Tree.{var, app, none}
use Rattle.rules.specs.Theory.{Theory, Symbol, no_symbol, inputs, output, constructor_named, predicate_named}
use Rattle.rules.specs.TheoryTables.{prefix}
use Rattle.rules.specs.Declare.{Reading, word, met_or_new, variable, head, pattern}
use Rattle.rules.specs.Laws.PatternSteps.{var_named, worded, word_full, word_more, variable_short, variable_asks, head_unknown, head_sort, head_count, head_asks, pattern_marked, pattern_atom}
use Rattle.sexp.specs.AtomText.{Spans, name_from, atom_span, atom_spans}
use Rattle.cells.specs.declared.Span.{Span}
use Rattle.kernel.specs.Held.{SymbolsHeld}
use Rattle.kernel.specs.Reading.{Meeting, Met, ReadSoFar, AtomReading, Written, Stopped, PatternRead, Head}
use Rattle.questions.specs.declared.Question.{Question}
use Rattle.questions.specs.Numbers.{number_of, detail_of}
use Rattle.questions.specs.declared.Row.{Row}
use Rattle.questions.specs.declared.Row.TheVariants.{PatternWords}
use Rattle.questions.specs.declared.Question.TheVariants.{Room}
use Rattle.kernel.specs.SignatureRows.{symbols_few}
use Rattle.kernel.specs.Readers.{KnownSymbol}
use Rattle.kernel.specs.Entries.{known_symbol}

-- A word more --------------------------------------------------------------------------------------------------------------------

-- the words then
pub words_more : (P Q : List ℕ) (used cell : ℕ) {next : ℕ} → used < length P → Q ≡ set P used cell → next ≡ used + 1 → take next Q ≡ take used P ++ (cell ∷ [])
words_more P Q used cell l e n = ap (λ (k : ℕ). take k Q) (n ∙ add-one used) ∙ ap (take (suc used)) e ∙ take-suc-set P used cell l

-- An atom ------------------------------------------------------------------------------------------------------------------------

-- where it stands
abbrev span_from : List ℕ → ℕ → Span
span_from text start = record { from = start; end = start + length (letters (drop start text)) }

pub meeting : {text table : List ℕ} {start sort count room : ℕ} {s : Span} → AtomReading text start sort table count room → s ≡ span_from text start →
    Meeting text s.from s.end sort table count
meeting {text} {start = start} k e =
    rw e record { vs = k.vs; held = k.held; low = omega arith; high = (atom_span text start (span_from text start).end k.inside refl).high; short = k.short; small = k.small }

pub named_from : {text : List ℕ} {start : ℕ} {s : Span} → start < length text → s ≡ span_from text start → Spans text (name_from text start) s.from s.end
named_from {text} {start} l e = rw e (atom_spans text start (span_from text start).end l refl)

-- The answers of `variable` ------------------------------------------------------------------------------------------------------

module _ (text : List ℕ) (start sort : ℕ) {s : Span} (e : s ≡ span_from text start) (R : Reading) where
  ends : s.end ≡ start + length (letters (drop start text))
  ends = ap (λ (z : Span). z.end) e

  pub variable_too_short : {P : List ℕ} (used : ℕ) → s.end - start < 2 → Stopped P P used (variable (name_from text start) sort R) 11 0
  variable_too_short used l =
      record { now = R; is = variable_short R (name_from text start) sort (omega (arith, ends, l)); words = refl; long = refl }

  module _ (l : 2 ≤ s.end - start) where
    asks : variable (name_from text start) sort R ≡ then (met_or_new (name_from text start) sort (var_named R.vars (letters (drop start text))) R) (λ i U. then (word U) (λ u W. ok (var i) W))
    asks = variable_asks R (name_from text start) sort (omega (arith, ends, l))

    pub variable_unmet : {P Q : List ℕ} (used a d : ℕ) → met_or_new (name_from text start) sort (var_named R.vars (letters (drop start text))) R ≡ refuse a d R → Q ≡ P →
        Stopped P Q used (variable (name_from text start) sort R) a d
    unfolding then
    variable_unmet used a d q k =
        record { now = R; is = asks ∙ ap (λ z. then z (λ i U. then (word U) (λ u W. ok (var i) W))) q; words = ap (take used) k; long = ap length k }

    module _ (table : List ℕ) (now : ℕ) {i : ℕ} (met : Met text table R (met_or_new (name_from text start) sort (var_named R.vars (letters (drop start text))) R) i now) where
      so : variable (name_from text start) sort R ≡ then (word met.now) (λ u W. ok (var i) W)
      unfolding then
      so = asks ∙ ap (λ z. then z (λ i U. then (word U) (λ u W. ok (var i) W))) met.is

      pub variable_written : {used next : ℕ} (P Q : List ℕ) → R.words ≡ used → length P ≡ PATTERNS →
          (used < PATTERNS) × (Q ≡ set P used (SYMBOLS + i)) × (next ≡ used + 1) →
          Written prefix text table P Q used (variable (name_from text start) sort R) now next
      unfolding then prefix
      variable_written {used} {next} P Q w g k =
          record {
            tree = var i;
            now = worded met.now;
            is = so ∙ ap (λ z. then z (λ u W. ok (var i) W)) (word_more met.now (omega (arith, met.words, w, k.0)));
            reads = record { held = met.held; words = omega (arith, met.words, w, k.2); room = omega (arith, k.0, k.2) };
            words = words_more P Q used (SYMBOLS + i) (omega (arith, g, k.0)) k.1 k.2;
            long = ap length k.1 ∙ length-set P used (SYMBOLS + i);
          }

      pub variable_full : {used : ℕ} (P Q : List ℕ) {e : Row} (next : ℕ) → R.words ≡ used → (PATTERNS ≤ used) × (Q ≡ P) × (next ≡ used) × (e ≡ PatternWords) →
          Stopped P Q used (variable (name_from text start) sort R) (number_of (Room e)) (detail_of (Room e))
      unfolding then
      variable_full {used} P Q {e} next w k =
          record {
            now = met.now;
            is = so ∙ ap (λ z. then z (λ u W. ok (var i) W)) (word_full met.now (omega (arith, met.words, w, k.0)))
                ∙ (λ i. refuse 60 (detail_of (Room (sym k.3 i))) met.now);
            words = ap (take used) k.1;
            long = ap length k.1;
          }

-- The answers of `constructor` ---------------------------------------------------------------------------------------------------

pub found_symbol : (p : Symbol → Bool) (ss : List Symbol) (c : ℕ) → first p ss 0 ≡ some c → c < length ss
found_symbol p ss c e = let f = first_some p ss 0 c no_symbol e in omega (arith, f.is, f.inside)

-- what a reader of the symbols' table says of symbol c, whatever theory the table holds
abbrev pub Reads : (Theory → ℕ → ℕ) → List ℕ → ℕ → ℕ → Type 0
Reads says symbols c r = (T : Theory) (text inputs : List ℕ) (count : ℕ) → SymbolsHeld text symbols inputs count T.symbols → c < count → r ≡ says T c

module _ (name : List ℕ) (sort arity : ℕ) {text symbols ins : List ℕ} {count : ℕ} (T : Theory) (R : Reading) (h : SymbolsHeld text symbols ins count T.symbols) (r : Option ℕ)
    (a : r ≡ constructor_named T name) where
  pub head_missing : {P : List ℕ} {used : ℕ} → r ≡ nothing → Stopped P P used (head T sort arity name R) 11 0
  head_missing b = record { now = R; is = head_unknown R T sort arity name (sym a ∙ b); words = refl; long = refl }

  module _ (c : ℕ) (b : r ≡ some c) where
    known_so : constructor_named T name ≡ some c
    known_so = sym a ∙ b

    declared : c < length T.symbols
    unfolding constructor_named
    declared = found_symbol _ T.symbols c known_so

    -- the output that was read
    module _ (had : ℕ) (o : Reads (λ T. output T) symbols c had) where
      output_is : had ≡ output T c
      output_is = o T text ins count h (omega (arith, declared, h.many))

      pub head_wrong_sort : {P : List ℕ} {used : ℕ} → (had ≡ sort → ⊥) → Stopped P P used (head T sort arity name R) 12 0
      head_wrong_sort f =
          record { now = R; is = head_sort R T sort arity name c known_so (λ z. f (output_is ∙ z)); words = refl; long = refl }

      -- and how many arguments there are
      module _ (f : had ≡ sort) (many : ℕ) (n : Reads (λ T c. length (inputs T c)) symbols c many) where
        sort_so : output T c ≡ sort
        sort_so = sym output_is ∙ f

        arity_is : many ≡ length (inputs T c)
        arity_is = n T text ins count h (omega (arith, declared, h.many))

        pub head_wrong_count : {P : List ℕ} {used : ℕ} → (many ≡ arity → ⊥) → Stopped P P used (head T sort arity name R) 12 0
        head_wrong_count g =
            record { now = R; is = head_count R T sort arity name c known_so sort_so (λ z. g (arity_is ∙ z)); words = refl; long = refl }

        module _ (g : many ≡ arity) {used : ℕ} (P Q : List ℕ) (w : R.words ≡ used) where
          head_so : head T sort arity name R ≡ then (word R) (λ u W. ok c W)
          head_so = head_asks R T sort arity name c known_so sort_so (sym arity_is ∙ g)

          pub head_written : {next : ℕ} → length P ≡ PATTERNS → (used < PATTERNS) × (Q ≡ set P used c) × (next ≡ used + 1) →
              Head P Q used T R arity (head T sort arity name R) c next
          unfolding then
          head_written m k =
              record {
                is = head_so ∙ ap (λ z. then z (λ u W. ok c W)) (word_more R (omega (arith, w, k.0)));
                known = declared;
                many = sym arity_is ∙ g;
                nexts = k.2;
                words = words_more P Q used c (omega (arith, m, k.0)) k.1 k.2;
                room = omega (arith, k.0, k.2);
                long = ap length k.1 ∙ length-set P used c;
              }

          pub head_full : {e : Row} {next : ℕ} → (PATTERNS ≤ used) × (Q ≡ P) × (next ≡ used) × (e ≡ PatternWords) →
              Stopped P Q used (head T sort arity name R) (number_of (Room e)) (detail_of (Room e))
          unfolding then
          head_full k =
              record {
                now = R;
                is = head_so ∙ ap (λ z. then z (λ u W. ok c W)) (word_full R (omega (arith, w, k.0))) ∙ (λ i. refuse 60 (detail_of (Room (sym k.3 i))) R);
                words = ap (take used) k.1;
                long = ap length k.1;
              }

-- a symbol that was found is there, and the number of such a symbol is small
module _ {text symbols ins : List ℕ} {count : ℕ} (T : Theory) (name : List ℕ) (r : Option ℕ) (c : ℕ) (h : SymbolsHeld text symbols ins count T.symbols) (e : r ≡ some c) where
  pub constructor_known : r ≡ constructor_named T name → KnownSymbol symbols c
  unfolding constructor_named
  constructor_known a = known_symbol h (omega (arith, found_symbol _ T.symbols c (sym a ∙ e), h.many))

  pub predicate_known : r ≡ predicate_named T name → KnownSymbol symbols c
  unfolding predicate_named
  predicate_known a = known_symbol h (omega (arith, found_symbol _ T.symbols c (sym a ∙ e), h.many))

pub known_small : {symbols : List ℕ} {c : ℕ} → KnownSymbol symbols c → c < SYMBOLS
known_small k = omega (arith, k.known, symbols_few k.held.1)

-- a symbol takes few arguments
pub arity_few : {symbols : List ℕ} {c many : ℕ} → KnownSymbol symbols c → Reads (λ T c. length (inputs T c)) symbols c many → many ≤ ARGUMENTS
unfolding inputs
arity_few {c = c} k n =
    let T : Theory = record { sorts = []; symbols = k.held.0; rules = [] } in
    omega (arith, n T k.text k.inputs k.count k.held.1 k.known, all_at k.held.0 c no_symbol k.held.1.few (omega (arith, k.known, k.held.1.many)))

-- The answers of `atomic` --------------------------------------------------------------------------------------------------------

module _ (text : List ℕ) (start sort : ℕ) (T : Theory) (R : Reading) where
  pub atomic_marked : marked (letters (drop start text)) ≡ true → (table P Q : List ℕ) (count used next : ℕ) (r : Result (Unit {0}) Question) →
      PatternRead prefix text table count P Q used next (variable (name_from text start) sort R) r →
      PatternRead prefix text table count P Q used next (pattern T (atom start (letters (drop start text))) sort R) r
  atomic_marked m table P Q count used next r k =
      subst (λ z. PatternRead prefix text table count P Q used next z r) (sym (pattern_marked R T sort start (letters (drop start text)) m)) k

  module _ (m : marked (letters (drop start text)) ≡ false) (P Q : List ℕ) (used : ℕ) where
    pub atomic_stopped : {a d : ℕ} → Stopped P Q used (head T sort 0 (letters (drop start text)) R) a d →
        Stopped P Q used (pattern T (atom start (letters (drop start text))) sort R) a d
    unfolding then
    atomic_stopped q =
        record {
          now = q.now;
          is = pattern_atom R T sort start (letters (drop start text)) m ∙ ap (λ z. then z (λ c U. ok (app c none) U)) q.is;
          words = q.words;
          long = q.long;
        }

    pub atomic_made : {c next count : ℕ} {table : List ℕ} → Head P Q used T R 0 (head T sort 0 (letters (drop start text)) R) c next → ReadSoFar text table count used R →
        Written prefix text table P Q used (pattern T (atom start (letters (drop start text))) sort R) count next
    unfolding then prefix
    atomic_made {c} q h =
        record {
          tree = app c none;
          now = worded R;
          is = pattern_atom R T sort start (letters (drop start text)) m ∙ ap (λ z. then z (λ c U. ok (app c none) U)) q.is;
          reads = record { held = h.held; words = omega (arith, h.words, q.nexts); room = q.room };
          words = q.words;
          long = q.long;
        }
