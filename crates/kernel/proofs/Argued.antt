-- The arguments of a symbol in a rule, one at a time: where their reader stands, and what it answers. Assumes nothing.
use mathlib.Core.Path.{◌≡◌, refl, sym, ap, ◌∙◌}
use Prim.Native.Nat.{ℕ, ◌+◌, ◌<◌, ◌≤◌}
use mathlib.Core.List.{List}
use native.Mathlib.Omega.{arith}
use lib.ListN.{length, get_or, take, drop}
use Rattle.rules.specs.Limits.{PATTERNS}
use Rattle.rules.specs.Sexp.{Sexp, Sexps, cons}
use Rattle.rules.specs.Tree.{none}
use Rattle.rules.specs.Theory.{Theory, no_symbol, inputs as inputs_of}
use Rattle.rules.specs.TheoryTables.{prefix, prefixes}
use Rattle.rules.specs.Laws.Row.{append-nil}
use Rattle.rules.specs.Declare.{Reading, pattern, patterns}
use Rattle.rules.specs.Laws.PatternSteps.{patterns_none}
use Rattle.sexp.specs.Each.{Here}
use Rattle.sexp.specs.FirstItem.{ItemFirst, holds_first}
use Rattle.sexp.specs.Items.{Holds, item_at, behind}
use Rattle.sexp.specs.WalkLaws.{Walk, walk_start, walk_over}
use Rattle.sexp.specs.declared.items.Each.{Each}
use Rattle.kernel.specs.Held.{SymbolsHeld}
use Rattle.kernel.specs.Reading.{SameTables, ReadSoFar, Written, Stopped, PatternRead, Patterning, Placed, Arguing}
use Rattle.kernel.specs.Readers.{KnownInput}
use Rattle.kernel.specs.Entries.{known_input}
use Rattle.kernel.specs.declared.patterns.RuleReader.{RuleReader}
use Rattle.std.specs.Prelude.{Result, Ok, Err}
use Rattle.questions.specs.declared.Question.{Question}
use Rattle.questions.specs.Numbers.{number_of, detail_of}
use Rattle.kernel.proofs.Trees.{symbolic, placed_inside, placed_next, arguments_stopped, arguments_read}
use Rattle.kernel.proofs.Turns.{turn_holds, turn_some, turn_first, turn_rest}

-- what the reader of the table of inputs says of argument k of symbol c, whatever theory the table holds
abbrev pub Sorts : List ℕ → ℕ → ℕ → ℕ → Type 0
Sorts inputs c k r = (T : Theory) (text symbols : List ℕ) (count : ℕ) → SymbolsHeld text symbols inputs count T.symbols → c < count → k < length (inputs_of T c) →
    r ≡ get_or (inputs_of T c) k 0

-- Where the reader stands ----------------------------------------------------------------------------------------------------------

-- k arguments were read: what the rest answers, all answer
pub record Argued (text cells : List ℕ) (T : Theory) (c : ℕ) (R : Reading) (zs : Sexps) (P : List ℕ) (used : ℕ) (table M : List ℕ) (k at v w : ℕ) : Type 0 where
  pub left : Sexps
  pub walk : Walk text cells at left
  pub placed : Placed T.symbols c k left
  pub now : Reading
  pub reads : ReadSoFar text table v w now
  pub long : length M ≡ length P
  pub onward : (table' : List ℕ) (v' : ℕ) (Q : List ℕ) (w' : ℕ) (r : Result (Unit {0}) Question) →
      PatternRead prefixes text table' v' M Q w w' (patterns T left (drop k (inputs_of T c)) now) r →
      PatternRead prefixes text table' v' P Q used w' (patterns T zs (inputs_of T c) R) r

module _ {text cells : List ℕ} {T : Theory} {c : ℕ} {R : Reading} {zs : Sexps} {P : List ℕ} {used : ℕ} {table M : List ℕ} {k at v w : ℕ}
    (g : Argued text cells T c R zs P used table M k at v w) where
  argued_over : length cells ≤ at → Written prefixes text table P M used (patterns T zs (inputs_of T c) R) v w
  unfolding prefix
  argued_over h =
      g.onward table v M w (Ok tt)
      (record {
        tree = none;
        now = g.now;
        is = ap (λ z. patterns T z (drop k (inputs_of T c)) g.now) (walk_over g.walk h) ∙ patterns_none g.now T (drop k (inputs_of T c));
        reads = g.reads;
        words = sym (append-nil (take w M));
        long = refl;
      })

  module _ {item : List ℕ} {next : Each} (h : Here cells item at next) where
    turn : ItemFirst text item g.left (item_at item 0) (behind 0 (item_at item 0))
    turn = turn_first g.walk h (item_at item 0) refl

    inside : k < length (inputs_of T c)
    unfolding inputs_of
    inside = placed_inside g.placed turn.is

    -- the sort of the argument
    module _ {symbols inputs : List ℕ} {known : ℕ} (s : SymbolsHeld text symbols inputs known T.symbols) where
      sort_known : KnownInput inputs c k
      sort_known = known_input T s (omega (arith, g.placed.known, s.many)) inside

      module _ (sort : ℕ) (a : Sorts inputs c k sort) (long : length P ≡ PATTERNS) where
        sort_is : sort ≡ get_or (get_or T.symbols c no_symbol).inputs k 0
        unfolding inputs_of
        sort_is = a T text symbols known s (omega (arith, g.placed.known, s.many)) inside

        low : w ≤ length M
        low = omega (arith, g.reads.room, g.long, long)

        argued_stops : {M' : List ℕ} (x : Question) → Stopped M M' w (pattern T turn.x sort g.now) (number_of x) (detail_of x) →
            Stopped P M' used (patterns T zs (inputs_of T c) R) (number_of x) (detail_of x)
        argued_stops {M'} x q =
            g.onward table v M' w (Err x)
            (arguments_stopped T g.now turn g.placed sort_is w M low q)

        argued_on : {table' M' : List ℕ} {n m : ℕ} → Written prefix text table' M M' w (pattern T turn.x sort g.now) n m →
            Argued text cells T c R zs P used table' M' (k + 1) next.at n m
        argued_on {M' = M'} {m = m} q =
            let high : m ≤ length M' = omega (arith, q.reads.room, q.long, g.long, long) in
            record {
              left = turn.ys;
              walk = turn_rest g.walk h turn;
              placed = placed_next g.placed turn.is;
              now = q.now;
              reads = q.reads;
              long = q.long ∙ g.long;
              onward = λ t v' Q w' r b. g.onward t v' Q w' r
                  (arguments_read T g.now turn g.placed sort_is w M low q high t v' Q w' r b);
            }

-- The loop -------------------------------------------------------------------------------------------------------------------------

-- the same for whatever theory the tables hold
pub record Arguments (text cells symbols inputs : List ℕ) (known c : ℕ) (table₀ : List ℕ) (count : ℕ) (P : List ℕ) (used : ℕ) (table M : List ℕ) (k at v w : ℕ) : Type 0 where
  pub goes : (T : Theory) (R : Reading) (zs : Sexps) → SymbolsHeld text symbols inputs known T.symbols → ReadSoFar text table₀ count used R → Holds text cells zs →
      Placed T.symbols c 0 zs → Argued text cells T c R zs P used table M k at v w

pub arguments_start : (text cells symbols inputs : List ℕ) (known c : ℕ) (table : List ℕ) (count : ℕ) (P : List ℕ) (used : ℕ) →
    Arguments text cells symbols inputs known c table count P used table P 0 0 count used
arguments_start text cells symbols inputs known c table count P used = record {
  goes = λ T R zs s y h p. record { left = zs; walk = walk_start h; placed = p; now = R; reads = y; long = refl; onward = λ t v' Q w' r q. q };
}

module _ {text cells symbols inputs : List ℕ} {known c : ℕ} {table₀ : List ℕ} {count : ℕ} {P : List ℕ} {used : ℕ} {table M : List ℕ} {k at v w : ℕ}
    (i : Arguments text cells symbols inputs known c table₀ count P used table M k at v w) where
  pub arguments_over : length cells ≤ at → (T : Theory) (R : Reading) (zs : Sexps) → SymbolsHeld text symbols inputs known T.symbols → ReadSoFar text table₀ count used R →
      Holds text cells zs → Placed T.symbols c 0 zs → Written prefixes text table P M used (patterns T zs (inputs_of T c) R) v w
  arguments_over l T R zs s y h p = argued_over (i.goes T R zs s y h p) l

  module _ (p : Arguing text cells symbols inputs known table₀ count (length P) used c) where
    -- for the theory that is asked for
    given : Argued text cells (symbolic p.given.held.0) c p.given.so_far p.given.zs P used table M k at v w
    given = i.goes (symbolic p.given.held.0) p.given.so_far p.given.zs p.given.held.1 p.given.reads p.given.holds p.placed

    module _ {item : List ℕ} {next : Each} (h : Here cells item at next) where
      pub argument_known : KnownInput inputs c k
      argument_known = sort_known given h p.given.held.1

      pub argument_some : 0 < length item
      argument_some = omega (arith, turn_some given.walk h)

      -- what the reader of the argument is given
      pub argument_asks : Patterning text item symbols inputs known table v (length M) w
      argument_asks =
          record {
            zs = given.left;
            holds = turn_holds given.walk h;
            held = p.given.held;
            so_far = given.now;
            reads = given.reads;
            short = p.given.short;
            long = given.long ∙ p.given.long;
          }

      -- it refuses
      pub arguments_stop : (sort : ℕ) → Sorts inputs c k sort → (M' : List ℕ) (x : Question) → ((T : Theory) (R : Reading) (y : Sexp) (ys : Sexps) → SymbolsHeld text symbols inputs known T.symbols →
          ReadSoFar text table v w R → Holds text item (cons y ys) → Stopped M M' w (pattern T y sort R) (number_of x) (detail_of x)) →
          (T : Theory) (R : Reading) (zs : Sexps) → SymbolsHeld text symbols inputs known T.symbols → ReadSoFar text table₀ count used R → Holds text cells zs →
          Placed T.symbols c 0 zs → Stopped P M' used (patterns T zs (inputs_of T c) R) (number_of x) (detail_of x)
      arguments_stop sort r M' x q T R zs s y b a =
          let o = i.goes T R zs s y b a in
          argued_stops o h s sort r p.given.long x (q T o.now (turn o h).x (turn o h).ys s o.reads (holds_first (turn o h) (turn_holds o.walk h)))

      -- it reads
      pub arguments_on : (sort : ℕ) → Sorts inputs c k sort → {table' : List ℕ} {n : ℕ} {M' : List ℕ} {m : ℕ} → ((T : Theory) (R : Reading) (y : Sexp) (ys : Sexps) → SymbolsHeld text symbols inputs known T.symbols →
          ReadSoFar text table v w R → Holds text item (cons y ys) → Written prefix text table' M M' w (pattern T y sort R) n m) →
          Arguments text cells symbols inputs known c table₀ count P used table' M' (k + 1) next.at n m
      arguments_on sort r q =
          record {
            goes = λ T R zs s y b a.
                let o = i.goes T R zs s y b a in
                argued_on o h s sort r p.given.long (q T o.now (turn o h).x (turn o h).ys s o.reads (holds_first (turn o h) (turn_holds o.walk h)));
          }

-- of the reader at the beginning and now
pub record Going (s t : RuleReader) (cells : List ℕ) (c k at : ℕ) : Type 0 where
  pub same : SameTables s t
  pub arguments : Arguments s.known.text.now cells s.known.rows.now s.known.inputs.now s.known.count c s.vars.now s.count s.patterns.now s.used t.vars.now t.patterns.now k at t.count t.used
