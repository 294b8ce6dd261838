-- The premises of a rule, one at a time: where their reader stands, and what it answers. Assumes nothing.
use mathlib.Core.Path.{◌≡◌, refl, sym, ap, ◌∙◌, subst}
use Prim.Native.Nat.{ℕ, ◌+◌, ◌<◌, ◌≤◌}
use mathlib.Core.List.{List}
use native.Mathlib.Omega.{arith}
use lib.ListN.{length, take}
use Rattle.rules.specs.Limits.{PATTERNS}
use Rattle.rules.specs.Out.{ok, then}
use Rattle.rules.specs.Sexp.{Sexp, Sexps, list, cons, count, item}
use Rattle.rules.specs.Tree.{none, more}
use Rattle.rules.specs.Theory.{Theory}
use Rattle.rules.specs.TheoryTables.{prefix, prefixes}
use Rattle.rules.specs.Laws.Row.{append-nil}
use Rattle.rules.specs.Declare.{Reading, predicated, judgments}
use Rattle.rules.specs.Laws.PatternSteps.{judgments_none, judgments_atom, judgments_more}
use Rattle.sexp.specs.Encode.{encode}
use Rattle.sexp.specs.Items.{Holds, behind}
use Rattle.sexp.specs.ItemLaws.{at_next, item_here, behind_item}
use Rattle.sexp.specs.WalkLaws.{AtomIs, Walk, walk_start, walk_more, walk_over, walk_rest}
use Rattle.sexp.specs.Each.{Here, ListOf, first_list, first_atom}
use Rattle.sexp.specs.declared.items.Each.{Each}
use Rattle.kernel.specs.Held.{SymbolsHeld}
use Rattle.kernel.specs.Reading.{SameTables, ReadSoFar, Written, Stopped, PatternRead, Patterning}
use Rattle.kernel.specs.declared.patterns.RuleReader.{RuleReader}
use Rattle.std.specs.Prelude.{Result, Ok, Err}
use Rattle.questions.specs.declared.Question.{Question}
use Rattle.questions.specs.Numbers.{number_of, detail_of}
use Rattle.questions.specs.declared.Question.TheVariants.{Declared}
use Rattle.kernel.proofs.Trees.{symbolic, pair_stopped, pair_read}

-- an item and the others: its cells, and the place behind it
pub record Ahead (text cells words : List ℕ) (left : Sexps) (next : ℕ) : Type 0 where
  pub x : Sexp
  pub others : Sexps
  pub is : left ≡ cons x others
  pub holds : Holds text words (cons x others)
  pub rest : Walk text cells next others

pub ahead : {text cells words : List ℕ} {at : ℕ} {left : Sexps} {next : Each} → Walk text cells at left → Here cells words at next → Ahead text cells words left next.at
ahead {text} {cells} {words} {at} {left} {next} k h =
    let m = walk_more k h.inside in
    let w : Walk text cells at (cons m.first m.others) = subst (λ z. Walk text cells at z) m.is k in
    let n : next.at ≡ at + length (encode m.first) = h.behind ∙ ap (behind at) (item_here m.first w.here) ∙ behind_item at m.first in
    record {
      x = m.first;
      others = m.others;
      is = m.is;
      holds = rw h.is (walk_rest w);
      rest = record { here = rw n (at_next w.here); spelt = w.spelt.1 };
    }

-- what `list` answers of the item
abbrev pub Listed : List ℕ → List ℕ → Type 0
Listed words part = (t : List ℕ) (xs : Sexps) → Holds t words xs → 0 < count xs → ListOf t words (item xs 0) part

abbrev pub Unlisted : List ℕ → Type 0
Unlisted words = (t : List ℕ) (xs : Sexps) → Holds t words xs → 0 < count xs → (p : ℕ) × AtomIs t (item xs 0) p

-- the next item is a list, and the others stand behind it
pub record Next (text cells : List ℕ) (left : Sexps) (part : List ℕ) (next : ℕ) : Type 0 where
  pub inner : Sexps
  pub others : Sexps
  pub is : left ≡ cons (list inner) others
  pub holds : Holds text part inner
  pub rest : Walk text cells next others

pub next_list : {text cells words part : List ℕ} {at : ℕ} {left : Sexps} {next : Each} → Walk text cells at left → Here cells words at next → Listed words part →
    Next text cells left part next.at
next_list k h l =
    let a = ahead k h in
    let o = first_list a.holds l in
    record { inner = o.items; others = a.others; is = a.is ∙ ap (λ x. cons x a.others) o.is; holds = o.holds; rest = a.rest }

-- Where the reader stands ----------------------------------------------------------------------------------------------------------

-- what the rest answers, all answer
pub record Premising (text cells : List ℕ) (T : Theory) (R : Reading) (zs : Sexps) (P : List ℕ) (used : ℕ) (table M : List ℕ) (at v w : ℕ) : Type 0 where
  pub left : Sexps
  pub walk : Walk text cells at left
  pub now : Reading
  pub reads : ReadSoFar text table v w now
  pub long : length M ≡ length P
  pub onward : (table' : List ℕ) (v' : ℕ) (Q : List ℕ) (w' : ℕ) (r : Result (Unit {0}) Question) → PatternRead prefixes text table' v' M Q w w' (judgments T left now) r →
      PatternRead prefixes text table' v' P Q used w' (judgments T zs R) r

module _ {text cells : List ℕ} {T : Theory} {R : Reading} {zs : Sexps} {P : List ℕ} {used : ℕ} {table M : List ℕ} {at v w : ℕ}
    (g : Premising text cells T R zs P used table M at v w) where
  pub going_over : length cells ≤ at → Written prefixes text table P M used (judgments T zs R) v w
  unfolding prefix
  going_over h =
      g.onward table v M w (Ok tt)
      (record {
        tree = none;
        now = g.now;
        is = ap (λ z. judgments T z g.now) (walk_over g.walk h) ∙ judgments_none g.now T;
        reads = g.reads;
        words = sym (append-nil (take w M));
        long = refl;
      })

  pub going_atom : {words : List ℕ} {next : Each} → Here cells words at next → Unlisted words → Stopped P M used (judgments T zs R) 11 0
  going_atom h n =
      let f = ahead g.walk h in
      let k = (first_atom f.holds n).1 in
      g.onward table v M w (Err Declared)
      (record {
        now = g.now;
        is = ap (λ z. judgments T z g.now) (f.is ∙ ap (λ x. cons x f.others) k.is) ∙ judgments_atom g.now T _ k.bytes f.others;
        words = refl;
        long = refl;
      })

  module _ (long : length P ≡ PATTERNS) {part : List ℕ} {next : ℕ} (f : Next text cells g.left part next) where
    splits : judgments T g.left g.now ≡ then (predicated T f.inner g.now) (λ t U. then (judgments T f.others U) (λ ts W. ok (more t ts) W))
    splits = ap (λ z. judgments T z g.now) f.is ∙ judgments_more g.now T f.inner f.others

    low : w ≤ length M
    low = omega (arith, g.reads.room, g.long, long)

    pub going_stops : {M' : List ℕ} (x : Question) → Stopped M M' w (predicated T f.inner g.now) (number_of x) (detail_of x) →
        Stopped P M' used (judgments T zs R) (number_of x) (detail_of x)
    going_stops {M'} x q = g.onward table v M' w (Err x) (pair_stopped text (predicated T f.inner g.now) (λ U. judgments T f.others U) splits w M low q)

    pub going_on : {table' M' : List ℕ} {n m : ℕ} → Written prefix text table' M M' w (predicated T f.inner g.now) n m → Premising text cells T R zs P used table' M' next n m
    going_on {M' = M'} {m = m} k =
        let high : m ≤ length M' = omega (arith, k.reads.room, k.long, g.long, long) in
        record {
          left = f.others;
          walk = f.rest;
          now = k.now;
          reads = k.reads;
          long = k.long ∙ g.long;
          onward = λ t v' Q w' r q. g.onward t v' Q w' r (pair_read text (predicated T f.inner g.now) (λ U. judgments T f.others U) splits w M low k high t v' Q w' r q);
        }

-- The loop -------------------------------------------------------------------------------------------------------------------------

-- the same for whatever theory the tables hold
pub record Running (text cells symbols inputs : List ℕ) (known : ℕ) (table₀ : List ℕ) (many : ℕ) (P : List ℕ) (used : ℕ) (table M : List ℕ) (at v w : ℕ) : Type 0 where
  pub goes : (T : Theory) (R : Reading) (zs : Sexps) → SymbolsHeld text symbols inputs known T.symbols → ReadSoFar text table₀ many used R → Holds text cells zs →
      Premising text cells T R zs P used table M at v w

pub running_start : (text cells symbols inputs : List ℕ) (known : ℕ) (table : List ℕ) (many : ℕ) (P : List ℕ) (used : ℕ) →
    Running text cells symbols inputs known table many P used table P 0 many used
running_start text cells symbols inputs known table many P used =
    record { goes = λ T R zs h r k. record { left = zs; walk = walk_start k; now = R; reads = r; long = refl; onward = λ t v' Q w' a q. q } }

module _ {text cells symbols inputs : List ℕ} {known : ℕ} {table₀ : List ℕ} {many : ℕ} {P : List ℕ} {used : ℕ} {table M : List ℕ} {at v w : ℕ}
    (i : Running text cells symbols inputs known table₀ many P used table M at v w) (p : Patterning text cells symbols inputs known table₀ many (length P) used) where
  -- for the theory that is asked for
  pub here : Premising text cells (symbolic p.held.0) p.so_far p.zs P used table M at v w
  here = i.goes (symbolic p.held.0) p.so_far p.zs p.held.1 p.reads p.holds

  module _ {words part : List ℕ} {next : Each} (h : Here cells words at next) (l : Listed words part) where
    next_here : Next text cells here.left part next.at
    next_here = next_list here.walk h l

    pub judging : Patterning text part symbols inputs known table v (length M) w
    judging =
        record {
          zs = next_here.inner;
          holds = next_here.holds;
          held = p.held;
          so_far = here.now;
          reads = here.reads;
          short = p.short;
          long = here.long ∙ p.long;
        }

    pub running_stops : (M' : List ℕ) (x : Question) → ((T : Theory) (R : Reading) (zs : Sexps) → SymbolsHeld text symbols inputs known T.symbols → ReadSoFar text table v w R →
        Holds text part zs → Stopped M M' w (predicated T zs R) (number_of x) (detail_of x)) →
        (T : Theory) (R : Reading) (zs : Sexps) → SymbolsHeld text symbols inputs known T.symbols → ReadSoFar text table₀ many used R →
        Holds text cells zs → Stopped P M' used (judgments T zs R) (number_of x) (detail_of x)
    running_stops M' x q T R zs s y k =
        let o = i.goes T R zs s y k in
        let f = next_list o.walk h l in
        going_stops o p.long f x (q T o.now f.inner s o.reads f.holds)

    pub running_on : {table' : List ℕ} {n : ℕ} {M' : List ℕ} {m : ℕ} → ((T : Theory) (R : Reading) (zs : Sexps) → SymbolsHeld text symbols inputs known T.symbols → ReadSoFar text table v w R →
        Holds text part zs → Written prefix text table' M M' w (predicated T zs R) n m) →
        Running text cells symbols inputs known table₀ many P used table' M' next.at n m
    running_on q =
        record {
          goes = λ T R zs s y k.
              let o = i.goes T R zs s y k in
              let f = next_list o.walk h l in
              going_on o p.long f (q T o.now f.inner s o.reads f.holds);
        }

-- of the reader at the beginning and now
pub record Underway (s t : RuleReader) (cells : List ℕ) (at : ℕ) : Type 0 where
  pub same : SameTables s t
  pub running : Running s.known.text.now cells s.known.rows.now s.known.inputs.now s.known.count s.vars.now s.count s.patterns.now s.used t.vars.now t.patterns.now at t.count t.used

pub same_on : {s t u : RuleReader} → SameTables s t → SameTables t u → SameTables s u
same_on a b = record { known = b.known ∙ a.known; vars = b.vars ∙ a.vars; patterns = b.patterns ∙ a.patterns }
