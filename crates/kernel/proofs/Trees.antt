-- A term from its parts: what the readers of terms, arguments and judgments answer. Assumes nothing.
use mathlib.Core.Path.{◌≡◌, sym, ap, ◌∙◌}
use Prim.Native.Nat.{ℕ, suc, ◌+◌, ◌-◌, ◌<◌, ◌≤◌}
use mathlib.Core.List.{List, [], ◌∷◌, ◌++◌}
use native.Mathlib.Omega.{arith}
use native.Mathlib.Numerals.{add-one}
use lib.ListN.{length, get_or, take, drop, length-append}
use lib.Seq.{drop-cons, take-take, take-append-le, take_all, length-take-le}
use Rattle.rules.specs.Limits.{LENGTH, PATTERNS}
use Rattle.rules.specs.Out.{Out, ok, then}
use Rattle.rules.specs.Sexp.{Sexp, Sexps, cons, count}
use Rattle.rules.specs.Tree.{Tree, Trees, app, more}
use Rattle.rules.specs.Theory.{Theory, Symbol, no_symbol, inputs}
use Rattle.rules.specs.TheoryTables.{prefix, prefixes}
use Rattle.rules.specs.Laws.Row.{append_assoc}
use Rattle.rules.specs.Declare.{Reading, pattern, patterns}
use Rattle.rules.specs.Laws.PatternSteps.{worded, patterns_more}
use Rattle.sexp.specs.declared.items.Item.{Item}
use Rattle.kernel.specs.Held.{SymbolsHeld}
use Rattle.kernel.specs.Reading.{ReadSoFar, Written, Stopped, PatternRead, Opened, Placed, Arguing}
use Rattle.std.specs.Prelude.{Result, Ok, Err}
use Rattle.questions.specs.declared.Question.{Question}
use Rattle.sexp.specs.FirstItem.{ItemFirst}

-- some theory with these symbols
abbrev pub symbolic : List Symbol → Theory
symbolic ss = record { sorts = []; symbols = ss; rules = [] }

-- words that were there stay there, where more were written behind them
pub kept_front : (P M Q w : List ℕ) (used next : ℕ) → used ≤ length P → take next M ≡ take used P ++ w → take next Q ≡ take next M → used ≤ next → take used Q ≡ take used P
kept_front P M Q w used next l e f m =
    let n : length (take used P) ≡ used = length-take-le used P l in
    sym (take-take used next Q m) ∙ ap (take used) (f ∙ e) ∙ take-append-le used (take used P) w (omega (arith, n))
    ∙ take_all used (take used P) (omega (arith, n))

-- how long the words are
pub longer : (P Q w : List ℕ) (used next : ℕ) → used ≤ length P → next ≤ length Q → take next Q ≡ take used P ++ w → used ≤ next
longer P Q w used next l m e =
    omega (arith, ap length e, length-append (take used P) w, length-take-le used P l, length-take-le next Q m)

-- A list -------------------------------------------------------------------------------------------------------------------------

module _ {text cells P M : List ℕ} {used : ℕ} {T : Theory} {R : Reading} {zs : Sexps} {given : Out Reading Tree} {c next : ℕ} (o : Opened text cells P M used T R zs given c next)
    (l : used ≤ length P) where
  pub list_read : (table : List ℕ) (n : ℕ) (Q : List ℕ) (m : ℕ) (r : Result (Unit {0}) Question) →
      PatternRead prefixes text table n M Q next m (patterns T o.others (inputs T c) (worded R)) r →
      PatternRead prefix text table n P Q used m given r
  unfolding then prefix
  list_read table n Q m (Ok u) k =
      record {
        tree = app c k.tree;
        now = k.now;
        is = o.asks ∙ ap (λ z. then z (λ ts W. ok (app c ts) W)) k.is;
        reads = k.reads;
        words = k.words ∙ ap (λ z. z ++ prefixes k.tree) o.words ∙ append_assoc (take used P) (c ∷ []) (prefixes k.tree);
        long = k.long ∙ o.long;
      }
  list_read table n Q m (Err e) k =
      record {
        now = k.now;
        is = o.asks ∙ ap (λ z. then z (λ ts W. ok (app c ts) W)) k.is;
        words = kept_front P M Q (c ∷ []) used next l o.words k.words (omega (arith, o.nexts));
        long = k.long ∙ o.long;
      }

  pub opened_reads : {table : List ℕ} {n : ℕ} → ReadSoFar text table n used R → ReadSoFar text table n next (worded R)
  opened_reads h = record { held = h.held; words = omega (arith, h.words, o.nexts); room = o.room }

  pub opened_placed : Placed T.symbols c 0 o.others
  unfolding inputs
  opened_placed = record { known = o.known; many = omega (arith, o.many) }

-- one tree and others behind it
module _ (text : List ℕ) {given : Out Reading Trees} (this : Out Reading Tree) (others : Reading → Out Reading Trees)
    (splits : given ≡ then this (λ t U. then (others U) (λ ts W. ok (more t ts) W))) (used : ℕ) (P : List ℕ) (l : used ≤ length P) where
  pub pair_stopped : {M : List ℕ} {a d : ℕ} → Stopped P M used this a d → Stopped P M used given a d
  unfolding then
  pair_stopped w =
      record { now = w.now; is = splits ∙ ap (λ z. then z (λ t U. then (others U) (λ ts W. ok (more t ts) W))) w.is; words = w.words; long = w.long }

  module _ {table M : List ℕ} {n m : ℕ} (w : Written prefix text table P M used this n m) (g : m ≤ length M) where
    so_far : given ≡ then (others w.now) (λ ts W. ok (more w.tree ts) W)
    unfolding then
    so_far = splits ∙ ap (λ z. then z (λ t U. then (others U) (λ ts W. ok (more t ts) W))) w.is

    pub pair_read : (table' : List ℕ) (v : ℕ) (Q : List ℕ) (u : ℕ) (r : Result (Unit {0}) Question) → PatternRead prefixes text table' v M Q m u (others w.now) r →
        PatternRead prefixes text table' v P Q used u given r
    unfolding then prefix
    pair_read table' v Q u (Ok y) q =
        record {
          tree = more w.tree q.tree;
          now = q.now;
          is = so_far ∙ ap (λ z. then z (λ ts W. ok (more w.tree ts) W)) q.is;
          reads = q.reads;
          words = q.words ∙ ap (λ z. z ++ prefixes q.tree) w.words ∙ append_assoc (take used P) (prefix w.tree) (prefixes q.tree);
          long = q.long ∙ w.long;
        }
    pair_read table' v Q u (Err e) q =
        record {
          now = q.now;
          is = so_far ∙ ap (λ z. then z (λ ts W. ok (more w.tree ts) W)) q.is;
          words = kept_front P M Q (prefix w.tree) used m l w.words q.words (longer P M (prefix w.tree) used m l g w.words);
          long = q.long ∙ w.long;
        }

-- Arguments ----------------------------------------------------------------------------------------------------------------------

-- the sort of the next argument
module _ {ss : List Symbol} {c k : ℕ} {zs : Sexps} (p : Placed ss c k zs) {x : Sexp} {ys : Sexps} (e : zs ≡ cons x ys) where
  count_more : count zs ≡ suc (count ys)
  unfolding count
  count_more = ap count e

  pub placed_inside : k < length (get_or ss c no_symbol).inputs
  placed_inside = omega (arith, p.many, count_more)

  pub placed_next : Placed ss c (k + 1) ys
  placed_next = record { known = p.known; many = omega (arith, p.many, count_more) }

module _ {text cells : List ℕ} {zs : Sexps} {item : Item} {next k c sort : ℕ} (T : Theory) (R : Reading) (f : ItemFirst text cells zs item next) (p : Placed T.symbols c k zs)
    (s : sort ≡ get_or (get_or T.symbols c no_symbol).inputs k 0) where
  splits : patterns T zs (drop k (inputs T c)) R ≡ then (pattern T f.x sort R) (λ t U. then (patterns T f.ys (drop (k + 1) (inputs T c)) U) (λ ts W. ok (more t ts) W))
  unfolding inputs
  splits =
      let d : drop k (inputs T c) ≡ sort ∷ drop (k + 1) (inputs T c) =
      drop-cons (get_or T.symbols c no_symbol).inputs k 0 (placed_inside p f.is)
      ∙ (λ i. sym s i ∷ drop (sym (add-one k) i) (get_or T.symbols c no_symbol).inputs) in
      ap (λ z. patterns T z (drop k (inputs T c)) R) f.is ∙ ap (λ z. patterns T (cons f.x f.ys) z R) d ∙ patterns_more R T f.x f.ys sort (drop (k + 1) (inputs T c))

  module _ (used : ℕ) (P : List ℕ) (l : used ≤ length P) where
    pub arguments_stopped : {M : List ℕ} {a d : ℕ} → Stopped P M used (pattern T f.x sort R) a d → Stopped P M used (patterns T zs (drop k (inputs T c)) R) a d
    arguments_stopped w = pair_stopped text (pattern T f.x sort R) (λ U. patterns T f.ys (drop (k + 1) (inputs T c)) U) splits used P l w

    pub arguments_read : {table M : List ℕ} {n m : ℕ} (w : Written prefix text table P M used (pattern T f.x sort R) n m) → m ≤ length M →
        (table' : List ℕ) (v : ℕ) (Q : List ℕ) (u : ℕ) (r : Result (Unit {0}) Question) →
        PatternRead prefixes text table' v M Q m u (patterns T f.ys (drop (k + 1) (inputs T c)) w.now) r →
        PatternRead prefixes text table' v P Q used u (patterns T zs (drop k (inputs T c)) R) r
    arguments_read w g = pair_read text (pattern T f.x sort R) (λ U. patterns T f.ys (drop (k + 1) (inputs T c)) U) splits used P l w g

-- What callees are given ---------------------------------------------------------------------------------------------------------

-- the arguments behind a head
pub arguing_inner : {text cells symbols inputs table P M : List ℕ} {known n used c next : ℕ} {R : Reading} {ss : List Symbol} {zs : Sexps} {given : Out Reading Tree} →
    (o : Opened text cells P M used (symbolic ss) R zs given c next) → SymbolsHeld text symbols inputs known ss → ReadSoFar text table n used R → length text ≤ LENGTH → length P ≡ PATTERNS →
    Arguing text (take (length cells - 1) (drop 1 cells)) symbols inputs known table n (length M) next c
arguing_inner {P = P} {used = used} {R = R} {ss = ss} o h r s l =
    let m : used ≤ length P = omega (arith, r.room, l) in
    record {
      given = record { zs = o.others; holds = o.rest; held = (ss, h); so_far = worded R; reads = opened_reads o m r; short = s; long = o.long ∙ l };
      placed = opened_placed o m;
    }
