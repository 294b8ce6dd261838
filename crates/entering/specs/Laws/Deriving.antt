-- Forms of derived facts, and all tables at once: what they are given, and what stands afterwards. Assumes nothing.
use Rattle.state.specs.Records.{fact_rows, fact_feet}
use Rattle.std.specs.Prelude.{refl, List, ℕ, ◌≤◌, Result, Ok, Err}
use Rattle.std.proofs.Common.{sym, subst, arith}
use Rattle.rules.specs.Limits.{PATTERNS}
use Rattle.rules.specs.Out.{Out}
use Rattle.rules.specs.Sexp.{Sexps, count}
use Rattle.rules.specs.State.{State}
use Rattle.rules.specs.Forms.{with_made, plus}
use Rattle.questions.specs.declared.Question.{Question}
use Rattle.sexp.specs.Items.{Holds}
use Rattle.terms.specs.declared.store.Store.{Store}
use Rattle.terms.specs.Table.{made}
use Rattle.state.specs.declared.sizes.Sizes.{Sizes}
use Rattle.state.specs.declared.board.Given.{Given}
use Rattle.state.specs.declared.board.Board.{Board as Lent}
use Rattle.state.specs.Boards.{OnlyFacts}
use Rattle.state.specs.Recording.{with_fact}
use Rattle.state.specs.Stands.{Board, board, Stands}
use Rattle.state.specs.Updates.{stands_derived}
use Rattle.counts.specs.declared.Counts.{Counts}
use Rattle.counts.specs.Counted.{counts_of}
use Rattle.referring.specs.Ids.{IDS}
use Rattle.referring.specs.Recall.{Refers}
use Rattle.referring.specs.Laws.Fronts.{front_room, front_zero}
use Rattle.forms.specs.Boards.{texts_of, theory_of, names_in, StandsIn}
use Rattle.forms.specs.Moved.{MovesIn, LeftIn}
use Rattle.forms.specs.Laws.Leaving.{stands_makes}
use Rattle.entering.specs.declared.derive.Way.{Way}
use Rattle.entering.specs.declared.derive.Way.TheVariants as way
use Rattle.entering.specs.Entered.{AddsInstanceIn, AddsDerivedIn, AddsBy, Spare, SpareFor, EnteredAs, AddedBy, way_act}

-- how many items a form has at least
abbrev pub least_of : Way → ℕ
least_of way.Step = 4
least_of way.Apply = 5
least_of way.Induct = 5
least_of way.InductWith = 6

-- Given --------------------------------------------------------------------------------------------------------------------------------

module _ (g : Given) (b : Lent) (s : Store) {S : State} (h : StandsIn g b s S) {cells : List ℕ} {xs : Sexps} (o : Holds g.text.now cells xs) where
  abbrev pub stands_refers : Refers (names_in g b) (fact_rows b.facts.now) (fact_feet b.facts.now) b.lists.now b.n s.index.now s.words.now s.mark S
  stands_refers = record { reads = record { spelling = h.spelling; good = h.good }; recorded = h.recorded }

  -- what a step is given, and the other forms
  abbrev pub stands_instance : {least : ℕ} → least ≤ count xs → AddsInstanceIn g b s cells least
  stands_instance l = record { form = record { S = S; xs = xs; refers = stands_refers; ruled = h.ruled; holds = o; many = l }; store = h.store }

  abbrev pub stands_form : {least : ℕ} → least ≤ count xs → AddsDerivedIn g b s cells least
  stands_form l = record { form = record { S = S; xs = xs; refers = stands_refers; holds = o; many = l }; store = h.store }

  -- by the way in which the fact is found
  pub stands_adds : (w : Way) → least_of w ≤ count xs → AddsBy w g b s cells
  stands_adds way.Step l = stands_instance l
  stands_adds way.Apply l = stands_form l
  stands_adds way.Induct l = stands_form l
  stands_adds way.InductWith l = stands_form l

  pub adds_entered : (w : Way) → least_of w ≤ count xs → (c : Lent) (t : Store) (r : Result Counts Question) → AddedBy w g b c s t cells r →
      EnteredAs b c s t S (way_act w xs S) r
  adds_entered way.Step l c t r a = a (stands_instance l)
  adds_entered way.Apply l c t r a = a (stands_form l)
  adds_entered way.Induct l c t r a = a (stands_form l)
  adds_entered way.InductWith l c t r a = a (stands_form l)

-- all of the scratch serves each way
pub spare_for : (w : Way) → {ids memo : List ℕ} → Spare ids memo → SpareFor w ids memo
spare_for way.Step s =
    record {
      ids_room = front_room IDS s.ids_zero PATTERNS (omega arith);
      front_zero = front_zero IDS s.ids_zero PATTERNS (omega arith);
      memo_zero = s.memo_zero;
    }
spare_for way.Apply s = s.memo_zero
spare_for way.Induct s = s
spare_for way.InductWith s = s

-- Answered ---------------------------------------------------------------------------------------------------------------------------

module _ (g : Given) (b c : Lent) (s t : Store) {S : State} (h : StandsIn g b s S) (K : Out State (Unit {0})) (o : OnlyFacts b c) where
  pub entered_taken : {u : Counts} → EnteredAs b c s t S K (Ok u) → MovesIn g c t K (plus S.counts (counts_of u))
  entered_taken {u} z =
      let y = z.0 in
      let T = with_fact (with_made S (made t.index.now t.words.now t.mark)) y.new (plus S.counts (counts_of u)) in
      record {
        after = T;
        is = y.is;
        stands = subst (λ (x : Board × Sizes). Stands (texts_of g) (theory_of g) x.0 x.1 t.mark T)
            (λ i. (board (sym o.0 i) t.index.now t.words.now (sym o.1 i) (sym o.2 i) (fact_rows c.facts.now) (fact_feet c.facts.now) c.lists.now, sym z.1 i))
            (stands_derived (stands_makes h y.makes) (plus S.counts (counts_of u)) c.n.entries y.derives y.valid (Ok c.n.entries) y.stored refl);
        counted = refl;
      }

  pub entered_left : (q : Question) → EnteredAs b c s t S K (Err q) → LeftIn b c s t K q
  entered_left q z = (
    record {
      until = _;
      is = z.0.is;
      makes = z.0.makes;
      rests = λ i. board (o.0 i) t.index.now t.words.now (o.1 i) (o.2 i) ((z.1 i).facts) ((z.1 i).footings) ((z.1 i).lists);
    },
    z.2,
  )
