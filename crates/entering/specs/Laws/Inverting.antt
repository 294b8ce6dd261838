-- The form of an inversion, and all tables at once: what it is given, and what stands afterwards. Assumes nothing.
use Rattle.state.specs.Records.{fact_rows, fact_feet}
use Rattle.std.specs.Prelude.{refl, List, ℕ, ◌≤◌, length, Ok, Err}
use Rattle.std.proofs.Common.{sym, ap, subst}
use Rattle.rules.specs.Out.{Out}
use Rattle.rules.specs.Sexp.{Sexps, count}
use Rattle.rules.specs.State.{State}
use Rattle.rules.specs.Forms.{with_made, with_vars, one_inversion, plus}
use Rattle.rules.proofs.Laws.Below.{MadeBelow}
use Rattle.rules.proofs.Laws.Bounded.{BoundedState}
use Rattle.questions.specs.declared.Question.{Question}
use Rattle.sexp.specs.Items.{Holds}
use Rattle.terms.specs.declared.store.Store.{Store}
use Rattle.terms.specs.Table.{made}
use Rattle.state.specs.declared.sizes.Sizes.{Sizes}
use Rattle.state.specs.declared.board.Given.{Given}
use Rattle.state.specs.declared.board.Board.{Board as Lent}
use Rattle.state.specs.Boards.{OnlyFactsAndVars}
use Rattle.state.specs.Recording.{with_fact}
use Rattle.state.specs.Stands.{Board, board, Stands}
use Rattle.state.specs.Updates.{stands_vars, stands_derived}
use Rattle.counts.specs.declared.Counts.{Counts}
use Rattle.counts.specs.Counted.{counts_of}
use Rattle.forms.specs.Boards.{texts_of, theory_of, StandsIn}
use Rattle.forms.specs.Moved.{MovesIn, LeftIn}
use Rattle.forms.specs.Laws.Leaving.{stands_makes}
use Rattle.entering.specs.Inverted.{AddsInversionIn, InversionAs}
use Rattle.entering.specs.Laws.Deriving.{stands_refers}

module _ (g : Given) (b : Lent) (s : Store) {S : State} (h : StandsIn g b s S) where
  -- what `add_invert` is given
  abbrev pub stands_inversion : BoundedState S → {cells : List ℕ} {xs : Sexps} → Holds g.text.now cells xs → 6 ≤ count xs → AddsInversionIn g b s cells
  stands_inversion k {xs = xs} o l =
      record {
        form = record {
          S = S;
          xs = xs;
          refers = stands_refers g b s h o;
          ruled = h.ruled;
          holds_items = o;
          many = l;
          low = subst (MadeBelow (length S.vars)) (sym h.store) k.made;
        };
        store = h.store;
      }

  module _ (c : Lent) (t : Store) (K : Out State (Unit {0})) (o : OnlyFactsAndVars b c) where
    pub inverted_taken : {u : Counts} → InversionAs g b c s t S K (Ok u) → MovesIn g c t K (plus S.counts (counts_of u))
    inverted_taken {u} z =
        let d = z.0 in
        let y = d.added in
        let N = plus S.counts one_inversion in
        let T = with_fact (with_made (with_vars S d.us) (made t.index.now t.words.now t.mark)) y.new N in
        record {
          after = T;
          is = y.is;
          stands = subst (λ (x : Board × Sizes). Stands (texts_of g) (theory_of g) x.0 x.1 t.mark T)
              (λ i. (board c.vars.now t.index.now t.words.now (sym o.0 i) (sym o.1 i) (fact_rows c.facts.now) (fact_feet c.facts.now) c.lists.now, sym z.1 i))
              (stands_derived (stands_makes (stands_vars h c.n.vars d.held d.behind) y.makes) N c.n.entries y.derives y.valid (Ok c.n.entries) y.stored refl);
          counted = ap (plus S.counts) (sym z.2);
        }

    pub inverted_left : (q : Question) → InversionAs g b c s t S K (Err q) → LeftIn b c s t K q
    inverted_left q z =
        let d = z.0 in (
          record {
            until = _;
            is = d.halts.is;
            makes = d.halts.makes;
            rests = λ i. board (d.vars_same i) t.index.now t.words.now (o.0 i) (o.1 i) ((d.facts_same i).facts) ((d.facts_same i).footings) ((d.facts_same i).lists);
          },
          z.1,
        )
