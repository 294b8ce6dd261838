-- A result that has come, from all tables to all tables: what `result` answers, where the tables stand for a state. Assumes nothing.
use Rattle.state.specs.Records.{fact_rows, fact_feet}
use Rattle.std.specs.Prelude.{◌≡◌, refl, List, ℕ, ◌≤◌, Result, Ok, Err}
use Rattle.std.proofs.Common.{sym, subst}
use Rattle.rules.specs.Out.{Out}
use Rattle.rules.specs.Find.{change}
use Rattle.rules.specs.Sexp.{Sexps, count}
use Rattle.rules.specs.State.{State}
use Rattle.rules.specs.Forms.{with_made, with_goals, taken_goal}
use Rattle.kernel.specs.Parsed.{TheoryLists}
use Rattle.sexp.specs.Items.{Holds}
use Rattle.terms.specs.declared.store.Mark.{Mark}
use Rattle.terms.specs.Table.{made}
use Rattle.state.specs.declared.sizes.Sizes.{Sizes}
use Rattle.state.specs.Boards.{OnlyRows}
use Rattle.state.specs.Held.{names}
use Rattle.state.specs.Stands.{Texts, Board, board, Stands}
use Rattle.state.specs.Updates.{stands_taken}
use Rattle.questions.specs.declared.Question.{Question}
use Rattle.terms.specs.declared.store.Store.{Store}
use Rattle.state.specs.declared.board.Given.{Given}
use Rattle.state.specs.declared.board.Board.{Board as Lent}
use Rattle.forms.specs.Boards.{StandsIn, texts_of, theory_of}
use Rattle.forms.specs.Results.{TakesResult, ResultTaken, ResultedAs}
use Rattle.forms.specs.Moved.{MovesIn, LeftIn}
use Rattle.forms.specs.Laws.Leaving.{stands_makes}

module _ {X : Texts} {T : TheoryLists} {B : Board} {n : Sizes} {m : Mark} {S : State} (h : Stands X T B n m S) where
  -- what the form is given
  abbrev pub stands_result : {cells : List ℕ} {xs : Sexps} → Holds X.text cells xs → 3 ≤ count xs →
      TakesResult (names X.theory X.goals X.text T.symbols T.inputs B.vars B.defs) B.goals B.facts B.lists n B.index B.words m cells
  stands_result {xs = xs} k l =
      record {
        S = S;
        xs = xs;
        footings = B.footings;
        refers = record { reads = record { spelling = h.spelling; good = h.good }; recorded = h.recorded };
        store = h.store;
        held = h.goals;
        holds = k;
        many = l;
      }

module _ (g : Given) (b c : Lent) (s t : Store) {S : State} (h : StandsIn g b s S) (K : Out State (Unit {0})) (r : Result (Unit {0}) Question)
    (o : OnlyRows b c) (n : c.n ≡ b.n) (a : ResultedAs b c s t S K r) where
  pub result_taken : {u : Unit {0}} → r ≡ Ok u → MovesIn g c t K S.counts
  result_taken {u} e =
      let z : ResultedAs b c s t S K (Ok u) = subst (ResultedAs b c s t S K) e a in
      let y : ResultTaken b.rows.now c.rows.now b.n s.index.now s.words.now t.index.now t.words.now s.mark S K t.mark = z in
      let T = with_goals (with_made S (made t.index.now t.words.now t.mark)) (change S.goals y.k taken_goal) in
      record {
        after = T;
        is = y.is;
        stands = subst (λ (x : Board × Sizes). Stands (texts_of g) (theory_of g) x.0 x.1 t.mark T)
            (λ i. (board (sym o.0 i) t.index.now t.words.now (sym o.1 i) (sym y.rows_are i) (fact_rows (sym o.2 i)) (fact_feet (sym o.2 i)) (sym o.3 i), sym n i))
            (stands_taken (stands_makes h y.makes) y.k y.goal);
        counted = refl;
      }

  pub result_left : {q : Question} → r ≡ Err q → LeftIn b c s t K q
  result_left {q} e =
      let z : ResultedAs b c s t S K (Err q) = subst (ResultedAs b c s t S K) e a in (
        record {
          until = _;
          is = z.0.is;
          makes = z.0.makes;
          rests = λ i. board (o.0 i) t.index.now t.words.now (o.1 i) (z.1 i) (fact_rows (o.2 i)) (fact_feet (o.2 i)) (o.3 i);
        },
        n,
      )
