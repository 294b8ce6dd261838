-- From the answers of `add_hyp` and `add_rule_hyp` to all tables at once: K is what the definition answers, `add_hyp` or `add_rule_hyp`. Assumes nothing.
use Rattle.state.specs.Records.{fact_rows, fact_feet}
use Rattle.std.specs.Prelude.{◌≡◌, refl, List, ℕ, ◌≤◌, Result, Ok, Err}
use Rattle.std.proofs.Common.{sym, subst}
use Rattle.rules.specs.Out.{Out}
use Rattle.rules.specs.Sexp.{Sexps, count}
use Rattle.rules.specs.State.{State}
use Rattle.rules.specs.Forms.{with_made, one_hypothesis, plus}
use Rattle.sexp.specs.Items.{Holds}
use Rattle.kernel.specs.Parsed.{TheoryLists}
use Rattle.terms.specs.declared.store.Mark.{Mark}
use Rattle.terms.specs.Table.{made}
use Rattle.state.specs.declared.sizes.Sizes.{Sizes}
use Rattle.state.specs.Boards.{OnlyHyps, records_of}
use Rattle.state.specs.Held.{names, records}
use Rattle.state.specs.Recording.{with_fact}
use Rattle.state.specs.Stands.{Texts, Board, board, Stands}
use Rattle.state.specs.Updates.{stands_hypothesis}
use Rattle.questions.specs.declared.Question.{Question}
use Rattle.terms.specs.declared.store.Store.{Store}
use Rattle.state.specs.declared.board.Given.{Given}
use Rattle.state.specs.declared.board.Board.{Board as Lent}
use Rattle.forms.specs.Boards.{StandsIn, texts_of, theory_of}
use Rattle.forms.specs.Assumed.{AddsFact, HypAdded, AssumedAs}
use Rattle.forms.specs.Moved.{MovesIn, LeftIn}
use Rattle.forms.specs.Laws.Leaving.{stands_makes}

module _ {X : Texts} {T : TheoryLists} {B : Board} {n : Sizes} {m : Mark} {S : State} (h : Stands X T B n m S) where
  -- what the forms are given
  abbrev pub gives_fact : {cells : List ℕ} {xs : Sexps} {least : ℕ} → Holds X.text cells xs → least ≤ count xs →
      AddsFact (names X.theory X.goals X.text T.symbols T.inputs B.vars B.defs) B.facts B.lists n B.index B.words m cells least
  gives_fact {xs = xs} k l =
      record {
        S = S;
        xs = xs;
        footings = B.footings;
        refers = record { reads = record { spelling = h.spelling; good = h.good }; recorded = h.recorded };
        store = h.store;
        holds = k;
        many = l;
      }

module _ (g : Given) (b c : Lent) (s t : Store) {S : State} (h : StandsIn g b s S) (K : Out State (Unit {0})) (r : Result (Unit {0}) Question)
    (o : OnlyHyps b c) (a : AssumedAs b c (fact_feet b.facts.now) s t S K r) where
  pub assumed_taken : {u : Unit {0}} → r ≡ Ok u → MovesIn g c t K (plus S.counts one_hypothesis)
  assumed_taken {u} e =
      let z : AssumedAs b c (fact_feet b.facts.now) s t S K (Ok u) = subst (AssumedAs b c (fact_feet b.facts.now) s t S K) e a in
      let y : HypAdded (records_of b) (records (fact_rows c.facts.now) (fact_feet b.facts.now) c.lists.now) b.n s.index.now s.words.now t.index.now t.words.now s.mark S K
      c.n.entries t.mark = z.0 in
      let T = with_fact (with_made S (made t.index.now t.words.now t.mark)) y.new (plus S.counts one_hypothesis) in
      record {
        after = T;
        is = y.is;
        stands = subst (λ (x : Board × Sizes). Stands (texts_of g) (theory_of g) x.0 x.1 t.mark T)
            (λ i. (board (sym o.0 i) t.index.now t.words.now (sym o.1 i) (sym o.2 i) (fact_rows c.facts.now) (sym o.3 i) c.lists.now, sym z.1 i))
            (stands_hypothesis (stands_makes h y.makes) (plus S.counts one_hypothesis) c.n.entries y.assumes y.valid (Ok c.n.entries) y.stored refl);
        counted = refl;
      }

  pub assumed_left : {q : Question} → r ≡ Err q → LeftIn b c s t K q
  assumed_left {q} e =
      let z : AssumedAs b c (fact_feet b.facts.now) s t S K (Err q) = subst (AssumedAs b c (fact_feet b.facts.now) s t S K) e a in (
        record {
          until = _;
          is = z.0.is;
          makes = z.0.makes;
          rests = λ i. board (o.0 i) t.index.now t.words.now (o.1 i) (o.2 i) ((z.1 i).facts) (o.3 i) ((z.1 i).lists);
        },
        z.2,
      )
