-- From the answers of `add_var` and `add_def` to all tables at once. Each law takes what the call is given from the tables, then its answer.
-- Assumes nothing.
use Rattle.state.specs.Records.{fact_rows, fact_feet}
use Rattle.std.specs.Prelude.{◌≡◌, refl, List, [], ◌∷◌, ◌++◌, ℕ, ◌≤◌, Result, Ok, Err}
use Rattle.std.proofs.Common.{sym, ap, ◌∙◌, subst}
use Rattle.rules.specs.Out.{Out}
use Rattle.rules.specs.Sexp.{Sexps, count}
use Rattle.rules.specs.State.{State}
use Rattle.rules.specs.Forms.{with_made, with_vars, with_defs}
use Rattle.sexp.specs.Items.{Holds}
use Rattle.sexp.specs.NameRows.{NameIn}
use Rattle.kernel.specs.Parsed.{TheoryLists}
use Rattle.terms.specs.declared.store.Mark.{Mark}
use Rattle.terms.specs.Table.{made}
use Rattle.state.specs.declared.sizes.Sizes.{Sizes}
use Rattle.state.specs.Boards.{OnlyVars, OnlyDefs}
use Rattle.state.specs.Held.{text_of, names}
use Rattle.state.specs.Stands.{Texts, Board, board, Stands}
use Rattle.state.specs.Updates.{stands_var, stands_def}
use Rattle.questions.specs.declared.Question.{Question}
use Rattle.terms.specs.declared.store.Store.{Store}
use Rattle.state.specs.declared.board.Given.{Given}
use Rattle.state.specs.declared.board.Board.{Board as Lent}
use Rattle.forms.specs.Halted.{ReadsForm}
use Rattle.forms.specs.Boards.{StandsIn, texts_of, theory_of}
use Rattle.forms.specs.Declares.{AddsVar, VarAdded, VarAs, DefAdded, DefAs}
use Rattle.forms.specs.Moved.{MovesIn, LeftIn}
use Rattle.forms.specs.Laws.Making.{makes_none}
use Rattle.forms.specs.Laws.Leaving.{stands_makes}

module _ {X : Texts} {T : TheoryLists} {B : Board} {n : Sizes} {m : Mark} {S : State} (h : Stands X T B n m S) where
  -- what a form that reads terms is given
  abbrev pub gives_form : {cells : List ℕ} {xs : Sexps} {least : ℕ} → Holds X.text cells xs → least ≤ count xs →
      ReadsForm (names X.theory X.goals X.text T.symbols T.inputs B.vars B.defs) n B.index B.words m cells least
  gives_form {xs = xs} k l = record { S = S; xs = xs; reads = record { spelling = h.spelling; good = h.good }; store = h.store; holds = k; many = l }

  abbrev pub gives_var : {cells : List ℕ} {xs : Sexps} → Holds X.text cells xs → 3 ≤ count xs →
      AddsVar X.theory X.goals X.text T.sorts T.symbols B.vars n cells
  gives_var {xs = xs} k l =
      record {
        S = S;
        xs = xs;
        inputs = T.inputs;
        sorts_are = h.sorts;
        symbols_are = h.spelling.held;
        vars_are = h.spelling.vars;
        holds = k;
        many = l;
        short = h.spelling.short;
      }

-- K: what the definition answers
module _ (g : Given) (b c : Lent) (s : Store) {S : State} (h : StandsIn g b s S) (K : Out State (Unit {0})) (which : ℕ) (r : Result (Unit {0}) Question)
    (o : OnlyVars b c) (a : VarAs g b c which S K r) where
  -- the variable's text is the one that is read
  pub var_taken : text_of g.goals.now g.text.now which ≡ g.text.now → {u : Unit {0}} → r ≡ Ok u → MovesIn g c s K S.counts
  var_taken t {u} e =
      let z : VarAs g b c which S K (Ok u) = subst (VarAs g b c which S K) e a in
      let v : VarAdded g.text.now b.vars.now c.vars.now b.n which S K = z.0 in
      let T = with_vars S (S.vars ++ (v.new ∷ [])) in
      record {
        after = T;
        is = v.is;
        stands = subst (λ (x : Board × Sizes). Stands (texts_of g) (theory_of g) x.0 x.1 s.mark T)
            (λ i. (board (sym v.cells i) s.index.now s.words.now (sym o.0 i) (sym o.1 i) (fact_rows (sym o.2 i)) (fact_feet (sym o.2 i)) (sym o.3 i), sym z.1 i))
            (stands_var h v.new v.end v.room
            (subst (λ l. NameIn l v.new.name) (sym (ap (text_of g.goals.now g.text.now) v.of_text ∙ t)) v.named) v.ends);
        counted = refl;
      }

  pub var_left : {q : Question} → r ≡ Err q → LeftIn b c s s K q
  var_left {q} e =
      let z : VarAs g b c which S K (Err q) = subst (VarAs g b c which S K) e a in (
        record {
          until = S;
          is = z.0;
          makes = makes_none S h.good h.spelling.trees;
          rests = λ i. board (z.1 i) s.index.now s.words.now (o.0 i) (o.1 i) (fact_rows (o.2 i)) (fact_feet (o.2 i)) (o.3 i);
        },
        z.2,
      )

module _ (g : Given) (b c : Lent) (s t : Store) {S : State} (h : StandsIn g b s S) (K : Out State (Unit {0})) (r : Result (Unit {0}) Question)
    (o : OnlyDefs b c) (a : DefAs g b c s t S K r) where
  pub def_taken : {u : Unit {0}} → r ≡ Ok u → MovesIn g c t K S.counts
  def_taken {u} e =
      let z : DefAs g b c s t S K (Ok u) = subst (DefAs g b c s t S K) e a in
      let d : DefAdded g.text.now b.defs.now c.defs.now b.n s.index.now s.words.now t.index.now t.words.now s.mark S K t.mark = z.0 in
      let T = with_defs (with_made S (made t.index.now t.words.now t.mark)) (S.defs ++ (d.new ∷ [])) in
      record {
        after = T;
        is = d.is;
        stands = subst (λ (x : Board × Sizes). Stands (texts_of g) (theory_of g) x.0 x.1 t.mark T)
            (λ i. (board (sym o.0 i) t.index.now t.words.now (sym d.cells i) (sym o.1 i) (fact_rows (sym o.2 i)) (fact_feet (sym o.2 i)) (sym o.3 i), sym z.1 i))
            (stands_def (stands_makes h d.makes) d.new d.end d.term d.room d.named d.there d.ends d.numbered);
        counted = refl;
      }

  pub def_left : {q : Question} → r ≡ Err q → LeftIn b c s t K q
  def_left {q} e =
      let z : DefAs g b c s t S K (Err q) = subst (DefAs g b c s t S K) e a in (
        record {
          until = _;
          is = z.0.is;
          makes = z.0.makes;
          rests = λ i. board (o.0 i) t.index.now t.words.now (z.1 i) (o.1 i) (fact_rows (o.2 i)) (fact_feet (o.2 i)) (o.3 i);
        },
        z.2,
      )
