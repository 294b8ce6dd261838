-- A goal more, from all tables to all tables: what `add_goal` and `add_goal_with` answer, where the tables stand for a state without facts.
-- Assumes nothing.
use Rattle.state.specs.Records.{fact_rows, fact_feet}
use Rattle.std.specs.Prelude.{◌≡◌, refl, List, [], ◌∷◌, ◌++◌, ℕ, ◌-◌, ◌≤◌, length, drop, replicate, Result, Ok, Err}
use Rattle.std.proofs.Common.{sym, ap, ◌∙◌, subst, arith}
use Rattle.rules.specs.Limits.{ENTRIES}
use Rattle.rules.specs.Out.{Out}
use Rattle.rules.specs.Sexp.{Sexps, count}
use Rattle.rules.specs.Tree.{count_trees}
use Rattle.rules.specs.State.{State}
use Rattle.rules.specs.Forms.{with_made, with_goals}
use Rattle.rules.specs.Laws.Sound.{sound, stored_in}
use Rattle.rules.specs.Laws.Row.{filled_fits}
use Rattle.kernel.specs.Parsed.{TheoryLists}
use Rattle.sexp.specs.Items.{Holds}
use Rattle.sexp.specs.NameRows.{NameIn}
use Rattle.terms.specs.declared.store.Mark.{Mark}
use Rattle.terms.specs.Table.{made, tree}
use Rattle.terms.specs.Laws.Numbers.{tree_number, tree_stored}
use Rattle.state.specs.declared.sizes.Sizes.{Sizes}
use Rattle.state.specs.Boards.{OnlyGoals}
use Rattle.state.specs.Held.{names, listed}
use Rattle.state.specs.FactLaws.{length_listed, entries_fit, lists_long}
use Rattle.state.specs.Numbered.{in_sound}
use Rattle.state.specs.Stands.{texts, Board, board, Stands}
use Rattle.state.specs.Updates.{stands_goal}
use Rattle.questions.specs.declared.Question.{Question}
use Rattle.terms.specs.declared.store.Store.{Store}
use Rattle.state.specs.declared.board.Given.{Given}
use Rattle.state.specs.declared.board.Board.{Board as Lent}
use Rattle.forms.specs.Boards.{StandsIn, texts_of, theory_of}
use Rattle.forms.specs.Goals.{AddsGoal, new_goal, GoalAdded, AimedAs}
use Rattle.forms.specs.Moved.{MovesIn, LeftIn}
use Rattle.forms.specs.Laws.Leaving.{stands_makes}

drop_front : (xs ys : List ℕ) (k : ℕ) → k ≡ length xs → drop k (xs ++ ys) ≡ ys
drop_front xs ys k e = ap (λ (j : ℕ). drop j (xs ++ ys)) e ∙ go xs ys
  where
    go : (xs ys : List ℕ) → drop (length xs) (xs ++ ys) ≡ ys
    go [] ys = refl
    go (x ∷ xs) ys = go xs ys

module _ {theory goals : List ℕ} {T : TheoryLists} {B : Board} {n : Sizes} {m : Mark} {S : State} (h : Stands (texts theory goals goals) T B n m S) where
  -- what both forms are given
  abbrev pub stands_adds : {cells : List ℕ} {xs : Sexps} {least : ℕ} → Holds goals cells xs → least ≤ count xs →
      AddsGoal (names theory goals goals T.symbols T.inputs B.vars B.defs) B.goals n B.index B.words m cells least
  stands_adds {xs = xs} k l =
      record {
        S = S;
        xs = xs;
        reads = record { spelling = h.spelling; good = h.good };
        store = h.store;
        held = h.goals;
        used = h.recorded.used;
        fits = entries_fit h.recorded;
        holds = k;
        many = l;
      }

  -- the lists, as the form with hypotheses asks for them
  pub stands_lists : (length B.lists ≡ ENTRIES) × (drop n.entries B.lists ≡ replicate (ENTRIES - n.entries) 0)
  stands_lists = (
    lists_long h.recorded,
    ap (drop n.entries) (h.recorded.lists ∙ filled_fits ENTRIES (listed (made B.index B.words m) S) (omega (arith, length_listed h.recorded, entries_fit h.recorded)))
        ∙ drop_front (listed (made B.index B.words m) S) (replicate (ENTRIES - length (listed (made B.index B.words m) S)) 0) n.entries (sym (length_listed h.recorded))
        ∙ ap (λ (k : ℕ). replicate (ENTRIES - k) 0) (length_listed h.recorded),
  )

-- the text that is read is that of the goals; K: what the definition answers
module _ (g : Given) (b c : Lent) (s t : Store) {S : State} (h : StandsIn g b s S) (same : g.text.now ≡ g.goals.now) (K : Out State (Unit {0}))
    (r : Result (Unit {0}) Question) (o : OnlyGoals b c) (a : AimedAs g b c s t S K r) where
  -- one goal more, where nothing was proved yet
  pub goal_taken : {u : Unit {0}} → r ≡ Ok u → S.facts ≡ [] → MovesIn g c t K S.counts
  goal_taken {u} e none =
      let z : AimedAs g b c s t S K (Ok u) = subst (AimedAs g b c s t S K) e a in
      let y : GoalAdded g.text.now b.rows.now c.rows.now b.lists.now c.lists.now b.n s.index.now s.words.now t.index.now t.words.now s.mark S K
      c.n.entries t.mark = z.0 in
      let M = made t.index.now t.words.now t.mark in
      let p = y.placed in
      let j = tree t.index.now t.words.now t.mark y.judgment in
      let goal = new_goal p.name j y.hyps in
      let T = with_goals (with_made S M) (S.goals ++ (goal ∷ [])) in
      let known : sound.Has M j = in_sound M j (stored_in M j (tree_stored y.makes.grown.good y.judgment y.there)) in
      record {
        after = T;
        is = p.is;
        stands = subst (λ (x : Board × Sizes). Stands (texts_of g) (theory_of g) x.0 x.1 t.mark T)
            (λ i. (board (sym o.0 i) t.index.now t.words.now (sym o.1 i) (sym p.rows_are i) (fact_rows (sym o.2 i)) (fact_feet (sym o.2 i)) (sym y.lists_are i), sym z.1 i))
            (stands_goal (stands_makes h y.makes) goal p.end y.judgment (count_trees y.hyps) c.n.entries none p.room
            (subst (λ l. NameIn l p.name) same p.named) p.ends
            (sym (tree_number y.makes.grown.good y.judgment y.there)) refl refl (record { judgment = known; hyps = y.known }) p.used p.fits);
        counted = refl;
      }

  pub goal_left : {q : Question} → r ≡ Err q → LeftIn b c s t K q
  goal_left {q} e =
      let z : AimedAs g b c s t S K (Err q) = subst (AimedAs g b c s t S K) e a in (
        record {
          until = _;
          is = z.0.is;
          makes = z.0.makes;
          rests = λ i. board (o.0 i) t.index.now t.words.now (o.1 i) (z.1 i) (fact_rows (o.2 i)) (fact_feet (o.2 i)) (z.2 i);
        },
        z.3,
      )
