-- The tables after a check, read back: in their named parts stand the terms, the goals and the facts of the state. Assumes nothing.
use Rattle.std.specs.Prelude.{◌≡◌, refl, ℕ, zero, suc, ◌-◌, ◌*◌, ◌<◌, ◌≤◌, List, length, get_or, take, replicate}
use Rattle.std.proofs.Common.{sym, ap, ◌∙◌, subst, arith, get_or-take, length-take-le}
use Rattle.std.proofs.Math.Seq.{take-append_seam}
use Rattle.rules.specs.Limits.{TERMS, WORDS, GOALS, FACTS, ENTRIES}
use Rattle.rules.specs.State.{State}
use Rattle.rules.specs.Check.{Answer, check}
use Rattle.rules.specs.StateTables.{Tables, Long, Checked}
use Rattle.kernel.specs.Parsed.{TheoryLists}
use Rattle.terms.specs.declared.store.Mark.{Mark}
use Rattle.terms.specs.Table.{run, start, node_at, trees, settled}
use Rattle.terms.specs.Laws.Tables.{trees_same, length_trees}
use Rattle.state.specs.declared.sizes.Sizes.{Sizes}
use Rattle.state.specs.Held.{GoalsHeld, records, Recorded}
use Rattle.state.specs.Used.{sizes_of}
use Rattle.state.specs.Stands.{Texts, Board, Stands, stands_sizes}

-- text: where the names of the goals stand
pub record Read (T : Tables) (S : State) : Type 0 where
  pub text : List ℕ
  pub terms : trees (take (4 * TERMS) T.index) (take WORDS T.words) (length S.made) ≡ S.made
  pub goals : GoalsHeld text (take (6 * GOALS) T.goals) (length S.goals) S.made S.goals
  pub facts : Recorded (records (take (6 * FACTS) T.facts) (take (4 * FACTS) T.footings) (take ENTRIES T.lists)) (sizes_of S) S.made S

-- what a call of `check` promises: the answer and the cells, and that the tables can be read back
pub record Call (theory goals proof : List ℕ) (before after : Tables) (answer : Answer) : Type 0 where
  pub checked : Checked theory goals proof before after answer
  pub read : (Long before → Read after (check theory goals proof).state)

-- Terms are read without the look-up part of the index ---------------------------------------------------------------------------

settled_end : (I : List ℕ) (i : ℕ) → TERMS ≤ length I → i < TERMS → get_or (settled I) i 0 ≡ get_or I i 0
settled_end I i l h =
    let k = length-take-le TERMS I l in
    sym (get_or-take (length (take TERMS I)) (settled I) i 0 (omega arith))
    ∙ ap (λ (r : List ℕ). get_or r i 0) (take-append_seam (take TERMS I) (replicate (3 * TERMS) 0))
    ∙ get_or-take TERMS I i 0 h

settled_start : (I : List ℕ) (i : ℕ) → TERMS ≤ length I → i < TERMS → start (settled I) i ≡ start I i
unfolding start
settled_start I zero l h = refl
settled_start I (suc i) l h = settled_end I i l (omega arith)

pub settled_trees : (I W : List ℕ) (n : ℕ) → TERMS ≤ length I → n ≤ TERMS → trees (settled I) W n ≡ trees I W n
unfolding node_at
settled_trees I W n l h =
    trees_same (settled I) W I W n
    (λ i k. λ j. run W (settled_start I i l (omega arith) j) (settled_end I i l (omega arith) j - settled_start I i l (omega arith) j))

-- Tables that stand for a state ------------------------------------------------------------------------------------------------------

-- the index settled, all else as it stands there
pub stands_read : {X : Texts} {T : TheoryLists} {B : Board} {n : Sizes} {m : Mark} {S : State} (L : Tables) → Stands X T B n m S →
    take (4 * TERMS) L.index ≡ settled B.index → take WORDS L.words ≡ B.words → take (6 * GOALS) L.goals ≡ B.goals →
    take (6 * FACTS) L.facts ≡ B.facts → take (4 * FACTS) L.footings ≡ B.footings → take ENTRIES L.lists ≡ B.lists → Read L S
stands_read {X = X} {B = B} {n = n} {m = m} {S = S} L h ei ew eg ef eb el =
    let z = stands_sizes h in
    let i = h.good.index in
    let r = h.good.room in
    let k : m.terms ≡ length S.made = sym (length_trees B.index B.words m.terms) ∙ ap length h.store in
    record {
      text = X.goals;
      terms =
          (λ j. trees (ei j) (ew j) (length S.made))
          ∙ settled_trees B.index B.words (length S.made) (omega arith) (omega arith)
          ∙ ap (trees B.index B.words) (sym k)
          ∙ h.store;
      goals = subst (λ q. GoalsHeld X.goals q (length S.goals) S.made S.goals) (sym eg)
          (subst (λ q. GoalsHeld X.goals B.goals q S.made S.goals) (ap (λ (w : Sizes). w.goals) z)
          (subst (λ q. GoalsHeld X.goals B.goals n.goals q S.goals) h.store h.goals));
      facts = subst (λ q. Recorded q (sizes_of S) S.made S) (λ j. records (sym ef j) (sym eb j) (sym el j))
          (subst (λ q. Recorded (records B.facts B.footings B.lists) q S.made S) z
          (subst (λ q. Recorded (records B.facts B.footings B.lists) n q S) h.store h.recorded));
    }
