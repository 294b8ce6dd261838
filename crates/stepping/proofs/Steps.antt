-- One form in the named parts of the tables: what is asked of it there, and what it leaves in the whole. Assumes nothing.
use Rattle.std.specs.Prelude.{◌≡◌, refl, List, ◌++◌, ℕ, ◌+◌, ◌*◌, take, drop, Option, Some as some, None as nothing, Result, Ok, Err}
use Rattle.std.proofs.Common.{sym, ◌∙◌, subst}
use Rattle.rules.specs.Limits.{VARIABLES, TERMS, WORDS, DEFS, GOALS, FACTS, ENTRIES}
use Rattle.rules.specs.State.{State}
use Rattle.questions.specs.declared.Question.{Question}
use Rattle.terms.specs.declared.store.Mark.{Mark}
use Rattle.terms.specs.declared.store.Store.{Store}
use Rattle.state.specs.declared.board.Given.{Given}
use Rattle.state.specs.declared.board.Board.{Board as Lent}
use Rattle.state.specs.Records.{fact_rows, fact_feet}
use Rattle.state.specs.Stands.{Texts, texts, Board, board, tables_of, Stands}
use Rattle.facts.specs.declared.Fact.{Fact}
use Rattle.forms.specs.Boards.{theory_of}
use Rattle.running.specs.Lent.{Working, working}
use Rattle.running.specs.Course.{Underway, Over}
use Rattle.advancing.specs.declared.advance.Advance.{Advance}
use Rattle.advancing.specs.Stepped.{Ready, Stay, left_in_proof, AdvancedAs as ExactAs}
use Rattle.stepping.specs.declared.used.Used.{Used}
use Rattle.stepping.specs.Parts.{front}
use Rattle.stepping.specs.Going.{GoingIn, AdvancedAs, Advanced}
use Rattle.stepping.specs.Lends.{working_now}
use Rattle.stepping.proofs.Fronts.{front_are, working_long, records_long, records_are, behind}

-- The parts that are cut -------------------------------------------------------------------------------------------------------------

module _ (W : Working) (fs : List Fact) {a b c d e f : List ℕ} {ys : List Fact} (p : a ≡ take (4 * VARIABLES) W.vars) (q : b ≡ take (4 * TERMS) W.index)
    (r : c ≡ take WORDS W.words) (s : d ≡ take (3 * DEFS) W.defs) (t : e ≡ take (6 * GOALS) W.goals) (u : ys ≡ take FACTS fs)
    (v : f ≡ take ENTRIES W.lists) where
  pub cut_is : front W fs ≡ board a b c d e (fact_rows ys) (fact_feet ys) f
  cut_is = λ i. board (sym p i) (sym q i) (sym r i) (sym s i) (sym t i) (fact_rows (sym u i)) (fact_feet (sym u i)) (sym v i)

-- One form ---------------------------------------------------------------------------------------------------------------------------

-- what is used of the tables
abbrev pub used_of : Lent → Store → Used
used_of b s = record { n = b.n; mark = s.mark }

-- what `next_form` of `advancing` asks
abbrev pub ready : (g : Given) (b : Lent) (s : Store) {W : Working} {fs : List Fact} {p : ℕ} →
    GoingIn g.theory.now g.goals.now g.text.now (theory_of g) W fs (used_of b s) p → front W fs ≡ tables_of b s → Ready g b s p
ready g b s {p = p} h e =
    record {
      k = h.k;
      S = h.S;
      underway = subst (λ (B : Board). Underway g.theory.now g.goals.now g.text.now (theory_of g) B b.n s.mark p h.k h.S) e h.underway;
    }

-- the tables stand for a state, whatever is answered
advanced_stands : (g : Given) (b c : Lent) (t : Store) (k p : ℕ) (S : State) (r : Result (Option Advance) Question) → ExactAs g b c t t k p S r →
    (X : Texts) × (U : State) × Stands X (theory_of g) (tables_of c t) c.n t.mark U
advanced_stands g b c t k p S (Ok (some a)) x = (texts g.theory.now g.goals.now g.text.now, x.after, x.underway.stands)
advanced_stands g b c t k p S (Ok nothing) x = (x.0.X, S, x.0.stands)
advanced_stands g b c t k p S (Err q) x = (x.0.X, S, x.0.stands)

-- what was used of the store before is m, and of no concern
module _ (g : Given) (b c : Lent) (m : Mark) (t : Store) (k p : ℕ) (S : State) where
  -- in the whole tables
  told : (Z : Working) (gs : List Fact) → tables_of c t ≡ front Z gs → (r : Result (Option Advance) Question) → ExactAs g b c t t k p S r →
      AdvancedAs g.theory.now g.goals.now g.text.now (theory_of g) Z gs (record { n = b.n; mark = m }) (used_of c t) k p S r
  told Z gs e (Ok (some a)) x =
      record {
        after = x.after;
        underway = subst (λ (B : Board). Underway g.theory.now g.goals.now g.text.now (theory_of g) B c.n t.mark a.end (k + 1) x.after) e x.underway;
        counted = x.counted;
        small = x.small;
        few = x.few;
        stored = x.stored;
        room = x.room;
        sooner = x.sooner;
      }
  told Z gs e (Ok nothing) x = (subst (λ (B : Board). Over g.theory.now g.goals.now g.text.now (theory_of g) B c.n t.mark (Ok k) S) e x.0, x.1)
  told Z gs e (Err q) x =
      (subst (λ (B : Board). Over g.theory.now g.goals.now g.text.now (theory_of g) B c.n t.mark (Err (left_in_proof q k)) S) e x.0, x.1)

  -- W, fs: the tables before
  module _ (W : Working) (fs : List Fact) {gs : List Fact} (r : Result (Option Advance) Question) (x : ExactAs g b c t t k p S r) (y : Stay b c)
      (v : gs ≡ c.facts.now ++ drop FACTS fs) (w : b.facts.now ≡ take FACTS fs) where
    advanced : Advanced g.theory.now g.goals.now g.text.now (theory_of g) W (working_now (tables_of c t) W) fs gs (record { n = b.n; mark = m }) (used_of c t) k p S r
    advanced =
        let h = (advanced_stands g b c t k p S r x).2 in
        let z = records_are h W c.facts.now refl refl fs v in
        record {
          working_long = working_long h W c.facts.now refl refl fs v;
          records_long = records_long h W c.facts.now refl refl fs v;
          behind = behind h W c.facts.now refl refl fs v;
          same_rows = (λ i. take (6 * b.n.facts) (fact_rows (sym z i))) ∙ y.same_rows ∙ (λ i. take (6 * b.n.facts) (fact_rows (w i)));
          same_feet = (λ i. take (4 * b.n.facts) (fact_feet (sym z i))) ∙ y.same_feet ∙ (λ i. take (4 * b.n.facts) (fact_feet (w i)));
          advanced = told (working_now (tables_of c t) W) gs (front_are h W c.facts.now refl refl fs v) r x;
        }

    -- each table
    pub advanced_as : {vars index words defs goals lists : List ℕ} → vars ≡ c.vars.now ++ drop (4 * VARIABLES) W.vars →
        index ≡ t.index.now ++ drop (4 * TERMS) W.index → words ≡ t.words.now ++ drop WORDS W.words → defs ≡ c.defs.now ++ drop (3 * DEFS) W.defs →
        goals ≡ c.rows.now ++ drop (6 * GOALS) W.goals → lists ≡ c.lists.now ++ drop ENTRIES W.lists →
        Advanced g.theory.now g.goals.now g.text.now (theory_of g) W (working vars index words defs goals lists) fs gs (record { n = b.n; mark = m }) (used_of c t) k p S r
    advanced_as h1 h2 h3 h4 h5 h6 =
        subst (λ (Z : Working). Advanced g.theory.now g.goals.now g.text.now (theory_of g) W Z fs gs (record { n = b.n; mark = m }) (used_of c t) k p S r)
        (λ i. working (sym h1 i) (sym h2 i) (sym h3 i) (sym h4 i) (sym h5 i) (sym h6 i)) advanced
