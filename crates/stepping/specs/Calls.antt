-- The whole check, form by form: what stands between two of its parts, from the beginning to the end, and that all of it is a call as the definition says
-- (`Call`). T, W, M, fs: the tables before the beginning; U, Z, N, gs: as they stand. Assumes nothing.
use Rattle.std.specs.Prelude.{◌≡◌, refl, List, ◌++◌, ℕ, ◌+◌, ◌≤◌, length, take, drop, replicate, Option, Some as some, None as nothing, Result, Ok, Err}
use Rattle.std.proofs.Common.{sym, ap, ◌∙◌, subst, arith, take-append-drop, drop_at, length-append}
use Rattle.rules.specs.Limits.{GOALS, FACTS}
use Rattle.rules.specs.State.{State, Counts as Tally}
use Rattle.rules.specs.Forms.{plus}
use Rattle.questions.specs.declared.Question.{Question}
use Rattle.kernel.specs.Parsed.{TheoryLists}
use Rattle.state.specs.Records.{rows_append, rows_drop, fact_row, fact_foot, fact_rows, fact_feet}
use Rattle.facts.specs.declared.Fact.{Fact}
use Rattle.counts.specs.declared.Counts.{Counts}
use Rattle.counts.specs.Sum.{none, sum}
use Rattle.counts.specs.Counted.{counts_of, counts_sum, counts_none}
use Rattle.running.specs.declared.finish.Report.{Report}
use Rattle.running.specs.declared.refusal.Refusal.{Refusal}
use Rattle.running.specs.declared.refusal.Refusal.TheVariants as refusal
use Rattle.running.specs.declared.stopped.Proved.{Proved}
use Rattle.running.specs.declared.stopped.Stopped.{Stopped}
use Rattle.running.specs.Course.{Underway, Over}
use Rattle.running.specs.Finished.{forms_of, CountedAs, answer_of}
use Rattle.running.specs.Lent.{Working, theory_front, TheoryBehind}
use Rattle.running.specs.Between.{AllLong, Few}
use Rattle.running.specs.ReadBack.{Call}
use Rattle.running.specs.Checking.{tables_of, call_filled}
use Rattle.advancing.specs.declared.advance.Advance.{Advance}
use Rattle.advancing.specs.Stepped.{left_in_proof}
use Rattle.stepping.specs.declared.used.Used.{Used}
use Rattle.stepping.specs.Parts.{front, Long, Behind, refused_by}
use Rattle.stepping.specs.Begun.{Started}
use Rattle.stepping.specs.Going.{Going, Advanced}
use Rattle.stepping.specs.Ending.{Ending, Ended}
use Rattle.stepping.specs.Outcomes.{one_end, not_tables}

-- What stands ------------------------------------------------------------------------------------------------------------------------

-- the tables are long enough, and nothing behind their named parts has changed
pub record Kept (T U : TheoryLists) (W Z : Working) (M N : List ℕ) (fs gs : List Fact) : Type 0 where
  pub all_long : AllLong (length fs) T W M
  pub long : Long U Z gs
  pub theory_behind : TheoryBehind T U
  pub behind : Behind W Z fs gs
  pub list_long : GOALS ≤ length N
  pub list_behind : drop GOALS N ≡ drop GOALS M

-- a form may be left from place p on, behind k forms; c: the counts
pub record Between (theory goals proof : List ℕ) (T U : TheoryLists) (W Z : Working) (M N : List ℕ) (fs gs : List Fact) (u : Used) (p k : ℕ) (c : Counts) : Type 0
  where
    pub kept : Kept T U W Z M N fs gs
    pub S : State
    pub underway : Underway theory goals proof (theory_front U) (front Z gs) u.n u.mark p k S
    pub counted : S.counts ≡ counts_of c
    pub few : Few c k

-- no form is left
pub record Through (theory goals proof : List ℕ) (T U : TheoryLists) (W Z : Working) (M N : List ℕ) (fs gs : List Fact) (u : Used) (r : Result Proved Stopped) : Type 0
  where
    pub kept : Kept T U W Z M N fs gs
    pub S : State
    pub over : Over theory goals proof (theory_front U) (front Z gs) u.n u.mark (forms_of r) S
    pub counted : CountedAs r S

-- The beginning ------------------------------------------------------------------------------------------------------------------------

module _ {theory goals proof : List ℕ} {T U : TheoryLists} {W Z : Working} {M N : List ℕ} {fs gs : List Fact} {v : Used}
    (a : AllLong (length fs) T W M) (n : N ≡ replicate GOALS 0 ++ drop GOALS M) where
  kept : {e : Result (Unit {0}) Stopped} → Started theory goals proof T U W Z fs gs v e → Kept T U W Z M N fs gs
  kept s =
      record {
        all_long = a;
        long = s.long;
        theory_behind = s.theory_behind;
        behind = s.behind;
        list_long = omega (arith, ap length n, length-append (replicate GOALS 0) (drop GOALS M));
        list_behind = ap (drop GOALS) n ∙ drop_at (replicate GOALS 0) (drop GOALS M) GOALS (omega arith);
      }

  pub begun_between : {x : Unit {0}} → Started theory goals proof T U W Z fs gs v (Ok x) → Between theory goals proof T U W Z M N fs gs v 0 0 none
  begun_between s =
      record {
        kept = kept s;
        S = s.opened.S;
        underway = s.opened.course;
        counted = s.opened.counts ∙ sym counts_none;
        few = record { hypotheses = omega arith; inductions = omega arith; inversions = omega arith; instances = omega arith };
      }

  pub begun_through : {s : Stopped} → Started theory goals proof T U W Z fs gs v (Err s) → Through theory goals proof T U W Z M N fs gs v (Err s)
  begun_through s = record { kept = kept s; S = s.opened.S; over = s.opened.course; counted = tt }

-- One form -----------------------------------------------------------------------------------------------------------------------------

module _ {theory goals proof : List ℕ} {T U : TheoryLists} {W Z : Working} {M N : List ℕ} {fs gs : List Fact} {u : Used} {p k : ℕ} {c : Counts}
    (b : Between theory goals proof T U W Z M N fs gs u p k c) where
  -- what `next_form` asks
  abbrev pub going : Going theory goals proof U Z gs u p
  going =
      record {
        theory_long = b.kept.long.theory;
        rest = record { working_long = b.kept.long.working; records_long = b.kept.long.records; k = k; S = b.S; underway = b.underway };
      }

  -- Y, hs, v: the tables then
  module _ {Y : Working} {hs : List Fact} {v : Used} where
    kept_then : {r : Result (Option Advance) Question} → Advanced theory goals proof (theory_front U) Z Y gs hs u v k p b.S r → Kept T U W Y M N fs hs
    kept_then x =
        let o = b.kept.behind.working in
        let w = x.behind.working in
        record {
          all_long = b.kept.all_long;
          long = record { theory = b.kept.long.theory; working = x.working_long; records = x.records_long };
          theory_behind = b.kept.theory_behind;
          behind = record {
            working = record {
              vars = w.vars ∙ o.vars;
              index = w.index ∙ o.index;
              words = w.words ∙ o.words;
              defs = w.defs ∙ o.defs;
              goals = w.goals ∙ o.goals;
              lists = w.lists ∙ o.lists;
            };
            records = x.behind.records ∙ b.kept.behind.records;
          };
          list_long = b.kept.list_long;
          list_behind = b.kept.list_behind;
        }

    pub next_between : {a : Advance} → Advanced theory goals proof (theory_front U) Z Y gs hs u v k p b.S (Ok (some a)) →
        Between theory goals proof T U W Y M N fs hs v a.end (k + 1) (sum c a.counts)
    next_between {a} x =
        let s = x.advanced in
        record {
          kept = kept_then x;
          S = s.after;
          underway = s.underway;
          counted = s.counted ∙ ap (λ (y : Tally). plus y (counts_of a.counts)) b.counted ∙ sym (counts_sum c a.counts);
          few = s.few c b.few;
        }

    pub none_through : Advanced theory goals proof (theory_front U) Z Y gs hs u v k p b.S (Ok nothing) →
        Through theory goals proof T U W Y M N fs hs v (Ok (record { forms = k; counts = c }))
    none_through x = record { kept = kept_then x; S = b.S; over = x.advanced.0; counted = b.counted }

    pub left_through : {q : Question} → Advanced theory goals proof (theory_front U) Z Y gs hs u v k p b.S (Err q) →
        Through theory goals proof T U W Y M N fs hs v (Err (left_in_proof q k))
    left_through x = record { kept = kept_then x; S = b.S; over = x.advanced.0; counted = tt }

-- The end ----------------------------------------------------------------------------------------------------------------------------------

-- a table, its named part first
parted : {A : Type 0} (n : ℕ) (l m : List A) → drop n l ≡ drop n m → l ≡ take n l ++ drop n m
parted n l m e = sym (take-append-drop n l) ∙ ap (λ x. take n l ++ x) e

module _ {theory goals proof : List ℕ} {T U : TheoryLists} {W Z : Working} {M N : List ℕ} {fs gs : List Fact} {u : Used} {e : Result Proved Stopped}
    (t : Through theory goals proof T U W Z M N fs gs u e) where
  -- what `end` asks
  abbrev pub ending : Ending e u Z gs N
  ending =
      record {
        theory = theory;
        goals = goals;
        proof = proof;
        T = theory_front U;
        S = t.S;
        working_long = t.kept.long.working;
        records_long = t.kept.long.records;
        list_long = t.kept.list_long;
        over = t.over;
        counted = t.counted;
      }

  -- for each way in which the forms may have ended
  pub ending_asked : {o : Result Proved Refusal} → o ≡ refused_by e → (f : Result Proved Stopped) → o ≡ refused_by f → Ending f u Z gs N
  ending_asked i f j = subst (λ (x : Result Proved Stopped). Ending x u Z gs N) (one_end i j) ending

  -- and all of it is a call of a check
  pub called : {Y : Working} {O : List ℕ} {hs : List Fact} {r : Result Report Refusal} → Ended theory goals proof Z Y N O gs hs r →
      Call theory goals proof (tables_of T W M fs) (tables_of U Y O hs) (answer_of r) × (drop FACTS hs ≡ drop FACTS fs)
  called {Y} {O} {hs} {r} x =
      let d = x.records ∙ parted FACTS gs fs t.kept.behind.records in (
        subst (λ (V : Working). Call theory goals proof (tables_of T W M fs) (tables_of U V O hs) (answer_of r)) (sym x.rest)
            (call_filled fs hs t.kept.all_long t.kept.theory_behind t.kept.behind.working t.over
            (ap fact_rows d ∙ rows_append fact_row (take FACTS gs) (drop FACTS fs) ∙ ap (λ y. fact_rows (take FACTS gs) ++ y) (rows_drop fact_row 6 (λ f. refl) FACTS fs))
            (ap fact_feet d ∙ rows_append fact_foot (take FACTS gs) (drop FACTS fs) ∙ ap (λ y. fact_feet (take FACTS gs) ++ y) (rows_drop fact_foot 4 (λ f. refl) FACTS fs))
            x.index_is x.finishes (x.list_behind ∙ t.kept.list_behind)),
        ap (drop FACTS) x.records ∙ t.kept.behind.records,
      )

-- Question 1 -----------------------------------------------------------------------------------------------------------------------

-- then `end` asks nothing; that nothing was written is a call too: `call_unfit` of `running/specs/Checking`
pub unfit_asked : {o : Result Proved Refusal} {u : Used} {Z : Working} {gs : List Fact} {N : List ℕ} → o ≡ Err refusal.Tables → (f : Result Proved Stopped) →
    o ≡ refused_by f → Ending f u Z gs N
unfit_asked i f j = not_tables f i j
