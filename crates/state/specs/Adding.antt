-- Rows 12 and 13 of question 60: `add_fact` takes a fact where `put_derived` or `put_hypothesis` stored it, and refuses by the same row where they
-- had no room, which leaves the tables as they were. Assumes nothing.
use Rattle.std.specs.Prelude.{◌≡◌, ℕ, ◌+◌, ◌<◌, ◌≤◌, true, false, List, length, Result, Ok, Err}
use Rattle.std.proofs.Common.{sym, ap, ◌∙◌, subst, arith}
use Rattle.std.proofs.Math.Decide.{dec_lt}
use borrow.Author.Tests.{lt-ltb, le-ltb, le-leb, lt-leb}
use Rattle.rules.specs.Limits.{FACTS, ENTRIES}
use Rattle.rules.specs.Out.{ok, refuse, then}
use Rattle.rules.specs.Store.{Made}
use Rattle.rules.specs.State.{State, Fact, Counts, fact_entries, entries}
use Rattle.rules.specs.Forms.{add_fact, plus}
use Rattle.state.specs.declared.sizes.Sizes.{Sizes}
use Rattle.questions.specs.declared.Row.{Row}
use Rattle.questions.specs.Numbers.{row_number}
use Rattle.state.specs.Held.{Records, Recorded}
use Rattle.state.specs.Rows.{PutAs}
use Rattle.state.specs.Recording.{with_fact}

-- The definition -----------------------------------------------------------------------------------------------------------------

module _ (f : Fact) (c : Counts) (S : State) where
  pub add_fact_ok : length S.facts < FACTS → entries S + fact_entries f ≤ ENTRIES → add_fact f c S ≡ ok tt (with_fact S f (plus S.counts c))
  unfolding add_fact then
  add_fact_ok l e = rw (add_fact, lt-ltb (length S.facts) FACTS l, le-leb (entries S + fact_entries f) ENTRIES e)

  pub add_fact_12 : FACTS ≤ length S.facts → add_fact f c S ≡ refuse 60 12 S
  unfolding add_fact then
  add_fact_12 l = rw (add_fact, le-ltb (length S.facts) FACTS l)

  pub add_fact_13 : length S.facts < FACTS → ENTRIES < entries S + fact_entries f → add_fact f c S ≡ refuse 60 13 S
  unfolding add_fact then
  add_fact_13 l e = rw (add_fact, lt-ltb (length S.facts) FACTS l, lt-leb (entries S + fact_entries f) ENTRIES e)

-- A fact that is put -------------------------------------------------------------------------------------------------------------

module _ {R : Records} {n : Sizes} {M : Made} {S : State} (f : Fact) (c : Counts) (Q : Records) (row hyps footing : List ℕ) (k : ℕ) (r : Result ℕ Row)
    (h : Recorded R n M S) (p : PutAs R Q n row hyps footing k r) (w : k ≡ fact_entries f) where
  pub put_ok : {e : ℕ} → r ≡ Ok e → add_fact f c S ≡ ok tt (with_fact S f (plus S.counts c))
  put_ok q =
      let s = subst (PutAs R Q n row hyps footing k) q p in
      add_fact_ok f c S (omega (arith, h.many, s.0.room)) (omega (arith, h.used, s.1, s.2))

  -- and the tables are as they were
  pub put_full : {d : Row} → r ≡ Err d → (add_fact f c S ≡ refuse 60 (row_number d) S) × (Q ≡ R)
  put_full {d} q =
      let s = subst (PutAs R Q n row hyps footing k) q p in (
        elim (dec_lt n.facts FACTS) [
          | yes l ↦
              add_fact_13 f c S (omega (arith, h.many)) (let z = s.2 l in omega (arith, h.used))
              ∙ ap (λ j. refuse 60 j S) (sym (s.1 ∙ ap (λ b. elim b [ true ↦ 13 | false ↦ 12 ]) (lt-ltb n.facts FACTS l)))
          | no l ↦
              add_fact_12 f c S (omega (arith, h.many))
              ∙ ap (λ j. refuse 60 j S) (sym (s.1 ∙ ap (λ b. elim b [ true ↦ 13 | false ↦ 12 ]) (le-ltb n.facts FACTS (omega arith))))
        ],
        s.0,
      )
