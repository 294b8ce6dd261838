-- One form: what is asked, and what stands behind its end, behind a question and behind a form that is taken. Assumes nothing.
use Rattle.std.specs.Prelude.{◌≡◌, List, ◌++◌, ℕ, ◌+◌, ◌-◌, ◌≤◌, length, take, drop, replicate, Option, Some as some, None as nothing, Result, Ok, Err}
use Rattle.std.proofs.Common.{sym, ap, ◌∙◌, subst, arith, append-nil, length-append}
use Rattle.std.proofs.lemmas.List.{length-replicate}
use Rattle.rules.specs.Limits.{LENGTH}
use Rattle.rules.specs.State.{State}
use Rattle.rules.specs.Forms.{take_form}
use Rattle.questions.specs.declared.Question.{Question}
use Rattle.sexp.specs.Encode.{encode}
use Rattle.sexp.specs.Reads.{Clear, ReadRight}
use Rattle.sexp.specs.Through.{Legible}
use Rattle.sexp.specs.ReadLaws.{FormIs, at_end, at_refused, at_form, form_cleared}
use Rattle.sexp.specs.declared.sexp.Form.{Form}
use Rattle.kernel.specs.Parsed.{Formed}
use Rattle.terms.specs.declared.store.Mark.{Mark}
use Rattle.terms.specs.declared.store.Store.{Store}
use Rattle.state.specs.declared.sizes.Sizes.{Sizes}
use Rattle.state.specs.Stands.{facts_room, Stands, tables_of}
use Rattle.state.specs.declared.board.Given.{Given}
use Rattle.state.specs.declared.board.Board.{Board}
use Rattle.counts.specs.declared.Counts.{Counts as Counted}
use Rattle.counts.specs.Counted.{counts_of}
use Rattle.counts.specs.Sum.{sum}
use Rattle.forms.specs.Boards.{texts_of, theory_of, StandsIn}
use Rattle.taking.specs.Taking.{TakesFormIn, TakenIn}
use Rattle.running.specs.Course.{Over}
use Rattle.running.specs.Between.{Few}
use Rattle.advancing.specs.Stepped.{Idle, Ready, OverIn, Stay, Stepped, left_in_proof}
use Rattle.advancing.proofs.Counting.{OneAtMost, taken_few}
use Rattle.advancing.proofs.Growing.{taken_rows, unmoved_rows}
use Rattle.advancing.proofs.Courses.{over_ended, over_unread, over_form, underway_on}

-- Counts -----------------------------------------------------------------------------------------------------------------------------

few_one : (m : Counted) (n : ℕ) → OneAtMost (counts_of m) n → n ≤ LENGTH → Few m 1
few_one m n h l =
    record {
      hypotheses = omega (arith, h.hypotheses);
      inductions = omega (arith, h.inductions);
      inversions = omega (arith, h.inversions);
      instances = omega (arith, h.instances);
    }

few_more : (m : Counted) (forms : ℕ) → Few m 1 → (c : Counted) → Few c forms → Few (sum c m) (forms + 1)
few_more m forms k c h =
    record {
      hypotheses = omega (arith, h.hypotheses, k.hypotheses);
      inductions = omega (arith, h.inductions, k.inductions);
      inversions = omega (arith, h.inversions, k.inversions);
      instances = omega (arith, h.instances, k.instances);
    }

-- What is asked ----------------------------------------------------------------------------------------------------------------------

module _ (g : Given) (b : Board) (s : Store) {S : State} (h : StandsIn g b s S) where
  -- the tables stand for the same state
  module _ (c : Board) (t : Store) (j : StandsIn g c t S) (e : c.n ≡ b.n) (k : t.mark ≡ s.mark) where
    pub unmoved : Stands (texts_of g) (theory_of g) (tables_of c t) b.n s.mark S
    unmoved = subst (λ (q : Sizes × Mark). Stands (texts_of g) (theory_of g) (tables_of c t) q.0 q.1 S) (λ i. (e i, k i)) j

    pub unmoved_stay : Stay b c
    unmoved_stay = let w = unmoved_rows h unmoved in record { same_rows = w.same_rows; same_feet = w.same_feet }

module _ {g : Given} {b : Board} {s : Store} {at : ℕ} (r : Ready g b s at) {cells ids memo : List ℕ} (i : Idle cells ids memo) where
  cells_long : length cells ≡ LENGTH
  cells_long = ap length i.cells_zero ∙ length-replicate {A = ℕ} LENGTH 0

  short : length g.text.now ≤ LENGTH
  short = r.underway.stands.spelling.short

  clean : Clear cells
  clean = i.cells_zero ∙ ap (λ n. replicate n 0) (sym cells_long)

  -- what `read_form` asks
  pub read_asks : Legible g.text.now cells
  read_asks = record { short = short; fits = omega (arith, short, cells_long); clear = clean }

  pub zeros_again : {v : List ℕ} → v ≡ replicate (length cells) 0 → Idle v ids memo
  zeros_again e = record { cells_zero = e ∙ ap (λ n. replicate n 0) cells_long; ids_zero = i.ids_zero; memo_zero = i.memo_zero }

  module _ {v : List ℕ} {o : Result (Option Form) Question} (k : ReadRight g.text.now at cells v o) where
    -- no further form
    pub at_the_end : o ≡ Ok nothing → OverIn g b s (Ok r.k) r.S × Idle v ids memo
    at_the_end e = let a = at_end k e in (over_ended r.underway a.0, zeros_again a.1)

    -- a question is left in what is read
    pub at_unread : {q : Question} → o ≡ Err q → OverIn g b s (Err (left_in_proof q r.k)) r.S × Idle v ids memo
    at_unread {q} e = let a = at_refused k e in (over_unread r.underway q a.1 a.0, zeros_again a.2)

    module _ {f : Form} (e : o ≡ Ok (some f)) where
      abbrev form : FormIs g.text.now at cells v f.end f.cells
      form = at_form k read_asks.fits e

      pub used_few : f.cells ≤ LENGTH
      used_few = omega (arith, form.room, cells_long)

      pub used_inside : f.cells ≤ length v
      used_inside =
          let w : List ℕ = replicate (length cells - f.cells) 0 in
          omega (arith, ap length form.cells, length-append (encode form.form) w, form.size)

      pub formed : Formed g.text.now (take f.cells v) form.form
      unfolding encode
      formed = record { encoded = form.holds.cells ∙ append-nil (encode form.form); spelt = form.holds.spelt.0 }

      -- what `take_form` asks
      abbrev pub form_asks : TakesFormIn g b s (take f.cells v)
      form_asks = record { S = r.S; x = form.form; stands = r.underway.stands; bounded = r.underway.bounded.bounded; formed = formed }

      pub cleared : {x ids' memo' : List ℕ} → x ≡ replicate f.cells 0 ++ drop f.cells v → ids' ≡ ids → memo' ≡ memo → Idle x ids' memo'
      cleared {x} z l m =
          record {
            cells_zero = form_cleared form x z ∙ ap (λ n. replicate n 0) cells_long;
            ids_zero = l ∙ i.ids_zero;
            memo_zero = m ∙ i.memo_zero;
          }

      -- c, t: the tables and the store afterwards
      module _ (c : Board) (t : Store) where
        -- it is refused
        module _ (q : Question) (a : TakenIn g b c s t r.S (take_form form.form r.S) (Err q)) where
          pub form_refused : OverIn g c t (Err (left_in_proof q r.k)) r.S
          form_refused =
              subst (λ (z : Sizes × Mark). Over g.theory.now g.goals.now g.text.now (theory_of g) (tables_of c t) z.0 z.1 (Err (left_in_proof q r.k)) r.S)
              (λ i. (sym a.2 i, sym a.3 i))
              (over_form r.underway form q a.0.until (unmoved g b s r.underway.stands c t a.1 a.2 a.3) a.0.is)

          pub refused_stay : Stay b c
          refused_stay = unmoved_stay g b s r.underway.stands c t a.1 a.2 a.3

        -- it is taken
        module _ (d : Counted) (a : TakenIn g b c s t r.S (take_form form.form r.S) (Ok d)) where
          pub taken_stay : Stay b c
          taken_stay =
              let w = taken_rows r.underway.stands a.stands form.form a.is in record { same_rows = w.same_rows; same_feet = w.same_feet }

          pub form_taken : Stepped g b c t r.k at r.S (record { end = f.end; counts = d })
          form_taken =
              let w = taken_rows r.underway.stands a.stands form.form a.is in
              let n = taken_few form.form r.S a.after (counts_of d) a.is a.counted in
              let z = few_one d (length (encode form.form)) n (omega (arith, form.size, used_few)) in
              record {
                after = a.after;
                underway = underway_on r.underway form a.is a.stands;
                counted = a.counted;
                small = z;
                few = few_more d r.k z;
                stored = w.many;
                room = facts_room a.stands;
                sooner = form.on;
              }
