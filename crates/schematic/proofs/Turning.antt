-- One form of the proof: what is asked of the callees, and that all stands again afterwards, with the counts; and what is left when no form is.
-- Assumes nothing.
use Rattle.std.specs.Prelude.{◌≡◌, ℕ, ◌+◌, ◌≤◌, Option, Result, Ok, Err}
use Rattle.std.proofs.Common.{sym, ap, ◌∙◌, subst, arith}
use Rattle.questions.specs.declared.Question.{Question}
use Rattle.sexp.specs.Never.{never}
use Rattle.rules.specs.Limits.{LENGTH}
use Rattle.rules.specs.State.{Counts as Tally}
use Rattle.rules.specs.Forms.{plus}
use Rattle.terms.specs.declared.store.Store.{Store}
use Rattle.advancing.specs.declared.advance.Scratch.{Scratch}
use Rattle.state.specs.declared.board.Given.{Given}
use Rattle.state.specs.declared.board.Board.{Board}
use Rattle.counts.specs.declared.Counts.{Counts}
use Rattle.counts.specs.Sum.{sum, Fits}
use Rattle.counts.specs.Counted.{counts_of, counts_sum}
use Rattle.running.specs.declared.stopped.Stopped.{Stopped}
use Rattle.running.specs.Between.{Few}
use Rattle.advancing.specs.declared.advance.Advance.{Advance}
use Rattle.advancing.specs.Stepped.{SameScratch, Ready, Stepped, OverIn, left_in_proof, AdvancedAs}
use Rattle.schematic.specs.Ran.{Kept, RanIn}

few_fit : (c m : Counts) (forms : ℕ) → Few c forms → Few m 1 → forms ≤ LENGTH → Fits c m
few_fit c m forms f g l =
    (omega (arith, f.hypotheses, g.hypotheses, l), (omega (arith, f.inductions, g.inductions, l), (omega (arith, f.inversions, g.inversions, l), omega (arith, f.instances, g.instances, l))))

-- what is answered about a form, its question left in the proof behind so many forms
abbrev pub in_proof : {A : Type 0} → ℕ → Result A Question → Result A Stopped
in_proof k (Ok x) = Ok x
in_proof k (Err q) = Err (left_in_proof q k)

module _ {g : Given} {b : Board} {s : Store} {p k : ℕ} {c : Counts} (x : Kept g b s p k c) where
  -- what `next_form` asks
  abbrev pub ready : Ready g b s p
  ready = record { k = k; S = x.S; underway = x.underway }

  pub forms_few : k ≤ LENGTH
  forms_few = omega (arith, x.underway.few, x.underway.high, x.underway.stands.spelling.short)

  module _ (d : Board) (t : Store) where
    module _ {a : Advance} (e : Stepped g b d t k p x.S a) where
      -- what `add` asks
      pub fitting : Fits c a.counts
      fitting = few_fit c a.counts k x.few e.small forms_few

      after : Kept g d t a.end (k + 1) (sum c a.counts)
      after =
          record {
            S = e.after;
            underway = e.underway;
            counted = e.counted ∙ ap (λ (y : Tally). plus y (counts_of a.counts)) x.counted ∙ sym (counts_sum c a.counts);
            few = e.few c x.few;
          }

      pub next : {m : Counts} → m ≡ sum c a.counts → Kept g d t a.end (k + 1) m
      next w = subst (λ (y : Counts). Kept g d t a.end (k + 1) y) (sym w) after

    -- no form is left
    pub ran : OverIn g d t (Ok k) x.S → RanIn g d t (Ok (record { forms = k; counts = c }))
    ran o = record { S = x.S; over = o; counted = x.counted }

    -- or a question is left
    pub left : {y : Stopped} → OverIn g d t (Err y) x.S → RanIn g d t (Err y)
    left o = record { S = x.S; over = o; counted = tt }

    -- what `next_form` answers
    pub stops : (r : Result (Option Advance) Question) {y : Stopped} → AdvancedAs g b d s t k p x.S r → in_proof k r ≡ Err y → OverIn g d t (Err y) x.S
    stops (Ok o) a e = never cc
    stops (Err q) {y} a e = let z : left_in_proof q k ≡ y = cc in subst (λ (w : Stopped). OverIn g d t (Err w) x.S) z a.0

    pub answered : (r : Result (Option Advance) Question) {o : Option Advance} → AdvancedAs g b d s t k p x.S r → in_proof k r ≡ Ok o →
        AdvancedAs g b d s t k p x.S (Ok o)
    answered (Ok w) {o} a e = let z : w ≡ o = cc in subst (λ (w : Option Advance). AdvancedAs g b d s t k p x.S (Ok w)) z a
    answered (Err q) a e = never cc

-- The references stay ----------------------------------------------------------------------------------------------------------------

pub scratch_then : (a b c : Scratch) → SameScratch a b → SameScratch b c → SameScratch a c
scratch_then a b c p q = (q.0 ∙ p.0, q.1 ∙ p.1, q.2 ∙ p.2)
