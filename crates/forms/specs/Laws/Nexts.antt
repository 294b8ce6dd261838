-- A form of the proof that numbers its own fact: question 31 or 32, or what the form itself answers; and how many facts there are. Assumes nothing.
use Rattle.std.specs.Prelude.{◌≡◌, refl, List, ℕ, ◌≤◌}
use Rattle.std.proofs.Common.{◌∙◌}
use Rattle.rules.specs.Out.{ok, refuse, then, Act}
use Rattle.rules.specs.Sexp.{Sexps, count}
use Rattle.rules.specs.Tags.{Tag, a_step, a_hyp, a_rule_hyp, an_induct, an_induct_with, an_apply, an_invert}
use Rattle.rules.specs.State.{State}
use Rattle.rules.specs.Forms.{next, perform, add_step, add_hyp, add_rule_hyp, add_induct, add_induct_with, add_apply, add_invert}
use Rattle.rules.specs.Laws.Store.{then_ok, then_refuse}
use Rattle.sexp.specs.Items.{Holds}
use Rattle.kernel.specs.Parsed.{TheoryLists}
use Rattle.terms.specs.declared.store.Mark.{Mark}
use Rattle.state.specs.declared.sizes.Sizes.{Sizes}
use Rattle.state.specs.Stands.{Texts, Board, Stands}
use Rattle.forms.specs.Next.{OwnIndex}

-- what `next_index` is given
abbrev pub stands_own : {X : Texts} {T : TheoryLists} {B : Board} {n : Sizes} {m : Mark} {S : State} → Stands X T B n m S → {cells : List ℕ} {xs : Sexps} →
    Holds X.text cells xs → 2 ≤ count xs → OwnIndex X.text cells n
stands_own {S = S} h {xs = xs} o l = record { S = S; xs = xs; holds = o; many = l; facts = h.recorded.many }

-- the forms behind their index
pub data Numbers : Tag → (Sexps → Act State (Unit {0})) → Type 0 where
  steps : Numbers a_step add_step
  hyps : Numbers a_hyp add_hyp
  rule_hyps : Numbers a_rule_hyp add_rule_hyp
  inducts : Numbers an_induct add_induct
  inducts_with : Numbers an_induct_with add_induct_with
  applies : Numbers an_apply add_apply
  inverts : Numbers an_invert add_invert

perform_is : {t : Tag} {f : Sexps → Act State (Unit {0})} → Numbers t f → (xs : Sexps) (S : State) → perform t xs S ≡ then (next xs S) (λ _. f xs)
unfolding perform
perform_is steps xs S = refl
perform_is hyps xs S = refl
perform_is rule_hyps xs S = refl
perform_is inducts xs S = refl
perform_is inducts_with xs S = refl
perform_is applies xs S = refl
perform_is inverts xs S = refl

module _ {t : Tag} {f : Sexps → Act State (Unit {0})} (k : Numbers t f) (xs : Sexps) (S : State) where
  pub perform_next : next xs S ≡ ok tt S → perform t xs S ≡ f xs S
  perform_next e = perform_is k xs S ∙ then_ok (next xs S) tt S (λ _. f xs) e

  pub perform_not : {q d : ℕ} → next xs S ≡ refuse q d S → perform t xs S ≡ refuse q d S
  perform_not {q} {d} e = perform_is k xs S ∙ then_refuse (next xs S) q d S (λ _. f xs) e
