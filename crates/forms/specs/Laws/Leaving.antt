-- All tables, where trees are made behind the others, and where they are taken away again. Assumes nothing.
use Rattle.std.specs.Prelude.{◌≡◌, List, ℕ}
use Rattle.std.proofs.Common.{sym, subst}
use Rattle.rules.specs.State.{State}
use Rattle.rules.specs.Forms.{with_made}
use Rattle.rules.specs.Laws.Keeping.{Grows, stays}
use Rattle.rules.specs.Laws.Sound.{sound}
use Rattle.kernel.specs.Parsed.{TheoryLists}
use Rattle.terms.specs.declared.store.Mark.{Mark}
use Rattle.terms.specs.Table.{made, Good}
use Rattle.state.specs.declared.sizes.Sizes.{Sizes}
use Rattle.state.specs.Stands.{Texts, Board, Stands, stands_ready, stands_grown}
use Rattle.forms.specs.Halted.{Makes}
use Rattle.forms.specs.Moved.{store_now}
use Rattle.forms.specs.Laws.Making.{state_made}

module _ {X : Texts} {T : TheoryLists} {B : Board} {n : Sizes} {m : Mark} {S : State} (h : Stands X T B n m S) {J Y : List ℕ} where
  -- trees are made behind the others
  pub stands_makes : {new : Mark} → Makes B.index B.words J Y m new → Stands X T (store_now B J Y) n new (with_made S (made J Y new))
  stands_makes {new} w = stands_grown h w.grown.good (subst (λ M. Grows sound M (made J Y new)) h.store w.grows)

  -- another store with the same trees
  pub stands_again : Good J Y m → made J Y m ≡ S.made → Stands X T (store_now B J Y) n m S
  stands_again g e =
      subst (Stands X T (store_now B J Y) n m) (state_made S e)
      (stands_grown h g (subst (λ M. Grows sound S.made M) (sym e) (stays (stands_ready h).good)))
