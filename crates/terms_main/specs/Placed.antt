-- What a call does to a store that is good. Assumes nothing.
use Rattle.std.specs.Prelude.{ℕ, ◌≤◌, ◌<◌}
use Rattle.terms.specs.declared.store.Store.{Store}
use Rattle.terms.specs.Table.{Grown}
use Rattle.terms.specs.Lent.{GoodStore}

-- it is good still, and the terms that were there are there as they were
abbrev pub Kept : Store → Store → Type 0
Kept old new = Grown old.index.now old.words.now new.index.now new.words.now old.mark new.mark

-- it is good still, the terms that were there are there, and the term is there too
pub record Placed (old : Store) (id : ℕ) (new : Store) : Type 0 where
  pub good : GoodStore new
  pub more : old.mark.terms ≤ new.mark.terms
  pub there : id < new.mark.terms
