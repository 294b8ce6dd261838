-- What is there: trees, values, facts, goals, and states whose trees are among the made ones, for any invariant of theirs. Assumes nothing.
use mathlib.Core.List.{List}
use Rattle.rules.specs.Tree.{Tree, Trees}
use Rattle.rules.specs.Store.{Made}
use Rattle.rules.specs.Unify.{Binding}
use Rattle.rules.specs.State.{State, Goal, Fact}
use Rattle.rules.specs.Laws.Theory.{All}
use Rattle.rules.specs.Laws.Keeping.{Each, Invariant}

-- the answered tree is stored
abbrev pub Known : Invariant → Tree → Made → Type 0
Known K t u = K.Has u t

abbrev pub Knowns : Invariant → Trees → Made → Type 0
Knowns K ts u = Each (K.Has u) ts

-- every value is stored
abbrev pub Values : Invariant → List Binding → Made → Type 0
Values K θ u = All (λ b. K.Has u b.value) θ

pub record FactIn (K : Invariant) (m : Made) (f : Fact) : Type 0 where
  pub judgment : K.Has m f.judgment
  pub premises : Each (K.Has m) f.premises

pub record GoalIn (K : Invariant) (m : Made) (g : Goal) : Type 0 where
  pub judgment : K.Has m g.judgment
  pub hyps : Each (K.Has m) g.hyps

-- the made trees m are good, and those of abbreviations, goals and facts are among them
pub record Ready (K : Invariant) (S : State) (m : Made) : Type 0 where
  pub good : K.Good m
  pub defs : All (λ d. K.Has m d.term) S.defs
  pub goals : All (GoalIn K m) S.goals
  pub facts : All (FactIn K m) S.facts
