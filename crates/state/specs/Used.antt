-- How much of each table is used: where there is nothing but a theory, with one part anew, and by a state. Assumes nothing.
use Rattle.std.specs.Prelude.{ℕ, length}
use Rattle.rules.specs.State.{State, entries}
use Rattle.kernel.specs.declared.tables.Counts.{Counts}
use Rattle.state.specs.declared.sizes.Sizes.{Sizes}

-- what is used where there is nothing but a theory
abbrev pub theory_sizes : Counts → Sizes
theory_sizes c = record { sorts = c.sorts; symbols = c.symbols; rules = c.rules; vars = 0; defs = 0; goals = 0; facts = 0; entries = 0 }

abbrev pub vars_now : Sizes → ℕ → Sizes
vars_now n k = record {
  sorts = n.sorts;
  symbols = n.symbols;
  rules = n.rules;
  vars = k;
  defs = n.defs;
  goals = n.goals;
  facts = n.facts;
  entries = n.entries;
}

abbrev pub defs_now : Sizes → ℕ → Sizes
defs_now n k = record {
  sorts = n.sorts;
  symbols = n.symbols;
  rules = n.rules;
  vars = n.vars;
  defs = k;
  goals = n.goals;
  facts = n.facts;
  entries = n.entries;
}

-- so many goals, and the entries up to e
abbrev pub goals_now : Sizes → ℕ → ℕ → Sizes
goals_now n k e = record {
  sorts = n.sorts;
  symbols = n.symbols;
  rules = n.rules;
  vars = n.vars;
  defs = n.defs;
  goals = k;
  facts = n.facts;
  entries = e;
}

abbrev pub facts_now : Sizes → ℕ → ℕ → Sizes
facts_now n k e = record {
  sorts = n.sorts;
  symbols = n.symbols;
  rules = n.rules;
  vars = n.vars;
  defs = n.defs;
  goals = n.goals;
  facts = k;
  entries = e;
}

-- what a state uses
abbrev pub sizes_of : State → Sizes
sizes_of S = record {
  sorts = length S.theory.sorts;
  symbols = length S.theory.symbols;
  rules = length S.theory.rules;
  vars = length S.vars;
  defs = length S.defs;
  goals = length S.goals;
  facts = length S.facts;
  entries = entries S;
}
