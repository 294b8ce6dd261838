-- `(step N RULE (REF...) ITEM...)`: an instance of a rule, from earlier facts. An item is a binding of a rule variable, or the conclusion.
-- Assumes nothing.
use Rattle.std.specs.Prelude.{ℕ, ◌+◌, true, false, ◌&&◌, List, [], ◌∷◌, eqb, length, get_or, Option, Some as some, None as nothing}
use Rattle.rules.specs.Text.{same}
use Rattle.rules.specs.Out.{Act, ◌>>=◌, pure, ask, found}
use Rattle.rules.specs.Sexp.{Sexp, Sexps, nil, cons, count, item, rest, name, items, marked}
use Rattle.rules.specs.Find.{Set, empty, first, has, union, rising}
use Rattle.rules.specs.Tree.{Tree, Trees, none, more, variables_of, count_trees}
use Rattle.rules.specs.Store.{Made}
use Rattle.rules.specs.Theory.{Rule, rule_named, rule}
use Rattle.rules.specs.Declare.{no_rule_var, is_new}
use Rattle.rules.specs.Match.{Bound, unbound, bind, matches, match_all, build, matching}
use Rattle.rules.specs.State.{State, Fact}
use Rattle.rules.specs.Read.{term_of, judgment}
use Rattle.rules.specs.Reference.{Ref, reference, scoped, referring}

-- The references ------------------------------------------------------------------------------------------------------------------

-- all of them together
pub record Refs : Type 0 where
  pub judgments : Trees
  pub hyps : Set
  pub footing : Set
  pub instances : ℕ

abbrev pub no_refs : Refs
no_refs = record { judgments = none; hyps = empty; footing = empty; instances = 0 }

abbrev pub with_ref : Ref → Refs → Refs
with_ref r rs = record {
  judgments = more r.judgment rs.judgments;
  hyps = union (has r.hyps) rs.hyps;
  footing = union (has r.footing) rs.footing;
  instances = r.instances + rs.instances;
}

unfoldable pub references : State → Sexps → Act Made Refs
references S nil = pure no_refs
references S (cons x xs) = do
  r ← reference S x
  rs ← references S xs
  pure (with_ref r rs)

-- The items -----------------------------------------------------------------------------------------------------------------------

-- values: the terms of the bindings
pub record Items : Type 0 where
  pub bound : Bound
  pub values : Trees
  pub stated : Option Tree

abbrev pub no_items : Items
no_items = record { bound = unbound; values = none; stated = nothing }

-- `(?V TERM)`
unfoldable pub bind_item : State → Rule → List ℕ → Sexp → Items → Act Made Items
bind_item S R n x it = do
  i ← found 36 (first (λ v. same v.name.bytes n) R.vars 0)
  t ← term_of S x (get_or R.vars i no_rule_var).sort
  _ ← ask 36 (is_new (it.bound i))
  pure (record { bound = bind it.bound i t; values = more t it.values; stated = it.stated })

unfoldable pub state_item : State → Sexp → Items → Act Made Items
state_item S x it = do
  j ← judgment S x
  _ ← ask 37 (is_new it.stated)
  pure (record { bound = it.bound; values = it.values; stated = some j })

unfoldable pub read_item : State → Rule → Sexp → Items → Act Made Items
read_item S R x it = do
  ys ← items 22 x
  n ← name 22 (item ys 0)
  elim (marked n.bytes && eqb (count ys) 2) [
    | true ↦ bind_item S R n.bytes (item ys 1) it
    | false ↦ state_item S x it
  ]

unfoldable pub read_items : State → Rule → Sexps → Items → Act Made Items
read_items S R nil it = pure it
read_items S R (cons x xs) it = do
  u ← read_item S R x it
  read_items S R xs u

-- The form ------------------------------------------------------------------------------------------------------------------------

unfoldable pub match_stated : Tree → Option Tree → Bound → Option Bound
match_stated p nothing b = some b
match_stated p (some j) b = matches p j b

-- the conclusion as stated, or built
unfoldable pub conclude : Tree → Option Tree → Bound → Act Made Tree
conclude p (some j) b = pure j
conclude p nothing b = build p b

-- a fact, and its number of instances
unfoldable pub step : State → Sexps → Act Made (Fact × ℕ)
step S xs = do
  n ← name 33 (item xs 2)
  r ← found 33 (rule_named S.theory n.bytes)
  let R = rule S.theory r
  ys ← items 37 (item xs 3)
  _ ← ask 37 (eqb (count ys) (count_trees R.premises))
  rs ← references S ys
  it ← read_items S R (rest xs 4) no_items
  b ← found 38 (match_stated R.conclusion it.stated it.bound)
  c ← found 38 (match_all R.premises rs.judgments b)
  j ← conclude R.conclusion it.stated c
  let hs = rising (length S.facts) rs.hyps
  _ ← scoped S (union (variables_of rs.judgments) (variables_of it.values)) j hs
  pure (
    record {
      judgment = j;
      hyps = hs;
      assumed = false;
      premises = none;
      general = [];
      footing = rising (length S.theory.rules) (union (has (r ∷ [])) rs.footing);
    },
    rs.instances,
  )

-- `unfolding stepping` opens all of the above, for a computation
unfoldable pub stepping : Unit {0}
unfolding referring matching is_new references bind_item state_item read_item read_items match_stated conclude step
stepping = tt
