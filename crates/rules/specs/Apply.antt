-- `(apply N M (BINDING...) (REF...))`: fact M as a rule. An assumed M binds its generalised variables and has its premises; of another M the
-- hypotheses, all plain, are the premises, by rising index. Assumes nothing.
use Rattle.std.specs.Prelude.{ℕ, Bool, true, false, ◌||◌, List, [], ◌∷◌, eqb, length, Some as some, None as nothing}
use Rattle.rules.specs.Out.{Act, ◌>>=◌, pure, ask}
use Rattle.rules.specs.Sexp.{Sexps, nil, cons, count, item, items}
use Rattle.rules.specs.Find.{Set, entry, all, has, union, rising}
use Rattle.rules.specs.Tree.{Tree, Trees, none, more, same_tree, variables, variables_of, count_trees}
use Rattle.rules.specs.Store.{Made, substitute}
use Rattle.rules.specs.Unify.{Binding, along}
use Rattle.rules.specs.State.{State, Fact, is_plain}
use Rattle.rules.specs.Read.{index}
use Rattle.rules.specs.Reference.{reference, fact_at, bindings, judgments_at, scoped}
use Rattle.rules.specs.Step.{Refs, no_refs, with_ref, stepping}

-- what M is as a rule; hyps: what its use rests on
pub record Applied : Type 0 where
  pub premises : Trees
  pub conclusion : Tree
  pub hyps : List ℕ

unfoldable pub plain_at : List Fact → ℕ → Bool
plain_at fs h = elim (entry fs h) [ some f ↦ is_plain f | nothing ↦ false ]

unfoldable pub applied : State → List Binding → ℕ → Fact → Act Made Applied
applied S bs i f =
    elim f.assumed [
      | true ↦ do
        _ ← ask 36 (all (λ b. has f.general b.variable) bs)
        pure (record { premises = f.premises; conclusion = f.judgment; hyps = i ∷ [] })
      | false ↦ do
        _ ← ask 40 (all (plain_at S.facts) f.hyps)
        pure (record { premises = judgments_at S.facts f.hyps; conclusion = f.judgment; hyps = [] })
    ]

-- each premise under the bindings, and the reference that is it
unfoldable pub discharge : State → List Binding → Sexps → Trees → Act Made Refs
discharge S bs nil ps = pure no_refs
discharge S bs (cons x xs) none = pure no_refs
discharge S bs (cons x xs) (more p ps) = do
  t ← substitute (along bs) p
  r ← reference S x
  _ ← ask 38 (same_tree r.judgment t)
  rs ← discharge S bs xs ps
  pure (with_ref r rs)

-- the variables of the bindings' terms
unfoldable pub value_vars : List Binding → Set
value_vars [] v = false
value_vars (b ∷ bs) v = variables b.value v || value_vars bs v

unfoldable pub apply : State → Sexps → Act Made Fact
apply S xs = do
  i ← index 34 (item xs 2)
  ys ← items 36 (item xs 3)
  bs ← bindings S ys []
  f ← fact_at S i
  a ← applied S bs i f
  zs ← items 37 (item xs 4)
  _ ← ask 37 (eqb (count zs) (count_trees a.premises))
  j ← substitute (along bs) a.conclusion
  rs ← discharge S bs zs a.premises
  let hs = rising (length S.facts) (union (has a.hyps) rs.hyps)
  _ ← scoped S (union (variables_of rs.judgments) (value_vars bs)) j hs
  pure (record {
    judgment = j;
    hyps = hs;
    assumed = false;
    premises = none;
    general = [];
    footing = rising (length S.theory.rules) rs.footing;
  })

-- `unfolding applying` opens all of the above, for a computation
unfoldable pub applying : Unit {0}
unfolding stepping plain_at applied discharge value_vars apply
applying = tt
