-- The questions of a rule's declaration one at a time, as code puts them, and how many premises it has. Assumes nothing.
use mathlib.Core.Path.{◌≡◌, refl, ap, ◌∙◌}
use Prim.Native.Nat.{ℕ, suc, ◌<◌, ◌≤◌}
use Rattle.std.specs.Prelude.{Some as some, None as nothing}
use mathlib.Core.List.{[]}
use lib.Dec.{ltb}
use lib.ListN.{length}
use borrow.Author.Tests.{lt-ltb, le-ltb}
use Rattle.rules.specs.Limits.{RULES}
use Rattle.rules.specs.Out.{Out, ok, refuse, then, ask, room, beside}
use Rattle.rules.specs.Sexp.{Sexps, nil, cons, count, item, Name}
use Rattle.rules.specs.Tree.{Tree, Trees, none, more, count_trees}
use Rattle.rules.specs.Theory.{Theory, Rule, rule_named, rule_words}
use Rattle.rules.specs.Declare.{Reading, is_new, proper_name, judgment, judgments, schema, add_rule}
use Rattle.rules.specs.Laws.Declaring.{proper, proper_asks}
use Rattle.kernel.specs.HeldRules.{with_rule}
use Rattle.sexp.specs.Never.{never}

-- no variable yet, and the words of the rules before
abbrev pub begun : Theory → Reading
begun T = record { vars = []; words = rule_words T.rules }

abbrev pub rule_of : Name → Reading → Trees × Tree → Rule
rule_of n R p = record { name = n; vars = R.vars; premises = p.0; conclusion = p.1 }

module _ (T : Theory) (xs : Sexps) where
  -- behind the judgments
  last_questions : (Trees × Tree) × Reading → Theory → Out Theory (Unit {0})
  last_questions r U =
      then (proper_name (item xs 1) U)
      (λ n X. then (ask 11 (is_new (rule_named T n.bytes)) X) (λ u W. then (room 4 (ltb (length T.rules) RULES) W) (λ y Y. ok tt (with_rule T (rule_of n r.1 r.0)))))

  asks : add_rule xs T ≡ then (beside (begun T) (schema T xs) T) (λ r U. last_questions r U)
  unfolding add_rule then last_questions
  asks = refl

  -- the answer for what the judgments are
  beside_asks : Out Reading (Trees × Tree) → Out Theory (Unit {0})
  beside_asks o =
      then (elim o as (λ (z : Out Reading (Trees × Tree)). Out Theory ((Trees × Tree) × Reading)) [ ok a u ↦ ok (a, u) T | refuse n d u ↦ refuse n d T ])
      (λ r U. last_questions r U)

  asks_so : add_rule xs T ≡ beside_asks (schema T xs (begun T))
  unfolding beside beside_asks
  asks_so = asks

  pub rule_stopped : (a d : ℕ) (U : Reading) → schema T xs (begun T) ≡ refuse a d U → add_rule xs T ≡ refuse a d T
  unfolding then beside_asks
  rule_stopped a d U e = asks_so ∙ ap beside_asks e

  module _ (p : Trees × Tree) (U : Reading) (e : schema T xs (begun T) ≡ ok p U) where
    so_far : add_rule xs T ≡ last_questions (p, U) T
    unfolding then beside_asks
    so_far = asks_so ∙ ap beside_asks e

    pub rule_unnamed : proper (item xs 1) ≡ nothing → add_rule xs T ≡ refuse 11 0 T
    unfolding then last_questions
    rule_unnamed f = so_far ∙ rw (proper_asks (item xs 1) T, f)

    module _ (n : Name) (f : proper (item xs 1) ≡ some n) where
      pub rule_twice : (i : ℕ) → rule_named T n.bytes ≡ some i → add_rule xs T ≡ refuse 11 0 T
      unfolding then last_questions is_new
      rule_twice i g = so_far ∙ rw (proper_asks (item xs 1) T, f, g)

      pub rule_full : rule_named T n.bytes ≡ nothing → RULES ≤ length T.rules → add_rule xs T ≡ refuse 60 4 T
      unfolding then last_questions is_new
      rule_full g h = so_far ∙ rw (proper_asks (item xs 1) T, f, g, le-ltb (length T.rules) RULES h)

      pub rule_new : rule_named T n.bytes ≡ nothing → length T.rules < RULES → add_rule xs T ≡ ok tt (with_rule T (rule_of n U p))
      unfolding then last_questions is_new
      rule_new g h = so_far ∙ rw (proper_asks (item xs 1) T, f, g, lt-ltb (length T.rules) RULES h)

-- The number of premises ---------------------------------------------------------------------------------------------------------

-- one judgment for each item
pub judged_count : (T : Theory) (zs : Sexps) (R U : Reading) (ts : Trees) → judgments T zs R ≡ ok ts U → count_trees ts ≡ count zs
unfolding judgments count_trees count then
judged_count T nil R U ts e = let z : ts ≡ none = cc in ap count_trees z
judged_count T (cons x xs) R U ts e = go (λ Y W us. judged_count T xs Y W us) (judgment T x R) e
  where
    go : ((Y W : Reading) (us : Trees) → judgments T xs Y ≡ ok us W → count_trees us ≡ count xs) → (o : Out Reading Tree) →
        then o (λ t Y. then (judgments T xs Y) (λ us W. ok (more t us) W)) ≡ ok ts U → count_trees ts ≡ suc (count xs)
    go f (refuse n d Y) g = never cc
    go f (ok t Y) g = on (judgments T xs Y) refl g
      where
        on : (o : Out Reading Trees) → judgments T xs Y ≡ o → then o (λ us W. ok (more t us) W) ≡ ok ts U → count_trees ts ≡ suc (count xs)
        on (refuse n d W) h k = never cc
        on (ok us W) h k = let z : ts ≡ more t us = cc in ap count_trees z ∙ ap suc (f Y W us h)
