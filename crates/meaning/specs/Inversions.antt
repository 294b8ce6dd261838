-- The unifications that an inversion comes to. `invert` is cut where it comes to the rules, and `invert_rule` where it unifies: what stands
-- before the cut is an action of its own, and the two laws say that the definition is that and the rest. Definitions, and these laws.
-- Assumes nothing.
use Rattle.std.specs.Prelude.{ℕ, ◌≡◌, refl, ◌⊎◌, false, List, [], ◌∷◌, length}
use Rattle.std.proofs.Common.{sym}
use Rattle.rules.specs.Out.{Out, ok, refuse, then, Act, ◌>>=◌, pure, ask}
use Rattle.rules.specs.Sexp.{Sexps, item, items}
use Rattle.rules.specs.Find.{has, union, rising}
use Rattle.rules.specs.Tree.{Tree, none}
use Rattle.rules.specs.Store.{Made, substitute}
use Rattle.rules.specs.Theory.{Rule, rule, rules_of}
use Rattle.rules.specs.Unify.{unify}
use Rattle.rules.specs.State.{State, Fact, is_plain}
use Rattle.rules.specs.Read.{index, judgment}
use Rattle.rules.specs.Reference.{fact_at, hyp_list}
use Rattle.rules.specs.Induct.{keep_vars}
use Rattle.rules.specs.Invert.{case_named, read_cases, Inversion, Names, renamed, renaming, case_or_not, invert_rule, invert_rules, predicate_of, invert}

-- Up to the rules -------------------------------------------------------------------------------------------------------------------

-- the number of the fact, and what is inverted
unfoldable pub asked : State → Sexps → Act Made (ℕ × Inversion)
asked S xs = do
  i ← index 34 (item xs 2)
  k ← fact_at S i
  _ ← ask 40 (is_plain k)
  hs ← hyp_list (λ f. f.assumed) S (item xs 3)
  j ← judgment S (item xs 4)
  ys ← items 41 (item xs 5)
  cs ← read_cases S ys []
  pure (i, record { hypothesis = k.judgment; judgment = j; context = hs; cases = cs })

-- the names before the first rule
abbrev pub first_names : State → Names
first_names S = record { vars = S.vars; seen = [] }

abbrev pub its_rules : State → Inversion → List ℕ
its_rules S I = rules_of S.theory (predicate_of I.hypothesis)

abbrev inverted : State → ℕ → Inversion → Fact
inverted S i I = record {
  judgment = I.judgment;
  hyps = rising (length S.facts) (union (has (i ∷ [])) (has I.context));
  assumed = false;
  premises = none;
  general = [];
  footing = [];
}

-- Up to unification -----------------------------------------------------------------------------------------------------------------

-- the rule's variables renamed, the names from then on, and its conclusion
pub record Trial : Type 0 where
  pub renamed : List ℕ
  pub names : Names
  pub conclusion : Tree

unfoldable pub tried : State → Inversion → Rule → Names → Act Made Trial
tried S I R N = do
  r ← renamed S I R (case_named I.cases R.name.bytes) N
  _ ← keep_vars r.0
  t ← substitute (renaming r.0) R.conclusion
  pure (record { renamed = r.0; names = r.1; conclusion = t })

-- The definition is these and the rest ------------------------------------------------------------------------------------------------

on : {S A B C : Type 0} (o : Out S A) (f : A → S → Out S B) (g : B → S → Out S C) (h : A → S → Out S C)
    → ((a : A) (s : S) → then (f a s) g ≡ h a s) → then (then o f) g ≡ then o h
unfolding then
on (ok a s) f g h k = k a s
on (refuse n d s) f g h k = refl

last : {S A B : Type 0} (a : A) (s : S) (g : A → S → Out S B) → then (ok a s) g ≡ g a s
unfolding then
last a s g = refl

pub invert_is : (S : State) (xs : Sexps) (m : Made) → invert S xs m
    ≡ then (asked S xs m) (λ r u. then (invert_rules S r.1 (its_rules S r.1) (first_names S) u) (λ N w. ok (inverted S r.0 r.1, N.vars) w))
unfolding invert asked
invert_is S xs m =
    sym (on _ _ _ _ λ i s. on _ _ _ _ λ k s. on _ _ _ _ λ a s. on _ _ _ _ λ hs s. on _ _ _ _ λ j s. on _ _ _ _ λ ys s. on _ _ _ _ λ cs s. last _ s _)

pub rule_is : (S : State) (I : Inversion) (R : Rule) (N : Names) (m : Made) → invert_rule S I R N m
    ≡ then (tried S I R N m) (λ T u. then (unify (length T.names.vars) I.hypothesis T.conclusion u)
    (λ θ w. then (case_or_not S I R (renaming T.renamed) θ (case_named I.cases R.name.bytes) w) (λ a z. ok T.names z)))
unfolding invert_rule tried
rule_is S I R N m = sym (on _ _ _ _ λ r s. on _ _ _ _ λ ts s. on _ _ _ _ λ t s. last _ s _)

-- The unifications --------------------------------------------------------------------------------------------------------------------

-- the rules before were looked at, and it is R's turn, with the names M and the made trees u
unfoldable pub Turn : State → Inversion → List ℕ → Names → Made → Rule → Names → Made → Type 0
Turn S I [] N m R M u = ⊥
Turn S I (r ∷ rs) N m R M u =
    ((R ≡ rule S.theory r) × (M ≡ N) × (u ≡ m))
    ⊎ ((L : Names) × (w : Made) × (invert_rule S I (rule S.theory r) N m ≡ ok L w) × Turn S I rs L w R M u)

-- in the state S the form with the items xs comes to unify s and t, among n variables and with the made trees u
pub record Comes (S : State) (xs : Sexps) (n : ℕ) (s t : Tree) (u : Made) : Type 0 where
  pub place : ℕ
  pub inversion : Inversion
  pub before : Made
  pub asks : asked S xs S.made ≡ ok (place, inversion) before
  pub rule : Rule
  pub names : Names
  pub made : Made
  pub turn : Turn S inversion (its_rules S inversion) (first_names S) before rule names made
  pub trial : Trial
  pub tries : tried S inversion rule names made ≡ ok trial u
  pub unifies : (n ≡ length trial.names.vars) × (s ≡ inversion.hypothesis) × (t ≡ trial.conclusion)
