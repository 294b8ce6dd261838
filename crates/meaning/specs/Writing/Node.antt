-- One node of a written derivation: its conclusion is a ground judgment, its rule matches, its children are found, and so its step is taken
-- as soon as the conclusion is made. Assumes nothing.
use Prim.Native.Nat.{ℕ, zero, suc, ◌+◌, ◌<◌}
use Rattle.std.specs.Prelude.{◌≡◌, ◌||◌, length, Option, Some as some, None as nothing}
use Rattle.std.proofs.Math.Path.{refl, ap, ap₂}
use Rattle.std.proofs.Common.{sym, ◌∙◌, subst, eq-eqb}
use Rattle.std.proofs.Math.Logic.{inl, inr}
use Rattle.std.proofs.Math.Bool.{true, false}
use mathlib.Core.List.{List, [], ◌∷◌, ◌++◌}
use Rattle.rules.specs.Out.{ok, then}
use Rattle.rules.specs.Sexp.{Sexp, Sexps, name as nameˢ}
use Rattle.rules.specs.Find.{entry, has}
use Rattle.rules.specs.Index.{index_of}
use Rattle.rules.specs.Tree.{Tree, Trees, var, app, none, more, sub, subs}
use Rattle.rules.specs.Store.{Made}
use Rattle.rules.specs.Theory.{Theory, no_rule, inputs, output, rule}
use Rattle.rules.specs.Laws.Theory.{WellFormed, Sorted, Sorteds, sort_in, all_at, Judgment}
use Rattle.rules.specs.Match.{Bound, bind, match_var, and_then, matches, match_all}
use Rattle.rules.specs.State.{State, Fact}
use Rattle.rules.specs.Read.{index}
use Rattle.rules.specs.Reference.{Ref, fact_at, reference}
use Rattle.rules.specs.Step.{Refs, no_refs, with_ref, references}
use Rattle.meaning.specs.Trees.Tests.{eq_same_tree}
use Rattle.meaning.specs.Bridge.Matching.{Agrees, bind_cases}
use Rattle.meaning.specs.Bridge.Asked.{some_same}
use Rattle.meaning.specs.Signature.{sig, Value, Values, arity, rule_sort}
use Rattle.meaning.specs.Written.{name, Step, conclusion, Names, NamesAll, Node, atoms}
use Rattle.meaning.specs.Writing.Read.{no, bare, bares}
use Rattle.meaning.specs.Writing.Terms.{atom_of, nil_of, cons_of, then_found, then_ok}

-- Matching ------------------------------------------------------------------------------------------------------------------------

-- a pattern matches its instance, and the bindings are those of the replacement
pub record Fits (ρ : ℕ → Tree) (o : Option Bound) : Type 0 where
  pub bound : Bound
  pub is : o ≡ some bound
  pub agrees : Agrees ρ bound

module _ (ρ : ℕ → Tree) where
  var_fits : (v : ℕ) (b : Bound) (o : Option Tree) → b v ≡ o → Agrees ρ b → Fits ρ (match_var v (ρ v) b o)
  unfolding match_var Agrees
  var_fits v b nothing e a = record {
    bound = bind b v (ρ v);
    is = refl;
    agrees = λ w t q. elim (bind_cases b v (ρ v) w) [
      | inl p ↦ ap ρ p.0 ∙ some_same (sym p.1 ∙ q)
      | inr p ↦ a w t (sym p.1 ∙ q)
    ];
  }
  var_fits v b (some u) e a = record { bound = b; is = ap (λ z. elim z as (λ _. Option Bound) [ true ↦ some b | false ↦ nothing ]) (eq_same_tree u (ρ v) (sym (a v u e))); agrees = a }

  app_fits : (c : ℕ) (ps : Trees) (b : Bound) → Fits ρ (match_all ps (subs ρ ps) b) → Fits ρ (matches (app c ps) (sub ρ (app c ps)) b)
  unfolding matches sub
  app_fits c ps b f = record {
    bound = f.bound;
    is = ap (λ z. elim z as (λ _. Option Bound) [ true ↦ match_all ps (subs ρ ps) b | false ↦ nothing ]) (eq-eqb c c refl) ∙ f.is;
    agrees = f.agrees;
  }

  more_fits : (p t : Tree) (ps ts : Trees) (b : Bound) (f : Fits ρ (matches p t b)) → Fits ρ (match_all ps ts f.bound)
      → Fits ρ (match_all (more p ps) (more t ts) b)
  unfolding matches and_then
  more_fits p t ps ts b f g = record { bound = g.bound; is = ap (λ o. and_then o (λ c. match_all ps ts c)) f.is ∙ g.is; agrees = g.agrees }

  mutual
    unfolding sub matches

    pub instance_fits : (p : Tree) (b : Bound) → Agrees ρ b → Fits ρ (matches p (sub ρ p) b)
    instance_fits (var v) b a = var_fits v b (b v) refl a
    instance_fits (app c ps) b a = app_fits c ps b (instances_fit ps b a)

    pub instances_fit : (ps : Trees) (b : Bound) → Agrees ρ b → Fits ρ (match_all ps (subs ρ ps) b)
    instances_fit none b a = record { bound = b; is = refl; agrees = a }
    instances_fit (more p ps) b a =
        let f = instance_fits p b a in more_fits p (sub ρ p) ps (subs ρ ps) b f (instances_fit ps f.bound f.agrees)

-- Conclusions ---------------------------------------------------------------------------------------------------------------------

-- a predicate over ground terms
pub record Concludes (T : Theory) (t : Tree) : Type 0 where
  pub head : ℕ
  pub arguments : Trees
  pub is : t ≡ app head arguments
  pub known : head < length T.symbols
  pub predicate : output T head ≡ 0
  pub values : Values (sig T) arguments (inputs T head)

module _ (T : Theory) (s : Step) (cs : List Tree) (n : Node T cs s) where
  mutual
    unfolding sub Sorted Value sig sort_in rule_sort arity

    instance_value : (t : Tree) (k : ℕ) → Sorted T (rule T s.rule).vars t k → Value (sig T) (sub s.replacement t) k
    instance_value (var v) k h = subst (λ z. Value (sig T) (s.replacement v) z) h.1 (n.grounded v h.0)
    instance_value (app c ts) k h = (h.0, h.1, instance_values ts (inputs T c) h.2)

    instance_values : (ts : Trees) (ks : List ℕ) → Sorteds T (rule T s.rule).vars ts ks → Values (sig T) (subs s.replacement ts) ks
    instance_values none [] h = tt
    instance_values none (k ∷ ks) h = absurd h
    instance_values (more t ts) [] h = absurd h
    instance_values (more t ts) (k ∷ ks) h = (instance_value t k h.0, instance_values ts ks h.1)

  judgment_concludes : (t : Tree) → Judgment T (rule T s.rule).vars t → Concludes T (sub s.replacement t)
  unfolding Judgment sub
  judgment_concludes (var v) j = absurd j
  judgment_concludes (app p ts) j = record {
    head = p;
    arguments = subs s.replacement ts;
    is = refl;
    known = j.0;
    predicate = j.1;
    values = instance_values ts (inputs T p) j.2;
  }

  pub node_concludes : WellFormed T → Concludes T (conclusion T s)
  unfolding conclusion rule
  node_concludes w = judgment_concludes (rule T s.rule).conclusion (all_at T.rules s.rule no_rule w.rules n.known).conclusion

-- Facts ---------------------------------------------------------------------------------------------------------------------------

-- what a step leaves: the conclusion, resting on nothing
pub record Derived (t : Tree) (f : Fact) : Type 0 where
  pub judgment : f.judgment ≡ t
  pub hyps : f.hyps ≡ []
  pub premises : f.premises ≡ none
  pub general : f.general ≡ []

-- one fact for each conclusion
unfoldable pub Recorded : List Tree → List Fact → Type 0
Recorded [] [] = Unit {0}
Recorded [] (f ∷ fs) = ⊥
Recorded (c ∷ cs) [] = ⊥
Recorded (c ∷ cs) (f ∷ fs) = Derived c f × Recorded cs fs

pub recorded_at : (cs : List Tree) (fs : List Fact) (i : ℕ) (t : Tree) → Recorded cs fs → entry cs i ≡ some t
    → (f : Fact) × (entry fs i ≡ some f) × Derived t f
unfolding Recorded entry
recorded_at [] fs i t r e = no cc
recorded_at (c ∷ cs) [] i t r e = absurd r
recorded_at (c ∷ cs) (f ∷ fs) zero t r e = (f, refl, subst (λ z. Derived z f) (some_same e) r.0)
recorded_at (c ∷ cs) (f ∷ fs) (suc i) t r e = recorded_at cs fs i t r.1 e

pub recorded_length : (cs : List Tree) (fs : List Fact) → Recorded cs fs → length fs ≡ length cs
unfolding Recorded
recorded_length [] [] r = refl
recorded_length [] (f ∷ fs) r = absurd r
recorded_length (c ∷ cs) [] r = absurd r
recorded_length (c ∷ cs) (f ∷ fs) r = ap suc (recorded_length cs fs r.1)

pub recorded_snoc : (cs : List Tree) (fs : List Fact) (c : Tree) (f : Fact) → Recorded cs fs → Derived c f → Recorded (cs ++ (c ∷ [])) (fs ++ (f ∷ []))
unfolding Recorded
recorded_snoc [] [] c f r d = (d, tt)
recorded_snoc [] (g ∷ fs) c f r d = absurd r
recorded_snoc (b ∷ cs) [] c f r d = absurd r
recorded_snoc (b ∷ cs) (g ∷ fs) c f r d = (r.0, recorded_snoc cs fs c f r.1 d)

-- References ----------------------------------------------------------------------------------------------------------------------

-- what a bare index gives
pub record Referred (t : Tree) (r : Ref) : Type 0 where
  pub judgment : r.judgment ≡ t
  pub hyps : r.hyps ≡ []
  pub instances : r.instances ≡ 0

pub record ReferredAll (ts : Trees) (rs : Refs) : Type 0 where
  pub judgments : rs.judgments ≡ ts
  pub hyps : (v : ℕ) → rs.hyps v ≡ false
  pub instances : rs.instances ≡ 0

module _ (S : State) (cs : List Tree) (kept : Recorded cs S.facts) where
  pub reference_read : (x : Sexp) (bs : List ℕ) (t : Tree) (m : Made) → bare x ≡ name bs → Names cs bs t
      → (r : Ref) × (reference S x m ≡ ok r m) × Referred t r
  unfolding Names reference index nameˢ then fact_at
  reference_read x bs t m e k =
      let a = atom_of x bs e in
      let f = recorded_at cs S.facts k.0 t kept k.2 in (
        record { judgment = f.0.judgment; hyps = f.0.hyps; footing = f.0.footing; instances = 0 },
        ap (λ y. reference S y m) a.1
            ∙ (then_found 34 (index_of bs) k.0 m _ k.1 ∙ then_found 34 (entry S.facts k.0) f.0 m _ f.1),
        record { judgment = f.2.judgment; hyps = f.2.hyps; instances = refl },
      )

  pub references_read : (bss : List (List ℕ)) (ts : Trees) (xs : Sexps) (m : Made) → bares xs ≡ atoms bss → NamesAll cs bss ts
      → (rs : Refs) × (references S xs m ≡ ok rs m) × ReferredAll ts rs
  unfolding NamesAll references atoms then has
  references_read [] none xs m e k = (no_refs, ap (λ ys. references S ys m) (nil_of xs e), record { judgments = refl; hyps = λ v. refl; instances = refl })
  references_read [] (more t ts) xs m e k = absurd k
  references_read (bs ∷ bss) none xs m e k = absurd k
  references_read (bs ∷ bss) (more t ts) xs m e k =
      let q = cons_of xs (name bs) (atoms bss) e in
      let r = reference_read q.front bs t m q.fronts k.0 in
      let rs = references_read bss ts q.behind m q.behinds k.1 in (
        with_ref r.0 rs.0,
        ap (λ ys. references S ys m) q.is
            ∙ (then_ok (reference S q.front m) r.0 m _ r.1 ∙ then_ok (references S q.behind m) rs.0 m _ rs.1),
        record {
          judgments = ap₂ more r.2.judgment rs.2.judgments;
          hyps = λ v. ap₂ (λ hs b. has hs v || b) r.2.hyps (rs.2.hyps v);
          instances = ap₂ ◌+◌ r.2.instances rs.2.instances;
        },
      )
