-- A case of `invert`: what it is read from, and what it may rest on. Of a well state.
use Rattle.std.specs.Prelude.{ℕ, ◌≡◌, ◌⊎◌, Bool, true, false, ◌&&◌, not, eqb, length, Option, Some as some}
use Rattle.std.proofs.Math.Path.{refl, subst}
use Rattle.std.proofs.Common.{sym, ◌∙◌, ap, ap₂, eqb-true, eq-eqb, ne_eqb}
use Rattle.std.proofs.Math.Logic.{inl, inr}
use mathlib.Core.List.{List, [], ◌∷◌, ◌++◌}
use Rattle.rules.specs.Text.{same}
use Rattle.rules.specs.Sexp.{Sexp, Sexps, atom, list, nil, cons, count, item, name}
use Rattle.rules.specs.Find.{any, all, has}
use Rattle.rules.specs.Tree.{Tree, Trees, var, none, more, variables, same_tree, same_trees, sub, subs}
use Rattle.rules.specs.Store.{Made}
use Rattle.rules.specs.Theory.{Rule}
use Rattle.rules.specs.Unify.{Binding, along}
use Rattle.rules.specs.State.{State, Fact}
use Rattle.rules.specs.Invert.{Case, case_named, read_case, read_cases, Allowed, rule_premises, without, clear, context_fact, context_facts, is_allowed, allowed_in}
use Rattle.meaning.specs.Trees.Tree.{Occ, In, Among}
use Rattle.meaning.specs.Trees.Tests.{true_false, and_true, true_and, or_true, same_tree_true, same_trees_true, occ_variables}
use Rattle.meaning.specs.Unification.Acts.{Ok, done, stopped, ok_then, substitute_ok, substitutes_ok}
use Rattle.meaning.specs.Unification.List.{Each, along_cases}
use Rattle.meaning.specs.Truth.{At, Plain}
use Rattle.meaning.specs.Lemmas.Inverts.{renamed, Leaves, InvertHyp, of_rule, of_context}
use Rattle.meaning.specs.Lemmas.Forms.{InContext}
use Rattle.meaning.specs.Named.{Spells, Item, CasesFor}
use Rattle.meaning.specs.Bridge.Asked.{no_some, some_same, both_true, not-true, ok_ask, ok_items, ok_index, at_unique, all_in, has_in, in_has}
use Rattle.meaning.specs.Bridge.Read.{VarsOk, vars_list_ok, fact_ok}

-- Names -----------------------------------------------------------------------------------------------------------------------------

pub same_true : (xs ys : List ℕ) → same xs ys ≡ true → xs ≡ ys
unfolding same
same_true [] [] e = refl
same_true [] (y ∷ ys) e = absurd (true_false false e refl)
same_true (x ∷ xs) [] e = absurd (true_false false e refl)
same_true (x ∷ xs) (y ∷ ys) e = let r = and_true (eqb x y) (same xs ys) e in ap₂ (λ a l. a ∷ l) (eqb-true x y r.0) (same_true xs ys r.1)

same_refl : (xs : List ℕ) → same xs xs ≡ true
unfolding same
same_refl [] = refl
same_refl (x ∷ xs) = true_and (eqb x x) (same xs xs) (eq-eqb x x refl) (same_refl xs)

pub ok_name : {S : Type 0} (k : ℕ) (x : Sexp) (s : S) → Ok (λ n. Spells x n.bytes) (name k x s)
unfolding name Spells
ok_name k (atom p bs) s = done (same_refl bs)
ok_name k (list xs) s = stopped

-- The cases as read -----------------------------------------------------------------------------------------------------------------

-- the case's variables are there, each once; it was written in the list
pub record CaseOk (U : State) (ys : Sexps) (c : Case) : Type 0 where
  pub known : VarsOk (length U.vars) c.vars
  pub raw : Sexp
  pub listed : Item raw ys
  pub reads : CasesFor c.name raw c.fact

unfoldable pub CasesOk : State → Sexps → List Case → Type 0
CasesOk U ys [] = Unit {0}
CasesOk U ys (c ∷ cs) = CaseOk U ys c × CasesOk U ys cs

cases_snoc : (U : State) (ys : Sexps) (cs : List Case) (c : Case) → CasesOk U ys cs → CaseOk U ys c → CasesOk U ys (cs ++ (c ∷ []))
unfolding CasesOk
cases_snoc U ys [] c h k = (k, tt)
cases_snoc U ys (d ∷ cs) c h k = (h.0, cases_snoc U ys cs c h.1 k)

read_case_ok : (U : State) (ys : Sexps) (x : Sexp) → Item x ys → (m : Made) → Ok (λ c. CaseOk U ys c) (read_case U x m)
unfolding read_case CasesFor
read_case_ok U ys x i m =
    ok_then (ok_items 41 x m) (λ zs m₁ e.
    ok_then (ok_ask 41 (eqb (count zs) 3) m₁) (λ _ m₂ _.
    ok_then (ok_name 41 (item zs 0) m₂) (λ n m₃ s.
    ok_then (ok_index 41 (item zs 1) m₃) (λ k m₄ p.
    ok_then (vars_list_ok 42 U (item zs 2) m₄) (λ vs m₅ v.
    done (record { known = v; raw = x; listed = i; reads = subst (λ z. CasesFor n.bytes z k) (sym e) (s, p) }))))))

read_from_lem : (U : State) (ys xs : Sexps) → ((x : Sexp) → Item x xs → Item x ys) → (cs : List Case) (m : Made) → CasesOk U ys cs
    → Ok (λ ds. CasesOk U ys ds) (read_cases U xs cs m)
unfolding read_cases Item
read_from_lem U ys nil i cs m h = done h
read_from_lem U ys (cons x xs) i cs m h =
    ok_then (read_case_ok U ys x (i x (inl refl)) m) (λ c m₁ k.
    ok_then (ok_ask 41 (not (any (λ d. same d.name c.name) cs)) m₁) (λ _ m₂ _.
    read_from_lem U ys xs (λ z j. i z (inr j)) (cs ++ (c ∷ [])) m₂ (cases_snoc U ys cs c h k)))

pub read_cases_ok : (U : State) (ys : Sexps) (m : Made) → Ok (λ cs. CasesOk U ys cs) (read_cases U ys [] m)
unfolding CasesOk
read_cases_ok U ys m = read_from_lem U ys ys (λ x i. i) [] m tt

-- a case that is found by a rule's name
pub case_found : (U : State) (ys : Sexps) (cs : List Case) (n : List ℕ) (c : Case) → CasesOk U ys cs → case_named cs n ≡ some c
    → CaseOk U ys c × (c.name ≡ n)
unfolding case_named CasesOk
case_found U ys [] n c h e = absurd (no_some e)
case_found U ys (d ∷ cs) n c h e = go (same d.name n) refl e (λ q. case_found U ys cs n c h.1 q)
  where
    go : (b : Bool) → same d.name n ≡ b → elim b as (λ _. Option Case) [ true ↦ some d | false ↦ case_named cs n ] ≡ some c
        → (case_named cs n ≡ some c → CaseOk U ys c × (c.name ≡ n)) → CaseOk U ys c × (c.name ≡ n)
    go true p q r = subst (λ z. CaseOk U ys z × (z.name ≡ n)) (some_same q) (h.0, same_true d.name n p)
    go false p q r = r q

-- What a case may rest on -----------------------------------------------------------------------------------------------------------

unfoldable pub EachA : (Allowed → Type 0) → List Allowed → Type 0
EachA P [] = Unit {0}
EachA P (a ∷ az) = P a × EachA P az

each_both : (P Q R : Allowed → Type 0) → ((a : Allowed) → P a → R a) → ((a : Allowed) → Q a → R a) → (az bs : List Allowed)
    → EachA P az → EachA Q bs → EachA R (az ++ bs)
unfolding EachA
each_both P Q R f g [] [] p q = tt
each_both P Q R f g [] (b ∷ bs) p q = (g b q.0, each_both P Q R f g [] bs p q.1)
each_both P Q R f g (a ∷ az) bs p q = (f a p.0, each_both P Q R f g az bs p.1 q)

-- θ puts no generalised variable of d in for another variable
unfoldable pub Uncaptured : (ℕ → Tree) → Fact → Type 0
Uncaptured θ d = (v z : ℕ) → ¬ (In v d.general) → Occ z (θ v) → ¬ (In z d.general)

-- a premise of the rule, renamed and unified
unfoldable pub FromRule : (ℕ → Tree) → (ℕ → Tree) → Trees → Allowed → Type 0
FromRule ρ θ ps a = (a.premises ≡ none) × (a.general ≡ []) × Among a.judgment (subs θ (subs ρ ps))

-- a fact of the context, unified
unfoldable pub FromContext : (Fact → Type 0) → (ℕ → Tree) → Allowed → Type 0
FromContext C θ a =
    (d : Fact) × C d × (σ : ℕ → Tree) × Leaves d.general θ σ × (a.general ≡ d.general) × (a.premises ≡ subs σ d.premises)
    × (a.judgment ≡ sub σ d.judgment)

each_map : (P Q : Allowed → Type 0) → ((a : Allowed) → P a → Q a) → (az : List Allowed) → EachA P az → EachA Q az
unfolding EachA
each_map P Q f [] p = tt
each_map P Q f (a ∷ az) p = (f a p.0, each_map P Q f az p.1)

pub rule_premises_ok : (ρ θ : ℕ → Tree) (ps : Trees) (m : Made) → Ok (λ az. EachA (FromRule ρ θ ps) az) (rule_premises ρ θ ps m)
unfolding rule_premises EachA FromRule sub Among
rule_premises_ok ρ θ none m = done tt
rule_premises_ok ρ θ (more p ps) m =
    ok_then (substitute_ok ρ p m) (λ t m₁ e.
    ok_then (substitute_ok θ t m₁) (λ u m₂ f.
    ok_then (rule_premises_ok ρ θ ps m₂) (λ az m₃ r.
    done ((refl, refl, inl (f ∙ ap (sub θ) e)), each_map (FromRule ρ θ ps) (FromRule ρ θ (more p ps)) (λ a q. (q.0, q.1, inr q.2)) az r))))

along_skip : (b : Binding) (θ : List Binding) (v : ℕ) → ¬ (v ≡ b.variable) → along (b ∷ θ) v ≡ along θ v
unfolding along
along_skip b θ v n = rw (ne_eqb v b.variable n, along)

along_step : (b : Binding) (θ ζ : List Binding) (v : ℕ) → along θ v ≡ along ζ v → along (b ∷ θ) v ≡ along (b ∷ ζ) v
unfolding along
along_step b θ ζ v e = go (eqb v b.variable)
  where
    go : (c : Bool) → ◌≡◌ {A = Tree} (elim c as (λ _. Tree) [ true ↦ b.value | false ↦ along θ v ])
        (elim c as (λ _. Tree) [ true ↦ b.value | false ↦ along ζ v ])
    go true = refl
    go false = e

without_in : (gs : List ℕ) (θ : List Binding) (v : ℕ) → has gs v ≡ true → along (without gs θ) v ≡ var v
unfolding without along
without_in gs [] v e = refl
without_in gs (b ∷ θ) v e = go (has gs b.variable) refl (without_in gs θ v e)
  where
    go : (c : Bool) → has gs b.variable ≡ c → along (without gs θ) v ≡ var v
        → along (elim c as (λ _. List Binding) [ true ↦ without gs θ | false ↦ b ∷ without gs θ ]) v ≡ var v
    go true p h = h
    go false p h = along_skip b (without gs θ) v (λ q. true_false (has gs b.variable) (ap (has gs) (sym q) ∙ e) p) ∙ h

without_out : (gs : List ℕ) (θ : List Binding) (v : ℕ) → has gs v ≡ false → along (without gs θ) v ≡ along θ v
unfolding without along
without_out gs [] v e = refl
without_out gs (b ∷ θ) v e = go (has gs b.variable) refl (without_out gs θ v e)
  where
    go : (c : Bool) → has gs b.variable ≡ c → along (without gs θ) v ≡ along θ v
        → along (elim c as (λ _. List Binding) [ true ↦ without gs θ | false ↦ b ∷ without gs θ ]) v ≡ along (b ∷ θ) v
    go true p h = h ∙ sym (along_skip b θ v (λ q. true_false (has gs b.variable) p (ap (has gs) (sym q) ∙ e)))
    go false p h = along_step b (without gs θ) θ v h

-- the bindings that are left: the listed variables stay, the others have their values
without_leaves : (gs : List ℕ) (θ : List Binding) → Leaves gs (along θ) (along (without gs θ))
unfolding Leaves
without_leaves gs θ v = go (has gs v) refl
  where
    go : (b : Bool) → has gs v ≡ b
        → (In v gs × (along (without gs θ) v ≡ var v)) ⊎ (¬ (In v gs) × (along (without gs θ) v ≡ along θ v))
    go true e = inl (has_in gs v e, without_in gs θ v e)
    go false e = inr (λ i. true_false (has gs v) (in_has gs v i) e, without_out gs θ v e)

-- no value that is left holds a listed variable
clear_each : (gs : List ℕ) (ζ : List Binding) → clear gs ζ ≡ true → Each (λ v t. (g : ℕ) → In g gs → ¬ (Occ g t)) ζ
unfolding clear all Each
clear_each gs [] e = tt
clear_each gs (b ∷ ζ) e =
    let r = and_true (all (λ v. not (variables b.value v)) gs) (all (λ b. all (λ v. not (variables b.value v)) gs) ζ) e in (
      λ g i o. true_false (variables b.value g) (occ_variables b.value g o)
          (not-true (variables b.value g) (all_in (λ v. not (variables b.value v)) gs g r.0 i)),
      clear_each gs ζ r.1,
    )

uncaptured : (θ : List Binding) (d : Fact) → clear d.general (without d.general θ) ≡ true → Uncaptured (along θ) d
unfolding Uncaptured Leaves Occ
uncaptured θ d e v z n o i =
    elim (without_leaves d.general θ v) [
      | inl p ↦ n p.0
      | inr p ↦ elim (along_cases (λ v t. (g : ℕ) → In g d.general → ¬ (Occ g t)) (without d.general θ)
          (clear_each d.general (without d.general θ) e) v) [
            | inl q ↦ q.1 z i (subst (λ t. Occ z t) (sym p.1) o)
            | inr q ↦ n (subst (λ k. In k d.general) (subst (λ t. Occ z t) (sym p.1 ∙ q.1) o) i)
          ]
    ]

module _ (U : State) (θ : List Binding) where
  context_fact_ok : (C : Fact → Type 0) (d : Fact) → C d → (m : Made)
      → Ok (λ a. FromContext C (along θ) a × Uncaptured (along θ) d) (context_fact θ d m)
  unfolding context_fact FromContext
  context_fact_ok C d i m =
      ok_then (ok_ask 48 (clear d.general (without d.general θ)) m) (λ _ m₁ e.
      ok_then (substitutes_ok (along (without d.general θ)) d.premises m₁) (λ ps m₂ p.
      ok_then (substitute_ok (along (without d.general θ)) d.judgment m₂) (λ j m₃ q.
      done ((d, i, along (without d.general θ), without_leaves d.general θ, refl, p, q), uncaptured θ d e))))

  pub context_facts_ok : (hs ks : List ℕ) → ((h : ℕ) → In h ks → In h hs) → (m : Made)
      → Ok (λ az. EachA (FromContext (InContext U.facts hs) (along θ)) az
      × ((d : Fact) → InContext U.facts ks d → Uncaptured (along θ) d)) (context_facts U θ ks m)
  unfolding context_facts EachA InContext In
  context_facts_ok hs [] s m = done (tt, λ d i. absurd i.1)
  context_facts_ok hs (k ∷ ks) s m =
      ok_then (fact_ok U k m) (λ f m₁ a.
      ok_then (context_fact_ok (InContext U.facts hs) f (k, s k (inl refl), a) m₁) (λ b m₂ c.
      ok_then (context_facts_ok hs ks (λ h i. s h (inr i)) m₂) (λ bs m₃ r.
      done (
        (c.0, r.0),
        λ d i. elim i.1 [
          | inl e ↦ subst (λ z. Uncaptured (along θ) z) (at_unique U.facts k f d a (subst (λ z. At U.facts z d) e i.2)) c.1
          | inr j ↦ r.1 d (i.0, j, i.2)
        ],
      ))))

-- what a fact that is allowed is
allowed_hyp_lem : (R : Rule) (nm : ℕ → ℕ) (C : Fact → Type 0) (θ : ℕ → Tree) (az : List Allowed) (h : Fact)
    → EachA (λ a. FromRule (renamed nm) θ R.premises a ⊎ FromContext C θ a) az → any (is_allowed h) az ≡ true → InvertHyp R nm C θ h
unfolding any EachA FromRule FromContext is_allowed Plain
allowed_hyp_lem R nm C θ [] h e q = absurd (true_false false q refl)
allowed_hyp_lem R nm C θ (a ∷ az) h e q =
    elim (or_true (is_allowed h a) (any (is_allowed h) az) q) [
      | inl p ↦ one p e.0
      | inr p ↦ allowed_hyp_lem R nm C θ az h e.1 p
    ]
  where
    one : (same_trees a.premises h.premises && (same_tree a.judgment h.judgment && same a.general h.general)) ≡ true
        → FromRule (renamed nm) θ R.premises a ⊎ FromContext C θ a → InvertHyp R nm C θ h
    one p k =
        let r = both_true (same_trees a.premises h.premises) (same_tree a.judgment h.judgment && same a.general h.general) p in
        let s = both_true (same_tree a.judgment h.judgment) (same a.general h.general) r.1 in
        by (same_trees_true a.premises h.premises r.0) (same_tree_true a.judgment h.judgment s.0)
        (same_true a.general h.general s.1) k
      where
        by : a.premises ≡ h.premises → a.judgment ≡ h.judgment → a.general ≡ h.general
            → FromRule (renamed nm) θ R.premises a ⊎ FromContext C θ a → InvertHyp R nm C θ h
        by ep ej eg (inl (p, g, i)) =
            of_rule (sym eg ∙ g, sym ep ∙ p) (subst (λ t. Among t (subs θ (subs (renamed nm) R.premises))) ej i)
        by ep ej eg (inr (d, i, σ, l, g, p, j)) = of_context d i σ l (sym eg ∙ g) (sym ep ∙ p) (sym ej ∙ j)

pub allowed_in_lem : (R : Rule) (nm : ℕ → ℕ) (C : Fact → Type 0) (θ : ℕ → Tree) (az : List Allowed) (h : Fact)
    → EachA (λ a. FromRule (renamed nm) θ R.premises a ⊎ FromContext C θ a) az → allowed_in az (some h) ≡ true → InvertHyp R nm C θ h
unfolding allowed_in
allowed_in_lem R nm C θ az h e q = allowed_hyp_lem R nm C θ az h e (both_true h.assumed (any (is_allowed h) az) q).1

-- both lists together
pub premises_and_context : (U : State) (R : Rule) (nm : ℕ → ℕ) (θ : List Binding) (hs : List ℕ) (az bs : List Allowed)
    → EachA (FromRule (renamed nm) (along θ) R.premises) az → EachA (FromContext (InContext U.facts hs) (along θ)) bs
    → EachA (λ a. FromRule (renamed nm) (along θ) R.premises a ⊎ FromContext (InContext U.facts hs) (along θ) a) (az ++ bs)
premises_and_context U R nm θ hs az bs p q =
    each_both (FromRule (renamed nm) (along θ) R.premises) (FromContext (InContext U.facts hs) (along θ))
    (λ a. FromRule (renamed nm) (along θ) R.premises a ⊎ FromContext (InContext U.facts hs) (along θ) a) (λ a x. inl x) (λ a x. inr x) az bs p q
