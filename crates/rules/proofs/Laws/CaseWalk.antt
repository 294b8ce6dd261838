-- The walk of Keeping through `induct` and `invert`; and the variables that `invert` makes, which come behind those there were. Assumes nothing.
use Rattle.std.specs.Prelude.{ℕ, suc, ◌≤◌, ◌<◌, ◌≡◌, refl, Bool, true, false, ◌&&◌, not, ltb, eqb, length, Option, Some as some, None as nothing}
use Rattle.std.proofs.Common.{sym, arith, ltb-true, length-append}
use mathlib.Core.List.{List, [], ◌∷◌, ◌++◌, append_assoc, append-nil}
use Rattle.rules.specs.Limits.{VARIABLES}
use Rattle.rules.specs.Out.{ask}
use Rattle.rules.specs.Sexp.{Sexp, Sexps, nil, cons, count, item, rest}
use Rattle.rules.specs.Find.{entry, all, has}
use Rattle.rules.specs.Tree.{Tree, Trees, var, app, none, more, same_tree, single}
use Rattle.rules.specs.Store.{Made}
use Rattle.rules.specs.Theory.{Rule, RuleVar, no_name, inputs, constructors, rule, rules_of}
use Rattle.rules.specs.Unify.{Binding, along}
use Rattle.rules.specs.State.{State, Var, Fact, sort_of_var, is_plain}
use Rattle.rules.specs.Reference.{judgments_at}
use Rattle.rules.specs.Induct.{Motive, motive_vars, keep_vars, hypothesis_at, hypotheses, allowed_hyp, induct_case, induct_cases, induct_on, induct, induct_with}
use Rattle.rules.specs.Invert.{Case, case_named, Inversion, taken_vars, Names, suit, make_vars, renamed, renaming, rule_premises, without, clear, context_fact, context_facts, allowed_in, invert_case, case_or_not, invert_rule, invert_rules, predicate_of, invert}
use Rattle.rules.specs.Laws.Out.{Ok, of_ok}
use Rattle.rules.specs.Laws.Out as outs
use Rattle.rules.specs.Laws.Keeping.{Each, Arguments, Invariant, Keeps, fine, off, stays, has_on, weaken, by_then, by_still, by_ask, by_either}
use Rattle.rules.proofs.Laws.MakingWalk.{keep_keeps, substitute_keeps, substitutes_keeps, unify_keeps}
use Rattle.rules.specs.Laws.Ready.{Knowns}
use Rattle.rules.proofs.Laws.Still.{items_still, index_still, variable_still, fact_at_still, hyp_list_still, case_vars_still, read_cases_still, renamed_still}
use Rattle.rules.proofs.Laws.ReadWalk.{judgment_keeps}
use Rattle.rules.specs.Laws.Ready.{FactIn, Ready}

-- Variables made ------------------------------------------------------------------------------------------------------------------

-- further variables behind those there were, inside row 7
pub record Longer (vs ws : List Var) : Type 0 where
  pub new : List Var
  pub is : ws ≡ vs ++ new
  pub row : length vs ≤ VARIABLES → length ws ≤ VARIABLES

pub same_vars : (vs : List Var) → Longer vs vs
same_vars vs = record { new = []; is = sym (append-nil vs); row = λ h. h }

pub longer_on : {us vs ws : List Var} → Longer us vs → Longer vs ws → Longer us ws
longer_on g h = record { new = g.new ++ h.new; is = rw (h.is, g.is, append_assoc); row = λ k. h.row (g.row k) }

pub one_var : (vs : List Var) (v : Var) → length vs < VARIABLES → Longer vs (vs ++ (v ∷ []))
one_var vs v h = record { new = v ∷ []; is = refl; row = λ k. omega (arith, length-append vs (v ∷ [])) }

pub make_vars_longer : (rs : List RuleVar) (vs : List Var) (m : Made) → Ok (λ ws u. Longer vs ws) (make_vars rs vs m)
unfolding make_vars
make_vars_longer [] vs m = outs.fine (same_vars vs)
make_vars_longer (r ∷ rs) vs m =
    outs.by_room 7 (ltb (length vs) VARIABLES) m _ λ e.
    outs.weaken (make_vars_longer rs (vs ++ (record { sort = r.sort; text = 0; name = no_name } ∷ [])) m)
    (λ ws u h. longer_on (one_var vs _ (ltb-true _ VARIABLES e)) h)

pub renamed_longer : (S : State) (I : Inversion) (R : Rule) (c : Option Case) (N : Names) (m : Made) →
    Ok (λ r u. Longer N.vars r.1.vars) (renamed S I R c N m)
unfolding renamed
renamed_longer S I R (some c) N m =
    outs.by_ask 42 (suit S.vars c.vars R.vars) m _ λ e.
    outs.by_ask 42 (all (λ v. not (taken_vars S I v) && not (has N.seen v)) c.vars) m _ λ f. outs.fine (same_vars N.vars)
renamed_longer S I R nothing N m =
    outs.by_then _ _ (make_vars_longer R.vars N.vars m) λ vs u e h. outs.fine h

module _ {K : Invariant} where
  keep_vars_keeps : (vs : List ℕ) (m : Made) → K.Good m → Keeps K m (Knowns K) (keep_vars vs m)
  unfolding keep_vars Each Arguments
  keep_vars_keeps [] m g = fine (stays g) tt
  keep_vars_keeps (v ∷ vs) m g =
      by_then _ _ (keep_keeps (var v) m g tt) λ t u h p.
      by_then _ _ (keep_vars_keeps vs u h.good) λ ts w k q. fine (stays k.good) (has_on k p, q)

  ask_keeps : (n : ℕ) (b : Bool) (m : Made) → K.Good m → Keeps K m (λ a u. Unit {0}) (ask n b m)
  ask_keeps n true m g = fine (stays g) tt
  ask_keeps n false m g = off (stays g)

  -- Induction -------------------------------------------------------------------------------------------------------------------

  hypothesis_keeps : (M : Motive) (v : ℕ) (m : Made) → K.Good m → Keeps K m (λ h u. Unit {0}) (hypothesis_at M v m)
  unfolding hypothesis_at Arguments
  hypothesis_keeps M v m g =
      by_then _ _ (keep_keeps (var v) m g tt) λ y u h p.
      by_then _ _ (substitutes_keeps (single M.variable y) M.premises u h.good) λ ps w k q.
      by_then _ _ (substitute_keeps (single M.variable y) M.judgment w k.good) λ j z l r. fine (stays l.good) tt

  hypotheses_keeps : (M : Motive) (vs ss : List ℕ) (m : Made) → K.Good m → Keeps K m (λ h u. Unit {0}) (hypotheses M vs ss m)
  unfolding hypotheses
  hypotheses_keeps M [] ss m g = fine (stays g) tt
  hypotheses_keeps M (v ∷ vs) [] m g = fine (stays g) tt
  hypotheses_keeps M (v ∷ vs) (s ∷ ss) m g =
      by_either (eqb s M.sort) _ _
      (by_then _ _ (hypothesis_keeps M v m g) λ a u h p. by_then _ _ (hypotheses_keeps M vs ss u h.good) λ b w k q. fine (stays k.good) tt)
      (hypotheses_keeps M vs ss m g)

  induct_case_keeps : (S : State) (M : Motive) (x : Sexp) (c : ℕ) (m : Made) → K.Good m → Keeps K m (λ a u. Unit {0}) (induct_case S M x c m)
  unfolding induct_case Arguments
  induct_case_keeps S M x c m g =
      by_still _ _ g (items_still 41 x) λ ys e.
      by_still _ _ g (index_still 41 (item ys 0)) λ i e.
      by_ask 41 (eqb (count ys) (suc (length (inputs S.theory c)))) _ g λ e.
      by_still _ _ g (case_vars_still S M (rest ys 1) (inputs S.theory c) []) λ vs e.
      by_then _ _ (keep_vars_keeps vs m g) λ ts u h p.
      by_then _ _ (keep_keeps (app c ts) u h.good p) λ t w k q.
      by_then _ _ (substitute_keeps (single M.variable t) M.judgment w k.good) λ j z l r.
      by_then _ _ (substitutes_keeps (single M.variable t) M.premises z l.good) λ ps y n o.
      by_then _ _ (hypotheses_keeps M vs (inputs S.theory c) y n.good) λ ihs v d a.
      by_still _ _ d.good (fact_at_still S i) λ f e.
      by_ask 43 (same_tree f.judgment j) _ d.good λ e.
      ask_keeps 44 (all (λ h. allowed_hyp M ps ihs (entry S.facts h)) f.hyps) v d.good

  induct_cases_keeps : (S : State) (M : Motive) (xs : Sexps) (cs : List ℕ) (m : Made) → K.Good m → Keeps K m (λ a u. Unit {0}) (induct_cases S M xs cs m)
  unfolding induct_cases
  induct_cases_keeps S M nil cs m g = fine (stays g) tt
  induct_cases_keeps S M (cons x xs) [] m g = fine (stays g) tt
  induct_cases_keeps S M (cons x xs) (c ∷ cs) m g =
      by_then _ _ (induct_case_keeps S M x c m g) λ a u h p. induct_cases_keeps S M xs cs u h.good

  induct_on_keeps : (S : State) (x : ℕ) (hs : List ℕ) (y z : Sexp) (m : Made) → Ready K S m → Keeps K m (λ f u. FactIn K u f) (induct_on S x hs y z m)
  unfolding induct_on Each
  induct_on_keeps S x hs y z m h =
      by_then _ _ (judgment_keeps S y m h) λ j u g p.
      by_still _ _ g.good (items_still 41 z) λ cs e.
      by_ask 41 (eqb (count cs) (length (constructors S.theory (sort_of_var S.vars x)))) _ g.good λ e.
      by_ask 45 (motive_vars (motive j) x) _ g.good λ e.
      by_then _ _ (induct_cases_keeps S (motive j) cs (constructors S.theory (sort_of_var S.vars x)) u g.good) λ a w k q.
      fine (stays k.good) (record { judgment = has_on k p; premises = tt })
    where
      motive : Tree → Motive
      motive j = record { variable = x; sort = sort_of_var S.vars x; judgment = j; premises = judgments_at S.facts hs }

  pub induct_keeps : (S : State) (xs : Sexps) (m : Made) → Ready K S m → Keeps K m (λ f u. FactIn K u f) (induct S xs m)
  unfolding induct
  induct_keeps S xs m h = by_still _ _ h.good (variable_still 36 S (item xs 2)) λ x e. induct_on_keeps S x [] (item xs 3) (item xs 4) m h

  pub induct_with_keeps : (S : State) (xs : Sexps) (m : Made) → Ready K S m → Keeps K m (λ f u. FactIn K u f) (induct_with S xs m)
  unfolding induct_with
  induct_with_keeps S xs m h =
      by_still _ _ h.good (variable_still 36 S (item xs 2)) λ x e.
      by_still _ _ h.good (hyp_list_still is_plain S (item xs 3)) λ hs e. induct_on_keeps S x hs (item xs 4) (item xs 5) m h

  -- Inversion -------------------------------------------------------------------------------------------------------------------

  rule_premises_keeps : (ρ θ : ℕ → Tree) (ps : Trees) (m : Made) → K.Good m → Keeps K m (λ a u. Unit {0}) (rule_premises ρ θ ps m)
  unfolding rule_premises
  rule_premises_keeps ρ θ none m g = fine (stays g) tt
  rule_premises_keeps ρ θ (more p ps) m g =
      by_then _ _ (substitute_keeps ρ p m g) λ t u h a.
      by_then _ _ (substitute_keeps θ t u h.good) λ s w k b.
      by_then _ _ (rule_premises_keeps ρ θ ps w k.good) λ us v l c. fine (stays l.good) tt

  context_fact_keeps : (θ : List Binding) (f : Fact) (m : Made) → K.Good m → Keeps K m (λ a u. Unit {0}) (context_fact θ f m)
  unfolding context_fact
  context_fact_keeps θ f m g =
      by_ask 48 (clear f.general (without f.general θ)) _ g λ e.
      by_then _ _ (substitutes_keeps (along (without f.general θ)) f.premises m g) λ ps u h a.
      by_then _ _ (substitute_keeps (along (without f.general θ)) f.judgment u h.good) λ j w k b. fine (stays k.good) tt

  context_facts_keeps : (S : State) (θ : List Binding) (hs : List ℕ) (m : Made) → K.Good m → Keeps K m (λ a u. Unit {0}) (context_facts S θ hs m)
  unfolding context_facts
  context_facts_keeps S θ [] m g = fine (stays g) tt
  context_facts_keeps S θ (h ∷ hs) m g =
      by_still _ _ g (fact_at_still S h) λ f e.
      by_then _ _ (context_fact_keeps θ f m g) λ a u k p.
      by_then _ _ (context_facts_keeps S θ hs u k.good) λ az w l q. fine (stays l.good) tt

  invert_case_keeps : (S : State) (I : Inversion) (R : Rule) (ρ : ℕ → Tree) (θ : List Binding) (c : Case) (m : Made) → K.Good m →
      Keeps K m (λ a u. Unit {0}) (invert_case S I R ρ θ c m)
  unfolding invert_case
  invert_case_keeps S I R ρ θ c m g =
      by_then _ _ (substitute_keeps (along θ) I.judgment m g) λ j u h p.
      by_then _ _ (rule_premises_keeps ρ (along θ) R.premises u h.good) λ az w k q.
      by_then _ _ (context_facts_keeps S θ I.context w k.good) λ bs v l r.
      by_still _ _ l.good (fact_at_still S c.fact) λ f e.
      by_ask 43 (same_tree f.judgment j) _ l.good λ e.
      ask_keeps 44 (all (λ h. allowed_in (az ++ bs) (entry S.facts h)) f.hyps) v l.good

  case_or_not_keeps : (S : State) (I : Inversion) (R : Rule) (ρ : ℕ → Tree) (θ : Option (List Binding)) (c : Option Case) (m : Made) → K.Good m →
      Keeps K m (λ a u. Unit {0}) (case_or_not S I R ρ θ c m)
  unfolding case_or_not
  case_or_not_keeps S I R ρ nothing nothing m g = fine (stays g) tt
  case_or_not_keeps S I R ρ nothing (some c) m g = off (stays g)
  case_or_not_keeps S I R ρ (some θ) nothing m g = off (stays g)
  case_or_not_keeps S I R ρ (some θ) (some c) m g = invert_case_keeps S I R ρ θ c m g

  invert_rule_keeps : (S : State) (I : Inversion) (R : Rule) (N : Names) (m : Made) → K.Good m →
      Keeps K m (λ M u. Longer N.vars M.vars) (invert_rule S I R N m)
  unfolding invert_rule
  invert_rule_keeps S I R N m g =
      by_still _ _ g (renamed_still S I R (case_named I.cases R.name.bytes) N) λ r e.
      by_then _ _ (keep_vars_keeps r.0 m g) λ ts u h p.
      by_then _ _ (substitute_keeps (renaming r.0) R.conclusion u h.good) λ t w k q.
      by_then _ _ (unify_keeps (length r.1.vars) I.hypothesis t w k.good) λ θ v l s.
      by_then _ _ (case_or_not_keeps S I R (renaming r.0) θ (case_named I.cases R.name.bytes) v l.good) λ a z n o.
      fine (stays n.good) (of_ok (renamed_longer S I R (case_named I.cases R.name.bytes) N m) e)

  invert_rules_keeps : (S : State) (I : Inversion) (rs : List ℕ) (N : Names) (m : Made) → K.Good m →
      Keeps K m (λ M u. Longer N.vars M.vars) (invert_rules S I rs N m)
  unfolding invert_rules
  invert_rules_keeps S I [] N m g = fine (stays g) (same_vars N.vars)
  invert_rules_keeps S I (r ∷ rs) N m g =
      by_then _ _ (invert_rule_keeps S I (rule S.theory r) N m g) λ M u h p.
      weaken (invert_rules_keeps S I rs M u h.good) (λ L w q. longer_on p q)

  pub invert_keeps : (S : State) (xs : Sexps) (m : Made) → Ready K S m → Keeps K m (λ r u. FactIn K u r.0 × Longer S.vars r.1) (invert S xs m)
  unfolding invert Each
  invert_keeps S xs m h =
      by_still _ _ h.good (index_still 34 (item xs 2)) λ i e.
      by_still _ _ h.good (fact_at_still S i) λ k e.
      by_ask 40 (is_plain k) _ h.good λ e.
      by_still _ _ h.good (hyp_list_still (λ f. f.assumed) S (item xs 3)) λ hs e.
      by_then _ _ (judgment_keeps S (item xs 4) m h) λ j u g p.
      by_still _ _ g.good (items_still 41 (item xs 5)) λ ys e.
      by_still _ _ g.good (read_cases_still S ys []) λ cs e.
      by_then _ _ (invert_rules_keeps S (record { hypothesis = k.judgment; judgment = j; context = hs; cases = cs })
      (rules_of S.theory (predicate_of k.judgment)) (record { vars = S.vars; seen = [] }) u g.good) λ N w l q.
      fine (stays l.good) (record { judgment = has_on l p; premises = tt }, q)
