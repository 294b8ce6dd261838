-- The walk of Below through `induct` and `invert`. A rule's turn in `invert` may make variables: its trees are then below the number of
-- variables that there are now. Assumes nothing.
use Rattle.std.specs.Prelude.{ℕ, zero, suc, ◌+◌, ◌≤◌, ◌<◌, ◌≡◌, refl, Bool, true, false, ◌&&◌, not, eqb, ltb, Option, Some as some, None as nothing}
use Rattle.std.proofs.Common.{sym, ap, arith, eqb-true, length-append}
use Rattle.std.proofs.Math.Path.{subst}
use Rattle.std.proofs.lemmas.Bool.{false≢true}
use mathlib.Core.List.{List, [], ◌∷◌, ◌++◌}
use Rattle.std.proofs.Math.ListN.{length}
use Rattle.rules.specs.Limits.{VARIABLES}
use Rattle.rules.specs.Out.{ok, ask}
use Rattle.rules.specs.Sexp.{Sexp, Sexps, nil, cons, count, item, rest}
use Rattle.rules.specs.Find.{entry, every, all, has}
use Rattle.rules.specs.Tree.{Tree, Trees, var, app, none, more, same_tree, sub, single}
use Rattle.rules.specs.Store.{Made}
use Rattle.rules.specs.Theory.{Theory, Rule, RuleVar, no_name, no_rule, inputs, constructors, rule, head_is, rules_of}
use Rattle.rules.specs.Unify.{Binding, along}
use Rattle.rules.specs.State.{State, Var, Fact, sort_of_var, var_named, is_plain}
use Rattle.rules.specs.Read.{variable}
use Rattle.rules.specs.Reference.{hyp_list, judgments_at}
use Rattle.rules.specs.Induct.{Motive, motive_vars, case_vars, keep_vars, hypothesis_at, hypotheses, allowed_hyp, induct_case, induct_cases, induct_on, induct, induct_with}
use Rattle.rules.specs.Invert.{Case, case_named, Inversion, taken_vars, Names, suit, make_vars, up_from, renamed, renaming, rule_premises, without, clear, context_fact, context_facts, allowed_in, invert_case, case_or_not, invert_rule, invert_rules, predicate_of, invert}
use Rattle.rules.specs.Laws.Out.{Ok, of_ok}
use Rattle.rules.specs.Laws.Out as outs
use Rattle.rules.specs.Laws.Theory.{All, empty, both, all_map, all_snoc, all_at, Sorted, Sorteds, Judgment, Judgments, RuleFormed, WellFormed}
use Rattle.rules.specs.Laws.Rising.{rising_all_of}
use Rattle.rules.proofs.Laws.Still.{items_still, index_still, variable_still, fact_at_still, hyp_list_still, case_vars_still, read_cases_still, renamed_still}
use Rattle.rules.proofs.Laws.CaseWalk.{Longer, same_vars, longer_on, make_vars_longer}
use Rattle.rules.specs.Laws.Shape.{past}
use Rattle.rules.proofs.Laws.Below.{Below, Belows, MadeBelow, ValuesBelow, UnifierBelow, Leaves, Bounds, fine, off, below_up, made_up, sub_below, along_below, single_below, weaken}
use Rattle.rules.proofs.Laws.Below.{by_then, by_still, by_ask, by_either, keep_below, instance_below, substitute_below, substitutes_below, unify_below}
use Rattle.rules.proofs.Laws.BelowRead.{FactBelow, StateBelow, state_up, var_named_below, judgments_at_below, fact_below, judgment_below}

-- variables that are below n
abbrev pub AllBelow : ℕ → List ℕ → Type 0
AllBelow n vs = All (λ v. v < n) vs

pub ask_bounds : (n k : ℕ) (b : Bool) (m : Made) → MadeBelow n m → Bounds n (λ a. Unit {0}) (ask k b m)
ask_bounds n k true m g = fine (g, tt)
ask_bounds n k false m g = off g

pub keep_vars_below : (n : ℕ) (vs : List ℕ) (m : Made) → MadeBelow n m → AllBelow n vs → Bounds n (Belows n) (keep_vars vs m)
unfolding keep_vars Below
keep_vars_below n [] m g h = fine (g, tt)
keep_vars_below n (v ∷ vs) m g (both l h) =
    by_then _ _ (keep_below n (var v) m g l) λ t u p. by_then _ _ (keep_vars_below n vs u p.0 h) λ ts w q. fine (q.0, (p.1, q.1))

-- Induction -------------------------------------------------------------------------------------------------------------------------

pub case_vars_there : (S : State) (M : Motive) (xs : Sexps) (ss vs : List ℕ) (m : Made) → AllBelow (length S.vars) vs
    → Ok (λ ws u. AllBelow (length S.vars) ws) (case_vars S M xs ss vs m)
unfolding case_vars variable
case_vars_there S M nil ss vs m h = outs.fine h
case_vars_there S M (cons x xs) [] vs m h = outs.fine h
case_vars_there S M (cons x xs) (s ∷ ss) vs m h =
    outs.by_assoc _ _ _ (outs.by_name 42 x m _ λ a e.
    outs.by_found 42 (var_named S.vars a.bytes) m _ λ v f.
    outs.by_ask 42 (eqb (sort_of_var S.vars v) s && (not (motive_vars M v) && not (has vs v))) m _ λ k.
    case_vars_there S M xs ss (vs ++ (v ∷ [])) m (all_snoc h (var_named_below S.vars a.bytes v f)))

pub hyp_list_there : (p : Fact → Bool) (S : State) (x : Sexp) (m : Made) → Ok (λ hs u. AllBelow (length S.facts) hs) (hyp_list p S x m)
unfolding hyp_list
hyp_list_there p S x m = past _ _ λ xs a e. past _ _ λ hs b f. outs.fine (rising_all_of (length S.facts) (has hs) (λ v l t. l))

pub record MotiveBelow (n : ℕ) (M : Motive) : Type 0 where
  pub judgment : Below n M.judgment
  pub premises : Belows n M.premises

module _ (n : ℕ) (M : Motive) (mb : MotiveBelow n M) where
  pub hypothesis_below : (v : ℕ) (m : Made) → MadeBelow n m → v < n → Bounds n (λ h. Unit {0}) (hypothesis_at M v m)
  unfolding hypothesis_at Below
  hypothesis_below v m g l =
      by_then _ _ (keep_below n (var v) m g l) λ y u p.
      by_then _ _ (substitutes_below n (single M.variable y) (single_below n M.variable y p.1) M.premises u p.0 mb.premises) λ ps w q.
      by_then _ _ (substitute_below n (single M.variable y) (single_below n M.variable y p.1) M.judgment w q.0 mb.judgment) λ j z r.
      fine (r.0, tt)

  pub hypotheses_below : (vs ss : List ℕ) (m : Made) → MadeBelow n m → AllBelow n vs → Bounds n (λ h. Unit {0}) (hypotheses M vs ss m)
  unfolding hypotheses
  hypotheses_below [] ss m g h = fine (g, tt)
  hypotheses_below (v ∷ vs) [] m g h = fine (g, tt)
  hypotheses_below (v ∷ vs) (s ∷ ss) m g (both l h) =
      by_either (eqb s M.sort) _ _
      (by_then _ _ (hypothesis_below v m g l) λ a u p. by_then _ _ (hypotheses_below vs ss u p.0 h) λ b w q. fine (q.0, tt))
      (hypotheses_below vs ss m g h)

  module _ (S : State) (low : StateBelow n S) where
    pub induct_case_below : (x : Sexp) (c : ℕ) (m : Made) → MadeBelow n m → Bounds n (λ a. Unit {0}) (induct_case S M x c m)
    unfolding induct_case Below
    induct_case_below x c m g =
        by_still _ _ g (items_still 41 x) λ ys e.
        by_still _ _ g (index_still 41 (item ys 0)) λ i e.
        by_ask 41 (eqb (count ys) (suc (length (inputs S.theory c)))) _ g λ e.
        by_still _ _ g (case_vars_still S M (rest ys 1) (inputs S.theory c) []) λ vs e.
        by_then _ _ (keep_vars_below n vs m g (there ys vs e)) λ ts u p.
        by_then _ _ (keep_below n (app c ts) u p.0 p.1) λ t w q.
        by_then _ _ (substitute_below n (single M.variable t) (single_below n M.variable t q.1) M.judgment w q.0 mb.judgment) λ j y r.
        by_then _ _ (substitutes_below n (single M.variable t) (single_below n M.variable t q.1) M.premises y r.0 mb.premises) λ ps z k.
        by_then _ _ (hypotheses_below vs (inputs S.theory c) z k.0 (there ys vs e)) λ ihs v d.
        by_still _ _ d.0 (fact_at_still S i) λ f e.
        by_ask 43 (same_tree f.judgment j) _ d.0 λ e.
        ask_bounds n 44 (all (λ h. allowed_hyp M ps ihs (entry S.facts h)) f.hyps) v d.0
      where
        there : (ys : Sexps) (vs : List ℕ) → case_vars S M (rest ys 1) (inputs S.theory c) [] m ≡ ok vs m → AllBelow n vs
        there ys vs e =
            all_map (λ v l. let k = low.vars in omega arith) (of_ok (case_vars_there S M (rest ys 1) (inputs S.theory c) [] m empty) e)

    pub induct_cases_below : (xs : Sexps) (cs : List ℕ) (m : Made) → MadeBelow n m → Bounds n (λ a. Unit {0}) (induct_cases S M xs cs m)
    unfolding induct_cases
    induct_cases_below nil cs m g = fine (g, tt)
    induct_cases_below (cons x xs) [] m g = fine (g, tt)
    induct_cases_below (cons x xs) (c ∷ cs) m g = by_then _ _ (induct_case_below x c m g) λ a u p. induct_cases_below xs cs u p.0

module _ (n : ℕ) (S : State) (low : StateBelow n S) where
  pub induct_on_below : (x : ℕ) (hs : List ℕ) (y z : Sexp) (m : Made) → MadeBelow n m → AllBelow (length S.facts) hs
      → Bounds n (FactBelow n) (induct_on S x hs y z m)
  unfolding induct_on Below
  induct_on_below x hs y z m g h =
      by_then _ _ (judgment_below n S low y m g) λ j u p.
      by_still _ _ p.0 (items_still 41 z) λ cs e.
      by_ask 41 (eqb (count cs) (length (constructors S.theory (sort_of_var S.vars x)))) _ p.0 λ e.
      by_ask 45 (motive_vars (motive j) x) _ p.0 λ e.
      by_then _ _ (induct_cases_below n (motive j) (record { judgment = p.1; premises = judgments_at_below n S.facts hs low.facts h }) S low cs
      (constructors S.theory (sort_of_var S.vars x)) u p.0) λ a w q.
      fine (q.0, record { judgment = p.1; premises = tt })
    where
      motive : Tree → Motive
      motive j = record { variable = x; sort = sort_of_var S.vars x; judgment = j; premises = judgments_at S.facts hs }

  pub induct_below : (xs : Sexps) (m : Made) → MadeBelow n m → Bounds n (FactBelow n) (induct S xs m)
  unfolding induct
  induct_below xs m g = by_still _ _ g (variable_still 36 S (item xs 2)) λ x e. induct_on_below x [] (item xs 3) (item xs 4) m g empty

  pub induct_with_below : (xs : Sexps) (m : Made) → MadeBelow n m → Bounds n (FactBelow n) (induct_with S xs m)
  unfolding induct_with
  induct_with_below xs m g =
      by_still _ _ g (variable_still 36 S (item xs 2)) λ x e.
      by_still _ _ g (hyp_list_still is_plain S (item xs 3)) λ hs e.
      induct_on_below x hs (item xs 4) (item xs 5) m g (of_ok (hyp_list_there is_plain S (item xs 3) m) e)

-- The renaming of a rule --------------------------------------------------------------------------------------------------------------

-- a rule's patterns are over its own variables
mutual
  unfolding Sorted Below

  sorted_below : (T : Theory) (vs : List RuleVar) (t : Tree) (s : ℕ) → Sorted T vs t s → Below (length vs) t
  sorted_below T vs (var i) s h = h.0
  sorted_below T vs (app c ts) s h = sorteds_below T vs ts (inputs T c) h.2

  sorteds_below : (T : Theory) (vs : List RuleVar) (ts : Trees) (ss : List ℕ) → Sorteds T vs ts ss → Belows (length vs) ts
  sorteds_below T vs none ss h = tt
  sorteds_below T vs (more t ts) [] h = absurd h
  sorteds_below T vs (more t ts) (s ∷ ss) h = (sorted_below T vs t s h.0, sorteds_below T vs ts ss h.1)

pub pattern_below : (T : Theory) (vs : List RuleVar) (t : Tree) → Judgment T vs t → Below (length vs) t
unfolding Judgment Below
pattern_below T vs (var i) h = absurd h
pattern_below T vs (app c ts) h = sorteds_below T vs ts (inputs T c) h.2

pub patterns_below : (T : Theory) (vs : List RuleVar) (ts : Trees) → Judgments T vs ts → Belows (length vs) ts
unfolding Judgments Below
patterns_below T vs none h = tt
patterns_below T vs (more t ts) h = (pattern_below T vs t h.0, patterns_below T vs ts h.1)

-- only a variable that is there has a sort from 1 on
sort_there : (vs : List Var) (v : ℕ) → 1 ≤ sort_of_var vs v → v < length vs
unfolding sort_of_var
sort_there [] v l = absurd (omega arith)
sort_there (x ∷ vs) zero l = omega arith
sort_there (x ∷ vs) (suc v) l = let h = sort_there vs v l in omega arith

suit_there : (vs : List Var) (xs : List ℕ) (rs : List RuleVar) → All (λ r. 1 ≤ r.sort) rs → suit vs xs rs ≡ true
    → AllBelow (length vs) xs × (length xs ≡ length rs)
unfolding suit
suit_there vs [] [] h e = (empty, refl)
suit_there vs [] (r ∷ rs) h e = absurd (false≢true e)
suit_there vs (x ∷ xs) [] h e = absurd (false≢true e)
suit_there vs (x ∷ xs) (r ∷ rs) (both p h) e = go (eqb (sort_of_var vs x) r.sort) refl e (suit_there vs xs rs h)
  where
    go : (b : Bool) → eqb (sort_of_var vs x) r.sort ≡ b → elim b [ true ↦ suit vs xs rs | false ↦ false ] ≡ true
        → (suit vs xs rs ≡ true → AllBelow (length vs) xs × (length xs ≡ length rs)) → AllBelow (length vs) (x ∷ xs) × (length (x ∷ xs) ≡ length (r ∷ rs))
    go true q e k =
        (both (sort_there vs x (let z = eqb-true (sort_of_var vs x) r.sort q in omega arith)) (k e).0, ap suc (k e).1)
    go false q e k = absurd (false≢true e)

up_from_below : (k n : ℕ) → AllBelow (k + n) (up_from k n)
unfolding up_from
up_from_below k zero = empty
up_from_below k (suc n) = both {x = k} (omega arith) (all_map (λ v l. omega arith) (up_from_below (suc k) n))

up_from_length : (k n : ℕ) → length (up_from k n) ≡ n
unfolding up_from
up_from_length k zero = refl
up_from_length k (suc n) = ap suc (up_from_length (suc k) n)

make_vars_length : (rs : List RuleVar) (vs : List Var) (m : Made) → Ok (λ ws u. length ws ≡ length vs + length rs) (make_vars rs vs m)
unfolding make_vars
make_vars_length [] vs m = outs.fine {a = vs} (omega arith)
make_vars_length (r ∷ rs) vs m =
    outs.by_room 7 (ltb (length vs) VARIABLES) m _ λ e.
    outs.weaken (make_vars_length rs (vs ++ (record { sort = r.sort; text = 0; name = no_name } ∷ [])) m)
    (λ ws u h. omega (arith, h, length-append vs (record { sort = r.sort; text = 0; name = no_name } ∷ [])))

pub longer_length : {vs ws : List Var} → Longer vs ws → length vs ≤ length ws
longer_length {vs} {ws} h = omega (arith, ap (λ l. length l) h.is, length-append vs h.new)

-- a rule's variables renamed: as many, and all of them variables that are there then
pub record Renames (N : Names) (R : Rule) (xs : List ℕ) (M : Names) : Type 0 where
  pub below : AllBelow (length M.vars) xs
  pub many : length xs ≡ length R.vars
  pub longer : Longer N.vars M.vars

pub renamed_renames : (S : State) (I : Inversion) (R : Rule) (c : Option Case) (N : Names) (m : Made) → All (λ r. 1 ≤ r.sort) R.vars
    → length S.vars ≤ length N.vars → Ok (λ r u. Renames N R r.0 r.1) (renamed S I R c N m)
unfolding renamed
renamed_renames S I R (some c) N m h l =
    outs.by_ask 42 (suit S.vars c.vars R.vars) m _ λ e.
    outs.by_ask 42 (all (λ v. not (taken_vars S I v) && not (has N.seen v)) c.vars) m _ λ f.
    let r = suit_there S.vars c.vars R.vars h e in
    outs.fine (record { below = all_map (λ v k. omega arith) r.0; many = r.1; longer = same_vars N.vars })
renamed_renames S I R nothing N m h l =
    outs.by_then _ _ (make_vars_length R.vars N.vars m) λ vs u e k.
    outs.fine (record {
      below = all_map (λ v j. omega arith) (up_from_below (length N.vars) (length R.vars));
      many = up_from_length (length N.vars) (length R.vars);
      longer = of_ok (make_vars_longer R.vars N.vars m) e;
    })

pub renaming_below : (n k : ℕ) (xs : List ℕ) → AllBelow n xs → length xs ≡ k → (i : ℕ) → i < k → Below n (renaming xs i)
unfolding renaming Below
renaming_below n k xs b e i l = all_at xs i 0 b (omega arith)

-- the rule's conclusion, renamed
pub conclusion_below : (T : Theory) (R : Rule) → RuleFormed T R → (n : ℕ) (xs : List ℕ) → AllBelow n xs → length xs ≡ length R.vars
    → Below n (sub (renaming xs) R.conclusion)
conclusion_below T R h n xs b e =
    sub_below n (length R.vars) (renaming xs) (renaming_below n (length R.vars) xs b e) R.conclusion
    (pattern_below T R.vars R.conclusion h.conclusion)

-- Inversion ---------------------------------------------------------------------------------------------------------------------------

pub without_values : (n : ℕ) (vs : List ℕ) (θ : List Binding) → ValuesBelow n θ → ValuesBelow n (without vs θ)
unfolding without
without_values n vs [] h = empty
without_values n vs (b ∷ θ) (both p h) = go (has vs b.variable) (without_values n vs θ h)
  where
    go : (a : Bool) → ValuesBelow n (without vs θ) → ValuesBelow n (elim a [ true ↦ without vs θ | false ↦ b ∷ without vs θ ])
    go true q = q
    go false q = both p q

pub rule_premises_below : (n k : ℕ) (ρ θ : ℕ → Tree) → ((v : ℕ) → v < k → Below n (ρ v)) → ((v : ℕ) → v < n → Below n (θ v)) → (ps : Trees) (m : Made)
    → MadeBelow n m → Belows k ps → Bounds n (λ a. Unit {0}) (rule_premises ρ θ ps m)
unfolding rule_premises Below
rule_premises_below n k ρ θ r s none m g h = fine (g, tt)
rule_premises_below n k ρ θ r s (more p ps) m g h =
    by_then _ _ (instance_below n k ρ r p m g h.0) λ t u a.
    by_then _ _ (substitute_below n θ s t u a.0 a.1) λ x w b.
    by_then _ _ (rule_premises_below n k ρ θ r s ps w b.0 h.1) λ us v c. fine (c.0, tt)

pub context_fact_below : (n : ℕ) (θ : List Binding) (f : Fact) (m : Made) → MadeBelow n m → ValuesBelow n θ → FactBelow n f
    → Bounds n (λ a. Unit {0}) (context_fact θ f m)
unfolding context_fact
context_fact_below n θ f m g h k =
    by_ask 48 (clear f.general (without f.general θ)) _ g λ e.
    by_then _ _ (substitutes_below n (along (without f.general θ)) inside f.premises m g k.premises) λ ps u p.
    by_then _ _ (substitute_below n (along (without f.general θ)) inside f.judgment u p.0 k.judgment) λ j w q. fine (q.0, tt)
  where
    inside : (v : ℕ) → v < n → Below n (along (without f.general θ) v)
    inside = along_below n (without f.general θ) (without_values n f.general θ h)

-- what is inverted, and what is concluded
pub record InversionBelow (n : ℕ) (I : Inversion) : Type 0 where
  pub hypothesis : Below n I.hypothesis
  pub judgment : Below n I.judgment

pub inversion_up : (n k : ℕ) → n ≤ k → (I : Inversion) → InversionBelow n I → InversionBelow k I
inversion_up n k l I h = record { hypothesis = below_up n k l I.hypothesis h.hypothesis; judgment = below_up n k l I.judgment h.judgment }

module _ (n : ℕ) (S : State) (low : StateBelow n S) where
  pub context_facts_below : (θ : List Binding) (hs : List ℕ) (m : Made) → MadeBelow n m → ValuesBelow n θ → Bounds n (λ a. Unit {0}) (context_facts S θ hs m)
  unfolding context_facts
  context_facts_below θ [] m g h = fine (g, tt)
  context_facts_below θ (i ∷ is) m g h =
      by_still _ _ g (fact_at_still S i) λ f e.
      by_then _ _ (context_fact_below n θ f m g h (fact_below n S low i m f e)) λ a u p.
      by_then _ _ (context_facts_below θ is u p.0 h) λ az w q. fine (q.0, tt)

  module _ (I : Inversion) (inv : InversionBelow n I) (R : Rule) (rf : RuleFormed S.theory R) (xs : List ℕ) (b : AllBelow n xs)
      (e : length xs ≡ length R.vars) where
    pub invert_case_below : (θ : List Binding) (c : Case) (m : Made) → MadeBelow n m → ValuesBelow n θ
        → Bounds n (λ a. Unit {0}) (invert_case S I R (renaming xs) θ c m)
    unfolding invert_case
    invert_case_below θ c m g h =
        by_then _ _ (substitute_below n (along θ) (along_below n θ h) I.judgment m g inv.judgment) λ j u p.
        by_then _ _ (rule_premises_below n (length R.vars) (renaming xs) (along θ) (renaming_below n (length R.vars) xs b e) (along_below n θ h)
        R.premises u p.0 (patterns_below S.theory R.vars R.premises rf.premises)) λ az w q.
        by_then _ _ (context_facts_below θ I.context w q.0 h) λ bs v r.
        by_still _ _ r.0 (fact_at_still S c.fact) λ f k.
        by_ask 43 (same_tree f.judgment j) _ r.0 λ k.
        ask_bounds n 44 (all (λ h. allowed_in (az ++ bs) (entry S.facts h)) f.hyps) v r.0

    pub case_or_not_below : (θ : Option (List Binding)) (c : Option Case) (m : Made) → MadeBelow n m → UnifierBelow n θ
        → Bounds n (λ a. Unit {0}) (case_or_not S I R (renaming xs) θ c m)
    unfolding case_or_not UnifierBelow
    case_or_not_below nothing nothing m g h = fine (g, tt)
    case_or_not_below nothing (some c) m g h = off g
    case_or_not_below (some θ) nothing m g h = off g
    case_or_not_below (some θ) (some c) m g h = invert_case_below θ c m g h

pub rule_formed : (T : Theory) → WellFormed T → (r : ℕ) → r < length T.rules → RuleFormed T (rule T r)
unfolding rule
rule_formed T h r l = all_at T.rules r no_rule h.rules l

every_below : {A : Type 0} (p : A → Bool) (xs : List A) (k : ℕ) → AllBelow (k + length xs) (every p xs k)
unfolding every
every_below p [] k = empty
every_below p (x ∷ xs) k = go (p x) (all_map (λ v l. omega arith) (every_below p xs (suc k)))
  where
    go : (b : Bool) → AllBelow (k + suc (length xs)) (every p xs (suc k))
        → AllBelow (k + suc (length xs)) (elim b [ true ↦ k ∷ every p xs (suc k) | false ↦ every p xs (suc k) ])
    go true h = both {x = k} (omega arith) h
    go false h = h

pub rules_of_below : (T : Theory) (p : ℕ) → AllBelow (length T.rules) (rules_of T p)
unfolding rules_of
rules_of_below T p = all_map (λ r l. omega arith) (every_below (λ (r : Rule). head_is p r.conclusion) T.rules 0)

-- one rule: what is made is below the number of variables that there are behind it; on a refusal, inside row 7
module _ (S : State) (I : Inversion) where
  pub invert_rule_below : (R : Rule) → RuleFormed S.theory R → (N : Names) (m : Made) → length N.vars ≤ VARIABLES → StateBelow (length N.vars) S
      → InversionBelow (length N.vars) I → MadeBelow (length N.vars) m
      → Leaves (λ M u. MadeBelow (length M.vars) u × Longer N.vars M.vars) (MadeBelow VARIABLES) (invert_rule S I R N m)
  unfolding invert_rule
  invert_rule_below R rf N m row low inv g =
      by_still _ _ (made_up (length N.vars) VARIABLES row m g) (renamed_still S I R (case_named I.cases R.name.bytes) N) λ r e.
      let q = of_ok (renamed_renames S I R (case_named I.cases R.name.bytes) N m (all_map (λ v h. h.positive) rf.sorts) low.vars) e in
      let n = length r.1.vars in
      let up = longer_length q.longer in
      weaken {P = λ M u. MadeBelow n u × (M ≡ r.1)} {R = MadeBelow n}
      (by_then _ _ (keep_vars_below n r.0 m (made_up (length N.vars) n up m g) q.below) λ ts u p.
      by_then _ _ (instance_below n (length R.vars) (renaming r.0) (renaming_below n (length R.vars) r.0 q.below q.many) R.conclusion u
      p.0 (pattern_below S.theory R.vars R.conclusion rf.conclusion)) λ t w k.
      by_then _ _ (unify_below n n I.hypothesis t w k.0 (below_up (length N.vars) n up I.hypothesis inv.hypothesis) k.1) λ θ v l.
      by_then _ _ (case_or_not_below n S (state_up (length N.vars) n up S low) I (inversion_up (length N.vars) n up I inv) R rf r.0 q.below q.many
      θ (case_named I.cases R.name.bytes) v l.0 l.1) λ a z o. fine (o.0, refl))
      (λ M u h. subst (λ (L : Names). MadeBelow (length L.vars) u × Longer N.vars L.vars) (sym h.1) (h.0, q.longer))
      (λ u h. made_up n VARIABLES (q.longer.row row) u h)

  pub invert_rules_below : (rs : List ℕ) → AllBelow (length S.theory.rules) rs → WellFormed S.theory → (N : Names) (m : Made)
      → length N.vars ≤ VARIABLES → StateBelow (length N.vars) S → InversionBelow (length N.vars) I → MadeBelow (length N.vars) m
      → Leaves (λ M u. MadeBelow (length M.vars) u × Longer N.vars M.vars) (MadeBelow VARIABLES) (invert_rules S I rs N m)
  unfolding invert_rules
  invert_rules_below [] k wf N m row low inv g = fine (g, same_vars N.vars)
  invert_rules_below (r ∷ rs) (both l k) wf N m row low inv g =
      by_then _ _ (invert_rule_below (rule S.theory r) (rule_formed S.theory wf r l) N m row low inv g) λ M u p.
      let up = longer_length p.1 in
      weaken (invert_rules_below rs k wf M u (p.1.row row) (state_up (length N.vars) (length M.vars) up S low)
      (inversion_up (length N.vars) (length M.vars) up I inv) p.0)
      (λ L w q. (q.0, longer_on p.1 q.1)) (λ w q. q)

-- behind the form the made trees are below the number of variables with those made; on a refusal, inside row 7
pub invert_below : (S : State) → WellFormed S.theory → length S.vars ≤ VARIABLES → StateBelow (length S.vars) S → (xs : Sexps) (m : Made)
    → MadeBelow (length S.vars) m
    → Leaves (λ r u. MadeBelow (length r.1) u × FactBelow (length r.1) r.0 × Longer S.vars r.1) (MadeBelow VARIABLES) (invert S xs m)
unfolding invert Below
invert_below S wf row low xs m g =
    by_still _ _ up (index_still 34 (item xs 2)) λ i e.
    by_still _ _ up (fact_at_still S i) λ k f.
    by_ask 40 (is_plain k) _ up λ e.
    by_still _ _ up (hyp_list_still (λ f. f.assumed) S (item xs 3)) λ hs e.
    by_then _ _ (weaken (judgment_below (length S.vars) S low (item xs 4) m g) (λ j u p. p) (λ u p. made_up (length S.vars) VARIABLES row u p)) λ j u p.
    by_still _ _ (made_up (length S.vars) VARIABLES row u p.0) (items_still 41 (item xs 5)) λ ys e.
    by_still _ _ (made_up (length S.vars) VARIABLES row u p.0) (read_cases_still S ys []) λ cs e.
    by_then _ _ (invert_rules_below S (record { hypothesis = k.judgment; judgment = j; context = hs; cases = cs })
    (rules_of S.theory (predicate_of k.judgment)) (rules_of_below S.theory (predicate_of k.judgment)) wf (record { vars = S.vars; seen = [] }) u row low
    (record { hypothesis = (fact_below (length S.vars) S low i m k f).judgment; judgment = p.1 }) p.0) λ N w q.
    fine (q.0, record { judgment = below_up (length S.vars) (length N.vars) (longer_length q.1) j p.1; premises = tt }, q.1)
  where
    up : MadeBelow VARIABLES m
    up = made_up (length S.vars) VARIABLES row m g
