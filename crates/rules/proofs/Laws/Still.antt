-- The questions that leave the state as it is, whether they are answered or refused: names, indices, variables, hypotheses by number, cases
-- as given. Assumes nothing.
use Prim.Native.Nat.{ℕ, zero, suc}
use Rattle.std.specs.Prelude.{Bool, ◌&&◌, eqb, ltb, length, Option, Some as some, None as nothing}
use Rattle.std.proofs.Math.Bool.{true, false, not}
use mathlib.Core.List.{List, [], ◌∷◌, ◌++◌}
use Rattle.rules.specs.Limits.{VARIABLES}
use Rattle.rules.specs.Out.{Out, ok, refuse, then, ask, room, found}
use Rattle.rules.specs.Text.{same}
use Rattle.rules.specs.Sexp.{Sexp, Sexps, atom, list, nil, cons, count, item, name, items}
use Rattle.rules.specs.Index.{index_of}
use Rattle.rules.specs.Find.{Set, entry, any, all, has, union, minus, least}
use Rattle.rules.specs.Tree.{Tree, variables}
use Rattle.rules.specs.Theory.{Rule, RuleVar, no_name}
use Rattle.rules.specs.State.{State, Var, Fact, sort_of_var, var_named, hyp_vars}
use Rattle.rules.specs.Read.{index, variable, others, vars_list}
use Rattle.rules.specs.Reference.{fact_at, hyp_each, hyp_list, outside, scoped}
use Rattle.rules.specs.Store.{Made}
use Rattle.rules.specs.Induct.{Motive, motive_vars, case_vars}
use Rattle.rules.specs.Invert.{Case, read_case, read_cases, Inversion, taken_vars, Names, suit, make_vars, renamed}
use Rattle.rules.specs.Laws.Keeping.{Still, answers, refuses}

module _ {S : Type 0} {s : S} where
  pub still_then : {A B : Type 0} (o : Out S A) (f : A → S → Out S B) → Still s o → ((a : A) → Still s (f a s)) → Still s (then o f)
  unfolding then
  still_then (ok a u) f answers k = k a
  still_then (refuse n d u) f refuses k = refuses

  pub still_ask : {B : Type 0} (n : ℕ) (b : Bool) (f : Unit {0} → S → Out S B) → Still s (f tt s) → Still s (then (ask n b s) f)
  unfolding then
  still_ask n true f k = k
  still_ask n false f k = refuses

  pub still_room : {B : Type 0} (n : ℕ) (b : Bool) (f : Unit {0} → S → Out S B) → Still s (f tt s) → Still s (then (room n b s) f)
  unfolding then
  still_room n true f k = k
  still_room n false f k = refuses

  pub found_still : {A : Type 0} (n : ℕ) (o : Option A) → Still s (found n o s)
  found_still n (some a) = answers
  found_still n nothing = refuses

  pub name_still : (n : ℕ) (x : Sexp) → Still s (name n x s)
  unfolding name
  name_still n (atom p bs) = answers
  name_still n (list xs) = refuses

  pub items_still : (n : ℕ) (x : Sexp) → Still s (items n x s)
  unfolding items
  items_still n (atom p bs) = refuses
  items_still n (list xs) = answers

  pub index_still : (n : ℕ) (x : Sexp) → Still s (index n x s)
  unfolding index
  index_still n x = still_then _ _ (name_still n x) λ a. found_still n (index_of a.bytes)

  pub variable_still : (n : ℕ) (Σ : State) (x : Sexp) → Still s (variable n Σ x s)
  unfolding variable
  variable_still n Σ x = still_then _ _ (name_still n x) λ a. found_still n (var_named Σ.vars a.bytes)

  others_still : (n : ℕ) (Σ : State) (xs : Sexps) (vs : List ℕ) → Still s (others n Σ xs vs s)
  unfolding others
  others_still n Σ nil vs = answers
  others_still n Σ (cons x xs) vs =
      still_then _ _ (variable_still n Σ x) λ v. still_ask n (not (has vs v)) _ (others_still n Σ xs (vs ++ (v ∷ [])))

  pub vars_list_still : (n : ℕ) (Σ : State) (x : Sexp) → Still s (vars_list n Σ x s)
  unfolding vars_list
  vars_list_still n Σ x = still_then _ _ (items_still n x) λ xs. others_still n Σ xs []

  pub fact_at_still : (Σ : State) (i : ℕ) → Still s (fact_at Σ i s)
  unfolding fact_at
  fact_at_still Σ i = found_still 34 (entry Σ.facts i)

  hyp_each_still : (p : Fact → Bool) (Σ : State) (xs : Sexps) → Still s (hyp_each p Σ xs s)
  unfolding hyp_each
  hyp_each_still p Σ nil = answers
  hyp_each_still p Σ (cons x xs) =
      still_then _ _ (index_still 34 x) λ i.
      still_then _ _ (fact_at_still Σ i) λ f. still_ask 40 (p f) _ (still_then _ _ (hyp_each_still p Σ xs) λ hs. answers)

  pub hyp_list_still : (p : Fact → Bool) (Σ : State) (x : Sexp) → Still s (hyp_list p Σ x s)
  unfolding hyp_list
  hyp_list_still p Σ x = still_then _ _ (items_still 34 x) λ xs. still_then _ _ (hyp_each_still p Σ xs) λ hs. answers

  outside_still : (n : ℕ) → Still s (outside n s)
  unfolding outside
  outside_still zero = answers
  outside_still (suc n) = refuses

  pub scoped_still : (Σ : State) (used : Set) (j : Tree) (hs : List ℕ) → Still s (scoped Σ used j hs s)
  unfolding scoped
  scoped_still Σ used j hs = outside_still (least (length Σ.vars) (minus used (union (variables j) (hyp_vars Σ.facts hs))))

-- Cases -------------------------------------------------------------------------------------------------------------------------

module _ {m : Made} where
  pub case_vars_still : (Σ : State) (M : Motive) (xs : Sexps) (ss vs : List ℕ) → Still m (case_vars Σ M xs ss vs m)
  unfolding case_vars
  case_vars_still Σ M nil ss vs = answers
  case_vars_still Σ M (cons x xs) [] vs = answers
  case_vars_still Σ M (cons x xs) (k ∷ ss) vs =
      still_then _ _ (variable_still 42 Σ x) λ v.
      still_ask 42 (eqb (sort_of_var Σ.vars v) k && (not (motive_vars M v) && not (has vs v))) _ (case_vars_still Σ M xs ss (vs ++ (v ∷ [])))

  read_case_still : (Σ : State) (x : Sexp) → Still m (read_case Σ x m)
  unfolding read_case
  read_case_still Σ x =
      still_then _ _ (items_still 41 x) λ ys. still_ask 41 (eqb (count ys) 3) _ (
      still_then _ _ (name_still 41 (item ys 0)) λ n. still_then _ _ (index_still 41 (item ys 1)) λ i.
      still_then _ _ (vars_list_still 42 Σ (item ys 2)) λ vs. answers)

  pub read_cases_still : (Σ : State) (xs : Sexps) (cs : List Case) → Still m (read_cases Σ xs cs m)
  unfolding read_cases
  read_cases_still Σ nil cs = answers
  read_cases_still Σ (cons x xs) cs =
      still_then _ _ (read_case_still Σ x) λ c.
      still_ask 41 (not (any (λ d. same d.name c.name) cs)) _ (read_cases_still Σ xs (cs ++ (c ∷ [])))

  make_vars_still : (rs : List RuleVar) (vs : List Var) → Still m (make_vars rs vs m)
  unfolding make_vars
  make_vars_still [] vs = answers
  make_vars_still (r ∷ rs) vs =
      still_room 7 (ltb (length vs) VARIABLES) _ (make_vars_still rs (vs ++ (record { sort = r.sort; text = 0; name = no_name } ∷ [])))

  pub renamed_still : (Σ : State) (I : Inversion) (R : Rule) (c : Option Case) (N : Names) → Still m (renamed Σ I R c N m)
  unfolding renamed
  renamed_still Σ I R (some c) N =
      still_ask 42 (suit Σ.vars c.vars R.vars) _ (
      still_ask 42 (all (λ v. not (taken_vars Σ I v) && not (has N.seen v)) c.vars) _ answers)
  renamed_still Σ I R nothing N = still_then _ _ (make_vars_still R.vars N.vars) λ vs. answers
