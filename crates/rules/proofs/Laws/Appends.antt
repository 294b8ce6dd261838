-- Every form only appends: nothing that stands in the state is changed or lost, except that a goal is marked as taken, once. A form that
-- overwrote a fact, dropped a variable, put a tree in front of others or took a goal's mark away would not have this. Assumes nothing.
use Rattle.std.specs.Prelude.{ℕ, zero, suc, ◌≡◌, refl, false, not, List, [], ◌∷◌, ◌++◌, ltb, Some as some}
use Rattle.std.proofs.Common.{subst, sym, append-nil}
use Rattle.rules.specs.Limits.{ARGUMENTS}
use Rattle.rules.specs.Out.{ok}
use Rattle.rules.specs.Sexp.{Sexp, Sexps, nil, cons, count, item, Name, marked}
use Rattle.rules.specs.Find.{entry, change}
use Rattle.rules.specs.Tags.{Declaration, a_sort, a_ctor, a_pred, a_rule, declaration}
use Rattle.rules.specs.Tree.{Trees, none, more}
use Rattle.rules.specs.Store.{Made}
use Rattle.rules.specs.Theory.{Theory, Symbol, Rule, sort_named, constructor_named, predicate_named}
use Rattle.rules.specs.Declare.{is_new, proper_name, sort, sorts, add_sort, add_symbol, add_ctor, add_pred, add_rule, declare_as, declare}
use Rattle.rules.specs.State.{State, Goal, Counts}
use Rattle.rules.specs.Forms.{take_goal, take_form, taken_goal}
use Rattle.rules.specs.Laws.Out.{Ok, fine, of_ok, by_items, by_name, by_found, by_ask}
use Rattle.rules.specs.Laws.Theory.{All, empty, both}
use Rattle.rules.specs.Laws.Keeping.{Each, Invariant, Still, answers}
use Rattle.rules.proofs.Laws.Still.{still_then, still_ask, still_room, name_still, items_still, found_still}
use Rattle.rules.specs.Laws.Ready.{Ready}
use Rattle.rules.specs.Laws.Shape.{past}
use Rattle.rules.proofs.Laws.Form.{Posed, posed_var, posed_goal, Taken, new_var, new_def, new_fact, got_result, take_goal_takes, take_form_takes, from_still, go_on}

-- ys is xs and what has come behind it
pub record Behind {A : Type 0} (xs ys : List A) : Type 0 where
  pub new : List A
  pub is : ys ≡ xs ++ new

pub nothing_new : {A : Type 0} (xs : List A) → Behind xs xs
nothing_new xs = record { new = []; is = sym (append-nil xs) }

pub one_new : {A : Type 0} (xs : List A) (x : A) → Behind xs (xs ++ (x ∷ []))
one_new xs x = record { new = x ∷ []; is = refl }

-- the same entries, or one more behind them
pub data AtMostOne {A : Type 0} (xs : List A) : List A → Type 0 where
  no_more : AtMostOne xs xs
  one_more : (x : A) → AtMostOne xs (xs ++ (x ∷ []))

-- the same goals, of which at most one that was not taken is taken
pub data Marks : List Goal → List Goal → Type 0 where
  unmarked : {gs : List Goal} → Marks gs gs
  marks : (gs : List Goal) (g : Goal) (hs : List Goal) → g.taken ≡ false → Marks (gs ++ (g ∷ hs)) (gs ++ (taken_goal g ∷ hs))

behind_goal : (h : Goal) {gs hs : List Goal} → Marks gs hs → Marks (h ∷ gs) (h ∷ hs)
behind_goal h unmarked = unmarked
behind_goal h (marks gs g hs t) = marks (h ∷ gs) g hs t

change_marks : (gs : List Goal) (k : ℕ) (g : Goal) → entry gs k ≡ some g → g.taken ≡ false → Marks gs (change gs k taken_goal)
unfolding entry change
change_marks [] k g e t = unmarked
change_marks (h ∷ gs) zero g e t = let q : g ≡ h = cc in marks [] h gs (subst (λ x. x.taken ≡ false) q t)
change_marks (h ∷ gs) (suc k) g e t = behind_goal h (change_marks gs k g e t)

-- The invariant that says nothing ------------------------------------------------------------------------------------------------

each_any : (ts : Trees) → Each (λ t. Unit {0}) ts
unfolding Each
each_any none = tt
each_any (more t ts) = (tt, each_any ts)

all_any : {A : Type 0} {P : A → Type 0} → ((a : A) → P a) → (xs : List A) → All P xs
all_any h [] = empty
all_any h (x ∷ xs) = both (h x) (all_any h xs)

pub anything : Invariant
anything = record {
  Good = λ m. Unit {0};
  Has = λ m t. Unit {0};
  there = λ m t e. tt;
  added = λ m t g a e l w. tt;
  last = λ m t. tt;
  longer = λ m n t h. tt;
  below = λ m c ts g h. each_any ts;
}

pub ready_any : (S : State) (m : Made) → Ready anything S m
unfolding anything
ready_any S m =
    record {
      good = tt;
      defs = all_any (λ d. tt) S.defs;
      goals = all_any (λ g. record { judgment = tt; hyps = each_any g.hyps }) S.goals;
      facts = all_any (λ f. record { judgment = tt; premises = each_any f.premises }) S.facts;
    }

-- The forms of the proof ----------------------------------------------------------------------------------------------------------

pub record FormAppends (S U : State) : Type 0 where
  pub theory : U.theory ≡ S.theory
  pub vars : Behind S.vars U.vars
  pub made : Behind S.made U.made
  pub defs : AtMostOne S.defs U.defs
  pub goals : Marks S.goals U.goals
  pub facts : AtMostOne S.facts U.facts

taken_appends : {S : State} {c : Counts} {U : State} → Taken anything S c U → FormAppends S U
taken_appends {S} (new_var v l) =
    record { theory = refl; vars = one_new S.vars v; made = nothing_new S.made; defs = no_more; goals = unmarked; facts = no_more }
taken_appends {S} (new_def m d g h l) =
    record { theory = refl; vars = nothing_new S.vars; made = record { new = g.new; is = g.is }; defs = one_more d; goals = unmarked; facts = no_more }
taken_appends {S} (new_fact vs m f c l g h n k r) =
    record {
      theory = refl;
      vars = record { new = l.new; is = l.is };
      made = record { new = g.new; is = g.is };
      defs = no_more;
      goals = unmarked;
      facts = one_more f;
    }
taken_appends {S} (got_result m k d g e t) =
    record {
      theory = refl;
      vars = nothing_new S.vars;
      made = record { new = g.new; is = g.is };
      defs = no_more;
      goals = change_marks S.goals k d e t;
      facts = no_more;
    }

pub take_form_appends : (x : Sexp) (S U : State) → take_form x S ≡ ok tt U → FormAppends S U
take_form_appends x S U e = taken_appends (of_ok (take_form_takes x S (ready_any S S.made)) e)

-- The forms of the goals ----------------------------------------------------------------------------------------------------------

pub record GoalAppends (S U : State) : Type 0 where
  pub theory : U.theory ≡ S.theory
  pub vars : AtMostOne S.vars U.vars
  pub made : Behind S.made U.made
  pub defs : U.defs ≡ S.defs
  pub goals : AtMostOne S.goals U.goals
  pub facts : U.facts ≡ S.facts
  pub counts : U.counts ≡ S.counts

posed_appends : {S U : State} → Posed anything S U → GoalAppends S U
posed_appends {S} (posed_var v l) =
    record { theory = refl; vars = one_more v; made = nothing_new S.made; defs = refl; goals = no_more; facts = refl; counts = refl }
posed_appends {S} (posed_goal m g h i l r) =
    record { theory = refl; vars = no_more; made = record { new = h.new; is = h.is }; defs = refl; goals = one_more g; facts = refl; counts = refl }

pub take_goal_appends : (x : Sexp) (S U : State) → take_goal x S ≡ ok tt U → GoalAppends S U
take_goal_appends x S U e = posed_appends (of_ok (take_goal_takes x S (ready_any S S.made)) e)

-- Declarations --------------------------------------------------------------------------------------------------------------------

-- one new sort, symbol or rule
pub data Declares (T : Theory) : Theory → Type 0 where
  new_sort : (n : Name) → Declares T (record { sorts = T.sorts ++ (n ∷ []); symbols = T.symbols; rules = T.rules })
  new_symbol : (s : Symbol) → Declares T (record { sorts = T.sorts; symbols = T.symbols ++ (s ∷ []); rules = T.rules })
  new_rule : (r : Rule) → Declares T (record { sorts = T.sorts; symbols = T.symbols; rules = T.rules ++ (r ∷ []) })

module _ {S : Type 0} {s : S} where
  proper_still : (x : Sexp) → Still s (proper_name x s)
  unfolding proper_name
  proper_still x = still_then _ _ (name_still 11 x) λ n. still_ask 11 (not (marked n.bytes)) _ answers

  sort_still : (T : Theory) (x : Sexp) → Still s (sort T x s)
  unfolding sort
  sort_still T x = still_then _ _ (proper_still x) λ n. found_still 11 (sort_named T n.bytes)

  sorts_still : (T : Theory) (xs : Sexps) (k : ℕ) → Still s (sorts T xs k s)
  unfolding sorts
  sorts_still T nil k = answers
  sorts_still T (cons x xs) k =
      still_then _ _ (sort_still T x) λ a. still_room 3 (ltb k ARGUMENTS) _ (still_then _ _ (sorts_still T xs (suc k)) λ ss. answers)

add_sort_declares : (xs : Sexps) (T : Theory) → Ok (λ a U. Declares T U) (add_sort xs T)
unfolding add_sort
add_sort_declares xs T = go_on _ (past _ _ λ n a e. past _ _ λ t b e. past _ _ λ u c e. fine (new_sort n))

add_symbol_declares : (s : Symbol) (T : Theory) → Ok (λ a U. Declares T U) (add_symbol s T)
unfolding add_symbol
add_symbol_declares s T = go_on _ (past _ _ λ t a e. fine (new_symbol s))

add_ctor_declares : (xs : Sexps) (T : Theory) → Ok (λ a U. Declares T U) (add_ctor xs T)
unfolding add_ctor
add_ctor_declares xs T =
    go_on _ (from_still _ _ (proper_still (item xs 1)) λ n e. from_still _ _ (items_still 11 (item xs 2)) λ ys e. from_still _ _ (sorts_still T ys 0) λ ss e.
    from_still _ _ (sort_still T (item xs 3)) λ s e. by_ask 11 (is_new (constructor_named T n.bytes)) T _ λ e. add_symbol_declares _ T)

add_pred_declares : (xs : Sexps) (T : Theory) → Ok (λ a U. Declares T U) (add_pred xs T)
unfolding add_pred
add_pred_declares xs T =
    go_on _ (from_still _ _ (proper_still (item xs 1)) λ n e. from_still _ _ (items_still 11 (item xs 2)) λ ys e. from_still _ _ (sorts_still T ys 0) λ ss e.
    by_ask 11 (is_new (predicate_named T n.bytes)) T _ λ e. add_symbol_declares _ T)

add_rule_declares : (xs : Sexps) (T : Theory) → Ok (λ a U. Declares T U) (add_rule xs T)
unfolding add_rule
add_rule_declares xs T = go_on _ (past _ _ λ r a e. past _ _ λ n b e. past _ _ λ t c e. past _ _ λ u d e. fine (new_rule _))

declare_as_lem : (d : Declaration) (xs : Sexps) (T : Theory) → Ok (λ a U. Declares T U) (declare_as d xs T)
unfolding declare_as
declare_as_lem a_sort xs T = add_sort_declares xs T
declare_as_lem a_ctor xs T = add_ctor_declares xs T
declare_as_lem a_pred xs T = add_pred_declares xs T
declare_as_lem a_rule xs T = add_rule_declares xs T

declare_declares : (x : Sexp) (T : Theory) → Ok (λ a U. Declares T U) (declare x T)
unfolding declare
declare_declares x T =
    by_items 10 x T _ λ xs e. by_name 10 (item xs 0) T _ λ t e. by_found 10 (declaration t.bytes (count xs)) T _ λ d e. declare_as_lem d xs T

pub declare_appends : (x : Sexp) (T U : Theory) → declare x T ≡ ok tt U → Declares T U
declare_appends x T U e = of_ok (declare_declares x T) e
