-- Substitution: the loop over a term's arguments, and the node made of their results. Assumes nothing.
use mathlib.Core.Path.{◌≡◌, refl, sym, ap, ◌∙◌, subst}
use mathlib.Core.List.{List, ◌∷◌}
use Rattle.std.specs.Prelude.{Result, Ok, Err}
use mathlib.Core.Logic.{⊎_elim}
use Prim.Native.Nat.{ℕ, ◌+◌, ◌-◌, ◌≤◌, ◌<◌}
use native.Mathlib.Omega.{arith}
use lib.ListN.{length, get_or, set}
use Rattle.rules.specs.Limits.{SYMBOLS}
use Rattle.rules.specs.Out.{ok, then}
use Rattle.rules.specs.Tree.{Tree, Trees, var, app, more, sub, subs}
use Rattle.rules.specs.Store.{number, keep, make, makes}
use Rattle.rules.specs.Laws.Store.{number_is, make_app, makes_none, makes_more, makes_stop}
use Rattle.terms.specs.declared.store.Mark.{Mark}
use Rattle.questions.specs.declared.Row.{Row}
use Rattle.questions.specs.Numbers.{row_number}
use Rattle.terms.specs.Table.{run, start, args_of, tree_at, made, Shaped, is_app, Grown, Stored, Refused, After}
use Rattle.terms.specs.Subst.{replacement, Known, renumbered, rebuilt, Rebuildable, Knows, substituted, asked, Replacing, Done, Substituted}
use Rattle.terms.specs.Laws.Runs.{run_length, run_at, run_same}
use Rattle.terms.specs.Laws.Tables.{last_or, length_trees, tree_app}
use Rattle.terms.specs.Laws.Growth.{grown_tree, grown_refl, grown_trans}
use Rattle.terms.specs.Laws.Terms.{args_more, args_none, node_rise, node_narrow, node_within, node_inside, term_app, args_below}
use Rattle.terms.specs.Laws.Theta.{replacement_grown}
use Rattle.terms.specs.Laws.Answers.{after_term, after_full}
use Rattle.terms.proofs.Gathers.{length_renumbered, get_d_renumbered, args_renumbered}
use Rattle.terms.proofs.Substs.{knows_set, keeps_set, known_set, knows_grown}

-- the tables J X at m hold what was made of the arguments before `at`; what is left of them decides
pub record Looping (I W : List ℕ) (old : Mark) (map memo : List ℕ) (id s e : ℕ) (J X memo' : List ℕ) (m : Mark) (at : ℕ) : Type 0 where
  pub ready : Replacing I W old map memo id
  pub begins : s ≡ start I id
  pub ends : e ≡ get_or I id 0
  pub small : get_or W s 0 < SYMBOLS
  pub grown : Grown I W J X old m
  pub knows : (i : ℕ) → 0 < get_or memo' i 0 → Knows (made J X m) (replacement (made I W old) map) memo' i
  pub keeps : (i : ℕ) → 0 < get_or memo i 0 → 0 < get_or memo' i 0
  pub long : length memo' ≡ length memo
  pub from : s < at
  pub upto : at ≤ e
  pub done : (k : ℕ) → s < k → k < at → 0 < get_or memo' (get_or W k 0) 0
  pub left : asked I W old map id
      ≡ then (makes (subs (replacement (made I W old) map) (args_of (made I W old) (run W at (e - at)))) (made J X m)) (λ _ n. keep (substituted I W old map id) n)

pub looping_begins : (I W : List ℕ) (old : Mark) (map memo : List ℕ) (id s : ℕ) → Replacing I W old map memo id → s ≡ start I id → get_or W s 0 < SYMBOLS
    → Looping I W old map memo id s (get_or I id 0) I W memo old (s + 1)
unfolding sub
looping_begins I W old map memo id s r b h =
    let l = node_rise I W old r.good id r.there s b in
    let t = ap (sub (replacement (made I W old) map)) (term_app I W old r.good id r.there s b h) in
    record {
      ready = r;
      begins = b;
      ends = refl;
      small = h;
      grown = grown_refl r.good;
      knows = r.knows;
      keeps = λ i p. p;
      long = refl;
      from = omega arith;
      upto = omega arith;
      done = λ k p q. absurd (omega arith);
      left = ap (λ (u : Tree). make u (made I W old)) t ∙ make_app (made I W old) _ _
          ∙ ap (λ (u : Tree). then (makes (subs (replacement (made I W old) map) (args_of (made I W old) (run W (s + 1) (get_or I id 0 - (s + 1))))) (made I W old)) (λ _ n. keep u n)) (sym t);
    }

module _ (I W : List ℕ) (old : Mark) (map memo : List ℕ) (id s e : ℕ) (J X memo' : List ℕ) (m : Mark) (at : ℕ) (l : Looping I W old map memo id s e J X memo' m at) where
  abbrev σ : ℕ → Tree
  σ = replacement (made I W old) map

  inside : e ≤ length W
  inside = let a = node_inside I W old l.ready.good id l.ready.there s l.begins in let b = l.ends in omega arith

  end_old : e ≤ old.words
  end_old = let a = node_within I W old l.ready.good id l.ready.there s l.begins in let b = l.ends in omega arith

  word_same : (i : ℕ) → i < e → get_or X i 0 ≡ get_or W i 0
  word_same i h = l.grown.same.words i (let a = end_old in omega arith)

  arg_below : (k : ℕ) → s < k → k < e → get_or W k 0 < id
  arg_below k p q = args_below I W old l.ready.good id l.ready.there s l.begins l.small k p (let b = l.ends in omega arith)

  grown_at : (i : ℕ) → i < old.terms → get_or (made J X m) i (var 0) ≡ get_or (made I W old) i (var 0)
  grown_at i h = grown_tree l.grown i h

  same_replacement : replacement (made J X m) map ≡ replacement (made I W old) map
  same_replacement = replacement_grown l.grown map l.ready.bound

  module _ (h : at < e) where
    pub arg_in : at < length X
    arg_in = let a = inside in let b = l.grown.same.long_words in omega arith

    pub arg_falls : get_or X at 0 < id
    arg_falls = rw (word_same at h) (arg_below at l.from h)

    pub arg_ready : Replacing J X m map memo' (get_or X at 0)
    arg_ready =
        let a = arg_falls in
        let b = l.ready.there in
        let c = l.ready.inside in
        let d = l.grown.more in
        let f = l.long in
        record {
          good = l.grown.good;
          bound = λ v. let x = l.ready.bound v in omega arith;
          there = omega arith;
          inside = omega arith;
          knows = λ i p. subst (λ (τ : ℕ → Tree). Knows (made J X m) τ memo' i) (sym same_replacement) (l.knows i p);
        }

    -- what the call asks for, in the trees of the beginning
    call_tree : substituted J X m map (get_or X at 0) ≡ sub σ (get_or (made I W old) (get_or W at 0) (var 0))
    call_tree =
        let a = arg_below at l.from h in
        let b = l.ready.there in
        ap (λ (τ : ℕ → Tree). sub τ (get_or (made J X m) (get_or X at 0) (var 0))) same_replacement
        ∙ ap (λ (i : ℕ). sub σ (get_or (made J X m) i (var 0))) (word_same at h)
        ∙ ap (sub σ) (grown_at (get_or W at 0) (omega arith))

    split : subs σ (args_of (made I W old) (run W at (e - at))) ≡ more (sub σ (get_or (made I W old) (get_or W at 0) (var 0))) (subs σ (args_of (made I W old) (run W (at + 1) (e - (at + 1)))))
    unfolding sub
    split = ap (subs σ) (args_more (made I W old) W at e h inside)

    left_split : asked I W old map id ≡ then (makes (more (sub σ (get_or (made I W old) (get_or W at 0) (var 0))) (subs σ (args_of (made I W old) (run W (at + 1) (e - (at + 1)))))) (made J X m)) (λ _ n. keep (substituted I W old map id) n)
    left_split = l.left ∙ ap (λ (ts : Trees). then (makes ts (made J X m)) (λ _ n. keep (substituted I W old map id) n)) split

    looping_on : (K Y memo'' : List ℕ) (n : ℕ) (new : Mark) → length memo'' ≡ length memo' → Done J X K Y m map memo' memo'' (get_or X at 0) n new → Looping I W old map memo id s e K Y memo'' new (at + 1)
    looping_on K Y memo'' n new q d =
        let f = l.from in
        record {
          ready = l.ready;
          begins = l.begins;
          ends = l.ends;
          small = l.small;
          grown = grown_trans l.grown d.stored.grown;
          knows = λ i p. subst (λ (τ : ℕ → Tree). Knows (made K Y new) τ memo'' i) same_replacement (d.knows i p);
          keeps = λ i p. d.keeps i (l.keeps i p);
          long = q ∙ l.long;
          from = omega arith;
          upto = omega arith;
          done = λ k a b. ⊎_elim
              (λ p. d.keeps _ (l.done k a p))
              (λ p. subst (λ (j : ℕ). 0 < get_or memo'' (get_or W j 0) 0) (sym p) (subst (λ (i : ℕ). 0 < get_or memo'' i 0) (word_same at h) d.known))
              (last_or k at (omega arith));
          left = left_split ∙ makes_more (made J X m) _ _ (λ n. keep (substituted I W old map id) n) _ (made K Y new) (ap (λ (u : Tree). make u (made J X m)) (sym call_tree) ∙ d.stored.makes);
        }

    looping_full : (K Y : List ℕ) (row : ℕ) (new : Mark) → Refused Tree J X K Y m (asked J X m map (get_or X at 0)) row new → Refused Tree I W K Y old (asked I W old map id) row new
    looping_full K Y row new d =
        record {
          grown = grown_trans l.grown d.grown;
          makes = left_split ∙ makes_stop (made J X m) _ _ (λ n. keep (substituted I W old map id) n) 60 row (made K Y new) (ap (λ (u : Tree). make u (made J X m)) (sym call_tree) ∙ d.makes);
        }

    -- from the call's answer and the arm that took it apart
    module _ (K Y memo'' : List ℕ) (new : Mark) (r : Result ℕ Row) (d : Substituted J X K Y m new map memo' memo'' (get_or X at 0) r) where
      pub arm_ok : length memo'' ≡ length memo' → (n : ℕ) → r ≡ Ok n → Looping I W old map memo id s e K Y memo'' new (at + 1)
      arm_ok q n p = looping_on K Y memo'' n new q (subst (Substituted J X K Y m new map memo' memo'' (get_or X at 0)) p d)

      pub arm_err : (row : Row) → r ≡ Err row → Refused Tree I W K Y old (asked I W old map id) (row_number row) new
      arm_err row p = looping_full K Y (row_number row) new (subst (Substituted J X K Y m new map memo' memo'' (get_or X at 0)) p d)

  -- after the loop
  module _ (over : e ≤ at) where
    rise : s < e
    rise = let a = node_rise I W old l.ready.good id l.ready.there s l.begins in let b = l.ends in omega arith

    pub rebuildable : Rebuildable X memo' s e
    rebuildable =
        let a = node_narrow I W old l.ready.good id l.ready.there s l.begins in
        let b = l.ends in
        let c = inside in
        let d = l.grown.same.long_words in
        let f = l.ready.inside in
        let g = l.long in
        record {
          some = rise;
          narrow = omega arith;
          fits = omega arith;
          known = λ k p q. subst (Known memo') (sym (word_same k q)) (let j = arg_below k p q in record { inside = omega arith; some = l.done k p (omega arith) });
        }

    args_same : run X (s + 1) (e - (s + 1)) ≡ run W (s + 1) (e - (s + 1))
    args_same = let a = rise in run_same W X e (s + 1) (e - (s + 1)) word_same l.grown.same.long_words (omega arith) inside

    rebuilt_same : rebuilt X memo' s e ≡ rebuilt W memo' s e
    rebuilt_same = λ i. word_same s rise i ∷ renumbered memo' (args_same i)

    abbrev args : List ℕ
    args = run W (s + 1) (e - (s + 1))

    arg_is : (k : ℕ) → k < length args → (0 < get_or memo' (get_or args k 0) 0) × (get_or args k 0 < id)
    arg_is k h =
        let a = inside in
        let b = rise in
        let n = run_length W (s + 1) (e - (s + 1)) (omega arith) in
        let q : get_or args k 0 ≡ get_or W (s + 1 + k) 0 = run_at W (s + 1) (e - (s + 1)) k (omega arith) in
        (subst (λ (x : ℕ). 0 < get_or memo' x 0) (sym q) (l.done (s + 1 + k) (omega arith) (omega arith)), subst (λ (x : ℕ). x < id) (sym q) (arg_below (s + 1 + k) (omega arith) (omega arith)))

    new_below : (k : ℕ) → k < length (renumbered memo' args) → get_or (renumbered memo' args) k 0 < m.terms
    new_below k h =
        let n = length_renumbered memo' args in
        let a = arg_is k (omega arith) in
        let p = a.0 in
        let b = (l.knows _ a.0).new in
        let d = length_trees J X m.terms in
        rw (get_d_renumbered memo' args k (omega arith)) (omega arith)

    pub rebuilt_shaped : Shaped m.terms (rebuilt X memo' s e)
    rebuilt_shaped = subst (Shaped m.terms) (sym rebuilt_same) (is_app {xs = renumbered memo' args} l.small new_below)

    whole : substituted I W old map id ≡ app (get_or W s 0) (subs σ (args_of (made I W old) args))
    unfolding sub
    whole = ap (sub σ) (subst (λ (j : ℕ). get_or (made I W old) id (var 0) ≡ app (get_or W s 0) (args_of (made I W old) (run W (s + 1) (j - (s + 1))))) (sym l.ends) (term_app I W old l.ready.good id l.ready.there s l.begins l.small))

    pub tree_rebuilt : tree_at (made J X m) (rebuilt X memo' s e) ≡ substituted I W old map id
    tree_rebuilt =
        ap (tree_at (made J X m)) rebuilt_same
        ∙ tree_app (made J X m) _ _ l.small
        ∙ ap (app (get_or W s 0)) (args_renumbered (made J X m) (made I W old) σ memo' args (λ k h. let a = arg_is k h in let b = l.ready.there in (l.knows _ a.0).is ∙ ap (sub σ) (grown_at _ (let c = a.1 in omega arith))))
        ∙ sym whole

    asked_keeps : asked I W old map id ≡ keep (tree_at (made J X m) (rebuilt X memo' s e)) (made J X m)
    unfolding sub
    asked_keeps =
        l.left
        ∙ ap (λ (ts : Trees). then (makes (subs σ ts) (made J X m)) (λ _ n. keep (substituted I W old map id) n)) (args_none (made I W old) W at e over)
        ∙ makes_none (made J X m) (λ n. keep (substituted I W old map id) n)
        ∙ ap (λ (u : Tree). keep u (made J X m)) (sym tree_rebuilt)

    module _ (K Y : List ℕ) (new : Mark) (r : Result ℕ Row) (d : After J X K Y m new (tree_at (made J X m) (rebuilt X memo' s e)) (keep (tree_at (made J X m) (rebuilt X memo' s e)) (made J X m)) r) where
      pub end_err : (row : Row) → r ≡ Err row → Refused Tree I W K Y old (asked I W old map id) (row_number row) new
      end_err row p =
          let f : Refused Tree J X K Y m (keep (tree_at (made J X m) (rebuilt X memo' s e)) (made J X m)) (row_number row) new = after_full d p in
          record { grown = grown_trans l.grown f.grown; makes = asked_keeps ∙ f.makes }

      pub end_ok : (n : ℕ) → r ≡ Ok n → Done I W K Y old map memo (set memo' id (n + 1)) id n new
      end_ok n p =
          let f : Stored J X K Y m (tree_at (made J X m) (rebuilt X memo' s e)) (keep (tree_at (made J X m) (rebuilt X memo' s e)) (made J X m)) n new = after_term d p in
          let z = length_trees K Y new.terms in
          let there = f.there in
          let a = l.grown.more in
          let b = f.grown.more in
          let c = l.ready.there in
          let inn : id < length memo' = (let g = l.long in let h = l.ready.inside in omega arith) in
          let num : n ≡ number (made K Y new) (substituted I W old map id) = f.numbered ∙ ap (number (made K Y new)) tree_rebuilt in
          let at_n : get_or (made K Y new) n (var 0) ≡ substituted I W old map id = ap (λ (q : ℕ). get_or (made K Y new) q (var 0)) num ∙ number_is (made K Y new) _ (omega arith) in
          let here : get_or (made K Y new) id (var 0) ≡ get_or (made I W old) id (var 0) = grown_tree f.grown id (omega arith) ∙ grown_at id c in
          record {
            stored = record {
              grown = grown_trans l.grown f.grown;
              makes = asked_keeps ∙ f.makes ∙ ap (λ (u : Tree). ok u (made K Y new)) tree_rebuilt;
              numbered = num;
              there = there;
            };
            knows = knows_set (made K Y new) σ memo' id n inn (omega arith) (omega arith) (at_n ∙ ap (sub σ) (sym here))
                (λ i q. knows_grown J X K Y m new f.grown σ memo' i q (l.knows i q));
            known = known_set memo' id n inn;
            keeps = λ i q. keeps_set memo' id n inn i (l.keeps i q);
          }
