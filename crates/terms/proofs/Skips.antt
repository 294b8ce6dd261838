-- Going over patterns word by word: how many are left. Assumes nothing.
use mathlib.Core.Path.{◌≡◌, sym, ap, subst}
use mathlib.Core.Bool.{Bool, true, false}
use mathlib.Core.List.{List}
use Prim.Native.Nat.{ℕ, suc, ◌+◌, ◌-◌, ◌≤◌, ◌<◌}
use native.Mathlib.Omega.{arith}
use lib.ListN.{length, get_or}
use borrow.Author.Tests.{lt-ltb, le-ltb}
use Rattle.rules.specs.Limits.{SYMBOLS, ARGUMENTS}
use Rattle.rules.specs.Tree.{Trees, var, app, none, more, size, sizes, count_trees}
use Rattle.terms.specs.Patterns.{arity, Stands, Standing, Skippable, Skipped, args_by_table}
use Rattle.terms.specs.Laws.Patterns.{size_some, before, before_count, before_sizes, before_stands, count_sizes, stands_within}
use Rattle.terms.specs.Laws.Patterns.{standing_within}

pub args_symbol : (S : List ℕ) (h : ℕ) → h < SYMBOLS → arity S h ≡ args_by_table S h
unfolding args_by_table
args_symbol S h l = sym (ap (λ (b : Bool). elim b [ true ↦ arity S h | false ↦ 0 ]) (lt-ltb h SYMBOLS l))

pub args_variable : (S : List ℕ) (h : ℕ) → SYMBOLS ≤ h → 0 ≡ args_by_table S h
unfolding args_by_table
args_variable S h l = sym (ap (λ (b : Bool). elim b [ true ↦ arity S h | false ↦ 0 ]) (le-ltb h SYMBOLS l))

-- Lists of patterns --------------------------------------------------------------------------------------------------------------

-- The loop -----------------------------------------------------------------------------------------------------------------------

-- `left` patterns stand from `place` on
pub record Behind (S P : List ℕ) (behind place left : ℕ) : Type 0 where
  pub patterns : Trees
  pub stands : Standing S P place patterns
  pub count : count_trees patterns ≡ left
  pub ends : place + sizes patterns ≡ behind

pub record Skipping (S P : List ℕ) (at n place left : ℕ) : Type 0 where
  pub asked : Skippable S P at n
  pub going : (ps : Trees) → Standing S P at ps → count_trees ps ≡ n → Behind S P (at + sizes ps) place left

module _ (S P : List ℕ) (behind place left : ℕ) (q : Behind S P behind place left) (n : left ≡ 0 → ⊥) where
  inside : (ps : Trees) → Standing S P place ps → count_trees ps ≡ left → (place < length P) × (place + left ≤ length P)
  unfolding Stands count_trees size
  inside none s e = absurd (n (sym e))
  inside (more p ps) s e =
      let a = stands_within S P place p s.0 in
      let b = standing_within S P (place + size p) ps a s.1 in
      let c = size_some p in
      let d = count_sizes ps in
      (omega arith, omega arith)

  pub behind_in : (place < length P) × (place + left ≤ length P)
  behind_in = inside q.patterns q.stands q.count

  few_args : (ps : Trees) → Standing S P place ps → count_trees ps ≡ left → args_by_table S (get_or P place 0) ≤ ARGUMENTS
  unfolding Stands count_trees
  few_args none s e = absurd (n (sym e))
  few_args (more (var v) ps) s e =
      let w = s.0.1 in
      let a = args_variable S (get_or P place 0) (omega arith) in
      omega arith
  few_args (more (app c ts) ps) s e =
      let f = s.0.4 in
      let k = s.0.3 in
      let l = s.0.2 in
      let w = s.0.1 in
      let a = args_symbol S (get_or P place 0) (omega arith) in
      let z = ap (arity S) w in
      omega arith

  pub behind_few : args_by_table S (get_or P place 0) ≤ ARGUMENTS
  behind_few = few_args q.patterns q.stands q.count

  pub behind_on : (r : ℕ) → r ≡ args_by_table S (get_or P place 0) → Behind S P behind (place + 1) (left - 1 + r)
  unfolding Stands count_trees size
  behind_on r f = go q.patterns q.stands q.count q.ends
    where
      go : (ps : Trees) → Standing S P place ps → count_trees ps ≡ left → place + sizes ps ≡ behind → Behind S P behind (place + 1) (left - 1 + r)
      go none s e d = absurd (n (sym e))
      go (more (var v) ps) s e d =
          let w = s.0.1 in
          let a = args_variable S (get_or P place 0) (omega arith) in
          record { patterns = ps; stands = s.1; count = omega arith; ends = omega arith }
      go (more (app c ts) ps) s e d =
          let l = s.0.2 in
          let w = s.0.1 in
          let k = s.0.3 in
          let a = args_symbol S (get_or P place 0) (omega arith) in
          let z = ap (arity S) w in
          let y : place + suc (sizes ts) ≡ place + 1 + sizes ts = omega arith in
          let x = before_count ts ps in
          let v = before_sizes ts ps in
          record {
            patterns = before ts ps;
            stands = before_stands S P (place + 1) ts ps s.0.5 (subst (λ (j : ℕ). Standing S P j ps) y s.1);
            count = omega arith;
            ends = omega arith;
          }

module _ (S P : List ℕ) (at n place left : ℕ) (q : Skipping S P at n place left) where
  pub skipping_in : (left ≡ 0 → ⊥) → (place < length P) × (place + left ≤ length P) × (args_by_table S (get_or P place 0) ≤ ARGUMENTS)
  skipping_in h =
      let r = q.asked.reads in
      let b = q.going r.patterns r.stands r.count in
      let a = behind_in S P _ place left b h in
      (a.0, a.1, behind_few S P _ place left b h)

  pub skipping_on : (left ≡ 0 → ⊥) → (r : ℕ) → r ≡ args_by_table S (get_or P place 0) → Skipping S P at n (place + 1) (left - 1 + r)
  skipping_on h r e = record { asked = q.asked; going = λ ps st c. behind_on S P _ place left (q.going ps st c) h r e }

  pub skipping_ends : left ≡ 0 → Skipped S P at n place
  unfolding count_trees size
  skipping_ends z ps st c = go (q.going ps st c).patterns (q.going ps st c).count (q.going ps st c).ends
    where
      go : (qs : Trees) → count_trees qs ≡ left → place + sizes qs ≡ at + sizes ps → place ≡ at + sizes ps
      go none a b = omega arith
      go (more t ts) a b = absurd (omega arith)
