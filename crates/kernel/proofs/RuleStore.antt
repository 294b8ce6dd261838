-- Tables that hold rules: their words, and one rule more. Assumes nothing.
use mathlib.Core.Path.{◌≡◌, sym, ap, ◌∙◌, subst}
use Prim.Native.Nat.{ℕ, suc, ◌+◌, ◌*◌, ◌<◌, ◌≤◌}
use mathlib.Core.List.{List, [], ◌∷◌, ◌++◌}
use native.Mathlib.Omega.{arith}
use lib.ListN.{length, take, drop, set, length-append, take-append-drop}
use lib.Seq.{sets, length-sets, take_at, paste, length-paste, length-take-le}
use Rattle.rules.specs.Limits.{RULES, RULEVARS}
use Rattle.rules.specs.Tree.{Tree, Trees, var, app, none, more, count_trees}
use Rattle.rules.specs.Theory.{Rule}
use Rattle.rules.specs.Laws.Theory.{all_snoc}
use Rattle.rules.specs.TheoryTables.{rows, name_cells, prefix, prefixes, pattern_row, rule_var_row, rule_row, rule_cells}
use Rattle.rules.specs.Laws.Prefix.{words_counted}
use Rattle.rules.specs.Laws.Row.{append_assoc, append-nil, rows_snoc, length_rows}
use Rattle.kernel.specs.Held.{Front}
use Rattle.kernel.specs.HeldRules.{RulesHeld, RuleIs}
use Rattle.kernel.proofs.Holding.{front_write, front_same, front_paste}
use Rattle.kernel.specs.RuleRows.{length_rule_cells, rule_var_row_long}

-- Words --------------------------------------------------------------------------------------------------------------------------

pub some_word : (t : Tree) → 1 ≤ length (prefix t)
unfolding prefix
some_word (var v) = omega arith
some_word (app c ts) = omega arith

-- no more trees than words
pub count_few : (ts : Trees) → count_trees ts ≤ length (prefixes ts)
unfolding prefix count_trees
count_few none = omega arith
count_few (more t ts) = omega (arith, length-append (prefix t) (prefixes ts), some_word t, count_few ts)

front_taken : (table xs : List ℕ) (n : ℕ) → take n table ≡ xs → Front table xs
front_taken table xs n e = record { rest = drop n table; is = sym (take-append-drop n table) ∙ ap (λ l. l ++ drop n table) e }

-- Rows ---------------------------------------------------------------------------------------------------------------------------

rule_cells_snoc : (rs : List Rule) (u : Rule) (at : ℕ) → rule_cells (rs ++ (u ∷ [])) at ≡ rule_cells rs at ++ rule_row u (at + length (rows pattern_row rs))
unfolding rule_cells rows
rule_cells_snoc [] u at =
    let z : at ≡ at + 0 = omega arith in
    append-nil (rule_row u at) ∙ ap (rule_row u) z
rule_cells_snoc (r ∷ rs) u at =
    let n : at + length (pattern_row r) + length (rows pattern_row rs) ≡ at + length (pattern_row r ++ rows pattern_row rs) = omega (arith, length-append (pattern_row r) (rows pattern_row rs)) in
    ap (λ l. rule_row r at ++ l) (rule_cells_snoc rs u (at + length (pattern_row r)))
    ∙ sym (append_assoc (rule_row r at) (rule_cells rs (at + length (pattern_row r))) (rule_row u (at + length (pattern_row r) + length (rows pattern_row rs))))
    ∙ ap (λ (k : ℕ). (rule_row r at ++ rule_cells rs (at + length (pattern_row r))) ++ rule_row u k) n

-- What is held -------------------------------------------------------------------------------------------------------------------

module _ {text rules vars patterns : List ℕ} {count used : ℕ} {rs : List Rule} (h : RulesHeld text rules vars patterns count used rs) where
  rules_cells : length (rule_cells rs 0) ≡ 6 * count
  rules_cells = length_rule_cells rs 0 ∙ ap (λ k. 6 * k) h.many

  vars_cells : length (rows rule_var_row rs) ≡ 3 * RULEVARS * count
  vars_cells = length_rows rule_var_row (3 * RULEVARS) rule_var_row_long rs ∙ ap (λ k. 3 * RULEVARS * k) h.many

  words_cells : length (rows pattern_row rs) ≡ used
  words_cells = words_counted rs ∙ h.used

  -- the words that are used
  words_taken : take used patterns ≡ rows pattern_row rs
  words_taken = ap (take used) h.written.is ∙ take_at (rows pattern_row rs) h.written.rest used words_cells

  -- other words behind those that are used
  pub rules_kept : (after : List ℕ) → take used after ≡ take used patterns → length after ≡ length patterns → RulesHeld text rules vars after count used rs
  rules_kept after e l =
      record {
        many = h.many;
        used = h.used;
        few = h.few;
        long = h.long;
        longs = h.longs;
        room = l ∙ h.room;
        front = h.front;
        fronts = h.fronts;
        written = front_taken after (rows pattern_row rs) used (e ∙ words_taken);
        names = h.names;
        vars_few = h.vars_few;
        vars_named = h.vars_named;
      }

  module _ {u : Rule} {start end variables premises last : ℕ} {row : List ℕ} (is : RuleIs text patterns u start end variables premises used last row) (l : count < RULES) where
    words_then : take last patterns ≡ rows pattern_row (rs ++ (u ∷ []))
    words_then = is.words ∙ ap (λ z. z ++ pattern_row u) words_taken ∙ sym (rows_snoc pattern_row rs u)

    last_is : length (rows pattern_row (rs ++ (u ∷ []))) ≡ last
    last_is = ap length (sym words_then) ∙ length-take-le last patterns (omega (arith, is.room, h.room))

    behind_is : used + length (pattern_row u) ≡ last
    behind_is = omega (arith, last_is, ap length (rows_snoc pattern_row rs u), length-append (rows pattern_row rs) (pattern_row u), words_cells)

    row_is : rule_row u (0 + length (rows pattern_row rs)) ≡ start ∷ end ∷ variables ∷ premises ∷ used ∷ last ∷ []
    unfolding rule_row name_cells
    row_is =
        let z : 0 + length (rows pattern_row rs) ≡ used = omega (arith, words_cells) in
        ap (λ (k : ℕ). rule_row u k) z
        ∙ (λ i. is.starts i ∷ (ap (λ n. n + length u.name.bytes) is.starts ∙ is.ends) i ∷ is.many i ∷ is.judgments i ∷ used ∷ behind_is i ∷ [])

    row_long : length row ≡ 3 * RULEVARS
    row_long = ap length (sym is.cells) ∙ rule_var_row_long u

    -- the cells one after the other
    abbrev pub written_row : List ℕ
    written_row =
        set (set (set (set (sets rules (6 * count) (start ∷ end ∷ [])) (6 * count + 2) variables) (6 * count + 3) premises) (6 * count + 4) used) (6 * count + 5) last

    cells_at_once : sets rules (6 * count) (start ∷ end ∷ variables ∷ premises ∷ used ∷ last ∷ []) ≡ written_row
    cells_at_once =
        let a : suc (suc (6 * count)) ≡ 6 * count + 2 = omega arith in
        let b : suc (suc (suc (6 * count))) ≡ 6 * count + 3 = omega arith in
        let c : suc (suc (suc (suc (6 * count)))) ≡ 6 * count + 4 = omega arith in
        let d : suc (suc (suc (suc (suc (6 * count))))) ≡ 6 * count + 5 = omega arith in
        λ i. set (set (set (set (sets rules (6 * count) (start ∷ end ∷ [])) (a i) variables) (b i) premises) (c i) used) (d i) last

    pub rules_more : RulesHeld text written_row (paste vars (3 * RULEVARS * count) row (length row)) patterns (count + 1) last (rs ++ (u ∷ []))
    rules_more =
        let cells = start ∷ end ∷ variables ∷ premises ∷ used ∷ last ∷ [] in
        record {
          many = omega (arith, length-append rs (u ∷ []), h.many);
          used = sym (words_counted (rs ++ (u ∷ []))) ∙ last_is;
          few = is.room;
          long = ap length (sym cells_at_once) ∙ length-sets rules (6 * count) cells ∙ h.long;
          longs = length-paste vars (3 * RULEVARS * count) row (length row) (omega (arith, row_long, h.longs, l)) (omega arith) ∙ h.longs;
          room = h.room;
          front = subst (λ t. Front t (rule_cells (rs ++ (u ∷ [])) 0)) cells_at_once
              (front_same (front_write rules (rule_cells rs 0) cells (6 * count) h.front rules_cells (omega (arith, h.long, l)))
              (ap (λ z. rule_cells rs 0 ++ z) (sym row_is) ∙ sym (rule_cells_snoc rs u 0)));
          fronts = front_same (front_paste vars (rows rule_var_row rs) row (3 * RULEVARS * count) h.fronts vars_cells (omega (arith, row_long, h.longs, l)))
              (ap (λ z. rows rule_var_row rs ++ z) (sym is.cells) ∙ sym (rows_snoc rule_var_row rs u));
          written = front_taken patterns (rows pattern_row (rs ++ (u ∷ []))) last words_then;
          names = all_snoc h.names is.named;
          vars_few = all_snoc h.vars_few (omega (arith, is.many, is.few));
          vars_named = all_snoc h.vars_named is.vars_named;
        }
