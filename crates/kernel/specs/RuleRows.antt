-- The tables of rules as rows: where each entry and its words stand, for the readers and for laws that speak of these tables. Assumes
-- nothing.
use Rattle.std.specs.Prelude.{◌≡◌, ℕ, zero, suc, ◌+◌, ◌-◌, ◌*◌, ◌<◌, ◌≤◌, take, drop, replicate, Option}
use Rattle.std.proofs.Math.Path.{refl, sym, ap, subst}
use Rattle.std.proofs.Common.{◌∙◌, get_or-append-add}
use mathlib.Core.List.{List, [], ◌∷◌, ◌++◌}
use native.Mathlib.Omega.{arith}
use Rattle.std.proofs.Math.ListN.{length, get_or, length-append}
use Rattle.std.proofs.Math.Seq.{take-append_seam, drop-append_seam}
use Rattle.rules.specs.Limits.{RULES, RULEVARS}
use Rattle.rules.specs.Text.{same}
use Rattle.rules.specs.Find.{first}
use Rattle.rules.specs.Laws.Find.{get_d_front}
use Rattle.rules.specs.Sexp.{Name}
use Rattle.rules.specs.Tree.{count_trees}
use Rattle.rules.specs.Theory.{Theory, RuleVar, Rule, no_rule, rule, rule_named}
use Rattle.rules.specs.Declare.{no_rule_var}
use Rattle.rules.specs.Laws.Theory.{all_at}
use Rattle.rules.specs.TheoryTables.{name_cells, rows, var_row, var_rows, rule_var_row, rule_row, rule_cells, pattern_row, pattern_cells}
use Rattle.rules.specs.Laws.Row.{append_assoc, length_rows, row_cell, length_filled, filled_fits}
use Rattle.sexp.specs.AtomText.{Spans}
use Rattle.sexp.specs.NameRows.{NameAt, NameRows, SomeNames}
use Rattle.kernel.specs.HeldRules.{RulesHeld}
use Rattle.kernel.specs.Readers.{KnownRule, KnownVar, NamedRules, NamedVars, words_before, WordsAt}
use Rattle.sexp.specs.FoundLaws.{names_of, length_names, name_of, first_name, named_so}

-- The variables of a rule ------------------------------------------------------------------------------------------------------------

abbrev pub var_name : RuleVar → Name
var_name v = v.name

pub var_row_three : (v : RuleVar) → length (var_row v) ≡ 3
unfolding var_row name_cells
var_row_three v = refl

-- The table of rules -------------------------------------------------------------------------------------------------------------

pub rule_row_six : (r : Rule) (at : ℕ) → length (rule_row r at) ≡ 6
unfolding rule_row name_cells
rule_row_six r at = refl

pub length_rule_cells : (rs : List Rule) (at : ℕ) → length (rule_cells rs at) ≡ 6 * length rs
unfolding rule_cells
length_rule_cells [] at = omega arith
length_rule_cells (r ∷ rs) at =
    omega (arith, length-append (rule_row r at) (rule_cells rs (at + length (pattern_row r))), rule_row_six r at, length_rule_cells rs (at + length (pattern_row r)))

-- the cell j of rule k, whose first word stands behind those of the rules before
rule_cell : (rs : List Rule) (at : ℕ) (rest : List ℕ) (k j i : ℕ) → k < length rs → j < 6 → i ≡ 6 * k + j →
    get_or (rule_cells rs at ++ rest) i 0 ≡ get_or (rule_row (get_or rs k no_rule) (at + words_before rs k)) j 0
unfolding rule_cells rows words_before
rule_cell [] at rest k j i l m e = absurd (omega arith)
rule_cell (r ∷ rs) at rest zero j i l m e =
    let q : i ≡ j = omega (arith, e) in
    let z : at ≡ at + 0 = omega arith in
    let next = rule_cells rs (at + length (pattern_row r)) in
    ap (λ (n : List ℕ). get_or n i 0) (append_assoc (rule_row r at) next rest) ∙ ap (λ (n : ℕ). get_or (rule_row r at ++ (next ++ rest)) n 0) q
    ∙ get_d_front (rule_row r at) (next ++ rest) j 0 (omega (arith, rule_row_six r at, m))
    ∙ ap (λ (n : ℕ). get_or (rule_row r n) j 0) z
rule_cell (r ∷ rs) at rest (suc k) j i l m e =
    let q : i ≡ length (rule_row r at) + (6 * k + j) = omega (arith, e, rule_row_six r at) in
    let next = rule_cells rs (at + length (pattern_row r)) in
    let z : at + length (pattern_row r) + length (pattern_cells (take k rs)) ≡ at + length (pattern_row r ++ pattern_cells (take k rs)) =
    omega (arith, length-append (pattern_row r) (pattern_cells (take k rs))) in
    ap (λ (n : List ℕ). get_or n i 0) (append_assoc (rule_row r at) next rest) ∙ ap (λ (n : ℕ). get_or (rule_row r at ++ (next ++ rest)) n 0) q
    ∙ get_or-append-add (rule_row r at) (next ++ rest) (6 * k + j) 0
    ∙ rule_cell rs (at + length (pattern_row r)) rest k j (6 * k + j) (omega arith) m refl
    ∙ ap (λ (n : ℕ). get_or (rule_row (get_or rs k no_rule) n) j 0) z

-- one row among others
pub rows_split : {A : Type 0} (f : A → List ℕ) (xs : List A) (k : ℕ) (d : A) → k < length xs →
    rows f xs ≡ rows f (take k xs) ++ (f (get_or xs k d) ++ rows f (drop (suc k) xs))
unfolding rows
rows_split f [] k d l = absurd (omega arith)
rows_split f (x ∷ xs) zero d l = refl
rows_split f (x ∷ xs) (suc k) d l =
    ap (λ z. f x ++ z) (rows_split f xs k d (omega arith)) ∙ sym (append_assoc (f x) (rows f (take k xs)) (f (get_or xs k d) ++ rows f (drop (suc k) xs)))

-- The rows of rules that are held ------------------------------------------------------------------------------------------------

abbrev pub rule_name : Rule → Name
rule_name r = r.name

pub rule_var_row_long : (r : Rule) → length (rule_var_row r) ≡ 3 * RULEVARS
unfolding rule_var_row
rule_var_row_long r = length_filled (3 * RULEVARS) (var_rows r.vars)

module _ {text rules vars patterns : List ℕ} {count words : ℕ} {rs : List Rule} (h : RulesHeld text rules vars patterns count words rs) where
  pub rules_room : 6 * count ≤ length rules
  rules_room =
      omega (arith, length_rule_cells rs 0, h.many, ap length h.front.is, length-append (rule_cells rs 0) h.front.rest)

  pub rules_few : count ≤ RULES
  rules_few = omega (arith, rules_room, h.long)

  rule_cell_at : (k j i : ℕ) → k < length rs → j < 6 → i ≡ 6 * k + j → get_or rules i 0 ≡ get_or (rule_row (get_or rs k no_rule) (words_before rs k)) j 0
  rule_cell_at k j i l m e =
      let z : 0 + words_before rs k ≡ words_before rs k = omega arith in
      ap (λ (t : List ℕ). get_or t i 0) h.front.is ∙ rule_cell rs 0 h.front.rest k j i l m e
      ∙ ap (λ (n : ℕ). get_or (rule_row (get_or rs k no_rule) n) j 0) z

  pub rules_rows : NameRows text rules 6 0 count (names_of rule_name rs)
  unfolding rule_row name_cells
  rules_rows =
      record {
        many = length_names rule_name rs ∙ h.many;
        row = λ k l.
            let m : k < length rs = omega (arith, l, length_names rule_name rs) in
            subst (λ n. NameAt text rules (6 * k + 0) n) (sym (name_of rule_name rs k no_rule refl))
            (record {
              inside = omega (arith, rules_room, m, h.many);
              start = rule_cell_at k 0 (6 * k + 0) m (omega arith) refl;
              end = rule_cell_at k 1 (6 * k + 0 + 1) m (omega arith) (omega arith);
              name = all_at rs k no_rule h.names m;
            });
      }

  -- the words of a rule, and those of the rules behind
  pub words_split : (k : ℕ) → k < length rs →
      patterns ≡ pattern_cells (take k rs) ++ (pattern_row (get_or rs k no_rule) ++ (pattern_cells (drop (suc k) rs) ++ h.written.rest))
  words_split k l =
      h.written.is ∙ ap (λ t. t ++ h.written.rest) (rows_split pattern_row rs k no_rule l)
      ∙ append_assoc (pattern_cells (take k rs)) (pattern_row (get_or rs k no_rule) ++ pattern_cells (drop (suc k) rs)) h.written.rest
      ∙ ap (λ t. pattern_cells (take k rs) ++ t) (append_assoc (pattern_row (get_or rs k no_rule)) (pattern_cells (drop (suc k) rs)) h.written.rest)

pub some_rule_names : {text rules : List ℕ} {count : ℕ} → NamedRules text rules count → SomeNames text rules 6 0 count
some_rule_names s = (names_of rule_name s.3.0, rules_rows s.3.1)

pub rule_place : {rules : List ℕ} {r : ℕ} → KnownRule rules r → 6 * r + 5 < length rules
rule_place k = omega (arith, k.known, rules_few k.held.1, k.held.1.long)

pub var_place : {vars : List ℕ} {r i : ℕ} → KnownVar vars r i → 3 * (RULEVARS * r + i) < length vars
var_place {vars} {r} {i} k =
    omega (
      arith,
      k.known,
      k.held.1.many,
      rules_few k.held.1,
      k.held.1.longs,
      k.there,
      all_at k.held.0 r no_rule k.held.1.vars_few (omega (arith, k.known, k.held.1.many)),
    )

-- the answers of the readers
module _ (T : Theory) {text rules vars patterns : List ℕ} {count words : ℕ} (h : RulesHeld text rules vars patterns count words T.rules) where
  pub rule_is : (name : List ℕ) (a : Option ℕ) → ((ns : List Name) → NameRows text rules 6 0 count ns → a ≡ (first (λ n. same n.bytes name) ns 0)) →
      a ≡ (rule_named T name)
  unfolding rule_named
  rule_is name a e = e (names_of rule_name T.rules) (rules_rows h) ∙ (sym (first_name rule_name T.rules name 0))

  module _ (r : ℕ) (l : r < count) where
    there : r < length T.rules
    there = omega (arith, l, h.many)

    pub variables_cell : get_or rules (6 * r + 2) 0 ≡ length (rule T r).vars
    unfolding rule rule_row name_cells
    variables_cell = rule_cell_at h r 2 (6 * r + 2) there (omega arith) refl

    pub premises_cell : get_or rules (6 * r + 3) 0 ≡ count_trees (rule T r).premises
    unfolding rule rule_row name_cells
    premises_cell = rule_cell_at h r 3 (6 * r + 3) there (omega arith) refl

    pub from_cell : get_or rules (6 * r + 4) 0 ≡ words_before T.rules r
    unfolding rule_row name_cells
    from_cell = rule_cell_at h r 4 (6 * r + 4) there (omega arith) refl

    end_cell : get_or rules (6 * r + 4 + 1) 0 ≡ words_before T.rules r + length (pattern_row (rule T r))
    unfolding rule rule_row name_cells
    end_cell = rule_cell_at h r 5 (6 * r + 4 + 1) there (omega arith) (omega arith)

    -- the words from the rule's place on
    pub words_here : drop (words_before T.rules r) patterns
        ≡ pattern_row (rule T r) ++ (pattern_cells (drop (suc r) T.rules) ++ h.written.rest)
    unfolding rule words_before
    words_here =
        ap (drop (length (pattern_cells (take r T.rules)))) (words_split h r there)
        ∙ drop-append_seam (pattern_cells (take r T.rules)) (pattern_row (get_or T.rules r no_rule) ++ (pattern_cells (drop (suc r) T.rules) ++ h.written.rest))

    pub words_inside : words_before T.rules r + length (pattern_row (rule T r)) ≤ length patterns
    unfolding rule words_before
    words_inside =
        omega (
          arith,
          ap length (words_split h r there),
          length-append (pattern_cells (take r T.rules)) (pattern_row (get_or T.rules r no_rule) ++ (pattern_cells (drop (suc r) T.rules) ++ h.written.rest)),
          length-append (pattern_row (get_or T.rules r no_rule)) (pattern_cells (drop (suc r) T.rules) ++ h.written.rest),
        )

    pub words_at : WordsAt patterns T r (record { from = get_or rules (6 * r + 4) 0; end = get_or rules (6 * r + 4 + 1) 0 })
    words_at =
        let n : get_or rules (6 * r + 4 + 1) 0 - get_or rules (6 * r + 4) 0 ≡ length (pattern_row (rule T r)) = omega (arith, from_cell, end_cell) in
        record {
          starts = from_cell;
          ends = omega (arith, from_cell, end_cell);
          inside = omega (arith, end_cell, words_inside);
          row = ap (λ (k : ℕ). take k (drop (get_or rules (6 * r + 4) 0) patterns)) n
              ∙ ap (λ (k : ℕ). take (length (pattern_row (rule T r))) (drop k patterns)) from_cell
              ∙ ap (take (length (pattern_row (rule T r)))) words_here
              ∙ take-append_seam (pattern_row (rule T r)) (pattern_cells (drop (suc r) T.rules) ++ h.written.rest);
        }

    -- the cells of variable i: its sort, its name
    var_cells_lem : (i j k : ℕ) → i < length (rule T r).vars → j < 3 → k ≡ 3 * RULEVARS * r + (3 * i + j) →
        get_or vars k 0 ≡ get_or (var_row (get_or (rule T r).vars i no_rule_var)) j 0
    unfolding rule rule_var_row
    var_cells_lem i j k m n e =
        let few = all_at T.rules r no_rule h.vars_few there in
        let vs = (get_or T.rules r no_rule).vars in
        let many = length_rows var_row 3 var_row_three vs in
        ap (λ (t : List ℕ). get_or t k 0) h.fronts.is
        ∙ row_cell rule_var_row (3 * RULEVARS) rule_var_row_long T.rules h.fronts.rest r (3 * i + j) k no_rule there (omega (arith, few, m, n)) e
        ∙ ap (λ (t : List ℕ). get_or t (3 * i + j) 0) (filled_fits (3 * RULEVARS) (var_rows vs) (omega (arith, many, few)))
        ∙ row_cell var_row 3 var_row_three vs (replicate (3 * RULEVARS - length (var_rows vs)) 0) i j (3 * i + j) no_rule_var m n refl

    pub var_cell : (i : ℕ) → i < length (rule T r).vars → get_or vars (3 * (RULEVARS * r + i)) 0 ≡ (get_or (rule T r).vars i no_rule_var).sort
    unfolding var_row
    var_cell i m = var_cells_lem i 0 (3 * (RULEVARS * r + i)) m (omega arith) (omega arith)

    -- the names of a rule's variables
    pub vars_rows : NameRows text vars 3 (3 * RULEVARS * r + 1) (length (rule T r).vars) (names_of var_name (rule T r).vars)
    unfolding rule var_row name_cells
    vars_rows =
        let vs = (get_or T.rules r no_rule).vars in
        let few = all_at T.rules r no_rule h.vars_few there in
        record {
          many = length_names var_name vs;
          row = λ k l.
              let m : k < length vs = omega (arith, l, length_names var_name vs) in
              subst (λ n. NameAt text vars (3 * k + (3 * RULEVARS * r + 1)) n) (sym (name_of var_name vs k no_rule_var refl))
              (record {
                inside = omega (arith, h.longs, rules_few h, few, m, there, h.many);
                start = var_cells_lem k 1 (3 * k + (3 * RULEVARS * r + 1)) m (omega arith) (omega arith);
                end = var_cells_lem k 2 (3 * k + (3 * RULEVARS * r + 1) + 1) m (omega arith) (omega arith);
                name = all_at vs k no_rule_var (all_at T.rules r no_rule h.vars_named there) m;
              });
        }

    -- the rule's own name
    pub rule_spans : Spans text (rule T r).name (get_or rules (6 * r) 0) (get_or rules (6 * r + 1) 0)
    unfolding rule rule_row name_cells
    rule_spans =
        let a : get_or rules (6 * r) 0 ≡ (get_or T.rules r no_rule).name.start = rule_cell_at h r 0 (6 * r) there (omega arith) (omega arith) in
        let b : get_or rules (6 * r + 1) 0 ≡ (get_or T.rules r no_rule).name.start + length (get_or T.rules r no_rule).name.bytes =
        rule_cell_at h r 1 (6 * r + 1) there (omega arith) (omega arith) in
        record { named = all_at T.rules r no_rule h.names there; starts = sym a; ends = omega (arith, a, b) }

-- what `rule_var_named` asks of its rows, and answers
pub some_var_names : {text vars : List ℕ} {r many : ℕ} → NamedVars text vars r many → SomeNames text vars 3 (3 * RULEVARS * r + 1) many
unfolding rule
some_var_names {text} {vars} {r} {many} k =
    let T : Theory = record { sorts = []; symbols = []; rules = k.held.0 } in
    let ns = names_of var_name (rule T r).vars in
    (ns, subst (λ (n : ℕ). NameRows text vars 3 (3 * RULEVARS * r + 1) n ns) (sym k.all) (vars_rows T k.held.1 r k.known))

pub named_few : {text vars : List ℕ} {r many : ℕ} → NamedVars text vars r many → r < RULES
named_few k = omega (arith, k.known, rules_few k.held.1)

pub var_is : (T : Theory) {text rules vars patterns : List ℕ} {count words : ℕ} → RulesHeld text rules vars patterns count words T.rules →
    (r : ℕ) → r < count → {many : ℕ} → many ≡ length (rule T r).vars → (name : List ℕ) (a : Option ℕ) →
    ((ns : List Name) → NameRows text vars 3 (3 * RULEVARS * r + 1) many ns → a ≡ (first (λ n. same n.bytes name) ns 0)) →
    a ≡ (first (λ v. same v.name.bytes name) (rule T r).vars 0)
var_is T {text} {vars = vars} h r l {many} m name a e =
    named_so var_name (rule T r).vars name a e
    (subst (λ (n : ℕ). NameRows text vars 3 (3 * RULEVARS * r + 1) n (names_of var_name (rule T r).vars)) (sym m) (vars_rows T h r l))
