-- The words of a rule, as the tables of a well-formed theory hold them, are what matching and building ask for: the premises stand from the
-- rule's first word on, the conclusion behind them. Assumes nothing.
use Rattle.std.specs.Prelude.{◌≡◌, length, drop}
use Rattle.std.proofs.Math.Path.{refl, sym, ap}
use Rattle.std.proofs.Common.{◌∙◌, subst, arith, drop-drop}
use Prim.Native.Nat.{ℕ, suc, ◌+◌, ◌<◌, ◌≤◌}
use mathlib.Core.List.{List, [], ◌∷◌, ◌++◌, append_assoc}
use Rattle.std.proofs.Math.Seq.{drop_at}
use Rattle.rules.specs.Limits.{ARGUMENTS, RULEVARS}
use Rattle.rules.specs.Tree.{Tree, Trees, var, app, none, more, size, sizes, count_trees}
use Rattle.rules.specs.Theory.{Theory, RuleVar, no_symbol, inputs, rule}
use Rattle.rules.specs.TheoryTables.{prefix, prefixes, pattern_row, pattern_cells}
use Rattle.rules.specs.Laws.Prefix.{prefix_length, prefixes_length}
use Rattle.rules.specs.Laws.Theory.{Sorted, Sorteds, Judgment, Judgments, WellFormed, all_at}
use Rattle.kernel.specs.Held.{SymbolsHeld}
use Rattle.kernel.specs.Readers.{WordsAt, FormedRules, words_before, conclusion_at}
use Rattle.kernel.specs.SignatureRows.{arity_cell}
use Rattle.kernel.specs.RuleRows.{words_here}
use Rattle.kernel.specs.Entries.{rule_formed, conclusion_ends}
use Rattle.cells.specs.declared.Span.{Span}
use Rattle.terms.specs.Patterns.{Stands, Standing, Fits, FitsAll, arity}
use Rattle.terms.specs.Laws.Patterns.{prefix_stands, prefixes_stand}

-- Patterns of a well-formed theory ---------------------------------------------------------------------------------------------------

module _ (T : Theory) (g : WellFormed T) {text symbols ins : List ℕ} {known : ℕ} (h : SymbolsHeld text symbols ins known T.symbols)
    (vs : List RuleVar) (m : length vs ≤ RULEVARS) where
  sorteds_count : (ts : Trees) (ss : List ℕ) → Sorteds T vs ts ss → count_trees ts ≡ length ss
  unfolding Sorted count_trees
  sorteds_count none [] k = refl
  sorteds_count none (s ∷ ss) k = absurd k
  sorteds_count (more t ts) [] k = absurd k
  sorteds_count (more t ts) (s ∷ ss) k = ap suc (sorteds_count ts ss k.1)

  -- a symbol with as many arguments as its inputs
  module _ (c : ℕ) (l : c < length T.symbols) (ts : Trees) (k : Sorteds T vs ts (inputs T c)) where
    arity_is : count_trees ts ≡ arity symbols c
    arity_is = sorteds_count ts (inputs T c) k ∙ sym (arity_cell T h c (omega (arith, l, h.many)))

    arity_few : count_trees ts ≤ ARGUMENTS
    unfolding inputs
    arity_few = omega (arith, sorteds_count ts (inputs T c) k, (all_at T.symbols c no_symbol g.symbols l).few)

  mutual
    unfolding Sorted Fits

    sorted_fits : (t : Tree) (s : ℕ) → Sorted T vs t s → Fits symbols t
    sorted_fits (var i) s k = omega (arith, k.0, m)
    sorted_fits (app c ts) s k =
        (omega (arith, k.0, g.row2), arity_is c k.0 ts k.2, arity_few c k.0 ts k.2, sorteds_fit ts (inputs T c) k.2)

    sorteds_fit : (ts : Trees) (ss : List ℕ) → Sorteds T vs ts ss → FitsAll symbols ts
    sorteds_fit none ss k = tt
    sorteds_fit (more t ts) [] k = absurd k
    sorteds_fit (more t ts) (s ∷ ss) k = (sorted_fits t s k.0, sorteds_fit ts ss k.1)

  pub judgment_fits : (t : Tree) → Judgment T vs t → Fits symbols t
  unfolding Judgment Fits
  judgment_fits (var i) k = absurd k
  judgment_fits (app p ts) k =
      (omega (arith, k.0, g.row2), arity_is p k.0 ts k.2, arity_few p k.0 ts k.2, sorteds_fit ts (inputs T p) k.2)

  pub judgments_fit : (ts : Trees) → Judgments T vs ts → FitsAll symbols ts
  unfolding Judgments Fits
  judgments_fit none k = tt
  judgments_fit (more t ts) k = (judgment_fits t k.0, judgments_fit ts k.1)

-- The words of a rule ----------------------------------------------------------------------------------------------------------------

module _ {symbols rules patterns : List ℕ} {count : ℕ} {T : Theory} (f : FormedRules symbols rules patterns count T) {r : ℕ} (l : r < count) where
  -- what stands behind the rule's words
  abbrev behind : List ℕ
  behind = pattern_cells (drop (suc r) T.rules) ++ f.held.written.rest

  here : drop (words_before T.rules r) patterns ≡ prefixes (rule T r).premises ++ (prefix (rule T r).conclusion ++ behind)
  unfolding pattern_row
  here = words_here T f.held r l ∙ append_assoc (prefixes (rule T r).premises) (prefix (rule T r).conclusion) behind

  there : drop (conclusion_at T r) patterns ≡ prefix (rule T r).conclusion ++ behind
  unfolding conclusion_at
  there =
      sym (drop-drop (length (prefixes (rule T r).premises)) (words_before T.rules r) patterns) ∙ ap (drop (length (prefixes (rule T r).premises))) here
      ∙ drop_at (prefixes (rule T r).premises) (prefix (rule T r).conclusion ++ behind) (length (prefixes (rule T r).premises)) refl

  premises_here : Standing symbols patterns (words_before T.rules r) (rule T r).premises
  premises_here =
      let k = rule_formed f l in
      prefixes_stand symbols patterns (words_before T.rules r) (rule T r).premises (prefix (rule T r).conclusion ++ behind)
      (judgments_fit T f.formed f.signature (rule T r).vars k.few (rule T r).premises k.premises) here

  conclusion_here : Stands symbols patterns (conclusion_at T r) (rule T r).conclusion
  conclusion_here =
      let k = rule_formed f l in
      prefix_stands symbols patterns (conclusion_at T r) (rule T r).conclusion behind
      (judgment_fits T f.formed f.signature (rule T r).vars k.few (rule T r).conclusion k.conclusion) there

  -- the conclusion, where `conclusion` says
  pub conclusion_stands : {at : ℕ} → at ≡ conclusion_at T r → Stands symbols patterns at (rule T r).conclusion
  conclusion_stands e = subst (λ (k : ℕ). Stands symbols patterns k (rule T r).conclusion) (sym e) conclusion_here

  -- the premises, where `words` says; then the conclusion, up to the end
  module _ {s : Span} (w : WordsAt patterns T r s) where
    pub premises_stand : Standing symbols patterns s.from (rule T r).premises
    premises_stand = subst (λ (k : ℕ). Standing symbols patterns k (rule T r).premises) (sym w.starts) premises_here

    pub premises_end : s.from + sizes (rule T r).premises ≡ conclusion_at T r
    unfolding conclusion_at
    premises_end = omega (arith, w.starts, prefixes_length (rule T r).premises)

    pub conclusion_end : conclusion_at T r + size (rule T r).conclusion ≡ s.end
    conclusion_end = omega (arith, conclusion_ends w, prefix_length (rule T r).conclusion)
