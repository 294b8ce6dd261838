-- For callers of the readers: what the readers require, of tables that hold a theory; and where the parts of a rule stand among its words.
-- Assumes nothing.
use Rattle.std.specs.Prelude.{◌≡◌, refl, ℕ, zero, suc, ◌+◌, ◌-◌, ◌<◌, List, [], ◌∷◌}
use Rattle.std.proofs.Math.Path.{sym, ap}
use Rattle.std.proofs.Common.{◌∙◌, arith, drop-drop, take-take}
use Rattle.std.proofs.Math.ListN.{length, take, drop, length-append}
use Rattle.std.proofs.Math.Seq.{take-append_seam, drop-append_seam}
use Rattle.rules.specs.Theory.{Theory, Symbol, Rule, no_rule, inputs as inputs_of, rule}
use Rattle.rules.specs.TheoryTables.{prefix, prefixes, pattern_row}
use Rattle.rules.specs.Laws.Theory.{WellFormed, RuleFormed, all_at}
use Rattle.kernel.specs.Held.{SymbolsHeld}
use Rattle.kernel.specs.HeldRules.{RulesHeld}
use Rattle.kernel.specs.Parsed.{TheoryLists, TheoryHeld}
use Rattle.kernel.specs.Readers.{KnownSymbol, KnownInput, KnownRule, KnownVar, NamedVars, WordsAt, FormedRules, KnownFormedRule, conclusion_at}
use Rattle.kernel.specs.declared.tables.Counts.{Counts}
use Rattle.cells.specs.declared.Span.{Span}

-- Entries that are there ---------------------------------------------------------------------------------------------------------

pub known_symbol : {text symbols inputs : List ℕ} {count : ℕ} {ss : List Symbol} → SymbolsHeld text symbols inputs count ss → {c : ℕ} → c < count →
    KnownSymbol symbols c
known_symbol {text} {inputs = inputs} {count} {ss} h l = record { text = text; inputs = inputs; count = count; held = (ss, h); known = l }

pub known_input : (T : Theory) {text symbols inputs : List ℕ} {count : ℕ} → SymbolsHeld text symbols inputs count T.symbols → {c : ℕ} →
    c < count → {k : ℕ} → k < length (inputs_of T c) → KnownInput inputs c k
unfolding inputs_of
known_input T {text} {symbols} {count = count} h l m =
    record { text = text; symbols = symbols; count = count; held = (T.symbols, h); known = l; there = m }

pub known_rule : {text rules vars patterns : List ℕ} {count words : ℕ} {rs : List Rule} → RulesHeld text rules vars patterns count words rs →
    {r : ℕ} → r < count → KnownRule rules r
known_rule {text} {vars = vars} {patterns} {count} {words} {rs} h l =
    record { text = text; vars = vars; patterns = patterns; count = count; words = words; held = (rs, h); known = l }

module _ (T : Theory) {text rules vars patterns : List ℕ} {count words : ℕ} (h : RulesHeld text rules vars patterns count words T.rules)
    {r : ℕ} (l : r < count) where
  pub known_var : {i : ℕ} → i < length (rule T r).vars → KnownVar vars r i
  unfolding rule
  known_var m = record { text = text; rules = rules; patterns = patterns; count = count; words = words; held = (T.rules, h); known = l; there = m }

  pub named_vars : {many : ℕ} → many ≡ length (rule T r).vars → NamedVars text vars r many
  unfolding rule
  named_vars e = record { rules = rules; patterns = patterns; count = count; words = words; held = (T.rules, h); known = l; all = e }

pub formed_rules : {text : List ℕ} {t : TheoryLists} {n : Counts} {T : Theory} → TheoryHeld text t n T → WellFormed T →
    FormedRules t.symbols t.rules t.patterns n.rules T
formed_rules {text} {t} {n} h g =
    record {
      text = text;
      ins = t.inputs;
      vars = t.rule_vars;
      known = n.symbols;
      words = n.words;
      formed = g;
      signature = h.symbols;
      held = h.rules;
    }

pub formed_rule : {symbols rules patterns : List ℕ} {count r : ℕ} {T : Theory} → FormedRules symbols rules patterns count T → r < count →
    KnownFormedRule symbols rules patterns r
formed_rule {symbols} {rules} {patterns} {count} {r} {T} f l = record { count = count; T = T; formed = f; known = l }

pub rule_formed : {symbols rules patterns : List ℕ} {count r : ℕ} {T : Theory} → FormedRules symbols rules patterns count T → r < count →
    RuleFormed T (rule T r)
unfolding rule
rule_formed {r = r} {T} f l = all_at T.rules r no_rule f.formed.rules (omega (arith, l, f.held.many))

-- The parts of a rule ------------------------------------------------------------------------------------------------------------

take-nil : (n : ℕ) → take {A = ℕ} n [] ≡ []
take-nil zero = refl
take-nil (suc n) = refl

-- a part behind the first k of the first m
drop_take : (k n m : ℕ) (l : List ℕ) → m ≡ k + n → drop k (take m l) ≡ take n (drop k l)
drop_take zero n m l e = let z : m ≡ n = omega arith in ap (λ (j : ℕ). take j l) z
drop_take (suc k) n zero l e = absurd (omega arith)
drop_take (suc k) n (suc m) [] e = sym (take-nil n)
drop_take (suc k) n (suc m) (x ∷ xs) e = drop_take k n m xs (omega arith)

module _ {patterns : List ℕ} {T : Theory} {r : ℕ} {s : Span} (w : WordsAt patterns T r s) where
  -- the conclusion's words end where the rule's do
  pub conclusion_ends : conclusion_at T r + length (prefix (rule T r).conclusion) ≡ s.end
  unfolding conclusion_at pattern_row
  conclusion_ends =
      omega (arith, w.starts, w.ends, length-append (prefixes (rule T r).premises) (prefix (rule T r).conclusion))

  pub conclusion_words : take (s.end - conclusion_at T r) (drop (conclusion_at T r) patterns) ≡ prefix (rule T r).conclusion
  unfolding conclusion_at pattern_row
  conclusion_words =
      let ps = prefixes (rule T r).premises in
      let z : s.from + length ps ≡ conclusion_at T r = omega (arith, w.starts) in
      let m : s.end - s.from ≡ length ps + (s.end - conclusion_at T r) = omega (arith, conclusion_ends, w.starts) in
      ap (take (s.end - conclusion_at T r)) (ap (λ (k : ℕ). drop k patterns) (sym z) ∙ sym (drop-drop (length ps) s.from patterns))
      ∙ sym (drop_take (length ps) (s.end - conclusion_at T r) (s.end - s.from) (drop s.from patterns) m)
      ∙ ap (drop (length ps)) w.row
      ∙ drop-append_seam ps (prefix (rule T r).conclusion)

  pub premise_words : take (conclusion_at T r - s.from) (drop s.from patterns) ≡ prefixes (rule T r).premises
  unfolding conclusion_at pattern_row
  premise_words =
      let ps = prefixes (rule T r).premises in
      let k : conclusion_at T r - s.from ≡ length ps = omega (arith, w.starts) in
      ap (λ (j : ℕ). take j (drop s.from patterns)) k
      ∙ sym (take-take (length ps) (s.end - s.from) (drop s.from patterns) (omega (arith, conclusion_ends, w.starts)))
      ∙ ap (take (length ps)) w.row
      ∙ take-append_seam ps (prefix (rule T r).conclusion)
