-- The conclusion of a rule stands behind the words of its premises, which are passed as patterns. Assumes nothing.
use mathlib.Core.Path.{◌≡◌, sym, ◌∙◌}
use Prim.Native.Nat.{ℕ, ◌<◌}
use mathlib.Core.List.{List}
use Rattle.rules.specs.Tree.{count_trees}
use Rattle.rules.specs.Theory.{Theory, rule}
use Rattle.cells.specs.declared.Span.{Span}
use Rattle.terms.specs.Patterns.{Skippable, Skipped}
use Rattle.kernel.specs.HeldRules.{RulesHeld}
use Rattle.kernel.specs.Readers.{KnownRule, WordsAt, FormedRules, KnownFormedRule, conclusion_at}
use Rattle.kernel.specs.Entries.{known_rule}
use Rattle.kernel.specs.RuleWords.{premises_stand, premises_end}

pub rule_there : {symbols rules patterns : List ℕ} {r : ℕ} → KnownFormedRule symbols rules patterns r → KnownRule rules r
rule_there k = known_rule k.formed.held k.known

-- s: where the words of rule r stand; n: how many premises it has
module _ {symbols rules patterns : List ℕ} {r : ℕ} (s : Span) (n : ℕ)
    (a : (T : Theory) (text vars patterns : List ℕ) (count used : ℕ) → RulesHeld text rules vars patterns count used T.rules → r < count → WordsAt patterns T r s)
    (b : (T : Theory) (text vars patterns : List ℕ) (count used : ℕ) → RulesHeld text rules vars patterns count used T.rules → r < count →
    n ≡ count_trees (rule T r).premises) where
  pub premises_pass : KnownFormedRule symbols rules patterns r → Skippable symbols patterns s.from n
  premises_pass k =
      let f = k.formed in
      let w = a k.T f.text f.vars patterns k.count f.words f.held k.known in
      record {
        symbols = f.signature.long;
        reads = record {
          patterns = (rule k.T r).premises;
          stands = premises_stand f k.known w;
          count = sym (b k.T f.text f.vars patterns k.count f.words f.held k.known);
        };
      }

  pub premises_passed : {place : ℕ} → Skipped symbols patterns s.from n place → (T : Theory) (count : ℕ) → FormedRules symbols rules patterns count T → r < count →
      place ≡ conclusion_at T r
  premises_passed q T count f l =
      let w = a T f.text f.vars patterns count f.words f.held l in
      q (rule T r).premises (premises_stand f l w) (sym (b T f.text f.vars patterns count f.words f.held l)) ∙ premises_end f l w
