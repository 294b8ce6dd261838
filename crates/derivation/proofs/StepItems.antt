-- The items of a step and its conclusion: what the parts are given, which variables are used, and the definition's answer. Assumes nothing.
use mathlib.Core.Path.{◌≡◌, sym, ap, ◌∙◌}
use mathlib.Core.List.{List}
use Prim.Native.Nat.{ℕ, ◌<◌}
use lib.ListN.{length, get_or, replicate, length-replicate}
use Rattle.rules.specs.Limits.{VARIABLEWORDS, TERMWORDS}
use Rattle.rules.specs.Out.{Out, ok, then}
use Rattle.rules.specs.Find.{Set, union}
use Rattle.rules.specs.Tree.{Tree, Trees, variables_of}
use Rattle.rules.specs.Store.{Made}
use Rattle.rules.specs.Theory.{Theory, rule}
use Rattle.rules.specs.Step.{Items, no_items, read_items}
use Rattle.kernel.specs.Readers.{FormedRules, WordsAt, conclusion_at}
use Rattle.kernel.specs.RuleWords.{conclusion_stands, premises_stand}
use Rattle.cells.specs.declared.Span.{Span}
use Rattle.terms.specs.declared.store.Mark.{Mark}
use Rattle.terms.specs.Table.{made, tree, args_of}
use Rattle.terms.specs.Sets.{holds}
use Rattle.terms.specs.Collect.{Seen}
use Rattle.terms.specs.Patterns.{tree_in, bound_of}
use Rattle.terms.specs.On.{On, Stopped, on_start, on_is, on_ok, on_no, on_done}
use Rattle.terms.specs.Laws.Growth.{grown_args, grown_there}
use Rattle.terms.specs.Laws.Sets.{holds_zero}
use Rattle.terms.specs.Laws.Seen.{seen_none}
use Rattle.state.specs.declared.sizes.Sizes.{Sizes}
use Rattle.state.specs.Held.{Names, rule_lists}
use Rattle.reading.specs.Answers.{TermRead}
use Rattle.referring.specs.Referral.{Gathered}
use Rattle.referring.specs.Derived.{RuleItems, ItemsRead, cell_vars}
use Rattle.derivation.specs.Stepping.{Concludes, Concludable, UsedRead, concluded, from_items}

module _ {K : Names} {rules rulevars patterns : List ℕ} {n : Sizes} {I W : List ℕ} {m : Mark} {r : ℕ} {cells ids : List ℕ}
    (g : Concludes K (rule_lists K.theory rules rulevars patterns) n I W m r cells ids) where
  abbrev theory : Theory
  theory = g.given.S.theory

  abbrev answer : Out Made (Set × Tree)
  answer = from_items g.given.S (rule theory r) (args_of (made I W m) ids) g.given.xs (made I W m)

  abbrev reading : Out Made Items
  reading = read_items g.given.S (rule theory r) g.given.xs no_items (made I W m)

  -- The rule -----------------------------------------------------------------------------------------------------------------------------

  pub rule_formed : FormedRules K.symbols rules patterns n.rules theory
  rule_formed =
      record {
        text = K.theory;
        ins = K.inputs;
        vars = rulevars;
        known = n.symbols;
        words = g.given.ruled.words;
        formed = g.given.reads.spelling.formed;
        signature = g.given.reads.spelling.held;
        held = g.given.ruled.held;
      }

  -- Behind the items ---------------------------------------------------------------------------------------------------------------------

  abbrev second : Items → Made → Out Made (Set × Tree)
  second it s =
      then (concluded (rule theory r) (args_of (made I W m) ids) it.stated it.bound s)
      (λ j s. ok (union (variables_of (args_of (made I W m) ids)) (variables_of it.values), j) s)

  on_first : On I W m answer I W m (then reading second)
  unfolding from_items
  on_first = on_start g.given.reads.good

  pub items_refused : {J X : List ℕ} {new : Mark} {q d : ℕ} → ((h : RuleItems K (rule_lists K.theory rules rulevars patterns) n I W m r cells) →
      Stopped I W J X m (read_items h.S (rule h.S.theory r) h.xs no_items (made I W m)) q d new) → Stopped I W J X m answer q d new
  items_refused p = on_no second on_first (p g.given)

  module _ {J X bound : List ℕ} {stated : ℕ} {new : Mark} (p : (h : RuleItems K (rule_lists K.theory rules rulevars patterns) n I W m r cells) →
      ItemsRead I W J X m (read_items h.S (rule h.S.theory r) h.xs no_items (made I W m)) bound stated new) where
    pub items_read : ItemsRead I W J X m reading bound stated new
    items_read = p g.given

    pub ids_there : (k : ℕ) → k < length ids → get_or ids k 0 < new.terms
    ids_there k l = grown_there items_read.went.grown (get_or ids k 0) (g.there k l)

    same_args : args_of (made J X new) ids ≡ args_of (made I W m) ids
    same_args = grown_args items_read.went.grown ids g.there

    pub none_seen : {seen : List ℕ} (used : Set) → seen ≡ replicate TERMWORDS 0 → Seen J X new (holds seen) used
    none_seen {seen} used f =
        seen_none J X new used seen (f ∙ ap (λ (k : ℕ). replicate {A = ℕ} k 0) (sym (ap length f ∙ length-replicate {A = ℕ} TERMWORDS 0)))

    -- the variables of the terms, then those of the values
    module _ {used : List ℕ} (u : used ≡ replicate VARIABLEWORDS 0) (seen₁ used₁ : List ℕ)
        (v : Gathered J X new (variables_of (args_of (made J X new) ids)) (holds used) (holds seen₁) (holds used₁)) where
      module _ (seen₂ used₂ : List ℕ) (w : Gathered J X new (cell_vars (made J X new) bound) (holds used₁) (holds seen₂) (holds used₂)) where
        used_is : union (variables_of (args_of (made I W m) ids)) (variables_of items_read.items.values) ≡ holds used₂
        used_is =
            sym (w.set ∙ ap (λ (s : Set). union s (cell_vars (made J X new) bound)) (v.set
            ∙ ap (λ (s : Set). union s (variables_of (args_of (made J X new) ids))) (ap holds u ∙ holds_zero VARIABLEWORDS)
            ∙ ap (λ (ts : Trees). variables_of ts) same_args)
            ∙ ap (union (variables_of (args_of (made I W m) ids))) (sym items_read.values))

        -- the rule's words
        module _ {place : ℕ} {s : Span} (c : place ≡ conclusion_at theory r) (d : WordsAt patterns theory r s) where
          abbrev pub matching_given : Concludable K.symbols patterns J X new bound s.from place ids stated
          matching_given =
              record {
                rule = rule theory r;
                good = items_read.went.grown.good;
                symbols = g.given.reads.spelling.held.long;
                premises = premises_stand rule_formed g.given.known d;
                conclusion = conclusion_stands rule_formed g.given.known c;
                many = g.many;
                cells = items_read.cells;
                there = ids_there;
                known = items_read.there;
              }

          abbrev matching : Out Made Tree
          matching = concluded (rule theory r) (args_of (made J X new) ids) (tree_in (made J X new) stated) (bound_of (made J X new) bound) (made J X new)

          abbrev third : Tree → Made → Out Made (Set × Tree)
          third j s = ok (union (variables_of (args_of (made I W m) ids)) (variables_of items_read.items.values), j) s

          on_third : On I W m answer J X new (then matching third)
          on_third =
              on_is (on_ok second on_first items_read.went)
              (λ i. then (concluded (rule theory r) (sym same_args i) (items_read.states i) (items_read.binds i) (made J X new)) third)

          pub used_refused : {Y Z : List ℕ} {k : Mark} {q d : ℕ} → ((h : Concludable K.symbols patterns J X new bound s.from place ids stated) →
              Stopped J X Y Z new (concluded h.rule (args_of (made J X new) ids) (tree_in (made J X new) stated) (bound_of (made J X new) bound) (made J X new)) q d k) →
              Stopped I W Y Z m answer q d k
          used_refused t = on_no third on_third (t matching_given)

          pub used_done : {Y Z : List ℕ} {k : Mark} {j : ℕ} → ((h : Concludable K.symbols patterns J X new bound s.from place ids stated) →
              TermRead J X Y Z new (concluded h.rule (args_of (made J X new) ids) (tree_in (made J X new) stated) (bound_of (made J X new) bound) (made J X new)) j k) →
              UsedRead I W Y Z m answer used₂ j k
          used_done {Y} {Z} {k} {j} t =
              let w = t matching_given in
              record {
                went = on_done (on_is (on_ok third on_third w.went) (ap (λ (s : Set). ok (s, tree Y Z k j) (made Y Z k)) used_is));
                there = w.there;
              }
