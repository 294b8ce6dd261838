-- A step by the rule that it names: its references, then its conclusion and question 39; the derived fact. Assumes nothing.
use mathlib.Core.Path.{◌≡◌, sym, ap, ◌∙◌, subst}
use mathlib.Core.Logic.{⊎_elim}
use mathlib.Core.Bool.{false}
use mathlib.Core.List.{List, [], ◌∷◌}
use Prim.Native.Nat.{ℕ, ◌<◌, ◌≤◌}
use native.Mathlib.Omega.{arith}
use lib.Dec.{eqb}
use lib.ListN.{length, take, length-append}
use lib.Seq.{take-length}
use borrow.Author.Tests.{eqb-true, eq-eqb, ne_eqb}
use Rattle.rules.specs.Limits.{PATTERNS}
use Rattle.rules.specs.Out.{Out, ok, then, ask}
use Rattle.rules.specs.Find.{Set, has, union, rising}
use Rattle.rules.specs.Sexp.{Sexp, Sexps, count, item, rest, items}
use Rattle.rules.specs.Tree.{Tree, none, count_trees}
use Rattle.rules.specs.Store.{Made}
use Rattle.rules.specs.Theory.{rule}
use Rattle.rules.specs.TheoryTables.{pattern_row, prefix, prefixes}
use Rattle.rules.specs.State.{Fact}
use Rattle.rules.specs.Step.{Refs, references}
use Rattle.rules.specs.Laws.Prefix.{prefixes_length}
use Rattle.rules.specs.Laws.Rising.{or_cases}
use Rattle.rules.proofs.Laws.StepWalk.{references_keeps}
use Rattle.sexp.specs.Encode.{encodes}
use Rattle.sexp.specs.WalkLaws.{AtomIs}
use Rattle.sexp.specs.Each.{ListOf}
use Rattle.kernel.specs.Readers.{KnownRule}
use Rattle.kernel.specs.RuleRows.{words_inside}
use Rattle.terms.specs.declared.store.Mark.{Mark}
use Rattle.terms.specs.Table.{made, tree, args_of}
use Rattle.terms.specs.Sets.{holds, plus}
use Rattle.terms.specs.On.{On, Stopped, on_start, on_is, on_ok, on_no, on_pure, on_stop, on_done, on_ask_yes, on_ask_no}
use Rattle.terms.specs.Laws.Patterns.{count_sizes}
use Rattle.state.specs.declared.sizes.Sizes.{Sizes}
use Rattle.state.specs.Held.{Names, rule_lists}
use Rattle.state.specs.Members.{Under}
use Rattle.std.specs.Prelude.{Result, Ok, Err}
use Rattle.questions.specs.declared.Question.{Question}
use Rattle.referring.specs.declared.support.Support.{Support}
use Rattle.referring.specs.declared.support.Derived.{Derived}
use Rattle.derivation.specs.declared.step.Brought.{Brought}
use Rattle.referring.specs.Recall.{Refers}
use Rattle.referring.specs.Derived.{RuleForm, FactForm, RefsRead, DerivedRead, DerivedBy, derived_fact, with_instances}
use Rattle.derivation.specs.Stepping.{Scopes, ScopedBy, PremisesOf, in_scope, by_rule}
use Rattle.referring.specs.Laws.Refers.{refers_went}
use Rattle.derivation.proofs.RulePremises.{has_one}

-- cells for the premises, as many as there are
pub premises_cells : {rules : List ℕ} {r k : ℕ} → PremisesOf rules r k → {room : ℕ} → k ≡ room → PremisesOf rules r room
premises_cells p e T text vars patterns count words h l = sym e ∙ p T text vars patterns count words h l

module _ {K : Names} {rules rulevars patterns facts footings lists : List ℕ} {n : Sizes} {I W : List ℕ} {m : Mark} {cells : List ℕ}
    (g : RuleForm K (rule_lists K.theory rules rulevars patterns) facts footings lists n I W m cells 4) {r : ℕ} (known : r < n.rules) where
  abbrev whole : Out Made (Fact × ℕ)
  whole = by_rule g.S r g.xs (made I W m)

  -- the fact with judgment j, over what the references give
  abbrev fact : Refs → Tree → Fact × ℕ
  fact rs j = (
    record {
      judgment = j;
      hyps = rising (length g.S.facts) rs.hyps;
      assumed = false;
      premises = none;
      general = [];
      footing = rising (length g.S.theory.rules) (union (has (r ∷ [])) rs.footing);
    },
    rs.instances,
  )

  abbrev third : Refs → Made → Out Made (Fact × ℕ)
  third rs s =
      then (in_scope g.S (rule g.S.theory r) rs.judgments (rising (length g.S.facts) rs.hyps) (rest g.xs 4) s) (λ j s. ok (fact rs j) s)

  abbrev second : Sexps → Made → Out Made (Fact × ℕ)
  second ys s = then (ask 37 (eqb (count ys) (count_trees (rule g.S.theory r).premises)) s) (λ _ s. then (references g.S ys s) third)

  on_first : On I W m whole I W m (then (items 37 (item g.xs 3) (made I W m)) second)
  unfolding by_rule
  on_first = on_start g.refers.reads.good

  -- The rule -----------------------------------------------------------------------------------------------------------------------------

  pub by_there : KnownRule rules r
  by_there =
      record {
        text = K.theory;
        vars = rulevars;
        patterns = patterns;
        count = n.rules;
        words = g.ruled.words;
        held = (g.S.theory.rules, g.ruled.held);
        known = known;
      }

  by_rule_lem : r < length g.S.theory.rules
  by_rule_lem = omega (arith, known, g.ruled.held.many)

  -- the premises are no more than the words of patterns
  by_few : count_trees (rule g.S.theory r).premises ≤ PATTERNS
  unfolding pattern_row
  by_few =
      omega (
        arith,
        words_inside g.S.theory g.ruled.held r known,
        length-append (prefixes (rule g.S.theory r).premises) (prefix (rule g.S.theory r).conclusion),
        prefixes_length (rule g.S.theory r).premises,
        count_sizes (rule g.S.theory r).premises,
        g.ruled.held.room,
      )

  by_premises : {k : ℕ} → PremisesOf rules r k → k ≡ count_trees (rule g.S.theory r).premises
  by_premises p = p g.S.theory K.theory rulevars patterns n.rules g.ruled.words g.ruled.held known

  pub by_most : {k : ℕ} → PremisesOf rules r k → k ≤ PATTERNS
  by_most {k} p = omega (arith, by_premises {k = k} p, by_few)

  -- The references -----------------------------------------------------------------------------------------------------------------------

  pub by_atom : (p : ℕ) × AtomIs K.text (item g.xs 3) p → Stopped I W I W m whole 37 0 m
  unfolding items
  by_atom p = on_stop second on_first (ap (λ (x : Sexp). items 37 x (made I W m)) p.1.is)

  -- part: the cells of the references
  module _ {part : List ℕ} (l : ListOf K.text cells (item g.xs 3) part) where
    on_second : On I W m whole I W m (second l.items (made I W m))
    unfolding items
    on_second = on_pure second on_first (ap (λ (x : Sexp). items 37 x (made I W m)) l.is)

    module _ {k v : ℕ} (c : (ys : Sexps) → part ≡ encodes ys → k ≡ count ys) (p : PremisesOf rules r v) where
      counted : k ≡ count l.items
      counted = c l.items l.holds.cells

      pub wanted : v ≡ count_trees (rule g.S.theory r).premises
      wanted = by_premises p

      pub by_count : (k ≡ v → ⊥) → Stopped I W I W m whole 37 0 m
      by_count q = on_ask_no _ 37 on_second (ne_eqb _ _ (λ z. q (counted ∙ z ∙ sym wanted)))

      module _ (e : k ≡ v) where
        on_third : On I W m whole I W m (then (references g.S l.items (made I W m)) third)
        on_third = on_ask_yes _ 37 on_second (eq-eqb _ _ (sym counted ∙ e ∙ wanted))

        abbrev pub by_given : FactForm K facts footings lists n I W m part 0
        by_given = record { S = g.S; xs = l.items; refers = g.refers; holds = l.holds; many = omega arith }

        pub by_refused : {J X : List ℕ} {new : Mark} {c d : ℕ} → ((h : FactForm K facts footings lists n I W m part 0) →
            Stopped I W J X m (references h.S h.xs (made I W m)) c d new) → Stopped I W J X m whole c d new
        by_refused q = on_no third on_third (q by_given)

        -- what the references bring: in ids, hyps and footing
        module _ {J X ids hyps footing : List ℕ} {instances : ℕ} {new : Mark} (q : (h : FactForm K facts footings lists n I W m part 0) →
            RefsRead I W J X m h.S (references h.S h.xs (made I W m)) ids hyps footing (count h.xs) instances new) where
          pub refs : RefsRead I W J X m g.S (references g.S l.items (made I W m)) ids hyps footing (count l.items) instances new
          refs = q by_given

          pub after : Refers K facts footings lists n J X new g.S
          after = refers_went g.refers (references_keeps g.S l.items (made I W m) g.refers.recorded.trees) refs.went

          module _ (b : length ids ≡ v) where
            pub filled : length ids ≡ count l.items
            filled = b ∙ sym e ∙ counted

            abbrev pub by_scopes : Scopes K (rule_lists K.theory rules rulevars patterns) facts lists n J X new r cells ids hyps
            by_scopes =
                record {
                  S = g.S;
                  xs = g.xs;
                  footings = footings;
                  refers = after;
                  ruled = g.ruled;
                  known = known;
                  holding = g.holds;
                  many = sym (b ∙ wanted);
                  there = λ i l. refs.there i (omega (arith, l, filled));
                  earlier = refs.earlier;
                }

            -- the terms of the references, and what they rest on
            judged : args_of (made J X new) ids ≡ refs.refs.judgments
            judged =
                ap (args_of (made J X new)) (sym (take-length ids)) ∙ ap (λ (i : ℕ). args_of (made J X new) (take i ids)) filled ∙ refs.judgments

            abbrev scope : Out Made Tree
            scope = in_scope g.S (rule g.S.theory r) (args_of (made J X new) ids) (rising (length g.S.facts) (holds hyps)) (rest g.xs 4) (made J X new)

            abbrev last : Tree → Made → Out Made (Fact × ℕ)
            last j s = ok (fact refs.refs j) s

            on_last : On I W m whole J X new (then scope last)
            on_last =
                on_is (on_ok third on_third refs.went)
                (λ i. then (in_scope g.S (rule g.S.theory r) (sym judged i) (rising (length g.S.facts) (sym refs.rests i)) (rest g.xs 4) (made J X new)) last)

            -- the rule has joined the footing
            module _ (footing' : List ℕ) (w : holds footing' ≡ plus r (holds footing)) where
              footed : union (has (r ∷ [])) refs.refs.footing ≡ holds footing'
              footed = sym (w ∙ ap (plus r) refs.uses ∙ has_one r refs.refs.footing)

              known_all : Under (length g.S.theory.rules) (holds footing')
              known_all v t =
                  ⊎_elim (λ z. refs.known v z) (λ z. omega (arith, eqb-true v r z, by_rule_lem)) (or_cases (holds footing v) (eqb v r) (sym (ap (λ (s : Set). s v) w) ∙ t))

              fact_is : (j : Tree) (c : ℕ) → c ≡ instances → fact refs.refs j ≡ with_instances (derived_fact g.S j hyps footing') c
              fact_is j c z = λ i. (
                record {
                  judgment = j;
                  hyps = rising (length g.S.facts) (sym refs.rests i);
                  assumed = false;
                  premises = none;
                  general = [];
                  footing = rising (length g.S.theory.rules) (footed i);
                },
                (sym (z ∙ refs.counted)) i,
              )

              -- the references' hypotheses and instances beside it
              abbrev brought' : Brought
              brought' = record { instances = instances; support = record { hyps = hyps; footing = footing' } }

              by_answers : (Y Z : List ℕ) (now : Mark) (a : Result Derived Question) → ScopedBy J X Y Z new now scope brought' a →
                  DerivedBy (Fact × ℕ) I W Y Z m now g.S whole with_instances a
              by_answers Y Z now (Ok d) t =
                  subst (λ (s : Support). DerivedRead (Fact × ℕ) I W Y Z m g.S whole with_instances s.hyps s.footing d.judgment d.instances now) (sym t.2) (record {
                    went = on_done (on_is (on_ok last on_last t.0.went) (ap (λ (f : Fact × ℕ). ok f (made Y Z now)) (fact_is (tree Y Z now d.judgment) d.instances t.1)));
                    there = t.0.there;
                    earlier = refs.earlier;
                    known = known_all;
                  })
              by_answers Y Z now (Err q) t = on_no last on_last t

              pub by_answer : (Y Z : List ℕ) (now : Mark) (a : Result Derived Question) →
                  ((h : Scopes K (rule_lists K.theory rules rulevars patterns) facts lists n J X new r cells ids hyps) →
                  ScopedBy J X Y Z new now
                  (in_scope h.S (rule h.S.theory r) (args_of (made J X new) ids) (rising (length h.S.facts) (holds hyps)) (rest h.xs 4) (made J X new)) brought' a) →
                  DerivedBy (Fact × ℕ) I W Y Z m now g.S whole with_instances a
              by_answer Y Z now a t = by_answers Y Z now a (t by_scopes)
