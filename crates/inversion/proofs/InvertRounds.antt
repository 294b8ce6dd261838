-- The loop over the rules of a predicate: what is carried from rule to rule, and what is left. Assumes nothing.
use mathlib.Core.Path.{◌≡◌, refl, sym, ap, ◌∙◌}
use Rattle.std.specs.Prelude.{Bool, true, false}
use Rattle.std.proofs.Common.{add-one, drop_of_length-le, drop-cons}
use mathlib.Core.List.{List, [], ◌∷◌}
use Prim.Native.Nat.{ℕ, ◌+◌, ◌<◌, ◌≤◌}
use native.Mathlib.Omega.{arith}
use lib.ListN.{length, drop, get_or}
use Rattle.rules.specs.Limits.{SYMBOLS, VARIABLES}
use Rattle.rules.specs.Out.{Out, then}
use Rattle.rules.specs.Find.{has, union, every}
use Rattle.rules.specs.Tree.{Tree, var, app}
use Rattle.rules.specs.Store.{Made}
use Rattle.rules.specs.Theory.{Theory, Rule, no_rule, head_is, rule, rules_of}
use Rattle.rules.specs.State.{State}
use Rattle.rules.specs.Invert.{Inversion, Names, taken_vars, predicate_of, invert_rule, invert_rules}
use Rattle.kernel.specs.Readers.{FormedRules, KnownFormedRule}
use Rattle.kernel.specs.Entries.{formed_rule}
use Rattle.terms.specs.declared.store.Mark.{Mark}
use Rattle.terms.specs.Table.{made, tree, start, Good}
use Rattle.terms.specs.Node.{head_of, HeadIs}
use Rattle.terms.specs.Sets.{holds}
use Rattle.terms.specs.On.{Stopped, On, on_start, on_is, on_ok, on_no, on_done}
use Rattle.terms.specs.Laws.Growth.{grown_tree, grown_there}
use Rattle.terms.specs.Laws.Terms.{term_var, head_tree}
use Rattle.state.specs.declared.sizes.Sizes.{Sizes}
use Rattle.state.specs.Held.{names, rule_lists}
use Rattle.referring.specs.Laws.Refers.{refers_on}
use Rattle.referring.specs.Laws.Sounds.{grown_grows}
use Rattle.inversion.specs.InvertRules.{vars_with, Unmade, Turning, Turned}

-- The predicate ----------------------------------------------------------------------------------------------------------------------------

head_symbol : (t : Tree) (h : ℕ) → h ≡ head_of t → h < SYMBOLS → h ≡ predicate_of t
unfolding head_of predicate_of
head_symbol (var v) h e l = absurd (omega arith)
head_symbol (app c ts) h e l = e

module _ {I W : List ℕ} {m : Mark} {s h : ℕ} (g : Good I W m) (t : s < m.terms) (e : HeadIs I W s h) where
  pub predicate_symbol : h < SYMBOLS → h ≡ predicate_of (tree I W m s)
  predicate_symbol l = head_symbol (tree I W m s) h (e m g t) l

  pub predicate_none : SYMBOLS ≤ h → 0 ≡ predicate_of (tree I W m s)
  unfolding predicate_of
  predicate_none l =
      let p : h ≡ head_of (tree I W m s) = e m g t in
      let q = head_tree I W m g s t (start I s) refl in
      sym (ap predicate_of (term_var I W m g s t (start I s) refl (omega (arith, l, p, q))))

-- The rules from a number on ---------------------------------------------------------------------------------------------------------------

unfoldable pub onward : Theory → ℕ → ℕ → List ℕ
onward T p from = every (λ r. head_is p r.conclusion) (drop from T.rules) from

onward_all : (T : Theory) (p : ℕ) → rules_of T p ≡ onward T p 0
unfolding rules_of onward
onward_all T p = refl

module _ {A : Type 0} (p : A → Bool) (xs : List A) (d : A) where
  every_here : (i : ℕ) → i < length xs → p (get_or xs i d) ≡ true → every p (drop i xs) i ≡ i ∷ every p (drop (i + 1) xs) (i + 1)
  unfolding every
  every_here i l e = rw (drop-cons xs i d l, e, every, add-one)

  every_later : (i : ℕ) → i < length xs → p (get_or xs i d) ≡ false → every p (drop i xs) i ≡ every p (drop (i + 1) xs) (i + 1)
  unfolding every
  every_later i l e = rw (drop-cons xs i d l, e, every, add-one)

  every_over : (i : ℕ) → length xs ≤ i → every p (drop i xs) i ≡ []
  unfolding every
  every_over i l = rw (drop_of_length-le xs l)

module _ (T : Theory) (p r : ℕ) where
  onward_over : length T.rules ≤ r → onward T p r ≡ []
  unfolding onward
  onward_over l = every_over (λ (u : Rule). head_is p u.conclusion) T.rules no_rule r l

  onward_here : r < length T.rules → true ≡ head_is p (rule T r).conclusion → onward T p r ≡ r ∷ onward T p (r + 1)
  unfolding onward rule
  onward_here l e = every_here (λ (u : Rule). head_is p u.conclusion) T.rules no_rule r l (sym e)

  onward_later : r < length T.rules → false ≡ head_is p (rule T r).conclusion → onward T p r ≡ onward T p (r + 1)
  unfolding onward rule
  onward_later l e = every_later (λ (u : Rule). head_is p u.conclusion) T.rules no_rule r l (sym e)

-- The loop ---------------------------------------------------------------------------------------------------------------------------------

-- whole: what the definition answers of all rules
pub record RulesLeft (S : State) (Y : Inversion) (I W : List ℕ) (old : Mark) (whole : Out Made Names) (J X : List ℕ) (now : Mark) (taken sorts : List ℕ) (base count p from : ℕ) : Type 0 where
  pub names_now : Names
  pub on : On I W old whole J X now (invert_rules S Y (onward S.theory p from) names_now (made J X now))
  pub taken_is : holds taken ≡ union (taken_vars S Y) (has names_now.seen)
  pub vars_are : names_now.vars ≡ vars_with S.vars sorts count
  pub more : base ≤ count
  pub few : count ≤ VARIABLES
  pub sorts_long : length sorts ≡ VARIABLES
  pub others : Unmade (length S.vars) count sorts

module _ {theory goals text symbols ins vars defs rules rulevars patterns facts lists : List ℕ} {n : Sizes} {I W : List ℕ} {m : Mark} {cells : List ℕ} {s j : ℕ}
    {context taken₀ sorts₀ : List ℕ} {base : ℕ}
    (g : Turning (names theory goals text symbols ins vars defs) (rule_lists theory rules rulevars patterns) facts lists n I W m cells s j context taken₀ sorts₀ base) where
  abbrev pub whole : Out Made Names
  whole = invert_rules g.S g.inversion (rules_of g.S.theory (predicate_of g.inversion.hypothesis)) g.names (made I W m)

  pub rounds_term : Good I W m × (s < m.terms)
  rounds_term = (g.refers.reads.good, g.hypothesis_there)

  abbrev pub formed : FormedRules symbols rules patterns n.rules g.S.theory
  formed =
      record {
        text = theory;
        ins = ins;
        vars = rulevars;
        known = n.symbols;
        words = g.ruled.words;
        formed = g.refers.reads.spelling.formed;
        signature = g.refers.reads.spelling.held;
        held = g.ruled.held;
      }

  -- what `concludes` asks
  pub rounds_rule : {r : ℕ} → r < n.rules → KnownFormedRule symbols rules patterns r
  rounds_rule l = formed_rule formed l

  pub rounds_start : {p : ℕ} → p ≡ predicate_of (tree I W m s) → RulesLeft g.S g.inversion I W m whole I W m taken₀ sorts₀ base base p 0
  rounds_start {p} e =
      record {
        names_now = g.names;
        on = on_is (on_start g.refers.reads.good)
            (ap (λ (rs : List ℕ). invert_rules g.S g.inversion rs g.names (made I W m))
            (ap (rules_of g.S.theory) (ap predicate_of g.hypothesis ∙ sym e) ∙ onward_all g.S.theory p));
        taken_is = g.taken_is;
        vars_are = g.vars_are;
        more = omega arith;
        few = g.few;
        sorts_long = g.sorts_long;
        others = g.others;
      }

  module _ {J X : List ℕ} {now : Mark} {taken sorts : List ℕ} {count p r : ℕ} (h : RulesLeft g.S g.inversion I W m whole J X now taken sorts base count p r) where
    pub rounds_over : n.rules ≤ r → Turned I W J X m g.S g.inversion whole taken sorts base count now
    unfolding invert_rules
    rounds_over l =
        record {
          names = h.names_now;
          went = on_done (on_is h.on
              (ap (λ (rs : List ℕ). invert_rules g.S g.inversion rs h.names_now (made J X now))
              (onward_over g.S.theory p r (omega (arith, l, g.ruled.held.many)))));
          taken_is = h.taken_is;
          vars_are = h.vars_are;
          more = h.more;
          few = h.few;
          sorts_long = h.sorts_long;
          others = h.others;
        }

    -- what `invert_rule` asks
    abbrev pub rounds_turning :
        Turning (names theory goals text symbols ins vars defs) (rule_lists theory rules rulevars patterns) facts lists n J X now cells s j context taken sorts count
    rounds_turning =
        record {
          S = g.S;
          footings = g.footings;
          xs = g.xs;
          inversion = g.inversion;
          names = h.names_now;
          refers = refers_on g.refers (grown_grows h.on.grown) h.on.grown.good;
          ruled = g.ruled;
          holds_items = g.holds_items;
          cases_are = g.cases_are;
          cases = g.cases;
          hypothesis = g.hypothesis ∙ sym (grown_tree h.on.grown s g.hypothesis_there);
          hypothesis_there = grown_there h.on.grown s g.hypothesis_there;
          judgment = g.judgment ∙ sym (grown_tree h.on.grown j g.judgment_there);
          judgment_there = grown_there h.on.grown j g.judgment_there;
          context_is = g.context_is;
          context_there = g.context_there;
          taken_is = h.taken_is;
          vars_are = h.vars_are;
          more = omega (arith, g.more, h.more);
          few = h.few;
          sorts_long = h.sorts_long;
          others = h.others;
          low = g.low;
        }

    module _ {b : Bool} (l : r < n.rules)
        (a : (T : Theory) (count : ℕ) → FormedRules symbols rules patterns count T → r < count → b ≡ head_is p (rule T r).conclusion) where
      there : r < length g.S.theory.rules
      there = omega (arith, l, g.ruled.held.many)

      told : b ≡ head_is p (rule g.S.theory r).conclusion
      told = a g.S.theory n.rules formed l

      -- a rule of another predicate
      pub rounds_later : b ≡ false → RulesLeft g.S g.inversion I W m whole J X now taken sorts base count p (r + 1)
      rounds_later e =
          record {
            names_now = h.names_now;
            on = on_is h.on (ap (λ (rs : List ℕ). invert_rules g.S g.inversion rs h.names_now (made J X now)) (onward_later g.S.theory p r there (sym e ∙ told)));
            taken_is = h.taken_is;
            vars_are = h.vars_are;
            more = h.more;
            few = h.few;
            sorts_long = h.sorts_long;
            others = h.others;
          }

      module _ (e : b ≡ true) where
        split : On I W m whole J X now
            (then (invert_rule g.S g.inversion (rule g.S.theory r) h.names_now (made J X now))
            (λ N E. invert_rules g.S g.inversion (onward g.S.theory p (r + 1)) N E))
        unfolding invert_rules
        split =
            on_is h.on (ap (λ (rs : List ℕ). invert_rules g.S g.inversion rs h.names_now (made J X now)) (onward_here g.S.theory p r there (sym e ∙ told)))

        abbrev one_rule : Out Made Names
        one_rule = invert_rule g.S g.inversion (rule g.S.theory r) h.names_now (made J X now)

        pub rounds_stopped : {Y Z : List ℕ} {k d : ℕ} {new : Mark} → Stopped J X Y Z now one_rule k d new → Stopped I W Y Z m whole k d new
        rounds_stopped x = on_no _ split x

        pub rounds_again : {Y Z taken' sorts' : List ℕ} {k : ℕ} {new : Mark} → Turned J X Y Z now g.S g.inversion one_rule taken' sorts' count k new →
            RulesLeft g.S g.inversion I W m whole Y Z new taken' sorts' base k p (r + 1)
        rounds_again d =
            record {
              names_now = d.names;
              on = on_ok _ split d.went;
              taken_is = d.taken_is;
              vars_are = d.vars_are;
              more = omega (arith, h.more, d.more);
              few = d.few;
              sorts_long = d.sorts_long;
              others = d.others;
            }
