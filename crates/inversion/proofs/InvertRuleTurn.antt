-- One rule of `invert` in the tables: what its functions ask, and what their answers make of it. Assumes nothing.
use mathlib.Core.Path.{◌≡◌, refl, sym, ap, ◌∙◌, subst}
use mathlib.Core.Bool.{Bool, true, false, ◌&&◌, not}
use Rattle.std.specs.Prelude.{None as nothing, Some as some, Option, Ok, Err}
use mathlib.Core.List.{List, ◌++◌}
use Prim.Native.Nat.{ℕ, ◌-◌, ◌<◌, ◌≤◌}
use native.Mathlib.Omega.{arith}
use denote.Ref.{Bor}
use lib.ListN.{length, get_or, take, drop, replicate}
use Rattle.rules.specs.Limits.{RULEVARS}
use Rattle.rules.specs.Out.{ok, refuse, then}
use Rattle.rules.specs.Find.{all, has}
use Rattle.rules.specs.Sexp.{cons, item}
use Rattle.rules.specs.Theory.{Theory, Rule, rule}
use Rattle.rules.specs.Invert.{Case, case_named, suit, taken_vars, invert_rule}
use Rattle.rules.specs.Laws.Theory.{RuleFormed, all_at, all_map}
use Rattle.rules.proofs.Laws.Below.{Below, below_up}
use Rattle.sexp.specs.AtomText.{Spans, spans_low, spans_high, spans_part}
use Rattle.kernel.specs.HeldRules.{RulesHeld}
use Rattle.kernel.specs.Readers.{KnownRule, FormedRules}
use Rattle.kernel.specs.Entries.{rule_formed}
use Rattle.cells.specs.declared.Span.{Span}
use Rattle.terms.specs.declared.store.Mark.{Mark}
use Rattle.terms.specs.Table.{made, tree}
use Rattle.terms.specs.Sets.{holds}
use Rattle.terms.specs.On.{Stopped, On, on_start, on_is, on_ok, on_no, on_done, pure_stopped}
use Rattle.state.specs.declared.sizes.Sizes.{Sizes}
use Rattle.state.specs.Held.{names, rule_lists}
use Rattle.questions.specs.declared.Question.{Question}
use Rattle.questions.specs.declared.Question.TheVariants.{CaseVariables}
use Rattle.questions.specs.Numbers.{number_of, detail_of}
use Rattle.reading.specs.Laws.Lists.{vars_listed}
use Rattle.referring.specs.Laws.Refers.{refers_recalls}
use Rattle.sexp.specs.Items.{Holds}
use Rattle.sexp.specs.WalkLaws.{walk_rest}
use Rattle.casework.specs.Cases.{CasesIn, CaseFound, CaseHere}
-- beside `Below` of trees
use Rattle.terms.specs.Table.{Below as There}
use Rattle.referring.specs.Ids.{IDS}
use Rattle.inversion.specs.InvertRules.{RuleVarsGiven, vars_with, CaseVarsGiven, CaseVarsAre, Lacking, LackedBy, lacks, Having, has_case, Turning, TurnedBy}
use Rattle.reading.specs.Answers.{PassedBy}
use Rattle.inversion.proofs.InvertNames.{with_length}
use Rattle.casework.specs.Laws.Rows.{and_true}
use Rattle.inversion.proofs.InvertVerdicts.{Answer}
use Rattle.inversion.proofs.InvertTurns.{turn_lacks, turn_unsuited, turn_taken, turn_has, new_is, taken_more}

module _ {theory goals text symbols ins vars defs rules rulevars patterns facts lists : List ℕ} {n : Sizes} {I W : List ℕ} {m : Mark} {cells : List ℕ} {s j : ℕ}
    {context taken sorts : List ℕ} {count : ℕ}
    (g : Turning (names theory goals text symbols ins vars defs) (rule_lists theory rules rulevars patterns) facts lists n I W m cells s j context taken sorts count)
    {r : ℕ} (l : r < n.rules) where
  abbrev pub R : Rule
  R = rule g.S.theory r

  -- The rule -----------------------------------------------------------------------------------------------------------------------------

  pub turn_known : KnownRule rules r
  turn_known =
      record {
        text = theory;
        vars = rulevars;
        patterns = patterns;
        count = n.rules;
        words = g.ruled.words;
        held = (g.S.theory.rules, g.ruled.held);
        known = l;
      }

  abbrev pub turn_formed : FormedRules symbols rules patterns n.rules g.S.theory
  turn_formed =
      record {
        text = theory;
        ins = ins;
        vars = rulevars;
        known = n.symbols;
        words = g.ruled.words;
        formed = g.refers.reads.spelling.formed;
        signature = g.refers.reads.spelling.held;
        held = g.ruled.held;
      }

  pub formed : RuleFormed g.S.theory R
  formed = rule_formed turn_formed l

  abbrev pub turn_rule_vars : {need : ℕ} → need ≡ length R.vars → RuleVarsGiven rulevars r need
  turn_rule_vars e =
      record {
        T = g.S.theory;
        text = theory;
        rules = rules;
        patterns = patterns;
        known = n.rules;
        words = g.ruled.words;
        held = g.ruled.held;
        there = l;
        many = e;
        small = all_map (λ v k. omega (arith, k.declared, g.refers.reads.spelling.formed.row1)) formed.sorts;
      }

  -- what `find_case` asks
  abbrev pub turn_cases : CasesIn text cells
  turn_cases = record { vs = g.S.vars; xs = g.xs; cs = g.inversion.cases; holds = g.holds_items; many = g.cases_are; cases = g.cases }

  pub hypothesis_low : Below (length g.S.vars) (tree I W m s)
  hypothesis_low = subst (Below (length g.S.vars)) g.hypothesis g.low

  pub names_long : length g.names.vars ≡ count
  names_long = ap length g.vars_are ∙ with_length g.S.vars sorts count g.more (omega (arith, g.sorts_long, g.few))

  -- Without a case -------------------------------------------------------------------------------------------------------------------------

  abbrev pub turn_lacking : {need : ℕ} →
      ((T : Theory) (words vs ps : List ℕ) (k w : ℕ) → RulesHeld words rules vs ps k w T.rules → r < k → need ≡ length (rule T r).vars) →
      Lacking symbols rules rulevars patterns n I W m r need s sorts count
  turn_lacking v =
      record {
        T = g.S.theory;
        vs = g.S.vars;
        formed = turn_formed;
        rule_vars_lem = turn_rule_vars (v g.S.theory theory rulevars patterns n.rules g.ruled.words g.ruled.held l);
        theory = refl;
        known = l;
        good = g.refers.reads.good;
        there = g.hypothesis_there;
        below = hypothesis_low;
        more = g.more;
        few = g.few;
        long = g.sorts_long;
        others = g.others;
      }

  module _ (a : Span)
      (sp : (T : Theory) (words vs ps : List ℕ) (k w : ℕ) → RulesHeld words rules vs ps k w T.rules → r < k → Spans words (rule T r).name a.from a.end) where
    pub spans : Spans theory R.name a.from a.end
    spans = sp g.S.theory theory rulevars patterns n.rules g.ruled.words g.ruled.held l

    pub turn_low : a.from ≤ a.end
    turn_low = spans_low spans

    pub turn_high : a.end ≤ length theory
    turn_high = spans_high spans

    module _ (q : Option (Bor (List ℕ))) (h : (w : CasesIn text cells) → CaseFound w.vs text cells w.cs (take (a.end - a.from) (drop a.from theory)) q) where
      pub looked : CaseFound g.S.vars text cells g.inversion.cases R.name.bytes q
      looked = subst (λ (b : List ℕ). CaseFound g.S.vars text cells g.inversion.cases b q) (spans_part spans) (h turn_cases)

      module _ (e : q ≡ nothing) where
        none_named : case_named g.inversion.cases R.name.bytes ≡ nothing
        none_named = subst (λ (z : Option (Bor (List ℕ))). CaseFound g.S.vars text cells g.inversion.cases R.name.bytes z) e looked

        lacking : On I W m (invert_rule g.S g.inversion R g.names (made I W m)) I W m
            (then (lacks (vars_with g.S.vars sorts count) (tree I W m s) R (made I W m)) (λ us E. ok (record { vars = us; seen = g.names.seen }) E))
        lacking =
            on_is (on_start g.refers.reads.good)
            (turn_lacks g.S g.inversion R g.names (made I W m) none_named
            ∙ (λ i. then (lacks (g.vars_are i) (g.hypothesis i) R (made I W m)) (λ us E. ok (record { vars = us; seen = g.names.seen }) E)))

        pub turn_lacked : (J X new-taken new-sorts : List ℕ) (k : ℕ) (new : Mark) (a : Answer) → new-taken ≡ taken →
            LackedBy I W J X m new g.S.vars (lacks (vars_with g.S.vars sorts count) (tree I W m s) R (made I W m)) new-sorts count k a →
            TurnedBy I W J X m new g.S g.inversion (invert_rule g.S g.inversion R g.names (made I W m)) new-taken new-sorts count k a
        turn_lacked J X new-taken new-sorts k new (Ok _) e d =
            record {
              names = record { vars = vars_with g.S.vars new-sorts k; seen = g.names.seen };
              went = on_done (on_ok _ lacking d.went);
              taken_is = ap holds e ∙ g.taken_is;
              vars_are = refl;
              more = d.more;
              few = d.few;
              sorts_long = d.long;
              others = d.others;
            }
        turn_lacked J X new-taken new-sorts k new (Err q) e t = on_no _ lacking t

      -- With a case ------------------------------------------------------------------------------------------------------------------------

      module _ {part : Bor (List ℕ)} (e : q ≡ some part) where
        pub here : CaseHere g.S.vars text cells g.inversion.cases R.name.bytes part.now
        here = subst (λ (z : Option (Bor (List ℕ))). CaseFound g.S.vars text cells g.inversion.cases R.name.bytes z) e looked

        abbrev pub c : Case
        c = here.c

        module _ {need : ℕ}
            (v : (T : Theory) (words vs ps : List ℕ) (k w : ℕ) → RulesHeld words rules vs ps k w T.rules → r < k → need ≡ length (rule T r).vars) where
          pub need_is : need ≡ length R.vars
          need_is = v g.S.theory theory rulevars patterns n.rules g.ruled.words g.ruled.held l

          pub turn_few : need ≤ RULEVARS
          turn_few = omega (arith, need_is, formed.few)

          -- what `case_vars` asks
          abbrev pub turn_case : CaseVarsGiven goals text vars rulevars n.vars part.now r need
          turn_case =
              record {
                S = g.S;
                c = here.c;
                x = here.x;
                ys = here.ys;
                vars_are = g.refers.reads.spelling.vars;
                rule_vars_lem = turn_rule_vars need_is;
                theory = refl;
                few = turn_few;
                holds = subst (λ (w : List ℕ). Holds text w (cons here.x here.ys)) (sym here.from) (walk_rest here.walk);
                case = here.case;
              }

          news : all (λ v. not (holds taken v)) c.vars ≡ all (λ v. not (taken_vars g.S g.inversion v) && not (has g.names.seen v)) c.vars
          news = new_is (holds taken) (taken_vars g.S g.inversion) (has g.names.seen) c.vars g.taken_is

          pub turn_missing : {q : Question} → ((h : CaseVarsGiven goals text vars rulevars n.vars part.now r need) →
              (q ≡ CaseVariables) × (suit h.S.vars h.c.vars (rule h.S.theory r).vars && all (λ v. not (holds taken v)) h.c.vars ≡ false)) →
              Stopped I W I W m (invert_rule g.S g.inversion R g.names (made I W m)) (number_of q) (detail_of q) m
          turn_missing {q} u =
              subst (λ (z : Question). Stopped I W I W m (invert_rule g.S g.inversion R g.names (made I W m)) (number_of z) (detail_of z) m) (sym (u turn_case).0)
              (pure_stopped g.refers.reads.good
              (decide (suit g.S.vars c.vars R.vars) refl (all (λ v. not (holds taken v)) c.vars) refl (u turn_case).1))
            where
              decide : (a : Bool) → suit g.S.vars c.vars R.vars ≡ a → (b : Bool) → all (λ v. not (holds taken v)) c.vars ≡ b →
                  suit g.S.vars c.vars R.vars && all (λ v. not (holds taken v)) c.vars ≡ false →
                  invert_rule g.S g.inversion R g.names (made I W m) ≡ refuse 42 0 (made I W m)
              decide false y b x k = turn_unsuited g.S g.inversion R g.names (made I W m) c here.is y
              decide true y b x k =
                  turn_taken g.S g.inversion R g.names (made I W m) c here.is y
                  (sym news ∙ sym (and_true (suit g.S.vars c.vars R.vars) (all (λ v. not (holds taken v)) c.vars) y) ∙ k)

          module _ {new-taken list : List ℕ} {fact : ℕ}
              (u : (h : CaseVarsGiven goals text vars rulevars n.vars part.now r need) → CaseVarsAre h.S (rule h.S.theory r).vars h.c taken new-taken list fact) where
            abbrev pub are : CaseVarsAre g.S R.vars c taken new-taken list fact
            are = u turn_case

            pub list_is : take need list ≡ c.vars
            list_is = ap (λ (k : ℕ). take k list) need_is ∙ are.numbers

            -- the list has the rule's variables in front
            pub list_long : need ≡ length (take need list)
            list_long = need_is ∙ sym are.many ∙ sym (ap length list_is)

            pub list_low : There count (take need list)
            list_low k t =
                let low = (vars_listed g.S.vars (item here.case.inner 2) c.vars here.case.vars).below in
                subst (λ (xs : List ℕ). get_or xs k 0 < count) (sym list_is)
                (omega (arith, all_at c.vars k 0 low (subst (λ (xs : List ℕ). k < length xs) list_is t), g.more))

            -- what `with_case` asks
            abbrev pub turn_having : {ids : List ℕ} → ids ≡ replicate IDS 0 → Having symbols rules patterns facts lists n I W m r s j (take need list) context count ids
            turn_having zero =
                record {
                  recalls = refers_recalls g.refers;
                  meeting =
                      record {
                        T = g.S.theory;
                        formed = turn_formed;
                        known = l;
                        good = g.refers.reads.good;
                        there = g.hypothesis_there;
                        below = below_up (length g.S.vars) count g.more (tree I W m s) hypothesis_low;
                        few = g.few;
                        many = ap length list_is ∙ are.many;
                        names = list_low;
                      };
                  theory = refl;
                  there = g.judgment_there;
                  known = g.context_there;
                  zero = zero;
                }

            having : On I W m (invert_rule g.S g.inversion R g.names (made I W m)) I W m
                (then (has_case g.S (take need list) count (tree I W m s) R context fact (tree I W m j) (made I W m))
                (λ z E. ok (record { vars = g.names.vars; seen = g.names.seen ++ c.vars }) E))
            having =
                on_is (on_start g.refers.reads.good)
                (turn_has g.S g.inversion R g.names (made I W m) c here.is are.suits (sym news ∙ are.new)
                ∙ (λ i. then (has_case g.S (sym list_is i) (names_long i) (g.hypothesis i) R (g.context_is i) (sym are.fact_is i) (g.judgment i) (made I W m))
                (λ z E. ok (record { vars = g.names.vars; seen = g.names.seen ++ c.vars }) E)))

            pub turn_judged : (J X : List ℕ) (new : Mark) (b : Answer) →
                PassedBy I W J X m new (has_case g.S (take need list) count (tree I W m s) R context fact (tree I W m j) (made I W m)) b →
                TurnedBy I W J X m new g.S g.inversion (invert_rule g.S g.inversion R g.names (made I W m)) new-taken sorts count count b
            turn_judged J X new (Ok _) k =
                record {
                  names = record { vars = g.names.vars; seen = g.names.seen ++ c.vars };
                  went = on_done (on_ok _ having k);
                  taken_is = taken_more (holds taken) (holds new-taken) (taken_vars g.S g.inversion) g.names.seen c.vars g.taken_is are.takes;
                  vars_are = g.vars_are;
                  more = omega arith;
                  few = g.few;
                  sorts_long = g.sorts_long;
                  others = g.others;
                }
            turn_judged J X new (Err q) k = on_no _ having k
