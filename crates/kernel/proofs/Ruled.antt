-- The answers of `add_rule`, question by question. Assumes nothing.
use mathlib.Core.Path.{◌≡◌, refl, sym, ap, ◌∙◌, subst}
use Prim.Native.Nat.{ℕ, ◌+◌, ◌-◌, ◌*◌, ◌<◌, ◌≤◌}
use Rattle.std.specs.Prelude.{None as nothing, Some as some, Option}
use mathlib.Core.List.{List, [], ◌∷◌, ◌++◌}
use native.Mathlib.Omega.{arith}
use lib.ListN.{length, take, drop, replicate, length-append}
use lib.Seq.{length-take-le}
use Rattle.rules.specs.Limits.{LENGTH, RULES, RULEVARS, PATTERNS}
use Rattle.rules.specs.Text.{same}
use Rattle.rules.specs.Find.{first}
use Rattle.rules.specs.Out.{refuse}
use Rattle.rules.specs.Sexp.{Sexps, item, Name}
use Rattle.rules.specs.Tree.{count_trees}
use Rattle.rules.specs.Theory.{Theory, Symbol, Rule, rule_named}
use Rattle.rules.specs.Laws.Theory.{empty}
use Rattle.rules.specs.TheoryTables.{rows, prefix, prefixes, pattern_row, rule_var_row}
use Rattle.rules.specs.Declare.{schema, add_rule}
use Rattle.sexp.specs.NameRows.{NameRows}
use Rattle.kernel.specs.Held.{Form, SomeSymbolsHeld}
use Rattle.kernel.specs.Reading.{VarsHeld, ReadSoFar, Written, Stopped}
use Rattle.kernel.specs.HeldRules.{schema_cells, Beginning, RulesHeld, SomeRules, RuleFits, RuleIs, RuleStored, RuleRefused}
use Rattle.questions.specs.declared.Row.{Row}
use Rattle.questions.specs.declared.Row.TheVariants.{Rules}
use Rattle.questions.specs.declared.Question.TheVariants.{Room}
use Rattle.questions.specs.declared.Question.{Question}
use Rattle.questions.specs.Numbers.{number_of, detail_of}
use Rattle.kernel.proofs.Spellings.{Proper, Nameless}
use Rattle.sexp.specs.FoundLaws.{found_at, found_missing, names_of, first_name}
use Rattle.kernel.proofs.Vars.{vars_few, vars_filled}
use Rattle.kernel.proofs.Schemas.{written_kept}
use Rattle.kernel.proofs.Ruling.{begun, rule_of, rule_stopped, rule_unnamed, rule_twice, rule_full, rule_new}
use Rattle.kernel.specs.RuleRows.{rule_name, rules_rows}
use Rattle.kernel.proofs.RuleStore.{rules_kept, count_few}

-- some theory with these symbols and rules
abbrev pub ruled : List Symbol → List Rule → Theory
ruled ss rs = record { sorts = []; symbols = ss; rules = rs }

-- an empty row holds no variable
no_vars : (text : List ℕ) → VarsHeld text (replicate (3 * RULEVARS) 0) 0 []
unfolding rows
no_vars text =
    record { many = refl; long = refl; front = record { rest = replicate (3 * RULEVARS) 0; is = refl }; blank = refl; names = empty }

module _ {text rules vars P : List ℕ} {count used : ℕ} where
  pub reads_none : (T : Theory) (row : List ℕ) → row ≡ replicate (3 * RULEVARS) 0 → RulesHeld text rules vars P count used T.rules → ReadSoFar text row 0 used (begun T)
  reads_none T row e h = record { held = subst (λ z. VarsHeld text z 0 []) (sym e) (no_vars text); words = h.used; room = h.few }

  pub beginning : {form symbols inputs : List ℕ} {known : ℕ} (row : List ℕ) → row ≡ replicate (3 * RULEVARS) 0 → Form text form 4 → (s : SomeSymbolsHeld text symbols inputs known) →
      (r : SomeRules text rules vars P count used) → Beginning text form symbols inputs known row 0 (length P) used
  beginning row e f s r =
      record { form = f; held = s; so_far = begun (ruled s.0 r.0); reads = reads_none (ruled s.0 r.0) row e r.1; long = r.1.room }

-- where the judgments are refused
pub rule_stops : {text rules vars P M : List ℕ} {count used a d : ℕ} (T : Theory) (xs : Sexps) → RulesHeld text rules vars P count used T.rules →
    Stopped P M used (schema T xs (begun T)) a d → RuleRefused text rules vars M T (add_rule xs T) count used a d
rule_stops {M = M} {a = a} {d = d} T xs h w = record { is = rule_stopped T xs a d w.now w.is; held = rules_kept h M w.words w.long }

module _ {text rules vars P table M : List ℕ} {count used variables last : ℕ} (T : Theory) (xs : Sexps) (h : RulesHeld text rules vars P count used T.rules)
    (w : Written schema_cells text table P M used (schema T xs (begun T)) variables last) where
  kept : take used M ≡ take used P
  kept = written_kept w (omega (arith, h.few, h.room)) h.room

  pub held_still : RulesHeld text rules vars M count used T.rules
  held_still = rules_kept h M kept w.long

  pub rule_no_name : {q : Question} → Nameless (item xs 1) q → RuleRefused text rules vars M T (add_rule xs T) count used (number_of q) (detail_of q)
  rule_no_name f = rw f.error (record { is = rule_unnamed T xs w.tree w.now w.is f.is; held = held_still })

  module _ {s e : ℕ} (p : Proper text (item xs 1) s e) where
    abbrev pub rule_now : Rule
    rule_now = rule_of p.name w.now w.tree

    module _ {q : Option ℕ}
        (a : (ns : List Name) → NameRows text rules 6 0 count ns → q ≡ (first (λ n. same n.bytes (take (e - s) (drop s text))) ns 0)) where
      found_so : rule_named T p.name.bytes ≡ first (λ n. same n.bytes (take (e - s) (drop s text))) (names_of rule_name T.rules) 0
      unfolding rule_named
      found_so =
          ap (λ l. first (λ (r : Rule). same r.name.bytes l) T.rules 0) (sym p.part) ∙ first_name rule_name T.rules (take (e - s) (drop s text)) 0

      pub rule_again : {i : ℕ} → q ≡ some i → RuleRefused text rules vars M T (add_rule xs T) count used 11 0
      rule_again {i} c =
          record {
            is = rule_twice T xs w.tree w.now w.is p.name p.is i
                (found_so ∙ found_at (first (λ (n : Name). same n.bytes (take (e - s) (drop s text))) (names_of rule_name T.rules) 0) q i (a (names_of rule_name T.rules) (rules_rows h)) c);
            held = held_still;
          }

      module _ (c : q ≡ nothing) where
        fresh : rule_named T p.name.bytes ≡ nothing
        fresh = found_so ∙ found_missing (first (λ (n : Name). same n.bytes (take (e - s) (drop s text))) (names_of rule_name T.rules) 0) q (a (names_of rule_name T.rules) (rules_rows h)) c

        pub rule_put : {rules' vars' : List ℕ} → (count < RULES) × RulesHeld text rules' vars' M (count + 1) last (T.rules ++ (rule_now ∷ [])) →
            RuleStored text rules' vars' M T (add_rule xs T) (count + 1) last
        rule_put k = record { rule = rule_now; is = rule_new T xs w.tree w.now w.is p.name p.is fresh (omega (arith, k.0, h.many)); held = k.1 }

        pub rule_unput : {rules' vars' : List ℕ} {e : Row} → (RULES ≤ count) × (e ≡ Rules) × (rules' ≡ rules) × (vars' ≡ vars) →
            RuleRefused text rules' vars' M T (add_rule xs T) count used (number_of (Room e)) (detail_of (Room e))
        rule_unput {vars' = vars'} k =
            record {
              is = rule_full T xs w.tree w.now w.is p.name p.is fresh (omega (arith, k.0, h.many)) ∙ (λ i. refuse 60 (detail_of (Room (sym k.1 i))) T);
              held = subst (λ z. RulesHeld text z vars' M count used T.rules) (sym k.2)
                  (subst (λ z. RulesHeld text rules z M count used T.rules) (sym k.3) held_still);
            }

    module _ {premises : ℕ} (counted : count_trees w.tree.0 ≡ premises) where
      pub rule_is : RuleIs text M rule_now s e variables premises used last table
      unfolding rule_var_row pattern_row
      rule_is =
          record {
            named = p.stands;
            starts = p.start;
            ends = p.end;
            many = w.reads.held.many;
            few = vars_few w.reads.held;
            vars_named = w.reads.held.names;
            judgments = counted;
            cells = vars_filled w.reads.held;
            words = w.words ∙ ap (λ z. z ++ schema_cells w.tree) (sym kept);
            room = w.reads.room;
          }

      pub rule_fits : length text ≤ LENGTH → RuleFits (length rules) (length vars) s e variables premises used last (length table)
      rule_fits t =
          let ps = prefixes w.tree.0 in
          let c = prefix w.tree.1 in
          let m : count_trees w.tree.0 ≤ PATTERNS =
          omega (arith, count_few w.tree.0, length-append ps c, length-append (take used P) (ps ++ c), ap length w.words, length-take-le last M (omega (arith, w.reads.room, w.long, h.room)), w.reads.room) in
          record {
            long = h.long;
            longs = h.longs;
            starts = omega (arith, p.end, p.high, t);
            ends = omega (arith, p.high, t);
            many = omega (arith, vars_few w.reads.held);
            judgments = omega (arith, m, counted);
            low = omega (arith, h.few);
            high = omega (arith, w.reads.room);
            rows = w.reads.held.long;
          }
