-- The rule that a step names, and then the step by it. Assumes nothing.
use mathlib.Core.Path.{◌≡◌, sym, ap, ◌∙◌, subst}
use denote.Ref.{Bor}
use Rattle.std.specs.Prelude.{Some as some, None as nothing, Option, Result, Ok, Err}
use mathlib.Core.List.{List}
use Prim.Native.Nat.{ℕ, ◌<◌, ◌≤◌}
use native.Mathlib.Omega.{arith}
use lib.ListN.{length, drop}
use Rattle.rules.specs.Limits.{PATTERNS}
use Rattle.rules.specs.Out.{Out, then, found}
use Rattle.rules.specs.Sexp.{Sexp, Sexps, Name, item, rest, name}
use Rattle.rules.specs.Text.{same}
use Rattle.rules.specs.Store.{Made}
use Rattle.rules.specs.Theory.{Theory, Rule, no_rule, rule_named}
use Rattle.rules.specs.State.{Fact}
use Rattle.rules.specs.Step.{step}
use Rattle.rules.specs.Laws.Find.{first_some}
use Rattle.sexp.specs.Encode.{encodes}
use Rattle.sexp.specs.Items.{Holds, Held, place}
use Rattle.sexp.specs.Each.{HeadIs}
use Rattle.referring.specs.Laws.Behind.{from_holds, head_item}
use Rattle.kernel.specs.HeldRules.{RulesHeld}
use Rattle.terms.specs.declared.store.Mark.{Mark}
use Rattle.terms.specs.Table.{made}
use Rattle.terms.specs.On.{On, Stopped, on_start, on_is, on_pure, on_stop, on_went, on_stopped, on_found_some, on_found_none}
use Rattle.state.specs.declared.sizes.Sizes.{Sizes}
use Rattle.state.specs.Held.{Names, rule_lists}
use Rattle.questions.specs.declared.Question.{Question}
use Rattle.referring.specs.declared.support.Derived.{Derived}
use Rattle.referring.specs.Derived.{RuleForm, DerivedBy, with_instances}
use Rattle.derivation.specs.Stepping.{PremisesOf, by_rule}
use Rattle.derivation.proofs.StepIs.{step_is}
use Rattle.derivation.proofs.StepRule.{by_most}

-- a rule that is found is one of them; it stands here again, since this crate does not stand on `meaning`, whose `rule_known` it is
rule_inside : (T : Theory) (bs : List ℕ) (r : ℕ) → rule_named T bs ≡ some r → r < length T.rules
unfolding rule_named
rule_inside T bs r e = let f = first_some (λ (u : Rule). same u.name.bytes bs) T.rules 0 r no_rule e in omega (arith, f.is, f.inside)

module _ {K : Names} {rules rulevars patterns facts footings lists : List ℕ} {n : Sizes} {I W : List ℕ} {m : Mark} {cells : List ℕ}
    (g : RuleForm K (rule_lists K.theory rules rulevars patterns) facts footings lists n I W m cells 4) where
  abbrev whole : Out Made (Fact × ℕ)
  whole = step g.S g.xs (made I W m)

  abbrev third : ℕ → Made → Out Made (Fact × ℕ)
  third r s = by_rule g.S r g.xs s

  abbrev second : Name → Made → Out Made (Fact × ℕ)
  second u s = then (found 33 (rule_named g.S.theory u.bytes) s) third

  on_first : On I W m whole I W m (then (name 33 (item g.xs 2) (made I W m)) second)
  on_first = on_is (on_start g.refers.reads.good) (step_is g.S g.xs (made I W m))

  -- behind: the name, and what is behind it
  module _ {behind : List ℕ} (a : (ys : Sexps) → cells ≡ encodes ys → behind ≡ drop (place ys 2) cells) where
    name_there : Holds K.text behind (rest g.xs 2)
    name_there = from_holds g.holds 2 a

    pub name_held : Held K.text behind
    name_held = (rest g.xs 2, name_there)

    -- what `head` answers
    module _ (o : Option (Bor (List ℕ))) (b : (ys : Sexps) → Holds K.text behind ys → HeadIs (item ys 0) o) where
      told : HeadIs (item g.xs 2) o
      told = head_item g.holds 2 a o b

      pub step_list : o ≡ nothing → Stopped I W I W m whole 33 0 m
      unfolding name
      step_list e = on_stop second on_first (ap (λ (x : Sexp). name 33 x (made I W m)) (subst (HeadIs (item g.xs 2)) e told).1)

      module _ {bs : Bor (List ℕ)} (e : o ≡ some bs) where
        on_second : (p : ℕ) × On I W m whole I W m (second (record { start = p; bytes = bs.now }) (made I W m))
        unfolding name
        on_second =
            let y = subst (HeadIs (item g.xs 2)) e told in
            (y.0, on_pure second on_first (ap (λ (x : Sexp). name 33 x (made I W m)) y.1))

        module _ {r : Option ℕ} (h : (T : Theory) (vars patterns : List ℕ) (words : ℕ) → RulesHeld K.theory rules vars patterns n.rules words T.rules →
            r ≡ rule_named T bs.now) where
          answer : r ≡ rule_named g.S.theory bs.now
          answer = h g.S.theory rulevars patterns g.ruled.words g.ruled.held

          pub step_unnamed : r ≡ nothing → Stopped I W I W m whole 33 0 m
          step_unnamed q = on_found_none third 33 on_second.1 (sym answer ∙ q)

          module _ {i : ℕ} (q : r ≡ some i) where
            is_found : rule_named g.S.theory bs.now ≡ some i
            is_found = sym answer ∙ q

            pub step_known : i < n.rules
            step_known = omega (arith, rule_inside g.S.theory bs.now i is_found, g.ruled.held.many)

            pub step_most : {k : ℕ} → PremisesOf rules i k → k ≤ PATTERNS
            step_most p = by_most g step_known p

            on_third : On I W m whole I W m (by_rule g.S i g.xs (made I W m))
            on_third = on_found_some third 33 on_second.1 is_found

            pub step_answer : (J X : List ℕ) (new : Mark) (a : Result Derived Question) →
                DerivedBy (Fact × ℕ) I W J X m new g.S (by_rule g.S i g.xs (made I W m)) with_instances a → DerivedBy (Fact × ℕ) I W J X m new g.S whole with_instances a
            step_answer J X new (Ok d) t = record { went = on_went on_third t.went; there = t.there; earlier = t.earlier; known = t.known }
            step_answer J X new (Err q) t = on_stopped on_third t
