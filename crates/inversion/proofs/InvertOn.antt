-- The form `invert` behind its judgment: its cases are read, and the rules are gone through. Assumes nothing.
use mathlib.Core.Path.{◌≡◌, refl, sym, ap, ◌∙◌}
use mathlib.Core.List.{List, []}
use Prim.Native.Nat.{ℕ, ◌<◌}
use native.Mathlib.Omega.{arith}
use lib.ListN.{length, replicate, length-replicate}
use Rattle.rules.specs.Limits.{VARIABLES}
use Rattle.rules.specs.Out.{Out, ok, refuse, then}
use Rattle.rules.specs.Sexp.{Sexp, Sexps, count, item, items}
use Rattle.rules.specs.Find.{Set, has, union}
use Rattle.rules.specs.Store.{Made}
use Rattle.rules.specs.Theory.{rules_of}
use Rattle.rules.specs.State.{State, Var}
use Rattle.rules.specs.Invert.{Inversion, Names, read_cases, taken_vars, predicate_of, invert_rules}
use Rattle.sexp.specs.Items.{Holds}
use Rattle.sexp.specs.Each.{ListOf}
use Rattle.sexp.specs.WalkLaws.{AtomIs}
use Rattle.terms.specs.declared.store.Mark.{Mark}
use Rattle.terms.specs.Table.{made, tree}
use Rattle.terms.specs.Sets.{holds}
use Rattle.terms.specs.On.{Stopped, On, on_start, on_is, on_ok, on_no, on_pure, on_stop, on_done}
use Rattle.std.proofs.Math.Bool.{or-false}
use Rattle.terms.specs.Laws.Zeros.{get_d_zeros}
use Rattle.state.specs.declared.sizes.Sizes.{Sizes}
use Rattle.state.specs.Held.{names, rule_lists}
use Rattle.reading.specs.Given.{VarsItems}
use Rattle.referring.specs.Recall.{Recalls}
use Rattle.referring.specs.Laws.Refers.{refers_recalls}
use Rattle.casework.specs.Cases.{CasesAre}
use Rattle.std.specs.Prelude.{Result, Ok, Err}
use Rattle.questions.specs.declared.Question.{Question}
use Rattle.inversion.specs.declared.inverting.Variables.{Variables}
use Rattle.inversion.specs.InvertRules.{Unmade, Turning, Turned, TurnedBy}
use Rattle.inversion.specs.Inversions.{InvertingOn, invert_on, InvertedOn, InvertedOnBy}
use Rattle.inversion.proofs.InvertNames.{with_none}

pub none_seen : (a : Set) → a ≡ union a (has [])
unfolding has
none_seen a = λ i v. sym (or-false (a v)) i

pub none_made : (base count n : ℕ) → Unmade base count (replicate n 0)
none_made base count n = record { before = λ v l. get_d_zeros n v; behind = λ v l. get_d_zeros n v }

module _ {theory goals text symbols ins vars defs rules rulevars patterns facts lists : List ℕ} {n : Sizes} {I W : List ℕ} {m : Mark} {cells : List ℕ} {s j : ℕ} {context : List ℕ}
    (g : InvertingOn (names theory goals text symbols ins vars defs) (rule_lists theory rules rulevars patterns) facts lists n I W m cells s j context) where
  abbrev pub S : State
  S = g.form.S

  abbrev pub whole : Out Made (List Var)
  whole = invert_on S g.form.xs (tree I W m s) (tree I W m j) context (made I W m)

  pub on_atom : ((t : List ℕ) (ys : Sexps) → Holds t cells ys → 5 < count ys → (p : ℕ) × AtomIs t (item ys 5) p) → Stopped I W I W m whole 41 0 m
  unfolding items
  on_atom f =
      let x = f text g.form.xs g.form.holds_items (omega (arith, g.form.many)) in
      on_stop _ (on_start g.form.refers.reads.good) (ap (λ (z : Sexp). items 41 z (made I W m)) x.1.is)

  module _ {inner : List ℕ} (l : (t : List ℕ) (ys : Sexps) → Holds t cells ys → 5 < count ys → ListOf t cells (item ys 5) inner) where
    abbrev pub on_list : ListOf text cells (item g.form.xs 5) inner
    on_list = l text g.form.xs g.form.holds_items (omega (arith, g.form.many))

    -- what `read_cases` asks
    abbrev pub on_cases : VarsItems goals text vars n.vars inner
    on_cases = record { S = S; xs = on_list.items; vars_are = g.form.refers.reads.spelling.vars; holds = on_list.holds }

    opened : On I W m whole I W m
        (then (read_cases S on_list.items [] (made I W m))
        (λ cs B. then (invert_rules S (record { hypothesis = tree I W m s; judgment = tree I W m j; context = context; cases = cs })
        (rules_of S.theory (predicate_of (tree I W m s))) (record { vars = S.vars; seen = [] }) B) (λ N E. ok N.vars E)))
    unfolding items
    opened = on_pure _ (on_start g.form.refers.reads.good) (ap (λ (z : Sexp). items 41 z (made I W m)) on_list.is)

    pub on_refused : {q d : ℕ} → ((w : VarsItems goals text vars n.vars inner) → (M : Made) → read_cases w.S w.xs [] M ≡ refuse q d M) → Stopped I W I W m whole q d m
    on_refused c = on_stop _ opened (c on_cases (made I W m))

    module _ (c : (w : VarsItems goals text vars n.vars inner) → CasesAre w.S w.xs) where
      abbrev pub read : CasesAre S on_list.items
      read = c on_cases

      abbrev pub Y : Inversion
      Y = record { hypothesis = tree I W m s; judgment = tree I W m j; context = context; cases = read.cs }

      abbrev pub N₀ : Names
      N₀ = record { vars = S.vars; seen = [] }

      -- what the rules come to
      abbrev pub turns : Out Made Names
      turns = invert_rules S Y (rules_of S.theory (predicate_of (tree I W m s))) N₀ (made I W m)

      begun : On I W m whole I W m (then turns (λ N E. ok N.vars E))
      begun = on_pure _ opened (read.read (made I W m))

      -- what `all_rules` asks
      abbrev pub on_turning : {taken : List ℕ} →
          ((h : Recalls facts lists n I W m) (Z : Inversion) → Z.hypothesis ≡ tree I W m s → Z.judgment ≡ tree I W m j → Z.context ≡ context →
          holds taken ≡ taken_vars h.S Z) →
          Turning (names theory goals text symbols ins vars defs) (rule_lists theory rules rulevars patterns) facts lists n I W m inner s j context taken (replicate VARIABLES 0) n.vars
      on_turning t =
          record {
            S = S;
            footings = g.footings;
            xs = on_list.items;
            inversion = Y;
            names = N₀;
            refers = g.form.refers;
            ruled = g.form.ruled;
            holds_items = on_list.holds;
            cases_are = read.many;
            cases = read.cases;
            hypothesis = refl;
            hypothesis_there = g.hypothesis;
            judgment = refl;
            judgment_there = g.judgment;
            context_is = refl;
            context_there = g.known;
            taken_is = t (refers_recalls g.form.refers) Y refl refl refl ∙ none_seen (taken_vars S Y);
            vars_are = sym (with_none S.vars (replicate VARIABLES 0) n.vars (sym g.form.refers.reads.spelling.vars.stand.many));
            more = omega (arith, g.form.refers.reads.spelling.vars.stand.many);
            few = g.form.refers.reads.spelling.vars.stand.few;
            sorts_long = length-replicate {A = ℕ} VARIABLES 0;
            others = none_made (length S.vars) n.vars VARIABLES;
            low = g.below;
          }

      module _ {J X : List ℕ} {new : Mark} where
        on_stopped : {q d : ℕ} → Stopped I W J X m turns q d new → Stopped I W J X m whole q d new
        on_stopped z = on_no _ begun z

        on_read : {taken sorts : List ℕ} {k : ℕ} → Turned I W J X m S Y turns taken sorts n.vars k new → InvertedOn I W J X m S whole sorts k new
        on_read z =
            record {
              went = on_done (on_is (on_ok _ begun z.went) (ap (λ (us : List Var). ok us (made J X new)) z.vars_are));
              more = omega (arith, z.more, g.form.refers.reads.spelling.vars.stand.many);
              few = z.few;
              others = z.others;
            }

      -- what the rules come to, in v
      pub on_turned : (J X : List ℕ) (new : Mark) (v : Variables) (r : Result (Unit {0}) Question) →
          TurnedBy I W J X m new S Y turns v.taken v.sorts n.vars v.count r → InvertedOnBy I W J X m new S whole v r
      on_turned J X new v (Ok _) z = on_read z
      on_turned J X new v (Err q) z = on_stopped z
