-- The variables of the case of a rule: read again from their place, suited to the rule, new, and joined to those that are taken. Assumes nothing.
use mathlib.Core.Path.{◌≡◌, refl, sym, ap, ◌∙◌, subst}
use mathlib.Core.Bool.{Bool, true, false, ◌&&◌, not, false≢true}
use mathlib.Core.List.{List, [], ◌∷◌, ◌++◌}
use Prim.Native.Nat.{ℕ, ◌-◌, ◌*◌, ◌<◌, ◌≤◌}
use native.Mathlib.Omega.{arith}
use native.Mathlib.Decide.{ℕ_discrete}
use lib.ListN.{length, get_or, take, drop, replicate, length-append, length-replicate}
use lib.Seq.{length-take-le}
use borrow.Author.Tests.{not-true, not-false}
use Rattle.rules.specs.Limits.{VARIABLES, RULEVARS, VARIABLEWORDS}
use Rattle.rules.specs.Out.{Out, ok, refuse}
use Rattle.rules.specs.Find.{all, has, union}
use Rattle.rules.specs.Sexp.{item}
use Rattle.rules.specs.Store.{Made}
use Rattle.rules.specs.Theory.{Theory, RuleVar, rule}
use Rattle.rules.specs.State.{Var}
use Rattle.rules.specs.TheoryTables.{filled}
use Rattle.rules.specs.Invert.{Case, read_case, suit}
use Rattle.rules.specs.Laws.Theory.{all_at}
use Rattle.sexp.specs.Never.{never}
use Rattle.terms.specs.Sets.{holds}
use Rattle.state.specs.Held.{VarCells}
use Rattle.rules.specs.Laws.Row.{filled_fits}
use Rattle.state.specs.Filled.{filled_front}
use Rattle.reading.specs.Given.{VarsItem}
use Rattle.reading.specs.Laws.Lists.{Listing, vars_listed, listing_few}
use Rattle.casework.specs.declared.cases.CaseRead.{CaseRead}
use Rattle.casework.specs.Cases.{CaseIs}
use Rattle.terms.specs.Table.{Below}
use Rattle.inversion.specs.InvertRules.{RuleVarsGiven, CaseVarsGiven, CaseVarsAre}
use Rattle.casework.specs.Laws.CaseItems.{item_reads}
use Rattle.casework.specs.Laws.Loops.{suit_none}
use Rattle.casework.specs.Laws.Rows.{and_false, and_true}

one_answer : (a b : Case) (M : Made) → ◌≡◌ {A = Out Made Case} (ok a M) (ok b M) → a ≡ b
one_answer a b M e = cc

no_answer : {A : Type 0} (a : Case) (q d : ℕ) (M : Made) → ◌≡◌ {A = Out Made Case} (ok a M) (refuse q d M) → A
no_answer a q d M e = never cc

suit_length : (vs : List Var) (xs : List ℕ) (rs : List RuleVar) → suit vs xs rs ≡ true → length xs ≡ length rs
suit_length vs xs rs e = elim (ℕ_discrete (length xs) (length rs)) [
  | yes p ↦ p
  | no p ↦ absurd (false≢true (suit_none vs xs rs refl p ∙ e))
]

take_front : (xs ys : List ℕ) (n : ℕ) → n ≡ length xs → take n (xs ++ ys) ≡ xs
take_front [] ys n e = ap (λ (k : ℕ). take k ys) e
take_front (x ∷ xs) ys n e = ap (λ (k : ℕ). take k (x ∷ (xs ++ ys))) e ∙ ap (λ (zs : List ℕ). x ∷ zs) (take_front xs ys (length xs) refl)

module _ {goals text vars rulevars : List ℕ} {count : ℕ} {cells : List ℕ} {r need : ℕ} (g : CaseVarsGiven goals text vars rulevars count cells r need) where
  -- what `read_case` asks
  abbrev pub case_given : VarsItem goals text vars count cells
  case_given = record { S = g.S; x = g.x; ys = g.ys; vars_are = g.vars_are; holds = g.holds }

  -- it is read
  pub case_never : {A : Type 0} {q d : ℕ} → ((w : VarsItem goals text vars count cells) → (M : Made) → read_case w.S w.x M ≡ refuse q d M) → A
  case_never {q = q} {d} f = no_answer g.c q d [] (sym (item_reads g.S g.x g.c g.case []) ∙ f case_given [])

  module _ {one : CaseRead}
      (f : (w : VarsItem goals text vars count cells) → CaseIs w.S text w.x one.own one.name one.fact one.variables) where
    abbrev out : List ℕ
    out = one.own

    read : CaseIs g.S text g.x one.own one.name one.fact one.variables
    read = f case_given

    same_case : read.c ≡ g.c
    same_case = one_answer read.c g.c [] (sym (read.read []) ∙ item_reads g.S g.x g.c g.case [])

    fact_is : one.fact ≡ g.c.fact
    fact_is = read.number ∙ ap (λ (c : Case). c.fact) same_case

    pub case_many : one.variables ≡ length g.c.vars
    case_many = read.count ∙ ap (λ (c : Case). length c.vars) same_case

    listed : Listing (length g.S.vars) g.c.vars
    listed = vars_listed g.S.vars (item g.case.inner 2) g.c.vars g.case.vars

    few_vars : length g.S.vars ≤ VARIABLES
    few_vars = omega (arith, g.vars_are.stand.many, g.vars_are.stand.few)

    out_is : out ≡ filled VARIABLES g.c.vars
    out_is = read.cells_are ∙ ap (λ (c : Case). filled VARIABLES c.vars) same_case

    fits : length g.c.vars ≤ VARIABLES
    fits = omega (arith, listing_few listed, few_vars)

    pub case_fits : one.variables ≤ VARIABLES
    case_fits = omega (arith, case_many, fits)

    out_long : length out ≡ VARIABLES
    out_long =
        let z = fits in
        ap length (out_is ∙ filled_fits VARIABLES g.c.vars fits)
        ∙ omega (arith, length-append g.c.vars (replicate (VARIABLES - length g.c.vars) 0), length-replicate {A = ℕ} (VARIABLES - length g.c.vars) 0)

    case_room : one.variables ≤ length out
    case_room = omega (arith, case_fits, out_long)

    pub case_long : one.variables ≡ length (take one.variables out)
    case_long = sym (length-take-le one.variables out case_room)

    own_is : take one.variables out ≡ g.c.vars
    own_is = ap (λ (k : ℕ). take k out) case_many ∙ ap (take (length g.c.vars)) out_is ∙ filled_front VARIABLES g.c.vars fits

    pub case_there : Below VARIABLES (take one.variables out)
    case_there k l =
        let z = few_vars in
        subst (λ (xs : List ℕ). get_or xs k 0 < VARIABLES) (sym own_is)
        (omega (arith, all_at g.c.vars k 0 listed.below (subst (λ (xs : List ℕ). k < length xs) own_is l), z))

    pub case_words : (taken : List ℕ) → length taken ≡ VARIABLEWORDS → Below (64 * length taken) (take one.variables out)
    case_words taken t k l = omega (arith, case_there k l, t)

    -- what `suits` asks
    pub case_suits : RuleVarsGiven rulevars r need × ((vs : List Var) × (count : ℕ) × VarCells vars count vs) × Below VARIABLES (take one.variables out)
    case_suits = (g.rule_vars_lem, (g.S.vars, count, g.vars_are.stand), case_there)

    abbrev rs : List RuleVar
    rs = (rule g.S.theory r).vars

    module _ {b : Bool}
        (s : (h : RuleVarsGiven rulevars r need) (vs : List Var) (count : ℕ) → VarCells vars count vs → b ≡ suit vs (take one.variables out) (rule h.T r).vars) where
      suits_is : b ≡ suit g.S.vars g.c.vars rs
      suits_is = s g.rule_vars_lem g.S.vars count g.vars_are.stand ∙ (λ i. suit g.S.vars (own_is i) (rule (g.theory i) r).vars)

      pub case_unsuited : (taken : List ℕ) → not b ≡ true → suit g.S.vars g.c.vars rs && all (λ v. not (holds taken v)) g.c.vars ≡ false
      case_unsuited taken q = and_false (suit g.S.vars g.c.vars rs) (all (λ v. not (holds taken v)) g.c.vars) (sym suits_is ∙ not-true b q)

      module _ (q : not b ≡ false) where
        suited : suit g.S.vars g.c.vars rs ≡ true
        suited = sym suits_is ∙ not-false b q

        as_many : length g.c.vars ≡ length rs
        as_many = suit_length g.S.vars g.c.vars rs suited

        needed : need ≡ length rs
        needed = g.rule_vars_lem.many ∙ ap (λ (T : Theory). length (rule T r).vars) g.theory

        pub case_short : length (take one.variables out) ≤ RULEVARS
        case_short = omega (arith, g.few, needed, as_many, ap length own_is)

        module _ (taken : List ℕ) {d : Bool} (n : d ≡ all (λ v. not (holds taken v)) (take one.variables out)) where
          news : d ≡ all (λ v. not (holds taken v)) g.c.vars
          news = n ∙ ap (all (λ v. not (holds taken v))) own_is

          pub case_taken : not d ≡ true → suit g.S.vars g.c.vars rs && all (λ v. not (holds taken v)) g.c.vars ≡ false
          case_taken z =
              and_true (suit g.S.vars g.c.vars rs) (all (λ v. not (holds taken v)) g.c.vars) suited ∙ sym news ∙ not-true d z

          pub case_new : {taken' : List ℕ} (list : List ℕ) {list' : List ℕ} → not d ≡ false → holds taken' ≡ union (holds taken) (has (take one.variables out)) →
              list' ≡ take one.variables out ++ drop (length (take one.variables out)) list → CaseVarsAre g.S rs g.c taken taken' list' one.fact
          case_new list z u w =
              record {
                suits = suited;
                new = sym news ∙ not-false d z;
                fact_is = fact_is;
                many = as_many;
                numbers = ap (take (length rs)) w ∙ take_front (take one.variables out) (drop (length (take one.variables out)) list) (length rs) (sym as_many ∙ sym (ap length own_is)) ∙ own_is;
                takes = u ∙ ap (λ (xs : List ℕ). union (holds taken) (has xs)) own_is;
              }
