-- The loop over the cases of an induction, and the questions before it. Assumes nothing.
use mathlib.Core.Path.{◌≡◌, refl, sym, ap, ◌∙◌, subst}
use mathlib.Core.Bool.{Bool, true, false}
use Rattle.std.specs.Prelude.{Some as some, None as nothing, Option}
use mathlib.Core.List.{List, [], ◌∷◌}
use Prim.Native.Nat.{ℕ, ◌+◌, ◌<◌, ◌≤◌}
use native.Mathlib.Omega.{arith}
use lib.Dec.{eqb}
use lib.ListN.{length, drop, length-drop}
use borrow.Author.Tests.{eq-eqb, ne_eqb}
use Rattle.rules.specs.Limits.{SYMBOLS}
use Rattle.rules.specs.Out.{Out, refuse, then, ask}
use Rattle.rules.specs.Sexp.{Sexps, cons, count}
use Rattle.rules.specs.Find.{every}
use Rattle.rules.specs.Theory.{Theory, Symbol, no_symbol, constructors}
use Rattle.rules.specs.Store.{Made}
use Rattle.rules.specs.State.{State}
use Rattle.rules.specs.Induct.{Motive, motive_vars, induct_case, induct_cases}
use Rattle.rules.specs.Laws.Find.{first_some}
use Rattle.sexp.specs.Encode.{encodes}
use Rattle.sexp.specs.Items.{Holds}
use Rattle.sexp.specs.WalkLaws.{Walk, walk_start, walk_over}
use Rattle.sexp.specs.FoundLaws.{found_at, found_missing}
use Rattle.kernel.specs.Held.{SymbolsHeld}
use Rattle.kernel.specs.SignatureRows.{symbols_few}
use Rattle.kernel.specs.Listing.{next_constructor, with_rest, every_first}
use Rattle.terms.specs.declared.store.Mark.{Mark}
use Rattle.terms.specs.Table.{made, Grown}
use Rattle.terms.specs.Sets.{holds}
use Rattle.terms.specs.On.{Went, Stopped, On, on_start, on_is, on_ok, on_no, on_stop, on_went, on_stopped, on_done, on_ask_yes, on_ask_no}
use Rattle.terms.specs.Laws.Growth.{grown_there}
use Rattle.state.specs.declared.sizes.Sizes.{Sizes}
use Rattle.state.specs.Held.{Names}
use Rattle.referring.specs.Laws.Refers.{refers_on}
use Rattle.std.specs.Prelude.{Result, Ok, Err}
use Rattle.questions.specs.declared.Question.{Question}
use Rattle.sexp.specs.Each.{Here}
use Rattle.sexp.specs.declared.items.Each.{Each}
use Rattle.terms.specs.Laws.Below.{below_grown}
use Rattle.induction.specs.Inducing.{motive_in, Motived, Casing, case_terms, InCase, CaseItem, CaseRead, CaseItems, on_motive, MotiveItems}
use Rattle.reading.specs.Answers.{PassedBy}
use Rattle.induction.proofs.Supposes.{motive_on}
use Rattle.referring.specs.Laws.Sounds.{grown_grows}
use Rattle.reading.specs.Laws.Walks.{walk_next, Here as Item, here}

-- The constructors from a number on --------------------------------------------------------------------------------------------------------

unfoldable pub onward : Theory → ℕ → ℕ → List ℕ
onward T s from = every (λ c. eqb c.output s) (drop from T.symbols) from

onward_all : (T : Theory) (s : ℕ) → constructors T s ≡ onward T s 0
unfolding constructors onward
onward_all T s = refl

onward_none : (T : Theory) (s from : ℕ) → next_constructor T s from ≡ nothing → onward T s from ≡ []
unfolding onward next_constructor with_rest
onward_none T s from e = every_first (λ (c : Symbol). eqb c.output s) T.symbols no_symbol from ∙ ap (with_rest (λ (c : Symbol). eqb c.output s) T.symbols no_symbol) e

onward_some : (T : Theory) (s from c : ℕ) → next_constructor T s from ≡ some c → onward T s from ≡ c ∷ onward T s (c + 1)
unfolding onward next_constructor with_rest
onward_some T s from c e = every_first (λ (c : Symbol). eqb c.output s) T.symbols no_symbol from ∙ ap (with_rest (λ (c : Symbol). eqb c.output s) T.symbols no_symbol) e

next_inside : (T : Theory) (s from c : ℕ) → next_constructor T s from ≡ some c → c < length T.symbols
unfolding next_constructor
next_inside T s from c e =
    let f = first_some (λ (c : Symbol). eqb c.output s) (drop from T.symbols) from c no_symbol e in
    omega (arith, f.is, f.inside, length-drop from T.symbols)

-- what an answer says behind what went before
passed_on : {I W J X : List ℕ} {old now : Mark} {K L : Out Made (Unit {0})} (Y Z : List ℕ) (new : Mark) (r : Result (Unit {0}) Question) → On I W old K J X now L →
    PassedBy J X Y Z now new L r → PassedBy I W Y Z old new K r
passed_on Y Z new (Ok t) o w = on_went o w
passed_on Y Z new (Err q) o s = on_stopped o s

-- The loop --------------------------------------------------------------------------------------------------------------------------------

module _ {I W J X : List ℕ} {old now : Mark} {x j : ℕ} {premises : List ℕ} (w : Grown I W J X old now) (g : Motived I W old x j premises) where
  pub motived_on : Motived J X now x j premises
  motived_on =
      record { good = w.good; small = g.small; there = grown_there w j g.there; known = below_grown premises w.more g.known; few = g.few }

pub record CasesLeft (S : State) (xs : Sexps) (text I W : List ℕ) (old : Mark) (x sort j : ℕ) (premises cells J X : List ℕ) (now : Mark) (from at : ℕ) : Type 0 where
  pub zs : Sexps
  pub walk : Walk text cells at zs
  pub on : On I W old (induct_cases S (motive_in (made I W old) x sort j premises) xs (constructors S.theory sort) (made I W old)) J X now
      (induct_cases S (motive_in (made I W old) x sort j premises) zs (onward S.theory sort from) (made J X now))

abbrev pub CasesOf : (K : Names) (facts footings lists : List ℕ) (n : Sizes) (I W : List ℕ) (old : Mark) (x sort j : ℕ) (premises used cells J X : List ℕ) (now : Mark) (from at : ℕ) → Type 0
CasesOf K facts footings lists n I W old x sort j premises used cells J X now from at =
    (g : CaseItems K facts footings lists n I W old x sort j premises used cells) → CasesLeft g.S g.xs K.text I W old x sort j premises cells J X now from at

module _ {K : Names} {facts footings lists : List ℕ} {n : Sizes} {I W : List ℕ} {old : Mark} {x sort j : ℕ} {premises used cells : List ℕ} where
  pub cases_start : CasesOf K facts footings lists n I W old x sort j premises used cells I W old 0 0
  cases_start g =
      record {
        zs = g.xs;
        walk = walk_start g.items;
        on = on_is (on_start g.motived.good)
            (ap (λ (cs : List ℕ). induct_cases g.S (motive_in (made I W old) x sort j premises) g.xs cs (made I W old)) (onward_all g.S.theory sort));
      }

  module _ {J X : List ℕ} {now : Mark} {from at : ℕ} (g : CaseItems K facts footings lists n I W old x sort j premises used cells)
      (h : CasesLeft g.S g.xs K.text I W old x sort j premises cells J X now from at) where
    abbrev whole : Out Made (Unit {0})
    whole = induct_cases g.S (motive_in (made I W old) x sort j premises) g.xs (constructors g.S.theory sort) (made I W old)

    pub cases_done : length cells ≤ at → Went I W J X old whole tt now
    unfolding induct_cases
    cases_done l =
        on_done (on_is h.on
        (ap (λ (zs : Sexps). induct_cases g.S (motive_in (made I W old) x sort j premises) zs (onward g.S.theory sort from) (made J X now)) (walk_over h.walk l)))

    module _ {part : List ℕ} {next : Each} (w : Here cells part at next) where
      pub one : Item K.text cells at h.zs
      one = here h.walk w.inside

      module _ {r : Option ℕ} (a : (T : Theory) (text ins : List ℕ) → SymbolsHeld text K.symbols ins n.symbols T.symbols → r ≡ (next_constructor T sort from)) where
        told : r ≡ (next_constructor g.S.theory sort from)
        told = a g.S.theory K.theory K.inputs g.refers.reads.spelling.held

        pub cases_over : r ≡ nothing → Went I W J X old whole tt now
        unfolding induct_cases
        cases_over e =
            on_done (on_is h.on
            (λ i. induct_cases g.S (motive_in (made I W old) x sort j premises) (one.is i)
            (onward_none g.S.theory sort from (found_missing (next_constructor g.S.theory sort from) r told e) i) (made J X now)))

        module _ {c : ℕ} (e : r ≡ some c) where
          found : next_constructor g.S.theory sort from ≡ some c
          found = found_at (next_constructor g.S.theory sort from) r c told e

          pub cases_known : c < n.symbols
          cases_known = omega (arith, next_inside g.S.theory sort from c found, g.refers.reads.spelling.held.many)

          pub cases_small : c < SYMBOLS
          cases_small = omega (arith, cases_known, symbols_few g.refers.reads.spelling.held)

          abbrev pub cases_item : CaseItem K n used part
          cases_item =
              record {
                S = g.S;
                trees = made J X now;
                y = one.x;
                ys = one.ys;
                spelling = (refers_on g.refers (grown_grows h.on.grown) h.on.grown.good).reads.spelling;
                items = subst (λ (z : List ℕ). Holds K.text z (cons one.x one.ys)) (sym w.is) one.holds;
              }

          split : On I W old whole J X now
              (then (induct_case g.S (motive_in (made I W old) x sort j premises) one.x c (made J X now))
              (λ z U. induct_cases g.S (motive_in (made I W old) x sort j premises) one.ys (onward g.S.theory sort (c + 1)) U))
          unfolding induct_cases
          split =
              on_is h.on
              (λ i. induct_cases g.S (motive_in (made I W old) x sort j premises) (one.is i) (onward_some g.S.theory sort from c found i) (made J X now))

          pub cases_unread : {q d : ℕ} →
              ((k : CaseItem K n used part) (M : Motive) → holds used ≡ motive_vars M → (U : Made) → induct_case k.S M k.y c U ≡ refuse q d U) →
              Stopped I W J X old whole q d now
          cases_unread b = on_stop _ split (b cases_item (motive_in (made I W old) x sort j premises) g.used_are (made J X now))

          module _ {i d : ℕ} {own sorts : List ℕ}
              (b : (k : CaseItem K n used part) (M : Motive) → holds used ≡ motive_vars M → CaseRead k.S M k.y c i own sorts × (d ≡ c)) where
            read : CaseRead g.S (motive_in (made I W old) x sort j premises) one.x c i own sorts
            read = (b cases_item (motive_in (made I W old) x sort j premises) g.used_are).0

            same : d ≡ c
            same = (b cases_item (motive_in (made I W old) x sort j premises) g.used_are).1

            abbrev pub cases_in : InCase facts lists n J X now x sort j premises used
            cases_in =
                record {
                  S = g.S;
                  footings = footings;
                  recorded = (refers_on g.refers (grown_grows h.on.grown) h.on.grown.good).recorded;
                  motived = motived_on h.on.grown g.motived;
                  used_are = g.used_are ∙ ap motive_vars (sym (motive_on sort h.on.grown g.motived));
                }

            pub cases_cased : Casing J X now d own × (length sorts ≡ length own)
            cases_cased = (record { good = h.on.grown.good; symbol = subst (λ (z : ℕ). z < SYMBOLS) (sym same) cases_small; narrow = read.narrow; small = read.small }, read.many)

            cased : On I W old whole J X now
                (then (case_terms g.S (motive_in (made J X now) x sort j premises) i d own sorts (made J X now))
                (λ z U. induct_cases g.S (motive_in (made I W old) x sort j premises) one.ys (onward g.S.theory sort (c + 1)) U))
            cased =
                on_is split
                (λ k. then ((read.is (made J X now)
                ∙ (λ l. case_terms g.S (sym (motive_on sort h.on.grown g.motived) l) i (sym same l) own sorts (made J X now))) k)
                (λ z U. induct_cases g.S (motive_in (made I W old) x sort j premises) one.ys (onward g.S.theory sort (c + 1)) U))

            module _ (Y Z : List ℕ) (new : Mark) where
              pub cases_stopped : {q e : ℕ} →
                  ((k : InCase facts lists n J X now x sort j premises used) →
                  Stopped J X Y Z now (case_terms k.S (motive_in (made J X now) x sort j premises) i d own sorts (made J X now)) q e new) →
                  Stopped I W Y Z old whole q e new
              cases_stopped f = on_no _ cased (f cases_in)

              pub cases_again :
                  ((k : InCase facts lists n J X now x sort j premises used) →
                  Went J X Y Z now (case_terms k.S (motive_in (made J X now) x sort j premises) i d own sorts (made J X now)) tt new) →
                  CasesLeft g.S g.xs K.text I W old x sort j premises cells Y Z new (c + 1) next.at
              cases_again f = record { zs = one.ys; walk = walk_next one.walk w.behind; on = on_ok _ cased (f cases_in) }

-- The questions before -----------------------------------------------------------------------------------------------------------------------

module _ {K : Names} {facts footings lists : List ℕ} {n : Sizes} {I W : List ℕ} {m : Mark} {x j : ℕ} {premises cells : List ℕ}
    (g : MotiveItems K facts footings lists n I W m x j premises cells) where
  module _ (sort : ℕ) where
    abbrev pub asked : Out Made (Unit {0})
    asked = on_motive g.S (motive_in (made I W m) x sort j premises) g.xs (made I W m)

    module _ {k many : ℕ} (a : (ys : Sexps) → cells ≡ encodes ys → k ≡ count ys)
        (b : (T : Theory) (text ins : List ℕ) → SymbolsHeld text K.symbols ins n.symbols T.symbols → many ≡ length (constructors T sort)) where
      counted : count g.xs ≡ k
      counted = sym (a g.xs g.items.cells)

      listed : length (constructors g.S.theory sort) ≡ many
      listed = sym (b g.S.theory K.theory K.inputs g.refers.reads.spelling.held)

      pub motive_count : (k ≡ many → ⊥) → Stopped I W I W m asked 41 0 m
      unfolding on_motive
      motive_count q = on_ask_no _ 41 (on_start g.motived.good) (ne_eqb (count g.xs) _ (λ z. q (sym counted ∙ z ∙ listed)))

      module _ (q : k ≡ many) (used : List ℕ) (u : holds used ≡ motive_vars (motive_in (made I W m) x sort j premises)) where
        right : On I W m asked I W m
            (then (ask 45 (motive_vars (motive_in (made I W m) x sort j premises) x) (made I W m))
            (λ z U. induct_cases g.S (motive_in (made I W m) x sort j premises) g.xs (constructors g.S.theory sort) U))
        unfolding on_motive
        right = on_ask_yes _ 41 (on_start g.motived.good) (eq-eqb (count g.xs) _ (counted ∙ q ∙ sym listed))

        occurs : {t : Bool} → t ≡ holds used x → motive_vars (motive_in (made I W m) x sort j premises) x ≡ t
        occurs v = sym (v ∙ (λ i. u i x))

        pub motive_absent : {t : Bool} → t ≡ holds used x → t ≡ false → Stopped I W I W m asked 45 0 m
        motive_absent v f = on_ask_no _ 45 right (occurs v ∙ f)

        abbrev pub motive_cases : CaseItems K facts footings lists n I W m x sort j premises used cells
        motive_cases = record { S = g.S; xs = g.xs; refers = g.refers; motived = g.motived; used_are = u; items = g.items }

        pub motive_passed : {t : Bool} → t ≡ holds used x → t ≡ true → (Y Z : List ℕ) (new : Mark) (o : Result (Unit {0}) Question) →
            ((k : CaseItems K facts footings lists n I W m x sort j premises used cells) →
            PassedBy I W Y Z m new (induct_cases k.S (motive_in (made I W m) x sort j premises) k.xs (constructors k.S.theory sort) (made I W m)) o) →
            PassedBy I W Y Z m new asked o
        motive_passed v f Y Z new o p = passed_on Y Z new o (on_ask_yes _ 45 right (occurs v ∙ f)) (p motive_cases)
