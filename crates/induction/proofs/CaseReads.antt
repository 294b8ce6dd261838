-- One case as it is spelled. Assumes nothing.
use mathlib.Core.Path.{◌≡◌, refl, sym, ap, ◌∙◌, subst}
use mathlib.Core.Bool.{Bool}
use Rattle.std.specs.Prelude.{Option, Some as some, None as nothing, Result, Ok, Err}
use mathlib.Core.List.{List, []}
use Prim.Native.Nat.{ℕ, suc, ◌+◌, ◌<◌, ◌≤◌}
use native.Mathlib.Omega.{arith}
use lib.Dec.{eqb}
use lib.ListN.{length, take, drop}
use lib.Seq.{length-take-le}
use borrow.Author.Tests.{eq-eqb, ne_eqb}
use Rattle.rules.specs.Limits.{ARGUMENTS}
use Rattle.rules.specs.Out.{Out, ok, refuse, then, found, ask}
use Rattle.rules.specs.Sexp.{Sexp, Sexps, list, cons, count, item, rest, items}
use Rattle.rules.specs.Tree.{Tree, app, single}
use Rattle.rules.specs.Store.{Made, keep, substitute, substitutes}
use Rattle.rules.specs.Theory.{Theory, no_symbol, inputs}
use Rattle.rules.specs.State.{State}
use Rattle.rules.specs.Induct.{Motive, motive_vars, Hyp, case_vars, keep_vars, hypotheses, induct_case}
use Rattle.rules.specs.Laws.Out.{then_then}
use Rattle.rules.specs.Laws.Store.{then_ok, then_refuse}
use Rattle.rules.specs.Laws.Theory.{all_at}
use Rattle.sexp.specs.Encode.{encodes}
use denote.Ref.{Bor}
use Rattle.std.specs.Result.{result_ok}
use Rattle.questions.specs.declared.Question.{Question}
use Rattle.sexp.specs.Items.{Holds, Items, place}
use Rattle.sexp.specs.ItemLaws.{More}
use Rattle.sexp.specs.Each.{ListIn, ListOf}
use Rattle.sexp.specs.FirstItem.{none_left}
use Rattle.sexp.specs.WalkLaws.{AtomIs, walk_start, walk_more}
use Rattle.sexp.specs.FoundLaws.{found_at, found_missing}
use Rattle.kernel.specs.Held.{SymbolsHeld}
use Rattle.kernel.specs.Readers.{KnownInputs}
use Rattle.terms.specs.Sets.{holds}
use Rattle.state.specs.declared.sizes.Sizes.{Sizes}
use Rattle.state.specs.Held.{Names}
use Rattle.reading.specs.Items.{FirstItem, index_in, index_found}
use Rattle.kernel.proofs.Missing.{there, absent}
use Rattle.referring.specs.Laws.Behind.{from_holds}
use Rattle.induction.specs.Inducing.{judgment_first, keep_case, at_constructor, case_fact, case_terms, CaseNames, Named, CaseItem, CaseRead}
use Rattle.rules.specs.Laws.Sexp.{rest_none}

-- The definition --------------------------------------------------------------------------------------------------------------------------

-- a case behind its variables
terms_are : (S : State) (M : Motive) (i c : ℕ) (vs ss : List ℕ) (U : Made) → case_terms S M i c vs ss U
    ≡ then (keep_vars vs U) (λ ts B. then (keep (app c ts) B) (λ t D. then (substitute (single M.variable t) M.judgment D)
    (λ j E. then (substitutes (single M.variable t) M.premises E) (λ ps F. then (hypotheses M vs ss F) (λ ihs G. case_fact S M ps ihs i j G)))))
unfolding case_terms at_constructor keep_case judgment_first then
terms_are S M i c vs ss U =
    let R : Hyp → Made → Out Made (Unit {0}) = λ h F. then (hypotheses M vs ss F) (λ ihs G. case_fact S M h.premises ihs i h.judgment G) in
    let J : Tree → Made → Out Made Hyp = λ t D. judgment_first (single M.variable t) M.judgment M.premises D in
    then_then (keep_case c vs U) J R
    ∙ then_then (keep_vars vs U) (λ ts B. keep (app c ts) B) (λ t D. then (J t D) R)
    ∙ (λ k. then (keep_vars vs U) (λ ts B. then (keep (app c ts) B) (λ t D. (
    then_then (substitute (single M.variable t) M.judgment D)
    (λ u E. then (substitutes (single M.variable t) M.premises E) (λ us F. ok (record { premises = us; judgment = u }) F)) R
    ∙ (λ l. then (substitute (single M.variable t) M.judgment D)
    (λ u E. then_then (substitutes (single M.variable t) M.premises E) (λ us F. ok (record { premises = us; judgment = u }) F) R l))) k)))

-- a list of items
abbrev case_of : State → Motive → ℕ → Sexps → Made → Out Made (Unit {0})
case_of S M c ys U =
    then (found 41 (index_in (item ys 0)) U) (λ i B. then (ask 41 (eqb (count ys) (suc (length (inputs S.theory c)))) B)
    (λ z D. then (case_vars S M (rest ys 1) (inputs S.theory c) [] D) (λ vs E. case_terms S M i c vs (inputs S.theory c) E)))

case_is : (S : State) (M : Motive) (c : ℕ) (ys : Sexps) (U : Made) → induct_case S M (list ys) c U ≡ case_of S M c ys U
unfolding induct_case items then case_fact
case_is S M c ys U =
    (λ k. then (index_found 41 (item ys 0) U k) (λ i B. then (ask 41 (eqb (count ys) (suc (length (inputs S.theory c)))) B)
    (λ z D. then (case_vars S M (rest ys 1) (inputs S.theory c) [] D) (λ vs E. sym (terms_are S M i c vs (inputs S.theory c) E) k))))

first_of : (y : Sexp) (ys : Sexps) → item (cons y ys) 0 ≡ y
unfolding item
first_of y ys = refl

rest_of : (y : Sexp) (ys : Sexps) → rest (cons y ys) 1 ≡ rest ys 0
unfolding rest
rest_of y ys = refl

-- One case ---------------------------------------------------------------------------------------------------------------------------------

module _ {K : Names} {n : Sizes} {used cells : List ℕ} (c : ℕ) (g : CaseItem K n used cells) where
  -- what `list` answers of the first item
  module _ (o : Option (Bor (List ℕ))) (e : (t : List ℕ) (xs : Sexps) → Holds t cells xs → 0 < count xs → ListIn t cells (item xs 0) o) where
    first_in : ListIn K.text cells g.y o
    unfolding item count
    first_in = e K.text (cons g.y g.ys) g.items (omega arith)

    module _ {r : Result (Bor (List ℕ)) Question} (k : o ≡ result_ok r) where
      pub case_list : {inner : Bor (List ℕ)} → r ≡ Ok inner → ListOf K.text cells g.y inner.now
      case_list f = rw (there o r k f) at first_in

      pub case_atom_lem : {q : Question} → r ≡ Err q → (M : Motive) (U : Made) → induct_case g.S M g.y c U ≡ refuse 41 0 U
      unfolding induct_case items
      case_atom_lem f M U =
          let p : (p : ℕ) × AtomIs K.text g.y p = rw (absent o r k f) at first_in in
          then_refuse (items 41 g.y U) 41 0 U _ (ap (λ (z : Sexp). items 41 z U) p.1.is)

  module _ {inner : List ℕ} (w : ListOf K.text cells g.y inner) where
    pub case_items : Items inner
    case_items = (w.items, w.holds.cells)

    on_list : (M : Motive) (U : Made) → induct_case g.S M g.y c U ≡ case_of g.S M c w.items U
    on_list M U = ap (λ (z : Sexp). induct_case g.S M z c U) w.is ∙ case_is g.S M c w.items U

    pub case_none : length inner ≡ 0 → (M : Motive) (U : Made) → induct_case g.S M g.y c U ≡ refuse 41 0 U
    unfolding item index_in
    case_none l M U =
        on_list M U ∙ then_refuse (found 41 (index_in (item w.items 0)) U) 41 0 U _
        (ap (λ (ys : Sexps). found 41 (index_in (item ys 0)) U) (none_left w.holds l))

    module _ (l : length inner ≡ 0 → ⊥) where
      pub begins : More w.items
      begins = walk_more (walk_start w.holds) (omega (arith, l))

      holds_some : Holds K.text inner (cons begins.first begins.others)
      holds_some = subst (λ (z : Sexps). Holds K.text inner z) begins.is w.holds

      pub case_first : FirstItem K.text inner
      case_first = record { x = begins.first; ys = begins.others; holds = holds_some }

      module _ {r : Option ℕ} (h : (z : Sexp) (zs : Sexps) → Holds K.text inner (cons z zs) → r ≡ (index_in z)) where
        told : r ≡ (index_in (item w.items 0))
        told = h begins.first begins.others holds_some ∙ ap (λ (z : Sexp). (index_in z)) (sym (ap (λ (zs : Sexps). item zs 0) begins.is ∙ first_of begins.first begins.others))

        pub case_unread : r ≡ nothing → (M : Motive) (U : Made) → induct_case g.S M g.y c U ≡ refuse 41 0 U
        case_unread q M U =
            on_list M U ∙ then_refuse (found 41 (index_in (item w.items 0)) U) 41 0 U _
            (ap (λ (o : Option ℕ). found 41 o U) (found_missing (index_in (item w.items 0)) r told q))

        module _ {i : ℕ} (q : r ≡ some i) (known : c < n.symbols) where
          on_index : (M : Motive) (U : Made) → induct_case g.S M g.y c U
              ≡ then (ask 41 (eqb (count w.items) (suc (length (inputs g.S.theory c)))) U)
              (λ z D. then (case_vars g.S M (rest w.items 1) (inputs g.S.theory c) [] D) (λ vs E. case_terms g.S M i c vs (inputs g.S.theory c) E))
          on_index M U =
              on_list M U ∙ then_ok (found 41 (index_in (item w.items 0)) U) i U _
              (ap (λ (o : Option ℕ). found 41 o U) (found_at (index_in (item w.items 0)) r i told q))

          held : SymbolsHeld K.theory K.symbols K.inputs n.symbols g.S.theory.symbols
          held = g.spelling.held

          module _ {many k : ℕ} (p : (T : Theory) (text ins : List ℕ) (count : ℕ) → SymbolsHeld text K.symbols ins count T.symbols → c < count → many ≡ length (inputs T c))
              (u : (ys : Sexps) → inner ≡ encodes ys → k ≡ count ys) where
            pub many_is : many ≡ length (inputs g.S.theory c)
            many_is = p g.S.theory K.theory K.inputs n.symbols held known

            pub many_few : many ≤ ARGUMENTS
            unfolding inputs
            many_few = omega (arith, many_is, all_at g.S.theory.symbols c no_symbol held.few (omega (arith, held.many, known)))

            count_is : k ≡ count w.items
            count_is = u w.items w.holds.cells

            pub case_count : (k ≡ many + 1 → ⊥) → (M : Motive) (U : Made) → induct_case g.S M g.y c U ≡ refuse 41 0 U
            case_count z M U =
                on_index M U ∙ then_refuse (ask 41 (eqb (count w.items) (suc (length (inputs g.S.theory c)))) U) 41 0 U _
                (ap (λ (y : Bool). ask 41 y U)
                (ne_eqb (count w.items) (suc (length (inputs g.S.theory c))) (λ y. z (omega (arith, count_is, y, many_is)))))

            pub inputs_known : KnownInputs K.inputs c many
            unfolding inputs
            inputs_known = record { text = K.theory; symbols = K.symbols; count = n.symbols; held = (g.S.theory.symbols, held); known = known; all = many_is }

            module _ {sorts : List ℕ} (cut : (T : Theory) (text symbols : List ℕ) (count : ℕ) → SymbolsHeld text symbols K.inputs count T.symbols → c < count → many ≡ length (inputs T c) → sorts ≡ inputs T c) where
              pub sorts_are : sorts ≡ inputs g.S.theory c
              sorts_are = cut g.S.theory K.theory K.symbols n.symbols held known many_is

              pub sorts_long : length sorts ≡ many
              sorts_long = ap length sorts_are ∙ sym many_is

              module _ (z : k ≡ many + 1) {behind : List ℕ} (v : (ys : Sexps) → inner ≡ encodes ys → behind ≡ drop (place ys 1) inner) where
                pub others_are : rest w.items 1 ≡ begins.others
                others_are = ap (λ (ys : Sexps). rest ys 1) begins.is ∙ rest_of begins.first begins.others ∙ rest_none begins.others

                on_count : (M : Motive) (U : Made) → induct_case g.S M g.y c U
                    ≡ then (case_vars g.S M begins.others sorts [] U) (λ vs E. case_terms g.S M i c vs sorts E)
                on_count M U =
                    on_index M U
                    ∙ then_ok (ask 41 (eqb (count w.items) (suc (length (inputs g.S.theory c)))) U) tt U _
                    (ap (λ (y : Bool). ask 41 y U) (eq-eqb (count w.items) (suc (length (inputs g.S.theory c))) (omega (arith, count_is, z, many_is))))
                    ∙ (λ q. then (case_vars g.S M
                    (others_are q) (sym sorts_are q) [] U)
                    (λ vs E. case_terms g.S M i c vs (sym sorts_are q) E))

                pub others_count : count begins.others ≡ many
                unfolding count
                others_count = let y = ap count begins.is in omega (arith, y, count_is, z)

                abbrev pub named : CaseNames K.goals K.text K.vars n.vars sorts used
                    behind
                named =
                    record {
                      S = g.S;
                      xs = begins.others;
                      held = g.spelling.vars;
                      holds = subst (λ (ys : Sexps). Holds K.text behind ys) others_are (from_holds w.holds 1 v);
                      many = others_count ∙ sym sorts_long;
                      few = omega (arith, sorts_long, many_few);
                    }

                module _ (M : Motive) (o : holds used ≡ motive_vars M) where
                  pub case_unnamed : {q d : ℕ} →
                      ((h : CaseNames K.goals K.text K.vars n.vars sorts used behind) →
                      (M : Motive) → holds used ≡ motive_vars M → (U : Made) → case_vars h.S M h.xs sorts [] U ≡ refuse q d U) →
                      (U : Made) → induct_case g.S M g.y c U ≡ refuse q d U
                  case_unnamed {q} {d} w U = on_count M U ∙ then_refuse (case_vars g.S M begins.others sorts [] U) q d U _ (w named M o U)

                  pub case_read : {own : List ℕ} →
                      ((h : CaseNames K.goals K.text K.vars n.vars sorts used behind) →
                      (M : Motive) → holds used ≡ motive_vars M → Named (case_vars h.S M h.xs sorts []) (length sorts) own) →
                      CaseRead g.S M g.y c i (take (length sorts) own) sorts
                  case_read {own} w =
                      let N : Named (case_vars g.S M begins.others sorts []) (length sorts) own = w named M o in
                      let l : length (take (length sorts) own) ≡ length sorts = length-take-le (length sorts) own (omega (arith, N.long, sorts_long, many_few)) in
                      record {
                        is = λ U. on_count M U ∙ then_ok (case_vars g.S M begins.others sorts [] U) (take (length sorts) own) U _ (N.are U);
                        narrow = omega (arith, l, sorts_long, many_few);
                        small = N.small;
                        many = sym l;
                      }
