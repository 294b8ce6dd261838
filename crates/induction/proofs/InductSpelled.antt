-- The two spellings of `induct`: with hypotheses and without. Assumes nothing.
use mathlib.Core.Path.{◌≡◌, refl, sym, ap, ◌∙◌, subst}
use mathlib.Core.Bool.{true, false, false≢true}
use Rattle.std.specs.Prelude.{Some as some, None as nothing, Option, Result, Ok, Err, ok_or}
use Rattle.std.specs.Result.{result_ok}
use mathlib.Core.List.{List, []}
use Prim.Native.Nat.{ℕ, ◌<◌, ◌≤◌}
use native.Mathlib.Omega.{arith}
use lib.ListN.{length, drop, replicate}
use Rattle.rules.specs.Limits.{FACTWORDS}
use Rattle.rules.specs.Out.{Out, refuse, then, found}
use Rattle.rules.specs.Sexp.{Sexp, Sexps, cons, item, rest}
use Rattle.rules.specs.Find.{Set, rising}
use Rattle.rules.specs.Store.{Made}
use Rattle.rules.specs.State.{Fact, Var, is_plain}
use Rattle.rules.specs.Reference.{hyp_list}
use Rattle.rules.specs.Induct.{induct_on, induct, induct_with}
use Rattle.rules.specs.Laws.Sexp.{rest_item}
use Rattle.rules.specs.Laws.Theory.{All}
use Rattle.rules.specs.Laws.Rising.{rising_all_of, has_all}
use Rattle.questions.specs.declared.Question.{Question}
use Rattle.questions.specs.declared.Question.TheVariants.{Binding}
use Rattle.questions.specs.Numbers.{number_of, detail_of}
use Rattle.sexp.specs.Encode.{encodes}
use Rattle.sexp.specs.Items.{Holds, place}
use Rattle.sexp.specs.FoundLaws.{found_at, found_missing}
use Rattle.terms.specs.declared.store.Mark.{Mark}
use Rattle.terms.specs.Table.{made}
use Rattle.terms.specs.Sets.{holds}
use Rattle.terms.specs.On.{Stopped, On, on_start, on_is, on_pure, on_stop, on_found_some, on_found_none}
use Rattle.terms.specs.Laws.Sets.{holds_zero}
use Rattle.state.specs.declared.sizes.Sizes.{Sizes}
use Rattle.state.specs.Held.{Names, VarsHeld}
use Rattle.state.specs.Rows.{SomeVars}
use Rattle.state.specs.Members.{rising_empty}
use Rattle.reading.specs.Items.{FirstItem, variable_in, variable_found}
use Rattle.reading.specs.Given.{FactsItem}
use Rattle.reading.specs.Answers.{HypsRead}
use Rattle.referring.specs.declared.support.Derived.{Derived}
use Rattle.referring.specs.Derived.{FactForm, DerivedBy, alone}
use Rattle.kernel.proofs.Missing.{there, absent, question_is}
use Rattle.referring.specs.Laws.Behind.{from_holds}
use Rattle.induction.specs.Inducing.{SubjectItems, SubjectAs, InductForm}
use Rattle.reading.specs.Laws.Lists.{variable_below, listed_rises}
use Rattle.induction.proofs.InductForms.{derived_on}

-- The variable -----------------------------------------------------------------------------------------------------------------------------

module _ {goals text vars : List ℕ} {count : ℕ} {cells : List ℕ} (g : SubjectItems goals text vars count cells) where
  module _ {behind : List ℕ} (a : (ys : Sexps) → cells ≡ encodes ys → behind ≡ drop (place ys 2) cells) where
    at_subject : Holds text behind (cons (item g.xs 2) (rest g.xs 3))
    at_subject = subst (λ (z : Sexps). Holds text behind z) (rest_item g.xs 2 (omega (arith, g.many))) (from_holds g.holds 2 a)

    pub subject_asks : FirstItem text behind × SomeVars goals text vars count
    subject_asks = (record { x = item g.xs 2; ys = rest g.xs 3; holds = at_subject }, (g.S.vars, g.held))

    module _ {r : Option ℕ} (b : (vs : List Var) (x : Sexp) (ys : Sexps) → VarsHeld goals text vars count vs → Holds text behind (cons x ys) → r ≡ (variable_in vs x)) where
      told : r ≡ (variable_in g.S.vars (item g.xs 2))
      told = b g.S.vars (item g.xs 2) (rest g.xs 3) g.held at_subject

      module _ {o : Result ℕ Question} (k : r ≡ result_ok o) (e : o ≡ ok_or r Binding) where
        subject_by : (s : Result ℕ Question) → o ≡ s → SubjectAs g.S.vars g.xs s
        subject_by (Ok x) f = found_at (variable_in g.S.vars (item g.xs 2)) r x told (there r o k f)
        subject_by (Err q) f = (found_missing (variable_in g.S.vars (item g.xs 2)) r told (absent r o k f), question_is r o k e f)

        -- the question is put where it is missing
        pub subject_is : SubjectAs g.S.vars g.xs o
        subject_is = subject_by o refl

-- The form -----------------------------------------------------------------------------------------------------------------------------------

module _ {K : Names} {facts footings lists : List ℕ} {n : Sizes} {I W : List ℕ} {m : Mark} {cells : List ℕ} {least : ℕ}
    (g : FactForm K facts footings lists n I W m cells least) (l : 5 ≤ least) where
  abbrev pub spelled_subject : SubjectItems K.goals K.text K.vars n.vars cells
  spelled_subject = record { S = g.S; xs = g.xs; held = g.refers.reads.spelling.vars; holds = g.holds; many = omega (arith, g.many, l) }

  fourth : rest g.xs 3 ≡ cons (item g.xs 3) (rest g.xs 4)
  fourth = rest_item g.xs 3 (omega (arith, g.many, l))

  fifth : rest g.xs 4 ≡ cons (item g.xs 4) (rest g.xs 5)
  fifth = rest_item g.xs 4 (omega (arith, g.many, l))

  begin : On I W m (induct g.S g.xs (made I W m)) I W m
      (then (found 36 (variable_in g.S.vars (item g.xs 2)) (made I W m)) (λ x U. induct_on g.S x [] (item g.xs 3) (item g.xs 4) U))
  unfolding induct
  begin =
      on_is (on_start g.refers.reads.good)
      (ap (λ (o : Out Made ℕ). then o (λ x U. induct_on g.S x [] (item g.xs 3) (item g.xs 4) U)) (variable_found 36 g.S (item g.xs 2) (made I W m)))

  begin_with : On I W m (induct_with g.S g.xs (made I W m)) I W m
      (then (found 36 (variable_in g.S.vars (item g.xs 2)) (made I W m))
      (λ x U. then (hyp_list is_plain g.S (item g.xs 3) U) (λ hs N. induct_on g.S x hs (item g.xs 4) (item g.xs 5) N)))
  unfolding induct_with
  begin_with =
      on_is (on_start g.refers.reads.good)
      (ap (λ (o : Out Made ℕ). then o (λ x U. then (hyp_list is_plain g.S (item g.xs 3) U) (λ hs N. induct_on g.S x hs (item g.xs 4) (item g.xs 5) N)))
      (variable_found 36 g.S (item g.xs 2) (made I W m)))

  module _ {q : Question} (e : (h : SubjectItems K.goals K.text K.vars n.vars cells) → (variable_in h.S.vars (item h.xs 2) ≡ nothing) × (q ≡ Binding)) where
    binding : q ≡ Binding
    binding = (e spelled_subject).1

    pub spelled_unknown : Stopped I W I W m (induct g.S g.xs (made I W m)) (number_of q) (detail_of q) m
    spelled_unknown =
        subst (λ (p : Question). Stopped I W I W m (induct g.S g.xs (made I W m)) (number_of p) (detail_of p) m) (sym binding)
        (on_found_none _ 36 begin (e spelled_subject).0)

    pub spelled_unknown_with : Stopped I W I W m (induct_with g.S g.xs (made I W m)) (number_of q) (detail_of q) m
    spelled_unknown_with =
        subst (λ (p : Question). Stopped I W I W m (induct_with g.S g.xs (made I W m)) (number_of p) (detail_of p) m) (sym binding)
        (on_found_none _ 36 begin_with (e spelled_subject).0)

  module _ {x : ℕ} (e : (h : SubjectItems K.goals K.text K.vars n.vars cells) → variable_in h.S.vars (item h.xs 2) ≡ some x) where
    named : variable_in g.S.vars (item g.xs 2) ≡ some x
    named = e spelled_subject

    pub spelled_known : x < length g.S.vars
    spelled_known = variable_below g.S.vars (item g.xs 2) x named

    module _ {behind : List ℕ} (u : (ys : Sexps) → cells ≡ encodes ys → behind ≡ drop (place ys 3) cells) where
      pub at_fourth : Holds K.text behind (cons (item g.xs 3) (rest g.xs 4))
      at_fourth = subst (λ (z : Sexps). Holds K.text behind z) fourth (from_holds g.holds 3 u)

      -- Without hypotheses -----------------------------------------------------------------------------------------------------------------------

      pub no_hyps : (v : ℕ) → holds (replicate FACTWORDS 0) v ≡ false
      no_hyps v = ap (λ (a : Set). a v) (holds_zero FACTWORDS)

      pub fourth_items : Holds K.text behind (cons (item g.xs 3) (cons (item g.xs 4) (rest g.xs 5)))
      fourth_items = subst (λ (w : Sexps). Holds K.text behind (cons (item g.xs 3) w)) fifth at_fourth

      abbrev pub plain_form : InductForm K facts footings lists n I W m x (replicate FACTWORDS 0) behind
      plain_form =
          record {
            S = g.S;
            y = item g.xs 3;
            z = item g.xs 4;
            zs = rest g.xs 5;
            refers = g.refers;
            variable_known = spelled_known;
            earlier = λ v q. absurd (false≢true (sym (no_hyps v) ∙ q));
            items = fourth_items;
          }

      pub spelled_derived : (Y Z : List ℕ) (new : Mark) (o : Result Derived Question) →
          ((h : InductForm K facts footings lists n I W m x (replicate FACTWORDS 0) behind) →
          DerivedBy Fact I W Y Z m new h.S (induct_on h.S x (rising (length h.S.facts) (holds (replicate FACTWORDS 0))) h.y h.z (made I W m)) alone o) →
          DerivedBy Fact I W Y Z m new g.S (induct g.S g.xs (made I W m)) alone o
      spelled_derived Y Z new o d =
          derived_on g.S Y Z new o
          (on_is (on_found_some _ 36 begin named)
          (ap (λ (hs : List ℕ). induct_on g.S x hs (item g.xs 3) (item g.xs 4) (made I W m)) (sym (rising_empty (length g.S.facts) (holds (replicate FACTWORDS 0)) no_hyps))))
          (d plain_form)

      -- With hypotheses --------------------------------------------------------------------------------------------------------------------------

      abbrev pub hyps_asked : FactsItem K.text facts n behind
      hyps_asked =
          record {
            S = g.S;
            made_trees = made I W m;
            footings = footings;
            lists = lists;
            x = item g.xs 3;
            ys = rest g.xs 4;
            recorded = g.refers.recorded;
            holds = at_fourth;
          }

      chosen : On I W m (induct_with g.S g.xs (made I W m)) I W m
          (then (hyp_list is_plain g.S (item g.xs 3) (made I W m)) (λ hs N. induct_on g.S x hs (item g.xs 4) (item g.xs 5) N))
      chosen = on_found_some _ 36 begin_with named

      pub hyps_refused : {q d : ℕ} → ((h : FactsItem K.text facts n behind) → ((M : Made) → hyp_list is_plain h.S h.x M ≡ refuse q d M) × (d ≡ 0)) →
          Stopped I W I W m (induct_with g.S g.xs (made I W m)) q d m
      hyps_refused c = on_stop _ chosen ((c hyps_asked).0 (made I W m))

      module _ (set : List ℕ) (c : (h : FactsItem K.text facts n behind) → HypsRead is_plain h.S h.x set) (six : 6 ≤ least) where
        read : HypsRead is_plain g.S (item g.xs 3) set
        read = c hyps_asked

        rises : read.hyps ≡ rising (length g.S.facts) (holds set)
        rises = listed_rises is_plain g.S (item g.xs 3) read.hyps (made I W m) (read.are (made I W m)) ∙ ap (rising (length g.S.facts)) (sym read.set_is)

        pub hyps_earlier : (v : ℕ) → holds set v ≡ true → v < length g.S.facts
        hyps_earlier v q =
            has_all read.hyps v
            (subst (All (λ h. h < length g.S.facts)) (sym rises) (rising_all_of (length g.S.facts) (holds set) (λ w l e. l)))
            (ap (λ (a : Set). a v) (sym read.set_is) ∙ q)

        sixth : rest g.xs 5 ≡ cons (item g.xs 5) (rest g.xs 6)
        sixth = rest_item g.xs 5 (omega (arith, g.many, six))

        module _ {last : List ℕ} (w : (ys : Sexps) → cells ≡ encodes ys → last ≡ drop (place ys 4) cells) where
          pub fifth_items : Holds K.text last (cons (item g.xs 4) (cons (item g.xs 5) (rest g.xs 6)))
          fifth_items = subst (λ (z : Sexps). Holds K.text last (cons (item g.xs 4) z)) sixth (subst (λ (z : Sexps). Holds K.text last z) fifth (from_holds g.holds 4 w))

          abbrev pub with_form : InductForm K facts footings lists n I W m x set last
          with_form =
              record {
                S = g.S;
                y = item g.xs 4;
                z = item g.xs 5;
                zs = rest g.xs 6;
                refers = g.refers;
                variable_known = spelled_known;
                earlier = hyps_earlier;
                items = fifth_items;
              }

          pub with_derived : (Y Z : List ℕ) (new : Mark) (o : Result Derived Question) →
              ((h : InductForm K facts footings lists n I W m x set last) →
              DerivedBy Fact I W Y Z m new h.S (induct_on h.S x (rising (length h.S.facts) (holds set)) h.y h.z (made I W m)) alone o) →
              DerivedBy Fact I W Y Z m new g.S (induct_with g.S g.xs (made I W m)) alone o
          with_derived Y Z new o d =
              derived_on g.S Y Z new o
              (on_is (on_pure _ chosen (read.are (made I W m)))
              (ap (λ (hs : List ℕ). induct_on g.S x hs (item g.xs 4) (item g.xs 5) (made I W m)) rises))
              (d with_form)
