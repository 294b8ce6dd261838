-- The form `induct` behind its variable and hypotheses. Assumes nothing.
use mathlib.Core.Path.{◌≡◌, sym, ap, ◌∙◌, subst}
use mathlib.Core.Bool.{false, false≢true}
use mathlib.Core.List.{List, []}
use Prim.Native.Nat.{ℕ, ◌*◌, ◌<◌, ◌≤◌}
use native.Mathlib.Omega.{arith}
use lib.Dec.{eqb}
use lib.ListN.{length, take, replicate}
use lib.Seq.{length-take-le}
use Rattle.rules.specs.Limits.{VARIABLES, FACTS, RULEWORDS}
use Rattle.rules.specs.Out.{Out, ok, then, ask}
use Rattle.rules.specs.Sexp.{Sexp, Sexps, cons, count, item, items}
use Rattle.rules.specs.Find.{Set, rising}
use Rattle.rules.specs.Tree.{Tree, none}
use Rattle.rules.specs.Store.{Made}
use Rattle.rules.specs.Theory.{constructors}
use Rattle.rules.specs.State.{State, Fact, sort_of_var}
use Rattle.rules.specs.Read.{judgment}
use Rattle.rules.specs.Reference.{judgments_at}
use Rattle.rules.specs.Induct.{Motive, motive_vars, induct_cases, induct_on}
use Rattle.rules.specs.Laws.Out.{then_then}
use Rattle.rules.specs.Laws.Theory.{All}
use Rattle.rules.specs.Laws.Rising.{rising_all_of}
use denote.Ref.{Bor}
use Rattle.sexp.specs.Items.{Holds}
use Rattle.sexp.specs.WalkLaws.{AtomIs}
use Rattle.sexp.specs.Each.{ListIn, ListOf}
use Rattle.kernel.proofs.Missing.{there, absent}
use Rattle.terms.specs.declared.store.Mark.{Mark}
use Rattle.terms.specs.Table.{Below, made, tree, args_of}
use Rattle.terms.specs.Sets.{holds}
use Rattle.terms.specs.On.{Went, Stopped, On, on_start, on_is, on_ok, on_no, on_pure, on_stop, on_went, on_stopped, on_done}
use Rattle.terms.specs.Laws.Growth.{made_length, grown_tree, grown_there}
use Rattle.terms.specs.Laws.Sets.{holds_zero}
use Rattle.state.specs.declared.sizes.Sizes.{Sizes}
use Rattle.state.specs.Held.{Names}
use Rattle.state.specs.Rows.{cell}
use Rattle.state.specs.VarLaws.{vars_long, var_sort_is}
use Rattle.state.specs.RowTables.{tabled_long}
use Rattle.state.specs.FactLaws.{facts_tabled}
use Rattle.state.specs.Members.{rising_under, rising_empty}
use Rattle.reading.specs.Given.{ReadsItem}
use Rattle.reading.specs.Answers.{TermRead}
use Rattle.questions.specs.declared.Question.{Question}
use Rattle.std.specs.Prelude.{Option, Result, Ok, Err}
use Rattle.std.specs.Result.{result_ok}
use Rattle.referring.specs.declared.support.Derived.{Derived}
use Rattle.referring.specs.Derived.{DerivedRead, DerivedBy, alone}
use Rattle.referring.specs.Laws.Refers.{refers_on}
use Rattle.terms.specs.Laws.Below.{below_grown}
use Rattle.referring.specs.Recall.{judgment_cells}
use Rattle.induction.specs.Inducing.{motive_in, Motived, on_motive, MotiveItems, InductForm}
use Rattle.induction.proofs.Inducts.{cells_are, cells_below}
use Rattle.referring.specs.Laws.Sounds.{grown_grows}

-- The definition --------------------------------------------------------------------------------------------------------------------------

abbrev fact : List ℕ → Tree → Fact
fact hs j = record { judgment = j; hyps = hs; assumed = false; premises = none; general = []; footing = [] }

abbrev motive : State → ℕ → List ℕ → Tree → Motive
motive S x hs j = record { variable = x; sort = sort_of_var S.vars x; judgment = j; premises = judgments_at S.facts hs }

on_is_then : (S : State) (x : ℕ) (hs : List ℕ) (y z : Sexp) (U : Made) → induct_on S x hs y z U
    ≡ then (judgment S y U) (λ j B. then (items 41 z B) (λ cs D. then (on_motive S (motive S x hs j) cs D) (λ w E. ok (fact hs j) E)))
unfolding induct_on on_motive
on_is_then S x hs y z U =
    λ k. then (judgment S y U) (λ j B. then (items 41 z B) (λ cs D. sym (
    then_then (ask 41 (eqb (count cs) (length (constructors S.theory (sort_of_var S.vars x)))) D)
    (λ w E. then (ask 45 (motive_vars (motive S x hs j) x) E) (λ w F. induct_cases S (motive S x hs j) cs (constructors S.theory (sort_of_var S.vars x)) F))
    (λ w E. ok (fact hs j) E)
    ∙ (λ l. then (ask 41 (eqb (count cs) (length (constructors S.theory (sort_of_var S.vars x)))) D)
    (λ w E. then_then (ask 45 (motive_vars (motive S x hs j) x) E) (λ w F. induct_cases S (motive S x hs j) cs (constructors S.theory (sort_of_var S.vars x)) F)
    (λ w E. ok (fact hs j) E) l))) k))

-- Behind the variable -----------------------------------------------------------------------------------------------------------------------

module _ {K : Names} {facts footings lists : List ℕ} {n : Sizes} {I W : List ℕ} {m : Mark} {x : ℕ} {hyps cells : List ℕ}
    (g : InductForm K facts footings lists n I W m x hyps cells) where
  abbrev pub form_reads : ReadsItem K n I W m cells
  form_reads = record { S = g.S; x = g.y; ys = cons g.z g.zs; reads = g.refers.reads; holds = g.items }

  hs_under : rising FACTS (holds hyps) ≡ rising (length g.S.facts) (holds hyps)
  hs_under = rising_under (length g.S.facts) FACTS (holds hyps) (omega (arith, g.refers.recorded.rows.row12)) g.earlier

  hs_known : All (λ h. h < n.facts) (rising FACTS (holds hyps))
  hs_known = subst (All (λ h. h < n.facts)) (sym hs_under) (rising_all_of (length g.S.facts) (holds hyps) (λ v l e. omega (arith, l, g.refers.recorded.many)))

  pub form_facts : length facts ≡ 6 * FACTS
  form_facts = tabled_long (facts_tabled g.refers.recorded)

  pub form_sorts : (length K.vars ≡ 4 * VARIABLES) × (x < VARIABLES)
  form_sorts = (
    vars_long g.refers.reads.spelling.vars.stand,
    omega (arith, g.variable_known, g.refers.reads.spelling.vars.stand.many, g.refers.reads.spelling.vars.stand.few),
  )

  abbrev pub wanted : Out Made Fact
  wanted = induct_on g.S x (rising (length g.S.facts) (holds hyps)) g.y g.z (made I W m)

  begun : On I W m wanted I W m
      (then (judgment g.S g.y (made I W m)) (λ j B. then (items 41 g.z B)
      (λ cs D. then (on_motive g.S (motive g.S x (rising (length g.S.facts) (holds hyps)) j) cs D) (λ w E. ok (fact (rising (length g.S.facts) (holds hyps)) j) E))))
  begun = on_is (on_start g.refers.reads.good) (on_is_then g.S x (rising (length g.S.facts) (holds hyps)) g.y g.z (made I W m))

  module _ (J X : List ℕ) (new : Mark) where
    pub form_stopped : {q d : ℕ} → ((h : ReadsItem K n I W m cells) → Stopped I W J X m (judgment h.S h.x (made I W m)) q d new) → Stopped I W J X m wanted q d new
    form_stopped a = on_no _ begun (a form_reads)

    module _ {j : ℕ} (a : (h : ReadsItem K n I W m cells) → TermRead I W J X m (judgment h.S h.x (made I W m)) j new) where
      pub read : TermRead I W J X m (judgment g.S g.y (made I W m)) j new
      read = a form_reads

      judged : On I W m wanted J X new
          (then (items 41 g.z (made J X new))
          (λ cs D. then (on_motive g.S (motive g.S x (rising (length g.S.facts) (holds hyps)) (tree J X new j)) cs D)
          (λ w E. ok (fact (rising (length g.S.facts) (holds hyps)) (tree J X new j)) E)))
      judged = on_ok _ begun read.went

      -- what `list` answers of the item behind the judgment
      cases_are : (A : Sexp → Type 0) → ((xs : Sexps) → Holds K.text cells xs → 1 < count xs → A (item xs 1)) → A g.z
      unfolding item count
      cases_are A f = f (cons g.y (cons g.z g.zs)) g.items (omega arith)

      module _ (o : Option (Bor (List ℕ))) {r : Result (Bor (List ℕ)) Question} (k : o ≡ result_ok r)
          (a' : (t : List ℕ) (xs : Sexps) → Holds t cells xs → 1 < count xs → ListIn t cells (item xs 1) o) where
        pub form_list : {part : Bor (List ℕ)} → r ≡ Ok part → ListOf K.text cells g.z part.now
        form_list f = rw (there o r k f) at (cases_are (λ y. ListIn K.text cells y o) (a' K.text))

        pub form_atom_lem : {e : Question} → r ≡ Err e → Stopped I W J X m wanted 41 0 new
        unfolding items
        form_atom_lem f =
            let p : (p : ℕ) × AtomIs K.text g.z p = rw (absent o r k f) at (cases_are (λ y. ListIn K.text cells y o) (a' K.text)) in
            on_stop _ judged (ap (λ (z : Sexp). items 41 z (made J X new)) p.1.is)

      module _ {part : List ℕ} (q : ListOf K.text cells g.z part) where
        itemed : On I W m wanted J X new
            (then (on_motive g.S (motive g.S x (rising (length g.S.facts) (holds hyps)) (tree J X new j)) q.items (made J X new))
            (λ w E. ok (fact (rising (length g.S.facts) (holds hyps)) (tree J X new j)) E))
        unfolding items
        itemed = on_pure _ judged (ap (λ (z : Sexp). items 41 z (made J X new)) q.is)

        module _ (out : List ℕ) {width : ℕ} (long : length out ≡ FACTS)
            (h : (width ≤ FACTS) × (take width out ≡ judgment_cells facts (rising FACTS (holds hyps)))) where
          premises_are : args_of (made J X new) (take width out) ≡ judgments_at g.S.facts (rising (length g.S.facts) (holds hyps))
          premises_are =
              ap (args_of (made J X new)) h.1
              ∙ cells_are (refers_on g.refers (grown_grows read.went.grown) read.went.grown.good).recorded (rising FACTS (holds hyps)) hs_known
              ∙ ap (judgments_at g.S.facts) hs_under

          pub form_motived : Motived J X new x j (take width out)
          form_motived =
              record {
                good = read.went.grown.good;
                small = form_sorts.1;
                there = read.there;
                known = subst (Below new.terms) (sym h.1)
                    (below_grown (judgment_cells facts (rising FACTS (holds hyps))) (omega (arith, made_length I W m, read.went.grown.more))
                    (cells_below g.refers.recorded (rising FACTS (holds hyps)) hs_known));
                few = omega (arith, length-take-le width out (omega (arith, h.0, long)), h.0);
              }

          abbrev pub form_motive : MotiveItems K facts footings lists n J X new x j (take width out) part
          form_motive =
              record {
                S = g.S;
                xs = q.items;
                refers = refers_on g.refers (grown_grows read.went.grown) read.went.grown.good;
                motived = form_motived;
                items = q.holds;
              }

          module _ {sort : ℕ} (s : sort ≡ cell 4 K.vars x 0) where
            moved : On I W m wanted J X new
                (then (on_motive g.S (motive_in (made J X new) x sort j (take width out)) q.items (made J X new))
                (λ w E. ok (fact (rising (length g.S.facts) (holds hyps)) (tree J X new j)) E))
            moved =
                on_is itemed
                (λ i. then (on_motive g.S
                (record {
                  variable = x;
                  sort = sym (s ∙ var_sort_is g.refers.reads.spelling.vars.stand x) i;
                  judgment = tree J X new j;
                  premises = sym premises_are i;
                }) q.items (made J X new))
                (λ w E. ok (fact (rising (length g.S.facts) (holds hyps)) (tree J X new j)) E))

            module _ (Y Z : List ℕ) (last : Mark) where
              pub form_refused : {k d : ℕ} →
                  ((h : MotiveItems K facts footings lists n J X new x j (take width out) part) →
                  Stopped J X Y Z new (on_motive h.S (motive_in (made J X new) x sort j (take width out)) h.xs (made J X new)) k d last) →
                  Stopped I W Y Z m wanted k d last
              form_refused p = on_no _ moved (p form_motive)

              pub form_derived :
                  ((h : MotiveItems K facts footings lists n J X new x j (take width out) part) →
                  Went J X Y Z new (on_motive h.S (motive_in (made J X new) x sort j (take width out)) h.xs (made J X new)) tt last) →
                  DerivedRead Fact I W Y Z m g.S wanted alone hyps (replicate RULEWORDS 0) j 0 last
              form_derived p =
                  let d : Went J X Y Z new (on_motive g.S (motive_in (made J X new) x sort j (take width out)) q.items (made J X new)) tt last = p form_motive in
                  record {
                    went = on_done (on_is (on_ok _ moved d)
                        (λ i. ok (record {
                          judgment = sym (grown_tree d.grown j read.there) i;
                          hyps = rising (length g.S.facts) (holds hyps);
                          assumed = false;
                          premises = none;
                          general = [];
                          footing = sym (rising_empty (length g.S.theory.rules) (holds (replicate RULEWORDS 0)) (λ v. ap (λ (a : Set). a v) (holds_zero RULEWORDS))) i;
                        }) (made Y Z last)));
                    there = grown_there d.grown j read.there;
                    earlier = g.earlier;
                    known = λ v z. absurd (false≢true (sym (ap (λ (a : Set). a v) (holds_zero RULEWORDS)) ∙ z));
                  }

-- what an answer says behind what went before
pub derived_on : {I W J X : List ℕ} {old now : Mark} {K L : Out Made Fact} (S : State) (Y Z : List ℕ) (new : Mark) (r : Result Derived Question) → On I W old K J X now L →
    DerivedBy Fact J X Y Z now new S L alone r → DerivedBy Fact I W Y Z old new S K alone r
derived_on S Y Z new (Ok f) o d = record { went = on_went o d.went; there = d.there; earlier = d.earlier; known = d.known }
derived_on S Y Z new (Err q) o s = on_stopped o s
