-- The hypothesis that `invert` names, and those that its result rests on. Assumes nothing.
use Rattle.std.specs.Prelude.{Some as some, None as nothing, Option}
use mathlib.Core.Path.{◌≡◌, refl, sym, ap, ◌∙◌, subst}
use mathlib.Core.Bool.{Bool, true, false, not}
use mathlib.Core.List.{List}
use Prim.Native.Nat.{ℕ, suc, ◌*◌, ◌<◌}
use native.Mathlib.Omega.{arith}
use lib.ListN.{length, drop}
use borrow.Author.Tests.{not-true, not-false}
use Rattle.rules.specs.Limits.{FACTS}
use Rattle.rules.specs.Out.{Out, ok, refuse, then, ask, found}
use Rattle.rules.specs.Sexp.{Sexp, Sexps, cons, item, rest}
use Rattle.rules.specs.Find.{Set, rising}
use Rattle.rules.specs.Store.{Made}
use Rattle.rules.specs.State.{State, Fact, is_plain}
use Rattle.rules.specs.Reference.{fact_at, hyp_list}
use Rattle.rules.specs.Laws.Sexp.{rest_item}
use Rattle.rules.specs.Laws.Store.{then_ok, then_refuse}
use Rattle.rules.specs.Laws.Theory.{All}
use Rattle.rules.specs.Laws.Rising.{rising_all_of, has_all}
use Rattle.sexp.specs.Encode.{encodes}
use Rattle.sexp.specs.Items.{Holds, place}
use Rattle.questions.specs.declared.Question.{Question}
use Rattle.questions.specs.declared.Question.TheVariants.{Earlier}
use Rattle.questions.specs.Numbers.{number_of, detail_of}
use Rattle.terms.specs.Sets.{holds}
use Rattle.state.specs.declared.sizes.Sizes.{Sizes}
use Rattle.state.specs.Held.{records}
use Rattle.state.specs.Rows.{plain_row}
use Rattle.state.specs.FactLaws.{FactRow, fact_row_lem}
use Rattle.reading.specs.Items.{FirstItem, index_in, index_found}
use Rattle.reading.specs.Given.{FactsItem}
use Rattle.reading.specs.Answers.{HypsRead}
use Rattle.referring.specs.Recall.{fact_of}
use Rattle.reading.specs.Earlier.{Missing}
use Rattle.referring.specs.Laws.Behind.{from_holds}
use Rattle.referring.specs.Laws.Refers.{fact_found, fact_none, fact_asks}
use Rattle.inversion.specs.Inversions.{NamingForm, hypothesis_of, HypothesisRead}
use Rattle.reading.specs.Laws.Lists.{listed_rises}

-- Item by item -----------------------------------------------------------------------------------------------------------------------------

module _ {text facts : List ℕ} {n : Sizes} {cells : List ℕ} (g : NamingForm text facts n cells) where
  abbrev S : State
  S = g.S

  abbrev whole : Made → Out Made (ℕ × (Fact × List ℕ))
  whole M = hypothesis_of S g.xs M

  module _ (k : ℕ) (l : k < 4) {part : List ℕ} (a : (ys : Sexps) → cells ≡ encodes ys → part ≡ drop (place ys k) cells) where
    pub naming_item : Holds text part (cons (item g.xs k) (rest g.xs (suc k)))
    naming_item = subst (Holds text part) (rest_item g.xs k (omega (arith, g.many, l))) (from_holds g.holds_items k a)

  -- what is left behind the fact
  abbrev after_fact : ℕ → Fact → Made → Out Made (ℕ × (Fact × List ℕ))
  after_fact i k M = then (ask 40 (is_plain k) M) (λ z A. then (hyp_list (λ f. f.assumed) S (item g.xs 3) A) (λ hs B. ok (i, (k, hs)) B))

  started : (M : Made) → whole M ≡ then (found 34 (index_in (item g.xs 2)) M) (λ i A. then (fact_at S i A) (λ k B. after_fact i k B))
  started M = ap (λ (o : Out Made ℕ). then o (λ i A. then (fact_at S i A) (λ k B. after_fact i k B))) (index_found 34 (item g.xs 2) M)

  module _ {second : List ℕ} (a : (ys : Sexps) → cells ≡ encodes ys → second ≡ drop (place ys 2) cells) where
    -- what `index` asks
    pub naming_index : FirstItem text second
    naming_index = record { x = item g.xs 2; ys = rest g.xs 3; holds = naming_item 2 (omega arith) a }

    abbrev Named : (Option ℕ → Type 0) → Type 0
    Named P = (x : Sexp) (ys : Sexps) → Holds text second (cons x ys) → P (index_in x)

    at_third : (P : Option ℕ → Type 0) → Named P → P (index_in (item g.xs 2))
    at_third P b = b (item g.xs 2) (rest g.xs 3) (naming_item 2 (omega arith) a)

    indexed : (i : ℕ) → index_in (item g.xs 2) ≡ some i → (M : Made) → whole M ≡ then (fact_at S i M) (λ k B. after_fact i k B)
    indexed i e M = started M ∙ then_ok _ i M _ (ap (λ (o : Option ℕ). found 34 o M) e)

    -- it names no earlier fact
    pub naming_missing : {q : Question} → (q ≡ Earlier) × Named (Missing n) → (M : Made) → whole M ≡ refuse (number_of q) (detail_of q) M
    naming_missing {q} h M =
        subst (λ (z : Question). whole M ≡ refuse (number_of z) (detail_of z) M) (sym h.0) (go (index_in (item g.xs 2)) refl (at_third (Missing n) h.1))
      where
        go : (o : Option ℕ) → index_in (item g.xs 2) ≡ o → Missing n o → whole M ≡ refuse 34 0 M
        go (some i) e l = indexed i e M ∙ then_refuse _ 34 0 M _ (fact_none g.recorded M l)
        go nothing e l = started M ∙ then_refuse _ 34 0 M _ (ap (λ (o : Option ℕ). found 34 o M) e)

    module _ {i : ℕ} (h : Named (λ o. o ≡ some i) × (i < n.facts)) where
      there : i < n.facts
      there = h.1

      -- what the readers of a fact ask
      pub naming_fact : (length facts ≡ 6 * FACTS) × (i < FACTS)
      naming_fact = fact_asks g.recorded there

      row : FactRow (records facts g.footings g.lists) n g.made_trees S i (fact_of S i)
      row = fact_row_lem g.recorded i there

      known : (M : Made) → whole M ≡ after_fact i (fact_of S i) M
      known M = indexed i (at_third (λ o. o ≡ some i) h.0) M ∙ then_ok _ (fact_of S i) M _ (fact_found g.recorded M there)

      module _ {p : Bool} (pl : p ≡ plain_row facts i) where
        pub naming_other : not p ≡ true → (M : Made) → whole M ≡ refuse 40 0 M
        naming_other z M = known M ∙ then_refuse _ 40 0 M _ (ap (λ (c : Bool). ask 40 c M) (sym row.plain ∙ sym pl ∙ not-true p z))

        module _ (z : not p ≡ false) where
          plain : (M : Made) → whole M ≡ then (hyp_list (λ f. f.assumed) S (item g.xs 3) M) (λ hs B. ok (i, (fact_of S i, hs)) B)
          plain M = known M ∙ then_ok _ tt M _ (ap (λ (c : Bool). ask 40 c M) (sym row.plain ∙ sym pl ∙ not-false p z))

          module _ {third : List ℕ} (c : (ys : Sexps) → cells ≡ encodes ys → third ≡ drop (place ys 3) cells) where
            -- what `any_hyps` asks
            abbrev pub naming_hyps : FactsItem text facts n third
            naming_hyps = record {
              S = S;
              made_trees = g.made_trees;
              footings = g.footings;
              lists = g.lists;
              x = item g.xs 3;
              ys = rest g.xs 4;
              recorded = g.recorded;
              holds = naming_item 3 (omega arith) c;
            }

            pub naming_stop : {q d : ℕ} →
                ((w : FactsItem text facts n third) → (M : Made) → hyp_list (λ f. f.assumed) w.S w.x M ≡ refuse q d M) →
                (M : Made) → whole M ≡ refuse q d M
            naming_stop {q} {d} f M = plain M ∙ then_refuse _ q d M _ (f naming_hyps M)

            module _ {hyps : List ℕ} (f : (w : FactsItem text facts n third) → HypsRead (λ f. f.assumed) w.S w.x hyps) where
              abbrev read : HypsRead (λ f. f.assumed) S (item g.xs 3) hyps
              read = f naming_hyps

              rise : (M : Made) → read.hyps ≡ rising n.facts (holds hyps)
              rise M =
                  listed_rises (λ f. f.assumed) S (item g.xs 3) read.hyps M (read.are M)
                  ∙ (λ i. rising (sym g.recorded.many i) (sym read.set_is i))

              pub naming_read : HypothesisRead S n hyps (hypothesis_of S g.xs) i
              naming_read =
                  record {
                    read = λ M. plain M ∙ then_ok _ read.hyps M _ (read.are M) ∙ ap (λ (hs : List ℕ). ok (i, (fact_of S i, hs)) M) (rise M);
                    there = there;
                    early = λ v q.
                        has_all read.hyps v
                        (subst (All (λ h. h < n.facts)) (sym (rise g.made_trees)) (rising_all_of n.facts (holds hyps) (λ w l e. l)))
                        (ap (λ (a : Set). a v) (sym read.set_is) ∙ q);
                  }
