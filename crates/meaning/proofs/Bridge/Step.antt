-- `step`: the fact that the definition takes is well-sorted, and satisfies what the form's lemma asks. Of a well state.
use Rattle.std.specs.Prelude.{ℕ, suc, ◌<◌, ◌≡◌, false, ◌&&◌, List, [], length, get_or, Option, Some as some, None as nothing}
use Rattle.std.proofs.Common.{arith, ◌∙◌, ap}
use Rattle.std.proofs.Math.Path.{refl, sym, subst}
use Rattle.std.proofs.Math.Logic.{inl, inr}
use Rattle.std.proofs.Math.Dec.{eqb}
use Rattle.rules.specs.Text.{same}
use Rattle.rules.specs.Sexp.{Sexp, Sexps, nil, cons, count, item, rest, name, marked}
use Rattle.rules.specs.Find.{first, union, rising}
use Rattle.rules.specs.Tree.{Tree, none, variables_of, count_trees, sub, subs}
use Rattle.rules.specs.Store.{Made}
use Rattle.rules.specs.Theory.{Rule, rule_named, rule}
use Rattle.rules.specs.Declare.{no_rule_var, is_new}
use Rattle.rules.specs.Match.{Bound, match_all}
use Rattle.rules.specs.State.{State, Fact}
use Rattle.rules.specs.Step.{Refs, Items, no_items, bind_item, state_item, read_item, read_items, match_stated, conclude, step}
use Rattle.meaning.specs.Trees.Tree.{Occ, Occs, Sorted, sub_sorted, occ_sub, occs_subs}
use Rattle.meaning.specs.Trees.Tests.{occs_variables_of}
use Rattle.meaning.specs.Unification.Acts.{Ok, done, ok_then, ok_any}
use Rattle.meaning.specs.Signature.{sig, PROP, rule_sort}
use Rattle.meaning.specs.Truth.{HypOf, Needs}
use Rattle.meaning.specs.Lemmas.Forms.{Refs as RefForms, Allowed, Form, step as a_step}
use Rattle.meaning.specs.Named.{ItemOf}
use Rattle.meaning.specs.Sets.{Sets, RuleAt}
use Rattle.meaning.specs.Bridge.Asked.{no_some, some_same, true_left, ok_ask, ok_found, ok_if, ok_atom, ok_items, rising_in, in_rising}
use Rattle.meaning.specs.Bridge.Matching.{Agrees, Grows, Matched, MatchedAll, matched, matched_all, bind_cases, filled, filled_agrees, Built, build_ok}
use Rattle.meaning.specs.Bridge.Well.{Props, Typed, Judgment, Judgments, WellRule, WellTheory, WellFact, Well, judgment_sub, judgments_small, judgments_props, props_bound}
use Rattle.meaning.specs.Bridge.Read.{rule_known, term_of_ok, judgment_ok}
use Rattle.meaning.proofs.Bridge.Refs.{Scoped, scoped_ok, FreeOfRules, RefsOk, references_ok}

-- a new fact is well-sorted, and taken by a form whose tests held
pub record Fine (K : Sets) (U : State) (vs : ℕ → ℕ) (w : Well U vs) (f : Fact) : Type 0 where
  pub well : WellFact U.theory vs (length U.vars) (suc (length U.facts)) f
  pub form : Form U.theory vs K.known K.part U.facts (length U.facts) f

module _ (K : Sets) (U : State) (vs : ℕ → ℕ) (w : Well U vs) where
  -- The items -----------------------------------------------------------------------------------------------------------------------

  pub record ItemsOk (R : Rule) (it : Items) : Type 0 where
    pub bound : (i : ℕ) (t : Tree) → it.bound i ≡ some t → Typed U.theory vs (length U.vars) t (rule_sort R i)
    pub stated : (j : Tree) → it.stated ≡ some j → Judgment U.theory vs (length U.vars) j

  no_items_ok : (R : Rule) → ItemsOk R no_items
  no_items_ok R = record { bound = λ i t e. absurd (no_some e); stated = λ j e. absurd (no_some e) }

  bind_item_ok : (R : Rule) (n : List ℕ) (x : Sexp) (it : Items) (m : Made) → ItemsOk R it → Ok (λ u. ItemsOk R u) (bind_item U R n x it m)
  unfolding bind_item rule_sort
  bind_item_ok R n x it m h =
      ok_then (ok_found 36 (first (λ v. same v.name.bytes n) R.vars 0) m) (λ i m₁ _.
      ok_then (term_of_ok U vs w x (get_or R.vars i no_rule_var).sort m₁) (λ t m₂ y.
      ok_then (ok_ask 36 (is_new (it.bound i)) m₂) (λ _ m₃ _.
      done (record {
        bound = λ k u e. elim (bind_cases it.bound i t k) [
          | inl p ↦ subst (λ z. Typed U.theory vs (length U.vars) z (get_or R.vars k no_rule_var).sort) (some_same (sym p.1 ∙ e))
              (subst (λ z. Typed U.theory vs (length U.vars) t (get_or R.vars z no_rule_var).sort) (sym p.0) y)
          | inr p ↦ h.bound k u (sym p.1 ∙ e)
        ];
        stated = h.stated;
      }))))

  state_item_ok : (R : Rule) (x : Sexp) (it : Items) (m : Made) → ItemsOk R it → Ok (λ u. ItemsOk R u) (state_item U x it m)
  unfolding state_item
  state_item_ok R x it m h =
      ok_then (judgment_ok U vs w x m) (λ j m₁ y.
      ok_then (ok_ask 37 (is_new it.stated) m₁) (λ _ m₂ _.
      done (record { bound = h.bound; stated = λ k e. subst (λ z. Judgment U.theory vs (length U.vars) z) (some_same e) y })))

  read_item_ok : (R : Rule) (x : Sexp) (it : Items) (m : Made) → ItemsOk R it → Ok (λ u. ItemsOk R u) (read_item U R x it m)
  unfolding read_item
  read_item_ok R x it m h =
      ok_then (ok_items 22 x m) (λ ys m₁ _.
      ok_then (ok_any (name 22 (item ys 0) m₁)) (λ n m₂ _.
      ok_if (marked n.bytes && eqb (count ys) 2) _ _ m₂
      (λ _. bind_item_ok R n.bytes (item ys 1) it m₂ h) (λ _. state_item_ok R x it m₂ h)))

  read_items_ok : (R : Rule) (xs : Sexps) (it : Items) (m : Made) → ItemsOk R it → Ok (λ u. ItemsOk R u) (read_items U R xs it m)
  unfolding read_items
  read_items_ok R nil it m h = done h
  read_items_ok R (cons x xs) it m h = ok_then (read_item_ok R x it m h) (λ u m₁ k. read_items_ok R xs u m₁ k)

  -- The conclusion ------------------------------------------------------------------------------------------------------------------

  -- as it was stated, or else built
  unfoldable pub Concluded : Tree → Bound → Option Tree → Tree → Type 0
  Concluded p b (some s) j = j ≡ s
  Concluded p b nothing j = Built p b j

  conclude_ok : (p : Tree) (o : Option Tree) (b : Bound) (m : Made) → Ok (λ j. Concluded p b o j) (conclude p o b m)
  unfolding conclude Concluded
  conclude_ok p (some s) b m = done refl
  conclude_ok p nothing b m = build_ok p b m

  -- The fact ------------------------------------------------------------------------------------------------------------------------

  module _ (r : ℕ) (k : r < length U.theory.rules) (rests : K.part (length U.facts) r) (rs : Refs) (ro : RefsOk K U vs w (length U.facts) rs) (it : Items) (io : ItemsOk (rule U.theory r) it)
      (b c : Bound) (eb : match_stated (rule U.theory r).conclusion it.stated it.bound ≡ some b)
      (ec : match_all (rule U.theory r).premises rs.judgments b ≡ some c)
      (j : Tree) (cj : Concluded (rule U.theory r).conclusion c it.stated j) where
    abbrev R : Rule
    R = rule U.theory r

    abbrev β : ℕ → Tree
    β = filled c

    wr : WellRule U.theory (rule U.theory r)
    unfolding WellTheory
    wr = w.rules r k

    all : MatchedAll R.premises rs.judgments b c
    all = matched_all R.premises rs.judgments b c ec

    prems_eq : subs β R.premises ≡ rs.judgments
    prems_eq = all.equal β (filled_agrees c)

    prem_typed : (i : ℕ) → Occs i R.premises → Typed U.theory vs (length U.vars) (β i) (rule_sort R i)
    prem_typed i o = record {
      sorts = props_bound (sig U.theory) (rule_sort R) vs β R.premises wr.prems
          (subst (λ ts. Props (sig U.theory) vs ts) (sym prems_eq) (judgments_props U.theory vs (length U.vars) rs.judgments ro.sound)) i o;
      small = λ v q. judgments_small U.theory vs (length U.vars) rs.judgments ro.sound v
          (subst (λ ts. Occs v ts) prems_eq (occs_subs β R.premises v i o q));
    }

    concl_typed : (o : Option Tree) → it.stated ≡ o → match_stated R.conclusion o it.bound ≡ some b → Concluded R.conclusion c o j
        → (sub β R.conclusion ≡ j) × ((i : ℕ) → Occ i R.conclusion → Typed U.theory vs (length U.vars) (β i) (rule_sort R i))
    unfolding match_stated Concluded Agrees Grows
    concl_typed nothing es e h = (sym h.equal, typed)
      where
        typed : (i : ℕ) → Occ i R.conclusion → Typed U.theory vs (length U.vars) (β i) (rule_sort R i)
        typed i o =
            let u = h.binds i o in
            elim (all.from i u.0 u.1) [
              | inl q ↦ subst (λ t. Typed U.theory vs (length U.vars) t (rule_sort R i)) (sym (filled_agrees c i u.0 u.1))
                  (io.bound i u.0 (ap (λ (x : Bound). x i) (some_same e) ∙ q))
              | inr q ↦ prem_typed i q
            ]
    concl_typed (some s) es e h = (equal ∙ sym h, typed)
      where
        here : Matched R.conclusion s it.bound b
        here = matched R.conclusion s it.bound b e

        equal : sub β R.conclusion ≡ s
        equal = here.equal β (λ v t q. filled_agrees c v t (all.grows v t q))

        typed : (i : ℕ) → Occ i R.conclusion → Typed U.theory vs (length U.vars) (β i) (rule_sort R i)
        typed i o = record {
          sorts = sub_sorted (sig U.theory) (rule_sort R) vs β R.conclusion PROP wr.concl
              (subst (λ t. Sorted (sig U.theory) vs t PROP) (sym equal) (io.stated s es).typed.sorts) i o;
          small = λ v q. (io.stated s es).typed.small v (subst (λ t. Occ v t) equal (occ_sub β R.conclusion v i o q));
        }

    concl : (sub β R.conclusion ≡ j) × ((i : ℕ) → Occ i R.conclusion → Typed U.theory vs (length U.vars) (β i) (rule_sort R i))
    concl = concl_typed it.stated refl eb cj

    fine : (ft : List ℕ)
        → Scoped U (union (variables_of rs.judgments) (variables_of it.values)) j (rising (length U.facts) rs.hyps)
        → Fine K U vs w (record { judgment = j; hyps = rising (length U.facts) rs.hyps; assumed = false; premises = none; general = []; footing = ft })
    unfolding Judgments Scoped Allowed Needs HypOf
    fine ft sc = record {
      well = record {
        judgment = subst (λ t. Judgment U.theory vs (length U.vars) t) concl.0
            (judgment_sub U.theory vs (length U.vars) (rule_sort R) β R.conclusion wr.concl wr.shape concl.1);
        premises = tt;
        hyps = λ h i. (let q = (in_rising (length U.facts) rs.hyps h i).0 in omega arith);
        derived = λ _. refl;
      };
      form = a_step (record {
        plain = refl;
        named = r;
        part = rests;
        β = β;
        sorts = λ i l. elim (wr.occurs i l) [ inl o ↦ (concl.1 i o).sorts | inr o ↦ (prem_typed i o).sorts ];
        occurs = wr.occurs;
        refs = subst (λ ts. RefForms U.theory vs K.known K.part U.facts (length U.facts) new ts) (sym prems_eq)
            (ro.gives new (λ h e. rising_in (length U.facts) rs.hyps h (ro.below h e) e));
        concl = concl.0;
        allowed = λ v o.
            let q = subst (λ ts. Occs v ts) prems_eq o in
            sc v (judgments_small U.theory vs (length U.vars) rs.judgments ro.sound v q)
            (true_left (variables_of rs.judgments v) (variables_of it.values v) (occs_variables_of rs.judgments v q));
      });
    }
      where
        new : Fact
        new = record { judgment = j; hyps = rising (length U.facts) rs.hyps; assumed = false; premises = none; general = []; footing = ft }

  pub step_ok : (xs : Sexps) → ((x : Sexp) → ItemOf x (item xs 3) → FreeOfRules K U vs w (length U.facts) x)
      → ((r : ℕ) → RuleAt U.theory (item xs 2) r → K.part (length U.facts) r) → (m : Made)
      → Ok (λ r. Fine K U vs w r.0) (step U xs m)
  unfolding step ItemOf RuleAt
  step_ok xs calm rests m =
      ok_then (ok_atom 33 (item xs 2) m) (λ n m₁ en.
      ok_then (ok_found 33 (rule_named U.theory n.bytes) m₁) (λ r m₂ er.
      ok_then (ok_items 37 (item xs 3) m₂) (λ ys m₃ ei.
      ok_then (ok_ask 37 (eqb (count ys) (count_trees (rule U.theory r).premises)) m₃) (λ _ m₄ _.
      ok_then (references_ok K U vs w (length U.facts) ys (λ x i. calm x (subst (λ z. ItemOf x z) (sym ei) i)) m₄) (λ rs m₅ ro.
      ok_then (read_items_ok (rule U.theory r) (rest xs 4) no_items m₅ (no_items_ok (rule U.theory r))) (λ it m₆ io.
      ok_then (ok_found 38 (match_stated (rule U.theory r).conclusion it.stated it.bound) m₆) (λ b m₇ eb.
      ok_then (ok_found 38 (match_all (rule U.theory r).premises rs.judgments b) m₇) (λ c m₈ ec.
      ok_then (conclude_ok (rule U.theory r).conclusion it.stated c m₈) (λ j m₉ cj.
      ok_then (scoped_ok U (union (variables_of rs.judgments) (variables_of it.values)) j (rising (length U.facts) rs.hyps) m₉) (λ _ m₁₀ sc.
      done (fine r (rule_known U.theory n.bytes r er) (rests r (subst (λ z. RuleAt U.theory z r) (sym en.1) er)) rs ro it io b c eb ec j cj _ sc)))))))))))
