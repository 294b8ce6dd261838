-- The motive of an induction and its cases: the judgments of facts, the motive's variables, what a case rests on. Assumes nothing.
use mathlib.Core.Path.{◌≡◌, refl, sym, ap, ◌∙◌, subst}
use mathlib.Core.Bool.{Bool, true, false, ◌&&◌, ◌||◌}
use mathlib.Core.List.{List, [], ◌∷◌, ◌++◌}
use Prim.Native.Nat.{ℕ, zero, suc, ◌+◌, ◌*◌, ◌<◌, ◌≤◌}
use native.Mathlib.Omega.{arith}
use native.Mathlib.Numerals.{add-one}
use lib.Dec.{eqb}
use lib.ListN.{length, get_or, set, take, drop, replicate, length-set, length-replicate}
use lib.Seq.{take_at, take-suc, take-suc-set, take_all, get_or-set_other, sets, sets-eq}
use borrow.Author.Tests.{eq-eqb, ne_eqb}
use Rattle.rules.specs.Limits.{FACTS, FACTWORDS, TERMWORDS, VARIABLEWORDS}
use Rattle.rules.specs.Find.{Set, any, has, union, rising}
use Rattle.rules.specs.Tree.{more, same_tree, among, variables, variables_of}
use Rattle.rules.specs.Store.{Made}
use Rattle.rules.specs.State.{State}
use Rattle.rules.specs.Reference.{judgment_of, judgments_at}
use Rattle.rules.specs.Induct.{motive_vars}
use Rattle.rules.specs.Laws.Theory.{All, both, all_at}
use Rattle.rules.specs.Laws.Rising.{rising_all_of}
use Rattle.terms.specs.declared.store.Mark.{Mark}
use Rattle.terms.specs.Table.{Below, made, tree, args_of, Good}
use Rattle.terms.specs.Collect.{Seen, Visited}
use Rattle.terms.specs.Sets.{holds}
use Rattle.terms.specs.Laws.Numbers.{same_number}
use Rattle.terms.specs.Laws.Sets.{eqb_iff, holds_zero}
use Rattle.terms.specs.Laws.Seen.{seen_none}
use Rattle.facts.specs.declared.Fact.{Fact as Record}
use Rattle.facts.specs.Table.{blank}
use Rattle.state.specs.declared.sizes.Sizes.{Sizes}
use Rattle.state.specs.Held.{records, Recorded}
use Rattle.state.specs.Records.{fact_rows, fact_cell}
use Rattle.state.specs.Rows.{cell}
use Rattle.state.specs.FactLaws.{fact_row_lem}
use Rattle.referring.specs.Referral.{Gathered}
use Rattle.referring.specs.Recall.{judgment_cells}
use Rattle.induction.specs.Inducing.{motive_in, hyps_in, plain_at, Resting, BeforeRest}
use Rattle.state.specs.Members.{rising_few}

-- The judgments of facts -----------------------------------------------------------------------------------------------------------------

pub judged_number : (fs : List Record) (i : ℕ) → i < length fs → {j : ℕ} → j ≡ (get_or fs i blank).judgment → j ≡ cell 6 (fact_rows fs) i 0
judged_number fs i l e = e ∙ sym (fact_cell fs i l 0 (omega arith))

cells_snoc : (facts xs : List ℕ) (h : ℕ) → judgment_cells facts (xs ++ (h ∷ [])) ≡ judgment_cells facts xs ++ (cell 6 facts h 0 ∷ [])
unfolding judgment_cells
cells_snoc facts [] h = refl
cells_snoc facts (x ∷ xs) h = ap (λ (l : List ℕ). cell 6 facts x 0 ∷ l) (cells_snoc facts xs h)

pub members_few : (a : Set) → length (rising FACTS a) ≤ FACTS
members_few a = rising_few FACTS a

members_below : (a : Set) → All (λ h. h < FACTS) (rising FACTS a)
members_below a = rising_all_of FACTS a (λ v l e. l)

-- the first k are replaced by their judgments
pub record Judged (facts hs out : List ℕ) (k : ℕ) : Type 0 where
  pub done : take k out ≡ judgment_cells facts (take k hs)
  pub left : (i : ℕ) → k ≤ i → i < length hs → get_or out i 0 ≡ get_or hs i 0
  pub many : length out ≡ length hs

module _ (hyps : List ℕ) (wide : length hyps ≡ FACTWORDS) where
  all_words : 64 * length hyps ≡ FACTS
  all_words = omega (arith, wide)

  pub write_asks : (out : List ℕ) → length out ≡ FACTS → length (rising (64 * length hyps) (holds hyps)) ≤ length out
  write_asks out e = subst (λ (n : ℕ). length (rising n (holds hyps)) ≤ length out) (sym all_words) (omega (arith, members_few (holds hyps), e))

  module _ (before : List ℕ) {out : List ℕ} {count : ℕ} (long : length before ≡ FACTS)
      (a : (count ≡ length (rising (64 * length hyps) (holds hyps))) × (out ≡ sets before 0 (rising (64 * length hyps) (holds hyps)))) where
    written : rising (64 * length hyps) (holds hyps) ≡ rising FACTS (holds hyps)
    written = ap (λ (n : ℕ). rising n (holds hyps)) all_words

    written_out : out ≡ rising FACTS (holds hyps) ++ drop (0 + length (rising FACTS (holds hyps))) before
    written_out = a.1 ∙ ap (sets before 0) written ∙ sets-eq (rising FACTS (holds hyps)) before 0 (omega (arith, members_few (holds hyps), long))

    pub count_is : count ≡ length (rising FACTS (holds hyps))
    count_is = a.0 ∙ ap length written

    pub count_few : count ≤ FACTS
    count_few = omega (arith, count_is, members_few (holds hyps))

    pub judged_start : {facts : List ℕ} → Judged facts (rising FACTS (holds hyps)) (take count out) 0
    unfolding judgment_cells
    judged_start =
        let e : take count out ≡ rising FACTS (holds hyps) =
        ap (take count) written_out ∙ take_at (rising FACTS (holds hyps)) (drop (0 + length (rising FACTS (holds hyps))) before) count (sym count_is) in
        record { done = refl; left = λ i l m. ap (λ (z : List ℕ). get_or z i 0) e; many = ap length e }

module _ (hyps : List ℕ) {facts out : List ℕ} {k : ℕ} (h : Judged facts (rising FACTS (holds hyps)) out k) where
  module _ (l : k < length out) where
    pub judged_fact : get_or out k 0 < FACTS
    judged_fact =
        subst (λ (v : ℕ). v < FACTS) (sym (h.left k (omega arith) (omega (arith, l, h.many))))
        (all_at (rising FACTS (holds hyps)) k 0 (members_below (holds hyps)) (omega (arith, h.many, l)))

    pub judged_again : {j : ℕ} → j ≡ cell 6 facts (get_or out k 0) 0 → Judged facts (rising FACTS (holds hyps)) (set out k j) (k + 1)
    judged_again {j} e =
        let hs = rising FACTS (holds hyps) in
        record {
          done = ap (λ (n : ℕ). take n (set out k j)) (add-one k) ∙ take-suc-set out k j l
              ∙ (λ i. h.done i ++ ((e ∙ ap (λ (f : ℕ). cell 6 facts f 0) (h.left k (omega arith) (omega (arith, l, h.many)))) i ∷ []))
              ∙ sym (cells_snoc facts (take k hs) (get_or hs k 0))
              ∙ ap (judgment_cells facts) (sym (take-suc hs k 0 (omega (arith, h.many, l))))
              ∙ ap (λ (n : ℕ). judgment_cells facts (take n hs)) (sym (add-one k));
          left = λ i m p. get_or-set_other out k i j 0 (λ z. omega arith) ∙ h.left i (omega arith) p;
          many = length-set out k j ∙ h.many;
        }

  pub judged_done : {count : ℕ} → count ≡ length (rising FACTS (holds hyps)) → length out ≤ k → (rest : List ℕ) →
      take count (out ++ rest) ≡ judgment_cells facts (rising FACTS (holds hyps))
  judged_done {count} e l rest =
      take_at out rest count (h.many ∙ sym e) ∙ sym (take_all k out l) ∙ h.done
      ∙ ap (judgment_cells facts) (take_all k (rising FACTS (holds hyps)) (omega (arith, h.many, l)))

-- they are the judgments that the definition takes
pub cells_are : {facts footings lists : List ℕ} {n : Sizes} {M : Made} {S : State} → Recorded (records facts footings lists) n M S → (hs : List ℕ) → All (λ h. h < n.facts) hs →
    args_of M (judgment_cells facts hs) ≡ judgments_at S.facts hs
unfolding args_of judgment_cells judgments_at judgment_of
cells_are h [] a = refl
cells_are {facts} {footings} {lists} {n} {M} {S} h (x ∷ hs) (both l a) =
    λ i. more (((fact_row_lem h x l).judgment.tree ∙ sym (ap judgment_of (fact_row_lem h x l).is)) i) (cells_are h hs a i)

pub cells_below : {facts footings lists : List ℕ} {n : Sizes} {M : Made} {S : State} → Recorded (records facts footings lists) n M S → (hs : List ℕ) → All (λ h. h < n.facts) hs →
    Below (length M) (judgment_cells facts hs)
unfolding judgment_cells
cells_below h [] a k l = absurd (omega arith)
cells_below h (x ∷ hs) (both p a) zero l = (fact_row_lem h x p).judgment.below
cells_below h (x ∷ hs) (both p a) (suc k) l = cells_below h hs a k (omega arith)

-- The motive's variables ----------------------------------------------------------------------------------------------------------------

module _ {I W : List ℕ} {m : Mark} where
  pub nothing_seen : (set : Set) → Seen I W m (holds (replicate TERMWORDS 0)) set
  nothing_seen set = seen_none I W m set (replicate TERMWORDS 0) (sym (ap (λ (n : ℕ). replicate {A = ℕ} n 0) (length-replicate {A = ℕ} TERMWORDS 0)))

  pub motive_gathers : {j : ℕ} (premises seen' : List ℕ) {seen set a : Set} →
      Visited I W m j (holds (replicate TERMWORDS 0)) (holds (replicate VARIABLEWORDS 0)) seen set →
      Gathered I W m (variables_of (args_of (made I W m) premises)) set (holds seen') a → (x sort : ℕ) →
      a ≡ motive_vars (motive_in (made I W m) x sort j premises)
  unfolding motive_vars
  motive_gathers {j} premises seen' v r x sort =
      r.set ∙ ap (λ (a : Set). union a (variables_of (args_of (made I W m) premises)))
      (v.set ∙ ap (λ (a : Set). union a (variables (tree I W m j))) (holds_zero VARIABLEWORDS))

-- What a plain hypothesis may be ------------------------------------------------------------------------------------------------------------

module _ {I W : List ℕ} {m : Mark} (g : Good I W m) where
  pub among_has : (xs : List ℕ) → Below m.terms xs → (t : ℕ) → t < m.terms → among (args_of (made I W m) xs) (tree I W m t) ≡ has xs t
  unfolding among args_of has
  among_has [] b t l = refl
  among_has (x ∷ xs) b t l =
      let e : same_tree (tree I W m x) (tree I W m t) ≡ eqb t x = same_number g x t (b 0 (omega arith)) l ∙ swap x t in
      let ih = among_has xs (λ k p. b (suc k) (omega arith)) t l in
      λ i. elim (e i) [ true ↦ true | false ↦ ih i ]
    where
      swap : (a b : ℕ) → eqb a b ≡ eqb b a
      swap a b = eqb_iff a b b a (λ e. sym e) (λ e. sym e)

  -- rows without premises
  pub judgments_has : (many : ℕ) (ids : List ℕ) → length ids ≡ many → Below m.terms ids → (t : ℕ) → t < m.terms →
      any (λ i. same_tree i.judgment (tree I W m t)) (hyps_in (made I W m) 0 many ids) ≡ has ids t
  unfolding any hyps_in has
  judgments_has zero [] r b t l = refl
  judgments_has zero (y ∷ ys) r b t l = absurd (omega arith)
  judgments_has (suc many) [] r b t l = absurd (omega arith)
  judgments_has (suc many) (y ∷ ys) r b t l =
      let e : same_tree (tree I W m y) (tree I W m t) ≡ eqb t y = same_number g y t (b 0 (omega arith)) l ∙ eqb_iff y t t y (λ z. sym z) (λ z. sym z) in
      let ih = judgments_has many ys (omega arith) (λ k p. b (suc k) (omega arith)) t l in
      λ i. elim (e i) [ true ↦ true | false ↦ ih i ]

module _ {facts lists : List ℕ} {n : Sizes} {plain used : List ℕ} {x w : ℕ} {ids : List ℕ} {j : ℕ} (g : BeforeRest facts lists n plain used x w ids j) where
  -- the motive has premises: the set is as it should be
  pub plain_with : (w ≡ 0 → ⊥) → (t : ℕ) → t < g.m.terms →
      holds plain t ≡ plain_at g.M g.ps (hyps_in (made g.I g.W g.m) w g.many ids) (tree g.I g.W g.m t)
  unfolding plain_at
  plain_with q t l =
      g.plain_are t l
      ∙ sym (or_none (among g.ps (tree g.I g.W g.m t))
      (ap (λ (b : Bool). b && any (λ i. same_tree i.judgment (tree g.I g.W g.m t)) (hyps_in (made g.I g.W g.m) w g.many ids))
      (g.premises_are ∙ ne_eqb w 0 q)))
    where
      or_none : (a : Bool) {b : Bool} → b ≡ false → (a || b) ≡ a
      or_none true e = refl
      or_none false e = e

  -- it has none: the judgments of the induction hypotheses are in the set as well
  module _ (q : w ≡ 0) where
    rows_one : length ids ≡ g.many
    rows_one = g.filled ∙ ap (λ (n : ℕ). g.many * suc n) q ∙ (let z : g.many * 1 ≡ g.many = omega arith in z)

    pub plain_without : (plain' : List ℕ) → holds plain' ≡ union (holds plain) (has ids) → (t : ℕ) → t < g.m.terms →
        holds plain' t ≡ plain_at g.M g.ps (hyps_in (made g.I g.W g.m) w g.many ids) (tree g.I g.W g.m t)
    unfolding plain_at
    plain_without plain' e t l =
        ap (λ (s : Set). s t) e
        ∙ (λ i. g.plain_are t l i || sym (judgments_has g.good g.many ids rows_one g.known t l) i)
        ∙ (λ i. among g.ps (tree g.I g.W g.m t)
        || (sym (g.premises_are ∙ eq-eqb w 0 q) i && any (λ y. same_tree y.judgment (tree g.I g.W g.m t)) (hyps_in (made g.I g.W g.m) (sym q i) g.many ids)))

  -- what the questions of the fact are given
  abbrev pub rest_given : (plain' : List ℕ) →
      ((t : ℕ) → t < g.m.terms → holds plain' t ≡ plain_at g.M g.ps (hyps_in (made g.I g.W g.m) w g.many ids) (tree g.I g.W g.m t)) →
      Resting facts lists n plain' used x w ids
  rest_given plain' e =
      record {
        S = g.S;
        footings = g.footings;
        I = g.I;
        W = g.W;
        m = g.m;
        M = g.M;
        ps = g.ps;
        many = g.many;
        recorded = g.recorded;
        good = g.good;
        variable_is = g.variable_is;
        used_are = g.used_are;
        plain_are = e;
        narrow = g.narrow;
        filled = g.filled;
        known = g.known;
      }
