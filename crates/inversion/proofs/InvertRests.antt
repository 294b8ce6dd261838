-- What a case of `invert` may rest on: the sets answer as the list of what is allowed does, and the verdict by the sets is the definition's.
-- Assumes nothing.
use mathlib.Core.Path.{◌≡◌, refl, sym, ap, ◌∙◌, subst}
use mathlib.Core.Bool.{Bool, true, false, ◌&&◌, true≢false, false≢true}
use Rattle.std.specs.Prelude.{Option, Some as some, None as nothing, Ok, Err}
use Rattle.questions.specs.declared.Question.TheVariants.{Earlier, CaseJudgment, CaseHypotheses}
use Rattle.questions.specs.Numbers.{number_of, detail_of}
use mathlib.Core.List.{List, [], ◌∷◌, ◌++◌}
use Prim.Native.Nat.{ℕ, ◌<◌}
use native.Mathlib.Omega.{arith}
use native.Mathlib.Decide.{ℕ_discrete, dec_lt}
use lib.Dec.{eqb}
use lib.ListN.{length, get_or, replicate}
use borrow.Author.Tests.{eq-eqb, ne_eqb}
use Rattle.rules.specs.Limits.{TERMWORDS, FACTWORDS}
use Rattle.rules.specs.Text.{same}
use Rattle.rules.specs.Out.{Out, ok, refuse, then, ask, found}
use Rattle.rules.specs.Find.{Set, has, any, all, union, entry}
use Rattle.rules.specs.Tree.{Tree, Trees, var, none, more, same_tree, same_trees}
use Rattle.rules.specs.Store.{Made, number}
use Rattle.rules.specs.State.{State, Fact, is_none, is_empty, is_plain}
use Rattle.rules.specs.Reference.{fact_at}
use Rattle.rules.specs.Invert.{Allowed, is_allowed, allowed_in}
use Rattle.rules.specs.Laws.Theory.{All, empty, both}
use Rattle.rules.specs.Laws.Tree.{same_self, not_same}
use Rattle.rules.specs.Laws.Store.{Apart}
use Rattle.terms.specs.declared.store.Mark.{Mark}
use Rattle.terms.specs.Table.{made, Grown}
use Rattle.terms.specs.Sets.{holds}
use Rattle.terms.specs.Laws.Sets.{holds_zero}
use Rattle.state.specs.declared.sizes.Sizes.{Sizes}
use Rattle.state.specs.Held.{Records, Recorded}
use Rattle.state.specs.FactLaws.{fact_row_lem}
use Rattle.referring.specs.Recall.{fact_of}
use Rattle.casework.specs.Context.{plainly, plains_of, others_of, trees_of, PlainAdds, Adds, matching, rests_by}
use Rattle.inversion.specs.InvertRules.{verdict_of}
use Rattle.casework.specs.Laws.Facts.{plains_append, others_append, plain_more}
use Rattle.reading.specs.Laws.Lists.{no_entry}
use Rattle.inversion.proofs.InvertVerdicts.{Answer}
use Rattle.std.proofs.lemmas.Bool.{and_parts}

-- Numbers and trees --------------------------------------------------------------------------------------------------------------------------

same_here : (M : Made) → Apart M → (p k : ℕ) → p < length M → k < length M → same_tree (get_or M p (var 0)) (get_or M k (var 0)) ≡ eqb k p
unfolding Apart
same_here M a p k h l = elim (ℕ_discrete k p) [
  | yes e ↦ ap (λ (n : ℕ). same_tree (get_or M n (var 0)) (get_or M k (var 0))) (sym e) ∙ same_self (get_or M k (var 0)) ∙ sym (eq-eqb k p e)
  | no n ↦ not_same (get_or M p (var 0)) (get_or M k (var 0)) (λ e. n (sym (a p k h l e))) ∙ sym (ne_eqb k p n)
]

-- the number is among them just where its tree is among theirs
any_has : (M : Made) → Apart M → (k : ℕ) → k < length M → {ps : List ℕ} → All (λ (p : ℕ). p < length M) ps →
    has ps k ≡ any (λ (t : Tree). same_tree t (get_or M k (var 0))) (trees_of M ps)
unfolding has any trees_of
any_has M a k l empty = refl
any_has M a k l (both {x = p} {xs = ps} h hs) = λ i.
    elim (sym (same_here M a p k h l) i) as (λ (z : Bool). Bool) [ true ↦ true | false ↦ any_has M a k l hs i ]

-- Plain ones, and the others -----------------------------------------------------------------------------------------------------------------

none_same : (ps qs : Trees) → is_none qs ≡ true → same_trees ps qs ≡ is_none ps
unfolding is_none same_tree
none_same none none e = refl
none_same (more p ps) none e = refl
none_same ps (more q qs) e = absurd (false≢true e)

empty_same : (xs ys : List ℕ) → is_empty ys ≡ true → same xs ys ≡ is_empty xs
unfolding is_empty same
empty_same [] [] e = refl
empty_same (x ∷ xs) [] e = refl
empty_same xs (y ∷ ys) e = absurd (false≢true e)

plain_apart : (ps qs : Trees) (b : Bool) (xs ys : List ℕ) → is_none ps && is_empty xs ≡ true → is_none qs && is_empty ys ≡ false → same_trees ps qs && (b && same xs ys) ≡ false
unfolding is_none is_empty same_tree same
plain_apart none none b [] [] e f = absurd (true≢false f)
plain_apart none none true [] (y ∷ ys) e f = refl
plain_apart none none false [] (y ∷ ys) e f = refl
plain_apart none (more q qs) b [] ys e f = refl
plain_apart none qs b (x ∷ xs) ys e f = absurd (false≢true e)
plain_apart (more p ps) qs b xs ys e f = absurd (false≢true e)

module _ (f : Fact) where
  abbrev as_judged : Tree → Bool
  as_judged t = same_tree t f.judgment

  allowed_is : is_none f.premises && is_empty f.general ≡ true → (b : Allowed) →
      is_allowed f b ≡ is_none b.premises && (as_judged b.judgment && is_empty b.general)
  unfolding is_allowed
  allowed_is e b = λ i.
      none_same b.premises f.premises (and_parts (is_none f.premises) (is_empty f.general) e).0 i
      && (as_judged b.judgment && empty_same b.general f.general (and_parts (is_none f.premises) (is_empty f.general) e).1 i)

  -- a plain fact is one of those just where its judgment is one of theirs
  plain_any : is_none f.premises && is_empty f.general ≡ true → (bs : List Allowed) → any (is_allowed f) bs ≡ any as_judged (plains_of bs)
  unfolding any plainly plains_of
  plain_any e [] = refl
  plain_any e (b ∷ bs) =
      ap (λ (c : Bool). elim c as (λ (z : Bool). Bool) [ true ↦ true | false ↦ any (is_allowed f) bs ]) (allowed_is e b)
      ∙ go (is_none b.premises) (as_judged b.judgment) (is_empty b.general) refl (plain_any e bs)
    where
      go : (x y z : Bool) → as_judged b.judgment ≡ y → any (is_allowed f) bs ≡ any as_judged (plains_of bs) →
          ◌≡◌ {A = Bool} (elim (x && (y && z)) [ true ↦ true | false ↦ any (is_allowed f) bs ])
          (any as_judged (elim (x && z) as (λ (c : Bool). List Tree) [ true ↦ b.judgment ∷ plains_of bs | false ↦ plains_of bs ]))
      go true true true q h = sym (ap (λ (c : Bool). elim c as (λ (z : Bool). Bool) [ true ↦ true | false ↦ any as_judged (plains_of bs) ]) q)
      go true true false q h = h
      go true false true q h = h ∙ sym (ap (λ (c : Bool). elim c as (λ (z : Bool). Bool) [ true ↦ true | false ↦ any as_judged (plains_of bs) ]) q)
      go true false false q h = h
      go false y z q h = h

  -- another is never a plain one
  other_not : is_none f.premises && is_empty f.general ≡ false → (b : Allowed) → plainly b ≡ true → is_allowed f b ≡ false
  unfolding is_allowed plainly
  other_not e b q = plain_apart b.premises f.premises (as_judged b.judgment) b.general f.general q e

  other_any : is_none f.premises && is_empty f.general ≡ false → (bs : List Allowed) → any (is_allowed f) bs ≡ any (is_allowed f) (others_of bs)
  unfolding any others_of
  other_any e [] = refl
  other_any e (b ∷ bs) = go (plainly b) refl (other_any e bs)
    where
      go : (c : Bool) → plainly b ≡ c → any (is_allowed f) bs ≡ any (is_allowed f) (others_of bs) →
          ◌≡◌ {A = Bool} (elim (is_allowed f b) [ true ↦ true | false ↦ any (is_allowed f) bs ])
          (any (is_allowed f) (elim c as (λ (z : Bool). List Allowed) [ true ↦ others_of bs | false ↦ b ∷ others_of bs ]))
      go true q h = ap (λ (c : Bool). elim c as (λ (z : Bool). Bool) [ true ↦ true | false ↦ any (is_allowed f) bs ]) (other_not e b q) ∙ h
      go false q h = λ i. elim (is_allowed f b) as (λ (z : Bool). Bool) [ true ↦ true | false ↦ h i ]

  -- the sets answer as the list does
  rests_is : (M : Made) (h : ℕ) (plain fine : Set) (bs : List Allowed) → plain (number M f.judgment) ≡ any as_judged (plains_of bs) →
      fine h ≡ any (is_allowed f) (others_of bs) → rests_by M f h plain fine ≡ allowed_in bs (some f)
  unfolding rests_by is_plain allowed_in
  rests_is M h plain fine bs p o = go f.assumed (is_none f.premises && is_empty f.general) refl
    where
      go : (a b : Bool) → is_none f.premises && is_empty f.general ≡ b →
          ◌≡◌ {A = Bool} (elim (a && b) [ true ↦ plain (number M f.judgment) | false ↦ a && fine h ]) (a && any (is_allowed f) bs)
      go true true e = p ∙ sym (plain_any e bs)
      go true false e = o ∙ sym (other_any e bs)
      go false b e = refl

-- What the sets hold -------------------------------------------------------------------------------------------------------------------------

all_agree : {P : ℕ → Type 0} (p q : ℕ → Bool) {xs : List ℕ} → All P xs → (own : List ℕ) → ((h : ℕ) → has xs h ≡ true → has own h ≡ true) →
    ((h : ℕ) → has own h ≡ true → P h → p h ≡ q h) → all p xs ≡ all q xs
unfolding all has
all_agree p q empty own s e = refl
all_agree p q (both {x = x} {xs = xs} h hs) own s e = λ i.
    elim (e x (s x (ap (λ (b : Bool). elim b as (λ (z : Bool). Bool) [ true ↦ true | false ↦ has xs x ]) (eq-eqb x x refl))) h i) as (λ (z : Bool). Bool) [
      | true ↦ all_agree p q hs own (λ k w. s k (later k (eqb k x) w)) e i
      | false ↦ false
    ]
  where
    later : (k : ℕ) (b : Bool) → has xs k ≡ true → ◌≡◌ {A = Bool} (elim b [ true ↦ true | false ↦ has xs k ]) true
    later k true w = refl
    later k false w = w

-- the rule's premises, then the facts of the context
module _ (az : List Allowed) {J X Y Z : List ℕ} {mid new : Mark} {S : State} {own p p' p'' f f' : List ℕ} {bs : List Allowed} (first : PlainAdds (made J X mid) p p' (plains_of az))
    (only : others_of az ≡ []) (w : Grown J X Y Z mid new) (a : Adds (made Y Z new) S own p' p'' f f' bs) where
  plains_now : PlainAdds (made Y Z new) p p'' (plains_of (az ++ bs))
  plains_now = subst (λ (ts : List Tree). PlainAdds (made Y Z new) p p'' ts) (sym (plains_append az bs)) (plain_more w first a.plains)

  plains_has : p ≡ replicate TERMWORDS 0 → holds p'' ≡ has plains_now.ps
  plains_has z = plains_now.is ∙ ap (λ (s : Set). union s (has plains_now.ps)) (ap holds z ∙ holds_zero TERMWORDS)

  fines_has : f ≡ replicate FACTWORDS 0 → (h : ℕ) → has own h ≡ true → holds f' h ≡ any (is_allowed (fact_of S h)) (others_of (az ++ bs))
  fines_has z h e =
      ap (λ (s : Set). s h) (a.fines ∙ ap (λ (s : Set). union s (matching S own bs)) (ap holds z ∙ holds_zero FACTWORDS))
      ∙ ap (λ (b : Bool). b && any (is_allowed (fact_of S h)) (others_of bs)) e
      ∙ ap (any (is_allowed (fact_of S h))) (sym (others_append az bs ∙ ap (λ (xs : List Allowed). xs ++ others_of bs) only))

  module _ {R : Records} {n : Sizes} (r : Recorded R n (made Y Z new) S) (apart : Apart (made Y Z new)) (zp : p ≡ replicate TERMWORDS 0) (zf : f ≡ replicate FACTWORDS 0) where
    rests_at : (h : ℕ) → has own h ≡ true → h < n.facts →
        rests_by (made Y Z new) (fact_of S h) h (holds p'') (holds f') ≡ allowed_in (az ++ bs) (entry S.facts h)
    rests_at h e l =
        let row = fact_row_lem r h l in
        let j = row.judgment in
        rests_is (fact_of S h) (made Y Z new) h (holds p'') (holds f') (az ++ bs)
        (ap (λ (s : Set). s (number (made Y Z new) (fact_of S h).judgment)) (plains_has zp) ∙ ap (has plains_now.ps) (sym j.is)
        ∙ any_has (made Y Z new) apart _ j.below plains_now.there
        ∙ ap (any (λ (t : Tree). same_tree t (get_or (made Y Z new) _ (var 0)))) plains_now.trees
        ∙ ap (λ (u : Tree). any (λ (t : Tree). same_tree t u) (plains_of (az ++ bs))) j.tree)
        (fines_has zf h e) ∙ ap (allowed_in (az ++ bs)) (sym row.is)

    pub rests_all : {i : ℕ} → i < n.facts → own ≡ (fact_of S i).hyps →
        all (λ h. rests_by (made Y Z new) (fact_of S h) h (holds p'') (holds f')) (fact_of S i).hyps ≡ all (λ h. allowed_in (az ++ bs) (entry S.facts h)) (fact_of S i).hyps
    rests_all {i} l e =
        all_agree _ _ (fact_row_lem r i l).hyps_below own (λ h q. ap (λ (xs : List ℕ). has xs h) e ∙ q) rests_at

-- The verdict --------------------------------------------------------------------------------------------------------------------------------

abbrev pub said : Answer → Made → Out Made (Unit {0})
said (Ok _) M = ok tt M
said (Err q) M = refuse (number_of q) (detail_of q) M

module _ (S : State) (i : ℕ) (t : Tree) (M : Made) (plain fine : Set) (cs : List Allowed) where
  abbrev rests : List ℕ → Bool
  rests hs = all (λ h. rests_by M (fact_of S h) h plain fine) hs

  abbrev allows : List ℕ → Bool
  allows hs = all (λ h. allowed_in cs (entry S.facts h)) hs

  -- the questions about the case's fact
  abbrev pub asked : Out Made (Unit {0})
  asked = then (fact_at S i M) (λ f U. then (ask 43 (same_tree f.judgment t) U) (λ _ Q. ask 44 (allows f.hyps) Q))

  asked_at : Option Fact → Out Made (Unit {0})
  asked_at o = then (found 34 o M) (λ f U. then (ask 43 (same_tree f.judgment t) U) (λ _ Q. ask 44 (allows f.hyps) Q))

  verdict_at : Option Fact → Answer
  verdict_at nothing = Err Earlier
  verdict_at (some f) = elim (same_tree f.judgment t) [ false ↦ Err CaseJudgment | true ↦ elim (rests f.hyps) [ true ↦ Ok tt | false ↦ Err CaseHypotheses ] ]

  said_missing : entry S.facts i ≡ nothing → asked ≡ said (verdict_of S M i t plain fine) M
  unfolding fact_at verdict_of then asked_at verdict_at
  said_missing e = ap asked_at e ∙ sym (ap (λ (o : Option Fact). said (verdict_at o) M) e)

  said_there : {f : Fact} → entry S.facts i ≡ some f → rests f.hyps ≡ allows f.hyps → asked ≡ said (verdict_of S M i t plain fine) M
  unfolding fact_at verdict_of then asked_at verdict_at
  said_there {f} e q =
      ap asked_at e ∙ at (same_tree f.judgment t) (rests f.hyps) (allows f.hyps) q ∙ sym (ap (λ (o : Option Fact). said (verdict_at o) M) e)
    where
      at : (c x y : Bool) → x ≡ y →
          then (ask 43 c M) (λ _ Q. ask 44 y Q) ≡ said (elim c as (λ (z : Bool). Answer) [ false ↦ Err CaseJudgment | true ↦ elim x as (λ (z : Bool). Answer) [ true ↦ Ok tt | false ↦ Err CaseHypotheses ] ]) M
      at false x y e = refl
      at true true y e = ap (λ (b : Bool). ask 44 b M) (sym e)
      at true false y e = ap (λ (b : Bool). ask 44 b M) (sym e)

  pub said_is : {R : Records} {n : Sizes} {N : Made} → Recorded R n N S → (i < n.facts → rests (fact_of S i).hyps ≡ allows (fact_of S i).hyps) →
      asked ≡ said (verdict_of S M i t plain fine) M
  said_is {n = n} r e = elim (dec_lt i n.facts) [
    | yes l ↦ said_there (fact_row_lem r i l).is (e l)
    | no q ↦ said_missing (no_entry S.facts i (omega (arith, r.many)))
  ]
