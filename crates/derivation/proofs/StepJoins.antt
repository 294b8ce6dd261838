-- References one behind the other: what was read so far, put in front of what the rest gives. Assumes nothing.
use mathlib.Core.Path.{◌≡◌, refl, sym, ap, ◌∙◌}
use mathlib.Core.Logic.{⊎_elim}
use mathlib.Core.Bool.{Bool, true, false}
use mathlib.Core.List.{List, [], ◌∷◌, ◌++◌}
use Prim.Native.Nat.{ℕ, ◌+◌, ◌<◌}
use native.Mathlib.Omega.{arith}
use native.Mathlib.Numerals.{add-one}
use lib.ListN.{length, get_or, set, take}
use lib.Seq.{take-suc-set}
use Rattle.rules.specs.Out.{Out, ok, refuse, then}
use Rattle.rules.specs.Find.{Set, empty, has, union}
use Rattle.rules.specs.Sexp.{Sexp, Sexps, cons}
use Rattle.rules.specs.Tree.{Trees, var, none, more}
use Rattle.rules.specs.Store.{Made}
use Rattle.rules.specs.State.{State}
use Rattle.rules.specs.Reference.{Ref, reference}
use Rattle.rules.specs.Step.{Refs, with_ref, references}
use Rattle.rules.specs.Laws.Theory.{All, empty as none_left}
use Rattle.rules.specs.Laws.Set.{union_assoc}
use Rattle.rules.specs.Laws.Rising.{or_cases}
use Rattle.rules.specs.Laws.Out.{then_then}
use Rattle.rules.specs.Laws.Store.{then_ok, then_refuse}
use Rattle.terms.specs.Table.{args_of}
use Rattle.terms.specs.Laws.Patterns.{before}
use Rattle.state.specs.Members.{Under, has_under}
use Rattle.referring.specs.Recall.{fact_of}
use Rattle.referring.specs.Referral.{rests_on, instances_of, ref_of}

-- Judgments ------------------------------------------------------------------------------------------------------------------------

before_before : (ts us vs : Trees) → before (before ts us) vs ≡ before ts (before us vs)
unfolding before
before_before none us vs = refl
before_before (more t ts) us vs = ap (more t) (before_before ts us vs)

args_append : (M : Made) (xs ys : List ℕ) → args_of M (xs ++ ys) ≡ before (args_of M xs) (args_of M ys)
unfolding args_of before
args_append M [] ys = refl
args_append M (x ∷ xs) ys = ap (more (get_or M x (var 0))) (args_append M xs ys)

-- a cell more
args_set : (M : Made) (ids : List ℕ) (k t : ℕ) (us : Trees) → k < length ids →
    before (args_of M (take k ids)) (more (get_or M t (var 0)) us) ≡ before (args_of M (take (k + 1) (set ids k t))) us
unfolding args_of before
args_set M ids k t us l =
    sym (before_before (args_of M (take k ids)) (more (get_or M t (var 0)) none) us)
    ∙ ap (λ (ts : Trees). before ts us) (sym (args_append M (take k ids) (t ∷ [])))
    ∙ ap (λ (xs : List ℕ). before (args_of M xs) us) (sym (ap (λ (j : ℕ). take j (set ids k t)) (add-one k) ∙ take-suc-set ids k t l))

-- All that references give ------------------------------------------------------------------------------------------------------------

-- in front of the answer rs of the rest
abbrev pub joined : Trees → Set → Set → ℕ → Refs → Refs
joined ts a b n rs = record {
  judgments = before ts rs.judgments;
  hyps = union a rs.hyps;
  footing = union b rs.footing;
  instances = n + rs.instances;
}

-- in front of an answer there is nothing yet
pub joined_none : (M : Made) (ids : List ℕ) (a b : Set) (rs : Refs) → a ≡ empty → b ≡ empty → rs ≡ joined (args_of M (take 0 ids)) a b 0 rs
unfolding before args_of
joined_none M ids a b rs e f =
    let z : rs.instances ≡ 0 + rs.instances = omega arith in
    λ i. record {
      judgments = rs.judgments;
      hyps = (ap (λ (s : Set). union s rs.hyps) (sym e)) i;
      footing = (ap (λ (s : Set). union s rs.footing) (sym f)) i;
      instances = z i;
    }

-- one reference more
pub joined_ref : (S : State) (M U : Made) (ids : List ℕ) (k t i : ℕ) (bare : Bool) (a b a' b' : Set) (n c : ℕ) (rs : Refs) → k < length ids →
    args_of U (take k ids) ≡ args_of M (take k ids) → a' ≡ union a (has (rests_on S i bare)) → b' ≡ union b (has (fact_of S i).footing) → c ≡ instances_of bare →
    joined (args_of M (take k ids)) a b n (with_ref (ref_of S (get_or U t (var 0)) i bare) rs) ≡ joined (args_of U (take (k + 1) (set ids k t))) a' b' (n + c) rs
joined_ref S M U ids k t i bare a b a' b' n c rs l e ea eb en =
    let z : n + (instances_of bare + rs.instances) ≡ n + c + rs.instances = omega (arith, en) in
    λ j. record {
      judgments = (ap (λ (ts : Trees). before ts (more (get_or U t (var 0)) rs.judgments)) (sym e) ∙ args_set U ids k t rs.judgments l) j;
      hyps = (sym (union_assoc a (has (rests_on S i bare)) rs.hyps) ∙ ap (λ (s : Set). union s rs.hyps) (sym ea)) j;
      footing = (sym (union_assoc b (has (fact_of S i).footing) rs.footing) ∙ ap (λ (s : Set). union s rs.footing) (sym eb)) j;
      instances = z j;
    }

-- The definition, one reference at a time -----------------------------------------------------------------------------------------------

-- what comes behind, said otherwise
pub then_other : {S A B : Type 0} (X : Out S A) (f g : A → S → Out S B) → ((a : A) (s : S) → f a s ≡ g a s) → then X f ≡ then X g
unfolding then
then_other (ok a s) f g e = e a s
then_other (refuse n d s) f g e = refl

module _ {B : Type 0} (S : State) (x : Sexp) (ys : Sexps) (M U : Made) (f : Refs → Made → Out Made B) where
  pub references_one : (r : Ref) → reference S x M ≡ ok r U → then (references S (cons x ys) M) f ≡ then (references S ys U) (λ rs s. f (with_ref r rs) s)
  unfolding references then
  references_one r e =
      ap (λ (o : Out Made Refs). then o f) (then_ok (reference S x M) r U (λ r s. then (references S ys s) (λ rs s. ok (with_ref r rs) s)) e)
      ∙ then_then (references S ys U) (λ rs s. ok (with_ref r rs) s) f

  pub references_stop : (q d : ℕ) → reference S x M ≡ refuse q d U → then (references S (cons x ys) M) f ≡ refuse q d U
  unfolding references then
  references_stop q d e =
      ap (λ (o : Out Made Refs). then o f) (then_refuse (reference S x M) q d U (λ r s. then (references S ys s) (λ rs s. ok (with_ref r rs) s)) e)

-- What the sets are below --------------------------------------------------------------------------------------------------------------

pub joins_under : (n : ℕ) (a a' : Set) (xs : List ℕ) → Under n a → All (λ x. x < n) xs → a' ≡ union a (has xs) → Under n a'
joins_under n a a' xs u h e v f =
    ⊎_elim (λ z. u v z) (λ z. has_under xs n h v z) (or_cases (a v) (has xs v) (sym (ap (λ (s : Set). s v) e) ∙ f))

pub rests_below : (S : State) (i n : ℕ) (bare : Bool) → All (λ h. h < n) (fact_of S i).hyps → All (λ h. h < n) (rests_on S i bare)
unfolding rests_on
rests_below S i n true h = h
rests_below S i n false h = none_left
