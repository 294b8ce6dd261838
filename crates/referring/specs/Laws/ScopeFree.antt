-- The variables of a hypothesis that it does not generalise. Assumes nothing.
use Rattle.std.specs.Prelude.{◌≡◌, refl, ℕ, ◌*◌, ◌≤◌, ◌<◌, length, get_or, replicate}
use Rattle.std.proofs.Math.Path.{sym, ap, subst}
use Rattle.std.proofs.Common.{◌∙◌, arith}
use Rattle.std.proofs.lemmas.List.{nil_from_length}
use mathlib.Core.List.{List, []}
use Rattle.rules.specs.Limits.{VARIABLEWORDS}
use Rattle.rules.specs.Find.{Set, empty, has, union, minus}
use Rattle.rules.specs.State.{mentioned, free}
use Rattle.rules.specs.Laws.Theory.{All, all_at}
use Rattle.rules.specs.Laws.Members.{minus_empty}
use Rattle.terms.specs.declared.store.Mark.{Mark}
use Rattle.terms.specs.Sets.{holds}
use Rattle.terms.specs.Collect.{Seen}
use Rattle.terms.specs.Laws.Sets.{holds_zero}
use Rattle.terms.specs.Laws.Seen.{seen_wider}
use Rattle.cells.specs.declared.Span.{Span}
use Rattle.state.specs.declared.sizes.Sizes.{Sizes}
use Rattle.state.specs.Rows.{general_span}
use Rattle.state.specs.Entries.{part}
use Rattle.referring.specs.Recall.{fact_of, Recalls}
use Rattle.referring.specs.Referral.{Gathered}
use Rattle.referring.specs.Laws.ScopeFacts.{row, lists_are}

has_none : has [] ≡ empty
unfolding has
has_none = refl

-- a set that was empty before others joined it
pub from_zeros : (k : ℕ) (a b : Set) → a ≡ union (holds (replicate k 0)) b → a ≡ b
from_zeros k a b e = e ∙ ap (λ (c : Set). union c b) (holds_zero k)

-- the generalised variables lie in the lists
module _ {facts lists : List ℕ} {n : Sizes} {I W : List ℕ} {m : Mark} (g : Recalls facts lists n I W m) {i : ℕ} (l : i < n.facts) {s : Span} (e : s ≡ general_span facts i) where
  pub general_order : s.from ≤ s.end
  general_order = omega (arith, ap (λ (t : Span). t.from) e, ap (λ (t : Span). t.end) e)

  pub general_end : s.end ≤ length lists
  general_end = omega (arith, ap (λ (t : Span). t.end) e, (row g l).inside, lists_are g l)

module _ {facts lists : List ℕ} {n : Sizes} {I W : List ℕ} {m : Mark} (g : Recalls facts lists n I W m) {i : ℕ} (l : i < n.facts) {own : List ℕ} (e : own ≡ part lists (general_span facts i)) where
  are : own ≡ (fact_of g.S i).general
  are = e ∙ (row g l).general

  pub general_fits : (set : List ℕ) → length set ≡ VARIABLEWORDS → (k : ℕ) → k < length own → get_or own k 0 < 64 * length set
  general_fits set q k h =
      let a : get_or own k 0 < length g.S.vars =
      all_at own k 0 (subst (All (λ v. v < length g.S.vars)) (sym are) (row g l).general_below) h in
      omega (arith, g.recorded.rows.row7)

  pub free_done : (a : Set) {seen a' all bound rest : Set} → Gathered I W m (mentioned (fact_of g.S i)) (holds (replicate VARIABLEWORDS 0)) seen all
      → bound ≡ union (holds (replicate VARIABLEWORDS 0)) (has own) → rest ≡ minus all bound → a' ≡ union a rest → a' ≡ union a (free (fact_of g.S i))
  unfolding free
  free_done a {all = all} {bound = bound} w b r f =
      let p = from_zeros VARIABLEWORDS all (mentioned (fact_of g.S i)) w.set in
      let q : bound ≡ has (fact_of g.S i).general = from_zeros VARIABLEWORDS bound (has own) b ∙ ap has are in
      f ∙ ap (union a) (r ∙ (λ k. minus (p k) (q k)))

  -- it generalises none
  pub plain_done : {seen a a' : Set} → length own ≡ 0 → Gathered I W m (mentioned (fact_of g.S i)) a seen a' → Gathered I W m (free (fact_of g.S i)) a seen a'
  unfolding free
  plain_done {seen} {a} {a'} z w =
      let f = fact_of g.S i in
      let o : f.general ≡ [] = sym are ∙ nil_from_length own z in
      let h : free f ≡ mentioned f = ap (λ (xs : List ℕ). minus (mentioned f) (has xs)) o ∙ ap (minus (mentioned f)) has_none ∙ minus_empty (mentioned f) in
      subst (λ (b : Set). Gathered I W m b a seen a') (sym h) w

-- what was visited stays right
pub joined : {I W : List ℕ} {m : Mark} {more seen a a' : Set} → Seen I W m seen a → a' ≡ union a more → Gathered I W m more a seen a'
joined {I} {W} {m} {more} {seen} s e = record { set = e; visits = subst (Seen I W m seen) (sym e) (seen_wider more s) }
