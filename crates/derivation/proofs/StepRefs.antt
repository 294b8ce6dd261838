-- The loop over references: what is left of the items, read from the store as it is now behind what was read, gives what all of them give.
-- Assumes nothing.
use mathlib.Core.Path.{◌≡◌, refl, sym, ap, ◌∙◌, subst}
use mathlib.Core.Bool.{Bool, true, false, not}
use mir.Val.{bool_byte}
use mathlib.Core.List.{List}
use Prim.Native.Nat.{ℕ, ◌+◌, ◌-◌, ◌^◌, ◌<◌, ◌≤◌}
use native.Mathlib.Omega.{arith}
use native.Mathlib.Decide.{ℕ_discrete}
use lib.ListN.{length, get_or, set, take, drop, replicate, length-take}
use lib.Seq.{get_or-take, get_or-set_same, get_or-set_other}
use Rattle.rules.specs.Limits.{FACTWORDS, RULEWORDS}
use Rattle.rules.specs.Out.{Out, ok, then}
use Rattle.rules.specs.Find.{union, has}
use Rattle.rules.specs.Sexp.{Sexps, cons, count}
use Rattle.rules.specs.Store.{Made}
use Rattle.rules.specs.State.{State}
use Rattle.rules.specs.Reference.{reference}
use Rattle.rules.specs.Step.{Refs, no_refs, references}
use Rattle.rules.specs.Laws.Theory.{All}
use Rattle.rules.specs.Laws.Set.{union_empty}
use Rattle.sexp.specs.Encode.{encodes}
use Rattle.sexp.specs.Items.{item_at, behind}
use Rattle.sexp.specs.WalkLaws.{Walk, walk_start, walk_over}
use Rattle.terms.specs.declared.store.Mark.{Mark}
use Rattle.terms.specs.Table.{made, args_of}
use Rattle.terms.specs.Sets.{holds}
use Rattle.terms.specs.On.{On, Stopped, on_start, on_is, on_done}
use Rattle.terms.specs.Laws.Growth.{grown_trans, grown_args}
use Rattle.terms.specs.Laws.Sets.{holds_zero}
use Rattle.state.specs.declared.sizes.Sizes.{Sizes}
use Rattle.state.specs.Held.{Names, records}
use Rattle.state.specs.Members.{Under}
use Rattle.state.specs.FactLaws.{FactRow, fact_row_lem}
use Rattle.referring.specs.Recall.{Refers, RefersItem, RecallsFact, fact_of}
use Rattle.referring.specs.Referral.{RefRead, rests_on, instances_of}
use Rattle.referring.specs.Derived.{FactForm, FewItems, RefsRead}
use Rattle.referring.specs.Laws.Refers.{refers_reference}
use Rattle.reading.specs.Laws.Walks.{Here, here, walk_next, then_same}
use Rattle.derivation.proofs.StepJoins.{joined, joined_none, joined_ref, then_other, references_one, references_stop, joins_under, rests_below}
use Rattle.terms.specs.Laws.Patterns.{before_none}

-- zs are left in the cells from a place on; k are read
pub record Left (K : Names) (facts footings lists : List ℕ) (n : Sizes) (I W : List ℕ) (old : Mark) (cells : List ℕ) (S : State) (xs : Sexps)
    (J X : List ℕ) (now : Mark) (ids hyps footing : List ℕ) (k many at : ℕ) : Type 0 where
  pub zs : Sexps
  pub walk : Walk K.text cells at zs
  pub refers : Refers K facts footings lists n J X now S
  pub on : On I W old (references S xs (made I W old)) J X now
      (then (references S zs (made J X now)) (λ rs s. ok (joined (args_of (made J X now) (take k ids)) (holds hyps) (holds footing) many rs) s))
  pub counted : k + count zs ≡ count xs
  pub there : (i : ℕ) → i < k → get_or ids i 0 < now.terms
  pub earlier : Under (length S.facts) (holds hyps)
  pub known : Under (length S.theory.rules) (holds footing)

-- of whatever state and items the tables and cells stand for
abbrev pub RefsSoFar : Names → List ℕ → List ℕ → List ℕ → Sizes → List ℕ → List ℕ → Mark → List ℕ → List ℕ → List ℕ → Mark → List ℕ → List ℕ → List ℕ → ℕ → ℕ → ℕ → Type 0
RefsSoFar K facts footings lists n I W old cells J X now ids hyps footing k many at =
    (g : FactForm K facts footings lists n I W old cells 0) → Left K facts footings lists n I W old cells g.S g.xs J X now ids hyps footing k many at

-- 1 for an instance
pub instances_are : (bare : Bool) → bool_byte (not bare) ≡ instances_of bare
unfolding instances_of
instances_are true = refl
instances_are false = refl

pub instances_few : (bare : Bool) → bool_byte (not bare) ≤ 1
instances_few true = omega arith
instances_few false = omega arith

-- a set without members
none_under : (n : ℕ) (s : List ℕ) (w : ℕ) → s ≡ replicate w 0 → Under n (holds s)
none_under n s w e v f =
    absurd (let z : true ≡ false = sym f ∙ ap (λ (l : List ℕ). holds l v) e ∙ ap (λ (a : ℕ → Bool). a v) (holds_zero w) in let q : ◌≡◌ {A = ℕ} 0 1 = cc in omega arith)

pub refs_start : {K : Names} {facts footings lists : List ℕ} {n : Sizes} {I W : List ℕ} {m : Mark} {cells ids hyps footing : List ℕ} →
    hyps ≡ replicate FACTWORDS 0 → footing ≡ replicate RULEWORDS 0 → {k at : ℕ} → k ≡ 0 → at ≡ 0 →
    RefsSoFar K facts footings lists n I W m cells I W m ids hyps footing k 0 at
refs_start {K = K} {facts} {footings} {lists} {n} {I} {W} {m} {cells = cells} {ids = ids} {hyps} {footing} a b {at = at} y z g =
    subst (λ (k : ℕ). Left K facts footings lists n I W m cells g.S g.xs I W m ids hyps footing k 0 at) (sym y) (record {
      zs = g.xs;
      walk = subst (λ (k : ℕ). Walk K.text cells k g.xs) (sym z) (walk_start g.holds);
      refers = g.refers;
      on = on_is (on_start g.refers.reads.good) (then_same (references g.S g.xs (made I W m)) ∙ then_other (references g.S g.xs (made I W m)) _ _
          (λ rs s. ap (λ (z : Refs). ok z s) (joined_none (made I W m) ids (holds hyps) (holds footing) rs
          (ap holds a ∙ holds_zero FACTWORDS) (ap holds b ∙ holds_zero RULEWORDS))));
      counted = omega arith;
      there = λ i l. absurd (omega arith);
      earlier = none_under (length g.S.facts) hyps FACTWORDS a;
      known = none_under (length g.S.theory.rules) footing RULEWORDS b;
    })

module _ {K : Names} {facts footings lists : List ℕ} {n : Sizes} {I W : List ℕ} {old : Mark} {cells : List ℕ} {S : State} {xs : Sexps} {J X : List ℕ} {now : Mark}
    {ids hyps footing : List ℕ} {k many at : ℕ} (l : Left K facts footings lists n I W old cells S xs J X now ids hyps footing k many at) where
  -- nothing is left
  pub left_done : length cells ≤ at → RefsRead I W J X old S (references S xs (made I W old)) ids hyps footing (count xs) many now
  unfolding references then count
  left_done h =
      let z = walk_over l.walk h in
      let c : k ≡ count xs = omega (arith, l.counted, ap count z) in
      record {
        refs = joined (args_of (made J X now) (take k ids)) (holds hyps) (holds footing) many no_refs;
        went = on_done (on_is l.on
            (ap (λ (zs : Sexps). then (references S zs (made J X now)) (λ rs s. ok (joined (args_of (made J X now) (take k ids)) (holds hyps) (holds footing) many rs) s)) z));
        judgments = ap (λ (i : ℕ). args_of (made J X now) (take i ids)) (sym c) ∙ sym (before_none (args_of (made J X now) (take k ids)));
        there = λ i b. l.there i (omega (arith, c));
        rests = sym (union_empty (holds hyps));
        earlier = l.earlier;
        uses = sym (union_empty (holds footing));
        known = l.known;
        counted = omega arith;
      }

  -- One reference ------------------------------------------------------------------------------------------------------------------------

  module _ (t : at < length cells) where
    pub one : Here K.text cells at l.zs
    one = here l.walk t

    abbrev pub left_given : RefersItem K facts n J X now (take (length cells - at) (drop at cells))
    left_given = record { S = S; footings = footings; lists = lists; x = one.x; ys = one.ys; refers = l.refers; holds = one.holds }

    one_count : k + (count one.ys + 1) ≡ count xs
    unfolding count
    one_count = omega (arith, l.counted, ap count one.is)

    -- a cell for its judgment
    pub left_room : {most : ℕ} → FewItems cells most → cells ≡ encodes xs → k < most
    left_room f e = omega (arith, one_count, f xs e)

    abbrev rest_of : Sexps → Out Made Refs
    rest_of zs = then (references S zs (made J X now)) (λ rs s. ok (joined (args_of (made J X now) (take k ids)) (holds hyps) (holds footing) many rs) s)

    on_one : On I W old (references S xs (made I W old)) J X now (rest_of (cons one.x one.ys))
    on_one = on_is l.on (ap rest_of one.is)

    pub left_refused : {Y Z : List ℕ} {new : Mark} {q d : ℕ} → ((h : RefersItem K facts n J X now (take (length cells - at) (drop at cells))) →
        Stopped J X Y Z now (reference h.S h.x (made J X now)) q d new) → Stopped I W Y Z old (references S xs (made I W old)) q d new
    left_refused {Y} {Z} {new} {q} {d} p =
        let s = p left_given in
        record {
          grown = grown_trans on_one.grown s.grown;
          makes = on_one.here ∙ references_stop S one.x one.ys (made J X now) (made Y Z new) _ q d s.makes;
        }

    module _ {Y Z : List ℕ} {new : Mark} {j i : ℕ} {bare : Bool} (p : (h : RefersItem K facts n J X now (take (length cells - at) (drop at cells))) →
        RefRead J X Y Z now h.S (reference h.S h.x (made J X now)) j i bare new) where
      left_ref : RefRead J X Y Z now S (reference S one.x (made J X now)) j i bare new
      left_ref = p left_given

      pub left_fits : j < 2 ^ 32
      left_fits = omega (arith, left_ref.there, left_ref.went.grown.good.room)

      pub left_there : i < n.facts
      left_there = omega (arith, left_ref.earlier, l.refers.recorded.many)

      abbrev pub left_fact : RecallsFact facts footings lists i
      left_fact = record { S = S; n = n; trees = made J X now; recorded = l.refers.recorded; there = left_there }

      row : FactRow (records facts footings lists) n (made J X now) S i (fact_of S i)
      row = fact_row_lem l.refers.recorded i left_there

      -- the numbers so far are those of terms
      so_far : (v : ℕ) → v < length (take k ids) → get_or (take k ids) v 0 < now.terms
      so_far v h =
          let a : v < k = omega (arith, length-take k ids) in
          let b : get_or (take k ids) v 0 ≡ get_or ids v 0 = get_or-take k ids v 0 a in
          omega (arith, b, l.there v a)

      there_more : (v : ℕ) → k < length ids → v < k + 1 → get_or (set ids k j) v 0 < new.terms
      there_more v room h = elim (ℕ_discrete v k) [
        | yes q ↦ let z : get_or (set ids k j) v 0 ≡ j = ap (λ (u : ℕ). get_or (set ids k j) u 0) q ∙ get_or-set_same ids k j 0 room in omega (arith, z, left_ref.there)
        | no q ↦ let z : get_or (set ids k j) v 0 ≡ get_or ids v 0 = get_or-set_other ids k v j 0 q in
            let a : v < k = omega arith in omega (arith, z, l.there v a, left_ref.went.grown.more)
      ]

      -- what the reference brings has joined, and c is 1 for an instance
      module _ (hyps' footing' : List ℕ) (b : (h : RecallsFact facts footings lists i) →
          (holds hyps' ≡ union (holds hyps) (has (rests_on h.S i bare))) × (holds footing' ≡ union (holds footing) (has (fact_of h.S i).footing))) where
        one_done : {c next : ℕ} → k < length ids → c ≡ instances_of bare → next ≡ behind at (item_at cells at) →
            Left K facts footings lists n I W old cells S xs Y Z new (set ids k j) hyps' footing' (k + 1) (many + c) next
        one_done {c} {next} room m f =
            record {
              zs = one.ys;
              walk = walk_next one.walk f;
              refers = refers_reference l.refers one.x left_ref.went;
              on = record {
                grown = grown_trans on_one.grown left_ref.went.grown;
                here = on_one.here ∙ references_one S one.x one.ys (made J X now) (made Y Z new) _ _ left_ref.went.makes
                    ∙ then_other (references S one.ys (made Y Z new)) _ _ (λ rs s. ap (λ (z : Refs). ok z s)
                    (joined_ref S (made J X now) (made Y Z new) ids k j i bare (holds hyps) (holds footing) (holds hyps') (holds footing') many c rs room
                    (grown_args left_ref.went.grown (take k ids) so_far) (b left_fact).0 (b left_fact).1 m));
              };
              counted = omega (arith, one_count);
              there = λ v h. there_more v room h;
              earlier = joins_under (length S.facts) (holds hyps) (holds hyps') (rests_on S i bare) l.earlier
                  (rests_below S i (length S.facts) bare (subst (λ (z : ℕ). All (λ h. h < z) (fact_of S i).hyps) l.refers.recorded.many row.hyps_below)) (b left_fact).0;
              known = joins_under (length S.theory.rules) (holds footing) (holds footing') (fact_of S i).footing l.known row.shaped.footing.rules (b left_fact).1;
            }

        -- v is the reference's number, w the next one's
        pub left_again : {c v w next : ℕ} → k < length ids → c ≡ instances_of bare → v ≡ k → w ≡ k + 1 → next ≡ behind at (item_at cells at) →
            Left K facts footings lists n I W old cells S xs Y Z new (set ids v j) hyps' footing' w (many + c) next
        left_again {c} {v} {w} {next} room m d e f =
            subst (λ (z : ℕ). Left K facts footings lists n I W old cells S xs Y Z new (set ids v j) hyps' footing' z (many + c) next) (sym e)
            (subst (λ (z : ℕ). Left K facts footings lists n I W old cells S xs Y Z new (set ids z j) hyps' footing' (k + 1) (many + c) next) (sym d) (one_done room m f))
