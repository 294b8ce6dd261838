-- The induction hypotheses of a case, one behind the other in the cells: what the loop has made, and what is answered. Assumes nothing.
use mathlib.Core.Path.{◌≡◌, refl, sym, ap, ◌∙◌, subst}
use mathlib.Core.Bool.{Bool, true, false}
use mathlib.Core.List.{List, [], ◌∷◌, ◌++◌, append-nil, append_assoc}
use Prim.Native.Nat.{ℕ, zero, suc, ◌+◌, ◌-◌, ◌*◌, ◌<◌, ◌≤◌}
use native.Mathlib.Omega.{arith}
use native.Mathlib.Nat.{suc-mul}
use Rattle.std.proofs.Math.Nat.{mul-le-mul_right}
use native.Mathlib.Numerals.{add-one}
use native.Mathlib.Decide.{dec_lt}
use lib.ListN.{length, get_or, set, take, drop, length-set, length-drop}
use lib.Seq.{take-nil, take-set-le, take-take, length-take-le, get_or-take, get_or-drop, drop-drop, drop-set-add, take_at, drop_at, get_or-set_same}
use borrow.Author.Tests.{eq-eqb, ne_eqb}
use borrow.Rule.Slice.PartMut.{put_mid, mid_of, same_len_mid, mid_len, take_put}
use Rattle.rules.specs.Limits.{VARIABLES}
use Rattle.rules.specs.Out.{Out, ok, then, Act}
use Rattle.rules.specs.Store.{Made}
use Rattle.rules.specs.Induct.{Hyp, Motive, hypothesis_at, hypotheses}
use Rattle.rules.specs.Laws.Out.{then_then}
use Rattle.terms.specs.declared.store.Mark.{Mark}
use Rattle.terms.specs.Table.{Below, made, Grown}
use Rattle.terms.specs.On.{Stopped, On, on_start, on_is, on_ok, on_no, on_done}
use Rattle.terms.specs.Laws.Growth.{grown_tree, grown_args}
use Rattle.reading.specs.Laws.Walks.{then_same}
use Rattle.terms.specs.Laws.Below.{below_grown}
use Rattle.induction.specs.Inducing.{motive_in, Motived, Moved, hyp_in, hyps_in, HypsMade}

-- Rows in the cells -------------------------------------------------------------------------------------------------------------------------

drop_take : {A : Type 0} (m n k : ℕ) (xs : List A) → k ≡ m + n → drop m (take k xs) ≡ take n (drop m xs)
drop_take zero n k xs e = let z : k ≡ n = omega arith in ap (λ (i : ℕ). take i xs) z
drop_take (suc m) n k [] e = ap (drop (suc m)) (take-nil k) ∙ sym (take-nil n)
drop_take (suc m) n zero (x ∷ xs) e = absurd (omega arith)
drop_take (suc m) n (suc k) (x ∷ xs) e = drop_take m n k xs (omega arith)

-- the cells of a row more
pub rows_suc : (many w : ℕ) → suc many * suc w ≡ suc w + many * suc w
rows_suc many w = omega (arith, suc-mul many (suc w))

-- only the cells of the rows count
pub hyps_front : (M : Made) (w many : ℕ) (cells : List ℕ) → hyps_in M w many cells ≡ hyps_in M w many (take (many * suc w) cells)
unfolding hyps_in
hyps_front M w zero cells = refl
hyps_front M w (suc many) cells =
    (λ i. hyp_in M (sym (get_or-take (suc w + many * suc w) cells w 0 (omega arith)) i) (sym (take-take w (suc w + many * suc w) cells (omega arith)) i)
    ∷ (hyps_front M w many (drop (suc w) cells) ∙ ap (hyps_in M w many) (sym (drop_take (suc w) (many * suc w) (suc w + many * suc w) cells refl))) i)
    ∙ ap (λ (n : ℕ). hyps_in M w (suc many) (take n cells)) (sym (rows_suc many w))

-- one row more
hyps_more : (M : Made) (w many : ℕ) (cells : List ℕ) →
    hyps_in M w (suc many) cells ≡ hyps_in M w many cells ++ (hyp_in M (get_or cells (many * suc w + w) 0) (take w (drop (many * suc w) cells)) ∷ [])
unfolding hyps_in
hyps_more M w zero cells =
    let z : 0 * suc w ≡ 0 = omega arith in
    let y : 0 * suc w + w ≡ w = omega arith in
    λ i. hyp_in M (get_or cells (sym y i) 0) (take w (drop (sym z i) cells)) ∷ []
hyps_more M w (suc many) cells =
    let e : suc w + (many * suc w + w) ≡ suc many * suc w + w = omega (arith, rows_suc many w) in
    let f : suc w + many * suc w ≡ suc many * suc w = omega (arith, rows_suc many w) in
    ap (λ (hs : List Hyp). hyp_in M (get_or cells w 0) (take w cells) ∷ hs)
    (hyps_more M w many (drop (suc w) cells)
    ∙ (λ i. hyps_in M w many (drop (suc w) cells)
    ++ (hyp_in M ((get_or-drop (suc w) cells (many * suc w + w) 0 ∙ ap (λ (n : ℕ). get_or cells n 0) e) i) (take w ((drop-drop (many * suc w) (suc w) cells ∙ ap (λ (n : ℕ). drop n cells) f) i)) ∷ [])))

-- the rows stay as the store grows
hyps_grown : {I W J X : List ℕ} {old new : Mark} → Grown I W J X old new → (w many : ℕ) (cells : List ℕ) → many * suc w ≤ length cells →
    Below old.terms (take (many * suc w) cells) → hyps_in (made J X new) w many cells ≡ hyps_in (made I W old) w many cells
unfolding hyps_in
hyps_grown g w zero cells r b = refl
hyps_grown {old = old} g w (suc many) cells r₀ b₀ =
    let r : suc w + many * suc w ≤ length cells = omega (arith, r₀, rows_suc many w) in
    let b : Below old.terms (take (suc w + many * suc w) cells) = subst (λ (n : ℕ). Below old.terms (take n cells)) (rows_suc many w) b₀ in
    let long : length (take (suc w + many * suc w) cells) ≡ suc w + many * suc w = length-take-le (suc w + many * suc w) cells r in
    let judged : get_or cells w 0 < old.terms =
    subst (λ (v : ℕ). v < old.terms) (get_or-take (suc w + many * suc w) cells w 0 (omega arith)) (b w (omega (arith, long))) in
    let firsts : Below old.terms (take w cells) =
    λ k l.
    let z = length-take-le w cells (omega (arith, r)) in
    subst (λ (v : ℕ). v < old.terms) (get_or-take (suc w + many * suc w) cells k 0 (omega (arith, z)) ∙ sym (get_or-take w cells k 0 (omega (arith, z)))) (b k (omega (arith, long, z))) in
    let rests : Below old.terms (take (many * suc w) (drop (suc w) cells)) =
    λ k l.
    let z = length-take-le (many * suc w) (drop (suc w) cells) (omega (arith, length-drop (suc w) cells, r)) in
    subst (λ (v : ℕ). v < old.terms)
    (get_or-take (suc w + many * suc w) cells (suc w + k) 0 (omega (arith, z)) ∙ sym (get_or-drop (suc w) cells k 0) ∙ sym (get_or-take (many * suc w) (drop (suc w) cells) k 0 (omega (arith, z))))
    (b (suc w + k) (omega (arith, long, z))) in
    λ i. record { premises = grown_args g (take w cells) firsts i; judgment = grown_tree g (get_or cells w 0) judged i }
    ∷ hyps_grown g w many (drop (suc w) cells) (omega (arith, length-drop (suc w) cells, r)) rests i

-- A row that is written --------------------------------------------------------------------------------------------------------------------

module _ (ids last : List ℕ) (at w t : ℕ) (room : at + w < length ids) (long : length last ≡ length (mid_of at (at + w - at) ids)) where
  abbrev written : List ℕ
  written = set (put_mid at (at + w - at) ids last) (at + w) t

  abbrev lent : List ℕ
  lent = put_mid at (at + w - at) ids last

  last_long : length last ≡ w
  last_long = let z = long ∙ mid_len at (at + w) ids (omega (arith, room)) in omega (arith, z)

  lent_long : length lent ≡ length ids
  lent_long = same_len_mid at (at + w - at) ids last long

  pub written_long : length written ≡ length ids
  written_long = length-set lent (at + w) t ∙ lent_long

  written_before : take at written ≡ take at ids
  written_before = take-set-le at lent (at + w) t (omega arith) ∙ take_put at (at + w - at) ids last (omega (arith, room))

  written_last : get_or written (at + w) 0 ≡ t
  written_last = get_or-set_same lent (at + w) t 0 (omega (arith, lent_long, room))

  written_row : take w (drop at written) ≡ last
  written_row =
      ap (take w) (drop-set-add at lent w t) ∙ take-set-le w (drop at lent) w t (omega arith)
      ∙ ap (take w) (drop_at (take at ids) (last ++ drop (at + w - at) (drop at ids)) at (length-take-le at ids (omega (arith, room))))
      ∙ take_at last (drop (at + w - at) (drop at ids)) w last_long

-- numbers of a row more
below_row : (n a w : ℕ) (cells : List ℕ) → a + suc w ≤ length cells → Below n (take a cells) → Below n (take w (drop a cells)) → get_or cells (a + w) 0 < n →
    Below n (take (a + suc w) cells)
below_row n a w cells r before row last k l =
    let long = length-take-le (a + suc w) cells r in
    let here = get_or-take (a + suc w) cells k 0 (omega (arith, long)) in
    subst (λ (v : ℕ). v < n) (sym here)
    (elim (dec_lt k a) [
      | yes p ↦ subst (λ (v : ℕ). v < n) (get_or-take a cells k 0 p) (before k (omega (arith, length-take-le a cells (omega (arith, r)))))
      | no q ↦
          elim (dec_lt k (a + w)) [
            | yes p ↦
                let e : a + (k - a) ≡ k = omega arith in
                subst (λ (v : ℕ). v < n) (get_or-take w (drop a cells) (k - a) 0 (omega arith) ∙ get_or-drop a cells (k - a) 0 ∙ ap (λ (i : ℕ). get_or cells i 0) e)
                (row (k - a) (omega (arith, length-take-le w (drop a cells) (omega (arith, length-drop a cells, r)))))
            | no s ↦ let e : a + w ≡ k = omega (arith, long) in subst (λ (i : ℕ). get_or cells i 0 < n) e last
          ]
    ])

-- a motive in tables that have grown
module _ {I W J X : List ℕ} {old now : Mark} (sort : ℕ) {x j : ℕ} {premises : List ℕ} (w : Grown I W J X old now) (g : Motived I W old x j premises) where
  pub motive_on : motive_in (made J X now) x sort j premises ≡ motive_in (made I W old) x sort j premises
  motive_on = λ i. record { variable = x; sort = sort; judgment = grown_tree w j g.there i; premises = grown_args w premises g.known i }

-- The loop ------------------------------------------------------------------------------------------------------------------------------------

module _ (M : Motive) (v : ℕ) (vs : List ℕ) (s : ℕ) (ss : List ℕ) (U : Made) where
  abbrev next_hyps : Bool → Out Made (List Hyp)
  next_hyps b = (elim b as (λ (z : Bool). Act Made (List Hyp)) [
    | true ↦ λ B. then (hypothesis_at M v B) (λ y A. then (hypotheses M vs ss A) (λ ys C. ok (y ∷ ys) C))
    | false ↦ hypotheses M vs ss
  ]) U

  -- one of another sort
  skip_hyps : (s ≡ M.sort → ⊥) → hypotheses M (v ∷ vs) (s ∷ ss) U ≡ hypotheses M vs ss U
  unfolding hypotheses
  skip_hyps q = ap next_hyps (ne_eqb s M.sort q)

  -- one of the sort
  step_hyps : s ≡ M.sort → hypotheses M (v ∷ vs) (s ∷ ss) U ≡ then (hypothesis_at M v U) (λ y A. then (hypotheses M vs ss A) (λ ys C. ok (y ∷ ys) C))
  unfolding hypotheses
  step_hyps q = ap next_hyps (eq-eqb s M.sort q)

-- what is answered of the rest, behind these
abbrev pub behind_hyps : List Hyp → List Hyp → Made → Out Made (List Hyp)
behind_hyps hs ys U = ok (hs ++ ys) U

-- these variables and their sorts are left
pub record Supposing (I W : List ℕ) (old : Mark) (x sort j : ℕ) (premises own sorts ids₀ J X ids : List ℕ) (now : Mark) (at : ℕ) (vs ss : List ℕ) : Type 0 where
  pub many : ℕ
  pub on : On I W old (hypotheses (motive_in (made I W old) x sort j premises) own sorts (made I W old)) J X now
      (then (hypotheses (motive_in (made I W old) x sort j premises) vs ss (made J X now)) (behind_hyps (hyps_in (made J X now) (length premises) many ids)))
  pub known : Below now.terms (take (many * suc (length premises)) ids)
  pub place : at ≡ many * suc (length premises)
  pub small : Below VARIABLES vs
  pub level : length ss ≡ length vs
  pub few : many + length vs ≤ length own
  pub long : length ids ≡ length ids₀

module _ {I W : List ℕ} {old : Mark} {x j : ℕ} {premises own sorts ids₀ : List ℕ} (sort : ℕ) (g : Motived I W old x j premises)
    (q : Below VARIABLES own × (length sorts ≡ length own) × (length own * suc (length premises) ≤ length ids₀)) where
  pub supposing_start : {vs ss : List ℕ} → vs ≡ own → ss ≡ sorts → Supposing I W old x sort j premises own sorts ids₀ I W ids₀ old 0 vs ss
  unfolding hyps_in
  supposing_start {vs} {ss} ev es =
      record {
        many = 0;
        on = on_is (on_start g.good)
            (then_same (hypotheses (motive_in (made I W old) x sort j premises) own sorts (made I W old))
            ∙ (λ i. then (hypotheses (motive_in (made I W old) x sort j premises) (sym ev i) (sym es i) (made I W old)) (behind_hyps [])));
        known = λ i l. absurd (let z : 0 * suc (length premises) ≡ 0 = omega arith in omega (arith, l, ap (λ (n : ℕ). length (take n ids₀)) z));
        place = omega arith;
        small = subst (Below VARIABLES) (sym ev) q.0;
        level = ap length es ∙ q.1 ∙ sym (ap length ev);
        few = omega (arith, ap length ev);
        long = refl;
      }

  module _ {J X ids : List ℕ} {now : Mark} {at : ℕ} {vs ss : List ℕ} (h : Supposing I W old x sort j premises own sorts ids₀ J X ids now at vs ss) where
    abbrev many : ℕ
    many = h.many

    -- no variable is left
    pub supposing_done : length vs ≡ 0 → HypsMade I W J X old (hypotheses (motive_in (made I W old) x sort j premises) own sorts (made I W old)) (length premises) (length own) ids at now
    unfolding hypotheses then
    supposing_done l =
        record {
          many = many;
          went = on_done (on_is h.on
              (ap (λ (us : List ℕ). then (hypotheses (motive_in (made I W old) x sort j premises) us ss (made J X now)) (behind_hyps (hyps_in (made J X now) (length premises) many ids))) (none_long vs l)
              ∙ ap (λ (hs : List Hyp). ok hs (made J X now)) (append-nil (hyps_in (made J X now) (length premises) many ids))));
          place = h.place;
          known = subst (λ (n : ℕ). Below now.terms (take n ids)) (sym h.place) h.known;
          few = omega (arith, h.few);
        }
      where
        none_long : (us : List ℕ) → length us ≡ 0 → us ≡ []
        none_long [] z = refl
        none_long (u ∷ us) z = absurd (omega (arith, z))

    module _ {v s : ℕ} {vs' ss' : List ℕ} (ev : vs ≡ v ∷ vs') (es : ss ≡ s ∷ ss') where
      left : On I W old (hypotheses (motive_in (made I W old) x sort j premises) own sorts (made I W old)) J X now
          (then (hypotheses (motive_in (made I W old) x sort j premises) (v ∷ vs') (s ∷ ss') (made J X now)) (behind_hyps (hyps_in (made J X now) (length premises) many ids)))
      left =
          on_is h.on
          (λ i. then (hypotheses (motive_in (made I W old) x sort j premises) (ev i) (es i) (made J X now)) (behind_hyps (hyps_in (made J X now) (length premises) many ids)))

      level_left : length ss' ≡ length vs'
      level_left = omega (arith, ap length ev, ap length es, h.level)

      small_left : Below VARIABLES (v ∷ vs')
      small_left = subst (Below VARIABLES) ev h.small

      pub supposing_skip : (s ≡ sort → ⊥) → Supposing I W old x sort j premises own sorts ids₀ J X ids now at vs' ss'
      supposing_skip z =
          record {
            many = many;
            on = on_is left
                (ap (λ (o : Out Made (List Hyp)). then o (behind_hyps (hyps_in (made J X now) (length premises) many ids)))
                (skip_hyps (motive_in (made I W old) x sort j premises) v vs' s ss' (made J X now) z));
            known = h.known;
            place = h.place;
            small = λ k l. small_left (suc k) (omega arith);
            level = level_left;
            few = omega (arith, h.few, ap length ev);
            long = h.long;
          }

      roomy : suc many * suc (length premises) ≤ length own * suc (length premises)
      roomy = mul-le-mul_right (suc (length premises)) (let z : suc many ≤ length own = omega (arith, h.few, ap length ev) in z)

      pub supposing_room : at + length premises < length ids
      supposing_room = omega (arith, roomy, rows_suc many (length premises), q.2, h.place, h.long)

      split : s ≡ sort → On I W old (hypotheses (motive_in (made I W old) x sort j premises) own sorts (made I W old)) J X now
          (then (hypothesis_at (motive_in (made J X now) x sort j premises) v (made J X now))
          (λ y A. then (hypotheses (motive_in (made I W old) x sort j premises) vs' ss' A) (λ ys B. ok (hyps_in (made J X now) (length premises) many ids ++ (y ∷ ys)) B)))
      unfolding then
      split is =
          on_is left
          (ap (λ (o : Out Made (List Hyp)). then o (behind_hyps (hyps_in (made J X now) (length premises) many ids)))
          (step_hyps (motive_in (made I W old) x sort j premises) v vs' s ss' (made J X now) is)
          ∙ then_then (hypothesis_at (motive_in (made I W old) x sort j premises) v (made J X now)) _ _
          ∙ (λ i. then (hypothesis_at (sym (motive_on sort h.on.grown g) i) v (made J X now))
          (λ y A. then_then (hypotheses (motive_in (made I W old) x sort j premises) vs' ss' A) (λ ys B. ok (y ∷ ys) B) (behind_hyps (hyps_in (made J X now) (length premises) many ids)) i)))

      module _ (is : s ≡ sort) {Y Z : List ℕ} {new : Mark} where
        pub supposing_stopped : {r d : ℕ} → Stopped J X Y Z now (hypothesis_at (motive_in (made J X now) x sort j premises) v (made J X now)) r d new →
            Stopped I W Y Z old (hypotheses (motive_in (made I W old) x sort j premises) own sorts (made I W old)) r d new
        supposing_stopped a = on_no _ (split is) a

        module _ {last : List ℕ} {t : ℕ} (moved : Moved J X Y Z now (hypothesis_at (motive_in (made J X now) x sort j premises) v (made J X now)) last t new)
            (longs : length last ≡ length (take (at + length premises - at) (drop at ids))) where
          same_front : take (many * suc (length premises)) (written ids last at (length premises) t supposing_room longs) ≡ take (many * suc (length premises)) ids
          same_front =
              ap (λ (n : ℕ). take n (written ids last at (length premises) t supposing_room longs)) (sym h.place)
              ∙ written_before ids last at (length premises) t supposing_room longs ∙ ap (λ (n : ℕ). take n ids) h.place

          rows : hyps_in (made Y Z new) (length premises) (many + 1) (written ids last at (length premises) t supposing_room longs)
              ≡ hyps_in (made J X now) (length premises) many ids ++ (hyp_in (made Y Z new) t last ∷ [])
          rows =
              let ids' = written ids last at (length premises) t supposing_room longs in
              let w = length premises in
              let W' = made Y Z new in
              let e : at + w ≡ many * suc w + w = omega (arith, h.place) in
              ap (λ (n : ℕ). hyps_in W' w n ids') (add-one many)
              ∙ hyps_more W' w many ids'
              ∙ (λ i. (hyps_front W' w many ids' ∙ ap (hyps_in W' w many) same_front ∙ sym (hyps_front W' w many ids)
              ∙ hyps_grown moved.went.grown w many ids (omega (arith, supposing_room, h.place)) h.known) i
              ++ (hyp_in W' ((ap (λ (n : ℕ). get_or ids' n 0) (sym e) ∙ written_last ids last at w t supposing_room longs) i)
              ((ap (λ (n : ℕ). take w (drop n ids')) (sym h.place) ∙ written_row ids last at w t supposing_room longs) i) ∷ []))

          known_again : Below new.terms (take ((many + 1) * suc (length premises)) (written ids last at (length premises) t supposing_room longs))
          known_again =
              let ids' = written ids last at (length premises) t supposing_room longs in
              let w = length premises in
              let e : at + suc w ≡ (many + 1) * suc w = omega (arith, h.place, rows_suc many w, ap (λ (n : ℕ). n * suc w) (add-one many)) in
              subst (λ (n : ℕ). Below new.terms (take n ids')) e
              (below_row new.terms at w ids' (omega (arith, written_long ids last at w t supposing_room longs, supposing_room))
              (subst (Below new.terms) (sym (written_before ids last at w t supposing_room longs))
              (below_grown (take at ids) moved.went.grown.more (subst (λ (n : ℕ). Below now.terms (take n ids)) (sym h.place) h.known)))
              (subst (Below new.terms) (sym (written_row ids last at w t supposing_room longs)) moved.known)
              (subst (λ (v : ℕ). v < new.terms) (sym (written_last ids last at w t supposing_room longs)) moved.there))

          pub supposing_again : Supposing I W old x sort j premises own sorts ids₀ Y Z (written ids last at (length premises) t supposing_room longs) new
              (at + length premises + 1) vs' ss'
          supposing_again =
              record {
                many = many + 1;
                on = on_is (on_ok _ (split is) moved.went)
                    (ap (λ (f : List Hyp → Made → Out Made (List Hyp)). then (hypotheses (motive_in (made I W old) x sort j premises) vs' ss' (made Y Z new)) f)
                    (λ i ys B. ok ((sym (append_assoc (hyps_in (made J X now) (length premises) many ids) (hyp_in (made Y Z new) t last ∷ []) ys)
                    ∙ ap (λ (hs : List Hyp). hs ++ ys) (sym rows)) i) B));
                known = known_again;
                place = omega (arith, h.place, rows_suc many (length premises), ap (λ (n : ℕ). n * suc (length premises)) (add-one many));
                small = λ k l. small_left (suc k) (omega arith);
                level = level_left;
                few = omega (arith, h.few, ap length ev);
                long = written_long ids last at (length premises) t supposing_room longs ∙ h.long;
              }
