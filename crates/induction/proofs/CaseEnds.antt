-- A case behind its variables: the motive at the constructor, the induction hypotheses, then the questions of its fact. Assumes nothing.
use mathlib.Core.Path.{◌≡◌, refl, sym, ap, ◌∙◌, subst}
use mathlib.Core.List.{List, ◌++◌}
use Prim.Native.Nat.{ℕ, suc, ◌*◌, ◌<◌, ◌≤◌}
use native.Mathlib.Omega.{arith}
use Rattle.std.proofs.Math.Nat.{mul-le-mul_right}
use lib.ListN.{length, take, drop, replicate, length-drop, length-replicate, length-append}
use lib.Seq.{take_at, length-take-le}
use Rattle.rules.specs.Limits.{TERMS, TERMWORDS}
use Rattle.rules.specs.Out.{Out, then}
use Rattle.rules.specs.Find.{Set, has, union}
use Rattle.rules.specs.Tree.{Trees, among}
use Rattle.rules.specs.Store.{Made}
use Rattle.rules.specs.Induct.{Motive, hypotheses}
use Rattle.terms.specs.declared.store.Mark.{Mark}
use Rattle.terms.specs.Table.{Below, made, tree, args_of}
use Rattle.terms.specs.Sets.{holds}
use Rattle.terms.specs.On.{Stopped, On, on_start, on_is, on_ok, on_no, on_done, on_refused}
use Rattle.terms.specs.Laws.Growth.{grown_tree, grown_args, grown_there, grown_trans}
use Rattle.terms.specs.Laws.Sets.{holds_zero}
use Rattle.state.specs.declared.sizes.Sizes.{Sizes}
use Rattle.state.specs.Growth.{recorded_on}
use Rattle.std.specs.Prelude.{Result, Ok, Err}
use Rattle.questions.specs.declared.Question.{Question}
use Rattle.terms.specs.Laws.Below.{below_grown}
use Rattle.induction.specs.Inducing.{Roomy, motive_in, Moved, Casing, at_constructor, hyps_in, HypsMade, BeforeRest, case_fact, asked, case_terms, InCase}
use Rattle.reading.specs.Answers.{PassedBy}
use Rattle.induction.proofs.Inducts.{among_has}
use Rattle.induction.proofs.Supposes.{hyps_front, motive_on}
use Rattle.referring.specs.Laws.Sounds.{grown_grows}
use Rattle.terms.specs.Laws.Below.{none_args}

-- the last questions are the answer
passed : {I W J X : List ℕ} {old now : Mark} {K L : Out Made (Unit {0})} (r : Result (Unit {0}) Question) → On I W old K J X now L → L ≡ asked r (made J X now) →
    PassedBy I W J X old now K r
passed (Ok t) o e = on_done (on_is o e)
passed (Err q) o e = on_refused (on_is o e)

module _ {facts lists : List ℕ} {n : Sizes} {I W : List ℕ} {m : Mark} {x sort j : ℕ} {premises used : List ℕ} {c : ℕ} {own memo : List ℕ} (sorts ids : List ℕ)
    (g : InCase facts lists n I W m x sort j premises used) (k : Casing I W m c own × (length sorts ≡ length own))
    (s : (memo ≡ replicate TERMS 0) × Roomy (length premises) ids) where
  pub end_width : length premises ≤ length ids
  end_width = omega (arith, g.motived.few, s.1)

  pub end_count : length premises ≡ length (take (length premises) ids)
  end_count = sym (length-take-le (length premises) ids end_width)

  -- the cells of the premises at the constructor are back
  module _ (J X last : List ℕ) (new : Mark) (long : length last ≡ length (take (length premises) ids)) where
    last_long : length last ≡ length premises
    last_long = long ∙ sym end_count

    back_front : take (length premises) (last ++ drop (length premises) ids) ≡ last
    back_front = take_at last (drop (length premises) ids) (length premises) last_long

    pub back_long : length (last ++ drop (length premises) ids) ≡ length ids
    back_long = omega (arith, length-append last (drop (length premises) ids), length-drop (length premises) ids, last_long, end_width)

    pub end_stopped : {q d : ℕ} → Stopped I W J X m (at_constructor (motive_in (made I W m) x sort j premises) c own (made I W m)) q d new →
        (h : InCase facts lists n I W m x sort j premises used) (i : ℕ) →
        Stopped I W J X m (case_terms h.S (motive_in (made I W m) x sort j premises) i c own sorts (made I W m)) q d new
    unfolding case_terms
    end_stopped e h i = on_no _ (on_start h.motived.good) e

    module _ {t : ℕ} (moved : Moved I W J X m (at_constructor (motive_in (made I W m) x sort j premises) c own (made I W m)) last t new) where
      pub end_insert : Below (64 * length {A = ℕ} (replicate TERMWORDS 0)) (take (length premises) (last ++ drop (length premises) ids))
      end_insert =
          subst (Below (64 * length {A = ℕ} (replicate TERMWORDS 0))) (sym back_front)
          (below_grown last (omega (arith, moved.went.grown.good.room, length-replicate {A = ℕ} TERMWORDS 0)) moved.known)

      -- the hypotheses come next
      next : (h : InCase facts lists n I W m x sort j premises used) (i : ℕ) →
          On I W m (case_terms h.S (motive_in (made I W m) x sort j premises) i c own sorts (made I W m)) J X new
          (then (hypotheses (motive_in (made J X new) x sort j premises) own sorts (made J X new))
          (λ ihs U. case_fact h.S (motive_in (made I W m) x sort j premises) (args_of (made J X new) last) ihs i (tree J X new t) U))
      unfolding case_terms
      next h i =
          on_is (on_ok _ (on_start h.motived.good) moved.went)
          (ap (λ (M : Motive). then (hypotheses M own sorts (made J X new))
          (λ ihs U. case_fact h.S (motive_in (made I W m) x sort j premises) (args_of (made J X new) last) ihs i (tree J X new t) U)) (sym (motive_on sort moved.went.grown g.motived)))

      module _ (Y Z ids' : List ℕ) (end : Mark) where
        pub end_unsupposed : {q d : ℕ} → Stopped J X Y Z new (hypotheses (motive_in (made J X new) x sort j premises) own sorts (made J X new)) q d end →
            (h : InCase facts lists n I W m x sort j premises used) (i : ℕ) →
            Stopped I W Y Z m (case_terms h.S (motive_in (made I W m) x sort j premises) i c own sorts (made I W m)) q d end
        end_unsupposed f h i = on_no _ (next h i) f

        module _ {stop : ℕ}
            (supposed : HypsMade J X Y Z new (hypotheses (motive_in (made J X new) x sort j premises) own sorts (made J X new)) (length premises) (length own) ids' stop end) where
          pub plain_right : (plain : List ℕ) → holds plain ≡ union (holds (replicate TERMWORDS 0)) (has (take (length premises) (last ++ drop (length premises) ids))) → (t : ℕ) → t < end.terms →
              holds plain t ≡ among (args_of (made J X new) last) (tree Y Z end t)
          plain_right plain q t l =
              let b : Below end.terms last = below_grown last supposed.went.grown.more moved.known in
              ap (λ (p : Set). p t) (q ∙ (λ i. union (holds_zero TERMWORDS i) (has (back_front i))))
              ∙ sym (among_has supposed.went.grown.good last b t l)
              ∙ ap (λ (ts : Trees). among ts (tree Y Z end t)) (grown_args supposed.went.grown last moved.known)

          pub end_rows : length ids' ≡ length (last ++ drop (length premises) ids) → stop ≤ length ids'
          end_rows y =
              omega (
                arith,
                supposed.place,
                mul-le-mul_right (suc (length premises)) (let z : supposed.many ≤ 16 = omega (arith, supposed.few, k.0.narrow) in z),
                g.motived.few,
                y,
                back_long,
                s.1,
              )

          rows_same : hyps_in (made Y Z end) (length premises) supposed.many ids' ≡ hyps_in (made Y Z end) (length premises) supposed.many (take stop ids')
          rows_same =
              hyps_front (made Y Z end) (length premises) supposed.many ids'
              ∙ ap (λ (n : ℕ). hyps_in (made Y Z end) (length premises) supposed.many (take n ids')) (sym supposed.place)

          module _ (plain : List ℕ)
              (q : holds plain ≡ union (holds (replicate TERMWORDS 0)) (has (take (length premises) (last ++ drop (length premises) ids))))
              (y : length ids' ≡ length (last ++ drop (length premises) ids)) where
            -- what the questions of the fact are given
            abbrev pub resting : InCase facts lists n I W m x sort j premises used → BeforeRest facts lists n plain used x (length premises) (take stop ids') t
            resting h =
                record {
                  S = h.S;
                  footings = h.footings;
                  I = Y;
                  W = Z;
                  m = end;
                  M = motive_in (made I W m) x sort j premises;
                  ps = args_of (made J X new) last;
                  many = supposed.many;
                  recorded = recorded_on (grown_grows (grown_trans moved.went.grown supposed.went.grown)) h.recorded;
                  good = supposed.went.grown.good;
                  variable_is = refl;
                  premises_are = none_args (made I W m) premises;
                  used_are = h.used_are;
                  plain_are = plain_right plain q;
                  narrow = h.motived.few;
                  filled = length-take-le stop ids' (end_rows y) ∙ supposed.place;
                  known = supposed.known;
                  there = grown_there supposed.went.grown t moved.there;
                }

            last_step : (h : InCase facts lists n I W m x sort j premises used) (i : ℕ) →
                On I W m (case_terms h.S (motive_in (made I W m) x sort j premises) i c own sorts (made I W m)) Y Z end
                (case_fact h.S (motive_in (made I W m) x sort j premises) (args_of (made J X new) last)
                (hyps_in (made Y Z end) (length premises) supposed.many (take stop ids')) i (tree Y Z end t) (made Y Z end))
            last_step h i =
                on_is (on_ok _ (next h i) supposed.went)
                (λ e. case_fact h.S (motive_in (made I W m) x sort j premises) (args_of (made J X new) last) (rows_same e) i
                (sym (grown_tree supposed.went.grown t moved.there) e) (made Y Z end))

            pub end_passed : (h : InCase facts lists n I W m x sort j premises used) (i : ℕ) (r : Result (Unit {0}) Question) →
                ((b : BeforeRest facts lists n plain used x (length premises) (take stop ids') t) →
                case_fact b.S b.M b.ps (hyps_in (made b.I b.W b.m) (length premises) b.many (take stop ids')) i (tree b.I b.W b.m t) (made b.I b.W b.m) ≡ asked r (made b.I b.W b.m)) →
                PassedBy I W Y Z m end (case_terms h.S (motive_in (made I W m) x sort j premises) i c own sorts (made I W m)) r
            end_passed h i r u = passed r (last_step h i) (u (resting h))
