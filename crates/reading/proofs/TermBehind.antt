-- A list that begins with a symbol, behind its arguments: their node is kept where they fit. Assumes nothing.
use mathlib.Core.Path.{◌≡◌, refl, sym, ap, ◌∙◌}
use mathlib.Core.List.{List}
use Rattle.std.specs.Prelude.{Result, Ok, Err}
use Prim.Native.Nat.{ℕ, ◌-◌, ◌≤◌}
use native.Mathlib.Omega.{arith}
use lib.ListN.{length, take, drop}
use lib.Seq.{length-take-le}
use Rattle.rules.specs.Limits.{NODE}
use Rattle.rules.specs.Out.{Out, Act, ok, refuse, then, ask}
use Rattle.rules.specs.Tree.{Tree, Trees, app}
use Rattle.rules.specs.Store.{Made, keep}
use Rattle.rules.specs.Theory.{inputs, output}
use Rattle.rules.specs.State.{State, sort_of, fit}
use Rattle.rules.specs.Read.{terms}
use Rattle.rules.specs.Laws.Out.{then_then}
use Rattle.terms.specs.declared.store.Mark.{Mark}
use Rattle.questions.specs.declared.Question.{Question}
use Rattle.terms.specs.Table.{made, tree_at, Node, Good, Stored, Refused}
use Rattle.terms.specs.On.{Stopped, On, on_start, on_is, on_ok, on_no, on_ask_yes, on_went, on_stopped, refused_stopped}
use Rattle.terms.specs.Laws.Numbers.{stored_is}
use Rattle.state.specs.declared.sizes.Sizes.{Sizes}
use Rattle.state.specs.Held.{Names}
use Rattle.reading.specs.declared.term.Typed.{Typed}
use Rattle.reading.specs.Given.{Reads, ReadsItems}
use Rattle.reading.specs.Answers.{TermRead, TypedBy, ArgumentsRead, fitting}
use Rattle.reading.specs.Heads.{Opens, Opened, finish}
use Rattle.reading.proofs.TermTrees.{fit_many}
use Rattle.reading.proofs.TermArguments.{inputs_few}

-- What the items begin with ------------------------------------------------------------------------------------------------------------

-- what `constructor_first` and `predicate_first` are given
abbrev pub opens : {K : Names} {n : Sizes} {I W : List ℕ} {m : Mark} {cells : List ℕ} → ReadsItems K n I W m cells →
    Opens K.theory K.text K.symbols n.symbols cells
opens {K} g = record { S = g.S; ins = K.inputs; xs = g.xs; held = g.reads.spelling.held; holds = g.holds }

-- Behind the arguments -----------------------------------------------------------------------------------------------------------------

-- what is left behind the arguments is left behind those that fit
fitted : (S : State) (c : ℕ) (K : Out Made Trees) → then K (finish S c) ≡ then (then K (fitting S c)) (λ ts u. keep (app c ts) u)
unfolding then
fitted S c (ok ts u) =
    sym (then_then (ask 23 (fit S.theory S.vars ts (inputs S.theory c)) u) (λ _ v. ok ts v) (λ us v. keep (app c us) v))
fitted S c (refuse q d u) = refl

module _ {K : Names} {n : Sizes} {I W : List ℕ} {m : Mark} {S : State} (g : Reads K n I W m S) {cells : List ℕ} {Q : Act Made Tree} {c : ℕ}
    (o : Opened K.text cells n.symbols S Q c) where
  -- the arguments
  abbrev pub rest_items : ReadsItems K n I W m (take (length cells - 1) (drop 1 cells))
  rest_items = record { S = S; xs = o.others; reads = g; holds = o.rest }

  module _ (J X : List ℕ) (new : Mark) where
    -- they are refused, or do not fit
    pub behind_stops : (q d : ℕ) →
        ((h : ReadsItems K n I W m (take (length cells - 1) (drop 1 cells))) → Stopped I W J X m (then (terms h.S h.xs (made I W m)) (fitting h.S c)) q d new) →
        Stopped I W J X m (Q (made I W m)) q d new
    behind_stops q d a =
        on_no (λ ts u. keep (app c ts) u) (on_is (on_start g.good) (o.is (made I W m) ∙ fitted S c (terms S o.others (made I W m)))) (a rest_items)

    module _ (node : List ℕ) {len : ℕ}
        (a : (h : ReadsItems K n I W m (take (length cells - 1) (drop 1 cells))) → ArgumentsRead I W J X m h.S c node (terms h.S h.xs (made I W m)) len new) where
      so : ArgumentsRead I W J X m S c node (terms S o.others (made I W m)) len new
      so = a rest_items

      pub behind_narrow : len ≤ NODE
      behind_narrow = omega (arith, so.many, fit_many S.theory S.vars so.trees (inputs S.theory c) so.fits, inputs_few g o.known)

      -- the cells of the node
      pub behind_length : length node ≡ NODE → len ≡ length (take len node)
      behind_length l = sym (length-take-le len node (omega (arith, behind_narrow, l)))

      -- what `keep` and `keep_typed` ask
      pub behind_node : Good J X new × Node new.terms (take len node)
      behind_node = (so.went.grown.good, so.good)

      behind_keeps : On I W m (Q (made I W m)) J X new (keep (tree_at (made J X new) (take len node)) (made J X new))
      behind_keeps =
          on_is (on_ask_yes (λ _ u. keep (app c so.trees) u) 23 (on_ok (finish S c) (on_is (on_start g.good) (o.is (made I W m))) so.went) so.fits)
          (ap (λ (t : Tree). keep t (made J X new)) (sym so.tree_is))

      -- the node is kept as a term of a sort
      sort_output : {out : ℕ} → out ≡ output S.theory c → out ≡ sort_of S.theory S.vars (tree_at (made J X new) (take len node))
      unfolding sort_of
      sort_output x = x ∙ sym (ap (sort_of S.theory S.vars) so.tree_is)

      pub behind_typed : (Y Z : List ℕ) (last : Mark) (out : ℕ) (s : Result Typed Question) → out ≡ output S.theory c →
          ((U : State) → out ≡ sort_of U.theory U.vars (tree_at (made J X new) (take len node)) →
          TypedBy J X Y Z new last U (keep (tree_at (made J X new) (take len node)) (made J X new)) s) →
          TypedBy I W Y Z m last S (Q (made I W m)) s
      behind_typed Y Z last out s x k = go s (k S (sort_output x))
        where
          go : (z : Result Typed Question) → TypedBy J X Y Z new last S (keep (tree_at (made J X new) (take len node)) (made J X new)) z → TypedBy I W Y Z m last S (Q (made I W m)) z
          go (Ok kept) w = record { read = record { went = on_went behind_keeps w.read.went; there = w.read.there }; sorted = w.sorted }
          go (Err q) w = on_stopped behind_keeps w

      -- as it is
      module _ {Y Z : List ℕ} {last : Mark} where
        pub behind_kept : {id : ℕ} →
            Stored J X Y Z new (tree_at (made J X new) (take len node)) (keep (tree_at (made J X new) (take len node)) (made J X new)) id last →
            TermRead I W Y Z m (Q (made I W m)) id last
        behind_kept w =
            record {
              went = on_went behind_keeps (record { grown = w.grown; makes = w.makes ∙ ap (λ (t : Tree). ok t (made Y Z last)) (sym (stored_is w)) });
              there = w.there;
            }

        pub behind_full : {row : ℕ} → Refused Tree J X Y Z new (keep (tree_at (made J X new) (take len node)) (made J X new)) row last →
            Stopped I W Y Z m (Q (made I W m)) 60 row last
        behind_full w = on_stopped behind_keeps (refused_stopped w)
