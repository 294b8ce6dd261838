-- The loop over a list of judgments. Assumes nothing.
use mathlib.Core.Path.{◌≡◌, refl, sym, ap, ◌∙◌, subst}
use mathlib.Core.List.{List, [], ◌∷◌, ◌++◌}
use Prim.Native.Nat.{ℕ, ◌+◌, ◌-◌, ◌<◌, ◌≤◌}
use native.Mathlib.Omega.{arith}
use lib.ListN.{length, take, drop, get_or, set, replicate, length-set}
use Rattle.rules.specs.Limits.{TERMS}
use Rattle.rules.specs.Out.{Out, ok, refuse, then}
use Rattle.rules.specs.Sexp.{Sexp, Sexps, atom, list, items, count as count_items}
use Rattle.rules.specs.Tree.{Trees, more}
use Rattle.rules.specs.Store.{Made}
use Rattle.rules.specs.State.{State}
use Rattle.rules.specs.Read.{judgment, judgment_each, judgments}
use Rattle.rules.specs.TheoryTables.{filled}
use Rattle.rules.specs.Laws.Theory.{All, empty, both, all_snoc, all_map, all_at}
use Rattle.rules.specs.Laws.Out.{then_then}
use Rattle.sexp.specs.Items.{Holds, item_at, behind}
use Rattle.sexp.specs.WalkLaws.{Walk, walk_start, walk_over}
use Rattle.sexp.specs.Each.{ListOf}
use Rattle.terms.specs.declared.store.Mark.{Mark}
use Rattle.terms.specs.Table.{made, tree, args_of, Grown}
use Rattle.terms.specs.On.{Stopped, On, on_start, on_is, on_ok, on_no, on_done}
use Rattle.terms.specs.Laws.Growth.{made_length, grown_tree}
use Rattle.terms.specs.Laws.Tables.{args_count}
use Rattle.terms.specs.Laws.Numbers.{numbers_args}
use Rattle.state.specs.declared.sizes.Sizes.{Sizes}
use Rattle.state.specs.Held.{Names}
use Rattle.state.specs.Filled.{filled_none}
use Rattle.std.specs.Prelude.{Result, Ok, Err}
use Rattle.questions.specs.Numbers.{number_of, detail_of}
use Rattle.questions.specs.declared.Question.{Question}
use Rattle.terms.specs.Laws.Below.{ahead, ahead_none, ahead_snoc}
use Rattle.reading.specs.Given.{Reads, ReadsItem, ReadsItems}
use Rattle.cells.specs.Cleared.{ClearedBy}
use Rattle.reading.specs.Answers.{TermRead, ReadBy, JudgmentsRead, JudgmentsBy}
use Rattle.reading.specs.Laws.Reading.{reads_judgment, reads_item}
use Rattle.reading.specs.Laws.Walks.{Here, here, go_on, then_same}
use Rattle.reading.proofs.Filling.{length_snoc, put_more, cleared}

-- an atom is no list
pub atom_stops : (S : State) (x : Sexp) (k : ℕ) (bs : List ℕ) → x ≡ atom k bs → (M : Made) → judgments S x M ≡ refuse 22 0 M
unfolding judgments items then
atom_stops S x k bs e M = ap (λ (z : Sexp). judgments S z M) e

-- Trees by their numbers, ahead of others --------------------------------------------------------------------------------------------------

ahead_grown : {I W J X : List ℕ} {old new : Mark} → Grown I W J X old new → {ns : List ℕ} → All (λ n. n < old.terms) ns → (ts : Trees) →
    ahead (made J X new) ns ts ≡ ahead (made I W old) ns ts
unfolding ahead
ahead_grown w empty ts = refl
ahead_grown w (both {x = n} l a) ts = λ i. more (grown_tree w n l i) (ahead_grown w a ts i)

-- The loop -------------------------------------------------------------------------------------------------------------------------------

-- what is answered of the rest, behind these
abbrev pub after : Made → List ℕ → Trees → Made → Out Made Trees
after M ns ts U = ok (ahead M ns ts) U

-- these are read, and their numbers in the cells; the rest is left
pub record Judging (K : Names) (n : Sizes) (I W : List ℕ) (old : Mark) (S : State) (xs : Sexps) (cells J X out : List ℕ) (now : Mark) (k at : ℕ) : Type 0 where
  pub left : Sexps
  pub ns : List ℕ
  pub walk : Walk K.text cells at left
  pub on : On I W old (judgments S (list xs) (made I W old)) J X now (then (judgment_each S left (made J X now)) (after (made J X now) ns))
  pub below : All (λ i. i < now.terms) ns
  pub reads : Reads K n J X now S
  pub count : k ≡ length ns
  pub cells_are : out ≡ filled (length out) ns
  pub many : count_items xs ≡ k + count_items left

pub judging_start : {K : Names} {n : Sizes} {I W : List ℕ} {m : Mark} {S : State} {xs : Sexps} {cells out : List ℕ} → Reads K n I W m S →
    Holds K.text cells xs → out ≡ replicate (length out) 0 → Judging K n I W m S xs cells I W out m 0 0
unfolding judgments items then ahead
judging_start {I = I} {W} {m} {S} {xs} {out = out} r h e =
    record {
      left = xs;
      ns = [];
      walk = walk_start h;
      on = on_is (on_start r.good) (then_same (judgment_each S xs (made I W m)));
      below = empty;
      reads = r;
      count = refl;
      cells_are = e ∙ sym (filled_none (length out));
      many = omega arith;
    }

module _ {K : Names} {n : Sizes} {I W : List ℕ} {old : Mark} {S : State} {xs : Sexps} {cells J X out : List ℕ} {now : Mark} {k at : ℕ}
    (h : Judging K n I W old S xs cells J X out now k at) where
  -- nothing is left
  pub judging_over : length cells ≤ at → {many : ℕ} → many ≡ count_items xs → JudgmentsRead I W J X old (judgments S (list xs) (made I W old)) out many now
  unfolding judgment_each then count_items
  judging_over l c =
      let M = made J X now in
      let e : then (judgment_each S h.left M) (after M h.ns) ≡ ok (args_of M h.ns) M =
      ap (λ (z : Sexps). then (judgment_each S z M) (after M h.ns)) (walk_over h.walk l) ∙ ap (λ (ts : Trees). ok ts M) (ahead_none M h.ns) in
      let b : (i : ℕ) → i < length h.ns → get_or h.ns i 0 < length M =
      λ i p. subst (λ (j : ℕ). get_or h.ns i 0 < j) (sym (made_length J X now)) (all_at h.ns i 0 h.below p) in
      record {
        trees = args_of M h.ns;
        went = on_done (on_is h.on e);
        count = omega (arith, c, h.many, ap count_items (walk_over h.walk l), h.count, args_count M h.ns);
        cells_are = h.cells_are ∙ ap (filled (length out)) (sym (numbers_args M h.reads.good.apart h.ns b));
      }

  module _ (l : at < length cells) where
    -- the item that is read now
    pub judging_here : Here K.text cells at h.left
    judging_here = here h.walk l

    pub judging_item : ReadsItem K n J X now (take (length cells - at) (drop at cells))
    judging_item = reads_item h.reads judging_here.holds

    -- the judgment, then the rest
    split : On I W old (judgments S (list xs) (made I W old)) J X now
        (then (judgment S judging_here.x (made J X now))
        (λ t U. then (then (judgment_each S judging_here.ys U) (λ ts W. ok (more t ts) W)) (after (made J X now) h.ns)))
    unfolding judgment_each
    split =
        on_is h.on
        (ap (λ (z : Sexps). then (judgment_each S z (made J X now)) (after (made J X now) h.ns)) judging_here.is
        ∙ then_then (judgment S judging_here.x (made J X now)) _ _)

    -- what the call answers of it
    module _ (Y Z : List ℕ) (new : Mark) (r : Result ℕ Question)
        (f : (g : ReadsItem K n J X now (take (length cells - at) (drop at cells))) → ReadBy J X Y Z now new (judgment g.S g.x (made J X now)) r) where
      read_here : ReadBy J X Y Z now new (judgment S judging_here.x (made J X now)) r
      read_here = f (record { S = S; x = judging_here.x; ys = judging_here.ys; reads = h.reads; holds = judging_here.holds })

      pub judging_ok : {t : ℕ} → r ≡ Ok t → TermRead J X Y Z now (judgment S judging_here.x (made J X now)) t new
      judging_ok e = subst (λ z. ReadBy J X Y Z now new (judgment S judging_here.x (made J X now)) z) e read_here

      pub judging_err : {q : Question} → r ≡ Err q → Stopped I W Y Z old (judgments S (list xs) (made I W old)) (number_of q) (detail_of q) new
      judging_err e = on_no _ split (subst (λ z. ReadBy J X Y Z now new (judgment S judging_here.x (made J X now)) z) e read_here)

    module _ {Y Z : List ℕ} where
      module _ {t : ℕ} {new : Mark} (w : TermRead J X Y Z now (judgment S judging_here.x (made J X now)) t new) where
        -- a term's number fits into a cell
        pub judging_small : t < TERMS
        judging_small = omega (arith, w.there, w.went.grown.good.room)

        pub judging_more : {out' : List ℕ} {next : ℕ} → out' ≡ set out k t → next ≡ behind at (item_at cells at) →
            Judging K n I W old S xs cells Y Z out' new (k + 1) next
        unfolding then count_items
        judging_more {out'} {next} o e =
            let y = judging_here in
            let ns = h.ns in
            let g = go_on y e in
            let U = made Y Z new in
            let behind-it : (ts : Trees) → ahead (made J X now) ns (more (tree Y Z new t) ts) ≡ ahead U (ns ++ (t ∷ [])) ts =
            λ ts. sym (ahead_grown w.went.grown h.below (more (tree Y Z new t) ts)) ∙ sym (ahead_snoc U ns t ts) in
            record {
              left = y.ys;
              ns = ns ++ (t ∷ []);
              walk = g.walk;
              on = on_is (on_ok _ split w.went)
                  (then_then (judgment_each S y.ys U) _ _ ∙ ap (then (judgment_each S y.ys U)) (λ i ts W. ok (behind-it ts i) W));
              below = all_snoc (all_map (λ i p. let q = w.went.grown.more in omega (arith, p, q)) h.below) w.there;
              reads = reads_judgment h.reads y.x w.went;
              count = omega (arith, h.count, length_snoc ns t);
              cells_are = subst (λ (j : ℕ). out' ≡ filled j (ns ++ (t ∷ []))) (sym (ap length o ∙ length-set out k t)) (o ∙ put_more (length out) ns t h.cells_are h.count);
              many = omega (arith, h.many, ap count_items y.is);
            }

-- A list among items -----------------------------------------------------------------------------------------------------------------------

module _ {K : Names} {n : Sizes} {I W : List ℕ} {m : Mark} {cells : List ℕ} (g : ReadsItem K n I W m cells) {part : List ℕ}
    (l : ListOf K.text cells g.x part) where
  pub reads_inside : ReadsItems K n I W m part
  reads_inside = record { S = g.S; xs = l.items; reads = g.reads; holds = l.holds }

  -- it is read, or refused: then the cells, which were zero before, are cleared
  module _ (J X out : List ℕ) (new : Mark) (r : Result ℕ Question)
      (h : (k : ReadsItems K n I W m part) → JudgmentsBy I W J X m new (judgments k.S (list k.xs) (made I W m)) out out r) where
    inside : JudgmentsBy I W J X m new (judgments g.S g.x (made I W m)) out out r
    unfolding reads_inside
    inside = subst (λ (z : Sexp). JudgmentsBy I W J X m new (judgments g.S z (made I W m)) out out r) (sym l.is) (h reads_inside)

    pub judgments_read : {before : List ℕ} (last : List ℕ) → before ≡ replicate (length before) 0 → length out ≡ length before → ClearedBy 0 r out last →
        JudgmentsBy I W J X m new (judgments g.S g.x (made I W m)) before last r
    judgments_read {before} last o s c = go r inside c
      where
        go : (z : Result ℕ Question) → JudgmentsBy I W J X m new (judgments g.S g.x (made I W m)) out out z → ClearedBy 0 z out last →
            JudgmentsBy I W J X m new (judgments g.S g.x (made I W m)) before last z
        go (Ok many) k f = rw f k
        go (Err q) k f = (k.0, cleared out o s f)
