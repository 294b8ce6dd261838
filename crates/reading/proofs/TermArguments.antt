-- The arguments of a symbol one by one: what is read so far, what is left, and the node at the end. Assumes nothing.
use mathlib.Core.Path.{◌≡◌, refl, sym, ap, ◌∙◌, subst}
use mathlib.Core.Bool.{Bool, true, false, ◌&&◌}
use mathlib.Core.List.{List, [], ◌∷◌, ◌++◌}
use Prim.Native.Nat.{ℕ, ◌+◌, ◌≤◌, ◌<◌}
use native.Mathlib.Omega.{arith}
use native.Mathlib.Numerals.{add-one}
use native.Mathlib.Decide.{ℕ_discrete}
use Rattle.std.proofs.lemmas.Bool.{false_from_ne_true}
use lib.Dec.{eqb, ltb}
use lib.ListN.{length, get_or, take, set, length-append, length-set}
use lib.Seq.{take-suc, take-suc-set, take_all, length-take-le}
use borrow.Author.Tests.{lt-ltb}
use Rattle.rules.specs.Limits.{SYMBOLS, ARGUMENTS, TERMS, NODE}
use Rattle.rules.specs.Out.{ok, then, ask}
use Rattle.rules.specs.Sexp.{Sexps, cons, count as count_items}
use Rattle.rules.specs.Tree.{Trees, more, count_trees}
use Rattle.rules.specs.Theory.{no_symbol, inputs}
use Rattle.rules.specs.State.{State, sort_of, fit}
use Rattle.rules.specs.Read.{term, terms}
use Rattle.rules.specs.Laws.Theory.{all_at}
use Rattle.rules.specs.Laws.Store.{then_ok, then_refuse}
use Rattle.rules.specs.Laws.Out.{then_then}
use Rattle.sexp.specs.Items.{Holds}
use Rattle.sexp.specs.Each.{Here, item_long}
use Rattle.sexp.specs.declared.items.Each.{Each}
use Rattle.sexp.specs.ItemLaws.{More}
use Rattle.sexp.specs.WalkLaws.{Walk, walk_start, walk_more, walk_over, walk_rest}
use Rattle.kernel.specs.Readers.{KnownSymbol, KnownInput}
use Rattle.kernel.specs.Entries.{known_input}
use Rattle.kernel.specs.SignatureRows.{symbols_few}
use Rattle.terms.specs.declared.store.Mark.{Mark}
use Rattle.terms.specs.Table.{made, tree, tree_at, args_of, Node, is_app}
use Rattle.terms.specs.On.{Stopped, On, on_start, on_is, on_ok, on_no, on_done}
use Rattle.terms.specs.Laws.Tables.{tree_app, args_count}
use Rattle.terms.specs.Laws.Growth.{grown_args}
use Rattle.terms.specs.Laws.Below.{below_snoc, below_grown}
use Rattle.terms.specs.Laws.Patterns.{before, before_none}
use Rattle.state.specs.declared.sizes.Sizes.{Sizes}
use Rattle.state.specs.Held.{Names}
use Rattle.reading.specs.Given.{Reads, ReadsItem}
use Rattle.reading.specs.Answers.{TypedRead, ArgumentsRead, fitting}
use Rattle.reading.specs.Laws.Reading.{reads_term}
use Rattle.reading.specs.Laws.Walks.{walk_next, walk_on, then_same}
use Rattle.reading.proofs.TermTrees.{before_args, fit_snoc, fit_count}

-- A symbol that is there -----------------------------------------------------------------------------------------------------------

module _ {K : Names} {n : Sizes} {I W : List ℕ} {m : Mark} {S : State} (r : Reads K n I W m S) {c : ℕ} (l : c < n.symbols) where
  pub known_symbol : KnownSymbol K.symbols c
  known_symbol =
      record { text = K.theory; inputs = K.inputs; count = n.symbols; held = (S.theory.symbols, r.spelling.held); known = l }

  pub symbol_small : c < SYMBOLS
  symbol_small = omega (arith, symbols_few r.spelling.held, l)

  pub inputs_few : length (inputs S.theory c) ≤ ARGUMENTS
  unfolding inputs
  inputs_few = all_at S.theory.symbols c no_symbol r.spelling.held.few (omega (arith, l, r.spelling.held.many))

-- The loop -------------------------------------------------------------------------------------------------------------------------

-- k terms are read, those numbered ids, and the items `left` are left; what is made of these decides
pub record Going (K : Names) (n : Sizes) (I W : List ℕ) (old : Mark) (cells : List ℕ) (c count : ℕ) (S : State) (xs : Sexps)
    (J X node : List ℕ) (m : Mark) (at k : ℕ) (fits : Bool) : Type 0 where
  pub left : Sexps
  pub ids : List ℕ
  pub walk : Walk K.text cells at left
  pub reads : Reads K n J X m S
  pub on : On I W old (terms S xs (made I W old)) J X m (then (terms S left (made J X m)) (λ us s. ok (before (args_of (made J X m) ids) us) s))
  pub many : length ids ≡ k
  pub there : (j : ℕ) → j < length ids → get_or ids j 0 < m.terms
  pub long : length node ≡ NODE
  pub puts : k ≤ ARGUMENTS → take (k + 1) node ≡ c ∷ ids
  pub sorts : k ≤ count → fits ≡ fit S.theory S.vars (args_of (made J X m) ids) (take k (inputs S.theory c))
  pub counted : count ≡ length (inputs S.theory c)
  pub known : c < n.symbols
  pub few : k ≤ at
  pub all : count_items xs ≡ k + count_items left

pub going_begins : {K : Names} {n : Sizes} {I W : List ℕ} {m : Mark} {cells : List ℕ} {S : State} {xs : Sexps} → Reads K n I W m S → Holds K.text cells xs →
    (c count : ℕ) (node start : List ℕ) → c < n.symbols → length start ≡ NODE → node ≡ set start 0 c → count ≡ length (inputs S.theory c) →
    Going K n I W m cells c count S xs I W node m 0 0 true
unfolding before args_of fit
going_begins {I = I} {W} {m} {S = S} {xs} r h c count node start l e d q =
    record {
      left = xs;
      ids = [];
      walk = walk_start h;
      reads = r;
      on = on_is (on_start r.good) (then_same (terms S xs (made I W m)));
      many = refl;
      there = λ j b. absurd (omega arith);
      long = ap length d ∙ length-set start 0 c ∙ e;
      puts = λ _. ap (take 1) d ∙ take-suc-set start 0 c (omega (arith, e));
      sorts = λ _. refl;
      counted = q;
      known = l;
      few = omega arith;
      all = omega arith;
    }

put_long : (node after : List ℕ) (k t : ℕ) (b : Bool) → after ≡ elim b [ true ↦ set node (k + 1) t | false ↦ node ] → length after ≡ length node
put_long node after k t true e = ap length e ∙ length-set node (k + 1) t
put_long node after k t false e = ap length e

module _ {K : Names} {n : Sizes} {I W : List ℕ} {old : Mark} {cells : List ℕ} {c count : ℕ} {S : State} {xs : Sexps} {J X node : List ℕ} {m : Mark}
    {at k : ℕ} {fits : Bool} (g : Going K n I W old cells c count S xs J X node m at k fits) where
  -- what `takes` asks
  pub going_inputs : k < count → KnownInput K.inputs c k
  going_inputs l = known_input S.theory g.reads.spelling.held g.known (omega (arith, l, g.counted))

  pub going_high : k ≤ length cells
  going_high = omega (arith, g.few, g.walk.here.high)

  -- at the item that the walk hands out
  module _ {part : List ℕ} {next : Each} (w : Here cells part at next) where
    pub more_left : More g.left
    more_left = walk_more g.walk w.inside

    pub first_walk : Walk K.text cells at (cons more_left.first more_left.others)
    first_walk = subst (λ z. Walk K.text cells at z) more_left.is g.walk

    abbrev pub going_item : ReadsItem K n J X m part
    going_item =
        record {
          S = S;
          x = more_left.first;
          ys = more_left.others;
          reads = g.reads;
          holds = subst (λ z. Holds K.text z (cons more_left.first more_left.others)) (sym w.is) (walk_rest first_walk);
        }

    -- the first of the items is read next
    first_on : On I W old (terms S xs (made I W old)) J X m (then (term S more_left.first (made J X m))
        (λ t s. then (then (terms S more_left.others s) (λ ts u. ok (more t ts) u)) (λ us u. ok (before (args_of (made J X m) g.ids) us) u)))
    unfolding term
    first_on =
        on_is g.on (ap (λ z. then (terms S z (made J X m)) (λ us s. ok (before (args_of (made J X m) g.ids) us) s)) more_left.is
        ∙ then_then (term S more_left.first (made J X m)) (λ t s. then (terms S more_left.others s) (λ ts u. ok (more t ts) u))
        (λ us s. ok (before (args_of (made J X m) g.ids) us) s))

    module _ {Y Z : List ℕ} {new : Mark} where
      pub going_stops : {q d : ℕ} → ((h : ReadsItem K n J X m part) → Stopped J X Y Z m (term h.S h.x (made J X m)) q d new) →
          Stopped I W Y Z old (then (terms S xs (made I W old)) (fitting S c)) q d new
      going_stops {q} {d} a =
          let s = on_no _ first_on (a going_item) in
          record { grown = s.grown; makes = then_refuse (terms S xs (made I W old)) q d (made Y Z new) (fitting S c) s.makes }

      module _ {t sort : ℕ}
          (a : (h : ReadsItem K n J X m part) → TypedRead J X Y Z m h.S (term h.S h.x (made J X m)) t sort new) where
        read_so : TypedRead J X Y Z m S (term S more_left.first (made J X m)) t sort new
        read_so = a going_item

        -- what `put_argument` asks
        pub going_put : (length node ≡ NODE) × (t < TERMS)
        going_put = (g.long, omega (arith, read_so.read.there, read_so.read.went.grown.good.room))

        args_kept : args_of (made Y Z new) g.ids ≡ args_of (made J X m) g.ids
        args_kept = grown_args read_so.read.went.grown g.ids g.there

        agree : (ts : Trees) → before (args_of (made J X m) g.ids) (more (tree Y Z new t) ts) ≡ before (args_of (made Y Z new) (g.ids ++ (t ∷ []))) ts
        agree ts = ap (λ (us : Trees). before us (more (tree Y Z new t) ts)) (sym args_kept) ∙ sym (before_args (made Y Z new) g.ids t ts)

        next_on : On I W old (terms S xs (made I W old)) Y Z new
            (then (terms S more_left.others (made Y Z new)) (λ us s. ok (before (args_of (made Y Z new) (g.ids ++ (t ∷ []))) us) s))
        unfolding then
        next_on =
            on_is (on_ok _ first_on read_so.read.went)
            (then_then (terms S more_left.others (made Y Z new)) (λ ts u. ok (more (tree Y Z new t) ts) u)
            (λ us u. ok (before (args_of (made J X m) g.ids) us) u)
            ∙ ap (λ (F : Trees → Trees). then (terms S more_left.others (made Y Z new)) (λ ts s. ok (F ts) s)) (λ i ts. agree ts i))

        -- whether that is the sort of the input, as far as there are inputs
        right_is : {right : Bool} → right ≡ ltb k count && eqb sort (get_or (inputs S.theory c) k 0) → k < count →
            right ≡ eqb (sort_of S.theory S.vars (tree Y Z new t)) (get_or (inputs S.theory c) k 0)
        right_is s b =
            s ∙ ap (λ (z : Bool). z && eqb sort (get_or (inputs S.theory c) k 0)) (lt-ltb k count b)
            ∙ ap (λ z. eqb z (get_or (inputs S.theory c) k 0)) read_so.sorted

        next_sorts : {right : Bool} → right ≡ ltb k count && eqb sort (get_or (inputs S.theory c) k 0) → {both : Bool} → both ≡ fits && right →
            k + 1 ≤ count → both ≡ fit S.theory S.vars (args_of (made Y Z new) (g.ids ++ (t ∷ []))) (take (k + 1) (inputs S.theory c))
        next_sorts {right} s b l =
            let under : k < length (inputs S.theory c) = omega (arith, l, g.counted) in
            let same-many : length g.ids ≡ length (take k (inputs S.theory c)) = g.many ∙ sym (length-take-le k (inputs S.theory c) (omega (arith, under))) in
            b
            ∙ ap (λ (z : Bool). z && right) (g.sorts (omega (arith, l)) ∙ ap (λ (us : Trees). fit S.theory S.vars us (take k (inputs S.theory c))) (sym args_kept))
            ∙ ap (λ (z : Bool). fit S.theory S.vars (args_of (made Y Z new) g.ids) (take k (inputs S.theory c)) && z)
            (right_is s (omega (arith, l)))
            ∙ sym (fit_snoc S.theory S.vars (made Y Z new) g.ids (take k (inputs S.theory c)) t (get_or (inputs S.theory c) k 0) same-many)
            ∙ ap (fit S.theory S.vars (args_of (made Y Z new) (g.ids ++ (t ∷ []))))
            (sym (ap (λ (j : ℕ). take j (inputs S.theory c)) (add-one k) ∙ take-suc (inputs S.theory c) k 0 under))

        next_puts : (after : List ℕ) → after ≡ elim (ltb k ARGUMENTS) [ true ↦ set node (k + 1) t | false ↦ node ] → k + 1 ≤ ARGUMENTS →
            take (k + 1 + 1) after ≡ c ∷ (g.ids ++ (t ∷ []))
        next_puts after d b =
            let put : after ≡ set node (k + 1) t = d ∙ ap (λ (z : Bool). elim z [ true ↦ set node (k + 1) t | false ↦ node ]) (lt-ltb k ARGUMENTS (omega (arith, b))) in
            ap (take (k + 1 + 1)) put
            ∙ ap (λ (j : ℕ). take j (set node (k + 1) t)) (add-one (k + 1))
            ∙ take-suc-set node (k + 1) t (omega (arith, b, g.long))
            ∙ ap (λ (ws : List ℕ). ws ++ (t ∷ [])) (g.puts (omega (arith, b)))

        next_all : count_items xs ≡ k + 1 + count_items more_left.others
        unfolding count_items
        next_all = omega (arith, g.all, ap count_items more_left.is)

        pub going_on : (after : List ℕ) → after ≡ elim (ltb k ARGUMENTS) [ true ↦ set node (k + 1) t | false ↦ node ] →
            {right : Bool} → right ≡ ltb k count && eqb sort (get_or (inputs S.theory c) k 0) → {both : Bool} → both ≡ fits && right →
            Going K n I W old cells c count S xs Y Z after new next.at (k + 1) both
        going_on after d s b =
            record {
              left = more_left.others;
              ids = g.ids ++ (t ∷ []);
              walk = walk_next first_walk w.behind;
              reads = reads_term g.reads more_left.first read_so.read.went;
              on = next_on;
              many = length-append g.ids (t ∷ []) ∙ ap (λ (j : ℕ). j + 1) g.many;
              there = below_snoc g.ids (below_grown g.ids read_so.read.went.grown.more g.there) read_so.read.there;
              long = put_long node after k t (ltb k ARGUMENTS) d ∙ g.long;
              puts = next_puts after d;
              sorts = next_sorts s b;
              counted = g.counted;
              known = g.known;
              few = omega (arith, g.few, walk_on first_walk w.behind);
              all = next_all;
            }

        -- the same, by a number that is k
        pub going_at : (after : List ℕ) {j : ℕ} → j ≡ k → after ≡ elim (ltb j ARGUMENTS) [ true ↦ set node (j + 1) t | false ↦ node ] →
            {right : Bool} → right ≡ ltb j count && eqb sort (get_or (inputs S.theory c) j 0) → {both : Bool} → both ≡ fits && right →
            Going K n I W old cells c count S xs Y Z after new next.at (k + 1) both
        going_at after q d {right} s b =
            going_on after (subst (λ (j : ℕ). after ≡ elim (ltb j ARGUMENTS) [ true ↦ set node (j + 1) t | false ↦ node ]) q d)
            (subst (λ (j : ℕ). right ≡ ltb j count && eqb sort (get_or (inputs S.theory c) j 0)) q s) b

  -- nothing is left
  module _ (l : length cells ≤ at) where
    over_on : On I W old (terms S xs (made I W old)) J X m (ok (args_of (made J X m) g.ids) (made J X m))
    unfolding term then
    over_on =
        on_is g.on (ap (λ z. then (terms S z (made J X m)) (λ us s. ok (before (args_of (made J X m) g.ids) us) s)) (walk_over g.walk l)
        ∙ ap (λ (us : Trees). ok us (made J X m)) (before_none (args_of (made J X m) g.ids)))

    all_many : count_trees (args_of (made J X m) g.ids) ≡ k
    all_many = args_count (made J X m) g.ids ∙ g.many

    -- as many as inputs
    node_is : k ≡ count → take (k + 1) node ≡ c ∷ g.ids
    node_is e = g.puts (omega (arith, e, inputs_few g.reads g.known, g.counted))

    node_good : k ≡ count → Node m.terms (c ∷ g.ids)
    node_good e =
        record {
          narrow = omega (arith, g.many, e, inputs_few g.reads g.known, g.counted);
          shaped = is_app {xs = g.ids} (symbol_small g.reads g.known) g.there;
        }

    all_fit : k ≡ count → fits ≡ fit S.theory S.vars (args_of (made J X m) g.ids) (inputs S.theory c)
    all_fit e =
        g.sorts (omega (arith, e)) ∙ ap (fit S.theory S.vars (args_of (made J X m) g.ids)) (take_all k (inputs S.theory c) (omega (arith, e, g.counted)))

    -- they do not fit, or are not as many
    misfit : (fits ≡ true → k ≡ count → ⊥) → fit S.theory S.vars (args_of (made J X m) g.ids) (inputs S.theory c) ≡ false
    misfit w = elim (ℕ_discrete k count) [
      | yes e ↦ sym (all_fit e) ∙ false_from_ne_true fits (λ z. w z e)
      | no z ↦ fit_count S.theory S.vars (args_of (made J X m) g.ids) (inputs S.theory c) (λ e. z (sym all_many ∙ e ∙ sym g.counted))
    ]

    -- so many items were there
    pub going_items : {n : ℕ} → n ≡ count_items xs → n ≡ k
    unfolding count_items
    going_items e = omega (arith, e, g.all, ap count_items (walk_over g.walk l))

    pub going_misfits : (fits ≡ true → k ≡ count → ⊥) → Stopped I W J X old (then (terms S xs (made I W old)) (fitting S c)) 23 0 m
    unfolding then
    going_misfits w =
        let all = on_done over_on in
        record {
          grown = all.grown;
          makes = then_ok (terms S xs (made I W old)) (args_of (made J X m) g.ids) (made J X m) (fitting S c) all.makes
              ∙ ap (λ (b : Bool). then (ask 23 b (made J X m)) (λ _ u. ok (args_of (made J X m) g.ids) u)) (misfit w);
        }

    pub going_ends : {n : ℕ} → n ≡ count_items xs → fits ≡ true → n ≡ count → ArgumentsRead I W J X old S c node (terms S xs (made I W old)) (count + 1) m
    going_ends i f q =
        let e : k ≡ count = sym (going_items i) ∙ q in
        record {
          trees = args_of (made J X m) g.ids;
          went = on_done over_on;
          fits = sym (all_fit e) ∙ f;
          many = ap (λ (j : ℕ). j + 1) (sym (all_many ∙ e));
          tree_is = ap (λ (j : ℕ). tree_at (made J X m) (take (j + 1) node)) (sym e) ∙ ap (tree_at (made J X m)) (node_is e) ∙ tree_app (made J X m) c g.ids (symbol_small g.reads g.known);
          good = subst (λ (j : ℕ). Node m.terms (take (j + 1) node)) e (subst (Node m.terms) (sym (node_is e)) (node_good e));
        }

-- the cells that are left are no more than all
pub part_most : {cells part : List ℕ} {at : ℕ} {next : Each} → Here cells part at next → length part ≤ length cells
part_most {cells} {part} {at} w = omega (arith, item_long cells part at w.is)
