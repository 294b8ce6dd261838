-- The tree of names: a name's way through it, and a name that comes in. Assumes nothing.
use mathlib.Core.Path.{◌≡◌, refl, sym, ap, ◌∙◌, subst}
use mathlib.Core.Bool.{Bool, true, false, true≢false}
use mathlib.Core.List.{List}
use Prim.Native.Nat.{ℕ, suc, ◌+◌, ◌*◌, ◌/◌, ◌%◌, ◌^◌, ◌<◌, ◌≤◌}
use Rattle.std.specs.Prelude.{Option, Some as some, None as nothing}
use Rattle.std.specs.Option.{MatchOption}
use Rattle.std.specs.Slice.{IsItemAt}
use Rattle.std.proofs.Common.{Bor}
use native.Mathlib.Omega.{arith}
use native.Mathlib.Numerals.{add-one}
use native.Mathlib.Decide.{ℕ_discrete}
use native.Mathlib.Nat.{zero-div}
use lib.ListN.{length, get_or, set, length-set, get_or-eq_default}
use lib.Seq.{get_or-set_same, get_or-set_other}
use Rattle.rules.specs.Text.{same}
use Rattle.rules.specs.Laws.Text.{same_self, same_equal}
use Rattle.casework.specs.Distinct.{turn_of, between, name_of, Way, done, on, Comes, Tree, IsMet, IsFree, Entered}

-- Turns ------------------------------------------------------------------------------------------------------------------------------------------

-- where the name is over, 0; else the bit of a letter
pub turned : (name : List ℕ) (d : ℕ) {r : ℕ} (o : Option (Bor ℕ)) → IsItemAt name (d / 8) o →
    MatchOption o (r ≡ 0) (λ x. r ≡ x.now / 2 ^ (d % 8) % 2) → (r ≡ turn_of name d) × (r < 2)
unfolding turn_of
turned name d nothing l e =
    let over : length name ≤ d / 8 = l.3 in
    (e ∙ sym (ap (λ (v : ℕ). v / 2 ^ (d % 8) % 2) (get_or-eq_default name 0 {n = d / 8} over) ∙ ap (λ (v : ℕ). v % 2) (zero-div (2 ^ (d % 8)))), omega (arith, e))
turned name d (some x) l e = (e ∙ ap (λ (v : ℕ). v / 2 ^ (d % 8) % 2) (l.3.1 0), omega (arith, e))

-- Ways -------------------------------------------------------------------------------------------------------------------------------------------

pub way_snoc : {links name : List ℕ} {cell depth c d : ℕ} → Way links name cell depth c d → 0 < get_or links cell 0 →
    Way links name (2 * get_or links cell 0 + turn_of name depth) (suc depth) c d
way_snoc done p = on p done
way_snoc (on q w) p = on q (way_snoc w p)

-- cells that are 0 get another value: ways stay
abbrev Grows : List ℕ → List ℕ → Type 0
Grows links links' = (c : ℕ) → 0 < get_or links c 0 → get_or links' c 0 ≡ get_or links c 0

way_more : {links links' name : List ℕ} {cell depth c d : ℕ} → Grows links links' → Way links name cell depth c d → Way links' name cell depth c d
way_more g done = done
way_more {links} {links'} {name} {cell} {depth} g (on {c = c} {d = d} p w) =
    let e = g c p in
    on {c = c} {d = d} (omega (arith, p, e)) (subst (λ (v : ℕ). Way links' name cell depth (2 * v + turn_of name d) (suc d)) (sym e) (way_more g w))

-- from a cell that is 0 it comes to no node
comes_nowhere : {links name : List ℕ} {c d n : ℕ} → Comes links name c d n → get_or links c 0 ≡ 0 → 1 ≤ n → ⊥
comes_nowhere {links} {name} {c} {d} {n} k z l = go k.way k.is
  where
    go : {cell depth : ℕ} → Way links name cell depth c d → get_or links cell 0 ≡ n → ⊥
    go done e = omega (arith, z, e, l)
    go (on p w) e = omega (arith, z, p)

-- to the node that is here, or to one further on
comes_on : {links name : List ℕ} {c d n : ℕ} → Comes links name c d n → (get_or links c 0 ≡ n → ⊥) → Comes links name (2 * get_or links c 0 + turn_of name d) (suc d) n
comes_on {links} {name} {c} {d} {n} k q = go k.way k.is
  where
    go : {cell depth : ℕ} → Way links name cell depth c d → get_or links cell 0 ≡ n → Comes links name (2 * get_or links c 0 + turn_of name d) (suc d) n
    go done e = absurd (q e)
    go {cell} {depth} (on p w) e = record { cell = cell; depth = depth; way = w; is = e }

-- The loop that follows a name -------------------------------------------------------------------------------------------------------------------

pub record Sought (text name places links : List ℕ) (many cell depth : ℕ) : Type 0 where
  pub way : Way links name cell depth 0 0
  pub near : cell ≤ 2 * many + 1
  pub deep : depth ≤ cell
  pub ahead : (n : ℕ) → 1 ≤ n → n ≤ many → name_of text places n ≡ name → Comes links name cell depth n

module _ {text places links : List ℕ} {many : ℕ} (t : Tree text places links many) (name : List ℕ) where
  pub sought_start : Sought text name places links many 0 0
  sought_start = record {
    way = done;
    near = omega arith;
    deep = omega arith;
    ahead = λ n l h e. subst (λ (m : List ℕ). Comes links m 0 0 n) e (t.there n l h);
  }

  module _ {cell depth : ℕ} (s : Sought text name places links many cell depth) where
    pub sought_free : get_or links cell 0 ≡ 0 → IsFree text places links many name cell
    sought_free z = record {
      depth = depth;
      way = s.way;
      empty = z;
      near = s.near;
      new = λ n l h e. comes_nowhere (s.ahead n l h e) z l;
    }

    module _ (z : get_or links cell 0 ≡ 0 → ⊥) where
      some_node : 1 ≤ get_or links cell 0
      some_node = omega (arith, z)

      module _ {b : Bool} (e : b ≡ same (name_of text places (get_or links cell 0)) name) where
        pub sought_met : b ≡ true → IsMet text places many name
        sought_met y = record {
          n = get_or links cell 0;
          some = some_node;
          few = t.known cell;
          is = same_equal (name_of text places (get_or links cell 0)) name (sym e ∙ y);
        }

        module _ (y : b ≡ false) {turn : ℕ} (u : turn ≡ turn_of name depth) (w : turn < 2) where
          other : (n : ℕ) → name_of text places n ≡ name → get_or links cell 0 ≡ n → ⊥
          other n m q =
              true≢false (sym (same_self name) ∙ ap (λ (x : List ℕ). same x name) (sym m ∙ ap (name_of text places) (sym q)) ∙ sym e ∙ y)

          pub sought_rise : cell < 2 * get_or links cell 0 + turn
          sought_rise = let r = t.rise cell some_node in omega (arith, r)

          pub sought_near : 2 * get_or links cell 0 + turn ≤ 2 * many + 1
          sought_near = let k = t.known cell in omega (arith, k, w)

          pub sought_on : Sought text name places links many (2 * get_or links cell 0 + turn) (depth + 1)
          sought_on =
              let r = sought_rise in
              subst (λ (d : ℕ). Sought text name places links many (2 * get_or links cell 0 + turn) d) (sym (add-one depth))
              (subst (λ (x : ℕ). Sought text name places links many (2 * get_or links cell 0 + x) (suc depth)) (sym u)
              (record {
                way = way_snoc s.way some_node;
                near = let k = sought_near in omega (arith, k, u);
                deep = omega (arith, r, u, s.deep);
                ahead = λ n l h m. comes_on (s.ahead n l h m) (other n m);
              }))

-- A name that comes in ---------------------------------------------------------------------------------------------------------------------------

module _ {text places links : List ℕ} {many : ℕ} (t : Tree text places links many) {start end cell : ℕ} (l : 2 * many + 4 ≤ length places) (a : start ≤ end) (b : end ≤ length text)
    (f : IsFree text places links many (between text start end) cell) where
  abbrev placed : List ℕ
  placed = set (set places (2 * (many + 1)) start) (2 * (many + 1) + 1) end

  abbrev linked : List ℕ
  linked = set links cell (many + 1)

  placed_start : get_or placed (2 * (many + 1)) 0 ≡ start
  placed_start =
      get_or-set_other (set places (2 * (many + 1)) start) (2 * (many + 1) + 1) (2 * (many + 1)) end 0 (λ q. omega (arith, q))
      ∙ get_or-set_same places (2 * (many + 1)) start 0 (omega (arith, l))

  placed_end : get_or placed (2 * (many + 1) + 1) 0 ≡ end
  placed_end =
      get_or-set_same (set places (2 * (many + 1)) start) (2 * (many + 1) + 1) end 0
      (let e = length-set places (2 * (many + 1)) start in omega (arith, e, l))

  placed_other : (i : ℕ) → i < 2 * (many + 1) → get_or placed i 0 ≡ get_or places i 0
  placed_other i h =
      get_or-set_other (set places (2 * (many + 1)) start) (2 * (many + 1) + 1) i end 0 (λ q. omega (arith, q, h))
      ∙ get_or-set_other places (2 * (many + 1)) i start 0 (λ q. omega (arith, q, h))

  placed_long : length placed ≡ length places
  placed_long = length-set (set places (2 * (many + 1)) start) (2 * (many + 1) + 1) end ∙ length-set places (2 * (many + 1)) start

  cell_there : cell < length links
  cell_there = omega (arith, f.near, t.even, l)

  grows : Grows links linked
  grows c p = get_or-set_other links cell c (many + 1) 0 (λ q. let e = ap (λ (v : ℕ). get_or links v 0) q in omega (arith, e, p, f.empty))

  own_name : name_of text placed (many + 1) ≡ between text start end
  own_name = λ i. between text (placed_start i) (placed_end i)

  other_name : (n : ℕ) → n ≤ many → name_of text placed n ≡ name_of text places n
  other_name n h = λ i. between text (placed_other (2 * n) (omega (arith, h)) i) (placed_other (2 * n + 1) (omega (arith, h)) i)

  linked_known : (c : ℕ) → get_or linked c 0 ≤ many + 1
  linked_known c = elim (ℕ_discrete c cell) [
    | yes e ↦ let k = ap (λ (v : ℕ). get_or linked v 0) e ∙ get_or-set_same links cell (many + 1) 0 cell_there in omega (arith, k)
    | no q ↦ let k = get_or-set_other links cell c (many + 1) 0 q in let m = t.known c in omega (arith, k, m)
  ]

  linked_rise : (c : ℕ) → 0 < get_or linked c 0 → c < 2 * get_or linked c 0
  linked_rise c p = elim (ℕ_discrete c cell) [
    | yes e ↦ let k = ap (λ (v : ℕ). get_or linked v 0) e ∙ get_or-set_same links cell (many + 1) 0 cell_there in omega (arith, k, e, f.near)
    | no q ↦ let k = get_or-set_other links cell c (many + 1) 0 q in let m = t.rise c (omega (arith, k, p)) in omega (arith, k, m)
  ]

  -- a node is the new one or an old one
  by_node : (P : ℕ → Type 0) → P (many + 1) → ((n : ℕ) → 1 ≤ n → n ≤ many → P n) → (n : ℕ) → 1 ≤ n → n ≤ many + 1 → P n
  by_node P own old n s h = elim (ℕ_discrete n (many + 1)) [
    | yes e ↦ subst P (sym e) own
    | no q ↦ old n s (omega (arith, q, h))
  ]

  own_comes : Comes linked (name_of text placed (many + 1)) 0 0 (many + 1)
  own_comes =
      subst (λ (m : List ℕ). Comes linked m 0 0 (many + 1)) (sym own_name)
      (record { cell = cell; depth = f.depth; way = way_more grows f.way; is = get_or-set_same links cell (many + 1) 0 cell_there })

  old_comes : (n : ℕ) → 1 ≤ n → n ≤ many → Comes linked (name_of text placed n) 0 0 n
  old_comes n s h =
      let k = t.there n s h in
      let e = k.is in
      subst (λ (m : List ℕ). Comes linked m 0 0 n) (sym (other_name n h))
      (record { cell = k.cell; depth = k.depth; way = way_more grows k.way; is = grows k.cell (omega (arith, e, s)) ∙ e })

  pub tree_more : Tree text placed linked (many + 1)
  tree_more = record {
    even = length-set links cell (many + 1) ∙ t.even ∙ sym placed_long;
    room = let e = placed_long in omega (arith, e, l);
    known = linked_known;
    rise = linked_rise;
    low = by_node (λ (n : ℕ). get_or placed (2 * n) 0 ≤ get_or placed (2 * n + 1) 0) (let x = placed_start in let y = placed_end in omega (arith, x, y, a))
        (λ n s h. let x = placed_other (2 * n) (omega (arith, h)) in let y = placed_other (2 * n + 1) (omega (arith, h)) in let k = t.low n s h in omega (arith, x, y, k));
    high = by_node (λ (n : ℕ). get_or placed (2 * n + 1) 0 ≤ length text) (let y = placed_end in omega (arith, y, b))
        (λ n s h. let y = placed_other (2 * n + 1) (omega (arith, h)) in let k = t.high n s h in omega (arith, y, k));
    there = by_node (λ (n : ℕ). Comes linked (name_of text placed n) 0 0 n) own_comes old_comes;
  }

  pub entered : Entered text places placed linked many (many + 1) (between text start end)
  entered = record { new = f.new; tree = tree_more; own = own_name; others = other_name; count = refl }
