-- What building leaves in the tables, at each of its returns and in its loop over the arguments. Assumes nothing.
use mathlib.Core.Path.{◌≡◌, refl, sym, ap, ◌∙◌, subst}
use mathlib.Core.List.{List, [], ◌∷◌, ◌++◌}
use Prim.Native.Nat.{ℕ, suc, ◌+◌, ◌-◌, ◌≤◌, ◌<◌}
use native.Mathlib.Omega.{arith}
use native.Mathlib.Decide.{ℕ_discrete}
use native.Mathlib.Numerals.{add-one}
use lib.ListN.{length, get_or, set, take, drop, length-set, length-drop}
use lib.Seq.{get_or-set_same, get_or-set_other, get_or-drop, take-suc, drop-cons, length-take-le}
use borrow.Rule.Slice.PartMut.{put_mid, mid_of, post_of, put_same}
use Rattle.std.proofs.lemmas.List.{set-append_left}
use Rattle.rules.specs.Limits.{SYMBOLS, ARGUMENTS, RULEVARS, TERMS, NODE}
use Rattle.rules.specs.Out.{Out, ok}
use Rattle.rules.specs.Tree.{Tree, Trees, var, app, more, size}
use Rattle.rules.specs.Store.{Made, keep}
use Rattle.rules.specs.Laws.Store.{number_is}
use Rattle.rules.specs.Match.{Bound, build}
use Rattle.terms.specs.declared.store.Mark.{Mark}
use Rattle.std.specs.Prelude.{Option, Some as some, None as nothing, Ok, Err}
use Rattle.std.specs.Option.{ok_or}
use Rattle.questions.specs.Numbers.{row_number, number_of, detail_of}
use Rattle.questions.specs.declared.Row.{Row}
use Rattle.questions.specs.declared.Question.{Question}
use Rattle.questions.specs.declared.Question.TheVariants.{Matching, Room}
use Rattle.terms.specs.declared.patterns.Built.{Built}
use Rattle.terms.specs.Table.{run, args_of, tree_at, made, Shaped, is_app, Node, Grown, Stored, Refused}
use Rattle.terms.specs.Sets.{counted_from_1}
use Rattle.terms.specs.Patterns.{arity, Stands, PatternAt, cells_of, bound_of, Buildable, Builds, BuiltAt}
use Rattle.terms.specs.Laws.Runs.{run_same, run_length, run_at}
use Rattle.terms.specs.Laws.Tables.{length_trees, tree_app}
use Rattle.terms.specs.Laws.Growth.{grown_refl, grown_trans, grown_tree}
use Rattle.terms.specs.Laws.Bound.{cells_long, cell_of, bound_grown}
use Rattle.terms.proofs.Matches.{stands_var, stands_app, reads_in, reads_var}
use Rattle.terms.specs.Laws.Below.{ahead, ahead_snoc}
use Rattle.terms.proofs.Builds.{ahead_agree, build_none, build_some, Remaining, remaining_begins, remaining_reads}
use Rattle.terms.proofs.Builds.{remaining_on, remaining_stops, remaining_ends}

-- A variable -------------------------------------------------------------------------------------------------------------------------

module _ (S P I W : List ℕ) (m : Mark) (B : List ℕ) (at : ℕ) (q : Buildable S P I W m B at) where
  pub variable_in : SYMBOLS ≤ get_or P at 0 → get_or P at 0 - SYMBOLS < RULEVARS
  variable_in l = reads_var S P at q.reads l

  build_unbound : SYMBOLS ≤ get_or P at 0 → get_or B (get_or P at 0 - SYMBOLS) 0 ≡ 0 → BuiltAt S P I W I W m m B at (Err Matching)
  build_unbound l e p st =
      let v = stands_var S P at p st l in
      record {
        says = record {
          grown = grown_refl q.good;
          makes = ap (λ (t : Tree). build t (bound_of (made I W m) B) (made I W m)) v.0 ∙ build_none (made I W m) B _ e;
        };
      }

  build_bound : SYMBOLS ≤ get_or P at 0 → (get_or B (get_or P at 0 - SYMBOLS) 0 ≡ 0 → ⊥) → BuiltAt S P I W I W m m B at (Ok (record { term = get_or B (get_or P at 0 - SYMBOLS) 0 - 1; end = at + 1 }))
  unfolding size
  build_bound l n p st =
      let v = stands_var S P at p st l in
      let w = q.cells.within (get_or P at 0 - SYMBOLS) in
      record {
        says = record {
          grown = grown_refl q.good;
          makes = ap (λ (t : Tree). build t (bound_of (made I W m) B) (made I W m)) v.0 ∙ build_some (made I W m) B _ n;
          there = omega arith;
          after = ap (λ (t : Tree). at + size t) (sym v.0);
        };
      }

module _ (S P I W : List ℕ) (m : Mark) (O : List (Option ℕ)) (at : ℕ) (q : Buildable S P I W m (cells_of O) at) (l : SYMBOLS ≤ get_or P at 0) where
  abbrev v : ℕ
  v = get_or P at 0 - SYMBOLS

  cell_is : (d o : Option ℕ) → get_or O v d ≡ o → get_or (cells_of O) v 0 ≡ counted_from_1 o
  cell_is d o e =
      let i = variable_in S P I W m (cells_of O) at q l in
      let n = cells_long O in
      let c = q.cells.long in
      cell_of O v d (omega arith) ∙ ap counted_from_1 e

  pub build_refused : (d : Option ℕ) (e : Question) → ok_or (get_or O v d) Matching ≡ Err e → BuiltAt S P I W I W m m (cells_of O) at (Err e)
  build_refused d e r = go (get_or O v d) refl r
    where
      go : (o : Option ℕ) → get_or O v d ≡ o → ok_or o Matching ≡ Err e → BuiltAt S P I W I W m m (cells_of O) at (Err e)
      go nothing h r = let z : Matching ≡ e = cc in subst (λ (k : Question). BuiltAt S P I W I W m m (cells_of O) at (Err k)) z (build_unbound S P I W m (cells_of O) at q l (cell_is d nothing h))
      go (some t) h r = absurd (cc)

  pub build_known : (d : Option ℕ) (t : ℕ) → ok_or (get_or O v d) Matching ≡ Ok t → BuiltAt S P I W I W m m (cells_of O) at (Ok (record { term = t; end = at + 1 }))
  build_known d t r = go (get_or O v d) refl r
    where
      go : (o : Option ℕ) → get_or O v d ≡ o → ok_or o Matching ≡ Ok t → BuiltAt S P I W I W m m (cells_of O) at (Ok (record { term = t; end = at + 1 }))
      go nothing h r = absurd (cc)
      go (some k) h r =
          let c : get_or (cells_of O) v 0 ≡ suc k = cell_is d (some k) h in
          let y : k ≡ t = cc in
          let z : get_or (cells_of O) v 0 - 1 ≡ t = omega arith in
          subst (λ (j : ℕ). BuiltAt S P I W I W m m (cells_of O) at (Ok (record { term = j; end = at + 1 }))) z
          (build_bound S P I W m (cells_of O) at q l (λ n. omega arith))

-- The loop ---------------------------------------------------------------------------------------------------------------------------

-- one word more of a run
run_snoc : (w : List ℕ) (a k : ℕ) → a + k < length w → run w a (k + 1) ≡ run w a k ++ (get_or w (a + k) 0 ∷ [])
run_snoc w a k h =
    let l = length-drop a w in
    ap (λ (j : ℕ). take j (drop a w)) (add-one k) ∙ take-suc (drop a w) k 0 (omega arith) ∙ ap (λ (x : ℕ). run w a k ++ (x ∷ [])) (get_or-drop a w k 0)

-- a node's arguments, lent as a part of it
pub part_long : (w : List ℕ) (k : ℕ) → length (put_mid 1 k w (mid_of 1 k w)) ≡ length w
part_long w k = ap (λ (l : List ℕ). length l) (put_same 1 k w)

part_set : (x : ℕ) (xs ys : List ℕ) (k i n : ℕ) → i < length ys → put_mid 1 k (x ∷ xs) (set ys i n) ≡ set (put_mid 1 k (x ∷ xs) ys) (1 + i) n
part_set x xs ys k i n l =
    let e : suc i ≡ 1 + i = omega arith in
    ap (λ (l : List ℕ). x ∷ l) (sym (set-append_left ys (post_of 1 k (x ∷ xs)) i n l)) ∙ ap (λ (j : ℕ). set (put_mid 1 k (x ∷ xs) ys) j n) e

-- k arguments are built, and their numbers stand in the node w behind its head c
pub record Building (S P I W : List ℕ) (m : Mark) (B : List ℕ) (at c count : ℕ) (J X w : List ℕ) (new : Mark) (place k : ℕ) : Type 0 where
  pub asked : Buildable S P I W m B at
  pub small : c < SYMBOLS
  pub few : count ≤ ARGUMENTS
  pub upto : k ≤ count
  pub beyond : at < place
  pub grown : Grown I W J X m new
  pub long : length w ≡ NODE
  pub first : get_or w 0 0 ≡ c
  pub args : (j : ℕ) → j < k → get_or w (1 + j) 0 < new.terms
  pub going : (p : Tree) → Stands S P at p → Remaining S P (bound_of (made I W m) B) (build p (bound_of (made I W m) B) (made I W m)) (at + size p) c count (made J X new) place k (run w 1 k)

pub building_few : (S P I W : List ℕ) (m : Mark) (B : List ℕ) (at : ℕ) → Buildable S P I W m B at → get_or P at 0 < SYMBOLS
    → (count : ℕ) → count ≡ arity S (get_or P at 0) → count ≤ ARGUMENTS
building_few S P I W m B at q l count f = let a = stands_app S P at q.reads.tree q.reads.stands l in omega (arith, a.count, a.few)

pub building_begins : (S P I W : List ℕ) (m : Mark) (B : List ℕ) (at : ℕ) → Buildable S P I W m B at → get_or P at 0 < SYMBOLS
    → (count : ℕ) → count ≡ arity S (get_or P at 0) → (w : List ℕ) → length w ≡ NODE → get_or w 0 0 ≡ get_or P at 0 → Building S P I W m B at (get_or P at 0) count I W w m (at + 1) 0
building_begins S P I W m B at q l count f w n e =
    let a = stands_app S P at q.reads.tree q.reads.stands l in
    let b = a.count in
    let d = a.few in
    record {
      asked = q;
      small = l;
      few = omega arith;
      upto = omega arith;
      beyond = omega arith;
      grown = grown_refl q.good;
      long = n;
      first = e;
      args = λ j h. absurd (omega arith);
      going = λ p st.
          subst (λ (k : ℕ). Remaining S P (bound_of (made I W m) B) (build p (bound_of (made I W m) B) (made I W m)) (at + size p) (get_or P at 0) k (made I W m) (at + 1) 0 []) (sym f)
          (remaining_begins S P (bound_of (made I W m) B) (made I W m) at p st l);
    }

module _ (S P I W : List ℕ) (m : Mark) (B : List ℕ) (at c count : ℕ) (J X w : List ℕ) (new : Mark) (place k : ℕ) (q : Building S P I W m B at c count J X w new place k) where
  abbrev b : Bound
  b = bound_of (made I W m) B

  same_bound : b ≡ bound_of (made J X new) B
  same_bound = sym (bound_grown q.grown q.asked.cells)

  pub building_reads : k < count → PatternAt S P place
  building_reads h = remaining_reads S P b _ _ c count (made J X new) place k (run w 1 k) (q.going q.asked.reads.tree q.asked.reads.stands) h

  pub building_asks : k < count → Buildable S P J X new B place
  building_asks h =
      record {
        good = q.grown.good;
        symbols = q.asked.symbols;
        reads = building_reads h;
        cells = record { long = q.asked.cells.long; within = λ v. let y = q.asked.cells.within v in let z = q.grown.more in omega arith };
      }

  pub building_falls : k < count → length P - place < length P - at
  building_falls h = let a = reads_in S P place (building_reads h) in let d = q.beyond in omega arith

  module _ (h : k < count) (L Y : List ℕ) (k' : Mark) where
    pub building_stops : (e : Question) → BuiltAt S P J X L Y new k' B place (Err e) → BuiltAt S P I W L Y m k' B at (Err e)
    building_stops e f p st =
        let o = building_reads h in
        record {
          says = record {
            grown = grown_trans q.grown (f o.tree o.stands).says.grown;
            makes = remaining_stops S P b _ _ c count (made J X new) place k (run w 1 k) (q.going p st) h (number_of e) (detail_of e) (made L Y k')
                (λ p' st'. ap (λ (x : Bound). build p' x (made J X new)) same_bound ∙ (f p' st').says.makes);
          };
        }

    module _ (r : Built) (f : BuiltAt S P J X L Y new k' B place (Ok r)) where
      abbrev n : ℕ
      n = r.term

      abbrev next : ℕ
      next = r.end

      built : (p : Tree) → Stands S P place p → Builds J X L Y new (build p (bound_of (made J X new) B) (made J X new)) (place + size p) n next k'
      built p st = (f p st).says

      of_next : Builds J X L Y new (build (building_reads h).tree (bound_of (made J X new) B) (made J X new)) (place + size (building_reads h).tree) n next k'
      of_next = built (building_reads h).tree (building_reads h).stands

      pub built_there : (n < k'.terms) × (k'.terms ≤ TERMS)
      built_there = (of_next.there, of_next.grown.good.room)

      run_old : run (set w (1 + k) n) 1 k ≡ run w 1 k
      run_old =
          let l = q.long in
          let u = q.upto in
          let z = q.few in
          run_same w (set w (1 + k) n) (1 + k) 1 k (λ i p. get_or-set_other w (1 + k) i n 0 (λ x. omega arith)) (length-set w (1 + k) n) (omega arith) (omega arith)

      run_new : run (set w (1 + k) n) 1 (k + 1) ≡ run w 1 k ++ (n ∷ [])
      run_new =
          let l = q.long in
          let z = q.few in
          let d = length-set w (1 + k) n in
          run_snoc (set w (1 + k) n) 1 k (omega arith) ∙ (λ i. run_old i ++ (get_or-set_same w (1 + k) n 0 (omega arith) i ∷ []))

      agree : (ts : Trees) → ahead (made J X new) (run w 1 k) (more (get_or (made L Y k') n (var 0)) ts) ≡ ahead (made L Y k') (run (set w (1 + k) n) 1 (k + 1)) ts
      agree ts =
          let l = q.long in
          let z = q.few in
          let u = q.upto in
          let d = run_length w 1 k (omega arith) in
          ahead_agree (made J X new) (made L Y k') new.terms (run w 1 k) _
          (λ j p. let t = run_at w 1 k j (omega arith) in let s = q.args j (omega arith) in omega arith)
          (λ i h. sym (grown_tree of_next.grown i h))
          ∙ sym (ahead_snoc (made L Y k') (run w 1 k) n ts)
          ∙ ap (λ (xs : List ℕ). ahead (made L Y k') xs ts) (sym run_new)

      pub building_on : Building S P I W m B at c count L Y (set w (1 + k) n) k' next (k + 1)
      building_on =
          let l = q.long in
          let z = q.few in
          let y = q.beyond in
          let a = of_next.after in
          let t = of_next.there in
          let v = of_next.grown.more in
          record {
            asked = q.asked;
            small = q.small;
            few = q.few;
            upto = omega arith;
            beyond = omega arith;
            grown = grown_trans q.grown of_next.grown;
            long = length-set w (1 + k) n ∙ q.long;
            first = get_or-set_other w (1 + k) 0 n 0 (λ x. omega arith) ∙ q.first;
            args = λ j p. elim (ℕ_discrete j k) [
              | yes d ↦ let s = ap (λ (x : ℕ). get_or (set w (1 + k) n) (1 + x) 0) d ∙ get_or-set_same w (1 + k) n 0 (omega arith) in omega arith
              | no d ↦ let s = get_or-set_other w (1 + k) (1 + j) n 0 (λ x. d (omega arith)) in let u = q.args j (omega arith) in omega arith
            ];
            going = λ p st.
                remaining_on S P b _ _ c count (made J X new) place k (run w 1 k) (q.going p st) h (get_or (made L Y k') n (var 0)) (made L Y k') next
                (λ p' st'. (ap (λ (x : Bound). build p' x (made J X new)) same_bound ∙ (built p' st').makes, (built p' st').after))
                (run (set w (1 + k) n) 1 (k + 1)) agree;
          }

  -- The node -----------------------------------------------------------------------------------------------------------------------

  module _ (h : count ≤ k) where
    node_is : take (count + 1) w ≡ c ∷ run w 1 k
    node_is =
        let l = q.long in
        let u = q.upto in
        let z : count ≡ k = omega arith in
        ap (λ (j : ℕ). take j w) (add-one count) ∙ ap (take (suc count)) (drop-cons w 0 0 (omega arith))
        ∙ (λ i. q.first i ∷ run w 1 (z i))

    pub node_ready : Node new.terms (take (count + 1) w)
    node_ready =
        let l = q.long in
        let f = q.few in
        let u = q.upto in
        let d = run_length w 1 k (omega arith) in
        let t = length-take-le (count + 1) w (omega arith) in
        record {
          narrow = omega arith;
          shaped = subst (Shaped new.terms) (sym node_is)
              (is_app {h = c} {xs = run w 1 k} q.small (λ j p. let x = run_at w 1 k j (omega arith) in let y = q.args j (omega arith) in omega arith));
        }

    node_tree : tree_at (made J X new) (take (count + 1) w) ≡ app c (args_of (made J X new) (run w 1 k))
    node_tree = ap (tree_at (made J X new)) node_is ∙ tree_app (made J X new) c (run w 1 k) q.small

    abbrev kept : Out Made Tree
    kept = keep (tree_at (made J X new) (take (count + 1) w)) (made J X new)

    to_keep : (p : Tree) → Stands S P at p → (build p b (made I W m) ≡ kept) × (place ≡ at + size p)
    to_keep p st =
        let a = remaining_ends S P b _ _ c count (made J X new) place k (run w 1 k) (q.going p st) h in
        (a.0 ∙ ap (λ (t : Tree). keep t (made J X new)) (sym node_tree), a.1)

    module _ (L Y : List ℕ) (k' : Mark) where
      pub building_done : (n : ℕ) → Stored J X L Y new (tree_at (made J X new) (take (count + 1) w)) kept n k' → BuiltAt S P I W L Y m k' B at (Ok (record { term = n; end = place }))
      building_done n t p st =
          let a = to_keep p st in
          let d = length_trees L Y k'.terms in
          let v = t.numbered in
          let s = t.there in
          let is : get_or (made L Y k') n (var 0) ≡ tree_at (made J X new) (take (count + 1) w) =
          ap (λ (j : ℕ). get_or (made L Y k') j (var 0)) t.numbered ∙ number_is (made L Y k') _ (omega arith) in
          record {
            says = record {
              grown = grown_trans q.grown t.grown;
              makes = a.0 ∙ t.makes ∙ ap (λ (x : Tree). ok x (made L Y k')) (sym is);
              there = t.there;
              after = a.1;
            };
          }

      pub building_full : (row : Row) → Refused Tree J X L Y new kept (row_number row) k' → BuiltAt S P I W L Y m k' B at (Err (Room row))
      building_full row t p st = record { says = record { grown = grown_trans q.grown t.grown; makes = (to_keep p st).0 ∙ t.makes } }

-- The same where the arguments are lent as a part of the node
module _ (S P I W : List ℕ) (m : Mark) (B : List ℕ) (at c count : ℕ) (J X : List ℕ) (x : ℕ) (xs ys : List ℕ) (n : ℕ) (new : Mark) (place k : ℕ)
    (q : Building S P I W m B at c count J X (put_mid 1 n (x ∷ xs) ys) new place k) (h : k < count) (l : k < length ys) where
  pub filling_on : (L Y : List ℕ) (k' : Mark) (r : Built) → BuiltAt S P J X L Y new k' B place (Ok r)
      → Building S P I W m B at c count L Y (put_mid 1 n (x ∷ xs) (set ys k r.term)) k' r.end (k + 1)
  filling_on L Y k' r f =
      subst (λ (w : List ℕ). Building S P I W m B at c count L Y w k' r.end (k + 1)) (sym (part_set x xs ys n k r.term l))
      (building_on S P I W m B at c count J X (put_mid 1 n (x ∷ xs) ys) new place k q h L Y k' r f)
