-- The argument sorts of a declaration, an item at a time. Assumes nothing.
use mathlib.Core.Path.{◌≡◌, refl, sym, ap, ◌∙◌}
use Prim.Native.Nat.{ℕ, zero, suc, ◌+◌, ◌-◌, ◌<◌, ◌≤◌}
use Rattle.std.specs.Prelude.{Option, Some as some, None as nothing, Result, Ok, Err, ok_or}
use mathlib.Core.List.{List, [], ◌∷◌, ◌++◌}
use native.Mathlib.Omega.{arith}
use native.Mathlib.Numerals.{add-one}
use lib.ListN.{length, drop, set, length-set, replicate}
use native.Mathlib.Nat.{zero-add, zero-sub, sub-zero, suc-sub-suc}
use lib.Seq.{sets, sets-eq}
use Rattle.rules.specs.Limits.{ARGUMENTS, SORTS}
use Rattle.rules.specs.Text.{same}
use Rattle.rules.specs.Laws.Find.{first_some}
use Rattle.rules.specs.Out.{ok, refuse, then}
use Rattle.rules.specs.Sexp.{Sexp, Sexps, count, item, Name}
use Rattle.rules.specs.Theory.{Theory, no_name}
use Rattle.rules.specs.Declare.{sorts}
use Rattle.rules.specs.TheoryTables.{filled}
use Rattle.rules.specs.Laws.Row.{filled_fits}
use Rattle.rules.specs.Laws.Declaring.{proper, sort_of, sort_of_name, sorts_none, sorts_unknown, sorts_full, sorts_more, arguments_of}
use Rattle.sexp.specs.Encode.{encodes}
use Rattle.sexp.specs.Items.{Holds, Held, item_of, item_at, behind}
use Rattle.sexp.specs.Spelt.{Spelt}
use Rattle.sexp.specs.WalkLaws.{Walk, walk_start, walk_over, AtomIs}
use Rattle.sexp.specs.Each.{Here, ListOf}
use Rattle.sexp.specs.NameRows.{NameRows}
use Rattle.sexp.specs.declared.items.Each.{Each}
use Rattle.sexp.specs.declared.items.Item.{Item}
use Rattle.kernel.specs.Held.{SortsHeld, SomeSorts, ArgumentsRead}
use Rattle.questions.specs.declared.Question.{Question}
use Rattle.questions.specs.declared.Question.TheVariants.{Declared, Room}
use Rattle.questions.specs.declared.Row.TheVariants.{Arguments}
use Rattle.questions.specs.Numbers.{number_of, detail_of}
use Rattle.sexp.specs.Never.{never}
use Rattle.kernel.specs.SignatureRows.{sorts_rows, sorts_few}
use Rattle.sexp.specs.FirstItem.{SomeItem, ItemFirst, some_first, first_count}
use Rattle.kernel.proofs.Spellings.{sorted}
use Rattle.kernel.proofs.Turns.{turn_holds, turn_some, turn_first, turn_rest}

-- what `sort` ensures
abbrev pub SortTold : List ℕ → List ℕ → ℕ → Item → Result ℕ Question → Type 0
SortTold text sorts known item r =
    (x : Sexp) (at : ℕ) → item ≡ item_of at x → Spelt text x → (ns : List Name) → NameRows text sorts 2 0 known ns → r ≡ ok_or (sort_of ns x) Declared

-- what its answer says
sort_there : (o : Option ℕ) {r : Result ℕ Question} {s : ℕ} → r ≡ ok_or o Declared → r ≡ Ok s → o ≡ some s
sort_there o {s = s} a b = go o (sym b ∙ a)
  where
    go : (o : Option ℕ) → ◌≡◌ {A = Result ℕ Question} (Ok s) (ok_or o Declared) → o ≡ some s
    go nothing f = never cc
    go (some k) f = cc

-- no sort, which is question 11
pub record Sortless (ns : List Name) (x : Sexp) (e : Question) : Type 0 where
  pub is : sort_of ns x ≡ nothing
  pub error : e ≡ Declared

sort_nowhere : (ns : List Name) (x : Sexp) {r : Result ℕ Question} {e : Question} → r ≡ ok_or (sort_of ns x) Declared → r ≡ Err e → Sortless ns x e
sort_nowhere ns x {e = e} a b = go (sort_of ns x) refl (sym b ∙ a)
  where
    go : (o : Option ℕ) → sort_of ns x ≡ o → ◌≡◌ {A = Result ℕ Question} (Err e) (ok_or o Declared) → Sortless ns x e
    go nothing k f = record { is = k; error = cc }
    go (some j) k f = never cc

sort_inside : (ns : List Name) (o : Option Name) (s : ℕ) → sort_of_name ns o ≡ some s → s ≤ length ns
unfolding sort_of_name
sort_inside ns nothing s e = absurd (let z : ◌≡◌ {A = ℕ} 0 1 = cc in omega arith)
sort_inside ns (some n) s e = let f = first_some (λ (m : Name). same m.bytes n.bytes) ns 1 s no_name e in omega (arith, f.is, f.inside)

module _ {text sorts : List ℕ} {known : ℕ} {item : Item} {r : Result ℕ Question} (told : SortTold text sorts known item r) where
  -- a sort's number is small
  pub sort_small : (s : ℕ) → r ≡ Ok s → SomeSorts text sorts known → (x : Sexp) (at : ℕ) → item ≡ item_of at x → Spelt text x → s ≤ SORTS
  unfolding sort_of
  sort_small s a h x at e k =
      omega (arith, sort_inside h.0 (proper x) s (sort_there (sort_of h.0 x) (told x at e k h.0 (sorts_rows h.1)) a), h.1.many, sorts_few h.1)

  module _ (T : Theory) (h : SortsHeld text sorts known T.sorts) (x : Sexp) (at : ℕ) (e : item ≡ item_of at x) (k : Spelt text x) where
    pub sort_known : (s : ℕ) → r ≡ Ok s → sort_of T.sorts x ≡ some s
    sort_known s a = sort_there (sort_of T.sorts x) (told x at e k T.sorts (sorts_rows h)) a

    pub sort_unknown : {q : Question} → r ≡ Err q → Sortless T.sorts x q
    sort_unknown a = sort_nowhere T.sorts x (told x at e k T.sorts (sorts_rows h)) a

-- the sort that the first item names
module _ {text table cells : List ℕ} {known next : ℕ} {item : Item} {r : Result ℕ Question} (told : SortTold text table known item r) {xs : Sexps} (f : ItemFirst text cells xs item next) where
  pub first_small : (s : ℕ) → r ≡ Ok s → SomeSorts text table known → s ≤ SORTS
  first_small s a h = sort_small told s a h f.x 0 f.at f.spelt

  module _ (T : Theory) (count : ℕ) (h : SortsHeld text table known T.sorts) where
    pub arguments_unknown : {q : Question} → r ≡ Err q → sorts T xs count (tt {0}) ≡ refuse (number_of q) (detail_of q) (tt {0})
    arguments_unknown a =
        let none = sort_unknown told T h f.x 0 f.at f.spelt a in
        rw none.error (ap (λ z. sorts T z count (tt {0})) f.is ∙ sorts_unknown T f.x f.ys count (tt {0}) none.is)

    module _ (s : ℕ) (a : r ≡ Ok s) where
      pub arguments_full : ARGUMENTS ≤ count → sorts T xs count (tt {0}) ≡ refuse 60 3 (tt {0})
      arguments_full l =
          ap (λ z. sorts T z count (tt {0})) f.is ∙ sorts_full T f.x f.ys count (tt {0}) s (sort_known told T h f.x 0 f.at f.spelt s a) l

      so_far : count < ARGUMENTS → sorts T xs count (tt {0}) ≡ then (sorts T f.ys (count + 1) (tt {0})) (λ ss u. ok (s ∷ ss) u)
      so_far l =
          ap (λ z. sorts T z count (tt {0})) f.is ∙ sorts_more T f.x f.ys count (tt {0}) s (sort_known told T h f.x 0 f.at f.spelt s a) l
          ∙ ap (λ (k : ℕ). then (sorts T f.ys k (tt {0})) (λ ss u. ok (s ∷ ss) u)) (sym (add-one count))

      pub arguments_more : (row row' : List ℕ) (q : Result ℕ Question) → count < ARGUMENTS →
          ArgumentsRead (set row count s) row' (count + 1) (sorts T f.ys (count + 1) (tt {0})) q → ArgumentsRead row row' count (sorts T xs count (tt {0})) q
      unfolding then
      arguments_more row row' (Ok n) l k =
          record {
            sorts = s ∷ k.sorts;
            is = so_far l ∙ ap (λ q. then q (λ ss u. ok (s ∷ ss) u)) k.is;
            many = omega (arith, k.many);
            most = k.most;
            cells = k.cells ∙ ap (λ (i : ℕ). sets (set row count s) i k.sorts) (add-one count);
          }
      arguments_more row row' (Err e) l k = so_far l ∙ ap (λ q. then q (λ ss u. ok (s ∷ ss) u)) k

-- Where the loop stands ----------------------------------------------------------------------------------------------------------

-- k sorts are in the row: what the rest answers, all answer
pub record Gathered (text cells : List ℕ) (T : Theory) (xs : Sexps) (row : List ℕ) (row' : List ℕ) (k at : ℕ) : Type 0 where
  pub left : Sexps
  pub walk : Walk text cells at left
  pub many : k + count left ≡ count xs
  pub few : k ≤ ARGUMENTS
  pub onward : (last : List ℕ) (q : Result ℕ Question) → ArgumentsRead row' last k (sorts T left k (tt {0})) q → ArgumentsRead row last 0 (sorts T xs 0 (tt {0})) q

-- the same for whatever theory the table holds
pub record Gathers (text table : List ℕ) (known : ℕ) (cells row row' : List ℕ) (k at : ℕ) : Type 0 where
  pub goes : (T : Theory) (xs : Sexps) → SortsHeld text table known T.sorts → Holds text cells xs → Gathered text cells T xs row row' k at
  pub long : length row' ≡ length row

pub gathers_start : {text table : List ℕ} {known : ℕ} {cells row : List ℕ} → Gathers text table known cells row row 0 0
gathers_start = record {
  goes = λ T xs h k. record { left = xs; walk = walk_start k; many = omega arith; few = omega arith; onward = λ last q a. a };
  long = refl;
}

module _ {text table : List ℕ} {known : ℕ} {cells row row' : List ℕ} {k at : ℕ} (g : Gathers text table known cells row row' k at) where
  -- behind the last item
  pub gathers_over : length cells ≤ at → (n : ℕ) → ((xs : Sexps) → cells ≡ encodes xs → n ≡ count xs) → (T : Theory) (xs : Sexps) →
      SortsHeld text table known T.sorts → Holds text cells xs → ArgumentsRead row row' 0 (sorts T xs 0 (tt {0})) (Ok n)
  unfolding count
  gathers_over l n c T xs h s =
      let o = g.goes T xs h s in
      let e = walk_over o.walk l in
      let m : n ≡ k = omega (arith, c xs s.cells, o.many, ap count e) in
      o.onward row' (Ok n) (record {
        sorts = [];
        is = ap (λ z. sorts T z k (tt {0})) e ∙ sorts_none T k (tt {0});
        many = omega (arith, m);
        most = omega (arith, m, o.few);
        cells = refl;
      })

  module _ {item : List ℕ} {next : Each} (h : Here cells item at next) {r : Item} (f : r ≡ item_at item 0) {q : Result ℕ Question}
      (told : SortTold text table known r q) where
    module _ (T : Theory) (xs : Sexps) (s : SortsHeld text table known T.sorts) (w : Holds text cells xs) where
      turn : ItemFirst text item (g.goes T xs s w).left r (behind 0 (item_at item 0))
      turn = turn_first (g.goes T xs s w).walk h r f

      pub gathers_unknown : {e : Question} → q ≡ Err e → ArgumentsRead row row' 0 (sorts T xs 0 (tt {0})) (Err e)
      gathers_unknown {e} a = (g.goes T xs s w).onward row' (Err e) (arguments_unknown told turn T k s a)

      pub gathers_full : (v : ℕ) → q ≡ Ok v → ARGUMENTS ≤ k → ArgumentsRead row row' 0 (sorts T xs 0 (tt {0})) (Err (Room Arguments))
      gathers_full v a l = (g.goes T xs s w).onward row' (Err (Room Arguments)) (arguments_full told turn T k s v a l)

      gathered_on : (v : ℕ) → q ≡ Ok v → k < ARGUMENTS → Gathered text cells T xs row (set row' k v) (k + 1) next.at
      gathered_on v a l =
          let o = g.goes T xs s w in
          record {
            left = turn.ys;
            walk = turn_rest o.walk h turn;
            many = omega (arith, o.many, first_count turn);
            few = omega (arith, l);
            onward = λ last p b. o.onward last p (arguments_more told turn T k s v a row' last p l b);
          }

    pub gathers_on : (v : ℕ) → q ≡ Ok v → k < ARGUMENTS → Gathers text table known cells row (set row' k v) (k + 1) next.at
    gathers_on v a l = record { goes = λ T xs s w. gathered_on T xs s w v a l; long = length-set row' k v ∙ g.long }

    pub gathers_small : (v : ℕ) → q ≡ Ok v → (s : SomeSorts text table known) → Held text cells → v ≤ SORTS
    gathers_small v a s w = first_small told (turn (sorted s.0) w.0 s.1 w.1) v a s

  -- the item is one of some list
  pub gathers_item : {item : List ℕ} {next : Each} → Here cells item at next → (r : Item) → r ≡ item_at item 0 → SomeSorts text table known → Held text cells → SomeItem text r
  gathers_item h r f s w = let o = g.goes (sorted s.0) w.0 s.1 w.1 in some_first r (turn_holds o.walk h) (turn_some o.walk h) f

-- the answers of `arguments_at`
pub arguments_atom : (T : Theory) (x : Sexp) {text : List ℕ} {p : ℕ} → AtomIs text x p → arguments_of T x ≡ refuse 11 0 (tt {0})
unfolding arguments_of
arguments_atom T x a = ap (arguments_of T) a.is

pub arguments_list : {text words part : List ℕ} (T : Theory) (x : Sexp) (k : ListOf text words x part) → sorts T k.items 0 (tt {0}) ≡ arguments_of T x
unfolding arguments_of
arguments_list T x k = sym (ap (arguments_of T) k.is)

-- a row that was empty is filled with its sorts
pub drop_zeros : (n k : ℕ) → drop k (replicate n 0) ≡ replicate {A = ℕ} (n - k) 0
drop_zeros n zero = ap (λ m. replicate {A = ℕ} m 0) (sym (sub-zero n))
drop_zeros zero (suc k) = ap (λ m. replicate {A = ℕ} m 0) (sym (zero-sub (suc k)))
drop_zeros (suc n) (suc k) = drop_zeros n k ∙ ap (λ m. replicate {A = ℕ} m 0) (sym (suc-sub-suc n k))

pub row_filled : (ss : List ℕ) → length ss ≤ ARGUMENTS → filled ARGUMENTS ss ≡ sets (replicate ARGUMENTS 0) 0 ss
row_filled ss h =
    filled_fits ARGUMENTS ss h ∙ sym (sets-eq ss (replicate ARGUMENTS 0) 0 (omega (arith, h))
    ∙ ap (λ (k : ℕ). ss ++ drop k (replicate ARGUMENTS 0)) (zero-add (length ss)) ∙ ap (λ l. ss ++ l) (drop_zeros ARGUMENTS (length ss)))
