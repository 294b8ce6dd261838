-- Terms visited for their variables, step by step. Assumes nothing.
use mathlib.Core.Path.{◌≡◌, refl, sym, ap, ◌∙◌, subst}
use mathlib.Core.Bool.{Bool, true, false, true≢false, ◌||◌}
use mathlib.Core.List.{List}
use mathlib.Core.Logic.{⊎_elim}
use Prim.Native.Nat.{ℕ, ◌+◌, ◌-◌, ◌≤◌, ◌<◌}
use native.Mathlib.Omega.{arith}
use lib.ListN.{length, get_or, replicate}
use lib.Dec.{eqb}
use borrow.Author.Tests.{eqb-true}
use Rattle.std.proofs.lemmas.Bool.{or_cases}
use Rattle.rules.specs.Limits.{SYMBOLS}
use Rattle.rules.specs.Find.{Set, union}
use Rattle.rules.specs.Laws.Set.{or_left, or_right, union_assoc, union_empty, union_inside}
use Rattle.rules.specs.Tree.{Tree, variables, variables_of, Trees, app, more, is_open, are_open}
use Rattle.rules.specs.Laws.Tree.{closed_empty, variables_var, variables_app, variables_none, variables_more}
use Rattle.rules.specs.Store.{Made, number}
use Rattle.terms.specs.declared.store.Mark.{Mark}
use Rattle.terms.specs.Sets.{holds, plus}
use Rattle.terms.specs.Table.{run, start, args_of, made, Good, tree}
use Rattle.terms.specs.Collect.{Seen, Readable, open_nodes, open_nodes_of, Visited}
use Rattle.terms.specs.Laws.Sets.{holds_zero, or_last}
use Rattle.terms.specs.Laws.Terms.{args_more, args_none, node_rise, node_inside, term_app, term_var, args_below}
use Rattle.terms.specs.Laws.Seen.{closed_nodes, var_nodes, open_nodes_lem, nodes_none, nodes_more, seen_wider}
use Rattle.terms.specs.Laws.Numbers.{tree_number}

module _ (I W : List ℕ) (m : Mark) (id : ℕ) where
  abbrev nodes : Set
  nodes = open_nodes (made I W m) (tree I W m id)

  -- a term without variables adds none
  pub closed_done : (seen a : Set) → Seen I W m seen a → is_open (tree I W m id) ≡ false → Visited I W m id seen a seen a
  closed_done seen a s o =
      record {
        set = union_inside a (variables (tree I W m id)) (λ v t. absurd (true≢false (sym t ∙ closed_empty (tree I W m id) o v)));
        nodes = sym (union_empty seen) ∙ ap (union seen) (sym (closed_nodes (made I W m) (tree I W m id) o));
        visits = s;
      }

  pub seen_done : (seen a : Set) → Seen I W m seen a → true ≡ seen id → Visited I W m id seen a seen a
  seen_done seen a s e =
      record { set = union_inside a (variables (tree I W m id)) (s.within id (sym e)); nodes = union_inside seen nodes (s.below id (sym e)); visits = s }

  -- the term itself is visited
  visited : (seen₀ seen seen' a a' : Set) → id < m.terms → Seen I W m seen a' → seen' ≡ plus id seen → seen' ≡ union seen₀ nodes → a' ≡ union a (variables (tree I W m id))
      → Seen I W m seen' a'
  visited seen₀ seen seen' a a' h s p n e = record { there = there; below = below; within = within }
    where
      -- a term that is visited was visited, or is this one
      either : {B : Type 0} (i : ℕ) → (seen i ≡ true → B) → (i ≡ id → B) → seen' i ≡ true → B
      either i f g t = ⊎_elim f (λ q. g (eqb-true i id q)) (or_cases (seen i) (eqb i id) (sym (ap (λ (c : Set). c i) p) ∙ t))

      there : (i : ℕ) → seen' i ≡ true → i < m.terms
      there i t = either i (s.there i) (λ z. omega arith) t

      below : (i : ℕ) → seen' i ≡ true → (j : ℕ) → open_nodes (made I W m) (tree I W m i) j ≡ true → seen' j ≡ true
      below i t j o = either i
          (λ q. ap (λ (c : Set). c j) p ∙ or_left (seen j) (eqb j id) (s.below i q j o))
          (λ z. ap (λ (c : Set). c j) n ∙ or_right (seen₀ j) (nodes j) (ap (λ (k : ℕ). open_nodes (made I W m) (tree I W m k) j) (sym z) ∙ o))
          t

      within : (i : ℕ) → seen' i ≡ true → (v : ℕ) → variables (tree I W m i) v ≡ true → a' v ≡ true
      within i t v o = either i
          (λ q. s.within i q v o)
          (λ z. ap (λ (c : Set). c v) e ∙ or_right (a v) (variables (tree I W m id) v) (ap (λ (k : ℕ). variables (tree I W m k) v) (sym z) ∙ o))
          t

  module _ (g : Good I W m) (h : id < m.terms) (s : ℕ) (b : s ≡ start I id) where
    pub var_done : (seen a a' : Set) → Seen I W m seen a → SYMBOLS ≤ get_or W s 0 → a' ≡ plus (get_or W s 0 - SYMBOLS) a → Visited I W m id seen a seen a'
    var_done seen a a' k q e =
        let t = term_var I W m g id h s b q in
        let f : a' ≡ union a (variables (tree I W m id)) =
        e ∙ (λ i v. a v || sym (variables_var (get_or W s 0 - SYMBOLS) v) i) ∙ ap (λ (u : Tree). union a (variables u)) (sym t) in
        record {
          set = f;
          nodes = sym (union_empty seen) ∙ ap (union seen) (sym (ap (open_nodes (made I W m)) t ∙ var_nodes (made I W m) (get_or W s 0 - SYMBOLS)));
          visits = subst (Seen I W m seen) (sym f) (seen_wider (variables (tree I W m id)) k);
        }

app_open : (c : ℕ) (ts : Trees) (t : Tree) → t ≡ app c ts → is_open t ≡ true → are_open ts ≡ true
unfolding is_open
app_open c ts t e o = sym (ap is_open e) ∙ o

-- what is left of the arguments decides
pub record Looping (I W : List ℕ) (m : Mark) (id s e : ℕ) (set₀ seen₀ set seen : List ℕ) (at : ℕ) : Type 0 where
  pub ready : Readable I W m id seen₀ set₀
  pub begins : s ≡ start I id
  pub ends : e ≡ get_or I id 0
  pub small : get_or W s 0 < SYMBOLS
  pub has_variable : is_open (tree I W m id) ≡ true
  pub from : s < at
  pub upto : at ≤ e
  pub left : union (holds set) (variables_of (args_of (made I W m) (run W at (e - at)))) ≡ union (holds set₀) (variables (tree I W m id))
  pub nodes : union (holds seen) (open_nodes_of (made I W m) (args_of (made I W m) (run W at (e - at)))) ≡ union (holds seen₀) (open_nodes_of (made I W m) (args_of (made I W m) (run W (s + 1) (e - (s + 1)))))
  pub visits : Seen I W m (holds seen) (holds set)
  pub long_set : length set ≡ length set₀
  pub long_seen : length seen ≡ length seen₀

pub looping_begins : (I W : List ℕ) (m : Mark) (id s : ℕ) (set seen : List ℕ) → Readable I W m id seen set → Seen I W m (holds seen) (holds set) → is_open (tree I W m id) ≡ true
    → s ≡ start I id → get_or W s 0 < SYMBOLS → Looping I W m id s (get_or I id 0) set seen set seen (s + 1)
looping_begins I W m id s set seen r k o b q =
    let t : variables (tree I W m id) ≡ variables_of (args_of (made I W m) (run W (s + 1) (get_or I id 0 - (s + 1)))) =
    ap variables (term_app I W m r.good id r.there s b q) ∙ variables_app _ _ in
    let l = node_rise I W m r.good id r.there s b in
    record {
      ready = r;
      begins = b;
      ends = refl;
      small = q;
      has_variable = o;
      from = omega arith;
      upto = omega arith;
      left = ap (union (holds set)) (sym t);
      nodes = refl;
      visits = k;
      long_set = refl;
      long_seen = refl;
    }

module _ (I W : List ℕ) (m : Mark) (id s e : ℕ) (set₀ seen₀ set seen : List ℕ) (at : ℕ) (l : Looping I W m id s e set₀ seen₀ set seen at) where
  abbrev M : Made
  M = made I W m

  abbrev args : Trees
  args = args_of M (run W (s + 1) (e - (s + 1)))

  inside : e ≤ length W
  inside = let a = node_inside I W m l.ready.good id l.ready.there s l.begins in let b = l.ends in omega arith

  module _ (h : at < e) where
    pub arg_falls : get_or W at 0 < id
    arg_falls = args_below I W m l.ready.good id l.ready.there s l.begins l.small at l.from (let a = l.ends in omega arith)

    split : args_of M (run W at (e - at)) ≡ more (tree I W m (get_or W at 0)) (args_of M (run W (at + 1) (e - (at + 1))))
    split = args_more M W at e h inside

    pub arg_ready : Readable I W m (get_or W at 0) seen set
    arg_ready =
        let a = arg_falls in
        let b = l.ready.there in
        let c = l.long_seen in
        let d = l.ready.wide in
        record { good = l.ready.good; there = omega arith; wide = omega arith; broad = let x = l.ready.broad in let y = l.long_set in omega arith }

    pub looping_on : (set' seen' : List ℕ) → length set' ≡ length set → length seen' ≡ length seen
        → Visited I W m (get_or W at 0) (holds seen) (holds set) (holds seen') (holds set') → Looping I W m id s e set₀ seen₀ set' seen' (at + 1)
    looping_on set' seen' p q c =
        let f = l.from in
        let rest = args_of M (run W (at + 1) (e - (at + 1))) in
        record {
          ready = l.ready;
          begins = l.begins;
          ends = l.ends;
          small = l.small;
          has_variable = l.has_variable;
          from = omega arith;
          upto = omega arith;
          left = ap (λ (a : Set). union a (variables_of rest)) c.set
              ∙ union_assoc (holds set) (variables (tree I W m (get_or W at 0))) (variables_of rest)
              ∙ ap (union (holds set)) (sym (ap variables_of split ∙ variables_more _ _)) ∙ l.left;
          nodes = ap (λ (a : Set). union a (open_nodes_of M rest)) c.nodes
              ∙ union_assoc (holds seen) (open_nodes M (tree I W m (get_or W at 0))) (open_nodes_of M rest)
              ∙ ap (union (holds seen)) (sym (ap (open_nodes_of M) split ∙ nodes_more M _ _)) ∙ l.nodes;
          visits = c.visits;
          long_set = p ∙ l.long_set;
          long_seen = q ∙ l.long_seen;
        }

  pub looping_ends : e ≤ at → (seen' : List ℕ) → holds seen' ≡ plus id (holds seen) → Visited I W m id (holds seen₀) (holds set₀) (holds seen') (holds set)
  looping_ends h seen' p =
      let z = args_none M W at e h in
      let f : holds set ≡ union (holds set₀) (variables (tree I W m id)) =
      sym (union_empty (holds set)) ∙ ap (union (holds set)) (sym (ap variables_of z ∙ variables_none)) ∙ l.left in
      record { set = f; nodes = all; visits = visited I W m id (holds seen₀) (holds seen) (holds seen') (holds set₀) (holds set) l.ready.there l.visits p all f }
    where
      is : tree I W m id ≡ app (get_or W s 0) args
      is = term_app I W m l.ready.good id l.ready.there s l.begins l.small ∙ ap (λ (k : ℕ). app (get_or W s 0) (args_of M (run W (s + 1) (k - (s + 1))))) (sym l.ends)

      opens : are_open args ≡ true
      opens = app_open (get_or W s 0) args (tree I W m id) is l.has_variable

      own : number M (app (get_or W s 0) args) ≡ id
      own = ap (number M) (sym is) ∙ tree_number l.ready.good id l.ready.there

      so_far : holds seen ≡ union (holds seen₀) (open_nodes_of M args)
      so_far = sym (union_empty (holds seen)) ∙ ap (union (holds seen)) (sym (ap (open_nodes_of M) (args_none M W at e h) ∙ nodes_none M)) ∙ l.nodes

      all : holds seen' ≡ union (holds seen₀) (open_nodes M (tree I W m id))
      all =
          p ∙ ap (plus id) so_far
          ∙ (λ i j. or_last (holds seen₀ j) (open_nodes_of M args j) (eqb j id) i)
          ∙ (λ i j. holds seen₀ j || (eqb j (sym own i) || open_nodes_of M args j))
          ∙ ap (union (holds seen₀)) (sym (ap (open_nodes M) is ∙ open_nodes_lem M (get_or W s 0) args opens))

-- what joined the empty set is all of it
pub occurs_is : (n : ℕ) (t : Tree) (a : Set) (x : ℕ) (r : Bool) → a ≡ union (holds (replicate n 0)) (variables t) → r ≡ a x → r ≡ variables t x
occurs_is n t a x r e f = f ∙ ap (λ (c : Set). c x) e ∙ ap (λ (c : Set). c x || variables t x) (holds_zero n)
