-- The loop over the items of a step: what is left of them, from the cells, the stated conclusion and the store as they are now, gives what all of
-- them give from the start. Assumes nothing.
use mathlib.Core.Path.{◌≡◌, sym, ap, subst}
use mathlib.Core.List.{List}
use Prim.Native.Nat.{ℕ, ◌-◌, ◌<◌, ◌≤◌}
use lib.ListN.{length, take, drop, replicate}
use Rattle.rules.specs.Limits.{RULEVARS}
use Rattle.rules.specs.Sexp.{Sexps, cons}
use Rattle.rules.specs.Theory.{rule}
use Rattle.rules.specs.State.{State}
use Rattle.rules.specs.Step.{Items, no_items, read_item, read_items}
use Rattle.sexp.specs.Items.{item_at, behind}
use Rattle.sexp.specs.WalkLaws.{Walk, walk_start, walk_over}
use Rattle.terms.specs.declared.store.Mark.{Mark}
use Rattle.terms.specs.Table.{made}
use Rattle.terms.specs.On.{On, Stopped, on_start, on_is, on_ok, on_no, on_done}
use Rattle.state.specs.declared.sizes.Sizes.{Sizes}
use Rattle.state.specs.Held.{Names, RuleLists, Ruled, rule_lists}
use Rattle.reading.specs.Given.{Reads}
use Rattle.referring.specs.Derived.{RuleItems, ItemsRead}
use Rattle.derivation.specs.ItemsOf.{ItemsHeld, RuleItem}
use Rattle.derivation.specs.Laws.ItemsOf.{held_none, items_read, read_held, reads_read_item}
use Rattle.reading.specs.Laws.Walks.{walk_next}
use Rattle.reading.specs.Laws.Walks.{Here, here}

-- zs are left in the cells from a place on
pub record ItemsLeft (K : Names) (n : Sizes) (I W : List ℕ) (old : Mark) (r : ℕ) (cells : List ℕ) (S : State) (xs : Sexps) (J X : List ℕ) (now : Mark)
    (bound : List ℕ) (stated at : ℕ) : Type 0 where
  pub zs : Sexps
  pub it : Items
  pub walk : Walk K.text cells at zs
  pub reads : Reads K n J X now S
  pub on : On I W old (read_items S (rule S.theory r) xs no_items (made I W old)) J X now (read_items S (rule S.theory r) zs it (made J X now))
  pub held : ItemsHeld J X now bound stated it

-- of whatever state and items the tables and cells stand for
abbrev pub Itemed : Names → RuleLists → Sizes → List ℕ → List ℕ → Mark → ℕ → List ℕ → List ℕ → List ℕ → Mark → List ℕ → ℕ → ℕ → Type 0
Itemed K P n I W old r cells J X now bound stated at =
    (g : RuleItems K P n I W old r cells) → ItemsLeft K n I W old r cells g.S g.xs J X now bound stated at

pub itemed_start : {K : Names} {P : RuleLists} {n : Sizes} {I W : List ℕ} {m : Mark} {r : ℕ} {cells bound : List ℕ} → bound ≡ replicate RULEVARS 0 →
    {at : ℕ} → at ≡ 0 → Itemed K P n I W m r cells I W m bound 0 at
itemed_start {K = K} {cells = cells} e z g =
    record {
      zs = g.xs;
      it = no_items;
      walk = subst (λ (k : ℕ). Walk K.text cells k g.xs) (sym z) (walk_start g.holds);
      reads = g.reads;
      on = on_start g.reads.good;
      held = held_none e;
    }

module _ {K : Names} {n : Sizes} {I W : List ℕ} {old : Mark} {r : ℕ} {cells : List ℕ} {S : State} {xs : Sexps} {J X : List ℕ} {now : Mark} {bound : List ℕ}
    {stated at : ℕ} (l : ItemsLeft K n I W old r cells S xs J X now bound stated at) where
  -- nothing is left
  pub left_done : length cells ≤ at → ItemsRead I W J X old (read_items S (rule S.theory r) xs no_items (made I W old)) bound stated now
  unfolding read_items
  left_done h =
      items_read (on_done (on_is l.on (ap (λ (z : Sexps). read_items S (rule S.theory r) z l.it (made J X now)) (walk_over l.walk h)))) l.held

  -- One item ---------------------------------------------------------------------------------------------------------------------------

  module _ (t : at < length cells) where
    pub one : Here K.text cells at l.zs
    one = here l.walk t

    on_one : On I W old (read_items S (rule S.theory r) xs no_items (made I W old)) J X now
        (read_items S (rule S.theory r) (cons one.x one.ys) l.it (made J X now))
    on_one = on_is l.on (ap (λ (z : Sexps). read_items S (rule S.theory r) z l.it (made J X now)) one.is)

    module _ {rules rulevars patterns : List ℕ} (ruled : Ruled (rule_lists K.theory rules rulevars patterns) n S.theory) (known : r < n.rules) where
      abbrev pub left_given : RuleItem K rules rulevars n J X now r (take (length cells - at) (drop at cells)) bound stated
      left_given =
          record {
            S = S;
            patterns = patterns;
            it = l.it;
            x = one.x;
            ys = one.ys;
            reads = l.reads;
            ruled = ruled;
            known = known;
            so_far = l.held;
            holds = one.holds;
          }

      -- what reading the item answers
      module _ {Y Z : List ℕ} {new : Mark} where
        pub left_refused : {q d : ℕ} → ((h : RuleItem K rules rulevars n J X now r (take (length cells - at) (drop at cells)) bound stated) →
            Stopped J X Y Z now (read_item h.S (rule h.S.theory r) h.x h.it (made J X now)) q d new) →
            Stopped I W Y Z old (read_items S (rule S.theory r) xs no_items (made I W old)) q d new
        unfolding read_items
        left_refused p = on_no _ on_one (p left_given)

        module _ {B : List ℕ} {s : ℕ} (p : (h : RuleItem K rules rulevars n J X now r (take (length cells - at) (drop at cells)) bound stated) →
            ItemsRead J X Y Z now (read_item h.S (rule h.S.theory r) h.x h.it (made J X now)) B s new) where
          one_read : ItemsRead J X Y Z now (read_item S (rule S.theory r) one.x l.it (made J X now)) B s new
          one_read = p left_given

          on_more : On I W old (read_items S (rule S.theory r) xs no_items (made I W old)) Y Z new
              (read_items S (rule S.theory r) one.ys one_read.items (made Y Z new))
          unfolding read_items
          on_more = on_ok _ on_one one_read.went

          pub left_again : {next : ℕ} → next ≡ behind at (item_at cells at) → ItemsLeft K n I W old r cells S xs Y Z new B s next
          left_again f =
              record {
                zs = one.ys;
                it = one_read.items;
                walk = walk_next one.walk f;
                reads = reads_read_item l.reads (rule S.theory r) one.x l.it one_read.went;
                on = on_more;
                held = read_held one_read;
              }
