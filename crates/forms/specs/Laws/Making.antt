-- Actions on the made trees as steps of a form: `making` goes from what a call says of the store to the state. And how far a form has come: it began
-- with the answer K at the state S and the tables I W; now the tables are J X, the state is S with their trees, and K is what `rest` says.
-- Assumes nothing.
use Rattle.std.specs.Prelude.{◌≡◌, List, ℕ, suc, ◌<◌, drop}
use Rattle.std.proofs.Common.{sym, ◌∙◌, subst}
use Rattle.std.proofs.Math.Path.{ap}
use Rattle.rules.specs.Out.{Out, ok, refuse, then, Act}
use Rattle.rules.specs.Sexp.{Sexps, cons, count, item, rest}
use Rattle.rules.specs.Store.{Made}
use Rattle.rules.specs.State.{State}
use Rattle.rules.specs.Forms.{with_made, making}
use Rattle.rules.specs.Laws.Keeping.{Keeps, stays, further}
use Rattle.rules.specs.Laws.Sound.{sound}
use Rattle.rules.specs.Laws.Ready.{Ready}
use Rattle.rules.specs.Laws.Sexp.{rest_item}
use Rattle.rules.specs.Laws.Store.{then_ok, then_refuse}
use Rattle.sexp.specs.Encode.{encodes}
use Rattle.sexp.specs.Items.{Holds, place}
use Rattle.referring.specs.Laws.Behind.{from_holds}
use Rattle.terms.specs.declared.store.Mark.{Mark}
use Rattle.terms.specs.Table.{made, Good}
use Rattle.terms.specs.On.{Went, Stopped}
use Rattle.terms.specs.Laws.Growth.{grown_refl, grown_trans}
use Rattle.state.specs.Growth.{grows_ok, grows_refuse}
use Rattle.forms.specs.Halted.{Makes, Halts}

-- One action -----------------------------------------------------------------------------------------------------------------------

module _ {A : Type 0} (f : Act Made A) (S : State) where
  abbrev told : Out Made A → Out State A
  told o = elim o [ ok a u ↦ ok a (with_made S u) | refuse n d u ↦ refuse n d (with_made S u) ]

  pub making_ok : {a : A} {U : Made} → f S.made ≡ ok a U → making f S ≡ ok a (with_made S U)
  unfolding making
  making_ok e = ap told e

  pub making_refuse : {q d : ℕ} {U : Made} → f S.made ≡ refuse q d U → making f S ≡ refuse q d (with_made S U)
  unfolding making
  making_refuse e = ap told e

-- What is made ---------------------------------------------------------------------------------------------------------------------

pub makes_none : {I W : List ℕ} {m : Mark} (S : State) → Good I W m → Ready sound S (made I W m) → Makes I W I W m m
makes_none S g r = record { grown = grown_refl g; grows = stays r.good }

pub makes_then : {I W J X Y Z : List ℕ} {a b c : Mark} → Makes I W J X a b → Makes J X Y Z b c → Makes I W Y Z a c
makes_then g h = record { grown = grown_trans g.grown h.grown; grows = further g.grows h.grows }

module _ {I W J X : List ℕ} {old new : Mark} {A : Type 0} {P : A → Made → Type 0} {o : Out Made A} (p : Keeps sound (made I W old) P o) where
  pub makes_went : {a : A} → Went I W J X old o a new → Makes I W J X old new
  makes_went w = record { grown = w.grown; grows = (grows_ok p w.makes).0 }

  pub makes_stopped : {q d : ℕ} → Stopped I W J X old o q d new → Makes I W J X old new
  makes_stopped w = record { grown = w.grown; grows = grows_refuse p w.makes }

-- How far a form has come ----------------------------------------------------------------------------------------------------------

pub record Reached (I W : List ℕ) (old : Mark) (S : State) (K : Out State (Unit {0})) (J X : List ℕ) (now : Mark) (left : Out State (Unit {0})) : Type 0 where
  pub makes : Makes I W J X old now
  pub here : K ≡ left

-- the state has the store's trees
pub state_made : (S : State) {M : Made} → M ≡ S.made → with_made S M ≡ S
state_made S e = ap (with_made S) e

module _ {I W : List ℕ} {m : Mark} {S : State} (g : Good I W m) (r : Ready sound S (made I W m)) (e : made I W m ≡ S.made) where
  -- where it begins
  pub reached_start : (f : State → Out State (Unit {0})) → Reached I W m S (f S) I W m (f (with_made S (made I W m)))
  reached_start f = record { makes = makes_none S g r; here = ap f (sym (state_made S e)) }

  -- a refusal before anything is made
  pub halts_first : {K : Out State (Unit {0})} {q d : ℕ} → K ≡ refuse q d S → Halts I W I W m S K q d m
  halts_first {q = q} {d} k = record { makes = makes_none S g r; is = k ∙ ap (refuse q d) (sym (state_made S e)) }

module _ {I W : List ℕ} {old : Mark} {S : State} {K : Out State (Unit {0})} {J X : List ℕ} {now : Mark} where
  pub reached_is : {left other : Out State (Unit {0})} → Reached I W old S K J X now left → left ≡ other → Reached I W old S K J X now other
  reached_is o e = record { makes = o.makes; here = o.here ∙ e }

  -- a question that is left
  pub reached_halts : {left : Out State (Unit {0})} {q d : ℕ} → Reached I W old S K J X now left → left ≡ refuse q d (with_made S (made J X now)) →
      Halts I W J X old S K q d now
  reached_halts o e = record { makes = o.makes; is = o.here ∙ e }

  -- an action on the trees, and what follows it
  module _ {A : Type 0} (f : Act Made A) (h : A → State → Out State (Unit {0})) {P : A → Made → Type 0} {Y Z : List ℕ} {new : Mark}
      (o : Reached I W old S K J X now (then (making f (with_made S (made J X now))) h)) (p : Keeps sound (made J X now) P (f (made J X now))) where
    pub reached_went : {a : A} → Went J X Y Z now (f (made J X now)) a new → Reached I W old S K Y Z new (h a (with_made S (made Y Z new)))
    reached_went {a} w =
        record {
          makes = makes_then o.makes (makes_went p w);
          here = o.here ∙ then_ok (making f (with_made S (made J X now))) a (with_made S (made Y Z new)) h (making_ok f (with_made S (made J X now)) w.makes);
        }

    pub reached_stopped : {q d : ℕ} → Stopped J X Y Z now (f (made J X now)) q d new → Halts I W Y Z old S K q d new
    reached_stopped {q} {d} w =
        record {
          makes = makes_then o.makes (makes_stopped p w);
          is = o.here ∙ then_refuse (making f (with_made S (made J X now))) q d (with_made S (made Y Z new)) h (making_refuse f (with_made S (made J X now)) w.makes);
        }

-- The items of a form --------------------------------------------------------------------------------------------------------------

-- from where `place` says, the cells begin with that item
pub item_holds : {text cells : List ℕ} {xs : Sexps} (h : Holds text cells xs) (k : ℕ) {behind : List ℕ} → k < count xs →
    ((ys : Sexps) → cells ≡ encodes ys → behind ≡ drop (place ys k) cells) → Holds text behind (cons (item xs k) (rest xs (suc k)))
item_holds {text} {cells} {xs} h k {behind} l a = subst (Holds text behind) (rest_item xs k l) (from_holds h k a)
