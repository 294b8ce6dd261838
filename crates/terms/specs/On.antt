-- What a call did to the store, said once for every answer: `Went` where the definition's action is answered, `Stopped` where it refuses.
-- And `On`: how far a definition's `do` block has come. It began at the tables I W and the mark old with the answer K; now the tables are J X at
-- the mark now, and K is what `rest` says. A law for each kind of step goes from bind to bind: of a block that makes u, asks, looks v up and
-- makes us, with g the tables' Good, p and d what the two calls did, q the test's answer and e what was found, the whole is
--     on_done (on_ok _ (on_found_some _ _ (on_ask_yes _ _ (on_ok _ (on_start g) p) q) e) d)
-- (the block shows each `_`). Assumes nothing.
use Rattle.std.specs.Prelude.{◌≡◌, refl, Bool, true, false, List, ℕ, Option, Some as some, None as nothing}
use Rattle.std.proofs.Common.{ap, ◌∙◌}
use Rattle.rules.specs.Out.{Out, ok, refuse, then, ask, room, found}
use Rattle.rules.specs.Tree.{Tree}
use Rattle.rules.specs.Store.{Made}
use Rattle.rules.specs.Laws.Store.{then_ok, then_refuse}
use Rattle.terms.specs.declared.store.Mark.{Mark}
use Rattle.terms.specs.Table.{made, Good, Grown, Stored, Refused, tree}
use Rattle.terms.specs.Patterns.{Builds, Stops}
use Rattle.terms.specs.Laws.Growth.{grown_refl, grown_trans}

-- Answers ------------------------------------------------------------------------------------------------------------------------------

-- the action is answered by a, and the tables hold what is made then
pub record Went {A : Type 0} (I W J X : List ℕ) (old : Mark) (K : Out Made A) (a : A) (new : Mark) : Type 0 where
  pub grown : Grown I W J X old new
  pub makes : K ≡ ok a (made J X new)

-- the action refuses by question q, and the tables hold what was made until then
pub record Stopped {A : Type 0} (I W J X : List ℕ) (old : Mark) (K : Out Made A) (q d : ℕ) (new : Mark) : Type 0 where
  pub grown : Grown I W J X old new
  pub makes : K ≡ refuse q d (made J X new)

-- an action that makes nothing
pub pure_went : {A : Type 0} {I W : List ℕ} {m : Mark} {K : Out Made A} {a : A} → Good I W m → K ≡ ok a (made I W m) → Went I W I W m K a m
pure_went g e = record { grown = grown_refl g; makes = e }

pub pure_stopped : {A : Type 0} {I W : List ℕ} {m : Mark} {K : Out Made A} {q d : ℕ} → Good I W m → K ≡ refuse q d (made I W m) → Stopped I W I W m K q d m
pure_stopped g e = record { grown = grown_refl g; makes = e }

module _ {I W J X : List ℕ} {old new : Mark} where
  pub stored_went : {t : Tree} {K : Out Made Tree} {n : ℕ} → Stored I W J X old t K n new → Went I W J X old K t new
  stored_went s = record { grown = s.grown; makes = s.makes }

  pub refused_stopped : {A : Type 0} {K : Out Made A} {r : ℕ} → Refused A I W J X old K r new → Stopped I W J X old K 60 r new
  refused_stopped s = record { grown = s.grown; makes = s.makes }

  pub builds_went : {K : Out Made Tree} {behind n place : ℕ} → Builds I W J X old K behind n place new → Went I W J X old K (tree J X new n) new
  builds_went s = record { grown = s.grown; makes = s.makes }

  pub stops_stopped : {K : Out Made Tree} {q d : ℕ} → Stops I W J X old K q d new → Stopped I W J X old K q d new
  stops_stopped s = record { grown = s.grown; makes = s.makes }

-- How far a block has come ---------------------------------------------------------------------------------------------------------------

pub record On {A : Type 0} (I W : List ℕ) (old : Mark) (K : Out Made A) (J X : List ℕ) (now : Mark) (rest : Out Made A) : Type 0 where
  pub grown : Grown I W J X old now
  pub here : K ≡ rest

pub on_start : {A : Type 0} {I W : List ℕ} {m : Mark} {K : Out Made A} → Good I W m → On I W m K I W m K
on_start g = record { grown = grown_refl g; here = refl }

module _ {A : Type 0} {I W : List ℕ} {old : Mark} {K : Out Made A} {J X : List ℕ} {now : Mark} where
  -- what is left is the same, said otherwise
  pub on_is : {rest other : Out Made A} → On I W old K J X now rest → rest ≡ other → On I W old K J X now other
  on_is o e = record { grown = o.grown; here = o.here ∙ e }

  module _ {B : Type 0} {Q : Out Made B} (f : B → Made → Out Made A) where
    -- the step went well, and f comes next
    pub on_ok : {Y Z : List ℕ} {new : Mark} {a : B} → On I W old K J X now (then Q f) → Went J X Y Z now Q a new → On I W old K Y Z new (f a (made Y Z new))
    on_ok {Y} {Z} {new} {a} o w = record { grown = grown_trans o.grown w.grown; here = o.here ∙ then_ok Q a (made Y Z new) f w.makes }

    -- the step refused
    pub on_no : {Y Z : List ℕ} {new : Mark} {q d : ℕ} → On I W old K J X now (then Q f) → Stopped J X Y Z now Q q d new → Stopped I W Y Z old K q d new
    on_no {Y} {Z} {new} {q} {d} o s = record { grown = grown_trans o.grown s.grown; makes = o.here ∙ then_refuse Q q d (made Y Z new) f s.makes }

    -- the same for a step that makes nothing
    pub on_pure : {a : B} → On I W old K J X now (then Q f) → Q ≡ ok a (made J X now) → On I W old K J X now (f a (made J X now))
    on_pure {a} o e = record { grown = o.grown; here = o.here ∙ then_ok Q a (made J X now) f e }

    pub on_stop : {q d : ℕ} → On I W old K J X now (then Q f) → Q ≡ refuse q d (made J X now) → Stopped I W J X old K q d now
    on_stop {q} {d} o e = record { grown = o.grown; makes = o.here ∙ then_refuse Q q d (made J X now) f e }

  -- the last step
  pub on_went : {Y Z : List ℕ} {new : Mark} {rest : Out Made A} {a : A} → On I W old K J X now rest → Went J X Y Z now rest a new → Went I W Y Z old K a new
  on_went o w = record { grown = grown_trans o.grown w.grown; makes = o.here ∙ w.makes }

  pub on_stopped : {Y Z : List ℕ} {new : Mark} {rest : Out Made A} {q d : ℕ} → On I W old K J X now rest → Stopped J X Y Z now rest q d new → Stopped I W Y Z old K q d new
  on_stopped o s = record { grown = grown_trans o.grown s.grown; makes = o.here ∙ s.makes }

  -- nothing is left
  pub on_done : {a : A} → On I W old K J X now (ok a (made J X now)) → Went I W J X old K a now
  on_done o = record { grown = o.grown; makes = o.here }

  pub on_refused : {q d : ℕ} → On I W old K J X now (refuse q d (made J X now)) → Stopped I W J X old K q d now
  on_refused o = record { grown = o.grown; makes = o.here }

  -- Questions -----------------------------------------------------------------------------------------------------------------------------

  module _ (f : Unit {0} → Made → Out Made A) (n : ℕ) {b : Bool} where
    pub on_ask_yes : On I W old K J X now (then (ask n b (made J X now)) f) → b ≡ true → On I W old K J X now (f tt (made J X now))
    on_ask_yes o e = on_pure f o (ap (λ (c : Bool). ask n c (made J X now)) e)

    pub on_ask_no : On I W old K J X now (then (ask n b (made J X now)) f) → b ≡ false → Stopped I W J X old K n 0 now
    on_ask_no o e = on_stop f o (ap (λ (c : Bool). ask n c (made J X now)) e)

    pub on_room_yes : On I W old K J X now (then (room n b (made J X now)) f) → b ≡ true → On I W old K J X now (f tt (made J X now))
    on_room_yes o e = on_pure f o (ap (λ (c : Bool). room n c (made J X now)) e)

    pub on_room_no : On I W old K J X now (then (room n b (made J X now)) f) → b ≡ false → Stopped I W J X old K 60 n now
    on_room_no o e = on_stop f o (ap (λ (c : Bool). room n c (made J X now)) e)

  module _ {B : Type 0} (f : B → Made → Out Made A) (n : ℕ) {r : Option B} where
    pub on_found_some : {a : B} → On I W old K J X now (then (found n r (made J X now)) f) → r ≡ some a → On I W old K J X now (f a (made J X now))
    on_found_some o e = on_pure f o (ap (λ (s : Option B). found n s (made J X now)) e)

    pub on_found_none : On I W old K J X now (then (found n r (made J X now)) f) → r ≡ nothing → Stopped I W J X old K n 0 now
    on_found_none o e = on_stop f o (ap (λ (s : Option B). found n s (made J X now)) e)
