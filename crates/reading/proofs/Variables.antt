-- The loop over a list of variables, each given once. Assumes nothing.
use mathlib.Core.Path.{◌≡◌, refl, sym, ap, ◌∙◌, subst}
use mathlib.Core.Bool.{Bool, true, false, true≢false, false≢true}
use Rattle.std.specs.Prelude.{Some as some, None as nothing, Option}
use Rattle.std.specs.Option.{is_some}
use mathlib.Core.List.{List, [], ◌∷◌, ◌++◌}
use Prim.Native.Nat.{ℕ, ◌+◌, ◌-◌, ◌*◌, ◌<◌, ◌≤◌}
use native.Mathlib.Omega.{arith}
use lib.ListN.{length, take, drop, set, replicate, length-replicate}
use Rattle.rules.specs.Limits.{VARIABLES, VARIABLEWORDS}
use Rattle.rules.specs.Find.{Set, has, rising}
use Rattle.rules.specs.Sexp.{Sexp, Sexps, atom, list, cons}
use Rattle.rules.specs.State.{Var}
use Rattle.rules.specs.TheoryTables.{filled}
use Rattle.sexp.specs.Items.{Holds, item_at, behind}
use Rattle.sexp.specs.WalkLaws.{Walk, walk_start, walk_over}
use Rattle.sexp.specs.Each.{ListOf}
use Rattle.sexp.specs.FoundLaws.{found_at, found_missing}
use Rattle.terms.specs.Sets.{holds, plus}
use Rattle.terms.specs.Laws.Sets.{holds_zero}
use Rattle.state.specs.Held.{VarsHeld}
use Rattle.state.specs.Filled.{filled_none}
use Rattle.reading.specs.Items.{FirstItem, variable_in, others_in, vars_in}
use Rattle.reading.specs.Answers.{VarsRead, VarsAs}
use Rattle.reading.specs.Given.{VarsItem, VarsItems}
use Rattle.reading.specs.Laws.Walks.{Here, here, go_on}
use Rattle.reading.specs.Laws.Lists.{Listing, listing_none, listing_few, listing_more, listing_count, variable_below, others_none, others_twice, others_more, has_snoc}
use Rattle.reading.proofs.Filling.{length_snoc, put_more, cleared}

-- an atom is no list
pub atom_none : (vs : List Var) (x : Sexp) (k : ℕ) (bs : List ℕ) → x ≡ atom k bs → vars_in vs x ≡ nothing
unfolding vars_in
atom_none vs x k bs e = ap (vars_in vs) e

-- these are read, in the cells and in the set; the rest is left
pub record Varing (vs : List Var) (xs : Sexps) (text cells out seen : List ℕ) (k at : ℕ) : Type 0 where
  pub left : Sexps
  pub us : List ℕ
  pub walk : Walk text cells at left
  pub whole : vars_in vs (list xs) ≡ others_in vs left us
  pub listing : Listing (length vs) us
  pub out_is : out ≡ filled VARIABLES us
  pub seen_is : holds seen ≡ has us
  pub count : k ≡ length us

pub varing_start : (vs : List Var) {xs : Sexps} {text cells out seen : List ℕ} → Holds text cells xs → out ≡ replicate VARIABLES 0 →
    seen ≡ replicate VARIABLEWORDS 0 → Varing vs xs text cells out seen 0 0
unfolding vars_in has
varing_start vs {xs} h o s =
    record {
      left = xs;
      us = [];
      walk = walk_start h;
      whole = refl;
      listing = listing_none (length vs);
      out_is = o ∙ sym (filled_none VARIABLES);
      seen_is = ap holds s ∙ holds_zero VARIABLEWORDS;
      count = refl;
    }

-- what `variable` answers of the item at a place
abbrev pub Named : List Var → List ℕ → List ℕ → ℕ → Option ℕ → Type 0
Named vs text cells at r = (x : Sexp) (ys : Sexps) → Holds text (take (length cells - at) (drop at cells)) (cons x ys) → r ≡ (variable_in vs x)

module _ {vs : List Var} {xs : Sexps} {text cells out seen : List ℕ} {k at : ℕ} (h : Varing vs xs text cells out seen k at) where
  -- nothing is left: they are as many as the set has
  pub varing_over : length cells ≤ at → length seen ≡ VARIABLEWORDS → length vs ≤ VARIABLES → {many : ℕ} → many ≡ length (rising (64 * length seen) (holds seen)) →
      VarsRead vs (list xs) out many
  unfolding others_in
  varing_over l w f {many} c =
      record {
        vars = h.us;
        are = h.whole ∙ ap (λ (z : Sexps). others_in vs z h.us) (walk_over h.walk l);
        count = c ∙ ap (λ (n : ℕ). length (rising (64 * n) (holds seen))) w ∙ ap (λ (s : Set). length (rising VARIABLES s)) h.seen_is
            ∙ sym (listing_count h.listing VARIABLES f);
        cells_are = h.out_is;
      }

  module _ (l : at < length cells) where
    -- the item that is read now
    pub varing_here : Here text cells at h.left
    varing_here = here h.walk l

    -- what `variable` asks
    pub varing_first : FirstItem text (take (length cells - at) (drop at cells))
    varing_first = let y = varing_here in record { x = y.x; ys = y.ys; holds = y.holds }

    whole_here : vars_in vs (list xs) ≡ others_in vs (cons varing_here.x varing_here.ys) h.us
    whole_here = h.whole ∙ ap (λ (z : Sexps). others_in vs z h.us) varing_here.is

    module _ {r : Option ℕ} (w : Named vs text cells at r) where
      pub varing_none : r ≡ nothing → vars_in vs (list xs) ≡ nothing
      varing_none e =
          let y = varing_here in
          whole_here ∙ others_none vs y.x y.ys h.us (found_missing (variable_in vs y.x) r (w y.x y.ys y.holds) e)

      module _ {v : ℕ} (e : r ≡ some v) where
        is_variable : variable_in vs varing_here.x ≡ some v
        is_variable = let y = varing_here in found_at (variable_in vs y.x) r v (w y.x y.ys y.holds) e

        pub varing_below : v < length vs
        varing_below = variable_below vs varing_here.x v is_variable

        module _ {t : Bool} (a : t ≡ holds seen v) where
          pub varing_twice : t ≡ true → vars_in vs (list xs) ≡ nothing
          varing_twice f =
              let y = varing_here in
              whole_here ∙ others_twice vs y.x y.ys h.us v is_variable (sym (ap (λ (s : Set). s v) h.seen_is) ∙ sym a ∙ f)

          module _ (f : t ≡ false) where
            is_new_lem : has h.us v ≡ false
            is_new_lem = sym (ap (λ (s : Set). s v) h.seen_is) ∙ sym a ∙ f

            longer : Listing (length vs) (h.us ++ (v ∷ []))
            longer = listing_more h.listing v varing_below is_new_lem

            -- there is a cell for it
            pub varing_room : length vs ≤ VARIABLES → k < VARIABLES
            varing_room m = omega (arith, listing_few longer, length_snoc h.us v, h.count, m)

            pub varing_more : {seen' : List ℕ} {next : ℕ} → holds seen' ≡ plus v (holds seen) → next ≡ behind at (item_at cells at) →
                Varing vs xs text cells (set out k v) seen' (k + 1) next
            varing_more s n =
                let y = varing_here in
                record {
                  left = y.ys;
                  us = h.us ++ (v ∷ []);
                  walk = (go_on y n).walk;
                  whole = whole_here ∙ others_more vs y.x y.ys h.us v is_variable is_new_lem;
                  listing = longer;
                  out_is = put_more VARIABLES h.us v h.out_is h.count;
                  seen_is = s ∙ ap (plus v) h.seen_is ∙ sym (has_snoc h.us v);
                  count = omega (arith, h.count, length_snoc h.us v);
                }

-- What the table says ----------------------------------------------------------------------------------------------------------------------

module _ {goals text vars cells : List ℕ} {count : ℕ} (g : VarsItems goals text vars count cells) where
  pub vars_few : length g.S.vars ≤ VARIABLES
  vars_few = let s = g.vars_are.stand in omega (arith, s.many, s.few)

  pub named : (at : ℕ) {r : Option ℕ} →
      ((vs : List Var) (x : Sexp) (ys : Sexps) → VarsHeld goals text vars count vs → Holds text (take (length cells - at) (drop at cells)) (cons x ys) →
      r ≡ (variable_in vs x)) → Named g.S.vars text cells at r
  named at f x ys h = f g.S.vars x ys g.vars_are h

-- A list among items -----------------------------------------------------------------------------------------------------------------------

module _ {goals text vars cells : List ℕ} {count : ℕ} (g : VarsItem goals text vars count cells) {part : List ℕ} (l : ListOf text cells g.x part) where
  pub items_inside : VarsItems goals text vars count part
  items_inside = record { S = g.S; xs = l.items; vars_are = g.vars_are; holds = l.holds }

  pub vars_inside : (before out : List ℕ) (r : Option ℕ) →
      ((k : VarsItems goals text vars count part) → VarsAs k.S.vars (list k.xs) before out r) →
      VarsAs g.S.vars g.x before out r
  unfolding items_inside
  vars_inside before out r h = subst (λ (z : Sexp). VarsAs g.S.vars z before out r) (sym l.is) (h items_inside)

  -- it is read, or refused: then the cells, which were zero before, are cleared
  module _ (out : List ℕ) (r : Option ℕ) (h : (k : VarsItems goals text vars count part) → VarsAs k.S.vars (list k.xs) out out r) where
    pub vars_some : (before : List ℕ) → is_some r ≡ true → VarsAs g.S.vars g.x before out r
    vars_some before e = go r (vars_inside out out r h) e
      where
        go : (z : Option ℕ) → VarsAs g.S.vars g.x out out z → is_some z ≡ true → VarsAs g.S.vars g.x before out z
        go (some many) k f = k
        go nothing k f = absurd (false≢true f)

    pub vars_none : {before last : List ℕ} → is_some r ≡ false → before ≡ replicate VARIABLES 0 → length out ≡ length before → last ≡ replicate (length out) 0 →
        VarsAs g.S.vars g.x before last r
    vars_none {before} {last} e o s c = go r (vars_inside out out r h) e
      where
        go : (z : Option ℕ) → VarsAs g.S.vars g.x out out z → is_some z ≡ false → VarsAs g.S.vars g.x before last z
        go (some many) k f = absurd (true≢false f)
        go nothing k f = (k.0, cleared out o (s ∙ ap length o ∙ length-replicate {A = ℕ} VARIABLES 0) c)
