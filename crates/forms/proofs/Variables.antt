-- What `add_var` answers, question by question, and what the code finds. Assumes nothing.
use mathlib.Core.Path.{◌≡◌, refl, sym, ap, ◌∙◌, subst}
use mathlib.Core.Bool.{Bool, true, false, not, ◌&&◌}
use Rattle.std.proofs.Math.Bool.{not-not}
use Rattle.std.specs.Prelude.{Option, Some as some, None as nothing, is_some}
use mathlib.Core.List.{List, [], ◌∷◌, ◌++◌}
use Prim.Native.Nat.{ℕ, ◌+◌, ◌-◌, ◌*◌, ◌^◌, ◌<◌, ◌≤◌}
use native.Mathlib.Omega.{arith}
use lib.Dec.{ltb}
use lib.ListN.{length, take, drop}
use lib.Seq.{sets}
use borrow.Author.Tests.{lt-ltb, le-ltb}
use Rattle.rules.specs.Limits.{SORTS, VARIABLES}
use Rattle.rules.specs.Text.{same}
use Rattle.rules.specs.Lex.{letters}
use Rattle.rules.specs.Out.{Out, ok, refuse, then, ask, room, found}
use Rattle.rules.specs.Sexp.{Sexp, Sexps, atom, list, item, rest, Name, name, marked}
use Rattle.rules.specs.Theory.{Theory, no_name, sort_named}
use Rattle.rules.specs.Declare.{is_new}
use Rattle.rules.specs.State.{State, Var}
use Rattle.rules.specs.Forms.{with_vars, add_var}
use Rattle.rules.specs.Laws.Find.{first_some}
use Rattle.sexp.specs.Encode.{encodes}
use Rattle.sexp.specs.Items.{Holds, Held, item_of, place}
use Rattle.sexp.specs.FoundLaws.{found_at}
use Rattle.sexp.specs.NthItem.{nth_text, nth_part}
use Rattle.sexp.specs.Each.{HeadIs}
use Rattle.referring.specs.Laws.Behind.{from_holds, head_item}
use denote.Ref.{Bor}
use Rattle.sexp.specs.AtomText.{AtomText, atom_part, atom_high, atom_named}
use Rattle.sexp.specs.declared.items.Item.{Item}
use Rattle.sexp.specs.declared.items.Item.TheVariants.{Atom, List as Part}
use Rattle.kernel.specs.Held.{SortsHeld, SymbolsHeld}
use Rattle.kernel.specs.SignatureRows.{sorts_few}
use Rattle.state.specs.declared.sizes.Sizes.{Sizes}
use Rattle.state.specs.Held.{VarsHeld}
use Rattle.state.specs.Rows.{VarAt, Fits4}
use Rattle.state.specs.VarLaws.{vars_long}
use Rattle.forms.specs.Declares.{unused, AddsVar, VarAdded}
use Rattle.std.proofs.Math.Bool.{and_assoc}

-- Names that are used ---------------------------------------------------------------------------------------------------------------

pub is_new_lem : {A : Type 0} (o : Option A) → o ≡ nothing → is_new o ≡ true
unfolding is_new
is_new_lem o e = ap is_new e

pub not_new : {A : Type 0} {a : A} (o : Option A) → o ≡ some a → is_new o ≡ false
unfolding is_new
not_new o e = ap is_new e

-- what `is_none` says of a name that is looked up
pub none_new : (q : Option ℕ) {o : Option ℕ} {r : Bool} → q ≡ o → is_some q ≡ not r → r ≡ is_new o
unfolding is_new
none_new q {o} {r} e f = sym (not-not r) ∙ ap not (sym f) ∙ go q ∙ ap is_new e
  where
    go : (q : Option ℕ) → not (is_some q) ≡ is_new q
    go (some i) = refl
    go nothing = refl

-- the first two, and the third
pub both_new : {r x y v : Bool} → r ≡ x → r ≡ true → v ≡ y → v ≡ x && y
both_new {y = y} e t f = f ∙ ap (λ (w : Bool). w && y) (sym t ∙ e)

pub one_old : {r x v : Bool} (y : Bool) → r ≡ x → r ≡ false → v ≡ r → v ≡ x && y
one_old y e t f = f ∙ t ∙ ap (λ (w : Bool). w && y) (sym t ∙ e)

pub all_new : {v r : Bool} (x y : Bool) {z : Bool} → v ≡ x && y → v ≡ true → r ≡ z → r ≡ x && (y && z)
all_new x y {z} e t f = f ∙ ap (λ (w : Bool). w && z) (sym t ∙ e) ∙ and_assoc x y z

pub not_both : {v : Bool} (x y z : Bool) → v ≡ x && y → v ≡ false → v ≡ x && (y && z)
not_both x y z e f = f ∙ ap (λ (w : Bool). w && z) (sym f ∙ e) ∙ and_assoc x y z

-- The definition --------------------------------------------------------------------------------------------------------------------

abbrev pub new_var : ℕ → ℕ → ℕ → List ℕ → Var
new_var k which p bs = record { sort = k; text = which; name = record { start = p; bytes = bs } }

module _ (which : ℕ) (xs : Sexps) (S : State) where
  abbrev roomed : ℕ → Name → Bool → Out State (Unit {0})
  roomed k n b = then (room 7 b S) (λ _ U. ok tt (with_vars S (S.vars ++ (record { sort = k; text = which; name = n } ∷ []))))

  abbrev asked : ℕ → Name → Bool → Bool → Out State (Unit {0})
  asked k n m b = then (ask 21 (not m && b) S) (λ _ U. then (room 7 (ltb (length S.vars) VARIABLES) U) (λ _ Y. ok tt (with_vars S (S.vars ++ (record { sort = k; text = which; name = n } ∷ [])))))

  abbrev sorted : Name → Option ℕ → Out State (Unit {0})
  sorted n o = then (found 21 o S) (λ k U. then (ask 21 (not (marked n.bytes) && unused S n.bytes) U)
      (λ _ Y. then (room 7 (ltb (length S.vars) VARIABLES) Y) (λ _ Z. ok tt (with_vars S (S.vars ++ (record { sort = k; text = which; name = n } ∷ []))))))

  abbrev named : Sexp → Sexp → Out State (Unit {0})
  named x y = then (name 21 x S) (λ n T. then (name 21 y T) (λ s U. then (found 21 (sort_named S.theory s.bytes) U) (λ k Y.
      then (ask 21 (not (marked n.bytes) && unused S n.bytes) Y)
      (λ _ Z. then (room 7 (ltb (length S.vars) VARIABLES) Z) (λ _ Q. ok tt (with_vars S (S.vars ++ (record { sort = k; text = which; name = n } ∷ []))))))))

  pub var_unnamed : {ys : Sexps} → item xs 1 ≡ list ys → add_var which xs S ≡ refuse 21 0 S
  unfolding add_var name then
  var_unnamed e = ap (λ (x : Sexp). named x (item xs 2)) e

  module _ {p : ℕ} {bs : List ℕ} (a : item xs 1 ≡ atom p bs) where
    pub var_listed : {ys : Sexps} → item xs 2 ≡ list ys → add_var which xs S ≡ refuse 21 0 S
    unfolding add_var name then
    var_listed e = λ i. named (a i) (e i)

    module _ {q : ℕ} {ss : List ℕ} (b : item xs 2 ≡ atom q ss) where
      var_sorting : add_var which xs S ≡ sorted (record { start = p; bytes = bs }) (sort_named S.theory ss)
      unfolding add_var name then
      var_sorting = λ i. named (a i) (b i)

      pub var_unsorted : sort_named S.theory ss ≡ nothing → add_var which xs S ≡ refuse 21 0 S
      unfolding then
      var_unsorted e = var_sorting ∙ ap (sorted (record { start = p; bytes = bs })) e

      module _ {k : ℕ} (s : sort_named S.theory ss ≡ some k) where
        var_asking : add_var which xs S ≡ asked k (record { start = p; bytes = bs }) (marked bs) (unused S bs)
        unfolding then
        var_asking = var_sorting ∙ ap (sorted (record { start = p; bytes = bs })) s

        pub var_marked_lem : marked bs ≡ true → add_var which xs S ≡ refuse 21 0 S
        unfolding then
        var_marked_lem e = var_asking ∙ ap (λ (z : Bool). asked k (record { start = p; bytes = bs }) z (unused S bs)) e

        module _ (m : marked bs ≡ false) where
          pub var_used : unused S bs ≡ false → add_var which xs S ≡ refuse 21 0 S
          unfolding then
          var_used e = var_asking ∙ (λ i. asked k (record { start = p; bytes = bs }) (m i) (e i))

          module _ (f : unused S bs ≡ true) where
            var_rooming : add_var which xs S ≡ roomed k (record { start = p; bytes = bs }) (ltb (length S.vars) VARIABLES)
            unfolding then
            var_rooming = var_asking ∙ (λ i. asked k (record { start = p; bytes = bs }) (m i) (f i))

            pub var_full : VARIABLES ≤ length S.vars → add_var which xs S ≡ refuse 60 7 S
            unfolding then
            var_full l = var_rooming ∙ ap (roomed k (record { start = p; bytes = bs })) (le-ltb (length S.vars) VARIABLES l)

            pub var_added : length S.vars < VARIABLES → add_var which xs S ≡ ok tt (with_vars S (S.vars ++ (new_var k which p bs ∷ [])))
            unfolding then
            var_added l = var_rooming ∙ ap (roomed k (record { start = p; bytes = bs })) (lt-ltb (length S.vars) VARIABLES l)

-- The code --------------------------------------------------------------------------------------------------------------------------

-- the number of a sort fits into a cell
pub sort_small : (T : Theory) {text sorts : List ℕ} {known : ℕ} → SortsHeld text sorts known T.sorts → (bs : List ℕ) (r : Option ℕ) {k : ℕ} →
    r ≡ (sort_named T bs) → r ≡ some k → k ≤ SORTS
unfolding sort_named
sort_small T h bs r {k} e f =
    let s = first_some (λ (n : Name). same n.bytes bs) T.sorts 1 k no_name (found_at (sort_named T bs) r k e f) in
    omega (arith, s.is, s.inside, h.many, sorts_few h)

module _ {theory goals text sorts symbols vars : List ℕ} {n : Sizes} {cells : List ℕ} (g : AddsVar theory goals text sorts symbols vars n cells) where
  module _ {x : Item} (a : (ys : Sexps) → cells ≡ encodes ys → x ≡ item_of (place ys 1) (item ys 1)) where
    -- the name is a list
    pub var_no_name : (which : ℕ) {u w : ℕ} → x ≡ Part u w → add_var which g.xs g.S ≡ refuse 21 0 g.S
    var_no_name which e = var_unnamed which g.xs g.S (nth_part g.holds 1 a (omega (arith, g.many)) e).is

    module _ {start : ℕ} (e : x ≡ Atom start) where
      pub var_name_lem : AtomText text (item g.xs 1) start
      var_name_lem = nth_text g.holds 1 a e

      abbrev end : ℕ
      end = start + length (letters (drop start text))

      module _ {behind : List ℕ} (b : (ys : Sexps) → cells ≡ encodes ys → behind ≡ drop (place ys 2) cells) where
        pub var_sort_held : Held text behind
        var_sort_held = (rest g.xs 2, from_holds g.holds 2 b)

        -- what `head` answers
        module _ (o : Option (Bor (List ℕ))) (f : (ys : Sexps) → Holds text behind ys → HeadIs (item ys 0) o) where
          told : HeadIs (item g.xs 2) o
          told = head_item g.holds 2 b o f

          -- the sort is a list
          pub var_no_sort : (which : ℕ) → o ≡ nothing → add_var which g.xs g.S ≡ refuse 21 0 g.S
          var_no_sort which e = var_listed which g.xs g.S var_name_lem.is (subst (HeadIs (item g.xs 2)) e told).1

          module _ {ss' : Bor (List ℕ)} (w : o ≡ some ss') where
            abbrev ss : List ℕ
            ss = ss'.now

            var_sort_text : (p : ℕ) × (item g.xs 2 ≡ atom p ss)
            var_sort_text = subst (HeadIs (item g.xs 2)) w told

            module _ {r : Option ℕ} (s : (T : Theory) → SortsHeld theory sorts n.sorts T.sorts → r ≡ (sort_named T ss)) where
              sort_told : r ≡ (sort_named g.S.theory ss)
              sort_told = s g.S.theory g.sorts_are

              pub var_sort_missing : (which : ℕ) → r ≡ nothing → add_var which g.xs g.S ≡ refuse 21 0 g.S
              var_sort_missing which c = var_unsorted which g.xs g.S var_name_lem.is var_sort_text.1 (sym sort_told ∙ c)

              module _ {k : ℕ} (c : r ≡ some k) where
                sort_is : sort_named g.S.theory ss ≡ some k
                sort_is = sym sort_told ∙ c

                pub var_sort_small : k < 2 ^ 32
                var_sort_small = omega (arith, sort_small g.S.theory g.sorts_are ss r sort_told c)

                pub var_is_marked : (which : ℕ) {b : Bool} → b ≡ marked (letters (drop start text)) → b ≡ true → add_var which g.xs g.S ≡ refuse 21 0 g.S
                var_is_marked which m t = var_marked_lem which g.xs g.S var_name_lem.is var_sort_text.1 sort_is (sym m ∙ t)

                module _ {mk : Bool} (m : mk ≡ marked (letters (drop start text))) (no : mk ≡ false) {u : Bool}
                    (v : (S : State) → (inputs : List ℕ) × SymbolsHeld theory symbols inputs n.symbols S.theory.symbols × VarsHeld goals text vars n.vars S.vars →
                    u ≡ unused S (take (end - start) (drop start text))) where
                  free_told : u ≡ unused g.S (letters (drop start text))
                  free_told = v g.S (g.inputs, g.symbols_are, g.vars_are) ∙ ap (unused g.S) (atom_part text start end var_name_lem.inside refl)

                  pub var_is_used : (which : ℕ) → u ≡ false → add_var which g.xs g.S ≡ refuse 21 0 g.S
                  var_is_used which t = var_used which g.xs g.S var_name_lem.is var_sort_text.1 sort_is (sym m ∙ no) (sym free_told ∙ t)

                  module _ (t : u ≡ true) where
                    pub var_no_room : (which : ℕ) → VARIABLES ≤ n.vars → add_var which g.xs g.S ≡ refuse 60 7 g.S
                    var_no_room which q =
                        var_full which g.xs g.S var_name_lem.is var_sort_text.1 sort_is (sym m ∙ no) (sym free_told ∙ t)
                        (omega (arith, g.vars_are.stand.many))

                    pub var_fits : {which : ℕ} → which < 2 ^ 32 → n.vars < VARIABLES → VarAt vars n.vars × Fits4 k which start end
                    var_fits w q = (
                      (vars_long g.vars_are.stand, q),
                      record {
                        first = var_sort_small;
                        second = w;
                        third = omega (arith, var_name_lem.inside, g.short);
                        fourth = omega (arith, atom_high text start end var_name_lem.inside refl, g.short);
                      },
                    )

                    pub var_is_added : (which : ℕ) → n.vars < VARIABLES → {after : List ℕ} → after ≡ sets vars (4 * n.vars) (k ∷ which ∷ start ∷ end ∷ []) →
                        VarAdded text vars after n which g.S (add_var which g.xs g.S)
                    var_is_added which q o =
                        record {
                          new = new_var k which start (letters (drop start text));
                          end = end;
                          is = var_added which g.xs g.S var_name_lem.is var_sort_text.1 sort_is (sym m ∙ no) (sym free_told ∙ t)
                              (omega (arith, g.vars_are.stand.many));
                          room = q;
                          of_text = refl;
                          named = atom_named text start var_name_lem.inside;
                          ends = refl;
                          cells = o;
                        }
