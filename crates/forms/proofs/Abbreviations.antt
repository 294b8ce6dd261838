-- What `add_def` answers, question by question, and what the code finds. Assumes nothing.
use Rattle.std.specs.Prelude.{Some as some, None as nothing, Option}
use mathlib.Core.Path.{◌≡◌, refl, sym, ap, ◌∙◌, subst}
use mathlib.Core.Bool.{Bool, true, false, ◌&&◌}
use mathlib.Core.List.{List, [], ◌∷◌, ◌++◌}
use Prim.Native.Nat.{ℕ, ◌+◌, ◌-◌, ◌*◌, ◌<◌, ◌≤◌}
use native.Mathlib.Omega.{arith}
use lib.Dec.{leb, ltb}
use lib.ListN.{length, take, drop}
use lib.Seq.{sets}
use borrow.Author.Tests.{lt-ltb, le-ltb, le-leb, lt-leb}
use Rattle.rules.specs.Limits.{DEFS}
use Rattle.rules.specs.Lex.{letters}
use Rattle.rules.specs.Out.{Out, ok, refuse, then, ask, room}
use Rattle.rules.specs.Sexp.{Sexp, Sexps, atom, list, item, rest, Name, name, marked}
use Rattle.rules.specs.Tree.{Tree}
use Rattle.rules.specs.Store.{Made}
use Rattle.rules.specs.Declare.{is_new}
use Rattle.rules.specs.State.{State, Def, abbreviated}
use Rattle.rules.specs.Read.{term}
use Rattle.rules.specs.Forms.{with_made, with_defs, making, add_def}
use Rattle.rules.proofs.Laws.ReadWalk.{term_keeps}
use Rattle.sexp.specs.Encode.{encodes}
use Rattle.sexp.specs.Items.{item_of, place}
use Rattle.sexp.specs.NthItem.{nth_text, nth_part}
use Rattle.sexp.specs.AtomText.{AtomText, atom_part, atom_named}
use Rattle.sexp.specs.declared.items.Item.{Item}
use Rattle.sexp.specs.declared.items.Item.TheVariants.{Atom, List as Part}
use Rattle.terms.specs.declared.store.Mark.{Mark}
use Rattle.terms.specs.Table.{made, tree}
use Rattle.terms.specs.On.{Stopped}
use Rattle.terms.specs.Laws.Numbers.{tree_number}
use Rattle.state.specs.declared.sizes.Sizes.{Sizes}
use Rattle.state.specs.Held.{Names, DefsHeld}
use Rattle.state.specs.Rows.{Fits4, DefFound}
use Rattle.state.specs.Growth.{grows_ok}
use Rattle.state.specs.Numbered.{sound_in}
use Rattle.state.specs.DefLaws.{defs_long}
use Rattle.reading.specs.Given.{Reads, ReadsItem}
use Rattle.reading.specs.Answers.{TypedRead}
use Rattle.reading.specs.Laws.Reading.{reads_ready, reads_term}
use Rattle.forms.specs.Halted.{ReadsForm, Halts}
use Rattle.forms.specs.declared.declare.Abbreviation.{Abbreviation}
use Rattle.forms.specs.Declares.{DefNamed, DefAdded}
use Rattle.forms.specs.Laws.Making.{Reached, reached_start, reached_halts, reached_went, reached_stopped, halts_first, item_holds}
use Rattle.forms.proofs.Variables.{is_new_lem, not_new}

-- The definition --------------------------------------------------------------------------------------------------------------------

-- behind the term
abbrev pub def_end : Name → Tree → State → Bool → Bool → Out State (Unit {0})
def_end n t U b r = then (ask 33 b U) (λ _ Y. then (room 10 r Y) (λ _ Z. ok tt (with_defs Z (Z.defs ++ (record { name = n; term = t } ∷ [])))))

module _ (xs : Sexps) (S : State) where
  -- behind the name
  abbrev after_name : Name → Bool → Out State (Unit {0})
  after_name n b = then (ask 33 b S) (λ _ Y. then (making (term S (item xs 2)) Y) (λ t U. then (ask 33 (is_new (abbreviated S.defs n.bytes)) U)
      (λ _ Z. then (room 10 (ltb (length S.defs) DEFS) Z) (λ _ Q. ok tt (with_defs Q (Q.defs ++ (record { name = n; term = t } ∷ [])))))))

  abbrev by_name : Sexp → Out State (Unit {0})
  by_name x = then (name 33 x S) (λ n T. then (ask 33 (marked n.bytes && leb 2 (length n.bytes)) T) (λ _ Y. then (making (term S (item xs 2)) Y)
      (λ t U. then (ask 33 (is_new (abbreviated S.defs n.bytes)) U)
      (λ _ Z. then (room 10 (ltb (length S.defs) DEFS) Z) (λ _ Q. ok tt (with_defs Q (Q.defs ++ (record { name = n; term = t } ∷ []))))))))

  pub def_unnamed : {ys : Sexps} → item xs 1 ≡ list ys → add_def xs S ≡ refuse 33 0 S
  unfolding add_def name then
  def_unnamed e = ap by_name e

  module _ {p : ℕ} {bs : List ℕ} (a : item xs 1 ≡ atom p bs) where
    def_asking : add_def xs S ≡ after_name (record { start = p; bytes = bs }) (marked bs && leb 2 (length bs))
    unfolding add_def name then
    def_asking = ap by_name a

    pub def_unmarked_lem : marked bs ≡ false → add_def xs S ≡ refuse 33 0 S
    unfolding then
    def_unmarked_lem e = def_asking ∙ ap (λ (z : Bool). after_name (record { start = p; bytes = bs }) (z && leb 2 (length bs))) e

    module _ (m : marked bs ≡ true) where
      pub def_short : length bs < 2 → add_def xs S ≡ refuse 33 0 S
      unfolding then
      def_short l = def_asking ∙ (λ i. after_name (record { start = p; bytes = bs }) (m i && lt-leb 2 (length bs) l i))

      -- the term comes next
      pub def_begun : 2 ≤ length bs → add_def xs S ≡ then (making (term S (item xs 2)) S)
          (λ t U. def_end (record { start = p; bytes = bs }) t U (is_new (abbreviated S.defs bs)) (ltb (length S.defs) DEFS))
      unfolding then
      def_begun l = def_asking ∙ (λ i. after_name (record { start = p; bytes = bs }) (m i && le-leb 2 (length bs) l i))

pub def_end_twice : (n : Name) (t : Tree) (U : State) {b : Bool} (r : Bool) → b ≡ false → def_end n t U b r ≡ refuse 33 0 U
unfolding then
def_end_twice n t U r e = ap (λ (z : Bool). def_end n t U z r) e

pub def_end_full : (n : Name) (t : Tree) (U : State) {b r : Bool} → b ≡ true → r ≡ false → def_end n t U b r ≡ refuse 60 10 U
unfolding then
def_end_full n t U e f = λ i. def_end n t U (e i) (f i)

pub def_end_added : (n : Name) (t : Tree) (U : State) {b r : Bool} → b ≡ true → r ≡ true →
    def_end n t U b r ≡ ok tt (with_defs U (U.defs ++ (record { name = n; term = t } ∷ [])))
unfolding then
def_end_added n t U e f = λ i. def_end n t U (e i) (f i)

-- The code --------------------------------------------------------------------------------------------------------------------------

module _ {K : Names} {n : Sizes} {I W : List ℕ} {m : Mark} {cells : List ℕ} (g : ReadsForm K n I W m cells 3) where
  -- the definition's answer
  abbrev answer : Out State (Unit {0})
  answer = add_def g.xs g.S

  first_halts : {q d : ℕ} → answer ≡ refuse q d g.S → Halts I W I W m g.S answer q d m
  first_halts e = halts_first g.reads.good (reads_ready g.reads) g.store e

  module _ {x : Item} (a : (ys : Sexps) → cells ≡ encodes ys → x ≡ item_of (place ys 1) (item ys 1)) where
    pub def_no_name : {u w : ℕ} → x ≡ Part u w → Halts I W I W m g.S (add_def g.xs g.S) 33 0 m
    def_no_name e = first_halts (def_unnamed g.xs g.S (nth_part g.holds 1 a (omega (arith, g.many)) e).is)

    module _ {start : ℕ} (e : x ≡ Atom start) where
      pub def_name : AtomText K.text (item g.xs 1) start
      def_name = nth_text g.holds 1 a e

      abbrev end : ℕ
      end = start + length (letters (drop start K.text))

      -- its name
      abbrev the_name : Name
      the_name = record { start = start; bytes = letters (drop start K.text) }

      module _ {mk : Bool} (b : mk ≡ marked (letters (drop start K.text))) where
        pub def_no_mark : mk ≡ false → Halts I W I W m g.S (add_def g.xs g.S) 33 0 m
        def_no_mark f = first_halts (def_unmarked_lem g.xs g.S def_name.is (sym b ∙ f))

        module _ (yes : mk ≡ true) where
          pub def_too_short : end < start + 2 → Halts I W I W m g.S (add_def g.xs g.S) 33 0 m
          def_too_short l = first_halts (def_short g.xs g.S def_name.is (sym b ∙ yes) (omega (arith, l)))

          module _ (l : start + 2 ≤ end) {behind : List ℕ} (p : (ys : Sexps) → cells ≡ encodes ys → behind ≡ drop (place ys 2) cells) where
            -- what the term is read from
            abbrev pub def_item : ReadsItem K n I W m behind
            def_item =
                record { S = g.S; x = item g.xs 2; ys = rest g.xs 3; reads = g.reads; holds = item_holds g.holds 2 (omega (arith, g.many)) p }

            abbrev behind_term : Tree → State → Out State (Unit {0})
            behind_term t U = def_end the_name t U (is_new (abbreviated g.S.defs (letters (drop start K.text)))) (ltb (length g.S.defs) DEFS)

            begun : Reached I W m g.S answer I W m (then (making (term g.S (item g.xs 2)) (with_made g.S (made I W m))) behind_term)
            begun =
                let z = reached_start g.reads.good (reads_ready g.reads) g.store (λ U. then (making (term g.S (item g.xs 2)) U) behind_term) in
                record { makes = z.makes; here = def_begun g.xs g.S def_name.is (sym b ∙ yes) (omega (arith, l)) ∙ z.here }

            module _ {J X : List ℕ} {new : Mark} where
              pub def_term_no : {q d : ℕ} →
                  ((k : ReadsItem K n I W m behind) → Stopped I W J X m (term k.S k.x (made I W m)) q d new) →
                  Halts I W J X m g.S (add_def g.xs g.S) q d new
              def_term_no f =
                  reached_stopped (term g.S (item g.xs 2)) behind_term begun (term_keeps g.S (item g.xs 2) (made I W m) (reads_ready g.reads)) (f def_item)

              module _ {t sort : ℕ}
                  (f : (k : ReadsItem K n I W m behind) → TypedRead I W J X m k.S (term k.S k.x (made I W m)) t sort new) where
                term_read : TypedRead I W J X m g.S (term g.S (item g.xs 2) (made I W m)) t sort new
                term_read = f def_item

                came : Reached I W m g.S answer J X new (behind_term (tree J X new t) (with_made g.S (made J X new)))
                came =
                    reached_went (term g.S (item g.xs 2)) behind_term begun (term_keeps g.S (item g.xs 2) (made I W m) (reads_ready g.reads))
                    term_read.read.went

                pub def_reads : Reads K n J X new g.S
                def_reads = reads_term g.reads (item g.xs 2) term_read.read.went

                module _ (q : Option ℕ) (w : (M : Made) (ds : List Def) → DefsHeld K.text K.defs n.defs M ds →
                    DefFound M ds (take (end - start) (drop start K.text)) q) where
                  found_told : DefFound (made J X new) g.S.defs (letters (drop start K.text)) q
                  found_told =
                      subst (λ bs. DefFound (made J X new) g.S.defs bs q) (atom_part K.text start end def_name.inside refl)
                      (w (made J X new) g.S.defs def_reads.spelling.defs)

                  pub def_again : {i : ℕ} → q ≡ some i → Halts I W J X m g.S (add_def g.xs g.S) 33 0 new
                  def_again {i} u =
                      let z : DefFound (made J X new) g.S.defs (letters (drop start K.text)) (some i) =
                      subst (DefFound (made J X new) g.S.defs (letters (drop start K.text))) u found_told in
                      reached_halts came
                      (def_end_twice the_name (tree J X new t) (with_made g.S (made J X new)) (ltb (length g.S.defs) DEFS)
                      (not_new (abbreviated g.S.defs (letters (drop start K.text))) z.0))

                  module _ (u : q ≡ nothing) where
                    is_free : is_new (abbreviated g.S.defs (letters (drop start K.text))) ≡ true
                    is_free =
                        is_new_lem (abbreviated g.S.defs (letters (drop start K.text)))
                        (subst (DefFound (made J X new) g.S.defs (letters (drop start K.text))) u found_told)

                    pub def_full : DEFS ≤ n.defs → Halts I W J X m g.S (add_def g.xs g.S) 60 10 new
                    def_full o =
                        reached_halts came
                        (def_end_full the_name (tree J X new t) (with_made g.S (made J X new)) is_free
                        (le-ltb (length g.S.defs) DEFS (omega (arith, g.reads.spelling.defs.many))))

                    pub def_named : n.defs < DEFS → DefNamed K.text n I W J X m g.S (add_def g.xs g.S) (record { name = record { from = start; end = end }; term = t }) new
                    def_named o =
                        record {
                          makes = came.makes;
                          new = record { name = the_name; term = tree J X new t };
                          is = came.here ∙ def_end_added the_name (tree J X new t) (with_made g.S (made J X new)) is_free
                              (lt-ltb (length g.S.defs) DEFS (omega (arith, g.reads.spelling.defs.many)));
                          room = o;
                          named = atom_named K.text start def_name.inside;
                          there = sound_in (made J X new) (tree J X new t)
                              (grows_ok (term_keeps g.S (item g.xs 2) (made I W m) (reads_ready g.reads)) term_read.read.went.makes).1;
                          starts = refl;
                          ends = refl;
                          numbered = sym (tree_number term_read.read.went.grown.good t term_read.read.there);
                          small = term_read.read.there;
                        }

-- The row ---------------------------------------------------------------------------------------------------------------------------

module _ {K : Names} {n : Sizes} {I W : List ℕ} {m : Mark} {cells : List ℕ} (g : ReadsForm K n I W m cells 3) {J X : List ℕ} {a : Abbreviation} {new : Mark}
    (f : (h : ReadsForm K n I W m cells 3) → DefNamed K.text n I W J X m h.S (add_def h.xs h.S) a new) where
  -- what `put_def` asks
  pub def_fits : (length K.defs ≡ 3 * DEFS) × (n.defs < DEFS) × Fits4 a.name.from a.name.end a.term 0
  def_fits =
      let z = f g in (
        defs_long g.reads.spelling.defs,
        z.room,
        record {
          first = omega (arith, z.starts, z.named.inside, g.reads.spelling.short);
          second = omega (arith, z.ends, z.named.inside, g.reads.spelling.short);
          third = omega (arith, z.small, z.makes.grown.good.room);
          fourth = omega arith;
        },
      )

  pub def_is_added : {after : List ℕ} → after ≡ sets K.defs (3 * n.defs) (a.name.from ∷ a.name.end ∷ a.term ∷ []) →
      DefAdded K.text K.defs after n I W J X m g.S (add_def g.xs g.S) new
  def_is_added h =
      let z = f g in
      record {
        makes = z.makes;
        new = z.new;
        end = a.name.end;
        term = a.term;
        is = z.is;
        room = z.room;
        named = z.named;
        there = z.there;
        ends = z.ends;
        numbered = z.numbered;
        cells = h ∙ ap (λ s. sets K.defs (3 * n.defs) (s ∷ a.name.end ∷ a.term ∷ [])) z.starts;
      }
