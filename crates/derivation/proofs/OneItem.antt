-- One item of a step, a binding or the conclusion: what it is for each answer, and what its parts are given. Assumes nothing.
use mathlib.Core.Path.{◌≡◌, refl, sym, ap, ◌∙◌, subst}
use mathlib.Core.Bool.{Bool, true, false, ◌&&◌, true≢false}
use mathlib.Core.List.{List}
use Rattle.std.specs.Prelude.{Option, Some as some, None as nothing, Result}
use Prim.Native.Nat.{ℕ, suc, ◌+◌, ◌<◌, ◌≤◌}
use native.Mathlib.Omega.{arith}
use native.Mathlib.Numerals.{add-one}
use lib.Dec.{eqb}
use lib.ListN.{length, get_or, set, drop}
use borrow.Author.Tests.{eq-eqb, ne_eqb, eqb-true}
use Rattle.std.specs.Option.{is_some}
use Rattle.rules.specs.Limits.{RULEVARS, TERMS}
use Rattle.rules.specs.Out.{Out, ok, then, Act, ask, found as find}
use Rattle.rules.specs.Text.{same}
use Rattle.rules.specs.Lex.{letters}
use Rattle.rules.specs.Sexp.{Sexp, Sexps, atom, list, nil, cons, count, item, rest, name, items, marked}
use Rattle.rules.specs.Find.{first}
use Rattle.rules.specs.Tree.{Tree}
use Rattle.rules.specs.Store.{Made}
use Rattle.rules.specs.Theory.{Theory, Rule, RuleVar, no_rule, rule}
use Rattle.rules.specs.Declare.{no_rule_var, is_new}
use Rattle.rules.specs.State.{State}
use Rattle.rules.specs.Read.{term_of, judgment}
use Rattle.rules.specs.Step.{Items, bind_item, state_item, read_item}
use Rattle.rules.specs.Laws.Sexp.{rest_none}
use Rattle.rules.specs.Laws.Theory.{all_at}
use Rattle.sexp.specs.Encode.{encodes}
use Rattle.sexp.specs.Items.{Holds, Items as SomeItems, item_at, place}
use Rattle.sexp.specs.ItemLaws.{More}
use Rattle.sexp.specs.WalkLaws.{AtomIs}
use Rattle.sexp.specs.Each.{ListOf}
use Rattle.referring.specs.Laws.Behind.{from_holds}
use Rattle.sexp.specs.FirstItem.{AtomFirst, none_left, atom_first, list_first}
use Rattle.sexp.specs.FoundLaws.{found_at, found_missing, found_entry}
use Rattle.sexp.specs.declared.items.Item.{Item}
use Rattle.sexp.specs.declared.items.Item.TheVariants.{Atom, List as Part}
use Rattle.kernel.specs.HeldRules.{RulesHeld}
use Rattle.kernel.specs.Readers.{KnownVar, NamedVars}
use Rattle.kernel.specs.Entries.{known_var, named_vars}
use Rattle.terms.specs.declared.store.Mark.{Mark}
use Rattle.terms.specs.Table.{made}
use Rattle.terms.specs.Patterns.{cells_of}
use Rattle.terms.specs.Sets.{counted_from_1}
use Rattle.terms.specs.Laws.Bound.{cells_long, cell_of, cells_of_set}
use Rattle.terms.specs.On.{On, Stopped, on_start, on_is, on_ok, on_no, on_pure, on_stop, on_done, on_ask_yes, on_ask_no, on_found_some, on_found_none}
use Rattle.state.specs.declared.sizes.Sizes.{Sizes}
use Rattle.state.specs.Held.{Names}
use Rattle.reading.specs.Given.{ReadsItem}
use Rattle.reading.specs.Answers.{TermRead}
use Rattle.referring.specs.Derived.{ItemsRead}
use Rattle.derivation.specs.ItemsOf.{ItemsHeld, RuleItem, ItemBy}
use Rattle.derivation.specs.Laws.ItemsOf.{with_bound, held_grown, held_new, held_unstated, held_bound, held_stated, items_read}
use Rattle.questions.specs.declared.Question.{Question}
use Rattle.derivation.specs.declared.items.Said.{Said}
use Rattle.std.proofs.lemmas.Bool.{and_parts}

-- Whether it is a binding ------------------------------------------------------------------------------------------------------------

-- A binding --------------------------------------------------------------------------------------------------------------------------

abbrev looked : Rule → List ℕ → Option ℕ
looked R bs = first (λ v. same v.name.bytes bs) R.vars 0

-- behind the term
abbrev bind_rest : Items → ℕ → Tree → Made → Out Made Items
bind_rest it v t M = then (ask 36 (is_new (it.bound v)) M) (λ _ U. ok (with_bound it v t) U)

-- behind the variable
abbrev bind_from : State → Rule → Sexp → Items → ℕ → Made → Out Made Items
bind_from S R x it v M = then (term_of S x (get_or R.vars v no_rule_var).sort M) (bind_rest it v)

bind_is : (S : State) (R : Rule) (bs : List ℕ) (x : Sexp) (it : Items) (M : Made) → bind_item S R bs x it M ≡ then (find 36 (looked R bs) M) (bind_from S R x it)
unfolding bind_item
bind_is S R bs x it M = refl

module _ {K : Names} {rules rulevars : List ℕ} {n : Sizes} {I W : List ℕ} {m : Mark} {r : ℕ} {cells bound : List ℕ} {stated : ℕ}
    (g : RuleItem K rules rulevars n I W m r cells bound stated) where
  few : length (rule g.S.theory r).vars ≤ RULEVARS
  unfolding rule
  few = all_at g.S.theory.rules r no_rule g.ruled.held.vars_few (omega (arith, g.known, g.ruled.held.many))

  -- the rule has so many variables
  module _ {many : ℕ} (counted : (T : Theory) (text vars patterns : List ℕ) (count words : ℕ) → RulesHeld text rules vars patterns count words T.rules → r < count →
      many ≡ length (rule T r).vars) where
    many_are : many ≡ length (rule g.S.theory r).vars
    many_are = counted g.S.theory K.theory rulevars g.patterns n.rules g.ruled.words g.ruled.held g.known

    pub bind_names : NamedVars K.theory rulevars r many
    bind_names = named_vars g.S.theory g.ruled.held g.known many_are

    -- what its name finds among them
    module _ (start : ℕ) {bs : List ℕ} (spelt : bs ≡ letters (drop start K.text)) {o : Option ℕ}
        (h : (T : Theory) (rows patterns : List ℕ) (known words : ℕ) → RulesHeld K.theory rows rulevars patterns known words T.rules → r < known →
        many ≡ length (rule T r).vars → o ≡ (first (λ v. same v.name.bytes bs) (rule T r).vars 0)) where
      answer : o ≡ (first (λ v. same v.name.bytes (letters (drop start K.text))) (rule g.S.theory r).vars 0)
      answer =
          h g.S.theory rules g.patterns n.rules g.ruled.words g.ruled.held g.known many_are
          ∙ ap (λ (bs : List ℕ). (first (λ v. same v.name.bytes bs) (rule g.S.theory r).vars 0)) spelt

      on_bind : On I W m (bind_item g.S (rule g.S.theory r) (letters (drop start K.text)) g.x g.it (made I W m)) I W m
          (then (find 36 (looked (rule g.S.theory r) (letters (drop start K.text))) (made I W m)) (bind_from g.S (rule g.S.theory r) g.x g.it))
      on_bind = on_is (on_start g.reads.good) (bind_is g.S (rule g.S.theory r) (letters (drop start K.text)) g.x g.it (made I W m))

      pub bind_unnamed : o ≡ nothing →
          Stopped I W I W m (bind_item g.S (rule g.S.theory r) (letters (drop start K.text)) g.x g.it (made I W m)) 36 0 m
      bind_unnamed f = on_found_none _ 36 on_bind (found_missing (looked (rule g.S.theory r) (letters (drop start K.text))) o answer f)

      module _ {v : ℕ} (f : o ≡ some v) where
        bind_inside : v < length (rule g.S.theory r).vars
        bind_inside =
            (found_entry (λ (u : RuleVar). same u.name.bytes (letters (drop start K.text))) (rule g.S.theory r).vars no_rule_var o v answer f).inside

        pub bind_small : v < RULEVARS
        bind_small = omega (arith, bind_inside, few)

        pub bind_known : KnownVar rulevars r v
        bind_known = known_var g.S.theory g.ruled.held g.known bind_inside

        abbrev bind_given : ReadsItem K n I W m cells
        bind_given = record { S = g.S; x = g.x; ys = g.ys; reads = g.reads; holds = g.holds }

        on_found : On I W m (bind_item g.S (rule g.S.theory r) (letters (drop start K.text)) g.x g.it (made I W m)) I W m
            (then (term_of g.S g.x (get_or (rule g.S.theory r).vars v no_rule_var).sort (made I W m)) (bind_rest g.it v))
        on_found =
            on_found_some (bind_from g.S (rule g.S.theory r) g.x g.it) 36 on_bind
            (found_at (looked (rule g.S.theory r) (letters (drop start K.text))) o v answer f)

        -- the term of sort s
        module _ {s : ℕ} (q : (T : Theory) (text rows patterns : List ℕ) (count words : ℕ) → RulesHeld text rows rulevars patterns count words T.rules → r < count →
            v < length (rule T r).vars → s ≡ (get_or (rule T r).vars v no_rule_var).sort) where
          sorted : s ≡ (get_or (rule g.S.theory r).vars v no_rule_var).sort
          sorted = q g.S.theory K.theory rules g.patterns n.rules g.ruled.words g.ruled.held g.known bind_inside

          pub bind_refused : {J X : List ℕ} {new : Mark} {k d : ℕ} → ((h : ReadsItem K n I W m cells) → Stopped I W J X m (term_of h.S h.x s (made I W m)) k d new) →
              Stopped I W J X m (bind_item g.S (rule g.S.theory r) (letters (drop start K.text)) g.x g.it (made I W m)) k d new
          bind_refused {J} {X} {new} {k} {d} t = on_no _ on_found (subst (λ (z : ℕ). Stopped I W J X m (term_of g.S g.x z (made I W m)) k d new) sorted (t bind_given))

          module _ {J X : List ℕ} {new : Mark} {id : ℕ} (t : (h : ReadsItem K n I W m cells) → TermRead I W J X m (term_of h.S h.x s (made I W m)) id new) where
            read : TermRead I W J X m (term_of g.S g.x (get_or (rule g.S.theory r).vars v no_rule_var).sort (made I W m)) id new
            read = subst (λ (z : ℕ). TermRead I W J X m (term_of g.S g.x z (made I W m)) id new) sorted (t bind_given)

            pub bind_fits : id < TERMS
            bind_fits = let t = read in let l = t.there in let k = t.went.grown.good.room in omega arith

            -- bound already
            pub bind_twice : (get_or bound v 0 ≡ 0 → ⊥) →
                Stopped I W J X m (bind_item g.S (rule g.S.theory r) (letters (drop start K.text)) g.x g.it (made I W m)) 36 0 new
            bind_twice z = on_ask_no _ 36 (on_ok _ on_found read.went) (held_new g.so_far v ∙ ne_eqb (get_or bound v 0) 0 z)

            pub bind_done : get_or bound v 0 ≡ 0 →
                ItemsRead I W J X m (bind_item g.S (rule g.S.theory r) (letters (drop start K.text)) g.x g.it (made I W m)) (set bound v (id + 1)) stated new
            bind_done z =
                items_read
                (on_done (on_ask_yes _ 36 (on_ok _ on_found read.went) (held_new g.so_far v ∙ eq-eqb (get_or bound v 0) 0 z)))
                (held_bound (held_grown g.so_far read.went.grown) id read.there v bind_small z)

-- the cells of what is said
module _ (O : List (Option ℕ)) (v : ℕ) where
  pub said_cell : (d : Option ℕ) {I W : List ℕ} {m : Mark} {stated : ℕ} {it : Items} → ItemsHeld I W m (cells_of O) stated it → v < RULEVARS
      → get_or (cells_of O) v 0 ≡ counted_from_1 (get_or O v d)
  said_cell d k l = cell_of O v d (omega (arith, l, cells_long O, k.cells.long))

  pub said_bound : (id : ℕ) {I W J X : List ℕ} {m new : Mark} {K' : Out Made Items} {stated : ℕ} →
      ItemsRead I W J X m K' (set (cells_of O) v (id + 1)) stated new → ItemsRead I W J X m K' (cells_of (set O v (some id))) stated new
  said_bound id {I} {W} {J} {X} {m} {new} {K'} {stated} r = subst (λ (B : List ℕ). ItemsRead I W J X m K' B stated new) (sym (cells_of_set O v id)) r

-- what is stated, by its number with 1 added
pub some_stated : (o : Option ℕ) {b : Bool} → b ≡ is_some o → b ≡ true → counted_from_1 o ≡ 0 → ⊥
some_stated nothing e t z = true≢false (sym t ∙ e)
some_stated (some k) e t z = omega (arith, z)

pub none_stated : (o : Option ℕ) {b : Bool} → b ≡ is_some o → b ≡ false → counted_from_1 o ≡ 0
none_stated nothing e t = refl
none_stated (some k) e t = absurd (true≢false (sym e ∙ t))

-- whether cells are left
pub none_there : {n : ℕ} {b : Bool} → b ≡ eqb n 0 → b ≡ true → n ≡ 0
none_there {n} e t = eqb-true n 0 (sym e ∙ t)

pub some_there : {n : ℕ} {b : Bool} → b ≡ eqb n 0 → b ≡ false → n ≡ 0 → ⊥
some_there {n} e t z = true≢false (sym (e ∙ eq-eqb n 0 z) ∙ t)

-- The conclusion ---------------------------------------------------------------------------------------------------------------------

module _ {K : Names} {n : Sizes} {I W : List ℕ} {m : Mark} {cells : List ℕ} (g : ReadsItem K n I W m cells) (it : Items) {bound : List ℕ} {stated : ℕ}
    (k : ItemsHeld I W m bound stated it) {J X : List ℕ} {new : Mark} where
  pub state_refused : {q d : ℕ} → ((h : ReadsItem K n I W m cells) → Stopped I W J X m (judgment h.S h.x (made I W m)) q d new) →
      Stopped I W J X m (state_item g.S g.x it (made I W m)) q d new
  unfolding state_item
  state_refused t = on_no _ (on_start g.reads.good) (t g)

  module _ {id : ℕ} (t : (h : ReadsItem K n I W m cells) → TermRead I W J X m (judgment h.S h.x (made I W m)) id new) where
    -- stated already
    pub state_twice : (stated ≡ 0 → ⊥) → Stopped I W J X m (state_item g.S g.x it (made I W m)) 37 0 new
    unfolding state_item
    state_twice z = on_ask_no _ 37 (on_ok _ (on_start g.reads.good) (t g).went) (held_unstated k ∙ ne_eqb stated 0 z)

    pub state_done : stated ≡ 0 → ItemsRead I W J X m (state_item g.S g.x it (made I W m)) bound (suc id) new
    unfolding state_item
    state_done z =
        subst (λ (j : ℕ). ItemsRead I W J X m (state_item g.S g.x it (made I W m)) bound j new) (add-one id) (items_read
        (on_done (on_ask_yes _ 37 (on_ok _ (on_start g.reads.good) (t g).went) (held_unstated k ∙ eq-eqb stated 0 z)))
        (held_stated (held_grown k (t g).went.grown) id (t g).there))

-- One or the other -------------------------------------------------------------------------------------------------------------------

abbrev pick : State → Rule → Sexp → Items → List ℕ → Sexps → Bool → Made → Out Made Items
pick S R x it bs ys b M = (elim b as (λ (z : Bool). Act Made Items) [ true ↦ bind_item S R bs (item ys 1) it | false ↦ state_item S x it ]) M

pick_is : (S : State) (R : Rule) (it : Items) (M : Made) (p : ℕ) (bs : List ℕ) (zs : Sexps) →
    read_item S R (list (cons (atom p bs) zs)) it M
    ≡ pick S R (list (cons (atom p bs) zs)) it bs (cons (atom p bs) zs) (marked bs && eqb (count (cons (atom p bs) zs)) 2) M
unfolding read_item items name item then
pick_is S R it M p bs zs = refl

second : (x : Sexp) (zs : Sexps) → count (cons x zs) ≡ 2 → More zs
unfolding count
second x nil e = absurd (omega arith)
second x (cons y ys) e = record { first = y; others = ys; is = refl }

second_item : (x y : Sexp) (ys : Sexps) → item (cons x (cons y ys)) 1 ≡ y
unfolding item
second_item x y ys = refl

module _ {K : Names} {rules rulevars : List ℕ} {n : Sizes} {I W : List ℕ} {m : Mark} {r : ℕ} {cells bound : List ℕ} {stated : ℕ}
    (g : RuleItem K rules rulevars n I W m r cells bound stated) where
  pub item_atom_lem : (p : ℕ) × AtomIs K.text g.x p → Stopped I W I W m (read_item g.S (rule g.S.theory r) g.x g.it (made I W m)) 22 0 m
  unfolding read_item items
  item_atom_lem p = on_stop _ (on_start g.reads.good) (ap (λ (z : Sexp). items 22 z (made I W m)) p.1.is)

  -- the cells of its items
  module _ {part : List ℕ} (l : ListOf K.text cells g.x part) where
    -- a list whose first item is no atom
    unnamed : (ys : Sexps) → g.x ≡ list ys → name {S = Made} 22 (item ys 0) (made I W m) ≡ name {S = Made} 22 (list nil) (made I W m) →
        Stopped I W I W m (read_item g.S (rule g.S.theory r) g.x g.it (made I W m)) 22 0 m
    unfolding read_item items name
    unnamed ys i d = on_stop _ (on_pure _ (on_start g.reads.good) (ap (λ (z : Sexp). items 22 z (made I W m)) i)) d

    pub item_empty_lem : length part ≡ 0 → Stopped I W I W m (read_item g.S (rule g.S.theory r) g.x g.it (made I W m)) 22 0 m
    unfolding item
    item_empty_lem z = unnamed nil (l.is ∙ ap list (none_left l.holds z)) refl

    -- its first item
    module _ (left : length part ≡ 0 → ⊥) {head : Item} (h : head ≡ item_at part 0) where
      pub item_nested : {c d : ℕ} → head ≡ Part c d → Stopped I W I W m (read_item g.S (rule g.S.theory r) g.x g.it (made I W m)) 22 0 m
      unfolding item name
      item_nested k =
          let d = list_first l.holds left h k in
          unnamed (cons (list d.inner) d.others) (l.is ∙ ap list d.is) refl

      module _ {p : ℕ} (k : head ≡ Atom p) where
        pub item_named : AtomFirst K.text part l.items p
        item_named = atom_first l.holds left h k

        pub binds_given : SomeItems part × (p < length K.text)
        binds_given = ((l.items, l.holds.cells), item_named.inside)

        abbrev all : Sexps
        all = cons (atom p (letters (drop p K.text))) item_named.others

        is_all : g.x ≡ list all
        is_all = l.is ∙ ap list item_named.is

        -- y says whether it is a binding
        module _ (y : Bool) (c : (xs : Sexps) → part ≡ encodes xs → y ≡ marked (letters (drop p K.text)) && eqb (count xs) 2) where
          says : y ≡ marked (letters (drop p K.text)) && eqb (count all) 2
          says = c all (l.holds.cells ∙ ap encodes item_named.is)

          picks : read_item g.S (rule g.S.theory r) g.x g.it (made I W m)
              ≡ pick g.S (rule g.S.theory r) g.x g.it (letters (drop p K.text)) all y (made I W m)
          picks =
              subst (λ (z : Sexp). read_item g.S (rule g.S.theory r) z g.it (made I W m)
              ≡ pick g.S (rule g.S.theory r) z g.it (letters (drop p K.text)) all (marked (letters (drop p K.text)) && eqb (count all) 2) (made I W m))
              (sym is_all) (pick_is g.S (rule g.S.theory r) g.it (made I W m) p (letters (drop p K.text)) item_named.others)
              ∙ ap (λ (z : Bool). pick g.S (rule g.S.theory r) g.x g.it (letters (drop p K.text)) all z (made I W m)) (sym says)

          -- a binding
          module _ (yes : y ≡ true) where
            pub one_more_lem : More item_named.others
            one_more_lem = second (atom p (letters (drop p K.text))) item_named.others
                (eqb-true (count all) 2 (and_parts (marked (letters (drop p K.text))) (eqb (count all) 2) (sym says ∙ yes)).1)

            binding_is : read_item g.S (rule g.S.theory r) g.x g.it (made I W m)
                ≡ bind_item g.S (rule g.S.theory r) (letters (drop p K.text)) one_more_lem.first g.it (made I W m)
            binding_is =
                picks
                ∙ ap (λ (z : Bool). pick g.S (rule g.S.theory r) g.x g.it (letters (drop p K.text)) all z (made I W m)) yes
                ∙ ap (λ (z : Sexp). bind_item g.S (rule g.S.theory r) (letters (drop p K.text)) z g.it (made I W m))
                (ap (λ (zs : Sexps). item (cons (atom p (letters (drop p K.text))) zs) 1) one_more_lem.is
                ∙ second_item (atom p (letters (drop p K.text))) one_more_lem.first one_more_lem.others)

            -- the items behind the first
            module _ {behind : List ℕ} (e : (ys : Sexps) → part ≡ encodes ys → behind ≡ drop (place ys 1) part) where
              pub others_hold : Holds K.text behind (cons one_more_lem.first one_more_lem.others)
              unfolding rest
              others_hold =
                  subst (Holds K.text behind) (ap (λ (zs : Sexps). rest zs 1) item_named.is ∙ rest_none item_named.others ∙ one_more_lem.is) (from_holds l.holds 1 e)

              abbrev pub item_given : RuleItem K rules rulevars n I W m r behind bound stated
              item_given =
                  record {
                    S = g.S;
                    patterns = g.patterns;
                    it = g.it;
                    x = one_more_lem.first;
                    ys = one_more_lem.others;
                    reads = g.reads;
                    ruled = g.ruled;
                    known = g.known;
                    so_far = g.so_far;
                    holds = others_hold;
                  }

              pub item_bound : (J X : List ℕ) (new : Mark) (before said : Said) (o : Result (Unit {0}) Question) →
                  ((q : RuleItem K rules rulevars n I W m r behind bound stated) →
                  ItemBy I W J X m new (bind_item q.S (rule q.S.theory r) (letters (drop p K.text)) q.x q.it (made I W m)) before said o) →
                  ItemBy I W J X m new (read_item g.S (rule g.S.theory r) g.x g.it (made I W m)) before said o
              item_bound J X new before said o q = subst (λ (Q : Out Made Items). ItemBy I W J X m new Q before said o) (sym binding_is) (q item_given)

          -- the conclusion
          module _ (no : y ≡ false) where
            conclusion_is : read_item g.S (rule g.S.theory r) g.x g.it (made I W m) ≡ state_item g.S g.x g.it (made I W m)
            conclusion_is = picks ∙ ap (λ (z : Bool). pick g.S (rule g.S.theory r) g.x g.it (letters (drop p K.text)) all z (made I W m)) no

            abbrev concluding : ReadsItem K n I W m cells
            concluding = record { S = g.S; x = g.x; ys = g.ys; reads = g.reads; holds = g.holds }

            pub item_stated : (J X : List ℕ) (new : Mark) (before said : Said) (o : Result (Unit {0}) Question) →
                ((q : ReadsItem K n I W m cells) (it : Items) → ItemsHeld I W m bound stated it → ItemBy I W J X m new (state_item q.S q.x it (made I W m)) before said o) →
                ItemBy I W J X m new (read_item g.S (rule g.S.theory r) g.x g.it (made I W m)) before said o
            item_stated J X new before said o q =
                subst (λ (Q : Out Made Items). ItemBy I W J X m new Q before said o) (sym conclusion_is) (q concluding g.it g.so_far)
