-- The first item as a term: an atom that is marked or not, or a list; and as a judgment. Assumes nothing.
use mathlib.Core.Path.{◌≡◌, refl, sym, ap, ◌∙◌, subst}
use mathlib.Core.Bool.{Bool, true, false}
use mathlib.Core.List.{List}
use Rattle.std.specs.Prelude.{Result}
use Prim.Native.Nat.{ℕ, ◌-◌}
use native.Mathlib.Omega.{arith}
use lib.ListN.{length, take, drop}
use Rattle.rules.specs.Lex.{letters}
use Rattle.rules.specs.Out.{Out, Act, refuse, then, found}
use Rattle.rules.specs.Sexp.{Sexp, Sexps, atom, list, cons, items, marked}
use Rattle.rules.specs.Tree.{Tree}
use Rattle.rules.specs.Store.{Made}
use Rattle.rules.specs.State.{State, abbreviated}
use Rattle.rules.specs.Read.{named, term, compound, judgment}
use Rattle.sexp.specs.Items.{Holds, item_at}
use Rattle.sexp.specs.WalkLaws.{AtomIs}
use Rattle.sexp.specs.Each.{ListOf}
use Rattle.sexp.specs.FirstItem.{AtomFirst, ListFirst, atom_first, list_first, cons_first}
use Rattle.sexp.specs.declared.items.Item.{Item}
use Rattle.sexp.specs.declared.items.Item.TheVariants.{Atom, List as Part}
use Rattle.terms.specs.declared.store.Mark.{Mark}
use Rattle.terms.specs.Table.{made}
use Rattle.terms.specs.On.{Stopped, pure_stopped}
use Rattle.state.specs.declared.sizes.Sizes.{Sizes}
use Rattle.state.specs.Held.{Names}
use Rattle.reading.specs.declared.term.Typed.{Typed}
use Rattle.questions.specs.declared.Question.{Question}
use Rattle.reading.specs.Given.{ReadsItem, ReadsItems, ReadsDefs, ReadsNames}
use Rattle.reading.specs.Answers.{TypedBy}
use Rattle.reading.specs.Heads.{ReadsAtom, Opens, Opened}
use Rattle.reading.specs.Laws.Walks.{first_some}
use Rattle.reading.specs.Laws.Reading.{reads_defs, reads_names}
use Rattle.reading.proofs.TermBehind.{opens}

-- What the definition makes of it --------------------------------------------------------------------------------------------------

module _ (S : State) (M : Made) where
  module _ (p : ℕ) (bs : List ℕ) where
    term_atom : term S (atom p bs) M ≡ elim (marked bs) [ true ↦ found 22 (abbreviated S.defs bs) M | false ↦ named S bs M ]
    unfolding term
    term_atom = go (marked bs)
      where
        go : (b : Bool) → (elim b as (λ _. Act Made Tree) [ true ↦ found 22 (abbreviated S.defs bs) | false ↦ named S bs ]) M
            ≡ elim b [ true ↦ found 22 (abbreviated S.defs bs) M | false ↦ named S bs M ]
        go true = refl
        go false = refl

    term_marked : marked bs ≡ true → term S (atom p bs) M ≡ found 22 (abbreviated S.defs bs) M
    term_marked f = term_atom ∙ ap (λ (b : Bool). elim b [ true ↦ found 22 (abbreviated S.defs bs) M | false ↦ named S bs M ]) f

    term_plain : marked bs ≡ false → term S (atom p bs) M ≡ named S bs M
    term_plain f = term_atom ∙ ap (λ (b : Bool). elim b [ true ↦ found 22 (abbreviated S.defs bs) M | false ↦ named S bs M ]) f

    judgment_no : judgment S (atom p bs) M ≡ refuse 22 0 M
    unfolding judgment items then
    judgment_no = refl

  term_list : (x : Sexp) {xs : Sexps} → x ≡ list xs → term S x M ≡ compound S xs M
  unfolding term
  term_list x e = ap (λ z. term S z M) e

-- An atom --------------------------------------------------------------------------------------------------------------------------

module _ {K : Names} {n : Sizes} {I W : List ℕ} {m : Mark} {p : ℕ} (g : ReadsAtom K n I W m p) {name : List ℕ} (d : name ≡ letters (drop p K.text)) where
  pub atom_abbreviates : {b : Bool} → b ≡ marked (letters (drop p K.text)) → b ≡ true → (r : Result Typed Question) →
      ((h : ReadsDefs K.text K.symbols K.vars K.defs n I W m) → TypedBy I W I W m m h.S (found 22 (abbreviated h.S.defs name) (made I W m)) r) →
      TypedBy I W I W m m g.S (term g.S (atom p (letters (drop p K.text))) (made I W m)) r
  atom_abbreviates k w r a =
      subst (λ (z : Out Made Tree). TypedBy I W I W m m g.S z r)
      (ap (λ (bs : List ℕ). found 22 (abbreviated g.S.defs bs) (made I W m)) d ∙ sym (term_marked g.S (made I W m) p (letters (drop p K.text)) (sym k ∙ w)))
      (a (reads_defs g.reads))

  pub atom_names : {b : Bool} → b ≡ marked (letters (drop p K.text)) → b ≡ false → (Y Z : List ℕ) (new : Mark) (r : Result Typed Question) →
      ((h : ReadsNames K.theory K.goals K.text K.symbols K.vars n I W m) → TypedBy I W Y Z m new h.S (named h.S name (made I W m)) r) →
      TypedBy I W Y Z m new g.S (term g.S (atom p (letters (drop p K.text))) (made I W m)) r
  atom_names k w Y Z new r a =
      subst (λ (z : Out Made Tree). TypedBy I W Y Z m new g.S z r)
      (ap (λ (bs : List ℕ). named g.S bs (made I W m)) d ∙ sym (term_plain g.S (made I W m) p (letters (drop p K.text)) (sym k ∙ w)))
      (a (reads_names g.reads))

-- By what it is --------------------------------------------------------------------------------------------------------------------

pub item_no : {text cells : List ℕ} {x : Sexp} {ys : Sexps} → Holds text cells (cons x ys) → length cells ≡ 0 → ⊥
item_no h e = omega (arith, first_some h, e)

module _ {K : Names} {n : Sizes} {I W : List ℕ} {m : Mark} {cells : List ℕ} (g : ReadsItem K n I W m cells) {item : Item} (e : item ≡ item_at cells 0) where
  module _ {p : ℕ} (f : item ≡ Atom p) where
    pub item_atom_lem : AtomFirst K.text cells (cons g.x g.ys) p
    item_atom_lem = atom_first g.holds (item_no g.holds) e f

    atom_x : g.x ≡ atom p (letters (drop p K.text))
    atom_x = cons_first g.x (atom p (letters (drop p K.text))) g.ys item_atom_lem.others item_atom_lem.is

    abbrev pub atom_given : ReadsAtom K n I W m p
    atom_given = record { S = g.S; reads = g.reads; inside = item_atom_lem.inside }

    pub term_atomic : (Y Z : List ℕ) (new : Mark) (r : Result Typed Question) →
        ((h : ReadsAtom K n I W m p) →
        TypedBy I W Y Z m new h.S (term h.S (atom p (letters (drop p K.text))) (made I W m)) r) →
        TypedBy I W Y Z m new g.S (term g.S g.x (made I W m)) r
    term_atomic Y Z new r a = subst (λ (z : Sexp). TypedBy I W Y Z m new g.S (term g.S z (made I W m)) r) (sym atom_x) (a atom_given)

  module _ {a b : ℕ} (f : item ≡ Part a b) where
    pub item_list : ListFirst K.text cells (cons g.x g.ys) a b
    item_list = list_first g.holds (item_no g.holds) e f

    pub item_part : ListOf K.text cells g.x (take (b - a) (drop a cells))
    item_part =
        record {
          items = item_list.inner;
          is = cons_first g.x (list item_list.inner) g.ys item_list.others item_list.is;
          holds = item_list.holds;
          shorter = item_list.shorter;
        }

module _ {K : Names} {n : Sizes} {I W : List ℕ} {m : Mark} {cells : List ℕ} (g : ReadsItem K n I W m cells) where
  pub judgment_atom : {p : ℕ} → AtomIs K.text g.x p → Stopped I W I W m (judgment g.S g.x (made I W m)) 22 0 m
  judgment_atom {p} a = pure_stopped g.reads.good (ap (λ (z : Sexp). judgment g.S z (made I W m)) a.is ∙ judgment_no g.S (made I W m) p a.bytes)

  module _ {part : List ℕ} (l : ListOf K.text cells g.x part) where
    abbrev pub list_items : ReadsItems K n I W m part
    list_items = record { S = g.S; xs = l.items; reads = g.reads; holds = l.holds }

    pub term_compounds : (Y Z : List ℕ) (new : Mark) (r : Result Typed Question) →
        ((h : ReadsItems K n I W m part) → TypedBy I W Y Z m new h.S (compound h.S h.xs (made I W m)) r) →
        TypedBy I W Y Z m new g.S (term g.S g.x (made I W m)) r
    term_compounds Y Z new r k =
        subst (λ (z : Out Made Tree). TypedBy I W Y Z m new g.S z r) (sym (term_list g.S (made I W m) g.x l.is)) (k list_items)

    -- what `predicate_first` answers, said of the judgment
    pub judgment_opens : {p : ℕ} →
        ((h : Opens K.theory K.text K.symbols n.symbols part) → Opened K.text part n.symbols h.S (judgment h.S (list h.xs)) p) →
        Opened K.text part n.symbols g.S (judgment g.S g.x) p
    judgment_opens {p} k =
        subst (λ (z : Sexp). Opened K.text part n.symbols g.S (judgment g.S z) p) (sym l.is) (k (opens list_items))

    pub judgment_unopened : {q d : ℕ} →
        ((h : Opens K.theory K.text K.symbols n.symbols part) → (M : Made) → judgment h.S (list h.xs) M ≡ refuse q d M) →
        Stopped I W I W m (judgment g.S g.x (made I W m)) q d m
    judgment_unopened k =
        pure_stopped g.reads.good (ap (λ (z : Sexp). judgment g.S z (made I W m)) l.is ∙ k (opens list_items) (made I W m))
