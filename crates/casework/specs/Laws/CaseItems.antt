-- One case of `invert`: what the definition reads of its item, and what the cells say of it. Assumes nothing.
use Rattle.std.specs.Prelude.{◌≡◌, refl, Bool, List, ℕ, suc, ◌+◌, ◌<◌, eqb, length, drop, Option, Some as some, None as nothing}
use Rattle.std.proofs.Common.{sym, ◌∙◌, subst, arith, eq-eqb, ne_eqb}
use Rattle.std.proofs.Math.Path.{ap}
use Rattle.rules.specs.Out.{ok, refuse, then, ask, found}
use Rattle.rules.specs.Lex.{letters}
use Rattle.rules.specs.Sexp.{Sexp, Sexps, Name, atom, list, cons, count, item, rest, name, items}
use Rattle.rules.specs.Store.{Made}
use Rattle.rules.specs.State.{State}
use Rattle.rules.specs.Read.{index, vars_list}
use Rattle.rules.specs.Invert.{Case, read_case}
use Rattle.rules.specs.Laws.Store.{then_ok, then_refuse}
use Rattle.rules.specs.Laws.Sexp.{rest_item, rest_none}
use Rattle.sexp.specs.Encode.{encodes}
use Rattle.sexp.specs.Items.{Holds, item_at, place}
use Rattle.sexp.specs.Never.{never}
use Rattle.sexp.specs.AtomText.{AtomText, text_of, atom_part, atom_high}
use Rattle.sexp.specs.WalkLaws.{AtomIs}
use Rattle.sexp.specs.Each.{ListOf}
use Rattle.referring.specs.Laws.Behind.{from_holds}
use Rattle.sexp.specs.declared.items.Item.{Item}
use Rattle.sexp.specs.declared.items.Item.TheVariants.{Atom, List as Part}
use Rattle.reading.specs.Items.{FirstItem, index_in, vars_in, index_found}
use Rattle.reading.specs.Given.{VarsItem}
use Rattle.reading.specs.Answers.{VarsRead}
use Rattle.reading.specs.Laws.Lists.{vars_found}
use Rattle.reading.specs.Laws.Walks.{first_atom, first_list, first_some}
use Rattle.casework.specs.Cases.{CaseItem, CaseFirst, CaseIs}

-- Items ------------------------------------------------------------------------------------------------------------------------------------

pub list_items : (xs ys : Sexps) → list xs ≡ list ys → xs ≡ ys
list_items xs ys e = cc

atom_bytes : (p q : ℕ) (bs cs : List ℕ) → atom p bs ≡ atom q cs → bs ≡ cs
atom_bytes p q bs cs e = cc

pub not_both : {A : Type 0} (x : Sexp) (ys : Sexps) (p : ℕ) (bs : List ℕ) → x ≡ list ys → x ≡ atom p bs → A
not_both x ys p bs e f = let z : list ys ≡ atom p bs = sym e ∙ f in never cc

-- What the definition reads ------------------------------------------------------------------------------------------------------------------

module _ (S : State) (x : Sexp) (M : Made) where
  pub case_atom_lem : (p : ℕ) (bs : List ℕ) → x ≡ atom p bs → read_case S x M ≡ refuse 41 0 M
  unfolding read_case items then
  case_atom_lem p bs e = ap (λ (z : Sexp). read_case S z M) e

  module _ (ys : Sexps) (e : x ≡ list ys) where
    opened : items 41 x M ≡ ok ys M
    unfolding items
    opened = ap (λ (z : Sexp). items 41 z M) e

    pub case_count : (count ys ≡ 3 → ⊥) → read_case S x M ≡ refuse 41 0 M
    unfolding read_case
    case_count q =
        then_ok (items 41 x M) ys M _ opened ∙ then_refuse (ask 41 (eqb (count ys) 3) M) 41 0 M _ (ap (λ (b : Bool). ask 41 b M) (ne_eqb (count ys) 3 q))

    module _ (t : count ys ≡ 3) where
      asked : ask 41 (eqb (count ys) 3) M ≡ ok tt M
      asked = ap (λ (b : Bool). ask 41 b M) (eq-eqb (count ys) 3 t)

      pub case_unnamed : (zs : Sexps) → item ys 0 ≡ list zs → read_case S x M ≡ refuse 41 0 M
      unfolding read_case name
      case_unnamed zs f =
          then_ok (items 41 x M) ys M _ opened ∙ then_ok (ask 41 (eqb (count ys) 3) M) tt M _ asked
          ∙ then_refuse (name 41 (item ys 0) M) 41 0 M _ (ap (λ (z : Sexp). name 41 z M) f)

      module _ (p : ℕ) (bs : List ℕ) (f : item ys 0 ≡ atom p bs) where
        abbrev named : Name
        named = record { start = p; bytes = bs }

        has_name : name 41 (item ys 0) M ≡ ok named M
        unfolding name
        has_name = ap (λ (z : Sexp). name 41 z M) f

        pub case_no_index_lem : index_in (item ys 1) ≡ nothing → read_case S x M ≡ refuse 41 0 M
        unfolding read_case
        case_no_index_lem k =
            then_ok (items 41 x M) ys M _ opened ∙ then_ok (ask 41 (eqb (count ys) 3) M) tt M _ asked ∙ then_ok (name 41 (item ys 0) M) named M _ has_name
            ∙ then_refuse (index 41 (item ys 1) M) 41 0 M _ (index_found 41 (item ys 1) M ∙ ap (λ (o : Option ℕ). found 41 o M) k)

        module _ (i : ℕ) (k : index_in (item ys 1) ≡ some i) where
          indexed : index 41 (item ys 1) M ≡ ok i M
          indexed = index_found 41 (item ys 1) M ∙ ap (λ (o : Option ℕ). found 41 o M) k

          pub case_no_vars : vars_in S.vars (item ys 2) ≡ nothing → read_case S x M ≡ refuse 42 0 M
          unfolding read_case
          case_no_vars v =
              then_ok (items 41 x M) ys M _ opened ∙ then_ok (ask 41 (eqb (count ys) 3) M) tt M _ asked ∙ then_ok (name 41 (item ys 0) M) named M _ has_name
              ∙ then_ok (index 41 (item ys 1) M) i M _ indexed
              ∙ then_refuse (vars_list 42 S (item ys 2) M) 42 0 M _ (vars_found 42 S (item ys 2) M ∙ ap (λ (o : Option (List ℕ)). found 42 o M) v)

          pub case_read : (vs : List ℕ) → vars_in S.vars (item ys 2) ≡ some vs → read_case S x M ≡ ok (record { name = bs; fact = i; vars = vs }) M
          unfolding read_case
          case_read vs v =
              then_ok (items 41 x M) ys M _ opened ∙ then_ok (ask 41 (eqb (count ys) 3) M) tt M _ asked ∙ then_ok (name 41 (item ys 0) M) named M _ has_name
              ∙ then_ok (index 41 (item ys 1) M) i M _ indexed
              ∙ then_ok (vars_list 42 S (item ys 2) M) vs M _ (vars_found 42 S (item ys 2) M ∙ ap (λ (o : Option (List ℕ)). found 42 o M) v)

-- a case reads as itself
pub item_reads : (S : State) (x : Sexp) (c : Case) → CaseItem S.vars x c → (M : Made) → read_case S x M ≡ ok c M
item_reads S x c k M = case_read S x M k.inner k.is k.three k.place c.name k.named c.fact k.fact c.vars k.vars

some_items : (zs : Sexps) → 0 < count zs → zs ≡ cons (item zs 0) (rest zs 1)
some_items zs l = sym (rest_none zs) ∙ rest_item zs 0 l

-- The items of a case in cells ---------------------------------------------------------------------------------------------------------------

module _ {text w : List ℕ} {ys : Sexps} (h : Holds text w ys) (t : count ys ≡ 3) where
  cons_first : ys ≡ cons (item ys 0) (rest ys 1)
  cons_first = some_items ys (omega (arith, t))

  pub inner_first : Holds text w (cons (item ys 0) (rest ys 1))
  inner_first = subst (λ (z : Sexps). Holds text w z) cons_first h

  pub inner_some : 0 < length w
  inner_some = first_some inner_first

  module _ {behind : List ℕ} (k : ℕ) (l : k < 3) (a : (zs : Sexps) → w ≡ encodes zs → behind ≡ drop (place zs k) w) where
    pub inner_rest : Holds text behind (cons (item ys k) (rest ys (suc k)))
    inner_rest = subst (λ (z : Sexps). Holds text behind z) (rest_item ys k (omega arith)) (from_holds h k a)

    pub inner_item : FirstItem text behind
    inner_item = record { x = item ys k; ys = rest ys (suc k); holds = inner_rest }

-- The reader -----------------------------------------------------------------------------------------------------------------------------------

module _ {goals text vars cells : List ℕ} {count' : ℕ} (g : VarsItem goals text vars count' cells) where
  pub vars_atom : (p : ℕ) × AtomIs text g.x p → (M : Made) → read_case g.S g.x M ≡ refuse 41 0 M
  vars_atom a M = case_atom_lem g.S g.x M _ a.1.bytes a.1.is

  module _ {inside : List ℕ} (within : ListOf text cells g.x inside) where
    module _ {n : ℕ} (c : (zs : Sexps) → inside ≡ encodes zs → n ≡ count zs) where
      counted : n ≡ count within.items
      counted = c within.items within.holds.cells

      pub vars_count : (n ≡ 3 → ⊥) → (M : Made) → read_case g.S g.x M ≡ refuse 41 0 M
      vars_count q M = case_count g.S g.x M within.items within.is (λ z. q (counted ∙ z))

      module _ (t : n ≡ 3) where
        pub three : count within.items ≡ 3
        three = sym counted ∙ t

        module _ {it2 : Item} (e2 : it2 ≡ item_at inside 0) where
          pub vars_unnamed : {p q : ℕ} → it2 ≡ Part p q → (M : Made) → read_case g.S g.x M ≡ refuse 41 0 M
          vars_unnamed k M =
              let l = first_list (inner_first within.holds three) e2 k in
              case_unnamed g.S g.x M within.items within.is three l.items l.is

          module _ {p : ℕ} (k : it2 ≡ Atom p) where
            abbrev pub name_text : AtomText text (item within.items 0) p
            name_text = text_of (first_atom (inner_first within.holds three) e2 k)

            module _ {second : List ℕ} (pl : (zs : Sexps) → inside ≡ encodes zs → second ≡ drop (place zs 1) inside) {r : Option ℕ}
                (ix : (x : Sexp) (ys : Sexps) → Holds text second (cons x ys) → r ≡ index_in x) where
              index_is : r ≡ index_in (item within.items 1)
              index_is = ix (item within.items 1) (rest within.items 2) (inner_rest within.holds three 1 (omega arith) pl)

              pub vars_no_index : r ≡ nothing → (M : Made) → read_case g.S g.x M ≡ refuse 41 0 M
              vars_no_index z M = case_no_index_lem g.S g.x M within.items within.is three p _ name_text.is (sym index_is ∙ z)

              module _ {i : ℕ} (z : r ≡ some i) {third : List ℕ} (pl2 : (zs : Sexps) → inside ≡ encodes zs → third ≡ drop (place zs 2) inside) where
                abbrev pub vars_item : VarsItem goals text vars count' third
                vars_item = record {
                  S = g.S;
                  x = item within.items 2;
                  ys = rest within.items 3;
                  vars_are = g.vars_are;
                  holds = inner_rest within.holds three 2 (omega arith) pl2;
                }

                pub vars_no_vars : vars_in g.S.vars (item within.items 2) ≡ nothing → (M : Made) → read_case g.S g.x M ≡ refuse 42 0 M
                vars_no_vars v M = case_no_vars g.S g.x M within.items within.is three p _ name_text.is i (sym index_is ∙ z) v

                pub vars_read : {out : List ℕ} {many : ℕ} → VarsRead g.S.vars (item within.items 2) out many →
                    CaseIs g.S text g.x out (record { from = p; end = p + length (letters (drop p text)) }) i many
                vars_read v =
                    record {
                      c = record { name = letters (drop p text); fact = i; vars = v.vars };
                      read = λ M. case_read g.S g.x M within.items within.is three p _ name_text.is i (sym index_is ∙ z) v.vars v.are;
                      case = record {
                        inner = within.items;
                        is = within.is;
                        three = three;
                        place = p;
                        named = name_text.is;
                        fact = sym index_is ∙ z;
                        vars = v.are;
                      };
                      inside = name_text.inside;
                      whole = refl;
                      low = omega arith;
                      high = atom_high text p _ name_text.inside refl;
                      bytes = sym (atom_part text p _ name_text.inside refl);
                      number = refl;
                      count = v.count;
                      cells_are = v.cells_are;
                    }

-- Its name -------------------------------------------------------------------------------------------------------------------------------------

module _ {text cells : List ℕ} (g : CaseFirst text cells) where
  pub named_atom : {A : Type 0} → (p : ℕ) × AtomIs text g.x p → A
  named_atom a = not_both g.x g.case.inner _ a.1.bytes g.case.is a.1.is
