-- The tag of a declaration, and what each of the four declarations leaves in the tables. Assumes nothing.
use mathlib.Core.Path.{◌≡◌, refl, sym, ap, ◌∙◌, subst}
use Prim.Native.Nat.{ℕ}
use mathlib.Core.Bool.{Bool, true, false, ◌&&◌}
use Rattle.std.specs.Prelude.{Option, Some as some, None as nothing, Result, Err}
use mathlib.Core.List.{List, [], ◌∷◌, append-nil}
use native.Mathlib.Omega.{arith}
use lib.Dec.{leb}
use borrow.Author.Tests.{leb-true}
use Rattle.rules.specs.Out.{refuse, then, found}
use Rattle.rules.specs.Sexp.{Sexp, Sexps, atom, list, nil, cons, count, item, name, items}
use Rattle.rules.specs.Tags.{Declaration, a_sort, a_ctor, a_pred, a_rule, Row, theory_tags, within, fits, tag_in, declaration}
use Rattle.rules.specs.Theory.{Theory}
use Rattle.rules.specs.Text.{same}
use Rattle.rules.specs.Declare.{add_sort, add_ctor, add_pred, add_rule, declare_as, declare}
use Rattle.sexp.specs.Never.{never}
use Rattle.sexp.specs.Encode.{encode}
use Rattle.sexp.specs.Items.{Holds}
use Rattle.sexp.specs.WalkLaws.{AtomIs}
use Rattle.sexp.specs.Each.{ListOf}
use Rattle.sexp.specs.TagTable.{declaration_answer}
use Rattle.sexp.specs.declared.tags.Declaration.{Declaration as Tag}
use Rattle.sexp.specs.declared.tags.Declaration.TheVariants.{Sort, Ctor, Pred, Rule}
use Rattle.kernel.specs.Held.{Form}
use Rattle.kernel.specs.Parsed.{TheoryLists, TheoryHeld, Formed, ItemsDeclaring, DeclaredAs, headed, tagged, taken}
use Rattle.kernel.specs.declared.tables.Counts.{Counts}
use Rattle.questions.specs.declared.Question.{Question}
use Rattle.questions.specs.declared.Question.TheVariants.{Declaration as NoDeclaration}

-- Tags ---------------------------------------------------------------------------------------------------------------------------

-- the number of items of a declaration
abbrev pub many : Declaration → ℕ
many a_sort = 2
many a_ctor = 4
many a_pred = 3
many a_rule = 4

-- every row wants the items of its tag
abbrev Exactly : List (Row Declaration) → Type 0
Exactly [] = Unit {0}
Exactly (r ∷ rs) = (r.least ≡ many r.tag) × (r.most ≡ some (many r.tag)) × Exactly rs

both : (a b c : Bool) → (a && (b && c)) ≡ true → (b ≡ true) × (c ≡ true)
both true true true e = (refl, refl)
both true true false e = never cc
both true false c e = never cc
both false b c e = never cc

row_many : (r : Row Declaration) (x : List ℕ) (n : ℕ) → r.least ≡ many r.tag → r.most ≡ some (many r.tag) → fits r x n ≡ true → n ≡ many r.tag
unfolding fits within
row_many r x n l m e =
    let b = both (same r.name x) (leb r.least n) (within r.most n) e in
    omega (arith, l, leb-true r.least n b.0, leb-true n (many r.tag) (ap (λ o. within o n) (sym m) ∙ b.1))

tag_many : (rs : List (Row Declaration)) → Exactly rs → (x : List ℕ) (n : ℕ) (d : Declaration) → tag_in rs x n ≡ some d → n ≡ many d
unfolding tag_in
tag_many [] k x n d e = never cc
tag_many (r ∷ rs) k x n d e = go (fits r x n) refl e (tag_many rs k.2 x n d)
  where
    go : (b : Bool) → fits r x n ≡ b → elim b [ true ↦ some r.tag | false ↦ tag_in rs x n ] ≡ some d → (tag_in rs x n ≡ some d → n ≡ many d) → n ≡ many d
    go true f g ih =
        let q : r.tag ≡ d = cc in
        row_many r x n k.0 k.1 f ∙ ap many q
    go false f g ih = ih g

pub declaration_many : (x : List ℕ) (n : ℕ) (d : Declaration) → declaration x n ≡ some d → n ≡ many d
unfolding declaration theory_tags
declaration_many x n d e = tag_many theory_tags (refl, refl, (refl, refl, (refl, refl, (refl, refl, tt)))) x n d e

headed_many : (x : Sexp) (n : ℕ) (d : Declaration) → headed x n ≡ some d → n ≡ many d
unfolding headed
headed_many (atom p bs) n d e = declaration_many bs n d e
headed_many (list xs) n d e = never cc

-- the tag of an answer
abbrev tag_of : Tag → Declaration
tag_of Sort = a_sort
tag_of Ctor = a_ctor
tag_of Pred = a_pred
tag_of Rule = a_rule

-- what an answer says
pub told : {o : Option Declaration} {r : Option Tag} {t : Tag} (q : Tag) → r ≡ declaration_answer o → r ≡ some t → t ≡ q → o ≡ some (tag_of q)
told {o} {r} {t} q e f g = go o (sym e ∙ f ∙ ap some g)
  where
    go : (p : Option Declaration) → declaration_answer p ≡ some q → p ≡ some (tag_of q)
    go nothing a = never cc
    go (some a_sort) a = ap (λ z. some (tag_of z)) (let h : Sort ≡ q = cc in h)
    go (some a_ctor) a = ap (λ z. some (tag_of z)) (let h : Ctor ≡ q = cc in h)
    go (some a_pred) a = ap (λ z. some (tag_of z)) (let h : Pred ≡ q = cc in h)
    go (some a_rule) a = ap (λ z. some (tag_of z)) (let h : Rule ≡ q = cc in h)

pub untold : {o : Option Declaration} {r : Option Tag} → r ≡ declaration_answer o → r ≡ nothing → o ≡ nothing
untold {o} e f = go o (sym e ∙ f)
  where
    go : (p : Option Declaration) → declaration_answer p ≡ nothing → p ≡ nothing
    go nothing a = refl
    go (some a_sort) a = never cc
    go (some a_ctor) a = never cc
    go (some a_pred) a = never cc
    go (some a_rule) a = never cc

-- The definition, by the tag -------------------------------------------------------------------------------------------------------

pub declare_atom : (p : ℕ) (bs : List ℕ) (T : Theory) → declare (atom p bs) T ≡ refuse 10 0 T
unfolding declare items then
declare_atom p bs T = refl

pub declare_list : (xs : Sexps) (T : Theory) → declare (list xs) T ≡ taken (tagged xs) xs T
unfolding declare items name then headed
declare_list xs T = go (item xs 0)
  where
    by : (o : Option Declaration) → then (found 10 o T) (λ d W. declare_as d xs W) ≡ taken o xs T
    by nothing = refl
    by (some d) = refl

    go : (x : Sexp) → then (name 10 x T) (λ t U. then (found 10 (declaration t.bytes (count xs)) U) (λ d W. declare_as d xs W)) ≡ taken (headed x (count xs)) xs T
    go (atom p bs) = by (declaration bs (count xs))
    go (list ys) = refl

-- The answers of `tag_of` ----------------------------------------------------------------------------------------------------------

module _ (xs : Sexps) where
  pub tag_none : {ys : Sexps} → item xs 0 ≡ list ys → nothing ≡ declaration_answer (tagged xs)
  unfolding headed
  tag_none e = sym (ap (λ x. declaration_answer (headed x (count xs))) e)

  pub tag_found : {p : ℕ} {name : List ℕ} {k : ℕ} → item xs 0 ≡ atom p name → k ≡ count xs →
      declaration_answer (declaration name k) ≡ declaration_answer (tagged xs)
  unfolding headed
  tag_found {name = name} e c =
      ap (λ m. declaration_answer (declaration name m)) c ∙ sym (ap (λ x. declaration_answer (headed x (count xs))) e)

-- The answers of `declare_items` ---------------------------------------------------------------------------------------------------

pub item_many : (xs : Sexps) (d : Declaration) → tagged xs ≡ some d → many d ≡ count xs
item_many xs d e = sym (headed_many (item xs 0) (count xs) d e)

pub form_of : {text words : List ℕ} {t : TheoryLists} {n : Counts} (k : ItemsDeclaring text words t n) (d : Declaration) → tagged k.xs ≡ some d → Form text words (many d)
form_of k d e = record { xs = k.xs; holds = k.holds; many = item_many k.xs d e; short = k.short }

module _ (text : List ℕ) (t : TheoryLists) (n : Counts) (T : Theory) (xs : Sexps) where
  pub no_tag : TheoryHeld text t n T → tagged xs ≡ nothing → DeclaredAs text t n T (taken (tagged xs) xs T) (Err NoDeclaration)
  no_tag h e = (ap (λ o. taken o xs T) e, h)

  module _ (r : Result Unit Question) where
    given_as : (d : Declaration) → tagged xs ≡ some d → DeclaredAs text t n T (declare_as d xs T) r → DeclaredAs text t n T (taken (tagged xs) xs T) r
    given_as d e k = subst (λ o. DeclaredAs text t n T (taken o xs T) r) (sym e) k

    pub sort_taken : tagged xs ≡ some a_sort → DeclaredAs text t n T (add_sort xs T) r → DeclaredAs text t n T (taken (tagged xs) xs T) r
    unfolding declare_as
    sort_taken e k = given_as a_sort e k

    pub ctor_taken : tagged xs ≡ some a_ctor → DeclaredAs text t n T (add_ctor xs T) r → DeclaredAs text t n T (taken (tagged xs) xs T) r
    unfolding declare_as
    ctor_taken e k = given_as a_ctor e k

    pub pred_taken : tagged xs ≡ some a_pred → DeclaredAs text t n T (add_pred xs T) r → DeclaredAs text t n T (taken (tagged xs) xs T) r
    unfolding declare_as
    pred_taken e k = given_as a_pred e k

    pub rule_taken : tagged xs ≡ some a_rule → DeclaredAs text t n T (add_rule xs T) r → DeclaredAs text t n T (taken (tagged xs) xs T) r
    unfolding declare_as
    rule_taken e k = given_as a_rule e k

-- The answers of `declare` ---------------------------------------------------------------------------------------------------------

module _ {text cells : List ℕ} {x : Sexp} (k : Formed text cells x) where
  pub alone : Holds text cells (cons x nil)
  unfolding encode
  alone = record { cells = k.encoded ∙ sym (append-nil (encode x)); spelt = (k.spelt, tt) }

  pub form_atom_lem : {p : ℕ} → AtomIs text x p → (T : Theory) → declare x T ≡ refuse 10 0 T
  form_atom_lem {p} a T = ap (λ y. declare y T) a.is ∙ declare_atom p a.bytes T

  pub form_declares : {part : List ℕ} (l : ListOf text cells x part) (T : Theory) → declare x T ≡ taken (tagged l.items) l.items T
  form_declares l T = ap (λ y. declare y T) l.is ∙ declare_list l.items T
