-- What an item says to a question for a name. Assumes nothing.
use mathlib.Core.Path.{◌≡◌, refl, sym, ap, ◌∙◌}
use Prim.Native.Nat.{ℕ, ◌+◌, ◌-◌, ◌≤◌}
use mathlib.Core.Bool.{Bool, true, false}
use Rattle.std.specs.Prelude.{Option, Some as some, None as nothing, Result, Ok, Err, ok_or}
use mathlib.Core.List.{List, []}
use native.Mathlib.Omega.{arith}
use lib.ListN.{length, take, drop}
use Rattle.rules.specs.Text.{same}
use Rattle.rules.specs.Find.{first}
use Rattle.rules.specs.Theory.{Theory, sort_named}
use Rattle.rules.specs.Lex.{letters}
use Rattle.rules.specs.Sexp.{Sexp, Sexps, atom, list, Name, marked, item}
use Rattle.sexp.specs.Spelt.{Spelt}
use Rattle.sexp.specs.Items.{item_of, Holds}
use Rattle.sexp.specs.WalkLaws.{Span, span, spells_item}
use Rattle.sexp.specs.declared.items.Item.{Item}
use Rattle.sexp.specs.declared.items.Item.TheVariants.{Atom, List as Part}
use Rattle.kernel.specs.Spelled.{name_of}
use Rattle.rules.specs.Laws.Declaring.{proper, sort_of, sort_of_name}
use Rattle.sexp.specs.Never.{never}
use Rattle.sexp.specs.AtomText.{atom_text}
use Rattle.sexp.specs.NameRows.{NameIn}
use Rattle.questions.specs.declared.Question.{Question}
use Rattle.questions.specs.declared.Question.TheVariants.{Declared}
use Rattle.cells.specs.declared.Span.{Span as Place}

pub proper_none : (p : ℕ) (bs : List ℕ) → marked bs ≡ true → proper (atom p bs) ≡ nothing
unfolding proper
proper_none p bs e = rw (e, proper)

pub proper_some : (p : ℕ) (bs : List ℕ) → marked bs ≡ false → proper (atom p bs) ≡ some (record { start = p; bytes = bs })
unfolding proper
proper_some p bs e = rw (e, proper)

-- the answers of `proper`
module _ (text : List ℕ) {item : Item} {p : ℕ} (f : item ≡ Atom p) where
  module _ (x : Sexp) (at : ℕ) (e : item ≡ item_of at x) (s : Spelt text x) where
    spelt_so : x ≡ atom p (letters (drop p text))
    spelt_so = (atom_text text at x s e f).is

    pub proper_marked : marked (letters (drop p text)) ≡ true → Err Declared ≡ name_of (proper x)
    proper_marked m = ap name_of (sym (ap proper spelt_so ∙ proper_none p (letters (drop p text)) m))

    pub proper_name_lem : marked (letters (drop p text)) ≡ false → (end : ℕ) → end ≡ p + length (letters (drop p text)) →
        Ok (record { from = p; end = end }) ≡ name_of (proper x)
    proper_name_lem m end q =
        (let at : ℕ → Result Place Question = λ e. Ok (record { from = p; end = e }) in ap at q) ∙ ap name_of (sym (ap proper spelt_so ∙ proper_some p (letters (drop p text)) m))

pub proper_list : {item : Item} {a b : ℕ} → item ≡ Part a b → (x : Sexp) (at : ℕ) → item ≡ item_of at x → Err Declared ≡ name_of (proper x)
unfolding proper
proper_list f (atom p bs) at e = never cc
proper_list f (list xs) at e = refl

-- What the answers say to a caller ---------------------------------------------------------------------------------------------

-- the item is a name, from s to e in the text
pub record Proper (text : List ℕ) (x : Sexp) (s e : ℕ) : Type 0 where
  pub name : Name
  pub is : proper x ≡ some name
  pub start : name.start ≡ s
  pub end : s + length name.bytes ≡ e
  pub high : e ≤ length text
  pub part : take (e - s) (drop s text) ≡ name.bytes
  pub stands : NameIn text name

pub proper_found : (text : List ℕ) (x : Sexp) (r : Result Place Question) (n : Place) → Spelt text x → r ≡ name_of (proper x) → r ≡ Ok n → Proper text x n.from n.end
unfolding proper
proper_found text (list xs) r n k a b = never cc
proper_found text (atom p bs) r n k a b = go (marked bs) refl (sym b ∙ a)
  where
    go : (m : Bool) → marked bs ≡ m → ◌≡◌ {A = Result Place Question} (Ok n) (name_of (elim m [ true ↦ nothing | false ↦ some (record { start = p; bytes = bs }) ])) →
        Proper text (atom p bs) n.from n.end
    go true f g = never cc
    go false f g =
        let at : n ≡ record { from = p; end = p + length bs } = cc in
        let es : n.from ≡ p = ap (λ (m : Place). m.from) at in
        let ee : n.end ≡ p + length bs = ap (λ (m : Place). m.end) at in
        let w : Span text p n.end bs = span k (ee ∙ ap (λ l. p + length l) (sym k.bytes)) in
        let m : n.end - p ≡ length bs = omega (arith, ee) in
        record {
          name = record { start = p; bytes = bs };
          is = proper_some p bs f;
          start = sym es;
          end = omega (arith, es, ee);
          high = w.high;
          part = rw es w.part;
          stands = record { inside = omega (arith, w.high, ee); spelt = rw m at w.part };
        }

-- no name, which is question 11
pub record Nameless (x : Sexp) (e : Question) : Type 0 where
  pub is : proper x ≡ nothing
  pub error : e ≡ Declared

pub proper_missing : (x : Sexp) (r : Result Place Question) {e : Question} → r ≡ name_of (proper x) → r ≡ Err e → Nameless x e
proper_missing x r {e} a b = go (proper x) refl (sym b ∙ a)
  where
    go : (o : Option Name) → proper x ≡ o → ◌≡◌ {A = Result Place Question} (Err e) (name_of o) → Nameless x e
    go nothing k f = record { is = k; error = cc }
    go (some n) k f = never cc

-- the answers of `sort`
pub sort_unnamed : (ns : List Name) (x : Sexp) {e : Question} → Nameless x e → Err e ≡ ok_or (sort_of ns x) Declared
unfolding sort_of sort_of_name
sort_unnamed ns x k = rw (k.is, k.error)

-- the theory that has these sorts alone
abbrev pub sorted : List Name → Theory
sorted ns = record { sorts = ns; symbols = []; rules = [] }

pub sort_so : (text : List ℕ) (ns : List Name) (x : Sexp) (s e : ℕ) → Proper text x s e → {o : Option ℕ} {r : Result ℕ Question} →
    o ≡ sort_named (sorted ns) (take (e - s) (drop s text)) → r ≡ ok_or o Declared → r ≡ ok_or (sort_of ns x) Declared
unfolding sort_of sort_of_name sort_named
sort_so text ns x s e k a b =
    b ∙ ap (λ z. ok_or z Declared) (a ∙ ap (λ l. first (λ (n : Name). same n.bytes l) ns 1) k.part ∙ sym (ap (sort_of_name ns) k.is))

-- the answers of `proper_at`
module _ {text words : List ℕ} (k : ℕ) {r : Result Place Question} where
  pub proper_here : {n : Place} (xs : Sexps) → ((ys : Sexps) → Holds text words ys → r ≡ name_of (proper (item ys k))) → r ≡ Ok n → Holds text words xs →
      Proper text (item xs k) n.from n.end
  proper_here {n} xs a b h = proper_found text (item xs k) r n (spells_item h k) (a xs h) b

  pub proper_nowhere : {e : Question} (xs : Sexps) → ((ys : Sexps) → Holds text words ys → r ≡ name_of (proper (item ys k))) → r ≡ Err e → Holds text words xs →
      Nameless (item xs k) e
  proper_nowhere xs a b h = proper_missing (item xs k) r (a xs h) b
