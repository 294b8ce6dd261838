-- A text that is written from forms is read back: up to its end, or up to the first form that opens too many brackets. Assumes nothing.
use Rattle.std.specs.Prelude.{ℕ, suc, ◌≡◌, refl, Bool, true, false, ◌&&◌, List, [], ◌∷◌, leb, length}
use Rattle.std.proofs.Common.{arith, sym, ◌∙◌, subst}
use Rattle.std.proofs.Math.Path.{ap}
use Rattle.rules.specs.Limits.{DEPTH}
use Rattle.rules.specs.Lex.{Token, opens, closes, word, between, tokens}
use Rattle.rules.specs.Sexp.{Sexp, Sexps, atom, list, nil as nilˢ, cons as consˢ, snoc, Text, ends, fails, more, forms, read}
use Rattle.meaning.specs.Written.{Form, Forms, name, group, nil, cons, Mark, left, right, letters, mark, marks, spelling, spellings, Writes, shallow, shallows}

-- a form without its places
unfoldable mutual
  pub bare : Sexp → Form
  bare (atom p bs) = name bs
  bare (list xs) = group (bares xs)

  pub bares : Sexps → Forms
  bares nilˢ = nil
  bares (consˢ x xs) = cons (bare x) (bares xs)

-- what the text reads as: the forms, or those before the first that is too deep, and refusal 5
unfoldable pub Reads : Forms → Text → Type 0
Reads nil ends = Unit {0}
Reads nil (fails n) = ⊥
Reads nil (more x p t) = ⊥
Reads (cons f fs) ends = ⊥
Reads (cons f fs) (fails n) = (n ≡ 5) × (shallow 0 f ≡ false)
Reads (cons f fs) (more x p t) = (bare x ≡ f) × (shallow 0 f ≡ true) × Reads fs t

-- Lists of forms ------------------------------------------------------------------------------------------------------------------

joined : Forms → Forms → Forms
joined nil gs = gs
joined (cons f fs) gs = cons f (joined fs gs)

joined_nil : (fs : Forms) → joined fs nil ≡ fs
unfolding joined
joined_nil nil = refl
joined_nil (cons f fs) = ap (cons f) (joined_nil fs)

joined_snoc : (ys : Sexps) (x : Sexp) (fs : Forms) → joined (bares (snoc ys x)) fs ≡ joined (bares ys) (cons (bare x) fs)
unfolding bare snoc joined
joined_snoc nilˢ x fs = refl
joined_snoc (consˢ y ys) x fs = ap (cons (bare y)) (joined_snoc ys x fs)

-- Tokens --------------------------------------------------------------------------------------------------------------------------

-- an equation that cannot be
pub no : {A : Type 0} → ◌≡◌ {A = ℕ} 0 1 → A
no z = absurd (omega arith)

-- the tokens begin so
record Begins (ts : List Token) (t : Token) (ms : List Mark) : Type 0 where
  rest : List Token
  is : ts ≡ t ∷ rest
  marked : marks rest ≡ ms

begins_left : (ts : List Token) (ms : List Mark) → marks ts ≡ left ∷ ms → (p : ℕ) × Begins ts (opens p) ms
unfolding marks mark
begins_left [] ms e = no cc
begins_left (opens p ∷ ts) ms e = (p, record { rest = ts; is = refl; marked = cc })
begins_left (closes p ∷ ts) ms e = no cc
begins_left (word p bs ∷ ts) ms e = no cc

begins_right : (ts : List Token) (ms : List Mark) → marks ts ≡ right ∷ ms → (p : ℕ) × Begins ts (closes p) ms
unfolding marks mark
begins_right [] ms e = no cc
begins_right (opens p ∷ ts) ms e = no cc
begins_right (closes p ∷ ts) ms e = (p, record { rest = ts; is = refl; marked = cc })
begins_right (word p bs ∷ ts) ms e = no cc

begins_letters : (ts : List Token) (bs : List ℕ) (ms : List Mark) → marks ts ≡ letters bs ∷ ms → (p : ℕ) × Begins ts (word p bs) ms
unfolding marks mark
begins_letters [] bs ms e = no cc
begins_letters (opens p ∷ ts) bs ms e = no cc
begins_letters (closes p ∷ ts) bs ms e = no cc
begins_letters (word p cs ∷ ts) bs ms e = (p, record { rest = ts; is = (let z : cs ≡ bs = cc in ap (λ l. word p l ∷ ts) z); marked = cc })

-- Inside a list -------------------------------------------------------------------------------------------------------------------

-- it goes on where the test holds, and is refusal 5 elsewhere
data Went (b : Bool) (A : Type 0) (o : Text) : Type 0 where
  on : b ≡ true → A → Went b A o
  deep : b ≡ false → o ≡ fails 5 → Went b A o

-- the form is the next item of the innermost list
record Item (f : Form) (ys : Sexps) (st : List Sexps) (ms : List Mark) (o : Text) : Type 0 where
  item : Sexp
  behind : List Token
  is : bare item ≡ f
  marked : marks behind ≡ ms
  reads : o ≡ forms (snoc ys item ∷ st) behind

-- and so are several
record Items (fs : Forms) (ys : Sexps) (st : List Sexps) (ms : List Mark) (o : Text) : Type 0 where
  items : Sexps
  behind : List Token
  are : bares items ≡ joined (bares ys) fs
  marked : marks behind ≡ ms
  reads : o ≡ forms (items ∷ st) behind

-- a list that is closed
closed : (fs : Forms) (ys : Sexps) (st : List Sexps) (ms : List Mark) (o : Text) → Items fs nilˢ (ys ∷ st) (right ∷ ms) o → Item (group fs) ys st ms o
unfolding bare forms joined
closed fs ys st ms o r =
    let b = begins_right r.behind ms r.marked in
    record {
      item = list r.items;
      behind = b.1.rest;
      is = ap group r.are;
      marked = b.1.marked;
      reads = r.reads ∙ ap (forms (r.items ∷ ys ∷ st)) b.1.is;
    }

-- one list more
group_test : (k : ℕ) (fs : Forms) (b : Bool) → leb DEPTH k ≡ b → shallow k (group fs) ≡ elim b as (λ _. Bool) [ true ↦ false | false ↦ shallows (suc k) fs ]
unfolding shallow
group_test k fs b e = ap (λ c. elim c as (λ _. Bool) [ true ↦ false | false ↦ shallows (suc k) fs ]) e

forms_on : (ys : Sexps) (st : List Sexps) (p : ℕ) (ts : List Token) → leb DEPTH (length (ys ∷ st)) ≡ false
    → forms (ys ∷ st) (opens p ∷ ts) ≡ forms (nilˢ ∷ ys ∷ st) ts
unfolding forms
forms_on ys st p ts e = rw (e, forms)

forms_deep : (ys : Sexps) (st : List Sexps) (p : ℕ) (ts : List Token) → leb DEPTH (length (ys ∷ st)) ≡ true
    → forms (ys ∷ st) (opens p ∷ ts) ≡ fails 5
unfolding forms
forms_deep ys st p ts e = rw (e, forms)

went_map : {b c : Bool} {A B : Type 0} {o u : Text} → b ≡ c → o ≡ u → (A → B) → Went c A u → Went b B o
went_map e q f (on h a) = on (e ∙ h) (f a)
went_map e q f (deep h d) = deep (e ∙ h) (q ∙ d)

module _ (ys : Sexps) (st : List Sexps) (ms : List Mark) where
  word_item : (bs : List ℕ) (ts : List Token) (p : ℕ) → Begins ts (word p bs) ms → Item (name bs) ys st ms (forms (ys ∷ st) ts)
  unfolding forms bare
  word_item bs ts p b = record { item = atom p bs; behind = b.rest; is = refl; marked = b.marked; reads = ap (forms (ys ∷ st)) b.is }

  group_item : (fs : Forms) (ts : List Token) (p : ℕ) (b : Begins ts (opens p) (spellings fs (right ∷ ms)))
      → Went (shallows (suc (length (ys ∷ st))) fs) (Items fs nilˢ (ys ∷ st) (right ∷ ms) (forms (nilˢ ∷ ys ∷ st) b.rest)) (forms (nilˢ ∷ ys ∷ st) b.rest)
      → Went (shallow (length (ys ∷ st)) (group fs)) (Item (group fs) ys st ms (forms (ys ∷ st) ts)) (forms (ys ∷ st) ts)
  group_item fs ts p b w = go (leb DEPTH (length (ys ∷ st))) refl
    where
      go : (c : Bool) → leb DEPTH (length (ys ∷ st)) ≡ c
          → Went (shallow (length (ys ∷ st)) (group fs)) (Item (group fs) ys st ms (forms (ys ∷ st) ts)) (forms (ys ∷ st) ts)
      go true e = deep (group_test (length (ys ∷ st)) fs true e) (ap (forms (ys ∷ st)) b.is ∙ forms_deep ys st p b.rest e)
      go false e =
          let q = ap (forms (ys ∷ st)) b.is ∙ forms_on ys st p b.rest e in
          went_map (group_test (length (ys ∷ st)) fs false e) q
          (λ r. closed fs ys st ms (forms (ys ∷ st) ts) (record { items = r.items; behind = r.behind; are = r.are; marked = r.marked; reads = q ∙ r.reads })) w

-- an item, then the others
then_items : (f : Form) (fs : Forms) (ys : Sexps) (st : List Sexps) (ms : List Mark) (o : Text) (b : Bool)
    → Went b (Item f ys st (spellings fs ms) o) o
    → ((x : Sexp) (us : List Token) → marks us ≡ spellings fs ms
    → Went (shallows (length (ys ∷ st)) fs) (Items fs (snoc ys x) st ms (forms (snoc ys x ∷ st) us)) (forms (snoc ys x ∷ st) us))
    → Went (b && shallows (length (ys ∷ st)) fs) (Items (cons f fs) ys st ms o) o
then_items f fs ys st ms o b (deep e q) h = deep (ap (λ c. c && shallows (length (ys ∷ st)) fs) e) q
then_items f fs ys st ms o b (on e i) h =
    went_map (ap (λ c. c && shallows (length (ys ∷ st)) fs) e) i.reads
    (λ r. record {
      items = r.items;
      behind = r.behind;
      are = r.are ∙ (joined_snoc ys i.item fs ∙ ap (λ g. joined (bares ys) (cons g fs)) i.is);
      marked = r.marked;
      reads = i.reads ∙ r.reads;
    }) (h i.item i.behind i.marked)

mutual
  unfolding spelling shallow

  item_read : (f : Form) (ys : Sexps) (st : List Sexps) (ts : List Token) (ms : List Mark) → marks ts ≡ spelling f ms
      → Went (shallow (length (ys ∷ st)) f) (Item f ys st ms (forms (ys ∷ st) ts)) (forms (ys ∷ st) ts)
  item_read (name bs) ys st ts ms e = let b = begins_letters ts bs ms e in on refl (word_item ys st ms bs ts b.0 b.1)
  item_read (group fs) ys st ts ms e =
      let b = begins_left ts (spellings fs (right ∷ ms)) e in
      group_item ys st ms fs ts b.0 b.1 (items_read fs nilˢ (ys ∷ st) b.1.rest (right ∷ ms) b.1.marked)

  items_read : (fs : Forms) (ys : Sexps) (st : List Sexps) (ts : List Token) (ms : List Mark) → marks ts ≡ spellings fs ms
      → Went (shallows (length (ys ∷ st)) fs) (Items fs ys st ms (forms (ys ∷ st) ts)) (forms (ys ∷ st) ts)
  items_read nil ys st ts ms e = on refl (record { items = ys; behind = ts; are = sym (joined_nil (bares ys)); marked = e; reads = refl })
  items_read (cons f fs) ys st ts ms e =
      then_items f fs ys st ms (forms (ys ∷ st) ts) (shallow (length (ys ∷ st)) f) (item_read f ys st ts (spellings fs ms) e)
      (λ x us q. items_read fs (snoc ys x) st us ms q)

-- The whole text ------------------------------------------------------------------------------------------------------------------

word_reads : (bs : List ℕ) (fs : Forms) (ts : List Token) (p : ℕ) (b : Begins ts (word p bs) (spellings fs []))
    → Reads fs (forms [] b.rest) → Reads (cons (name bs) fs) (forms [] ts)
unfolding Reads forms bare shallow
word_reads bs fs ts p b h = subst (λ l. Reads (cons (name bs) fs) (forms [] l)) (sym b.is) (refl, refl, h)

group_reads : (gs fs : Forms) (ts : List Token) (p : ℕ) (b : Begins ts (opens p) (spellings gs (right ∷ spellings fs [])))
    → Went (shallows 1 gs) (Items gs nilˢ [] (right ∷ spellings fs []) (forms (nilˢ ∷ []) b.rest)) (forms (nilˢ ∷ []) b.rest)
    → ((us : List Token) → marks us ≡ spellings fs [] → Reads fs (forms [] us)) → Reads (cons (group gs) fs) (forms [] ts)
unfolding Reads forms bare shallow joined
group_reads gs fs ts p b (deep e q) h =
    subst (λ l. Reads (cons (group gs) fs) (forms [] l)) (sym b.is) (subst (λ o. Reads (cons (group gs) fs) o) (sym q) (refl, e))
group_reads gs fs ts p b (on e r) h =
    let c = begins_right r.behind (spellings fs []) r.marked in
    subst (λ l. Reads (cons (group gs) fs) (forms [] l)) (sym b.is)
    (subst (λ o. Reads (cons (group gs) fs) o) (sym (r.reads ∙ ap (forms (r.items ∷ [])) c.1.is))
    (ap group r.are, e, h c.1.rest c.1.marked))

tokens_read : (fs : Forms) (ts : List Token) → marks ts ≡ spellings fs [] → Reads fs (forms [] ts)
unfolding spelling Reads forms marks
tokens_read nil [] e = tt
tokens_read nil (t ∷ ts) e = no cc
tokens_read (cons (name bs) fs) ts e =
    let b = begins_letters ts bs (spellings fs []) e in word_reads bs fs ts b.0 b.1 (tokens_read fs b.1.rest b.1.marked)
tokens_read (cons (group gs) fs) ts e =
    let b = begins_left ts (spellings gs (right ∷ spellings fs [])) e in
    group_reads gs fs ts b.0 b.1 (items_read gs nilˢ [] b.1.rest (right ∷ spellings fs []) b.1.marked) (λ us q. tokens_read fs us q)

pub text_read : (text : List ℕ) (fs : Forms) → Writes text fs → Reads fs (read text)
unfolding Writes read
text_read text fs w = tokens_read fs (tokens between 0 text) w
