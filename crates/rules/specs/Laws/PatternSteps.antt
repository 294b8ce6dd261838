-- The questions of a rule's patterns one at a time, as code puts them. Assumes nothing.
use Rattle.std.specs.Prelude.{ℕ, suc, ◌<◌, ◌≤◌, ◌≡◌, Bool, List, [], ◌∷◌, ◌++◌, length, get_or, Option, Some as some, None as nothing}
use Rattle.std.proofs.Math.Path.{refl, ap}
use Rattle.std.proofs.Common.{◌∙◌}
use Rattle.std.proofs.Math.Bool.{true, false}
use borrow.Author.Tests.{lt-ltb, le-ltb, eq-eqb, ne_eqb, le-leb, lt-leb}
use Rattle.rules.specs.Limits.{RULEVARS, PATTERNS}
use Rattle.rules.specs.Text.{same}
use Rattle.rules.specs.Out.{Out, ok, refuse, then, Act}
use Rattle.rules.specs.Sexp.{Sexp, Sexps, atom, list, nil, cons, count, item, Name, name, items, marked}
use Rattle.rules.specs.Find.{first}
use Rattle.rules.specs.Tree.{Tree, Trees, var, app, none, more}
use Rattle.rules.specs.Theory.{RuleVar, Theory, predicate_named, constructor_named, inputs, output}
use Rattle.rules.specs.Declare.{no_rule_var, Reading, word, met_or_new, variable, head, pattern, patterns, predicated, judgment, judgments, schema}

abbrev pub worded : Reading → Reading
worded R = record { vars = R.vars; words = suc R.words }

abbrev pub with_var : Reading → Name → ℕ → Reading
with_var R n s = record { vars = R.vars ++ (record { name = n; sort = s } ∷ []); words = R.words }

-- the rule's variable of that name
abbrev pub var_named : List RuleVar → List ℕ → Option ℕ
var_named vs n = first (λ v. same v.name.bytes n) vs 0

module _ (R : Reading) where
  pub word_full : PATTERNS ≤ R.words → word R ≡ refuse 60 6 R
  unfolding word then
  word_full h = rw (le-ltb R.words PATTERNS h)

  pub word_more : R.words < PATTERNS → word R ≡ ok tt (worded R)
  unfolding word then
  word_more h = rw (lt-ltb R.words PATTERNS h)

  module _ (n : Name) (s : ℕ) where
    pub met_other : (i : ℕ) → ((get_or R.vars i no_rule_var).sort ≡ s → ⊥) → met_or_new n s (some i) R ≡ refuse 12 0 R
    unfolding met_or_new then
    met_other i h = rw (ne_eqb (get_or R.vars i no_rule_var).sort s h)

    pub met_same : (i : ℕ) → (get_or R.vars i no_rule_var).sort ≡ s → met_or_new n s (some i) R ≡ ok i R
    unfolding met_or_new then
    met_same i h = rw (eq-eqb (get_or R.vars i no_rule_var).sort s h)

    pub new_full : RULEVARS ≤ length R.vars → met_or_new n s nothing R ≡ refuse 60 5 R
    unfolding met_or_new then
    new_full h = rw (le-ltb (length R.vars) RULEVARS h)

    pub new_more : length R.vars < RULEVARS → met_or_new n s nothing R ≡ ok (length R.vars) (with_var R n s)
    unfolding met_or_new then
    new_more h = rw (lt-ltb (length R.vars) RULEVARS h)

    pub variable_short : length n.bytes < 2 → variable n s R ≡ refuse 11 0 R
    unfolding variable then
    variable_short h = rw (lt-leb 2 (length n.bytes) h)

    pub variable_asks : 2 ≤ length n.bytes → variable n s R ≡ then (met_or_new n s (var_named R.vars n.bytes) R) (λ i U. then (word U) (λ u W. ok (var i) W))
    unfolding variable then
    variable_asks h = rw (le-leb 2 (length n.bytes) h)

  module _ (T : Theory) (s k : ℕ) (n : List ℕ) where
    pub head_unknown : constructor_named T n ≡ nothing → head T s k n R ≡ refuse 11 0 R
    unfolding head then
    head_unknown e = rw e

    module _ (c : ℕ) (e : constructor_named T n ≡ some c) where
      pub head_sort : (output T c ≡ s → ⊥) → head T s k n R ≡ refuse 12 0 R
      unfolding head then
      head_sort h = rw (e, ne_eqb (output T c) s h)

      pub head_count : output T c ≡ s → (length (inputs T c) ≡ k → ⊥) → head T s k n R ≡ refuse 12 0 R
      unfolding head then
      head_count h m = rw (e, eq-eqb (output T c) s h, ne_eqb (length (inputs T c)) k m)

      pub head_asks : output T c ≡ s → length (inputs T c) ≡ k → head T s k n R ≡ then (word R) (λ u W. ok c W)
      unfolding head then
      head_asks h m = rw (e, eq-eqb (output T c) s h, eq-eqb (length (inputs T c)) k m)

  module _ (T : Theory) (s : ℕ) where
    pub pattern_marked : (p : ℕ) (bs : List ℕ) → marked bs ≡ true → pattern T (atom p bs) s R ≡ variable (record { start = p; bytes = bs }) s R
    unfolding pattern
    pattern_marked p bs e = ap (λ (b : Bool). (elim b as (λ (z : Bool). Act Reading Tree) [
      | true ↦ variable (record { start = p; bytes = bs }) s
      | false ↦ (λ U. then (head T s 0 bs U) (λ c W. ok (app c none) W))
    ]) R) e

    pub pattern_atom : (p : ℕ) (bs : List ℕ) → marked bs ≡ false → pattern T (atom p bs) s R ≡ then (head T s 0 bs R) (λ c U. ok (app c none) U)
    unfolding pattern
    pattern_atom p bs e = ap (λ (b : Bool). (elim b as (λ (z : Bool). Act Reading Tree) [
      | true ↦ variable (record { start = p; bytes = bs }) s
      | false ↦ (λ U. then (head T s 0 bs U) (λ c W. ok (app c none) W))
    ]) R) e

    pub pattern_empty : pattern T (list nil) s R ≡ refuse 11 0 R
    unfolding pattern
    pattern_empty = refl

    pub pattern_headless : (ys xs : Sexps) → pattern T (list (cons (list ys) xs)) s R ≡ refuse 11 0 R
    unfolding pattern name then
    pattern_headless ys xs = refl

    pub pattern_lone : (p : ℕ) (bs : List ℕ) (xs : Sexps) → count xs ≡ 0 → pattern T (list (cons (atom p bs) xs)) s R ≡ refuse 12 0 R
    unfolding pattern name then
    pattern_lone p bs xs e = rw (e, pattern)

    pub pattern_asks : (p : ℕ) (bs : List ℕ) (xs : Sexps) → 1 ≤ count xs → pattern T (list (cons (atom p bs) xs)) s R
        ≡ then (head T s (count xs) bs R) (λ c U. then (patterns T xs (inputs T c) U) (λ ts W. ok (app c ts) W))
    unfolding pattern name then
    pattern_asks p bs xs h = rw (le-leb 1 (count xs) h, pattern)

  module _ (T : Theory) where
    pub patterns_none : (ss : List ℕ) → patterns T nil ss R ≡ ok none R
    unfolding pattern
    patterns_none ss = refl

    pub patterns_more : (x : Sexp) (xs : Sexps) (s : ℕ) (ss : List ℕ) → patterns T (cons x xs) (s ∷ ss) R
        ≡ then (pattern T x s R) (λ t U. then (patterns T xs ss U) (λ ts W. ok (more t ts) W))
    unfolding pattern
    patterns_more x xs s ss = refl

    pub predicated_empty : predicated T nil R ≡ refuse 11 0 R
    unfolding predicated
    predicated_empty = refl

    pub predicated_headless : (ys xs : Sexps) → predicated T (cons (list ys) xs) R ≡ refuse 11 0 R
    unfolding predicated name then
    predicated_headless ys xs = refl

    module _ (p : ℕ) (bs : List ℕ) (xs : Sexps) where
      pub predicated_unknown : predicate_named T bs ≡ nothing → predicated T (cons (atom p bs) xs) R ≡ refuse 11 0 R
      unfolding predicated name then
      predicated_unknown e = rw e

      pub predicated_count : (c : ℕ) → predicate_named T bs ≡ some c → (length (inputs T c) ≡ count xs → ⊥) → predicated T (cons (atom p bs) xs) R ≡ refuse 12 0 R
      unfolding predicated name then
      predicated_count c e h = rw (e, ne_eqb (length (inputs T c)) (count xs) h)

      pub predicated_asks : (c : ℕ) → predicate_named T bs ≡ some c → length (inputs T c) ≡ count xs → predicated T (cons (atom p bs) xs) R
          ≡ then (word R) (λ u U. then (patterns T xs (inputs T c) U) (λ ts W. ok (app c ts) W))
      unfolding predicated name then
      predicated_asks c e h = rw (e, eq-eqb (length (inputs T c)) (count xs) h)

-- Premises -------------------------------------------------------------------------------------------------------------------------

module _ (R : Reading) (T : Theory) where
  pub judgments_none : judgments T nil R ≡ ok none R
  unfolding judgments
  judgments_none = refl

  pub judgments_atom : (p : ℕ) (bs : List ℕ) (xs : Sexps) → judgments T (cons (atom p bs) xs) R ≡ refuse 11 0 R
  unfolding judgments judgment items then
  judgments_atom p bs xs = refl

  pub judgments_more : (ys xs : Sexps) → judgments T (cons (list ys) xs) R ≡ then (predicated T ys R) (λ t U. then (judgments T xs U) (λ ts W. ok (more t ts) W))
  unfolding judgments judgment items then
  judgments_more ys xs = refl

-- `schema`, with its two items as lists
module _ (R : Reading) (T : Theory) (xs : Sexps) where
  pub schema_no_premises : (p : ℕ) (bs : List ℕ) → item xs 2 ≡ atom p bs → schema T xs R ≡ refuse 11 0 R
  unfolding schema items then
  schema_no_premises p bs e = rw e

  -- the premises, then the conclusion
  schema_rest : Trees → Reading → Out Reading (Trees × Tree)
  schema_rest ps U = then (judgment T (item xs 3) U) (λ c W. ok (ps, c) W)

  module _ (ys : Sexps) (e : item xs 2 ≡ list ys) where
    begins : schema T xs R ≡ then (judgments T ys R) (λ ps U. schema_rest ps U)
    unfolding schema items then schema_rest
    begins = rw e

    pub schema_stopped : (a d : ℕ) (U : Reading) → judgments T ys R ≡ refuse a d U → schema T xs R ≡ refuse a d U
    unfolding then
    schema_stopped a d U f = begins ∙ ap (λ z. then z (λ ps U. schema_rest ps U)) f

    module _ (ps : Trees) (U : Reading) (f : judgments T ys R ≡ ok ps U) where
      so_far : schema T xs R ≡ schema_rest ps U
      unfolding then
      so_far = begins ∙ ap (λ z. then z (λ ps U. schema_rest ps U)) f

      pub schema_no_conclusion : (p : ℕ) (bs : List ℕ) → item xs 3 ≡ atom p bs → schema T xs R ≡ refuse 11 0 U
      unfolding judgment items then schema_rest
      schema_no_conclusion p bs g = so_far ∙ ap (λ z. then (judgment T z U) (λ c W. ok (ps, c) W)) g

      pub schema_asks : (zs : Sexps) → item xs 3 ≡ list zs → schema T xs R ≡ then (predicated T zs U) (λ c W. ok (ps, c) W)
      unfolding judgment items then schema_rest
      schema_asks zs g = so_far ∙ ap (λ z. then (judgment T z U) (λ c W. ok (ps, c) W)) g
