-- What reading a rule's patterns gives: trees of their sorts over the variables met, of as many words as were counted. Assumes nothing.
use Rattle.std.specs.Prelude.{ℕ, ◌+◌, ◌<◌, ◌≤◌, ◌≡◌, Bool, true, false, ◌&&◌, not, ◌⊎◌, List, [], ◌∷◌, ◌++◌, eqb, leb, ltb, length, get_or, Option, Some as some, None as nothing}
use Rattle.std.proofs.Math.Path.{refl}
use Rattle.std.proofs.Common.{sym, ap, ◌∙◌, arith, ltb-true, eqb-true, eq-eqb, length-append}
use Rattle.std.proofs.Math.Logic.{inl, inr}
use Rattle.std.proofs.Math.Decide.{dec_lt}
use Rattle.std.proofs.Math.Seq.{get_or-append_seam}
use Rattle.rules.specs.Limits.{RULEVARS, PATTERNS}
use Rattle.rules.specs.Text.{same}
use Rattle.rules.specs.Out.{then, Act}
use Rattle.rules.specs.Laws.Out.{Ok, fine, off, by_then, by_name, by_items, by_ask, by_room, by_found}
use Rattle.rules.specs.Sexp.{Sexp, Sexps, atom, list, nil, cons, count, item, Name, marked}
use Rattle.rules.specs.Find.{first}
use Rattle.rules.specs.Laws.Find.{first_some, get_d_front}
use Rattle.rules.specs.Tree.{Tree, Trees, var, app, none, more, variables, variables_of, size, sizes}
use Rattle.rules.specs.Theory.{Symbol, RuleVar, Theory, no_symbol, is_predicate, predicate_named, constructor_named, inputs, output}
use Rattle.rules.specs.Laws.Theory.{All, both, IsSort, sort_in, Sorted, Sorteds, Judgment, Judgments, SymbolFormed, all_snoc, all_at}
use Rattle.rules.specs.Declare.{no_rule_var, Reading, word, met_or_new, variable, head, pattern, compound, patterns, predicated, judgment, judgments, schema}

-- further variables
pub record Extends (vs ws : List RuleVar) : Type 0 where
  pub longer : length vs ≤ length ws
  pub alike : (i : ℕ) → i < length vs → sort_in ws i ≡ sort_in vs i

extends_refl : (vs : List RuleVar) → Extends vs vs
extends_refl vs = record { longer = omega arith; alike = λ i l. refl }

extends_then : {us vs ws : List RuleVar} → Extends us vs → Extends vs ws → Extends us ws
extends_then a b =
    record { longer = omega (arith, a.longer, b.longer); alike = λ i l. b.alike i (omega (arith, a.longer, l)) ∙ a.alike i l }

extends_snoc : (vs : List RuleVar) (v : RuleVar) → Extends vs (vs ++ (v ∷ []))
unfolding sort_in
extends_snoc vs v =
    record { longer = omega (arith, length-append vs (v ∷ [])); alike = λ i l. ap (λ (w : RuleVar). w.sort) (get_d_front vs (v ∷ []) i no_rule_var l) }

mutual
  unfolding Sorted

  sorted_extends : (t : Tree) (T : Theory) (vs ws : List RuleVar) (s : ℕ) → Extends vs ws → Sorted T vs t s → Sorted T ws t s
  sorted_extends (var i) T vs ws s e h = (omega (arith, e.longer, h.0), e.alike i h.0 ∙ h.1)
  sorted_extends (app c ts) T vs ws s e h = (h.0, h.1, sorteds_extends ts T vs ws (inputs T c) e h.2)

  sorteds_extends : (ts : Trees) (T : Theory) (vs ws : List RuleVar) (ss : List ℕ) → Extends vs ws → Sorteds T vs ts ss → Sorteds T ws ts ss
  sorteds_extends none T vs ws [] e h = tt
  sorteds_extends none T vs ws (s ∷ ss) e h = absurd h
  sorteds_extends (more t ts) T vs ws [] e h = absurd h
  sorteds_extends (more t ts) T vs ws (s ∷ ss) e h = (sorted_extends t T vs ws s e h.0, sorteds_extends ts T vs ws ss e h.1)

-- what holds while a rule is read
pub record Reads (T : Theory) (R : Reading) : Type 0 where
  pub few : length R.vars ≤ RULEVARS
  pub roomy : R.words ≤ PATTERNS
  pub sorts : All (λ v. IsSort T v.sort) R.vars

-- from R to U a part of n words was read; each new variable is one of the part's
pub record Went (T : Theory) (R U : Reading) (n : ℕ) (here : ℕ → Bool) : Type 0 where
  pub reads : Reads T U
  pub extends : Extends R.vars U.vars
  pub words : U.words ≡ R.words + n
  pub occur : (i : ℕ) → length R.vars ≤ i → i < length U.vars → here i ≡ true

-- one part behind another
went_then : {T : Theory} {R U W : Reading} {m n k : ℕ} {here there or : ℕ → Bool} → Went T R U m here → Went T U W n there → k ≡ m + n →
    ((i : ℕ) → here i ≡ true → or i ≡ true) → ((i : ℕ) → there i ≡ true → or i ≡ true) → Went T R W k or
went_then {U = U} a b e f g =
    record {
      reads = b.reads;
      extends = extends_then a.extends b.extends;
      words = omega (arith, a.words, b.words, e);
      occur = λ i l k. elim (dec_lt i (length U.vars)) [
        | yes p ↦ f i (a.occur i l p)
        | no q ↦ g i (b.occur i (omega (arith, q)) k)
      ];
    }

-- no variable
abbrev nobody : ℕ → Bool
nobody i = false

never : {A : Type 0} → false ≡ true → A
never e = absurd (let z : ◌≡◌ {A = ℕ} 0 1 = cc in omega arith)

-- a word more
word_reads : (T : Theory) (R : Reading) → Reads T R → Ok (λ u U. Went T R U 1 nobody) (word R)
unfolding word then
word_reads T R g =
    by_room 6 (ltb R.words PATTERNS) R _ λ h.
    fine (record {
      reads = record { few = g.few; roomy = ltb-true R.words PATTERNS h; sorts = g.sorts };
      extends = extends_refl R.vars;
      words = omega arith;
      occur = λ i a b. absurd (omega (arith, a, b));
    })

-- a variable's number i; where it is new, it is the only new one
pub record Met (T : Theory) (R U : Reading) (i s : ℕ) : Type 0 where
  pub reads : Reads T U
  pub extends : Extends R.vars U.vars
  pub words : U.words ≡ R.words
  pub there : i < length U.vars
  pub sorted : sort_in U.vars i ≡ s
  pub only : (j : ℕ) → length R.vars ≤ j → j < length U.vars → j ≡ i

met_reads : (T : Theory) (n : Name) (s : ℕ) (o : Option ℕ) (R : Reading) → ((i : ℕ) → o ≡ some i → i < length R.vars) → Reads T R →
    IsSort T s → Ok (λ i U. Met T R U i s) (met_or_new n s o R)
unfolding met_or_new then sort_in
met_reads T n s (some i) R f g k =
    by_ask 12 (eqb (get_or R.vars i no_rule_var).sort s) R _ λ h.
    fine (record { reads = g; extends = extends_refl R.vars; words = refl; there = f i refl; sorted = eqb-true _ s h; only = λ j a b. absurd (omega (arith, a, b)) })
met_reads T n s nothing R f g k =
    by_room 5 (ltb (length R.vars) RULEVARS) R _ λ h.
    let v : RuleVar = record { name = n; sort = s } in
    let long = length-append R.vars (v ∷ []) in
    let small = ltb-true (length R.vars) RULEVARS h in
    fine (record {
      reads = record { few = omega (arith, long, small); roomy = g.roomy; sorts = all_snoc g.sorts k };
      extends = extends_snoc R.vars v;
      words = refl;
      there = omega (arith, long);
      sorted = ap (λ (w : RuleVar). w.sort) (get_or-append_seam R.vars v [] no_rule_var);
      only = λ j a b. omega (arith, a, b, long);
    })

-- a pattern of sort s was read
pub record ReadAs (T : Theory) (R U : Reading) (t : Tree) (s : ℕ) : Type 0 where
  pub sorted : Sorted T U.vars t s
  pub went : Went T R U (size t) (variables t)

variable_reads : (T : Theory) (n : Name) (s : ℕ) (R : Reading) → Reads T R → IsSort T s → Ok (λ t U. ReadAs T R U t s) (variable n s R)
unfolding variable then Sorted variables size
variable_reads T n s R g k =
    by_ask 11 (leb 2 (length n.bytes)) R _ λ h.
    by_then (met_or_new n s (first (λ v. same v.name.bytes n.bytes) R.vars 0) R) _
    (met_reads T n s (first (λ v. same v.name.bytes n.bytes) R.vars 0) R
    (λ i e. let r = first_some (λ (v : RuleVar). same v.name.bytes n.bytes) R.vars 0 i no_rule_var e in omega (arith, r.is, r.inside)) g k)
    λ i U e m.
    by_then (word U) _ (word_reads T U m.reads)
    λ u W e' w.
    fine (record {
      sorted = sorted_extends (var i) T U.vars W.vars s w.extends (m.there, m.sorted);
      went = went_then {m = 0} {here = λ j. eqb j i}
          (record { reads = m.reads; extends = m.extends; words = omega (arith, m.words); occur = λ j a b. eq-eqb j i (m.only j a b) })
          w (omega arith) (λ j h. h) (λ j h. never h);
    })

-- a symbol's number was found, and its word read
pub record Headed (T : Theory) (R U : Reading) (c s k : ℕ) : Type 0 where
  pub known : c < length T.symbols
  pub output : output T c ≡ s
  pub many : length (inputs T c) ≡ k
  pub went : Went T R U 1 nobody

and_left : (a b : Bool) → (a && b) ≡ true → a ≡ true
and_left true b e = refl
and_left false b e = never e

and_right : (a b : Bool) → (a && b) ≡ true → b ≡ true
and_right true b e = e
and_right false b e = never e

-- what a look-up of a symbol finds is declared
constructor_known : (T : Theory) (n : List ℕ) (c : ℕ) → constructor_named T n ≡ some c → c < length T.symbols
unfolding constructor_named
constructor_known T n c e =
    let r = first_some (λ (s : Symbol). not (is_predicate s) && same s.name.bytes n) T.symbols 0 c no_symbol e in omega (arith, r.is, r.inside)

predicate_known : (T : Theory) (n : List ℕ) (c : ℕ) → predicate_named T n ≡ some c → (c < length T.symbols) × (output T c ≡ 0)
unfolding predicate_named is_predicate output
predicate_known T n c e =
    let r = first_some (λ (s : Symbol). is_predicate s && same s.name.bytes n) T.symbols 0 c no_symbol e in
    let p : c ≡ r.place = omega (arith, r.is) in (
      omega (arith, r.is, r.inside),
      ap (λ (i : ℕ). (get_or T.symbols i no_symbol).output) p ∙
          eqb-true _ 0 (and_left (is_predicate (get_or T.symbols r.place no_symbol)) _ r.passes),
    )

head_reads : (T : Theory) (s k : ℕ) (n : List ℕ) (R : Reading) → Reads T R → Ok (λ c U. Headed T R U c s k) (head T s k n R)
unfolding head then
head_reads T s k n R g =
    by_found 11 (constructor_named T n) R _ λ c e.
    by_ask 12 (eqb (output T c) s && eqb (length (inputs T c)) k) R _ λ h.
    by_then (word R) _ (word_reads T R g) λ u U e' w.
    fine (record { known = constructor_known T n c e; output = eqb-true (output T c) s (and_left (eqb (output T c) s) _ h); many = eqb-true _ k (and_right (eqb (output T c) s) _ h); went = w })

-- patterns were read, each of its sort
pub record ReadAll (T : Theory) (R U : Reading) (ts : Trees) (ss : List ℕ) : Type 0 where
  pub sorted : Sorteds T U.vars ts ss
  pub went : Went T R U (sizes ts) (variables_of ts)

-- the sorts of a symbol's inputs are declared
inputs_sorts : (T : Theory) (c : ℕ) → All (SymbolFormed T) T.symbols → c < length T.symbols → All (IsSort T) (inputs T c)
unfolding inputs
inputs_sorts T c f l = (all_at T.symbols c no_symbol f l).ins

went_none : (T : Theory) (R : Reading) → Reads T R → Went T R R 0 nobody
went_none T R g = record { reads = g; extends = extends_refl R.vars; words = omega arith; occur = λ i a b. absurd (omega (arith, a, b)) }

-- either way of a test
either : {S A : Type 0} {P : A → S → Type 0} (b : Bool) (x y : Act S A) (s : S) → Ok P (x s) → Ok P (y s) →
    Ok P ((elim b as (λ (z : Bool). Act S A) [ true ↦ x | false ↦ y ]) s)
either true x y s h k = h
either false x y s h k = k

elim-right : (b c : Bool) → c ≡ true → elim b [ true ↦ true | false ↦ c ] ≡ true
elim-right true c e = refl
elim-right false c e = e

elim-left : (b c : Bool) → b ≡ true → elim b [ true ↦ true | false ↦ c ] ≡ true
elim-left true c e = refl
elim-left false c e = never e

no_inputs : (T : Theory) (vs : List RuleVar) (ss : List ℕ) → length ss ≡ 0 → Sorteds T vs none ss
unfolding Sorted
no_inputs T vs [] e = tt
no_inputs T vs (s ∷ ss) e = absurd (omega arith)

mutual
  unfolding pattern then Sorted variables size count

  pattern_reads : (x : Sexp) (T : Theory) (s : ℕ) (R : Reading) → All (SymbolFormed T) T.symbols → Reads T R → IsSort T s →
      Ok (λ t U. ReadAs T R U t s) (pattern T x s R)
  pattern_reads (atom p bs) T s R f g k =
      either (marked bs) _ _ R
      (variable_reads T (record { start = p; bytes = bs }) s R g k)
      (by_then (head T s 0 bs R) _ (head_reads T s 0 bs R g) λ c U e d.
      fine (record {
        sorted = (d.known, d.output, no_inputs T U.vars (inputs T c) d.many);
        went = went_then d.went (went_none T U d.went.reads) (omega arith) (λ j b. b) (λ j b. b);
      }))
  pattern_reads (list xs) T s R f g k = compound_reads xs T s R f g k

  compound_reads : (xs : Sexps) (T : Theory) (s : ℕ) (R : Reading) → All (SymbolFormed T) T.symbols → Reads T R → IsSort T s →
      Ok (λ t U. ReadAs T R U t s) (compound T xs s R)
  compound_reads nil T s R f g k = off
  compound_reads (cons x xs) T s R f g k =
      by_name 11 x R _ λ n e.
      by_ask 12 (leb 1 (count xs)) R _ λ h.
      by_then (head T s (count xs) n.bytes R) _ (head_reads T s (count xs) n.bytes R g) λ c U e₁ d.
      by_then (patterns T xs (inputs T c) U) _
      (patterns_reads xs T (inputs T c) U f d.went.reads (inputs_sorts T c f d.known) (sym d.many))
      λ ts W e₂ r.
      fine (record {
        sorted = (d.known, d.output, r.sorted);
        went = went_then d.went r.went (omega arith) (λ j b. never b) (λ j b. b);
      })

  patterns_reads : (xs : Sexps) (T : Theory) (ss : List ℕ) (R : Reading) → All (SymbolFormed T) T.symbols → Reads T R →
      All (IsSort T) ss → count xs ≡ length ss → Ok (λ ts U. ReadAll T R U ts ss) (patterns T xs ss R)
  patterns_reads nil T [] R f g a e = fine (record { sorted = tt; went = went_none T R g })
  patterns_reads nil T (s ∷ ss) R f g a e = absurd (omega arith)
  patterns_reads (cons x xs) T [] R f g a e = absurd (omega arith)
  patterns_reads (cons x xs) T (s ∷ ss) R f g (both i is) e =
      by_then (pattern T x s R) _ (pattern_reads x T s R f g i) λ t U e₁ r.
      by_then (patterns T xs ss U) _ (patterns_reads xs T ss U f r.went.reads is (omega arith)) λ ts W e₂ q.
      fine (record {
        sorted = (sorted_extends t T U.vars W.vars s q.went.extends r.sorted, q.sorted);
        went = went_then r.went q.went refl (λ j b. elim-left (variables t j) _ b) (λ j b. elim-right (variables t j) _ b);
      })

-- Judgments --------------------------------------------------------------------------------------------------------------------

-- a judgment was read
pub record ReadJudgment (T : Theory) (R U : Reading) (t : Tree) : Type 0 where
  pub judged : Judgment T U.vars t
  pub went : Went T R U (size t) (variables t)

pub record ReadJudgments (T : Theory) (R U : Reading) (ts : Trees) : Type 0 where
  pub judged : Judgments T U.vars ts
  pub went : Went T R U (sizes ts) (variables_of ts)

judgment_extends : (t : Tree) (T : Theory) (vs ws : List RuleVar) → Extends vs ws → Judgment T vs t → Judgment T ws t
unfolding Judgment
judgment_extends (var i) T vs ws e h = absurd h
judgment_extends (app c ts) T vs ws e h = (h.0, h.1, sorteds_extends ts T vs ws (inputs T c) e h.2)

judgments_extends : (ts : Trees) (T : Theory) (vs ws : List RuleVar) → Extends vs ws → Judgments T vs ts → Judgments T ws ts
unfolding Judgments
judgments_extends none T vs ws e h = tt
judgments_extends (more t ts) T vs ws e h = (judgment_extends t T vs ws e h.0, judgments_extends ts T vs ws e h.1)

module _ (T : Theory) (f : All (SymbolFormed T) T.symbols) where
  predicated_reads : (xs : Sexps) (R : Reading) → Reads T R → Ok (λ t U. ReadJudgment T R U t) (predicated T xs R)
  unfolding predicated then Judgment variables size
  predicated_reads nil R g = off
  predicated_reads (cons x xs) R g =
      by_name 11 x R _ λ n e.
      by_found 11 (predicate_named T n.bytes) R _ λ p e₁.
      by_ask 12 (eqb (length (inputs T p)) (count xs)) R _ λ h.
      by_then (word R) _ (word_reads T R g) λ u U e₂ w.
      let k = predicate_known T n.bytes p e₁ in
      by_then (patterns T xs (inputs T p) U) _
      (patterns_reads xs T (inputs T p) U f w.reads (inputs_sorts T p f k.0) (sym (eqb-true _ (count xs) h)))
      λ ts W e₃ r.
      fine (record { judged = (k.0, k.1, r.sorted); went = went_then w r.went (omega arith) (λ j b. never b) (λ j b. b) })

  judgment_reads : (x : Sexp) (R : Reading) → Reads T R → Ok (λ t U. ReadJudgment T R U t) (judgment T x R)
  unfolding judgment
  judgment_reads x R g = by_items 11 x R _ λ xs e. predicated_reads xs R g

  judgments_reads : (xs : Sexps) (R : Reading) → Reads T R → Ok (λ ts U. ReadJudgments T R U ts) (judgments T xs R)
  unfolding judgments then Judgments variables size
  judgments_reads nil R g = fine (record { judged = tt; went = went_none T R g })
  judgments_reads (cons x xs) R g =
      by_then (judgment T x R) _ (judgment_reads x R g) λ t U e₁ r.
      by_then (judgments T xs U) _ (judgments_reads xs U r.went.reads) λ ts W e₂ q.
      fine (record {
        judged = (judgment_extends t T U.vars W.vars q.went.extends r.judged, q.judged);
        went = went_then r.went q.went refl (λ j b. elim-left (variables t j) _ b) (λ j b. elim-right (variables t j) _ b);
      })

  -- premises and conclusion were read
  pub record ReadRule (R U : Reading) (ps : Trees) (c : Tree) : Type 0 where
    pub reads : Reads T U
    pub premises : Judgments T U.vars ps
    pub conclusion : Judgment T U.vars c
    pub words : U.words ≡ R.words + sizes ps + size c
    pub occur : (i : ℕ) → length R.vars ≤ i → i < length U.vars → (variables_of ps i ≡ true) ⊎ (variables c i ≡ true)

  pub schema_reads : (xs : Sexps) (R : Reading) → Reads T R → Ok (λ r U. ReadRule R U r.0 r.1) (schema T xs R)
  unfolding schema then
  schema_reads xs R g =
      by_items 11 (item xs 2) R _ λ ys e.
      by_then (judgments T ys R) _ (judgments_reads ys R g) λ ps U e₁ r.
      by_then (judgment T (item xs 3) U) _ (judgment_reads (item xs 3) U r.went.reads) λ c W e₂ q.
      fine (record {
        reads = q.went.reads;
        premises = judgments_extends ps T U.vars W.vars q.went.extends r.judged;
        conclusion = q.judged;
        words = omega (arith, r.went.words, q.went.words);
        occur = λ i a b. elim (dec_lt i (length U.vars)) [
          | yes l ↦ inl (r.went.occur i a l)
          | no m ↦ inr (q.went.occur i (omega (arith, m)) b)
        ];
      })
