-- The shape of facts: what a fact rests on is earlier or itself, rising without repetition, each assumed; an assumed fact rests on itself
-- alone; a fact that is not assumed has no premises and generalises nothing; a footing names rules of the theory, rising. A form that let a
-- fact rest on a later one or on one that is not assumed, that repeated a number or left the order, or gave premises to a fact that is not
-- assumed, would not have it. Assumes nothing.
use Rattle.std.specs.Prelude.{ℕ, ◌≤◌, ◌<◌, ◌≡◌, Bool, ◌&&◌, length, Some as some}
use Rattle.std.proofs.Math.Path.{refl}
use Rattle.std.proofs.Common.{subst, sym, ◌∙◌, inl, inr, arith}
use Rattle.std.proofs.Math.Bool.{true, false}
use Rattle.std.proofs.lemmas.Bool.{false≢true}
use mathlib.Core.List.{List, [], ◌∷◌, ◌++◌}
use Rattle.rules.specs.Out.{Out, ok, refuse, then, Act, ask}
use Rattle.rules.specs.Sexp.{Sexp, Sexps, atom, list, nil, cons, item}
use Rattle.rules.specs.Find.{Set, entry, all, has, union, rising}
use Rattle.rules.specs.Tree.{Trees, none, more}
use Rattle.rules.specs.Store.{Made}
use Rattle.rules.specs.Unify.{Binding}
use Rattle.rules.specs.State.{State, Fact, is_plain, is_none, is_empty}
use Rattle.rules.specs.Reference.{instance, reference, hyp_each, hyp_list, judgments_at}
use Rattle.rules.specs.Step.{references, step}
use Rattle.rules.specs.Apply.{Applied, plain_at, applied, discharge, apply}
use Rattle.rules.specs.Induct.{induct_on, induct, induct_with}
use Rattle.rules.specs.Invert.{invert}
use Rattle.rules.specs.Laws.Theory.{All, empty, both, all_map}
use Rattle.rules.specs.Laws.Out.{Ok, fine, off, by_then, by_ask}
use Rattle.rules.specs.Laws.Rising.{Rises, RisesFrom, rising_rises, rising_all_of, has_all, or_cases}
use Rattle.rules.specs.Laws.Entry.{entry_below, entry_front, entry_snoc, entry_last, fact_entry}

-- Shapes --------------------------------------------------------------------------------------------------------------------------

-- the fact of that number is there, and assumed
pub record Assumed (fs : List Fact) (h : ℕ) : Type 0 where
  pub fact : Fact
  pub is : entry fs h ≡ some fact
  pub assumed : fact.assumed ≡ true

-- numbers of n rules, rising
pub record Footed (n : ℕ) (rs : List ℕ) : Type 0 where
  pub rises : Rises rs
  pub rules : All (λ r. r < n) rs

-- over n rules, a fact that is not assumed and rests on facts among fs
pub record Derived (n : ℕ) (fs : List Fact) (f : Fact) : Type 0 where
  pub assumed : f.assumed ≡ false
  pub premises : f.premises ≡ none
  pub general : f.general ≡ []
  pub rises : Rises f.hyps
  pub rests : All (Assumed fs) f.hyps
  pub footing : Footed n f.footing

-- a fact that comes behind the facts fs
pub data Shape (n : ℕ) (fs : List Fact) : Fact → Type 0 where
  stated : {f : Fact} → f.assumed ≡ true → f.hyps ≡ length fs ∷ [] → f.footing ≡ [] → Shape n fs f
  derived : {f : Fact} → Derived n fs f → Shape n fs f

-- fact f of number k among the facts fs
pub record Shaped (n : ℕ) (fs : List Fact) (k : ℕ) (f : Fact) : Type 0 where
  pub rises : Rises f.hyps
  pub earlier : All (λ h. h ≤ k) f.hyps
  pub rests : All (Assumed fs) f.hyps
  pub footing : Footed n f.footing
  pub own : f.assumed ≡ true → (f.hyps ≡ k ∷ []) × (f.footing ≡ [])
  pub plain : f.assumed ≡ false → (f.premises ≡ none) × (f.general ≡ [])

abbrev pub AllShaped : ℕ → List Fact → Type 0
AllShaped n fs = (k : ℕ) (f : Fact) → entry fs k ≡ some f → Shaped n fs k f

-- of a state
abbrev pub ShapedIn : State → Type 0
ShapedIn S = AllShaped (length S.theory.rules) S.facts

abbrev pub DerivedIn : State → Fact → Type 0
DerivedIn S f = Derived (length S.theory.rules) S.facts f

no_footing : (n : ℕ) → Footed n []
unfolding RisesFrom
no_footing n = record { rises = tt; rules = empty }

rising_footing : (n : ℕ) (a : Set) → Footed n (rising n a)
rising_footing n a = record { rises = rising_rises n a; rules = rising_all_of n a (λ v l e. l) }

assumed_on : (fs gs : List Fact) (h : ℕ) → Assumed fs h → Assumed (fs ++ gs) h
assumed_on fs gs h a = record { fact = a.fact; is = entry_front fs gs h a.fact a.is; assumed = a.assumed }

-- the new fact, among all
shaped_last : (n : ℕ) (fs : List Fact) (f : Fact) → Shape n fs f → Shaped n (fs ++ (f ∷ [])) (length fs) f
unfolding RisesFrom
shaped_last n fs f (stated a e g) =
    record {
      rises = rw e (omega arith, tt);
      earlier = rw e (both {x = length fs} (omega arith) empty);
      rests = subst (All (Assumed (fs ++ (f ∷ [])))) (sym e) (both (record { fact = f; is = entry_last fs f; assumed = a }) empty);
      footing = subst (Footed n) (sym g) (no_footing n);
      own = λ q. (e, g);
      plain = λ q. absurd (false≢true (sym q ∙ a));
    }
shaped_last n fs f (derived d) =
    record {
      rises = d.rises;
      earlier = all_map (λ v k. let l = entry_below fs v k.fact k.is in omega arith) d.rests;
      rests = all_map (λ v k. assumed_on fs (f ∷ []) v k) d.rests;
      footing = d.footing;
      own = λ q. absurd (false≢true (sym d.assumed ∙ q));
      plain = λ q. (d.premises, d.general);
    }

-- an earlier one
shaped_on : (n : ℕ) (fs gs : List Fact) (k : ℕ) (f : Fact) → Shaped n fs k f → Shaped n (fs ++ gs) k f
shaped_on n fs gs k f h =
    record {
      rises = h.rises;
      earlier = h.earlier;
      rests = all_map (λ v a. assumed_on fs gs v a) h.rests;
      footing = h.footing;
      own = h.own;
      plain = h.plain;
    }

pub all_shaped_snoc : (n : ℕ) (fs : List Fact) (f : Fact) → AllShaped n fs → Shape n fs f → AllShaped n (fs ++ (f ∷ []))
all_shaped_snoc n fs f w s k g e = elim (entry_snoc fs f k g e) [
  | inl q ↦ shaped_on n fs (f ∷ []) k g (w k g q)
  | inr q ↦ rw (q.0, q.1) (shaped_last n fs f s)
]

-- Any action, then what follows -------------------------------------------------------------------------------------------------

pub past : {S A B : Type 0} {P : B → S → Type 0} (m : Out S A) (f : A → S → Out S B) → ((a : A) (s : S) → m ≡ ok a s → Ok P (f a s)) → Ok P (then m f)
unfolding then
past (ok a s) f k = k a s refl
past (refuse n d s) f k = off

-- What references rest on ---------------------------------------------------------------------------------------------------------

module _ (S : State) (w : ShapedIn S) where
  reference_rests : (x : Sexp) (m : Made) → Ok (λ r u. All (Assumed S.facts) r.hyps) (reference S x m)
  unfolding reference instance
  reference_rests (atom p bs) m = past _ _ λ i u e. past _ _ λ f v k. fine (w i f (fact_entry S i u v f k)).rests
  reference_rests (list xs) m = past _ _ λ i u e. past _ _ λ f v e. past _ _ λ a y e. past _ _ λ bs z e. past _ _ λ t n e. fine empty

  -- a set of numbers of assumed facts
  abbrev Rest : Set → Type 0
  Rest a = (v : ℕ) → a v ≡ true → Assumed S.facts v

  union_rest : (hs : List ℕ) (a : Set) → All (Assumed S.facts) hs → Rest a → Rest (union (has hs) a)
  union_rest hs a h k v e = elim (or_cases (has hs v) (a v) e) [ inl q ↦ has_all hs v h q | inr q ↦ k v q ]

  references_rest : (xs : Sexps) (m : Made) → Ok (λ rs u. Rest rs.hyps) (references S xs m)
  unfolding references
  references_rest nil m = fine (λ v e. absurd (false≢true e))
  references_rest (cons x xs) m =
      by_then _ _ (reference_rests x m) λ r u e h. by_then _ _ (references_rest xs u) λ rs v f k. fine (union_rest r.hyps rs.hyps h k)

  discharge_rest : (bs : List Binding) (xs : Sexps) (ps : Trees) (m : Made) → Ok (λ rs u. Rest rs.hyps) (discharge S bs xs ps m)
  unfolding discharge
  discharge_rest bs nil ps m = fine (λ v e. absurd (false≢true e))
  discharge_rest bs (cons x xs) none m = fine (λ v e. absurd (false≢true e))
  discharge_rest bs (cons x xs) (more p ps) m =
      past _ _ λ t u e. by_then _ _ (reference_rests x u) λ r v e h. past _ _ λ a y e.
      by_then _ _ (discharge_rest bs xs ps y) λ rs z f k. fine (union_rest r.hyps rs.hyps h k)

  -- a derived fact over such a set
  over : {f : Fact} (a : Set) → Rest a → f.assumed ≡ false → f.premises ≡ none → f.general ≡ [] → f.hyps ≡ rising (length S.facts) a →
      Footed (length S.theory.rules) f.footing → DerivedIn S f
  over {f} a h e p g q r =
      record {
        assumed = e;
        premises = p;
        general = g;
        rises = subst Rises (sym q) (rising_rises (length S.facts) a);
        rests = subst (All (Assumed S.facts)) (sym q) (rising_all_of (length S.facts) a (λ v l t. h v t));
        footing = r;
      }

  pub step_shape : (xs : Sexps) (m : Made) → Ok (λ r u. DerivedIn S r.0) (step S xs m)
  unfolding step
  step_shape xs m =
      past _ _ λ n a e. past _ _ λ r b e. past _ _ λ ys c e. past _ _ λ t d e. by_then _ _ (references_rest ys d) λ rs u e h.
      past _ _ λ it f e. past _ _ λ b g e. past _ _ λ c i e. past _ _ λ j k e. past _ _ λ o l e.
      fine (over rs.hyps h refl refl refl refl (rising_footing (length S.theory.rules) (union (has (r ∷ [])) rs.footing)))

  -- Facts by number --------------------------------------------------------------------------------------------------------------

  applied_rest : (bs : List Binding) (i : ℕ) (f : Fact) (m : Made) → entry S.facts i ≡ some f →
      Ok (λ a u. All (Assumed S.facts) a.hyps) (applied S bs i f m)
  unfolding applied
  applied_rest bs i f m e = go f.assumed refl
    where
      go : (b : Bool) → f.assumed ≡ b → Ok (λ a u. All (Assumed S.facts) a.hyps) ((elim b as (λ (z : Bool). Act Made Applied) [
        | true ↦ λ s. then (ask 36 (all (λ b. has f.general b.variable) bs) s) λ _ s.
            ok (record { premises = f.premises; conclusion = f.judgment; hyps = i ∷ [] }) s
        | false ↦ λ s. then (ask 40 (all (plain_at S.facts) f.hyps) s) λ _ s.
            ok (record { premises = judgments_at S.facts f.hyps; conclusion = f.judgment; hyps = [] }) s
      ]) m)
      go true q = past _ _ λ t u k. fine (both (record { fact = f; is = e; assumed = q }) empty)
      go false q = past _ _ λ t u k. fine empty

  pub apply_shape : (xs : Sexps) (m : Made) → Ok (λ f u. DerivedIn S f) (apply S xs m)
  unfolding apply
  apply_shape xs m =
      past _ _ λ i a e. past _ _ λ ys b e. past _ _ λ bs c e. past _ _ λ f d k.
      by_then _ _ (applied_rest bs i f d (fact_entry S i c d f k)) λ p g e h.
      past _ _ λ zs l e. past _ _ λ t n e. past _ _ λ j o e. by_then _ _ (discharge_rest bs zs p.premises o) λ rs q e r.
      past _ _ λ u v e. fine (over (union (has p.hyps) rs.hyps) (union_rest p.hyps rs.hyps h r) refl refl refl refl
      (rising_footing (length S.theory.rules) rs.footing))

  -- the facts of a list of hypotheses pass the test, so they are assumed
  hyp_each_rest : (p : Fact → Bool) → ((f : Fact) → p f ≡ true → f.assumed ≡ true) → (xs : Sexps) (m : Made) →
      Ok (λ hs u. All (Assumed S.facts) hs) (hyp_each p S xs m)
  unfolding hyp_each
  hyp_each_rest p k nil m = fine empty
  hyp_each_rest p k (cons x xs) m =
      past _ _ λ i a e. past _ _ λ f b e. by_ask 40 (p f) b _ λ q. by_then _ _ (hyp_each_rest p k xs b) λ hs c r h.
      fine (both (record { fact = f; is = fact_entry S i a b f e; assumed = k f q }) h)

  hyp_list_rest : (p : Fact → Bool) → ((f : Fact) → p f ≡ true → f.assumed ≡ true) → (x : Sexp) (m : Made) →
      Ok (λ hs u. All (Assumed S.facts) hs × Rises hs) (hyp_list p S x m)
  unfolding hyp_list
  hyp_list_rest p k x m =
      past _ _ λ xs a e. by_then _ _ (hyp_each_rest p k xs a) λ hs b f h.
      fine (rising_all_of (length S.facts) (has hs) (λ v l t. has_all hs v h t), rising_rises (length S.facts) (has hs))

  plain_assumed : (f : Fact) → is_plain f ≡ true → f.assumed ≡ true
  unfolding is_plain
  plain_assumed f e = go f.assumed (is_none f.premises && is_empty f.general) e
    where
      go : (a b : Bool) → a && b ≡ true → a ≡ true
      go true b e = refl
      go false b e = e

  induct_on_shape : (x : ℕ) (hs : List ℕ) (y z : Sexp) (m : Made) → All (Assumed S.facts) hs → Rises hs →
      Ok (λ f u. DerivedIn S f) (induct_on S x hs y z m)
  unfolding induct_on
  induct_on_shape x hs y z m h r =
      past _ _ λ j a e. past _ _ λ cs b e. past _ _ λ t c e. past _ _ λ u d e. past _ _ λ v f e.
      fine (record { assumed = refl; premises = refl; general = refl; rises = r; rests = h; footing = no_footing (length S.theory.rules) })

  pub induct_shape : (xs : Sexps) (m : Made) → Ok (λ f u. DerivedIn S f) (induct S xs m)
  unfolding induct RisesFrom
  induct_shape xs m = past _ _ λ x a e. induct_on_shape x [] (item xs 3) (item xs 4) a empty tt

  pub induct_with_shape : (xs : Sexps) (m : Made) → Ok (λ f u. DerivedIn S f) (induct_with S xs m)
  unfolding induct_with
  induct_with_shape xs m =
      past _ _ λ x a e. by_then _ _ (hyp_list_rest is_plain plain_assumed (item xs 3) a) λ hs b e h.
      induct_on_shape x hs (item xs 4) (item xs 5) b h.0 h.1

  pub invert_shape : (xs : Sexps) (m : Made) → Ok (λ r u. DerivedIn S r.0) (invert S xs m)
  unfolding invert
  invert_shape xs m =
      past _ _ λ i a e. past _ _ λ k b f. by_ask 40 (is_plain k) b _ λ p.
      by_then _ _ (hyp_list_rest (λ f. f.assumed) (λ f q. q) (item xs 3) b) λ hs c e h.
      past _ _ λ j d e. past _ _ λ ys g e. past _ _ λ cs l e. past _ _ λ N n e.
      fine (over (union (has (i ∷ [])) (has hs))
      (union_rest (i ∷ []) (has hs) (both (record { fact = k; is = fact_entry S i a b k f; assumed = plain_assumed k p }) empty) (λ v t. has_all hs v h.0 t))
      refl refl refl refl (no_footing (length S.theory.rules)))
