-- What a form of the proof counts, by its tag and its items alone. Assumes nothing.
use Rattle.std.specs.Prelude.{ℕ, ◌+◌, ◌≡◌, refl, Option, Some as some, None as nothing}
use Rattle.std.proofs.Common.{ap₂, subst, sym, arith}
use Rattle.rules.specs.Out.{ok}
use Rattle.rules.specs.Sexp.{Sexp, Sexps, atom, list, nil, cons, count, item, Name, name}
use Rattle.rules.specs.Tags.{Tag, a_var, a_def, a_step, a_hyp, a_rule_hyp, an_induct, an_induct_with, an_apply, an_invert, a_result, proof_tag}
use Rattle.rules.specs.Store.{Made}
use Rattle.rules.specs.State.{State, Counts, no_counts}
use Rattle.rules.specs.Reference.{instance, reference}
use Rattle.rules.specs.Step.{references, step}
use Rattle.rules.specs.Forms.{one_hypothesis, one_induction, one_inversion, some_instances}
use Rattle.rules.specs.Laws.Out.{Ok, fine, by_then, by_items}
use Rattle.rules.specs.Laws.Shape.{past}

-- 1 where it is bracketed
unfoldable pub bracket : Sexp → ℕ
bracket (atom p bs) = 0
bracket (list ys) = 1

-- the bracketed ones
unfoldable pub brackets : Sexps → ℕ
brackets nil = 0
brackets (cons x xs) = bracket x + brackets xs

unfoldable pub brackets_in : Sexp → ℕ
brackets_in (atom p bs) = 0
brackets_in (list ys) = brackets ys

-- a form's counts
unfoldable pub counted : Tag → Sexps → Counts
counted a_var xs = no_counts
counted a_def xs = no_counts
counted a_step xs = some_instances (brackets_in (item xs 3))
counted a_hyp xs = one_hypothesis
counted a_rule_hyp xs = one_hypothesis
counted an_induct xs = one_induction
counted an_induct_with xs = one_induction
counted an_apply xs = no_counts
counted an_invert xs = one_inversion
counted a_result xs = no_counts

-- the tag of a form that begins with that item and has n items
unfoldable pub head_tag : Sexp → ℕ → Option Tag
head_tag (atom p bs) n = proof_tag bs n
head_tag (list ys) n = nothing

unfoldable pub tag_of : Sexp → Option Tag
tag_of (atom p bs) = nothing
tag_of (list xs) = head_tag (item xs 0) (count xs)

unfoldable pub items_of : Sexp → Sexps
items_of (atom p bs) = nil
items_of (list xs) = xs

unfoldable pub counted_as : Option Tag → Sexps → Counts
counted_as nothing xs = no_counts
counted_as (some t) xs = counted t xs

-- a form's counts, by its text
unfoldable pub counted_form : Sexp → Counts
counted_form x = counted_as (tag_of x) (items_of x)

-- tag and items of a form whose tag was found
pub tag_is : {S : Type 0} (x : Sexp) (xs : Sexps) (s : S) (n : Name) (t : Tag) → x ≡ list xs → name {S = S} 30 (item xs 0) s ≡ ok n s →
    proof_tag n.bytes (count xs) ≡ some t → (tag_of x ≡ some t) × (items_of x ≡ xs)
unfolding tag_of items_of head_tag name
tag_is {S} x xs s n t e f g = rw e (go (item xs 0) f, refl)
  where
    go : (y : Sexp) → name {S = S} 30 y s ≡ ok n s → head_tag y (count xs) ≡ some t
    go (atom p bs) h = let q : n ≡ record { start = p; bytes = bs } = cc in subst (λ a. proof_tag a.bytes (count xs) ≡ some t) q g
    go (list ys) h = absurd (let z : ◌≡◌ {A = ℕ} 0 1 = cc in omega arith)

-- its counts
pub counted_form_lem : {S : Type 0} (x : Sexp) (xs : Sexps) (s : S) (n : Name) (t : Tag) → x ≡ list xs → name {S = S} 30 (item xs 0) s ≡ ok n s →
    proof_tag n.bytes (count xs) ≡ some t → counted_form x ≡ counted t xs
unfolding counted_form counted_as
counted_form_lem x xs s n t e f g = let h = tag_is x xs s n t e f g in rw (h.0, h.1) refl

-- A step's instances are its bracketed references ---------------------------------------------------------------------------------

reference_counts : (S : State) (x : Sexp) (m : Made) → Ok (λ r u. r.instances ≡ bracket x) (reference S x m)
unfolding reference instance bracket
reference_counts S (atom p bs) m = past _ _ λ i a e. past _ _ λ f b e. fine refl
reference_counts S (list xs) m = past _ _ λ i a e. past _ _ λ f b e. past _ _ λ t c e. past _ _ λ bs d e. past _ _ λ t e g. fine refl

references_count : (S : State) (xs : Sexps) (m : Made) → Ok (λ rs u. rs.instances ≡ brackets xs) (references S xs m)
unfolding references brackets
references_count S nil m = fine refl
references_count S (cons x xs) m =
    by_then _ _ (reference_counts S x m) λ r a e h. by_then _ _ (references_count S xs a) λ rs b f k. fine (ap₂ ◌+◌ h k)

pub step_counts : (S : State) (xs : Sexps) (m : Made) → Ok (λ r u. r.1 ≡ brackets_in (item xs 3)) (step S xs m)
unfolding step brackets_in
step_counts S xs m =
    past _ _ λ n a e. past _ _ λ r b e. by_items 37 (item xs 3) b _ λ ys q. past _ _ λ t c e.
    by_then _ _ (references_count S ys c) λ rs d e h.
    past _ _ λ it f e. past _ _ λ b g e. past _ _ λ c i e. past _ _ λ j k e. past _ _ λ o l e.
    fine (subst (λ x. rs.instances ≡ brackets_in x) (sym q) h)
