-- Building a pattern whose variables are all bound to trees that are there is substituting in it: the same tree is answered, and node by node the
-- same trees are made. Used where a rule is renamed. Assumes nothing.
use Rattle.std.specs.Prelude.{ℕ, suc, ◌+◌, ◌<◌, ◌≡◌, Bool, ◌⊎◌, [], ◌∷◌, ◌++◌, leb, ltb, length, Option, Some as some}
use Rattle.std.proofs.Math.Path.{refl}
use Rattle.std.proofs.Common.{sym, ap, ◌∙◌, subst, true≢false, inl, inr, arith, eq-eqb}
use Rattle.std.proofs.Math.Bool.{true, false}
use Rattle.std.proofs.Math.Logic.{⊎_elim}
use Rattle.std.proofs.Math.Decide.{dec_lt}
use Rattle.rules.specs.Limits.{TERMS, WORDS}
use Rattle.rules.specs.Out.{Out, ok, refuse, then, found}
use Rattle.rules.specs.Tree.{Tree, Trees, var, app, none, more, sub, subs, variables, variables_of, node, same_tree}
use Rattle.rules.specs.Store.{Made, stored, number, words, keep, make, makes, substitute, substitutes}
use Rattle.rules.specs.Match.{Bound, build, builds}
use Rattle.rules.specs.Laws.Tree.{same_tree_lem, same_self}
use Rattle.rules.specs.Laws.Store.{number_le, stored_false, length_snoc, Ins, Closed, make_old}

-- One tree more ------------------------------------------------------------------------------------------------------------------------

-- the tree is there
abbrev pub Has : Made → Tree → Type 0
Has M t = number M t < length M

has_snoc : (M : Made) (u t : Tree) → Has M t → number (M ++ (u ∷ [])) t < suc (length M)
unfolding number
has_snoc [] u t h = absurd (omega arith)
has_snoc (x ∷ M) u t h = go (same_tree x t) h (λ l. has_snoc M u t l)
  where
    go : (b : Bool) → elim b [ true ↦ 0 | false ↦ suc (number M t) ] < suc (length M) → (Has M t → number (M ++ (u ∷ [])) t < suc (length M))
        → elim b [ true ↦ 0 | false ↦ suc (number (M ++ (u ∷ [])) t) ] < suc (suc (length M))
    go true h ih = omega arith
    go false h ih = let z = ih (omega arith) in omega arith

has_last : (M : Made) (t : Tree) → number (M ++ (t ∷ [])) t < suc (length M)
unfolding number
has_last [] t = ap_lt (same_tree t t) (same_self t)
  where
    ap_lt : (b : Bool) → b ≡ true → elim b [ true ↦ 0 | false ↦ 1 ] < 1
    ap_lt true e = omega arith
    ap_lt false e = absurd (true≢false (sym e))
has_last (x ∷ M) t = go (same_tree x t) (has_last M t)
  where
    go : (b : Bool) → number (M ++ (t ∷ [])) t < suc (length M) → elim b [ true ↦ 0 | false ↦ suc (number (M ++ (t ∷ [])) t) ] < suc (suc (length M))
    go true ih = omega arith
    go false ih = omega arith

-- what is there with u was there, or is u
snoc_cases : (M : Made) (u t : Tree) → number (M ++ (u ∷ [])) t < suc (length M) → Has M t ⊎ (u ≡ t)
unfolding number
snoc_cases [] u t h = go (same_tree u t) refl h
  where
    go : (b : Bool) → same_tree u t ≡ b → elim b [ true ↦ 0 | false ↦ 1 ] < 1 → (0 < 0) ⊎ (u ≡ t)
    go true e h = inr (same_tree_lem u t e)
    go false e h = absurd (omega arith)
snoc_cases (x ∷ M) u t h = go (same_tree x t) h (λ l. snoc_cases M u t l)
  where
    go : (b : Bool) → elim b [ true ↦ 0 | false ↦ suc (number (M ++ (u ∷ [])) t) ] < suc (suc (length M)) → (number (M ++ (u ∷ [])) t < suc (length M) → Has M t ⊎ (u ≡ t))
        → (elim b [ true ↦ 0 | false ↦ suc (number M t) ] < suc (length M)) ⊎ (u ≡ t)
    go true h ih = inl (omega arith)
    go false h ih = ⊎_elim (λ l. inl (omega arith)) (λ e. inr e) (ih (omega arith))

ins_more : (M N : Made) → ((u : Tree) → Has M u → Has N u) → (ts : Trees) → Ins M ts → Ins N ts
ins_more M N f none h = tt
ins_more M N f (more t ts) h = (f t h.0, ins_more M N f ts h.1)

-- What is made ---------------------------------------------------------------------------------------------------------------------------

-- the answer is the tree itself; it is there then, and so is what was there; with a tree its arguments are there
pub data Makes (t : Tree) (M : Made) : Out Made Tree → Type 0 where
  made : {N : Made} → Closed N → ((u : Tree) → Has M u → Has N u) → Has N t → Makes t M (ok t N)
  full : {n d : ℕ} {N : Made} → Makes t M (refuse n d N)

pub data MakesAll (ts : Trees) (M : Made) : Out Made Trees → Type 0 where
  made_all : {N : Made} → Closed N → ((u : Tree) → Has M u → Has N u) → Ins N ts → MakesAll ts M (ok ts N)
  full_all : {n d : ℕ} {N : Made} → MakesAll ts M (refuse n d N)

module _ (t : Tree) (M : Made) (c : Closed M) (args : (f : ℕ) (ts : Trees) → t ≡ app f ts → Ins M ts) where
  new_has : (u : Tree) → Has M u → Has (M ++ (t ∷ [])) u
  new_has u h = let l = length_snoc M t in let z = has_snoc M t u h in omega arith

  new_closed : Closed (M ++ (t ∷ []))
  unfolding Closed
  new_closed f ts h =
      let l = length_snoc M t in
      ⊎_elim (λ o. ins_more M (M ++ (t ∷ [])) new_has ts (c f ts o)) (λ e. ins_more M (M ++ (t ∷ [])) new_has ts (args f ts e)) (snoc_cases M t (app f ts) (omega arith))

  old_has : stored M t ≡ true → Has M t
  old_has e = elim (dec_lt (number M t) (length M)) [
    | yes p ↦ p
    | no q ↦ (let l = number_le M t in let z : number M t ≡ length M = omega arith in absurd (true≢false (sym e ∙ stored_false M t z)))
  ]

  keep_makes : Makes t M (keep t M)
  unfolding keep
  keep_makes = go (stored M t) refl (ltb (length M) TERMS) (leb (words M + node t) WORDS)
    where
      go : (a : Bool) → stored M t ≡ a → (x y : Bool)
          → Makes t M (elim a [
            | true ↦ ok t M
            | false ↦ elim x [ true ↦ elim y [ true ↦ ok t (M ++ (t ∷ [])) | false ↦ refuse 60 9 M ] | false ↦ refuse 60 8 M ]
          ])
      go true e x y = made c (λ u h. h) (old_has e)
      go false e true true = let l = length_snoc M t in let z = has_last M t in made new_closed new_has (omega arith)
      go false e true false = full
      go false e false y = full

mutual
  unfolding make then

  pub make_makes : (t : Tree) (M : Made) → Closed M → Makes t M (make t M)
  make_makes (var v) M c = keep_makes (var v) M c (λ f ts e. absurd (let z : ◌≡◌ {A = ℕ} 0 1 = cc in omega arith))
  make_makes (app f ts) M c = go (makes ts M) (makes_make ts M c)
    where
      go : (K : Out Made Trees) → MakesAll ts M K → Makes (app f ts) M (then K (λ _ m. keep (app f ts) m))
      go (ok us N) (made_all d h i) = after (keep (app f ts) N) (keep_makes (app f ts) N d (λ g us e. let z : ts ≡ us = cc in subst (Ins N) z i))
        where
          after : (K : Out Made Tree) → Makes (app f ts) N K → Makes (app f ts) M K
          after (ok u P) (made x y z) = made x (λ w o. y w (h w o)) z
          after (refuse n k P) full = full
      go (refuse n d N) full_all = full

  pub makes_make : (ts : Trees) (M : Made) → Closed M → MakesAll ts M (makes ts M)
  makes_make none M c = made_all c (λ u h. h) tt
  makes_make (more t ts) M c = go (make t M) (make_makes t M c) (λ N d. makes_make ts N d)
    where
      go : (K : Out Made Tree) → Makes t M K → ((N : Made) → Closed N → MakesAll ts N (makes ts N))
          → MakesAll (more t ts) M (then K (λ _ m. then (makes ts m) (λ _ n. ok (more t ts) n)))
      go (ok u N) (made d h i) ih = after (makes ts N) (ih N d)
        where
          after : (K : Out Made Trees) → MakesAll ts N K → MakesAll (more t ts) M (then K (λ _ n. ok (more t ts) n))
          after (ok us P) (made_all x y z) = made_all x (λ w o. y w (h w o)) (y t i, z)
          after (refuse n k P) full_all = full_all
      go (refuse n d N) full ih = full_all

-- Building -------------------------------------------------------------------------------------------------------------------------------

-- the patterns' variables are bound, by ρ, to trees that are there
abbrev pub Bounds : (ℕ → Tree) → Bound → Made → Tree → Type 0
Bounds ρ b M p = (v : ℕ) → variables p v ≡ true → (b v ≡ some (ρ v)) × Has M (ρ v)

abbrev pub BoundsAll : (ℕ → Tree) → Bound → Made → Trees → Type 0
BoundsAll ρ b M ps = (v : ℕ) → variables_of ps v ≡ true → (b v ≡ some (ρ v)) × Has M (ρ v)

module _ (ρ : ℕ → Tree) (b : Bound) where
  first_bounds : (M : Made) (p : Tree) (ps : Trees) → BoundsAll ρ b M (more p ps) → Bounds ρ b M p
  unfolding variables
  first_bounds M p ps h v e = h v (ap (λ (x : Bool). elim x [ true ↦ true | false ↦ variables_of ps v ]) e)

  rest_bounds : (M : Made) (p : Tree) (ps : Trees) → BoundsAll ρ b M (more p ps) → BoundsAll ρ b M ps
  unfolding variables
  rest_bounds M p ps h v e = h v (go (variables p v))
    where
      go : (x : Bool) → elim x [ true ↦ true | false ↦ variables_of ps v ] ≡ true
      go true = refl
      go false = e

  -- what is answered is what was asked for
  answers_all : (f : ℕ) (M : Made) (ts : Trees) (K : Out Made Trees) → MakesAll ts M K → then K (λ us m. keep (app f us) m) ≡ then K (λ _ m. keep (app f ts) m)
  unfolding then
  answers_all f M ts (ok us N) (made_all c h i) = refl
  answers_all f M ts (refuse n d N) full_all = refl

  mutual
    unfolding build make sub variables then

    pub build_makes : (p : Tree) (M : Made) → Closed M → Bounds ρ b M p → build p b M ≡ make (sub ρ p) M
    build_makes (var v) M c h = let a = h v (eq-eqb v v refl) in ap (λ (r : Option Tree). found 38 r M) a.0 ∙ sym (make_old M c (ρ v) a.1)
    build_makes (app f ps) M c h =
        ap (λ (K : Out Made Trees). then K (λ us m. keep (app f us) m)) (builds_make ps M c h) ∙ answers_all f M (subs ρ ps) (makes (subs ρ ps) M) (makes_make (subs ρ ps) M c)

    pub builds_make : (ps : Trees) (M : Made) → Closed M → BoundsAll ρ b M ps → builds ps b M ≡ makes (subs ρ ps) M
    builds_make none M c h = refl
    builds_make (more p ps) M c h =
        ap (λ (K : Out Made Tree). then K (λ t m. then (builds ps b m) (λ ts n. ok (more t ts) n))) (build_makes p M c (first_bounds M p ps h))
        ∙ go (make (sub ρ p) M) (make_makes (sub ρ p) M c) (λ N d k. builds_make ps N d k)
      where
        go : (K : Out Made Tree) → Makes (sub ρ p) M K → ((N : Made) → Closed N → BoundsAll ρ b N ps → builds ps b N ≡ makes (subs ρ ps) N)
            → then K (λ t m. then (builds ps b m) (λ ts n. ok (more t ts) n)) ≡ then K (λ _ m. then (makes (subs ρ ps) m) (λ _ n. ok (more (sub ρ p) (subs ρ ps)) n))
        go (ok t N) (made d f i) ih =
            ap (λ (K : Out Made Trees). then K (λ ts n. ok (more (sub ρ p) ts) n)) (ih N d (λ v e. let a = rest_bounds M p ps h v e in (a.0, f (ρ v) a.1)))
            ∙ same (makes (subs ρ ps) N) (makes_make (subs ρ ps) N d)
          where
            same : (K : Out Made Trees) → MakesAll (subs ρ ps) N K → then K (λ ts n. ok (more (sub ρ p) ts) n) ≡ then K (λ _ n. ok (more (sub ρ p) (subs ρ ps)) n)
            same (ok us P) (made_all x y z) = refl
            same (refuse n k P) full_all = refl
        go (refuse n d N) full ih = refl

  -- one pattern
  pub build_substitutes : (p : Tree) (M : Made) → Closed M → Bounds ρ b M p → build p b M ≡ substitute ρ p M
  unfolding substitute
  build_substitutes p M c h = build_makes p M c h

-- patterns one after the other
substitutes_make : (ρ : ℕ → Tree) (ts : Trees) (M : Made) → Closed M → substitutes ρ ts M ≡ makes (subs ρ ts) M
unfolding substitutes substitute make sub then
substitutes_make ρ none M c = refl
substitutes_make ρ (more t ts) M c = go (make (sub ρ t) M) (make_makes (sub ρ t) M c) (λ N d. substitutes_make ρ ts N d)
  where
    go : (K : Out Made Tree) → Makes (sub ρ t) M K → ((N : Made) → Closed N → substitutes ρ ts N ≡ makes (subs ρ ts) N)
        → then K (λ u m. then (substitutes ρ ts m) (λ us n. ok (more u us) n)) ≡ then K (λ _ m. then (makes (subs ρ ts) m) (λ _ n. ok (more (sub ρ t) (subs ρ ts)) n))
    go (ok u N) (made d f i) ih =
        ap (λ (K : Out Made Trees). then K (λ us n. ok (more (sub ρ t) us) n)) (ih N d) ∙ same (makes (subs ρ ts) N) (makes_make (subs ρ ts) N d)
      where
        same : (K : Out Made Trees) → MakesAll (subs ρ ts) N K → then K (λ us n. ok (more (sub ρ t) us) n) ≡ then K (λ _ n. ok (more (sub ρ t) (subs ρ ts)) n)
        same (ok us P) (made_all x y z) = refl
        same (refuse n k P) full_all = refl
    go (refuse n d N) full ih = refl

pub builds_substitutes : (ρ : ℕ → Tree) (b : Bound) (ps : Trees) (M : Made) → Closed M → BoundsAll ρ b M ps → builds ps b M ≡ substitutes ρ ps M
builds_substitutes ρ b ps M c h = builds_make ρ b ps M c h ∙ sym (substitutes_make ρ ps M c)
