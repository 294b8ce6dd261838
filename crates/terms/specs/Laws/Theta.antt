-- Cells of a substitution as bindings: one cell at the front, one at the end, one that gets a value; the replacement that they stand for;
-- and that trees made later change neither. Assumes nothing.
use Rattle.std.specs.Prelude.{◌≡◌, Bool, not, ℕ, zero, suc, ◌+◌, ◌-◌, ◌≤◌, ◌<◌, length, get_or, set, replicate, eqb}
use Rattle.std.proofs.Math.Path.{refl, ap}
use Rattle.std.proofs.Common.{sym, ◌∙◌, true≢false, arith, not-suc-le-zero, le_of_suc-le-suc, ext_get_or, eq-eqb, ne_eqb, lt-ltb, le-ltb, eqb-true}
use Rattle.std.proofs.Math.Bool.{true, false}
use Rattle.std.proofs.lemmas.Bool.{false≢true, eqb-false}
use mathlib.Core.List.{List, [], ◌∷◌, ◌++◌}
use Rattle.rules.specs.Tree.{var, Tree}
use Rattle.rules.specs.Store.{Made}
use Rattle.rules.specs.Unify.{Binding, insert, along}
use Rattle.rules.specs.Find.{any}
use Rattle.rules.specs.Reference.{is_bound}
use Rattle.rules.specs.Laws.Store.{Apart}
use Rattle.terms.specs.declared.store.Mark.{Mark}
use Rattle.terms.specs.Theta.{bindings, Theta, Zeros}
use Rattle.terms.specs.Table.{made, Grown}
use Rattle.terms.specs.Subst.{replacement}
use Rattle.terms.specs.Laws.Growth.{grown_tree}

-- what the cell c of the variable v stands for
abbrev pub binding : Made → ℕ → ℕ → Binding
binding M v c = record { variable = v; value = get_or M (c - 1) (var 0) }

-- The first cell ---------------------------------------------------------------------------------------------------------------------

module _ (M : Made) (c : ℕ) (cs : List ℕ) (v : ℕ) where
  pub bindings_zero : c ≡ 0 → bindings M (c ∷ cs) v ≡ bindings M cs (suc v)
  unfolding bindings
  bindings_zero e = ap (λ (b : Bool). elim b [ true ↦ bindings M cs (suc v) | false ↦ binding M v c ∷ bindings M cs (suc v) ]) (eq-eqb c 0 e)

  pub bindings_some : (c ≡ 0 → ⊥) → bindings M (c ∷ cs) v ≡ binding M v c ∷ bindings M cs (suc v)
  unfolding bindings
  bindings_some n = ap (λ (b : Bool). elim b [ true ↦ bindings M cs (suc v) | false ↦ binding M v c ∷ bindings M cs (suc v) ]) (ne_eqb c 0 n)

-- The last cell ----------------------------------------------------------------------------------------------------------------------

bindings_append : (M : Made) (xs ys : List ℕ) (a k : ℕ) → k ≡ a + length xs → bindings M (xs ++ ys) a ≡ bindings M xs a ++ bindings M ys k
unfolding bindings
bindings_append M [] ys a k e = ap (bindings M ys) (omega arith)
bindings_append M (c ∷ xs) ys a k e = go (eqb c 0) (bindings_append M xs ys (suc a) k (omega arith))
  where
    go : (b : Bool) → bindings M (xs ++ ys) (suc a) ≡ bindings M xs (suc a) ++ bindings M ys k
        → elim b [ true ↦ bindings M (xs ++ ys) (suc a) | false ↦ binding M a c ∷ bindings M (xs ++ ys) (suc a) ]
        ≡ elim b [ true ↦ bindings M xs (suc a) | false ↦ binding M a c ∷ bindings M xs (suc a) ] ++ bindings M ys k
    go true ih = ih
    go false ih = ap (λ (θ : List Binding). binding M a c ∷ θ) ih

module _ (M : Made) (xs : List ℕ) (c k : ℕ) (e : length xs ≡ k) where
  pub bindings_snoc_zero : c ≡ 0 → bindings M (xs ++ (c ∷ [])) 0 ≡ bindings M xs 0 ++ []
  unfolding bindings
  bindings_snoc_zero q = bindings_append M xs (c ∷ []) 0 k (omega arith) ∙ ap (λ (θ : List Binding). bindings M xs 0 ++ θ) (bindings_zero M c [] k q)

  pub bindings_snoc_some : (c ≡ 0 → ⊥) → bindings M (xs ++ (c ∷ [])) 0 ≡ bindings M xs 0 ++ (binding M k c ∷ [])
  unfolding bindings
  bindings_snoc_some n = bindings_append M xs (c ∷ []) 0 k (omega arith) ∙ ap (λ (θ : List Binding). bindings M xs 0 ++ θ) (bindings_some M c [] k n)

-- One binding more -------------------------------------------------------------------------------------------------------------------

module _ (b : Binding) where
  -- before those of higher variables
  insert_before : (c : Binding) (θ : List Binding) → b.variable < c.variable → insert b (c ∷ θ) ≡ b ∷ c ∷ θ
  unfolding insert
  insert_before c θ h = ap (λ (t : Bool). elim t [ true ↦ b ∷ c ∷ θ | false ↦ c ∷ insert b θ ]) (lt-ltb _ _ h)

  insert_behind : (c : Binding) (θ : List Binding) → c.variable ≤ b.variable → insert b (c ∷ θ) ≡ c ∷ insert b θ
  unfolding insert
  insert_behind c θ h = ap (λ (t : Bool). elim t [ true ↦ b ∷ c ∷ θ | false ↦ c ∷ insert b θ ]) (le-ltb _ _ h)

  insert_first : (M : Made) (cs : List ℕ) (a : ℕ) → b.variable < a → insert b (bindings M cs a) ≡ b ∷ bindings M cs a
  unfolding insert bindings
  insert_first M [] a h = refl
  insert_first M (c ∷ cs) a h = go (eqb c 0) (insert_first M cs (suc a) (omega arith))
    where
      go : (t : Bool) → insert b (bindings M cs (suc a)) ≡ b ∷ bindings M cs (suc a)
          → insert b (elim t [ true ↦ bindings M cs (suc a) | false ↦ binding M a c ∷ bindings M cs (suc a) ])
          ≡ b ∷ elim t [ true ↦ bindings M cs (suc a) | false ↦ binding M a c ∷ bindings M cs (suc a) ]
      go true ih = ih
      go false ih = insert_before (binding M a c) (bindings M cs (suc a)) h

-- the k-th of the cells from variable a on, that of x, gets a value
insert_from : (M : Made) (cs : List ℕ) (a k x c : ℕ) → x ≡ a + k → k < length cs → get_or cs k 0 ≡ 0 → (c ≡ 0 → ⊥)
    → bindings M (set cs k c) a ≡ insert (binding M x c) (bindings M cs a)
unfolding bindings
insert_from M [] a k x c e l z n = absurd (not-suc-le-zero l)
insert_from M (d ∷ cs) a zero x c e l z n =
    let q : a ≡ x = omega arith in
    bindings_some M c cs a n
    ∙ ap (λ (j : ℕ). binding M j c ∷ bindings M cs (suc a)) q
    ∙ sym (insert_first (binding M x c) M cs (suc a) (omega arith))
    ∙ ap (insert (binding M x c)) (sym (bindings_zero M d cs a z))
insert_from M (d ∷ cs) a (suc k) x c e l z n = go (eqb d 0) (insert_from M cs (suc a) k x c (omega arith) (le_of_suc-le-suc l) z n)
  where
    go : (t : Bool) → bindings M (set cs k c) (suc a) ≡ insert (binding M x c) (bindings M cs (suc a))
        → elim t [ true ↦ bindings M (set cs k c) (suc a) | false ↦ binding M a d ∷ bindings M (set cs k c) (suc a) ]
        ≡ insert (binding M x c) (elim t [ true ↦ bindings M cs (suc a) | false ↦ binding M a d ∷ bindings M cs (suc a) ])
    go true ih = ih
    go false ih = ap (λ (θ : List Binding). binding M a d ∷ θ) ih ∙ sym (insert_behind (binding M x c) (binding M a d) (bindings M cs (suc a)) (omega arith))

pub bindings_insert : (M : Made) (theta : List ℕ) (x c : ℕ) → x < length theta → get_or theta x 0 ≡ 0 → (c ≡ 0 → ⊥)
    → bindings M (set theta x c) 0 ≡ insert (binding M x c) (bindings M theta 0)
bindings_insert M theta x c l z n = insert_from M theta 0 x x c (omega arith) l z n

-- As a replacement ----------------------------------------------------------------------------------------------------

pub replacement_some : (M : Made) (map : List ℕ) (v u : ℕ) → get_or map v 0 ≡ u + 1 → replacement M map v ≡ get_or M u (var 0)
unfolding replacement
replacement_some M map v u e =
    let a : get_or map v 0 - 1 ≡ u = omega arith in
    ap (λ (b : Bool). elim b [ true ↦ var v | false ↦ get_or M (get_or map v 0 - 1) (var 0) ]) (ne_eqb (get_or map v 0) 0 (λ z. omega arith))
    ∙ ap (λ (k : ℕ). get_or M k (var 0)) a

pub replacement_none : (M : Made) (map : List ℕ) (v : ℕ) → get_or map v 0 ≡ 0 → replacement M map v ≡ var v
unfolding replacement
replacement_none M map v e = ap (λ (b : Bool). elim b [ true ↦ var v | false ↦ get_or M (get_or map v 0 - 1) (var 0) ]) (eq-eqb (get_or map v 0) 0 e)

-- a replacement reads old trees alone
pub replacement_grown : {I W J X : List ℕ} {old new : Mark} → Grown I W J X old new → (map : List ℕ) → ((v : ℕ) → get_or map v 0 ≤ old.terms)
    → replacement (made J X new) map ≡ replacement (made I W old) map
unfolding replacement
replacement_grown {I} {W} {J} {X} {old} {new} w map b = λ i v. go v (eqb (get_or map v 0) 0) refl i
  where
    go : (v : ℕ) (c : Bool) → eqb (get_or map v 0) 0 ≡ c
        → ◌≡◌ {A = Tree} (elim c [ true ↦ var v | false ↦ get_or (made J X new) (get_or map v 0 - 1) (var 0) ]) (elim c [ true ↦ var v | false ↦ get_or (made I W old) (get_or map v 0 - 1) (var 0) ])
    go v true e = refl
    go v false e = let z = eqb-false (get_or map v 0) 0 e in let y = b v in grown_tree w (get_or map v 0 - 1) (omega arith)

-- the cell of a says nothing of another variable
along_skip : (M : Made) (c : ℕ) (cs : List ℕ) (a v : ℕ) → (v ≡ a → ⊥) → along (bindings M (c ∷ cs) a) v ≡ along (bindings M cs (suc a)) v
unfolding along bindings
along_skip M c cs a v n = go (eqb c 0)
  where
    go : (t : Bool)
        → along (elim t [ true ↦ bindings M cs (suc a) | false ↦ record { variable = a; value = get_or M (c - 1) (var 0) } ∷ bindings M cs (suc a) ]) v
        ≡ along (bindings M cs (suc a)) v
    go true = refl
    go false = ap (λ (t : Bool). elim t [ true ↦ get_or M (c - 1) (var 0) | false ↦ along (bindings M cs (suc a)) v ]) (ne_eqb v a n)

-- the cells from variable a on leave those below
along_under : (M : Made) (theta : List ℕ) (a v : ℕ) → v < a → along (bindings M theta a) v ≡ var v
unfolding along bindings
along_under M [] a v l = refl
along_under M (c ∷ cs) a v l = along_skip M c cs a v (λ q. omega arith) ∙ along_under M cs (suc a) v (omega arith)

-- the k-th of the cells from variable a on is that of v
along_from : (M : Made) (theta : List ℕ) (a k v : ℕ) → v ≡ a + k → along (bindings M theta a) v ≡ elim (eqb (get_or theta k 0) 0) [ true ↦ var v | false ↦ get_or M (get_or theta k 0 - 1) (var 0) ]
unfolding along bindings
along_from M [] a k v e = refl
along_from M (c ∷ cs) a zero v e = go (eqb c 0) (along_under M cs (suc a) v (omega arith))
  where
    go : (t : Bool) → along (bindings M cs (suc a)) v ≡ var v
        → along (elim t [ true ↦ bindings M cs (suc a) | false ↦ record { variable = a; value = get_or M (c - 1) (var 0) } ∷ bindings M cs (suc a) ]) v
        ≡ elim t [ true ↦ var v | false ↦ get_or M (c - 1) (var 0) ]
    go true u = u
    go false u = ap (λ (t : Bool). elim t [ true ↦ get_or M (c - 1) (var 0) | false ↦ along (bindings M cs (suc a)) v ]) (eq-eqb v a (omega arith))
along_from M (c ∷ cs) a (suc k) v e = along_skip M c cs a v (λ q. omega arith) ∙ along_from M cs (suc a) k v (omega arith)

pub along_bindings : (M : Made) (theta : List ℕ) (v : ℕ) → along (bindings M theta 0) v ≡ replacement M theta v
unfolding replacement
along_bindings M theta v = along_from M theta 0 v v (omega arith)

-- the same as replacements
pub along_is : (M : Made) (theta : List ℕ) → along (bindings M theta 0) ≡ replacement M theta
along_is M theta = λ i v. along_bindings M theta v i

pub bindings_more : (M N : Made) (k : ℕ) (theta : List ℕ) (a : ℕ) → ((i : ℕ) → i < k → get_or N i (var 0) ≡ get_or M i (var 0)) → ((v : ℕ) → get_or theta v 0 ≤ k) → bindings N theta a ≡ bindings M theta a
unfolding bindings
bindings_more M N k [] a e b = refl
bindings_more M N k (c ∷ cs) a e b = go (eqb c 0) refl (bindings_more M N k cs (suc a) e (λ v. b (suc v)))
  where
    go : (t : Bool) → eqb c 0 ≡ t → bindings N cs (suc a) ≡ bindings M cs (suc a)
        → ◌≡◌ {A = List Binding} (elim t [ true ↦ bindings N cs (suc a) | false ↦ record { variable = a; value = get_or N (c - 1) (var 0) } ∷ bindings N cs (suc a) ])
        (elim t [ true ↦ bindings M cs (suc a) | false ↦ record { variable = a; value = get_or M (c - 1) (var 0) } ∷ bindings M cs (suc a) ])
    go true q ih = ih
    go false q ih = let z = eqb-false c 0 q in let y = b 0 in λ i. record { variable = a; value = e (c - 1) (omega arith) i } ∷ ih i

-- cells of zeros are no bindings
pub bindings_none : (M : Made) (n v : ℕ) → bindings M (replicate n 0) v ≡ []
unfolding bindings
bindings_none M zero v = refl
bindings_none M (suc n) v = bindings_none M n (suc v)

pub bindings_zeros : (M : Made) (theta : List ℕ) → Zeros theta → bindings M theta 0 ≡ []
bindings_zeros M theta z = ap (λ (c : List ℕ). bindings M c 0) z ∙ bindings_none M (length theta) 0

-- Tables that grow ---------------------------------------------------------------------------------------------------------------------

module _ {I W J X : List ℕ} {old new : Mark} (w : Grown I W J X old new) {theta : List ℕ} (c : Theta old theta) where
  pub bindings_grown : bindings (made J X new) theta 0 ≡ bindings (made I W old) theta 0
  bindings_grown = bindings_more (made I W old) (made J X new) old.terms theta 0 (grown_tree w) c.bound

  pub theta_grown : Theta new theta
  theta_grown = let l = w.more in record { long = c.long; bound = λ v. let x = c.bound v in omega arith }

-- What is bound ------------------------------------------------------------------------------------------------------------------------

-- the cells from variable a on bind none below
bound_under : (M : Made) (theta : List ℕ) (a v : ℕ) → v < a → is_bound (bindings M theta a) v ≡ false
unfolding is_bound any bindings
bound_under M [] a v l = refl
bound_under M (c ∷ cs) a v l = go (eqb c 0) (bound_under M cs (suc a) v (omega arith))
  where
    go : (t : Bool) → is_bound (bindings M cs (suc a)) v ≡ false → is_bound (elim t [ true ↦ bindings M cs (suc a) | false ↦ binding M a c ∷ bindings M cs (suc a) ]) v ≡ false
    go true u = u
    go false u = ap (λ (b : Bool). elim b [ true ↦ true | false ↦ is_bound (bindings M cs (suc a)) v ]) (ne_eqb a v (λ q. omega arith)) ∙ u

bound_from : (M : Made) (theta : List ℕ) (a k v : ℕ) → v ≡ a + k → is_bound (bindings M theta a) v ≡ not (eqb (get_or theta k 0) 0)
unfolding is_bound any bindings
bound_from M [] a k v e = refl
bound_from M (c ∷ cs) a zero v e = go (eqb c 0) (bound_under M cs (suc a) v (omega arith))
  where
    go : (t : Bool) → is_bound (bindings M cs (suc a)) v ≡ false
        → is_bound (elim t [ true ↦ bindings M cs (suc a) | false ↦ binding M a c ∷ bindings M cs (suc a) ]) v ≡ not t
    go true u = u
    go false u = ap (λ (b : Bool). elim b [ true ↦ true | false ↦ is_bound (bindings M cs (suc a)) v ]) (eq-eqb a v (omega arith))
bound_from M (c ∷ cs) a (suc k) v e = go (eqb c 0) (bound_from M cs (suc a) k v (omega arith))
  where
    go : (t : Bool) → is_bound (bindings M cs (suc a)) v ≡ not (eqb (get_or cs k 0) 0)
        → is_bound (elim t [ true ↦ bindings M cs (suc a) | false ↦ binding M a c ∷ bindings M cs (suc a) ]) v ≡ not (eqb (get_or cs k 0) 0)
    go true u = u
    go false u = ap (λ (b : Bool). elim b [ true ↦ true | false ↦ is_bound (bindings M cs (suc a)) v ]) (ne_eqb a v (λ q. omega arith)) ∙ u

-- a variable is bound where its cell is not zero
pub bindings_bound : (M : Made) (theta : List ℕ) (v : ℕ) → is_bound (bindings M theta 0) v ≡ not (eqb (get_or theta v 0) 0)
bindings_bound M theta v = bound_from M theta 0 v v (omega arith)

-- the bindings determine the cells
cell_one : (M : Made) → Apart M → (v c d : ℕ) → c ≤ length M → d ≤ length M → not (eqb c 0) ≡ not (eqb d 0)
    → ◌≡◌ {A = Tree} (elim (eqb c 0) [ true ↦ var v | false ↦ get_or M (c - 1) (var 0) ]) (elim (eqb d 0) [ true ↦ var v | false ↦ get_or M (d - 1) (var 0) ]) → c ≡ d
unfolding Apart
cell_one M a v c d l k n e = go (eqb c 0) (eqb d 0) refl refl n e
  where
    go : (x y : Bool) → eqb c 0 ≡ x → eqb d 0 ≡ y → not x ≡ not y
        → ◌≡◌ {A = Tree} (elim x [ true ↦ var v | false ↦ get_or M (c - 1) (var 0) ]) (elim y [ true ↦ var v | false ↦ get_or M (d - 1) (var 0) ]) → c ≡ d
    go true true p q z e = eqb-true c 0 p ∙ sym (eqb-true d 0 q)
    go true false p q z e = absurd (false≢true z)
    go false true p q z e = absurd (true≢false z)
    go false false p q z e =
        let y = eqb-false c 0 p in
        let x = eqb-false d 0 q in
        let w = a (c - 1) (d - 1) (omega arith) (omega arith) e in
        omega arith

pub theta_one : (M : Made) → Apart M → (theta eta : List ℕ) → length theta ≡ length eta → ((v : ℕ) → get_or theta v 0 ≤ length M) → ((v : ℕ) → get_or eta v 0 ≤ length M)
    → bindings M theta 0 ≡ bindings M eta 0 → theta ≡ eta
unfolding replacement
theta_one M a theta eta l b d e =
    ext_get_or 0 theta eta l (λ v h.
    cell_one M a v (get_or theta v 0) (get_or eta v 0) (b v) (d v)
    (sym (bindings_bound M theta v) ∙ ap (λ (θ : List Binding). is_bound θ v) e ∙ bindings_bound M eta v)
    (sym (along_bindings M theta v) ∙ ap (λ (θ : List Binding). along θ v) e ∙ along_bindings M eta v))

-- one more cell: term id for the variable v
pub bindings_set : (M : Made) (theta : List ℕ) (v c id : ℕ) → v < length theta → get_or theta v 0 ≡ 0 → c ≡ suc id
    → bindings M (set theta v c) 0 ≡ insert (record { variable = v; value = get_or M id (var 0) }) (bindings M theta 0)
bindings_set M theta v c id l z e =
    let q : c - 1 ≡ id = omega arith in
    bindings_insert M theta v c l z (λ k. omega arith) ∙ ap (λ (j : ℕ). insert (record { variable = v; value = get_or M j (var 0) }) (bindings M theta 0)) q
