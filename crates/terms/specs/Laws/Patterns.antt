-- A pattern's words, as the layout of the theory tables has them (`prefix`), are what matching and building ask for. Assumes nothing.
use Rattle.std.specs.Prelude.{◌≡◌, refl, List, ◌∷◌, ◌++◌, ℕ, ◌+◌, ◌<◌, ◌≤◌, length, get_or, drop}
use Rattle.std.proofs.Common.{sym, ap, ◌∙◌, subst, append_assoc, arith, length-drop, drop-drop, drop_at, get_or-drop}
use Rattle.rules.specs.Limits.{SYMBOLS}
use Rattle.rules.specs.Tree.{Tree, Trees, var, app, none, more, size, sizes, count_trees}
use Rattle.rules.specs.TheoryTables.{prefix, prefixes}
use Rattle.rules.specs.Laws.Prefix.{prefix_length}
use Rattle.terms.specs.Patterns.{Stands, Standing, Fits, FitsAll, Skipped}

-- the word at a place, and what stands behind it
first_of : (P : List ℕ) (at x : ℕ) (ys : List ℕ) → drop at P ≡ x ∷ ys → (at < length P) × (get_or P at 0 ≡ x) × (drop (at + 1) P ≡ ys)
first_of P at x ys e =
    let a = length-drop at P in
    let b = ap length e in
    let z : at + 0 ≡ at = omega arith in (
      omega arith,
      sym (ap (λ (k : ℕ). get_or P k 0) z) ∙ sym (get_or-drop at P 0 0) ∙ ap (λ (l : List ℕ). get_or l 0 0) e,
      sym (drop-drop 1 at P) ∙ ap (drop 1) e,
    )

mutual
  unfolding prefix size Stands Fits

  pub prefix_stands : (S P : List ℕ) (at : ℕ) (p : Tree) (rest : List ℕ) → Fits S p → drop at P ≡ prefix p ++ rest → Stands S P at p
  prefix_stands S P at (var v) rest f e = let a = first_of P at (SYMBOLS + v) rest e in (a.0, a.1, f)
  prefix_stands S P at (app c ts) rest f e =
      let a = first_of P at c (prefixes ts ++ rest) e in
      (a.0, a.1, f.0, f.1, f.2, prefixes_stand S P (at + 1) ts rest f.3 a.2)

  pub prefixes_stand : (S P : List ℕ) (at : ℕ) (ts : Trees) (rest : List ℕ) → FitsAll S ts → drop at P ≡ prefixes ts ++ rest → Standing S P at ts
  prefixes_stand S P at none rest f e = tt
  prefixes_stand S P at (more t ts) rest f e =
      let d : drop at P ≡ prefix t ++ (prefixes ts ++ rest) = e ∙ append_assoc (prefix t) (prefixes ts) rest in (
        prefix_stands S P at t (prefixes ts ++ rest) f.0 d,
        prefixes_stand S P (at + size t) ts rest f.1
            (sym (drop-drop (size t) at P) ∙ ap (drop (size t)) d ∙ drop_at (prefix t) (prefixes ts ++ rest) (size t) (prefix_length t)),
      )

-- it stands here again, since this crate does not stand on `meaning`, whose `size_pos` it is
pub size_some : (p : Tree) → 0 < size p
unfolding size
size_some (var v) = omega arith
size_some (app c ts) = omega arith

pub stands_in : (S P : List ℕ) (at : ℕ) (p : Tree) → Stands S P at p → at < length P
unfolding Stands
stands_in S P at (var v) h = h.0
stands_in S P at (app c ts) h = h.0

-- Lists of patterns ----------------------------------------------------------------------------------------------------

-- the arguments, then what stood behind
unfoldable pub before : Trees → Trees → Trees
before none us = us
before (more t ts) us = more t (before ts us)

pub before_none : (ts : Trees) → before ts none ≡ ts
unfolding before
before_none none = refl
before_none (more t ts) = ap (more t) (before_none ts)

pub before_count : (ts us : Trees) → count_trees (before ts us) ≡ count_trees ts + count_trees us
unfolding before count_trees
before_count none us = omega arith
before_count (more t ts) us = let e = before_count ts us in omega arith

pub before_sizes : (ts us : Trees) → sizes (before ts us) ≡ sizes ts + sizes us
unfolding before size
before_sizes none us = omega arith
before_sizes (more t ts) us = let e = before_sizes ts us in omega arith

pub before_stands : (S P : List ℕ) (at : ℕ) (ts us : Trees) → Standing S P at ts → Standing S P (at + sizes ts) us → Standing S P at (before ts us)
unfolding before size Stands
before_stands S P at none us a b = let z : at + 0 ≡ at = omega arith in subst (λ (k : ℕ). Standing S P k us) z b
before_stands S P at (more t ts) us a b =
    let z : at + (size t + sizes ts) ≡ at + size t + sizes ts = omega arith in
    (a.0, before_stands S P (at + size t) ts us a.1 (subst (λ (k : ℕ). Standing S P k us) z b))

pub count_sizes : (ts : Trees) → count_trees ts ≤ sizes ts
unfolding count_trees size
count_sizes none = omega arith
count_sizes (more t ts) = let a = count_sizes ts in let b = size_some t in omega arith

mutual
  unfolding Stands size

  pub stands_within : (S P : List ℕ) (at : ℕ) (p : Tree) → Stands S P at p → at + size p ≤ length P
  stands_within S P at (var v) h = let a = h.0 in omega arith
  stands_within S P at (app c ts) h = let a = h.0 in let b = standing_within S P (at + 1) ts (omega arith) h.5 in omega arith

  pub standing_within : (S P : List ℕ) (at : ℕ) (ts : Trees) → at ≤ length P → Standing S P at ts → at + sizes ts ≤ length P
  standing_within S P at none l h = omega arith
  standing_within S P at (more t ts) l h =
      let a = stands_within S P at t h.0 in
      let b = standing_within S P (at + size t) ts a h.1 in
      omega arith

-- both parts of a list of patterns
pub before_splits : (S P : List ℕ) (at : ℕ) (ts us : Trees) → Standing S P at (before ts us) → Standing S P at ts × Standing S P (at + sizes ts) us
unfolding before size Stands
before_splits S P at none us h = let z : at ≡ at + 0 = omega arith in (tt, subst (λ (k : ℕ). Standing S P k us) z h)
before_splits S P at (more t ts) us h =
    let a = before_splits S P (at + size t) ts us h.1 in
    let z : at + size t + sizes ts ≡ at + (size t + sizes ts) = omega arith in
    ((h.0, a.0), subst (λ (k : ℕ). Standing S P k us) z a.1)

-- `skip` finds what stands behind patterns, as a conclusion behind its premises
pub skip_behind : (S P : List ℕ) (at r : ℕ) (ps : Trees) (p : Tree) → Skipped S P at (count_trees ps) r → Standing S P at ps → Stands S P (at + sizes ps) p → Stands S P r p
skip_behind S P at r ps p s a b = subst (λ (k : ℕ). Stands S P k p) (sym (s ps a refl)) b
