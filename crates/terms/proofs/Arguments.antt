-- The words of a term, as a slice of them says: its head, and its arguments behind. Assumes nothing.
use Rattle.std.specs.Prelude.{◌≡◌, ℕ, ◌+◌, ◌-◌, ◌<◌, List, ◌∷◌, length, get_or, take, drop}
use Rattle.std.proofs.Common.{refl, ap, ◌∙◌, arith}
use Rattle.std.proofs.Math.Seq.{take-length}
use Rattle.terms.specs.declared.store.Mark.{Mark}
use Rattle.terms.specs.Table.{run, start, node_at, Good}
use Rattle.terms.specs.Laws.Runs.{run_more, run_at, run_length}
use Rattle.terms.specs.Laws.Terms.{node_rise, node_inside}

-- what is behind the first word
abbrev pub behind : List ℕ → List ℕ
behind N = take (length N - 1) (drop 1 N)

pub behind_cons : (x : ℕ) (R : List ℕ) → behind (x ∷ R) ≡ R
behind_cons x R = let e : length (x ∷ R) - 1 ≡ length R = omega arith in ap (λ (k : ℕ). take k R) e ∙ take-length R

module _ (I W : List ℕ) (m : Mark) (id : ℕ) (g : Good I W m) (h : id < m.terms) (N : List ℕ) (n : N ≡ node_at I W id) where
  abbrev s : ℕ
  s = start I id

  abbrev e : ℕ
  e = get_or I id 0

  cells : N ≡ get_or W s 0 ∷ run W (s + 1) (e - (s + 1))
  unfolding node_at
  cells = n ∙ run_more W s e (node_rise I W m g id h s refl) (node_inside I W m g id h s refl)

  pub word_head : get_or N 0 0 ≡ get_or W s 0
  word_head = ap (λ (l : List ℕ). get_or l 0 0) cells

  behind_is : behind N ≡ run W (s + 1) (e - (s + 1))
  behind_is = ap behind cells ∙ behind_cons (get_or W s 0) _

  pub word_count : length (behind N) ≡ e - (s + 1)
  word_count =
      let a = node_rise I W m g id h s refl in
      let b = node_inside I W m g id h s refl in
      ap length behind_is ∙ run_length W (s + 1) (e - (s + 1)) (omega arith)

  pub word_arg : (k : ℕ) → k < length (behind N) → get_or (behind N) k 0 ≡ get_or W (s + 1 + k) 0
  word_arg k l =
      let c = word_count in
      ap (λ (r : List ℕ). get_or r k 0) behind_is ∙ run_at W (s + 1) (e - (s + 1)) k (omega arith)
