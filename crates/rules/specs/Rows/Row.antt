-- How the rows of this folder are written. A row is three texts and the line that answers them (`Row`, `AllHold` of Examples), or three texts and
-- what is seen of the outcome (`Sight`, `AllSeen`) where the line does not show it. All are over the examples' theory, some with declarations
-- behind it; x of sort Pass is declared, and the goal is (Child x). Assumes nothing.
use Rattle.std.specs.Prelude.{ℕ, zero, suc, ◌≡◌, List, [], ◌∷◌, ◌++◌}
use Prim.Native.String.{String}
use Rattle.rules.specs.Text.{bytes}
use Rattle.rules.specs.Tree.{Tree, Trees, app, none, more}
use Rattle.rules.specs.Check.{Outcome, check}
use Rattle.rules.specs.Examples.{Row, theory}

abbrev pub goals : List ℕ
goals = bytes "(var x Pass) (goal g (Child x))"

-- a proof and its answer
abbrev pub proved : String → List ℕ → Row
proved f l = record { theory = theory; goals = goals; proof = bytes f; says = l }

-- with declarations behind the theory
abbrev pub over : String → String → List ℕ → Row
over t f l = record { theory = theory ++ bytes t; goals = goals; proof = bytes f; says = l }

-- Answers -----------------------------------------------------------------------------------------------------------------------------

-- question n refuses form k of the proof; forms are counted from 0
abbrev pub stops : ℕ → ℕ → List ℕ
stops n k = 0 ∷ n ∷ 3 ∷ k ∷ 0 ∷ []

-- question 39 does, and names variable v, counted from 1
abbrev pub outside : ℕ → ℕ → List ℕ
outside v k = 0 ∷ 39 ∷ 3 ∷ k ∷ v ∷ []

-- all k forms of the proof are taken, and the goal stays without a result
abbrev pub takes : ℕ → List ℕ
takes k = 0 ∷ 53 ∷ 3 ∷ k ∷ 1 ∷ []

-- Sights ------------------------------------------------------------------------------------------------------------------------------

pub record Sight (A : Type 0) : Type 0 where
  pub theory : List ℕ
  pub goals : List ℕ
  pub proof : List ℕ
  pub sees : A

unfoldable pub AllSeen : {A : Type 0} → (Outcome → A) → List (Sight A) → Type 0
AllSeen view [] = Unit {0}
AllSeen view (r ∷ rs) = (view (check r.theory r.goals r.proof) ≡ r.sees) × AllSeen view rs

-- declarations behind the theory, a proof, what is seen
abbrev pub seen : {A : Type 0} → String → String → A → Sight A
seen t f a = record { theory = theory ++ bytes t; goals = goals; proof = bytes f; sees = a }

-- one thing of each
unfoldable pub each : {A B : Type 0} → (A → B) → List A → List B
each f [] = []
each f (x ∷ xs) = f x ∷ each f xs

-- Trees of the examples' theory ---------------------------------------------------------------------------------------------------------

-- of one argument, and of two
abbrev pub one : ℕ → Tree → Tree
one c t = app c (more t none)

abbrev pub two : ℕ → Tree → Tree → Tree
two c s t = app c (more s (more t none))

-- so many arguments, all the same
unfoldable pub copies : ℕ → Tree → Trees
copies zero t = none
copies (suc n) t = more t (copies n t)

abbrev pub first : Tree
first = app 0 none

abbrev pub renew : Tree → Tree
renew = one 1

abbrev pub child : Tree → Tree
child = one 2

abbrev pub adult : Tree → Tree
adult = one 3

abbrev pub bad : Tree → Tree
bad = one 4

abbrev pub same : Tree → Tree → Tree
same = two 5
