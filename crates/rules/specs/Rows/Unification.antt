-- Rows on `unify`, called as it is: what it finds, in which order trees are made, and row 14. Assumes nothing.
use Rattle.std.specs.Prelude.{ℕ, ◌≡◌, refl, List, [], ◌∷◌, Option, Some as some, None as nothing}
use Rattle.rules.specs.Out.{Out, ok, refuse}
use Rattle.rules.specs.Tree.{Tree, var, app, none, more}
use Rattle.rules.specs.Store.{Made}
use Rattle.rules.specs.Unify.{Binding, unify, unifying}
use Rattle.rules.specs.Rows.Row.{one, two, copies}

-- Trees -----------------------------------------------------------------------------------------------------------------------------------

abbrev x : Tree
x = var 0

abbrev y : Tree
y = var 1

abbrev z : Tree
z = var 2

abbrev a : Tree
a = app 0 none

abbrev b : Tree
b = app 1 none

abbrev g : Tree → Tree
g = one 2

abbrev f : Tree → Tree → Tree
f = two 3

abbrev h : Tree → Tree → Tree → Tree
h r s t = app 4 (more r (more s (more t none)))

-- What is found ---------------------------------------------------------------------------------------------------------------------------

-- two trees whose variables are below a number, and the replacement
pub record Pair : Type 0 where
  pub below : ℕ
  pub left : Tree
  pub right : Tree
  pub finds : Option (List Binding)

abbrev replacement : Out Made (Option (List Binding)) → Option (List Binding)
replacement (ok r m) = r
replacement (refuse n d m) = nothing

unfoldable pub AllUnify : List Pair → Type 0
AllUnify [] = Unit {0}
AllUnify (p ∷ ps) = (replacement (unify p.below p.left p.right []) ≡ p.finds) × AllUnify ps

abbrev pair : ℕ → Tree → Tree → Option (List Binding) → Pair
pair n s t r = record { below = n; left = s; right = t; finds = r }

abbrev to : ℕ → Tree → Binding
to v t = record { variable = v; value = t }

-- a variable on either side, as many as there are
abbrev on_left : Pair
on_left = pair 1 x a (some (to 0 a ∷ []))

abbrev on_right : Pair
on_right = pair 1 a x (some (to 0 a ∷ []))

-- of two variables the left one is replaced
abbrev on_both : Pair
on_both = pair 2 y x (some (to 1 x ∷ []))

abbrev with_itself : Pair
with_itself = pair 1 x x (some [])

-- other heads; one head with other numbers of arguments
abbrev other_head : Pair
other_head = pair 0 a b nothing

abbrev other_number : Pair
other_number = pair 0 (app 0 none) (app 0 (more a none)) nothing

abbrev more_than_other : Pair
more_than_other = pair 0 (app 0 (more a none)) (app 0 none) nothing

-- f(x, x) with f(a, b): what x is by the last pair is put into the first
abbrev left_under : Pair
left_under = pair 1 (f x x) (f a b) nothing

-- h(y, y, x) with h(a, b, a): and what y is by the pair before, behind it
abbrev second_under : Pair
second_under = pair 2 (h y y x) (h a b a) nothing

-- f(y, x) with f(x, a): the same on the right
abbrev right_under : Pair
right_under = pair 2 (f y x) (f x a) (some (to 0 a ∷ to 1 a ∷ []))

-- h(z, y, x) with h(a, g(z), g(z)): what z is goes into the values of both others
abbrev every_value : Pair
every_value = pair 3 (h z y x) (h a (g z) (g z)) (some (to 0 (g a) ∷ to 1 (g a) ∷ to 2 a ∷ []))

-- the number of pairs is bounded by what waits, each under what is known: trees below trees, the pairs behind the first, a long value
abbrev deep : Pair
deep = pair 1 (g (g x)) (g (g a)) (some (to 0 a ∷ []))

abbrev deep_behind : Pair
deep_behind = pair 2 (h (g (g y)) a x) (h (g (g a)) a b) (some (to 0 b ∷ to 1 a ∷ []))

abbrev deep_value : Pair
deep_value = pair 2 (f x x) (f (g (g (g a))) (g (g (g y)))) (some (to 0 (g (g (g a))) ∷ to 1 a ∷ []))

-- the occurs check, behind a replacement too
abbrev occurs : Pair
occurs = pair 1 x (g x) nothing

abbrev occurs_under : Pair
occurs_under = pair 2 (f x y) (f (g y) x) nothing

pub unifications :
    AllUnify
    (on_left ∷ on_right ∷ on_both ∷ with_itself ∷ other_head ∷ other_number ∷ more_than_other ∷ left_under ∷ second_under ∷ right_under
    ∷ every_value ∷ deep ∷ deep_behind ∷ deep_value ∷ occurs ∷ occurs_under ∷ [])
unfolding unifying AllUnify
unifications = (refl, (refl, (refl, (refl, (refl, (refl, (refl, (refl, (refl, (refl, (refl, (refl, (refl, (refl, (refl, (refl, tt))))))))))))))))

-- What is made ----------------------------------------------------------------------------------------------------------------------------

-- f(y, f(x, x)) with f(g(x), f(y, a)): x is a; then x under it, a, with y: y is a; then y, a, with g(x), g(a): none. Left before right
pub made_in_turn :
    unify 2 (f y (f x x)) (f (g x) (f y a)) []
    ≡ ok nothing (y ∷ x ∷ f x x ∷ f y (f x x) ∷ g x ∷ a ∷ f y a ∷ f (g x) (f y a) ∷ g a ∷ [])
unfolding unifying
made_in_turn = refl

-- Row 14 ----------------------------------------------------------------------------------------------------------------------------------

-- n arguments
abbrev wide : ℕ → Tree → Tree
wide n t = app 5 (copies n t)

-- 512 pairs may wait, 513 may not
pub pairs_512 : unify 0 (wide 512 a) (wide 512 b) [] ≡ ok nothing (a ∷ wide 512 a ∷ b ∷ wide 512 b ∷ [])
unfolding unifying copies
pairs_512 = refl

pub pairs_513 : unify 0 (wide 513 a) (wide 513 b) [] ≡ refuse 60 14 (a ∷ wide 513 a ∷ b ∷ wide 513 b ∷ [])
unfolding unifying copies
pairs_513 = refl

-- the pair that waits besides counts, the pair that is taken does not
pub pairs_waiting :
    unify 0 (f a (wide 512 a)) (f a (wide 512 b)) []
    ≡ refuse 60 14 (a ∷ wide 512 a ∷ f a (wide 512 a) ∷ b ∷ wide 512 b ∷ f a (wide 512 b) ∷ [])
unfolding unifying copies
pairs_waiting = refl

pub pairs_fit :
    unify 0 (f a (wide 511 a)) (f a (wide 511 b)) []
    ≡ ok nothing (a ∷ wide 511 a ∷ f a (wide 511 a) ∷ b ∷ wide 511 b ∷ f a (wide 511 b) ∷ [])
unfolding unifying copies
pairs_fit = refl
