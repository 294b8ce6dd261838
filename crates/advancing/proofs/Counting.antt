-- What one form counts: at most one hypothesis, one induction and one inversion, and no more instances than it has cells. Assumes nothing.
use mathlib.Core.Path.{◌≡◌, sym, ap, ◌∙◌}
use Prim.Native.Nat.{ℕ, zero, suc, ◌+◌, ◌≤◌}
use Rattle.std.specs.Prelude.{Option, Some as some, None as nothing}
use native.Mathlib.Omega.{arith}
use lib.ListN.{length, length-append}
use Rattle.rules.specs.Out.{ok}
use Rattle.rules.specs.Sexp.{Sexp, Sexps, atom, list, nil, cons, count, item}
use Rattle.rules.specs.Tags.{Tag, a_var, a_def, a_step, a_hyp, a_rule_hyp, an_induct, an_induct_with, an_apply, an_invert, a_result}
use Rattle.rules.specs.State.{State, Counts}
use Rattle.rules.specs.Forms.{plus, take_form}
use Rattle.rules.specs.Laws.Out.{of_ok}
use Rattle.rules.specs.Laws.Tally.{bracket, brackets, brackets_in, counted, head_tag, tag_of, items_of, counted_as, counted_form}
use Rattle.rules.proofs.Laws.Form.{take_form_takes}
use Rattle.rules.proofs.Laws.Appends.{ready_any}
use Rattle.rules.proofs.Laws.Count.{taken_counts}
use Rattle.sexp.specs.Encode.{encode, encodes}

-- By the cells ---------------------------------------------------------------------------------------------------------------------

one_bracket : (x : Sexp) → bracket x ≤ length (encode x)
unfolding bracket encode
one_bracket (atom p bs) = omega arith
one_bracket (list ys) = omega arith

brackets_few : (xs : Sexps) → brackets xs ≤ length (encodes xs)
unfolding brackets encode
brackets_few nil = omega arith
brackets_few (cons x xs) = omega (arith, one_bracket x, brackets_few xs, length-append (encode x) (encodes xs))

brackets_in_few : (x : Sexp) → brackets_in x ≤ length (encode x)
unfolding brackets_in encode
brackets_in_few (atom p bs) = omega arith
brackets_in_few (list ys) = omega (arith, brackets_few ys)

item_short : (xs : Sexps) (k : ℕ) → length (encode (item xs k)) ≤ suc (length (encodes xs))
unfolding item encode
item_short nil k = omega arith
item_short (cons x xs) zero = omega (arith, length-append (encode x) (encodes xs))
item_short (cons x xs) (suc k) = omega (arith, item_short xs k, length-append (encode x) (encodes xs))

-- By the tag -----------------------------------------------------------------------------------------------------------------------

-- one at most, and so many instances
pub record OneAtMost (c : Counts) (n : ℕ) : Type 0 where
  pub hypotheses : c.hypotheses ≤ 1
  pub inductions : c.inductions ≤ 1
  pub inversions : c.inversions ≤ 1
  pub instances : c.instances ≤ n

tag_counts : (t : Tag) (xs : Sexps) → OneAtMost (counted t xs) (suc (length (encodes xs)))
unfolding counted
tag_counts a_var xs = record { hypotheses = omega arith; inductions = omega arith; inversions = omega arith; instances = omega arith }
tag_counts a_def xs = record { hypotheses = omega arith; inductions = omega arith; inversions = omega arith; instances = omega arith }
tag_counts a_step xs =
    record {
      hypotheses = omega arith;
      inductions = omega arith;
      inversions = omega arith;
      instances = omega (arith, brackets_in_few (item xs 3), item_short xs 3);
    }
tag_counts a_hyp xs = record { hypotheses = omega arith; inductions = omega arith; inversions = omega arith; instances = omega arith }
tag_counts a_rule_hyp xs = record { hypotheses = omega arith; inductions = omega arith; inversions = omega arith; instances = omega arith }
tag_counts an_induct xs = record { hypotheses = omega arith; inductions = omega arith; inversions = omega arith; instances = omega arith }
tag_counts an_induct_with xs = record { hypotheses = omega arith; inductions = omega arith; inversions = omega arith; instances = omega arith }
tag_counts an_apply xs = record { hypotheses = omega arith; inductions = omega arith; inversions = omega arith; instances = omega arith }
tag_counts an_invert xs = record { hypotheses = omega arith; inductions = omega arith; inversions = omega arith; instances = omega arith }
tag_counts a_result xs = record { hypotheses = omega arith; inductions = omega arith; inversions = omega arith; instances = omega arith }

counted_as_lem : (o : Option Tag) (xs : Sexps) → OneAtMost (counted_as o xs) (suc (length (encodes xs)))
unfolding counted_as
counted_as_lem nothing xs = record { hypotheses = omega arith; inductions = omega arith; inversions = omega arith; instances = omega arith }
counted_as_lem (some t) xs = tag_counts t xs

form_counts : (x : Sexp) → OneAtMost (counted_form x) (length (encode x))
unfolding counted_form tag_of items_of encode counted_as
form_counts (atom p bs) = record { hypotheses = omega arith; inductions = omega arith; inversions = omega arith; instances = omega arith }
form_counts (list xs) = counted_as_lem (head_tag (item xs 0) (count xs)) xs

-- A form that is taken -------------------------------------------------------------------------------------------------------------

same_counts : (a c d : Counts) (n : ℕ) → plus a d ≡ plus a c → OneAtMost d n → OneAtMost c n
unfolding plus
same_counts a c d n e h =
    let p : a.hypotheses + d.hypotheses ≡ a.hypotheses + c.hypotheses = ap (λ (k : Counts). k.hypotheses) e in
    let q : a.inductions + d.inductions ≡ a.inductions + c.inductions = ap (λ (k : Counts). k.inductions) e in
    let r : a.inversions + d.inversions ≡ a.inversions + c.inversions = ap (λ (k : Counts). k.inversions) e in
    let t : a.instances + d.instances ≡ a.instances + c.instances = ap (λ (k : Counts). k.instances) e in
    record {
      hypotheses = omega (arith, p, h.hypotheses);
      inductions = omega (arith, q, h.inductions);
      inversions = omega (arith, r, h.inversions);
      instances = omega (arith, t, h.instances);
    }

-- c: what was counted
pub taken_few : (x : Sexp) (S U : State) (c : Counts) → take_form x S ≡ ok tt U → U.counts ≡ plus S.counts c → OneAtMost c (length (encode x))
taken_few x S U c e q =
    same_counts S.counts c (counted_form x) (length (encode x)) (sym (taken_counts (of_ok (take_form_takes x S (ready_any S S.made)) e)) ∙ q) (form_counts x)
