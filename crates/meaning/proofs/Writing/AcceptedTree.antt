-- Every derivation over a theory that a text declares has texts of its own, and these are accepted exactly when they are inside the limits;
-- a derivation of so many nodes that an index does not fit 64 bits is refused by 2. So a written derivation is no more and no less than a
-- derivation. Assumes nothing.
use Rattle.std.specs.Prelude.{ℕ, suc, ◌^◌, ◌≤◌, ◌<◌, ◌≡◌, Bool, true, false, ◌&&◌, length}
use native.Mathlib.Omega.{arith}
use Rattle.std.proofs.Math.Decide.{dec_lt}
use Rattle.std.proofs.Math.Path.{subst}
use Rattle.std.proofs.Common.{inl, length-append}
use mathlib.Core.List.{List, [], ◌∷◌}
use Rattle.std.proofs.lemmas.Bool.{lt-leb}
use Rattle.rules.specs.Limits.{LENGTH}
use Rattle.rules.specs.Text.{bytes, short, plain}
use Rattle.rules.specs.Sexp.{read}
use Rattle.rules.specs.Tree.{Tree}
use Rattle.rules.specs.Theory.{Theory, no_theory}
use Rattle.rules.specs.Laws.Theory.{WellFormed}
use Rattle.rules.specs.Laws.Name.{Spelled}
use Rattle.rules.specs.Declare.{declare}
use Rattle.rules.specs.Laws.Declare.{reached, theory_formed}
use Rattle.rules.specs.Loop.{done, whole}
use Rattle.rules.specs.Check.{Refusal, refuses, check}
use Rattle.meaning.specs.Derivation.{Derivable}
use Rattle.meaning.specs.Writing.Decimal.{decimal}
use Rattle.meaning.specs.Written.{Form, Forms, name, group, nil, cons, Step, step_form, goal_forms, proof_forms, Written, fits, inside, Verdict}
use Rattle.meaning.specs.Writing.Step.{and_false}
use Rattle.meaning.specs.Writing.Run.{nodes_conclude, out, and_off}
use Rattle.meaning.specs.Writing.Tree.{below, postorder, postorder_length, postorder_nodes, tree_written}
use Rattle.meaning.specs.Writing.Spelling.{Word, AllWorded, spell, spells, spelled_writes, spelled_plain}
use Rattle.meaning.specs.Writing.Words.{theory_words, goal_word, goal_words, proof_words, postorder_words, decimal_word}
use Rattle.meaning.proofs.Writing.Accepted.{too_long, derivation_accepted}

-- the forms of a derivation: its goal, by the name "goal" and with or without an empty list, and its nodes in post-order, by their indices
-- in decimal digits
unfoldable pub tree_goals : Bool → Theory → Tree → Forms
tree_goals b T j = goal_forms b T (bytes "goal") j

unfoldable pub tree_proof : (T : Theory) (j : Tree) → Derivable T j → Forms
tree_proof T j d = proof_forms T (postorder 0 d) (bytes "goal") (decimal (below d))

-- Long texts ------------------------------------------------------------------------------------------------------------------------

-- a form has a byte at least
mutual
  unfolding spell

  spell_long : (f : Form) (r : List ℕ) → suc (length r) ≤ length (spell f r)
  spell_long (name bs) r = let h = length-append bs (32 ∷ r) in omega arith
  spell_long (group fs) r = let h = spells_long fs (41 ∷ r) in omega arith

  spells_long : (fs : Forms) (r : List ℕ) → length r ≤ length (spells fs r)
  spells_long nil r = omega arith
  spells_long (cons f fs) r = let h = spell_long f (spells fs r) in let k = spells_long fs r in omega arith

-- and there is one for each step
steps_long : (T : Theory) (ss : List Step) (n r : List ℕ) → length ss ≤ length (spells (proof_forms T ss n r) [])
unfolding proof_forms spell
steps_long T [] n r = omega arith
steps_long T (s ∷ ss) n r = let h = steps_long T ss n r in let k = spell_long (step_form T s) (spells (proof_forms T ss n r) []) in omega arith

-- Derivations -----------------------------------------------------------------------------------------------------------------------

-- t: the theory's text; d: a derivation
module _ (t : List ℕ) (T : Theory) (k : ℕ) (taken : whole declare (read t) no_theory ≡ done k T) (plains : plain t ≡ true)
    (j : Tree) (d : Derivable T j) (b : Bool) where
  formed : WellFormed T
  unfolding reached
  formed = subst (λ z. WellFormed (reached z)) taken (theory_formed t)

  words : Spelled Word T
  unfolding reached
  words = subst (λ z. Spelled Word (reached z)) taken (theory_words t plains)

  abbrev goals : List ℕ
  goals = spells (tree_goals b T j) []

  abbrev proof : List ℕ
  proof = spells (tree_proof T j d) []

  pub goals_worded : below d < 2 ^ 64 → AllWorded (tree_goals b T j)
  unfolding tree_goals
  goals_worded small =
      let h = postorder_nodes T j d small in
      goal_words T formed words (bytes "goal") goal_word b j (nodes_conclude T formed [] (postorder 0 d) (below d) j h.0 h.1)

  pub proof_worded : below d < 2 ^ 64 → AllWorded (tree_proof T j d)
  unfolding tree_proof
  proof_worded small =
      proof_words T formed words (bytes "goal") goal_word (postorder 0 d) [] (decimal (below d)) (postorder_nodes T j d small).0 (postorder_words d 0)
      (decimal_word (below d))

  -- the derivation, written, where every index fits 64 bits
  unfoldable pub tree_texts : below d < 2 ^ 64 → Written t goals proof
  unfolding tree_goals tree_proof
  tree_texts small =
      tree_written t _ _ T k taken j d small (bytes "goal") b (spelled_writes (tree_goals b T j) (goals_worded small))
      (spelled_writes (tree_proof T j d) (proof_worded small))
      (plains, spelled_plain (tree_goals b T j) (goals_worded small), spelled_plain (tree_proof T j d) (proof_worded small))

  -- inside the limits
  unfoldable pub tree_fits : Bool
  tree_fits = fits t goals proof (tree_goals b T j) (tree_proof T j d) T j (postorder 0 d)

  large_long : 2 ^ 64 ≤ below d → (short t && (short goals && short proof)) ≡ false
  unfolding short tree_proof
  large_long l =
      and_off (short t) _ (and_off (short goals) _ (lt-leb (length proof) LENGTH
      (let h = steps_long T (postorder 0 d) (bytes "goal") (decimal (below d)) in let n = postorder_length 0 d in omega arith)))

  -- a larger one is refused by 2
  pub tree_large : 2 ^ 64 ≤ below d → (r : Refusal) × ((check t goals proof).answer ≡ refuses r) × (r.number ≡ 2)
  tree_large l = too_long t goals proof (large_long l)

  -- each derivation is accepted exactly when it is inside the limits, with one step for each node, and otherwise refused by 2, 5 or 60
  pub tree_accepted : Verdict tree_fits (suc (below d)) (check t goals proof).answer
  unfolding tree_fits fits tree_texts tree_written inside tree_goals tree_proof
  tree_accepted = elim (dec_lt (below d) (2 ^ 64)) [
    | yes small ↦ subst (λ n. Verdict tree_fits n (check t goals proof).answer) (postorder_length 0 d) (derivation_accepted (tree_texts small))
    | no large ↦
        let l : 2 ^ 64 ≤ below d = omega arith in
        let r = tree_large l in
        out tree_fits (suc (below d)) (check t goals proof).answer r.0 (and_false (short t && (short goals && short proof)) _ (large_long l)) r.1
        (inl r.2)
  ]
