-- Written derivations and derivations: a derivation's nodes in post-order, with indices in decimal digits, are steps of a written derivation,
-- one for each node; and what a written derivation concludes is derivable. Assumes nothing.
use Prim.Native.Nat.{ℕ, zero, suc, ◌+◌, ◌^◌, ◌≤◌, ◌<◌}
use native.Mathlib.Omega.{arith}
use Rattle.std.specs.Prelude.{◌≡◌, ◌⊎◌, Bool, true, length, Some as some}
use Rattle.std.proofs.Math.Path.{refl, subst}
use Rattle.std.proofs.Common.{sym, ◌∙◌, ap, ap₂, length-append}
use Rattle.std.proofs.Math.Logic.{inl, inr}
use mathlib.Core.List.{List, [], ◌∷◌, ◌++◌, append_assoc, append-nil}
use Rattle.rules.specs.Find.{entry}
use Rattle.rules.specs.Laws.Entry.{entry_front}
use Rattle.rules.specs.Tree.{Tree, Trees, none, more, sub, subs}
use Rattle.rules.specs.Theory.{Theory, no_theory, rule}
use Rattle.rules.specs.Text.{plain}
use Rattle.rules.specs.Sexp.{read}
use Rattle.rules.specs.Declare.{declare}
use Rattle.rules.specs.Loop.{done, whole}
use Rattle.meaning.specs.Signature.{sig, Value, arity, rule_sort}
use Rattle.meaning.specs.Derivation.{Der, Ders, node, leaf, both, RuleOf, Derivable}
use Rattle.meaning.specs.Bridge.Asked.{no_some, some_same}
use Rattle.meaning.specs.Writing.Decimal.{decimal, decimal_read}
use Rattle.meaning.specs.Written.{Step, conclusion, conclusions, Names, NamesAll, Node, Nodes, Writes, goal_forms, proof_forms, Written}

-- Post-order ----------------------------------------------------------------------------------------------------------------------

-- the nodes below the root, and the nodes of several derivations
unfoldable mutual
  pub below : {T : Theory} {R : ℕ → Type 0} {j : Tree} → Der T R j → ℕ
  below (node r ρ j u v ds e) = nodes_of ds

  pub nodes_of : {T : Theory} {R : ℕ → Type 0} {js : Trees} → Ders T R js → ℕ
  nodes_of leaf = 0
  nodes_of (both t ts d ds) = suc (below d) + nodes_of ds

-- the indices of the roots of several derivations, of which the first begins at k
unfoldable pub roots : {T : Theory} {R : ℕ → Type 0} {js : Trees} → ℕ → Ders T R js → List (List ℕ)
roots k leaf = []
roots k (both t ts d ds) = decimal (k + below d) ∷ roots (k + suc (below d)) ds

-- the steps, where k are there already: children first, in order
unfoldable mutual
  pub postorder : {T : Theory} {R : ℕ → Type 0} {j : Tree} → ℕ → Der T R j → List Step
  postorder k (node r ρ j u v ds e) =
      postorders k ds ++ (record { rule = r; replacement = ρ; index = decimal (k + nodes_of ds); children = roots k ds } ∷ [])

  pub postorders : {T : Theory} {R : ℕ → Type 0} {js : Trees} → ℕ → Ders T R js → List Step
  postorders k leaf = []
  postorders k (both t ts d ds) = postorder k d ++ postorders (k + suc (below d)) ds

-- Lists ---------------------------------------------------------------------------------------------------------------------------

module _ {A : Type 0} where
  entry_seam : (xs : List A) (x : A) (i : ℕ) → i ≡ length xs → entry (xs ++ (x ∷ [])) i ≡ some x
  unfolding entry
  entry_seam [] x zero e = refl
  entry_seam [] x (suc i) e = absurd (let z : ⊥ = omega arith in z)
  entry_seam (y ∷ xs) x zero e = absurd (let z : ⊥ = omega arith in z)
  entry_seam (y ∷ xs) x (suc i) e = entry_seam xs x i (omega arith)

  -- an entry of a longer list is in front, or is the new one
  entry_or : (xs : List A) (y : A) (i : ℕ) (x : A) → entry (xs ++ (y ∷ [])) i ≡ some x → (entry xs i ≡ some x) ⊎ (y ≡ x)
  unfolding entry
  entry_or [] y zero x e = inr (some_same e)
  entry_or [] y (suc i) x e = absurd (no_some e)
  entry_or (z ∷ xs) y zero x e = inl e
  entry_or (z ∷ xs) y (suc i) x e = entry_or xs y i x e

conclusions_append : (T : Theory) (xs ys : List Step) → conclusions T (xs ++ ys) ≡ conclusions T xs ++ conclusions T ys
unfolding conclusions
conclusions_append T [] ys = refl
conclusions_append T (s ∷ xs) ys = ap (λ l. conclusion T s ∷ l) (conclusions_append T xs ys)

conclusions_length : (T : Theory) (xs : List Step) → length (conclusions T xs) ≡ length xs
unfolding conclusions
conclusions_length T [] = refl
conclusions_length T (s ∷ xs) = ap suc (conclusions_length T xs)

nodes_append : (T : Theory) (xs ys : List Step) (cs : List Tree) → Nodes T cs xs → Nodes T (cs ++ conclusions T xs) ys → Nodes T cs (xs ++ ys)
unfolding Nodes conclusions
nodes_append T [] ys cs n h = subst (λ l. Nodes T l ys) (append-nil cs) h
nodes_append T (s ∷ xs) ys cs n h = (
  n.0,
  nodes_append T xs ys (cs ++ (conclusion T s ∷ [])) n.1
      (subst (λ l. Nodes T l ys) (sym (append_assoc cs (conclusion T s ∷ []) (conclusions T xs))) h),
)

-- one step for each node
mutual
  unfolding below postorder

  pub postorder_length : {T : Theory} {R : ℕ → Type 0} {j : Tree} (k : ℕ) (d : Der T R j) → length (postorder k d) ≡ suc (below d)
  postorder_length k (node r ρ j u v ds e) = let h = postorders_length k ds in length-append (postorders k ds) _ ∙ (let z : length (postorders k ds) + 1 ≡ suc (nodes_of ds) = omega arith in z)

  pub postorders_length : {T : Theory} {R : ℕ → Type 0} {js : Trees} (k : ℕ) (ds : Ders T R js) → length (postorders k ds) ≡ nodes_of ds
  postorders_length k leaf = refl
  postorders_length k (both t ts d ds) =
      length-append (postorder k d) (postorders (k + suc (below d)) ds) ∙ ap₂ ◌+◌ (postorder_length k d) (postorders_length (k + suc (below d)) ds)

-- Every derivation is written so ----------------------------------------------------------------------------------------------------

-- behind conclusions cs, these steps are nodes, and there is what they are to conclude
pub record Lists (T : Theory) (cs : List Tree) (ss : List Step) (j : Tree) (i : ℕ) : Type 0 where
  pub nodes : Nodes T cs ss
  pub concludes : entry (cs ++ conclusions T ss) i ≡ some j

record ListsAll (T : Theory) (cs : List Tree) (ss : List Step) (js : Trees) (is : List (List ℕ)) : Type 0 where
  nodes : Nodes T cs ss
  names : NamesAll (cs ++ conclusions T ss) is js

-- the root behind its children
root_lists : (T : Theory) (cs : List Tree) (ss : List Step) (r : ℕ) (ρ : ℕ → Tree) (is : List (List ℕ)) (j : Tree) (n : ℕ)
    → RuleOf T r → ((i : ℕ) → i < arity (rule T r) → Value (sig T) (ρ i) (rule_sort (rule T r) i)) → sub ρ (rule T r).conclusion ≡ j
    → ListsAll T cs ss (subs ρ (rule T r).premises) is → n ≡ length cs + length ss → n < 2 ^ 64
    → Lists T cs (ss ++ (record { rule = r; replacement = ρ; index = decimal n; children = is } ∷ [])) j n
unfolding Nodes conclusions conclusion
root_lists T cs ss r ρ is j n u v e h q l =
    let s : Step = record { rule = r; replacement = ρ; index = decimal n; children = is } in
    let long : n ≡ length (cs ++ conclusions T ss) = (let a = length-append cs (conclusions T ss) in let b = conclusions_length T ss in omega arith) in
    record {
      nodes = nodes_append T ss (s ∷ []) cs h.nodes (
        record {
          known = u;
          grounded = v;
          next = decimal_read n l ∙ ap some long;
          children = h.names;
        },
        tt,
      );
      concludes =
          ap (λ z. entry (cs ++ z) n) (conclusions_append T ss (s ∷ []))
          ∙ (ap (λ z. entry z n) (sym (append_assoc cs (conclusions T ss) (conclusion T s ∷ [])))
          ∙ (entry_seam (cs ++ conclusions T ss) (conclusion T s) n long ∙ ap some e));
    }

-- one derivation behind others
both_lists : (T : Theory) (cs : List Tree) (xs ys : List Step) (j : Tree) (js : Trees) (i : ℕ) (is : List (List ℕ)) → i < 2 ^ 64
    → Lists T cs xs j i → ListsAll T (cs ++ conclusions T xs) ys js is → ListsAll T cs (xs ++ ys) (more j js) (decimal i ∷ is)
unfolding NamesAll Names
both_lists T cs xs ys j js i is l a b =
    let same = append_assoc cs (conclusions T xs) (conclusions T ys) ∙ ap (λ z. cs ++ z) (sym (conclusions_append T xs ys)) in
    record {
      nodes = nodes_append T xs ys cs a.nodes b.nodes;
      names = subst (λ z. NamesAll z (decimal i ∷ is) (more j js)) same
          ((i, decimal_read i l, entry_front (cs ++ conclusions T xs) (conclusions T ys) i j a.concludes), b.names);
    }

-- behind k conclusions
module _ (T : Theory) (R : ℕ → Type 0) (rules : (r : ℕ) → R r → RuleOf T r) where
  mutual
    unfolding below roots postorder Nodes NamesAll

    postorder_lists : {j : Tree} (d : Der T R j) (k : ℕ) (cs : List Tree) → k ≡ length cs → k + below d < 2 ^ 64 → Lists T cs (postorder k d) j (k + below d)
    postorder_lists (node r ρ j u v ds e) k cs q l =
        root_lists T cs (postorders k ds) r ρ (roots k ds) j (k + nodes_of ds) (rules r u) v e
        (postorders_lists ds k cs q (omega arith)) (let a = postorders_length k ds in omega arith) l

    postorders_lists : {js : Trees} (ds : Ders T R js) (k : ℕ) (cs : List Tree) → k ≡ length cs → k + nodes_of ds ≤ 2 ^ 64
        → ListsAll T cs (postorders k ds) js (roots k ds)
    postorders_lists leaf k cs q l = record { nodes = tt; names = tt }
    postorders_lists (both t ts d ds) k cs q l =
        both_lists T cs (postorder k d) (postorders (k + suc (below d)) ds) t ts (k + below d) (roots (k + suc (below d)) ds) (omega arith)
        (postorder_lists d k cs q (omega arith))
        (postorders_lists ds (k + suc (below d)) (cs ++ conclusions T (postorder k d))
        (let a = postorder_length k d in let b = conclusions_length T (postorder k d) in let c = length-append cs (conclusions T (postorder k d)) in omega arith)
        (omega arith))

-- with nothing in front
pub postorder_nodes : (T : Theory) (j : Tree) (d : Derivable T j) → below d < 2 ^ 64
    → Nodes T [] (postorder 0 d) × (entry (conclusions T (postorder 0 d)) (below d) ≡ some j)
postorder_nodes T j d l =
    let zero-plus : 0 + below d ≡ below d = omega arith in
    let h = postorder_lists T (RuleOf T) (λ r u. u) d 0 [] refl (omega arith) in
    (h.nodes, ap (entry (conclusions T (postorder 0 d))) (sym zero-plus) ∙ h.concludes)

-- texts of a derivation's nodes in post-order are a written derivation
unfoldable pub tree_written : (t g p : List ℕ) (T : Theory) (k : ℕ) → whole declare (read t) no_theory ≡ done k T → (j : Tree) (d : Derivable T j)
    → below d < 2 ^ 64 → (n : List ℕ) (b : Bool) → Writes g (goal_forms b T n j) → Writes p (proof_forms T (postorder 0 d) n (decimal (below d)))
    → (plain t ≡ true) × (plain g ≡ true) × (plain p ≡ true) → Written t g p
unfolding Names
tree_written t g p T k e j d l n b wg wp ps =
    let h = postorder_nodes T j d l in
    record {
      theory = T;
      forms = k;
      taken = e;
      steps = postorder 0 d;
      nodes = h.0;
      root = decimal (below d);
      judgment = j;
      concluded = (below d, decimal_read (below d) l, h.1);
      goal = n;
      listing = b;
      goals = wg;
      proof = wp;
      plains = ps;
    }

-- What is written is derivable ------------------------------------------------------------------------------------------------------

module _ (T : Theory) where
  abbrev AllDerivable : List Tree → Type 0
  AllDerivable cs = (i : ℕ) (t : Tree) → entry cs i ≡ some t → Derivable T t

  names_derivable : (cs : List Tree) → AllDerivable cs → (is : List (List ℕ)) (js : Trees) → NamesAll cs is js → Ders T (RuleOf T) js
  unfolding NamesAll Names
  names_derivable cs a [] none h = leaf
  names_derivable cs a [] (more t ts) h = absurd h
  names_derivable cs a (i ∷ is) none h = absurd h
  names_derivable cs a (i ∷ is) (more t ts) h = both t ts (a h.0.0 t h.0.2) (names_derivable cs a is ts h.1)

  node_derivable : (cs : List Tree) (s : Step) → AllDerivable cs → Node T cs s → Derivable T (conclusion T s)
  unfolding conclusion
  node_derivable cs s a n =
      node s.rule s.replacement _ n.known n.grounded (names_derivable cs a s.children (subs s.replacement (rule T s.rule).premises) n.children) refl

  nodes_derivable : (ss : List Step) (cs : List Tree) → AllDerivable cs → Nodes T cs ss → AllDerivable (cs ++ conclusions T ss)
  unfolding Nodes conclusions
  nodes_derivable [] cs a n = λ i t e. a i t (ap (λ z. entry z i) (sym (append-nil cs)) ∙ e)
  nodes_derivable (s ∷ ss) cs a n =
      λ i t e. nodes_derivable ss (cs ++ (conclusion T s ∷ []))
      (λ k u f. elim (entry_or cs (conclusion T s) k u f) [ inl q ↦ a k u q | inr q ↦ subst (λ z. Derivable T z) q (node_derivable cs s a n.0) ])
      n.1 i t (ap (λ z. entry z i) (append_assoc cs (conclusion T s ∷ []) (conclusions T ss)) ∙ e)

-- the judgment of a written derivation has a derivation
pub written_derivable : {t g p : List ℕ} (w : Written t g p) → Derivable w.theory w.judgment
unfolding Names entry
written_derivable w =
    nodes_derivable w.theory w.steps [] (λ i u e. absurd (no_some e)) w.nodes w.concluded.0 w.judgment w.concluded.2
