-- The words of demand 3, fourth part: written derivations. Definitions only; Writing/Example has one that computes.
-- "A written derivation has a theory that is not refused; its goals text is one goal, the root's judgment, without listed hypotheses. Its
-- proof has for each node one `step`, under the next index and behind its children's, with the node's rule, the children in order by bare
-- index and the conclusion; last comes the `result` with the root's index, and there is no other form."
-- Here a step may also be the child of several others, or of none: AcceptedTree has how the nodes of any derivation are such steps, and
-- Writing/Tree that only what is derivable is written.
use Rattle.std.specs.Prelude.{ℕ, suc, ◌<◌, ◌≡◌, ◌⊎◌, Bool, true, false, ◌&&◌, List, [], ◌∷◌, ◌++◌, leb, length, get_or, Some as some}
use Rattle.rules.specs.Limits.{DEPTH, TERMS, WORDS, FACTS}
use Rattle.rules.specs.Text.{bytes, short, plain}
use Rattle.rules.specs.Lex.{Token, opens, closes, word, between, tokens}
use Rattle.rules.specs.Sexp.{read}
use Rattle.rules.specs.Find.{entry}
use Rattle.rules.specs.Index.{index_of}
use Rattle.rules.specs.Tree.{Tree, Trees, var, app, none, more, sub, subs}
use Rattle.rules.specs.Store.{Made, stored, words}
use Rattle.rules.specs.Theory.{Theory, no_theory, no_symbol, rule}
use Rattle.rules.specs.Declare.{declare}
use Rattle.rules.specs.Loop.{done, whole}
use Rattle.rules.specs.Check.{Report, Refusal, Answer, accepts, refuses}
use Rattle.meaning.specs.Signature.{sig, Value, arity, rule_sort}

-- Forms and texts -----------------------------------------------------------------------------------------------------------------

-- a form without places
mutual
  pub data Form : Type 0 where
    name : List ℕ → Form
    group : Forms → Form

  pub data Forms : Type 0 where
    nil : Forms
    cons : Form → Forms → Forms

-- a token without its place
pub data Mark : Type 0 where
  left : Mark
  right : Mark
  letters : List ℕ → Mark

unfoldable pub mark : Token → Mark
mark (opens p) = left
mark (closes p) = right
mark (word p bs) = letters bs

unfoldable pub marks : List Token → List Mark
marks [] = []
marks (t ∷ ts) = mark t ∷ marks ts

-- the tokens of a form, in front of others
unfoldable mutual
  pub spelling : Form → List Mark → List Mark
  spelling (name bs) ms = letters bs ∷ ms
  spelling (group fs) ms = left ∷ spellings fs (right ∷ ms)

  pub spellings : Forms → List Mark → List Mark
  spellings nil ms = ms
  spellings (cons f fs) ms = spelling f (spellings fs ms)

-- the text consists of these forms, with any white space and comments
unfoldable pub Writes : List ℕ → Forms → Type 0
Writes text fs = marks (tokens between 0 text) ≡ spellings fs []

-- question 5: where k brackets are open, the form does not open too many
unfoldable mutual
  pub shallow : ℕ → Form → Bool
  shallow k (name bs) = true
  shallow k (group fs) = elim (leb DEPTH k) [ true ↦ false | false ↦ shallows (suc k) fs ]

  pub shallows : ℕ → Forms → Bool
  shallows k nil = true
  shallows k (cons f fs) = shallow k f && shallows k fs

-- How terms and judgments are written ---------------------------------------------------------------------------------------------

unfoldable pub symbol_name : Theory → ℕ → List ℕ
symbol_name T c = (get_or T.symbols c no_symbol).name.bytes

unfoldable pub rule_name : Theory → ℕ → List ℕ
rule_name T r = (rule T r).name.bytes

-- a constructor without arguments is an atom
unfoldable pub applied : List ℕ → Forms → Form
applied n nil = name n
applied n (cons f fs) = group (cons (name n) (cons f fs))

-- a variable has no writing: a derivation's terms are ground
unfoldable mutual
  pub term_form : Theory → Tree → Form
  term_form T (var v) = group nil
  term_form T (app c ts) = applied (symbol_name T c) (term_forms T ts)

  pub term_forms : Theory → Trees → Forms
  term_forms T none = nil
  term_forms T (more t ts) = cons (term_form T t) (term_forms T ts)

unfoldable pub judgment_form : Theory → Tree → Form
judgment_form T (var v) = group nil
judgment_form T (app p ts) = group (cons (name (symbol_name T p)) (term_forms T ts))

-- Derivations as lists of steps ---------------------------------------------------------------------------------------------------

-- a node, and what its step writes: its index and its children's, in any spelling
pub record Step : Type 0 where
  pub rule : ℕ
  pub replacement : ℕ → Tree
  pub index : List ℕ
  pub children : List (List ℕ)

unfoldable pub conclusion : Theory → Step → Tree
conclusion T s = sub s.replacement (rule T s.rule).conclusion

unfoldable pub conclusions : Theory → List Step → List Tree
conclusions T [] = []
conclusions T (s ∷ ss) = conclusion T s ∷ conclusions T ss

-- the atom is the index of a step with that conclusion
unfoldable pub Names : List Tree → List ℕ → Tree → Type 0
Names cs bs t = (i : ℕ) × (index_of bs ≡ some i) × (entry cs i ≡ some t)

-- each in order
unfoldable pub NamesAll : List Tree → List (List ℕ) → Trees → Type 0
NamesAll cs [] none = Unit {0}
NamesAll cs [] (more t ts) = ⊥
NamesAll cs (bs ∷ bss) none = ⊥
NamesAll cs (bs ∷ bss) (more t ts) = Names cs bs t × NamesAll cs bss ts

-- a node behind steps with these conclusions: a rule under a ground replacement of all its variables, the next index, and children that
-- conclude the premises
pub record Node (T : Theory) (cs : List Tree) (s : Step) : Type 0 where
  pub known : s.rule < length T.rules
  pub grounded : (i : ℕ) → i < arity (rule T s.rule) → Value (sig T) (s.replacement i) (rule_sort (rule T s.rule) i)
  pub next : index_of s.index ≡ some (length cs)
  pub children : NamesAll cs s.children (subs s.replacement (rule T s.rule).premises)

-- one behind the other
unfoldable pub Nodes : Theory → List Tree → List Step → Type 0
Nodes T cs [] = Unit {0}
Nodes T cs (s ∷ ss) = Node T cs s × Nodes T (cs ++ (conclusion T s ∷ [])) ss

-- How goals and proof are written -------------------------------------------------------------------------------------------------

-- one goal without listed hypotheses: (goal NAME JUDGMENT), or with an empty list of them, (goal NAME () JUDGMENT)
unfoldable pub the_goal : Bool → Theory → List ℕ → Tree → Form
the_goal false T n j = group (cons (name (bytes "goal")) (cons (name n) (cons (judgment_form T j) nil)))
the_goal true T n j = group (cons (name (bytes "goal")) (cons (name n) (cons (group nil) (cons (judgment_form T j) nil))))

unfoldable pub goal_forms : Bool → Theory → List ℕ → Tree → Forms
goal_forms b T n j = cons (the_goal b T n j) nil

unfoldable pub atoms : List (List ℕ) → Forms
atoms [] = nil
atoms (bs ∷ bss) = cons (name bs) (atoms bss)

-- (step INDEX RULE (CHILD...) JUDGMENT)
unfoldable pub step_form : Theory → Step → Form
step_form T s =
    group (cons (name (bytes "step")) (cons (name s.index) (cons (name (rule_name T s.rule)) (cons (group (atoms s.children))
    (cons (judgment_form T (conclusion T s)) nil)))))

-- (result NAME INDEX)
unfoldable pub result_form : List ℕ → List ℕ → Form
result_form n r = group (cons (name (bytes "result")) (cons (name n) (cons (name r) nil)))

unfoldable pub proof_forms : Theory → List Step → List ℕ → List ℕ → Forms
proof_forms T [] n r = cons (result_form n r) nil
proof_forms T (s ∷ ss) n r = cons (step_form T s) (proof_forms T ss n r)

-- Written derivations -------------------------------------------------------------------------------------------------------------

-- theory, goals, proof; root: the index that the result names; listing: whether the goal has an empty list. The bytes pass question 3
pub record Written (t g p : List ℕ) : Type 0 where
  pub theory : Theory
  pub forms : ℕ
  pub taken : whole declare (read t) no_theory ≡ done forms theory
  pub steps : List Step
  pub nodes : Nodes theory [] steps
  pub root : List ℕ
  pub judgment : Tree
  pub concluded : Names (conclusions theory steps) root judgment
  pub goal : List ℕ
  pub listing : Bool
  pub goals : Writes g (goal_forms listing theory goal judgment)
  pub proof : Writes p (proof_forms theory steps goal root)
  pub plains : (plain t ≡ true) × (plain g ≡ true) × (plain p ≡ true)

-- The limits ----------------------------------------------------------------------------------------------------------------------

unfoldable pub trees_of : List Tree → Trees
trees_of [] = none
trees_of (t ∷ ts) = more t (trees_of ts)

-- a tree, once
unfoldable pub once : Tree → Made → Made
once t m = elim (stored m t) [ true ↦ m | false ↦ m ++ (t ∷ []) ]

-- the distinct trees among given ones and all their parts, behind those that are there
unfoldable mutual
  pub gather : Tree → Made → Made
  gather (var v) m = once (var v) m
  gather (app c ts) m = once (app c ts) (gathers ts m)

  pub gathers : Trees → Made → Made
  gathers none m = m
  gathers (more t ts) m = gathers ts (gather t m)

-- rows 8 and 9 of question 60: so many trees, and so many words
unfoldable pub few : Made → Bool
few m = leb (length m) TERMS && leb (words m) WORDS

-- question 60: no more nodes than facts (row 12), and few enough trees in the goal and all conclusions. The theory has passed rows 1 to 6;
-- the others cannot be reached by one goal and ground steps
unfoldable pub roomy : Theory → Tree → List Step → Bool
roomy T j ss = leb (length ss) FACTS && few (gathers (more j (trees_of (conclusions T ss))) [])

-- inside the limits: questions 2, 5 and 60. Of three texts, the forms of goals and proof, and the derivation
unfoldable pub fits : List ℕ → List ℕ → List ℕ → Forms → Forms → Theory → Tree → List Step → Bool
fits t g p gs ps T j ss = (short t && (short g && short p)) && ((shallows 0 gs && shallows 0 ps) && roomy T j ss)

unfoldable pub inside : {t g p : List ℕ} → Written t g p → Bool
inside {t} {g} {p} w =
    fits t g p (goal_forms w.listing w.theory w.goal w.judgment) (proof_forms w.theory w.steps w.goal w.root)
    w.theory w.judgment w.steps

-- n steps, one goal, which is not open, and nothing else
unfoldable pub steps_alone : ℕ → Report
steps_alone n = record { steps = n; goals = 1; open_goals = 0; hypotheses = 0; inductions = 0; inversions = 0; instances = 0 }

-- accepted inside the limits, and refused by 2, 5 or 60 outside
unfoldable pub Verdict : Bool → ℕ → Answer → Type 0
Verdict true n a = a ≡ accepts (steps_alone n)
Verdict false n a = (r : Refusal) × (a ≡ refuses r) × ((r.number ≡ 2) ⊎ ((r.number ≡ 5) ⊎ (r.number ≡ 60)))
