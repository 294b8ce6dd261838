-- The atoms of a text are words, and so are the names of a theory that it declares; hence the forms of a derivation over such a theory can be
-- spelled. Assumes nothing.
use Rattle.std.specs.Prelude.{ℕ, suc, ◌+◌, ◌<◌, ◌≤◌, ◌≡◌, refl, Bool, ◌&&◌, ◌||◌, leb, eqb, length}
use Rattle.std.proofs.Common.{arith, sym, ap₂, le-leb, ne_eqb}
use Rattle.std.proofs.Math.Path.{subst}
use Rattle.std.proofs.Math.Bool.{true, false}
use mathlib.Core.List.{List, [], ◌∷◌, ◌++◌}
use Rattle.std.proofs.lemmas.Bool.{lt-leb}
use Rattle.rules.specs.Limits.{DEPTH}
use Rattle.rules.specs.Text.{bytes, plain}
use Rattle.rules.specs.Lex.{Kind, blank, left, right, semicolon, letter, white, kind, Token, opens, closes, word, Mode, between, in_word, in_comment, tokens, letters}
use Rattle.rules.specs.Laws.Lex.{kind_letter}
use Rattle.rules.specs.Sexp.{Sexp, Sexps, atom, list, nil as nilˢ, cons as consˢ, snoc, Text, fails, forms, read}
use Rattle.rules.specs.Tree.{Tree, Trees, var, app, none, more}
use Rattle.rules.specs.Theory.{Theory, no_theory, no_symbol, no_rule, rule}
use Rattle.rules.specs.Laws.Theory.{WellFormed, all_at}
use Rattle.rules.specs.Laws.Name.{Atoms, AllAtoms, AtomsIn, Spelled, theory_spelled}
use Rattle.rules.specs.Declare.{declare}
use Rattle.rules.specs.Laws.Declare.{reached}
use Rattle.rules.specs.Loop.{whole}
use Rattle.meaning.specs.Trees.Tests.{and_true}
use Rattle.meaning.specs.Signature.{sig, Value, Values}
use Rattle.meaning.specs.Written.{Forms, nil, cons, symbol_name, rule_name, applied, term_form, term_forms, judgment_form, Step, conclusion, Node, Nodes, the_goal, goal_forms, atoms, step_form, result_form, proof_forms}
use Rattle.meaning.specs.Writing.Node.{Concludes, node_concludes}
use Rattle.meaning.specs.Derivation.{Der, Ders, node, leaf, both}
use Rattle.meaning.specs.Writing.Decimal.{decimal, Digits, decimal_digits, decimal_long}
use Rattle.meaning.specs.Writing.Tree.{below, nodes_of, roots, postorder, postorders}
use Rattle.meaning.specs.Writing.Spelling.{Letters, Word, Worded, AllWorded}

-- Tokens --------------------------------------------------------------------------------------------------------------------------

plain_split : (b : ℕ) (t : List ℕ) → plain (b ∷ t) ≡ true → (leb b 127 ≡ true) × (plain t ≡ true)
unfolding plain
plain_split b t e = and_true (leb b 127) (plain t) e

letters_are : (t : List ℕ) → plain t ≡ true → Letters (letters t)
unfolding letters Letters
letters_are [] e = tt
letters_are (b ∷ t) e = let h = plain_split b t e in go (kind b) refl (letters_are t h.1)
  where
    go : (k : Kind) → kind b ≡ k → Letters (letters t)
        → Letters (elim k as (λ _. List ℕ) [ blank ↦ [] | left ↦ [] | right ↦ [] | semicolon ↦ [] | letter ↦ b ∷ letters t ])
    go blank q l = tt
    go left q l = tt
    go right q l = tt
    go semicolon q l = tt
    go letter q l = (q, (plain_split b t e).0, l)

-- every atom among the tokens is a word
unfoldable Tokens : List Token → Type 0
Tokens [] = Unit {0}
Tokens (opens p ∷ ts) = Tokens ts
Tokens (closes p ∷ ts) = Tokens ts
Tokens (word p bs ∷ ts) = Word bs × Tokens ts

tokens_are : (t : List ℕ) (m : Mode) (p : ℕ) → plain t ≡ true → Tokens (tokens m p t)
unfolding tokens Tokens Word Letters
tokens_are [] between p e = tt
tokens_are [] in_word p e = tt
tokens_are [] in_comment p e = tt
tokens_are (b ∷ t) between p e = go (kind b) refl (λ m. tokens_are t m (suc p) (plain_split b t e).1)
  where
    go : (k : Kind) → kind b ≡ k → ((m : Mode) → Tokens (tokens m (suc p) t))
        → Tokens (elim k as (λ _. List Token) [
          | blank ↦ tokens between (suc p) t
          | left ↦ opens p ∷ tokens between (suc p) t
          | right ↦ closes p ∷ tokens between (suc p) t
          | semicolon ↦ tokens in_comment (suc p) t
          | letter ↦ word p (b ∷ letters t) ∷ tokens in_word (suc p) t
        ])
    go blank q h = h between
    go left q h = h between
    go right q h = h between
    go semicolon q h = h in_comment
    go letter q h = ((q, (plain_split b t e).0, letters_are t (plain_split b t e).1), h in_word)
tokens_are (b ∷ t) in_word p e = go (kind b) (λ m. tokens_are t m (suc p) (plain_split b t e).1)
  where
    go : (k : Kind) → ((m : Mode) → Tokens (tokens m (suc p) t))
        → Tokens (elim k as (λ _. List Token) [
          | blank ↦ tokens between (suc p) t
          | left ↦ opens p ∷ tokens between (suc p) t
          | right ↦ closes p ∷ tokens between (suc p) t
          | semicolon ↦ tokens in_comment (suc p) t
          | letter ↦ tokens in_word (suc p) t
        ])
    go blank h = h between
    go left h = h between
    go right h = h between
    go semicolon h = h in_comment
    go letter h = h in_word
tokens_are (b ∷ t) in_comment p e = go (eqb b 10) (λ m. tokens_are t m (suc p) (plain_split b t e).1)
  where
    go : (k : Bool) → ((m : Mode) → Tokens (tokens m (suc p) t))
        → Tokens (elim k as (λ _. List Token) [ true ↦ tokens between (suc p) t | false ↦ tokens in_comment (suc p) t ])
    go true h = h between
    go false h = h in_comment

-- Forms ---------------------------------------------------------------------------------------------------------------------------

snoc_atoms : (xs : Sexps) (x : Sexp) → AllAtoms Word xs → Atoms Word x → AllAtoms Word (snoc xs x)
unfolding snoc Atoms
snoc_atoms nilˢ x a b = (b, tt)
snoc_atoms (consˢ y ys) x a b = (a.0, snoc_atoms ys x a.1 b)

-- the items of the open lists
unfoldable Stack : List Sexps → Type 0
Stack [] = Unit {0}
Stack (xs ∷ st) = AllAtoms Word xs × Stack st

forms_are : (ts : List Token) (st : List Sexps) → Stack st → Tokens ts → AtomsIn Word (forms st ts)
unfolding forms Stack Tokens Atoms AtomsIn
forms_are [] [] s h = tt
forms_are [] (xs ∷ st) s h = tt
forms_are (opens p ∷ ts) [] s h = forms_are ts (nilˢ ∷ []) (tt, tt) h
forms_are (opens p ∷ ts) (xs ∷ st) s h = go (leb DEPTH (length (xs ∷ st))) (forms_are ts (nilˢ ∷ xs ∷ st) (tt, s) h)
  where
    go : (b : Bool) → AtomsIn Word (forms (nilˢ ∷ xs ∷ st) ts) → AtomsIn Word (elim b as (λ _. Text) [ true ↦ fails 5 | false ↦ forms (nilˢ ∷ xs ∷ st) ts ])
    go true k = tt
    go false k = k
forms_are (closes p ∷ ts) [] s h = tt
forms_are (closes p ∷ ts) (xs ∷ []) s h = (s.0, forms_are ts [] tt h)
forms_are (closes p ∷ ts) (xs ∷ ys ∷ st) s h = forms_are ts (snoc ys (list xs) ∷ st) (snoc_atoms ys (list xs) s.1.0 s.0, s.1.1) h
forms_are (word p bs ∷ ts) [] s h = (h.0, forms_are ts [] tt h.1)
forms_are (word p bs ∷ ts) (xs ∷ st) s h = forms_are ts (snoc xs (atom p bs) ∷ st) (snoc_atoms xs (atom p bs) s.0 h.0, s.1) h.1

read_words : (text : List ℕ) → plain text ≡ true → AtomsIn Word (read text)
unfolding read Stack
read_words text e = forms_are (tokens between 0 text) [] tt (tokens_are text between 0 e)

-- the names of a theory are words
pub theory_words : (text : List ℕ) → plain text ≡ true → Spelled Word (reached (whole declare (read text) no_theory))
theory_words text e = theory_spelled Word text (read_words text e)

-- The forms of a derivation -------------------------------------------------------------------------------------------------------

-- a digit is a letter
digit_letter : (d : ℕ) → 48 ≤ d → d ≤ 57 → kind d ≡ letter
unfolding white
digit_letter d l h =
    kind_letter d (ap₂ ◌||◌ (ap₂ ◌&&◌ (le-leb 9 d (omega arith)) (lt-leb d 13 (omega arith))) (ne_eqb d 32 (λ e. omega arith)))
    (λ e. omega arith) (λ e. omega arith) (λ e. omega arith)

-- every index that it writes is a word
unfoldable pub AllWords : List (List ℕ) → Type 0
AllWords [] = Unit {0}
AllWords (bs ∷ bss) = Word bs × AllWords bss

module _ (T : Theory) (sp : Spelled Word T) where
  symbol_word : (c : ℕ) → c < length T.symbols → Word (symbol_name T c)
  unfolding symbol_name
  symbol_word c l = all_at T.symbols c no_symbol sp.symbols l

  applied_word : (n : List ℕ) (fs : Forms) → Word n → AllWorded fs → Worded (applied n fs)
  unfolding applied Worded
  applied_word n nil w h = w
  applied_word n (cons f fs) w h = (w, h)

  mutual
    unfolding term_form Worded Value sig

    term_words : (t : Tree) (s : ℕ) → Value (sig T) t s → Worded (term_form T t)
    term_words (var v) s h = absurd h
    term_words (app c ts) s h = applied_word (symbol_name T c) (term_forms T ts) (symbol_word c h.0) (terms_words ts ((sig T).ins c) h.2)

    terms_words : (ts : Trees) (ss : List ℕ) → Values (sig T) ts ss → AllWorded (term_forms T ts)
    terms_words none ss h = tt
    terms_words (more t ts) [] h = absurd h
    terms_words (more t ts) (s ∷ ss) h = (term_words t s h.0, terms_words ts ss h.1)

  judgment_words : (j : Tree) → Concludes T j → Worded (judgment_form T j)
  unfolding judgment_form Worded
  judgment_words j c =
      subst (λ z. Worded (judgment_form T z)) (sym c.is) (symbol_word c.head c.known, terms_words c.arguments _ c.values)

  atoms_words : (bss : List (List ℕ)) → AllWords bss → AllWorded (atoms bss)
  unfolding AllWords atoms Worded
  atoms_words [] h = tt
  atoms_words (bs ∷ bss) h = (h.0, atoms_words bss h.1)

-- the tags
pub goal_word : Word (bytes "goal")
unfolding Word Letters kind white
goal_word = (refl, refl, (refl, refl, (refl, refl, (refl, refl, tt))))

step_word : Word (bytes "step")
unfolding Word Letters kind white
step_word = (refl, refl, (refl, refl, (refl, refl, (refl, refl, tt))))

result_word : Word (bytes "result")
unfolding Word Letters kind white
result_word = (refl, refl, (refl, refl, (refl, refl, (refl, refl, (refl, refl, (refl, refl, tt))))))

-- of a list of steps
unfoldable pub WordSteps : List Step → Type 0
WordSteps [] = Unit {0}
WordSteps (s ∷ ss) = Word s.index × AllWords s.children × WordSteps ss

module _ (T : Theory) (wf : WellFormed T) (sp : Spelled Word T) (n : List ℕ) (nw : Word n) where
  pub goal_words : (b : Bool) (j : Tree) → Concludes T j → AllWorded (goal_forms b T n j)
  unfolding goal_forms the_goal Worded
  goal_words false j c = ((goal_word, (nw, (judgment_words T sp j c, tt))), tt)
  goal_words true j c = ((goal_word, (nw, (tt, (judgment_words T sp j c, tt)))), tt)

  step_words : (cs : List Tree) (s : Step) → Node T cs s → Word s.index → AllWords s.children → Worded (step_form T s)
  unfolding step_form Worded rule_name rule
  step_words cs s h i k = (
    step_word,
    (
      i,
      (
        all_at T.rules s.rule no_rule sp.rules h.known,
        (atoms_words T sp s.children k, (judgment_words T sp (conclusion T s) (node_concludes T s cs h wf), tt)),
      ),
    ),
  )

  pub proof_words : (ss : List Step) (cs : List Tree) (r : List ℕ) → Nodes T cs ss → WordSteps ss → Word r → AllWorded (proof_forms T ss n r)
  unfolding proof_forms result_form Worded Nodes WordSteps
  proof_words [] cs r h ws w = ((result_word, (nw, (w, tt))), tt)
  proof_words (s ∷ ss) cs r h ws w =
      (step_words cs s h.0 ws.0 ws.1, proof_words ss (cs ++ (conclusion T s ∷ [])) r h.1 ws.2 w)

-- Indices in decimal digits ---------------------------------------------------------------------------------------------------------

digits_letters : (bs : List ℕ) → Digits bs → Letters bs
unfolding Digits Letters
digits_letters [] h = tt
digits_letters (d ∷ ds) h = (digit_letter d h.0 h.1, le-leb d 127 (let z = h.1 in omega arith), digits_letters ds h.2)

letters_word : (bs : List ℕ) → 1 ≤ length bs → Letters bs → Word bs
unfolding Word
letters_word [] l h = absurd (let z : ⊥ = omega arith in z)
letters_word (b ∷ bs) l h = h

pub decimal_word : (n : ℕ) → Word (decimal n)
decimal_word n = letters_word (decimal n) (decimal_long n) (digits_letters (decimal n) (decimal_digits n))

-- a derivation's nodes in post-order
word_steps_append : (xs ys : List Step) → WordSteps xs → WordSteps ys → WordSteps (xs ++ ys)
unfolding WordSteps
word_steps_append [] ys h k = k
word_steps_append (s ∷ xs) ys h k = (h.0, h.1, word_steps_append xs ys h.2 k)

roots_words : {T : Theory} {R : ℕ → Type 0} {js : Trees} (ds : Ders T R js) (k : ℕ) → AllWords (roots k ds)
unfolding roots AllWords
roots_words leaf k = tt
roots_words (both t ts d ds) k = (decimal_word (k + below d), roots_words ds (k + suc (below d)))

mutual
  unfolding postorder WordSteps

  pub postorder_words : {T : Theory} {R : ℕ → Type 0} {j : Tree} (d : Der T R j) (k : ℕ) → WordSteps (postorder k d)
  postorder_words (node r ρ j u v ds e) k =
      word_steps_append (postorders k ds) _ (postorders_words ds k) (decimal_word (k + nodes_of ds), roots_words ds k, tt)

  postorders_words : {T : Theory} {R : ℕ → Type 0} {js : Trees} (ds : Ders T R js) (k : ℕ) → WordSteps (postorders k ds)
  postorders_words leaf k = tt
  postorders_words (both t ts d ds) k = word_steps_append (postorder k d) _ (postorder_words d k) (postorders_words ds (k + suc (below d)))
