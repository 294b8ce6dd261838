-- Rows on question 60: tables filled by hand up to a limit, then one form. For each row of 60 the last that fits and the first that does not, and
-- which of two rows is named. Assumes nothing.
use Rattle.std.specs.Prelude.{ℕ, zero, suc, ◌≡◌, refl, true, false, List, [], ◌∷◌, ◌++◌, length, replicate}
use Prim.Native.String.{String}
use Rattle.rules.specs.Text.{bytes}
use Rattle.rules.specs.Out.{Out, ok, refuse, Act}
use Rattle.rules.specs.Sexp.{Sexp, Name, read}
use Rattle.rules.specs.Tree.{Tree, var, app, none, more}
use Rattle.rules.specs.Store.{Made, keep}
use Rattle.rules.specs.Theory.{Theory, Symbol, no_name, no_symbol, no_rule}
use Rattle.rules.specs.State.{State, Def, Goal, Fact, no_var, begin}
use Rattle.rules.specs.Declare.{declare}
use Rattle.rules.specs.Invert.{make_vars}
use Rattle.rules.specs.Forms.{take_goal, take_form, with_vars, with_defs, with_goals, with_facts}
use Rattle.rules.specs.Loop.{Judged, done, refused, through}
use Rattle.rules.specs.Run.{running}
use Rattle.rules.specs.Rows.Row.{one, two, copies}

-- Lists of a length ---------------------------------------------------------------------------------------------------------------------------

-- a tree of so many words, 1 and more, as a node and as a pattern
abbrev wide : ℕ → Tree
wide zero = app 9 none
wide (suc n) = app 9 (copies n (app 9 none))

-- n variables, from k on
unfoldable pub variables : ℕ → ℕ → Made
variables k zero = []
variables k (suc n) = var k ∷ variables (suc k) n

-- Forms on a state ------------------------------------------------------------------------------------------------------------------------------

-- the answer to a text: 1 and the number of forms, or 0, number, form, detail
abbrev told : {S : Type 0} → Judged S → List ℕ
told (done k S) = 1 ∷ k ∷ []
told (refused n d k S) = 0 ∷ n ∷ k ∷ d ∷ []

abbrev fits : List ℕ
fits = 1 ∷ 1 ∷ []

-- row r of 60 refuses
abbrev full : ℕ → List ℕ
full r = 0 ∷ 60 ∷ 0 ∷ r ∷ []

-- a state, a text of one form, and the answer
pub record Put (S : Type 0) : Type 0 where
  pub state : S
  pub form : List ℕ
  pub says : List ℕ

unfoldable pub AllPut : {S : Type 0} → (Sexp → Act S (Unit {0})) → List (Put S) → Type 0
AllPut f [] = Unit {0}
AllPut f (p ∷ ps) = (told (through f (read p.form) 0 p.state) ≡ p.says) × AllPut f ps

abbrev put : {S : Type 0} → S → String → List ℕ → Put S
put s f l = record { state = s; form = bytes f; says = l }

-- Theories: rows 1 to 6 ---------------------------------------------------------------------------------------------------------------------------

abbrev named : String → Name
named s = record { start = 0; bytes = bytes s }

abbrev symbol : String → List ℕ → ℕ → Symbol
symbol s is o = record { name = named s; inputs = is; output = o }

-- sort N, predicates P and Q of no and two arguments, and a rule of so many words
abbrev ruled : ℕ → Theory
ruled n = record {
  sorts = named "N" ∷ [];
  symbols = symbol "P" [] 0 ∷ symbol "Q" (1 ∷ 1 ∷ []) 0 ∷ [];
  rules = record { name = no_name; vars = []; premises = none; conclusion = wide n } ∷ [];
}

abbrev sorted : ℕ → Theory
sorted n = record { sorts = replicate n no_name; symbols = []; rules = [] }

abbrev symbols : ℕ → Theory
symbols n = record { sorts = []; symbols = replicate n no_symbol; rules = [] }

abbrev rules : ℕ → Theory
rules n = record { sorts = []; symbols = symbol "P" [] 0 ∷ []; rules = replicate n no_rule }

abbrev sort64 : Put Theory
sort64 = put (sorted 63) "(sort A)" fits

abbrev sort65 : Put Theory
sort65 = put (sorted 64) "(sort A)" (full 1)

abbrev symbol256 : Put Theory
symbol256 = put (symbols 255) "(pred P ())" fits

abbrev symbol257 : Put Theory
symbol257 = put (symbols 256) "(pred P ())" (full 2)

abbrev argument16 : Put Theory
argument16 = put (ruled 1) "(pred R (N N N N N N N N N N N N N N N N))" fits

abbrev argument17 : Put Theory
argument17 = put (ruled 1) "(pred R (N N N N N N N N N N N N N N N N N))" (full 3)

abbrev rule256 : Put Theory
rule256 = put (rules 255) "(rule r () (P))" fits

abbrev rule257 : Put Theory
rule257 = put (rules 256) "(rule r () (P))" (full 4)

abbrev rule_var16 : Put Theory
rule_var16 = put (ruled 1) "(rule r ((Q ?a ?b) (Q ?c ?d) (Q ?e ?f) (Q ?g ?h) (Q ?i ?j) (Q ?k ?l) (Q ?m ?n) (Q ?o ?p)) (Q ?a ?a))" fits

abbrev rule_var17 : Put Theory
rule_var17 = put (ruled 1) "(rule r ((Q ?a ?b) (Q ?c ?d) (Q ?e ?f) (Q ?g ?h) (Q ?i ?j) (Q ?k ?l) (Q ?m ?n) (Q ?o ?p)) (Q ?a ?q))" (full 5)

abbrev word8192 : Put Theory
word8192 = put (ruled 8191) "(rule r () (P))" fits

abbrev word8193 : Put Theory
word8193 = put (ruled 8192) "(rule r () (P))" (full 6)

pub theories_full :
    AllPut declare
    (sort64 ∷ sort65 ∷ symbol256 ∷ symbol257 ∷ argument16 ∷ argument17 ∷ rule256 ∷ rule257 ∷ rule_var16 ∷ rule_var17 ∷ word8192 ∷ word8193 ∷ [])
unfolding running AllPut copies
theories_full = (refl, (refl, (refl, (refl, (refl, (refl, (refl, (refl, (refl, (refl, (refl, (refl, tt))))))))))))

-- Variables, abbreviations: rows 7 and 10 -----------------------------------------------------------------------------------------------------------

abbrev empty : State
empty = begin (ruled 1)

abbrev with_x : State
with_x = with_vars empty (record { sort = 1; text = 2; name = named "x" } ∷ [])

abbrev def : Def
def = record { name = named "?a"; term = var 0 }

abbrev var512 : Put State
var512 = put (with_vars empty (replicate 511 no_var)) "(var y N)" fits

abbrev var513 : Put State
var513 = put (with_vars empty (replicate 512 no_var)) "(var y N)" (full 7)

abbrev def512 : Put State
def512 = put (with_defs with_x (replicate 511 def)) "(def ?b x)" fits

abbrev def513 : Put State
def513 = put (with_defs with_x (replicate 512 def)) "(def ?b x)" (full 10)

-- a name that is not new comes first
abbrev def513_twice : Put State
def513_twice = put (with_defs with_x (replicate 512 def)) "(def ?a x)" (0 ∷ 33 ∷ 0 ∷ 0 ∷ [])

-- Facts: rows 12 and 13 -----------------------------------------------------------------------------------------------------------------------------

-- a fact with n entries
abbrev fact : ℕ → Fact
fact n = record { judgment = var 0; hyps = replicate n 0; assumed = false; premises = none; general = []; footing = [] }

abbrev facts : List Fact → State
facts fs = with_facts with_x fs empty.counts

abbrev fact1024 : Put State
fact1024 = put (facts (replicate 1023 (fact 0))) "(hyp 1023 (P))" fits

abbrev fact1025 : Put State
fact1025 = put (facts (replicate 1024 (fact 0))) "(hyp 1024 (P))" (full 12)

-- a hypothesis's own index is an entry
abbrev entry16384 : Put State
entry16384 = put (facts (fact 16383 ∷ [])) "(hyp 1 (P))" fits

abbrev entry16385 : Put State
entry16385 = put (facts (fact 16384 ∷ [])) "(hyp 1 (P))" (full 13)

-- so are premises and generalised variables, each as written
abbrev entries_fit : Put State
entries_fit = put (facts (fact 16380 ∷ [])) "(hyp 1 ((P) (P)) (P) (x))" fits

abbrev entries_full : Put State
entries_full = put (facts (fact 16381 ∷ [])) "(hyp 1 ((P) (P)) (P) (x))" (full 13)

-- both tables are full: the lower row is named
abbrev facts12and13 : Put State
facts12and13 = put (facts (replicate 1024 (fact 16))) "(hyp 1024 (P))" (full 12)

pub proofs_full :
    AllPut take_form
    (var512 ∷ var513 ∷ def512 ∷ def513 ∷ def513_twice ∷ fact1024 ∷ fact1025 ∷ entry16384 ∷ entry16385 ∷ entries_fit ∷ entries_full ∷ facts12and13 ∷ [])
unfolding running AllPut copies
proofs_full = (refl, (refl, (refl, (refl, (refl, (refl, (refl, (refl, (refl, (refl, (refl, (refl, tt))))))))))))

-- Terms made in turn: rows 8 and 9 -----------------------------------------------------------------------------------------------------------------

-- sort N, c of it, predicates P, Q, R of one, two and one arguments, a rule from (Q ?a ?a) to (R ?a)
abbrev small : Theory
small = record {
  sorts = named "N" ∷ [];
  symbols = symbol "c" [] 1 ∷ symbol "P" (1 ∷ []) 0 ∷ symbol "Q" (1 ∷ 1 ∷ []) 0 ∷ symbol "R" (1 ∷ []) 0 ∷ [];
  rules = record {
    name = named "r";
    vars = record { name = named "?a"; sort = 1 } ∷ [];
    premises = more (two 2 (var 0) (var 0)) none;
    conclusion = one 3 (var 0);
  } ∷ [];
}

-- variables n and m, a plain hypothesis, and terms with room for one more of two words
abbrev tight : Tree → List Tree → ℕ → ℕ → State
tight j ts n w = record {
  theory = small;
  vars = record { sort = 1; text = 2; name = named "n" } ∷ record { sort = 1; text = 2; name = named "m" } ∷ [];
  made = ts ++ (wide w ∷ variables 1000 n);
  defs = [];
  goals = [];
  facts = record { judgment = j; hyps = 0 ∷ []; assumed = true; premises = none; general = []; footing = [] } ∷ [];
  counts = empty.counts;
}

-- a case of an induction makes its judgment, (P c) of two words, and then there is no place for the premise (Q c c); the other way round (Q c c) is
-- too long. So it is with a case of an inversion, (P m) and the rule's premise (Q m m)
abbrev induct_in_turn : Put State
induct_in_turn =
    put (tight (two 2 (var 0) (var 0)) (var 0 ∷ app 0 none ∷ one 1 (var 0) ∷ []) 4091 12287) "(induct 1 n (0) (P n) ((9)))" (full 8)

abbrev invert_in_turn : Put State
invert_in_turn =
    put (tight (one 3 (var 0)) (var 0 ∷ var 1 ∷ one 1 (var 0) ∷ one 3 (var 0) ∷ one 3 (var 1) ∷ []) 4089 12285)
    "(invert 1 0 () (P n) ((r 9 (m))))" (full 8)

pub terms_in_turn : AllPut take_form (induct_in_turn ∷ invert_in_turn ∷ [])
unfolding running AllPut copies variables
terms_in_turn = (refl, (refl, tt))

-- Goals: rows 11 and 13 -----------------------------------------------------------------------------------------------------------------------------

-- with n listed hypotheses
abbrev goal : ℕ → Goal
goal n = record { name = no_name; judgment = var 0; hyps = copies n (var 0); taken = false }

abbrev goal128 : Put State
goal128 = put (with_goals empty (replicate 127 (goal 0))) "(goal g (P))" fits

abbrev goal129 : Put State
goal129 = put (with_goals empty (replicate 128 (goal 0))) "(goal g (P))" (full 11)

abbrev goal_entries16384 : Put State
goal_entries16384 = put (with_goals empty (goal 16382 ∷ [])) "(goal g ((P) (P)) (P))" fits

abbrev goal_entries16385 : Put State
goal_entries16385 = put (with_goals empty (goal 16383 ∷ [])) "(goal g ((P) (P)) (P))" (full 13)

abbrev goals11and13 : Put State
goals11and13 = put (with_goals empty (replicate 128 (goal 128))) "(goal g ((P)) (P))" (full 11)

pub goals_full : AllPut take_goal (goal128 ∷ goal129 ∷ goal_entries16384 ∷ goal_entries16385 ∷ goals11and13 ∷ [])
unfolding running AllPut copies
goals_full = (refl, (refl, (refl, (refl, (refl, tt)))))

-- Made variables and terms: rows 7, 8 and 9 ---------------------------------------------------------------------------------------------------------

-- 1 and how many there are then, or 0, number and detail
abbrev count : {S A B : Type 0} → (A → S → List B) → Out S A → List ℕ
count f (ok a s) = 1 ∷ length (f a s) ∷ []
count f (refuse n d s) = 0 ∷ n ∷ d ∷ []

pub made_512 : count (λ vs m. vs) (make_vars (record { name = no_name; sort = 1 } ∷ []) (replicate 511 no_var) []) ≡ 1 ∷ 512 ∷ []
unfolding running
made_512 = refl

pub made_513 : count (λ vs m. vs) (make_vars (record { name = no_name; sort = 1 } ∷ []) (replicate 512 no_var) []) ≡ 0 ∷ 60 ∷ 7 ∷ []
unfolding running
made_513 = refl

-- a term that is there is not stored again
pub terms_8 :
    (count (λ t m. m) (keep (var 4095) (variables 0 4095)) ≡ 1 ∷ 4096 ∷ [])
    × (count (λ t m. m) (keep (var 4096) (variables 0 4096)) ≡ 0 ∷ 60 ∷ 8 ∷ [])
    × (count (λ t m. m) (keep (var 4095) (variables 0 4096)) ≡ 1 ∷ 4096 ∷ [])
unfolding running variables
terms_8 = (refl, refl, refl)

-- words; and of both rows the lower one
pub terms_9 :
    (count (λ t m. m) (keep (one 1 (var 0)) (wide 16382 ∷ [])) ≡ 1 ∷ 2 ∷ [])
    × (count (λ t m. m) (keep (one 1 (var 0)) (wide 16383 ∷ [])) ≡ 0 ∷ 60 ∷ 9 ∷ [])
    × (count (λ t m. m) (keep (one 1 (var 0)) (wide 16384 ∷ variables 0 4095)) ≡ 0 ∷ 60 ∷ 8 ∷ [])
unfolding running copies variables
terms_9 = (refl, refl, refl)
