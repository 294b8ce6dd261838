-- The declarations of a theory: questions 10, 11 and 12, and rows 1 to 6 of question 60 as each thing is stored. Assumes nothing.
use Rattle.std.specs.Prelude.{ℕ, suc, Bool, true, false, ◌&&◌, not, List, [], ◌∷◌, ◌++◌, eqb, leb, ltb, length, get_or, Option, Some as some, None as nothing}
use Rattle.rules.specs.Limits.{SORTS, SYMBOLS, ARGUMENTS, RULES, RULEVARS, PATTERNS}
use Rattle.rules.specs.Out.{then, Act, ◌>>=◌, pure, stop, ask, room, found, get, put, beside}
use Rattle.rules.specs.Text.{same}
use Rattle.rules.specs.Sexp.{Sexp, Sexps, atom, list, nil, cons, count, item, Name, name, items, marked, reading}
use Rattle.rules.specs.Find.{first}
use Rattle.rules.specs.Tree.{Tree, Trees, var, app, none, more}
use Rattle.rules.specs.Theory.{Symbol, RuleVar, Theory, no_name, sort_named, predicate_named, constructor_named, rule_named, inputs, output, rule_words, theories}
use Rattle.rules.specs.Tags.{Declaration, a_sort, a_ctor, a_pred, a_rule, declaration, tagging}

unfoldable pub is_new : {A : Type 0} → Option A → Bool
is_new nothing = true
is_new (some a) = false

-- `name`: a name that no variable has
unfoldable pub proper_name : {S : Type 0} → Sexp → Act S Name
proper_name x = do
  n ← name 11 x
  _ ← ask 11 (not (marked n.bytes))
  pure n

-- `sort`
unfoldable pub sort : {S : Type 0} → Theory → Sexp → Act S ℕ
sort T x = do
  n ← proper_name x
  found 11 (sort_named T n.bytes)

-- Sorts and symbols -------------------------------------------------------------------------------------------------------------

unfoldable pub add_sort : Sexps → Act Theory (Unit {0})
add_sort xs = do
  T ← get
  n ← proper_name (item xs 1)
  _ ← ask 11 (is_new (sort_named T n.bytes))
  _ ← room 1 (ltb (length T.sorts) SORTS)
  put (record { sorts = T.sorts ++ (n ∷ []); symbols = T.symbols; rules = T.rules })

-- the argument sorts, of which k are there
unfoldable pub sorts : {S : Type 0} → Theory → Sexps → ℕ → Act S (List ℕ)
sorts T nil k = pure []
sorts T (cons x xs) k = do
  s ← sort T x
  _ ← room 3 (ltb k ARGUMENTS)
  ss ← sorts T xs (suc k)
  pure (s ∷ ss)

unfoldable pub add_symbol : Symbol → Act Theory (Unit {0})
add_symbol s = do
  T ← get
  _ ← room 2 (ltb (length T.symbols) SYMBOLS)
  put (record { sorts = T.sorts; symbols = T.symbols ++ (s ∷ []); rules = T.rules })

unfoldable pub add_ctor : Sexps → Act Theory (Unit {0})
add_ctor xs = do
  T ← get
  n ← proper_name (item xs 1)
  ys ← items 11 (item xs 2)
  ss ← sorts T ys 0
  s ← sort T (item xs 3)
  _ ← ask 11 (is_new (constructor_named T n.bytes))
  add_symbol (record { name = n; inputs = ss; output = s })

unfoldable pub add_pred : Sexps → Act Theory (Unit {0})
add_pred xs = do
  T ← get
  n ← proper_name (item xs 1)
  ys ← items 11 (item xs 2)
  ss ← sorts T ys 0
  _ ← ask 11 (is_new (predicate_named T n.bytes))
  add_symbol (record { name = n; inputs = ss; output = 0 })

-- Rules -------------------------------------------------------------------------------------------------------------------------

-- while a rule is read: its variables, and the words of all patterns
pub record Reading : Type 0 where
  pub vars : List RuleVar
  pub words : ℕ

-- one word more
unfoldable pub word : Act Reading (Unit {0})
word = do
  R ← get
  _ ← room 6 (ltb R.words PATTERNS)
  put (record { vars = R.vars; words = suc R.words })

abbrev pub no_rule_var : RuleVar
no_rule_var = record { name = no_name; sort = 0 }

-- a variable that was met before has the sort it had, another one is new
unfoldable pub met_or_new : Name → ℕ → Option ℕ → Act Reading ℕ
met_or_new n s (some i) = do
  R ← get
  _ ← ask 12 (eqb (get_or R.vars i no_rule_var).sort s)
  pure i
met_or_new n s nothing = do
  R ← get
  _ ← room 5 (ltb (length R.vars) RULEVARS)
  _ ← put (record { vars = R.vars ++ (record { name = n; sort = s } ∷ []); words = R.words })
  pure (length R.vars)

unfoldable pub variable : Name → ℕ → Act Reading Tree
variable n s = do
  _ ← ask 11 (leb 2 (length n.bytes))
  R ← get
  i ← met_or_new n s (first (λ v. same v.name.bytes n.bytes) R.vars 0)
  _ ← word
  pure (var i)

-- a constructor that makes sort s over so many arguments; then its word
unfoldable pub head : Theory → ℕ → ℕ → List ℕ → Act Reading ℕ
head T s k n = do
  c ← found 11 (constructor_named T n)
  _ ← ask 12 (eqb (output T c) s && eqb (length (inputs T c)) k)
  _ ← word
  pure c

-- a term of sort s; a list of one is refused before its name is looked up
unfoldable mutual
  pub pattern : Theory → Sexp → ℕ → Act Reading Tree
  pattern T (atom p bs) s =
      elim (marked bs) [
        | true ↦ variable (record { start = p; bytes = bs }) s
        | false ↦ do
          c ← head T s 0 bs
          pure (app c none)
      ]
  pattern T (list xs) s = compound T xs s

  pub compound : Theory → Sexps → ℕ → Act Reading Tree
  compound T nil s = stop 11
  compound T (cons x xs) s = do
    n ← name 11 x
    _ ← ask 12 (leb 1 (count xs))
    c ← head T s (count xs) n.bytes
    ts ← patterns T xs (inputs T c)
    pure (app c ts)

  pub patterns : Theory → Sexps → List ℕ → Act Reading Trees
  patterns T nil ss = pure none
  patterns T (cons x xs) [] = pure none
  patterns T (cons x xs) (s ∷ ss) = do
    t ← pattern T x s
    ts ← patterns T xs ss
    pure (more t ts)

unfoldable pub predicated : Theory → Sexps → Act Reading Tree
predicated T nil = stop 11
predicated T (cons x xs) = do
  n ← name 11 x
  p ← found 11 (predicate_named T n.bytes)
  _ ← ask 12 (eqb (length (inputs T p)) (count xs))
  _ ← word
  ts ← patterns T xs (inputs T p)
  pure (app p ts)

unfoldable pub judgment : Theory → Sexp → Act Reading Tree
judgment T x = do
  xs ← items 11 x
  predicated T xs

unfoldable pub judgments : Theory → Sexps → Act Reading Trees
judgments T nil = pure none
judgments T (cons x xs) = do
  t ← judgment T x
  ts ← judgments T xs
  pure (more t ts)

-- premises, then the conclusion
unfoldable pub schema : Theory → Sexps → Act Reading (Trees × Tree)
schema T xs = do
  ys ← items 11 (item xs 2)
  ps ← judgments T ys
  c ← judgment T (item xs 3)
  pure (ps, c)

-- the name comes behind the judgments
unfoldable pub add_rule : Sexps → Act Theory (Unit {0})
add_rule xs = do
  T ← get
  r ← beside (record { vars = []; words = rule_words T.rules }) (schema T xs)
  n ← proper_name (item xs 1)
  _ ← ask 11 (is_new (rule_named T n.bytes))
  _ ← room 4 (ltb (length T.rules) RULES)
  put (record {
    sorts = T.sorts;
    symbols = T.symbols;
    rules = T.rules ++ (record { name = n; vars = r.1.vars; premises = r.0.0; conclusion = r.0.1 } ∷ []);
  })

-- Declarations --------------------------------------------------------------------------------------------------------------------

unfoldable pub declare_as : Declaration → Sexps → Act Theory (Unit {0})
declare_as a_sort = add_sort
declare_as a_ctor = add_ctor
declare_as a_pred = add_pred
declare_as a_rule = add_rule

unfoldable pub declare : Sexp → Act Theory (Unit {0})
declare x = do
  xs ← items 10 x
  t ← name 10 (item xs 0)
  d ← found 10 (declaration t.bytes (count xs))
  declare_as d xs

-- `unfolding declaring` opens all of the above, for a computation
unfoldable pub declaring : Unit {0}
unfolding reading theories tagging then beside is_new proper_name sort add_sort sorts add_symbol add_ctor add_pred word met_or_new variable head pattern predicated judgment judgments schema add_rule declare_as declare
declaring = tt
