-- What an action of reading leaves readable: the store has grown, and texts and tables stand for the same state. And what the functions that read
-- a part of it are given. Assumes nothing.
use Rattle.std.specs.Prelude.{◌≡◌, List, [], ℕ, ◌<◌}
use Rattle.rules.specs.Out.{Out, ok, refuse, then}
use Rattle.rules.specs.Find.{any}
use Rattle.rules.specs.Sexp.{Sexp, Sexps, nil, cons}
use Rattle.rules.specs.Tree.{Tree, Trees}
use Rattle.rules.specs.Store.{Made}
use Rattle.rules.specs.Unify.{Binding, insert}
use Rattle.rules.specs.State.{State}
use Rattle.rules.specs.Read.{term, terms, term_of, judgment, judgments}
use Rattle.rules.specs.Reference.{binding, is_bound, bindings}
use Rattle.rules.specs.Laws.Theory.{empty}
use Rattle.rules.specs.Laws.Keeping.{Grows, Keeps}
use Rattle.rules.specs.Laws.Sound.{sound}
use Rattle.rules.specs.Laws.Ready.{Values}
use Rattle.rules.specs.Laws.Store.{then_ok, then_refuse}
use Rattle.rules.proofs.Laws.ReadWalk.{term_keeps, terms_keeps, term_of_keeps, judgment_keeps, judgments_keeps, bindings_keeps}
use Rattle.rules.specs.Laws.Ready.{Ready}
use Rattle.sexp.specs.Items.{Holds}
use Rattle.terms.specs.declared.store.Mark.{Mark}
use Rattle.terms.specs.Table.{made, Good}
use Rattle.terms.specs.On.{Went, Stopped}
use Rattle.state.specs.declared.sizes.Sizes.{Sizes}
use Rattle.state.specs.Held.{Names}
use Rattle.state.specs.Rows.{SomeVars}
use Rattle.state.specs.Growth.{grows_ok, grows_refuse, spelling_on}
use Rattle.reading.specs.Given.{Reads, ReadsItem, ReadsItems, ReadsTerm, ReadsDefs, ReadsNames}

-- One binding is what a list of one gives ---------------------------------------------------------------------------------------------

bindings_one : (S : State) (x : Sexp) (M U : Made) (b : Binding) → binding S x M ≡ ok b U → bindings S (cons x nil) [] M ≡ ok (insert b []) U
unfolding bindings is_bound any then
bindings_one S x M U b e = then_ok (binding S x M) b U _ e

bindings_none : (S : State) (x : Sexp) (M U : Made) (q d : ℕ) → binding S x M ≡ refuse q d U → bindings S (cons x nil) [] M ≡ refuse q d U
unfolding bindings
bindings_none S x M U q d e = then_refuse (binding S x M) q d U _ e

-- Each takes the items that are read, then the answer of the call: reads_term h x w.
module _ {K : Names} {n : Sizes} {I W : List ℕ} {m : Mark} {S : State} (h : Reads K n I W m S) where
  -- The store has grown -----------------------------------------------------------------------------------------------------------------

  pub reads_ready : Ready sound S (made I W m)
  reads_ready = h.spelling.trees

  pub reads_on : {J X : List ℕ} {k : Mark} → Grows sound (made I W m) (made J X k) → Good J X k → Reads K n J X k S
  reads_on g w = record { spelling = spelling_on g h.spelling; good = w }

  module _ {J X : List ℕ} {k : Mark} where
    -- behind an action that keeps what is made
    pub reads_went : {A : Type 0} {P : A → Made → Type 0} {o : Out Made A} {a : A} → Keeps sound (made I W m) P o → Went I W J X m o a k → Reads K n J X k S
    reads_went p w = reads_on (grows_ok p w.makes).0 w.grown.good

    pub reads_stopped : {A : Type 0} {P : A → Made → Type 0} {o : Out Made A} {q d : ℕ} → Keeps sound (made I W m) P o → Stopped I W J X m o q d k → Reads K n J X k S
    reads_stopped p w = reads_on (grows_refuse p w.makes) w.grown.good

    -- Terms
    pub reads_term : (x : Sexp) {t : Tree} → Went I W J X m (term S x (made I W m)) t k → Reads K n J X k S
    reads_term x w = reads_went (term_keeps S x (made I W m) reads_ready) w

    pub reads_term_no : (x : Sexp) {q d : ℕ} → Stopped I W J X m (term S x (made I W m)) q d k → Reads K n J X k S
    reads_term_no x w = reads_stopped (term_keeps S x (made I W m) reads_ready) w

    pub reads_terms : (xs : Sexps) {ts : Trees} → Went I W J X m (terms S xs (made I W m)) ts k → Reads K n J X k S
    reads_terms xs w = reads_went (terms_keeps S xs (made I W m) reads_ready) w

    pub reads_terms_no : (xs : Sexps) {q d : ℕ} → Stopped I W J X m (terms S xs (made I W m)) q d k → Reads K n J X k S
    reads_terms_no xs w = reads_stopped (terms_keeps S xs (made I W m) reads_ready) w

    pub reads_term_of : (x : Sexp) (s : ℕ) {t : Tree} → Went I W J X m (term_of S x s (made I W m)) t k → Reads K n J X k S
    reads_term_of x s w = reads_went (term_of_keeps S x s (made I W m) reads_ready) w

    pub reads_term_of_no : (x : Sexp) (s : ℕ) {q d : ℕ} → Stopped I W J X m (term_of S x s (made I W m)) q d k → Reads K n J X k S
    reads_term_of_no x s w = reads_stopped (term_of_keeps S x s (made I W m) reads_ready) w

    -- Judgments
    pub reads_judgment : (x : Sexp) {t : Tree} → Went I W J X m (judgment S x (made I W m)) t k → Reads K n J X k S
    reads_judgment x w = reads_went (judgment_keeps S x (made I W m) reads_ready) w

    pub reads_judgment_no : (x : Sexp) {q d : ℕ} → Stopped I W J X m (judgment S x (made I W m)) q d k → Reads K n J X k S
    reads_judgment_no x w = reads_stopped (judgment_keeps S x (made I W m) reads_ready) w

    pub reads_judgments : (x : Sexp) {ts : Trees} → Went I W J X m (judgments S x (made I W m)) ts k → Reads K n J X k S
    reads_judgments x w = reads_went (judgments_keeps S x (made I W m) reads_ready) w

    pub reads_judgments_no : (x : Sexp) {q d : ℕ} → Stopped I W J X m (judgments S x (made I W m)) q d k → Reads K n J X k S
    reads_judgments_no x w = reads_stopped (judgments_keeps S x (made I W m) reads_ready) w

    -- Bindings
    pub reads_bindings : (xs : Sexps) (bs : List Binding) {cs : List Binding} → Values sound bs (made I W m) → Went I W J X m (bindings S xs bs (made I W m)) cs k → Reads K n J X k S
    reads_bindings xs bs v w = reads_went (bindings_keeps S xs bs (made I W m) reads_ready v) w

    pub reads_bindings_no : (xs : Sexps) (bs : List Binding) {q d : ℕ} → Values sound bs (made I W m) → Stopped I W J X m (bindings S xs bs (made I W m)) q d k →
        Reads K n J X k S
    reads_bindings_no xs bs v w = reads_stopped (bindings_keeps S xs bs (made I W m) reads_ready v) w

    pub reads_binding : (x : Sexp) {b : Binding} → Went I W J X m (binding S x (made I W m)) b k → Reads K n J X k S
    reads_binding x {b} w =
        reads_on (grows_ok (bindings_keeps S (cons x nil) [] (made I W m) reads_ready empty) (bindings_one S x (made I W m) (made J X k) b w.makes)).0
        w.grown.good

    pub reads_binding_no : (x : Sexp) {q d : ℕ} → Stopped I W J X m (binding S x (made I W m)) q d k → Reads K n J X k S
    reads_binding_no x {q} {d} w =
        reads_on (grows_refuse (bindings_keeps S (cons x nil) [] (made I W m) reads_ready empty) (bindings_none S x (made I W m) (made J X k) q d w.makes))
        w.grown.good

  -- What a callee is given; each computes, so that its state and items are seen --------------------------------------------------------

  abbrev pub reads_item : {cells : List ℕ} {x : Sexp} {ys : Sexps} → Holds K.text cells (cons x ys) → ReadsItem K n I W m cells
  reads_item {x = x} {ys} k = record { S = S; x = x; ys = ys; reads = h; holds = k }

  abbrev pub reads_items : {cells : List ℕ} {xs : Sexps} → Holds K.text cells xs → ReadsItems K n I W m cells
  reads_items {xs = xs} k = record { S = S; xs = xs; reads = h; holds = k }

  abbrev pub reads_known : {id : ℕ} → id < m.terms → ReadsTerm K.symbols K.vars I W id
  reads_known l =
      record { S = S; mark = m; count = n.vars; symbols_are = h.spelling.symbols; vars_are = h.spelling.vars.stand; good = h.good; there = l }

  abbrev pub reads_defs : ReadsDefs K.text K.symbols K.vars K.defs n I W m
  reads_defs = record { S = S; symbols_are = h.spelling.symbols; vars_are = h.spelling.vars.stand; defs_are = h.spelling.defs; good = h.good }

  abbrev pub reads_names : ReadsNames K.theory K.goals K.text K.symbols K.vars n I W m
  reads_names = record { S = S; inputs = K.inputs; held = h.spelling.held; vars_are = h.spelling.vars; good = h.good }

  -- what `var_named` asks; VarsHeld itself is h.spelling.vars
  abbrev pub reads_vars : SomeVars K.goals K.text K.vars n.vars
  reads_vars = (S.vars, h.spelling.vars)
