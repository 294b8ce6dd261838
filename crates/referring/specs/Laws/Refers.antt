-- What an action leaves readable where references are read: the store has grown, and texts and tables stand for the same state, facts included.
-- And what the functions that read a part of it are given. Assumes nothing.
use Rattle.std.specs.Prelude.{◌≡◌, List, [], ℕ, ◌<◌, ◌≤◌, length, Option}
use Rattle.std.proofs.Common.{arith}
use Rattle.std.proofs.Math.Path.{ap}
use Rattle.rules.specs.Out.{Out, ok, refuse, found}
use Rattle.rules.specs.Sexp.{Sexp, Sexps, cons}
use Rattle.rules.specs.Tree.{Tree, Trees}
use Rattle.rules.specs.Store.{Made}
use Rattle.rules.specs.Unify.{Binding}
use Rattle.rules.specs.State.{State, Fact}
use Rattle.rules.specs.Read.{term, term_of, judgment, judgments}
use Rattle.rules.specs.Reference.{Ref, fact_at, bindings, reference}
use Rattle.rules.specs.Laws.Theory.{empty}
use Rattle.rules.specs.Laws.Keeping.{Grows, Keeps}
use Rattle.rules.specs.Laws.Sound.{sound}
use Rattle.rules.proofs.Laws.ReadWalk.{term_keeps, term_of_keeps, judgment_keeps, judgments_keeps, bindings_keeps, reference_keeps}
use Rattle.rules.specs.Laws.Ready.{Ready}
use Rattle.sexp.specs.Items.{Holds}
use Rattle.terms.specs.declared.store.Mark.{Mark}
use Rattle.terms.specs.Table.{made, Good}
use Rattle.terms.specs.On.{Went, Stopped}
use Rattle.state.specs.declared.sizes.Sizes.{Sizes}
use Rattle.state.specs.Held.{Names, Records, Recorded}
use Rattle.state.specs.Rows.{FactAt, FootingAt}
use Rattle.state.specs.RowCells.{no_fact}
use Rattle.state.specs.RowTables.{tabled_long, entry_at}
use Rattle.state.specs.FactLaws.{facts_tabled, footings_tabled}
use Rattle.state.specs.Growth.{grows_ok, grows_refuse, recorded_on}
use Rattle.reading.specs.Given.{FactsItem}
use Rattle.referring.specs.Recall.{fact_of, Recalls, RecallsFact, BareItem, Refers, RefersItem, RefersItems}
use Rattle.reading.specs.Laws.Reading.{reads_on}
use Rattle.reading.specs.Laws.Lists.{no_entry}

-- Each takes the items that are read, then the answer of the call: refers_reference h x w.
module _ {K : Names} {facts footings lists : List ℕ} {n : Sizes} {I W : List ℕ} {m : Mark} {S : State} (h : Refers K facts footings lists n I W m S) where
  -- The store has grown -----------------------------------------------------------------------------------------------------------------

  pub refers_ready : Ready sound S (made I W m)
  refers_ready = h.recorded.trees

  pub refers_on : {J X : List ℕ} {k : Mark} → Grows sound (made I W m) (made J X k) → Good J X k → Refers K facts footings lists n J X k S
  refers_on g w = record { reads = reads_on h.reads g w; recorded = recorded_on g h.recorded }

  module _ {J X : List ℕ} {k : Mark} where
    -- behind an action that keeps what is made
    pub refers_went : {A : Type 0} {P : A → Made → Type 0} {o : Out Made A} {a : A} → Keeps sound (made I W m) P o → Went I W J X m o a k →
        Refers K facts footings lists n J X k S
    refers_went p w = refers_on (grows_ok p w.makes).0 w.grown.good

    pub refers_stopped : {A : Type 0} {P : A → Made → Type 0} {o : Out Made A} {q d : ℕ} → Keeps sound (made I W m) P o → Stopped I W J X m o q d k →
        Refers K facts footings lists n J X k S
    refers_stopped p w = refers_on (grows_refuse p w.makes) w.grown.good

    -- References
    pub refers_reference : (x : Sexp) {r : Ref} → Went I W J X m (reference S x (made I W m)) r k → Refers K facts footings lists n J X k S
    refers_reference x w = refers_went (reference_keeps S x (made I W m) refers_ready) w

    pub refers_reference_no : (x : Sexp) {q d : ℕ} → Stopped I W J X m (reference S x (made I W m)) q d k → Refers K facts footings lists n J X k S
    refers_reference_no x w = refers_stopped (reference_keeps S x (made I W m) refers_ready) w

    -- Terms
    pub refers_term : (x : Sexp) {t : Tree} → Went I W J X m (term S x (made I W m)) t k → Refers K facts footings lists n J X k S
    refers_term x w = refers_went (term_keeps S x (made I W m) refers_ready) w

    pub refers_term_of : (x : Sexp) (s : ℕ) {t : Tree} → Went I W J X m (term_of S x s (made I W m)) t k → Refers K facts footings lists n J X k S
    refers_term_of x s w = refers_went (term_of_keeps S x s (made I W m) refers_ready) w

    -- Judgments
    pub refers_judgment : (x : Sexp) {t : Tree} → Went I W J X m (judgment S x (made I W m)) t k → Refers K facts footings lists n J X k S
    refers_judgment x w = refers_went (judgment_keeps S x (made I W m) refers_ready) w

    pub refers_judgments : (x : Sexp) {ts : Trees} → Went I W J X m (judgments S x (made I W m)) ts k → Refers K facts footings lists n J X k S
    refers_judgments x w = refers_went (judgments_keeps S x (made I W m) refers_ready) w

    -- Bindings
    pub refers_bindings : (xs : Sexps) {cs : List Binding} → Went I W J X m (bindings S xs [] (made I W m)) cs k → Refers K facts footings lists n J X k S
    refers_bindings xs w = refers_went (bindings_keeps S xs [] (made I W m) refers_ready empty) w

  -- What a callee is given --------------------------------------------------------------------------------------------------------------

  abbrev pub refers_item : {cells : List ℕ} {x : Sexp} {ys : Sexps} → Holds K.text cells (cons x ys) → RefersItem K facts n I W m cells
  refers_item {x = x} {ys} k = record { S = S; footings = footings; lists = lists; x = x; ys = ys; refers = h; holds = k }

  abbrev pub refers_items : {cells : List ℕ} {xs : Sexps} → Holds K.text cells xs → RefersItems K facts n I W m cells
  refers_items {xs = xs} k = record { S = S; footings = footings; lists = lists; xs = xs; refers = h; holds = k }

  -- without the texts and tables of terms
  abbrev pub refers_bare : {cells : List ℕ} {x : Sexp} {ys : Sexps} → Holds K.text cells (cons x ys) → BareItem K.text facts n m cells
  refers_bare {x = x} {ys} k =
      record {
        S = S;
        index = I;
        words = W;
        footings = footings;
        lists = lists;
        x = x;
        ys = ys;
        recorded = h.recorded;
        good = h.reads.good;
        holds = k;
      }

  -- what the functions of hypotheses ask
  abbrev pub refers_hyps : {cells : List ℕ} {x : Sexp} {ys : Sexps} → Holds K.text cells (cons x ys) → FactsItem K.text facts n cells
  refers_hyps {x = x} {ys} k =
      record { S = S; made_trees = made I W m; footings = footings; lists = lists; x = x; ys = ys; recorded = h.recorded; holds = k }

  abbrev pub refers_recalls : Recalls facts lists n I W m
  refers_recalls = record { S = S; footings = footings; recorded = h.recorded; many = h.reads.spelling.vars.stand.many; good = h.reads.good }

  -- what `join` asks
  abbrev pub refers_fact : {i : ℕ} → i < n.facts → RecallsFact facts footings lists i
  refers_fact l = record { S = S; n = n; trees = made I W m; recorded = h.recorded; there = l }

  -- the same of a reference that was read: its fact is an earlier one
  abbrev pub refers_earlier : {i : ℕ} → i < length S.facts → RecallsFact facts footings lists i
  refers_earlier l = refers_fact (omega (arith, l, h.recorded.many))

-- A fact that is named ------------------------------------------------------------------------------------------------------------------

module _ {R : Records} {n : Sizes} {M : Made} {S : State} (h : Recorded R n M S) {i : ℕ} where
  pub fact_here : i < n.facts → i < length S.facts
  fact_here l = omega (arith, l, h.many)

  -- what the definition finds
  pub fact_found : {A : Type 0} (s : A) → i < n.facts → fact_at S i s ≡ ok (fact_of S i) s
  unfolding fact_at
  fact_found s l = ap (λ (o : Option Fact). found 34 o s) (entry_at S.facts i no_fact (fact_here l))

  pub fact_none : {A : Type 0} (s : A) → n.facts ≤ i → fact_at S i s ≡ refuse 34 0 s
  unfolding fact_at
  fact_none s l = ap (λ (o : Option Fact). found 34 o s) (no_entry S.facts i (omega (arith, l, h.many)))

  -- what the readers of a fact ask
  pub fact_asks : i < n.facts → FactAt R.facts i
  fact_asks l = (tabled_long (facts_tabled h), omega (arith, l, (facts_tabled h).few))

  pub footing_asks : i < n.facts → FootingAt R.footings i
  footing_asks l = (tabled_long (footings_tabled h), omega (arith, l, (facts_tabled h).few))
