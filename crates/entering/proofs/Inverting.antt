-- The form of an inversion: a derived fact comes behind the others, and then the rows of the variables that were made. Assumes nothing.
use Rattle.std.specs.Prelude.{◌≡◌, refl, List, ℕ, ◌-◌, ◌≤◌, length, take, drop, Result, Ok as done, Err as refused}
use Rattle.std.proofs.Common.{sym, ap, subst, arith, length-append, length-take}
use Rattle.rules.specs.Limits.{VARIABLES}
use Rattle.rules.specs.Out.{then, Act}
use Rattle.rules.specs.Sexp.{Sexps}
use Rattle.rules.specs.State.{State, Var, Fact}
use Rattle.rules.specs.Invert.{invert}
use Rattle.rules.specs.Forms.{with_made, with_vars, making, add_fact, add_invert, one_inversion}
use Rattle.rules.proofs.Laws.Appends.{Behind}
use Rattle.rules.specs.Laws.Sound.{sound}
use Rattle.rules.proofs.Laws.MadeActions.{invert_sound}
use Rattle.rules.specs.Laws.Out.{of_ok}
use Rattle.rules.specs.Laws.Ready.{Ready}
use Rattle.rules.specs.Laws.Shape.{invert_shape}
use Rattle.questions.specs.declared.Row.{Row}
use Rattle.questions.specs.declared.Question.{Question}
use Rattle.questions.specs.declared.Question.TheVariants.{Room}
use Rattle.terms.specs.declared.store.Store.{Store}
use Rattle.terms.specs.Table.{tree}
use Rattle.terms.specs.Lent.{made_of}
use Rattle.state.specs.declared.sizes.Sizes.{Sizes}
use Rattle.state.specs.declared.board.Given.{Given}
use Rattle.state.specs.declared.board.Board.{Board}
use Rattle.state.specs.Boards.{records_of, OnlyFacts, EnterAs, Words}
use Rattle.state.specs.Held.{Records, Recorded, VarsHeld}
use Rattle.state.specs.Used.{vars_now}
use Rattle.state.specs.Rows.{Putting}
use Rattle.state.specs.Recording.{DerivedPut}
use Rattle.state.specs.Parts.{recorded_vars}
use Rattle.counts.specs.declared.Counts.{Counts}
use Rattle.counts.specs.Counted.{counts_of}
use Rattle.referring.specs.declared.support.Derived.{Derived}
use Rattle.referring.specs.Derived.{derived_fact}
use Rattle.referring.specs.Sources.{source_of}
use Rattle.inversion.specs.declared.inverting.Variables.{Variables}
use Rattle.inversion.specs.InvertRules.{vars_with, nameless}
use Rattle.inversion.specs.Inversions.{InvertedRead}
use Rattle.inversion.specs.Inverting.{InvertsForm, InvertedAs}
use Rattle.forms.specs.Laws.Making.{Reached, reached_start, reached_went, reached_stopped}
use Rattle.entering.specs.Inverted.{AddsInversionIn, InversionBy, InversionAs}
use Rattle.entering.proofs.Entering.{entering_ok, entering_full, fits_cell, derived_putting}
use Rattle.inversion.proofs.InvertNames.{nameless_length}

-- Other sizes ------------------------------------------------------------------------------------------------------------------------

-- what is put does not depend on how many variables there are
sized : (R Q : Records) (n : Sizes) (v j : ℕ) (hyps footing : List ℕ) (r : Result ℕ Row) → DerivedPut R Q n j hyps footing r →
    DerivedPut R Q (vars_now n v) j hyps footing r
sized R Q n v j hyps footing (done e) p = (record { facts = p.0.facts; lists = p.0.lists; footings = p.0.footings; room = p.0.room }, p.1, p.2)
sized R Q n v j hyps footing (refused row) p = p

-- `invert` -----------------------------------------------------------------------------------------------------------------------------

-- b, s before; t: the store behind what was found
module _ (g : Given) (b : Board) (s t : Store) (cells : List ℕ) where
  abbrev Found : Variables → Result Derived Question → Type 0
  Found v r = (x : InvertsForm (source_of g b) g.rules s cells) → InvertedAs s t x.S (invert x.S x.xs (made_of s)) v r

  module _ (x : AddsInversionIn g b s cells) where
    abbrev S : State
    S = x.form.S

    abbrev xs : Sexps
    xs = x.form.xs

    abbrev rest : Fact × List Var → Act State (Unit {0})
    rest r U = add_fact r.0 one_inversion (with_vars U r.1)

    ready : Ready sound S (made_of s)
    ready = x.form.refers.reads.spelling.trees

    invert_start : Reached s.index.now s.words.now s.mark S (add_invert xs S) s.index.now s.words.now s.mark
        (then (making (invert S xs) (with_made S (made_of s))) rest)
    unfolding add_invert then
    invert_start = reached_start x.form.refers.reads.good ready x.store (λ T. then (making (invert S xs) T) rest)

    -- a question is left
    pub invert_halted : (v : Variables) (q : Question) → Found v (refused q) → InversionAs g b b s t S (add_invert xs S) (refused q)
    invert_halted v q f = (
      record {
        us = S.vars;
        halts = reached_stopped (invert S xs) rest invert_start (invert_sound (made_of s) S ready xs) (f x.form);
        facts_same = refl;
        vars_same = refl;
      },
      refl,
    )

    module _ (v : Variables) (d : Derived) (f : Found v (done d)) where
      abbrev us : List Var
      us = vars_with S.vars v.sorts v.count

      abbrev S' : State
      S' = with_vars S us

      abbrev hyps : List ℕ
      hyps = d.support.hyps

      abbrev footing : List ℕ
      footing = d.support.footing

      read : InvertedRead s.index.now s.words.now t.index.now t.words.now s.mark S (invert S xs (made_of s)) hyps footing v.sorts d.judgment v.count t.mark
      read = (f x.form).0

      pub invert_putting : Putting (records_of b) b.n d.judgment
      invert_putting = derived_putting x.form.refers.recorded (fits_cell read.went.grown.good read.there)

      reached : Reached s.index.now s.words.now s.mark S' (add_invert xs S) t.index.now t.words.now t.mark
          (add_fact (derived_fact S (tree t.index.now t.words.now t.mark d.judgment) hyps footing) one_inversion (with_made S' (made_of t)))
      reached =
          let o = reached_went (invert S xs) rest invert_start (invert_sound (made_of s) S ready xs) read.went in
          record { makes = o.makes; here = o.here }

      behind : Behind S.vars us
      behind = record { new = _; is = refl }

      there : Recorded (records_of b) (vars_now b.n v.count) (made_of s) S'
      there = recorded_vars x.form.refers.recorded v.count behind
          (let n = nameless_length (take (v.count - length S.vars) (drop (length S.vars) v.sorts)) in
          let m = length-take (v.count - length S.vars) (drop (length S.vars) v.sorts) in
          let l = length-append S.vars (nameless (take (v.count - length S.vars) (drop (length S.vars) v.sorts))) in
          omega (arith, n, m, l, read.more, read.few))

      -- there is no room for the fact
      pub invert_full : (c : Board) → OnlyFacts b c → (row : Row) → EnterAs b c d.judgment hyps footing (refused row) →
          InversionAs g b c s t S (add_invert xs S) (refused (Room row))
      invert_full c o row p =
          let z = entering_full there d.judgment hyps footing (λ _. one_inversion) 0 reached read.earlier row
          (sized (records_of b) (records_of c) b.n v.count d.judgment hyps footing (refused row) p.0) in
          (record { us = us; halts = z.0; facts_same = z.1; vars_same = o.0 }, p.1)

      -- there is; vars: the rows of variables then
      pub invert_entered : (c : Board) (vars : List ℕ) → Words footing → length footing ≡ 4 → EnterAs b c d.judgment hyps footing (done tt) →
          VarsHeld g.goals.now g.text.now vars v.count us → (u : Counts) → counts_of u ≡ one_inversion →
          InversionBy g.goals.now g.text.now (records_of b) (records_of c) b.n (vars_now c.n v.count) s.index.now s.words.now t.index.now t.words.now s.mark t.mark
          S (add_invert xs S) b.vars.now vars (done u)
      invert_entered c vars w l p h u k = (
        record {
          us = us;
          held = h;
          behind = behind;
          added = entering_ok there d.judgment hyps footing (λ _. one_inversion) 0 reached read.earlier read.there read.known
              (of_ok (invert_shape S x.form.refers.recorded.shaped xs (made_of s)) read.went.makes) l w
              (sized (records_of b) (records_of c) b.n v.count d.judgment hyps footing (done c.n.entries) p.0);
        },
        ap (λ z. vars_now z v.count) p.1,
        k,
      )

      pub invert_held : (c : Board) → OnlyFacts b c → EnterAs b c d.judgment hyps footing (done tt) →
          VarsHeld g.goals.now g.text.now c.vars.now c.n.vars S.vars
      invert_held c o p =
          subst (λ (q : List ℕ × ℕ). VarsHeld g.goals.now g.text.now q.0 q.1 S.vars) (λ i. (sym o.0 i, (sym p.1 i).vars)) x.form.refers.reads.spelling.vars

      -- what `put_made` asks
      pub invert_makes : (c : Board) → OnlyFacts b c → EnterAs b c d.judgment hyps footing (done tt) →
          ((goals : List ℕ) × (text : List ℕ) × (vs : List Var) × VarsHeld goals text c.vars.now c.n.vars vs) × (c.n.vars ≤ v.count) × (v.count ≤ VARIABLES)
      invert_makes c o p = (
        (g.goals.now, g.text.now, S.vars, invert_held c o p),
        let z = ap (λ (q : Sizes). q.vars) p.1 in omega (arith, z, read.more, x.form.refers.reads.spelling.vars.stand.many),
        read.few,
      )
