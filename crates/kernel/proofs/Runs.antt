-- What is held while the loop of `declarations` goes through a text (sexp/specs/Through), and what `read_all` says before. Assumes nothing.
use mathlib.Core.Path.{◌≡◌, refl, sym, ap, ◌∙◌, subst}
use Prim.Native.Nat.{ℕ, ◌+◌}
use mathlib.Core.List.{List, ◌++◌, append-nil}
use native.Mathlib.Omega.{arith}
use lib.ListN.{take, drop, replicate}
use Rattle.rules.specs.Sexp.{read}
use Rattle.rules.specs.Theory.{Theory, no_theory, rule_words}
use Rattle.rules.specs.Laws.Theory.{empty}
use Rattle.rules.specs.TheoryTables.{rows, rule_cells}
use Rattle.rules.specs.Declare.{declare}
use Rattle.rules.specs.Loop.{Judged as Verdict, done, refused, through}
use Rattle.sexp.specs.Encode.{encode}
use Rattle.sexp.specs.Reads.{ReadRight}
use Rattle.sexp.specs.ReadLaws.{FormIs}
use Rattle.sexp.specs.Through.{Legible, Going, going_first, going_ends, going_fails, going_form, going_refused, going_taken, whole_refused, whole_forms}
use Rattle.sexp.specs.Whole.{EndsAs}
use Rattle.std.specs.Prelude.{Option, Some as some, None as nothing, Result, Ok, Err}
use Rattle.questions.specs.declared.Question.{Question}
use Rattle.questions.specs.declared.Refused.{Refused}
use Rattle.questions.specs.Numbers.{number_of, detail_of}
use Rattle.sexp.specs.declared.sexp.Form.{Form}
use Rattle.kernel.specs.Parsed.{TheoryLists, TheoryHeld, Formed, DeclaredAs, Taken, Exact, Run, counts_of, no_counts, theory_of, verdict, CountsFit, wiped, theory_tables}
use Rattle.kernel.specs.declared.tables.Counts.{Counts}
use Rattle.kernel.proofs.Handed.{behind, behind_err}
use Rattle.kernel.proofs.Laid.{counts_are, within_of, laid_of, laid_held}

-- What is held at the end ----------------------------------------------------------------------------------------------------------

module _ {text : List ℕ} {t : TheoryLists} {n : Counts} (T : Theory) (h : TheoryHeld text t n T) where
  run_done : (J : Verdict Theory) (k : ℕ) → J ≡ done k T → Run text t n J (Ok k)
  run_done J k e = subst (λ z. Run text t n z (Ok k)) (sym e) (record { answers = refl; held = h })

  run_refused : (J : Verdict Theory) (q : Question) (k : ℕ) → J ≡ refused (number_of q) (detail_of q) k T → Run text t n J (Err (record { question = q; form = k }))
  run_refused J q k e = subst (λ z. Run text t n z (Err (record { question = q; form = k }))) (sym e) (record { answers = refl; held = h })

-- nothing is held in tables of any content
pub held_none : (text : List ℕ) (t : TheoryLists) → Exact t → TheoryHeld text t no_counts no_theory
unfolding rows rule_cells rule_words
held_none text t x =
    record {
      sorts = record { many = refl; long = x.sorts; front = record { rest = t.sorts; is = refl }; names = empty };
      symbols = record {
        many = refl;
        long = x.symbols;
        longs = x.inputs;
        front = record { rest = t.symbols; is = refl };
        fronts = record { rest = t.inputs; is = refl };
        names = empty;
        few = empty;
      };
      rules = record {
        many = refl;
        used = refl;
        few = omega arith;
        long = x.rules;
        longs = x.rule_vars;
        room = x.patterns;
        front = record { rest = t.rules; is = refl };
        fronts = record { rest = t.rule_vars; is = refl };
        written = record { rest = t.patterns; is = refl };
        names = empty;
        vars_few = empty;
        vars_named = empty;
      };
    }

-- A text that is read whole --------------------------------------------------------------------------------------------------------

module _ (text : List ℕ) (t : TheoryLists) (x : Exact t) (c : Counts) (z : c ≡ no_counts) where
  start_held : TheoryHeld text t c no_theory
  start_held = subst (λ m. TheoryHeld text t m no_theory) (sym z) (held_none text t x)

  pub unread_refused : (r : Result ℕ Refused) → EndsAs (read text) 0 r → {q : Refused} → r ≡ Err q → Run text t c (verdict text) (Err q)
  unfolding verdict
  unread_refused r e {q} b = run_refused no_theory start_held (verdict text) q.question q.form (whole_refused declare no_theory (read text) r e b)

pub read_whole : (text : List ℕ) (t : TheoryLists) (n : Counts) (r w : Result ℕ Refused) → EndsAs (read text) 0 w → {k : ℕ} → w ≡ Ok k →
    Run text t n (through declare (read text) 0 no_theory) r →
    Run text t n (verdict text) r
unfolding verdict
read_whole text t n r w e b k = subst (λ z. Run text t n z r) (sym (whole_forms declare no_theory (read text) w e b)) k

-- The loop -------------------------------------------------------------------------------------------------------------------------

-- so many forms are declared, and what they declare is held
pub record Underway (text cells₀ cells : List ℕ) (t : TheoryLists) (held : Counts) (forms at : ℕ) : Type 0 where
  pub T : Theory
  pub theory : TheoryHeld text t held T
  pub going : Going declare text cells₀ cells (through declare (read text) 0 no_theory) T forms at

pub underway_first : (text cells : List ℕ) (t : TheoryLists) (x : Exact t) (c : Counts) → c ≡ no_counts → Legible text cells → Underway text cells cells t c 0 0
underway_first text cells t x c z l = record { T = no_theory; theory = start_held text t x c z; going = going_first declare no_theory l }

module _ {text w₀ w : List ℕ} {t : TheoryLists} {held : Counts} {forms at : ℕ} (g : Underway text w₀ w t held forms at)
    {v : List ℕ} {r : Result (Option Form) Question} (k : ReadRight text at w v r) where
  pub ended : r ≡ Ok nothing → Run text t held (through declare (read text) 0 no_theory) (Ok forms) × (v ≡ w₀)
  ended e = let a = going_ends g.going k e in (run_done g.T g.theory _ forms a.0, a.1)

  pub failed : {f : Refused} → behind forms r ≡ Err f → Run text t held (through declare (read text) 0 no_theory) (Err f)
  failed e =
      let q = behind_err forms r e in
      subst (λ f. Run text t held (through declare (read text) 0 no_theory) (Err f)) q.2 (run_refused g.T g.theory _ q.0 forms (going_fails g.going k q.1).0)

  module _ {form : Form} (e : r ≡ Ok (some form)) where
    abbrev pub it : FormIs text at w v form.end form.cells
    it = going_form g.going k e

    pub formed : Formed text (take form.cells v) it.form
    unfolding encode
    formed = record { encoded = it.holds.cells ∙ append-nil (encode it.form); spelt = it.holds.spelt.0 }

    module _ (t' : TheoryLists) (m : Counts) (d : Result Unit Question) (s : DeclaredAs text t' m g.T (declare it.form g.T) d) where
      pub declared_no : {f : Refused} → behind forms d ≡ Err f → Run text t' m (through declare (read text) 0 no_theory) (Err f)
      declared_no b =
          let q = behind_err forms d b in
          let z : DeclaredAs text t' m g.T (declare it.form g.T) (Err q.0) = subst (DeclaredAs text t' m g.T (declare it.form g.T)) q.1 s in
          subst (λ f. Run text t' m (through declare (read text) 0 no_theory) (Err f)) q.2 (run_refused g.T z.1 _ q.0 forms (going_refused g.going k e z.0))

      pub declared_ok : {y : Unit} {u : List ℕ} → d ≡ Ok y → u ≡ replicate form.cells 0 ++ drop form.cells v → Underway text w₀ u t' m (forms + 1) form.end
      declared_ok {y} f c =
          let z : Taken text t' (declare it.form g.T) m = subst (DeclaredAs text t' m g.T (declare it.form g.T)) f s in
          record { T = z.now; theory = z.held; going = going_taken g.going k e z.is c }

pub no_form : (r : Option Form) → ((f : Form) → r ≡ some f → ⊥) → r ≡ nothing
no_form nothing n = refl
no_form (some f) n = absurd (n f refl)

-- The answer of `parse_exact` ------------------------------------------------------------------------------------------------------------

module _ {text : List ℕ} (t : TheoryLists) (n : Counts) (J : Verdict Theory) {r : Result ℕ Refused} (k : Run text t n J r) where
  pub run_counts : n ≡ counts_of (theory_of J)
  run_counts = counts_are k.held

  counted : TheoryHeld text t (counts_of (theory_of J)) (theory_of J)
  counted = subst (λ m. TheoryHeld text t m (theory_of J)) run_counts k.held

  pub run_within : CountsFit t n
  run_within = subst (CountsFit t) (sym run_counts) (within_of (theory_of J) counted)

  pub run_laid : {u : TheoryLists} → u ≡ wiped t n → u ≡ theory_tables (theory_of J)
  run_laid f = f ∙ ap (wiped t) run_counts ∙ laid_of (theory_of J) counted

  pub run_held : TheoryHeld text (theory_tables (theory_of J)) (counts_of (theory_of J)) (theory_of J)
  run_held = laid_held (theory_of J) counted
