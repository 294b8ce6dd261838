-- Laws for those who go through a text form by form (`through` of rules/specs/Loop) with `read_form`, after `read_all` or not: what each
-- answer says of the whole, the form taken, the form refused. Assumes nothing.
use Rattle.std.specs.Prelude.{◌≡◌, ℕ, suc, ◌+◌, ◌≤◌, List, ◌++◌, length, take, drop, replicate, Option, Some as some, None as nothing, Result, Ok, Err}
use Rattle.std.proofs.Math.Path.{refl, ap}
use Rattle.std.proofs.Common.{sym, ◌∙◌, arith, add-one, length-take-le}
use Rattle.rules.specs.Limits.{LENGTH}
use Rattle.rules.specs.Out.{Out, ok, refuse, Act}
use Rattle.rules.specs.Sexp.{Sexp, atom, list, Text, ends, fails, more, read, read_from}
use Rattle.rules.specs.Loop.{Judged, done, refused, through, unread, whole}
use Rattle.sexp.specs.Reads.{Clear, ReadRight}
use Rattle.sexp.specs.ReadLaws.{read_first, FormIs, at_end, at_refused, at_form, form_cleared}
use Rattle.questions.specs.declared.Question.{Question}
use Rattle.questions.specs.declared.Refused.{Refused}
use Rattle.questions.specs.Numbers.{number_of, detail_of}
use Rattle.sexp.specs.Whole.{EndsAs}
use Rattle.sexp.specs.declared.sexp.Form.{Form}

-- a text that is not too long, with cells of zeros for its forms
pub record Legible (text cells : List ℕ) : Type 0 where
  pub short : length text ≤ LENGTH
  pub fits : length text ≤ length cells
  pub clear : Clear cells

-- A text that is read whole --------------------------------------------------------------------------------------------------------

-- the refusal, if there is one
abbrev pub refusal_in : Result ℕ Refused → Option (ℕ × ℕ)
refusal_in (Ok n) = nothing
refusal_in (Err r) = some (number_of r.question, r.form)

-- what the reader says is what the definition asks
pub unread_whole : (t : Text) (k : ℕ) (r : Result ℕ Refused) → EndsAs t k r → unread t k ≡ refusal_in r
unfolding EndsAs unread
unread_whole ends k r e = ap refusal_in (sym e)
unread_whole (fails n) k r e = ap (λ (m : ℕ). some (m, k)) (sym e.2.number) ∙ ap refusal_in (sym e.1)
unread_whole (more (atom p bs) q t) k r e = unread_whole t k r e
unread_whole (more (list xs) q t) k r e = ap (unread t) (sym (add-one k)) ∙ unread_whole t (k + 1) r e

-- and it tells nothing beside the number
pub unread_detail : (t : Text) (k : ℕ) (r : Refused) → EndsAs t k (Err r) → detail_of r.question ≡ 0
unfolding EndsAs
unread_detail ends k r e = cc
unread_detail (fails n) k r e =
    let h : r ≡ record { question = e.0; form = k } = cc (e.1) in
    ap (λ (x : Refused). detail_of x.question) h ∙ e.2.detail
unread_detail (more (atom p bs) q t) k r e = unread_detail t k r e
unread_detail (more (list xs) q t) k r e = unread_detail t (k + 1) r e

module _ {S : Type 0} (f : Sexp → Act S (Unit {0})) (s : S) (t : Text) (r : Result ℕ Refused) (e : EndsAs t 0 r) where
  abbrev after : Option (ℕ × ℕ) → Judged S
  after o = elim o [ nothing ↦ through f t 0 s | some q ↦ refused q.0 0 q.1 s ]

  whole_is : whole f t s ≡ after (refusal_in r)
  unfolding whole
  whole_is = ap after (unread_whole t 0 r e)

  pub whole_refused : {q : Refused} → r ≡ Err q → whole f t s ≡ refused (number_of q.question) (detail_of q.question) q.form s
  whole_refused {q} b =
      whole_is ∙ ap (λ w. after (refusal_in w)) b
      ∙ ap (λ (d : ℕ). refused (number_of q.question) d q.form s) (sym (unread_detail t 0 q (rw b at e)))

  pub whole_forms : {n : ℕ} → r ≡ Ok n → whole f t s ≡ through f t 0 s
  whole_forms b = whole_is ∙ ap (λ w. after (refusal_in w)) b

-- The definition, form by form -----------------------------------------------------------------------------------------------------

module _ {S : Type 0} (f : Sexp → Act S (Unit {0})) (k : ℕ) (s : S) where
  pub through_ends : through f ends k s ≡ done k s
  unfolding through
  through_ends = refl

  pub through_fails : (n : ℕ) → through f (fails n) k s ≡ refused n 0 k s
  unfolding through
  through_fails n = refl

  module _ (x : Sexp) (p : ℕ) (t : Text) where
    pub through_taken : (u : S) → f x s ≡ ok tt u → through f (more x p t) k s ≡ through f t (k + 1) u
    unfolding through
    through_taken u e =
        ap (λ (o : Out S (Unit {0})). elim o [ ok a z ↦ through f t (suc k) z | refuse n d z ↦ refused n d k s ]) e
        ∙ ap (λ (j : ℕ). through f t j u) (sym (add-one k))

    pub through_refused : (n d : ℕ) (u : S) → f x s ≡ refuse n d u → through f (more x p t) k s ≡ refused n d k s
    unfolding through
    through_refused n d u e = ap (λ (o : Out S (Unit {0})). elim o [ ok a z ↦ through f t (suc k) z | refuse m c z ↦ refused m c k s ]) e

-- A loop over `read_form` ------------------------------------------------------------------------------------------------------------

-- J is what the definition says of the whole. So many forms are taken, s is the state behind them, and the text from `at` on decides what is
-- left; w are the cells now, w₀ those before
pub record Going {S : Type 0} (f : Sexp → Act S (Unit {0})) (text w₀ w : List ℕ) (J : Judged S) (s : S) (forms at : ℕ) : Type 0 where
  pub left : through f (read_from text at) forms s ≡ J
  pub legible : Legible text w₀
  pub same : w ≡ w₀
  pub high : at ≤ length text
  pub few : forms ≤ at

pub going_first : {S : Type 0} (f : Sexp → Act S (Unit {0})) (s : S) {text w : List ℕ} → Legible text w →
    Going f text w w (through f (read text) 0 s) s 0 0
going_first f s {text} l =
    record { left = ap (λ t. through f t 0 s) (sym (read_first text)); legible = l; same = refl; high = omega arith; few = omega arith }

module _ {S : Type 0} {f : Sexp → Act S (Unit {0})} {text w₀ w : List ℕ} {J : Judged S} {s : S} {forms at : ℕ} (g : Going f text w₀ w J s forms at) where
  lengths : length w ≡ length w₀
  lengths = ap length g.same

  clean : Clear w
  clean = rw g.same g.legible.clear

  -- what `read_form` asks
  pub going_asks : (at ≤ length text) × Legible text w
  going_asks = (g.high, rw g.same g.legible)

  module _ {v : List ℕ} {r : Result (Option Form) Question} (k : ReadRight text at w v r) where
    back : v ≡ replicate (length w) 0 → v ≡ w₀
    back e = e ∙ sym clean ∙ g.same

    pub going_ends : r ≡ Ok nothing → (J ≡ done forms s) × (v ≡ w₀)
    going_ends e =
        let a = at_end k e in
        (sym g.left ∙ ap (λ t. through f t forms s) a.0 ∙ through_ends f forms s, back a.1)

    pub going_fails : {q : Question} → r ≡ Err q → (J ≡ refused (number_of q) (detail_of q) forms s) × (v ≡ w₀)
    going_fails {q} e =
        let a = at_refused k e in (
          sym g.left ∙ ap (λ t. through f t forms s) a.0 ∙ through_fails f forms s (number_of q)
              ∙ ap (λ (d : ℕ). refused (number_of q) d forms s) (sym a.1),
          back a.2,
        )

    module _ {form : Form} (e : r ≡ Ok (some form)) where
      -- the form's cells are the first ones
      pub going_form : FormIs text at w v form.end form.cells
      going_form = at_form k going_asks.1.fits e

      pub going_room : length v ≡ length w → form.cells ≤ length v
      going_room l = omega (arith, going_form.room, l)

      pub going_cells : length v ≡ length w → form.cells ≡ length (take form.cells v)
      going_cells l = sym (length-take-le form.cells v (going_room l))

      -- they are set back
      pub going_cleared : {u : List ℕ} → u ≡ replicate form.cells 0 ++ drop form.cells v → u ≡ w₀
      going_cleared {u} c = form_cleared going_form u c ∙ sym clean ∙ g.same

      -- the form is refused
      pub going_refused : {a d : ℕ} {z : S} → f going_form.form s ≡ refuse a d z → J ≡ refused a d forms s
      going_refused {a} {d} {z} h =
          sym g.left ∙ ap (λ t. through f t forms s) going_form.reads ∙ through_refused f forms s going_form.form form.end (read_from text form.end) a d z h

      -- the form is taken
      pub going_taken : {u : List ℕ} {z : S} → f going_form.form s ≡ ok tt z → u ≡ replicate form.cells 0 ++ drop form.cells v → Going f text w₀ u J z (forms + 1) form.end
      going_taken {z = z} h c =
          record {
            left = sym (through_taken f forms s going_form.form form.end (read_from text form.end) z h)
                ∙ ap (λ t. through f t forms s) (sym going_form.reads) ∙ g.left;
            legible = g.legible;
            same = going_cleared c;
            high = going_form.within;
            few = omega (arith, going_form.on, g.few);
          }
