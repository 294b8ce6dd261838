-- A form that is taken or refused, from what it was when it was tried: the terms of a refused form are taken away. Assumes nothing.
use mathlib.Core.Path.{◌≡◌, refl, sym, ap, ◌∙◌, subst}
use mathlib.Core.Bool.{true, false, false≢true, true≢false}
use native.Mathlib.Omega.{arith}
use Rattle.std.specs.Prelude.{Result, Ok, Err}
use Rattle.std.specs.Result.{is_err}
use Rattle.rules.specs.Out.{Out, refuse}
use Rattle.rules.specs.State.{State}
use Rattle.questions.specs.declared.Question.{Question}
use Rattle.questions.specs.Numbers.{number_of, detail_of}
use Rattle.terms.specs.declared.store.Mark.{Mark}
use Rattle.terms.specs.declared.store.Store.{Store}
use Rattle.terms.specs.Table.{Part, Back}
use Rattle.terms.specs.Laws.Growth.{same_then, start_same, made_same}
use Rattle.state.specs.declared.sizes.Sizes.{Sizes}
use Rattle.state.specs.declared.board.Given.{Given}
use Rattle.state.specs.declared.board.Board.{Board}
use Rattle.state.specs.Stands.{Board as Tables, Stands}
use Rattle.forms.specs.Boards.{StandsIn, texts_of, theory_of}
use Rattle.forms.specs.Moved.{store_now, LeftIn}
use Rattle.forms.specs.Laws.Leaving.{stands_again}
use Rattle.taking.specs.Taking.{Refuses}

-- what a result is, by whether it is an error
pub err_of : {T E : Type 0} (r : Result T E) → is_err r ≡ true → (e : E) × (r ≡ Err e)
err_of (Ok _) h = absurd (false≢true h)
err_of (Err e) h = (e, refl)

pub ok_of : {T E : Type 0} (r : Result T E) → is_err r ≡ false → (x : T) × (r ≡ Ok x)
ok_of (Ok x) h = (x, refl)
ok_of (Err _) h = absurd (true≢false h)

-- what is said of a refused form
abbrev pub Refused : Given → Board → Board → Store → Store → State → Out State (Unit {0}) → Question → Type 0
Refused g b c s t S K q = Refuses K (number_of q) (detail_of q) × StandsIn g c t S × (c.n ≡ b.n) × (t.mark ≡ s.mark)

-- c, t: the tables and the store when the form was tried
module _ (g : Given) (b c : Board) (s t : Store) {S : State} (h : StandsIn g b s S) {K : Out State (Unit {0})} (q : Question) (a : LeftIn b c s t K q) where
  -- what `forget` is given
  pub left_part : Part t.index.now t.words.now t.mark s.mark
  left_part =
      let r = a.0.makes.grown in
      record { good = r.good; fewer = r.more; ends = r.was.ends ∙ sym (start_same r.was r.same s.mark.terms (omega arith)) }

  -- u: the store without its terms
  pub left_back : (u : Store) → Back t.index.now t.words.now u.index.now u.words.now s.mark → u.mark ≡ s.mark → {L : Out State (Unit {0})} → L ≡ K → Refused g b c s u S L q
  left_back u k m l =
      let r = a.0.makes.grown in (
        record { until = a.0.until; is = l ∙ a.0.is },
        subst (λ (z : Tables × Sizes × Mark). Stands (texts_of g) (theory_of g) z.0 z.1 z.2 S)
            (λ i. (sym (ap (λ (z : Tables). store_now z u.index.now u.words.now) a.0.rests) i, sym a.1 i, sym m i))
            (stands_again h k.good (made_same r.was (same_then r.same k.same (omega arith) (omega arith)) ∙ h.store)),
        a.1,
        m,
      )

-- refused before anything is made
pub never_tried : (g : Given) (b : Board) (s : Store) {S : State} {L : Out State (Unit {0})} (q : Question) → StandsIn g b s S → L ≡ refuse (number_of q) (detail_of q) S →
    Refused g b b s s S L q
never_tried g b s {S} q h e = (record { until = S; is = e }, h, refl, refl)
