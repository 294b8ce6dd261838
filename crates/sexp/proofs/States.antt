-- The loop of `read_form`, as steps from state to state. Assumes nothing.
use mathlib.Core.Path.{◌≡◌, refl, sym, ap, ◌∙◌}
use Prim.Native.Nat.{ℕ, suc, ◌+◌, ◌*◌, ◌-◌, ◌^◌, ◌≤◌, ◌<◌}
use mathlib.Core.List.{List, [], ◌∷◌, ◌++◌}
use native.Mathlib.Numerals.{add-one}
use native.Mathlib.Omega.{arith}
use lib.ListN.{length, drop, set, get_or, replicate, length-append}
use Rattle.rules.specs.Limits.{LENGTH, DEPTH}
use Rattle.rules.specs.Lex.{Token, letters}
use Rattle.rules.specs.Sexp.{Sexp, Sexps, atom, list, nil, snoc, Text, ends as ended, fails, more, forms, read_from}
use Rattle.rules.specs.Laws.Sexp.{forms_opens, forms_deep, forms_stray, forms_closes, forms_closed, forms_word, forms_bare, forms_ends, forms_open_end}
use Rattle.sexp.specs.Lexed.{from}
use Rattle.sexp.specs.Tokens.{Comes, Gives}
use Rattle.sexp.specs.declared.tokens.Token.TheVariants.{Open, Close, Atom}
use Rattle.sexp.specs.Spelt.{AtomAt}
use Rattle.sexp.specs.Encode.{encode, encodes}
use Rattle.std.specs.Prelude.{Option, Some as some, None as nothing, Result, Ok, Err}
use Rattle.questions.specs.declared.Question.{Question}
use Rattle.questions.specs.declared.Question.TheVariants.{Brackets}
use Rattle.sexp.specs.Reads.{Clear, Asks, Answers, written, Behind, ReadRight}
use Rattle.sexp.specs.Through.{Legible}
use Rattle.sexp.specs.declared.sexp.Form.{Form}
use Rattle.sexp.proofs.CellLaws.{stored, laid_length, zeros_behind, cleared}
use Rattle.sexp.proofs.OpenLists.{layout, top, layout_open, layout_snoc, top_snoc, layout_length, top_room, top_low, around, counted, Stands, snoc_spelt}

-- where the loop stands: what the definition reads from here, with the lists that are open, is what it reads from the start
pub record State (text : List ℕ) (start : ℕ) (w₀ w : List ℕ) (at used depth op : ℕ) : Type 0 where
  pub legible : Legible text w₀
  pub st : List Sexps
  pub laid : w ≡ layout st ++ drop used w₀
  pub uses : used ≡ length (layout st)
  pub opens : op ≡ top st
  pub deep : depth ≡ length st
  pub most : depth ≤ DEPTH
  pub high : at ≤ length text
  pub same : read_from text start ≡ forms st (from text at)
  pub few : start + used ≤ at
  pub stands : Stands text st

pub started : (text : List ℕ) (start : ℕ) (w : List ℕ) → start ≤ length text → Legible text w → State text start w w start 0 0 0
unfolding layout read_from
started text start w h l =
    record {
      legible = l;
      st = [];
      laid = refl;
      uses = refl;
      opens = refl;
      deep = refl;
      most = omega arith;
      high = h;
      same = refl;
      few = omega arith;
      stands = tt;
    }

-- question 4
pub brackets : Asks 4 Brackets
brackets = record { number = refl; detail = refl }

-- the answer is right, by what the definition reads
pub finish : {text : List ℕ} {start : ℕ} {w v : List ℕ} {r : Result (Option Form) Question} (n : Text) → read_from text start ≡ n → Answers n r → v ≡ written n (length w) → Behind text start n → ReadRight text start w v r
finish n e a b c = record { answers = rw e a; cells = rw e b; behind = rw e c }

module _ {text : List ℕ} {start : ℕ} {w₀ w : List ℕ} {at used depth op : ℕ} (s : State text start w₀ w at used depth op) where
  pub same_length : length w ≡ length w₀
  same_length = laid_length (layout s.st) w₀ w used s.laid (sym s.uses) (omega (arith, s.few, s.high, s.legible.fits))

  -- where the innermost list is
  pub head_used : (depth ≡ 0 → ⊥) → op < used
  head_used d = omega (arith, s.uses, s.opens, top_room s.st (λ e. d (s.deep ∙ e)))

  pub head_low : op ≤ used
  head_low = omega (arith, s.uses, s.opens, top_low s.st)

  -- the cells that a step takes are there, and what it stores fits
  pub used_most : (used ≤ LENGTH) × (used ≤ length w)
  used_most = (omega (arith, s.few, s.high, s.legible.short), omega (arith, s.few, s.high, s.legible.fits, same_length))

  module _ {p next : ℕ} {token : Token} (k : Comes text at p next token) where
    room : used < length w
    room = omega (arith, s.few, k.low, k.on, k.high, s.legible.fits, same_length)

    pub room_open : (used < length w) × (op < 2 ^ 32)
    room_open = (room, omega (arith, head_low, used_most.0))

    pub room_word : (used < length w) × (2 * p + 1 < 2 ^ 32)
    room_word = (room, omega (arith, k.on, k.high, s.legible.short))

  pub room_close : (depth ≡ 0 → ⊥) → (op < length w) × (2 * (used - op - 1) < 2 ^ 32)
  room_close d = (omega (arith, head_used d, used_most.1), omega (arith, used_most.0))

  -- the text is refused: the cells are set back
  pub refused : {n : ℕ} (q : Question) → Asks n q → read_from text start ≡ fails n → (v : List ℕ) → v ≡ replicate used 0 ++ drop used w → ReadRight text start w₀ v (Err q)
  refused {n} q k e v f =
      finish (fails n) e (q, refl, k)
      (f ∙ cleared (layout s.st) w₀ w used s.legible.clear s.laid (sym s.uses) (omega (arith, s.few, s.high, s.legible.fits))) tt

  -- with nothing open nothing is stored
  unused : s.st ≡ [] → w ≡ replicate (length w₀) 0
  unfolding layout
  unused e =
      let u : used ≡ 0 = s.uses ∙ ap (λ x. length (layout x)) e in
      s.laid ∙ rw (e, u) s.legible.clear

  pub ends : from text at ≡ [] → depth ≡ 0 → ReadRight text start w₀ w (Ok nothing)
  ends i d = go s.st refl
    where
      go : (st : List Sexps) → s.st ≡ st → ReadRight text start w₀ w (Ok nothing)
      go [] e = finish ended (s.same ∙ rw (e, i) forms_ends) refl (unused e) tt
      go (xs ∷ st) e = absurd (omega (arith, s.deep, ap length e))

  pub unclosed : from text at ≡ [] → (depth ≡ 0 → ⊥) → read_from text start ≡ fails 4
  unclosed i d = s.same ∙ rw i (forms_open_end s.st (λ e. d (s.deep ∙ e)))

  module _ {next : ℕ} where
    module _ (g : Gives text at Open next) where
      pub too_deep : depth ≡ DEPTH → read_from text start ≡ fails 5
      too_deep d = s.same ∙ ap (forms s.st) g.2.same ∙ forms_deep s.st _ _ (sym s.deep ∙ d)

      pub opens_on : (depth ≡ DEPTH → ⊥) → State text start w₀ (set w used op) next (used + 1) (depth + 1) used
      unfolding layout
      opens_on d =
          record {
            legible = s.legible;
            st = nil ∷ s.st;
            laid = rw (layout_open s.st, ← s.opens) (stored (layout s.st) w₀ w used op s.laid (sym s.uses) (omega (arith, room g.2, same_length)));
            uses = omega (arith, ap length (layout_open s.st), length-append (layout s.st) (top s.st ∷ []), s.uses);
            opens = s.uses;
            deep = omega (arith, s.deep);
            most = omega (arith, s.most, d);
            high = g.2.high;
            same = s.same ∙ ap (forms s.st) g.2.same ∙ forms_opens s.st _ _ (omega (arith, s.most, s.deep, d));
            few = omega (arith, s.few, g.2.low, g.2.on);
            stands = (tt, s.stands);
          }

    module _ (g : Gives text at Close next) where
      pub stray : depth ≡ 0 → ReadRight text start w₀ w (Err Brackets)
      stray d = go s.st refl
        where
          go : (st : List Sexps) → s.st ≡ st → ReadRight text start w₀ w (Err Brackets)
          go [] e = finish (fails 4) (s.same ∙ rw e (ap (forms []) g.2.same ∙ forms_stray _ _)) (Brackets, refl, brackets) (unused e) tt
          go (xs ∷ st) e = absurd (omega (arith, s.deep, ap length e))

      -- the number of cells of the list that is closed
      count_is : (xs : Sexps) (st : List Sexps) → s.st ≡ xs ∷ st → used - op - 1 ≡ length (encodes xs)
      count_is xs st e = omega (arith, layout_length xs st, s.uses, s.opens, ap (λ x. length (layout x)) e, ap top e)

      closed_laid : (xs : Sexps) (st : List Sexps) → s.st ≡ xs ∷ st → set w op (2 * (used - op - 1)) ≡ (layout st ++ encode (list xs)) ++ drop used w₀
      closed_laid xs st e =
          let o : op ≡ top (xs ∷ st) = s.opens ∙ ap top e in
          rw (o, counted xs st w (drop used w₀) (used - top (xs ∷ st) - 1) (s.laid ∙ rw e) (rw (← o) (count_is xs st e)))

      closed_uses : (xs : Sexps) (st : List Sexps) → s.st ≡ xs ∷ st → used ≡ length (layout st ++ encode (list xs))
      unfolding layout encode
      closed_uses xs st e = omega (arith, s.uses, ap (λ x. length (layout x)) e, layout_length xs st, length-append (layout st) (encode (list xs)))

      pub closes_on : (depth ≡ 0 → ⊥) → (depth - 1 ≡ 0 → ⊥) → State text start w₀ (set w op (2 * (used - op - 1))) next used (depth - 1) (get_or w op 0)
      closes_on d d' = go s.st refl
        where
          go : (st : List Sexps) → s.st ≡ st → State text start w₀ (set w op (2 * (used - op - 1))) next used (depth - 1) (get_or w op 0)
          go [] e = absurd (d (s.deep ∙ ap length e))
          go (xs ∷ []) e = absurd (d' (omega (arith, s.deep, ap length e)))
          go (xs ∷ ys ∷ st) e =
              let k : Stands text (xs ∷ ys ∷ st) = rw e at s.stands in
              record {
                legible = s.legible;
                st = snoc ys (list xs) ∷ st;
                laid = rw (layout_snoc ys st (list xs)) (closed_laid xs (ys ∷ st) e);
                uses = closed_uses xs (ys ∷ st) e ∙ ap length (sym (layout_snoc ys st (list xs)));
                opens = ap (λ x. get_or w x 0) (s.opens ∙ ap top e) ∙ around xs (ys ∷ st) w (drop used w₀) (s.laid ∙ rw e) ∙ sym (top_snoc ys st (list xs));
                deep = omega (arith, s.deep, ap length e);
                most = omega (arith, s.most);
                high = g.2.high;
                same = s.same ∙ rw e (ap (forms (xs ∷ ys ∷ st)) g.2.same ∙ forms_closes xs ys st _ _);
                few = omega (arith, s.few, g.2.low, g.2.on);
                stands = (snoc_spelt text ys (list xs) k.1.0 k.0, k.1.1);
              }

      pub closes_last : (depth ≡ 0 → ⊥) → depth - 1 ≡ 0 → ReadRight text start w₀ (set w op (2 * (used - op - 1))) (Ok (some (record { end = next; cells = used })))
      unfolding layout read_from
      closes_last d d' = go s.st refl
        where
          go : (st : List Sexps) → s.st ≡ st → ReadRight text start w₀ (set w op (2 * (used - op - 1))) (Ok (some (record { end = next; cells = used })))
          go [] e = absurd (d (s.deep ∙ ap length e))
          go (xs ∷ ys ∷ st) e = absurd (omega (arith, s.deep, ap length e, d'))
          go (xs ∷ []) e =
              let u : used ≡ length (encode (list xs)) = closed_uses xs [] e in
              let k : Stands text (xs ∷ []) = rw e at s.stands in
              let n : suc g.0 ≡ next = sym (g.1 ∙ add-one g.0) in
              finish (more (list xs) next (read_from text next))
              (s.same ∙ rw e (ap (forms (xs ∷ [])) g.2.same ∙ forms_closed xs _ _) ∙ ap (λ m. more (list xs) m (read_from text next)) n)
              (rw u)
              (closed_laid xs [] e ∙ rw (zeros_behind w₀ used s.legible.clear (omega (arith, s.few, s.high, s.legible.fits)), u))
              (record { follows = refl; on = omega (arith, s.few, g.2.low, g.2.on); within = g.2.high; spelt = k.0; few = omega (arith, s.few, g.2.low, g.2.on, u) })

    module _ {p : ℕ} (g : Gives text at (Atom p) next) where
      stands_here : AtomAt text p (letters (drop p text))
      stands_here = record { inside = omega (arith, g.1.on, g.1.high); bytes = refl }

      pub word_on : (depth ≡ 0 → ⊥) → State text start w₀ (set w used (2 * p + 1)) next (used + 1) depth op
      unfolding encode
      word_on d = go s.st refl
        where
          go : (st : List Sexps) → s.st ≡ st → State text start w₀ (set w used (2 * p + 1)) next (used + 1) depth op
          go [] e = absurd (d (s.deep ∙ ap length e))
          go (xs ∷ st) e =
              let y : Sexp = atom p (letters (drop p text)) in
              let ul : used ≡ length (layout (xs ∷ st)) = s.uses ∙ ap (λ x. length (layout x)) e in
              let k : Stands text (xs ∷ st) = rw e at s.stands in
              record {
                legible = s.legible;
                st = snoc xs y ∷ st;
                laid = rw (layout_snoc xs st y) (stored (layout (xs ∷ st)) w₀ w used (2 * p + 1) (s.laid ∙ rw e) (sym ul) (omega (arith, room g.1, same_length)));
                uses = rw (layout_snoc xs st y) (omega (arith, ul, length-append (layout (xs ∷ st)) ((2 * p + 1) ∷ [])));
                opens = s.opens ∙ ap top e ∙ sym (top_snoc xs st y);
                deep = s.deep ∙ ap length e;
                most = s.most;
                high = g.1.high;
                same = s.same ∙ rw e (ap (forms (xs ∷ st)) g.1.same ∙ forms_word xs st _ _ _);
                few = omega (arith, s.few, g.1.low, g.1.on);
                stands = (snoc_spelt text xs y k.0 stands_here, k.1);
              }

      pub word_last : depth ≡ 0 → ReadRight text start w₀ (set w used (2 * p + 1)) (Ok (some (record { end = next; cells = used + 1 })))
      unfolding layout encode read_from
      word_last d = go s.st refl
        where
          go : (st : List Sexps) → s.st ≡ st → ReadRight text start w₀ (set w used (2 * p + 1)) (Ok (some (record { end = next; cells = used + 1 })))
          go (xs ∷ st) e = absurd (omega (arith, s.deep, ap length e, d))
          go [] e =
              let bs : List ℕ = letters (drop p text) in
              let u : used ≡ 0 = s.uses ∙ ap (λ x. length (layout x)) e in
              finish (more (atom p bs) next (read_from text next))
              (s.same ∙ rw e (ap (forms []) g.1.same ∙ forms_bare p bs _) ∙ ap (λ m. more (atom p bs) m (read_from text next)) (sym g.0))
              (rw u)
              (stored [] w₀ w used (2 * p + 1) (s.laid ∙ rw e) (sym u) (omega (arith, room g.1, same_length))
              ∙ rw (u, zeros_behind w₀ 1 s.legible.clear (omega (arith, room g.1, same_length))))
              (record { follows = refl; on = omega (arith, s.few, g.1.low, g.1.on); within = g.1.high; spelt = stands_here; few = omega (arith, s.few, g.1.low, g.1.on) })

-- The first token ----------------------------------------------------------------------------------------------------------------

-- a list begins, whose cell is zero already
zero_again : (w : List ℕ) → Clear w → set w 0 0 ≡ w
zero_again [] z = refl
zero_again (x ∷ w) z = ap (λ n. n ∷ w) (sym (ap (λ l. get_or l 0 0) z))

pub opened : {text : List ℕ} {start next : ℕ} {w : List ℕ} → Legible text w → Gives text start Open next → State text start w w next 1 1 0
opened {text} {start} {next} {w} l g = rw (zero_again w l.clear) at (opens_on (started text start w (omega (arith, g.2.low, g.2.on, g.2.high)) l) g (λ e. omega arith))
