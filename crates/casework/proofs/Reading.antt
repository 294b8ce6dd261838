-- The loop that reads the cases of `invert`: what it asks of its calls, and what it learns. Assumes nothing.
use mathlib.Core.Path.{◌≡◌, refl, sym, ap, ◌∙◌, subst}
use mathlib.Core.Bool.{Bool, true, false}
use mathlib.Core.List.{List, []}
use Prim.Native.Nat.{ℕ, ◌-◌, ◌<◌}
use lib.ListN.{length, take, drop}
use Rattle.rules.specs.Out.{refuse}
use Rattle.rules.specs.Sexp.{Sexps, count, item}
use Rattle.rules.specs.Store.{Made}
use Rattle.rules.specs.State.{State}
use Rattle.rules.specs.Invert.{read_cases}
use Rattle.sexp.specs.Items.{Holds, item_at, behind}
use native.Mathlib.Omega.{arith}
use Rattle.sexp.specs.Each.{ListIn, ListOf, first_atom, first_list, item_long}
use Rattle.sexp.specs.WalkLaws.{AtomIs}
use Rattle.std.specs.Prelude.{Option, Result, Ok, Err}
use Rattle.std.specs.Result.{result_ok}
use denote.Ref.{Bor}
use Rattle.questions.specs.declared.Question.{Question}
use Rattle.kernel.proofs.Missing.{there, absent}
use Rattle.reading.specs.Given.{VarsItem, VarsItems}
use Rattle.casework.specs.Cases.{CaseIs, Naming, TakenAs}
use Rattle.cells.specs.declared.Span.{Span}
use Rattle.casework.specs.Distinct.{between}
use Rattle.casework.specs.declared.distinct.NameTree.{NameTree}
use Rattle.casework.proofs.Finding.{Casing, casing_here, casing_first, casing_twice, casing_more}

-- the cells in front of an item
pub front_part : (cells item : List ℕ) (at : ℕ) → item ≡ take (length cells - at) (drop at cells) → at < length cells → take (length cells - length item) cells ≡ take at cells
front_part cells item at e l = ap (λ (n : ℕ). take n cells) (let n = item_long cells item at e in omega (arith, n, l))

-- what `read_case` asks
abbrev pub item_now : {goals text vars cells : List ℕ} {t : NameTree} {count at : ℕ} (g : VarsItems goals text vars count cells) →
    Casing g.S g.xs text cells t at → at < length cells → VarsItem goals text vars count (take (length cells - at) (drop at cells))
item_now g h l = record { S = g.S; x = (casing_here h l).x; ys = (casing_here h l).ys; vars_are = g.vars_are; holds = (casing_here h l).holds }

-- a case is read, and it is asked whether its name is taken
module _ {S : State} {xs : Sexps} {text cells : List ℕ} {t : NameTree} {at : ℕ} (h : Casing S xs text cells t at) (w : Holds text cells xs) (s : t.text.now ≡ text) (l : at < length cells)
    {out : List ℕ} {name : Span} {fact many : ℕ} (r : CaseIs S text (casing_here h l).x out name fact many)
    {part : List ℕ} (p : part ≡ take at cells) {u : NameTree} {b : Bool} (f : (n : Naming t part) → TakenAs u n.first.cs (between t.text.now name.from name.end) b) where
  taken : TakenAs u h.cs r.c.name b
  taken =
      subst (λ (m : List ℕ). TakenAs u h.cs m b) (ap (λ (bs : List ℕ). between bs name.from name.end) s ∙ sym r.bytes)
      (f (casing_first h w s p))

  pub named_twice : b ≡ true → (M : Made) → read_cases S xs [] M ≡ refuse 41 0 M
  named_twice y = casing_twice h l r.c r.read b taken.is y

  pub named_new : b ≡ false → {next : ℕ} → next ≡ behind at (item_at cells at) → Casing S xs text cells u next
  named_new y n = casing_more h l r.c r.read b taken.is y r.case (taken.more y r.c refl) n

-- The item of a case, a list of cells or an atom --------------------------------------------------------------------------------------------

module _ {goals text vars cells : List ℕ} {count' : ℕ} (g : VarsItem goals text vars count' cells) (o : Option (Bor (List ℕ))) {r : Result (Bor (List ℕ)) Question} (k : o ≡ result_ok r) where
  pub inner_is : {inner : Bor (List ℕ)} → r ≡ Ok inner → ((t : List ℕ) (xs : Sexps) → Holds t cells xs → 0 < count xs → ListIn t cells (item xs 0) o) → ListOf text cells g.x inner.now
  inner_is e l = first_list g.holds (subst (λ (z : Option (Bor (List ℕ))). (t : List ℕ) (xs : Sexps) → Holds t cells xs → 0 < count xs → ListIn t cells (item xs 0) z) (there o r k e) l)

  pub inner_none : {q : Question} → r ≡ Err q → ((t : List ℕ) (xs : Sexps) → Holds t cells xs → 0 < count xs → ListIn t cells (item xs 0) o) → (p : ℕ) × AtomIs text g.x p
  inner_none e l = first_atom g.holds (subst (λ (z : Option (Bor (List ℕ))). (t : List ℕ) (xs : Sexps) → Holds t cells xs → 0 < count xs → ListIn t cells (item xs 0) z) (absent o r k e) l)
