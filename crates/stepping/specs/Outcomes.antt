-- Laws of where the forms of a check have ended, with question 1 aside. Assumes nothing.
use Rattle.std.specs.Prelude.{◌≡◌, refl, Option, Some as some, None as nothing, Result, Ok, Err}
use Rattle.std.proofs.Common.{sym, ap, ◌∙◌, subst}
use Rattle.sexp.specs.Never.{never}
use Rattle.running.specs.declared.refusal.Refusal.{Refusal}
use Rattle.running.specs.declared.refusal.Refusal.TheVariants as refusal
use Rattle.running.specs.declared.stopped.Proved.{Proved}
use Rattle.running.specs.declared.stopped.Stopped.{Stopped}
use Rattle.stepping.specs.Parts.{refused_by}
use Rattle.stepping.specs.Ending.{ends_of}

-- where they have ended, of a check that question 1 does not refuse
ends_are : (e : Result Proved Stopped) → ends_of (refused_by e) ≡ some e
ends_are (Ok p) = refl
ends_are (Err s) = refl

pub ends_back : (o : Result Proved Refusal) {e : Result Proved Stopped} → ends_of o ≡ some e → o ≡ refused_by e
ends_back (Ok p) {e} i = let z : Ok p ≡ e = cc in subst (λ (y : Result Proved Stopped). Ok p ≡ refused_by y) z refl
ends_back (Err (refusal.Stopped s)) {e} i = let z : Err s ≡ e = cc in subst (λ (y : Result Proved Stopped). Err (refusal.Stopped s) ≡ refused_by y) z refl
ends_back (Err refusal.Tables) i = never cc

none_ends : {A : Type 0} (o : Option (Result Proved Stopped)) {e : Result Proved Stopped} → o ≡ nothing → o ≡ some e → A
none_ends nothing i j = never cc
none_ends (some x) i j = never cc

pub no_refusal : {A : Type 0} {o : Result Proved Refusal} {e : Result Proved Stopped} → ends_of o ≡ some e → o ≡ Err refusal.Tables → A
no_refusal {o = o} i j = none_ends (ends_of o) (ap ends_of j) i

same_ends : (o : Option (Result Proved Stopped)) {e f : Result Proved Stopped} → o ≡ some e → o ≡ some f → e ≡ f
same_ends nothing i j = never cc
same_ends (some x) {e} {f} i j =
    let a : x ≡ e = cc in
    let b : x ≡ f = cc in
    sym a ∙ b

pub is_ends : {o : Result Proved Refusal} {e f : Result Proved Stopped} → ends_of o ≡ some e → o ≡ refused_by f → e ≡ f
is_ends {o = o} {f = f} i j = same_ends (ends_of o) i (ap ends_of j ∙ ends_are f)

-- what ends one way ends no other; and not in question 1
pub one_end : {o : Result Proved Refusal} {e f : Result Proved Stopped} → o ≡ refused_by e → o ≡ refused_by f → e ≡ f
one_end {e = e} i j = is_ends (ap ends_of i ∙ ends_are e) j

pub not_tables : {A : Type 0} {o : Result Proved Refusal} (e : Result Proved Stopped) → o ≡ Err refusal.Tables → o ≡ refused_by e → A
not_tables {o = o} e i j = none_ends (ends_of o) (ap ends_of i) (ap ends_of j ∙ ends_are e)
