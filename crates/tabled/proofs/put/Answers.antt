use mathlib.Core.Path.{◌≡◌, refl, sym, ap, ◌∙◌}
use Prim.Native.Nat.{ℕ, ◌+◌, ◌*◌, ◌≤◌}
use mathlib.Core.List.{List, ◌++◌, append_assoc}
use native.Mathlib.Omega.{arith}
use lib.ListN.{length, take, drop}
use lib.Seq.{sets, sets-eq}
use borrow.Rule.Slice.PartMut.{put_mid}
use Rattle.std.proofs.lemmas.Slice.{put_mid-paste}
use Rattle.std.proofs.lemmas.List.Edits.{paste_all}
use Rattle.tabled.proofs.put.Goals as goal

-- a part that is copied over whole
stored_part : {A : Type 0} (l part vs : List A) (at n : ℕ) → part ≡ vs → n ≡ length vs → at + length vs ≤ length l → put_mid at n l part ≡ sets l at vs
stored_part l part vs at n e f h =
    put_mid-paste at n l part vs n e refl f ∙ paste_all l at vs n f ∙ ap (λ k. take at l ++ (vs ++ drop (at + k) l)) f
    ∙ sym (append_assoc (take at l) vs (drop (at + length vs) l)) ∙ sym (sets-eq vs l at h)

pub returns : goal.returns
returns g c = stored_part c.args.table.now _ _ (g.row.N * c.args.i) _ c.copy_from_slice.ensures.after (omega arith) (omega arith)
