-- A fact that is put behind the others, or has no room. Assumes nothing.
use mathlib.Core.Path.{◌≡◌, ap, ◌∙◌}
use Prim.Native.Nat.{ℕ, ◌+◌, ◌-◌, ◌*◌, ◌<◌, ◌≤◌}
use mathlib.Core.List.{List, [], ◌∷◌, ◌++◌}
use native.Mathlib.Omega.{arith}
use lib.ListN.{length, take, drop}
use lib.Seq.{sets}
use Rattle.rules.specs.Limits.{FACTS, ENTRIES}
use Rattle.rules.specs.Find.{rising}
use Rattle.terms.specs.Sets.{holds}
use Rattle.state.specs.declared.sizes.Sizes.{Sizes}
use Rattle.std.specs.Prelude.{Ok}
use Rattle.state.specs.Held.{Records, records}
use Rattle.state.specs.Rows.{Putting, PutAs}
use Rattle.state.proofs.Stores.{tail_sets}

-- the hypotheses of a derived fact: as many as were counted
module _ {R : Records} {n : Sizes} {judgment : ℕ} (hyps : List ℕ) (p : Putting R n judgment) (w : 64 * length hyps ≡ FACTS) where
  all_hyps : rising (64 * length hyps) (holds hyps) ≡ rising FACTS (holds hyps)
  all_hyps = ap (λ k. rising k (holds hyps)) w

  pub derived_put : (footing F B tail : List ℕ) (many : ℕ) {end : ℕ} → (n.facts < FACTS) × (end ≡ n.entries + many) × (end ≤ ENTRIES) →
      many ≡ length (rising (64 * length hyps) (holds hyps)) → F ≡ sets R.facts (6 * n.facts) (judgment ∷ 0 ∷ n.entries ∷ many ∷ 0 ∷ 0 ∷ []) →
      B ≡ sets R.footings (4 * n.facts) footing →
      tail ≡ sets (take (length R.lists - n.entries) (drop n.entries R.lists)) 0 (rising (64 * length hyps) (holds hyps)) →
      PutAs R (records F B (take n.entries R.lists ++ (tail ++ drop (length R.lists - n.entries) (drop n.entries R.lists)))) n
      (judgment ∷ 0 ∷ n.entries ∷ length (rising FACTS (holds hyps)) ∷ 0 ∷ 0 ∷ []) (rising FACTS (holds hyps)) footing
      (length (rising FACTS (holds hyps))) (Ok end)
  derived_put footing F B tail many r e f b t =
      let z = ap length all_hyps in
      let q : many ≡ length (rising FACTS (holds hyps)) = e ∙ z in (
        record {
          facts = f ∙ ap (λ k. sets R.facts (6 * n.facts) (judgment ∷ 0 ∷ n.entries ∷ k ∷ 0 ∷ 0 ∷ [])) q;
          lists = tail_sets R.lists n.entries tail (rising (64 * length hyps) (holds hyps)) (omega (arith, p.lists)) t
              ∙ ap (λ l. sets R.lists n.entries l) all_hyps;
          footings = b;
          room = r.0;
        },
        r.1 ∙ ap (λ k. n.entries + k) q,
        r.2,
      )
