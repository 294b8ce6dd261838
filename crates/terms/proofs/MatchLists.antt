-- Patterns against a list of terms; and what a match answers once the cells are put back where there was none. Assumes nothing.
use mathlib.Core.Path.{◌≡◌, refl, sym, ap, ◌∙◌, subst}
use mathlib.Core.Bool.{true, false, true≢false}
use mathlib.Core.List.{List, ◌∷◌}
use Rattle.std.proofs.Common.{Option, Some as some, None as nothing}
use Rattle.std.specs.Option.{is_some}
use Prim.Native.Nat.{ℕ, suc, ◌+◌, ◌≤◌, ◌<◌}
use native.Mathlib.Omega.{arith}
use native.Mathlib.Numerals.{add-one}
use lib.ListN.{length, get_or, drop, drop_of_length-le}
use lib.Seq.{drop-cons}
use Rattle.rules.specs.Tree.{Trees, sizes, count_trees}
use Rattle.rules.specs.Store.{Made}
use Rattle.rules.specs.Match.{match_all}
use Rattle.terms.specs.declared.store.Mark.{Mark}
use Rattle.terms.specs.Table.{args_of, made}
use Rattle.terms.specs.Patterns.{Standing, bound_of, Matchable, AllMatchable, Tried, hit, miss}
use Rattle.terms.specs.Patterns.{AllMatched, all, not_all, TriedAt, TriedAll, MatchedAll}
use Rattle.terms.specs.Laws.Tables.{length_trees}
use Rattle.terms.proofs.Matches.{Matching, matching_reads, matching_on, matching_miss, matching_ends}

-- terms from k on are left
pub record Listing (S P I W : List ℕ) (m : Mark) (B : List ℕ) (at : ℕ) (xs C : List ℕ) (place k : ℕ) : Type 0 where
  pub asked : AllMatchable S P I W m B at xs
  pub going : (ps : Trees) → Standing S P at ps → count_trees ps ≡ length xs
      → Matching S P (made I W m) (match_all ps (args_of (made I W m) xs) (bound_of (made I W m) B)) (at + sizes ps) C place (drop k xs)

pub listing_begins : (S P I W : List ℕ) (m : Mark) (B : List ℕ) (at : ℕ) (xs : List ℕ) → AllMatchable S P I W m B at xs → Listing S P I W m B at xs B at 0
listing_begins S P I W m B at xs q =
    record {
      asked = q;
      going = λ ps st c. record {
        patterns = ps;
        stands = st;
        count = c;
        ends = refl;
        cells = record { long = q.cells.long; within = λ v. let z = length_trees I W m.terms in let y = q.cells.within v in omega arith };
        left = refl;
      };
    }

module _ (S P I W : List ℕ) (m : Mark) (B : List ℕ) (at : ℕ) (xs C : List ℕ) (place k : ℕ) (q : Listing S P I W m B at xs C place k) where
  abbrev M : Made
  M = made I W m

  next : k < length xs → (ps : Trees) → Standing S P at ps → count_trees ps ≡ length xs
      → Matching S P M (match_all ps (args_of M xs) (bound_of M B)) (at + sizes ps) C place (get_or xs k 0 ∷ drop (suc k) xs)
  next h ps st c = subst (Matching S P M (match_all ps (args_of M xs) (bound_of M B)) (at + sizes ps) C place) (drop-cons xs k 0 h) (q.going ps st c)

  pub listing_asks : k < length xs → Matchable S P I W m C place (get_or xs k 0)
  listing_asks h =
      let r = q.asked.reads in
      let w = next h r.patterns r.stands r.count in
      record {
        good = q.asked.good;
        symbols = q.asked.symbols;
        reads = matching_reads S P M _ _ C place _ _ w;
        cells = record { long = w.cells.long; within = λ v. let z = length_trees I W m.terms in let y = w.cells.within v in omega arith };
        there = q.asked.there k h;
      }

  pub listing_miss : k < length xs → (D : List ℕ) {r : Option ℕ} → TriedAt S P I W m C D place (get_or xs k 0) r → r ≡ nothing → TriedAll S P I W m B D at xs nothing
  listing_miss h D c z ps st n = let a = matching_miss S P M _ _ C place _ _ D (next h ps st n) c z in miss a.0 a.1 refl

  pub listing_on : k < length xs → (D : List ℕ) {r : Option ℕ} → TriedAt S P I W m C D place (get_or xs k 0) r → (next : ℕ) → r ≡ some next → Listing S P I W m B at xs D next (k + 1)
  listing_on h D c r e =
      record {
        asked = q.asked;
        going = λ ps st d.
            subst (λ (j : ℕ). Matching S P M (match_all ps (args_of M xs) (bound_of M B)) (at + sizes ps) D r (drop j xs)) (sym (add-one k))
            (matching_on S P M _ _ C place _ _ D (next h ps st d) c r e);
      }

  pub listing_ends : length xs ≤ k → TriedAll S P I W m B C at xs (some place)
  listing_ends h ps st c =
      let a = matching_ends S P M _ _ C place (subst (Matching S P M (match_all ps (args_of M xs) (bound_of M B)) (at + sizes ps) C place) (drop_of_length-le xs {i = k} h) (q.going ps st c)) in
      hit a.0 a.1 (ap (λ (r : ℕ). some r) a.2)

-- The cells, and their copy --------------------------------------------------------------------------------------------------------

module _ (S P I W : List ℕ) (m : Mark) (B C : List ℕ) (at : ℕ) where
  pub all_stays : (xs : List ℕ) {r : Option ℕ} → TriedAll S P I W m B C at xs r → is_some r ≡ false → (D : List ℕ) → D ≡ B → MatchedAll S P I W m B D at xs false
  all_stays xs {r} t z D d ps st n = go (t ps st n)
    where
      go : Tried (made I W m) C (match_all ps (args_of (made I W m) xs) (bound_of (made I W m) B)) (at + sizes ps) r
          → AllMatched (made I W m) B D (match_all ps (args_of (made I W m) xs) (bound_of (made I W m) B)) false
      go (hit k c b) = absurd (true≢false (sym (ap is_some b) ∙ z))
      go (miss k c b) = not_all k d refl

  pub all_hits : (xs : List ℕ) {r : Option ℕ} → TriedAll S P I W m B C at xs r → is_some r ≡ true → MatchedAll S P I W m B C at xs true
  all_hits xs {r} t z ps st n = go (t ps st n)
    where
      go : Tried (made I W m) C (match_all ps (args_of (made I W m) xs) (bound_of (made I W m) B)) (at + sizes ps) r
          → AllMatched (made I W m) B C (match_all ps (args_of (made I W m) xs) (bound_of (made I W m) B)) true
      go (hit k c b) = all k c refl
      go (miss k c b) = absurd (true≢false (sym z ∙ ap is_some b))
