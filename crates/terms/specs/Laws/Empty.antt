-- Tables with nothing in them are good. Assumes nothing.
use Rattle.std.specs.Prelude.{◌≡◌, refl, List, [], ℕ, ◌+◌, replicate}
use Rattle.std.proofs.Common.{arith, not-suc-le-zero}
use Rattle.std.proofs.lemmas.List.{length-replicate}
use Rattle.rules.specs.Limits.{WORDS}
use Rattle.rules.specs.Laws.Store.{Apart}
use Rattle.terms.specs.declared.store.Mark.{Mark}
use Rattle.terms.specs.Table.{CHAINS, FLAGS, HEADS, INDEX, start, trees, made, latest, Good}
use Rattle.terms.specs.Laws.Zeros.{get_d_zeros}

abbrev pub empty_mark : Mark
empty_mark = record { terms = 0; words = 0 }

pub good_empty : Good (replicate INDEX 0) (replicate WORDS 0) empty_mark
unfolding start trees latest Apart
good_empty =
    record {
      index = length-replicate {A = ℕ} INDEX 0;
      words = length-replicate {A = ℕ} WORDS 0;
      room = omega arith;
      ends = refl;
      within = omega arith;
      rise = λ i h. absurd (not-suc-le-zero h);
      narrow = λ i h. absurd (not-suc-le-zero h);
      shaped = λ i h. absurd (not-suc-le-zero h);
      apart = λ i j h k e. absurd (not-suc-le-zero h);
      chains = λ i h. absurd (not-suc-le-zero h);
      flags = λ i h. absurd (not-suc-le-zero h);
      heads = λ b h. get_d_zeros INDEX (HEADS + b);
      no_ends = λ i l h. get_d_zeros INDEX i;
      no_chains = λ i l h. get_d_zeros INDEX (CHAINS + i);
      no_flags = λ i l h. get_d_zeros INDEX (FLAGS + i);
      no_words = λ i l. get_d_zeros WORDS i;
    }

pub made_empty : (I W : List ℕ) → made I W empty_mark ≡ []
unfolding trees
made_empty I W = refl
