-- The premises and the conclusion of a rule, one behind the other: what their reader answers. Assumes nothing.
use mathlib.Core.Path.{◌≡◌, refl, sym, ap, ◌∙◌}
use Prim.Native.Nat.{ℕ, ◌≤◌}
use mathlib.Core.List.{List, ◌++◌}
use native.Mathlib.Omega.{arith}
use lib.ListN.{length, take}
use Rattle.rules.specs.Limits.{PATTERNS}
use Rattle.rules.specs.Out.{Out, ok, then}
use Rattle.rules.specs.Sexp.{Sexp, Sexps, item, count}
use Rattle.rules.specs.Tree.{Tree, Trees}
use Rattle.rules.specs.Theory.{Theory}
use Rattle.rules.specs.TheoryTables.{prefix, prefixes}
use Rattle.rules.specs.Laws.Row.{append_assoc}
use Rattle.rules.specs.Declare.{Reading, predicated, judgments, schema}
use Rattle.rules.specs.Laws.PatternSteps.{schema_no_premises, schema_stopped, schema_no_conclusion, schema_asks}
use Rattle.sexp.specs.WalkLaws.{AtomIs}
use Rattle.sexp.specs.Each.{ListOf}
use Rattle.kernel.specs.Reading.{Written, Stopped, Patterning}
use Rattle.kernel.specs.HeldRules.{Beginning, SchemaWritten}
use Rattle.kernel.proofs.Ruling.{judged_count}
use Rattle.kernel.proofs.Trees.{kept_front, longer}

-- What callees are given ---------------------------------------------------------------------------------------------------------

module _ {text items symbols inputs row : List ℕ} {known used : ℕ} {n : ℕ} (P : List ℕ) (k : Beginning text items symbols inputs known row n (length P) used) {x : Sexp} {part : List ℕ}
    (l : ListOf text items x part) where
  pub premising : Patterning text part symbols inputs known row n (length P) used
  premising = record { zs = l.items; holds = l.holds; held = k.held; so_far = k.so_far; reads = k.reads; short = k.form.short; long = k.long }

  pub concluding : {table M : List ℕ} {v m : ℕ} {given : Out Reading Trees} → Written prefixes text table P M used given v m →
      Patterning text part symbols inputs known table v (length M) m
  concluding w =
      record { zs = l.items; holds = l.holds; held = k.held; so_far = w.now; reads = w.reads; short = k.form.short; long = w.long ∙ k.long }

-- words that were there stay there
pub written_kept : {A : Type 0} {cells : A → List ℕ} {text table P M : List ℕ} {used n m : ℕ} {given : Out Reading A} → Written cells text table P M used given n m →
    used ≤ length P → length P ≡ PATTERNS → take used M ≡ take used P
written_kept {cells = cells} {P = P} {M = M} {used = used} {m = m} w u l =
    let g : m ≤ length M = omega (arith, w.reads.room, w.long, l) in
    kept_front P M M (cells w.tree) used m u w.words refl (longer P M (cells w.tree) used m u g w.words)

-- The answers of `schema` --------------------------------------------------------------------------------------------------------

module _ {text : List ℕ} (T : Theory) (R : Reading) (xs : Sexps) where
  pub schema_atom : {P : List ℕ} {used p : ℕ} → AtomIs text (item xs 2) p → Stopped P P used (schema T xs R) 11 0
  schema_atom {p = p} f = record { now = R; is = schema_no_premises R T xs p f.bytes f.is; words = refl; long = refl }

  module _ {form : List ℕ} {part : List ℕ} (l : ListOf text form (item xs 2) part) (used : ℕ) (P : List ℕ) where
    pub schema_stops : {M : List ℕ} {x d : ℕ} → Stopped P M used (judgments T l.items R) x d → Stopped P M used (schema T xs R) x d
    schema_stops {x = x} {d = d} w = record { now = w.now; is = schema_stopped R T xs l.items l.is x d w.now w.is; words = w.words; long = w.long }

    module _ (u : used ≤ PATTERNS) (long : length P ≡ PATTERNS) {table M : List ℕ} {n m : ℕ} (w : Written prefixes text table P M used (judgments T l.items R) n m) where
      kept : take used M ≡ take used P
      kept = written_kept w (omega (arith, u, long)) long

      pub schema_open : {p : ℕ} → AtomIs text (item xs 3) p → Stopped P M used (schema T xs R) 11 0
      schema_open {p} f =
          record {
            now = w.now;
            is = schema_no_conclusion R T xs l.items l.is w.tree w.now w.is p f.bytes f.is;
            words = kept;
            long = w.long;
          }

      module _ {part' : List ℕ} (j : ListOf text form (item xs 3) part') where
        so_far : schema T xs R ≡ then (predicated T j.items w.now) (λ t W. ok (w.tree, t) W)
        so_far = schema_asks R T xs l.items l.is w.tree w.now w.is j.items j.is

        pub schema_read : {table' : List ℕ} {v : ℕ} {Q : List ℕ} {y premises : ℕ} → Written prefix text table' M Q m (predicated T j.items w.now) v y →
            premises ≡ count l.items → SchemaWritten text table' P Q used (schema T xs R) v premises y
        unfolding then
        schema_read q c =
            record {
              written = record {
                tree = (w.tree, q.tree);
                now = q.now;
                is = so_far ∙ ap (λ z. then z (λ t W. ok (w.tree, t) W)) q.is;
                reads = q.reads;
                words = q.words ∙ ap (λ z. z ++ prefix q.tree) w.words ∙ append_assoc (take used P) (prefixes w.tree) (prefix q.tree);
                long = q.long ∙ w.long;
              };
              many = judged_count T l.items R w.now w.tree w.is ∙ sym c;
            }

        pub schema_cut : {Q : List ℕ} {x d : ℕ} → Stopped M Q m (predicated T j.items w.now) x d → Stopped P Q used (schema T xs R) x d
        unfolding then
        schema_cut {Q} q =
            let g : m ≤ length M = omega (arith, w.reads.room, w.long, long) in
            let o : used ≤ length P = omega (arith, u, long) in
            record {
              now = q.now;
              is = so_far ∙ ap (λ z. then z (λ t W. ok (w.tree, t) W)) q.is;
              words = kept_front P M Q (prefixes w.tree) used m o w.words q.words (longer P M (prefixes w.tree) used m o g w.words);
              long = q.long ∙ w.long;
            }

-- the same of the tables that were lent
pub schema_lent : {text row row' P M M' : List ℕ} {used variables premises words : ℕ} {given : Out Reading (Trees × Tree)} →
    SchemaWritten text row P M used given variables premises words → row' ≡ row → M' ≡ M → SchemaWritten text row' P M' used given variables premises words
schema_lent w e f = rw (e, f) w
