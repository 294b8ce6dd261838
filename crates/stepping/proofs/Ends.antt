-- The end in the named parts of the tables: what is asked of it there, and what it leaves in the whole. Assumes nothing.
use Rattle.std.specs.Prelude.{◌≡◌, List, ◌++◌, ℕ, ◌*◌, length, take, drop, Result}
use Rattle.std.proofs.Common.{sym, ap, ◌∙◌, subst, take_at, drop_at, take-append-drop}
use Rattle.rules.specs.Limits.{TERMS, GOALS}
use Rattle.terms.specs.Table.{settled}
use Rattle.state.specs.Stands.{Board}
use Rattle.facts.specs.declared.Fact.{Fact}
use Rattle.running.specs.declared.finish.Report.{Report}
use Rattle.running.specs.declared.refusal.Refusal.{Refusal}
use Rattle.running.specs.declared.stopped.Proved.{Proved}
use Rattle.running.specs.declared.stopped.Stopped.{Stopped}
use Rattle.running.specs.Lent.{Working, working}
use Rattle.running.specs.Course.{Over}
use Rattle.running.specs.Finished.{forms_of, FinishGiven, Finishes}
use Rattle.stepping.specs.declared.used.Used.{Used}
use Rattle.stepping.specs.Parts.{front}
use Rattle.stepping.specs.Ending.{Ending, Ended}

module _ {e : Result Proved Stopped} {u : Used} {W : Working} {fs : List Fact} {M : List ℕ} (g : Ending e u W fs M) where
  -- what `finish` asks
  abbrev pub finish_given : {B : Board} → front W fs ≡ B → FinishGiven e B u.n u.mark
  finish_given z =
      record {
        theory = g.theory;
        goals = g.goals;
        proof = g.proof;
        T = g.T;
        S = g.S;
        over = subst (λ (B : Board). Over g.theory g.goals g.proof g.T B u.n u.mark (forms_of e) g.S) z g.over;
        counted = g.counted;
      }

-- a part that stays as it was, in its place
pub same_part : {A : Type 0} (n : ℕ) (l : List A) {y z : List A} → z ≡ y ++ drop n l → y ≡ take n l → z ≡ l
same_part n l e f = e ∙ (λ i. f i ++ drop n l) ∙ take-append-drop n l

-- W, fs, M: the tables before; list: what is left of the named part of M
module _ {theory goals proof : List ℕ} {r : Result Report Refusal} (W : Working) (M : List ℕ) {list : List ℕ} (f : Finishes theory goals proof r list)
    (l : length list ≡ GOALS) {fs gs : List Fact} (w : gs ≡ fs) {N : List ℕ} (k : N ≡ list ++ drop GOALS M) where
  pub ended_as : {a b c d g h : List ℕ} → a ≡ W.vars → b ≡ settled (take (4 * TERMS) W.index) ++ drop (4 * TERMS) W.index → c ≡ W.words → d ≡ W.defs →
      g ≡ W.goals → h ≡ W.lists → Ended theory goals proof W (working a b c d g h) M N fs gs r
  ended_as {b = index} p q x y z v =
      record {
        finishes = subst (Finishes theory goals proof r) (sym (ap (take GOALS) k ∙ take_at list (drop GOALS M) GOALS l)) f;
        list_behind = ap (drop GOALS) k ∙ drop_at list (drop GOALS M) GOALS l;
        index_is = q;
        rest = λ i. working (p i) index (x i) (y i) (z i) (v i);
        records = w;
      }

-- what is said of where the forms have ended, said of the same under another name
pub ended_for : {e f : Result Proved Stopped} {u : Used} {W Z : Working} {M N : List ℕ} {fs gs : List Fact} {r : Result Report Refusal} → e ≡ f →
    ((g : Ending e u W fs M) → Ended g.theory g.goals g.proof W Z M N fs gs r) → (g : Ending f u W fs M) → Ended g.theory g.goals g.proof W Z M N fs gs r
ended_for {u = u} {W} {Z} {M} {N} {fs} {gs} {r} i k =
    subst (λ (x : Result Proved Stopped). (g : Ending x u W fs M) → Ended g.theory g.goals g.proof W Z M N fs gs r) i k
