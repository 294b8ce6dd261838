-- The form `invert`: its hypothesis, its context and its judgment, and the fact that it gives. Assumes nothing.
use mathlib.Core.Path.{◌≡◌, refl, sym, ap, ◌∙◌, subst}
use mathlib.Core.Bool.{Bool, true, false, ◌||◌, false≢true}
use mathlib.Core.List.{List, [], ◌∷◌}
use Prim.Native.Nat.{ℕ, ◌+◌, ◌*◌, ◌<◌, ◌≤◌}
use native.Mathlib.Omega.{arith}
use lib.Dec.{eqb}
use lib.ListN.{length, take, drop, replicate}
use lib.Seq.{sets, sets-eq, length-sets, take-append_seam}
use borrow.Author.Tests.{eqb-true}
use Rattle.rules.specs.Limits.{FACTS, FACTWORDS, RULEWORDS}
use Rattle.rules.specs.Out.{Out, ok, refuse, then, ask}
use Rattle.rules.specs.Sexp.{Sexp, Sexps, cons, item, rest, items}
use Rattle.rules.specs.Find.{Set, has, union, rising}
use Rattle.rules.specs.Tree.{Tree, var, none}
use Rattle.rules.specs.Store.{Made}
use Rattle.rules.specs.Theory.{rules_of}
use Rattle.rules.specs.State.{State, Var, Fact, is_plain}
use Rattle.rules.specs.Read.{index, judgment}
use Rattle.rules.specs.Reference.{fact_at, hyp_list}
use Rattle.rules.specs.Invert.{read_cases, predicate_of, invert_rules, invert}
use Rattle.rules.specs.Laws.Out.{then_then}
use Rattle.rules.specs.Laws.Sexp.{rest_item}
use Rattle.rules.specs.Laws.Theory.{all_at}
use Rattle.rules.specs.Laws.Sound.{sound}
use Rattle.rules.specs.Laws.Rising.{rising_all_of, rising_has}
use Rattle.rules.proofs.Laws.Below.{Below, MadeBelow, Leaves, fine, Bounds}
use Rattle.rules.proofs.Laws.Bounded.{ready_below}
use Rattle.rules.proofs.Laws.BelowRead.{judgment_below}
use Rattle.rules.specs.Laws.Ready.{Ready}
use Rattle.sexp.specs.Encode.{encodes}
use Rattle.sexp.specs.Items.{Holds, place}
use Rattle.terms.specs.declared.store.Mark.{Mark}
use Rattle.terms.specs.Table.{made, tree}
use Rattle.terms.specs.Sets.{holds, plus}
use Rattle.terms.specs.On.{Stopped, On, on_start, on_is, on_ok, on_no, on_pure, on_stop, on_done}
use Rattle.terms.specs.Laws.Growth.{made_length, grown_tree, grown_there}
use Rattle.terms.specs.Laws.Sets.{holds_zero, plus_has}
use Rattle.state.specs.declared.sizes.Sizes.{Sizes}
use Rattle.state.specs.Held.{names, rule_lists, records}
use Rattle.state.specs.Rows.{cell}
use Rattle.state.specs.FactLaws.{FactRow, fact_row_lem}
use Rattle.state.specs.Members.{rising_empty, rising_under, rising_few}
use Rattle.reading.specs.Given.{ReadsItem}
use Rattle.reading.specs.Answers.{TermRead}
use Rattle.referring.specs.Recall.{fact_of}
use Rattle.referring.specs.Laws.Behind.{from_holds}
use Rattle.referring.specs.Laws.Refers.{refers_on, fact_asks}
use Rattle.referring.specs.Laws.Sounds.{grown_grows}
-- beside `Below` of trees
use Rattle.terms.specs.Table.{Below as There}
use Rattle.inversion.specs.InvertRules.{vars_with}
use Rattle.inversion.specs.Inversions.{NamingForm, hypothesis_of, HypothesisRead, InvertForm, InvertingOn, invert_on, InvertedOn, InvertedRead}
use Rattle.std.proofs.Math.Bool.{or_comm}

-- The definition ---------------------------------------------------------------------------------------------------------------------------

abbrev pub fact : State → ℕ → List ℕ → Tree → Fact
fact S i hs j = record {
  judgment = j;
  hyps = rising (length S.facts) (union (has (i ∷ [])) (has hs));
  assumed = false;
  premises = none;
  general = [];
  footing = [];
}

-- what is answered
abbrev pub answered : Fact → List Var → Made → Out Made (Fact × List Var)
answered f us A = ok (f, us) A

-- behind the judgment
rest_is : (S : State) (xs : Sexps) (s j : Tree) (hs : List ℕ) (f : Fact) (A : Made) →
    then (items 41 (item xs 5) A) (λ ys B. then (read_cases S ys [] B)
    (λ cs C. then (invert_rules S (record { hypothesis = s; judgment = j; context = hs; cases = cs }) (rules_of S.theory (predicate_of s)) (record { vars = S.vars; seen = [] }) C)
    (λ N E. answered f N.vars E)))
    ≡ then (invert_on S xs s j hs A) (answered f)
unfolding then
rest_is S xs s j hs f A =
    sym (
    then_then (items 41 (item xs 5) A) (λ ys B. then (read_cases S ys [] B)
    (λ cs C. then (invert_rules S (record { hypothesis = s; judgment = j; context = hs; cases = cs }) (rules_of S.theory (predicate_of s)) (record { vars = S.vars; seen = [] }) C)
    (λ N E. ok N.vars E))) (answered f)
    ∙ (λ i. then (items 41 (item xs 5) A) (λ ys B. (
    then_then (read_cases S ys [] B)
    (λ cs C. then (invert_rules S (record { hypothesis = s; judgment = j; context = hs; cases = cs }) (rules_of S.theory (predicate_of s)) (record { vars = S.vars; seen = [] }) C)
    (λ N E. ok N.vars E)) (answered f)
    ∙ (λ k. then (read_cases S ys [] B) (λ cs C.
    then_then (invert_rules S (record { hypothesis = s; judgment = j; context = hs; cases = cs }) (rules_of S.theory (predicate_of s)) (record { vars = S.vars; seen = [] }) C)
    (λ N E. ok N.vars E) (answered f) k))) i)))

-- behind the hypothesis, which is fact i, k; hs: those that are listed
abbrev onward : State → Sexps → ℕ → Fact → List ℕ → Made → Out Made (Fact × List Var)
onward S xs i k hs A = then (judgment S (item xs 4) A) (λ j E. then (items 41 (item xs 5) E) (λ ys B. then (read_cases S ys [] B)
    (λ cs C. then (invert_rules S (record { hypothesis = k.judgment; judgment = j; context = hs; cases = cs }) (rules_of S.theory (predicate_of k.judgment)) (record { vars = S.vars; seen = [] }) C)
    (λ N D. answered (fact S i hs j) N.vars D))))

split : (S : State) (xs : Sexps) (A : Made) → invert S xs A ≡ then (hypothesis_of S xs A) (λ h B. onward S xs h.0 h.1.0 h.1.1 B)
unfolding invert then
split S xs A =
    sym (
    then_then {B = ℕ × (Fact × List ℕ)} (index 34 (item xs 2) A) (λ i B. then (fact_at S i B) (λ k C. then (ask 40 (is_plain k) C) (λ z D. then (hyp_list (λ f. f.assumed) S (item xs 3) D) (λ hs E. ok (i, (k, hs)) E))))
    (λ h B. onward S xs h.0 h.1.0 h.1.1 B)
    ∙ (λ a. then (index 34 (item xs 2) A) (λ i B. (
    then_then {B = ℕ × (Fact × List ℕ)} (fact_at S i B) (λ k C. then (ask 40 (is_plain k) C) (λ z D. then (hyp_list (λ f. f.assumed) S (item xs 3) D) (λ hs E. ok (i, (k, hs)) E))) (λ h B. onward S xs h.0 h.1.0 h.1.1 B)
    ∙ (λ b. then (fact_at S i B) (λ k C. (
    then_then {B = ℕ × (Fact × List ℕ)} (ask 40 (is_plain k) C) (λ z D. then (hyp_list (λ f. f.assumed) S (item xs 3) D) (λ hs E. ok (i, (k, hs)) E)) (λ h B. onward S xs h.0 h.1.0 h.1.1 B)
    ∙ (λ d. then (ask 40 (is_plain k) C) (λ z D.
    then_then {B = ℕ × (Fact × List ℕ)} (hyp_list (λ f. f.assumed) S (item xs 3) D) (λ hs E. ok (i, (k, hs)) E) (λ h B. onward S xs h.0 h.1.0 h.1.1 B) d))) b))) a)))

-- One member more ---------------------------------------------------------------------------------------------------------------------------

-- one more member
plus_is : (a : Set) (i : ℕ) (hs : List ℕ) → a ≡ has hs → plus i a ≡ union (has (i ∷ [])) (has hs)
unfolding has
plus_is a i hs e = ap (plus i) e ∙ (λ k v. or_comm (has hs v) (eqb v i) k) ∙ ap (λ (s : Set). union s (has hs)) (sym (plus_has i []))

-- Variables below a number -------------------------------------------------------------------------------------------------------------------

leaves_ok : {A : Type 0} {P : A → Made → Type 0} {R : Made → Type 0} (a : A) (u : Made) → Leaves P R (ok a u) → P a u
leaves_ok a u (fine p) = p

judgment_low : (S : State) (M : Made) (x : Sexp) (t : Tree) (U : Made) → Ready sound S M → MadeBelow (length S.vars) M → judgment S x M ≡ ok t U → MadeBelow (length S.vars) U
judgment_low S M x t U h b e =
    (leaves_ok t U (subst (Bounds (length S.vars) (Below (length S.vars))) e (judgment_below (length S.vars) S (ready_below (length S.vars) S M h (omega arith) b) x M b))).0

-- The facts of the context -----------------------------------------------------------------------------------------------------------------

pub hs_there : (n : Sizes) (hyps : List ℕ) → There n.facts (rising n.facts (holds hyps))
hs_there n hyps i l = all_at (rising n.facts (holds hyps)) i 0 (rising_all_of n.facts (holds hyps) (λ v k e. k)) l

-- The form -----------------------------------------------------------------------------------------------------------------------------------

module _ {theory goals text symbols ins vars defs rules rulevars patterns facts footings lists : List ℕ} {n : Sizes} {I W : List ℕ} {m : Mark} {cells : List ℕ}
    (g : InvertForm (names theory goals text symbols ins vars defs) (rule_lists theory rules rulevars patterns) facts footings lists n I W m cells) where
  abbrev pub S : State
  S = g.S

  abbrev pub whole : Out Made (Fact × List Var)
  whole = invert S g.xs (made I W m)

  -- what `hypothesis` asks
  abbrev pub form_naming : NamingForm text facts n cells
  form_naming = record {
    S = S;
    xs = g.xs;
    made_trees = made I W m;
    footings = footings;
    lists = lists;
    recorded = g.refers.recorded;
    holds_items = g.holds_items;
    many = omega (arith, g.many);
  }

  begun : On I W m whole I W m (then (hypothesis_of S g.xs (made I W m)) (λ h B. onward S g.xs h.0 h.1.0 h.1.1 B))
  begun = on_is (on_start g.refers.reads.good) (split S g.xs (made I W m))

  pub form_unnamed : {q d : ℕ} → ((w : NamingForm text facts n cells) → (M : Made) → hypothesis_of w.S w.xs M ≡ refuse q d M) → Stopped I W I W m whole q d m
  form_unnamed f = on_stop _ begun (f form_naming (made I W m))

  module _ {hyps : List ℕ} {i : ℕ} (h : (w : NamingForm text facts n cells) → HypothesisRead w.S n hyps (hypothesis_of w.S w.xs) i) where
    abbrev pub read : HypothesisRead S n hyps (hypothesis_of S g.xs) i
    read = h form_naming

    abbrev pub hs : List ℕ
    hs = rising n.facts (holds hyps)

    named : On I W m whole I W m (onward S g.xs i (fact_of S i) hs (made I W m))
    named = on_pure _ begun (read.read (made I W m))

    -- what the readers of a fact ask
    pub form_fact : (length facts ≡ 6 * FACTS) × (i < FACTS)
    form_fact = fact_asks g.refers.recorded read.there

    row : FactRow (records facts footings lists) n (made I W m) S i (fact_of S i)
    row = fact_row_lem g.refers.recorded i read.there

    -- The judgment -----------------------------------------------------------------------------------------------------------------------

    module _ {fourth : List ℕ} (d : (ys : Sexps) → cells ≡ encodes ys → fourth ≡ drop (place ys 4) cells) where
      pub form_item : Holds text fourth (cons (item g.xs 4) (rest g.xs 5))
      form_item = subst (Holds text fourth) (rest_item g.xs 4 (omega (arith, g.many))) (from_holds g.holds_items 4 d)

      -- what `judgment` asks
      abbrev pub form_judgment : ReadsItem (names theory goals text symbols ins vars defs) n I W m fourth
      form_judgment = record { S = S; x = item g.xs 4; ys = rest g.xs 5; reads = g.refers.reads; holds = form_item }

    module _ {J X : List ℕ} {now : Mark} where
      pub form_unjudged : {q k : ℕ} → Stopped I W J X m (judgment S (item g.xs 4) (made I W m)) q k now → Stopped I W J X m whole q k now
      form_unjudged v = on_no _ named v

      module _ {j : ℕ} (judged : TermRead I W J X m (judgment S (item g.xs 4) (made I W m)) j now) {s : ℕ} (cl : s ≡ cell 6 facts i 0) where
        pub s_there : s < m.terms
        s_there = omega (arith, cl, row.judgment.below, made_length I W m)

        s_is : tree J X now s ≡ (fact_of S i).judgment
        s_is = grown_tree judged.went.grown s s_there ∙ ap (tree I W m) cl ∙ row.judgment.tree

        pub now_low : MadeBelow (length S.vars) (made J X now)
        now_low = judgment_low S (made I W m) (item g.xs 4) (tree J X now j) (made J X now) g.refers.recorded.trees g.low judged.went.makes

        pub s_low : Below (length S.vars) (tree J X now s)
        s_low = all_at (made J X now) s (var 0) now_low (omega (arith, grown_there judged.went.grown s s_there, made_length J X now))

        module _ {context : List ℕ} (front : context ≡ hs) where
          -- what `invert_on` asks
          abbrev pub form_on : InvertingOn (names theory goals text symbols ins vars defs) (rule_lists theory rules rulevars patterns) facts lists n J X now cells s j context
          form_on =
              record {
                footings = footings;
                form =
                    record {
                      S = S;
                      xs = g.xs;
                      refers = refers_on g.refers (grown_grows judged.went.grown) judged.went.grown.good;
                      ruled = g.ruled;
                      holds_items = g.holds_items;
                      many = g.many;
                      low = now_low;
                    };
                hypothesis = grown_there judged.went.grown s s_there;
                judgment = judged.there;
                below = s_low;
                known = subst (There n.facts) (sym front) (hs_there n hyps);
              }

          abbrev rest_on : Out Made (List Var)
          rest_on = invert_on S g.xs (tree J X now s) (tree J X now j) context (made J X now)

          on : On I W m whole J X now (then rest_on (answered (fact S i hs (tree J X now j))))
          on =
              on_is (on_ok _ named judged.went)
              (rest_is S g.xs (fact_of S i).judgment (tree J X now j) hs (fact S i hs (tree J X now j)) (made J X now)
              ∙ (λ k. then (invert_on S g.xs (sym s_is k) (tree J X now j) (sym front k) (made J X now))
              (answered (fact S i hs (tree J X now j)))))

          module _ {Y Z : List ℕ} {new : Mark} where
            pub form_refused : {q d : ℕ} → Stopped J X Y Z now rest_on q d new → Stopped I W Y Z m whole q d new
            form_refused z = on_no _ on z

            pub form_read : {sorts hyps' footing : List ℕ} {k : ℕ} → InvertedOn J X Y Z now S rest_on sorts k new → holds hyps' ≡ plus i (holds hyps) → footing ≡ replicate RULEWORDS 0 →
                InvertedRead I W Y Z m S whole hyps' footing sorts j k new
            form_read {sorts} {hyps'} {footing} {k} z p f =
                let unfooted : (v : ℕ) → holds footing v ≡ false = λ v. ap (λ (s : List ℕ). holds s v) f ∙ ap (λ (a : Set). a v) (holds_zero RULEWORDS) in
                record {
                  went = on_done (on_is (on_ok _ on z.went)
                      (λ b. answered (record {
                        judgment = sym (grown_tree z.went.grown j judged.there) b;
                        hyps = rising (length S.facts) (sym (p ∙ plus_is (holds hyps) i hs (λ b v. sym (rising_has n.facts (holds hyps) read.early v) b)) b);
                        assumed = false;
                        premises = none;
                        general = [];
                        footing = sym (rising_empty (length S.theory.rules) (holds footing) unfooted) b;
                      }) (vars_with S.vars sorts k) (made Y Z new)));
                  there = grown_there z.went.grown j judged.there;
                  earlier = λ v q. either v (holds hyps v) refl (sym (ap (λ (a : Set). a v) p) ∙ q);
                  known = λ v q. absurd (false≢true (sym (unfooted v) ∙ q));
                  more = z.more;
                  few = z.few;
                  others = z.others;
                }
              where
                either : (v : ℕ) (b : Bool) → holds hyps v ≡ b → holds hyps v || eqb v i ≡ true → v < length S.facts
                either v true q r = let t = read.early v q in omega (arith, t, g.refers.recorded.many)
                either v false q r =
                    let e : v ≡ i = eqb-true v i (ap (λ (c : Bool). c || eqb v i) (sym q) ∙ r) in
                    let t = read.there in
                    omega (arith, e, t, g.refers.recorded.many)

    -- The context ------------------------------------------------------------------------------------------------------------------------

    module _ (long : length hyps ≡ FACTWORDS) where
      facts_few : n.facts ≤ 64 * length hyps
      facts_few = omega (arith, long, g.refers.recorded.many, g.refers.recorded.rows.row12)

      context_is : rising (64 * length hyps) (holds hyps) ≡ hs
      context_is = rising_under n.facts (64 * length hyps) (holds hyps) facts_few read.early

      hs_few : length hs ≤ FACTS
      hs_few = let z = rising_few n.facts (holds hyps) in omega (arith, z, g.refers.recorded.many, g.refers.recorded.rows.row12)

      -- what `write_out` asks
      pub form_writes : (list : List ℕ) → length list ≡ FACTS → length (rising (64 * length hyps) (holds hyps)) ≤ length list
      form_writes list e = omega (arith, ap length context_is, hs_few, e)

      module _ (before : List ℕ) {list : List ℕ} {k : ℕ} (room : length before ≡ FACTS)
          (w : (k ≡ length (rising (64 * length hyps) (holds hyps))) × (list ≡ sets before 0 (rising (64 * length hyps) (holds hyps)))) where
        pub form_few : k ≤ length list
        form_few = omega (
          arith,
          w.0,
          ap length context_is,
          hs_few,
          ap length w.1 ∙ length-sets before 0 (rising (64 * length hyps) (holds hyps)) ∙ room,
        )

        pub form_front : take k list ≡ hs
        form_front =
            (λ i. take ((w.0 ∙ ap length context_is) i) ((w.1 ∙ ap (sets before 0) context_is ∙ sets-eq hs before 0 (omega (arith, hs_few, room))) i))
            ∙ take-append_seam hs (drop (0 + length hs) before)
