-- Each declaration keeps a theory well-formed. Assumes nothing.
use Rattle.std.specs.Prelude.{ℕ, suc, ◌+◌, ◌<◌, ◌≤◌, ◌≡◌, refl, not, List, [], ◌∷◌, ◌++◌, ltb, length, Option, Some as some, None as nothing}
use Rattle.std.proofs.Common.{sym, ap, ◌∙◌, subst, arith, ltb-true, length-append}
use Rattle.rules.specs.Limits.{SORTS, SYMBOLS, ARGUMENTS, RULES}
use Rattle.rules.specs.Text.{same}
use Rattle.rules.specs.Out.{Out, ok, refuse, then, ask, room}
use Rattle.rules.specs.Laws.Out.{Ok, fine, of_ok, by_name, by_items, by_ask, by_room, by_found, by_beside, by_assoc}
use Rattle.rules.specs.Sexp.{Sexp, Sexps, nil, cons, count, item, Name, name, marked, Text, ends, fails, more as more_forms, read}
use Rattle.rules.specs.Laws.Find.{first_some, get_d_front}
use Rattle.rules.specs.Tree.{Tree, Trees, var, app, none, more, size, sizes}
use Rattle.rules.specs.Theory.{Symbol, RuleVar, Rule, Theory, no_theory, no_name, no_symbol, sort_named, rule_named, predicate_named, constructor_named, inputs, output, rule_words}
use Rattle.rules.specs.Laws.Theory.{All, empty, both, IsSort, Sorted, Sorteds, Judgment, Judgments, SymbolFormed, RuleFormed, WellFormed, all_snoc, all_map}
use Rattle.rules.specs.Declare.{is_new, proper_name, sort, sorts, schema, add_sort, add_symbol, add_ctor, add_pred, add_rule, declare_as, declare}
use Rattle.rules.specs.Laws.Pattern.{schema_reads}
use Rattle.rules.specs.Tags.{Declaration, a_sort, a_ctor, a_pred, a_rule, declaration}
use Rattle.rules.specs.Loop.{Judged, done, refused, through, unread, whole}

-- A theory that has grown ------------------------------------------------------------------------------------------------------

-- more sorts, more symbols
pub record Grows (T U : Theory) : Type 0 where
  pub sorts : length T.sorts ≤ length U.sorts
  pub symbols : length T.symbols ≤ length U.symbols
  pub ins : (c : ℕ) → c < length T.symbols → inputs U c ≡ inputs T c
  pub outs : (c : ℕ) → c < length T.symbols → output U c ≡ output T c

is_sort_grows : {T U : Theory} → Grows T U → (s : ℕ) → IsSort T s → IsSort U s
is_sort_grows g s h = record { positive = h.positive; declared = omega (arith, h.declared, g.sorts) }

mutual
  unfolding Sorted

  sorted_grows : (t : Tree) (T U : Theory) → Grows T U → (vs : List RuleVar) (s : ℕ) → Sorted T vs t s → Sorted U vs t s
  sorted_grows (var i) T U g vs s h = h
  sorted_grows (app c ts) T U g vs s h = (
    omega (arith, h.0, g.symbols),
    g.outs c h.0 ∙ h.1,
    subst (λ ss. Sorteds U vs ts ss) (sym (g.ins c h.0)) (sorteds_grows ts T U g vs (inputs T c) h.2),
  )

  sorteds_grows : (ts : Trees) (T U : Theory) → Grows T U → (vs : List RuleVar) (ss : List ℕ) → Sorteds T vs ts ss → Sorteds U vs ts ss
  sorteds_grows none T U g vs [] h = tt
  sorteds_grows none T U g vs (s ∷ ss) h = absurd h
  sorteds_grows (more t ts) T U g vs [] h = absurd h
  sorteds_grows (more t ts) T U g vs (s ∷ ss) h = (sorted_grows t T U g vs s h.0, sorteds_grows ts T U g vs ss h.1)

judgment_grows : (t : Tree) (T U : Theory) → Grows T U → (vs : List RuleVar) → Judgment T vs t → Judgment U vs t
unfolding Judgment
judgment_grows (var i) T U g vs h = absurd h
judgment_grows (app c ts) T U g vs h = (
  omega (arith, h.0, g.symbols),
  g.outs c h.0 ∙ h.1,
  subst (λ ss. Sorteds U vs ts ss) (sym (g.ins c h.0)) (sorteds_grows ts T U g vs (inputs T c) h.2),
)

judgments_grows : (ts : Trees) (T U : Theory) → Grows T U → (vs : List RuleVar) → Judgments T vs ts → Judgments U vs ts
unfolding Judgments
judgments_grows none T U g vs h = tt
judgments_grows (more t ts) T U g vs h = (judgment_grows t T U g vs h.0, judgments_grows ts T U g vs h.1)

symbol_grows : {T U : Theory} → Grows T U → (s : Symbol) → SymbolFormed T s → SymbolFormed U s
symbol_grows g s h = record { few = h.few; ins = all_map (is_sort_grows g) h.ins; out = omega (arith, h.out, g.sorts) }

rule_grows : {T U : Theory} → Grows T U → (r : Rule) → RuleFormed T r → RuleFormed U r
rule_grows {T} {U} g r h =
    record {
      few = h.few;
      sorts = all_map (λ v. is_sort_grows g v.sort) h.sorts;
      premises = judgments_grows r.premises T U g r.vars h.premises;
      conclusion = judgment_grows r.conclusion T U g r.vars h.conclusion;
      occur = h.occur;
    }

-- Sorts and symbols ------------------------------------------------------------------------------------------------------------

module _ {S B : Type 0} {P : B → S → Type 0} where
  by_proper : (x : Sexp) (s : S) (f : Name → S → Out S B) → ((n : Name) → Ok P (f n s)) → Ok P (then (proper_name x s) f)
  unfolding proper_name then
  by_proper x s f h =
      by_assoc (name 11 x s) _ f (by_name 11 x s _ λ n e.
      by_assoc (ask 11 (not (marked n.bytes)) s) _ f (by_ask 11 (not (marked n.bytes)) s _ λ b. h n))

  by_sort : (T : Theory) (x : Sexp) (s : S) (f : ℕ → S → Out S B) → ((k : ℕ) → IsSort T k → Ok P (f k s)) → Ok P (then (sort T x s) f)
  unfolding sort sort_named
  by_sort T x s f h =
      by_assoc (proper_name x s) _ f (by_proper x s _ λ n.
      by_found 11 (sort_named T n.bytes) s _ λ k e.
      let r = first_some (λ (m : Name). same m.bytes n.bytes) T.sorts 1 k no_name e in
      h k (record { positive = omega (arith, r.is); declared = omega (arith, r.is, r.inside) }))

-- the argument sorts are declared ones, and not too many
by_sorts : {S B : Type 0} {P : B → S → Type 0} (T : Theory) (xs : Sexps) (k : ℕ) (s : S) (f : List ℕ → S → Out S B) → k ≤ ARGUMENTS →
    ((ss : List ℕ) → All (IsSort T) ss → k + length ss ≤ ARGUMENTS → Ok P (f ss s)) → Ok P (then (sorts T xs k s) f)
unfolding sorts then
by_sorts T nil k s f l h = h [] empty (omega (arith, l))
by_sorts T (cons x xs) k s f l h =
    by_assoc (sort T x s) _ f (by_sort T x s _ λ i a.
    by_assoc (room 3 (ltb k ARGUMENTS) s) _ f (by_room 3 (ltb k ARGUMENTS) s _ λ b.
    by_assoc (sorts T xs (suc k) s) _ f (by_sorts T xs (suc k) s _ (ltb-true k ARGUMENTS b) λ ss are c.
    h (i ∷ ss) (both a are) (omega (arith, c)))))

-- one sort more
grows_sort : (T : Theory) (n : Name) → Grows T (record { sorts = T.sorts ++ (n ∷ []); symbols = T.symbols; rules = T.rules })
unfolding inputs output
grows_sort T n =
    record { sorts = omega (arith, length-append T.sorts (n ∷ [])); symbols = omega arith; ins = λ c l. refl; outs = λ c l. refl }

add_sort_keeps : (T : Theory) (xs : Sexps) → WellFormed T → Ok (λ u U. WellFormed U) (add_sort xs T)
unfolding add_sort then
add_sort_keeps T xs w =
    by_proper (item xs 1) T _ λ n.
    by_ask 11 (is_new (sort_named T n.bytes)) T _ λ e.
    by_room 1 (ltb (length T.sorts) SORTS) T _ λ h.
    fine (record {
      row1 = omega (arith, ltb-true (length T.sorts) SORTS h, length-append T.sorts (n ∷ []));
      row2 = w.row2;
      row4 = w.row4;
      row6 = w.row6;
      symbols = all_map (symbol_grows (grows_sort T n)) w.symbols;
      rules = all_map (rule_grows (grows_sort T n)) w.rules;
    })

-- one symbol more
grows_symbol : (T : Theory) (s : Symbol) → Grows T (record { sorts = T.sorts; symbols = T.symbols ++ (s ∷ []); rules = T.rules })
unfolding inputs output
grows_symbol T s =
    record {
      sorts = omega arith;
      symbols = omega (arith, length-append T.symbols (s ∷ []));
      ins = λ c l. ap (λ (d : Symbol). d.inputs) (get_d_front T.symbols (s ∷ []) c no_symbol l);
      outs = λ c l. ap (λ (d : Symbol). d.output) (get_d_front T.symbols (s ∷ []) c no_symbol l);
    }

symbol_added : (T : Theory) (s : Symbol) → WellFormed T → SymbolFormed T s → length T.symbols < SYMBOLS →
    WellFormed (record { sorts = T.sorts; symbols = T.symbols ++ (s ∷ []); rules = T.rules })
symbol_added T s w k h =
    record {
      row1 = w.row1;
      row2 = omega (arith, h, length-append T.symbols (s ∷ []));
      row4 = w.row4;
      row6 = w.row6;
      symbols = all_snoc (all_map (symbol_grows (grows_symbol T s)) w.symbols) (symbol_grows (grows_symbol T s) s k);
      rules = all_map (rule_grows (grows_symbol T s)) w.rules;
    }

add_symbol_keeps : (T : Theory) (s : Symbol) → WellFormed T → SymbolFormed T s → Ok (λ u U. WellFormed U) (add_symbol s T)
unfolding add_symbol then
add_symbol_keeps T s w k =
    by_room 2 (ltb (length T.symbols) SYMBOLS) T _ λ h. fine (symbol_added T s w k (ltb-true (length T.symbols) SYMBOLS h))

add_ctor_keeps : (T : Theory) (xs : Sexps) → WellFormed T → Ok (λ u U. WellFormed U) (add_ctor xs T)
unfolding add_ctor then
add_ctor_keeps T xs w =
    by_proper (item xs 1) T _ λ n.
    by_items 11 (item xs 2) T _ λ ys e.
    by_sorts T ys 0 T _ (omega arith) λ ss a l.
    by_sort T (item xs 3) T _ λ s i.
    by_ask 11 (is_new (constructor_named T n.bytes)) T _ λ f.
    add_symbol_keeps T _ w (record { few = omega (arith, l); ins = a; out = i.declared })

add_pred_keeps : (T : Theory) (xs : Sexps) → WellFormed T → Ok (λ u U. WellFormed U) (add_pred xs T)
unfolding add_pred then
add_pred_keeps T xs w =
    by_proper (item xs 1) T _ λ n.
    by_items 11 (item xs 2) T _ λ ys e.
    by_sorts T ys 0 T _ (omega arith) λ ss a l.
    by_ask 11 (is_new (predicate_named T n.bytes)) T _ λ f.
    add_symbol_keeps T _ w (record { few = omega (arith, l); ins = a; out = omega arith })

-- Rules ------------------------------------------------------------------------------------------------------------------------

rule_words_snoc : (rs : List Rule) (r : Rule) → rule_words (rs ++ (r ∷ [])) ≡ rule_words rs + sizes r.premises + size r.conclusion
unfolding rule_words
rule_words_snoc [] r = omega arith
rule_words_snoc (q ∷ rs) r = omega (arith, rule_words_snoc rs r)

-- the sorts and symbols of a theory decide what its rules may say
grows_rule : (T : Theory) (rs : List Rule) → Grows T (record { sorts = T.sorts; symbols = T.symbols; rules = rs })
unfolding inputs output
grows_rule T rs = record { sorts = omega arith; symbols = omega arith; ins = λ c l. refl; outs = λ c l. refl }

add_rule_keeps : (T : Theory) (xs : Sexps) → WellFormed T → Ok (λ u U. WellFormed U) (add_rule xs T)
unfolding add_rule then
add_rule_keeps T xs w =
    by_beside (schema T xs) (record { vars = []; words = rule_words T.rules }) T _
    (schema_reads T w.symbols xs (record { vars = []; words = rule_words T.rules })
    (record { few = omega arith; roomy = w.row6; sorts = empty }))
    λ q U k.
    by_proper (item xs 1) T _ λ n.
    by_ask 11 (is_new (rule_named T n.bytes)) T _ λ f.
    by_room 4 (ltb (length T.rules) RULES) T _ λ h.
    let r : Rule = record { name = n; vars = U.vars; premises = q.0; conclusion = q.1 } in
    let g = grows_rule T (T.rules ++ (r ∷ [])) in
    fine (record {
      row1 = w.row1;
      row2 = w.row2;
      row4 = omega (arith, ltb-true (length T.rules) RULES h, length-append T.rules (r ∷ []));
      row6 = omega (arith, rule_words_snoc T.rules r, k.words, k.reads.roomy);
      symbols = all_map (symbol_grows g) w.symbols;
      rules = all_snoc (all_map (rule_grows g) w.rules) (rule_grows g r (record {
        few = k.reads.few;
        sorts = k.reads.sorts;
        premises = k.premises;
        conclusion = k.conclusion;
        occur = λ i l. k.occur i (omega arith) l;
      }));
    })

-- Declarations -----------------------------------------------------------------------------------------------------------------

declare_as_keeps : (d : Declaration) (T : Theory) (xs : Sexps) → WellFormed T → Ok (λ u U. WellFormed U) (declare_as d xs T)
unfolding declare_as
declare_as_keeps a_sort T xs w = add_sort_keeps T xs w
declare_as_keeps a_ctor T xs w = add_ctor_keeps T xs w
declare_as_keeps a_pred T xs w = add_pred_keeps T xs w
declare_as_keeps a_rule T xs w = add_rule_keeps T xs w

declare_formed : (T : Theory) (x : Sexp) → WellFormed T → Ok (λ u U. WellFormed U) (declare x T)
unfolding declare
declare_formed T x w =
    by_items 10 x T _ λ xs e.
    by_name 10 (item xs 0) T _ λ t f.
    by_found 10 (declaration t.bytes (count xs)) T _ λ d g.
    declare_as_keeps d T xs w

pub declare_keeps : (T U : Theory) (x : Sexp) → WellFormed T → declare x T ≡ ok tt U → WellFormed U
declare_keeps T U x w e = of_ok (declare_formed T x w) e

-- the theory behind the last form that was taken
unfoldable pub reached : Judged Theory → Theory
reached (done k T) = T
reached (refused n d k T) = T

through_keeps : (t : Text) (k : ℕ) (T : Theory) → WellFormed T → WellFormed (reached (through declare t k T))
unfolding through reached
through_keeps ends k T w = w
through_keeps (fails n) k T w = w
through_keeps (more_forms x p t) k T w = go (declare x T) refl (λ U v. through_keeps t (suc k) U v)
  where
    go : (r : Out Theory (Unit {0})) → declare x T ≡ r → ((U : Theory) → WellFormed U → WellFormed (reached (through declare t (suc k) U))) →
        WellFormed (reached (elim r [ ok a u ↦ through declare t (suc k) u | refuse n d u ↦ refused n d k T ]))
    go (ok a U) e f = f U (declare_keeps T U x w e)
    go (refuse n d u) e f = w

pub nothing_formed : WellFormed no_theory
unfolding rule_words
nothing_formed = record { row1 = omega arith; row2 = omega arith; row4 = omega arith; row6 = omega arith; symbols = empty; rules = empty }

-- every theory that a text declares, up to its end or to its refusal
pub whole_keeps : (t : Text) (T : Theory) → WellFormed T → WellFormed (reached (whole declare t T))
unfolding whole reached
whole_keeps t T w = go (unread t 0)
  where
    go : (o : Option (ℕ × ℕ)) → WellFormed (reached (elim o [ nothing ↦ through declare t 0 T | some r ↦ refused r.0 0 r.1 T ]))
    go nothing = through_keeps t 0 T w
    go (some r) = w

pub theory_formed : (text : List ℕ) → WellFormed (reached (whole declare (read text) no_theory))
theory_formed text = whole_keeps (read text) no_theory nothing_formed
