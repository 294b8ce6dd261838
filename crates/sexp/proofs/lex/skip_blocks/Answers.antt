use Rattle.std.proofs.Common.{rules, tests, ◌≡◌, refl, ap, subst, ◌∙◌, ℕ, ◌+◌, ◌-◌, ◌*◌, ◌≤◌, arith, List, length, take, drop, length-take, length-drop, drop-drop, take_all}
use Rattle.std.specs.Prelude.{Option, Some, None, IfSome}
use Rattle.std.specs.Option.{option_map}
use Rattle.sexp.specs.Never.{never}
use Rattle.sexp.proofs.lex.skip_blocks.Goals as goal

there : {A : Type 0} (o : Option A) {x : A} → option_map (λ y. y) o ≡ Some x → (y : A) × (o ≡ Some y)
there None e = never cc
there (Some y) e = (y, refl)

of_some : {A : Type 0} (P : A → Type 0) {o : Option A} {y : A} → o ≡ Some y → IfSome o P → P y
of_some P e k = subst (λ o. IfSome o P) e k

-- block k of what is left from a place on
nth_block : (text : List ℕ) (from k : ℕ) {s : ℕ} {rest : List ℕ} → s ≡ 64 → rest ≡ take (length text - from) (drop from text)
    → take s (drop (k * s) rest) ≡ take 64 (drop (from + 64 * k) text)
nth_block text from k e f =
    rw (e, f, take_all (length text - from) (drop from text) (omega (arith, length-drop from text)), drop-drop (k * 64) from text)
    (ap (λ (n : ℕ). take 64 (drop n text)) (omega arith))

pub returns : goal.returns
returns g c =
    let run = c.count.ensures.runs in
    let p = run.0 in
    let under = c.take_while.ensures.runs p p.seen run.1 in
    let q = under.0 in
    let cut = c.chunks_exact-blocks.ensures.runs q q.seen (search rules) in
    let size : q.from.size ≡ 64 = search rules in
    let rest : q.from.rest.now ≡ take (length c.args.text.now - c.args.from) (drop c.args.from c.args.text.now) = search rules in
    let few : c.count.result ≤ q.len = omega (arith, under.2.0, run.3) in
    let long : q.len * 64 ≤ length c.args.text.now - c.args.from = omega (arith, cut.0, ap (λ (m : ℕ). q.len * m) size, ap length rest, length-take (length c.args.text.now - c.args.from) (drop c.args.from c.args.text.now)) in (
      c.count.result,
      refl,
      omega (arith, few, long),
      λ k l.
          let item = there (p.at k) (p.reads k c.args.text (omega (arith, l, run.3))) in
          let part = of_some _ (under.2.1 k (omega (arith, l, run.3)) ∙ item.1) (cut.2 k) in
          let passed = of_some _ item.1 ((under.2.2 (λ a r f e. search (rules, tests))).0 k) in
          record { shown = item.0; shows = part.2.0 ∙ nth_block c.args.text.now c.args.from k size rest; says = search rules },
    )
