use Rattle.std.proofs.Common.{◌≡◌, sym, ap, ◌∙◌, ℕ, ◌+◌, ◌-◌, List, ◌++◌, length, take, drop, replicate, arith, length-take-le, length-drop}
use Rattle.std.proofs.lemmas.List.{length-replicate}
use Rattle.std.proofs.lemmas.List.Edits.{paste_all}
use Rattle.std.proofs.lemmas.Slice.{put_mid-paste}
use Rattle.facts.specs.declared.Fact.{Fact}
use Rattle.facts.specs.Table.{blank}
use Rattle.facts.specs.Laws.{zeroed_is}
use Rattle.facts.proofs.zero_behind.Goals as goal

pub returns : goal.returns
returns c =
    let n : ℕ = c.args.to - c.args.from in
    let blanks : List Fact = replicate n blank in
    let room : length (take n (drop c.args.from c.args.facts.now)) ≡ n =
    length-take-le n (drop c.args.from c.args.facts.now) (omega (arith, length-drop c.args.from c.args.facts.now)) in
    let filled : c.fill.new.self ≡ blanks =
    c.fill.ensures.after (λ y h. h) ∙ ap (λ (k : ℕ). replicate k blank) room in
    let behind : c.args.from + n ≡ c.args.to = omega arith in
    let size : n ≡ length blanks = sym (length-replicate n blank) in
    put_mid-paste c.args.from n c.args.facts.now c.fill.new.self blanks n filled (omega arith) size
    ∙ paste_all c.args.facts.now c.args.from blanks n size
    ∙ ap (λ (k : ℕ). take c.args.from c.args.facts.now ++ (blanks ++ drop k c.args.facts.now)) behind
    ∙ sym (zeroed_is c.args.facts.now c.args.from c.args.to)
