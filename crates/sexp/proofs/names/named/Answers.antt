use Rattle.std.proofs.Common.{rules, tests, ◌≡◌, sym, ap, ◌∙◌, ◌<◌, true, false, ℕ, Bool, ◌+◌, ◌-◌, ◌*◌, arith, get_or, take, drop}
use Rattle.std.proofs.lemmas.Iterator.{first_from_Range}
use Rattle.rules.specs.Text.{same}
use Rattle.rules.specs.Theory.{no_name}
use Rattle.sexp.specs.FoundLaws.{first_is}
use Rattle.sexp.specs.RowLaws.{name_bytes}
use Rattle.sexp.proofs.names.named.Goals as goal

pub returns : goal.returns
returns c = λ ns r.
    let table = c.args.table.now in
    let name = c.args.name.now in
    let at : ℕ → ℕ = λ k. c.args.width * k + c.args.place in
    let test : ℕ → Bool = λ k. same (take (get_or table (at k + 1) 0 - get_or table (at k) 0) (drop (get_or table (at k) 0) c.args.text.now)) name in
    let is : (k : ℕ) → k < c.args.count → test k ≡ same (get_or ns k no_name).bytes name
    = λ k l. ap (λ b. same b name) (name_bytes (r.row k (omega (arith, l, r.many)))) in
    let e = first_is (λ n. same n.bytes name) ns no_name 0 r.many (λ k. test k ≡ true) (λ k. test k ≡ false)
    (λ k l e. sym (is k l) ∙ e) (λ k l e. sym (is k l) ∙ e) c.find.result
    (first_from_Range _ c.find.new.self _ c.find.result (λ k. test k ≡ true) (λ k. test k ≡ false) c.find.ensures.ran
    (λ x q k. search (rules, tests)) (λ x q k. search (rules, tests))) in
    search (rules, tests, e)
