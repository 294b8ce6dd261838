use mathlib.Core.Path.{◌≡◌, ◌∙◌}
use mathlib.Core.Bool.{Bool, ◌&&◌}
use Rattle.rules.specs.Declare.{is_new}
use Rattle.rules.specs.Theory.{constructor_named, predicate_named}
use Rattle.rules.specs.State.{var_named}
use Rattle.forms.proofs.Variables.{none_new, both_new, one_old, all_new, not_both}
use Rattle.forms.proofs.declare.is_unused.Goals.{then-is_none, else-is_none}
use Rattle.forms.proofs.declare.is_unused.Goals as goal

pub returns-then-is_none-2 : goal.returns-then-is_none-2
returns-then-is_none-2 c = λ S k.
    let (inputs, h, v) = k in
    let x : Bool = is_new (constructor_named S.theory c.args.name.now) in
    let y : Bool = is_new (predicate_named S.theory c.args.name.now) in
    let h' = rw (c.symbol_table-symbols.ensures, c.reader_of-reader.ensures) at c.constructor_named.ensures in
    let first : c.is_none.result ≡ x = none_new c.constructor_named.result (h' S.theory inputs h) c.is_none.ensures in
    let both : c.if-is_none.value ≡ x && y = elim c.if-is_none.branch [
      | then-is_none w ↦ both_new first w.if-is_none.true
          (w.value-is ∙ none_new w.predicate_named.result ((rw (c.symbol_table-symbols.ensures, c.reader_of-reader.ensures) at w.predicate_named.ensures) S.theory inputs h) w.is_none-then-is_none.ensures)
      | else-is_none w ↦ one_old y first w.if-is_none.false w.value-is
    ] in
    all_new x y both c.if-is_none-2.true (none_new c.named.result ((rw (c.var_table-vars.ensures, c.reader_of-reader.ensures) at c.named.ensures) S.vars v) c.is_none-then-is_none-2.ensures)

pub returns-else-is_none-2 : goal.returns-else-is_none-2
returns-else-is_none-2 c = λ S k.
    let (inputs, h, v) = k in
    let x : Bool = is_new (constructor_named S.theory c.args.name.now) in
    let y : Bool = is_new (predicate_named S.theory c.args.name.now) in
    let h' = rw (c.symbol_table-symbols.ensures, c.reader_of-reader.ensures) at c.constructor_named.ensures in
    let first : c.is_none.result ≡ x = none_new c.constructor_named.result (h' S.theory inputs h) c.is_none.ensures in
    let both : c.if-is_none.value ≡ x && y = elim c.if-is_none.branch [
      | then-is_none w ↦ both_new first w.if-is_none.true
          (w.value-is ∙ none_new w.predicate_named.result ((rw (c.symbol_table-symbols.ensures, c.reader_of-reader.ensures) at w.predicate_named.ensures) S.theory inputs h) w.is_none-then-is_none.ensures)
      | else-is_none w ↦ one_old y first w.if-is_none.false w.value-is
    ] in
    not_both x y (is_new (var_named S.vars c.args.name.now)) both c.if-is_none-2.false
