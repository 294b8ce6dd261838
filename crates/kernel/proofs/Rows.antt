-- Symbols in rows of a table, as the look-ups read them. Assumes nothing.
use mathlib.Core.Path.{◌≡◌, sym, ap, ◌∙◌}
use Prim.Native.Nat.{ℕ, ◌+◌, ◌-◌, ◌*◌}
use mathlib.Core.Bool.{true, false, ◌&&◌, not}
use mathlib.Core.List.{List}
use lib.Dec.{eqb}
use lib.ListN.{get_or, take, drop}
use Rattle.rules.specs.Text.{same}
use Rattle.rules.specs.Theory.{Symbol, is_predicate}
use Rattle.sexp.specs.RowLaws.{name_bytes}
use Rattle.kernel.specs.declared.names.Kind.{Kind}
use Rattle.kernel.specs.declared.names.Kind.TheVariants.{Constructor, Predicate}
use Rattle.kernel.specs.Named.{kind_of, of_kind, SymbolAt, called}

-- Symbols ------------------------------------------------------------------------------------------------------------------------

module _ (name : List ℕ) (b : Kind) {text table : List ℕ} {k : ℕ} {s : Symbol} (a : SymbolAt text table k s) where
  kind_is : kind_of b (get_or table (4 * k) 0) ≡ of_kind b s
  unfolding of_kind is_predicate
  kind_is = go b
    where
      go : (c : Kind) → kind_of c (get_or table (4 * k) 0) ≡ of_kind c s
      go Predicate = ap (λ n. eqb n 0) a.output
      go Constructor = ap (λ n. not (eqb n 0)) a.output

  pub symbol_is : kind_of b (get_or table (4 * k) 0) ≡ true →
      same (take (get_or table (4 * k + 2 + 1) 0 - get_or table (4 * k + 2) 0) (drop (get_or table (4 * k + 2) 0) text)) name ≡ called b name s
  symbol_is e = ap (λ l. same l name) (name_bytes a.name) ∙ sym (ap (λ c. c && same s.name.bytes name) (sym kind_is ∙ e))

  pub symbol_not : kind_of b (get_or table (4 * k) 0) ≡ false → false ≡ called b name s
  symbol_not e = sym (ap (λ c. c && same s.name.bytes name) (sym kind_is ∙ e))
