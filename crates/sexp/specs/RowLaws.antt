-- Laws of a name that stands in two cells of a table. Assumes nothing.
use Rattle.std.specs.Prelude.{◌≡◌, ℕ, ◌+◌, ◌-◌, ◌≤◌, List, length, get_or, take, drop}
use Rattle.std.proofs.Common.{arith}
use Rattle.rules.specs.Sexp.{Name}
use Rattle.sexp.specs.NameRows.{NameAt}

module _ {text table : List ℕ} {at : ℕ} {n : Name} (k : NameAt text table at n) where
  pub name_order : get_or table at 0 ≤ get_or table (at + 1) 0
  name_order = omega (arith, k.start, k.end)

  pub name_within : get_or table (at + 1) 0 ≤ length text
  name_within = omega (arith, k.end, k.name.inside)

  pub name_bytes : take (get_or table (at + 1) 0 - get_or table at 0) (drop (get_or table at 0) text) ≡ n.bytes
  name_bytes =
      let e : get_or table (at + 1) 0 - get_or table at 0 ≡ length n.bytes = omega (arith, k.start, k.end) in
      rw (e, k.start) k.name.spelt
