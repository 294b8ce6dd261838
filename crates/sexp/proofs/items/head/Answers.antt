use Rattle.std.proofs.Common.{◌≡◌, length, rules}
use Rattle.sexp.proofs.Firsts.{head_none, head_list, head_start, head_atom}
use Rattle.sexp.proofs.items.head.Goals as goal

pub returns-then-is_empty : goal.returns-then-is_empty
returns-then-is_empty c = let z : length c.args.words.now ≡ 0 = search rules in λ xs h. head_none xs h z

pub returns-in_default : goal.returns-in_default
returns-in_default c = let n : length c.args.words.now ≡ 0 → ⊥ = search rules in λ xs h. head_list xs h n c.item_at.ensures c.in_default.is

pub atom-requires : goal.atom-requires
atom-requires c = let n : length c.args.words.now ≡ 0 → ⊥ = search rules in head_start c.requires.0 c.requires.1 n c.item_at.ensures c.in-Atom.is

pub returns : goal.returns
returns c =
    let n : length c.args.words.now ≡ 0 → ⊥ = search rules in
    λ xs h. rw c.atom.ensures (head_atom xs h n c.item_at.ensures c.in-Atom.is)
