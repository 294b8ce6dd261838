-- The store as it is lent: what its tables say, and what a call did to it. Assumes nothing.
use Rattle.std.specs.Prelude.{◌≡◌, ℕ, Result}
use Rattle.rules.specs.Out.{Out}
use Rattle.rules.specs.Tree.{Tree}
use Rattle.rules.specs.Store.{Made}
use Rattle.questions.specs.declared.Row.{Row}
use Rattle.terms.specs.declared.store.Mark.{Mark}
use Rattle.terms.specs.declared.store.Terms.{Terms}
use Rattle.terms.specs.declared.store.Store.{Store}
use Rattle.terms.specs.Table.{Good, made, tree, After, Part, Back}

-- What its tables say ------------------------------------------------------------------------------------------------------------

abbrev pub GoodTerms : Terms → Type 0
GoodTerms t = Good t.index.now t.words.now t.mark

abbrev pub terms_made : Terms → Made
terms_made t = made t.index.now t.words.now t.mark

abbrev pub GoodStore : Store → Type 0
GoodStore s = Good s.index.now s.words.now s.mark

abbrev pub made_of : Store → Made
made_of s = made s.index.now s.words.now s.mark

-- the tree of a term, by its number
abbrev pub tree_made : Terms → ℕ → Tree
tree_made t id = tree t.index.now t.words.now t.mark id

abbrev pub tree_of : Store → ℕ → Tree
tree_of s id = tree s.index.now s.words.now s.mark id

-- a store as it is read
abbrev pub terms_of : Store → Terms
terms_of s =
    record {
      index = record { ref_ptr = s.index.ref_ptr; now = s.index.now };
      words = record { ref_ptr = s.words.ref_ptr; now = s.words.now };
      mark = s.mark;
    }

-- What a call did ------------------------------------------------------------------------------------------------------------------

-- the references are those that were lent
abbrev pub SameTables : Store → Store → Type 0
SameTables s t = (t.index.ghost_name ≡ s.index.ghost_name) × (t.words.ghost_name ≡ s.words.ghost_name)

-- a call that puts the tree into the store, which the definition answers by K, went from s to t
abbrev pub KeptAs : Store → Store → Tree → Out Made Tree → Result ℕ Row → Type 0
KeptAs s t tree K r = After s.index.now s.words.now t.index.now t.words.now s.mark t.mark tree K r

-- the first terms, up to the mark old, are a part of those that are there
abbrev pub PartIn : Store → Mark → Type 0
PartIn s old = Part s.index.now s.words.now s.mark old

-- s went back to t, which holds those up to the mark old alone
abbrev pub BackIn : Store → Store → Mark → Type 0
BackIn s t old = Back s.index.now s.words.now t.index.now t.words.now old
