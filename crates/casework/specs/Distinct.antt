-- Names of a text, told apart by a tree. Node n, counted from 1, is a name: two cells of `places` say where it begins and ends, two cells of `links` lead to the nodes below it,
-- 0 where there is none; cell 0 leads to the first node. A name goes from node to node by its bits until it meets itself or a cell that is 0. Assumes nothing.
use Rattle.std.specs.Prelude.{◌≡◌, Bool, true, false, List, ℕ, suc, ◌+◌, ◌-◌, ◌*◌, ◌/◌, ◌%◌, ◌^◌, ◌<◌, ◌≤◌, length, get_or, take, drop, Option, Some as some, None as nothing}
use Rattle.casework.specs.declared.distinct.NameTree.{NameTree}

-- which of two ways a name takes at a depth: the bits of its letters, the lowest first
unfoldable pub turn_of : List ℕ → ℕ → ℕ
turn_of name d = get_or name (d / 8) 0 / 2 ^ (d % 8) % 2

-- the letters between two places
abbrev pub between : List ℕ → ℕ → ℕ → List ℕ
between text start end = take (end - start) (drop start text)

-- the name of a node
abbrev pub name_of : List ℕ → List ℕ → ℕ → List ℕ
name_of text places n = between text (get_or places (2 * n) 0) (get_or places (2 * n + 1) 0)

-- the name goes from cell c at depth d to this cell and depth
pub data Way (links name : List ℕ) (cell depth : ℕ) : ℕ → ℕ → Type 0 where
  done : Way links name cell depth cell depth
  on : {c d : ℕ} → 0 < get_or links c 0 → Way links name cell depth (2 * get_or links c 0 + turn_of name d) (suc d) → Way links name cell depth c d

-- it comes to node n
pub record Comes (links name : List ℕ) (c d n : ℕ) : Type 0 where
  pub cell : ℕ
  pub depth : ℕ
  pub way : Way links name cell depth c d
  pub is : get_or links cell 0 ≡ n

-- so many names are in the tree, each where it comes to
pub record Tree (text places links : List ℕ) (many : ℕ) : Type 0 where
  pub even : length links ≡ length places
  pub room : 2 * many + 2 ≤ length places
  pub known : (c : ℕ) → get_or links c 0 ≤ many
  pub rise : (c : ℕ) → 0 < get_or links c 0 → c < 2 * get_or links c 0
  pub low : (n : ℕ) → 1 ≤ n → n ≤ many → get_or places (2 * n) 0 ≤ get_or places (2 * n + 1) 0
  pub high : (n : ℕ) → 1 ≤ n → n ≤ many → get_or places (2 * n + 1) 0 ≤ length text
  pub there : (n : ℕ) → 1 ≤ n → n ≤ many → Comes links (name_of text places n) 0 0 n

-- node n has the name
pub record IsMet (text places : List ℕ) (many : ℕ) (name : List ℕ) : Type 0 where
  pub n : ℕ
  pub some : 1 ≤ n
  pub few : n ≤ many
  pub is : name_of text places n ≡ name

-- no node has it
abbrev pub Unmet : List ℕ → List ℕ → ℕ → List ℕ → Type 0
Unmet text places many name = (n : ℕ) → 1 ≤ n → n ≤ many → name_of text places n ≡ name → ⊥

-- none has it, and it comes to a cell that is 0
pub record IsFree (text places links : List ℕ) (many : ℕ) (name : List ℕ) (cell : ℕ) : Type 0 where
  pub depth : ℕ
  pub way : Way links name cell depth 0 0
  pub empty : get_or links cell 0 ≡ 0
  pub near : cell ≤ 2 * many + 1
  pub new : Unmet text places many name

abbrev pub SpotAs : List ℕ → List ℕ → List ℕ → ℕ → List ℕ → Option ℕ → Type 0
SpotAs text places links many name nothing = IsMet text places many name
SpotAs text places links many name (some cell) = IsFree text places links many name cell

-- the name came in as one more node; the others are as they were
pub record Entered (text places places' links' : List ℕ) (many many' : ℕ) (name : List ℕ) : Type 0 where
  pub new : Unmet text places many name
  pub tree : Tree text places' links' (many + 1)
  pub own : name_of text places' (many + 1) ≡ name
  pub others : (n : ℕ) → n ≤ many → name_of text places' n ≡ name_of text places n
  pub count : many' ≡ many + 1

abbrev pub EnteredAs : List ℕ → List ℕ → List ℕ → List ℕ → ℕ → ℕ → List ℕ → Bool → Type 0
EnteredAs text places places' links' many many' name true = IsMet text places many name × (many' ≡ many)
EnteredAs text places places' links' many many' name false = Entered text places places' links' many many' name

-- The tree as it is lent -------------------------------------------------------------------------------------------------------------------------

abbrev pub TreeIn : NameTree → Type 0
TreeIn t = Tree t.text.now t.places.now t.links.now t.many

abbrev pub SpotIn : NameTree → List ℕ → Option ℕ → Type 0
SpotIn t name r = SpotAs t.text.now t.places.now t.links.now t.many name r

abbrev pub EnteredIn : NameTree → NameTree → List ℕ → Bool → Type 0
EnteredIn t u name r = EnteredAs t.text.now t.places.now u.places.now u.links.now t.many u.many name r

-- the text and the cells are those that were lent, and as many
pub record SameNames (t u : NameTree) : Type 0 where
  pub text : u.text ≡ t.text
  pub places : u.places.ghost_name ≡ t.places.ghost_name
  pub links : u.links.ghost_name ≡ t.links.ghost_name
  pub long : length u.places.now ≡ length t.places.now
  pub wide : length u.links.now ≡ length t.links.now
