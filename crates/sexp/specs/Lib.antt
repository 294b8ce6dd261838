-- What the contracts of the reader cite, and the laws for its callers (ItemLaws, WalkLaws, ReadLaws, RowLaws,
-- AtomText, FoundLaws, FirstItem, NthItem, Through).
pub mod Lexed
pub mod Tokens
pub mod Encode
pub mod Spelt
pub mod Reads
pub mod Items
pub mod ItemLaws
pub mod WalkLaws
pub mod ReadLaws
pub mod Whole
pub mod Through
pub mod NameRows
pub mod RowLaws
pub mod Never
pub mod AtomText
pub mod FoundLaws
pub mod FirstItem
pub mod NthItem
pub mod TagTable
pub mod Each
