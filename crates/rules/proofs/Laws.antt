-- Laws of the definition: single steps for other proofs to cite, and the theorems that a wrong definition would not pass.
pub mod MakingWalk
pub mod Still
pub mod ReadWalk
pub mod StepWalk
pub mod CaseWalk
pub mod Form
pub mod Appends
pub mod Made
pub mod MadeActions
pub mod Fact
pub mod Footing
pub mod StateRows
pub mod Count
pub mod Below
pub mod BelowRead
pub mod BelowCases
pub mod Bounded
