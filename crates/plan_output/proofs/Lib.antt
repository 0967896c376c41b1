pub mod OutputExamplesHold
pub mod Inputs
pub mod Kept
pub mod Small
pub mod Answers
pub mod Texts
pub mod Outputs
pub mod EqualOutput
