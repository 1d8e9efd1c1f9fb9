pub mod Gates
pub mod SearchesAgree
pub mod HandleAnswers
pub mod SearchAnswers
pub mod RightmostStart
pub mod CallsAgree
pub mod GateRange
pub mod CallRange
pub mod WalkRange
pub mod AnswerRange
pub mod DefinitionRange
pub mod ManyBits
mod Samples
