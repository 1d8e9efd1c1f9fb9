pub mod HeldRange
pub mod HeldHandles
pub mod FirstSought
pub mod SliceWrites
pub mod AnswerCount
