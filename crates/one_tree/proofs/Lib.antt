pub mod Single
pub mod Decided
