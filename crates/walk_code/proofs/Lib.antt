pub mod Answers
pub mod Starts
