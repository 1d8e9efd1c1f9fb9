pub mod Ancestors
pub mod Siblings
