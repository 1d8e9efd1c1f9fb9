pub mod Packed
pub mod Text
pub mod Meaning
