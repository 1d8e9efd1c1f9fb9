pub mod Seek
pub mod WholeListing
