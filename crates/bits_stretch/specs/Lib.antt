pub mod Summary
pub mod Scan
