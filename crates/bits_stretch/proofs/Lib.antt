pub mod Full
pub mod Steps
pub mod Parts
pub mod Meets
pub mod Covers
pub mod RangeFolds
