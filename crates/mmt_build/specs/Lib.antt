pub mod Build
pub mod Filling
pub mod Check
pub mod Requirements
pub mod Plan
