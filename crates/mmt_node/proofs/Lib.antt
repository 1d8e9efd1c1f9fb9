pub mod Nodes
pub mod Covered
pub mod Written
