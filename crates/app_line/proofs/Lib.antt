pub mod Line
pub mod Front
