pub mod Sides
pub mod Order
pub mod Limits
