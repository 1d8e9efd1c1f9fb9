pub mod Linear
pub mod Shapes
pub mod Order
