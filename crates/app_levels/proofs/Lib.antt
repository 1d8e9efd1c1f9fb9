pub mod Lines
pub mod Printed
pub mod Outline
pub mod Room
pub mod Sample
