pub mod Shown
pub mod Levels
pub mod Printed
pub mod Outline
