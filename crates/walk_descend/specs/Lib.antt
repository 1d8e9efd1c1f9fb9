pub mod Descended
