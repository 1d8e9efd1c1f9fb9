pub mod Descends
