pub mod Lists
pub mod Handles
pub mod First
pub mod Second
pub mod Third
pub mod Cases
pub mod Uniqueness
pub mod Surplus
