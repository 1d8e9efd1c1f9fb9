pub mod Listing
pub mod Paper
pub mod Steps
