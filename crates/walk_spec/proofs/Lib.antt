pub mod Ways
pub mod Steps
pub mod Told
pub mod Stretches
pub mod Built
pub mod Right
pub mod Seen
pub mod Inside
