pub mod Tabulate
pub mod Entries
pub mod Passing
pub mod Counts
