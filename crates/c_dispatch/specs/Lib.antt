pub mod Requests
pub mod Bytes
pub mod Reader
