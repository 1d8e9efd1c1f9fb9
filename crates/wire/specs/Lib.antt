pub mod Answer
pub mod Limit
pub mod Bytes
pub mod Decoded
pub mod Places
