pub mod Powers
pub mod Gates
pub mod Places
