pub mod Sets
pub mod Limits
pub mod Represents
