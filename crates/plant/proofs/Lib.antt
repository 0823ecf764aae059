pub mod Limits
pub mod Resolving
pub mod Rows
