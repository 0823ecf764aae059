pub mod Counted
pub mod Followed
