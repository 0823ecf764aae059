pub mod Ending
pub mod Narrowing
pub mod Ordering
pub mod Showing
pub mod Uniqueness
pub mod Writing
pub mod Zones
