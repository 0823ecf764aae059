pub mod Checks
pub mod Events
pub mod Resolve
pub mod Says
