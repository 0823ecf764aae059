pub mod Following
pub mod Parting
pub mod Placing
pub mod Tracking
