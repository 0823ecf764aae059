pub mod Meaning
pub mod Computed
pub mod Says
pub mod Law
pub mod Written
