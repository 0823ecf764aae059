pub mod Bits
pub mod Order
pub mod Tally
pub mod Represent
pub mod Common
