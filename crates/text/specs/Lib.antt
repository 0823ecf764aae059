pub mod Words
pub mod Numbers
pub mod Faults
pub mod Reader
pub mod Spelling
pub mod Lines
