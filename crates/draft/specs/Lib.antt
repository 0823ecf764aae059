pub mod Finished
pub mod Noted
pub mod Numbers
