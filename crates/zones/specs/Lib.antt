pub mod Numbers
pub mod Loan
pub mod Checks
pub mod Change
pub mod Says
pub mod Run
pub mod Lent
