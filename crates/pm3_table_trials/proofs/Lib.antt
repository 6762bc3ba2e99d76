pub mod Blank
pub mod Nothing
pub mod Started
pub mod Counted
pub mod Settled
