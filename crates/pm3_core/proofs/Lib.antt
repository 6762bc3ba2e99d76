pub mod Begins
pub mod Functions
pub mod Kept
pub mod Names
pub mod Stood
mod Counts
mod Effects
mod Listing
