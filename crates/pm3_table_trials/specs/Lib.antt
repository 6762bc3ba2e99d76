pub mod Filled
pub mod Tallies
