pub mod Raw
pub mod ByAddress
pub mod Numbers
pub mod Held
pub mod Loads
pub mod Lost
pub mod Meeting
pub mod Places
