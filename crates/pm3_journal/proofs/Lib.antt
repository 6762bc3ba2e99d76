mod Breaking
pub mod Departing
mod Continuing
mod Entering
mod Faulting
mod Gating
mod Locality
mod Mending
mod Noting
mod Picturing
mod Recovering
mod Restarting
mod Scanning
mod Appending
mod Behind
pub mod Emptying
pub mod Examples
mod Imaging
pub mod Listing
mod OneOpening
pub mod Pieces
pub mod Rising
