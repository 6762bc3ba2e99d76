pub mod Looks
pub mod Departures
pub mod Faulting
pub mod Cursors
pub mod Descents
