-- Lemmas that crates above may use.
pub mod Knowing
pub mod Rows
pub mod Steps
pub mod Classes
-- Lemmas of this crate.
mod Runs
mod Moves
mod Stays
mod Reading
mod Writing
mod Here
mod Excluding
mod Typing
mod Rooting
mod Adding
mod Turning
mod Spotting
