-- Lemmas that crates above may use.
pub mod ZeroBytes
pub mod TypeMaps
pub mod OnePage
pub mod Departing
pub mod Parts
pub mod Addressing
pub mod Books
pub mod Starts
pub mod OneObject
pub mod Writes
pub mod PlaceWrites
pub mod ZeroedWords
pub mod Placings
pub mod FormedObjects
pub mod PlacedForm
pub mod PassRecords
pub mod PassCarried
pub mod PassClosed
pub mod PassLater
pub mod Meeting
-- Lemmas of this crate.
mod Padding
mod Reading
mod Closures
mod Dumping
mod NamesIn
mod TriedImages
mod TriedMoves
