-- Lemmas on tests, lists and entries.
pub mod Testing
pub mod Zips
pub mod Coming
pub mod Holding
pub mod Pieces
pub mod Ranges
pub mod Flattening
-- Lemmas on graphs that differ in names alone.
pub mod ReadAlike
pub mod VisitAlike
pub mod WriteAlike
pub mod OneReading
pub mod OwnReading
pub mod InsertAlike
pub mod NewNames
-- Numbers, and parts that are written out.
mod Counting
mod Deciding
mod DecidingParts
mod TriedIsDesign
-- What stays of a design.
mod KeptObjects
mod NearDesign
mod StaysDesign
mod Swapping
mod Turning
mod Relisting
mod Rebasing
mod Remaking
mod Deleting
-- Composite parts as they are made.
pub mod Drawing
pub mod Chunking
pub mod Circling
pub mod Making
pub mod Naming
mod MadeNames
mod Setting
mod Inserting
mod Insertions
-- What is reached.
mod Closing
mod Linking
mod LinkingChanges
mod Referring
mod ClosedDesigns
-- Builds, rooms and runs.
mod InOrder
mod Assembling
mod Building
mod BuiltClosed
mod Bounding
mod Running
mod LineReading
