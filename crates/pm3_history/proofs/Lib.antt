-- Lemmas that crates above may use.
pub mod Histories
pub mod Laying
pub mod Replacing
pub mod Persisting
pub mod Chronicles
pub mod Lasting
pub mod Committing
pub mod PlainCommits
pub mod Recording
pub mod Filing
pub mod Staying
pub mod Holding
pub mod Spacing
pub mod Sparing
pub mod RunNames
pub mod Names
pub mod NamedOn
pub mod Marking
pub mod OwnedBy
pub mod Passing
-- Lemmas of this crate.
mod BookOf
mod Cutting
mod Losing
mod Plainly
mod Reaching
mod Referring
